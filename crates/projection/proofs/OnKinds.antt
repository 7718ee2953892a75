-- How many rules stand on a kind, and what an occurrence at a node counts.
use Rattle.std.proofs.Common.{◌≡◌, ◌∙◌, ℕ, suc, ◌+◌, ◌≤◌, List, [], ◌∷◌, ◌++◌, take, length, sym, ap, arith}
use Rattle.std.specs.Prelude.{Option, Some, None, slice_get}
use Rattle.std.specs.List.{filter_map, cons_option}
use Rattle.std.proofs.lemmas.List.{length-map}
use Rattle.std.proofs.lemmas.List.Elements.{filter_map-append}
use Rattle.tmm_model.specs.declared.premise.Premise.{Premise}
use Rattle.tmm_model.specs.Beliefs.{on_kind, rules_at}
use Rattle.tmm_model.specs.Moments.{rules}
use Rattle.tmm_model.specs.Standing.{Standing}
use Rattle.spots.specs.Forest.{Forest, Member, member, moment, moment_at}
use Rattle.spots.proofs.Nodes.{moment_at-is, rules-moment}
use Rattle.spots.proofs.Grown.{taken}
use Rattle.projection.specs.Queues.{weight_at}

pub length-filter_map-le : {X Y : Type 0} (h : X → Option Y) (xs : List X) → length (filter_map h xs) ≤ length xs
length-filter_map-le h [] = omega arith
length-filter_map-le h (x ∷ xs) = by (h x) (length-filter_map-le h xs)
  where
    by : (o : Option _) → length (filter_map h xs) ≤ length xs → length (cons_option o (filter_map h xs)) ≤ length (x ∷ xs)
    by None le = omega arith
    by (Some y) le = omega arith

-- the rules on a kind, one premise after the other
pub next_rules : (kind : List ℕ) (premises : List Premise) (i : ℕ) (p : Premise) → slice_get premises i ≡ Some p
    → filter_map (on_kind kind) (take (i + 1) premises) ≡ filter_map (on_kind kind) (take i premises) ++ filter_map (on_kind kind) (p ∷ [])
next_rules kind premises i p at =
    let e : i + 1 ≡ suc i = omega arith in
    ap (λ n. filter_map (on_kind kind) (take n premises)) e ∙ ap (filter_map (on_kind kind)) (taken premises i p at) ∙ filter_map-append (on_kind kind) (take i premises) (p ∷ [])

-- ---- sizes

pub node_rules : (m : Member) → length (rules (moment m)) ≡ length m.links
node_rules m = ap length (rules-moment m) ∙ length-map m.links (λ l. l.rule)

pub node_weight : (s : Standing) (f : Forest) (x : ℕ) (m : Member) → member f x ≡ Some m → 1 + length m.links + length (rules_at s (moment_at f x)) ≡ weight_at s f x
node_weight s f x m at = ap (λ n. 1 + n + length (rules_at s (moment_at f x))) (sym (node_rules m) ∙ ap (λ k. length (rules k)) (sym (moment_at-is f x m at)))
