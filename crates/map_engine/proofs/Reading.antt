-- What is kept of nodes is that of a list's map, and stays so where the same is believed.
use Rattle.std.proofs.Common.{◌≡◌, ◌∙◌, ℕ, ◌+◌, List, [], ◌∷◌, length, refl, sym, ap, subst}
use Rattle.std.specs.Prelude.{Option, Some, None, sum_by}
use Rattle.std.specs.List.{Contains}
use Rattle.std.specs.Option.{option_map_or}
use Rattle.tmm_model.specs.declared.token.Shape.{Shape}
use Rattle.tmm_model.specs.declared.token.Shape.TheVariants.{Event, Persistence, Span}
use Rattle.tmm_model.specs.Answers.{row, weight, size}
use Rattle.tmm_model.specs.Beliefs.{is_of, roots, rules_for}
use Rattle.tmm_model.specs.Maps.{built}
use Rattle.tmm_model.specs.Moments.{Moment, At, After, rules}
use Rattle.tmm_model.specs.Standing.{Standing}
use Rattle.walk_theory.proofs.Members.{Contains-cons_first}
use Rattle.list_theory.proofs.Elements.{In-from_Contains}
use Rattle.belief_theory.specs.Right.{Occurs}
use Rattle.dist_net.specs.Net.{Net}
use Rattle.spots.specs.Forest.{Forest, Member, member, moment, moment_at}
use Rattle.spots.specs.OfLists.{IsForestOf, HasOccurrences}
use Rattle.spots.proofs.Nodes.{node_at, moment_at-is}
use Rattle.belief_list.specs.declared.kept_rows.KeptRow.{KeptRow}
use Rattle.belief_list.specs.KeptRows.{AreRowsOf, row_under}
use Rattle.revisions.specs.Alike.{AreAlike, BelieveAlike}
use Rattle.revisions.proofs.Alike.{alike_believe}

-- ---- lists that are alike

module _ (s t : Standing) (alike : AreAlike s t) where
  rules_for_same : (o : Option (Shape × List ℕ)) → rules_for s o ≡ rules_for t o
  rules_for_same None = refl
  rules_for_same (Some (Event, kind)) = alike.say.on kind
  rules_for_same (Some (Persistence, fact)) = refl
  rules_for_same (Some (Span, fact)) = refl

  weight_same : (k : Moment) → weight (built s) k ≡ weight (built t) k
  weight_same k = ap (λ (rs : List (List ℕ)). 1 + length (rules k) + length rs) (ap (rules_for s) (alike.say.is k) ∙ rules_for_same (is_of t k))

  row_same : (k : Moment) → Contains (built s).believed k → row (built s) k ≡ row (built t) k
  row_same k at = let same : BelieveAlike s t = (alike_believe s t alike).0 in λ i. record {
    date = same.dates k at i;
    occ = k;
    what = option_map_or (λ (y : Shape × List ℕ). y.1) (alike.say.is k i) [];
    clip = same.clips k at i;
  }

  -- the rows of the nodes stay
  pub rows_still : (f : Forest) (rows : ℕ → Option KeptRow) → HasOccurrences (built s).believed f → AreRowsOf s f rows → AreRowsOf t f rows
  rows_still f rows holds are = record {
    own = λ x live.
        let (r, at, is) = are.own x live in
        let (m, here) = node_at f x live in
        let believed : Contains (built s).believed (moment_at f x) = subst (Contains (built s).believed) (sym (moment_at-is f x m here)) (holds.own x m here) in
        (r, at, record { told = is.told ∙ row_same (moment_at f x) believed; clip = is.clip; weight = is.weight ∙ weight_same (moment_at f x) });
    none = are.none;
  }

-- ---- a list in which nothing is declared to occur

nothing_occurs : (s : Standing) → roots s ≡ [] → (k : Moment) → Occurs s k → ⊥
nothing_occurs s none (At p) at = absurd (In-from_Contains [] (At p) (subst (λ (l : List Moment). Contains l (At p)) none at))
nothing_occurs s none (After t r) at = nothing_occurs s none t at.0

-- has no node
pub no_nodes : (s : Standing) (net : Net) (f : Forest) → IsForestOf s net f → roots s ≡ [] → (x : ℕ) → member f x ≡ None
no_nodes s net f seen none x = by (member f x) refl
  where
    by : (o : Option Member) → member f x ≡ o → o ≡ None
    by None here = refl
    by (Some m) here = absurd (nothing_occurs s none (moment m) (seen.members x m here).occurs)

-- where there is no node, no row is kept
pub no_rows : (s : Standing) (f : Forest) (rows : List (Option KeptRow)) → ((x : ℕ) → member f x ≡ None) → rows ≡ [] → AreRowsOf s f (row_under rows)
no_rows s f rows none empty =
    subst (λ (l : List (Option KeptRow)). AreRowsOf s f (row_under l)) (sym empty)
    (record {
      own = λ x live. (let (m, here) = node_at f x live in let never : None ≡ Some m = sym (none x) ∙ here in absurd (cc));
      none = λ x gone. refl;
    })

-- and nothing is believed
none_believed : (b : List Moment) (f : Forest) → HasOccurrences b f → ((x : ℕ) → member f x ≡ None) → b ≡ []
none_believed [] f holds none = refl
none_believed (k ∷ b) f holds none = let (x, m, here, is) = holds.all k (Contains-cons_first k b) in let never : None ≡ Some m = sym (none x) ∙ here in absurd (cc)

-- so the map has no size
pub no_size : (s : Standing) (f : Forest) → HasOccurrences (built s).believed f → ((x : ℕ) → member f x ≡ None) → size (built s) ≡ 0
no_size s f holds none = ap (sum_by (weight (built s))) (none_believed (built s).believed f holds none)

-- ---- rows that are the same
