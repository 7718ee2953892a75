-- A node is an occurrence where its names are those of the word, from the last on.
use Rattle.std.proofs.Common.{◌≡◌, ◌∙◌, ℕ, ◌+◌, ◌<◌, Bool, true, false, List, length, take, refl, sym, ap, subst}
use Rattle.std.proofs.lemmas.List.{nil_from_length, take_more}
use Rattle.std.specs.Prelude.{Some, not, slice_index_or}
use Rattle.tmm_model.specs.declared.point.PointName.TheVariants.{Begin}
use Rattle.tmm_model.specs.Moments.{Moment, At, After, along}
use Rattle.belief_theory.proofs.Moments.{along-push}
use Rattle.spots.specs.declared.node_row.NodeRow.{NodeRow}
use Rattle.spots.specs.Forest.{Forest, IsLive, moment_at, IsParent}
use Rattle.spots.specs.Rows.{IsRowOf}
use Rattle.spots.proofs.Nodes.{node_at, live_at}
use Rattle.justify.proofs.Origins.{declared_at, effect_at}

-- a node with a parent is the effect of the rule of its name
pub above : (f : Forest) (x parent : ℕ) (row : NodeRow) → IsRowOf f x row → IsLive f x → row.parent ≡ Some parent → IsLive f parent × (moment_at f x ≡ After (moment_at f parent) row.name)
above f x parent row of live is =
    let (m, here) = node_at f x live in
    let r = of m here in
    let (n, link, there, root, links) = subst (IsParent f m) is r.parent in
    (live_at f parent n there, effect_at f x parent m n link here there root links row.name r.name)

-- a node to which no rule leads is declared under its name
pub declared : (f : Forest) (x : ℕ) (row : NodeRow) → IsRowOf f x row → IsLive f x → row.rules ≡ 0 → moment_at f x ≡ At (Begin row.name)
declared f x row of live none =
    let (m, here) = node_at f x live in
    let r = of m here in
    declared_at f x m here (nil_from_length m.links (sym r.rules ∙ none)) row.name r.name

-- a step further from what the first rules lead to
pub led_one_more : (t u : Moment) (rs : List (List ℕ)) (i : ℕ) (r d : List ℕ) → i < length rs → r ≡ slice_index_or rs i d → u ≡ along t (take i rs) → After u r ≡ along t (take (i + 1) rs)
led_one_more t u rs i r d within is here =
    (λ j. After (here j) (is j))
    ∙ sym (along-push t (take i rs) (slice_index_or rs i d))
    ∙ sym (ap (along t) (take_more rs i d within))

pub not_false : (v : Bool) → not v ≡ false → v ≡ true
not_false true e = refl
not_false false e = sym e
