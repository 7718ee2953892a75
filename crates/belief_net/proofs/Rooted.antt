-- A root that enters, with its rows or marks.
use Rattle.std.proofs.Common.{◌≡◌, ◌≢◌, ◌∙◌, ℕ, Option, Some, None, refl, sym, ap, subst}
use Rattle.std.specs.Prelude.{ℤ, MatchOption}
use Rattle.tmm_model.specs.declared.point.PointName.TheVariants.{Begin}
use Rattle.tmm_model.specs.declared.premise.Premise.{Premise}
use Rattle.tmm_model.specs.Beliefs.{root_of}
use Rattle.tmm_model.specs.Moments.{Moment, base}
use Rattle.tmm_model.specs.Standing.{Standing, name_of}
use Rattle.dist_net.specs.Net.{Net}
use Rattle.spots.specs.Forest.{Member, member, IsLive, moment, IsNoRoot}
use Rattle.spots.specs.OfLists.{IsForestOf, HasList}
use Rattle.spots.proofs.Nodes.{node_at, live_at, base-moment}
use Rattle.spots.specs.Growing.{Adds, AddsRoot}
use Rattle.spots.proofs.Grown.{adds_seen, node_kept, root_name, root_added, root_skipped}
use Rattle.undo_rows.specs.Tables.{AreListed}
use Rattle.occ_tree.specs.Dated.{IsDatedBy}
use Rattle.occ_tree.specs.Edits.{Enters}
use Rattle.occ_tree.specs.Places.{forest}
use Rattle.occ_tree.specs.Standing.{Kept, present, early}
use Rattle.belief_table.specs.declared.state.Beliefs.{Beliefs}
use Rattle.belief_table.specs.declared.state.Decisions.{Decisions}
use Rattle.belief_net.specs.Adding.{FollowsRoot, a_token, an_event, EntersRoot, EntersAs, StayAll}
use Rattle.belief_table.specs.Decided.{table_of, AreUnder}
use Rattle.belief_turns.specs.Turning.{IsFit}
use Rattle.belief_net.proofs.Fitting.{fit_grown, fit_marked, fit_with_rows}

none_some : {X : Type 0} (x : X) → None ≡ Some x → ⊥
none_some x e = cc

-- what becomes of rows leaves nodes and rows fit
pub follows_fit : (s : Standing) (net : Net) (b : Beliefs) (d : Decisions) (x : ℕ) → IsFit s net b → IsLive (forest b.tree) x → FollowsRoot s x b.tree b.decisions d → AreUnder s d
    → IsFit s net (record b { decisions = d })
follows_fit s net b d x fit live (a_token class of marks) under = fit_marked s net b fit d _ marks.rows under marks.marks
follows_fit s net b d x fit live (an_event of adds) under = fit_with_rows s net b fit d _ x live adds under

module _ (s : Standing) (net : Net) (p : Premise) (b : Beliefs) (t : Kept) (fit : IsFit s net b) (unused : IsNoRoot (forest b.tree) (name_of p)) (o : Option ℕ)
    (adds : AddsRoot s net.names p (forest b.tree) (forest t) o) (enters : MatchOption o (t ≡ b.tree) (λ x. (m : Member) × (date : ℤ) × Enters b.tree t x m None date))
    (dated : HasList net (forest t) → IsDatedBy net (present b.tree) → IsDatedBy net (present t)) where
  module _ (x : ℕ) (some : o ≡ Some x) where
    entered : (k : Moment) × (root_of p ≡ Some k) × Adds s net.names (forest b.tree) (forest t) x k
    entered = root_added s net p (forest b.tree) (forest t) x (subst (AddsRoot s net.names p (forest b.tree) (forest t)) some adds)

    how : (m : Member) × (date : ℤ) × Enters b.tree t x m None date
    how = subst (λ z. MatchOption z (t ≡ b.tree) (λ y. (m : Member) × (date : ℤ) × Enters b.tree t y m None date)) some enters

    -- no node is of the root yet
    apart : (y : ℕ) (m : Member) → member (forest b.tree) y ≡ Some m → moment m ≢ entered.0
    apart y m at same =
        let begins : Begin m.root ≡ Begin (name_of p) = sym (base-moment m) ∙ ap base (same ∙ root_name p entered.0 entered.1) in
        let named : m.root ≡ name_of p = cc in
        unused y m at named

    seen : IsForestOf s net (forest t)
    seen = adds_seen s net (forest b.tree) (forest t) x entered.0 entered.2 apart fit.tree.seen

    dates : (y : ℕ) → IsLive (forest b.tree) y → early (present t) y ≡ early (present b.tree) y
    dates y live = how.2.grows.dates y (λ same.
        (let (m, at) = node_at (forest b.tree) y live in none_some m (sym entered.2.enters.free ∙ ap (member (forest b.tree)) (sym same) ∙ at)))

    pub root_fit : IsFit s net (record b { tree = t })
    root_fit = fit_grown s net b fit t (record { seen = seen; dated = dated (s, seen) fit.tree.dated })
        (λ y live. (let (m, at) = node_at (forest b.tree) y live in live_at (forest t) y m (node_kept s net (forest b.tree) (forest t) x entered.0 entered.2 y m at))) dates

    pub root_live : IsLive (forest t) x
    root_live = live_at (forest t) x entered.2.node entered.2.enters.entered

    pub root_enters : (d : Decisions) → AreListed (table_of b.decisions) → FollowsRoot s x t b.decisions d → EntersRoot s net p b (record { tree = t; decisions = d })
    root_enters d listed follows =
        subst (λ z. MatchOption z (StayAll b (record { tree = t; decisions = d })) (λ k. EntersAs s net k b (record { tree = t; decisions = d }))) (sym entered.1)
        (record { number = x; adds = entered.2; was_free = how.2.was_free; dates = dates; listed = listed; follows = follows })

  module _ (none : o ≡ None) where
    same_tree : t ≡ b.tree
    same_tree = subst (λ z. MatchOption z (t ≡ b.tree) (λ y. (m : Member) × (date : ℤ) × Enters b.tree t y m None date)) none enters

    pub skipped_fit : IsFit s net (record b { tree = t })
    skipped_fit = subst (λ (z : Kept). IsFit s net (record b { tree = z })) (sym same_tree) fit

    pub skipped_enters : EntersRoot s net p b (record b { tree = t })
    skipped_enters =
        subst (λ z. MatchOption z (StayAll b (record b { tree = t })) (λ k. EntersAs s net k b (record b { tree = t })))
        (sym (root_skipped s net p (forest b.tree) (forest t) (subst (AddsRoot s net.names p (forest b.tree) (forest t)) none adds)).0) (record { tree = same_tree; decisions = refl })
