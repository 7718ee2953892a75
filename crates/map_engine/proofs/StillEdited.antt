-- An edit that leaves alike what beliefs read touches no node and no class.
use Rattle.std.proofs.Common.{◌≡◌, ◌∙◌, ℕ, List, [], sym, ap, subst, inl, inr}
use Rattle.std.specs.Prelude.{◌≢◌, ◌↔◌, Option, Some, MatchOption}
use Rattle.std.specs.List.{Contains}
use Rattle.tmm_model.specs.declared.point.PointName.{PointName}
use Rattle.tmm_model.specs.declared.point.PointName.TheVariants.{Start, Begin, End}
use Rattle.tmm_model.specs.declared.premise.Edit.{Edit}
use Rattle.tmm_model.specs.declared.token.Shape.{Shape}
use Rattle.tmm_model.specs.declared.token.Shape.TheVariants.{Span}
use Rattle.tmm_model.specs.Beliefs.{roots, is_of}
use Rattle.tmm_model.specs.Maps.{built}
use Rattle.tmm_model.specs.Moments.{At}
use Rattle.tmm_model.specs.Standing.{Standing}
use Rattle.premise_list.specs.States.{States}
use Rattle.dist_net.specs.Net.{Nets}
use Rattle.net_theory.specs.Represents.{IsNumberOf}
use Rattle.spots.specs.Forest.{Forest, Member, member, moment, IsLive, moment_at}
use Rattle.spots.specs.OfLists.{IsForestOf, HasOccurrences}
use Rattle.spots.specs.Spots.{AreTokens}
use Rattle.spots.proofs.Nodes.{node_at, moment_at-is, base-moment}
use Rattle.occ_tree.specs.Places.{forest}
use Rattle.occ_tree.specs.Standing.{Kept, State, present, committed, forest as forest_of}
use Rattle.occ_tree.specs.Touched.{IsAtMoved}
use Rattle.supports.specs.Edited.{IsEdited, AreOthersUntouched}
use Rattle.revisions.specs.StillEdits.{AreElsewhere}
use Rattle.revisions.proofs.Alike.{span_at}
use Rattle.revisions.proofs.StillEdits.{base_root}
use Rattle.belief_table.specs.declared.state.Beliefs.{Beliefs}
use Rattle.belief_net.specs.Updating.{IsKept, IsPending}

module _ (nets : Nets) (k : Kept) (t : Standing) (seen : IsForestOf t nets.present (forest k)) (elsewhere : AreElsewhere t nets.present.names nets.moved) where
  -- no node begins or ends at a point that moved
  never : (x : ℕ) (m : Member) → member (forest k) x ≡ Some m → IsAtMoved nets.moved m → ⊥
  never x m here (inl at) = elsewhere 0 Start at seen.network.start tt
  never x m here (inr (inl at)) =
      let root : Contains (roots t) (At (Begin m.root)) = subst (λ (p : PointName). Contains (roots t) (At p)) (base-moment m) (base_root t (moment m) (seen.members x m here).occurs) in
      elsewhere m.begin (Begin m.root) at (seen.members x m here).begin root
  never x m here (inr (inr (e, is, at))) =
      let ends : (m.shape ≡ Span) × IsNumberOf nets.present.names e (End m.root) =
      subst (λ (o : Option ℕ). MatchOption o (m.shape ≢ Span) (λ e. (m.shape ≡ Span) × IsNumberOf nets.present.names e (End m.root))) is (seen.members x m here).end in
      let span : is_of t (moment m) ≡ Some (Span, m.what) = (seen.members x m here).is ∙ ap (λ (s : Shape). Some (s, m.what)) ends.0 in
      elsewhere e (End m.root) at ends.1 (m.what, span_at t (moment m) m.root m.what (base-moment m) span)

  -- no class is touched
  pub none_touched : committed k ≡ present k → AreOthersUntouched nets k []
  none_touched same = λ class out. record {
    tokens = ap (λ (s : State). s.tokens class) (sym same);
    unmoved = λ x m here of_class at. never x m here at;
  }

-- the nodes of both lists are the same
pub still_edited : (lists : States) (nets : Nets) (edit : Edit) (erased : List (List ℕ)) (b : Beliefs) → IsKept lists.committed nets.committed b → IsPending lists nets edit erased
    → IsForestOf lists.present nets.present (forest b.tree) → HasOccurrences (built lists.present).believed (forest b.tree)
    → ((class : List ℕ) → AreTokens (forest_of (present b.tree)) class ((present b.tree).tokens class))
    → IsEdited lists nets edit b.tree
still_edited lists nets edit erased b kept pending seen holds tokens = record {
  list = pending.list;
  points = pending.numbers;
  seen_then = subst (λ (s : State). IsForestOf lists.committed nets.committed (forest_of s)) (sym kept.tree) kept.fit.tree.seen;
  holds_then = subst (λ (s : State). HasOccurrences (built lists.committed).believed (forest_of s)) (sym kept.tree) kept.current.holds;
  tokens_then = λ class. subst (λ (s : State). AreTokens (forest_of s) class (s.tokens class)) (sym kept.tree) (tokens class);
  seen_now = seen;
  holds_now = holds;
  numbers = subst AreSame (sym kept.tree) same;
}
  where
    g : Forest
    g = forest b.tree

    AreSame : State → Type 0
    AreSame s = (x y : ℕ) → IsLive (forest_of s) x → IsLive g y → (moment_at (forest_of s) x ≡ moment_at g y) ↔ (x ≡ y)

    same : (x y : ℕ) → IsLive g x → IsLive g y → (moment_at g x ≡ moment_at g y) ↔ (x ≡ y)
    same x y live_x live_y =
        let (m, here) = node_at g x live_x in
        let (n, there) = node_at g y live_y in
        ((λ e. seen.once x y m n here there (sym (moment_at-is g x m here) ∙ e ∙ moment_at-is g y n there)), (λ e. ap (moment_at g) e))
