-- What an update tells, beside the numbers that the roots of erased names had, is what the edit
-- made of the list.
use Rattle.std.proofs.Common.{◌≡◌, ◌∙◌, ℕ, List, map, refl, sym, ap, subst}
use Rattle.std.specs.Prelude.{Option, Some, None, IsSome, IsNone, filter}
use Rattle.std.specs.Option.{is_none}
use Rattle.tmm_model.specs.declared.point.PointName.TheVariants.{Begin}
use Rattle.tmm_model.specs.declared.premise.Edit.{Edit}
use Rattle.tmm_model.specs.Maps.{built}
use Rattle.tmm_model.specs.Moments.{At}
use Rattle.tmm_model.specs.Standing.{Standing, name_of, premise_in}
use Rattle.list_theory.proofs.Elements.{In, map-In, filter-In}
use Rattle.list_theory.proofs.KnownNames.{finds}
use Rattle.premise_list.specs.States.{States}
use Rattle.dist_net.specs.Net.{Nets}
use Rattle.spots.specs.Forest.{IsLive, moment_at}
use Rattle.spots.specs.OfLists.{IsForestOf, HasOccurrences}
use Rattle.occ_tree.specs.Places.{forest}
use Rattle.occ_tree.specs.Standing.{State, present, committed, forest as forest_of}
use Rattle.belief_table.specs.declared.state.Beliefs.{Beliefs}
use Rattle.belief_turns.specs.declared.told.Told.{Told}
use Rattle.belief_table.specs.LastCommit.{KeepLast}
use Rattle.belief_turns.specs.Numbered.{KeepsNumbers, SparesRoots, left_under}
use Rattle.belief_net.specs.Updating.{IsKept, IsPending, IsUpdated}
use Rattle.map_engine.specs.Touching.{HasNodeOf, IsToldOf}

none_is : {X : Type 0} (o : Option X) → IsNone o → o ≡ None
none_is None h = refl
none_is (Some x) h = cc

some_is : {X : Type 0} (o : Option X) → IsSome o → (x : X) × (o ≡ Some x)
some_is None h = cc
some_is (Some x) h = (x, refl)

-- a name that stood and stands no more is left out
is_left_out : (old new : Standing) (erased : List (List ℕ)) → erased ≡ filter (λ name. is_none (premise_in new.premises name)) (map name_of old.premises)
    → (name : List ℕ) → IsSome (premise_in old.premises name) → IsNone (premise_in new.premises name) → In name erased
is_left_out old new erased out name was gone =
    let (p, at) = some_is (premise_in old.premises name) was in
    let (there, named) = finds old.premises name p at in
    let among : In name (map name_of old.premises) = subst (λ n. In n (map name_of old.premises)) named (map-In name_of old.premises p there) in
    subst (In name) (sym out) (filter-In (λ n. is_none (premise_in new.premises n)) (map name_of old.premises) name among (ap is_none (none_is (premise_in new.premises name) gone)))

pub told_of : (lists : States) (nets : Nets) (edit : Edit) (erased : List (List ℕ)) (b b_after : Beliefs) (before count : ℕ) (told : Told) (gone : List ℕ)
    → IsKept lists.committed nets.committed b → IsPending lists nets edit erased → KeepLast b b_after
    → IsUpdated lists nets b_after before count told → KeepsNumbers b_after.tree (left_under told.left.items) → SparesRoots lists.present b_after.tree
    → ((name : List ℕ) → In name erased → HasNodeOf (forest b.tree) (At (Begin name)) gone)
    → IsToldOf lists nets edit b_after.tree told gone
told_of lists nets edit erased b b_after before count told gone kept pending last updated numbers spares named = record {
  edited = λ tokens. record {
    list = pending.list;
    points = pending.numbers;
    seen_then = subst (λ (s : State). IsForestOf lists.committed nets.committed (forest_of s)) same kept.fit.tree.seen;
    holds_then = subst (λ (s : State). HasOccurrences (built lists.committed).believed (forest_of s)) same kept.current.holds;
    tokens_then = tokens;
    seen_now = updated.rests.fit.tree.seen;
    holds_now = updated.current.holds;
    numbers = numbers.same;
  };
  tells = updated.tells;
  numbers = numbers;
  roots = spares;
  erased = λ name was out x live is.
      named name (is_left_out lists.committed lists.present erased pending.left_out name was out) x
      (subst (λ (s : State). IsLive (forest_of s) x) (sym same) live)
      (ap (λ (s : State). moment_at (forest_of s) x) same ∙ is);
}
  where
    same : present b.tree ≡ committed b_after.tree
    same = sym (last.tree ∙ kept.tree)
