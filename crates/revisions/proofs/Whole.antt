-- A whole revision is right.
use Rattle.std.proofs.Common.{◌≡◌, ℕ, Bool, true, false, ◌==◌, List, [], ◌∷◌, refl, sym, subst, inl, inr}
use Rattle.std.proofs.lemmas.Bool.{cases_Bool}
use Rattle.std.specs.Prelude.{◌↔◌, ◌⊎◌, ℤ, negsuc}
use Rattle.std.specs.List.{Contains, list_any, list_all}
use Rattle.std.specs.Cmp.Lexicographic.{bytes_decides}
use Rattle.tmm_model.specs.declared.premise.Edit.{Edit}
use Rattle.tmm_model.specs.Answers.{weight}
use Rattle.tmm_model.specs.Beliefs.{roots, rules_at}
use Rattle.tmm_model.specs.Edits.{next_list}
use Rattle.tmm_model.specs.Maps.{TimeMap, built}
use Rattle.tmm_model.specs.Moments.{Moment, At, After, read_by, rule_of, same_moment}
use Rattle.tmm_model.specs.Points.{same_name}
use Rattle.list_theory.specs.WellNamed.{IsSound}
use Rattle.belief_theory.specs.Right.{Occurs}
use Rattle.tmm_model.specs.Standing.{Standing}
use Rattle.belief_theory.specs.Touched.{same_rivals, same_tokens, watched, watched_points, same_gaps, is_decision, is_touched}
use Rattle.list_theory.proofs.Distinct.{Distinct, sum_inside}
use Rattle.list_theory.proofs.Elements.{In, In-from_Contains, Contains-from_In, list_any-In, In-list_any}
use Rattle.belief_theory.proofs.Moments.{Decides-same_moment}
use Rattle.belief_theory.proofs.SoundBeliefs.{believed_occurs}
use Rattle.spots.specs.OfLists.{map_of}
use Rattle.revisions.specs.Counted.{AreSeeds}
use Rattle.revisions.specs.Revisions.{Revision, IsLawful, IsNew, IsLost}
use Rattle.revisions.specs.Keeping.{IsKeeping, IsTold}
use Rattle.revisions.specs.Steps.{Turns, staying, entering, withdrawing}
use Rattle.revisions.specs.Seeds.{IsSeeded}
use Rattle.revisions.specs.Maps.{revision}
use Rattle.revisions.specs.Whole.{State, Waiting, Tells, nothing, an_entry, a_leave, IsTurn, Reaches, there, further, Begins, Ends, Runs}
use Rattle.revisions.proofs.Agreeing.{ended}
use Rattle.revisions.proofs.Bounds.{counted}
use Rattle.revisions.proofs.Lawful.{first_touches, lawful, of_occurs, occurs_of}
use Rattle.revisions.proofs.Seeding.{seeded}
use Rattle.revisions.proofs.SeedsRight.{keeps, stays_touched}
use Rattle.revisions.proofs.Telling.{told_stays, told_enters, told_withdraws, told_all}
use Rattle.revisions.proofs.Turning.{turned}

-- a member, or none
contains_moment : (xs : List Moment) (x : Moment) → Contains xs x ⊎ (Contains xs x → ⊥)
contains_moment xs x = by (list_any (same_moment x) xs) refl
  where
    by : (v : Bool) → list_any (same_moment x) xs ≡ v → Contains xs x ⊎ (Contains xs x → ⊥)
    by true e = let (y, at, same) = list_any-In (same_moment x) xs e in inl (Contains-from_In xs x (subst (λ z. In z xs) (sym ((Decides-same_moment x y).0 same)) at))
    by false e = inr (λ at. let f : list_any (same_moment x) xs ≡ true = In-list_any (same_moment x) xs x (In-from_Contains xs x at) ((Decides-same_moment x x).1 refl) in cc)

contains_name : (xs : List (List ℕ)) (x : List ℕ) → Contains xs x ⊎ (Contains xs x → ⊥)
contains_name xs x = by (list_any (same_name x) xs) refl
  where
    by : (v : Bool) → list_any (same_name x) xs ≡ v → Contains xs x ⊎ (Contains xs x → ⊥)
    by true e = let (y, at, same) = list_any-In (same_name x) xs e in inl (Contains-from_In xs x (subst (λ z. In z xs) (sym ((bytes_decides x y).0 same)) at))
    by false e = inr (λ at. let f : list_any (same_name x) xs ≡ true = In-list_any (same_name x) xs x (In-from_Contains xs x at) ((bytes_decides x x).1 refl) in cc)

both_or : {A B : Type 0} → A ⊎ (A → ⊥) → B ⊎ (B → ⊥) → (A × B) ⊎ (A × B → ⊥)
both_or (inl a) (inl b) = inl (a, b)
both_or (inl a) (inr none) = inr (λ h. none h.1)
both_or (inr none) b = inr (λ h. none h.0)

-- an occurrence, or none
occurs_or : (s : Standing) (x : Moment) → Occurs s x ⊎ (Occurs s x → ⊥)
occurs_or s (At p) = contains_moment (roots s) (At p)
occurs_or s (After u q) = both_or (occurs_or s u) (contains_name (rules_at s u) q)

module _ (g : Revision) (laws : IsLawful g) where
  -- what a state keeps
  pub record Keeps (s : State) : Type 0 where
    pub date : ℤ
    pub keeping : IsKeeping g s.nodes s.kept (Waiting s) s.taken date
    pub told : IsTold g s.nodes s.entered s.left

  turn_of : (old new : State) (t : Moment) (r : List ℕ) → Tells g old new t r → Turns g old.nodes new.nodes old.kept new.kept (Waiting new) t r
  turn_of old new t r (nothing h _ _) = staying h
  turn_of old new t r (an_entry h _ _) = entering h
  turn_of old new t r (a_leave _ h _ _ _) = withdrawing h

  keeps_turn : (old new : State) → IsTurn g old new → Keeps old → Keeps new
  keeps_turn old new turn k = record {
    date = g.early turn.event;
    keeping = subst (λ made. IsKeeping g new.nodes new.kept (Waiting new) made (g.early turn.event)) (sym turn.taken)
        (turned g laws old.nodes old.kept (Waiting old) old.taken k.date k.keeping turn.event turn.rule turn.first new.nodes new.kept (Waiting new) turn.makes (turn_of old new turn.event turn.rule turn.tells));
    told = tell turn.tells;
  }
    where
      tell : Tells g old new turn.event turn.rule → IsTold g new.nodes new.entered new.left
      tell (nothing h ins outs) =
          subst (λ a. IsTold g new.nodes a new.left) (sym ins) (subst (λ z. IsTold g new.nodes old.entered z) (sym outs)
          (told_stays g laws old.nodes old.kept (Waiting old) old.taken k.date k.keeping turn.event turn.rule turn.first new.nodes old.entered old.left k.told h))
      tell (an_entry h ins outs) =
          subst (λ a. IsTold g new.nodes a new.left) (sym ins) (subst (λ z. IsTold g new.nodes (After turn.event turn.rule ∷ old.entered) z) (sym outs)
          (told_enters g laws old.nodes old.kept (Waiting old) old.taken k.date k.keeping turn.event turn.rule turn.first new.nodes old.entered old.left k.told new.kept (Waiting new) h))
      tell (a_leave out h goes ins outs) =
          subst (λ a. IsTold g new.nodes a new.left) (sym ins) (subst (λ z. IsTold g new.nodes old.entered z) (sym outs)
          (told_withdraws g laws old.nodes old.kept (Waiting old) old.taken k.date k.keeping turn.event turn.rule turn.first new.nodes old.entered old.left k.told out h goes))

  keeps_all : (first last : State) → Reaches g first last → Keeps first → Keeps last
  keeps_all first last there k = k
  keeps_all first last (further mid _ before turn) k = keeps_turn mid last turn (keeps_all first mid before k)

module _ (old : Standing) (edit : Edit) (sound_old : IsSound old) (sound_new : IsSound (next_list old edit)) where
  abbrev new : Standing
  new = next_list old edit

  abbrev g : Revision
  g = revision (built old) (built (next_list old edit))

  laws : IsLawful g
  laws = lawful old edit sound_old sound_new

  -- what is told at the beginning: that all derived occurrences left that occur no longer
  pub told_first : (b left : List Moment) → AreSeeds old (next_list old edit) b
      → ((t : Moment) (r : List ℕ) → In (After t r) left ↔ (Contains (built old).believed (After t r) × (Occurs (next_list old edit) (After t r) → ⊥)))
      → ((x : Moment) → In x left → (t : Moment) × (r : List ℕ) × (x ≡ After t r)) → Distinct left
      → IsTold (revision (built old) (built (next_list old edit))) b [] left
  told_first b left seeds gone derived once = record {
    new = λ x at. absurd at;
    lost = lost_of;
    entered = λ t r at. inl ((seeds.derived t r).0 at).0;
    left = λ t r before. elim (occurs_or new (After t r)) [ inl of ↦ inl ((seeds.derived t r).1 (before, of)) | inr not_of ↦ inr ((gone t r).1 (before, not_of)) ];
    live = λ x at. absurd at;
    gone = not_live;
    once_entered = tt;
    once_left = once;
  }
    where
      lost_of : (x : Moment) → In x left → IsLost g x
      lost_of x at =
          let (t, r, is) = derived x at in
          let h = (gone t r).0 (subst (λ z. In z left) is at) in
          subst (IsLost g) (sym is) (record { before = h.0; not_now = λ now. h.1 (believed_occurs new sound_new (After t r) now) })

      not_live : (x : Moment) → In x left → Contains b x → ⊥
      not_live x at live =
          let (t, r, is) = derived x at in
          ((gone t r).0 (subst (λ z. In z left) is at)).1 ((seeds.derived t r).0 (subst (Contains b) is live)).1

  module _ (s : State) (begins : Begins old (next_list old edit) s) where
    new_touched : (n : TimeMap) (t : Moment) (r : List ℕ) → is_decision (built old) (t, r) ≡ false → is_touched (built old) n (t, r) ≡ true
    new_touched n t r e =
        first_touches (is_decision (built old) (t, r)) (old.horizon == n.list.horizon) (list_all (same_rivals old n.list) (read_by (rule_of n.list r)))
        (same_tokens (watched (built old) r) (watched n r)) (same_gaps (built old) n (watched_points n t r)) e

    is_seeded : IsSeeded g s.nodes s.kept (Waiting s)
    is_seeded = record {
      root = begins.seeds.root;
      derived = λ t r. (
        (λ at. let h = (begins.seeds.derived t r).0 at in (h.0, occurs_of old edit sound_old sound_new (After t r) h.1)),
        (λ h. (begins.seeds.derived t r).1 (h.0, of_occurs old edit sound_old sound_new (After t r) h.1)),
      );
      old_rows = begins.old_rows;
      new_rows = λ t r at stands e. (begins.all t r at stands (new_touched (map_of new s.nodes) t r e), begins.new_rows t r at stands e);
      right = λ t r at stands was. elim (cases_Bool (is_touched (built old) (map_of new s.nodes) (t, r))) [
        | inl touches ↦ inl (begins.all t r at stands touches)
        | inr free ↦ inr (keeps old edit sound_old sound_new s.nodes begins.seeds t r stands free)
      ];
      waits = λ t r at. let h = begins.only t r at in (h.0, h.1);
      touched = λ t r at believed. let h = begins.only t r at in elim h.2 [ inl first ↦ stays_touched old edit sound_old sound_new s.nodes begins.seeds t r h.1 first | inr last ↦ last ];
    }

    first_keeps : Keeps g laws s
    first_keeps = record {
      date = negsuc 0;
      keeping = subst (λ made. IsKeeping g s.nodes s.kept (Waiting s) made (negsuc 0)) (sym begins.none_taken) (seeded g laws s.nodes s.kept (Waiting s) is_seeded);
      told = subst (λ ins. IsTold g s.nodes ins s.left) (sym begins.none_entered) (told_first s.nodes s.left begins.seeds begins.gone begins.gone_derived begins.gone_once);
    }

    module _ (last : State) (reaches : Reaches g s last) where
      k : Keeps g laws last
      k = keeps_all g laws s last reaches first_keeps

      pub runs : Runs old (next_list old edit) last
      runs = record {
        at_most = (counted old edit sound_old sound_new last.nodes last.kept last.queue last.taken k.date k.keeping).0;
        small = sum_inside (weight (built new)) last.entered (built new).believed k.told.once_entered (λ x at. In-from_Contains (built new).believed x (k.told.new x at).now);
      }

      pub ends : last.queue ≡ [] → Ends old (next_list old edit) last
      ends empty = record {
        believed = end.0;
        rows = end.1;
        entered = λ t r. ((λ at. let n = (told.0 t r).0 at in (n.now, n.not_before)), (λ h. (told.0 t r).1 (record { now = h.0; not_before = h.1 })));
        left = λ t r. ((λ at. let l = (told.1 t r).0 at in (l.before, l.not_now)), (λ h. (told.1 t r).1 (record { before = h.0; not_now = h.1 })));
        entered_once = k.told.once_entered;
        left_once = k.told.once_left;
        at_least = (counted old edit sound_old sound_new last.nodes last.kept last.queue last.taken k.date k.keeping).1 empty;
      }
        where
          none : (t : Moment) (r : List ℕ) → Waiting last t r → ⊥
          none t r at = subst (In (t, r)) empty at

          end : ((x : Moment) → Contains last.nodes x ↔ Contains g.believed x) × ((t : Moment) (r : List ℕ) → Contains last.nodes t → Contains (g.rules t) r → last.kept t r ≡ g.outcome g.believed t r)
          end = ended g laws last.nodes last.kept (Waiting last) last.taken k.date k.keeping none

          told : ((t : Moment) (r : List ℕ) → In (After t r) last.entered ↔ IsNew g (After t r)) × ((t : Moment) (r : List ℕ) → In (After t r) last.left ↔ IsLost g (After t r))
          told = told_all g laws last.nodes last.kept (Waiting last) last.taken k.date k.keeping none last.entered last.left k.told

pub revisions_right : (old : Standing) (edit : Edit) → IsSound old → IsSound (next_list old edit)
    → (first last : State) → Begins old (next_list old edit) first
    → Reaches (revision (built old) (built (next_list old edit))) first last
    → Runs old (next_list old edit) last × (last.queue ≡ [] → Ends old (next_list old edit) last)
revisions_right old edit sound_old sound_new first last begins reaches = (runs old edit sound_old sound_new first begins last reaches, ends old edit sound_old sound_new first begins last reaches)
