-- A row reads a node exactly where it is on a list of the node's class, or its rule reads what
-- contradicts the node's fact.
use Rattle.std.proofs.Common.{◌≡◌, ◌∙◌, ℕ, zero, suc, ◌+◌, ◌<◌, Bool, true, false, ◌||◌, List, [], ◌∷◌, map, refl, sym, ap, subst, inl, inr, ◌⊎◌, arith}
use Rattle.std.proofs.lemmas.Option.{slice_get_within}
use Rattle.std.specs.Prelude.{◌↔◌, Option, Some, None, cond, slice_get, slice_index_or}
use Rattle.std.specs.Option.{option_map_or}
use Rattle.std.specs.Cmp.Lexicographic.{bytes_decides}
use Rattle.tmm_model.specs.Beliefs.{class_of}
use Rattle.tmm_model.specs.Moments.{read_by, rule_of}
use Rattle.tmm_model.specs.Points.{same_name}
use Rattle.tmm_model.specs.Standing.{Standing}
use Rattle.list_theory.proofs.Elements.{In, In-map, map-In, list_any-In, In-list_any}
use Rattle.belief_theory.proofs.Rivals.{or_cases, or_left, or_right}
use Rattle.spots.specs.Forest.{moment}
use Rattle.spots.proofs.Grown.{stands}
use Rattle.revisions.specs.Maps.{watches}
use Rattle.row_links.specs.Lists.{IsOn}
use Rattle.undo_rows.specs.declared.row.Row.{Row as TableRow}
use Rattle.undo_rows.specs.Changes.{Logged, present}
use Rattle.undo_rows.specs.Tables.{AreListed, head_of, live}
use Rattle.decision_rows.specs.Decisions.{classes_in, heads_of}
use Rattle.decision_rows.specs.declared.row.Pair.{Pair}
use Rattle.joined.specs.Gaps.{reads_class, reads_rival}
use Rattle.joined.specs.Listed.{AreNumbered, IsUnderClasses, IsListedUnder, ReadersAreListed}
use Rattle.joined.proofs.Starting.{reads_by_class}

-- ---- places of a list

place_of : (xs : List ℕ) (x : ℕ) → In x xs → (i : ℕ) × (slice_get xs i ≡ Some x)
place_of [] x at = absurd at
place_of (y ∷ ys) x (inl e) = (0, ap Some e)
place_of (y ∷ ys) x (inr at) = let (i, e) = place_of ys x at in (suc i, e)

-- ---- heads of a row

-- the head in the family of a fact is the class there
head_is : (trigger rule : ℕ) (classes : List ℕ) (a : ℕ) → a < 6 → slice_index_or (heads_of trigger rule (classes_in classes)) (a + 2) None ≡ slice_get classes a
head_is trigger rule classes zero lt = refl
head_is trigger rule classes (suc zero) lt = refl
head_is trigger rule classes (suc (suc zero)) lt = refl
head_is trigger rule classes (suc (suc (suc zero))) lt = refl
head_is trigger rule classes (suc (suc (suc (suc zero)))) lt = refl
head_is trigger rule classes (suc (suc (suc (suc (suc zero))))) lt = refl
head_is trigger rule classes (suc (suc (suc (suc (suc (suc a)))))) lt = absurd (omega (arith, lt))

-- a row of a table as it is was not removed
live_once : (o : Option (TableRow Pair 8)) (r : TableRow Pair 8) → live o ≡ Some r → live (Some r) ≡ Some r
live_once None r e = cc
live_once (Some q) r e = by q.gone refl
  where
    by : (v : Bool) → q.gone ≡ v → live (Some r) ≡ Some r
    by true gone = let f : None ≡ Some r = sym (ap (λ v. cond v None (Some q)) gone) ∙ e in cc
    by false there =
        let f : Some q ≡ Some r = sym (ap (λ v. cond v None (Some q)) there) ∙ e in
        let one : q ≡ r = cc in
        ap (λ v. cond v None (Some r)) (sym (ap (λ (z : TableRow Pair 8). z.gone) one) ∙ there)

-- a row is on a list exactly where that is of its head
on_list : (rows : Logged Pair 8) (i family h : ℕ) (r : TableRow Pair 8) → AreListed (present rows) → (present rows).row i ≡ Some r
    → IsOn ((present rows).list family h) i ↔ (head_of r family ≡ Some h)
on_list rows i family h r listed here = (
  λ on.
      let (q, is_q, head) = (listed.each i family h).0 on in
      let both : Some q ≡ Some r = sym is_q ∙ still in
      let one : q ≡ r = cc in
      subst (λ (z : TableRow Pair 8). head_of z family ≡ Some h) one head,
  λ head. (listed.each i family h).1 (r, still, head),
)
  where
    still : live ((present rows).row i) ≡ Some r
    still = ap live here ∙ live_once (slice_index_or rows.rows i None) r here

pub pairs_listed : (rows : Logged Pair 8) (i h : ℕ) (r : TableRow Pair 8) (classes : List (Option ℕ))
    → AreListed (present rows) → (present rows).row i ≡ Some r → r.heads ≡ heads_of r.value.trigger r.value.rule classes
    → (IsOn ((present rows).list 0 h) i ↔ (r.value.trigger ≡ h)) × (IsOn ((present rows).list 1 h) i ↔ (r.value.rule ≡ h))
pairs_listed rows i h r classes listed here heads = (
  ((λ on. as_number (sym first ∙ (on_list rows i 0 h r listed here).0 on)), λ is. (on_list rows i 0 h r listed here).1 (first ∙ ap Some is)),
  ((λ on. as_number (sym second ∙ (on_list rows i 1 h r listed here).0 on)), λ is. (on_list rows i 1 h r listed here).1 (second ∙ ap Some is)),
)
  where
    as_number : {a b : ℕ} → Some a ≡ Some b → a ≡ b
    as_number e = cc

    first : head_of r 0 ≡ Some r.value.trigger
    first = ap (λ z. slice_index_or z 0 None) heads

    second : head_of r 1 ≡ Some r.value.rule
    second = ap (λ z. slice_index_or z 1 None) heads

module _ (s : Standing) (rows : Logged Pair 8) (name : ℕ → List ℕ) (number : List ℕ → Option ℕ) (class : List ℕ) (k i : ℕ) (r : TableRow Pair 8)
    (is_number : number class ≡ Some k) (numbered : AreNumbered number)
    (listed : AreListed (present rows)) (here : (present rows).row i ≡ Some r) (under : IsUnderClasses s name number r) where
  abbrev facts : List (List ℕ)
  facts = read_by (rule_of s (name r.value.rule))

  -- a fact that it reads is of the class where its number is among those of the row
  to_class : reads_class s (name r.value.rule) class ≡ true → In k under.classes
  to_class reads =
      let (fact, at, same) = list_any-In (λ fact. same_name (class_of s fact) class) facts reads in
      let named : number (class_of s fact) ≡ Some k = ap number ((bytes_decides (class_of s fact) class).0 same) ∙ is_number in
      let among = subst (In (Some k)) under.numbers (subst (λ o. In o (map (λ fact. number (class_of s fact)) facts)) named (map-In (λ fact. number (class_of s fact)) facts fact at)) in
      let (j, there, e) = In-map Some under.classes (Some k) among in
      let one : j ≡ k = cc in
      subst (λ z. In z under.classes) one there

  of_class : In k under.classes → reads_class s (name r.value.rule) class ≡ true
  of_class at =
      let among = subst (In (Some k)) (sym under.numbers) (map-In Some under.classes k at) in
      let (fact, there, named) = In-map (λ fact. number (class_of s fact)) facts (Some k) among in
      let same = numbered (class_of s fact) class k named is_number in
      In-list_any (λ fact. same_name (class_of s fact) class) facts fact there ((bytes_decides (class_of s fact) class).1 same)

  -- the head of the row for a fact that it reads
  head_for : (a : ℕ) → a < 6 → head_of r (a + 2) ≡ slice_get under.classes a
  head_for a lt = ap (λ heads. slice_index_or heads (a + 2) None) under.heads ∙ head_is r.value.trigger r.value.rule under.classes a lt

  to_list : In k under.classes → IsListedUnder (present rows) k i
  to_list at =
      let (a, e) = place_of under.classes k at in
      let lt : a < 6 = omega (arith, slice_get_within under.classes a k e, under.few) in
      (a, lt, (on_list rows i (a + 2) k r listed here).1 (head_for a lt ∙ e))

  of_list : IsListedUnder (present rows) k i → In k under.classes
  of_list (a, lt, on) = stands under.classes a k (sym (head_for a lt) ∙ (on_list rows i (a + 2) k r listed here).0 on)

  -- **A row is on a list of a class exactly where its rule reads the class.**
  pub class_listed : (reads_class s (name r.value.rule) class ≡ true) ↔ IsListedUnder (present rows) k i
  class_listed = ((λ reads. to_list (to_class reads)), (λ on. of_class (of_list on)))

pub readers_listed : ReadersAreListed
readers_listed s names m rows name number class k i r own is_class is_number numbered listed here under = (there, back)
  where
    reads : watches s (name r.value.rule) (moment m) ≡ (reads_class s (name r.value.rule) class || reads_rival s (name r.value.rule) m.what)
    reads = reads_by_class s names m (name r.value.rule) own
        ∙ ap (λ o. option_map_or (λ c. reads_class s (name r.value.rule) c || reads_rival s (name r.value.rule) m.what) o false) is_class

    by_list : (reads_class s (name r.value.rule) class ≡ true) ↔ IsListedUnder (present rows) k i
    by_list = class_listed s rows name number class k i r is_number numbered listed here under

    there : watches s (name r.value.rule) (moment m) ≡ true → IsListedUnder (present rows) k i ⊎ (reads_rival s (name r.value.rule) m.what ≡ true)
    there h = elim (or_cases (reads_class s (name r.value.rule) class) (reads_rival s (name r.value.rule) m.what) (sym reads ∙ h)) [
      | inl by_class ↦ inl (by_list.0 by_class)
      | inr rival ↦ inr rival
    ]

    back : IsListedUnder (present rows) k i ⊎ (reads_rival s (name r.value.rule) m.what ≡ true) → watches s (name r.value.rule) (moment m) ≡ true
    back (inl on) = reads ∙ or_left (reads_class s (name r.value.rule) class) (reads_rival s (name r.value.rule) m.what) (by_list.1 on)
    back (inr rival) = reads ∙ or_right (reads_class s (name r.value.rule) class) (reads_rival s (name r.value.rule) m.what) rival
