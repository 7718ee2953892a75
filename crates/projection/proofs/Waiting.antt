-- Decisions that wait, entry by entry.
use Rattle.std.proofs.Common.{◌≡◌, ◌∙◌, ◌⊎◌, inl, inr, ℕ, ◌+◌, ◌≤◌, Bool, true, false, cond, ◌&&◌, ◌==◌, List, [], ◌∷◌, ◌++◌, refl, sym, ap, subst, arith}
use Rattle.std.proofs.lemmas.Int.{ints}
use Rattle.std.specs.Prelude.{ℤ, pos, ◌≤ℤ◌, ◌<ℤ◌, int_le, sum_by}
use Rattle.std.specs.List.{count_by}
use Rattle.std.specs.List.Sorted.{IsPermutation}
use Rattle.std.proofs.lemmas.Bool.{eqb-true, eq-eqb}
use Rattle.std.proofs.lemmas.List.Sums.{sum_by-cons, sum_by-append, sum_by_push}
use Rattle.std.proofs.lemmas.List.Sorted.{IsPermutation-sym, Contains-permutation, length_permutation, sum_by_pushed, sum_by_popped}
use Rattle.std.specs.Cmp.Lexicographic.{bytes_decides, nat_list_eq_equiv}
use Rattle.tmm_model.specs.Beliefs.{due}
use Rattle.tmm_model.specs.Points.{same_name}
use Rattle.tmm_model.specs.Standing.{Standing, far_in}
use Rattle.list_theory.proofs.Distinct.{Distinct}
use Rattle.list_theory.proofs.Elements.{In, In-from_Contains, Contains-from_In, In-left, In-right, In-cases}
use Rattle.spots.specs.Forest.{Forest, moment_at}
use Rattle.projection.specs.declared.pending.Pending.{Pending}
use Rattle.projection.specs.Counted.{is_due}
use Rattle.projection.specs.Places.{IsRuleAt, rule_at}
use Rattle.projection.specs.Queues.{is_for, is_name, IsDue, Queues}
use Rattle.projection.proofs.Dates.{past_horizon}

-- ---- members of a queue

pub In-permutation : {X : Type 0} (xs ys : List X) → IsPermutation xs ys → (x : X) → In x xs → In x ys
In-permutation xs ys p x at = In-from_Contains ys x (Contains-permutation xs ys x p (Contains-from_In xs x at))

-- ---- one rule more

module _ (s : Standing) (f : Forest) (x : ℕ) where
  more_due : (names : List (List ℕ)) (rule : List ℕ) (p : Pending) → IsDue s f x names p → IsDue s f x (names ++ rule ∷ []) p
  more_due names rule p is = record { trigger = is.trigger; place = is.place; rule = In-left names (rule ∷ []) (rule_at s p) is.rule; date = is.date; in_time = is.in_time }

  -- how many are due with the next rule
  one_more : (names : List (List ℕ)) (rule : List ℕ) → count_by (is_due s (moment_at f x)) (names ++ rule ∷ []) ≡ count_by (is_due s (moment_at f x)) names + cond (is_due s (moment_at f x) rule) 1 0
  one_more names rule = sum_by_push (λ r. cond (is_due s (moment_at f x) r) 1 0) names rule

  -- the next rule is due after the horizon
  pub queues_late : (names : List (List ℕ)) (rule : List ℕ) (old new : List Pending) → Queues s f x names old new → pos s.horizon <ℤ due s (far_in s.premises) (moment_at f x) rule
      → Queues s f x (names ++ rule ∷ []) old new
  queues_late names rule old new q late = record {
    kept = q.kept;
    own = λ p at. elim (q.own p at) [ inl before ↦ inl before | inr is ↦ inr (more_due names rule p is) ];
    all = all;
    count = omega (arith, q.count, one_more names rule, not_due late);
    once = λ y r. by (x == y) (sum_by (is_for s y r) new) (sum_by (is_for s y r) old) (sum_by (is_name r) names) (sum_by (is_name r) (names ++ rule ∷ [])) (sum_by (is_name r) (rule ∷ [])) (q.once y r)
        (sum_by-append (is_name r) names (rule ∷ []));
  }
    where
      not_due : pos s.horizon <ℤ due s (far_in s.premises) (moment_at f x) rule → ◌≡◌ {A = ℕ} (cond (is_due s (moment_at f x) rule) 1 0) 0
      not_due above = ap (λ b. cond b 1 0) (past_horizon s.horizon (due s (far_in s.premises) (moment_at f x) rule) above)

      never : (z w : ℤ) (h : ℕ) → z ≡ w → pos h <ℤ z → w ≤ℤ pos h → ⊥
      never z w h e a b = omega (arith, ints)

      all : (r : List ℕ) → In r (names ++ rule ∷ []) → due s (far_in s.premises) (moment_at f x) r ≤ℤ pos s.horizon → (p : Pending) × In p new × (p.trigger ≡ x) × (rule_at s p ≡ r)
      all r at in_time = elim (In-cases names (rule ∷ []) r at) [
        | inl before ↦ q.all r before in_time
        | inr is ↦ elim is [
          | inl same ↦ absurd (never (due s (far_in s.premises) (moment_at f x) rule) (due s (far_in s.premises) (moment_at f x) r) s.horizon (ap (due s (far_in s.premises) (moment_at f x)) same) late in_time)
          | inr none ↦ absurd none
        ]
      ]

      by : (b : Bool) (n m k j i : ℕ) → n ≤ m + cond b k 0 → j ≡ k + i → n ≤ m + cond b j 0
      by true n m k j i h e = omega (arith, h, e)
      by false n m k j i h e = h

  -- the next rule waits
  pub queues_more : (names : List (List ℕ)) (rule : List ℕ) (old mid new : List Pending) (p : Pending) → Queues s f x names old mid → p.trigger ≡ x → IsRuleAt s p.rule → rule_at s p ≡ rule
      → due s (far_in s.premises) (moment_at f x) rule ≡ pos p.due.0 → p.due.0 ≤ s.horizon → IsPermutation (p ∷ mid) new → Queues s f x (names ++ rule ∷ []) old new
  queues_more names rule old mid new p q trigger place named date in_time pushed = record {
    kept = λ o at. In-permutation (p ∷ mid) new pushed o (inr (q.kept o at));
    own = own;
    all = all;
    count = omega (arith, q.count, one_more names rule, is_one, length_permutation (p ∷ mid) new pushed);
    once = once;
  }
    where
      is_one : ◌≡◌ {A = ℕ} (cond (is_due s (moment_at f x) rule) 1 0) 1
      is_one = ap (λ b. cond b 1 0) (is_in_time (due s (far_in s.premises) (moment_at f x) rule) p.due.0 s.horizon date in_time)
        where
          is_in_time : (z : ℤ) (d h : ℕ) → z ≡ pos d → d ≤ h → int_le z (pos h) ≡ true
          is_in_time z d h e le = grind (arith, ints)

      back : (o : Pending) → In o new → In o (p ∷ mid)
      back = In-permutation new (p ∷ mid) (IsPermutation-sym (p ∷ mid) new pushed)

      here : IsDue s f x (names ++ rule ∷ []) p
      here = record {
        trigger = trigger;
        place = place;
        rule = In-right names (rule ∷ []) (rule_at s p) (inl (sym named));
        date = ap (due s (far_in s.premises) (moment_at f x)) named ∙ date;
        in_time = in_time;
      }

      own : (o : Pending) → In o new → In o old ⊎ IsDue s f x (names ++ rule ∷ []) o
      own o at = elim (back o at) [
        | inl same ↦ inr (subst (IsDue s f x (names ++ rule ∷ [])) same here)
        | inr before ↦ elim (q.own o before) [ inl older ↦ inl older | inr is ↦ inr (more_due names rule o is) ]
      ]

      all : (r : List ℕ) → In r (names ++ rule ∷ []) → due s (far_in s.premises) (moment_at f x) r ≤ℤ pos s.horizon → (o : Pending) × In o new × (o.trigger ≡ x) × (rule_at s o ≡ r)
      all r at due_r = elim (In-cases names (rule ∷ []) r at) [
        | inl before ↦ let (o, there, one, two) = q.all r before due_r in (o, In-permutation (p ∷ mid) new pushed o (inr there), one, two)
        | inr is ↦ elim is [
          | inl same ↦ (p, In-permutation (p ∷ mid) new pushed p (inl refl), trigger, named ∙ same)
          | inr none ↦ absurd none
        ]
      ]

      by : (b c : Bool) (n m k j i l : ℕ) → m ≤ i + cond b k 0 → n ≡ cond (b && c) 1 0 + m → l ≡ cond c 1 0 + 0 → j ≡ k + l → n ≤ i + cond b j 0
      by true true n m k j i l h e g a = omega (arith, h, e, g, a)
      by true false n m k j i l h e g a = omega (arith, h, e, g, a)
      by false c n m k j i l h e g a = omega (arith, h, e)

      once : (y : ℕ) (r : List ℕ) → sum_by (is_for s y r) new ≤ sum_by (is_for s y r) old + cond (x == y) (sum_by (is_name r) (names ++ rule ∷ [])) 0
      once y r = by (x == y) (same_name rule r) (sum_by (is_for s y r) new) (sum_by (is_for s y r) mid) (sum_by (is_name r) names) (sum_by (is_name r) (names ++ rule ∷ [])) (sum_by (is_for s y r) old) (sum_by (is_name r) (rule ∷ []))
          (q.once y r)
          (sum_by_pushed (is_for s y r) p mid new pushed ∙ (λ i. cond ((trigger i == y) && same_name (named i) r) 1 0 + sum_by (is_for s y r) mid))
          (sum_by-cons (is_name r) rule []) (sum_by-append (is_name r) names (rule ∷ []))

-- ---- how often

no_time : (s : Standing) (xs : List Pending) (y : ℕ) (r : List ℕ) → ((p : Pending) → In p xs → p.trigger ≡ y → rule_at s p ≡ r → ⊥) → sum_by (is_for s y r) xs ≡ 0
no_time s [] y r none = refl
no_time s (p ∷ xs) y r none =
    sum_by-cons (is_for s y r) p xs
    ∙ (λ i. first i + no_time s xs y r (λ o at. none o (inr at)) i)
  where
    by : (b c : Bool) → (b ≡ true → c ≡ true → ⊥) → ◌≡◌ {A = ℕ} (cond (b && c) 1 0) 0
    by true true h = absurd (h refl refl)
    by true false h = refl
    by false c h = refl

    first : is_for s y r p ≡ 0
    first = by (p.trigger == y) (same_name (rule_at s p) r) (λ one two. none p (inl refl) (eqb-true p.trigger y one) ((bytes_decides (rule_at s p) r).0 two))

-- none waits for a node that no entry is for
pub not_for : (s : Standing) (xs : List Pending) (y : ℕ) → ((p : Pending) → In p xs → p.trigger ≡ y → ⊥) → (r : List ℕ) → sum_by (is_for s y r) xs ≡ 0
not_for s xs y none r = no_time s xs y r (λ p at is _. none p at is)

some_time : (s : Standing) (xs : List Pending) (p : Pending) → In p xs → 1 ≤ sum_by (is_for s p.trigger (rule_at s p)) xs
some_time s [] p at = absurd at
some_time s (o ∷ xs) p (inl same) = omega (arith, sum_by-cons (is_for s p.trigger (rule_at s p)) o xs, one)
  where
    one : is_for s p.trigger (rule_at s p) o ≡ 1
    one =
        ap (is_for s p.trigger (rule_at s p)) same
        ∙ (λ i. cond (eq-eqb p.trigger p.trigger refl i && nat_list_eq_equiv.refl (rule_at s p) i) 1 0)
some_time s (o ∷ xs) p (inr at) = omega (arith, sum_by-cons (is_for s p.trigger (rule_at s p)) o xs, some_time s xs p at)

-- the decision that is taken out doesn't wait again
pub taken_once : (s : Standing) (xs rest : List Pending) (p : Pending) → ((y : ℕ) (r : List ℕ) → sum_by (is_for s y r) xs ≤ 1) → IsPermutation xs (p ∷ rest)
    → (o : Pending) → In o rest → o.trigger ≡ p.trigger → rule_at s o ≡ rule_at s p → ⊥
taken_once s xs rest p once popped o at one two =
    let first : 1 ≤ sum_by (is_for s p.trigger (rule_at s p)) rest = subst (λ y. 1 ≤ sum_by (is_for s y (rule_at s p)) rest) one (subst (λ r. 1 ≤ sum_by (is_for s o.trigger r) rest) two (some_time s rest o at)) in
    omega (arith, once p.trigger (rule_at s p), sum_by_popped (is_for s p.trigger (rule_at s p)) p xs rest popped, first, own)
  where
    own : is_for s p.trigger (rule_at s p) p ≡ 1
    own = (λ i. cond (eq-eqb p.trigger p.trigger refl i && nat_list_eq_equiv.refl (rule_at s p) i) 1 0)

pub rest_once : (s : Standing) (xs rest : List Pending) (p : Pending) → ((y : ℕ) (r : List ℕ) → sum_by (is_for s y r) xs ≤ 1) → IsPermutation xs (p ∷ rest) → (y : ℕ) (r : List ℕ) → sum_by (is_for s y r) rest ≤ 1
rest_once s xs rest p once popped y r = omega (arith, once y r, sum_by_popped (is_for s y r) p xs rest popped)

-- names that are distinct stand once
not_named : (xs : List (List ℕ)) (r : List ℕ) → (In r xs → ⊥) → sum_by (is_name r) xs ≡ 0
not_named [] r none = refl
not_named (m ∷ xs) r none = sum_by-cons (is_name r) m xs ∙ (λ i. first i + not_named xs r (λ at. none (inr at)) i)
  where
    zero_unless : (b : Bool) → (b ≡ true → ⊥) → ◌≡◌ {A = ℕ} (cond b 1 0) 0
    zero_unless true h = absurd (h refl)
    zero_unless false h = refl

    first : is_name r m ≡ 0
    first = zero_unless (same_name m r) (λ e. none (inl ((bytes_decides m r).0 e)))

names_once : (names : List (List ℕ)) → Distinct names → (r : List ℕ) → sum_by (is_name r) names ≤ 1
names_once [] d r = omega arith
names_once (n ∷ names) d r = by (same_name n r) refl (names_once names d.1 r)
  where
    by : (b : Bool) → same_name n r ≡ b → sum_by (is_name r) names ≤ 1 → sum_by (is_name r) (n ∷ names) ≤ 1
    by true e h =
        let same : n ≡ r = (bytes_decides n r).0 e in
        let one : is_name r n ≡ 1 = ap (λ b. cond b 1 0) e in
        omega (arith, sum_by-cons (is_name r) n names, not_named names r (subst (λ m. In m names → ⊥) same d.0), one)
    by false e h =
        let none : is_name r n ≡ 0 = ap (λ b. cond b 1 0) e in
        omega (arith, sum_by-cons (is_name r) n names, none, h)

-- with the rules of a node that no entry was for, each decision waits once still
pub queued_once : (s : Standing) (f : Forest) (x : ℕ) (names : List (List ℕ)) (old new : List Pending) → Queues s f x names old new → Distinct names
    → ((y : ℕ) (r : List ℕ) → sum_by (is_for s y r) old ≤ 1) → ((p : Pending) → In p old → p.trigger ≡ x → ⊥) → (y : ℕ) (r : List ℕ) → sum_by (is_for s y r) new ≤ 1
queued_once s f x names old new q distinct once none y r = by (x == y) refl (q.once y r)
  where
    by : (b : Bool) → (x == y) ≡ b → sum_by (is_for s y r) new ≤ sum_by (is_for s y r) old + cond b (sum_by (is_name r) names) 0 → sum_by (is_for s y r) new ≤ 1
    by true e h = omega (arith, names_once names distinct r, not_for s old y (λ p at is. none p at (is ∙ sym (eqb-true x y e))) r, h)
    by false e h = omega (arith, once y r, h)
