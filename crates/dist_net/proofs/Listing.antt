-- What is listed of changes.
use Rattle.std.proofs.Common.{◌≡◌, ◌∙◌, ◌⊎◌, inl, inr, ℕ, ◌+◌, ◌*◌, ◌/◌, ◌%◌, ◌<◌, ◌≤◌, ◌++◌, true, false, List, [], length, get_or, set, drop, append_assoc, ap, sym, subst, arith, refl}
use Rattle.std.specs.List.{Contains}
use Rattle.std.proofs.lemmas.Bool.{cases_eq, false≢true}
use Rattle.std.proofs.Math.Seq.{drop-append_seam}
use Rattle.std.proofs.lemmas.List.{append-nil, get_or_append_left, get_or-set_other, get_or_default, length-append}
use Rattle.std.proofs.lemmas.List.Elements.{Contains-append_left, Contains-append_right}
use Rattle.tmm_model.specs.declared.bound.Bound.{Bound}
use Rattle.tmm_model.specs.declared.bound.Bound.TheVariants.{Free}
use Rattle.dist_net.specs.Changes.{Listed, Covers, AreMarked, AreMoved, IsNoted, IsMarking, IsListed, AreNumbersListed, AreGathered, AreAmong}

-- ---- one more place

pub Covers-more : (old more new : List ℕ) (k : ℕ) → new ≡ old ++ more → Covers old k → Covers new k
Covers-more old more new k is covered =
    elim covered [
      | inl full ↦ inl (omega (arith, full, ap length is, length-append old more))
      | inr m ↦ inr (subst (λ (t : List ℕ). Contains t k) (sym is) (Contains-append_left old more k m))
    ]

Covers-last : (old more new : List ℕ) (k : ℕ) → new ≡ old ++ more → (65536 ≤ length new) ⊎ Contains more k → Covers new k
Covers-last old more new k is covered =
    elim covered [ inl full ↦ inl full | inr m ↦ inr (subst (λ (t : List ℕ). Contains t k) (sym is) (Contains-append_right old more k m)) ]

pub IsNoted-kept : (old : List ℕ) (place : ℕ) (new : List ℕ) (k : ℕ) → IsNoted old place new → Covers old k → Covers new k
IsNoted-kept old place new k is covered = Covers-more old is.more new k is.extends covered

pub IsNoted-covers : (old : List ℕ) (place : ℕ) (new : List ℕ) → IsNoted old place new → Covers new place
IsNoted-covers old place new is = Covers-last old is.more new place is.extends is.noted

-- ---- a table changed

pub IsMarking-start : (listed : Listed) (table : List Bound) → IsMarking listed table listed table
IsMarking-start listed table = record {
  more = [];
  extends = sym (append-nil listed.places);
  marked = λ k lt. inl refl;
  more_drafted = [];
  extends_drafted = sym (append-nil listed.drafted);
  drafted = λ k lt. inl refl;
  moved = refl;
}

pub AreMarked-trans : (m n : List ℕ) (x y z : List Bound) → AreMarked m x y → ((k : ℕ) → Covers m k → Covers n k) → AreMarked n y z → AreMarked n x z
AreMarked-trans m n x y z h kept g k lt =
    elim (h k lt) [
      | inl same ↦ elim (g k lt) [ inl also ↦ inl (same ∙ also) | inr covered ↦ inr covered ]
      | inr covered ↦ inr (kept k covered)
    ]

AreMoved-trans : (m n : List ℕ) (x y z : List Bound) → AreMoved m x y → ((p : ℕ) → Contains m p → Contains n p) → AreMoved n y z → AreMoved n x z
AreMoved-trans m n x y z h kept g a b in_a in_b =
    elim (h a b in_a in_b) [
      | inl same ↦ elim (g a b in_a in_b) [ inl also ↦ inl (same ∙ also) | inr moved ↦ inr moved ]
      | inr moved ↦ elim moved [ inl first ↦ inr (inl (kept a first)) | inr second ↦ inr (inr (kept b second)) ]
    ]

pub IsMarking-trans : (m n o : Listed) (x y z : List Bound) → IsMarking m x n y → IsMarking n y o z → IsMarking m x o z
IsMarking-trans m n o x y z h g = record {
  more = h.more ++ g.more;
  extends = g.extends ∙ (ap (λ (t : List ℕ). t ++ g.more) h.extends ∙ append_assoc m.places h.more g.more);
  marked = λ k lt. elim (h.marked k lt) [
    | inl same ↦ elim (g.marked k lt) [
      | inl also ↦ inl (same ∙ also)
      | inr covered ↦ elim covered [ inl full ↦ inr (inl full) | inr last ↦ inr (inr (Contains-append_right h.more g.more k last)) ]
    ]
    | inr covered ↦ elim covered [
      | inl full ↦ inr (inl (omega (arith, full, ap length g.extends, length-append n.places g.more)))
      | inr first ↦ inr (inr (Contains-append_left h.more g.more k first))
    ]
  ];
  more_drafted = h.more_drafted ++ g.more_drafted;
  extends_drafted = g.extends_drafted ∙ (ap (λ (t : List ℕ). t ++ g.more_drafted) h.extends_drafted ∙ append_assoc m.drafted h.more_drafted g.more_drafted);
  drafted = AreMarked-trans n.drafted o.drafted x y z h.drafted (λ k. Covers-more n.drafted g.more_drafted o.drafted k g.extends_drafted) g.drafted;
  moved = g.moved ∙ h.moved;
}

pub IsMarking-set : (old new : Listed) (table : List Bound) (place : ℕ) (x : Bound) → IsNoted old.places place new.places → IsNoted old.drafted place new.drafted → new.moved ≡ old.moved → IsMarking old table new (set table place x)
IsMarking-set old new table place x is drafted moved = record {
  more = is.more;
  extends = is.extends;
  marked = λ k lt. elim (cases_eq k place) [
    | inl same ↦ inr (subst (λ (r : ℕ). (65536 ≤ length new.places) ⊎ Contains is.more r) (sym same) is.noted)
    | inr other ↦ inl (sym (get_or-set_other table place k x Free (λ e. other (omega arith))))
  ];
  more_drafted = drafted.more;
  extends_drafted = drafted.extends;
  drafted = λ k lt. elim (cases_eq k place) [
    | inl same ↦ inr (subst (Covers new.drafted) (sym same) (IsNoted-covers old.drafted place new.drafted drafted))
    | inr other ↦ inl (sym (get_or-set_other table place k x Free (λ e. other (omega arith))))
  ];
  moved = moved;
}

-- what was listed for the draft is read as before
pub drafted_reaches : (old new : Listed) (x y : List Bound) (i : ℕ) → IsMarking old x new y → i < length old.drafted → i < length new.drafted
drafted_reaches old new x y i is lt = omega (arith, lt, ap length is.extends_drafted, length-append old.drafted is.more_drafted)

pub drafted_reads : (old new : Listed) (x y : List Bound) (i : ℕ) → IsMarking old x new y → i < length old.drafted → get_or new.drafted i 0 ≡ get_or old.drafted i 0
drafted_reads old new x y i is lt = ap (λ (t : List ℕ). get_or t i 0) is.extends_drafted ∙ get_or_append_left old.drafted is.more_drafted 0 i lt

-- ---- points that moved

module _ (old mid new : Listed) (x y : List Bound) (marking : IsMarking old x mid y) (same : new ≡ record { places = mid.places; drafted = mid.drafted; moved = new.moved })
    (more : (p : ℕ) → Contains mid.moved p → Contains new.moved p) (full : 65536 ≤ length mid.places → AreNumbersListed [] true new.moved)
    (last : AreNumbersListed (drop (length old.places) mid.places) false new.moved) where
  places_are : new.places ≡ old.places ++ marking.more
  places_are = ap (λ (s : Listed). s.places) same ∙ marking.extends

  drafted_are : new.drafted ≡ mid.drafted
  drafted_are = ap (λ (s : Listed). s.drafted) same

  last_are : drop (length old.places) mid.places ≡ marking.more
  last_are = ap (λ (t : List ℕ). drop (length old.places) t) marking.extends ∙ drop-append_seam old.places marking.more

  one_moved : (k : ℕ) → k < 65536 → (65536 ≤ length mid.places) ⊎ Contains marking.more k → Contains new.moved (k / 256) ⊎ Contains new.moved (k % 256)
  one_moved k lt (inl all) = full all k lt (inl refl)
  one_moved k lt (inr m) = last k lt (inr (subst (λ (t : List ℕ). Contains t k) (sym last_are) m))

  pub IsListed-moved : IsListed old x new y
  IsListed-moved = record {
    kept = λ k. Covers-more old.places marking.more new.places k places_are;
    marked = λ k lt. elim (marking.marked k lt) [
      | inl unchanged ↦ inl unchanged
      | inr covered ↦ inr (elim covered [
        | inl all ↦ inl (omega (arith, all, ap (λ (s : Listed). length s.places) same))
        | inr m ↦ inr (subst (λ (t : List ℕ). Contains t k) (sym places_are) (Contains-append_right old.places marking.more k m))
      ])
    ];
    kept_drafted = λ k. Covers-more old.drafted marking.more_drafted new.drafted k (drafted_are ∙ marking.extends_drafted);
    drafted = subst (λ (t : List ℕ). AreMarked t x y) (sym drafted_are) marking.drafted;
    kept_moved = λ p m. more p (subst (λ (t : List ℕ). Contains t p) (sym marking.moved) m);
    moved = λ a b in_a in_b. elim (marking.marked (a * 256 + b) (omega arith)) [
      | inl unchanged ↦ inl unchanged
      | inr covered ↦ inr (numbers a b in_b (one_moved (a * 256 + b) (omega arith) covered))
    ];
  }
    where
      numbers : (a b : ℕ) → b < 256 → Contains new.moved ((a * 256 + b) / 256) ⊎ Contains new.moved ((a * 256 + b) % 256) → Contains new.moved a ⊎ Contains new.moved b
      numbers a b in_b (inl m) = let row : (a * 256 + b) / 256 ≡ a = omega arith in inl (subst (Contains new.moved) row m)
      numbers a b in_b (inr m) = let column : (a * 256 + b) % 256 ≡ b = omega arith in inr (subst (Contains new.moved) column m)

-- the same, where the points of one of two lists are listed
pub IsListed-fewer : (old mid new : Listed) (x y : List Bound) (some others : List ℕ) → IsMarking old x mid y → new ≡ record { places = mid.places; drafted = mid.drafted; moved = new.moved } → AreAmong mid.moved new.moved →
    AreAmong some new.moved ⊎ AreAmong others new.moved → AreMoved some x y → AreMoved others x y → IsListed old x new y
IsListed-fewer old mid new x y some others marking same more fewer first second = record {
  kept = λ k. Covers-more old.places marking.more new.places k places_are;
  marked = λ k lt. elim (marking.marked k lt) [ inl unchanged ↦ inl unchanged | inr covered ↦ inr (Covers-last old.places marking.more new.places k places_are (shown k covered)) ];
  kept_drafted = λ k. Covers-more old.drafted marking.more_drafted new.drafted k (drafted_is ∙ marking.extends_drafted);
  drafted = subst (λ (t : List ℕ). AreMarked t x y) (sym drafted_is) marking.drafted;
  kept_moved = λ p m. more p (subst (λ (t : List ℕ). Contains t p) (sym marking.moved) m);
  moved = elim fewer [ inl among ↦ moved_in some among first | inr among ↦ moved_in others among second ];
}
  where
    places_are : new.places ≡ old.places ++ marking.more
    places_are = ap (λ (s : Listed). s.places) same ∙ marking.extends

    drafted_is : new.drafted ≡ mid.drafted
    drafted_is = ap (λ (s : Listed). s.drafted) same

    shown : (k : ℕ) → (65536 ≤ length mid.places) ⊎ Contains marking.more k → (65536 ≤ length new.places) ⊎ Contains marking.more k
    shown k (inl full) = inl (omega (arith, full, ap (λ (s : Listed). length s.places) same))
    shown k (inr m) = inr m

    moved_in : (points : List ℕ) → AreAmong points new.moved → AreMoved points x y → AreMoved new.moved x y
    moved_in points among are a b in_a in_b =
        elim (are a b in_a in_b) [
          | inl unchanged ↦ inl unchanged
          | inr has ↦ inr (elim has [ inl m ↦ inl (among a m) | inr m ↦ inr (among b m) ])
        ]

pub IsListed-trans : (m n o : Listed) (x y z : List Bound) → IsListed m x n y → IsListed n y o z → IsListed m x o z
IsListed-trans m n o x y z h g = record {
  kept = λ k c. g.kept k (h.kept k c);
  marked = AreMarked-trans n.places o.places x y z h.marked g.kept g.marked;
  kept_drafted = λ k c. g.kept_drafted k (h.kept_drafted k c);
  drafted = AreMarked-trans n.drafted o.drafted x y z h.drafted g.kept_drafted g.drafted;
  kept_moved = λ p c. g.kept_moved p (h.kept_moved p c);
  moved = AreMoved-trans n.moved o.moved x y z h.moved g.kept_moved g.moved;
}

-- what was listed before a change that is listed
module _ (old new : Listed) (x y z : List Bound) (is : IsListed old y new z) where
  pub marked-more : AreMarked old.places x y → AreMarked new.places x z
  marked-more h = AreMarked-trans old.places new.places x y z h is.kept is.marked

  pub moved-more : AreMoved old.moved x y → AreMoved new.moved x z
  moved-more h = AreMoved-trans old.moved new.moved x y z h is.kept_moved is.moved

  pub drafted-more : AreMarked old.drafted x y → AreMarked new.drafted x z
  drafted-more h = AreMarked-trans old.drafted new.drafted x y z h is.kept_drafted is.drafted

-- ---- places listed for the draft

-- what was listed stays so, and the first `done` places are listed too
pub record AreDrafted (places old : List ℕ) (done : ℕ) (new : List ℕ) : Type 0 where
  pub kept : (k : ℕ) → Covers old k → Covers new k
  pub listed : (j k : ℕ) → j < done → j < length places → get_or places j k ≡ k → Covers new k
  pub long : (done ≤ length new) ⊎ (65536 ≤ length new)

pub AreDrafted-start : (places old : List ℕ) → AreDrafted places old 0 old
AreDrafted-start places old = record { kept = λ k h. h; listed = λ j k lt. absurd (omega arith); long = inl (omega arith) }

pub AreDrafted-more : (places old new next : List ℕ) (done : ℕ) → done < length places → IsNoted new (get_or places done 0) next → AreDrafted places old done new → AreDrafted places old (done + 1) next
AreDrafted-more places old new next done lt noted is = record {
  kept = λ k h. IsNoted-kept new place next k noted (is.kept k h);
  listed = λ j k lt_j in_j at. elim (cases_eq j done) [
    | inl same ↦ subst (Covers next) (ap (λ (r : ℕ). get_or places r 0) (sym same) ∙ (sym (get_or_default places j k 0 in_j) ∙ at)) (IsNoted-covers new place next noted)
    | inr other ↦ IsNoted-kept new place next k noted (is.listed j k (omega (arith, other, lt_j)) in_j at)
  ];
  long = elim noted.noted [
    | inl full ↦ inr full
    | inr m ↦ elim is.long [ inl enough ↦ inl (omega (arith, enough, m.1, longer)) | inr full ↦ inr (omega (arith, full, longer)) ]
  ];
}
  where
    place : ℕ
    place = get_or places done 0

    longer : length next ≡ length new + length noted.more
    longer = ap length noted.extends ∙ length-append new noted.more

pub AreDrafted-all : (places old new : List ℕ) (done k : ℕ) → length places ≤ done → AreDrafted places old done new → Covers places k → Covers new k
AreDrafted-all places old new done k le is covered =
    elim covered [
      | inl full ↦ elim is.long [ inl enough ↦ inl (omega (arith, enough, le, full)) | inr all ↦ inl all ]
      | inr m ↦ is.listed m.0 k (omega (arith, m.1, le)) m.1 m.2
    ]

-- ---- points listed

pub AreGathered-more : (places from to next_from next_to : List ℕ) (done : ℕ) → done < length places → AreAmong from next_from → AreAmong to next_to →
    Contains next_from (get_or places done 0 / 256) → Contains next_to (get_or places done 0 % 256) → AreGathered places done from to → AreGathered places (done + 1) next_from next_to
AreGathered-more places from to next_from next_to done lt kept_from kept_to first second is j k lt_j in_j at =
    elim (cases_eq j done) [
      | inl same ↦ subst (λ (r : ℕ). Contains next_from (r / 256) × Contains next_to (r % 256)) (ap (λ (r : ℕ). get_or places r 0) (sym same) ∙ (sym (get_or_default places j k 0 in_j) ∙ at)) (first, second)
      | inr other ↦ (let h : Contains from (k / 256) × Contains to (k % 256) = is j k (omega (arith, other, lt_j)) in_j at in
          (kept_from (k / 256) h.0, kept_to (k % 256) h.1))
    ]

-- the fewer of the numbers are listed
pub fewer_listed : (places from to moved : List ℕ) → AreGathered places (length places) from to → AreAmong from moved ⊎ AreAmong to moved → AreNumbersListed places false moved
fewer_listed places from to moved is fewer k lt (inl e) = absurd (false≢true e)
fewer_listed places from to moved is fewer k lt (inr m) =
    let both : Contains from (k / 256) × Contains to (k % 256) = is m.0 k m.1 m.1 m.2 in
    elim fewer [ inl first ↦ inl (first (k / 256) both.0) | inr second ↦ inr (second (k % 256) both.1) ]
