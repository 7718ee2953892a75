-- Premises that are taken out of a list, and put back.
use Rattle.std.proofs.Common.{◌≡◌, ℕ, zero, suc, ◌+◌, ◌-◌, ◌<◌, ◌≤◌, List, [], ◌∷◌, ◌++◌, map, length, take, drop, reverse, slice_index_or, refl, ap, subst, sym, inl, inr, ◌∙◌, arith, append_assoc}
use Rattle.std.specs.Prelude.{Some, None, slice_get}
use Rattle.std.specs.List.{drop-map, flat_map, insert, remove}
use Rattle.std.specs.Map.{values_of}
use Rattle.std.proofs.lemmas.Bool.Decides.{leb_tells}
use Rattle.std.proofs.Math.Seq.{take-append_seam, drop-append_seam, drop-cons}
use Rattle.std.proofs.lemmas.List.{take-append-drop, take-append-le, drop-append-le, length-append, length-drop, length-map, length-take-le, map-append, reverse-append, reverse-reverse, take-map}
use Rattle.std.proofs.lemmas.Grind.{flat_map-append}
use Rattle.indexmap.specs.IndexMap.{set_value_at}
use Rattle.tmm_model.specs.declared.name.Name.{Name}
use Rattle.tmm_model.specs.declared.premise.Premise.{Premise}
use Rattle.tmm_model.specs.Standing.{points_of}
use Rattle.tmm_model.specs.Sorts.{Sort, declarations_of, declared_by}
use Rattle.tmm_model.specs.Verdicts.{words_known}
use Rattle.list_theory.proofs.WellNamed.{words_known-append}
use Rattle.premise_list.specs.declared.table.Word.{Word}
use Rattle.premise_list.specs.declared.past.Taken.{Taken}
use Rattle.premise_list.specs.declared.past.Past.{Past}
use Rattle.premise_list.specs.Past.{without, first_or, RiseBelow, taken_premise, restored, Fits, committed_from, Stands}
use Rattle.premise_list.specs.Words.{facts_of, sort_seen}
use Rattle.premise_list.specs.Table.{at_place, placed, entry_seen, moved_down}
use Rattle.premise_list.proofs.TableFacts.{declared_by_parted, placed-append, length-placed, points_parted, words_parted}

-- entries of an index, those from the first place on moved down
abbrev pub lowered : ℕ → List (List ℕ × (Sort × ℕ)) → List (List ℕ × (Sort × ℕ))
lowered first es = take first es ++ map moved_down (drop first es)

pub drop_again : {X : Type 0} (k : ℕ) (xs : List X) → drop 1 (drop k xs) ≡ drop (suc k) xs
drop_again zero xs = refl
drop_again (suc k) [] = refl
drop_again (suc k) (x ∷ xs) = drop_again k xs

-- a sum that computes by its first number
abbrev plus : ℕ → ℕ → ℕ
plus zero k = k
plus (suc n) k = suc (plus n k)

plus_is : (n k : ℕ) → plus n k ≡ n + k
plus_is zero k = omega arith
plus_is (suc n) k = let rest = plus_is n k in omega arith

remove_next : {X : Type 0} (f k : ℕ) (xs : List X) → remove (take f xs ++ drop (plus f k) xs) f ≡ take f xs ++ drop (suc (plus f k)) xs
remove_next zero k xs = drop_again k xs
remove_next (suc f) k [] = refl
remove_next (suc f) k (x ∷ xs) = ap (λ l. x ∷ l) (remove_next f k xs)

-- one more is removed where some were
pub remove_seam : {X : Type 0} (f k : ℕ) (xs : List X) → remove (take f xs ++ drop (f + k) xs) f ≡ take f xs ++ drop (f + (k + 1)) xs
remove_seam f k xs =
    let next : suc (f + k) ≡ f + (k + 1) = omega arith in
    subst (λ n. remove (take f xs ++ drop n xs) f ≡ take f xs ++ drop (suc n) xs) (plus_is f k) (remove_next f k xs) ∙ ap (λ n. take f xs ++ drop n xs) next

-- a list that has the premise at the place
pub split_at : {X : Type 0} (i : ℕ) (xs : List X) (x : X) → drop i xs ≡ x ∷ drop (suc i) xs → xs ≡ take i xs ++ x ∷ drop (suc i) xs
split_at i xs x at = sym (take-append-drop i xs) ∙ ap (λ l. take i xs ++ l) at

-- what is put back where it was taken out
put_same : {X : Type 0} (i j : ℕ) (xs : List X) (x : X) → drop i xs ≡ x ∷ drop (suc i) xs → insert (take (plus i j) (remove xs i)) i x ≡ take (suc (plus i j)) xs
put_same zero j [] x at = cc
put_same zero j (y ∷ xs) x at = let e : x ≡ y = cc in ap (λ z. z ∷ take j xs) e
put_same (suc i) j [] x at = cc
put_same (suc i) j (y ∷ xs) x at = ap (λ l. y ∷ l) (put_same i j xs x at)

-- what is taken out behind the first ones
take_same : {X : Type 0} (s j : ℕ) (xs : List X) → take s (remove xs (plus s j)) ≡ take s xs
take_same zero j xs = refl
take_same (suc s) j [] = refl
take_same (suc s) j (x ∷ xs) = ap (λ l. x ∷ l) (take_same s j xs)

remove_end : {X : Type 0} (i : ℕ) (xs : List X) → remove (take (suc i) xs) i ≡ take i xs
remove_end zero [] = refl
remove_end zero (x ∷ xs) = refl
remove_end (suc i) [] = refl
remove_end (suc i) (x ∷ xs) = ap (λ l. x ∷ l) (remove_end i xs)

remove-append : {X : Type 0} (xs ys : List X) (i : ℕ) → i < length xs → remove (xs ++ ys) i ≡ remove xs i ++ ys
remove-append xs ys i h =
    (λ j. take-append-le i xs ys (omega arith) j ++ drop-append-le (suc i) xs ys (omega arith) j)
    ∙ sym (append_assoc (take i xs) (drop (suc i) xs) ys)

pub length-remove : {X : Type 0} (i : ℕ) (xs : List X) (x : X) → drop i xs ≡ x ∷ drop (suc i) xs → length (remove xs i) + 1 ≡ length xs
length-remove i xs x at =
    let whole : length xs ≡ length (take i xs) + length (x ∷ drop (suc i) xs) = ap length (split_at i xs x at) ∙ length-append (take i xs) (x ∷ drop (suc i) xs) in
    let rest : length (remove xs i) ≡ length (take i xs) + length (drop (suc i) xs) = length-append (take i xs) (drop (suc i) xs) in
    omega arith

-- the last place is the first whose premise is taken out
pub without-last : (is : List ℕ) (i : ℕ) (ps : List Premise) → without (is ++ i ∷ []) ps ≡ without is (remove ps i)
without-last [] i ps = refl
without-last (j ∷ is) i ps = ap (λ l. remove l j) (without-last is i ps)

-- places below a number are below a greater one
pub rise_more : (n m : ℕ) (is : List ℕ) → n ≤ m → RiseBelow n is → RiseBelow m is
rise_more n m [] low h = tt
rise_more n m (i ∷ []) low h = let first : i < n = h.0 in (omega arith, tt)
rise_more n m (i ∷ j ∷ is) low h = (h.0, rise_more n m (j ∷ is) low h.1)

pub rise-last : (is : List ℕ) (i n : ℕ) → RiseBelow n (is ++ i ∷ []) → (i < n) × RiseBelow i is
rise-last [] i n h = (h.0, tt)
rise-last (j ∷ []) i n h = (h.1.0, (h.0, tt))
rise-last (j ∷ k ∷ is) i n h = let (low, rest) = rise-last (k ∷ is) i n h.1 in (low, (h.0, rest))

pub last-rise : (is : List ℕ) (i n : ℕ) → i < n → RiseBelow i is → RiseBelow n (is ++ i ∷ [])
last-rise [] i n low h = (low, tt)
last-rise (j ∷ []) i n low h = (h.0, (low, tt))
last-rise (j ∷ k ∷ is) i n low h = (h.0, last-rise (k ∷ is) i n low h.1)

-- the last of places that rise
pub last_place : (places is : List ℕ) (i n : ℕ) → places ≡ is ++ i ∷ [] → RiseBelow n places → (i < n) × RiseBelow i is
last_place places is i n whole h = rise-last is i n (subst (RiseBelow n) whole h)

-- those before the first place stay
rise_long : (is : List ℕ) (ps : List Premise) → RiseBelow (length ps) is → first_or is (length ps) ≤ length (without is ps)
rise_long [] ps h = omega arith
rise_long (i ∷ is) ps h =
    let xs = without is ps in
    let rest = rise_long is ps h.1 in
    let low : i < first_or is (length ps) = h.0 in
    let before : length (take i xs) ≡ i = length-take-le i xs (omega arith) in
    omega (arith, length-append (take i xs) (drop (suc i) xs))

without-append : (is : List ℕ) (ps qs : List Premise) → RiseBelow (length ps) is → without is (ps ++ qs) ≡ without is ps ++ qs
without-append [] ps qs h = refl
without-append (i ∷ is) ps qs h =
    let long = rise_long is ps h.1 in
    let low : i < first_or is (length ps) = h.0 in
    ap (λ l. remove l i) (without-append is ps qs h.1) ∙ remove-append (without is ps) qs i (omega arith)

-- the next premise falls
pub next_falls : (is : List ℕ) (i : ℕ) (ps : List Premise) → without (is ++ i ∷ []) (take (suc i) ps) ≡ without is (take i ps)
next_falls is i ps = without-last is i (take (suc i) ps) ∙ ap (without is) (remove_end i ps)

-- the next premise stays
pub next_stays : (is : List ℕ) (i : ℕ) (ps : List Premise) (p : Premise) → i ≤ length ps → take (suc i) ps ≡ take i ps ++ p ∷ [] → RiseBelow i is
    → without is (take (suc i) ps) ≡ without is (take i ps) ++ p ∷ []
next_stays is i ps p within next h =
    let long : i ≡ length (take i ps) = sym (length-take-le i ps within) in
    ap (without is) next ∙ without-append is (take i ps) (p ∷ []) (subst (λ n. RiseBelow n is) long h)

-- the latest that was taken out is put back first
pub restored-last : (ts : List Taken) (t : Taken) (ps : List Premise) → restored (ts ++ t ∷ []) ps ≡ restored ts (insert ps t.place t.premise)
restored-last [] t ps = refl
restored-last (u ∷ ts) t ps = ap (λ l. insert l u.place u.premise) (restored-last ts t ps)

pub Fits-last : (ts : List Taken) (t : Taken) (n : ℕ) → Fits (ts ++ t ∷ []) n → (t.place ≤ n) × Fits ts (n + 1)
Fits-last [] t n h = let low : t.place ≤ n + 0 = h.0 in (omega arith, tt)
Fits-last (u ∷ ts) t n h =
    let (first, rest) = Fits-last ts t n h.1 in
    let long = length-append ts (t ∷ []) in
    let low : u.place ≤ n + length (ts ++ t ∷ []) = h.0 in
    (first, (omega arith, rest))

pub last-Fits : (ts : List Taken) (t : Taken) (n : ℕ) → t.place ≤ n → Fits ts (n + 1) → Fits (ts ++ t ∷ []) n
last-Fits [] t n first h = (omega arith, tt)
last-Fits (u ∷ ts) t n first h =
    let long = length-append ts (t ∷ []) in
    let low : u.place ≤ (n + 1) + length ts = h.0 in
    (omega arith, last-Fits ts t n first h.1)

pub length-insert : {X : Type 0} (i : ℕ) (xs : List X) (x : X) → length (insert xs i x) ≡ length xs + 1
length-insert i xs x =
    let whole = ap length (take-append-drop i xs) in
    let parts = length-append (take i xs) (drop i xs) in
    let all = length-append (take i xs) (x ∷ drop i xs) in
    omega arith

pub length-restored : (ts : List Taken) (ps : List Premise) → length (restored ts ps) ≡ length ps + length ts
length-restored [] ps = omega arith
length-restored (t ∷ ts) ps =
    let more = length-insert t.place (restored ts ps) t.premise in
    let rest = length-restored ts ps in
    omega arith

-- how many names are declared
words_of : (p : Premise) (ps : List Premise) → length (words_known (p ∷ ps)) ≡ length (declared_by p) + length (words_known ps)
words_of p ps = ap length (words_known-append (p ∷ []) ps) ∙ length-append (words_known (p ∷ [])) (words_known ps) ∙ ap (λ k. k + length (words_known ps)) (one p)
  where
    one : (p : Premise) → length (words_known (p ∷ [])) ≡ length (declared_by p)
    one p = ap (λ ds. length (map (λ d. d.0) ds)) (append_nil_of (declarations_of p))
      where
        append_nil_of : {X : Type 0} (xs : List X) → xs ++ [] ≡ xs
        append_nil_of [] = refl
        append_nil_of (x ∷ xs) = ap (λ l. x ∷ l) (append_nil_of xs)

pub words-restored : (ts : List Taken) (ps : List Premise) → length (words_known (restored ts ps)) ≡ length (words_known ps) + length (words_known (map taken_premise ts))
words-restored [] ps = let none : length (words_known []) ≡ 0 = refl in omega arith
words-restored (t ∷ ts) ps =
    let xs = restored ts ps in
    let rest = words-restored ts ps in
    let parted = words_parted t.place xs in
    let here = ap length (words_known-append (take t.place xs) (t.premise ∷ drop t.place xs)) ∙ length-append (words_known (take t.place xs)) (words_known (t.premise ∷ drop t.place xs)) in
    let own = words_of t.premise (drop t.place xs) in
    let owed = words_of t.premise (map taken_premise ts) in
    omega arith

-- the names of the premises from a place on
pub words_behind : (i : ℕ) (ps : List Premise) (p : Premise) → drop i ps ≡ p ∷ drop (suc i) ps
    → length (words_known (drop i ps)) ≡ suc (length (facts_of p)) + length (words_known (drop (suc i) ps))
words_behind i ps p at =
    ap (λ l. length (words_known l)) at ∙ words_of p (drop (suc i) ps) ∙ ap (λ l. length l + length (words_known (drop (suc i) ps))) (declared_by_parted p)

-- the premise at a place, and those behind it
pub here_and_behind : (i : ℕ) (ps : List Premise) (p : Premise) → i < length ps → p ≡ slice_index_or ps i p → drop i ps ≡ p ∷ drop (suc i) ps
here_and_behind i ps p low is = drop-cons ps i p low ∙ ap (λ q. q ∷ drop (suc i) ps) (sym is)

-- the points of what stays
pub points_out : (i : ℕ) (ps : List Premise) (p : Premise) → drop i ps ≡ p ∷ drop (suc i) ps
    → length (flat_map points_of (remove ps i)) + length (points_of p) ≡ length (flat_map points_of ps)
points_out i ps p at =
    let parted = points_parted i ps in
    let behind : length (flat_map points_of (drop i ps)) ≡ length (points_of p) + length (flat_map points_of (drop (suc i) ps)) = ap (λ l. length (flat_map points_of l)) at ∙ length-append (points_of p) (flat_map points_of (drop (suc i) ps)) in
    let rest = ap length (flat_map-append points_of (take i ps) (drop (suc i) ps)) ∙ length-append (flat_map points_of (take i ps)) (flat_map points_of (drop (suc i) ps)) in
    omega arith

down_all : (i : ℕ) (ds : List (List ℕ × Sort)) → map moved_down (map (at_place (suc i)) ds) ≡ map (at_place i) ds
down_all i [] = refl
down_all i (d ∷ ds) = let e : suc i - 1 ≡ i = omega arith in λ j. (d.0, (d.1, e j)) ∷ down_all i ds j

placed_down : (i : ℕ) (ps : List Premise) → map moved_down (placed (suc i) ps) ≡ placed i ps
placed_down i [] = refl
placed_down i (p ∷ ps) =
    map-append moved_down (map (at_place (suc i)) (declarations_of p)) (placed (suc (suc i)) ps)
    ∙ (λ j. down_all i (declarations_of p) j ++ placed_down (suc i) ps j)

-- the declarations without those of a premise
pub placed_out : (i : ℕ) (ps : List Premise) (p : Premise) → i ≤ length ps → drop i ps ≡ p ∷ drop (suc i) ps → (first count : ℕ)
    → first ≡ length (words_known (take i ps)) → count ≡ length (declared_by p)
    → take first (placed 0 ps) ++ map moved_down (drop (first + count) (placed 0 ps)) ≡ placed 0 (remove ps i)
placed_out i ps p below at first count first_is count_is =
    let a = take i ps in
    let b = drop (suc i) ps in
    let own = map (at_place i) (declarations_of p) in
    let here : 0 + length a ≡ i = omega (arith, length-take-le i ps below) in
    let whole : placed 0 ps ≡ placed 0 a ++ (own ++ placed (suc i) b) = ap (placed 0) (split_at i ps p at) ∙ placed-append 0 a (p ∷ b) ∙ ap (λ k. placed 0 a ++ placed k (p ∷ b)) here in
    let first_long : first ≡ length (placed 0 a) = first_is ∙ sym (length-placed 0 a) in
    let count_long : count ≡ length own = count_is ∙ length-map (declarations_of p) (λ d. d.0) ∙ sym (length-map (declarations_of p) (at_place i)) in
    let both_long : first + count ≡ length (placed 0 a ++ own) = omega (arith, length-append (placed 0 a) own) in
    let before : take first (placed 0 ps) ≡ placed 0 a = (λ j. take (first_long j) (whole j)) ∙ take-append_seam (placed 0 a) (own ++ placed (suc i) b) in
    let behind : drop (first + count) (placed 0 ps) ≡ placed (suc i) b =
    (λ j. drop (both_long j) ((whole ∙ sym (append_assoc (placed 0 a) own (placed (suc i) b))) j)) ∙ drop-append_seam (placed 0 a ++ own) (placed (suc i) b) in
    (λ j. before j ++ map moved_down (behind j)) ∙ ap (λ l. placed 0 a ++ l) (placed_down i b)
    ∙ sym (placed-append 0 a b ∙ ap (λ k. placed 0 a ++ placed k b) here)

-- a premise that the list of the last commit has is taken out
module _ (i : ℕ) (ps : List Premise) (p : Premise) (at : drop i ps ≡ p ∷ drop (suc i) ps) where
  pub kept_committed : (s : ℕ) (ts : List Taken) → i ≤ s → restored (ts ++ record { place = i; premise = p } ∷ []) (take s (remove ps i)) ≡ restored ts (take (suc s) ps)
  kept_committed s ts low =
      let all : plus i (s - i) ≡ s = plus_is i (s - i) ∙ omega arith in
      restored-last ts (record { place = i; premise = p }) (take s (remove ps i))
      ∙ ap (restored ts) (subst (λ k. insert (take k (remove ps i)) i p ≡ take (suc k) ps) all (put_same i (s - i) ps p at))

-- one that was added since is
pub added_committed : (i s : ℕ) (ps : List Premise) (ts : List Taken) → s ≤ i → restored ts (take s (remove ps i)) ≡ restored ts (take s ps)
added_committed i s ps ts low =
    let all : plus s (i - s) ≡ i = plus_is s (i - s) ∙ omega arith in
    ap (restored ts) (subst (λ k. take s (remove ps k) ≡ take s ps) all (take_same s (i - s) ps))

-- what is kept of a premise that was taken out leads back to the same list
module _ (i : ℕ) (ps : List Premise) (p : Premise) (at : drop i ps ≡ p ∷ drop (suc i) ps) (old new : Past)
    (added : old.shared ≤ i → (new.shared ≡ old.shared) × (new.taken.items ≡ old.taken.items))
    (kept : i < old.shared → (new.shared + 1 ≡ old.shared) × (new.taken.items ≡ old.taken.items ++ record { place = i; premise = p } ∷ [])) where
  pub stands_out : Stands old ps → Stands new (remove ps i)
  stands_out h =
      let count = length-remove i ps p at in
      let within : old.shared ≤ length ps = h.within in
      let last : length (drop i ps) ≡ suc (length (drop (suc i) ps)) = ap length at in
      let behind = length-drop i ps in
      elim (leb_tells old.shared i) [
        | inl since ↦
            let (shared, taken) = added since.1 in
            record {
              within = omega arith;
              fits = subst (λ n. Fits new.taken.items n) (sym shared) (subst (λ ts. Fits ts old.shared) (sym taken) h.fits);
            }
        | inr before ↦
            let (shared, taken) = kept before.1 in
            let low : i < old.shared = before.1 in
            record {
              within = omega arith;
              fits = subst (λ ts. Fits ts new.shared) (sym taken) (last-Fits old.taken.items (record { place = i; premise = p }) new.shared (omega arith) (subst (λ n. Fits old.taken.items n) (sym shared) h.fits));
            }
      ]

  pub committed_out : committed_from new (remove ps i) ≡ committed_from old ps
  committed_out =
      elim (leb_tells old.shared i) [
        | inl since ↦
            let (shared, taken) = added since.1 in
            (λ j. restored (taken j) (take (shared j) (remove ps i))) ∙ added_committed i old.shared ps old.taken.items since.1
        | inr before ↦
            let (shared, taken) = kept before.1 in
            let low : i < old.shared = before.1 in
            let more : suc new.shared ≡ old.shared = omega arith in
            ap (λ ts. restored ts (take new.shared (remove ps i))) taken ∙ kept_committed i ps p at new.shared old.taken.items (omega arith) ∙ ap (λ n. restored old.taken.items (take n ps)) more
      ]

-- an entry of an index moved down
abbrev pub one_lowered : ℕ → List (List ℕ × (Sort × ℕ)) → List (List ℕ × (Sort × ℕ))
one_lowered i [] = []
one_lowered zero (e ∷ es) = moved_down e ∷ es
one_lowered (suc i) (e ∷ es) = e ∷ one_lowered i es

pub value_lowered : (i : ℕ) (es : List (Name × Word)) (word : Word) (place : ℕ) → slice_get (values_of es) i ≡ Some word → place ≡ word.place - 1
    → map entry_seen (set_value_at es i (record { sort = word.sort; place = place })) ≡ one_lowered i (map entry_seen es)
value_lowered i [] word place at low = refl
value_lowered zero (e ∷ es) word place at low = let same : e.1 ≡ word = cc in λ j. (e.0, (sort_seen (sym same j).sort, (low ∙ ap (λ w. w.place - 1) (sym same)) j)) ∷ map entry_seen es
value_lowered (suc i) (e ∷ es) word place at low = ap (λ l. entry_seen e ∷ l) (value_lowered i es word place at low)

pub none_lowered : (i : ℕ) (es : List (Name × Word)) → slice_get (values_of es) i ≡ None → one_lowered i (map entry_seen es) ≡ map entry_seen es
none_lowered i [] at = refl
none_lowered zero (e ∷ es) at = cc
none_lowered (suc i) (e ∷ es) at = ap (λ l. entry_seen e ∷ l) (none_lowered i es at)

next_of_all : (i : ℕ) (es : List (List ℕ × (Sort × ℕ))) → one_lowered i (take i (map moved_down es) ++ drop i es) ≡ take (suc i) (map moved_down es) ++ drop (suc i) es
next_of_all zero [] = refl
next_of_all zero (e ∷ es) = refl
next_of_all (suc i) [] = refl
next_of_all (suc i) (e ∷ es) = ap (λ l. moved_down e ∷ l) (next_of_all i es)

next_from : (first j : ℕ) (es : List (List ℕ × (Sort × ℕ))) → one_lowered (plus first j) (take (plus first j) (lowered first es) ++ drop (plus first j) es) ≡ take (suc (plus first j)) (lowered first es) ++ drop (suc (plus first j)) es
next_from zero j es = next_of_all j es
next_from (suc first) j [] = refl
next_from (suc first) j (e ∷ es) = ap (λ l. e ∷ l) (next_from first j es)

-- one more entry is moved down
pub next_lowered : (first i : ℕ) (es : List (List ℕ × (Sort × ℕ))) → first ≤ i → one_lowered i (take i (lowered first es) ++ drop i es) ≡ take (i + 1) (lowered first es) ++ drop (i + 1) es
next_lowered first i es low =
    let all : plus first (i - first) ≡ i = plus_is first (i - first) ∙ omega arith in
    let next : suc i ≡ i + 1 = omega arith in
    subst (λ k. one_lowered k (take k (lowered first es) ++ drop k es) ≡ take (suc k) (lowered first es) ++ drop (suc k) es) all (next_from first (i - first) es)
    ∙ ap (λ k. take k (lowered first es) ++ drop k es) next

-- what stands behind what was taken out is moved down
pub lowered_seam : {X : Type 0} (f : X → List ℕ × (Sort × ℕ)) (first behind : ℕ) (xs : List X) → first ≤ length xs
    → lowered first (map f (take first xs ++ drop behind xs)) ≡ take first (map f xs) ++ map moved_down (drop behind (map f xs))
lowered_seam f first behind xs low =
    let long : first ≡ length (take first xs) = sym (length-take-le first xs low) in
    let start : take first (take first xs ++ drop behind xs) ≡ take first xs = ap (λ k. take k (take first xs ++ drop behind xs)) long ∙ take-append_seam (take first xs) (drop behind xs) in
    let rest : drop first (take first xs ++ drop behind xs) ≡ drop behind xs = ap (λ k. drop k (take first xs ++ drop behind xs)) long ∙ drop-append_seam (take first xs) (drop behind xs) in
    (λ j. take-map f first (take first xs ++ drop behind xs) j ++ map moved_down (drop-map f first (take first xs ++ drop behind xs) j))
    ∙ (λ j. map f (start j) ++ map moved_down (map f (rest j)))
    ∙ (λ j. sym (take-map f first xs) j ++ map moved_down (sym (drop-map f behind xs) j))

-- ---- in one pass

-- The premise at a place is taken out, where those behind it were moved aside.
pub one_aside : (i : ℕ) (ps behind first moved : List Premise) (p : Premise) → i < length ps → first ≡ take (i + 1) ps → p ≡ slice_index_or first i p → moved ≡ behind ++ reverse (drop (i + 1) ps)
    → (drop i (ps ++ reverse behind) ≡ p ∷ drop (suc i) (ps ++ reverse behind)) × (remove first i ++ reverse moved ≡ remove (ps ++ reverse behind) i)
one_aside i ps behind first moved p low first_is is moved_is =
    let next : i + 1 ≡ suc i = omega arith in
    let whole : first ≡ take (suc i) ps = first_is ∙ ap (λ n. take n ps) next in
    let long : length (take (suc i) ps) ≡ suc i = length-take-le (suc i) ps (omega arith) in
    let here : drop i first ≡ p ∷ drop (suc i) first = here_and_behind i first p (let long_first : length first ≡ suc i = ap length whole ∙ long in omega arith) is in
    let turned : reverse moved ≡ drop (suc i) ps ++ reverse behind =
    ap reverse (moved_is ∙ ap (λ n. behind ++ reverse (drop n ps)) next) ∙ reverse-append behind (reverse (drop (suc i) ps)) ∙ ap (λ l. l ++ reverse behind) (reverse-reverse (drop (suc i) ps)) in
    let joined : first ++ (drop (suc i) ps ++ reverse behind) ≡ ps ++ reverse behind =
    ap (λ l. l ++ (drop (suc i) ps ++ reverse behind)) whole ∙ sym (append_assoc (take (suc i) ps) (drop (suc i) ps) (reverse behind)) ∙ ap (λ l. l ++ reverse behind) (take-append-drop (suc i) ps) in
    let long_first : length first ≡ suc i = ap length whole ∙ long in
    let rest = drop (suc i) ps ++ reverse behind in
    let at : drop i (first ++ rest) ≡ p ∷ drop (suc i) (first ++ rest) =
    drop-append-le i first rest (omega arith) ∙ ap (λ l. l ++ rest) here ∙ ap (λ l. p ∷ l) (sym (drop-append-le (suc i) first rest (omega arith))) in (
      subst (λ l. drop i l ≡ p ∷ drop (suc i) l) joined at,
      ap (λ l. remove l i ++ reverse moved) whole ∙ (λ j. remove_end i ps j ++ turned j) ∙ sym (append_assoc (take i ps) (drop (suc i) ps) (reverse behind)) ∙ sym (remove-append ps (reverse behind) i low),
    )

-- no more names than before
pub words_without : (is : List ℕ) (ps : List Premise) → length (words_known (without is ps)) ≤ length (words_known ps)
words_without [] ps = omega arith
words_without (i ∷ is) ps =
    let xs = without is ps in
    let rest = words_without is ps in
    let parted = words_parted i xs in
    let behind = words_parted 1 (drop i xs) in
    let last = ap (λ l. length (words_known l)) (drop_again i xs) in
    let here = ap length (words_known-append (take i xs) (drop (suc i) xs)) ∙ length-append (words_known (take i xs)) (words_known (drop (suc i) xs)) in
    omega arith
