-- One list read and written, and lists copied.
use Rattle.std.proofs.Common.{◌≡◌, ◌≢◌, ℕ, zero, suc, eqb, ◌+◌, ◌<◌, ◌≤◌, List, [], ◌∷◌, ◌++◌, length, take, refl, sym, ap, ◌∙◌, subst, inl, inr, arith, slice_index_or, slice_set, get_or-set_same, get_or-set_other, le_refl, eq-eqb, ne_eqb, insert, remove}
use Rattle.std.proofs.lemmas.Bool.{cases_eq, cases_lt, cond-true, cond-false}
use Rattle.std.proofs.lemmas.List.{get_or_past, length-take-le, take_more}
use Rattle.undo_lists.specs.Rooms.{ListRoom, list_at, items_in, rooms_in, with_list, with_item, without_item, HaveGrown}

module _ {T : Type 0} where
  -- ---- by number

  pub with_list-same : (lists : ℕ → List T) (n : ℕ) (items : List T) → with_list lists n items n ≡ items
  with_list-same lists n items = cond-true (eqb n n) items (lists n) (eq-eqb n n refl)

  pub with_list-other : (lists : ℕ → List T) (n : ℕ) (items : List T) (m : ℕ) → m ≢ n → with_list lists n items m ≡ lists m
  with_list-other lists n items m other = cond-false (eqb m n) items (lists m) (ne_eqb m n other)

  pub list_by : (new old : ℕ → List T) (n : ℕ) (items : List T) → new n ≡ items → ((m : ℕ) → m ≢ n → new m ≡ old m) → new ≡ with_list old n items
  list_by new old n items here there = λ i m. at m i
    where
      at : (m : ℕ) → new m ≡ with_list old n items m
      at m =
          elim (cases_eq m n) [
            | inl same ↦ subst (λ z. new z ≡ with_list old n items z) (sym same) (here ∙ sym (with_list-same old n items))
            | inr other ↦ there m other ∙ sym (with_list-other old n items m other)
          ]

  pub with_list-back : (lists : ℕ → List T) (n : ℕ) (items was : List T) → was ≡ lists n → with_list (with_list lists n items) n was ≡ lists
  with_list-back lists n items was is = sym (list_by lists (with_list lists n items) n was (sym is) (λ m other. sym (with_list-other lists n items m other)))

  -- ---- of the lists that there are

  within_room : (lists : List (ListRoom T)) (n k : ℕ) → k < rooms_in lists n → n < length lists
  within_room lists n k room =
      elim (cases_lt n (length lists)) [
        | inl within ↦ within
        | inr past ↦
            let none = get_or_past lists n (record { items = []; room = 0 }) past in
            absurd (let few : k < 0 = subst (λ (l : ListRoom T). k < l.room) none room in omega arith)
      ]

  within_items : (lists : List (ListRoom T)) (n k : ℕ) → k < length (items_in lists n) → n < length lists
  within_items lists n k there =
      elim (cases_lt n (length lists)) [
        | inl within ↦ within
        | inr past ↦
            let none = get_or_past lists n (record { items = []; room = 0 }) past in
            absurd (let few : k < 0 = subst (λ (l : ListRoom T). k < length l.items) none there in omega arith)
      ]

  -- a list that was read by its number
  read_list : (lists : List (ListRoom T)) (n : ℕ) (l : ListRoom T) → n < length lists → l ≡ slice_index_or lists n l → l ≡ list_at lists n
  read_list [] n l within is = absurd (let few : n < 0 = within in omega arith)
  read_list (first ∷ lists) zero l within is = is
  read_list (first ∷ lists) (suc n) l within is = read_list lists n l (let few : suc n < suc (length lists) = within in omega arith) is

  -- a list that was read by its number, and has items
  pub read_there : (lists : List (ListRoom T)) (n k : ℕ) (l : ListRoom T) → k < length (items_in lists n) → l ≡ slice_index_or lists n l → l ≡ list_at lists n
  read_there lists n k l there is = read_list lists n l (within_items lists n k there) is

  module _ (lists : List (ListRoom T)) (n : ℕ) (l : ListRoom T) (within : n < length lists) where
    items-set : items_in (slice_set lists n l) ≡ with_list (items_in lists) n l.items
    items-set =
        list_by (items_in (slice_set lists n l)) (items_in lists) n l.items
        (ap (λ (q : ListRoom T). q.items) (get_or-set_same lists n l (record { items = []; room = 0 }) within))
        (λ m other. ap (λ (q : ListRoom T). q.items) (get_or-set_other lists n m l (record { items = []; room = 0 }) other))

    rooms-set : l.room ≡ rooms_in lists n → rooms_in (slice_set lists n l) ≡ rooms_in lists
    rooms-set is = λ i m. at m i
      where
        at : (m : ℕ) → rooms_in (slice_set lists n l) m ≡ rooms_in lists m
        at m =
            elim (cases_eq m n) [
              | inl same ↦ subst (λ z. rooms_in (slice_set lists n l) z ≡ rooms_in lists z) (sym same) (ap (λ (q : ListRoom T). q.room) (get_or-set_same lists n l (record { items = []; room = 0 }) within) ∙ is)
              | inr other ↦ ap (λ (q : ListRoom T). q.room) (get_or-set_other lists n m l (record { items = []; room = 0 }) other)
            ]

  -- ---- an item in or out

  -- the lists have these items now, and the room that they had
  pub record IsWritten (old new : List (ListRoom T)) (lists : ℕ → List T) : Type 0 where
    pub items : items_in new ≡ lists
    pub rooms : rooms_in new ≡ rooms_in old

  -- the list of a number was read as `was` and written as `l`
  module _ (lists : List (ListRoom T)) (n place : ℕ) (was l : ListRoom T) (read : was ≡ slice_index_or lists n was) (room : l.room ≡ was.room) where
    pub IsWritten-inserted : (item : T) → length (items_in lists n) < rooms_in lists n → l.items ≡ insert was.items place item → IsWritten lists (slice_set lists n l) (with_item (items_in lists) n place item)
    IsWritten-inserted item less is =
        let within = within_room lists n (length (items_in lists n)) less in
        let it : was ≡ list_at lists n = read_list lists n was within read in
        record {
          items = items-set lists n l within ∙ ap (with_list (items_in lists) n) (is ∙ ap (λ (q : ListRoom T). insert q.items place item) it);
          rooms = rooms-set lists n l within (room ∙ ap (λ (q : ListRoom T). q.room) it);
        }

    pub IsWritten-removed : place < length (items_in lists n) → l.items ≡ remove was.items place → IsWritten lists (slice_set lists n l) (without_item (items_in lists) n place)
    IsWritten-removed there is =
        let within = within_items lists n place there in
        let it : was ≡ list_at lists n = read_list lists n was within read in
        record {
          items = items-set lists n l within ∙ ap (with_list (items_in lists) n) (is ∙ ap (λ (q : ListRoom T). remove q.items place) it);
          rooms = rooms-set lists n l within (room ∙ ap (λ (q : ListRoom T). q.room) it);
        }

  -- ---- a list more

  items_more : (lists : List (ListRoom T)) (l : ListRoom T) → l.items ≡ [] → (n : ℕ) → items_in (lists ++ l ∷ []) n ≡ items_in lists n
  items_more [] l none zero = none
  items_more [] l none (suc n) = refl
  items_more (first ∷ lists) l none zero = refl
  items_more (first ∷ lists) l none (suc n) = items_more lists l none n

  rooms_more : (lists : List (ListRoom T)) (l : ListRoom T) (n : ℕ) → rooms_in lists n ≤ rooms_in (lists ++ l ∷ []) n
  rooms_more [] l n = omega arith
  rooms_more (first ∷ lists) l zero = le_refl first.room
  rooms_more (first ∷ lists) l (suc n) = rooms_more lists l n

  pub HaveGrown-pushed : (lists after : List (ListRoom T)) (l : ListRoom T) → l.items ≡ [] → after ≡ lists ++ l ∷ [] → HaveGrown lists after
  HaveGrown-pushed lists after l none is = subst (HaveGrown lists) (sym is) (record {
    items = λ i n. items_more lists l none n i;
    rooms = rooms_more lists l;
  })

  -- ---- copies of the lists

  items_alike : (lists copies : List (ListRoom T)) (l m : ListRoom T) → length copies ≡ length lists → items_in copies ≡ items_in lists → m.items ≡ l.items → (n : ℕ) → items_in (copies ++ m ∷ []) n ≡ items_in (lists ++ l ∷ []) n
  items_alike [] [] l m long same is zero = is
  items_alike [] [] l m long same is (suc n) = refl
  items_alike [] (copy ∷ copies) l m long same is n = absurd (let few : suc (length copies) ≡ 0 = long in omega arith)
  items_alike (list ∷ lists) [] l m long same is n = absurd (let few : 0 ≡ suc (length lists) = long in omega arith)
  items_alike (list ∷ lists) (copy ∷ copies) l m long same is zero = ap (λ (f : ℕ → List T). f zero) same
  items_alike (list ∷ lists) (copy ∷ copies) l m long same is (suc n) = items_alike lists copies l m (let e : suc (length copies) ≡ suc (length lists) = long in omega arith) (λ i k. same i (suc k)) is n

  rooms_alike : (lists copies : List (ListRoom T)) (l m : ListRoom T) → length copies ≡ length lists → ((n : ℕ) → rooms_in lists n ≤ rooms_in copies n) → l.room ≤ m.room → (n : ℕ) → rooms_in (lists ++ l ∷ []) n ≤ rooms_in (copies ++ m ∷ []) n
  rooms_alike [] [] l m long more is zero = is
  rooms_alike [] [] l m long more is (suc n) = le_refl 0
  rooms_alike [] (copy ∷ copies) l m long more is n = absurd (let few : suc (length copies) ≡ 0 = long in omega arith)
  rooms_alike (list ∷ lists) [] l m long more is n = absurd (let few : 0 ≡ suc (length lists) = long in omega arith)
  rooms_alike (list ∷ lists) (copy ∷ copies) l m long more is zero = more zero
  rooms_alike (list ∷ lists) (copy ∷ copies) l m long more is (suc n) = rooms_alike lists copies l m (let e : suc (length copies) ≡ suc (length lists) = long in omega arith) (λ k. more (suc k)) is n

  HaveGrown-both : (lists copies : List (ListRoom T)) (l m : ListRoom T) → length copies ≡ length lists → HaveGrown lists copies → m.items ≡ l.items → l.room ≤ m.room → HaveGrown (lists ++ l ∷ []) (copies ++ m ∷ [])
  HaveGrown-both lists copies l m long grown is more = record {
    items = λ i n. items_alike lists copies l m long grown.items is n i;
    rooms = rooms_alike lists copies l m long grown.rooms more;
  }

  -- one list more is copied
  pub HaveGrown-copied : (lists copies after : List (ListRoom T)) (i : ℕ) (l m : ListRoom T) → i < length lists → l ≡ slice_index_or lists i l → length copies ≡ i → HaveGrown (take i lists) copies → m.items ≡ l.items → l.room ≤ m.room → after ≡ copies ++ m ∷ [] → HaveGrown (take (i + 1) lists) after
  HaveGrown-copied lists copies after i l m within read long grown is more pushed =
      let alike : length copies ≡ length (take i lists) = omega (arith, long, within, length-take-le i lists) in
      let next : take (i + 1) lists ≡ take i lists ++ l ∷ [] = take_more lists i l within ∙ ap (λ (q : ListRoom T). take i lists ++ q ∷ []) (sym read) in
      subst (λ xs. HaveGrown xs after) (sym next) (subst (HaveGrown (take i lists ++ l ∷ [])) (sym pushed) (HaveGrown-both (take i lists) copies l m alike grown is more))

  -- ---- an item in, and out again

  pub remove-insert : (xs : List T) (i : ℕ) (x : T) → i ≤ length xs → remove (insert xs i x) i ≡ xs
  remove-insert xs zero x place = refl
  remove-insert [] (suc i) x place = absurd (let few : suc i ≤ 0 = place in omega arith)
  remove-insert (y ∷ xs) (suc i) x place = ap (λ (l : List T). y ∷ l) (remove-insert xs i x (let few : suc i ≤ suc (length xs) = place in omega arith))

  pub insert-remove : (xs : List T) (i : ℕ) (x : T) → i < length xs → x ≡ slice_index_or xs i x → insert (remove xs i) i x ≡ xs
  insert-remove [] i x place is = absurd (let few : i < 0 = place in omega arith)
  insert-remove (y ∷ xs) zero x place is = ap (λ (z : T). z ∷ xs) is
  insert-remove (y ∷ xs) (suc i) x place is = ap (λ (l : List T). y ∷ l) (insert-remove xs i x (let few : suc i < suc (length xs) = place in omega arith) is)
