-- What a log leads back to after one change more.
use Rattle.std.proofs.Common.{◌≡◌, ℕ, Bool, true, false, cond, eqb, ◌&&◌, ◌<◌, ◌≤◌, List, [], ◌∷◌, ◌++◌, length, Option, None, IfSome, refl, sym, ap, ◌∙◌, subst, inl, inr, arith, set, get_or, length-set, get_or-set_same, get_or-set_other, le_refl, le_trans, lt_of_lt_of_le, eq-eqb, ne_eqb, append_assoc}
use Rattle.std.proofs.lemmas.Bool.{cases_eq, cases_lt, cond-true, cond-false, eqb-true, false≢true}
use Rattle.std.proofs.lemmas.List.{get_or_past}
use Rattle.row_links.specs.Lists.{Lists, no_lists, IsOn, IsOnNone, last_or, list_of, without, put_after}
use Rattle.row_links.proofs.Lists.{last_or-append}
use Rattle.row_links.proofs.Sets.{is_family}
use Rattle.row_links.specs.declared.place.Gap.{Gap}
use Rattle.row_links.specs.Families.{family_of, list_in, with_list_in, GrowEach}
use Rattle.undo_rows.specs.declared.row.Row.{Row}
use Rattle.undo_rows.specs.declared.change.Change.{Change}
use Rattle.undo_rows.specs.declared.change.Change.TheVariants.{Entered, Linked, Unlinked, Replaced, Removed}
use Rattle.undo_rows.specs.Tables.{Table, with_list}
use Rattle.undo_rows.specs.Changes.{before, undone, table_in}
use Rattle.undo_rows.specs.RowsInside.{CanUndo, CanUndoAll}
use Rattle.undo_rows.specs.Steps.{AreAsMany, LeadsBack}

pub AreAsMany-from_growth : (old new : List Lists) → GrowEach old new → AreAsMany old new
AreAsMany-from_growth old new grow = record { rows = λ f. (grow.each f).rows; heads = λ f. (grow.each f).heads }

-- ---- one list set

module _ (families : List Lists) (f h : ℕ) (rows : List ℕ) (within : h < length (family_of families f).lists) where
  own_list : (k : ℕ) → get_or (set (family_of families f).lists h rows) k [] ≡ cond (eqb k h) rows (list_in families f k)
  own_list k =
      elim (cases_eq k h) [
        | inl same ↦
            ap (λ (j : ℕ). get_or (set (family_of families f).lists h rows) j []) same
            ∙ get_or-set_same (family_of families f).lists h rows [] within
            ∙ sym (cond-true (eqb k h) rows (list_in families f k) (eq-eqb k h same))
        | inr other ↦ get_or-set_other (family_of families f).lists h k rows [] other ∙ sym (cond-false (eqb k h) rows (list_in families f k) (ne_eqb k h other))
      ]

  family_is : (g : ℕ) → family_of (with_list_in families f h rows) g ≡ cond (eqb g f) (record (family_of families f) { lists = set (family_of families f).lists h rows }) (family_of families g)
  family_is g =
      elim (cases_eq g f) [
        | inl same ↦
            ap (family_of (with_list_in families f h rows)) same
            ∙ get_or-set_same families f (record (family_of families f) { lists = set (family_of families f).lists h rows }) no_lists (is_family families f h within)
            ∙ sym (cond-true (eqb g f) (record (family_of families f) { lists = set (family_of families f).lists h rows }) (family_of families g) (eq-eqb g f same))
        | inr other ↦
            get_or-set_other families f g (record (family_of families f) { lists = set (family_of families f).lists h rows }) no_lists other
            ∙ sym (cond-false (eqb g f) (record (family_of families f) { lists = set (family_of families f).lists h rows }) (family_of families g) (ne_eqb g f other))
      ]

  pub list_in-with : (g k : ℕ) → list_in (with_list_in families f h rows) g k ≡ with_list (list_in families) f h rows g k
  list_in-with g k = ap (λ (l : Lists). list_of l k) (family_is g) ∙ by (eqb g f) refl
    where
      by : (t : Bool) → eqb g f ≡ t → list_of (cond t (record (family_of families f) { lists = set (family_of families f).lists h rows }) (family_of families g)) k ≡ cond (t && eqb k h) rows (list_in families g k)
      by true same = own_list k ∙ ap (λ (j : ℕ). cond (eqb k h) rows (list_in families j k)) (sym (eqb-true g f same))
      by false other = refl

  pub lists_in-with : list_in (with_list_in families f h rows) ≡ with_list (list_in families) f h rows
  lists_in-with = λ i g k. list_in-with g k i

  pub as_many-with : AreAsMany families (with_list_in families f h rows)
  as_many-with = record {
    rows = λ g. subst (λ (l : Lists). (family_of families g).rows ≤ l.rows) (sym (family_is g)) (rows_by g (eqb g f) refl);
    heads = λ g. subst (λ (l : Lists). length (family_of families g).lists ≤ length l.lists) (sym (family_is g)) (heads_by g (eqb g f) refl);
  }
    where
      rows_by : (g : ℕ) (t : Bool) → eqb g f ≡ t → (family_of families g).rows ≤ (cond t (record (family_of families f) { lists = set (family_of families f).lists h rows }) (family_of families g)).rows
      rows_by g true same = subst (λ (j : ℕ). (family_of families j).rows ≤ (family_of families f).rows) (sym (eqb-true g f same)) (le_refl (family_of families f).rows)
      rows_by g false other = le_refl (family_of families g).rows

      heads_by : (g : ℕ) (t : Bool) → eqb g f ≡ t → length (family_of families g).lists ≤ length (cond t (record (family_of families f) { lists = set (family_of families f).lists h rows }) (family_of families g)).lists
      heads_by g true same = subst (λ (j : ℕ). length (family_of families j).lists ≤ length (set (family_of families f).lists h rows)) (sym (eqb-true g f same)) (omega (arith, length-set (family_of families f).lists h rows))
      heads_by g false other = le_refl (length (family_of families g).lists)

-- a head under which a row is
pub is_head_on : (families : List Lists) (f h x : ℕ) → IsOn (list_in families f h) x → h < length (family_of families f).lists
is_head_on families f h x on =
    elim (cases_lt h (length (family_of families f).lists)) [
      | inl within ↦ within
      | inr past ↦ absurd (false≢true (subst (λ rows. IsOn rows x) (get_or_past (family_of families f).lists h [] past) on))
    ]

pub list_in-own : (families : List Lists) (f h : ℕ) (rows : List ℕ) → h < length (family_of families f).lists → list_in (with_list_in families f h rows) f h ≡ rows
list_in-own families f h rows within =
    list_in-with families f h rows within f h
    ∙ ap (λ b. cond (b && eqb h h) rows (list_in families f h)) (eq-eqb f f refl)
    ∙ cond-true (eqb h h) rows (list_in families f h) (eq-eqb h h refl)

module _ {T : Type 0} {F : ℕ} where
  -- ---- the latest change

  pub undone-push : (log : List (Change T)) (c : Change T) (t : Table T F) → undone (log ++ c ∷ []) t ≡ undone log (before c t)
  undone-push [] c t = refl
  undone-push (d ∷ log) c t = ap (before d) (undone-push log c t)

  module _ (families : List Lists) where
    pub CanUndoAll-push : (log : List (Change T)) (c : Change T) (t : Table T F) → CanUndo families c t → CanUndoAll families log (before c t) → CanUndoAll families (log ++ c ∷ []) t
    CanUndoAll-push [] c t can all = (can, tt)
    CanUndoAll-push (d ∷ log) c t can (first, rest) = (subst (CanUndo families d) (sym (undone-push log c t)) first, CanUndoAll-push log c t can rest)

    pub CanUndoAll-pop : (log : List (Change T)) (c : Change T) (t : Table T F) → CanUndoAll families (log ++ c ∷ []) t → CanUndo families c t × CanUndoAll families log (before c t)
    CanUndoAll-pop [] c t (can, all) = (can, tt)
    CanUndoAll-pop (d ∷ log) c t (first, rest) =
        let (can, all) = CanUndoAll-pop log c t rest in
        (can, (subst (CanUndo families d) (undone-push log c t) first, all))

  -- ---- more rows and heads

  pub CanUndo-more : (old new : List Lists) → AreAsMany old new → (c : Change T) (t : Table T F) → CanUndo old c t → CanUndo new c t
  CanUndo-more old new more (Entered x) t can = tt
  CanUndo-more old new more (Linked f h x) t can = can
  CanUndo-more old new more (Unlinked f gap x) t can = record {
    head = lt_of_lt_of_le can.head (more.heads f);
    row = lt_of_lt_of_le can.row (more.rows f);
    apart = can.apart;
    before = can.before;
  }
  CanUndo-more old new more (Replaced x value) t can = tt
  CanUndo-more old new more (Removed x) t can = tt

  pub CanUndoAll-more : (old new : List Lists) → AreAsMany old new → (log : List (Change T)) (t : Table T F) → CanUndoAll old log t → CanUndoAll new log t
  CanUndoAll-more old new more [] t all = tt
  CanUndoAll-more old new more (c ∷ log) t (can, all) = (CanUndo-more old new more c (undone log t) can, CanUndoAll-more old new more log t all)

  -- ---- changes of lists that are logged

  pub LeadsBack-then : (first second third : List Lists) (log more most : List (Change T)) → LeadsBack F first second log more → LeadsBack F second third more most → LeadsBack F first third log most
  LeadsBack-then first second third log more most one two = record {
    as_many = record {
      rows = λ f. le_trans (one.as_many.rows f) (two.as_many.rows f);
      heads = λ f. le_trans (one.as_many.heads f) (two.as_many.heads f);
    };
    longer = (one.longer.0 ++ two.longer.0, two.longer.1 ∙ ap (λ l. l ++ two.longer.0) one.longer.1 ∙ append_assoc log one.longer.0 two.longer.0);
    committed = λ rows. two.committed rows ∙ one.committed rows;
    undoes = λ rows all. two.undoes rows (one.undoes rows all);
  }

  -- one change more, before which the lists were the old ones
  pub LeadsBack-push : (old new : List Lists) (log : List (Change T)) (c : Change T) → AreAsMany old new → ((rows : List (Option (Row T F))) → CanUndo new c (table_in rows new)) → ((rows : List (Option (Row T F))) → before c (table_in rows new) ≡ table_in rows old) → LeadsBack F old new log (log ++ c ∷ [])
  LeadsBack-push old new log c more can back = record {
    as_many = more;
    longer = (c ∷ [], refl);
    committed = λ rows. undone-push log c (table_in rows new) ∙ ap (undone log) (back rows);
    undoes = λ rows all.
        CanUndoAll-push new log c (table_in rows new) (can rows)
        (subst (CanUndoAll new log) (sym (back rows)) (CanUndoAll-more old new more log (table_in rows old) all));
  }

  -- ---- a change made and logged

  pub back_table : (new old : List Lists) (f h : ℕ) (rows : List ℕ) → h < length (family_of new f).lists → with_list_in new f h rows ≡ old → (slots : List (Option (Row T F))) → record (table_in slots new) { list = with_list (list_in new) f h rows } ≡ table_in slots old
  back_table new old f h rows within is slots =
      let lists : with_list (list_in new) f h rows ≡ list_in old = sym (lists_in-with new f h rows within) ∙ ap list_in is in
      λ i. record { row = (table_in slots new).row; list = lists i }

  -- the row was put last on a list
  pub LeadsBack-linked : (old new : List Lists) (log : List (Change T)) (f h x : ℕ) → h < length (family_of old f).lists → new ≡ with_list_in old f h (list_in old f h ++ x ∷ []) → with_list_in new f h (without x (list_in new f h)) ≡ old → LeadsBack F old new log (log ++ Linked f h x ∷ [])
  LeadsBack-linked old new log f h x within is back =
      let rows = list_in old f h ++ x ∷ [] in
      let more : AreAsMany old new = subst (AreAsMany old) (sym is) (as_many-with old f h rows within) in
      let own : list_in new f h ≡ rows = ap (λ (all : List Lists). list_in all f h) is ∙ list_in-own old f h rows within in
      LeadsBack-push old new log (Linked f h x) more (λ slots. ap (last_or None) own ∙ last_or-append None (list_in old f h) (x ∷ []))
      (back_table new old f h (without x (list_in new f h)) (lt_of_lt_of_le within (more.heads f)) back)

  -- the row was taken out of a list
  pub LeadsBack-unlinked : (old new : List Lists) (log : List (Change T)) (f x : ℕ) (gap : Gap) → IsOn (list_in old f gap.head) x → (gap.head < length (family_of new f).lists) × (x < (family_of new f).rows) → IsOnNone (family_of new f) x → IfSome gap.before (IsOn (list_in new f gap.head)) → new ≡ with_list_in old f gap.head (without x (list_in old f gap.head)) → with_list_in new f gap.head (put_after gap.before x (list_in new f gap.head)) ≡ old → LeadsBack F old new log (log ++ Unlinked f gap x ∷ [])
  LeadsBack-unlinked old new log f x gap on exist apart before is back =
      let within = is_head_on old f gap.head x on in
      let more : AreAsMany old new = subst (AreAsMany old) (sym is) (as_many-with old f gap.head (without x (list_in old f gap.head)) within) in
      LeadsBack-push old new log (Unlinked f gap x) more (λ slots. record { head = exist.0; row = exist.1; apart = apart; before = before })
      (back_table new old f gap.head (put_after gap.before x (list_in new f gap.head)) exist.0 back)

  -- ---- the latest change undone

  pub undone_list : (old new : List Lists) (f h : ℕ) (rows : List ℕ) (slots : List (Option (Row T F))) → h < length (family_of old f).lists → new ≡ with_list_in old f h rows → table_in slots new ≡ record (table_in slots old) { list = with_list (list_in old) f h rows }
  undone_list old new f h rows slots within is =
      let lists : list_in new ≡ with_list (list_in old) f h rows = ap list_in is ∙ lists_in-with old f h rows within in
      λ i. record { row = (table_in slots old).row; list = lists i }

  -- what holds where the latest change has been undone
  pub record IsUndone (families : List Lists) (log rest : List (Change T)) (t : Table T F) (c : Change T) : Type 0 where
    pub can : CanUndo families c t
    pub undoes : CanUndoAll families rest (before c t)
    pub leads : undone rest (before c t) ≡ undone log t

  pub latest : (families : List Lists) (log rest : List (Change T)) (t : Table T F) (c : Change T) → log ≡ rest ++ c ∷ [] → CanUndoAll families log t → IsUndone families log rest t c
  latest families log rest t c is all =
      let (can, undoes) = CanUndoAll-pop families rest c t (subst (λ l. CanUndoAll families l t) is all) in
      record { can = can; undoes = undoes; leads = sym (ap (λ l. undone l t) is ∙ undone-push rest c t) }
