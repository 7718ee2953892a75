-- What edits leave.
use Rattle.std.proofs.Common.{◌≡◌, ◌≢◌, ℕ, Bool, true, false, cond, List, [], ◌∷◌, ◌++◌, Option, Some, None, IsSome, refl, sym, ap, ◌∙◌, subst, slice_index_or, slice_set, option_map, append_assoc, length, ◌↔◌, ◌*◌, ◌^◌, ◌<◌, arith}
use Rattle.std.proofs.lemmas.Bool.{cond-false, false≢true, both_ways}
use Rattle.row_links.specs.Lists.{Lists, IsOn, without}
use Rattle.row_links.specs.Families.{list_in, GrowEach}
use Rattle.undo_rows.specs.declared.row.Row.{Row}
use Rattle.undo_rows.specs.declared.change.Change.{Change}
use Rattle.undo_rows.specs.declared.change.Change.TheVariants.{Entered, Removed}
use Rattle.undo_rows.specs.Tables.{Table, AreListed, StandsUnder, live, live_table, with_row, head_of, is_head, with_new, without_row}
use Rattle.undo_rows.specs.Changes.{Stays, undone, table_in}
use Rattle.undo_rows.specs.RowsInside.{CanUndoAll, AreLogged, IsRows}
use Rattle.undo_rows.specs.Steps.{LeadsBack}
use Rattle.undo_rows.proofs.Undoing.{CanUndoAll-more, AreAsMany-from_growth}
use Rattle.undo_rows.proofs.Written.{AreListed-like, with_row-same, with_row-other, with_row-back, row_by, slots_set, steps}
use Rattle.undo_rows.proofs.Gone.{AreLogged-removed, AreLogged-written}
use Rattle.undo_rows.proofs.Listing.{listed_removed, present_removed, listed_added, present_added, undone-none}

module _ {T : Type 0} {F : ℕ} where
  pub not_gone : (r : Row T F) → IsSome (live (Some r)) → r.gone ≡ false
  not_gone r is = by r.gone refl is
    where
      by : (t : Bool) → r.gone ≡ t → IsSome (cond t None (Some r)) → r.gone ≡ false
      by true gone is = absurd (false≢true is)
      by false stays is = stays

  -- a row is on the lists of its heads
  pub on_lists : (t : Table T F) (x : ℕ) (r : Row T F) → AreListed t → t.row x ≡ Some r → r.gone ≡ false → (f h : ℕ) → head_of r f ≡ Some h → IsOn (t.list f h) x
  on_lists t x r listed there stays f h head = (listed.each x f h).1 (r, ap live there ∙ cond-false r.gone None (Some r) stays, head)

  -- the fields hold the present table, and lead back to the same committed one
  pub record EditIs (slots new_slots : List (Option (Row T F))) (families new_families : List Lists) (log new_log : List (Change T)) (present : Table T F) : Type 0 where
    pub rows : IsRows new_slots new_families new_log
    pub present_is : live_table (table_in new_slots new_families) ≡ present
    pub committed_is : live_table (undone new_log (table_in new_slots new_families)) ≡ live_table (undone log (table_in slots families))

  -- a live row of which the heads are read first is taken off its lists
  pub removes : (slots : List (Option (Row T F))) (links new_links : List Lists) (x : ℕ) (read r : Row T F) (log unlinked new_log : List (Change T)) → slice_index_or slots x None ≡ Some read → slice_index_or slots x None ≡ Some r → IsSome (live (slice_index_or slots x None)) → ((f h : ℕ) → list_in new_links f h ≡ cond (is_head (head_of read f) h) (without x (list_in links f h)) (list_in links f h)) → LeadsBack F links new_links log unlinked → new_log ≡ unlinked ++ Removed x ∷ [] → IsRows slots links log → EditIs slots (slice_set slots x (Some (record r { gone = true }))) links new_links log new_log (without_row (live_table (table_in slots links)) x)
  removes slots links new_links x read r log unlinked new_log at there is_live lists back pushed rows =
      let one : read ≡ r = (let both : Some read ≡ Some r = sym at ∙ there in cc) in
      let stays = not_gone r (subst (λ (o : Option (Row T F)). IsSome (live o)) there is_live) in
      let taken : (f h : ℕ) → list_in new_links f h ≡ cond (is_head (head_of r f) h) (without x (list_in links f h)) (list_in links f h) = subst (λ (q : Row T F). (f h : ℕ) → list_in new_links f h ≡ cond (is_head (head_of q f) h) (without x (list_in links f h)) (list_in links f h)) one lists in
      let removed : Row T F = record r { gone = true } in
      let new = slice_set slots x (Some removed) in
      let row : ℕ → Option (Row T F) = λ y. slice_index_or slots y None in
      let new_row : ℕ → Option (Row T F) = λ y. slice_index_or new y None in
      let written : new_row ≡ with_row row x (Some removed) = slots_set slots x r removed there in
      let here : new_row x ≡ Some removed = ap (λ (f : ℕ → Option (Row T F)). f x) written ∙ with_row-same row x (Some removed) in
      let others : (y : ℕ) → y ≢ x → new_row y ≡ row y = λ y other. ap (λ (f : ℕ → Option (Row T F)). f y) written ∙ with_row-other row x (Some removed) y other in
      let old_table = table_in slots links in
      let middle = table_in slots new_links in
      let new_table = table_in new new_links in
      let lives : live (row x) ≡ Some r = ap live there ∙ cond-false r.gone None (Some r) stays in
      let is_gone : live (new_row x) ≡ None = ap live here in
      let again : record removed { gone = false } ≡ r = ap (λ (b : Bool). record r { gone = b }) (sym stays) in
      let rows_back : with_row new_row x (option_map (λ (s : Row T F). record s { gone = false }) (new_row x)) ≡ row =
      ap (λ (o : Option (Row T F)). with_row new_row x (option_map (λ (s : Row T F). record s { gone = false }) o)) here
      ∙ ap (λ (s : Row T F). with_row new_row x (Some s)) again
      ∙ ap (λ (f : ℕ → Option (Row T F)). with_row f x (Some r)) written
      ∙ with_row-back row x (Some removed) (Some r) there in
      let undoes : CanUndoAll new_links unlinked middle = back.undoes slots rows.undoes in
      let s = steps new_links unlinked new_log (Removed x) middle new_table pushed undoes tt (λ i. record { row = rows_back i; list = middle.list }) in
      let leads : undone new_log new_table ≡ undone log old_table = s.leads ∙ back.committed slots in
      record {
        rows = record {
          now_listed = listed_removed old_table new_table x r rows.now_listed lives is_gone others taken;
          then_listed = subst AreListed (sym leads) rows.then_listed;
          undoes = s.undoes;
          few = rows.few;
          gone = AreLogged-removed row new_row log new_log back.longer.0 x others (pushed ∙ ap (λ l. l ++ Removed x ∷ []) back.longer.1) rows.gone;
        };
        present_is = present_removed old_table new_table x r rows.now_listed lives is_gone others taken;
        committed_is = ap live_table leads;
      }

  -- the same lists in more room
  pub grown_table : (slots : List (Option (Row T F))) (links grown : List Lists) → GrowEach links grown → table_in slots grown ≡ table_in slots links
  grown_table slots links grown grow = λ i. record { row = λ x. slice_index_or slots x None; list = λ f h. (grow.each f).lists h i }

  -- the row stands at a place that held none, and all others stay
  pub record IsPut (slots new : List (Option (Row T F))) (x : ℕ) (r : Row T F) : Type 0 where
    pub free : slice_index_or slots x None ≡ None
    pub is : slice_index_or new x None ≡ Some r
    pub others : (y : ℕ) → y ≢ x → slice_index_or new y None ≡ slice_index_or slots y None

  -- so does one that is put under a key in more room
  pub put_under : (slots roomy new : List (Option (Row T F))) (x key : ℕ) (r : Row T F) → roomy ≡ slots → key ≡ x → slice_index_or roomy key None ≡ None → slice_index_or new key None ≡ Some r → ((y : ℕ) → y ≢ key → slice_index_or new y None ≡ slice_index_or roomy y None) → IsPut slots new x r
  put_under slots roomy new x key r alike same vacant changed others = subst (λ l. IsPut l new x r) alike (subst (λ k. IsPut roomy new k r) same (record { free = vacant; is = changed; others = others }))

  pub adds : (slots new : List (Option (Row T F))) (links grown new_links : List Lists) (x : ℕ) (r : Row T F) (log reserved entered new_log : List (Change T)) → IsPut slots new x r → r.gone ≡ false → reserved ≡ log → GrowEach links grown → ((f h : ℕ) → list_in new_links f h ≡ cond (is_head (head_of r f) h) (list_in grown f h ++ x ∷ []) (list_in grown f h)) → entered ≡ reserved ++ Entered x ∷ [] → LeadsBack F grown new_links entered new_log → IsRows slots links log → EditIs slots new links new_links log new_log (with_new (live_table (table_in slots links)) x r)
  adds slots new links grown new_links x r log reserved entered new_log put stays same grow lists pushed back rows =
      let row : ℕ → Option (Row T F) = λ y. slice_index_or slots y None in
      let new_row : ℕ → Option (Row T F) = λ y. slice_index_or new y None in
      let old_table = table_in slots links in
      let roomy = table_in slots grown in
      let alike : roomy ≡ old_table = grown_table slots links grown grow in
      let middle = table_in new grown in
      let new_table = table_in new new_links in
      let written : new_row ≡ with_row row x (Some r) = row_by new_row row x (Some r) put.is put.others in
      let rows_back : with_row new_row x None ≡ row = ap (λ (f : ℕ → Option (Row T F)). with_row f x None) written ∙ with_row-back row x (Some r) None put.free in
      let all : CanUndoAll grown reserved roomy =
      CanUndoAll-more links grown (AreAsMany-from_growth links grown grow) reserved roomy
      (subst (CanUndoAll links reserved) (sym alike) (subst (λ l. CanUndoAll links l old_table) (sym same) rows.undoes)) in
      let s = steps grown reserved entered (Entered x) roomy middle pushed all tt (λ i. record { row = rows_back i; list = roomy.list }) in
      let undoes : CanUndoAll new_links new_log new_table = back.undoes new s.undoes in
      let leads : undone new_log new_table ≡ undone log old_table = back.committed new ∙ s.leads ∙ ap (undone reserved) alike ∙ ap (λ l. undone l old_table) same in
      let from_old : (f h : ℕ) → list_in new_links f h ≡ cond (is_head (head_of r f) h) (list_in links f h ++ x ∷ []) (list_in links f h) = λ f h. lists f h ∙ ap (λ l. cond (is_head (head_of r f) h) (l ++ x ∷ []) l) ((grow.each f).lists h) in
      record {
        rows = record {
          now_listed = listed_added old_table new_table x r rows.now_listed put.free put.is stays put.others from_old;
          then_listed = subst AreListed (sym leads) rows.then_listed;
          undoes = undoes;
          few = rows.few;
          gone = AreLogged-written row new_row log new_log (Entered x ∷ [] ++ back.longer.0) x (Some r) written
              (back.longer.1 ∙ ap (λ l. l ++ back.longer.0) (pushed ∙ ap (λ l. l ++ Entered x ∷ []) same) ∙ append_assoc log (Entered x ∷ []) back.longer.0)
              (λ q is gone. let e : r ≡ q = cc in absurd (both_ways q.gone (ap (λ (z : Row T F). z.gone) (sym e) ∙ stays) gone))
              rows.gone;
        };
        present_is = present_added old_table new_table x r rows.now_listed put.free put.is stays put.others from_old;
        committed_is = ap live_table leads;
      }

  -- a number that no row has is one that none had
  pub was_free : (slots : List (Option (Row T F))) (links : List Lists) (log : List (Change T)) (x : ℕ) → slice_index_or slots x None ≡ None → (live_table (undone log (table_in slots links))).row x ≡ None
  was_free slots links log x free = ap live (undone-none x log (table_in slots links) free)

  -- rows of which those are still there that were live, and nothing is logged
  pub finished : (slots new : List (Option (Row T F))) (links new_links : List Lists) (log : List (Change T)) → length log ≡ 0 → new_links ≡ links → ((x : ℕ) → live (slice_index_or new x None) ≡ live (slice_index_or slots x None)) → AreLogged (λ x. slice_index_or new x None) log → AreListed (table_in slots links) → F * 8 < 2 ^ 63 → IsRows new new_links log
  finished slots new links new_links [] none same lives gone listed few =
      let here : AreListed (table_in new new_links) =
      AreListed-like (table_in slots links) (table_in new new_links) (ap (λ (l : List Lists). list_in l) (sym same))
      (λ x f h. subst (λ (o : Option (Row T F)). StandsUnder (live (slice_index_or slots x None)) f h ↔ StandsUnder o f h) (sym (lives x)) (λ s. s, λ s. s)) listed in
      record { now_listed = here; then_listed = here; undoes = tt; gone = gone; few = few }
  finished slots new links new_links (c ∷ log) none same lives gone listed few = absurd (omega (arith, none))

  -- ---- more room alone

  pub grown_rows : (slots same : List (Option (Row T F))) (links grown : List Lists) (log reserved : List (Change T)) → same ≡ slots → reserved ≡ log → GrowEach links grown → IsRows slots links log → IsRows same grown reserved
  grown_rows slots same links grown log reserved alike alike_log grow rows =
      let t : table_in slots grown ≡ table_in slots links = grown_table slots links grown grow in
      let here : IsRows slots grown log = record {
        now_listed = subst AreListed (sym t) rows.now_listed;
        then_listed = subst (λ u. AreListed (undone log u)) (sym t) rows.then_listed;
        undoes = CanUndoAll-more links grown (AreAsMany-from_growth links grown grow) log (table_in slots grown) (subst (CanUndoAll links log) (sym t) rows.undoes);
        gone = rows.gone;
        few = rows.few;
      } in
      subst (λ l. IsRows l grown reserved) (sym alike) (subst (IsRows slots grown) (sym alike_log) here)

  pub grown_stays : (slots same : List (Option (Row T F))) (links grown : List Lists) (log reserved : List (Change T)) (places spare more : ℕ) → same ≡ slots → reserved ≡ log → GrowEach links grown → Stays (record { rows = slots; families = links; places = places; log = log; spare = spare }) (record { rows = same; families = grown; places = places; log = reserved; spare = more })
  grown_stays slots same links grown log reserved places spare more alike alike_log grow =
      let t : table_in same grown ≡ table_in slots links = ap (λ l. table_in l grown) alike ∙ grown_table slots links grown grow in
      record { present = ap live_table t; committed = ap (λ l. live_table (undone l (table_in same grown))) alike_log ∙ ap (λ u. live_table (undone log u)) t }
