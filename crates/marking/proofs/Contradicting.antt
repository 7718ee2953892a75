-- Rows that wait since their rules read what contradicts a fact.
use Rattle.std.proofs.Common.{◌≡◌, ◌∙◌, ℕ, ◌+◌, ◌<◌, Bool, true, false, ◌||◌, List, [], ◌∷◌, ◌++◌, refl, sym, ap, subst, inl, inr, ◌⊎◌, arith}
use Rattle.std.proofs.lemmas.Bool.{cases_order}
use Rattle.std.specs.Prelude.{ℤ, pos, Some}
use Rattle.std.specs.List.{list_any}
use Rattle.tmm_model.specs.Beliefs.{are_rivals}
use Rattle.tmm_model.specs.Moments.{read_by, rule_of}
use Rattle.tmm_model.specs.Standing.{Standing}
use Rattle.list_theory.proofs.Elements.{In-left, In-right, In-cases}
use Rattle.dist_net.specs.Net.{Net}
use Rattle.row_links.specs.Lists.{IsOn}
use Rattle.undo_rows.specs.declared.row.Row.{Row as TableRow}
use Rattle.undo_rows.specs.Changes.{Logged, present as table, committed}
use Rattle.undo_rows.specs.Tables.{AreListed}
use Rattle.decision_rows.specs.declared.row.Pair.{Pair}
use Rattle.occ_tree.specs.Classes.{place_in, HaveMore}
use Rattle.occ_tree.specs.Standing.{Kept, State, present, early}
use Rattle.occ_tree.proofs.Numbered.{no_more}
use Rattle.joined.specs.Gaps.{reads_rival}
use Rattle.joined.specs.Listed.{IsListedUnder}
use Rattle.joined.proofs.Deciding.{true_false}
use Rattle.belief_table.specs.declared.erasing.Departed.{Departed}
use Rattle.belief_table.specs.declared.state.Decisions.{Decisions}
use Rattle.marking.specs.LeftMarks.{ReadsOneOf, RestsFromAll, MarksRead, ReadsRivalOf, MarksFacts, MarksLeft}
use Rattle.marking.specs.TokenMarks.{MarksToken}
use Rattle.belief_table.specs.Decided.{table_of, rule_in, AreUnder, KeepsLast}
use Rattle.marking.specs.TokenMarks.{MarksClass, MarksOwn, MarksRivals, MarksReaders, what_at, mark_at, Calls}
use Rattle.belief_table.specs.Marks.{Marks, IsAsLate}
use Rattle.belief_table.specs.Numbers.{name_in}
use Rattle.belief_table.specs.Waiting.{Dates, dates_in}
use Rattle.belief_table.proofs.Marked.{marks_none, marks_both}
use Rattle.belief_table.proofs.OfRules.{marks_alike, OfFirst, on_rule}
use Rattle.marking.proofs.Waking.{wakes_both, marks_rest}

-- where only those that wait are others, what a rollback leads back to stays
pub waiting_last : (old new : Decisions) → new ≡ record old { waiting = new.waiting } → KeepsLast old new
waiting_last old new same = record {
  rows = ap (λ (d : Decisions). committed d.rows) same;
  rules = subst (HaveMore old.rules) (sym (ap (λ (d : Decisions). d.rules) same)) (no_more old.rules);
  classes = subst (HaveMore old.classes) (sym (ap (λ (d : Decisions). d.classes) same)) (no_more old.classes);
}

-- where no premise says that something contradicts the fact, no rule reads what does
pub none_reads : (s : Standing) (fact : List ℕ) → ((f : List ℕ) → are_rivals s f fact ≡ false) → (r : List ℕ) → reads_rival s r fact ≡ false
none_reads s fact none r = by (read_by (rule_of s r))
  where
    by : (fs : List (List ℕ)) → list_any (λ f. are_rivals s f fact) fs ≡ false
    by [] = refl
    by (f ∷ fs) = ap (λ v. v || list_any (λ f. are_rivals s f fact) fs) (none f) ∙ by fs

-- then nothing is to be marked
pub no_rivals : (s : Standing) (st : State) (d : Decisions) (fact : List ℕ) (from : ℤ) → ((f : List ℕ) → are_rivals s f fact ≡ false) → MarksRivals s st fact from d d
no_rivals s st d fact from none = record {
  same = refl;
  marks = marks_none st (table_of d) (λ i row. (reads_rival s (rule_in d row) fact ≡ true) × IsAsLate st from row) (dates_in d.waiting)
      (λ i row meant. (let no : true ≡ _ = sym meant.0 ∙ none_reads s fact none (rule_in d row) in cc));
}

-- ---- one rule after the other

module _ (list : Standing) (d : Decisions) (under : AreUnder list d) (listed : AreListed (table_of d)) (to : Standing) (s : State) (fact : List ℕ) (from : ℤ) where
  -- the row is of a rule that reads what contradicts the fact, at an event no earlier
  abbrev pub Meant : TableRow Pair 8 → Type 0
  Meant row = (reads_rival to (rule_in d row) fact ≡ true) × IsAsLate s from row

  pub rivals_none : (dates : Dates) → Marks s (table_of d) (OfFirst Meant 0) dates dates
  rivals_none dates = marks_none s (table_of d) (OfFirst Meant 0) dates (λ i row of. (let less = of.0 in omega (arith, less)))

  pub rivals_next : (n : ℕ) (name : List ℕ) (rows : Logged Pair 8) (old mid new : Dates) → rows ≡ d.rows → name ≡ name_in d.rules n
      → Marks s (table_of d) (OfFirst Meant n) old mid
      → (reads_rival to name fact ≡ true → Marks s (table rows) (λ i row. IsOn ((table rows).list 1 n) i × IsAsLate s from row) mid new)
      → (reads_rival to name fact ≡ false → new ≡ mid)
      → Marks s (table_of d) (OfFirst Meant (n + 1)) old new
  rivals_next n name rows old mid new same is_name first reads other =
      marks_both s (table_of d) (OfFirst Meant n) (λ i row. (row.value.rule ≡ n) × Meant row) (OfFirst Meant (n + 1)) old mid new
      apart
      (λ i row of. (let less = of.0 in (omega (arith, less), of.1)))
      (λ i row of. (let is = of.0 in (omega (arith, is), of.1)))
      first
      (by (reads_rival to name fact) refl)
    where
      apart : (i : ℕ) (row : TableRow Pair 8) → OfFirst Meant (n + 1) i row → OfFirst Meant n i row ⊎ ((row.value.rule ≡ n) × Meant row)
      apart i row (less, meant) = elim (cases_order row.value.rule n) [
        | inl is ↦ inr (is, meant)
        | inr apart_from ↦ elim apart_from [ inl below ↦ inl (below, meant) | inr above ↦ absurd (omega (arith, less, above)) ]
      ]

      named : (row : TableRow Pair 8) → row.value.rule ≡ n → rule_in d row ≡ name
      named row is = ap (name_in d.rules) is ∙ sym is_name

      by : (v : Bool) → reads_rival to name fact ≡ v → Marks s (table_of d) (λ i row. (row.value.rule ≡ n) × Meant row) mid new
      by true e =
          marks_alike s (table_of d) (λ i row. IsOn ((table_of d).list 1 n) i × IsAsLate s from row) (λ i row. (row.value.rule ≡ n) × Meant row) mid new
          (λ i row at. (
            (λ on. (let is = (on_rule list d under listed i n row at).0 on.0 in (is, (ap (λ r. reads_rival to r fact) (named row is) ∙ e, on.1)))),
            λ of. ((on_rule list d under listed i n row at).1 of.0, of.1.1),
          ))
          (subst (λ rs. Marks s (table rs) (λ i row. IsOn ((table rs).list 1 n) i × IsAsLate s from row) mid new) same (reads e))
      by false e =
          subst (Marks s (table_of d) (λ i row. (row.value.rule ≡ n) × Meant row) mid) (sym (other e))
          (marks_none s (table_of d) (λ i row. (row.value.rule ≡ n) × Meant row) mid
          (λ i row of. true_false (sym of.1.0 ∙ ap (λ r. reads_rival to r fact) (named row of.0) ∙ e)))

  -- all rules have been looked at
  pub rivals_all : (n : ℕ) (old new : Dates) → ((i : ℕ) (row : TableRow Pair 8) → (table_of d).row i ≡ Some row → row.value.rule < n)
      → Marks s (table_of d) (OfFirst Meant n) old new → Marks s (table_of d) (λ i row. Meant row) old new
  rivals_all n old new within = marks_alike s (table_of d) (OfFirst Meant n) (λ i row. Meant row) old new (λ i row at. ((λ of. of.1), λ meant. (within i row at, meant)))

-- ---- one fact after the other

module _ (to : Standing) (s : State) where
  pub facts_none : (d : Decisions) → MarksFacts to s [] d d
  facts_none d = record {
    same = refl;
    marks = marks_none s (table_of d) (λ i row. ReadsRivalOf to (rule_in d row) [] × IsAsLate s (pos 0) row) (dates_in d.waiting) (λ i row meant. meant.0.1);
  }

  pub facts_next : (front : List (List ℕ)) (fact : List ℕ) (old mid new : Decisions) → MarksFacts to s front old mid → MarksRivals to s fact (pos 0) mid new → MarksFacts to s (front ++ fact ∷ []) old new
  facts_next front fact old mid new p q = record {
    same = q.same ∙ ap (λ (d : Decisions). record d { waiting = new.waiting }) p.same;
    marks = marks_both s (table_of old) (λ i row. ReadsRivalOf to (rule_in old row) front × IsAsLate s (pos 0) row)
        (λ i row. (reads_rival to (rule_in old row) fact ≡ true) × IsAsLate s (pos 0) row)
        (λ i row. ReadsRivalOf to (rule_in old row) (front ++ fact ∷ []) × IsAsLate s (pos 0) row)
        (dates_in old.waiting) (dates_in mid.waiting) (dates_in new.waiting)
        (λ i row ((f, at, reads), late). elim (In-cases front (fact ∷ []) f at) [
          | inl there ↦ inl ((f, there, reads), late)
          | inr here ↦ elim here [ inl is ↦ inr (subst (λ z. reads_rival to (rule_in old row) z ≡ true) (sym is) reads, late) | inr none ↦ absurd none ]
        ])
        (λ i row ((f, at, reads), late). ((f, In-left front (fact ∷ []) f at, reads), late))
        (λ i row (reads, late). ((fact, In-right front (fact ∷ []) fact (inl refl), reads), late))
        p.marks
        (subst (λ (d : Decisions). Marks s (table_of d) (λ i row. (reads_rival to (rule_in d row) fact ≡ true) × IsAsLate s (pos 0) row) (dates_in mid.waiting) (dates_in new.waiting))
        p.same q.marks);
  }

  -- what read classes, and then facts
  pub left_marked : (was : Standing) (net : Net) (left : Departed) (old mid new : Decisions) → MarksRead was to net s left.classes left.tokens.items old mid → MarksFacts to s left.facts mid new
      → MarksLeft was to net s left old new
  left_marked was net left old mid new p q = record {
    rows = ap (λ (d : Decisions). d.rows) q.same ∙ p.rows;
    rules = ap (λ (d : Decisions). d.rules) q.same ∙ p.rules;
    listed = p.listed;
    more = subst (HaveMore old.classes) (sym classes_stay) p.more;
    numbered = λ gone at. (let (k, is) = p.numbered gone at in (k, ap (λ l. place_in l gone.class) classes_stay ∙ is));
    wakes = wakes_both s (table_of old) (λ i row. ReadsOneOf (table_of old) mid.classes left.classes i) (RestsFromAll was to net s (table_of old) mid.classes left.tokens.items)
        (λ i row. ReadsRivalOf to (rule_in old row) left.facts × IsAsLate s (pos 0) row)
        (λ i row. ReadsRivalOf to (rule_in old row) left.facts → IsAsLate s (pos 0) row → ⊥)
        (λ i row. ReadsOneOf (table_of old) new.classes left.classes i ⊎ ReadsRivalOf to (rule_in old row) left.facts)
        (λ i row. RestsFromAll was to net s (table_of old) new.classes left.tokens.items i row × (ReadsRivalOf to (rule_in old row) left.facts → IsAsLate s (pos 0) row → ⊥))
        (dates_in old.waiting) (dates_in mid.waiting) (dates_in new.waiting)
        (λ i row at on. inl (subst (λ l. ReadsOneOf (table_of old) l left.classes i) (sym classes_stay) on))
        (λ i row at (rival, late). inr rival)
        (λ i row at rests apart. (subst (λ l. RestsFromAll was to net s (table_of old) l left.tokens.items i row) (sym classes_stay) rests, apart))
        p.wakes
        (marks_rest s (table_of old) (λ i row. ReadsRivalOf to (rule_in old row) left.facts) (λ i row. IsAsLate s (pos 0) row) (dates_in mid.waiting) (dates_in new.waiting)
        (subst (λ rs. Marks s (table rs) (λ i row. ReadsRivalOf to (name_in old.rules row.value.rule) left.facts × IsAsLate s (pos 0) row) (dates_in mid.waiting) (dates_in new.waiting)) p.rows
        (subst (λ l. Marks s (table_of mid) (λ i row. ReadsRivalOf to (name_in l row.value.rule) left.facts × IsAsLate s (pos 0) row) (dates_in mid.waiting) (dates_in new.waiting)) p.rules q.marks)));
  }
    where
      classes_stay : new.classes ≡ mid.classes
      classes_stay = ap (λ (d : Decisions). d.classes) q.same

-- ---- by its class, and by what contradicts it

-- a token of a class and a fact has marked
module _ (s : Standing) (st : State) (class fact : List ℕ) (from : ℤ) (old mid new : Decisions) (own : MarksClass st class from old mid) (rivals : MarksRivals s st fact from mid new) where
  rivals_before : Marks st (table_of old) (λ i row. (reads_rival s (rule_in old row) fact ≡ true) × IsAsLate st from row) (dates_in mid.waiting) (dates_in new.waiting)
  rivals_before =
      subst (λ rs. Marks st (table rs) (λ i row. (reads_rival s (name_in old.rules row.value.rule) fact ≡ true) × IsAsLate st from row) (dates_in mid.waiting) (dates_in new.waiting)) own.rows
      (subst (λ l. Marks st (table_of mid) (λ i row. (reads_rival s (name_in l row.value.rule) fact ≡ true) × IsAsLate st from row) (dates_in mid.waiting) (dates_in new.waiting)) own.rules rivals.marks)

  pub token_marked : MarksToken s st class fact from old new
  token_marked = record {
    rows = ap (λ (d : Decisions). d.rows) rivals.same ∙ own.rows;
    rules = ap (λ (d : Decisions). d.rules) rivals.same ∙ own.rules;
    number = own.number;
    numbered = ap (λ (d : Decisions). place_in d.classes class) rivals.same ∙ own.numbered;
    marks = marks_both st (table_of old) (λ i row. IsListedUnder (table_of old) own.number i × IsAsLate st from row)
        (λ i row. (reads_rival s (rule_in old row) fact ≡ true) × IsAsLate st from row)
        (λ i row. (IsListedUnder (table_of old) own.number i ⊎ (reads_rival s (rule_in old row) fact ≡ true)) × IsAsLate st from row)
        (dates_in old.waiting) (dates_in mid.waiting) (dates_in new.waiting)
        (λ i row (asks, late). elim asks [ inl on ↦ inl (on, late) | inr rival ↦ inr (rival, late) ])
        (λ i row (on, late). (inl on, late))
        (λ i row (rival, late). (inr rival, late))
        own.marks rivals_before;
  }

-- the token of a node, which enters or leaves with others, has marked

module _ (s : Standing) (net : Net) (tree : Kept) (moving : List ℕ) (x : ℕ) (class : List ℕ) (old mid new : Decisions) (own : MarksOwn net tree moving x class old mid)
    (rivals : MarksRivals s (present tree) (what_at tree x) (early (present tree) x) mid new) where
  rows_stay : new.rows ≡ mid.rows
  rows_stay = ap (λ (d : Decisions). d.rows) rivals.same

  rules_stay : new.rules ≡ mid.rules
  rules_stay = ap (λ (d : Decisions). d.rules) rivals.same

  rivals_old : Marks (present tree) (table_of old) (λ i row. (reads_rival s (rule_in old row) (what_at tree x) ≡ true) × IsAsLate (present tree) (early (present tree) x) row)
      (dates_in mid.waiting) (dates_in new.waiting)
  rivals_old =
      subst (λ rs. Marks (present tree) (table rs) (λ i row. (reads_rival s (name_in old.rules row.value.rule) (what_at tree x) ≡ true) × IsAsLate (present tree) (early (present tree) x) row) (dates_in mid.waiting) (dates_in new.waiting))
      own.rows
      (subst (λ l. Marks (present tree) (table_of mid) (λ i row. (reads_rival s (name_in l row.value.rule) (what_at tree x) ≡ true) × IsAsLate (present tree) (early (present tree) x) row) (dates_in mid.waiting) (dates_in new.waiting))
      own.rules rivals.marks)

  pub readers_marked : MarksReaders s net tree moving x class old new
  readers_marked = record {
    rows = rows_stay ∙ own.rows;
    rules = rules_stay ∙ own.rules;
    number = own.number;
    numbered = ap (λ (d : Decisions). place_in d.classes class) rivals.same ∙ own.numbered;
    spares = own.spares;
    spared = own.spared;
    marks = marks_both (present tree) (table_of old)
        (λ i row. IsListedUnder (table_of old) own.number i × IsAsLate (present tree) (early (present tree) x) row × (own.spares row.value.trigger ≡ false))
        (λ i row. (reads_rival s (rule_in old row) (what_at tree x) ≡ true) × IsAsLate (present tree) (early (present tree) x) row)
        (λ i row. Calls s (present tree) (table_of old) (mark_at tree x own.number own.spares) i row (rule_in old row))
        (dates_in old.waiting) (dates_in mid.waiting) (dates_in new.waiting)
        (λ i row (late, asks). elim asks [ inl on ↦ inl (on.0, late, on.1) | inr rival ↦ inr (rival, late) ])
        (λ i row (on, late, unspared). (late, inl (on, unspared)))
        (λ i row (rival, late). (late, inr rival))
        own.marks rivals_old;
  }
