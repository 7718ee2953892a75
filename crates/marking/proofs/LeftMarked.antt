-- Rows that read the classes of tokens that left, one token after the other.
use Rattle.std.proofs.Common.{◌≡◌, ◌∙◌, ℕ, true, false, List, [], ◌∷◌, ◌++◌, Some, refl, sym, ap, subst, inl, inr}
use Rattle.std.proofs.lemmas.Bool.{cases_Bool}
use Rattle.std.proofs.lemmas.List.Elements.{All-contains}
use Rattle.std.specs.Prelude.{is_some}
use Rattle.std.specs.List.{All}
use Rattle.tmm_model.specs.Standing.{Standing}
use Rattle.list_theory.proofs.Elements.{In, In-left, In-right, In-cases, Contains-from_In}
use Rattle.dist_net.specs.Net.{Net}
use Rattle.undo_rows.specs.declared.row.Row.{Row as TableRow}
use Rattle.undo_rows.specs.Changes.{Logged, present as table}
use Rattle.undo_rows.specs.Tables.{Table, AreListed}
use Rattle.decision_rows.specs.declared.row.Pair.{Pair}
use Rattle.occ_tree.specs.Classes.{place_in}
use Rattle.occ_tree.specs.Standing.{State, forest}
use Rattle.occ_tree.proofs.Numbered.{no_more, place_stays}
use Rattle.joined.specs.Listed.{IsListedUnder}
use Rattle.bearing.specs.declared.gone_tokens.Gone.{Gone}
use Rattle.belief_table.specs.declared.state.Decisions.{Decisions}
use Rattle.marking.specs.LeftMarks.{ReadsOneOf, MarksClasses, WakesGone, MarksGone, ReadsGone, RestsFromGone, MarksTokens, SayNone, RestsFromAll, MarksRead}
use Rattle.belief_table.specs.Decided.{table_of, KeepsLast}
use Rattle.bearing.specs.Gone.{BoreNot}
use Rattle.belief_table.specs.Waiting.{dates_in}
use Rattle.belief_table.proofs.Named.{more_more}
use Rattle.marking.proofs.Waking.{wakes_none, wakes_alike, wakes_both}

-- ---- one token after the other

module _ (net : Net) (s : State) where
  pub tokens_none : (d : Decisions) → AreListed (table_of d) → MarksTokens net s [] d d
  tokens_none d listed = record {
    rows = refl;
    rules = refl;
    listed = listed;
    more = no_more d.classes;
    numbered = λ gone at. absurd at;
    wakes = wakes_none s (table_of d) (λ i row. ReadsGone (table_of d) d.classes [] i) (RestsFromGone net s (table_of d) d.classes []) (dates_in d.waiting) (λ i row at. inr (λ gone k none. absurd none));
  }

  module _ (front : List Gone) (gone : Gone) (old mid new : Decisions) (p : MarksTokens net s front old mid) (q : MarksGone net s gone mid new) (last : KeepsLast mid new) where
    abbrev t : Table Pair 8
    t = table_of old

    -- one of the first, by the numbers then
    first_number : (other : Gone) (k : ℕ) → In other front → place_in new.classes other.class ≡ Some k → place_in mid.classes other.class ≡ Some k
    first_number other k there is =
        let (j, was) = p.numbered other there in
        let both : Some k ≡ Some j = sym is ∙ place_stays mid.classes new.classes last.classes other.class j was in
        let one : k ≡ j = cc in
        subst (λ z. place_in mid.classes other.class ≡ Some z) (sym one) was

    -- the last one
    last_number : (other : Gone) (k : ℕ) → gone ≡ other → place_in new.classes other.class ≡ Some k → k ≡ q.number
    last_number other k same is =
        let both : Some k ≡ Some q.number = sym is ∙ ap (λ (g : Gone). place_in new.classes g.class) (sym same) ∙ q.numbered in
        cc

    rests : (i : ℕ) (row : TableRow Pair 8) → RestsFromGone net s (table_of old) mid.classes front i row → (IsListedUnder (table_of old) q.number i → BoreNot net (forest s) gone row.value.trigger)
        → RestsFromGone net s (table_of old) new.classes (front ++ gone ∷ []) i row
    rests i row first this other k at is on = elim (In-cases front (gone ∷ []) other at) [
      | inl there ↦ first other k there (first_number other k there is) on
      | inr here ↦ elim here [
        | inl same ↦ subst (λ (g : Gone). BoreNot net (forest s) g row.value.trigger) same (this (subst (λ z. IsListedUnder (table_of old) z i) (last_number other k same is) on))
        | inr none ↦ absurd none
      ]
    ]

    pub tokens_next : MarksTokens net s (front ++ gone ∷ []) old new
    tokens_next = record {
      rows = q.rows ∙ p.rows;
      rules = q.rules ∙ p.rules;
      listed = p.listed;
      more = more_more old.classes mid.classes new.classes p.more last.classes;
      numbered = λ other at. elim (In-cases front (gone ∷ []) other at) [
        | inl there ↦ (let (k, is) = p.numbered other there in (k, place_stays mid.classes new.classes last.classes other.class k is))
        | inr here ↦ elim here [ inl same ↦ (q.number, subst (λ (g : Gone). place_in new.classes g.class ≡ Some q.number) same q.numbered) | inr none ↦ absurd none ]
      ];
      wakes = wakes_both s t (λ i row. ReadsGone (table_of old) mid.classes front i) (RestsFromGone net s (table_of old) mid.classes front)
          (λ i row. IsListedUnder (table_of old) q.number i × Unit {0}) (λ i row. IsListedUnder (table_of old) q.number i → BoreNot net (forest s) gone row.value.trigger)
          (λ i row. ReadsGone (table_of old) new.classes (front ++ gone ∷ []) i) (RestsFromGone net s (table_of old) new.classes (front ++ gone ∷ []))
          (dates_in old.waiting) (dates_in mid.waiting) (dates_in new.waiting)
          (λ i row at (other, k, there, is, on). (other, k, In-left front (gone ∷ []) other there, place_stays mid.classes new.classes last.classes other.class k is, on))
          (λ i row at (on, _). (gone, q.number, In-right front (gone ∷ []) gone (inl refl), q.numbered, on))
          (λ i row at first this. rests i row first this)
          p.wakes
          (subst (λ (rs : Logged Pair 8). WakesGone s (table rs) net gone (IsListedUnder (table rs) q.number) (dates_in mid.waiting) (dates_in new.waiting)) p.rows q.wakes);
    }

-- ---- by tokens, or by classes

module _ (was to : Standing) (net : Net) (s : State) (classes : List (List ℕ)) (tokens : List Gone) (known : All (λ (gone : Gone). In gone.class classes) tokens) (old new : Decisions) where
  class_known : (gone : Gone) → In gone tokens → In gone.class classes
  class_known gone at = All-contains (λ (g : Gone). In g.class classes) tokens gone known (Contains-from_In tokens gone at)

  pub read_by_tokens : SayNone was to → MarksTokens net s tokens old new → MarksRead was to net s classes tokens old new
  read_by_tokens none p = record {
    rows = p.rows;
    rules = p.rules;
    listed = p.listed;
    more = p.more;
    numbered = p.numbered;
    wakes = wakes_alike s (table_of old) (λ i row. ReadsGone (table_of old) new.classes tokens i) (RestsFromGone net s (table_of old) new.classes tokens)
        (λ i row. ReadsOneOf (table_of old) new.classes classes i) (RestsFromAll was to net s (table_of old) new.classes tokens) (dates_in old.waiting) (dates_in new.waiting)
        (λ i row at (gone, k, there, is, on). (gone.class, k, class_known gone there, is, on))
        (λ i row at rests late gone k there is on. (none, rests gone k there is on))
        p.wakes;
  }

  pub read_by_classes : MarksClasses s classes old new → MarksRead was to net s classes tokens old new
  read_by_classes p = record {
    rows = p.rows;
    rules = p.rules;
    listed = p.listed;
    more = p.more;
    numbered = λ gone at. p.numbered gone.class (class_known gone at);
    wakes = record {
      only = λ i. elim (p.marks.only i) [ inl same ↦ inl same | inr (row, at, asks, waits) ↦ inr (row, at, asks.0, waits) ];
      rests = λ i row at. elim (cases_Bool (is_some (dates_in new.waiting i))) [
        | inl waits ↦ inl waits
        | inr off ↦ inr (λ late gone k there is on.
            let waits = ap is_some (p.marks.all i row at ((gone.class, k, class_known gone there, is, on), late)) in
            let no : true ≡ false = sym waits ∙ off in
            absurd (cc))
      ];
    };
  }
