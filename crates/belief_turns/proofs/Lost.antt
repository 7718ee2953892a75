-- Rows of nodes that go, one node after the other.
use Rattle.std.proofs.Common.{◌≡◌, ◌∙◌, ℕ, zero, suc, ◌+◌, ◌<◌, get_or, arith, true, false, ◌||◌, eqb, eqb-true, List, [], ◌∷◌, ◌++◌, length, Option, Some, None, refl, sym, ap, subst, inl, inr, ◌⊎◌}
use Rattle.std.proofs.lemmas.Bool.{cases_Bool}
use Rattle.tmm_model.specs.Standing.{Standing}
use Rattle.list_theory.proofs.Elements.{In, In-left, In-right, In-cases}
use Rattle.dist_net.specs.Net.{Net}
use Rattle.row_links.specs.Lists.{IsOn}
use Rattle.row_links.proofs.Lists.{IsOn-first, IsOn-rest, IsOn-append_left, IsOn-append_right, IsOn-append_cases}
use Rattle.undo_rows.specs.declared.row.Row.{Row as TableRow}
use Rattle.undo_rows.specs.Tables.{Table, AreListed, StandsUnder, live}
use Rattle.decision_rows.specs.declared.row.Pair.{Pair}
use Rattle.occ_tree.specs.Classes.{place_in, HaveMore}
use Rattle.occ_tree.specs.Standing.{Kept, present}
use Rattle.occ_tree.proofs.Numbered.{place_stays}
use Rattle.joined.specs.Gaps.{reads_rival}
use Rattle.joined.specs.Listed.{IsListedUnder, IsUnderClasses}
use Rattle.joined.specs.Marking.{Mark, AsksFor}
use Rattle.belief_table.specs.declared.state.Decisions.{Decisions}
use Rattle.belief_table.specs.Decided.{table_of, rule_in, AreUnder, KeepsLast, DropsRows}
use Rattle.belief_table.specs.Erasing.{class_at}
use Rattle.marking.specs.TokenMarks.{mark_at, Calls}
use Rattle.belief_turns.specs.Leaving.{MarksNode, a_token, an_event, LosesNode, IsMarkOn, AreMarksOn, IsMarkedFor, IsLost, IsLeft, LosesRows}
use Rattle.belief_table.specs.Marks.{HaveEvents, WaitsAt}
use Rattle.belief_table.specs.Numbers.{name_in}
use Rattle.belief_table.specs.Waiting.{dates_in}
use Rattle.belief_table.proofs.Marked.{one_row}
use Rattle.belief_table.proofs.Named.{under_more}

none_some : {X : Type 0} (o : Option X) (x : X) → o ≡ None → o ≡ Some x → ⊥
none_some o x none some = let both : None ≡ Some x = sym none ∙ some in cc

alone : (x y : ℕ) → IsOn (x ∷ []) y → y ≡ x
alone x y on = elim (cases_Bool (eqb y x)) [ inl same ↦ eqb-true y x same | inr other ↦ (let no : false ≡ true = sym (ap (λ b. b || false) other) ∙ on in cc) ]

-- what stands at a place is on the list
pub on_at : (xs : List ℕ) (i d : ℕ) → i < length xs → IsOn xs (get_or xs i d)
on_at [] i d less = absurd (omega (arith, less))
on_at (x ∷ xs) zero d less = IsOn-first x xs
on_at (x ∷ xs) (suc i) d less = IsOn-rest (get_or xs i d) x xs (on_at xs i d (omega (arith, less)))

-- a row that is the same is on the same lists
listed_same : (t u : Table Pair 8) → AreListed t → AreListed u → (i k : ℕ) → t.row i ≡ u.row i → IsListedUnder t k i → IsListedUnder u k i
listed_same t u in_t in_u i k same (a, less, on) = (a, less, (in_u.each i (a + 2) k).1 (subst (λ o. StandsUnder (live o) (a + 2) k) same ((in_t.each i (a + 2) k).0 on)))

-- what a mark asks for it asks for where the row is the same and rules have the same names
asks_on : (s : Standing) (t u : Table Pair 8) → AreListed t → AreListed u → (names others : List (List ℕ)) (i : ℕ) (row : TableRow Pair 8) (mark : Mark) → t.row i ≡ u.row i → names ≡ others
    → AsksFor s t mark i row.value.trigger (name_in names row.value.rule) → AsksFor s u mark i row.value.trigger (name_in others row.value.rule)
asks_on s t u in_t in_u names others i row mark same named (inl (listed, unspared)) = inl (listed_same t u in_t in_u i mark.class same listed, unspared)
asks_on s t u in_t in_u names others i row mark same named (inr rival) = inr (subst (λ l. reads_rival s (name_in l row.value.rule) mark.fact ≡ true) named rival)

-- ---- what a node marks

record Marked (s : Standing) (net : Net) (tree : Kept) (going : List ℕ) (y : ℕ) (old new : Decisions) : Type 0 where
  rows : new.rows ≡ old.rows
  rules : new.rules ≡ old.rules
  marks : List Mark
  are : AreMarksOn net tree going (y ∷ []) (place_in new.classes) marks
  only : (i : ℕ) → (dates_in new.waiting i ≡ dates_in old.waiting i)
      ⊎ ((r : TableRow Pair 8) × ((table_of old).row i ≡ Some r) × IsMarkedFor s (present tree) old marks i r × WaitsAt (present tree) (dates_in new.waiting) i r)
  all : (i : ℕ) (row : TableRow Pair 8) → (table_of old).row i ≡ Some row → IsMarkedFor s (present tree) old marks i row → WaitsAt (present tree) (dates_in new.waiting) i row

node_marks : (s : Standing) (net : Net) (tree : Kept) (going : List ℕ) (y : ℕ) (old new : Decisions) → MarksNode s net tree going y old new → Marked s net tree going y old new
node_marks s net tree going y old new (an_event none same) = record {
  rows = ap (λ (d : Decisions). d.rows) same;
  rules = ap (λ (d : Decisions). d.rules) same;
  marks = [];
  are = record {
    own = λ mark at. absurd at;
    all = λ z class on has. absurd (none_some (class_at tree y) class none (ap (class_at tree) (sym (alone y z on)) ∙ has));
  };
  only = λ i. inl (ap (λ (d : Decisions). dates_in d.waiting i) same);
  all = λ i row at marked. absurd marked.1;
}
node_marks s net tree going y old new (a_token class of m) = record {
  rows = m.rows;
  rules = m.rules;
  marks = mark ∷ [];
  are = record {
    own = λ k at. (y, IsOn-first y [], subst (IsMarkOn net tree going (place_in new.classes) y) (is k at) this);
    all = λ z other on has. (
      mark,
      inl refl,
      subst (λ w. IsMarkOn net tree going (place_in new.classes) w mark) (sym (alone y z on)) this,
    );
  };
  only = λ i. elim (m.marks.only i) [ inl same ↦ inl same | inr (r, at, calls, waits) ↦ inr (r, at, (mark, inl refl, calls), waits) ];
  all = λ i row at (k, there, calls). m.marks.all i row at (subst (λ z. Calls s (present tree) (table_of old) z i row (rule_in old row)) (sym (is k there)) calls);
}
  where
    mark : Mark
    mark = mark_at tree y m.number m.spares

    this : IsMarkOn net tree going (place_in new.classes) y (mark_at tree y m.number m.spares)
    this = record { class = class; has_class = of; numbered = m.numbered; fact = refl; from = refl; spared = m.spared }

    is : (k : Mark) → In k (mark_at tree y m.number m.spares ∷ []) → mark_at tree y m.number m.spares ≡ k
    is k (inl same) = same
    is k (inr none) = absurd none

-- ---- none, and more

pub lost_none : (s : Standing) (net : Net) (tree : Kept) (going : List ℕ) (d : Decisions) → AreListed (table_of d) → LosesRows s net tree going [] d d
lost_none s net tree going d listed = record {
  rules = refl;
  listed = listed;
  marks = [];
  are = record { own = λ mark at. absurd at; all = λ y class on has. (let no : false ≡ true = on in cc) };
  each = λ i. inl (record { row = refl; waits = inl refl });
  none = λ i row at on. (let no : false ≡ true = on in cc);
  all = λ i row at marked. absurd marked.1;
}

module _ (s : Standing) (net : Net) (tree : Kept) (going front : List ℕ) (y : ℕ) (old d new : Decisions) (l : LosesRows s net tree going front old d) (n : LosesNode s net tree going y d new) (more : HaveMore d.classes new.classes) where
  abbrev mid : Decisions
  mid = n.mid

  m : Marked s net tree going y n.mid new
  m = node_marks s net tree going y n.mid new n.marks

  -- the row of each number, from the node on
  new_is : (i : ℕ) → (table_of new).row i ≡ (table_of n.mid).row i
  new_is i = ap (λ rows. (table_of (record mid { rows = rows })).row i) m.rows

  -- a row that is there when the node's are gone was there before
  was_there : (i : ℕ) (row : TableRow Pair 8) → (table_of n.mid).row i ≡ Some row → ((table_of d).row i ≡ Some row) × (dates_in n.mid.waiting i ≡ dates_in d.waiting i)
  was_there i row at = elim (n.drops.each i) [
    | inl same ↦ (sym same.row ∙ at, same.waits)
    | inr dropped ↦ absurd (none_some ((table_of n.mid).row i) row dropped.gone at)
  ]

  was_first : (i : ℕ) (row : TableRow Pair 8) → (table_of d).row i ≡ Some row → (table_of old).row i ≡ (table_of d).row i
  was_first i row at = elim (l.each i) [
    | inl left ↦ sym left.row
    | inr lost ↦ absurd (none_some ((table_of d).row i) row lost.lost at)
  ]

  rules_were : n.mid.rules ≡ old.rules
  rules_were = n.drops.rules ∙ l.rules

  -- what a mark asks for it asks for before and after, as rows and rules stay
  on_old : (i : ℕ) (row : TableRow Pair 8) → (table_of n.mid).row i ≡ Some row → IsMarkedFor s (present tree) n.mid m.marks i row → IsMarkedFor s (present tree) old (l.marks ++ m.marks) i row
  on_old i row at (mark, there, (late, asks)) =
      let before = (was_there i row at).0 in
      let same : (table_of n.mid).row i ≡ (table_of old).row i = at ∙ sym before ∙ sym (was_first i row before) in
      (mark, In-right l.marks m.marks mark there, (late, asks_on s (table_of n.mid) (table_of old) n.listed l.listed n.mid.rules old.rules i row mark same rules_were asks))

  on_mid : (i : ℕ) (row : TableRow Pair 8) → (table_of n.mid).row i ≡ Some row → (mark : Mark) → AsksFor s (table_of old) mark i row.value.trigger (rule_in old row) → AsksFor s (table_of n.mid) mark i row.value.trigger (rule_in n.mid row)
  on_mid i row at mark asks =
      let before = (was_there i row at).0 in
      asks_on s (table_of old) (table_of n.mid) l.listed n.listed old.rules n.mid.rules i row mark (was_first i row before ∙ before ∙ sym at) (sym rules_were) asks

  are : AreMarksOn net tree going (front ++ y ∷ []) (place_in new.classes) (l.marks ++ m.marks)
  are = record {
    own = λ mark at. elim (In-cases l.marks m.marks mark at) [
      | inl there ↦ (let (z, on, is) = l.are.own mark there in (z, IsOn-append_left front (y ∷ []) z on, on_more z mark is))
      | inr here ↦ (let (z, on, is) = m.are.own mark here in (z, IsOn-append_right front (y ∷ []) z on, is))
    ];
    all = λ z class on has. elim (IsOn-append_cases front (y ∷ []) z on) [
      | inl there ↦ (let (mark, at, is) = l.are.all z class there has in (mark, In-left l.marks m.marks mark at, on_more z mark is))
      | inr here ↦ (let (mark, at, is) = m.are.all z class here has in (mark, In-right l.marks m.marks mark at, is))
    ];
  }
    where
      on_more : (z : ℕ) (mark : Mark) → IsMarkOn net tree going (place_in d.classes) z mark → IsMarkOn net tree going (place_in new.classes) z mark
      on_more z mark is = record { class = is.class; has_class = is.has_class; numbered = place_stays d.classes new.classes more is.class mark.class is.numbered; fact = is.fact; from = is.from; spared = is.spared }

  each : (i : ℕ) → IsLeft s (present tree) (l.marks ++ m.marks) old new i ⊎ IsLost (front ++ y ∷ []) old new i
  each i = elim (l.each i) [
    | inl left ↦ elim (n.drops.each i) [
      | inl same ↦ inl (record {
        row = new_is i ∙ same.row ∙ left.row;
        waits = elim (m.only i) [
          | inl keeps ↦ elim left.waits [
            | inl before ↦ inl (keeps ∙ same.waits ∙ before)
            | inr (r, at, (mark, there, calls), waits) ↦ inr (r, at, (mark, In-left l.marks m.marks mark there, calls), keeps ∙ same.waits ∙ waits)
          ]
          | inr (r, at, marked, waits) ↦ inr (r, sym left.row ∙ sym same.row ∙ at, on_old i r at marked, waits)
        ];
      })
      | inr dropped ↦ inr (record {
        row = dropped.row;
        was = sym left.row ∙ dropped.was;
        at_gone = IsOn-append_right front (y ∷ []) dropped.row.value.trigger (subst (IsOn (y ∷ [])) (sym dropped.at_event) (IsOn-first y []));
        lost = new_is i ∙ dropped.gone;
        rests = elim (m.only i) [ inl keeps ↦ keeps ∙ dropped.rests | inr (r, at, marked, waits) ↦ absurd (none_some ((table_of n.mid).row i) r dropped.gone at) ];
      })
    ]
    | inr lost ↦ elim (n.drops.each i) [
      | inl same ↦ inr (record {
        row = lost.row;
        was = lost.was;
        at_gone = IsOn-append_left front (y ∷ []) lost.row.value.trigger lost.at_gone;
        lost = new_is i ∙ same.row ∙ lost.lost;
        rests = elim (m.only i) [
          | inl keeps ↦ keeps ∙ same.waits ∙ lost.rests
          | inr (r, at, marked, waits) ↦ absurd (none_some ((table_of n.mid).row i) r (same.row ∙ lost.lost) at)
        ];
      })
      | inr dropped ↦ absurd (none_some ((table_of d).row i) dropped.row lost.lost dropped.was)
    ]
  ]

  none : (i : ℕ) (row : TableRow Pair 8) → (table_of new).row i ≡ Some row → IsOn (front ++ y ∷ []) row.value.trigger → ⊥
  none i row at on =
      let here : (table_of n.mid).row i ≡ Some row = sym (new_is i) ∙ at in
      elim (IsOn-append_cases front (y ∷ []) row.value.trigger on) [
        | inl there ↦ l.none i row (was_there i row here).0 there
        | inr last ↦ n.drops.none i row here (alone y row.value.trigger last)
      ]

  all : (i : ℕ) (row : TableRow Pair 8) → (table_of new).row i ≡ Some row → IsMarkedFor s (present tree) old (l.marks ++ m.marks) i row → WaitsAt (present tree) (dates_in new.waiting) i row
  all i row at (mark, there, (late, asks)) =
      let here : (table_of n.mid).row i ≡ Some row = sym (new_is i) ∙ at in
      let (before, waits) = was_there i row here in
      elim (In-cases l.marks m.marks mark there) [
        | inl first ↦ elim (m.only i) [
          | inl keeps ↦ keeps ∙ waits ∙ l.all i row before (mark, first, (late, asks))
          | inr (r, at_r, marked, waits_r) ↦ subst (WaitsAt (present tree) (dates_in new.waiting) i) (one_row (table_of n.mid) i r row at_r here) waits_r
        ]
        | inr last ↦ m.all i row here (mark, last, (late, on_mid i row here mark asks))
      ]

  pub lost_next : LosesRows s net tree going (front ++ y ∷ []) old new
  lost_next = record { rules = m.rules ∙ n.drops.rules ∙ l.rules; listed = l.listed; marks = l.marks ++ m.marks; are = are; each = each; none = none; all = all }

-- ---- what stays

-- where rows at an event are dropped, the others are of the same list
pub under_drops : (s : Standing) (event : ℕ) (old new : Decisions) → DropsRows event old new → AreUnder s old → AreUnder s new
under_drops s event old new d under = record {
  classes = λ i row at.
      subst (λ l. IsUnderClasses s (name_in l) (place_in new.classes) row) (sym d.rules)
      (subst (λ l. IsUnderClasses s (name_in old.rules) (place_in l) row) (sym d.classes) (under.classes i row (was i row at)));
  named = λ i row at. subst (λ l. row.value.rule < length l) (sym d.rules) (under.named i row (was i row at));
}
  where
    was : (i : ℕ) (row : TableRow Pair 8) → (table_of new).row i ≡ Some row → (table_of old).row i ≡ Some row
    was i row at = elim (d.each i) [
      | inl same ↦ sym same.row ∙ at
      | inr dropped ↦ absurd (none_some ((table_of new).row i) row dropped.gone at)
    ]

module _ (s : Standing) (net : Net) (tree : Kept) (going gone : List ℕ) (old new : Decisions) (l : LosesRows s net tree going gone old new) where
  pub left_row : (i : ℕ) (row : TableRow Pair 8) → (table_of new).row i ≡ Some row → (table_of old).row i ≡ Some row
  left_row i row at = elim (l.each i) [
    | inl left ↦ sym left.row ∙ at
    | inr lost ↦ absurd (none_some ((table_of new).row i) row lost.lost at)
  ]

  pub lost_events : HaveEvents tree (table_of old) → HaveEvents tree (table_of new)
  lost_events events i row at = events i row (left_row i row at)

  pub lost_under : KeepsLast old new → (list : Standing) → AreUnder list old → AreUnder list new
  lost_under last list under = record {
    classes = λ i row at. under_more list old.rules new.rules old.classes new.classes row last.rules last.classes (under.named i row (left_row i row at)) (under.classes i row (left_row i row at));
    named = λ i row at. subst (λ names. row.value.rule < length names) (sym l.rules) (under.named i row (left_row i row at));
  }
