use Rattle.std.proofs.Common.{◌≡◌, ◌∙◌, ℕ, List, [], ◌∷◌, ◌++◌, map, length, ap, sym, subst, arith}
use Rattle.std.proofs.lemmas.List.{append_assoc, append-nil, map-append}
use Rattle.std.specs.Prelude.{Option, IfSome, is_some, nat_eq}
use Rattle.std.specs.List.{IsDistinct}
use Rattle.row_links.specs.Lists.{IsOn}
use Rattle.undo_rows.specs.declared.row.Row.{Row as TableRow}
use Rattle.decision_rows.specs.declared.row.Pair.{Pair}
use Rattle.occ_tree.proofs.Walked.{from_on, from_first, from_next, first_is_on, next_is_on}
use Rattle.belief_table.specs.Decided.{table_of}
use Rattle.belief_net.proofs.KindEvents.{trigger_in, trigger_is, none_once, rows_none, rows_own, rows_all, rows_once}
use Rattle.belief_table.proofs.Marked.{listed_row}
use Rattle.belief_net.proofs.kind_events.events_with.Goals.{In_default-next}
use Rattle.belief_net.proofs.kind_events.events_with.Goals as goal

pub loop-next-init : goal.loop-next-init
loop-next-init c =
    let list = (table_of c.args.decisions.now).list 1 c.in-Some.number in (
      [],
      sym (ap (λ o. from_on o list) c.first-next.ensures.first ∙ from_first list),
      λ i is. first_is_on list i (sym c.first-next.ensures.first ∙ is),
      c.new-found.ensures.items,
    )

pub pair-trigger-requires : goal.pair-trigger-requires
pair-trigger-requires c =
    let (r, at) = listed_row (table_of c.args.decisions.now) c.first-next.ensures.listed 1 c.in-Some.number c.in-Some-next.i (c.loop-next.invariant.2 c.in-Some-next.i c.in-Some-next.is) in
    ap is_some at

pub next-next-requires : goal.next-next-requires
next-next-requires c = (c.in-Some.number, c.loop-next.invariant.2 c.in-Some-next.i c.in-Some-next.is)

pub loop-next-smaller : goal.loop-next-smaller
loop-next-smaller c =
    let list = (table_of c.args.decisions.now).list 1 c.in-Some.number in
    let i = c.in-Some-next.i in
    let on = c.loop-next.invariant.2 i c.in-Some-next.is in
    let here : from_on c.loop-next.next list ≡ i ∷ from_on c.next-next.result list =
    ap (λ o. from_on o list) c.in-Some-next.is ∙ from_next list i (c.first-next.ensures.listed.once 1 c.in-Some.number) on ∙ ap (λ o. i ∷ from_on o list) (sym (c.next-next.ensures c.in-Some.number on)) in
    omega (arith, ap length here)

pub loop-next-preserved : goal.loop-next-preserved
loop-next-preserved c =
    let t = table_of c.args.decisions.now in
    let list = t.list 1 c.in-Some.number in
    let i = c.in-Some-next.i in
    let on = c.loop-next.invariant.2 i c.in-Some-next.is in
    let (front, is, there, told) = c.loop-next.invariant in
    let (row, at) = listed_row t c.first-next.ensures.listed 1 c.in-Some.number i on in
    let told_pair = subst (λ (o : Option (TableRow Pair 8)). IfSome o (λ r. (c.pair-trigger.result.0 ≡ r.value.trigger) × (c.pair-trigger.result.1 ≡ r.value.rule))) at c.pair-trigger.ensures in
    let trigger : c.pair-trigger.result.0 ≡ trigger_in t i = told_pair.0 ∙ sym (trigger_is t i row at) in
    let here : from_on c.loop-next.next list ≡ i ∷ from_on c.next-next.result list =
    ap (λ o. from_on o list) c.in-Some-next.is ∙ from_next list i (c.first-next.ensures.listed.once 1 c.in-Some.number) on ∙ ap (λ o. i ∷ from_on o list) (sym (c.next-next.ensures c.in-Some.number on)) in (
      front ++ i ∷ [],
      is ∙ ap (λ l. front ++ l) here ∙ sym (append_assoc front (i ∷ []) (from_on c.next-next.result list)),
      λ j next. next_is_on list i j (sym (c.next-next.ensures c.in-Some.number on) ∙ next),
      c.push_reserved.ensures.items ∙ ap (λ (l : List ℕ). l ++ c.pair-trigger.result.0 ∷ []) (c.in_ok-reserve.ensures.items ∙ told)
          ∙ ap (λ (x : ℕ). map (trigger_in t) front ++ x ∷ []) trigger ∙ sym (map-append (trigger_in t) front (i ∷ [])),
    )

-- at the end all rows of the rule are told
whole : (c : In_default-next) → map (trigger_in (table_of c.args.decisions.now)) ((table_of c.args.decisions.now).list 1 c.in-Some.number) ≡ c.loop-next.found.items
whole c =
    let t = table_of c.args.decisions.now in
    let list = t.list 1 c.in-Some.number in
    let (front, is, there, told) = c.loop-next.invariant in
    ap (map (trigger_in t)) (is ∙ ap (λ o. front ++ from_on o list) c.in_default-next.is ∙ append-nil front) ∙ sym told

pub returns-clause-own : goal.returns-clause-own
returns-clause-own c = λ x on.
    let (s, under) = c.requires in
    rows_own s c.args.decisions.now c.args.rule.now c.in-Some.number under c.first-next.ensures.listed c.find.ensures.own (sym c.find.ensures.place ∙ c.in-Some.is) x
    (subst (λ (l : List ℕ). IsOn l x) (sym (whole c)) on)

pub returns-clause-all : goal.returns-clause-all
returns-clause-all c = λ x has.
    let (s, under) = c.requires in
    subst (λ (l : List ℕ). IsOn l x) (whole c)
    (rows_all s c.args.decisions.now c.args.rule.now c.in-Some.number under c.first-next.ensures.listed c.find.ensures.own (sym c.find.ensures.place ∙ c.in-Some.is) x has)

pub returns-clause-once : goal.returns-clause-once
returns-clause-once c = λ each.
    let (s, under) = c.requires in
    subst (IsDistinct nat_eq) (whole c)
    (rows_once s c.args.decisions.now c.args.rule.now c.in-Some.number under c.first-next.ensures.listed c.find.ensures.own (sym c.find.ensures.place ∙ c.in-Some.is) each)

pub returns-in_default-clause-all : goal.returns-in_default-clause-all
returns-in_default-clause-all c = λ x has.
    let (s, under) = c.requires in
    absurd (rows_none s c.args.decisions.now c.args.rule.now under c.find.ensures.own (sym c.find.ensures.place ∙ c.in_default.is) x has)

pub returns-in_default-clause-once : goal.returns-in_default-clause-once
returns-in_default-clause-once c = λ each. subst (IsDistinct nat_eq) (sym c.new-found.ensures.items) none_once
