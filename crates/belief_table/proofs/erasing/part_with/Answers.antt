use Rattle.std.proofs.Common.{◌≡◌, ◌<◌, [], ◌∷◌, length, take, sym, subst, arith}
use Rattle.std.proofs.lemmas.List.{take_more, take_all}
use Rattle.row_links.specs.Lists.{IsOn}
use Rattle.belief_table.specs.Erasing.{class_at}
use Rattle.belief_table.specs.Erasing.{TellsOf, fact_at, NotesOf, DropsRowsAt}
use Rattle.bearing.specs.Gone.{gone_at}
use Rattle.belief_table.proofs.Named.{last_on, last_stays}
use Rattle.belief_table.proofs.Parted.{on_at, under_dropped, tells_start, tells_next, notes_start, notes_next, drops_start, drops_next}
use Rattle.belief_table.proofs.erasing.part_with.Goals as goal

pub returns-in_err-tell-clause-last : goal.returns-in_err-tell-clause-last
returns-in_err-tell-clause-last c = c.loop-y.invariant.last

pub tell-requires : goal.tell-requires
tell-requires c = c.requires.live _ (on_at c.args.numbers.now c.loop-y.y-index (omega (arith, c.loop-y-test.true)))

pub note-requires : goal.note-requires
note-requires c = c.requires.live _ (on_at c.args.numbers.now c.loop-y.y-index (omega (arith, c.loop-y-test.true)))

pub note_fact-requires : goal.note_fact-requires
note_fact-requires c = c.requires.live _ (on_at c.args.numbers.now c.loop-y.y-index (omega (arith, c.loop-y-test.true)))

pub note_token-requires : goal.note_token-requires
note_token-requires c = c.requires.live _ (on_at c.args.numbers.now c.loop-y.y-index (omega (arith, c.loop-y-test.true)))

pub drop_rows-requires : goal.drop_rows-requires
drop_rows-requires c = let (s, under) = c.requires.under in (s, under_dropped s (IsOn (take c.loop-y.y-index c.args.numbers.now)) c.args.decisions.now c.loop-y.decisions c.loop-y.invariant.rows under)

pub loop-y-init : goal.loop-y-init
loop-y-init c = record {
  tells = tells_start c.args.tree.now c.args.departed.now.left.items;
  notes = notes_start c.args.tree.now (class_at c.args.tree.now) c.args.departed.now.classes;
  facts = notes_start c.args.tree.now (fact_at c.args.tree.now) c.args.departed.now.facts;
  tokens = notes_start c.args.tree.now (gone_at c.args.tree.now) c.args.departed.now.tokens.items;
  rows = drops_start c.args.decisions.now;
  fewer = λ f h. omega arith;
  last = last_stays c.args.decisions.now;
}

pub loop-y-preserved : goal.loop-y-preserved
loop-y-preserved c =
    let t = c.args.tree.now in
    let numbers = c.args.numbers.now in
    let i = c.loop-y.y-index in
    let inv = c.loop-y.invariant in
    let within : i < length numbers = omega (arith, c.loop-y-test.true) in
    record {
      tells = subst (λ l. TellsOf t l c.args.departed.now.left.items c.tell.new.left.items) (sym (take_more numbers i _ within))
          (tells_next t (take i numbers) (_ ∷ []) c.args.departed.now.left.items c.loop-y.departed.left.items c.tell.new.left.items inv.tells c.in_ok-tell.ensures);
      notes = subst (λ l. NotesOf (class_at t) l c.args.departed.now.classes c.note.new.classes) (sym (take_more numbers i _ within))
          (notes_next t (class_at t) (take i numbers) (_ ∷ []) c.args.departed.now.classes c.loop-y.departed.classes c.note.new.classes inv.notes c.in_ok-note.ensures);
      facts = subst (λ l. NotesOf (fact_at t) l c.args.departed.now.facts c.note_fact.new.facts) (sym (take_more numbers i _ within))
          (notes_next t (fact_at t) (take i numbers) (_ ∷ []) c.args.departed.now.facts c.loop-y.departed.facts c.note_fact.new.facts inv.facts c.in_ok-note_fact.ensures);
      tokens = subst (λ l. NotesOf (gone_at t) l c.args.departed.now.tokens.items c.note_token.new.tokens.items) (sym (take_more numbers i _ within))
          (notes_next t (gone_at t) (take i numbers) (_ ∷ []) c.args.departed.now.tokens.items c.loop-y.departed.tokens.items c.note_token.new.tokens.items inv.tokens c.in_ok-note_token.ensures);
      rows = subst (λ l. DropsRowsAt (IsOn l) c.args.decisions.now c.drop_rows.new.decisions) (sym (take_more numbers i _ within))
          (drops_next (take i numbers) _ c.args.decisions.now c.loop-y.decisions c.drop_rows.new.decisions inv.rows c.in_ok-drop_rows.ensures.drops);
      fewer = λ f h. (let first = inv.fewer f h in let then_ = c.in_ok-drop_rows.ensures.fewer f h in omega (arith, first, then_));
      last = last_on c.args.decisions.now c.loop-y.decisions c.drop_rows.new.decisions inv.last c.in_ok-drop_rows.ensures.last;
    }

pub returns-clause-tells : goal.returns-clause-tells
returns-clause-tells c =
    let numbers = c.args.numbers.now in
    let all : take c.loop-y.y-index numbers ≡ numbers = take_all c.loop-y.y-index numbers (omega (arith, c.loop-y-test.false)) in
    subst (λ l. TellsOf c.args.tree.now l c.args.departed.now.left.items c.loop-y.departed.left.items) all c.loop-y.invariant.tells

pub returns-clause-notes : goal.returns-clause-notes
returns-clause-notes c =
    let numbers = c.args.numbers.now in
    let all : take c.loop-y.y-index numbers ≡ numbers = take_all c.loop-y.y-index numbers (omega (arith, c.loop-y-test.false)) in
    subst (λ l. NotesOf (class_at c.args.tree.now) l c.args.departed.now.classes c.loop-y.departed.classes) all c.loop-y.invariant.notes

pub returns-clause-facts : goal.returns-clause-facts
returns-clause-facts c =
    let numbers = c.args.numbers.now in
    let all : take c.loop-y.y-index numbers ≡ numbers = take_all c.loop-y.y-index numbers (omega (arith, c.loop-y-test.false)) in
    subst (λ l. NotesOf (fact_at c.args.tree.now) l c.args.departed.now.facts c.loop-y.departed.facts) all c.loop-y.invariant.facts

pub returns-clause-tokens : goal.returns-clause-tokens
returns-clause-tokens c =
    let numbers = c.args.numbers.now in
    let all : take c.loop-y.y-index numbers ≡ numbers = take_all c.loop-y.y-index numbers (omega (arith, c.loop-y-test.false)) in
    subst (λ l. NotesOf (gone_at c.args.tree.now) l c.args.departed.now.tokens.items c.loop-y.departed.tokens.items) all c.loop-y.invariant.tokens

pub returns-clause-rows : goal.returns-clause-rows
returns-clause-rows c =
    let numbers = c.args.numbers.now in
    let all : take c.loop-y.y-index numbers ≡ numbers = take_all c.loop-y.y-index numbers (omega (arith, c.loop-y-test.false)) in
    subst (λ l. DropsRowsAt (IsOn l) c.args.decisions.now c.loop-y.decisions) all c.loop-y.invariant.rows
