use Rattle.std.proofs.Common.{◌≡◌, ◌∙◌, ◌<◌, false, true, [], ◌∷◌, length, take, get_or, inl, inr, sym, subst, arith}
use Rattle.std.proofs.lemmas.List.{take_more, take_all}
use Rattle.row_links.specs.Lists.{IsOn}
use Rattle.row_links.proofs.Lists.{IsOn-append_cases}
use Rattle.belief_net.specs.Adding.{IsEventOf}
use Rattle.belief_table.proofs.Parted.{on_at}
use Rattle.belief_net.proofs.Ruled.{alone}
use Rattle.belief_net.proofs.ruling.has_event.Goals as goal

pub loop-x-init : goal.loop-x-init
loop-x-init c x on is = let never : false ≡ true = on in cc

pub is_event_of-requires : goal.is_event_of-requires
is_event_of-requires c = c.requires _ (on_at c.args.numbers.now c.loop-x.x-index (omega (arith, c.loop-x-test.true)))

pub loop-x-preserved : goal.loop-x-preserved
loop-x-preserved c x on is =
    let numbers = c.args.numbers.now in
    let i = c.loop-x.x-index in
    let within : i < length numbers = omega (arith, c.loop-x-test.true) in
    elim (IsOn-append_cases (take i numbers) (get_or numbers i 0 ∷ []) x (subst (λ l. IsOn l x) (take_more numbers i 0 within) on)) [
      | inl there ↦ c.loop-x.invariant x there is
      | inr here ↦ (let never : false ≡ true = sym c.if-is_event_of.false ∙ c.is_event_of.ensures.other (subst (IsEventOf c.args.tree.now c.args.kind) (alone (get_or numbers i 0) x here) is) in cc)
    ]

pub returns : goal.returns
returns c none x on is =
    let numbers = c.args.numbers.now in
    c.loop-x.invariant x (subst (λ l. IsOn l x) (sym (take_all c.loop-x.x-index numbers (omega (arith, c.loop-x-test.false)))) on) is
