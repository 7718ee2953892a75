use Rattle.std.proofs.Common.{rules, true, false, ◌≡◌, ◌∙◌, ◌<◌, length, ap, sym, subst, FitsSigned}
use Rattle.std.specs.Int.{w128}
use Rattle.std.proofs.lemmas.Int.{to_z-of_z}
use Rattle.std.specs.Prelude.{Some, IsSome}
use Rattle.occ_tree.specs.Places.{forest}
use Rattle.supports.specs.declared.entries.Entry.{Entry}
use Rattle.supports.specs.Entries.{no_entry, entry_at}
use Rattle.supports.specs.Firsts.{IsFirstOf, IsCandidate, AreBefore}
use Rattle.supports.proofs.Found.{first_found, none_found}
use Rattle.supports.proofs.branches.Branches.first_other.Goals as goal

pub returns-in-Some : goal.returns-in-Some
returns-in-Some c =
    let (class, are) = c.requires.tokens in
    let net = c.args.order.now.net.now.present in
    let b = c.requires.branches in
    let fits : FitsSigned w128 c.args.least = search rules in
    let counted = subst (λ z. AreBefore c.args.order.now.net.now.present (forest c.args.order.now.tree.now) c.args.rows.now c.args.node z c.args.self.now.entries.items c.count_before-start.result) (to_z-of_z w128 c.args.least fits) c.count_before-start.ensures in
    let entries = c.args.self.now.entries.items in
    let n = c.past_fact-at.result in
    let lt : n < length entries = subst (λ l. n < length l) c.deref.ensures.value c.in-Some.ensures.lookup.3.0 in
    let read : c.in-Some.entry.now ≡ entry_at entries n = c.in-Some.ensures.lookup.3.1 no_entry ∙ ap (λ l. entry_at l n) c.deref.ensures.value in
    subst (λ p. IsFirstOf (IsCandidate net (forest c.args.order.now.tree.now) c.args.rows.now c.args.node c.args.least c.args.fact.now) (Some p)) (ap (λ (e : Entry). e.place) (sym read))
    (first_found net are c.requires.by_date b.entries b.sorted c.args.node c.args.least c.args.fact.now c.count_before-start.result n counted c.past_fact-at.ensures lt
    (ap (λ (e : Entry). e.node) (sym read) ∙ c.if-entry-node.true))

pub returns-in_default : goal.returns-in_default
returns-in_default c =
    let (class, are) = c.requires.tokens in
    let b = c.requires.branches in
    let fits : FitsSigned w128 c.args.least = search rules in
    let counted = subst (λ z. AreBefore c.args.order.now.net.now.present (forest c.args.order.now.tree.now) c.args.rows.now c.args.node z c.args.self.now.entries.items c.count_before-start.result) (to_z-of_z w128 c.args.least fits) c.count_before-start.ensures in
    let entries = c.args.self.now.entries.items in
    let n = c.past_fact-at.result in
    let read : c.in-Some.entry.now ≡ entry_at entries n = c.in-Some.ensures.lookup.3.1 no_entry ∙ ap (λ l. entry_at l n) c.deref.ensures.value in
    none_found c.args.order.now.net.now.present are c.requires.by_date b.entries b.sorted c.args.node c.args.least c.args.fact.now c.count_before-start.result n counted c.past_fact-at.ensures
    (λ lt own. c.if-entry-node.false (ap (λ (e : Entry). e.node) read ∙ own))

pub returns-in_default-2 : goal.returns-in_default-2
returns-in_default-2 c =
    let (class, are) = c.requires.tokens in
    let b = c.requires.branches in
    let fits : FitsSigned w128 c.args.least = search rules in
    let counted = subst (λ z. AreBefore c.args.order.now.net.now.present (forest c.args.order.now.tree.now) c.args.rows.now c.args.node z c.args.self.now.entries.items c.count_before-start.result) (to_z-of_z w128 c.args.least fits) c.count_before-start.ensures in
    let n = c.past_fact-at.result in
    none_found c.args.order.now.net.now.present are c.requires.by_date b.entries b.sorted c.args.node c.args.least c.args.fact.now c.count_before-start.result n counted c.past_fact-at.ensures
    (λ lt own. (let wrong : false ≡ true = subst IsSome c.in_default.is (c.get.ensures.lookup.2 (subst (λ l. n < length l) (sym c.deref.ensures.value) lt)) in cc))
