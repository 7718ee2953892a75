use Rattle.std.proofs.Common.{◌∙◌, [], ◌∷◌, ◌++◌, map, take, ap, sym}
use Rattle.std.specs.Prelude.{slice_index_or}
use Rattle.std.proofs.lemmas.List.{append-nil, append_assoc, map_more, take_all}
use Rattle.supports.proofs.BranchesEntering.{made_at}
use Rattle.supports.proofs.entries.put_under.Goals as goal

pub loop-i-init : goal.loop-i-init
loop-i-init c = sym (append-nil c.args.entries.now.items)

pub loop-i-preserved : goal.loop-i-preserved
loop-i-preserved c =
    let nodes = c.args.nodes.now in
    let i = c.loop-i.i in
    let made = made_at c.args.place in
    let old = c.args.entries.now.items in
    let x = slice_index_or nodes i 0 in
    c.push_reserved.ensures.items ∙ ap (λ l. l ++ made x ∷ []) (c.reserve.ensures.items ∙ c.loop-i.invariant) ∙ append_assoc old (map made (take i nodes)) (made x ∷ [])
    ∙ ap (λ l. old ++ l) (sym (map_more made nodes i 0 c.loop-i-test.true))

pub returns : goal.returns
returns c = c.loop-i.invariant ∙ ap (λ l. c.args.entries.now.items ++ map (made_at c.args.place) l) (take_all c.loop-i.i c.args.nodes.now c.loop-i-test.false)
