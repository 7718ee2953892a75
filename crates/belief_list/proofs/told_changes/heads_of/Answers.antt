use Rattle.std.proofs.Common.{◌∙◌, Vec, Global, vec_len, vec_capacity, sym, ap, subst, arith}
use Rattle.std.specs.List.{All}
use Rattle.std.specs.Option.{is_some}
use Rattle.std.proofs.lemmas.List.Elements.{All-push}
use Rattle.list_theory.proofs.Elements.{both}
use Rattle.spots.specs.Forest.{member}
use Rattle.occ_tree.specs.Places.{forest}
use Rattle.occ_tree.specs.Standing.{present}
use Rattle.belief_list.specs.declared.told_changes.Headed.{Headed}
use Rattle.belief_list.specs.Heads.{IsHeaded}
use Rattle.belief_list.specs.Told.{is_told}
use Rattle.belief_list.proofs.Heads.{headed_from}
use Rattle.belief_list.proofs.Told.{pushed_same, passed_same}
use Rattle.belief_list.proofs.told_changes.heads_of.Goals.{then-is_told, else-is_told}
use Rattle.belief_list.proofs.told_changes.heads_of.Goals as goal

pub headed_of-requires : goal.headed_of-requires
headed_of-requires c = record { live = (both (is_some (member (forest c.args.tree.now) _)) _ (sym c.is_told.ensures ∙ c.if-is_told.true)).0 }

pub loop-d-preserved : goal.loop-d-preserved
loop-d-preserved c =
    let tree = c.args.tree.now in
    let k = present tree in
    let ds = c.args.differences.now in
    let i = c.loop-d.d-index in
    let old = c.loop-d.headed.items in
    let v = c.loop-d.invariant in
    elim c.if-is_told.branch [
      | then-is_told w ↦
          let h = w.headed_of.result in
          let e = w.headed_of.ensures in
          let grown = ap (λ (l : Vec Headed Global). l.items) w.headed-is ∙ w.push_reserved.ensures.items in
          let passes = sym c.is_told.ensures ∙ w.if-is_told.true in
          let live = (both (is_some (member (forest tree) _)) _ passes).0 in
          record {
            capacity = ap (λ (l : Vec Headed Global). vec_capacity l) w.headed-is ∙ w.push_reserved.ensures.capacity ∙ v.capacity;
            few = omega (arith, ap (λ (l : Vec Headed Global). vec_len l) w.headed-is, w.push_reserved.ensures.len, v.few);
            same = pushed_same (λ (z : Headed). z.difference.now) (is_told (forest tree)) old _ ds i _ c.loop-d-test.true v.same h grown e.difference passes;
            headed = subst (All (IsHeaded k)) (sym grown) (All-push (IsHeaded k) old h v.headed (headed_from k h _ e.difference live e.date e.head e.bytes));
          }
      | else-is_told w ↦
          let stayed = ap (λ (l : Vec Headed Global). l.items) w.headed-is in
          record {
            capacity = ap (λ (l : Vec Headed Global). vec_capacity l) w.headed-is ∙ v.capacity;
            few = omega (arith, ap (λ (l : Vec Headed Global). vec_len l) w.headed-is, v.few);
            same = passed_same (λ (z : Headed). z.difference.now) (is_told (forest tree)) old _ ds i _ c.loop-d-test.true v.same stayed (sym c.is_told.ensures ∙ w.if-is_told.false);
            headed = subst (All (IsHeaded k)) (sym stayed) v.headed;
          }
    ]
