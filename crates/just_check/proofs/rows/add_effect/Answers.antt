use Rattle.std.proofs.Common.{◌≡◌, ◌∙◌, ◌<◌, length, sym, ap, subst, rules, arith, w64, to_z, of_z}
use Rattle.std.proofs.lemmas.Int.{to_z-of_z}
use Rattle.std.specs.Prelude.{Result, Ok, Err, IfOk, OnOk, ◌+ℤ◌, Some, pos, ◌≤ℤ◌, FitsSigned}
use Rattle.std.proofs.lemmas.Result.{IfOk-weaker}
use Rattle.tmm_model.specs.declared.bound.Bound.TheVariants.{Finite}
use Rattle.tmm_model.specs.declared.premise.Premise.TheVariants.{Rule}
use Rattle.tmm_model.specs.Lines.{IsNumber, IsBound, IsRange}
use Rattle.tmm_model.specs.Moments.{After}
use Rattle.tmm_model.specs.Sorts.{class_in}
use Rattle.tmm_model.specs.Standing.{premise_in}
use Rattle.dist_net.specs.Net.{Net}
use Rattle.spots.specs.Forest.{Member, member, Enters, child_member, moment_at}
use Rattle.spots.specs.OfLists.{IsForestOf}
use Rattle.occ_tree.specs.Dated.{IsDatedBy}
use Rattle.occ_tree.specs.Edits.{Enters as EntersTree}
use Rattle.occ_tree.specs.OfLists.{IsTreeOf}
use Rattle.occ_tree.specs.Places.{forest}
use Rattle.occ_tree.specs.Standing.{present, early}
use Rattle.occ_tree.proofs.KeptDates.{effects_keep_dates}
use Rattle.occ_tree.proofs.Members.{growing_enters}
use Rattle.spots.specs.declared.link.Link.{Link}
use Rattle.spots.proofs.Nodes.{node_at}
use Rattle.spots.specs.Growing.{Adds, effect_shape, MayEnter}
use Rattle.spots.specs.Rules.{IsRuleOf}
use Rattle.supports.proofs.Entering.{is_trigger, delay_is, effect_adds, word_is}
use Rattle.spots.proofs.Grown.{adds_seen}
use Rattle.spots.proofs.Rules.{rule_there}
use Rattle.just_check.proofs.rows.add_effect.Goals as goal

pub unreachable-requires : goal.unreachable-requires
unreachable-requires c =
    let s = c.args.standing.now.present in
    let is_rule : IsRuleOf s c.args.rule = rule_there s c.requires.seen.1.network.sound (moment_at (forest c.args.tree.now) c.args.x) c.args.rule c.requires.rule in
    search rules

pub insert_child-requires-clause-trigger : goal.insert_child-requires-clause-trigger
insert_child-requires-clause-trigger c =
    let s = c.args.standing.now.present in
    let f = forest c.args.tree.now in
    let (m, at) = node_at f c.args.x c.requires.live in
    let few = (c.row.ensures m at).rules in
    let may : MayEnter s f c.args.x c.args.rule = record {
      stands = c.requires.rule;
      room = λ n at_n. let same : m ≡ n = (let g : Some m ≡ Some n = sym at ∙ at_n in cc) in subst (λ (k : Member). length k.links < 100000) same (omega (arith, few));
      new = c.requires.new;
    } in
    (m, at, is_trigger s c.requires.seen.0 f c.requires.seen.1 c.args.x m at c.args.rule may)

pub insert_child-requires-clause-delay : goal.insert_child-requires-clause-delay
insert_child-requires-clause-delay c =
    let s = c.args.standing.now.present in
    let f = forest c.args.tree.now in
    let lo = c.in-Some-Rule.lo in
    let fits : FitsSigned w64 c.in-Some-Rule.lo = search rules in
    let rule = Rule c.in-Some-Rule.field-0-0 c.in-Some-Rule.field-0-1 lo c.in-Some-Rule.hi c.in-Some-Rule.effect c.in-Some-Rule.field-0-5 c.in-Some-Rule.field-0-6 in
    let there : premise_in s.premises c.args.rule ≡ Some rule = sym c.in-Some-Rule.ensures ∙ ap Some c.in-Some-Rule.field-0-is in
    let (m, at) = node_at f c.args.x c.requires.live in
    let few = (c.row.ensures m at).rules in
    let may : MayEnter s f c.args.x c.args.rule = record {
      stands = c.requires.rule;
      room = λ n at_n. let same : m ≡ n = (let g : Some m ≡ Some n = sym at ∙ at_n in cc) in subst (λ (k : Member). length k.links < 100000) same (omega (arith, few));
      new = c.requires.new;
    } in
    subst (λ z. IsNumber z × IsBound c.in-Some-Rule.hi × (pos 1 ≤ℤ z) × IsRange (Finite z) c.in-Some-Rule.hi) (sym (to_z-of_z w64 lo fits))
    (delay_is s c.requires.seen.0 f c.requires.seen.1 c.args.x m at c.args.rule may c.in-Some-Rule.field-0-0 c.in-Some-Rule.field-0-1 lo c.in-Some-Rule.hi c.in-Some-Rule.effect c.in-Some-Rule.field-0-5 c.in-Some-Rule.field-0-6 there)

pub insert_child-requires-clause-word : goal.insert_child-requires-clause-word
insert_child-requires-clause-word c =
    let s = c.args.standing.now.present in
    let f = forest c.args.tree.now in
    let rule = Rule c.in-Some-Rule.field-0-0 c.in-Some-Rule.field-0-1 c.in-Some-Rule.lo c.in-Some-Rule.hi c.in-Some-Rule.effect c.in-Some-Rule.field-0-5 c.in-Some-Rule.field-0-6 in
    let there : premise_in s.premises c.args.rule ≡ Some rule = sym c.in-Some-Rule.ensures ∙ ap Some c.in-Some-Rule.field-0-is in
    let (m, at) = node_at f c.args.x c.requires.live in
    let few = (c.row.ensures m at).rules in
    let may : MayEnter s f c.args.x c.args.rule = record {
      stands = c.requires.rule;
      room = λ n at_n. let same : m ≡ n = (let g : Some m ≡ Some n = sym at ∙ at_n in cc) in subst (λ (k : Member). length k.links < 100000) same (omega (arith, few));
      new = c.requires.new;
    } in
    word_is s c.requires.seen.0 f c.requires.seen.1 c.args.x m at c.args.rule may c.in-Some-Rule.field-0-0 c.in-Some-Rule.field-0-1 c.in-Some-Rule.lo c.in-Some-Rule.hi c.in-Some-Rule.effect c.in-Some-Rule.field-0-5 c.in-Some-Rule.field-0-6 there

pub returns-clause-adds : goal.returns-clause-adds
returns-clause-adds c =
    let s = c.args.standing.now.present in
    let f = forest c.args.tree.now in
    let new = forest c.insert_child.new.self in
    let r = c.args.rule in
    let lo = c.in-Some-Rule.lo in
    let hi = c.in-Some-Rule.hi in
    let effect = c.in-Some-Rule.effect in
    let class = c.class_of-class.result in
    let shape = c.effect_shape-shape.result in
    let fits : FitsSigned w64 c.in-Some-Rule.lo = search rules in
    let rule = Rule c.in-Some-Rule.field-0-0 c.in-Some-Rule.field-0-1 lo hi effect c.in-Some-Rule.field-0-5 c.in-Some-Rule.field-0-6 in
    let there : premise_in s.premises r ≡ Some rule = sym c.in-Some-Rule.ensures ∙ ap Some c.in-Some-Rule.field-0-is in
    let (m, at) = node_at f c.args.x c.requires.live in
    let few = (c.row.ensures m at).rules in
    let may : MayEnter s f c.args.x r = record {
      stands = c.requires.rule;
      room = λ n at_n. let same : m ≡ n = (let g : Some m ≡ Some n = sym at ∙ at_n in cc) in subst (λ (k : Member). length k.links < 100000) same (omega (arith, few));
      new = c.requires.new;
    } in
    let same_shape = c.effect_shape-shape.ensures ∙ ap effect_shape c.class_of-class.ensures in
    let link : Link = record { rule = r; lo = to_z w64 (of_z w64 lo); hi = hi } in
    IfOk-weaker c.insert_child.result
    (λ x. (n : Member) → member f c.args.x ≡ Some n → EntersTree c.args.tree.now c.insert_child.new.self x (child_member n link effect class shape) (Some c.args.x) (early (present c.args.tree.now) c.args.x +ℤ to_z w64 (of_z w64 lo)))
    (λ x. (net : Net) → IsForestOf s net f → Adds s net.names f new x (After (moment_at f c.args.x) r))
    (λ x enters net seen. effect_adds s net f seen c.args.x m at r may c.in-Some-Rule.field-0-0 c.in-Some-Rule.field-0-1 lo hi effect c.in-Some-Rule.field-0-5 c.in-Some-Rule.field-0-6 there new x
    (subst (λ z. Enters f new x (child_member m (record { rule = r; lo = z; hi = hi }) effect (class_in s.premises effect) (effect_shape (class_in s.premises effect)))) (to_z-of_z w64 lo fits)
    (subst (λ o. Enters f new x (child_member m (record { rule = r; lo = to_z w64 (of_z w64 lo); hi = hi }) effect o (effect_shape (class_in s.premises effect)))) c.class_of-class.ensures
    (subst (λ k. Enters f new x (child_member m (record { rule = r; lo = to_z w64 (of_z w64 lo); hi = hi }) effect class k)) same_shape (growing_enters _ _ _ _ _ _ (enters m at).grows)))))
    c.insert_child.ensures.ok

ok_both : {T E : Type 0} (P Q : T → Type 0) (r : Result T E) → IfOk r P → IfOk r Q → IfOk r (λ x. P x × Q x)
ok_both P Q (Ok x) p q = (p, q)
ok_both P Q (Err e) p q = tt

ok_on : {T E : Type 0} (P : T → Type 0) (Q : Type 0) (r : Result T E) → ((x : T) → P x → Q) → IfOk r P → OnOk r Q
ok_on P Q (Ok x) f h = f x h
ok_on P Q (Err e) f h = tt

pub returns-clause-dated : goal.returns-clause-dated
returns-clause-dated c =
    let s = c.args.standing.now.present in
    let old = c.args.tree.now in
    let new = c.insert_child.new.self in
    let t = c.args.x in
    let lo = c.in-Some-Rule.lo in
    let (m, at) = node_at (forest old) t c.requires.live in
    let link : Link = record { rule = c.args.rule; lo = to_z w64 (of_z w64 lo); hi = c.in-Some-Rule.hi } in
    let effect = c.in-Some-Rule.effect in
    let class = c.class_of-class.result in
    let shape = c.effect_shape-shape.result in
    ok_on (λ x. ((n : Member) → member (forest old) t ≡ Some n → EntersTree old new x (child_member n link effect class shape) (Some t) (early (present old) t +ℤ to_z w64 (of_z w64 lo)))
    × ((net : Net) → IsForestOf s net (forest old) → Adds s net.names (forest old) (forest new) x (After (moment_at (forest old) t) c.args.rule)))
    ((net : Net) → IsTreeOf s net old → IsDatedBy net (present new)) c.insert_child.result
    (λ x (enters, adds) net tree.
    effects_keep_dates net (present old) (present new) t x m link effect class shape at (enters m at).grows
    (s, adds_seen s net (forest old) (forest new) x (After (moment_at (forest old) t) c.args.rule) (adds net tree.seen) c.requires.new tree.seen) tree.dated)
    (ok_both _ _ c.insert_child.result c.insert_child.ensures.ok (returns-clause-adds c))
