use Rattle.std.proofs.Common.{◌≡◌, ◌∙◌, sym, ap, subst, rules, w64, to_z, of_z}
use Rattle.std.proofs.lemmas.Int.{to_z-of_z}
use Rattle.std.specs.Prelude.{Some, None, Result, Ok, Err, IfOk, OnErr, ◌+ℤ◌, pos, ◌≤ℤ◌, FitsSigned}
use Rattle.tmm_model.specs.declared.bound.Bound.TheVariants.{Finite}
use Rattle.tmm_model.specs.declared.premise.Premise.TheVariants.{Rule}
use Rattle.tmm_model.specs.Lines.{IsNumber, IsBound, IsRange}
use Rattle.tmm_model.specs.Moments.{After}
use Rattle.tmm_model.specs.Sorts.{class_in}
use Rattle.tmm_model.specs.Standing.{premise_in}
use Rattle.dist_net.specs.Net.{Net}
use Rattle.spots.specs.Forest.{Member, member, Enters, child_member, moment_at}
use Rattle.spots.specs.declared.link.Link.{Link}
use Rattle.spots.proofs.Nodes.{node_at}
use Rattle.occ_tree.specs.Edits.{Enters as EntersTree}
use Rattle.occ_tree.specs.OfLists.{IsTreeOf}
use Rattle.occ_tree.specs.Places.{forest}
use Rattle.occ_tree.specs.Standing.{present, committed, early, forest as forest_of}
use Rattle.occ_tree.proofs.KeptDates.{effects_keep_dates}
use Rattle.occ_tree.proofs.Members.{growing_enters}
use Rattle.spots.specs.Growing.{Adds, effect_shape}
use Rattle.supports.proofs.Entering.{is_trigger, delay_is, effect_adds, word_is}
use Rattle.spots.proofs.Grown.{adds_seen}
use Rattle.belief_turns.specs.Entering.{EntersIn}
use Rattle.belief_turns.proofs.entering.enter_effect.Goals as goal

ok_kept : {T E : Type 0} (P Q : T → Type 0) (r : Result T E) → ((x : T) → P x → Q x) → IfOk r P → IfOk r Q
ok_kept P Q (Ok x) f h = f x h
ok_kept P Q (Err e) f h = tt

pub returns-clause-ok : goal.returns-clause-ok
returns-clause-ok c =
    let s = c.args.standing.now.present in
    let old = c.args.tree.now in
    let tree = c.insert_child.new.self in
    let f = forest old in
    let new = forest tree in
    let t = c.args.trigger in
    let r = c.args.rule in
    let lo = c.in-Some-Rule.lo in
    let hi = c.in-Some-Rule.hi in
    let effect = c.in-Some-Rule.effect in
    let class = c.class_of-class.result in
    let shape = c.effect_shape-shape.result in
    let fits : FitsSigned w64 c.in-Some-Rule.lo = search rules in
    let there : premise_in s.premises r ≡ Some (Rule c.in-Some-Rule.field-0-0 c.in-Some-Rule.field-0-1 lo hi effect c.in-Some-Rule.field-0-5 c.in-Some-Rule.field-0-6) = sym c.in-Some-Rule.ensures ∙ ap Some c.in-Some-Rule.field-0-is in
    let (m, at) = node_at f t c.requires.trigger in
    let same_shape : shape ≡ effect_shape (class_in s.premises effect) = c.effect_shape-shape.ensures ∙ ap effect_shape c.class_of-class.ensures in
    let link : Link = record { rule = r; lo = to_z w64 (of_z w64 lo); hi = hi } in
    ok_kept (λ x. (n : Member) → member f t ≡ Some n → EntersTree old tree x (child_member n link effect class shape) (Some t) (early (present old) t +ℤ to_z w64 (of_z w64 lo)))
    (λ x. (net : Net) → IsTreeOf s net old → EntersIn s net t r old tree x) c.insert_child.result
    (λ x enters net is.
    let entered = enters m at in
    let adds : Adds s net.names f new x (After (moment_at f t) r) =
    effect_adds s net f is.seen t m at r c.requires.enters c.in-Some-Rule.field-0-0 c.in-Some-Rule.field-0-1 lo hi effect c.in-Some-Rule.field-0-5 c.in-Some-Rule.field-0-6 there new x
    (subst (λ z. Enters f new x (child_member m (record { rule = r; lo = z; hi = hi }) effect (class_in s.premises effect) (effect_shape (class_in s.premises effect)))) (to_z-of_z w64 lo fits)
    (subst (λ o. Enters f new x (child_member m link effect o (effect_shape (class_in s.premises effect)))) c.class_of-class.ensures
    (subst (λ k. Enters f new x (child_member m link effect class k)) same_shape (growing_enters _ _ _ _ _ _ entered.grows)))) in
    let seen = adds_seen s net f new x (After (moment_at f t) r) adds c.requires.enters.new is.seen in
    record {
      adds = adds;
      tree = record { seen = seen; dated = effects_keep_dates net (present old) (present tree) t x m link effect class shape at entered.grows (s, seen) is.dated };
      dates = λ y live. entered.grows.dates y (λ same. (let (n, there_y) = node_at f y live in let both : None ≡ Some n = sym entered.grows.free ∙ ap (member f) (sym same) ∙ there_y in cc));
    })
    c.insert_child.ensures.ok

pub insert_child-requires-clause-trigger : goal.insert_child-requires-clause-trigger
insert_child-requires-clause-trigger c =
    let s = c.args.standing.now.present in
    let f = forest c.args.tree.now in
    let (m, at) = node_at f c.args.trigger c.requires.trigger in
    (m, at, is_trigger s c.requires.seen.0 f c.requires.seen.1 c.args.trigger m at c.args.rule c.requires.enters)

pub insert_child-requires-clause-delay : goal.insert_child-requires-clause-delay
insert_child-requires-clause-delay c =
    let s = c.args.standing.now.present in
    let f = forest c.args.tree.now in
    let lo = c.in-Some-Rule.lo in
    let fits : FitsSigned w64 c.in-Some-Rule.lo = search rules in
    let there = sym c.in-Some-Rule.ensures ∙ ap Some c.in-Some-Rule.field-0-is in
    let (m, at) = node_at f c.args.trigger c.requires.trigger in
    subst (λ z. IsNumber z × IsBound c.in-Some-Rule.hi × (pos 1 ≤ℤ z) × IsRange (Finite z) c.in-Some-Rule.hi) (sym (to_z-of_z w64 lo fits))
    (delay_is s c.requires.seen.0 f c.requires.seen.1 c.args.trigger m at c.args.rule c.requires.enters c.in-Some-Rule.field-0-0 c.in-Some-Rule.field-0-1 lo c.in-Some-Rule.hi c.in-Some-Rule.effect c.in-Some-Rule.field-0-5 c.in-Some-Rule.field-0-6 there)

pub insert_child-requires-clause-word : goal.insert_child-requires-clause-word
insert_child-requires-clause-word c =
    let s = c.args.standing.now.present in
    let f = forest c.args.tree.now in
    let there = sym c.in-Some-Rule.ensures ∙ ap Some c.in-Some-Rule.field-0-is in
    let (m, at) = node_at f c.args.trigger c.requires.trigger in
    word_is s c.requires.seen.0 f c.requires.seen.1 c.args.trigger m at c.args.rule c.requires.enters c.in-Some-Rule.field-0-0 c.in-Some-Rule.field-0-1 c.in-Some-Rule.lo c.in-Some-Rule.hi c.in-Some-Rule.effect c.in-Some-Rule.field-0-5 c.in-Some-Rule.field-0-6 there

either : {T E : Type 0} (r : Result T E) (P : T → Type 0) (Q A : Type 0) → ((x : T) → P x → A) → (Q → A) → IfOk r P → OnErr r Q → A
either (Ok x) P Q A f g p q = f x p
either (Err e) P Q A f g p q = g q

pub returns-clause-committed : goal.returns-clause-committed
returns-clause-committed c =
    let (m, at) = node_at (forest c.args.tree.now) c.args.trigger c.requires.trigger in
    either c.insert_child.result _ _ (committed c.insert_child.new.self ≡ committed c.args.tree.now) (λ x enters. (enters m at).committed_is) (λ stays. stays.committed_is) c.insert_child.ensures.ok c.insert_child.ensures.err

pub returns-clause-was_free : goal.returns-clause-was_free
returns-clause-was_free c =
    let (m, at) = node_at (forest c.args.tree.now) c.args.trigger c.requires.trigger in
    ok_kept _ (λ x. forest_of (committed c.args.tree.now) x ≡ None) c.insert_child.result (λ x enters. (enters m at).was_free) c.insert_child.ensures.ok
