use Rattle.std.proofs.Common.{◌∙◌, inl, inr, refl, sym, subst, rules, Some, None, w64, FitsSigned}
use Rattle.std.proofs.lemmas.Int.{to_z-of_z}
use Rattle.std.specs.Prelude.{IsSome}
use Rattle.tmm_model.specs.declared.point.PointName.TheVariants.{Begin, End}
use Rattle.tmm_model.specs.declared.premise.Premise.TheVariants.{Event, Token, Span}
use Rattle.tmm_model.specs.declared.token.Shape.TheVariants.{Persistence as APersistence, Span as ASpan}
use Rattle.list_theory.proofs.Elements.{In}
use Rattle.spots.specs.Forest.{Enters, root_member}
use Rattle.occ_tree.specs.Places.{forest}
use Rattle.occ_tree.specs.Standing.{present}
use Rattle.occ_tree.proofs.KeptDates.{roots_keep_dates}
use Rattle.occ_tree.proofs.Members.{growing_enters}
use Rattle.spots.specs.Growing.{AddsRoot}
use Rattle.premise_list.proofs.Facts.{fact_known, premise_formed}
use Rattle.spots.proofs.Grown.{number_there, event_adds, token_adds, span_adds}
use Rattle.supports.proofs.root.add_root.Goals as goal

pub number_of-begin-requires : goal.number_of-begin-requires
number_of-begin-requires c =
    let s = c.args.standing.now.present in
    let p = Event c.in-Event.name c.in-Event.kind in
    number_there s c.requires.network.sound c.args.net.now.present c.requires.network p (Begin c.in-Event.name) (subst (λ q. In q s.premises) c.in-Event.is c.requires.stands) (inl refl)

pub number_of-begin-requires-in-Token : goal.number_of-begin-requires-in-Token
number_of-begin-requires-in-Token c =
    let s = c.args.standing.now.present in
    let p = Token c.in-Token.name c.in-Token.fact in
    number_there s c.requires.network.sound c.args.net.now.present c.requires.network p (Begin c.in-Token.name) (subst (λ q. In q s.premises) c.in-Token.is c.requires.stands) (inl refl)

pub number_of-begin-requires-in-Span : goal.number_of-begin-requires-in-Span
number_of-begin-requires-in-Span c =
    let s = c.args.standing.now.present in
    let p = Span c.in-Span.name c.in-Span.fact in
    number_there s c.requires.network.sound c.args.net.now.present c.requires.network p (Begin c.in-Span.name) (subst (λ q. In q s.premises) c.in-Span.is c.requires.stands) (inl refl)

pub number_of-end-requires : goal.number_of-end-requires
number_of-end-requires c =
    let s = c.args.standing.now.present in
    let p = Span c.in-Span.name c.in-Span.fact in
    number_there s c.requires.network.sound c.args.net.now.present c.requires.network p (End c.in-Span.name) (subst (λ q. In q s.premises) c.in-Span.is c.requires.stands) (inr (inl refl))

pub insert_root-requires-in-Token-clause-class : goal.insert_root-requires-in-Token-clause-class
insert_root-requires-in-Token-clause-class c =
    let s = c.args.standing.now.present in
    let p = Token c.in-Token.name c.in-Token.fact in
    subst IsSome (sym c.class_of-class.ensures) (fact_known s.premises c.requires.network.sound.well_named p (subst (λ q. In q s.premises) c.in-Token.is c.requires.stands) c.in-Token.fact (inl refl))

pub insert_root-requires-in-Span-clause-class : goal.insert_root-requires-in-Span-clause-class
insert_root-requires-in-Span-clause-class c =
    let s = c.args.standing.now.present in
    let p = Span c.in-Span.name c.in-Span.fact in
    subst IsSome (sym c.class_of-class-in-Span.ensures) (fact_known s.premises c.requires.network.sound.well_named p (subst (λ q. In q s.premises) c.in-Span.is c.requires.stands) c.in-Span.fact (inl refl))

pub returns-in_ok-x-in-Event-clause-adds : goal.returns-in_ok-x-in-Event-clause-adds
returns-in_ok-x-in-Event-clause-adds c =
    let s = c.args.standing.now.present in
    let names = c.args.net.now.present.names in
    let p = Event c.in-Event.name c.in-Event.kind in
    subst (λ q. AddsRoot s names q (forest c.args.tree.now) (forest c.insert_root.new.self) (Some c.in_ok-x-in-Event.x)) (sym c.in-Event.is)
    (event_adds s c.requires.network.sound c.args.net.now.present c.requires.network c.in-Event.name c.in-Event.kind (subst (λ q. In q s.premises) c.in-Event.is c.requires.stands)
    c.number_of-begin.result c.number_of-begin.ensures (forest c.args.tree.now) (forest c.insert_root.new.self) c.in_ok-x-in-Event.x (growing_enters _ _ _ _ _ _ c.in_ok-x-in-Event.ensures.ok.grows))

pub returns-in_ok-x-in-Token-clause-adds : goal.returns-in_ok-x-in-Token-clause-adds
returns-in_ok-x-in-Token-clause-adds c =
    let s = c.args.standing.now.present in
    let names = c.args.net.now.present.names in
    let p = Token c.in-Token.name c.in-Token.fact in
    let begin = c.number_of-begin-in-Token.result in
    let old = forest c.args.tree.now in
    let new = forest c.insert_root-in-Token.new.self in
    subst (λ q. AddsRoot s names q old new (Some c.in_ok-x-in-Token.x)) (sym c.in-Token.is)
    (token_adds s c.requires.network.sound c.args.net.now.present c.requires.network c.in-Token.name c.in-Token.fact (subst (λ q. In q s.premises) c.in-Token.is c.requires.stands)
    begin c.number_of-begin-in-Token.ensures old new c.in_ok-x-in-Token.x
    (subst (λ class. Enters old new c.in_ok-x-in-Token.x (root_member c.in-Token.name begin None c.in-Token.fact class APersistence)) c.class_of-class.ensures (growing_enters _ _ _ _ _ _ c.in_ok-x-in-Token.ensures.ok.grows)))

pub returns-in_ok-x-in-Span-clause-adds : goal.returns-in_ok-x-in-Span-clause-adds
returns-in_ok-x-in-Span-clause-adds c =
    let s = c.args.standing.now.present in
    let names = c.args.net.now.present.names in
    let p = Span c.in-Span.name c.in-Span.fact in
    let begin = c.number_of-begin-in-Span.result in
    let old = forest c.args.tree.now in
    let new = forest c.insert_root-in-Span.new.self in
    subst (λ q. AddsRoot s names q old new (Some c.in_ok-x-in-Span.x)) (sym c.in-Span.is)
    (span_adds s c.requires.network.sound c.args.net.now.present c.requires.network c.in-Span.name c.in-Span.fact (subst (λ q. In q s.premises) c.in-Span.is c.requires.stands)
    begin c.number_of-end.result c.number_of-begin-in-Span.ensures c.number_of-end.ensures old new c.in_ok-x-in-Span.x
    (subst (λ class. Enters old new c.in_ok-x-in-Span.x (root_member c.in-Span.name begin (Some c.number_of-end.result) c.in-Span.fact class ASpan)) c.class_of-class-in-Span.ensures (growing_enters _ _ _ _ _ _ c.in_ok-x-in-Span.ensures.ok.grows)))

pub insert_root-requires-clause-word : goal.insert_root-requires-clause-word
insert_root-requires-clause-word c =
    let s = c.args.standing.now.present in
    (premise_formed s c.requires.network.sound (Event c.in-Event.name c.in-Event.kind) (subst (λ q. In q s.premises) c.in-Event.is c.requires.stands)).0

pub insert_root-requires-in-Token-clause-word : goal.insert_root-requires-in-Token-clause-word
insert_root-requires-in-Token-clause-word c =
    let s = c.args.standing.now.present in
    (premise_formed s c.requires.network.sound (Token c.in-Token.name c.in-Token.fact) (subst (λ q. In q s.premises) c.in-Token.is c.requires.stands)).0

pub insert_root-requires-in-Span-clause-word : goal.insert_root-requires-in-Span-clause-word
insert_root-requires-in-Span-clause-word c =
    let s = c.args.standing.now.present in
    (premise_formed s c.requires.network.sound (Span c.in-Span.name c.in-Span.fact) (subst (λ q. In q s.premises) c.in-Span.is c.requires.stands)).0

pub returns-in_ok-x-in-Event-clause-dated : goal.returns-in_ok-x-in-Event-clause-dated
returns-in_ok-x-in-Event-clause-dated c list dated =
    let fits : FitsSigned w64 c.early_at-early.result = search rules in
    roots_keep_dates c.args.net.now.present (present c.args.tree.now) (present c.insert_root.new.self) c.in_ok-x-in-Event.x _ _ refl (to_z-of_z w64 c.early_at-early.result fits ∙ c.early_at-early.ensures.early) c.in_ok-x-in-Event.ensures.ok.grows list dated

pub returns-in_ok-x-in-Token-clause-dated : goal.returns-in_ok-x-in-Token-clause-dated
returns-in_ok-x-in-Token-clause-dated c list dated =
    let fits : FitsSigned w64 c.early_at-early-in-Token.result = search rules in
    roots_keep_dates c.args.net.now.present (present c.args.tree.now) (present c.insert_root-in-Token.new.self) c.in_ok-x-in-Token.x _ _ refl (to_z-of_z w64 c.early_at-early-in-Token.result fits ∙ c.early_at-early-in-Token.ensures.early) c.in_ok-x-in-Token.ensures.ok.grows list dated

pub returns-in_ok-x-in-Span-clause-dated : goal.returns-in_ok-x-in-Span-clause-dated
returns-in_ok-x-in-Span-clause-dated c list dated =
    let fits : FitsSigned w64 c.early_at-early-in-Span.result = search rules in
    roots_keep_dates c.args.net.now.present (present c.args.tree.now) (present c.insert_root-in-Span.new.self) c.in_ok-x-in-Span.x _ _ refl (to_z-of_z w64 c.early_at-early-in-Span.result fits ∙ c.early_at-early-in-Span.ensures.early) c.in_ok-x-in-Span.ensures.ok.grows list dated

pub returns-in_ok-x-in-Event-clause-enters : goal.returns-in_ok-x-in-Event-clause-enters
returns-in_ok-x-in-Event-clause-enters c = (_, _, c.in_ok-x-in-Event.ensures.ok)

pub returns-in_ok-x-in-Token-clause-enters : goal.returns-in_ok-x-in-Token-clause-enters
returns-in_ok-x-in-Token-clause-enters c = (_, _, c.in_ok-x-in-Token.ensures.ok)

pub returns-in_ok-x-in-Span-clause-enters : goal.returns-in_ok-x-in-Span-clause-enters
returns-in_ok-x-in-Span-clause-enters c = (_, _, c.in_ok-x-in-Span.ensures.ok)
