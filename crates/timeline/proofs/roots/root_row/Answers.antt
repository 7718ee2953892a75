use Rattle.std.proofs.Common.{◌≡◌, ◌∙◌, refl, sym, ap, subst, inl, inr, rules, w64}
use Rattle.std.specs.Prelude.{Some, None, IsSome, ℤ, FitsSigned}
use Rattle.std.proofs.lemmas.Int.{to_z-of_z}
use mir.Val.{to_z, of_z}
use Rattle.tmm_model.specs.declared.point.PointName.TheVariants.{Begin, End}
use Rattle.tmm_model.specs.declared.premise.Premise.TheVariants.{Event, Token, Span}
use Rattle.tmm_model.specs.declared.token.Shape.TheVariants.{Event as AnEvent, Persistence as APersistence, Span as ASpan}
use Rattle.tmm_model.specs.Beliefs.{class_of}
use Rattle.tmm_model.specs.Maps.{built}
use Rattle.tmm_model.specs.Moments.{At}
use Rattle.tmm_model.specs.Sorts.{class_in}
use Rattle.tmm_model.specs.Standing.{Standing}
use Rattle.list_theory.proofs.Elements.{In}
use Rattle.premise_list.proofs.Facts.{fact_known}
use Rattle.timeline.specs.Days.{date}
use Rattle.timeline.specs.Rows.{IsRootRow}
use Rattle.timeline.proofs.Declared.{point_askable, root_row}
use Rattle.timeline.proofs.roots.root_row.Goals as goal

exact : (x : ℤ) → FitsSigned w64 x → to_z w64 (of_z w64 x) ≡ x
exact x fits = to_z-of_z w64 x fits

pub date_of-date-requires-clause-formed : goal.date_of-date-requires-clause-formed
date_of-date-requires-clause-formed g c =
    let s = g.M.MapCore.list c.args.core.now in
    (point_askable s c.requires.kept.sound (Event c.in-Event.name c.in-Event.kind) (subst (λ p. In p s.premises) c.in-Event.is c.requires.stands) (Begin c.in-Event.name) (inl refl)).formed

pub date_of-date-requires-clause-declared : goal.date_of-date-requires-clause-declared
date_of-date-requires-clause-declared g c =
    let s = g.M.MapCore.list c.args.core.now in
    (point_askable s c.requires.kept.sound (Event c.in-Event.name c.in-Event.kind) (subst (λ p. In p s.premises) c.in-Event.is c.requires.stands) (Begin c.in-Event.name) (inl refl)).declared

pub date_of-date-requires-in-Token-clause-formed : goal.date_of-date-requires-in-Token-clause-formed
date_of-date-requires-in-Token-clause-formed g c =
    let s = g.M.MapCore.list c.args.core.now in
    (point_askable s c.requires.kept.sound (Token c.in-Token.name c.in-Token.fact) (subst (λ p. In p s.premises) c.in-Token.is c.requires.stands) (Begin c.in-Token.name) (inl refl)).formed

pub date_of-date-requires-in-Token-clause-declared : goal.date_of-date-requires-in-Token-clause-declared
date_of-date-requires-in-Token-clause-declared g c =
    let s = g.M.MapCore.list c.args.core.now in
    (point_askable s c.requires.kept.sound (Token c.in-Token.name c.in-Token.fact) (subst (λ p. In p s.premises) c.in-Token.is c.requires.stands) (Begin c.in-Token.name) (inl refl)).declared

pub held-held-requires : goal.held-held-requires
held-held-requires g c =
    let s = g.M.MapCore.list c.args.core.now in
    subst (λ (l : Standing). IsSome (class_in l.premises c.in-Token.fact)) (sym c.standing.ensures)
    (fact_known s.premises c.requires.kept.sound.well_named (Token c.in-Token.name c.in-Token.fact) (subst (λ p. In p s.premises) c.in-Token.is c.requires.stands) c.in-Token.fact (inl refl))

pub date_of-date-requires-in-Span-clause-formed : goal.date_of-date-requires-in-Span-clause-formed
date_of-date-requires-in-Span-clause-formed g c =
    let s = g.M.MapCore.list c.args.core.now in
    (point_askable s c.requires.kept.sound (Span c.in-Span.name c.in-Span.fact) (subst (λ p. In p s.premises) c.in-Span.is c.requires.stands) (Begin c.in-Span.name) (inl refl)).formed

pub date_of-date-requires-in-Span-clause-declared : goal.date_of-date-requires-in-Span-clause-declared
date_of-date-requires-in-Span-clause-declared g c =
    let s = g.M.MapCore.list c.args.core.now in
    (point_askable s c.requires.kept.sound (Span c.in-Span.name c.in-Span.fact) (subst (λ p. In p s.premises) c.in-Span.is c.requires.stands) (Begin c.in-Span.name) (inl refl)).declared

pub date_of-end-requires-clause-formed : goal.date_of-end-requires-clause-formed
date_of-end-requires-clause-formed g c =
    let s = g.M.MapCore.list c.args.core.now in
    (point_askable s c.requires.kept.sound (Span c.in-Span.name c.in-Span.fact) (subst (λ p. In p s.premises) c.in-Span.is c.requires.stands) (End c.in-Span.name) (inr (inl refl))).formed

pub date_of-end-requires-clause-declared : goal.date_of-end-requires-clause-declared
date_of-end-requires-clause-declared g c =
    let s = g.M.MapCore.list c.args.core.now in
    (point_askable s c.requires.kept.sound (Span c.in-Span.name c.in-Span.fact) (subst (λ p. In p s.premises) c.in-Span.is c.requires.stands) (End c.in-Span.name) (inr (inl refl))).declared

pub held-held-requires-in-Span : goal.held-held-requires-in-Span
held-held-requires-in-Span g c =
    let s = g.M.MapCore.list c.args.core.now in
    subst (λ (l : Standing). IsSome (class_in l.premises c.in-Span.fact)) (sym c.standing-in-Span.ensures)
    (fact_known s.premises c.requires.kept.sound.well_named (Span c.in-Span.name c.in-Span.fact) (subst (λ p. In p s.premises) c.in-Span.is c.requires.stands) c.in-Span.fact (inl refl))

pub returns-in-Event : goal.returns-in-Event
returns-in-Event g c =
    let s = g.M.MapCore.list c.args.core.now in
    let p = Event c.in-Event.name c.in-Event.kind in
    subst (λ q. IsRootRow (built s) q c.row.result) (sym c.in-Event.is)
    (root_row s c.requires.kept.sound p c.row.result None (subst (λ q. In q s.premises) c.in-Event.is c.requires.stands) refl
    (λ i. Some (AnEvent, sym c.row.ensures.what i)) refl c.row.ensures.held (c.row.ensures.date ∙ exact c.date_of-date.result (search rules) ∙ c.date_of-date.ensures) c.row.ensures.occ)

pub returns-in-Token : goal.returns-in-Token
returns-in-Token g c =
    let s = g.M.MapCore.list c.args.core.now in
    let p = Token c.in-Token.name c.in-Token.fact in
    subst (λ q. IsRootRow (built s) q c.row-in-Token.result) (sym c.in-Token.is)
    (root_row s c.requires.kept.sound p c.row-in-Token.result (Some (record { fact = c.in-Token.fact; class = class_of s c.in-Token.fact; end = None })) (subst (λ q. In q s.premises) c.in-Token.is c.requires.stands) refl
    (λ i. Some (APersistence, sym c.row-in-Token.ensures.what i))
    (λ i. Some (record { fact = sym c.row-in-Token.ensures.what i; class = class_of s (sym c.row-in-Token.ensures.what i); end = None }))
    (c.row-in-Token.ensures.held ∙ ap Some (c.held-held.ensures ∙ ap (λ (l : Standing). record { fact = c.in-Token.fact; class = class_of l c.in-Token.fact; end = None }) c.standing.ensures))
    (c.row-in-Token.ensures.date ∙ exact c.date_of-date-in-Token.result (search rules) ∙ c.date_of-date-in-Token.ensures) c.row-in-Token.ensures.occ)

pub returns-in-Span : goal.returns-in-Span
returns-in-Span g c =
    let s = g.M.MapCore.list c.args.core.now in
    let p = Span c.in-Span.name c.in-Span.fact in
    let ends = date (built s) (At (End c.in-Span.name)) in
    subst (λ q. IsRootRow (built s) q c.row-in-Span.result) (sym c.in-Span.is)
    (root_row s c.requires.kept.sound p c.row-in-Span.result (Some (record { fact = c.in-Span.fact; class = class_of s c.in-Span.fact; end = Some ends })) (subst (λ q. In q s.premises) c.in-Span.is c.requires.stands) refl
    (λ i. Some (ASpan, sym c.row-in-Span.ensures.what i))
    (λ i. Some (record { fact = sym c.row-in-Span.ensures.what i; class = class_of s (sym c.row-in-Span.ensures.what i); end = Some ends }))
    (c.row-in-Span.ensures.held
    ∙ ap Some (c.held-held-in-Span.ensures ∙ ap (λ (l : Standing). record { fact = c.in-Span.fact; class = class_of l c.in-Span.fact; end = Some (to_z w64 (of_z w64 c.date_of-end.result)) }) c.standing-in-Span.ensures
    ∙ ap (λ e. record { fact = c.in-Span.fact; class = class_of s c.in-Span.fact; end = Some e }) (exact c.date_of-end.result (search rules) ∙ c.date_of-end.ensures)))
    (c.row-in-Span.ensures.date ∙ exact c.date_of-date-in-Span.result (search rules) ∙ c.date_of-date-in-Span.ensures) c.row-in-Span.ensures.occ)
