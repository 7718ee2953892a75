-- A row whose rule fires as before.
use Rattle.std.proofs.Common.{◌≡◌, ◌∙◌, ℕ, Bool, true, false, List, ◌∷◌, refl, sym, ap, subst, inl, inr}
use Rattle.std.proofs.lemmas.Bool.{eq-eqb}
use Rattle.std.proofs.lemmas.Bool.Decides.{eqb_tells}
use Rattle.std.specs.Prelude.{◌⊎◌, ◌≢◌, cond, eqb, Option, Some, None, IsSome, is_some}
use Rattle.std.specs.Option.{option_map}
use Rattle.tmm_model.specs.declared.premise.Edit.{Edit}
use Rattle.tmm_model.specs.Edits.{next_list}
use Rattle.tmm_model.specs.Maps.{built}
use Rattle.tmm_model.specs.Moments.{Moment}
use Rattle.tmm_model.specs.Standing.{Standing}
use Rattle.dist_net.specs.Net.{Net}
use Rattle.spots.specs.Forest.{Forest, moment_at, IsLive}
use Rattle.undo_rows.specs.declared.row.Row.{Row as TableRow}
use Rattle.undo_rows.specs.Changes.{Logged, present}
use Rattle.undo_rows.specs.Tables.{Table}
use Rattle.decision_rows.specs.Decisions.{Decides, decided as with_found}
use Rattle.decision_rows.specs.declared.row.Pair.{Pair}
use Rattle.decision_rows.specs.declared.row.Decision.{Decision}
use Rattle.revisions.specs.Maps.{revision}
use Rattle.revisions.specs.Revisions.{Revision}
use Rattle.joined.specs.Kept.{IsKeptBy, WaitsNoMore}
use Rattle.joined.specs.Rows.{Row, Rows, as_row, rows_in, fires_by}
use Rattle.joined.specs.Turning.{IsDueFirst, IsFound, IsCodeTurn, ComesFrom, decided, kept, stays, Moved, came, went}
use Rattle.joined.proofs.CodeTurns.{code_turned}

-- ---- rows of which one has another decision

-- the row has this decision and waits no more, and all others stay
pub record IsDecided (rows after : Rows) (x : ℕ) (p : Row) (found : Decision) : Type 0 where
  pub here : after x ≡ Some (record p { found = found; waits = false })
  pub others : (i : ℕ) → i ≢ x → after i ≡ rows i

module _ (old : Standing) (edit : Edit) (net : Net) (f : Forest) (table table_after : Table Pair 8) (name : ℕ → List ℕ) (waits waits_after : ℕ → Bool)
    (taken : List (Moment × List ℕ)) (x : ℕ) (p : Row) (found : Decision)
    (k : IsKeptBy old edit net f table name waits taken)
    (due : IsDueFirst (revision (built old) (built (next_list old edit))) f (rows_in table name waits) x p)
    (right : IsFound (revision (built old) (built (next_list old edit))) f p found) (alike : fires_by found ≡ fires_by p.found)
    (is : IsDecided (rows_in table name waits) (rows_in table_after name waits_after) x p found) where
  abbrev R : Revision
  R = revision (built old) (built (next_list old edit))

  abbrev rows : Rows
  rows = rows_in table name waits

  abbrev after : Rows
  after = rows_in table_after name waits_after

  -- a row then is the one decided, or was there
  was : (i : ℕ) (q : Row) → after i ≡ Some q → ((i ≡ x) × (q ≡ record p { found = found; waits = false })) ⊎ ((i ≢ x) × (rows i ≡ Some q))
  was i q at = elim (eqb_tells i x) [
    | inl same ↦ (
        let both : Some q ≡ Some (record p { found = found; waits = false }) = sym at ∙ ap after same.1 ∙ is.here in
        inl (same.1, cc))
    | inr other ↦ inr (other.1, sym (is.others i other.1) ∙ at)
  ]

  -- under its number stood a row of the same decision
  row_before : (i : ℕ) (q : Row) → after i ≡ Some q → (o : Row) × (rows i ≡ Some o) × (q.trigger ≡ o.trigger) × (q.rule ≡ o.rule)
  row_before i q at = elim (was i q at) [
    | inl same ↦ (p, ap rows same.0 ∙ due.row, ap (λ (z : Row). z.trigger) same.1, ap (λ (z : Row). z.rule) same.1)
    | inr other ↦ (q, other.1, refl, refl)
  ]

  own : (i : ℕ) (q : Row) → after i ≡ Some q → ComesFrom R f f rows x p found i q
  own i q at = elim (was i q at) [
    | inl same ↦ decided same.0 same.1
    | inr other ↦ kept q other.0 other.1 refl (record { on = λ h. h; all = λ reads. absurd (none reads.0 reads.1); only = λ h. inl h })
  ]
    where
      not_true : false ≡ true → ⊥
      not_true e = cc

      none : (y : Moment) → Moved f p found y → ⊥
      none y (came now before is) = not_true (sym before ∙ sym alike ∙ now)
      none y (went now before z m at is under) = not_true (sym now ∙ alike ∙ before)

  live : (i : ℕ) (q : Row) → after i ≡ Some q → IsLive f q.trigger
  live i q at = let (o, here, tr, ru) = row_before i q at in subst (IsLive f) (sym tr) (k.netted.rows_are.own i o here).0

  stay : (i : ℕ) (o : Row) → rows i ≡ Some o → IsSome (after i)
  stay i o at = elim (eqb_tells i x) [
    | inl same ↦ ap is_some (ap after same.1 ∙ is.here)
    | inr other ↦ ap is_some (is.others i other.1 ∙ at)
  ]

  turn : IsCodeTurn R (next_list old edit) net.names f f rows after x p found
  turn = record {
    first = due;
    right = right;
    tree = stays alike refl;
    own = own;
    live = live;
    stay = λ i o at _. stay i o at;
    entered = record {
      stands = λ i q at dead. absurd (dead (live i q at));
      all = λ y rule is_live dead stands. absurd (dead is_live);
      apart = λ i j q o at_q at_o dead trigger rule. absurd (dead (live i q at_q));
    };
  }

  pub kept_on : IsKeptBy old edit net f table_after name waits_after ((moment_at f p.trigger, p.rule) ∷ taken)
  kept_on = record {
    sound = k.sound;
    sound_after = k.sound_after;
    netted = code_turned old edit net f f rows after taken x p found k.sound k.sound_after k.netted turn;
  }

-- ---- tables of which one row has another decision

rewritten : (name : ℕ → List ℕ) (wait : Bool) (o : Option (TableRow Pair 8)) (p : Row) (found : Decision) → option_map (as_row name wait) o ≡ Some p
    → option_map (as_row name false) (option_map (with_found found) o) ≡ Some (record p { found = found; waits = false })
rewritten name wait None p found e = cc
rewritten name wait (Some r) p found e =
    let same : as_row name wait r ≡ p = cc in
    ap (λ (z : Row). Some (record z { found = found; waits = false })) same

pub decides_is : (rows after : Logged Pair 8) (name : ℕ → List ℕ) (waits waits_after : ℕ → Bool) (x : ℕ) (p : Row) (found : Decision)
    → rows_in (present rows) name waits x ≡ Some p → Decides rows after x found → WaitsNoMore waits waits_after x
    → IsDecided (rows_in (present rows) name waits) (rows_in (present after) name waits_after) x p found
decides_is rows after name waits waits_after x p found at d no_more = record { here = here; others = others }
  where
    -- the row of each number then
    then_is : (i : ℕ) → rows_in (present after) name waits_after i ≡ option_map (as_row name (waits_after i)) (cond (eqb i x) (option_map (with_found found) ((present rows).row x)) ((present rows).row i))
    then_is i = ap (λ (t : Table Pair 8). rows_in t name waits_after i) d.present_is

    here : rows_in (present after) name waits_after x ≡ Some (record p { found = found; waits = false })
    here =
        then_is x
        ∙ ap (λ v. option_map (as_row name (waits_after x)) (cond v (option_map (with_found found) ((present rows).row x)) ((present rows).row x))) (eq-eqb x x refl)
        ∙ ap (λ v. option_map (as_row name v) (option_map (with_found found) ((present rows).row x))) no_more.gone
        ∙ rewritten name (waits x) ((present rows).row x) p found at

    others : (i : ℕ) → i ≢ x → rows_in (present after) name waits_after i ≡ rows_in (present rows) name waits i
    others i other = elim (eqb_tells i x) [
      | inl same ↦ absurd (other same.1)
      | inr apart ↦
          then_is i
          ∙ ap (λ v. option_map (as_row name (waits_after i)) (cond v (option_map (with_found found) ((present rows).row x)) ((present rows).row i))) apart.0
          ∙ ap (λ v. option_map (as_row name v) ((present rows).row i)) (no_more.others i other)
    ]
