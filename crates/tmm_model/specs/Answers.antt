-- What a map answers: clips, whether a fact holds, broken protections, the believed occurrences and
-- the size.
use Rattle.std.specs.Prelude.{ℕ, ◌+◌, ◌-◌, ℤ, Bool, true, false, List, [], map, length, take, filter, sum_by, Option, Some, None}
use Rattle.std.specs.List.{filter_map}
use Rattle.std.specs.Option.{option_map, option_map_or, option_and_then}
use Rattle.std.specs.Ordering.{on}
use Rattle.tmm_model.specs.declared.limits.TheConstants.{MOST_SIZE, MOST_BLAMES}
use Rattle.tmm_model.specs.declared.answer.Answer.{Answer}
use Rattle.tmm_model.specs.declared.answer.Answer.TheVariants.{Yes, No, Unordered}
use Rattle.tmm_model.specs.declared.answer.Blame.{Blame}
use Rattle.tmm_model.specs.declared.answer.Cause.{Cause}
use Rattle.tmm_model.specs.declared.answer.Cause.TheVariants.{Late, Clipped, Ends}
use Rattle.tmm_model.specs.declared.answer.Report.{Report}
use Rattle.tmm_model.specs.declared.changes.ListRow.{ListRow}
use Rattle.tmm_model.specs.declared.premise.Premise.{Premise}
use Rattle.tmm_model.specs.declared.premise.Premise.TheVariants.{Protect}
use Rattle.tmm_model.specs.declared.token.TokenRow.{TokenRow}
use Rattle.tmm_model.specs.Beliefs.{is_of, token_of, rules_at, contradicts_in, first_token, holder}
use Rattle.tmm_model.specs.Firsts.{sorted}
use Rattle.tmm_model.specs.Maps.{TimeMap, gap, order, believed_tokens}
use Rattle.tmm_model.specs.Moments.{Moment, At, rules, moment_of, early}
use Rattle.tmm_model.specs.Points.{same_name}
use Rattle.tmm_model.specs.Tokens.{is_by, clips, cuts}

-- Why a token of a fact does not support it.
pub data Fault : Type 0 where
  -- it does not surely begin in time
  late : Fault
  -- this token is the first that cuts it
  clipped : Moment → Fault
  -- it is a span that does not surely last
  ends : Fault

-- Whether a fact holds throughout p to q.
pub data Finding : Type 0 where
  -- this is the first supporter
  holds : Moment → Finding
  -- no token supports it; the first tokens of the fact with their faults, and the number of the
  -- others
  fails : List (Moment × Fault) → ℕ → Finding
  -- p is not surely at or before q
  unordered : Finding

-- whether it was found that the fact holds
abbrev pub does_hold : Finding → Bool
does_hold (holds k) = true
does_hold _ = false

-- a believed occurrence with its earliest date, its kind or fact, and its clip
pub record Row : Type 0 where
  pub date : ℤ
  pub occ : Moment
  pub what : List ℕ
  pub clip : Option Moment

-- so many tokens are blamed at most
abbrev pub most_blames : ℕ
most_blames = MOST_BLAMES

-- the limit on the size of a map
abbrev pub most_size : ℕ
most_size = MOST_SIZE

module _ (m : TimeMap) where
  -- the first believed token that passes
  abbrev pub first_believed : (TokenRow Moment → Bool) → Option Moment
  first_believed test = first_token m.list m.far m.believed test

  -- ---- clips

  -- **The clip** of a persistence: the first believed token that contradicts it and surely begins
  -- after it. A span has none.
  abbrev pub clip_of : TokenRow Moment → Option Moment
  clip_of k = elim k.end [ Some e ↦ None | None ↦ first_believed (clips (contradicts_in m.list) (gap m) k) ]

  -- the clip of an occurrence; none where it is no token
  abbrev pub clip : Moment → Option Moment
  clip x = option_and_then clip_of (token_of m.list x)

  -- ---- whether a fact holds

  -- why the token k, with this end or none, does not last up to q
  abbrev pub fault_before : TokenRow Moment → Moment → Option Moment → Fault
  fault_before k q (Some e) = ends
  fault_before k q None = option_map_or clipped (first_believed (cuts (contradicts_in m.list) (gap m) k q)) ends

  -- why the token k does not support its fact throughout p to q
  abbrev pub fault : Moment → Moment → TokenRow Moment → Fault
  fault p q k = elim (is_by (gap m) k.spot p) [ false ↦ late | true ↦ fault_before k q k.end ]

  -- the believed tokens of a fact, in order
  abbrev pub tokens_for : List ℕ → List (TokenRow Moment)
  tokens_for fact = sorted (on (λ k. k.spot) (order m)) (filter (λ k. same_name k.fact fact) (believed_tokens m))

  -- the fact does not hold: its first tokens, each with its fault, and how many there are beside
  -- them
  abbrev pub failing : Moment → Moment → List (TokenRow Moment) → Finding
  failing p q ks = fails (map (λ k. (k.spot, fault p q k)) (take most_blames ks)) (length ks - most_blames)

  -- **Whether a fact holds** throughout p to q.
  abbrev pub ask : List ℕ → Moment → Moment → Finding
  ask fact p q =
      elim (is_by (gap m) p q) [
        | false ↦ unordered
        | true ↦ elim (holder m.list m.far m.believed fact p q) [
          | Some k ↦ holds k
          | None ↦ failing p q (tokens_for fact)
        ]
      ]

  -- ---- protections

  -- the name and what was found, unless the fact holds
  abbrev pub as_broken : List ℕ → Finding → Option (List ℕ × Finding)
  as_broken name found = elim (does_hold found) [ true ↦ None | false ↦ Some (name, found) ]

  -- a protection whose fact does not hold, and what is found of it
  abbrev pub broken : Premise → Option (List ℕ × Finding)
  broken (Protect name fact p q) = as_broken name (ask fact (At p) (At q))
  broken _ = None

  -- **The broken protections**, in the order of premises.
  abbrev pub reports : List (List ℕ × Finding)
  reports = filter_map broken m.list.premises

  -- ---- the believed occurrences

  -- a believed occurrence as it is listed
  abbrev pub row : Moment → Row
  row x = record { date = early m.list m.far x; occ = x; what = option_map_or (λ y. y.1) (is_of m.list x) []; clip = clip x }

  -- all believed occurrences, in order
  abbrev pub rows : List Row
  rows = map row (sorted (order m) m.believed)

  -- what an occurrence counts: itself, its rules, and the rules on it
  abbrev pub weight : Moment → ℕ
  weight x = 1 + length (rules x) + length (rules_at m.list x)

  -- **The size of the map.**
  abbrev pub size : ℕ
  size = sum_by weight m.believed

-- ---- the values of the code, as these definitions have them

-- why a token is no supporter
abbrev pub fault_of : Cause → Fault
fault_of Late = late
fault_of (Clipped c) = clipped (moment_of c)
fault_of Ends = ends

-- a token and its fault
abbrev pub blame_of : Blame → Moment × Fault
blame_of b = (moment_of b.token, fault_of b.cause)

-- an answer whether a fact holds
abbrev pub finding_of : Answer → Finding
finding_of (Yes k) = holds (moment_of k)
finding_of (No blames more) = fails (map blame_of blames.items) more
finding_of Unordered = unordered

-- a broken protection
abbrev pub report_of : Report → List ℕ × Finding
report_of r = (r.name, finding_of r.answer)

-- a listed occurrence
abbrev pub row_of : ListRow → Row
row_of r = record { date = r.early; occ = moment_of r.occ; what = r.what; clip = option_map moment_of r.clip }
