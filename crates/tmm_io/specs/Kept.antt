-- What a sink in memory keeps.
use Rattle.std.specs.Prelude.{ℕ, ◌-◌, min, Bool, true, not, nat_le, nat_eq, cond, List, [], ◌∷◌, ◌++◌, take, length, Option, Some, None}
use Rattle.tmm_io.specs.Causes.{raised}

-- The bytes so far and how many more fit, how many calls there were, which of them fail and after
-- how many bytes, and the count of faults.
pub record Kept : Type 0 where
  pub bytes : List ℕ
  pub room : ℕ
  pub calls : ℕ
  pub fails : List (ℕ × ℕ)
  pub faults : ℕ

-- how many bytes are stated for a call, by the first pair with its number: none where it isn't
-- listed
abbrev pub stated_for : ℕ → List (ℕ × ℕ) → Option ℕ
stated_for call [] = None
stated_for call (pair ∷ fails) = cond (nat_eq pair.0 call) (Some pair.1) (stated_for call fails)

-- a listed call fails, and one whose piece is longer than the room
abbrev pub is_failing : Option ℕ → ℕ → ℕ → Bool
is_failing (Some stated) len room = true
is_failing None len room = not (nat_le len room)

-- how many bytes of its piece a call keeps
abbrev pub kept_of : Option ℕ → ℕ → ℕ → ℕ
kept_of (Some stated) len room = min (min stated len) room
kept_of None len room = cond (nat_le len room) len 0

-- the sink after a call that kept n bytes of its piece
abbrev pub with_kept : Kept → ℕ → List ℕ → Bool → Kept
with_kept s n piece failed = record {
  bytes = s.bytes ++ take n piece;
  room = s.room - n;
  calls = raised s.calls;
  fails = s.fails;
  faults = cond failed (raised s.faults) s.faults;
}

-- the sink after its next call, with this piece
abbrev pub after_write : Kept → List ℕ → Kept
after_write s piece =
    let stated = stated_for (raised s.calls) s.fails in
    with_kept s (kept_of stated (length piece) s.room) piece (is_failing stated (length piece) s.room)
