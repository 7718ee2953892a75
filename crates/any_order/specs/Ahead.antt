-- Whether an element of a list comes before the best so far.
use Rattle.std.specs.Prelude.{◌≡◌, ℕ, Bool, IsTrue, List, Option, Some, None, slice_index_or}
use Rattle.std.specs.declared.cmp.Ordering.{Ordering}
use Rattle.std.specs.Ordering.{is_gt}

-- r tells whether there is no best place yet or the element at i is before it
abbrev pub IsAhead : {A : Type 0} → (A → A → Ordering) → List A → Option ℕ → ℕ → Bool → Type 0
IsAhead cmp xs None i r = IsTrue r
IsAhead {A} cmp xs (Some b) i r =
    (d : A) → r ≡ is_gt (cmp (slice_index_or xs b d) (slice_index_or xs i d))
