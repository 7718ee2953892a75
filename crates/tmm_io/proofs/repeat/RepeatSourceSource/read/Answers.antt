use Rattle.std.proofs.Common.{rules, ◌≡◌, ◌+◌, ◌%◌, ℕ, List, ◌<◌, ◌≢◌, arith, length, get_or, set, get_or-set_same, get_or-set_other, below_more, ap, sym, ◌∙◌}
use Rattle.std.proofs.lemmas.Grind.{get_or_default_zero}
use Rattle.std.proofs.Math.Nat.{suc-mod, mod-lt}
use Rattle.std.proofs.Math.Numerals.{suc-eq-add-one}
use Rattle.tmm_io.proofs.repeat.RepeatSourceSource.read.Goals as goal

step : (n len : ℕ) → (n % len + 1) % len ≡ (n + 1) % len
step n len = rw (← suc-eq-add-one (n % len), ← suc-eq-add-one n) (sym (suc-mod n len))

-- the place after the one of the n-th byte is the one of the next byte
next_place : (start n len m at after : ℕ) → m ≡ len → after ≡ (at + 1) % m → at ≡ (start + n) % len → after ≡ (start + (n + 1)) % len
next_place start n len m at after same is_after e =
    is_after ∙ ap (λ k. (at + 1) % k) same ∙ ap (λ a. (a + 1) % len) e ∙ step (start + n) len ∙ ap (λ k. k % len) (omega arith)

within_line : (at len m after : ℕ) → m ≡ len → after ≡ (at + 1) % m → at < len → after < len
within_line at len m after same is_after h = rw (is_after, same) (mod-lt _ (omega arith))

-- one more byte is written, after n that are
repeats : (buf line : List ℕ) (start n i at b : ℕ) → n ≡ i → i < length buf → at < length line → b ≡ get_or line at b → at ≡ (start + n) % length line
    → ((k : ℕ) → k < n → get_or buf k 0 ≡ get_or line ((start + k) % length line) 0)
    → (k : ℕ) → k < n + 1 → get_or (set buf i b) k 0 ≡ get_or line ((start + k) % length line) 0
repeats buf line start n i at b e room within is_b is_at below =
    below_more _ _
    (λ k h. let ne : k ≢ i = omega arith in rw get_or-set_other (below k h))
    (rw (e, get_or-set_same, ← e, ← is_at) (is_b ∙ get_or_default_zero line at b within))

pub loop-place-preserved : goal.loop-place-preserved
loop-place-preserved c =
    let inv = c.loop-place.invariant in
    let start = c.self.inside.at in
    let count = c.loop-place.count in
    let at = c.loop-place.self-inside.at in
    let line = c.loop-place.self-inside.line in
    let same_length : c.len.result ≡ length line.items = c.len.ensures ∙ search rules in
    record {
      count = ap (λ n. n + 1) inv.count;
      line = inv.line;
      within = within_line at (length line.items) _ _ same_length c.after-self-inside.ensures inv.within;
      left = omega (arith, inv.left, c.if-self-eq0.false);
      at = next_place start count (length line.items) _ at _ same_length c.after-self-inside.ensures inv.at;
      repeated = repeats c.loop-place.buf line.items start count c.loop-place.place-index at _ inv.count
          (omega (arith, c.loop-place-test.true, c.loop-place.auto.buf)) inv.within c.index.ensures inv.at inv.repeated;
    }
