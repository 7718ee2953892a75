-- A token of another list that cuts one token of a fact cuts those of it that begin before it.
use Rattle.std.proofs.Common.{◌≡◌, ◌∙◌, ℕ, ◌<◌, Bool, true, false, not, ◌&&◌, List, length, refl, sym, ap, subst, arith}
use Rattle.std.specs.Prelude.{Option, Some, None, IsTrue, IsFalse, MatchOption, ℤ, slice_index_or}
use Rattle.std.specs.Option.{ForSome}
use Rattle.std.specs.List.{All, list_any}
use Rattle.std.proofs.lemmas.Bool.{and_parts, and_right, or_right, both_ways}
use Rattle.std.proofs.lemmas.List.{get_or_read}
use Rattle.std.proofs.lemmas.List.Folds.{list_any_none}
use Rattle.std.specs.declared.cmp.Ordering.{Ordering}
use Rattle.tmm_model.specs.declared.bound.Bound.{Bound}
use Rattle.tmm_model.specs.declared.token.TokenRow.{TokenRow}
use Rattle.tmm_model.specs.Points.{same_name}
use Rattle.tmm_model.specs.Tokens.{of_one_class, is_by, is_before, clips, cuts, lasts_to, supports}
use Rattle.tmm_model.specs.Types.{IsOrderOn}
use Rattle.clipping.specs.Across.{list_at, all_of, IsCutSpot}
use Rattle.clipping.specs.ByDate.{AreDatesOn, IsByDate, AreUntil, NonePass}
use Rattle.clipping.specs.Live.{IsLive}
use Rattle.clipping.specs.Rivals.{are_rivals, of_rivals}
use Rattle.clipping.proofs.InLists.{any_of_all}
use Rattle.clipping.proofs.RuledOut.{first_clip_is, one_passes}

-- where none between the dates of the token and of the point cuts it, none of the list does
pub none_in : {P : Type 0} (contradicts : TokenRow P → TokenRow P → Bool) {live : P → Type 0} {far : P → P → Bound} {date : P → ℤ} {order : P → P → Ordering} → IsOrderOn live order → AreDatesOn live far date → (tokens : List (TokenRow P)) → IsByDate date order tokens → All (IsLive live) tokens
    → (k : TokenRow P) → live k.spot → (q : P) → live q → (low : ℕ) → AreUntil date tokens (date k.spot) low → (high : ℕ) → AreUntil date tokens (date q) high
    → NonePass (cuts contradicts far k q) tokens low high → list_any (cuts contradicts far k q) tokens ≡ false
none_in contradicts {live} {far} law dated tokens sorted all k at q lq low early high late fails =
    list_any_none (cuts contradicts far k q) tokens (first_clip_is contradicts law dated tokens sorted all k at (Some q) (λ x same. let is : q ≡ x = cc in subst live is lq) low early high late None fails)

module _ {P : Type 0} (against : List ℕ → List ℕ → Bool) (far : P → P → Bound) (lists : List (List (TokenRow P))) (n : ℕ) (lt : n < length lists) (at : ℕ) (within : at < length (list_at lists n)) (c : TokenRow P) (read : c ≡ slice_index_or (list_at lists n) at c)
    (k : TokenRow P) (q : P) (cut : cuts (are_rivals against) far k q c ≡ true) where
  parts : (clips (are_rivals against) far k c ≡ true) × (is_by far c.spot q ≡ true)
  parts = and_parts (clips (are_rivals against) far k c) (is_by far c.spot q) cut

  rival : (against k.fact c.fact ≡ true) × (is_before far k.spot c.spot ≡ true)
  rival = and_parts (are_rivals against k c) (is_before far k.spot c.spot) parts.0

  -- it cuts another token of the fact that begins before it
  cuts_too : (x : TokenRow P) → x.fact ≡ k.fact → is_before far x.spot c.spot ≡ true → list_any (cuts (of_rivals against) far x q) (all_of lists) ≡ true
  cuts_too x same before =
      let also : are_rivals against x c ≡ true = ap (λ f. against f c.fact) same ∙ rival.0 in
      let contradicts : of_rivals against x c ≡ true = or_right (of_one_class x c) (are_rivals against x c) also in
      let passes : cuts (of_rivals against) far x q c ≡ true = λ t. contradicts t && before t && parts.1 t in
      any_of_all (cuts (of_rivals against) far x q) lists n lt (one_passes (cuts (of_rivals against) far x q) (list_at lists n) 0 (length (list_at lists n)) at (omega arith)
      record { from = omega arith; before = within; passes = λ d. subst (λ (y : TokenRow P). cuts (of_rivals against) far x q y ≡ true) (get_or_read (list_at lists n) at c within read d) passes })

  pub cut_spot : (live : P → Type 0) → live c.spot → IsCutSpot (of_rivals against) far live (all_of lists) k.fact q c.spot
  cut_spot live alive = record { there = alive; cut = cuts_too }

  pub cut_found : list_any (cuts (of_rivals against) far k q) (all_of lists) ≡ true
  cut_found = cuts_too k refl rival.1

-- ---- what supports no fact

module _ {P : Type 0} (contradicts : TokenRow P → TokenRow P → Bool) (far : P → P → Bound) (tokens : List (TokenRow P)) (f : List ℕ) (p q : P) (k : TokenRow P) where
  pub other_fact : same_name k.fact f ≡ false → supports contradicts far tokens f p q k ≡ false
  other_fact e = λ t. e t && is_by far k.spot p && lasts_to contradicts far tokens k q k.end

  pub cut_off : k.end ≡ None → list_any (cuts contradicts far k q) tokens ≡ true → supports contradicts far tokens f p q k ≡ false
  cut_off no_end e = and_right (same_name k.fact f && is_by far k.spot p) (lasts_to contradicts far tokens k q k.end) (ap (lasts_to contradicts far tokens k q) no_end ∙ ap not e)

-- what is told of the token that is read at a place is told of the one at it
pub told_at : {A : Type 0} (test : A → Bool) (xs : List A) (n : ℕ) (k : A) → n < length xs → k ≡ slice_index_or xs n k → (b : Bool) → test k ≡ b → (d : A) → b ≡ test (slice_index_or xs n d)
told_at test xs n k within read b e d = sym (subst (λ x. test x ≡ b) (get_or_read xs n k within read d) e)

pub not_true : (b : Bool) → not b ≡ true → b ≡ false
not_true true e = sym e
not_true false e = refl

pub not_false : (b : Bool) → not b ≡ false → b ≡ true
not_false true e = refl
not_false false e = sym e

-- what begins before the spot is cut
pub known_cut : {P : Type 0} (contradicts : TokenRow P → TokenRow P → Bool) (far : P → P → Bound) (live : P → Type 0) (tokens : List (TokenRow P)) (f : List ℕ) (q : P) (spot : Option P) → ForSome spot (IsCutSpot contradicts far live tokens f q)
    → (k : TokenRow P) → k.fact ≡ f → (r : Bool) → MatchOption spot (IsFalse r) (λ s. IsTrue r → (k.end ≡ None) × IsTrue (is_before far k.spot s)) → r ≡ true → (k.end ≡ None) × (list_any (cuts contradicts far k q) tokens ≡ true)
known_cut contradicts far live tokens f q None known k same r told e = absurd (both_ways r told e)
known_cut contradicts far live tokens f q (Some s) known k same r told e = let both = told e in (both.0, (known s refl).cut k same both.1)

-- what is kept for a fact is kept for the same fact
pub kept_spot : {P : Type 0} (contradicts : TokenRow P → TokenRow P → Bool) (far : P → P → Bound) (live : P → Type 0) (tokens : List (TokenRow P)) (q : P) (f g : List ℕ) → f ≡ g → (old new : Option P)
    → (ForSome old (IsCutSpot contradicts far live tokens f q) → ForSome new (IsCutSpot contradicts far live tokens f q)) → ForSome old (IsCutSpot contradicts far live tokens g q) → ForSome new (IsCutSpot contradicts far live tokens g q)
kept_spot contradicts far live tokens q f g same old new keeps known =
    subst (λ h. ForSome new (IsCutSpot contradicts far live tokens h q)) same (keeps (subst (λ h. ForSome old (IsCutSpot contradicts far live tokens h q)) (sym same) known))
