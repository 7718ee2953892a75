-- What contracts of the types and of the layers cite. The contract of the program reaches two of
-- these, `Listed` and `IsPadded`: how contracts see a `Seq` and a `Name`.
use Rattle.std.specs.Prelude.{ℕ, List, refl, ◌≡◌, ◌-◌, ◌≤◌, length, drop, replicate, ℤ, ◌+ℤ◌, ◌≤ℤ◌}
use Rattle.std.specs.Coded.{Coded, code_by, coded×, coded_list, coded_ℕ}
use Rattle.std.proofs.Common.{◌∙◌, ap, sym, subst, ◌++◌, take}
use Rattle.std.proofs.lemmas.List.{take-append-drop, length-take-le}
use Rattle.std.specs.declared.cmp.Ordering.{Ordering}
use Rattle.std.specs.declared.cmp.Ordering.TheVariants.{Less, Equal}
use Rattle.std.specs.Ordering.{ordering_reverse}
use Rattle.tmm_model.specs.declared.bound.Bound.{Bound}
use Rattle.tmm_model.specs.declared.bound.Bound.TheVariants.{Finite, Free}
use Rattle.tmm_model.specs.Bounds.{IfFinite, IsWithin}

-- a list, and how many items more it has room for
pub record Listed (T : Type 0) : Type 0 where
  pub items : List T
  pub room : ℕ

-- such lists told by numbers, where their items are
abbrev pub listed_code : {T : Type 0} → Coded T → Coded (Listed T)
listed_code {T} code =
    code_by (List T × ℕ) (coded× (coded_list code) coded_ℕ) (λ v. (v.items, v.room)) (λ p. record { items = p.0; room = p.1 }) (λ _. refl)

-- the padded bytes and the length of a name
pub record IsPadded (bytes : List ℕ) (len : ℕ) : Type 0 where
  pub size : length bytes ≡ 24
  pub within : len ≤ 24
  pub padding : drop len bytes ≡ replicate (24 - len) 0

pub length-padded : (bytes : List ℕ) (len : ℕ) → IsPadded bytes len → length (take len bytes) ≡ len
length-padded bytes len h = length-take-le len bytes (subst (λ n. len ≤ n) (sym h.size) h.within)

pub append-padded : (bytes : List ℕ) (len : ℕ) → IsPadded bytes len → take len bytes ++ replicate (24 - length (take len bytes)) 0 ≡ bytes
append-padded bytes len h =
    ap (λ n. take len bytes ++ replicate (24 - n) 0) (length-padded bytes len h)
    ∙ ap (λ t. take len bytes ++ t) (sym h.padding)
    ∙ take-append-drop len bytes

-- the first bound is at least as tight as the second
abbrev pub IsTighter : Bound → Bound → Type 0
IsTighter x Free = Unit {0}
IsTighter Free (Finite y) = ⊥
IsTighter (Finite x) (Finite y) = x ≤ℤ y

-- a bound, a step of weight w and another bound, one after the other
abbrev pub through : Bound → ℤ → Bound → Bound
through (Finite x) w (Finite y) = Finite (x +ℤ w +ℤ y)
through (Finite x) w Free = Free
through Free w y = Free

-- what a table of distances may hold: a number of at most 10^12 in absolute value, or none
abbrev pub IsSmall : Bound → Type 0
IsSmall x = IfFinite x (IsWithin 1000000000000)

-- a total order of what is live, in which two different ones never tie
pub record IsOrderOn {P : Type 0} (live : P → Type 0) (order : P → P → Ordering) : Type 0 where
  pub antisymm : (x y : P) → live x → live y → order x y ≡ ordering_reverse (order y x)
  pub trans : (x y z : P) → live x → live y → live z → order x y ≡ Less → order y z ≡ Less → order x z ≡ Less
  pub strict : (x y : P) → live x → live y → order x y ≡ Equal → x ≡ y
