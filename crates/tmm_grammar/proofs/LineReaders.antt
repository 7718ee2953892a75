-- Readers: functions that give the value which a text spells, and what is made of them.
use Rattle.std.proofs.Common.{◌≡◌, ℕ, Bool, true, false, cond, ◌⊎◌, inl, inr, List, [], ◌∷◌, Option, Some, None, refl, ap, subst, ◌∙◌}
use Rattle.std.specs.Prelude.{option_map}
use Rattle.tmm_grammar.specs.Reading.{◌>>=◌, passing, ended, front, alone, both}

-- which way a test went
pub chosen : {A : Type 0} (b : Bool) (x y z : A) → cond b x y ≡ z → ((b ≡ true) × (x ≡ z)) ⊎ ((b ≡ false) × (y ≡ z))
chosen true x y z e = inl (refl, e)
chosen false x y z e = inr (refl, e)

pub bind_some : {A B : Type 0} (r : Option A) (f : A → Option B) (y : B) → (r >>= f) ≡ Some y → (x : A) × (r ≡ Some x) × (f x ≡ Some y)
bind_some (Some x) f y e = (x, refl, e)
bind_some None f y e = absurd cc

pub map_some : {A B : Type 0} (f : A → B) (r : Option A) (y : B) → option_map f r ≡ Some y → (x : A) × (r ≡ Some x) × (f x ≡ y)
map_some f (Some x) y e = (x, refl, cc)
map_some f None y e = absurd cc

pub passing_some : {A : Type 0} (b : Bool) (x y : A) → passing b x ≡ Some y → (b ≡ true) × (x ≡ y)
passing_some true x y e = (refl, cc)
passing_some false x y e = absurd cc

pub ended_some : {A B : Type 0} (x y : A) (ws : List B) → ended x ws ≡ Some y → (ws ≡ []) × (x ≡ y)
ended_some x y [] e = (refl, cc)
ended_some x y (w ∷ ws) e = absurd cc

pub front_some : {A : Type 0} (read : List ℕ → Option A) (ws : List (List ℕ)) (y : A × List (List ℕ)) → front read ws ≡ Some y → (w : List ℕ) × (ws ≡ w ∷ y.1) × (read w ≡ Some y.0)
front_some read [] y e = absurd cc
front_some {A} read (w ∷ ws) y e =
    let p = bind_some (read w) (λ x. Some (x, ws)) y e in
    let q : ◌≡◌ {A = Option (A × List (List ℕ))} (Some (p.0, ws)) (Some y) = p.2 in
    let r : ◌≡◌ {A = A × List (List ℕ)} (p.0, ws) y = cc in
    (w, ap (λ (z : A × List (List ℕ)). w ∷ z.1) r, p.1 ∙ ap (λ (z : A × List (List ℕ)). Some z.0) r)

-- `read` gives the value that a text spells, and nothing where it spells none
pub record IsReader {A B : Type 0} (spell : A → B) (Ok : A → Type 0) (read : B → Option A) : Type 0 where
  pub sound : (w : B) (a : A) → read w ≡ Some a → Ok a × (w ≡ spell a)
  pub complete : (a : A) → Ok a → read (spell a) ≡ Some a

module _ {A : Type 0} {spell : A → List ℕ} {Ok : A → Type 0} {read : List ℕ → Option A} (reads : IsReader spell Ok read) where
  pub front_reads : (ws : List (List ℕ)) (y : A × List (List ℕ)) → front read ws ≡ Some y → Ok y.0 × (ws ≡ spell y.0 ∷ y.1)
  front_reads ws y e =
      let p = front_some read ws y e in
      let q = reads.sound p.0 y.0 p.2 in
      (q.0, p.1 ∙ ap (λ (w : List ℕ). w ∷ y.1) q.1)

  pub front_again : (a : A) (ws : List (List ℕ)) → Ok a → front read (spell a ∷ ws) ≡ Some (a, ws)
  front_again a ws ok = ap (λ (r : Option A). r >>= λ x. Some (x, ws)) (reads.complete a ok)

  pub alone_reads : (ws : List (List ℕ)) (y : A) → alone read ws ≡ Some y → Ok y × (ws ≡ spell y ∷ [])
  alone_reads ws y e =
      let p = bind_some (front read ws) (λ x. ended x.0 x.1) y e in
      let q = front_reads ws p.0 p.1 in
      let r = ended_some p.0.0 y p.0.1 p.2 in
      (subst Ok r.1 q.0, q.1 ∙ ap (λ (t : List (List ℕ)). spell p.0.0 ∷ t) r.0 ∙ ap (λ (x : A). spell x ∷ []) r.1)

  pub alone_again : (a : A) → Ok a → alone read (spell a ∷ []) ≡ Some a
  alone_again a ok = ap (λ (r : Option (A × List (List ℕ))). r >>= λ x. ended x.0 x.1) (front_again a [] ok)

  pub alone_reader : IsReader (λ a. spell a ∷ []) Ok (alone read)
  alone_reader = record { sound = alone_reads; complete = alone_again }

module _ {A B : Type 0} {s : A → List ℕ} {O : A → Type 0} {r : List ℕ → Option A} {t : B → List (List ℕ)} {P : B → Type 0} {q : List (List ℕ) → Option B} (first : IsReader s O r) (rest : IsReader t P q) where
  pub both_reads : (ws : List (List ℕ)) (y : A × B) → both r q ws ≡ Some y → (O y.0 × P y.1) × (ws ≡ s y.0 ∷ t y.1)
  both_reads ws y e =
      let f = bind_some (front r ws) (λ x. q x.1 >>= λ z. Some (x.0, z)) y e in
      let g = bind_some (q f.0.1) (λ z. Some (f.0.0, z)) y f.2 in
      let h = front_reads first ws f.0 f.1 in
      let k = rest.sound f.0.1 g.0 g.1 in
      let i : ◌≡◌ {A = Option (A × B)} (Some (f.0.0, g.0)) (Some y) = g.2 in
      let j : ◌≡◌ {A = A × B} (f.0.0, g.0) y = cc in
      (subst (λ (z : A × B). O z.0 × P z.1) j (h.0, k.0), h.1 ∙ ap (λ (x : List (List ℕ)). s f.0.0 ∷ x) k.1 ∙ ap (λ (z : A × B). s z.0 ∷ t z.1) j)

  pub both_again : (y : A × B) → O y.0 × P y.1 → both r q (s y.0 ∷ t y.1) ≡ Some y
  both_again y ok =
      ap (λ (x : Option (A × List (List ℕ))). x >>= λ x. q x.1 >>= λ z. Some (x.0, z)) (front_again first y.0 (t y.1) ok.0)
      ∙ ap (λ (x : Option B). x >>= λ z. Some (y.0, z)) (rest.complete y.1 ok.1)

  pub both_reader : IsReader (λ y. s y.0 ∷ t y.1) (λ y. O y.0 × P y.1) (both r q)
  both_reader = record { sound = both_reads; complete = both_again }
