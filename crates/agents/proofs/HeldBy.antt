-- What agents hold once one of them holds more, or nothing.
use Rattle.std.proofs.Common.{◌≡◌, ℕ, ◌+◌, ◌≤◌, Bool, true, false, cond, List, [], ◌∷◌, ◌++◌, length, refl, sym, ap, ◌∙◌, subst, arith}
use Rattle.std.specs.Prelude.{All, not, ◌≢◌, Option, Some, None, find, filter}
use Rattle.std.proofs.lemmas.List.Elements.{All-nil, All-cons, All-head, All-tail, All-filter}
use Rattle.tmm_model.specs.Points.{same_name}
use Rattle.walk_theory.proofs.Points.{same_name-self, same_name-is}
use Rattle.agents.specs.declared.batches.Held.{Held}
use Rattle.agents.specs.Batches.{edits_of, held_by, with_held, without}
use Rattle.agents.specs.Worlds.{Batch}

-- the batch is the agent's
abbrev pub is_of : List ℕ → Batch → Bool
is_of agent batch = same_name batch.agent agent

-- the batch with one more edit
abbrev grown : Batch → Held → Batch
grown b h = record { agent = b.agent; edits = b.edits ++ h ∷ [] }

-- an agent that is this one is not another
apart_too : (a b g : List ℕ) → same_name b a ≡ true → same_name a g ≡ false → same_name b g ≡ false
apart_too a b g is apart = ap (λ (n : List ℕ). same_name n g) (same_name-is b a is) ∙ apart

-- ---- one more edit

pub held_by-with : (bs : List Batch) (a : List ℕ) (h : Held) → held_by (with_held bs a h) a ≡ held_by bs a ++ h ∷ []
held_by-with [] a h = ap (λ (v : Bool). edits_of (cond v (Some (record { agent = a; edits = h ∷ [] })) None)) (same_name-self a)
held_by-with (b ∷ bs) a h = by (held_by-with bs a h) (is_of a b) refl where
  by : held_by (with_held bs a h) a ≡ held_by bs a ++ h ∷ [] → (v : Bool) → is_of a b ≡ v → held_by (cond v (grown b h ∷ bs) (b ∷ with_held bs a h)) a ≡ edits_of (cond v (Some b) (find (is_of a) bs)) ++ h ∷ []
  by again true is = ap (λ (v : Bool). edits_of (cond v (Some (grown b h)) (find (is_of a) bs))) is
  by again false is = ap (λ (v : Bool). edits_of (cond v (Some b) (find (is_of a) (with_held bs a h)))) is ∙ again

pub held_by-with_other : (bs : List Batch) (a g : List ℕ) (h : Held) → same_name a g ≡ false → held_by (with_held bs a h) g ≡ held_by bs g
held_by-with_other [] a g h apart = ap (λ (v : Bool). edits_of (cond v (Some (record { agent = a; edits = h ∷ [] })) None)) apart
held_by-with_other (b ∷ bs) a g h apart = by (held_by-with_other bs a g h apart) (is_of a b) refl where
  over : held_by (with_held bs a h) g ≡ held_by bs g → (u : Bool) → edits_of (cond u (Some b) (find (is_of g) (with_held bs a h))) ≡ edits_of (cond u (Some b) (find (is_of g) bs))
  over again true = refl
  over again false = again

  by : held_by (with_held bs a h) g ≡ held_by bs g → (v : Bool) → is_of a b ≡ v → held_by (cond v (grown b h ∷ bs) (b ∷ with_held bs a h)) g ≡ held_by (b ∷ bs) g
  by again true is =
      let other : is_of g b ≡ false = apart_too a b.agent g is apart in
      ap (λ (u : Bool). edits_of (cond u (Some (grown b h)) (find (is_of g) bs))) other
      ∙ sym (ap (λ (u : Bool). edits_of (cond u (Some b) (find (is_of g) bs))) other)
  by again false is = over again (is_of g b)

-- ---- nothing held

pub held_by-without : (bs : List Batch) (a : List ℕ) → held_by (without bs a) a ≡ []
held_by-without [] a = refl
held_by-without (b ∷ bs) a = by (held_by-without bs a) (is_of a b) refl where
  by : held_by (without bs a) a ≡ [] → (v : Bool) → is_of a b ≡ v → held_by (cond (not v) (b ∷ without bs a) (without bs a)) a ≡ []
  by again true is = again
  by again false is = ap (λ (u : Bool). edits_of (cond u (Some b) (find (is_of a) (without bs a)))) is ∙ again

pub held_by-without_other : (bs : List Batch) (a g : List ℕ) → same_name a g ≡ false → held_by (without bs a) g ≡ held_by bs g
held_by-without_other [] a g apart = refl
held_by-without_other (b ∷ bs) a g apart = by (held_by-without_other bs a g apart) (is_of a b) refl where
  over : held_by (without bs a) g ≡ held_by bs g → (u : Bool) → edits_of (cond u (Some b) (find (is_of g) (without bs a))) ≡ edits_of (cond u (Some b) (find (is_of g) bs))
  over again true = refl
  over again false = again

  by : held_by (without bs a) g ≡ held_by bs g → (v : Bool) → is_of a b ≡ v → held_by (cond (not v) (b ∷ without bs a) (without bs a)) g ≡ held_by (b ∷ bs) g
  by again true is =
      again
      ∙ sym (ap (λ (u : Bool). edits_of (cond u (Some b) (find (is_of g) bs))) (apart_too a b.agent g is apart))
  by again false is = over again (is_of g b)

-- ---- each batch has an edit

-- the batch has an edit
abbrev pub HasEdit : Batch → Type 0
HasEdit batch = batch.edits ≢ []

grown_has : (es : List Held) (h : Held) → es ++ h ∷ [] ≢ []
grown_has [] h = λ never. cc
grown_has (e ∷ es) h = λ never. cc

pub some-with : (bs : List Batch) (a : List ℕ) (h : Held) → All HasEdit bs → All HasEdit (with_held bs a h)
some-with [] a h all = All-cons HasEdit (record { agent = a; edits = h ∷ [] }) [] (grown_has [] h) all
some-with (b ∷ bs) a h all = by (some-with bs a h (All-tail HasEdit b bs all)) (is_of a b) where
  by : All HasEdit (with_held bs a h) → (v : Bool) → All HasEdit (cond v (grown b h ∷ bs) (b ∷ with_held bs a h))
  by again true = All-cons HasEdit (grown b h) bs (grown_has b.edits h) (All-tail HasEdit b bs all)
  by again false = All-cons HasEdit b (with_held bs a h) (All-head HasEdit b bs all) again

pub some-without : (bs : List Batch) (a : List ℕ) → All HasEdit bs → All HasEdit (without bs a)
some-without bs a all = All-filter (λ b. not (is_of a b)) HasEdit bs all

-- ---- no agent has two batches

-- how many batches are the agent's
abbrev pub batches_of : List Batch → List ℕ → ℕ
batches_of bs agent = length (filter (is_of agent) bs)

-- one batch more on both sides
both_more : (v : Bool) (b c : Batch) (bs cs : List Batch) → length bs ≤ length cs → length (cond v (b ∷ bs) bs) ≤ length (cond v (c ∷ cs) cs)
both_more true b c bs cs fewer = omega arith
both_more false b c bs cs fewer = fewer

once-with : (bs : List Batch) (a : List ℕ) (h : Held) → batches_of bs a ≤ 1 → batches_of (with_held bs a h) a ≤ 1
once-with [] a h once = by (same_name a a) where
  by : (v : Bool) → length {A = Batch} (cond v (record { agent = a; edits = h ∷ [] } ∷ []) []) ≤ 1
  by true = omega arith
  by false = omega arith
once-with (b ∷ bs) a h once = by (λ fewer. once-with bs a h fewer) (is_of a b) refl where
  by : (batches_of bs a ≤ 1 → batches_of (with_held bs a h) a ≤ 1) → (v : Bool) → is_of a b ≡ v → batches_of (cond v (grown b h ∷ bs) (b ∷ with_held bs a h)) a ≤ 1
  by again true is = omega (arith, both_more (is_of a b) (grown b h) b (filter (is_of a) bs) (filter (is_of a) bs) (omega arith), once)
  by again false is =
      let fewer : batches_of bs a ≤ 1 = subst (λ (u : Bool). length (cond u (b ∷ filter (is_of a) bs) (filter (is_of a) bs)) ≤ 1) is once in
      subst (λ (u : Bool). length (cond u (b ∷ filter (is_of a) (with_held bs a h)) (filter (is_of a) (with_held bs a h))) ≤ 1) (sym is) (again fewer)

once-with_other : (bs : List Batch) (a g : List ℕ) (h : Held) → same_name a g ≡ false → batches_of (with_held bs a h) g ≤ batches_of bs g
once-with_other [] a g h apart = subst (λ (u : Bool). length {A = Batch} (cond u (record { agent = a; edits = h ∷ [] } ∷ []) []) ≤ 0) (sym apart) (omega arith)
once-with_other (b ∷ bs) a g h apart = by (once-with_other bs a g h apart) (is_of a b) where
  by : batches_of (with_held bs a h) g ≤ batches_of bs g → (v : Bool) → batches_of (cond v (grown b h ∷ bs) (b ∷ with_held bs a h)) g ≤ batches_of (b ∷ bs) g
  by again true = both_more (is_of g b) (grown b h) b (filter (is_of g) bs) (filter (is_of g) bs) (omega arith)
  by again false = both_more (is_of g b) b b (filter (is_of g) (with_held bs a h)) (filter (is_of g) bs) again

pub once-held : (bs : List Batch) (a : List ℕ) (h : Held) → ((g : List ℕ) → batches_of bs g ≤ 1) → (g : List ℕ) → batches_of (with_held bs a h) g ≤ 1
once-held bs a h once g = by (same_name a g) refl where
  by : (v : Bool) → same_name a g ≡ v → batches_of (with_held bs a h) g ≤ 1
  by true is = subst (λ (n : List ℕ). batches_of (with_held bs a h) n ≤ 1) (same_name-is a g is) (once-with bs a h (once a))
  by false is = omega (arith, once-with_other bs a g h is, once g)

pub once-without : (bs : List Batch) (a g : List ℕ) → batches_of (without bs a) g ≤ batches_of bs g
once-without [] a g = omega arith
once-without (b ∷ bs) a g = by (once-without bs a g) (is_of a b) where
  drops : batches_of (without bs a) g ≤ batches_of bs g → (u : Bool) → batches_of (without bs a) g ≤ length (cond u (b ∷ filter (is_of g) bs) (filter (is_of g) bs))
  drops again true = omega arith
  drops again false = again

  by : batches_of (without bs a) g ≤ batches_of bs g → (v : Bool) → batches_of (cond (not v) (b ∷ without bs a) (without bs a)) g ≤ batches_of (b ∷ bs) g
  by again true = drops again (is_of g b)
  by again false = both_more (is_of g b) b b (filter (is_of g) (without bs a)) (filter (is_of g) bs) again
