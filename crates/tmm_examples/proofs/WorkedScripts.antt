-- Worked scripts, as the premises that they leave, and how checks compute with their distances.
use Rattle.std.proofs.Common.{◌++◌, ℕ, List, [], ◌∷◌, pos}
use Rattle.std.specs.Prelude.{codes}
use Rattle.tmm_model.specs.declared.bound.Bound.TheVariants.{Finite}
use Rattle.tmm_model.specs.declared.point.PointName.TheVariants.{Start, Begin}
use Rattle.tmm_model.specs.declared.premise.Premise.{Premise}
use Rattle.tmm_model.specs.declared.premise.Premise.TheVariants.{Class, Kind, Point, Event, Token, Dist, Rule, Protect}
use Rattle.tmm_model.specs.declared.version.Version.TheVariants.{One, Two}
use Rattle.tmm_model.specs.Standing.{Standing}
use Rattle.tmm_model.specs.Moments.{Moment, At, After}

-- ---- writing

abbrev pub within : ℕ → List Premise → Standing
within horizon premises = record { version = One; horizon = horizon; premises = premises }

-- in version 2
abbrev pub within_two : ℕ → List Premise → Standing
within_two horizon premises = record { version = Two; horizon = horizon; premises = premises }

abbrev pub class : List ℕ → List (List ℕ) → Premise
class name facts = Class name (record { items = facts })

abbrev pub rule_unless : List ℕ → List ℕ → ℕ → ℕ → List ℕ → List (List ℕ) → List (List ℕ) → Premise
rule_unless name kind lo hi effect given unless_facts =
    Rule name kind (pos lo) (Finite (pos hi)) effect (record { items = given }) (record { items = unless_facts })

abbrev pub rule : List ℕ → List ℕ → ℕ → ℕ → List ℕ → List (List ℕ) → Premise
rule name kind lo hi effect given = rule_unless name kind lo hi effect given []

-- `dist name start p n n`, and `dist name p q n n`
abbrev pub dated : List ℕ → List ℕ → ℕ → Premise
dated name p n = Dist name Start (Begin p) (Finite (pos n)) (Finite (pos n))

abbrev pub apart_by : List ℕ → List ℕ → List ℕ → ℕ → Premise
apart_by name p q n = Dist name (Begin p) (Begin q) (Finite (pos n)) (Finite (pos n))

abbrev pub root : List ℕ → Moment
root name = At (Begin name)

-- the effect of the rule on the root
abbrev pub effect : List ℕ → List ℕ → Moment
effect name r = After (At (Begin name)) r

-- ---- scripts

abbrev pub door : Premise
door = class (codes "door") (codes "open" ∷ codes "shut" ∷ [])

-- class door open shut / token k open / token m shut
abbrev pub two_tokens : List Premise
two_tokens = door ∷ Token (codes "k") (codes "open") ∷ Token (codes "m") (codes "shut") ∷ []

-- class door open shut / kind push / rule r push 1 2 shut if open / token k open / dist z start k 0
-- 0
abbrev pub before_push : List Premise
before_push =
    door
    ∷ Kind (codes "push")
    ∷ rule (codes "r") (codes "push") 1 2 (codes "shut") (codes "open" ∷ [])
    ∷ Token (codes "k") (codes "open")
    ∷ dated (codes "z") (codes "k") 0
    ∷ []

-- class door open shut / class bolt fast loose / kind push / rule r push 1 1 shut if open unless
-- fast / token k open / dist z start k 0 0 / event e push / dist x start e 10 10 / token b fast /
-- dist y start b 0 0
abbrev pub bolted_door : List Premise
bolted_door =
    door
    ∷ class (codes "bolt") (codes "fast" ∷ codes "loose" ∷ [])
    ∷ Kind (codes "push")
    ∷ rule_unless (codes "r") (codes "push") 1 1 (codes "shut") (codes "open" ∷ []) (codes "fast" ∷ [])
    ∷ Token (codes "k") (codes "open")
    ∷ dated (codes "z") (codes "k") 0
    ∷ Event (codes "e") (codes "push")
    ∷ dated (codes "x") (codes "e") 10
    ∷ Token (codes "b") (codes "fast")
    ∷ dated (codes "y") (codes "b") 0
    ∷ []

-- and then: event e push / dist x start e 10 10
abbrev pub push : List Premise
push = before_push ++ Event (codes "e") (codes "push") ∷ dated (codes "x") (codes "e") 10 ∷ []

-- class a a1 a2 / class b b1 b2 / kind t / kind u / token p a1 / dist pz start p 0 0 / token q b1 /
-- dist qz start q 0 0 / rule r t 1 1 b2 if a1 / rule s u 1 1 a2 if b1 / event e t
abbrev pub one_event : List Premise
one_event =
    class (codes "a") (codes "a1" ∷ codes "a2" ∷ [])
    ∷ class (codes "b") (codes "b1" ∷ codes "b2" ∷ [])
    ∷ Kind (codes "t")
    ∷ Kind (codes "u")
    ∷ Token (codes "p") (codes "a1")
    ∷ dated (codes "pz") (codes "p") 0
    ∷ Token (codes "q") (codes "b1")
    ∷ dated (codes "qz") (codes "q") 0
    ∷ rule (codes "r") (codes "t") 1 1 (codes "b2") (codes "a1" ∷ [])
    ∷ rule (codes "s") (codes "u") 1 1 (codes "a2") (codes "b1" ∷ [])
    ∷ Event (codes "e") (codes "t")
    ∷ []

-- and then: event f u
abbrev pub two_events : List Premise
two_events = one_event ++ Event (codes "f") (codes "u") ∷ []

-- class door open shut / class lamp dark lit / kind push / rule r push 1 1 lit if open / token k
-- open / dist z start k 0 0 / token n dark / dist y start n 0 0
abbrev pub lamp : List Premise
lamp =
    door
    ∷ class (codes "lamp") (codes "dark" ∷ codes "lit" ∷ [])
    ∷ Kind (codes "push")
    ∷ rule (codes "r") (codes "push") 1 1 (codes "lit") (codes "open" ∷ [])
    ∷ Token (codes "k") (codes "open")
    ∷ dated (codes "z") (codes "k") 0
    ∷ Token (codes "n") (codes "dark")
    ∷ dated (codes "y") (codes "n") 0
    ∷ []

-- token m shut / dist x start m 5 5
abbrev pub shut_at_five : List Premise
shut_at_five = Token (codes "m") (codes "shut") ∷ dated (codes "x") (codes "m") 5 ∷ []

-- event e push / dist w start e 10 10
abbrev pub push_at_ten : List Premise
push_at_ten = Event (codes "e") (codes "push") ∷ dated (codes "w") (codes "e") 10 ∷ []

-- kind t / event e t / dist z start e 0 0 / rule r t n n t
abbrev pub chain : ℕ → List Premise
chain n =
    Kind (codes "t")
    ∷ Event (codes "e") (codes "t")
    ∷ dated (codes "z") (codes "e") 0
    ∷ rule (codes "r") (codes "t") n n (codes "t") []
    ∷ []

-- class door open shut / token k open / dist z start k 0 0 / point p / dist y start p 8 8 /
-- protect g open k p
abbrev pub guarded : List Premise
guarded =
    door
    ∷ Token (codes "k") (codes "open")
    ∷ dated (codes "z") (codes "k") 0
    ∷ Point (codes "p")
    ∷ dated (codes "y") (codes "p") 8
    ∷ Protect (codes "g") (codes "open") (Begin (codes "k")) (Begin (codes "p"))
    ∷ []
