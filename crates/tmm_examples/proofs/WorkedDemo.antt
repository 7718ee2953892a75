-- The script of `demo 1`, the lines of later events, the size at its end, and its summary.
use Rattle.std.proofs.Common.{◌≡◌, List, [], ◌∷◌, refl}
use Rattle.std.specs.Prelude.{codes, Some, Option}
use Rattle.std.specs.Fmt.{digits}
use Rattle.tmm_model.specs.declared.answer.Answer.TheVariants.{Yes}
use Rattle.tmm_model.specs.declared.premise.Premise.TheVariants.{Kind, Token, Event}
use Rattle.tmm_model.specs.Answers.{size, ask, holds}
use Rattle.tmm_model.specs.Generator.{script_of, event_lines, summary}
use Rattle.tmm_model.specs.Types.{Listed}
use Rattle.tmm_model.specs.Maps.{built}
use Rattle.tmm_model.specs.Replies.{Reply, Accepted, Answered, SizeIs}
use Rattle.tmm_model.specs.Standing.{Standing}
use Rattle.belief_theory.proofs.FarTables.{of_map}
use Rattle.tmm_examples.proofs.WorkedScripts.{within, class, rule, dated, root}

script : script_of 1
    ≡ codes "class m idle busy"
    ∷ codes "kind go"
    ∷ codes "kind done"
    ∷ codes "rule r go 1 2 busy if idle"
    ∷ codes "rule d go 3 5 done"
    ∷ codes "rule i done 1 1 idle"
    ∷ codes "token k idle"
    ∷ codes "dist z start k 0 0"
    ∷ codes "event e0 go"
    ∷ codes "dist a0 start e0 10 10"
    ∷ codes "ask idle e0 e0"
    ∷ codes "size"
    ∷ []
unfolding digits
script = refl

-- from the 61st event on the one 60 before is erased
event_61 : event_lines 61 ≡ codes "erase e1" ∷ codes "event e61 go" ∷ codes "dist a61 start e61 20 20" ∷ codes "ask idle e61 e61" ∷ []
unfolding digits
event_61 = refl

-- the list at the end of `demo 1`
abbrev at_end : Standing
at_end =
    within 1000 (
    class (codes "m") (codes "idle" ∷ codes "busy" ∷ [])
    ∷ Kind (codes "go")
    ∷ Kind (codes "done")
    ∷ rule (codes "r") (codes "go") 1 2 (codes "busy") (codes "idle" ∷ [])
    ∷ rule (codes "d") (codes "go") 3 5 (codes "done") []
    ∷ rule (codes "i") (codes "done") 1 1 (codes "idle") []
    ∷ Token (codes "k") (codes "idle")
    ∷ dated (codes "z") (codes "k") 0
    ∷ Event (codes "e0") (codes "go")
    ∷ dated (codes "a0") (codes "e0") 10 ∷ [])

idle_at_event : ask (built at_end) (codes "idle") (root (codes "e0")) (root (codes "e0")) ≡ holds (root (codes "k"))
idle_at_event = of_map (λ m. ask m (codes "idle") (root (codes "e0")) (root (codes "e0"))) at_end

size_at_end : size (built at_end) ≡ 12
size_at_end = of_map size at_end

abbrev seq : {T : Type 0} → List T → Listed T
seq xs = record { items = xs; room = 0 }

abbrev ok : Option Reply
ok = Some (Accepted (record { erased = seq []; left = seq []; entered = seq []; loose = seq []; clips = seq []; broken = seq []; mended = seq [] }))

abbrev held : Option Reply
held = Some (Answered (Yes (record { root = codes "k"; rules = seq [] })))

summed : summary 1 (ok ∷ ok ∷ ok ∷ ok ∷ ok ∷ ok ∷ ok ∷ ok ∷ ok ∷ ok ∷ held ∷ Some (SizeIs 12) ∷ [])
    ≡ codes "demo 1 lines 12 ok 10 yes 1 no 0 refused 0 memory 0 size 12\n"
unfolding digits
summed = refl
