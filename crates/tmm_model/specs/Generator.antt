-- The script that the words `demo N` run, and the line that they write.
use Rattle.std.specs.Prelude.{ℕ, zero, suc, ◌+◌, ◌*◌, ◌%◌, ◌-◌, Bool, true, false, nat_le, List, [], ◌∷◌, ◌++◌, length, count_by, decimal, codes, Option, Some, None}
use Rattle.tmm_model.specs.declared.answer.Answer.TheVariants.{Yes, No}
use Rattle.tmm_model.specs.Lines.{spaced}
use Rattle.tmm_model.specs.Replies.{Reply, Accepted, Answered, SizeIs, is_refusal}

-- a letter and a number
abbrev pub numbered : List ℕ → ℕ → List ℕ
numbered letter j = letter ++ decimal j

-- the events are 10 apart, and begin again at 10 after each 60
abbrev pub date_of : ℕ → ℕ
date_of j = 10 * (j % 60) + 10

-- what the script begins with: the classes, kinds and rules of a machine, and its first fact
abbrev pub first_lines : List (List ℕ)
first_lines =
    codes "class m idle busy"
    ∷ codes "kind go"
    ∷ codes "kind done"
    ∷ codes "rule r go 1 2 busy if idle"
    ∷ codes "rule d go 3 5 done"
    ∷ codes "rule i done 1 1 idle"
    ∷ codes "token k idle"
    ∷ codes "dist z start k 0 0"
    ∷ []

-- the event 60 before is erased, where there is one
abbrev pub erase_lines : ℕ → List (List ℕ)
erase_lines j = elim (nat_le 60 j) [ true ↦ spaced (codes "erase" ∷ numbered (codes "e") (j - 60) ∷ []) ∷ [] | false ↦ [] ]

-- the lines of event j
abbrev pub event_lines : ℕ → List (List ℕ)
event_lines j =
    erase_lines j
    ++ spaced (codes "event" ∷ numbered (codes "e") j ∷ codes "go" ∷ [])
    ∷ spaced (codes "dist" ∷ numbered (codes "a") j ∷ codes "start" ∷ numbered (codes "e") j ∷ decimal (date_of j) ∷ decimal (date_of j) ∷ [])
    ∷ spaced (codes "ask" ∷ codes "idle" ∷ numbered (codes "e") j ∷ numbered (codes "e") j ∷ [])
    ∷ []

-- the lines of the events below n, in order
abbrev pub events_below : ℕ → List (List ℕ)
events_below zero = []
events_below (suc j) = events_below j ++ event_lines j

-- **The script of `demo n`**, line by line.
abbrev pub script_of : ℕ → List (List ℕ)
script_of n = first_lines ++ events_below n ++ codes "size" ∷ []

-- ---- the summary of what its lines were answered; none is want of memory

-- an edit that was made
abbrev pub is_ok : Option Reply → Bool
is_ok (Some (Accepted changes)) = true
is_ok _ = false

-- a fact that holds
abbrev pub is_yes : Option Reply → Bool
is_yes (Some (Answered (Yes by))) = true
is_yes _ = false

-- a fact that does not hold, with its blames
abbrev pub is_no : Option Reply → Bool
is_no (Some (Answered (No blames more))) = true
is_no _ = false

-- a line that was refused
abbrev pub is_refused : Option Reply → Bool
is_refused (Some reply) = is_refusal reply
is_refused None = false

-- a line for which there was no memory
abbrev pub is_want : Option Reply → Bool
is_want (Some reply) = false
is_want None = true

-- the number of the last reply, and `*` for want of memory
abbrev pub size_word : Option Reply → List ℕ
size_word (Some (SizeIs n)) = decimal n
size_word _ = codes "*"

-- the number that the last reply tells
abbrev pub last_word : List (Option Reply) → List ℕ
last_word [] = codes "*"
last_word (reply ∷ []) = size_word reply
last_word (reply ∷ replies) = last_word replies

-- **The line that `demo n` writes**, where its lines were answered so.
abbrev pub summary : ℕ → List (Option Reply) → List ℕ
summary n replies =
    spaced (
    codes "demo" ∷ decimal n
    ∷ codes "lines" ∷ decimal (length replies)
    ∷ codes "ok" ∷ decimal (count_by is_ok replies)
    ∷ codes "yes" ∷ decimal (count_by is_yes replies)
    ∷ codes "no" ∷ decimal (count_by is_no replies)
    ∷ codes "refused" ∷ decimal (count_by is_refused replies)
    ∷ codes "memory" ∷ decimal (count_by is_want replies)
    ∷ codes "size" ∷ last_word replies ∷ [])
    ++ 10 ∷ []
