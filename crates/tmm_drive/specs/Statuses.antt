-- How a run of the program ends, and with which number.
use Rattle.std.specs.Prelude.{ℕ, List, if◌then◌else◌}
use Rattle.std.specs.List.{list_any}
use Rattle.tmm_model.specs.declared.turn.Turn.{Turn}
use Rattle.tmm_model.specs.Runs.{is_refused, is_memory}
use Rattle.tmm_drive.specs.declared.status.Status.{Status}
use Rattle.tmm_drive.specs.declared.status.Status.TheVariants.{Clean, SomeRefused, Words, ReadFault, WriteFault, NoMemory, TooLong, SomeMemory}

-- the status of a script that was read to its end, with all replies written
abbrev pub status_of : List Turn → Status
status_of turns = if list_any is_memory turns then SomeMemory else (if list_any is_refused turns then SomeRefused else Clean)

-- the number that the program exits with
abbrev pub number_of : Status → ℕ
number_of Clean = 0
number_of SomeRefused = 1
number_of Words = 2
number_of ReadFault = 3
number_of WriteFault = 4
number_of NoMemory = 5
number_of TooLong = 6
number_of SomeMemory = 7
