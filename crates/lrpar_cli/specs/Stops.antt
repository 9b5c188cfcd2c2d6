-- What is said where a command does not come to its end, and with which status.
use Rattle.std.specs.Prelude.{◌≡◌, ℕ, List, [], Result, Ok, Err, ◌⊎◌}
use Rattle.lr_base.specs.declared.reading.ReadFault.{ReadFault as Reading}
use Rattle.lr_base.specs.declared.reading.ReadFault.TheVariants.{Failed as reading_failed, NoMemory as reading_spent}
use Rattle.writing_theory.specs.declared.fault.WriteFault.{WriteFault as Writing}
use Rattle.writing_theory.specs.declared.fault.WriteFault.TheVariants.{Failed as writing_failed, NoMemory as writing_spent}
use Rattle.answer_theory.specs.declared.status.Status.{Status}
use Rattle.answer_theory.specs.declared.status.Status.TheVariants.{Done, ReadFault, WriteFault, NoMemory}
use Rattle.lrpar_cli.specs.declared.stop.Stop.{Stop}
use Rattle.lrpar_cli.specs.declared.stop.Stop.TheVariants.{Due, Unread, Unwritten, Spent}
use Rattle.lrpar_cli.specs.Endings.{read_fault_text, write_fault_text}

-- what is said of an outcome on the error output
abbrev pub said_of : Result (Unit {0}) Stop → List ℕ
said_of (Ok done) = []
said_of (Err (Due status said)) = said
said_of (Err Unread) = read_fault_text
said_of (Err Unwritten) = write_fault_text
said_of (Err Spent) = []

-- the status of an outcome
abbrev pub status_of : Result (Unit {0}) Stop → Status
status_of (Ok done) = Done
status_of (Err (Due status said)) = status
status_of (Err Unread) = ReadFault
status_of (Err Unwritten) = WriteFault
status_of (Err Spent) = NoMemory

-- why a reading stops a command
abbrev pub reading_stop : Reading → Stop
reading_stop reading_failed = Unread
reading_stop reading_spent = Spent

-- why a writing stops a command
abbrev pub writing_stop : Writing → Stop
writing_stop writing_failed = Unwritten
writing_stop writing_spent = Spent

-- this is due, with the status, or memory ran out before it was made
abbrev pub IsDueStop : Status → List ℕ → Stop → Type 0
IsDueStop status said stop = (stop ≡ Due status said) ⊎ (stop ≡ Spent)

-- the command stops before it comes to its output
abbrev pub StopsEarly : Result (Unit {0}) Stop → Type 0
StopsEarly (Ok done) = ⊥
StopsEarly (Err (Due status said)) = Unit {0}
StopsEarly (Err Unread) = Unit {0}
StopsEarly (Err Unwritten) = ⊥
StopsEarly (Err Spent) = ⊥
