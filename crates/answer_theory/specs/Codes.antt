-- The exit status of each way to end.
use Rattle.std.specs.Prelude.{ℕ}
use Rattle.answer_theory.specs.declared.status.Status.{Status}
use Rattle.answer_theory.specs.declared.status.Status.TheVariants.{Done, TextRefused, BadWords, SheetRefused, ReadFault, WriteFault, NoMemory, TextTooLong, NoSample}

abbrev pub code_of : Status → ℕ
code_of Done = 0
code_of TextRefused = 1
code_of BadWords = 2
code_of SheetRefused = 3
code_of ReadFault = 4
code_of WriteFault = 5
code_of NoMemory = 6
code_of TextTooLong = 7
code_of NoSample = 8
