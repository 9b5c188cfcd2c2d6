-- How the writing of a text may come out, and what was gathered and taken of one that is written in blocks.
use Rattle.std.specs.Prelude.{◌≡◌, List, ℕ, [], ◌++◌, Result, Ok, Err}
use Rattle.lr_base.specs.Outside.{SinkSeen, Takes, Fails}
use Rattle.writing_theory.specs.declared.fault.WriteFault.{WriteFault}
use Rattle.writing_theory.specs.declared.fault.WriteFault.TheVariants.{Failed, NoMemory}

-- what was gathered before, and then the text, is what the sink took and then what is gathered now
pub record Passes (before after : SinkSeen) (old new text : List ℕ) : Type 0 where
  pub taken : List ℕ
  pub takes : Takes before after taken
  pub joined : old ++ text ≡ taken ++ new

-- memory ran out: the sink took nothing, or some of the first bytes of a text of which this is known
pub data IsCut (Is : List ℕ → Type 0) (before after : SinkSeen) : Type 0 where
  nothing_taken : Takes before after [] → IsCut Is before after
  front_taken : {text front : List ℕ} (rest : List ℕ) → Is text → text ≡ front ++ rest → Takes before after front → IsCut Is before after

-- how the writing of a text of which this is known may come out: all of it was taken, the sink failed within it, or
-- memory ran out
pub data IsWritten (Is : List ℕ → Type 0) (before after : SinkSeen) : Result (Unit {0}) WriteFault → Type 0 where
  all_taken : {text : List ℕ} → Is text → Takes before after text → IsWritten Is before after (Ok tt)
  part_taken : {text : List ℕ} → Is text → Fails before after text → IsWritten Is before after (Err Failed)
  cut : IsCut Is before after → IsWritten Is before after (Err NoMemory)
