-- The fault that an analysis of a grammar's names shows: the first useless name.
use Rattle.std.specs.Prelude.{◌≡◌, ◌≢◌}
use Rattle.grammar_data.specs.Grammar.{Grammar}
use Rattle.grammar_theory.specs.UselessNames.{IsUseful, IsLeastUnproductive, IsLeastUnreachable, IsLeastTooLarge}
use Rattle.first_sets.specs.declared.fault.UselessFault.{UselessFault}
use Rattle.first_sets.specs.declared.fault.UselessFault.TheVariants.{Unproductive, Unreachable, EmptyTooLarge, NoMemory}

-- the fault is due; of want of memory nothing is said
abbrev pub IsDue : Grammar → UselessFault → Type 0
IsDue g (Unproductive n) = IsLeastUnproductive g n
IsDue g (Unreachable n) = IsLeastUnreachable g n
IsDue g (EmptyTooLarge n) = IsLeastTooLarge g n
IsDue g NoMemory = Unit {0}

-- where all names are useful, no fault is due
abbrev pub UsefulLaw : Type 0
UsefulLaw = (g : Grammar) (fault : UselessFault) → IsUseful g → IsDue g fault → fault ≡ NoMemory

-- one fault is due at most
abbrev pub OneNameFaultLaw : Type 0
OneNameFaultLaw = (g : Grammar) (fault other : UselessFault) → IsDue g fault → IsDue g other → fault ≢ NoMemory → other ≢ NoMemory → fault ≡ other
