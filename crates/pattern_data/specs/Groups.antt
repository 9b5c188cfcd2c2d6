-- What stands so far in brackets, or outside of all, while a spelling is read.
use Rattle.std.specs.Prelude.{nat_lt, if◌then◌else◌, List, [], ◌∷◌, ◌++◌, length, Option, None, Some, option_to_list, option_map}
use Rattle.pattern_data.specs.declared.pattern.Pattern.{Pattern}
use Rattle.pattern_data.specs.declared.signs.Repetition.{Repetition}
use Rattle.pattern_data.specs.declared.group.Group.{Group}
use Rattle.pattern_data.specs.declared.pattern.Pattern.TheVariants.{Set as set_pattern}
use Rattle.pattern_data.specs.declared.signs.Sign.{Sign}
use Rattle.pattern_data.specs.declared.signs.Sign.TheVariants.{Set, Open as open_bracket, Close, Bar, Repeat}
use Rattle.pattern_data.specs.declared.fault.PatternFault.{PatternFault}
use Rattle.pattern_data.specs.declared.fault.PatternFault.TheVariants.{Syntax, MatchesEmpty, NoMemory}
use Rattle.pattern_data.specs.Spellings.{seq_of, alt_of, repeated, most_open}

-- nothing yet
abbrev pub no_group : Group
no_group = record { alternatives = []; sequence = []; atom = None }

-- the members of the sequence that is being read, with the atom at its end
abbrev pub in_sequence : Group → List Pattern
in_sequence group = group.sequence ++ option_to_list group.atom

-- one atom more
abbrev pub with_atom : Group → Pattern → Group
with_atom group pattern = record { alternatives = group.alternatives; sequence = in_sequence group; atom = Some pattern }

-- the atom at the end is repeated
abbrev pub repeated_last : Group → Repetition → Option Pattern → Option Group
repeated_last group repetition None = None
repeated_last group repetition (Some inner) = Some (record { alternatives = group.alternatives; sequence = group.sequence ++ repeated repetition inner ∷ []; atom = None })

abbrev pub with_repetition : Group → Repetition → Option Group
with_repetition group repetition = repeated_last group repetition group.atom

-- the sequence ends, which has a member at least
abbrev pub ended : List Pattern → List Pattern → Option Group
ended alternatives [] = None
ended alternatives (member ∷ members) = Some (record { alternatives = alternatives ++ seq_of (member ∷ members) ∷ []; sequence = []; atom = None })

-- a bar ends the sequence
abbrev pub with_bar : Group → Option Group
with_bar group = ended group.alternatives (in_sequence group)

-- the whole: the sequence ends as well
abbrev pub whole_of : Group → Option Pattern
whole_of group = option_map (λ all. alt_of all.alternatives) (with_bar group)

-- a group, and those around it from the inside out
abbrev pub Open : Type 0
Open = Group × List Group

-- a bracket closes
abbrev pub closed : Option Pattern → List Group → Option Open
closed None outer = None
closed (Some pattern) [] = None
closed (Some pattern) (group ∷ outer) = Some (with_atom group pattern, outer)

-- what a sign makes of what is open; none where it can't stand there
abbrev pub with_sign : Sign → Group → List Group → Option Open
with_sign (Set words) group outer = Some (with_atom group (set_pattern words), outer)
with_sign open_bracket group outer = if nat_lt (length outer) most_open then Some (no_group, group ∷ outer) else None
with_sign Close group outer = closed (whole_of group) outer
with_sign Bar group outer = option_map (λ ended. (ended, outer)) (with_bar group)
with_sign (Repeat repetition) group outer = option_map (λ more. (more, outer)) (with_repetition group repetition)

-- the pattern at the end, where no bracket is open
abbrev pub at_end : Group → List Group → Option Pattern
at_end group [] = whole_of group
at_end group (other ∷ outer) = None

-- a syntax fault only where this holds, and no other fault but want of memory
abbrev pub SyntaxOnlyIf : Type 0 → PatternFault → Type 0
SyntaxOnlyIf P Syntax = P
SyntaxOnlyIf P MatchesEmpty = ⊥
SyntaxOnlyIf P NoMemory = Unit {0}
