-- Limits that are passed.
use Rattle.std.specs.Prelude.{◌≡◌, ℕ, ◌+◌, ◌⊎◌, List, [], ◌∷◌, ◌++◌, length, sum_by, Some, None, Result, MatchResult}
use Rattle.lr_base.specs.declared.limits.TheConstants.{TOKENS, SKIPS, NAMES, RULES, SIDE_SYMBOLS, SYMBOLS}
use Rattle.grammar_data.specs.Grammar.{Rule}
use Rattle.lr_base.specs.IsGrammar.{symbols_of}
use Rattle.scanning_theory.specs.declared.limits.TheConstants.{POSITIONS}
use Rattle.sheet_data.specs.declared.parts.Decl.{Decl}
use Rattle.outline_data.specs.declared.fault.LimitKind.{LimitKind}
use Rattle.outline_data.specs.declared.fault.LimitKind.TheVariants.{Tokens, Skips, Names, Rules, RightSide, Symbols, Positions}
use Rattle.outline_data.specs.declared.fault.SheetFault.{SheetFault}
use Rattle.outline_data.specs.declared.fault.SheetFault.TheVariants.{Limit, NoMemory}
use Rattle.outline_theory.specs.Limits.{Measure, first_passed, skips_in, positions_in, long_side}
use Rattle.outline_theory.specs.Numbering.{WordLists}
use Rattle.numbering_theory.specs.KnownWords.{unnamed_in}

abbrev pub one_measure : LimitKind → ℕ → ℕ → List Measure
one_measure kind count most = record { kind = kind; count = count; most = most } ∷ []

-- the first of these limits that is passed
pub record IsFirstOf (measures : List Measure) (fault : SheetFault) : Type 0 where
  pub measure : Measure
  pub passed : first_passed measures ≡ Some measure
  pub is : fault ≡ Limit measure.kind measure.count

-- either none of them is passed, or the first is told
abbrev pub Keeps : {A : Type 0} → List Measure → Result A SheetFault → Type 0
Keeps measures result = MatchResult result (λ _. first_passed measures ≡ None) (IsFirstOf measures)

-- the quantities of words and skip patterns, those of rules, and the positions
abbrev pub word_measures : WordLists → List Decl → List Measure
word_measures lists decls =
    record { kind = Tokens; count = length lists.literals; most = TOKENS } ∷ record { kind = Skips; count = sum_by skips_in decls; most = SKIPS } ∷ record { kind = Names; count = length lists.names; most = NAMES } ∷ []

abbrev pub rule_measures : List Rule → List Measure
rule_measures rules =
    record { kind = Rules; count = length rules; most = RULES } ∷ record { kind = RightSide; count = long_side rules; most = SIDE_SYMBOLS } ∷ record { kind = Symbols; count = symbols_of rules; most = SYMBOLS } ∷ []

abbrev pub position_measures : WordLists → List Decl → List Measure
position_measures lists decls =
    record { kind = Positions; count = sum_by positions_in decls + sum_by length (unnamed_in lists); most = POSITIONS } ∷ []

-- all of them, in their order
abbrev pub all_measures : WordLists → List Decl → List Rule → List Measure
all_measures lists decls rules = word_measures lists decls ++ (rule_measures rules ++ position_measures lists decls)

-- want of memory, or the first limit that is passed
abbrev pub IsFirstFaultOf : List Measure → SheetFault → Type 0
IsFirstFaultOf measures fault = (fault ≡ NoMemory) ⊎ IsFirstOf measures fault
