-- The declarations, templates and marks of a sheet, and those of its outline.
use Rattle.std.specs.Prelude.{ℕ, List, [], ◌∷◌, map, Option, MatchOption}
use Rattle.pattern_data.specs.declared.pattern.Pattern.{Pattern}
use Rattle.pattern_data.specs.Language.{Matches}
use Rattle.pattern_data.specs.Spellings.{IsSpelling}
use Rattle.sheet_data.specs.declared.parts.Decl.{Decl}
use Rattle.outline_data.specs.declared.outline.Declaration.{Declaration}
use Rattle.outline_data.specs.declared.outline.Declaration.TheVariants.{Literal, Matched, Skip, Start}
use Rattle.outline_theory.specs.Numbering.{AreDecls}
use Rattle.sheet_data.specs.declared.parts.Part.{Part}
pub use Rattle.numbering_theory.specs.KeptSheets.{AreShort}
use Rattle.sheet_reader.specs.declared.parts.RuleTexts.{RuleTexts}

-- the text of a pattern: that it spells none is refuted, and none that it spells has the empty string
pub record IsPatternText (text : List ℕ) : Type 0 where
  pub spelled : ((pattern : Pattern) → ¬ (IsSpelling text pattern)) → ⊥
  pub filled : (pattern : Pattern) → IsSpelling text pattern → ¬ (Matches pattern [])

abbrev pub HasPatternText : Declaration → Type 0
HasPatternText (Literal name literal) = Unit {0}
HasPatternText (Matched name pattern) = IsPatternText pattern.bytes
HasPatternText (Skip pattern) = IsPatternText pattern.bytes
HasPatternText (Start line name) = Unit {0}

-- what a sheet keeps of a declaration
abbrev pub IsKept : Declaration → Option Decl → Type 0
IsKept declaration kept = MatchOption kept (AreDecls (declaration ∷ []) []) (λ decl. AreDecls (declaration ∷ []) (decl ∷ []))

abbrev pub templates_in : RuleTexts → List (List Part)
templates_in texts = map (λ t. t.items) texts.templates.items

abbrev pub declares_in : RuleTexts → List (List ℕ)
declares_in texts = map (λ d. d.items) texts.declares.items
