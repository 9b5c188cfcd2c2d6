-- The stages know the grammar of sheets.
use Rattle.std.specs.Prelude.{◌≡◌, ◌↔◌, List, map, None, Some, ◌⊎◌}
use Rattle.lexeme_theory.specs.Reading.{Placed}
use Rattle.outline_theory.specs.Spelling.{Kept, kept}
use Rattle.outline_theory.specs.Outlines.{BeginsSheet, IsWholeSheet, IsEnded}
use Rattle.stage_theory.specs.Stages.{Stage, stage_after}
use Rattle.stage_theory.specs.Stages.Stage.{declarations, rules, ended}

-- lexemes that lead to a stage begin a sheet
abbrev pub BeginsLaw : Type 0
BeginsLaw = (stage : Stage) (lexemes : List Placed) → stage_after declarations (map kept lexemes) ≡ Some stage → BeginsSheet (map kept lexemes)

-- those that lead to none begin no sheet
abbrev pub StuckLaw : Type 0
StuckLaw = (lexemes : List Kept) → stage_after declarations lexemes ≡ None → ¬ (BeginsSheet lexemes)

-- they are a whole sheet between two left sides, and behind the second `%%`
abbrev pub WholeLaw : Type 0
WholeLaw = (stage : Stage) (lexemes : List Placed) → stage_after declarations (map kept lexemes) ≡ Some stage → (IsWholeSheet (map kept lexemes) ↔ ((stage ≡ rules) ⊎ (stage ≡ ended)))

-- the second `%%` ended it in the last stage
abbrev pub EndedLaw : Type 0
EndedLaw = (stage : Stage) (lexemes : List Placed) → stage_after declarations (map kept lexemes) ≡ Some stage → (IsEnded (map kept lexemes) ↔ (stage ≡ ended))
