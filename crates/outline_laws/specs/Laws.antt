-- Bytes are one outline, or have one first fault of the reading from left to right.
use Rattle.std.specs.Prelude.{◌≡◌, ℕ, List, ◌⊎◌}
use Rattle.lexeme_theory.specs.declared.found.FaultKind.{FaultKind}
use Rattle.outline_data.specs.Parts.{OutlineParts}
use Rattle.outline_theory.specs.Outlines.{IsOutlineOf, IsLexicalFault}

-- bytes have one outline at most
abbrev pub OneOutlineLaw : Type 0
OneOutlineLaw = (bytes : List ℕ) (one other : OutlineParts) → IsOutlineOf bytes one → IsOutlineOf bytes other → one ≡ other

-- and one lexical fault
abbrev pub OneFaultLaw : Type 0
OneFaultLaw = (bytes : List ℕ) (one other : FaultKind) (line other_line : ℕ) → IsLexicalFault bytes one line → IsLexicalFault bytes other other_line → (one ≡ other) × (line ≡ other_line)

-- bytes of an outline have no lexical fault
abbrev pub NoFaultLaw : Type 0
NoFaultLaw = (bytes : List ℕ) (outline : OutlineParts) (kind : FaultKind) (line : ℕ) → IsOutlineOf bytes outline → ¬ (IsLexicalFault bytes kind line)

abbrev pub HasSomeOutline : List ℕ → Type 0
HasSomeOutline bytes = (outline : OutlineParts) × IsOutlineOf bytes outline

abbrev pub HasLexicalFault : List ℕ → Type 0
HasLexicalFault bytes = (kind : FaultKind) × (line : ℕ) × IsLexicalFault bytes kind line

-- bytes have one of the two
abbrev pub SomeAnswerLaw : Type 0
SomeAnswerLaw = (bytes : List ℕ) → HasSomeOutline bytes ⊎ HasLexicalFault bytes
