-- One outline, one fault, and never two of the answers.
use Rattle.std.proofs.Common.{◌≡◌, ⊎_elim, ℕ, ◌≤◌, Bool, true, false, List, length, refl, sym, ap, subst, ◌∙◌, arith}
use Rattle.std.specs.Prelude.{map, MatchBool}
use Rattle.lexeme_theory.specs.declared.found.FaultKind.{FaultKind}
use Rattle.lexeme_theory.specs.Lines.{line_of}
use Rattle.outline_data.specs.Parts.{OutlineParts}
use Rattle.outline_theory.specs.Spelling.{Kept, kept, spelled_outline}
use Rattle.outline_theory.specs.Outlines.{IsOutlineOf, IsWholeSheet, IsWrongAt, IsLexicalFault}
use Rattle.outline_theory.specs.Outlines.IsWrongAt.{no_lexeme as wrong_no_lexeme, no_sheet_goes_on, no_whole_sheet}
use Rattle.outline_laws.proofs.CompareLemmas.{GoesOn, compare, none_behind}
use Rattle.outline_laws.proofs.StopLemmas.{begins_more, no_rest, fault_stops, same_kind, outline_stops, outline_begins, same_outline}

module _ (bytes : List ℕ) where
  -- one outline
  outline_on : (o p : OutlineParts) (h : IsOutlineOf bytes o) (i : IsOutlineOf bytes p) → GoesOn bytes h.lexemes h.to i.lexemes i.to → o ≡ p
  outline_on o p h i g =
      let none = outline_stops bytes o h i.to g.rest g.read (begins_more h.lexemes g.rest i.lexemes g.is (outline_begins bytes p i)) in
      same_outline o p h.shaped i.shaped (sym h.spelled ∙ sym (ap (λ ls. map kept ls) (no_rest h.lexemes g.rest i.lexemes g.is none)) ∙ i.spelled)

  pub one_outline : (o p : OutlineParts) → IsOutlineOf bytes o → IsOutlineOf bytes p → o ≡ p
  one_outline o p h i = ⊎_elim (λ g. outline_on o p h i g) (λ g. sym (outline_on p o i h g)) (compare bytes h.read i.to i.lexemes i.read)

  -- one fault
  fault_on : (kind other : FaultKind) (line other_line : ℕ) (f : IsLexicalFault bytes kind line) (g : IsLexicalFault bytes other other_line) → GoesOn bytes f.lexemes f.at g.lexemes g.at → (kind ≡ other) × (line ≡ other_line)
  fault_on kind other line other_line f g on =
      let stop = fault_stops bytes f.wrong on.read (begins_more f.lexemes on.rest g.lexemes on.is g.begins) in
      let P : ℕ → Type 0 = λ n. IsWrongAt bytes (map kept g.lexemes) n other in
      (same_kind bytes f.wrong (subst P (sym stop.0) g.wrong), f.on ∙ ap (λ n. line_of bytes n) stop.0 ∙ sym g.on)

  swapped : {kind other : FaultKind} {line other_line : ℕ} → (other ≡ kind) × (other_line ≡ line) → (kind ≡ other) × (line ≡ other_line)
  swapped same = (sym same.0, sym same.1)

  pub one_fault : (kind other : FaultKind) (line other_line : ℕ) → IsLexicalFault bytes kind line → IsLexicalFault bytes other other_line → (kind ≡ other) × (line ≡ other_line)
  one_fault kind other line other_line f g =
      ⊎_elim (λ on. fault_on kind other line other_line f g on) (λ on. swapped (fault_on other kind other_line line g f on)) (compare bytes f.read g.at g.lexemes g.read)

  -- no outline with a fault
  whole_no_fault : {ks : List Kept} {at : ℕ} {kind : FaultKind} → at ≡ length bytes → IsWholeSheet ks → IsWrongAt bytes ks at kind → ⊥
  whole_no_fault e whole (wrong_no_lexeme begins) = let inside = begins.inside in omega (arith, inside, e)
  whole_no_fault e whole (no_sheet_goes_on stands none) = let inside = stands.inside in omega (arith, inside, e)
  whole_no_fault e whole (no_whole_sheet end open_sheet) = open_sheet whole

  last_no_fault : (o : OutlineParts) (kind : FaultKind) (line : ℕ) (h : IsOutlineOf bytes o) (f : IsLexicalFault bytes kind line) → f.lexemes ≡ h.lexemes → (h.to ≡ length bytes → f.at ≡ length bytes) → ⊥
  last_no_fault o kind line h f same end = by_rest o.has_rest refl h.ended where
    spells : spelled_outline o ≡ map kept f.lexemes
    spells = sym h.spelled ∙ sym (ap (λ ls. map kept ls) same)

    by_rest : (b : Bool) → o.has_rest ≡ b → MatchBool b (Unit {0}) (h.to ≡ length bytes) → ⊥
    by_rest true e at = f.not_ended (record { outline = o; shaped = h.shaped; rest = e; spelled = spells })
    by_rest false e at = whole_no_fault (end at) (record { outline = o; shaped = h.shaped; spelled = spells }) f.wrong

  pub no_fault : (o : OutlineParts) (kind : FaultKind) (line : ℕ) → IsOutlineOf bytes o → IsLexicalFault bytes kind line → ⊥
  no_fault o kind line h f = ⊎_elim outline_first fault_first (compare bytes h.read f.at f.lexemes f.read) where
    outline_first : GoesOn bytes h.lexemes h.to f.lexemes f.at → ⊥
    outline_first g =
        let none = outline_stops bytes o h f.at g.rest g.read (begins_more h.lexemes g.rest f.lexemes g.is f.begins) in
        last_no_fault o kind line h f (no_rest h.lexemes g.rest f.lexemes g.is none) (λ e. let past : length bytes ≤ h.to = omega arith in sym (none_behind bytes g.read past).0 ∙ e)

    fault_first : GoesOn bytes f.lexemes f.at h.lexemes h.to → ⊥
    fault_first g =
        let stop = fault_stops bytes f.wrong g.read (begins_more f.lexemes g.rest h.lexemes g.is (outline_begins bytes o h)) in
        last_no_fault o kind line h f (sym (no_rest f.lexemes g.rest h.lexemes g.is stop.1)) (λ e. stop.0 ∙ e)
