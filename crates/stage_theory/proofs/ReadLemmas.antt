-- Bytes that are read up to a place, and what this says of the sheet.
use Rattle.std.proofs.Common.{◌≡◌, ◌≢◌, ⊎_elim, ℕ, List, [], ◌∷◌, ◌++◌, length, refl, sym, subst}
use Rattle.std.specs.Prelude.{map, None, Some, MatchBool}
use Rattle.std.proofs.lemmas.List.{append-nil, map-append}
use Rattle.lexeme_theory.specs.declared.lexeme.Lexeme.{Lexeme}
use Rattle.lexeme_theory.specs.declared.found.FaultKind.{FaultKind}
use Rattle.lexeme_theory.specs.declared.found.FaultKind.TheVariants.{Syntax}
use Rattle.lexeme_theory.specs.Lines.{line_of}
use Rattle.lexeme_theory.specs.Stands.{IsLexeme}
use Rattle.lexeme_theory.specs.Reading.{Placed, placed_in, AreBlanks, AreLexemes}
use Rattle.lexeme_theory.specs.Reading.AreLexemes.{no_lexeme, lexeme_first}
use Rattle.lexeme_theory.proofs.ReadingLemmas.{reading_join, blanks_read}
use Rattle.outline_data.specs.Parts.{OutlineParts}
use Rattle.outline_theory.specs.Spelling.{kept, line_kept}
use Rattle.outline_theory.specs.Outlines.{IsOutlineOf, IsWrongAt, IsLexicalFault}
use Rattle.outline_theory.specs.Outlines.IsWrongAt.{no_sheet_goes_on, no_whole_sheet}
use Rattle.stage_theory.specs.Stages.Stage.{rules, ended}
use Rattle.stage_theory.specs.Drafts.{Draft, stage_of, next_draft, first_draft, IsDraftOf}
use Rattle.stage_theory.proofs.RunLemmas.{whole_draft}
use Rattle.stage_theory.proofs.StageLemmas.{draft_first, draft_more, draft_stuck, draft_begins, whole_leads, ended_leads, draft_outline}

-- the lexemes up to a place are read as the draft
pub record IsReadSoFar (bytes : List ℕ) (at : ℕ) (draft : Draft) : Type 0 where
  pub lexemes : List Placed
  pub read : AreLexemes bytes 0 lexemes at
  pub of : IsDraftOf (map kept lexemes) draft

pub so_far_none : (bytes : List ℕ) → IsReadSoFar bytes 0 first_draft
so_far_none bytes = record { lexemes = []; read = no_lexeme refl; of = draft_first }

-- blanks are passed
pub so_far_blanks : (bytes : List ℕ) (from to : ℕ) (draft : Draft) → IsReadSoFar bytes from draft → AreBlanks bytes from to → IsReadSoFar bytes to draft
so_far_blanks bytes from to draft h blanks = record {
  lexemes = h.lexemes;
  read = subst (λ ls. AreLexemes bytes 0 ls to) (append-nil h.lexemes) (reading_join bytes to [] h.read (blanks_read bytes blanks));
  of = h.of;
}

module _ (bytes : List ℕ) (at : ℕ) (draft : Draft) (h : IsReadSoFar bytes at draft) where
  -- a lexeme more
  pub so_far_lexeme : (next : ℕ) (more : Draft) (lexeme : Lexeme) → IsLexeme bytes at lexeme next → next_draft draft lexeme (line_of bytes at) ≡ Some more → IsReadSoFar bytes next more
  so_far_lexeme next more lexeme stands e =
      let last : Placed = placed_in bytes at lexeme in
      record {
        lexemes = h.lexemes ++ last ∷ [];
        read = reading_join bytes next (last ∷ []) h.read (lexeme_first stands (no_lexeme refl) refl);
        of = subst (λ ks. IsDraftOf ks more) (sym (map-append kept h.lexemes (last ∷ []))) (draft_more (map kept h.lexemes) draft lexeme (line_of bytes at) more h.of e);
      }

  -- what is wrong there is the fault, where the sheet isn't ended
  pub wrong_fault : (kind : FaultKind) → stage_of draft ≢ ended → IsWrongAt bytes (map kept h.lexemes) at kind → IsLexicalFault bytes kind (line_of bytes at)
  wrong_fault kind open_sheet wrong = record {
    lexemes = h.lexemes;
    at = at;
    read = h.read;
    begins = draft_begins draft (map kept h.lexemes) h.of;
    not_ended = λ w. open_sheet (ended_leads (map kept h.lexemes) draft h.of w);
    wrong = wrong;
    on = refl;
  }

  -- a lexeme that the draft doesn't take is wrong
  pub refused_fault : (next : ℕ) (lexeme : Lexeme) → stage_of draft ≢ ended → IsLexeme bytes at lexeme next → next_draft draft lexeme (line_of bytes at) ≡ None → IsLexicalFault bytes Syntax (line_of bytes at)
  refused_fault next lexeme open_sheet stands none =
      wrong_fault Syntax open_sheet (no_sheet_goes_on stands (draft_stuck (map kept h.lexemes) draft lexeme (line_of bytes at) (line_kept lexeme (line_of bytes at)) h.of none))

  -- so is the end before the sheet is whole
  pub end_fault : stage_of draft ≢ rules → stage_of draft ≢ ended → at ≡ length bytes → IsLexicalFault bytes Syntax (line_of bytes at)
  end_fault open_rules open_sheet end =
      wrong_fault Syntax open_sheet (no_whole_sheet end (λ w. ⊎_elim open_rules open_sheet (whole_leads (map kept h.lexemes) draft h.of w)))

  -- a whole draft is the outline
  module _ (o : OutlineParts) (whole : draft ≡ whole_draft o) where
    spells : IsDraftOf (map kept h.lexemes) (whole_draft o)
    spells = subst (λ d. IsDraftOf (map kept h.lexemes) d) whole h.of

    pub outline_of : MatchBool o.has_rest (Unit {0}) (at ≡ length bytes) → IsOutlineOf bytes o
    outline_of end = record { lexemes = h.lexemes; to = at; read = h.read; spelled = sym (draft_outline o (map kept h.lexemes) spells); shaped = spells.shaped; ended = end }
