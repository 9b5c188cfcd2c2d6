-- What the lexemes that were read say of the sheet.
use Rattle.std.proofs.Common.{◌≡◌, ◌≢◌, ℕ, ◌+◌, ◌<◌, ◌≤◌, Bool, true, false, List, length, sym, ap, subst, ◌∙◌, arith}
use Rattle.std.specs.Prelude.{◌↔◌, IsTrue, min, None, Some, MatchBool, if◌then◌else◌, Result, Ok, Err, IfOk, IfErr}
use Rattle.std.specs.Result.{IsErrAnd}
use Rattle.std.proofs.lemmas.Bool.{false≢true}
use Rattle.lexeme_theory.specs.declared.lexeme.Lexeme.{Lexeme}
use Rattle.lexeme_theory.specs.declared.found.FaultKind.{FaultKind}
use Rattle.lexeme_theory.specs.declared.found.FaultKind.TheVariants.{BadByte as bad_byte_kind, Syntax as syntax_kind}
use Rattle.lexeme_theory.specs.Lines.{line_of}
use Rattle.lexeme_theory.proofs.ReadingLemmas.{blanks_read, reading_order, lexeme_on}
use Rattle.lexeme_theory.proofs.LineLemmas.{lines_before-most}
use Rattle.lr_base.specs.declared.limits.TheConstants.{SHEET_BYTES}
use Rattle.sheet_lexemes.specs.declared.cursor.Cursor.{Cursor}
use Rattle.sheet_lexemes.specs.declared.fault.LexFault.{LexFault}
use Rattle.sheet_lexemes.specs.declared.fault.LexFault.TheVariants.{BadByte as bad_byte_read, Syntax as syntax_read}
use Rattle.sheet_lexemes.specs.declared.read.Read.{Read}
use Rattle.sheet_lexemes.specs.declared.read.Read.TheVariants.{Lexeme as lexeme_read, End}
use Rattle.sheet_lexemes.specs.Cursors.{IsLexemeRead, IsEndRead, IsRead, IsFaultOn, IsLexFault}
use Rattle.outline_data.specs.declared.fault.SheetFault.{SheetFault}
use Rattle.outline_data.specs.declared.fault.SheetFault.TheVariants.{BadByte, Syntax, BadPattern, PatternMatchesEmpty, Redeclared, UnknownSymbol, NoRules, PlaceOutOfRange, PlaceTwice, NotAToken, Limit, NoMemory}
use Rattle.outline_data.specs.Parts.{OutlineParts}
use Rattle.outline_theory.specs.Outlines.{IsOutlineOf, IsLexicalFault}
use Rattle.outline_theory.specs.Outlines.IsWrongAt.{no_lexeme as wrong_no_lexeme}
use Rattle.stage_theory.specs.Stages.Stage.{ended}
use Rattle.stage_theory.specs.Drafts.{Draft, stage_of, next_draft}
use Rattle.stage_theory.specs.Drafts.RuleDraft.{no_rule, rules_ended}
use Rattle.stage_theory.specs.Drafts.Draft.{ruling}
use Rattle.stage_theory.proofs.ReadLemmas.{IsReadSoFar, so_far_blanks, so_far_lexeme, wrong_fault, refused_fault as refused_syntax, end_fault as end_syntax, outline_of}
use Rattle.outline_reader.specs.Progress.{IsFinished, IsUnfinished}
use Rattle.outline_reader.specs.Refusals.{IsRefused, IsNoLexeme}
use Rattle.outline_reader.specs.Faults.{IsOutlineFault}

-- a line is at most the number of the bytes, and at least 1
pub line_small : (bytes : List ℕ) (at line : ℕ) → length bytes ≤ SHEET_BYTES → line ≡ line_of bytes at → line ≤ SHEET_BYTES
line_small bytes at line size e = let most = lines_before-most bytes (min (at + 1) (length bytes)) in omega (arith, most, e)

-- what was read, by its kind
pub lexeme_is_read : (bytes : List ℕ) (from : ℕ) (read : Read) (lexeme : Lexeme) (begins behind : Cursor) → IsRead bytes from read → read ≡ lexeme_read lexeme begins behind → IsLexemeRead bytes from lexeme begins behind
lexeme_is_read bytes from read lexeme begins behind r is = let P : Read → Type 0 = λ x. IsRead bytes from x in subst P is r

pub end_is_read : (bytes : List ℕ) (from : ℕ) (read : Read) (end : Cursor) → IsRead bytes from read → read ≡ End end → IsEndRead bytes from end
end_is_read bytes from read end r is = let P : Read → Type 0 = λ x. IsRead bytes from x in subst P is r

pub bad_byte_found : (bytes : List ℕ) (from : ℕ) (fault : LexFault) (line : ℕ) → IsLexFault bytes from fault → fault ≡ bad_byte_read line → IsFaultOn bytes from bad_byte_kind line
bad_byte_found bytes from fault line f is = let P : LexFault → Type 0 = λ x. IsLexFault bytes from x in subst P is f

pub syntax_found : (bytes : List ℕ) (from : ℕ) (fault : LexFault) (line : ℕ) → IsLexFault bytes from fault → fault ≡ syntax_read line → IsFaultOn bytes from syntax_kind line
syntax_found bytes from fault line f is = let P : LexFault → Type 0 = λ x. IsLexFault bytes from x in subst P is f

-- the place moves on
pub read_on : (bytes : List ℕ) (from : ℕ) (lexeme : Lexeme) (begins behind : Cursor) → IsLexemeRead bytes from lexeme begins behind → from < behind.at
read_on bytes from lexeme begins behind r =
    let on = lexeme_on bytes begins.at behind.at lexeme r.stands in let blanks = reading_order bytes (blanks_read bytes r.blanks) in omega (arith, on, blanks)

-- and the lexeme is taken
pub so_far_more : (bytes : List ℕ) (from : ℕ) (draft next : Draft) (lexeme : Lexeme) (begins behind : Cursor) (line : ℕ) → IsReadSoFar bytes from draft → IsLexemeRead bytes from lexeme begins behind → line ≡ begins.line → next_draft draft lexeme line ≡ Some next → IsReadSoFar bytes behind.at next
so_far_more bytes from draft next lexeme begins behind line h r same e =
    let P : ℕ → Type 0 = λ n. next_draft draft lexeme n ≡ Some next in
    so_far_lexeme bytes begins.at draft (so_far_blanks bytes from begins.at draft h r.blanks) behind.at next lexeme r.stands (subst P (same ∙ r.begin.line) e)

module _ (bytes : List ℕ) (from : ℕ) (draft : Draft) (h : IsReadSoFar bytes from draft) (open_sheet : stage_of draft ≢ ended) where
  on_line : (kind : FaultKind) (at line : ℕ) → line ≡ line_of bytes at → IsLexicalFault bytes kind (line_of bytes at) → IsLexicalFault bytes kind line
  on_line kind at line e f = let P : ℕ → Type 0 = λ n. IsLexicalFault bytes kind n in subst P (sym e) f

  -- a lexeme that isn't taken is a fault
  pub refused_fault : (lexeme : Lexeme) (begins behind : Cursor) (line : ℕ) (fault : SheetFault) → IsLexemeRead bytes from lexeme begins behind → line ≡ begins.line → IsRefused (next_draft draft lexeme line) line fault → IsOutlineFault bytes fault
  refused_fault lexeme begins behind line (Syntax on) r same refused =
      let at : line ≡ line_of bytes begins.at = same ∙ r.begin.line in
      let P : ℕ → Type 0 = λ n. next_draft draft lexeme n ≡ None in
      on_line syntax_kind begins.at on (refused.1 ∙ at) (refused_syntax bytes begins.at draft (so_far_blanks bytes from begins.at draft h r.blanks) behind.at lexeme open_sheet r.stands (subst P at refused.0))
  refused_fault lexeme begins behind line NoMemory r same refused = tt
  refused_fault lexeme begins behind line (BadByte on) r same refused = absurd refused
  refused_fault lexeme begins behind line (BadPattern on) r same refused = absurd refused
  refused_fault lexeme begins behind line (PatternMatchesEmpty on) r same refused = absurd refused
  refused_fault lexeme begins behind line (Redeclared on) r same refused = absurd refused
  refused_fault lexeme begins behind line (UnknownSymbol on) r same refused = absurd refused
  refused_fault lexeme begins behind line NoRules r same refused = absurd refused
  refused_fault lexeme begins behind line (PlaceOutOfRange on) r same refused = absurd refused
  refused_fault lexeme begins behind line (PlaceTwice on) r same refused = absurd refused
  refused_fault lexeme begins behind line (NotAToken on) r same refused = absurd refused
  refused_fault lexeme begins behind line (Limit kind count) r same refused = absurd refused

  found_fault : (kind : FaultKind) (line : ℕ) → IsFaultOn bytes from kind line → IsLexicalFault bytes kind line
  found_fault kind line f = on_line kind f.at line f.on (wrong_fault bytes f.at draft (so_far_blanks bytes from f.at draft h f.blanks) kind open_sheet (wrong_no_lexeme f.begins))

  -- so are bytes that are no lexeme
  pub no_lexeme_fault : (fault : SheetFault) → IsNoLexeme bytes from fault → IsOutlineFault bytes fault
  no_lexeme_fault (BadByte line) f = found_fault bad_byte_kind line f
  no_lexeme_fault (Syntax line) f = found_fault syntax_kind line f
  no_lexeme_fault NoMemory f = tt
  no_lexeme_fault (BadPattern on) f = absurd f
  no_lexeme_fault (PatternMatchesEmpty on) f = absurd f
  no_lexeme_fault (Redeclared on) f = absurd f
  no_lexeme_fault (UnknownSymbol on) f = absurd f
  no_lexeme_fault NoRules f = absurd f
  no_lexeme_fault (PlaceOutOfRange on) f = absurd f
  no_lexeme_fault (PlaceTwice on) f = absurd f
  no_lexeme_fault (NotAToken on) f = absurd f
  no_lexeme_fault (Limit kind count) f = absurd f

  -- and so is the end before the sheet is whole
  pub end_fault : (end : Cursor) (line : ℕ) (fault : SheetFault) → IsEndRead bytes from end → line ≡ end.line → IsUnfinished draft line fault → IsOutlineFault bytes fault
  end_fault end line fault r same u =
      let P : SheetFault → Type 0 = λ f. IsOutlineFault bytes f in
      subst P (sym u.fault_is) (on_line syntax_kind end.at line (same ∙ r.stands.line) (end_syntax bytes end.at draft (so_far_blanks bytes from end.at draft h r.blanks) u.open_rules u.open_sheet r.last))

at_end : (bytes : List ℕ) (to : ℕ) (b : Bool) → to ≡ length bytes → MatchBool b (Unit {0}) (to ≡ length bytes)
at_end bytes to true e = tt
at_end bytes to false e = e

-- a finished draft at the end of the bytes
pub end_outline : (bytes : List ℕ) (from : ℕ) (draft : Draft) (o : OutlineParts) (end : Cursor) → IsReadSoFar bytes from draft → IsFinished draft o → IsEndRead bytes from end → IsOutlineOf bytes o
end_outline bytes from draft o end h whole r = outline_of bytes end.at draft (so_far_blanks bytes from end.at draft h r.blanks) o whole (at_end bytes end.at o.has_rest r.last)

-- and one behind the second `%%`
pub ended_outline : (bytes : List ℕ) (at : ℕ) (draft : Draft) (o : OutlineParts) → IsReadSoFar bytes at draft → IsFinished draft o → stage_of draft ≡ ended → IsOutlineOf bytes o
ended_outline bytes at draft o h whole e = outline_of bytes at draft h o whole (by_rest o.has_rest (sym (ap stage_of whole) ∙ e)) where
  by_rest : (b : Bool) → stage_of (ruling o.declarations o.groups (if b then rules_ended else no_rule)) ≡ ended → MatchBool b (Unit {0}) (at ≡ length bytes)
  by_rest true s = tt
  by_rest false s = cc

-- tests and results
pub untrue : {P : Type 0} (b : Bool) → b ≡ false → (IsTrue b ↔ P) → P → ⊥
untrue true e tells p = false≢true (sym e)
untrue false e tells p = false≢true (tells.1 p)

pub true_so : {P : Type 0} (b : Bool) → b ≡ true → (IsTrue b ↔ P) → P
true_so b e tells = tells.0 e

pub ok_so : {A E : Type 0} (P Q : A → Type 0) (r : Result A E) → ((a : A) → P a → Q a) → IfOk r P → IfOk r Q
ok_so P Q (Ok a) each h = each a h
ok_so P Q (Err e) each h = tt

pub err_so : {A E : Type 0} (P Q : E → Type 0) (r : Result A E) → ((e : E) → P e → Q e) → IfErr r P → IfErr r Q
err_so P Q (Ok a) each h = tt
err_so P Q (Err e) each h = each e h

pub err_is : {A E : Type 0} (Q : E → Type 0) (r : Result A E) (e : E) → IsErrAnd r (λ x. x ≡ e) → Q e → IfErr r Q
err_is Q (Ok a) e same h = tt
err_is Q (Err x) e same h = subst Q (sym same) h
