-- What a refusal says.
use Rattle.std.proofs.Common.{◌≡◌, ◌≢◌, ℕ, ◌+◌, ◌≤◌, ◌<◌, ◌^◌, List, [], ◌∷◌, length, true, false, refl, sym, ap, subst, arith, inl, inr}
use Rattle.std.specs.Prelude.{sum_by, ◌==◌, All, Contains}
use Rattle.std.proofs.lemmas.Bool.Decides.{nat_tests}
use Rattle.sheet_data.specs.Sheet.{Sheet}
use Rattle.sheet_data.specs.declared.parts.Decl.{Decl}
use Rattle.lr_base.specs.declared.limits.TheConstants.{SHEET_BYTES}
use Rattle.outline_data.specs.declared.outline.Word.{Word}
use Rattle.outline_data.specs.declared.outline.Declaration.{Declaration}
use Rattle.outline_data.specs.declared.outline.Declaration.TheVariants.{Literal, Matched, Skip, Start}
use Rattle.outline_data.specs.declared.fault.SheetFault.{SheetFault}
use Rattle.outline_data.specs.declared.fault.SheetFault.TheVariants.{BadByte, Syntax, BadPattern, PatternMatchesEmpty, Redeclared, UnknownSymbol, NoRules, PlaceOutOfRange, PlaceTwice, NotAToken, Limit, NoMemory}
use Rattle.outline_data.specs.Parts.{OutlineParts}
use Rattle.outline_theory.specs.Words.{pattern_in, pattern_words}
use Rattle.outline_theory.specs.LineFaults.{no_spelling, empty_pattern}
use Rattle.outline_theory.specs.Outlines.{IsOutlineOf}
use Rattle.outline_theory.specs.Limits.{positions_in}
use Rattle.outline_theory.specs.Numbering.{AreDecls, IsSheetOf, unnamed_literals}
use Rattle.outline_theory.specs.MadeSheets.{sheet_with}
use Rattle.outline_theory.proofs.SheetLemmas.{sheet_says}
use Rattle.outline_theory.specs.Reading.{HasOutline, IsFaultless, Reads, IsFirstFault}
use Rattle.outline_reader.specs.Faults.{IsOutlineFault}
use Rattle.numbering_theory.specs.KeptSheets.{KeepsLimits, IsLimitFault}
use Rattle.numbering_theory.proofs.MemberLemmas.{all_from, contains_flat}
use Rattle.sheet_laws.proofs.SizeLemmas.{declared_within}
use Rattle.sheet_laws.proofs.SheetLemmas.{sheet_once}
use Rattle.sheet_reader.specs.RuleTexts.{IsPatternText, HasPatternText}
use Rattle.sheet_reader.specs.Faults.{IsReadFault, IsOutlineRefused}

-- no element, or some
pub empty_list : {X : Type 0} (xs : List X) (n : ℕ) → n ≡ length xs → true ≡ (n == 0) → xs ≡ []
empty_list [] n size e = refl
empty_list (x ∷ xs) n size e = let none : n ≡ 0 = grind (arith, nat_tests) in absurd (omega arith)

pub filled_list : {X : Type 0} (xs : List X) (n : ℕ) → n ≡ length xs → false ≡ (n == 0) → xs ≢ []
filled_list [] n size e none = let some : n ≢ 0 = grind (arith, nat_tests) in some size
filled_list (x ∷ xs) n size e none = let one : length (x ∷ xs) ≡ 0 = ap length none in absurd (omega arith)

pub has_outline : (bytes : List ℕ) (o : OutlineParts) → length bytes ≤ SHEET_BYTES → IsOutlineOf bytes o → HasOutline bytes o
has_outline bytes o size of = record { size = size; of = of }

pub refused_reading : (bytes : List ℕ) (fault : SheetFault) → length bytes ≤ SHEET_BYTES → IsOutlineFault bytes fault → IsReadFault bytes fault
refused_reading bytes (BadByte line) size h = inr (IsFirstFault.bad_byte size h)
refused_reading bytes (Syntax line) size h = inr (IsFirstFault.syntax size h)
refused_reading bytes (BadPattern line) size h = absurd h
refused_reading bytes (PatternMatchesEmpty line) size h = absurd h
refused_reading bytes (Redeclared line) size h = absurd h
refused_reading bytes (UnknownSymbol line) size h = absurd h
refused_reading bytes NoRules size h = absurd h
refused_reading bytes (PlaceOutOfRange line) size h = absurd h
refused_reading bytes (PlaceTwice line) size h = absurd h
refused_reading bytes (NotAToken line) size h = absurd h
refused_reading bytes (Limit kind count) size h = absurd h
refused_reading bytes NoMemory size h = inl refl

pub refused_outline : (bytes : List ℕ) (o : OutlineParts) (fault : SheetFault) → HasOutline bytes o → IsOutlineRefused o fault → IsReadFault bytes fault
refused_outline bytes o NoMemory has IsOutlineRefused.no_memory = inl refl
refused_outline bytes o NoRules has (IsOutlineRefused.no_rules none) = inr (IsFirstFault.no_rules has none)
refused_outline bytes o fault has (IsOutlineRefused.on_line some first) = inr (IsFirstFault.on_line has some first)

-- the texts of patterns in a faultless outline
spelled_text : (o : OutlineParts) → IsFaultless o → (word : Word) → Contains (pattern_words o) word → IsPatternText word.bytes
spelled_text o faultless word member = record {
  spelled = λ none. faultless.none _ (no_spelling member none);
  filled = λ pattern spelled empties. faultless.none _ (empty_pattern member spelled empties);
}

pattern_text : (o : OutlineParts) → IsFaultless o → (d : Declaration) → Contains o.declarations d → HasPatternText d
pattern_text o faultless (Literal name literal) member = tt
pattern_text o faultless (Matched name word) member = spelled_text o faultless word (contains_flat pattern_in o.declarations (Matched name word) word member (0, omega arith, refl))
pattern_text o faultless (Skip word) member = spelled_text o faultless word (contains_flat pattern_in o.declarations (Skip word) word member (0, omega arith, refl))
pattern_text o faultless (Start line name) member = tt

pub pattern_texts : (o : OutlineParts) (declarations : List Declaration) → IsFaultless o → declarations ≡ o.declarations → All HasPatternText declarations
pattern_texts o declarations faultless same = subst (All HasPatternText) (sym same) (all_from HasPatternText o.declarations (pattern_text o faultless))

pub are_kept : (o : OutlineParts) (declarations : List Declaration) (decls seen : List Decl) → declarations ≡ o.declarations → seen ≡ decls → AreDecls declarations decls → AreDecls o.declarations seen
are_kept o declarations decls seen same again are =
    subst (λ ds. AreDecls ds seen) same (subst (AreDecls declarations) (sym again) are)

pub refused_limit : (bytes : List ℕ) (o : OutlineParts) (decls : List Decl) (fault : SheetFault) → HasOutline bytes o → IsFaultless o → AreDecls o.declarations decls → IsLimitFault (sheet_with o decls) fault → IsReadFault bytes fault
refused_limit bytes o decls (BadByte line) has faultless are h = absurd h
refused_limit bytes o decls (Syntax line) has faultless are h = absurd h
refused_limit bytes o decls (BadPattern line) has faultless are h = absurd h
refused_limit bytes o decls (PatternMatchesEmpty line) has faultless are h = absurd h
refused_limit bytes o decls (Redeclared line) has faultless are h = absurd h
refused_limit bytes o decls (UnknownSymbol line) has faultless are h = absurd h
refused_limit bytes o decls NoRules has faultless are h = absurd h
refused_limit bytes o decls (PlaceOutOfRange line) has faultless are h = absurd h
refused_limit bytes o decls (PlaceTwice line) has faultless are h = absurd h
refused_limit bytes o decls (NotAToken line) has faultless are h = absurd h
refused_limit bytes o decls (Limit kind count) has faultless are h =
    inr (subst (IsFirstFault bytes) (sym h.is) (IsFirstFault.limit has faultless (sheet_says o decls are) h.passed))
refused_limit bytes o decls NoMemory has faultless are h = inl refl

pub read_within : (bytes : List ℕ) (o : OutlineParts) (decls : List Decl) (sheet : Sheet) → HasOutline bytes o → IsFaultless o → AreDecls o.declarations decls → KeepsLimits (sheet_with o decls) → IsSheetOf o sheet → Reads bytes sheet
read_within bytes o decls sheet has faultless are keeps says =
    let same : sheet_with o decls ≡ sheet = sheet_once o (sheet_with o decls) sheet (sheet_says o decls are) says in
    record { outline = o; has = has; faultless = faultless; says = says; within = subst KeepsLimits same keeps }

pub few_positions : (bytes : List ℕ) (o : OutlineParts) (decls : List Decl) → length bytes ≤ SHEET_BYTES → IsOutlineOf bytes o → AreDecls o.declarations decls → sum_by positions_in decls + sum_by length (unnamed_literals o) < 2 ^ 64
few_positions bytes o decls size of are =
    let within : sum_by positions_in decls + sum_by length (unnamed_literals o) ≤ length bytes = declared_within bytes o decls of are in omega (arith, within, size)
