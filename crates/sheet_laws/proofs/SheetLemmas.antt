-- An outline has one sheet at most, and a faultless one has some, unless that is refuted.
use Rattle.std.proofs.Common.{◌≡◌, ℕ, ◌+◌, List, [], ◌∷◌, length, refl, sym, ap, ◌∙◌}
use Rattle.std.specs.Prelude.{Contains}
use Rattle.std.specs.List.{flat_map}
use Rattle.std.proofs.lemmas.List.Elements.{Contains-append_left, Contains-append_right, Contains-push}
use Rattle.grammar_data.specs.Grammar.{Grammar}
use Rattle.pattern_data.specs.declared.pattern.Pattern.{Pattern}
use Rattle.pattern_data.specs.Spellings.{IsSpelling}
use Rattle.pattern_data.proofs.RoundLemmas.{spelling_once}
use Rattle.scanning_theory.proofs.NotRefuted.{NotRefuted}
use Rattle.sheet_data.specs.Sheet.{Sheet}
use Rattle.sheet_data.specs.declared.parts.Decl.{Decl}
use Rattle.sheet_data.specs.declared.parts.Decl.TheVariants.{Literal as literal_decl, Matched as matched_decl, Skip as skip_decl}
use Rattle.outline_data.specs.declared.outline.Word.{Word}
use Rattle.outline_data.specs.declared.outline.Declaration.{Declaration}
use Rattle.outline_data.specs.declared.outline.Declaration.TheVariants.{Literal, Matched, Skip, Start}
use Rattle.outline_data.specs.Parts.{OutlineParts}
use Rattle.outline_theory.specs.Words.{token_words, pattern_in}
use Rattle.outline_theory.specs.LineFaults.{HasLineFault}
use Rattle.outline_theory.specs.Reading.{IsFaultless}
use Rattle.outline_theory.specs.Numbering.{AreDecls, IsSheetOf}
use Rattle.outline_theory.specs.MadeSheets.{sheet_with}
use Rattle.outline_theory.proofs.SheetLemmas.{sheet_says}
use Rattle.outline_theory.specs.Numbering.AreDecls.{no_decl, literal_first, matched_first, skip_first, start_first}

-- what a sheet keeps of declarations
abbrev HasDecls : List Declaration → Type 0
HasDecls ds = (decls : List Decl) × AreDecls ds decls

-- the text spells a pattern, unless that is refuted
abbrev MaySpell : Word → Type 0
MaySpell word = NotRefuted ((pattern : Pattern) × IsSpelling word.bytes pattern)

abbrev AllMaySpell : List Word → Type 0
AllMaySpell words = (word : Word) → Contains words word → MaySpell word

decls_more : (d : Declaration) (ds : List Declaration) → AllMaySpell (pattern_in d) → HasDecls ds → NotRefuted (HasDecls (d ∷ ds))
decls_more (Literal name literal) ds spell more refuted = refuted (literal_decl name.bytes literal.bytes ∷ more.0, literal_first more.1 refl)
decls_more (Matched name word) ds spell more refuted = spell word (Contains-push [] word) (λ found. refuted (matched_decl name.bytes found.0 ∷ more.0, matched_first found.1 more.1 refl))
decls_more (Skip word) ds spell more refuted = spell word (Contains-push [] word) (λ found. refuted (skip_decl found.0 ∷ more.0, skip_first found.1 more.1 refl))
decls_more (Start line name) ds spell more refuted = refuted (more.0, start_first more.1)

decls_some : (ds : List Declaration) → AllMaySpell (flat_map pattern_in ds) → NotRefuted (HasDecls ds)
decls_some [] spell refuted = refuted ([], no_decl)
decls_some (d ∷ ds) spell refuted =
    let here : AllMaySpell (pattern_in d) = λ word member. spell word (Contains-append_left (pattern_in d) (flat_map pattern_in ds) word member) in
    let later : AllMaySpell (flat_map pattern_in ds) = λ word member. spell word (Contains-append_right (pattern_in d) (flat_map pattern_in ds) word member) in
    decls_some ds later (λ more. decls_more d ds here more refuted)

pub some_sheet : (o : OutlineParts) → IsFaultless o → ((sheet : Sheet) → IsSheetOf o sheet → ⊥) → ⊥
some_sheet o faultless none =
    decls_some o.declarations (λ word member refuted. faultless.none _ (HasLineFault.no_spelling member (λ pattern spelled. refuted (pattern, spelled)))) (λ found. none (sheet_with o found.0) (sheet_says o found.0 found.1))

decls_none : {others : List Decl} → AreDecls [] others → [] ≡ others
decls_none no_decl = refl

literal_rest : {name literal : Word} {ds : List Declaration} {all : List Decl} → AreDecls (Literal name literal ∷ ds) all → (decls : List Decl) × AreDecls ds decls × (all ≡ literal_decl name.bytes literal.bytes ∷ decls)
literal_rest (literal_first {decls = decls} are is) = (decls, are, is)

-- the first that is kept, and those behind it
abbrev KeepsMatched : Word → Word → List Declaration → List Decl → Type 0
KeepsMatched name word ds all = (pattern : Pattern) × IsSpelling word.bytes pattern × ((decls : List Decl) × AreDecls ds decls × (all ≡ matched_decl name.bytes pattern ∷ decls))

matched_rest : {name word : Word} {ds : List Declaration} {all : List Decl} → AreDecls (Matched name word ∷ ds) all → KeepsMatched name word ds all
matched_rest (matched_first {pattern = pattern} {decls = decls} spelled are is) = (pattern, spelled, (decls, are, is))

abbrev KeepsSkip : Word → List Declaration → List Decl → Type 0
KeepsSkip word ds all = (pattern : Pattern) × IsSpelling word.bytes pattern × ((decls : List Decl) × AreDecls ds decls × (all ≡ skip_decl pattern ∷ decls))

skip_rest : {word : Word} {ds : List Declaration} {all : List Decl} → AreDecls (Skip word ∷ ds) all → KeepsSkip word ds all
skip_rest (skip_first {pattern = pattern} {decls = decls} spelled are is) = (pattern, spelled, (decls, are, is))

start_rest : {line : ℕ} {name : Word} {ds : List Declaration} {decls : List Decl} → AreDecls (Start line name ∷ ds) decls → AreDecls ds decls
start_rest (start_first are) = are

pub decls_once : {ds : List Declaration} {decls : List Decl} → AreDecls ds decls → (others : List Decl) → AreDecls ds others → decls ≡ others
decls_once no_decl others d = decls_none d
decls_once (literal_first {name = name} {literal = literal} are is) others d =
    let rest = literal_rest d in
    is ∙ ap (λ l. literal_decl name.bytes literal.bytes ∷ l) (decls_once are rest.0 rest.1) ∙ sym rest.2
decls_once (matched_first {name = name} {word = word} {pattern = pattern} {decls = decls} spelled are is) others d =
    let kept = matched_rest d in
    let rest = kept.2 in
    is ∙ ap (λ p. matched_decl name.bytes p ∷ decls) (spelling_once word.bytes pattern kept.0 spelled kept.1) ∙ ap (λ l. matched_decl name.bytes kept.0 ∷ l) (decls_once are rest.0 rest.1) ∙ sym rest.2
decls_once (skip_first {word = word} {pattern = pattern} {decls = decls} spelled are is) others d =
    let kept = skip_rest d in
    let rest = kept.2 in
    is ∙ ap (λ p. skip_decl p ∷ decls) (spelling_once word.bytes pattern kept.0 spelled kept.1) ∙ ap (λ l. skip_decl kept.0 ∷ l) (decls_once are rest.0 rest.1) ∙ sym rest.2
decls_once (start_first are) others d = decls_once are others (start_rest d)

same_grammar : (g h : Grammar) → g.tokens ≡ h.tokens → g.names ≡ h.names → g.rules ≡ h.rules → g.start ≡ h.start → g ≡ h
same_grammar g h tokens names rules start =
    ap (λ n. record { tokens = n; names = g.names; rules = g.rules; start = g.start }) tokens
    ∙ ap (λ n. record { tokens = h.tokens; names = n; rules = g.rules; start = g.start }) names
    ∙ ap (λ l. record { tokens = h.tokens; names = h.names; rules = l; start = g.start }) rules
    ∙ ap (λ n. record { tokens = h.tokens; names = h.names; rules = h.rules; start = n }) start

same_sheet : (s t : Sheet) → s.decls ≡ t.decls → s.literals ≡ t.literals → s.names ≡ t.names → s.grammar ≡ t.grammar → s.templates ≡ t.templates → s.declares ≡ t.declares → s ≡ t
same_sheet s t decls literals names grammar templates declares =
    ap (λ l. record { decls = l; literals = s.literals; names = s.names; grammar = s.grammar; templates = s.templates; declares = s.declares }) decls
    ∙ ap (λ l. record { decls = t.decls; literals = l; names = s.names; grammar = s.grammar; templates = s.templates; declares = s.declares }) literals
    ∙ ap (λ l. record { decls = t.decls; literals = t.literals; names = l; grammar = s.grammar; templates = s.templates; declares = s.declares }) names
    ∙ ap (λ g. record { decls = t.decls; literals = t.literals; names = t.names; grammar = g; templates = s.templates; declares = s.declares }) grammar
    ∙ ap (λ l. record { decls = t.decls; literals = t.literals; names = t.names; grammar = t.grammar; templates = l; declares = s.declares }) templates
    ∙ ap (λ l. record { decls = t.decls; literals = t.literals; names = t.names; grammar = t.grammar; templates = t.templates; declares = l }) declares

pub sheet_once : (o : OutlineParts) (one other : Sheet) → IsSheetOf o one → IsSheetOf o other → one ≡ other
sheet_once o one other h k =
    let literals : one.literals ≡ other.literals = h.literals ∙ sym k.literals in
    let names : one.names ≡ other.names = h.names ∙ sym k.names in
    same_sheet one other
    (decls_once h.decls other.decls k.decls)
    literals
    names
    (same_grammar one.grammar other.grammar
    (h.tokens ∙ ap (λ l. length (token_words o) + length l) literals ∙ sym k.tokens)
    (h.count ∙ ap (λ l. length l) names ∙ sym k.count)
    (h.rules ∙ sym k.rules)
    (h.start ∙ sym k.start))
    (h.templates ∙ sym k.templates)
    (h.declares ∙ sym k.declares)
