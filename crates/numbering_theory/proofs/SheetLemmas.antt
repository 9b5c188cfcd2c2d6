-- The limits of the sheet of an outline.
use Rattle.std.proofs.Common.{◌≡◌, ℕ, ◌+◌, ◌≤◌, List, [], ◌∷◌, length, map, Bool, true, false, refl, sym, ap, subst, ◌∙◌, arith, inl, inr}
use Rattle.std.specs.Prelude.{if◌then◌else◌, sum_by, filter, not, All, Contains, None}
use Rattle.std.specs.List.{flat_map}
use Rattle.std.specs.Str.{bytes_eq}
use Rattle.std.proofs.lemmas.List.Elements.{All-head, All-tail, All-nil, All-cons, All-map, All-contains, Contains-append_left, Contains-append_right, Contains-push}
use Rattle.std.proofs.lemmas.List.{length-map}
use Rattle.grammar_data.specs.Grammar.{Rule}
use Rattle.lr_base.specs.IsGrammar.{symbols_of}
use Rattle.pattern_data.specs.declared.pattern.Pattern.{Pattern}
use Rattle.pattern_data.specs.Language.{Matches}
use Rattle.pattern_data.specs.Spellings.{IsSpelling}
use Rattle.scanning_theory.specs.declared.limits.TheConstants.{POSITIONS}
use Rattle.sheet_data.specs.declared.parts.Decl.{Decl}
use Rattle.sheet_data.specs.declared.parts.Decl.TheVariants.{Literal as literal_decl, Matched as matched_decl, Skip as skip_decl}
use Rattle.outline_data.specs.declared.outline.Word.{Word}
use Rattle.outline_data.specs.declared.outline.Declaration.{Declaration}
use Rattle.outline_data.specs.declared.outline.Declaration.TheVariants.{Literal, Matched, Skip, Start}
use Rattle.outline_data.specs.declared.fault.LimitKind.TheVariants.{Tokens, Skips, Names, Rules, RightSide, Symbols, Positions}
use Rattle.outline_data.specs.declared.fault.SheetFault.{SheetFault}
use Rattle.outline_data.specs.Parts.{OutlineParts}
use Rattle.outline_data.specs.AlternativeParts.{AlternativeParts}
use Rattle.outline_data.specs.GroupParts.{GroupParts}
use Rattle.outline_theory.specs.LineFaults.{line_feed, empty_literal, empty_pattern}
use Rattle.outline_theory.specs.Reading.{IsFaultless}
use Rattle.outline_theory.specs.Words.{texts, literal_in, literal_words, pattern_in, side_literals, all_literals, token_words}
use Rattle.outline_theory.specs.Limits.{Measure, measures, first_passed, skips_in, positions_in, long_side}
use Rattle.outline_theory.specs.Numbering.{AreDecls, no_decl, literal_first, matched_first, skip_first, start_first, token_literals, unnamed_literals, grammar_names, is_one_of, index_of, distinct, WordLists, lists_of, symbol_by, rule_by, rules_by, rules_of}
use Rattle.numbering_theory.specs.KnownWords.{unnamed_in}
use Rattle.numbering_theory.specs.Passing.{all_measures, IsFirstFaultOf}
use Rattle.outline_theory.specs.MadeSheets.{sheet_with}
use Rattle.numbering_theory.specs.KeptSheets.{KeepsLimits, IsLimitFault, IsLiteralText, IsOrdinaryDecl, AreShort, IsOrdinary}
use Rattle.numbering_theory.proofs.LimitLemmas.{none_over, short_first}
use Rattle.numbering_theory.proofs.MemberLemmas.{all_from, contains_flat, contains_map}
use Rattle.numbering_theory.proofs.GrammarLemmas.{count_tokens, unnamed_behind}

-- the sheet's quantities are those of its words, its declarations and its rules
pub sheet_measures : (o : OutlineParts) (decls : List Decl) → first_passed (measures (sheet_with o decls)) ≡ first_passed (all_measures (lists_of o) decls (rules_of o))
sheet_measures o decls =
    let tokens : length (token_words o) + length (unnamed_literals o) ≡ length (token_literals o) = sym (count_tokens o) in
    let positions : sum_by positions_in decls + sum_by length (unnamed_literals o) ≡ sum_by positions_in decls + sum_by length (unnamed_in (lists_of o)) = ap (λ l. sum_by positions_in decls + sum_by length l) (sym (unnamed_behind o)) in
    ap (λ n. first_passed (record { kind = Tokens; count = n; most = 250 } ∷ behind_tokens (sum_by positions_in decls + sum_by length (unnamed_literals o)))) tokens ∙ ap (λ n. first_passed (record { kind = Tokens; count = length (token_literals o); most = 250 } ∷ behind_tokens n)) positions
  where
    behind_tokens : ℕ → List Measure
    behind_tokens n =
        record { kind = Skips; count = sum_by skips_in decls; most = 50 } ∷ record { kind = Names; count = length (grammar_names o); most = 500 } ∷ record { kind = Rules; count = length (rules_of o); most = 1000 } ∷ record { kind = RightSide; count = long_side (rules_of o); most = 20 } ∷ record { kind = Symbols; count = symbols_of (rules_of o); most = 4000 } ∷ record { kind = Positions; count = n; most = POSITIONS } ∷ []

-- no limit is passed, or the first
pub keeps : (o : OutlineParts) (decls : List Decl) → first_passed (all_measures (lists_of o) decls (rules_of o)) ≡ None → KeepsLimits (sheet_with o decls)
keeps o decls none = sheet_measures o decls ∙ none

pub passes : (o : OutlineParts) (decls : List Decl) (fault : SheetFault) → IsFirstFaultOf (all_measures (lists_of o) decls (rules_of o)) fault → IsLimitFault (sheet_with o decls) fault
passes o decls fault (inl e) = subst (IsLimitFault (sheet_with o decls)) (sym e) tt
passes o decls fault (inr h) =
    subst (IsLimitFault (sheet_with o decls)) (sym h.is) (record { measure = h.measure; passed = sheet_measures o decls ∙ h.passed; is = refl })

-- a literal of a faultless outline has bytes, and no line feed
literal_text : (o : OutlineParts) → IsFaultless o → (word : Word) → Contains (all_literals o) word → IsLiteralText word.bytes
literal_text o faultless word member =
    (λ none. faultless.none _ (empty_literal member none), λ feed. faultless.none _ (line_feed member feed))

all_texts : (P : List ℕ → Type 0) (words : List Word) → ((word : Word) → Contains words word → P word.bytes) → All P (texts words)
all_texts P words h = All-map P (λ (w : Word). w.bytes) words (all_from (λ (w : Word). P w.bytes) words h)

all_kept_by : (P : List ℕ → Type 0) (p : List ℕ → Bool) (word : List ℕ) (words : List (List ℕ)) (b : Bool) → p word ≡ b → P word → All P (filter p words) → All P (filter p (word ∷ words))
all_kept_by P p word words true e here rest = subst (λ x. All P (if x then word ∷ filter p words else filter p words)) (sym e) (All-cons P word (filter p words) here rest)
all_kept_by P p word words false e here rest = subst (λ x. All P (if x then word ∷ filter p words else filter p words)) (sym e) rest

all_kept : (P : List ℕ → Type 0) (p : List ℕ → Bool) (words : List (List ℕ)) → All P words → All P (filter p words)
all_kept P p [] all = All-nil P
all_kept P p (word ∷ words) all = all_kept_by P p word words (p word) refl (All-head P word words all) (all_kept P p words (All-tail P word words all))

all_distinct : (P : List ℕ → Type 0) (words : List (List ℕ)) → All P words → All P (distinct words)
all_distinct P [] all = All-nil P
all_distinct P (word ∷ words) all =
    All-cons P word (filter (λ other. not (bytes_eq word other)) (distinct words)) (All-head P word words all) (all_kept P (λ other. not (bytes_eq word other)) (distinct words) (all_distinct P words (All-tail P word words all)))

unnamed_texts : (o : OutlineParts) → IsFaultless o → All IsLiteralText (unnamed_literals o)
unfolding unnamed_literals
unnamed_texts o faultless =
    all_distinct IsLiteralText _ (all_kept IsLiteralText (λ word. not (is_one_of (texts (literal_words o)) word)) (texts (side_literals o)) (all_texts IsLiteralText (side_literals o) (λ word member. literal_text o faultless word (Contains-append_right (literal_words o) (side_literals o) word member))))

-- a declaration that is kept is ordinary
ordinary_more : (decl : Decl) (decls all : List Decl) → all ≡ decl ∷ decls → IsOrdinaryDecl decl → All IsOrdinaryDecl decls → All IsOrdinaryDecl all
ordinary_more decl decls all are here rest = subst (All IsOrdinaryDecl) (sym are) (All-cons IsOrdinaryDecl decl decls here rest)

abbrev AreLiteralTexts : List Declaration → Type 0
AreLiteralTexts ds = (word : Word) → Contains (flat_map literal_in ds) word → IsLiteralText word.bytes

abbrev AreFilled : List Declaration → Type 0
AreFilled ds = (word : Word) → Contains (flat_map pattern_in ds) word → (pattern : Pattern) → IsSpelling word.bytes pattern → ¬ (Matches pattern [])

literals_behind : (d : Declaration) (ds : List Declaration) → AreLiteralTexts (d ∷ ds) → AreLiteralTexts ds
literals_behind d ds h word member = h word (Contains-append_right (literal_in d) (flat_map literal_in ds) word member)

patterns_behind : (d : Declaration) (ds : List Declaration) → AreFilled (d ∷ ds) → AreFilled ds
patterns_behind d ds h word member = h word (Contains-append_right (pattern_in d) (flat_map pattern_in ds) word member)

ordinary_decls : {ds : List Declaration} {decls : List Decl} → AreDecls ds decls → AreLiteralTexts ds → AreFilled ds → All IsOrdinaryDecl decls
ordinary_decls no_decl literals patterns = All-nil IsOrdinaryDecl
ordinary_decls {decls = all} (literal_first {name = name} {literal = literal} {declarations = ds} {decls = decls} are is) literals patterns =
    let here : IsLiteralText literal.bytes = literals literal (Contains-append_left (literal ∷ []) (flat_map literal_in ds) literal (Contains-push [] literal)) in
    ordinary_more (literal_decl name.bytes literal.bytes) decls all is here (ordinary_decls are (literals_behind (Literal name literal) ds literals) (patterns_behind (Literal name literal) ds patterns))
ordinary_decls {decls = all} (matched_first {name = name} {word = word} {pattern = pattern} {declarations = ds} {decls = decls} spelled are is) literals patterns =
    let here : ¬ (Matches pattern []) = patterns word (Contains-append_left (word ∷ []) (flat_map pattern_in ds) word (Contains-push [] word)) pattern spelled in
    ordinary_more (matched_decl name.bytes pattern) decls all is here (ordinary_decls are (literals_behind (Matched name word) ds literals) (patterns_behind (Matched name word) ds patterns))
ordinary_decls {decls = all} (skip_first {word = word} {pattern = pattern} {declarations = ds} {decls = decls} spelled are is) literals patterns =
    let here : ¬ (Matches pattern []) = patterns word (Contains-append_left (word ∷ []) (flat_map pattern_in ds) word (Contains-push [] word)) pattern spelled in
    ordinary_more (skip_decl pattern) decls all is here (ordinary_decls are (literals_behind (Skip word) ds literals) (patterns_behind (Skip word) ds patterns))
ordinary_decls (start_first {line = line} {name = name} {declarations = ds} are) literals patterns =
    ordinary_decls are (literals_behind (Start line name) ds literals) (patterns_behind (Start line name) ds patterns)

all_ordinary : (o : OutlineParts) (decls : List Decl) → IsFaultless o → AreDecls o.declarations decls → All IsOrdinaryDecl decls
all_ordinary o decls faultless are =
    ordinary_decls are (λ word member. literal_text o faultless word (Contains-append_left (literal_words o) (side_literals o) word member)) (λ word member pattern spelled empties. faultless.none _ (empty_pattern member spelled empties))

short_rules : (rules : List Rule) → long_side rules ≤ 20 → All (λ (rule : Rule). length rule.1 ≤ 20) rules
short_rules [] short = All-nil (λ (rule : Rule). length rule.1 ≤ 20)
short_rules (rule ∷ rules) short =
    let parts = short_first rule rules short in
    All-cons (λ (r : Rule). length r.1 ≤ 20) rule rules parts.0 (short_rules rules parts.1)

short_group : (lists : WordLists) (groups : List GroupParts) → All (λ (rule : Rule). length rule.1 ≤ 20) (flat_map (rules_by lists) groups) → (g : GroupParts) → Contains groups g → AreShort g
short_group lists groups all g member =
    all_from (λ (a : AlternativeParts). length a.right ≤ 20) g.alternatives (λ a alternative. short_side a (All-contains (λ (rule : Rule). length rule.1 ≤ 20) (flat_map (rules_by lists) groups) (rule_by lists (index_of lists.names g.left.bytes) a) all (contains_flat (rules_by lists) groups g (rule_by lists (index_of lists.names g.left.bytes) a) member (contains_map (rule_by lists (index_of lists.names g.left.bytes)) g.alternatives a alternative))))
  where
    short_side : (a : AlternativeParts) → length (map (symbol_by lists) a.right) ≤ 20 → length a.right ≤ 20
    short_side a h = omega (arith, length-map a.right (symbol_by lists), h)

pub ordinary : (o : OutlineParts) (decls : List Decl) → IsFaultless o → AreDecls o.declarations decls → first_passed (all_measures (lists_of o) decls (rules_of o)) ≡ None → IsOrdinary o decls
ordinary o decls faultless are none =
    let kept = none_over (lists_of o) decls (rules_of o) none in
    record {
      tokens = omega (arith, count_tokens o, kept.few_tokens);
      skips = kept.few_skips;
      positions = subst (λ l. sum_by positions_in decls + sum_by length l ≤ POSITIONS) (unnamed_behind o) kept.few_positions;
      kept = all_ordinary o decls faultless are;
      literals = unnamed_texts o faultless;
      short = all_from AreShort o.groups (short_group (lists_of o) o.groups (short_rules (rules_of o) kept.short_sides));
    }
