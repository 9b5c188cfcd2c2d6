-- What holds of an outline without faults, and of its sheet.
use Rattle.std.proofs.Common.{◌≡◌, ◌≢◌, ℕ, suc, ◌≤◌, List, [], ◌∷◌, ◌++◌, length, map, Bool, true, false, cond, refl, sym, ap, subst, ◌∙◌, inl, inr, ⊎_elim, arith}
use Rattle.std.specs.Prelude.{◌⊎◌, ◌||◌, All, Contains, nat_lt, not, filter, Option, Some, None}
use Rattle.std.specs.List.{flat_map}
use Rattle.std.specs.Str.{bytes_eq}
use Rattle.std.proofs.lemmas.Bool.{false≢true, ltb-false, ltb-true}
use Rattle.std.proofs.lemmas.List.{length-map}
use Rattle.std.proofs.lemmas.List.Elements.{All-nil, All-cons, All-weaker, All-contains, All-contains_itself, Contains-append_right, Contains-append_cases}
use Rattle.std.proofs.lemmas.Option.{none-some}
use Rattle.grammar_data.specs.Grammar.{Rule}
use Rattle.pattern_data.specs.declared.pattern.Pattern.{Pattern}
use Rattle.pattern_data.specs.Spellings.{IsSpelling}
use Rattle.sheet_data.specs.Sheet.{Sheet}
use Rattle.sheet_data.specs.declared.parts.Decl.{Decl}
use Rattle.sheet_data.specs.declared.parts.Decl.TheVariants.{Literal as literal_decl, Matched as matched_decl, Skip as skip_decl}
use Rattle.sheet_theory.specs.Names.{declared_names}
use Rattle.lexeme_theory.specs.declared.lexeme.Lexeme.TheVariants.{Mark}
use Rattle.lexeme_theory.specs.declared.lexeme.Single.{Single}
use Rattle.lexeme_theory.specs.declared.lexeme.Single.TheVariants.{Colon, Bar, Semicolon}
use Rattle.outline_data.specs.declared.outline.Word.{Word}
use Rattle.outline_data.specs.declared.outline.Declaration.{Declaration}
use Rattle.outline_data.specs.declared.outline.Declaration.TheVariants.{Literal, Matched, Skip, Start}
use Rattle.outline_data.specs.declared.rules.Symbol.{Symbol}
use Rattle.outline_data.specs.declared.rules.Symbol.TheVariants.{Name, Quoted}
use Rattle.outline_data.specs.AlternativeParts.{AlternativeParts}
use Rattle.outline_data.specs.GroupParts.{GroupParts}
use Rattle.outline_data.specs.Parts.{OutlineParts}
use Rattle.outline_theory.specs.Spelling.{Kept, bare, single, spelled_declaration, spelled_alternative, spelled_sides, spelled_group, spelled_rest, spelled_outline}
use Rattle.outline_theory.specs.Words.{texts, token_in, token_words, literal_in, literal_words, pattern_in, left_words, alternatives_of, name_in, quoted_in, side_literals}
use Rattle.outline_theory.specs.LineFaults.{StandsAgain}
use Rattle.outline_theory.specs.LineFaults.HasLineFault.{empty_literal, name_again, unknown_name}
use Rattle.outline_theory.specs.Numbering.{is_one_of, unnamed_literals, literal_of_token, grammar_names, lists_of, symbol_by, AreDecls, IsSheetOf}
use Rattle.outline_theory.specs.Numbering.AreDecls.{no_decl, literal_first, matched_first, skip_first, start_first}
use Rattle.outline_theory.specs.Limits.{Measure, long_side, measures, first_passed}
use Rattle.outline_theory.specs.Reading.{IsFaultless}
use Rattle.layout_laws.proofs.WordLemmas.{IsName}
use Rattle.layout_laws.proofs.GoodLemmas.{AreGood, good_left, good_right}
use Rattle.layout_laws.proofs.MemberLemmas.{no_member, only_member, one_member, first_member, later_member, joined_has, joined_from, mapped_has, mapped_from, IsRepeated, IsAgain, keys_again}
use Rattle.layout_laws.proofs.IndexLemmas.{Words, Test, one_of, contains, one_or_not, one_of_filter, one_of_distinct}
use Rattle.layout_laws.proofs.SideLemmas.{Side, sides_by, sides_in, rule_at, sides_rules}

-- ---- declarations

abbrev pub decl_literals : List Decl → Words
decl_literals [] = []
decl_literals (literal_decl name bytes ∷ decls) = bytes ∷ decl_literals decls
decl_literals (matched_decl name pattern ∷ decls) = decl_literals decls
decl_literals (skip_decl pattern ∷ decls) = decl_literals decls

-- by the tokens' numbers: none for a token that has a pattern
abbrev pub decl_token_literals : List Decl → Words
decl_token_literals [] = []
decl_token_literals (literal_decl name bytes ∷ decls) = bytes ∷ decl_token_literals decls
decl_token_literals (matched_decl name pattern ∷ decls) = [] ∷ decl_token_literals decls
decl_token_literals (skip_decl pattern ∷ decls) = decl_token_literals decls

no_match : (word : List ℕ) → word ≢ [] → bytes_eq [] word ≡ false
no_match [] some = absurd (some refl)
no_match (byte ∷ word) some = refl

pub decls_names : {ds : List Declaration} {decls : List Decl} → AreDecls ds decls → declared_names decls ≡ texts (flat_map token_in ds)
decls_names no_decl = refl
decls_names (literal_first {name = name} are is) = ap declared_names is ∙ ap (λ l. name.bytes ∷ l) (decls_names are)
decls_names (matched_first {name = name} spelled are is) = ap declared_names is ∙ ap (λ l. name.bytes ∷ l) (decls_names are)
decls_names (skip_first spelled are is) = ap declared_names is ∙ decls_names are
decls_names (start_first are) = decls_names are

pub decls_literals : {ds : List Declaration} {decls : List Decl} → AreDecls ds decls → decl_literals decls ≡ texts (flat_map literal_in ds)
decls_literals no_decl = refl
decls_literals (literal_first {literal = literal} are is) = ap decl_literals is ∙ ap (λ l. literal.bytes ∷ l) (decls_literals are)
decls_literals (matched_first spelled are is) = ap decl_literals is ∙ decls_literals are
decls_literals (skip_first spelled are is) = ap decl_literals is ∙ decls_literals are
decls_literals (start_first are) = decls_literals are

pub decls_token_literals : {ds : List Declaration} {decls : List Decl} → AreDecls ds decls → decl_token_literals decls ≡ flat_map literal_of_token ds
decls_token_literals no_decl = refl
decls_token_literals (literal_first {literal = literal} are is) = ap decl_token_literals is ∙ ap (λ l. literal.bytes ∷ l) (decls_token_literals are)
decls_token_literals (matched_first spelled are is) = ap decl_token_literals is ∙ ap (λ l. [] ∷ l) (decls_token_literals are)
decls_token_literals (skip_first spelled are is) = ap decl_token_literals is ∙ decls_token_literals are
decls_token_literals (start_first are) = decls_token_literals are

pub decls_sizes : (ds : List Declaration) → length (flat_map literal_of_token ds) ≡ length (texts (flat_map token_in ds))
decls_sizes [] = refl
decls_sizes (Literal name literal ∷ ds) = ap suc (decls_sizes ds)
decls_sizes (Matched name pattern ∷ ds) = ap suc (decls_sizes ds)
decls_sizes (Skip pattern ∷ ds) = decls_sizes ds
decls_sizes (Start line name ∷ ds) = decls_sizes ds

-- a text that isn't empty is a token's literal exactly where a declaration names it
pub decls_named : (ds : List Declaration) (word : List ℕ) → word ≢ [] → is_one_of (flat_map literal_of_token ds) word ≡ is_one_of (texts (flat_map literal_in ds)) word
decls_named [] word some = refl
decls_named (Literal name literal ∷ ds) word some = ap (λ b. bytes_eq literal.bytes word || b) (decls_named ds word some)
decls_named (Matched name pattern ∷ ds) word some =
    ap (λ b. b || is_one_of (flat_map literal_of_token ds) word) (no_match word some) ∙ decls_named ds word some
decls_named (Skip pattern ∷ ds) word some = decls_named ds word some
decls_named (Start line name ∷ ds) word some = decls_named ds word some

-- the patterns of declarations, and the words that spell them
abbrev pub decl_patterns : List Decl → List Pattern
decl_patterns [] = []
decl_patterns (literal_decl name bytes ∷ decls) = decl_patterns decls
decl_patterns (matched_decl name pattern ∷ decls) = pattern ∷ decl_patterns decls
decl_patterns (skip_decl pattern ∷ decls) = pattern ∷ decl_patterns decls

pub data AreSpelled : List Word → List Pattern → Type 0 where
  none_spelled : AreSpelled [] []
  next_spelled : {word : Word} {pattern : Pattern} {words : List Word} {patterns : List Pattern} → IsSpelling word.bytes pattern → AreSpelled words patterns → AreSpelled (word ∷ words) (pattern ∷ patterns)

with_patterns : (words : List Word) (one other : List Decl) → one ≡ other → AreSpelled words (decl_patterns other) → AreSpelled words (decl_patterns one)
with_patterns words one other e h = subst (λ l. AreSpelled words (decl_patterns l)) (sym e) h

pub decls_spelled : {ds : List Declaration} {decls : List Decl} → AreDecls ds decls → AreSpelled (flat_map pattern_in ds) (decl_patterns decls)
decls_spelled no_decl = none_spelled
decls_spelled (literal_first {declarations = ds} {all = all} are is) = with_patterns (flat_map pattern_in ds) all _ is (decls_spelled are)
decls_spelled (matched_first {word = word} {declarations = ds} {all = all} spelled are is) = with_patterns (word ∷ flat_map pattern_in ds) all _ is (next_spelled spelled (decls_spelled are))
decls_spelled (skip_first {word = word} {declarations = ds} {all = all} spelled are is) = with_patterns (word ∷ flat_map pattern_in ds) all _ is (next_spelled spelled (decls_spelled are))
decls_spelled (start_first are) = decls_spelled are

-- the pattern that a word spells, and a word that spells a pattern
pub record PatternOf (patterns : List Pattern) (word : Word) : Type 0 where
  pub pattern : Pattern
  pub stands : Contains patterns pattern
  pub spelled : IsSpelling word.bytes pattern

pub pattern_of : {words : List Word} {patterns : List Pattern} → AreSpelled words patterns → (word : Word) → Contains words word → PatternOf patterns word
pattern_of none_spelled word h = absurd (no_member word h)
pattern_of (next_spelled {word = first} {pattern = pattern} {words = words} {patterns = patterns} spelled rest) word h = elim (Contains-append_cases (first ∷ []) words word h) [
  | inl here ↦ record { pattern = pattern; stands = first_member pattern patterns; spelled = subst (λ (w : Word). IsSpelling w.bytes pattern) (only_member first word here) spelled }
  | inr later ↦ let found = pattern_of rest word later in record { pattern = found.pattern; stands = later_member pattern patterns found.pattern found.stands; spelled = found.spelled }
]

pub record SpellingOf (words : List Word) (pattern : Pattern) : Type 0 where
  pub word : Word
  pub stands : Contains words word
  pub spelled : IsSpelling word.bytes pattern

pub spelling_of : {words : List Word} {patterns : List Pattern} → AreSpelled words patterns → (pattern : Pattern) → Contains patterns pattern → SpellingOf words pattern
spelling_of none_spelled pattern h = absurd (no_member pattern h)
spelling_of (next_spelled {word = word} {pattern = first} {words = words} {patterns = patterns} spelled rest) pattern h = elim (Contains-append_cases (first ∷ []) patterns pattern h) [
  | inl here ↦ record { word = word; stands = first_member word words; spelled = subst (IsSpelling word.bytes) (only_member first pattern here) spelled }
  | inr later ↦ let found = spelling_of rest pattern later in record { word = found.word; stands = later_member word words found.word found.stands; spelled = found.spelled }
]

token_names_good : (ds : List Declaration) → AreGood (flat_map spelled_declaration ds) → All (λ (w : Word). IsName w.bytes) (flat_map token_in ds)
token_names_good [] h = All-nil (λ (w : Word). IsName w.bytes)
token_names_good (Literal name literal ∷ ds) h = All-cons (λ (w : Word). IsName w.bytes) name (flat_map token_in ds) h.1.0 (token_names_good ds h.1.1.1)
token_names_good (Matched name pattern ∷ ds) h = All-cons (λ (w : Word). IsName w.bytes) name (flat_map token_in ds) h.1.0 (token_names_good ds h.1.1.1)
token_names_good (Skip pattern ∷ ds) h = token_names_good ds h.1.1
token_names_good (Start line name ∷ ds) h = token_names_good ds h.1.1

-- a word that stands there again, by its text
pub stands_again : (words : List Word) (word : Word) → IsAgain (λ (w : Word). w.bytes) words word → StandsAgain words word
stands_again words word h = record { at = h.at; here = h.here; before = h.before }

pub texts_again : (words : List Word) (word : Word) → StandsAgain words word → IsAgain (λ (w : Word). w.bytes) words word
texts_again words word h = record { at = h.at; here = h.here; before = h.before }

-- ---- limits

passed_by : (b : Bool) (measure : Measure) (rest : Option Measure) → cond b (Some measure) rest ≡ None → (b ≡ false) × (rest ≡ None)
passed_by true measure rest e = absurd (none-some measure (sym e))
passed_by false measure rest e = (refl, e)

abbrev NonePass : List Measure → Type 0
NonePass [] = Unit {0}
NonePass (measure ∷ more) = (nat_lt measure.most measure.count ≡ false) × NonePass more

none_pass : (more : List Measure) → first_passed more ≡ None → NonePass more
none_pass [] e = tt
none_pass (measure ∷ more) e = let parts = passed_by (nat_lt measure.most measure.count) measure (first_passed more) e in (parts.0, none_pass more parts.1)

long_by : (b : Bool) (size rest : ℕ) → nat_lt 20 size ≡ b → cond b size rest ≤ 20 → (size ≤ 20) × (rest ≤ 20)
long_by true size rest e h = let long = ltb-true 20 size e in absurd (omega (arith, long, h))
long_by false size rest e h = (ltb-false 20 size e, h)

all_short : (rules : List Rule) → long_side rules ≤ 20 → All (λ (r : Rule). length r.1 ≤ 20) rules
all_short [] h = All-nil (λ (r : Rule). length r.1 ≤ 20)
all_short (rule ∷ rules) h =
    let parts = long_by (nat_lt 20 (length rule.1)) (length rule.1) (long_side rules) refl h in
    All-cons (λ (r : Rule). length r.1 ≤ 20) rule rules parts.0 (all_short rules parts.1)

sheet_short_at : (sheet : Sheet) → first_passed (measures sheet) ≡ None → long_side sheet.grammar.rules ≤ 20
sheet_short_at sheet e = ltb-false 20 (long_side sheet.grammar.rules) (none_pass (measures sheet) e).1.1.1.1.0

pub sides_short : (sheet : Sheet) → first_passed (measures sheet) ≡ None → All (λ (r : Rule). length r.1 ≤ 20) sheet.grammar.rules
sides_short sheet e = all_short sheet.grammar.rules (sheet_short_at sheet e)

-- ---- symbols

-- a name is a token's or has a rule, and a literal isn't empty, and has a name or is numbered behind the tokens
abbrev pub IsKnown : OutlineParts → Symbol → Type 0
IsKnown o (Name word) = (is_one_of (texts (token_words o)) word.bytes ≡ true) ⊎ ((is_one_of (texts (token_words o)) word.bytes ≡ false) × (is_one_of (grammar_names o) word.bytes ≡ true))
IsKnown o (Quoted word) = (word.bytes ≢ []) × ((is_one_of (texts (literal_words o)) word.bytes ≡ true) ⊎ ((is_one_of (texts (literal_words o)) word.bytes ≡ false) × (is_one_of (unnamed_literals o) word.bytes ≡ true)))

-- what holds of a rule of the outline
pub record IsFine (o : OutlineParts) (side : Side) : Type 0 where
  pub left_known : is_one_of (grammar_names o) side.0.bytes ≡ true
  pub left_name : IsName side.0.bytes
  pub known : All (IsKnown o) side.1.right
  pub good : AreGood (spelled_alternative side.1)
  pub short : length side.1.right ≤ 20
  pub stands : Contains (alternatives_of o) side.1

pub all_from : {X : Type 0} (P : X → Type 0) (xs : List X) → ((x : X) → Contains xs x → P x) → All P xs
all_from P xs h = All-weaker (Contains xs) P h xs (All-contains_itself xs)

good_joined : {X : Type 0} (f : X → List Kept) (xs : List X) (x : X) → AreGood (flat_map f xs) → Contains xs x → AreGood (f x)
good_joined f [] x h c = absurd (no_member x c)
good_joined f (y ∷ xs) x h c = elim (Contains-append_cases (y ∷ []) xs x c) [
  | inl here ↦ subst (λ z. AreGood (f z)) (only_member y x here) (good_left (f y) (flat_map f xs) h)
  | inr later ↦ good_joined f xs x (good_right (f y) (flat_map f xs) h) later
]

sides_good : (separator : Single) (alternatives : List AlternativeParts) → AreGood (spelled_sides separator alternatives) → All (λ (a : AlternativeParts). AreGood (spelled_alternative a)) alternatives
sides_good separator [] h = All-nil (λ (a : AlternativeParts). AreGood (spelled_alternative a))
sides_good separator (a ∷ alternatives) h =
    All-cons (λ (b : AlternativeParts). AreGood (spelled_alternative b)) a alternatives (good_left (spelled_alternative a) (spelled_sides Bar alternatives) h.1) (sides_good Bar alternatives (good_right (spelled_alternative a) (spelled_sides Bar alternatives) h.1))

module _ (o : OutlineParts) where
  pub rule_known : (word : List ℕ) → Contains (texts (left_words o)) word → is_one_of (grammar_names o) word ≡ true
  unfolding grammar_names
  rule_known word h = one_of_distinct (texts (left_words o)) word ∙ one_of (texts (left_words o)) word h

  pub known_rule : (word : List ℕ) → is_one_of (grammar_names o) word ≡ true → Contains (texts (left_words o)) word
  unfolding grammar_names
  known_rule word h = contains (texts (left_words o)) word (sym (one_of_distinct (texts (left_words o)) word) ∙ h)

module _ (o : OutlineParts) (faultless : IsFaultless o) where
  name_known : (a : AlternativeParts) (word : Word) → Contains (alternatives_of o) a → Contains a.right (Name word) → IsKnown o (Name word)
  name_known a word stands has = ⊎_elim
      (λ token. inl token)
      (λ none. ⊎_elim
      (λ rule. inr (none, rule_known o word.bytes (contains (texts (left_words o)) word.bytes rule)))
      (λ no_rule. absurd (faultless.none _ (unknown_name {word = word} (joined_has (λ (b : AlternativeParts). flat_map name_in b.right) (alternatives_of o) a word stands (joined_has name_in a.right (Name word) word has (one_member word)))
      (λ token. false≢true (sym none ∙ one_of (texts (token_words o)) word.bytes token)) (λ rule. false≢true (sym no_rule ∙ one_of (texts (left_words o)) word.bytes rule)))))
      (one_or_not (texts (left_words o)) word.bytes))
      (one_or_not (texts (token_words o)) word.bytes)

  unnamed_known : (word : Word) → Contains (side_literals o) word → is_one_of (texts (literal_words o)) word.bytes ≡ false → is_one_of (unnamed_literals o) word.bytes ≡ true
  unfolding unnamed_literals
  unnamed_known word has none =
      let p : Test = λ other. not (is_one_of (texts (literal_words o)) other) in
      one_of_distinct (filter p (texts (side_literals o))) word.bytes ∙ one_of_filter p (texts (side_literals o)) word.bytes (ap not none) ∙ one_of (texts (side_literals o)) word.bytes (mapped_has (λ (w : Word). w.bytes) (side_literals o) word has)

  quoted_known : (a : AlternativeParts) (word : Word) → Contains (alternatives_of o) a → Contains a.right (Quoted word) → IsKnown o (Quoted word)
  quoted_known a word stands has =
      let used : Contains (side_literals o) word = joined_has (λ (b : AlternativeParts). flat_map quoted_in b.right) (alternatives_of o) a word stands (joined_has quoted_in a.right (Quoted word) word has (one_member word)) in (
        λ none. faultless.none _ (empty_literal {word = word} (Contains-append_right (literal_words o) (side_literals o) word used) none),
        ⊎_elim (λ named. inl named) (λ none. inr (none, unnamed_known word used none)) (one_or_not (texts (literal_words o)) word.bytes),
      )

  symbol_known : (a : AlternativeParts) → Contains (alternatives_of o) a → (s : Symbol) → Contains a.right s → IsKnown o s
  symbol_known a stands (Name word) has = name_known a word stands has
  symbol_known a stands (Quoted word) has = quoted_known a word stands has

  -- no token is named twice
  pub tokens_once : (word : List ℕ) → IsRepeated (texts (token_words o)) word → ⊥
  tokens_once word h =
      let again = keys_again (λ (w : Word). w.bytes) (token_words o) word h in
      faultless.none _ (name_again (stands_again (token_words o) again.element again.again))

  module _ (good : AreGood (spelled_outline o)) where
    pub declarations_good : AreGood (flat_map spelled_declaration o.declarations)
    unfolding spelled_outline
    declarations_good = good_left (flat_map spelled_declaration o.declarations) (bare Mark ∷ (flat_map spelled_group o.groups ++ spelled_rest o.has_rest)) good

    groups_good : AreGood (flat_map spelled_group o.groups)
    unfolding spelled_outline
    groups_good =
        let rest = good_right (flat_map spelled_declaration o.declarations) (bare Mark ∷ (flat_map spelled_group o.groups ++ spelled_rest o.has_rest)) good in
        good_left (flat_map spelled_group o.groups) (spelled_rest o.has_rest) rest.1

    pub tokens_named : (word : List ℕ) → Contains (texts (token_words o)) word → IsName word
    tokens_named word h =
        let from = mapped_from (λ (w : Word). w.bytes) (token_words o) word h in
        subst IsName from.is (All-contains (λ (w : Word). IsName w.bytes) (token_words o) from.from (token_names_good o.declarations declarations_good) from.stands)

    -- each left side is a name
    left_named : (g : GroupParts) → Contains o.groups g → IsName g.left.bytes
    left_named g h = (good_joined spelled_group o.groups g groups_good h).0

    pub lefts_named : (word : List ℕ) → Contains (texts (left_words o)) word → IsName word
    lefts_named word h =
        let left = mapped_from (λ (w : Word). w.bytes) (left_words o) word h in
        let group = mapped_from (λ (g : GroupParts). g.left) o.groups left.from left.stands in
        subst IsName (ap (λ (w : Word). w.bytes) group.is ∙ left.is) (left_named group.from group.stands)

    module _ (sheet : Sheet) (says : IsSheetOf o sheet) (within : first_passed (measures sheet) ≡ None) where
      fine_at : (g : GroupParts) (a : AlternativeParts) → Contains o.groups g → Contains g.alternatives a → Contains (sides_in o.groups) (g.left, a) → IsFine o (g.left, a)
      fine_at g a group has side =
          let of_group : AreGood (spelled_group g) = good_joined spelled_group o.groups g groups_good group in
          let sides = sides_good Colon g.alternatives (good_left (spelled_sides Colon g.alternatives) (single Semicolon ∷ []) of_group.1) in
          let stands : Contains (alternatives_of o) a = joined_has (λ (h : GroupParts). h.alternatives) o.groups g a group has in
          let rules : map (rule_at (lists_of o)) (sides_in o.groups) ≡ sheet.grammar.rules = sides_rules (lists_of o) o.groups ∙ sym says.rules in
          let rule : Contains sheet.grammar.rules (rule_at (lists_of o) (g.left, a)) = subst (λ l. Contains l (rule_at (lists_of o) (g.left, a))) rules (mapped_has (rule_at (lists_of o)) (sides_in o.groups) (g.left, a) side) in
          let few = All-contains (λ (r : Rule). length r.1 ≤ 20) sheet.grammar.rules (rule_at (lists_of o) (g.left, a)) (sides_short sheet within) rule in
          let size = length-map a.right (symbol_by (lists_of o)) in
          record {
            left_known = rule_known o g.left.bytes (mapped_has (λ (w : Word). w.bytes) (left_words o) g.left (mapped_has (λ (h : GroupParts). h.left) o.groups g group));
            left_name = of_group.0;
            known = all_from (IsKnown o) a.right (symbol_known a stands);
            good = All-contains (λ (b : AlternativeParts). AreGood (spelled_alternative b)) g.alternatives a sides has;
            short = omega (arith, few, size);
            stands = stands;
          }

      fine_side : (side : Side) → Contains (sides_in o.groups) side → IsFine o side
      fine_side side h =
          let group = joined_from (λ (g : GroupParts). sides_by g.left g.alternatives) o.groups side h in
          let alternative = mapped_from (λ (a : AlternativeParts). (group.from.left, a)) group.from.alternatives side group.has in
          subst (IsFine o) alternative.is (fine_at group.from alternative.from group.stands alternative.stands (subst (Contains (sides_in o.groups)) (sym alternative.is) h))

      pub all_fine : All (IsFine o) (sides_in o.groups)
      all_fine = all_from (IsFine o) (sides_in o.groups) fine_side
