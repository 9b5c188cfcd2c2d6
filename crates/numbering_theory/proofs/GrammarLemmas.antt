-- The parts of a faultless outline are a grammar's.
use Rattle.std.proofs.Common.{◌≡◌, ◌≢◌, ℕ, zero, suc, ◌+◌, ◌<◌, ◌≤◌, List, [], ◌∷◌, length, map, get_or, Bool, true, false, refl, sym, ap, subst, ◌∙◌, arith}
use Rattle.std.specs.Prelude.{if◌then◌else◌, drop, All, Contains, None, Some, slice_get}
use Rattle.std.specs.List.{flat_map}
use Rattle.std.proofs.lemmas.List.{length-append, length-map}
use Rattle.std.proofs.Math.Seq.{drop-append_seam}
use Rattle.std.proofs.lemmas.List.Elements.{All-head, All-tail, All-nil, All-cons, All-map, All-weaker, All-append, All-contains}
use Rattle.std.proofs.lemmas.Option.{none-some, same_Some, slice_get_within, slice_get-get_or}
use Rattle.grammar_data.specs.Grammar.{Rule}
use Rattle.grammar_data.specs.declared.rule.Sym.{Sym}
use Rattle.grammar_data.specs.declared.rule.Sym.TheVariants.{Token as token_symbol, Name as name_symbol}
use Rattle.lr_base.specs.IsGrammar.{IsSymbolOf, IsRuleOf, IsGrammar}
use Rattle.outline_data.specs.declared.outline.Word.{Word}
use Rattle.outline_data.specs.declared.outline.Declaration.{Declaration}
use Rattle.outline_data.specs.declared.outline.Declaration.TheVariants.{Literal, Matched, Skip, Start}
use Rattle.outline_data.specs.declared.rules.Symbol.{Symbol}
use Rattle.outline_data.specs.declared.rules.Symbol.TheVariants.{Name, Quoted}
use Rattle.sheet_data.specs.declared.parts.Decl.{Decl}
use Rattle.outline_data.specs.AlternativeParts.{AlternativeParts}
use Rattle.outline_data.specs.GroupParts.{GroupParts}
use Rattle.outline_data.specs.Parts.{OutlineParts}
use Rattle.outline_theory.specs.Spelling.{IsShaped}
use Rattle.outline_theory.specs.Words.{texts, token_in, token_words, StartUse, starts, left_words}
use Rattle.outline_theory.specs.Limits.{first_passed, long_side}
use Rattle.outline_theory.specs.Numbering.{is_one_of, index_of, distinct, unnamed_literals, literal_of_token, token_literals, grammar_names, WordLists, lists_of, symbol_by, rule_by, rules_by, rules_of, start_by}
use Rattle.outline_theory.specs.Reading.{IsFaultless}
use Rattle.numbering_theory.specs.KnownWords.{IsKnownName, IsKnown, AreKnown, IsKnownGroup, unnamed_in}
use Rattle.numbering_theory.specs.Passing.{all_measures}
use Rattle.numbering_theory.proofs.WordPlaces.{at_first, one_at}
use Rattle.numbering_theory.proofs.LimitLemmas.{none_over, short_first}
use Rattle.numbering_theory.proofs.DistinctLemmas.{HasOnePlace, distinct_place}
use Rattle.numbering_theory.proofs.MemberLemmas.{contains_flat, one_of_distinct}
use Rattle.numbering_theory.proofs.OutlineLemmas.{all_known, starts_known}

-- a known word's number is in range
index_within : (words : List (List ℕ)) (word : List ℕ) → is_one_of words word ≡ true → index_of words word < length words
index_within words word known = slice_get_within words (index_of words word) word (at_first words word known)

-- each declared token has a literal, or none for its pattern
as_many : (declarations : List Declaration) → length (flat_map literal_of_token declarations) ≡ length (flat_map token_in declarations)
as_many [] = refl
as_many (Literal name literal ∷ declarations) = ap suc (as_many declarations)
as_many (Matched name pattern ∷ declarations) = ap suc (as_many declarations)
as_many (Skip pattern ∷ declarations) = as_many declarations
as_many (Start line name ∷ declarations) = as_many declarations

pub count_tokens : (o : OutlineParts) → length (token_literals o) ≡ length (token_words o) + length (unnamed_literals o)
count_tokens o =
    length-append (flat_map literal_of_token o.declarations) (unnamed_literals o) ∙ ap (λ n. n + length (unnamed_literals o)) (as_many o.declarations)

pub few_names : (o : OutlineParts) → length (texts (token_words o)) ≤ length (token_literals o)
few_names o = omega (arith, count_tokens o, length-map (token_words o) (λ (w : Word). w.bytes))

-- the literals behind those of the declared tokens
pub unnamed_behind : (o : OutlineParts) → unnamed_in (lists_of o) ≡ unnamed_literals o
unnamed_behind o =
    ap (λ n. drop n (token_literals o)) (length-map (token_words o) (λ (w : Word). w.bytes) ∙ sym (as_many o.declarations)) ∙ drop-append_seam (flat_map literal_of_token o.declarations) (unnamed_literals o)

-- symbols in range
symbol_name : (lists : WordLists) (word : List ℕ) (b : Bool) → is_one_of lists.tokens word ≡ b → IsKnownName lists word → length lists.tokens ≤ length lists.literals
    → IsSymbolOf (length lists.literals) (length lists.names) (if b then token_symbol (index_of lists.tokens word) else name_symbol (index_of lists.names word))
symbol_name lists word true e known few = let within = index_within lists.tokens word e in omega arith
symbol_name lists word false e known few = index_within lists.names word (known e)

symbol_in : (lists : WordLists) → length lists.tokens ≤ length lists.literals → (symbol : Symbol) → IsKnown lists symbol → IsSymbolOf (length lists.literals) (length lists.names) (symbol_by lists symbol)
symbol_in lists few (Name word) known = symbol_name lists word.bytes (is_one_of lists.tokens word.bytes) refl known few
symbol_in lists few (Quoted word) known = index_within lists.literals word.bytes known

-- what holds of the members of each list holds of those of all
all_flat : {X Y : Type 0} (P : Y → Type 0) (f : X → List Y) (xs : List X) → All (λ x. All P (f x)) xs → All P (flat_map f xs)
all_flat P f [] h = All-nil P
all_flat P f (x ∷ xs) h =
    All-append P (f x) (flat_map f xs) (All-head (λ y. All P (f y)) x xs h) (all_flat P f xs (All-tail (λ y. All P (f y)) x xs h))

abbrev IsInRange : WordLists → Rule → Type 0
IsInRange lists rule = (rule.0 < length lists.names) × All (IsSymbolOf (length lists.literals) (length lists.names)) rule.1

in_range : (lists : WordLists) → length lists.tokens ≤ length lists.literals → (g : GroupParts) → IsKnownGroup lists g → All (IsInRange lists) (rules_by lists g)
in_range lists few g known =
    All-map (IsInRange lists) (rule_by lists (index_of lists.names g.left.bytes)) g.alternatives (All-weaker (AreKnown lists) (λ a. IsInRange lists (rule_by lists (index_of lists.names g.left.bytes) a)) (λ a right. (index_within lists.names g.left.bytes known.left, All-map (IsSymbolOf (length lists.literals) (length lists.names)) (symbol_by lists) a.right (All-weaker (IsKnown lists) (λ s. IsSymbolOf (length lists.literals) (length lists.names) (symbol_by lists s)) (symbol_in lists few) a.right right))) g.alternatives known.rights)

all_in_range : (lists : WordLists) (groups : List GroupParts) → length lists.tokens ≤ length lists.literals → All (IsKnownGroup lists) groups → All (IsInRange lists) (flat_map (rules_by lists) groups)
all_in_range lists groups few known =
    all_flat (IsInRange lists) (rules_by lists) groups (All-weaker (IsKnownGroup lists) (λ g. All (IsInRange lists) (rules_by lists g)) (in_range lists few) groups known)

-- with short right sides these are rules
are_rules : (lists : WordLists) (rules : List Rule) → All (IsInRange lists) rules → long_side rules ≤ 20 → All (IsRuleOf (length lists.literals) (length lists.names)) rules
are_rules lists [] all short = All-nil (IsRuleOf (length lists.literals) (length lists.names))
are_rules lists (rule ∷ rules) all short =
    let here = All-head (IsInRange lists) rule rules all in
    let parts = short_first rule rules short in
    All-cons (IsRuleOf (length lists.literals) (length lists.names)) rule rules (record { left = here.0; right = here.1; short = parts.0 }) (are_rules lists rules (All-tail (IsInRange lists) rule rules all) parts.1)

-- each name has a rule
first_rule : (lists : WordLists) (g : GroupParts) → g.alternatives ≢ [] → (alternatives : List AlternativeParts) → g.alternatives ≡ alternatives → (right : List Sym) × Contains (rules_by lists g) (index_of lists.names g.left.bytes, right)
first_rule lists g some [] e = absurd (some e)
first_rule lists g some (a ∷ alternatives) e =
    (map (symbol_by lists) a.right, subst (λ l. Contains (map (rule_by lists (index_of lists.names g.left.bytes)) l) (index_of lists.names g.left.bytes, map (symbol_by lists) a.right)) (sym e) (0, omega arith, refl))

group_at : (groups : List GroupParts) (word : List ℕ) → is_one_of (texts (map (λ (g : GroupParts). g.left) groups)) word ≡ true → (g : GroupParts) × Contains groups g × (g.left.bytes ≡ word)
group_at groups word one =
    by_place groups word (index_of (texts (map (λ (g : GroupParts). g.left) groups)) word) (at_first (texts (map (λ (g : GroupParts). g.left) groups)) word one)
  where
    by_place : (gs : List GroupParts) (w : List ℕ) (k : ℕ) → slice_get (texts (map (λ (g : GroupParts). g.left) gs)) k ≡ Some w → (g : GroupParts) × Contains gs g × (g.left.bytes ≡ w)
    by_place [] w k e = absurd (none-some w e)
    by_place (g ∷ gs) w zero e = (g, (0, omega arith, refl), same_Some g.left.bytes w e)
    by_place (g ∷ gs) w (suc k) e =
        let (h, (j, lt, at), same) = by_place gs w k e in (h, (suc j, omega (arith, lt), at), same)

ruled : (o : OutlineParts) → IsShaped o → (n : ℕ) → n < length (grammar_names o) → (right : List Sym) × Contains (rules_of o) (n, right)
unfolding grammar_names
ruled o shaped n within =
    let once : HasOnePlace (grammar_names o) = distinct_place (texts (left_words o)) in
    let names = grammar_names o in
    let word = get_or names n [] in
    let here : slice_get names n ≡ Some word = slice_get-get_or names n [] within in
    let one : is_one_of names word ≡ true = one_at names word n here in
    let (g, member, same) = group_at o.groups word (sym (one_of_distinct (texts (left_words o)) word) ∙ one) in
    let (right, contained) = first_rule (lists_of o) g (All-contains (λ (h : GroupParts). h.alternatives ≢ []) o.groups g shaped member) g.alternatives refl in
    let place : index_of names g.left.bytes ≡ n = ap (index_of names) same ∙ once word (index_of names word) n (at_first names word one) here in
    (right, subst (λ m. Contains (rules_of o) (m, right)) place (contains_flat (rules_by (lists_of o)) o.groups g (index_of names g.left.bytes, right) member contained))

-- there is a rule, and a name
some_rule : (o : OutlineParts) → IsFaultless o → IsShaped o → (groups : List GroupParts) → o.groups ≡ groups → (0 < length (rules_of o)) × (0 < length (grammar_names o))
unfolding grammar_names
some_rule o faultless shaped [] e = absurd (faultless.rules e)
some_rule o faultless shaped (g ∷ groups) e =
    let member : Contains o.groups g = subst (λ l. Contains l g) (sym e) (0, omega arith, refl) in
    let (right, contained) = first_rule (lists_of o) g (All-contains (λ (h : GroupParts). h.alternatives ≢ []) o.groups g shaped member) g.alternatives refl in
    let (k, lt, at) = contains_flat (rules_by (lists_of o)) o.groups g (index_of (grammar_names o) g.left.bytes, right) member contained in
    (omega (arith, lt), subst (λ l. 0 < length (distinct (texts (map (λ (h : GroupParts). h.left) l)))) (sym e) (omega arith))

start_within : (o : OutlineParts) → 0 < length (grammar_names o) → (uses : List StartUse) → All (λ (start : StartUse). is_one_of (grammar_names o) start.name.bytes ≡ true) uses → start_by (grammar_names o) uses < length (grammar_names o)
start_within o some [] known = some
start_within o some (start ∷ uses) known =
    index_within (grammar_names o) start.name.bytes (All-head (λ (s : StartUse). is_one_of (grammar_names o) s.name.bytes ≡ true) start uses known)

pub grammar_is : (o : OutlineParts) (decls : List Decl) → IsFaultless o → IsShaped o → first_passed (all_measures (lists_of o) decls (rules_of o)) ≡ None
    → IsGrammar (record { tokens = length (token_literals o); names = length (grammar_names o); rules = rules_of o; start = start_by (grammar_names o) (starts o) })
grammar_is o decls faultless shaped none =
    let kept = none_over (lists_of o) decls (rules_of o) none in
    let some = some_rule o faultless shaped o.groups refl in
    record {
      few_tokens = kept.few_tokens;
      few_names = kept.few_names;
      some_rule = some.0;
      few_rules = kept.few_rules;
      few_symbols = kept.few_symbols;
      start = start_within o some.1 (starts o) (starts_known o faultless);
      rules = are_rules (lists_of o) (rules_of o) (all_in_range (lists_of o) o.groups (few_names o) (all_known o faultless)) kept.short_sides;
      ruled = ruled o shaped;
    }

-- the same, by the lists of words
pub grammar_by : (o : OutlineParts) (decls : List Decl) (lists : WordLists) (rules : List Rule) (start : ℕ) → lists_of o ≡ lists → IsFaultless o → IsShaped o → first_passed (all_measures lists decls (flat_map (rules_by lists) o.groups)) ≡ None
    → rules ≡ flat_map (rules_by lists) o.groups → start ≡ start_by lists.names (starts o) → IsGrammar (record { tokens = length lists.literals; names = length lists.names; rules = rules; start = start })
grammar_by o decls lists rules start e faultless shaped none r s =
    let whole : IsGrammar (record { tokens = length lists.literals; names = length lists.names; rules = flat_map (rules_by lists) o.groups; start = start_by lists.names (starts o) }) =
    subst (λ (l : WordLists). first_passed (all_measures l decls (flat_map (rules_by l) o.groups)) ≡ None → IsGrammar (record { tokens = length l.literals; names = length l.names; rules = flat_map (rules_by l) o.groups; start = start_by l.names (starts o) })) e (λ none_of. grammar_is o decls faultless shaped none_of) none in
    rw (r, s) whole
