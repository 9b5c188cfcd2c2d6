-- What an outline without faults says of its words.
use Rattle.std.proofs.Common.{◌≡◌, ◌≢◌, ℕ, List, [], ◌∷◌, ◌++◌, Bool, true, false, refl, sym, ap, ◌∙◌, arith}
use Rattle.std.specs.Prelude.{◌||◌, not, if◌then◌else◌, filter, All, Contains}
use Rattle.std.specs.List.{flat_map}
use Rattle.std.specs.Str.{bytes_eq}
use Rattle.std.proofs.lemmas.Bool.{false≢true}
use Rattle.std.proofs.lemmas.List.Elements.{Contains-append_left, Contains-append_right, Contains-push}
use Rattle.std.proofs.lemmas.List.Folds.{list_any-append}
use Rattle.std.proofs.lemmas.Slice.Eq.{bytes_eq-Decides}
use Rattle.outline_data.specs.declared.outline.Word.{Word}
use Rattle.outline_data.specs.declared.outline.Declaration.{Declaration}
use Rattle.outline_data.specs.declared.outline.Declaration.TheVariants.{Literal, Matched, Skip, Start}
use Rattle.outline_data.specs.declared.rules.Symbol.{Symbol}
use Rattle.outline_data.specs.declared.rules.Symbol.TheVariants.{Name, Quoted}
use Rattle.outline_data.specs.AlternativeParts.{AlternativeParts}
use Rattle.outline_data.specs.GroupParts.{GroupParts}
use Rattle.outline_data.specs.Parts.{OutlineParts}
use Rattle.outline_theory.specs.Words.{texts, token_words, literal_in, literal_words, StartUse, starts, left_words, alternatives_of, name_in, quoted_in, side_names, side_literals}
use Rattle.outline_theory.specs.LineFaults.{empty_literal, name_again, unknown_name, unknown_start}
use Rattle.outline_theory.specs.Numbering.{is_one_of, distinct, unnamed_literals, literal_of_token, token_literals, grammar_names, lists_of}
use Rattle.outline_theory.specs.Reading.{IsFaultless}
use Rattle.numbering_theory.specs.Places.{with_words}
use Rattle.numbering_theory.specs.KnownWords.{IsKnownName, IsKnown, AreKnown, IsKnownGroup}
use Rattle.numbering_theory.proofs.DistinctLemmas.{noted, noted_alone, noted_once}
use Rattle.numbering_theory.proofs.MemberLemmas.{all_from, contains_map, contains_flat, one_of, one_of_filter, one_of_distinct}

-- a word with bytes is one of the declared literals exactly where a token has it
nothing_else : (word : List ℕ) → word ≢ [] → (b : Bool) → bytes_eq [] word ≡ b → b ≡ false
nothing_else word some true e = absurd (some (sym ((bytes_eq-Decides [] word).0 e)))
nothing_else word some false e = refl

same_literals : (declarations : List Declaration) (word : List ℕ) → word ≢ [] → is_one_of (flat_map literal_of_token declarations) word ≡ is_one_of (texts (flat_map literal_in declarations)) word
same_literals [] word some = refl
same_literals (Literal name literal ∷ declarations) word some = ap (λ b. bytes_eq literal.bytes word || b) (same_literals declarations word some)
same_literals (Matched name pattern ∷ declarations) word some =
    ap (λ b. b || is_one_of (flat_map literal_of_token declarations) word) (nothing_else word some (bytes_eq [] word) refl) ∙ same_literals declarations word some
same_literals (Skip pattern ∷ declarations) word some = same_literals declarations word some
same_literals (Start line name ∷ declarations) word some = same_literals declarations word some

-- so the words behind them are the literals without a name
same_test : (p q : List ℕ → Bool) (word : List ℕ) (words : List (List ℕ)) (b : Bool) → q word ≡ b → p word ≡ q word → filter p words ≡ filter q words → filter p (word ∷ words) ≡ filter q (word ∷ words)
same_test p q word words b e here rest =
    ap (λ x. if x then word ∷ filter p words else filter p words) here ∙ ap (λ l. if q word then word ∷ l else l) rest

same_filter : (p q : List ℕ → Bool) (words : List Word) → ((word : Word) → Contains words word → p word.bytes ≡ q word.bytes) → filter p (texts words) ≡ filter q (texts words)
same_filter p q [] same = refl
same_filter p q (word ∷ words) same =
    same_test p q word.bytes (texts words) (q word.bytes) refl (same word (Contains-append_left (word ∷ []) words word (Contains-push [] word))) (same_filter p q words (λ w member. same w (Contains-append_right (word ∷ []) words w member)))

unnamed_same : (o : OutlineParts) → IsFaultless o → filter (λ word. not (is_one_of (flat_map literal_of_token o.declarations) word)) (texts (side_literals o)) ≡ filter (λ word. not (is_one_of (texts (literal_words o)) word)) (texts (side_literals o))
unnamed_same o faultless =
    same_filter (λ word. not (is_one_of (flat_map literal_of_token o.declarations) word)) (λ word. not (is_one_of (texts (literal_words o)) word)) (side_literals o) (λ word member. ap not (same_literals o.declarations word.bytes (λ none. faultless.none _ (empty_literal (Contains-append_right (literal_words o) (side_literals o) word member) none))))

-- the words that were noted are those that have numbers
pub lists_are : (o : OutlineParts) (tokens literals names : List (List ℕ)) → IsFaultless o → tokens ≡ with_words [] (texts (token_words o)) → literals ≡ with_words (flat_map literal_of_token o.declarations) (texts (side_literals o)) → names ≡ with_words [] (texts (left_words o))
    → record { tokens = tokens; literals = literals; names = names } ≡ lists_of o
unfolding unnamed_literals grammar_names
lists_are o tokens literals names faultless t l n =
    let of_tokens : tokens ≡ texts (token_words o) = t ∙ noted_once (token_words o) (λ word again. faultless.none _ (name_again again)) in
    let of_literals : literals ≡ token_literals o = l ∙ noted (flat_map literal_of_token o.declarations) (texts (side_literals o)) ∙ ap (λ ws. flat_map literal_of_token o.declarations ++ distinct ws) (unnamed_same o faultless) in
    let of_names : names ≡ grammar_names o = n ∙ noted_alone (texts (left_words o)) in
    cc (of_tokens, of_literals, of_names)

-- a name that is no token has a rule
known_by : (o : OutlineParts) (word : Word) (b : Bool) → is_one_of (texts (left_words o)) word.bytes ≡ b → is_one_of (texts (token_words o)) word.bytes ≡ false → (¬ (Contains (texts (left_words o)) word.bytes) → ⊥) → b ≡ true
known_by o word true e no_token fault = refl
known_by o word false e no_token fault = absurd (fault (λ member. false≢true (sym e ∙ one_of (texts (left_words o)) word.bytes member)))

grammar_name : (o : OutlineParts) (word : List ℕ) → is_one_of (grammar_names o) word ≡ is_one_of (texts (left_words o)) word
unfolding grammar_names
grammar_name o word = one_of_distinct (texts (left_words o)) word

known_name : (o : OutlineParts) → IsFaultless o → (word : Word) → Contains (side_names o) word → IsKnownName (lists_of o) word.bytes
known_name o faultless word member no_token =
    let not_token : ¬ (Contains (texts (token_words o)) word.bytes) = λ h. false≢true (sym no_token ∙ one_of (texts (token_words o)) word.bytes h) in
    grammar_name o word.bytes ∙ known_by o word (is_one_of (texts (left_words o)) word.bytes) refl no_token (λ none. faultless.none _ (unknown_name member not_token none))

-- a literal of a right side is a token
token_by : (o : OutlineParts) (word : List ℕ) (b : Bool) → is_one_of (texts (literal_words o)) word ≡ b → is_one_of (texts (side_literals o)) word ≡ true → (b || is_one_of (unnamed_literals o) word) ≡ true
unfolding unnamed_literals
token_by o word true e member = refl
token_by o word false e member =
    one_of_distinct (filter (λ w. not (is_one_of (texts (literal_words o)) w)) (texts (side_literals o))) word ∙ one_of_filter (λ w. not (is_one_of (texts (literal_words o)) w)) (texts (side_literals o)) word (ap not e) ∙ member

known_literal : (o : OutlineParts) → IsFaultless o → (word : Word) → Contains (side_literals o) word → is_one_of (token_literals o) word.bytes ≡ true
known_literal o faultless word member =
    list_any-append (λ other. bytes_eq other word.bytes) (flat_map literal_of_token o.declarations) (unnamed_literals o) ∙ ap (λ b. b || is_one_of (unnamed_literals o) word.bytes) (same_literals o.declarations word.bytes (λ none. faultless.none _ (empty_literal (Contains-append_right (literal_words o) (side_literals o) word member) none))) ∙ token_by o word.bytes (is_one_of (texts (literal_words o)) word.bytes) refl (one_of (texts (side_literals o)) word.bytes (contains_map (λ (w : Word). w.bytes) (side_literals o) word member))

-- all words of the rules are known
known_symbol : (o : OutlineParts) → IsFaultless o → (a : AlternativeParts) → Contains (alternatives_of o) a → (symbol : Symbol) → Contains a.right symbol → IsKnown (lists_of o) symbol
known_symbol o faultless a alternative (Name word) member =
    known_name o faultless word (contains_flat (λ (b : AlternativeParts). flat_map name_in b.right) (alternatives_of o) a word alternative (contains_flat name_in a.right (Name word) word member (0, omega arith, refl)))
known_symbol o faultless a alternative (Quoted word) member =
    known_literal o faultless word (contains_flat (λ (b : AlternativeParts). flat_map quoted_in b.right) (alternatives_of o) a word alternative (contains_flat quoted_in a.right (Quoted word) word member (0, omega arith, refl)))

known_group : (o : OutlineParts) → IsFaultless o → (g : GroupParts) → Contains o.groups g → IsKnownGroup (lists_of o) g
known_group o faultless g member = record {
  left = grammar_name o g.left.bytes ∙ one_of (texts (left_words o)) g.left.bytes (contains_map (λ (w : Word). w.bytes) (left_words o) g.left (contains_map (λ (h : GroupParts). h.left) o.groups g member));
  rights = all_from (AreKnown (lists_of o)) g.alternatives (λ a alternative. all_from (IsKnown (lists_of o)) a.right (known_symbol o faultless a (contains_flat (λ (h : GroupParts). h.alternatives) o.groups g a member alternative)));
}

pub all_known : (o : OutlineParts) → IsFaultless o → All (IsKnownGroup (lists_of o)) o.groups
all_known o faultless = all_from (IsKnownGroup (lists_of o)) o.groups (known_group o faultless)

start_by_rule : (o : OutlineParts) (word : Word) (b : Bool) → is_one_of (texts (left_words o)) word.bytes ≡ b → (¬ (Contains (texts (left_words o)) word.bytes) → ⊥) → b ≡ true
start_by_rule o word true e fault = refl
start_by_rule o word false e fault = absurd (fault (λ member. false≢true (sym e ∙ one_of (texts (left_words o)) word.bytes member)))

pub starts_known : (o : OutlineParts) → IsFaultless o → All (λ (start : StartUse). is_one_of (grammar_names o) start.name.bytes ≡ true) (starts o)
starts_known o faultless =
    all_from (λ (start : StartUse). is_one_of (grammar_names o) start.name.bytes ≡ true) (starts o) (λ start member. grammar_name o start.name.bytes ∙ start_by_rule o start.name (is_one_of (texts (left_words o)) start.name.bytes) refl (λ none. faultless.none _ (unknown_start member none)))
