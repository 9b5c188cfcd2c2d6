-- What tables of names say of a grammar.
use Rattle.std.proofs.Common.{◌≡◌, ℕ, zero, suc, ◌<◌, ◌≤◌, inl, inr, ◌↔◌, Bool, false, IsTrue, List, [], ◌∷◌, length, take, get_or, Contains, All, Some, refl, sym, ap, subst, ◌∙◌, arith}
use Rattle.std.proofs.lemmas.Bool.{cases_lt, false≢true, lt-ltb, ltb-true}
use Rattle.std.proofs.lemmas.List.{get_or_past}
use Rattle.std.proofs.lemmas.List.Elements.{All-contains, Contains-get_or}
use Rattle.std.proofs.lemmas.Option.{slice_get_within, get_or_from_slice_get}
use Rattle.grammar_data.specs.declared.rule.Sym.{Sym}
use Rattle.grammar_data.specs.declared.rule.Sym.TheVariants.{Token, Name}
use Rattle.grammar_data.specs.Grammar.{Grammar}
use Rattle.lr_base.specs.IsGrammar.{IsGrammar, IsSymbolOf}
use Rattle.grammar_data.specs.TokenSet.{IsTokenSet, has_token}
use Rattle.grammar_theory.specs.Rules.{OnlyNames}
use Rattle.grammar_theory.specs.UsefulNames.{AllProductive}
use Rattle.grammar_theory.specs.EmptyNames.{IsNullable, IsSizedBelow}
use Rattle.grammar_theory.specs.FirstTokens.{FirstHas, IsFirstBy, IsFirst}
use Rattle.grammar_theory.proofs.EmptyLemmas.{derives_of_vanishes}
use Rattle.grammar_theory.proofs.SizeLemmas.{one_size, unsized_above}
use Rattle.grammar_theory.proofs.FirstLemmas.{first_by_rule}
use Rattle.grammar_theory.proofs.NameLaws.{first_table_law}
use Rattle.first_sets.specs.declared.opening.Opening.{Opening}
use Rattle.first_sets.specs.NameFacts.{AreFirsts, AreSizes}
use Rattle.grammar_theory.specs.UselessNames.{AllReachable, AllEmptySmall, IsLeastTooLarge}
use Rattle.first_sets.specs.EmptySizes.{AreKnownBelow, AreSized, IsLeastUnsized, size_in}
use Rattle.first_sets.specs.KnownNames.{AreUses, AreMentions, is_known}
use Rattle.first_sets.specs.Openings.{AreOpenings, AreReaders, Begins, BeginsIn, IsFilled, IsOpeningOf, IsVisible, PassesOn, opening, set_at}
use Rattle.first_sets.proofs.KnownLemmas.{true_is, only_of_known, known_of_only, only_weaker}
use Rattle.grammar_laws.proofs.RangeLemmas.{in_range, rule_of}
use Rattle.first_sets.proofs.RoundLemmas.{no_size, some_size}

-- ---- ranges

all_of : {X : Type 0} (P : X → Type 0) (xs : List X) → ((x : X) → Contains xs x → P x) → All P xs
all_of P xs each k d less = each (get_or xs k d) (Contains-get_or xs k d less)

pub uses_below : (g : Grammar) (pairs : List (ℕ × ℕ)) → IsGrammar g → AreUses g.rules pairs → All (λ pair. pair.0 < g.names) pairs
uses_below g pairs is uses = all_of (λ pair. pair.0 < g.names) pairs (λ pair has.
    let found = uses.only pair.0 pair.1 has in
    All-contains (IsSymbolOf g.tokens g.names) found.1 (Name pair.0) (rule_of g is pair.1 found.0 found.1 found.2).right found.3)

pub mentions_below : (g : Grammar) (pairs : List (ℕ × ℕ)) → IsGrammar g → AreMentions g.rules pairs → All (λ pair. pair.0 < g.names) pairs
mentions_below g pairs is mentions = all_of (λ pair. pair.0 < g.names) pairs (λ pair has.
    let found = mentions.only pair.0 pair.1 has in
    (rule_of g is found.0 pair.0 found.1 found.2).left)

wider : (tokens names : ℕ) (x : Sym) → tokens ≤ 256 → IsSymbolOf tokens names x → IsSymbolOf 256 names x
wider tokens names (Token a) few less = omega arith
wider tokens names (Name n) few less = less

pub openings_in_range : (g : Grammar) (nullable : List Bool) (openings : List Opening) → IsGrammar g → AreOpenings nullable g.rules openings → All (IsOpeningOf g.names) openings
openings_in_range g nullable openings is all = all_of (IsOpeningOf g.names) openings (λ o has.
    let found = all.only o has in
    let rule = rule_of g is found.0 o.left found.1 found.2 in
    let seen = found.3 in
    record {
      left = rule.left;
      symbol = wider g.tokens g.names o.symbol (omega (arith, is.few_tokens)) (subst (λ x. IsSymbolOf g.tokens g.names x) seen.2 (rule.right seen.0 o.symbol seen.1));
    })

pub readers_below : (names : ℕ) (openings : List Opening) (pairs : List (ℕ × ℕ)) → All (IsOpeningOf names) openings → AreReaders openings pairs → All (λ pair. pair.0 < names) pairs
readers_below names openings pairs range readers = all_of (λ pair. pair.0 < names) pairs (λ pair has.
    let found = readers.only pair.0 pair.1 has in
    let here : IsOpeningOf names found.0 = subst (λ o. IsOpeningOf names o) (get_or_from_slice_get openings pair.1 found.0 found.0 found.1) (range pair.1 found.0 (slice_get_within openings pair.1 found.0 found.1)) in
    subst (λ x. IsSymbolOf 256 names x) found.2 here.symbol)

-- ---- first tokens

-- a visible symbol shows its tokens
visible_first : (g : Grammar) (xs : List Sym) (k : ℕ) (x : Sym) (a : ℕ) → k < length xs → get_or xs k x ≡ x → OnlyNames (IsNullable g) (take k xs) → BeginsIn g x a → IsFirst g xs a
visible_first g [] k x a inside is front begins = absurd (omega arith)
visible_first g (Token c ∷ xs) zero x a inside is front begins = subst (λ y. BeginsIn g y a) (sym is) begins
visible_first g (Name m ∷ xs) zero x a inside is front begins = inl (subst (λ y. BeginsIn g y a) (sym is) begins)
visible_first g (Token c ∷ xs) (suc k) x a inside is front begins = absurd front
visible_first g (Name m ∷ xs) (suc k) x a inside is front begins = inr (front.0, visible_first g xs k x a (omega arith) is front.1 begins)

pub passes_on : (g : Grammar) (nullable : List Bool) (openings : List Opening) → IsGrammar g → AllProductive g → ((n : ℕ) → IsTrue (is_known nullable n) ↔ IsNullable g n) → AreOpenings nullable g.rules openings → PassesOn g openings
passes_on g nullable openings is all exact opened o has a begins =
    let found = opened.only o has in
    let seen = found.3 in
    let front : OnlyNames (IsNullable g) (take seen.0 found.1) = only_weaker (λ m. (exact m).0) (take seen.0 found.1) (only_of_known nullable (take seen.0 found.1) seen.3) in
    first_by_rule g (in_range g is) all found.1 found.2 (visible_first g found.1 seen.0 o.symbol a seen.1 seen.2 front begins)

-- what symbols begin with shows at one that is visible
first_visible : (nullable : List Bool) (sets : List (List ℕ)) (xs : List Sym) (a : ℕ) → IsFirstBy (λ m b. IsTrue (has_token (set_at sets m) b)) (λ m. IsTrue (is_known nullable m)) xs a
    → (k : ℕ) × (x : Sym) × (k < length xs) × (get_or xs k x ≡ x) × OnlyNames (λ m. IsTrue (is_known nullable m)) (take k xs) × Begins sets x a
first_visible nullable sets [] a h = absurd h
first_visible nullable sets (Token c ∷ xs) a h = (0, Token c, omega arith, refl, tt, h)
first_visible nullable sets (Name m ∷ xs) a (inl h) = (0, Name m, omega arith, refl, tt, h)
first_visible nullable sets (Name m ∷ xs) a (inr h) = let f = first_visible nullable sets xs a h.1 in (suc f.0, f.1, omega (arith, f.2), f.3, (h.0, f.4), f.5)

pub first_exactly : (g : Grammar) (nullable : List Bool) (openings : List Opening) (sets : List (List ℕ)) → ((n : ℕ) → IsTrue (is_known nullable n) ↔ IsNullable g n) → AreOpenings nullable g.rules openings
    → ((n a : ℕ) → IsTrue (has_token (set_at sets n) a) → FirstHas g n a) → All (IsFilled sets) openings → (n a : ℕ) → IsTrue (has_token (set_at sets n) a) ↔ FirstHas g n a
first_exactly g nullable openings sets exact opened sound filled n a =
    first_table_law g (is_known nullable) (λ m b. has_token (set_at sets m) b) (record {
      nullable = λ m null. (exact m).1 null;
      sound = sound;
      closed = λ r m b right rule h.
          let f = first_visible nullable sets right b h in
          let seen : IsVisible nullable right f.1 = (f.0, f.2, f.3, known_of_only nullable (take f.0 right) f.4) in
          All-contains (IsFilled sets) openings (opening m f.1) filled (opened.every r m right f.1 rule seen) b f.5;
    }) n a

-- ---- empty sizes

size_some : (sizes : List ℕ) (n : ℕ) → 0 < get_or sizes n 0 → size_in sizes n ≡ Some (get_or sizes n 0)
size_some sizes n more = some_size (get_or sizes n 0) more

known_inside : (nullable : List Bool) (n : ℕ) → IsTrue (is_known nullable n) → n < length nullable
known_inside nullable n known = elim (cases_lt n (length nullable)) [
  | inl inside ↦ inside
  | inr past ↦ absurd (false≢true (sym (get_or_past nullable n false past) ∙ known))
]

module _ (g : Grammar) (nullable : List Bool) (sizes : List ℕ) (exact : (n : ℕ) → IsTrue (is_known nullable n) ↔ IsNullable g n) (table : IsSizedBelow g 1001 (size_in sizes)) where
  pub sizes_exact : length sizes ≡ g.names → AreSized nullable sizes (length nullable) → AreSizes g sizes
  sizes_exact count all = record {
    count = count;
    nullable = λ n. (
      λ is. derives_of_vanishes (table.sound n (get_or sizes n 0) (size_some sizes n (ltb-true 0 (get_or sizes n 0) is))).some,
      λ null. lt-ltb 0 (get_or sizes n 0) (sized n null),
    );
    size = λ n k. (
      λ is. table.sound n k is,
      λ has.
          let some = size_some sizes n (sized n (derives_of_vanishes has.some)) in
          some ∙ ap Some (one_size g n (get_or sizes n 0) k (table.sound n (get_or sizes n 0) some) has),
    );
    small = λ n k is. (let less = table.below n k is in omega arith);
  }
    where
      sized : (n : ℕ) → IsNullable g n → 0 < get_or sizes n 0
      sized n null = all n (known_inside nullable n ((exact n).1 null)) ((exact n).1 null)

  pub too_large : (n : ℕ) → length nullable ≡ g.names → AllProductive g → AllReachable g → IsLeastUnsized nullable sizes n → IsLeastTooLarge g n
  too_large n count productive reachable least = record {
    productive = productive;
    reachable = reachable;
    name = subst (λ k. n < k) count least.name;
    large = record {
      nullable = (exact n).0 least.vanishing;
      large = λ k gone. (let more = unsized_above g 1001 (size_in sizes) table n k (no_size (get_or sizes n 0) least.unsized) gone in omega arith);
    };
    least = λ m less large.
        let some = size_some sizes m (least.least m less ((exact m).1 large.nullable)) in
        let small = table.below m (get_or sizes m 0) some in
        let big = large.large (get_or sizes m 0) (table.sound m (get_or sizes m 0) some).some in
        omega arith;
  }

pub small_all : (g : Grammar) (sizes : List ℕ) → AreSizes g sizes → AllEmptySmall g
small_all g sizes are n inside large =
    let some = size_some sizes n (ltb-true 0 (get_or sizes n 0) ((are.nullable n).1 large.nullable)) in
    let small = are.small n (get_or sizes n 0) some in
    let big = large.large (get_or sizes n 0) ((are.size n (get_or sizes n 0)).0 some).some in
    omega arith

pub facts_of : (g : Grammar) (sets : List (List ℕ)) (sizes : List ℕ) → AreSizes g sizes → length sets ≡ g.names → All IsTokenSet sets
    → ((n a : ℕ) → IsTrue (has_token (set_at sets n) a) ↔ FirstHas g n a) → AreFirsts g (record { sets = sets; sizes = sizes })
facts_of g sets sizes are count all tokens = record {
  names = are.count;
  nullable = are.nullable;
  first = tokens;
  size = are.size;
  small = are.small;
  sets = λ n less. all n [] (omega arith);
}

-- ---- least names

pub all_known : (P : ℕ → Type 0) (known : List Bool) (names : ℕ) → ((n : ℕ) → IsTrue (is_known known n) ↔ P n) → length known ≡ names → AreKnownBelow known (length known) → (n : ℕ) → n < names → P n
all_known P known names exact count all n less = (exact n).0 (all n (omega arith))

pub below_known : (P : ℕ → Type 0) (known : List Bool) (bound : ℕ) → ((n : ℕ) → IsTrue (is_known known n) ↔ P n) → AreKnownBelow known bound → (n : ℕ) → n < bound → P n
below_known P known bound exact all n less = (exact n).0 (all n less)

pub none_known : (P : ℕ → Type 0) (known : List Bool) (n : ℕ) → ((n : ℕ) → IsTrue (is_known known n) ↔ P n) → is_known known n ≡ false → ¬ (P n)
none_known P known n exact unknown p = true_is ((exact n).1 p) unknown
