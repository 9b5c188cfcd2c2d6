-- Spots: what stands behind a dot. It is the symbol there, and of the symbols behind that one the first tokens, and
-- whether all of them are nullable names.
use Rattle.std.specs.Prelude.{◌≡◌, ℕ, ◌<◌, ◌↔◌, Bool, IsTrue, List, [], ◌∷◌, length, slice_get, slice_index_or, drop, Some, All, Contains}
use Rattle.grammar_data.specs.declared.rule.Sym.{Sym}
use Rattle.grammar_data.specs.declared.rule.Sym.TheVariants.{Name}
use Rattle.grammar_data.specs.Grammar.{Grammar}
use Rattle.grammar_data.specs.TokenSet.{IsTokenSet, has_token}
use Rattle.grammar_theory.specs.Rules.{IsRule, OnlyNames}
use Rattle.grammar_theory.specs.EmptyNames.{IsNullable}
use Rattle.grammar_theory.specs.FirstTokens.{IsFirst, IsFirstBy}
use Rattle.first_sets.specs.NameFacts.{NameFacts, first_set_in, nullable_in}
use Rattle.item_theory.specs.Items.{all_rules}
use Rattle.collection_data.specs.Collection.{column_of}
use Rattle.item_sets.specs.declared.spot.Spot.{Spot}

-- the set has the tokens that are first in the symbols, by what is known of the names, and the mark says whether all of
-- the symbols are nullable names
pub record IsRestBy (facts : NameFacts) (symbols : List Sym) (tokens : List ℕ) (mark : Bool) : Type 0 where
  pub first : (b : ℕ) → IsTrue (has_token tokens b) ↔ IsFirstBy (λ n a. IsTrue (has_token (first_set_in facts n) a)) (λ n. IsTrue (nullable_in facts n)) symbols b
  pub passes : IsTrue mark ↔ OnlyNames (λ n. IsTrue (nullable_in facts n)) symbols

-- the same by what the names derive
pub record IsRest (g : Grammar) (symbols : List Sym) (tokens : List ℕ) (mark : Bool) : Type 0 where
  pub first : (b : ℕ) → IsTrue (has_token tokens b) ↔ IsFirst g symbols b
  pub passes : IsTrue mark ↔ OnlyNames (IsNullable g) symbols

-- the spot is that of the dot in the right side
pub record IsSpotAt (g : Grammar) (right : List Sym) (dot : ℕ) (spot : Spot) : Type 0 where
  pub after : List Sym
  pub behind : drop dot right ≡ spot.symbol ∷ after
  pub column : column_of g.tokens g.names spot.symbol ≡ Some spot.column
  pub rest : IsRest g after spot.first spot.passes
  pub set : IsTokenSet spot.first

-- the spots are those of all dots of the right side but the last, in their order
pub record AreSpots (g : Grammar) (right : List Sym) (spots : List Spot) : Type 0 where
  pub count : length spots ≡ length right
  pub each : (dot : ℕ) (spot : Spot) → slice_get spots dot ≡ Some spot → IsSpotAt g right dot spot

-- the spots of all rules, by their numbers, with those of the augmented rule last
pub record AreRuleSpots (g : Grammar) (rows : List (List Spot)) : Type 0 where
  pub count : length rows ≡ length (all_rules g)
  pub each : (r n : ℕ) (right : List Sym) → IsRule (all_rules g) r n right → AreSpots g right (slice_index_or rows r [])

-- the spot is that in front of a rule of the name, and the symbol there is a name
pub record IsFront (g : Grammar) (n : ℕ) (spot : Spot) : Type 0 where
  pub number : ℕ
  pub name : ℕ
  pub after : List Sym
  pub rule : IsRule g.rules number n (Name name ∷ after)
  pub front : IsSpotAt g (Name name ∷ after) 0 spot

-- the spots are those in front of the name's first rules, so many in all, with a name there
pub record AreFrontsBelow (g : Grammar) (limit n : ℕ) (spots : List Spot) : Type 0 where
  pub sound : All (IsFront g n) spots
  pub whole : (r m : ℕ) (after : List Sym) → r < limit → IsRule g.rules r n (Name m ∷ after) → (spot : Spot) × Contains spots spot × IsSpotAt g (Name m ∷ after) 0 spot

abbrev pub AreFronts : Grammar → ℕ → List Spot → Type 0
AreFronts g n spots = AreFrontsBelow g (length g.rules) n spots

-- the spots of all rules, and name by name those in front of its rules with a name there
pub record IsTable (g : Grammar) (rows fronts : List (List Spot)) : Type 0 where
  pub spots : AreRuleSpots g rows
  pub count : length fronts ≡ g.names
  pub each : (n : ℕ) → n < g.names → AreFronts g n (slice_index_or fronts n [])
