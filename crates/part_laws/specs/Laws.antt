-- Laws of the parts of a token list by the canonical tables of a grammar. No test of the definitions decides which lists of
-- moves are agreed; so that there is a number of parts is had as that it is refuted that there is none.
use Rattle.std.specs.Prelude.{ℕ, List}
use Rattle.grammar_data.specs.declared.token.Token.{Token as TextToken}
use Rattle.grammar_data.specs.Grammar.{Grammar}
use Rattle.grammar_theory.specs.Rules.{IsInRange}
use Rattle.grammar_theory.specs.UsefulNames.{AllProductive}
use Rattle.grammar_theory.specs.UselessNames.{AllReachable}
use Rattle.collection_data.specs.Collection.{CollectionParts, IsCollectionOf, has_item, state_count, step_in}
use Rattle.table_data.specs.Tables.{Tables}
use Rattle.table_theory.specs.Canonical.{AreCanonical}
use Rattle.lawful_theory.specs.Lawful.{IsLawfulFor}
use Rattle.part_theory.specs.Parts.{HasParts}
use Rattle.part_laws.specs.Alike.{AreAlike}

-- these are the canonical tables of a collection of the grammar
abbrev pub AreCanonicalOf : Grammar → CollectionParts → Tables → Type 0
AreCanonicalOf g c t = AreCanonical g (state_count c) (has_item c) (step_in c) t

-- two canonical tables of a grammar are alike
abbrev pub CanonicalAlikeLaw : Type 0
CanonicalAlikeLaw = (g : Grammar) (c d : CollectionParts) (t u : Tables) → IsCollectionOf g c → IsCollectionOf g d → AreCanonicalOf g c t → AreCanonicalOf g d u → AreAlike t u

-- by alike tables that are lawful a token list has the same numbers of parts
abbrev pub AlikePartsLaw : Type 0
AlikePartsLaw = (g : Grammar) (t u : Tables) → IsLawfulFor g t → IsLawfulFor g u → AreAlike t u → (w : List TextToken) (count : ℕ) → HasParts t w count → HasParts u w count

-- so it has the same by any two canonical tables of a grammar with useful names alone
abbrev pub CanonicalPartsLaw : Type 0
CanonicalPartsLaw = (g : Grammar) → IsInRange g → AllProductive g → AllReachable g → (c d : CollectionParts) (t u : Tables) → IsCollectionOf g c → IsCollectionOf g d → AreCanonicalOf g c t → AreCanonicalOf g d u → (w : List TextToken) (count : ℕ) → HasParts t w count → HasParts u w count

-- by lawful tables it is refuted that a token list has no number of parts
abbrev pub SomePartsLaw : Type 0
SomePartsLaw = (g : Grammar) (t : Tables) → IsLawfulFor g t → (w : List TextToken) → ((count : ℕ) → ¬ (HasParts t w count)) → ⊥
