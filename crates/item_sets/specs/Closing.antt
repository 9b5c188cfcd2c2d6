-- How a closure is found: name by name the lookaheads with which the rules of the name stand with the dot in front, and
-- a list of the names whose lookaheads grew since their rules were last looked at.
use Rattle.std.specs.Prelude.{◌≡◌, ℕ, zero, suc, ◌+◌, ◌*◌, ◌<◌, ◌≤◌, ◌⊎◌, Bool, ◌||◌, ◌&&◌, true, false, IsTrue, List, [], ◌∷◌, ◌++◌, length, slice_index_or, sum_by, All, Contains}
use Rattle.grammar_data.specs.declared.rule.Sym.{Sym}
use Rattle.grammar_data.specs.declared.rule.Sym.TheVariants.{Token, Name}
use Rattle.grammar_data.specs.Grammar.{Grammar}
use Rattle.grammar_data.specs.TokenSet.{IsTokenSet, has_token}
use Rattle.grammar_theory.specs.Rules.{IsRule, IsInRange}
use Rattle.grammar_theory.specs.UsefulNames.{AllProductive}
use Rattle.grammar_theory.specs.FirstTokens.{IsFound}
use Rattle.item_theory.specs.Items.{Item, Dotted}
use Rattle.item_theory.specs.Chains.{Closure}
use Rattle.lr_base.specs.declared.limits.TheConstants.{NAMES, SIDE_SYMBOLS, TOKENS}
use Rattle.collection_data.specs.declared.entry.Entry.{Entry}
use Rattle.item_sets.specs.declared.spot.Spot.{Spot}
use Rattle.collection_data.specs.Entries.{entries_have}
use Rattle.item_sets.specs.Spots.{IsTable}

-- the rules of the name stand with this lookahead
abbrev pub ahead_in : List (List ℕ) → ℕ → ℕ → Bool
ahead_in aheads n a = has_token (slice_index_or aheads n []) a

-- the lookahead is found behind the spot's symbol, or passed on from the lookaheads behind
abbrev pub carries : Spot → List ℕ → ℕ → Bool
carries spot from b = has_token spot.first b || (spot.passes && has_token from b)

-- what is found of a closure: name by name the lookaheads, and the names that wait
pub record PartClosure : Type 0 where
  pub aheads : List (List ℕ)
  pub work : List ℕ

-- nothing is found yet of so many names
pub record IsUnopened (names : ℕ) (c : PartClosure) : Type 0 where
  pub count : length c.aheads ≡ names
  pub none : (n a : ℕ) → ahead_in c.aheads n a ≡ false
  pub work : c.work ≡ []

-- the lookaheads are sets, the waiting names are in range, and each marked name waits
pub record IsMarked (aheads : List (List ℕ)) (work : List ℕ) (waits : List Bool) : Type 0 where
  pub sets : All IsTokenSet aheads
  pub count : length waits ≡ length aheads
  pub within : (n : ℕ) → Contains work n → n < length aheads
  pub waiting : (n : ℕ) → IsTrue (slice_index_or waits n false) → Contains work n

-- the last of the waiting names waits no more
pub record IsNext (n : ℕ) (old new : PartClosure) : Type 0 where
  pub aheads : new.aheads ≡ old.aheads
  pub work : old.work ≡ new.work ++ n ∷ []

-- 1 for a token that is lacking
abbrev pub lack : Bool → ℕ
lack true = 0
lack false = 1

-- how many of the first tokens the set has not
abbrev pub absent : ℕ → List ℕ → ℕ
absent zero tokens = 0
absent (suc n) tokens = absent n tokens + lack (has_token tokens n)

-- how many tokens the sets have not, in all
unfoldable pub missing : List (List ℕ) → ℕ
missing aheads = sum_by (λ tokens. absent 256 tokens) aheads

-- names below the bound; tokens don't matter
abbrev pub IsNameWithin : ℕ → Sym → Type 0
IsNameWithin bound (Token a) = Unit {0}
IsNameWithin bound (Name n) = n < bound

-- no lookahead is lost; a name whose lookaheads grew is in the later list, as is each of the earlier one
pub record IsGrown (old : List (List ℕ)) (work : List ℕ) (new : List (List ℕ)) (later : List ℕ) : Type 0 where
  pub count : length new ≡ length old
  pub kept : (n a : ℕ) → IsTrue (ahead_in old n a) → IsTrue (ahead_in new n a)
  pub noted : (n : ℕ) → Contains later n ⊎ (slice_index_or new n [] ≡ slice_index_or old n [])
  pub works : (n : ℕ) → Contains work n → Contains later n
  pub waiting : (n : ℕ) → Contains later n → Contains work n ⊎ ((n < length new) × (a : ℕ) × IsTrue (ahead_in new n a))
  pub less : 2 * missing new + length later ≤ 2 * missing old + length work

-- the names at the spots got the lookaheads that these carry, and nothing else was added
pub record IsRowOpened (spots : List Spot) (from : List ℕ) (old : List (List ℕ)) (work : List ℕ) (new : List (List ℕ)) (later : List ℕ) : Type 0 where
  pub grown : IsGrown old work new later
  pub has : (spot : Spot) (m b : ℕ) → Contains spots spot → spot.symbol ≡ Name m → IsTrue (carries spot from b) → IsTrue (ahead_in new m b)
  pub only : (m b : ℕ) → IsTrue (ahead_in new m b) → IsTrue (ahead_in old m b) ⊎ ((spot : Spot) × Contains spots spot × (spot.symbol ≡ Name m) × IsTrue (carries spot from b))

-- the name got the lookaheads, and nothing else was added
pub record IsAdded (n : ℕ) (tokens : List ℕ) (old : List (List ℕ)) (work : List ℕ) (new : List (List ℕ)) (later : List ℕ) : Type 0 where
  pub grown : IsGrown old work new later
  pub has : (b : ℕ) → IsTrue (has_token tokens b) → IsTrue (ahead_in new n b)
  pub only : (m b : ℕ) → IsTrue (ahead_in new m b) → IsTrue (ahead_in old m b) ⊎ ((m ≡ n) × IsTrue (has_token tokens b))

-- what the table's makers know of the grammar
pub record IsSetting (g : Grammar) (rows fronts : List (List Spot)) : Type 0 where
  pub range : IsInRange g
  pub productive : AllProductive g
  pub table : IsTable g rows fronts
  pub few : g.tokens + g.names ≤ TOKENS + NAMES
  pub few_tokens : g.tokens < 256
  pub short : All (λ row. length row ≤ SIDE_SYMBOLS) rows
  pub columns : All (λ row. All (λ (spot : Spot). spot.column < g.tokens + g.names) row) rows

-- the item has its dot before a name, and opens the rules of that name with this lookahead
pub record Calls (g : Grammar) (i : Item) (m b : ℕ) : Type 0 where
  pub name : ℕ
  pub before : List Sym
  pub after : List Sym
  pub dotted : Dotted g i name before (Name m ∷ after)
  pub found : IsFound g after i.ahead b

-- the rules of the name were looked at with all its lookaheads
abbrev pub IsSettled : Grammar → List (List ℕ) → ℕ → Type 0
IsSettled g aheads n = (r a m b : ℕ) (right : List Sym) → IsRule g.rules r n right → IsTrue (ahead_in aheads n a) → Calls g (record { rule = r; dot = 0; ahead = a }) m b → IsTrue (ahead_in aheads m b)

-- the closure of the given entries is being found: what was opened is in it, some of the entries were looked at, and
-- each name was looked at with all its lookaheads or is in the list
pub record IsClosing (g : Grammar) (given seeded : List Entry) (aheads : List (List ℕ)) (work : List ℕ) : Type 0 where
  pub count : length aheads ≡ g.names
  pub sound : (n : ℕ) (j : Item) (right : List Sym) → IsTrue (ahead_in aheads n j.ahead) → IsRule g.rules j.rule n right → j.dot ≡ 0 → Closure g (λ i. IsTrue (entries_have given i)) j
  pub settled : (n : ℕ) → Contains work n ⊎ IsSettled g aheads n
  pub waiting : (n : ℕ) → Contains work n → (n < g.names) × (a : ℕ) × IsTrue (ahead_in aheads n a)
  pub seeds : (i : Item) (m b : ℕ) → IsTrue (entries_have seeded i) → Calls g i m b → IsTrue (ahead_in aheads m b)

-- the item has its dot in front of a rule that stands with the item's lookahead
pub record IsOpenedItem (g : Grammar) (aheads : List (List ℕ)) (i : Item) : Type 0 where
  pub name : ℕ
  pub right : List Sym
  pub rule : IsRule g.rules i.rule name right
  pub front : i.dot ≡ 0
  pub has : IsTrue (ahead_in aheads name i.ahead)
