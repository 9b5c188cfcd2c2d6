-- What a parse answers, for a grammar for which the tables are lawful.
-- Source: Knuth, On the Translation of Languages from Left to Right, 1965; Aho and Ullman, The Theory of Parsing,
-- Translation, and Compiling, volume 1, section 5.2.
use Rattle.std.specs.Prelude.{◌≡◌, ◌≢◌, ℕ, ◌+◌, ◌*◌, ◌<◌, ◌≤◌, List, [], ◌∷◌, All, length, slice_get, Option}
use Rattle.grammar_data.specs.declared.rule.Sym.TheVariants.{Name}
use Rattle.grammar_data.specs.declared.token.Token.{Token as TextToken}
use Rattle.grammar_data.specs.Grammar.{Grammar}
use Rattle.grammar_theory.specs.Trees.{Tree, IsTree, yield, nodes, ids_of}
use Rattle.next_theory.specs.GoingOn.{token_at}
use Rattle.node_bounds.specs.NodeBounds.{AreBounds}
use Rattle.node_data.specs.declared.kid.Kid.TheVariants.{Node as NodeKid}
use Rattle.node_store.specs.Chunks.{Chunk, node_count_in, numbers_in, store_of}
use Rattle.parse_theory.specs.Parses.{IsWrongIn}
use Rattle.table_data.specs.Tables.{Tables}
use Rattle.tree_theory.specs.Stores.{Ref, Shows}
use Rattle.plain_parse.specs.declared.run.Run.{Run}
use Rattle.plain_parse.specs.declared.parsed.Parsed.{Parsed}
use Rattle.plain_parse.specs.declared.parsed.Parsed.TheVariants.{Tree as IsTreeAnswer, Wrong}

-- the tokens of a text: tokens of the grammar and the bad byte, but not the end mark
abbrev pub AreTextTokens : Tables → List TextToken → Type 0
AreTextTokens t tokens = All (λ (token : TextToken). (token.id ≤ t.tokens + 1) × (token.id ≢ t.tokens)) tokens

-- the root shows, with nothing supplied, a tree of the start that yields the tokens; the store has chunk 0 and no other, and
-- in it the nodes of this tree alone, which are bounded by the grammar and the number of tokens
pub record IsTreeOf (g : Grammar) (tokens : List TextToken) (root : Ref) (store : List Chunk) : Type 0 where
  pub tree : Tree
  pub shown : (n : Ref) (i : ℕ) → Shows (store_of store) [] n i (NodeKid root) tree
  pub is_tree : IsTree g.rules (Name g.start) tree
  pub yields : yield tree ≡ tokens
  pub chunks : numbers_in store ≡ 0 ∷ []
  pub count : node_count_in store ≡ nodes tree
  pub bound : (longest largest : ℕ) → AreBounds g longest largest → node_count_in store ≤ 2 * g.names * (1 + longest * largest) * (length tokens + 1)

-- the index is the first wrong place of the tokens, the token is the one there, none where that is the end, and the state
-- expects exactly the tokens with which those before the place go on
pub record IsWrongOf (g : Grammar) (t : Tables) (tokens : List TextToken) (index : ℕ) (token : Option TextToken) (state : ℕ) : Type 0 where
  pub token_there : token ≡ slice_get tokens index
  pub wrong : IsWrongIn g t (ids_of tokens) index (token_at g (ids_of tokens) index) state
  pub is_state : state < t.states

abbrev pub IsParsed : Grammar → Tables → List TextToken → Parsed → Type 0
IsParsed g t tokens (IsTreeAnswer root store) = IsTreeOf g tokens root store
IsParsed g t tokens (Wrong index token state) = IsWrongOf g t tokens index token state

-- the answer is a tree
abbrev pub HasTree : Parsed → Type 0
HasTree (IsTreeAnswer root store) = Unit {0}
HasTree (Wrong index token state) = ⊥

-- the answer of a parse with one kid left, which is a node
abbrev pub IsFinish : Run → Parsed → Type 0
IsFinish run parsed = (root : Ref) → run.kids.items ≡ NodeKid root ∷ [] → parsed ≡ IsTreeAnswer root run.store
