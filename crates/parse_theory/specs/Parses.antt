-- One left-to-right parse by lawful tables: a whole run accepts exactly the sentences, with their one tree, and else errs
-- at the first wrong place, in a state whose actions other than errors are exactly those on the expected tokens.
-- Source: Knuth, On the Translation of Languages from Left to Right, 1965; Aho and Ullman, The Theory of Parsing,
-- Translation, and Compiling, volume 1, section 5.2.
use Rattle.std.specs.Prelude.{◌≡◌, ◌≢◌, ℕ, ◌+◌, ◌*◌, ◌<◌, ◌≤◌, ◌↔◌, ◌⊎◌, List, [], ◌∷◌, ◌++◌, All, length, take}
use Rattle.grammar_data.specs.declared.rule.Sym.TheVariants.{Name}
use Rattle.grammar_data.specs.declared.token.Token.{Token as TextToken}
use Rattle.grammar_data.specs.Grammar.{Grammar}
use Rattle.grammar_theory.specs.Derivations.{IsSentence, GoesOn}
use Rattle.grammar_theory.specs.Trees.{Tree, IsTree, yield, nodes, ids_of}
use Rattle.node_bounds.specs.NodeBounds.{IsOnly, AreBounds}
use Rattle.next_theory.specs.GoingOn.{token_at, IsWrongAt}
use Rattle.table_data.specs.declared.act.Act.TheVariants.{Error}
use Rattle.table_data.specs.Tables.{Tables, act_in}
use Rattle.machine_theory.specs.Machine.{Entry, top, Reaches, Accepts, Rejects}
use Rattle.lawful_theory.specs.Lawful.{IsLawfulFor}

-- a tree that a whole run accepts is one of the start, and yields the tokens
abbrev pub SoundLaw : Type 0
SoundLaw = (g : Grammar) (t : Tables) → IsLawfulFor g t → (tokens : List TextToken) (end : TextToken) (tree : Tree) → Accepts t tokens end tree → IsTree g.rules (Name g.start) tree × (yield tree ≡ tokens)

-- each tree of the start is accepted by the run over its tokens
abbrev pub CompleteLaw : Type 0
CompleteLaw = (g : Grammar) (t : Tables) → IsLawfulFor g t → (end : TextToken) (tree : Tree) → end.id ≡ t.tokens → IsTree g.rules (Name g.start) tree → Accepts t (yield tree) end tree

-- a sentence has one tree
abbrev pub OneTreeLaw : Type 0
OneTreeLaw = (g : Grammar) (t : Tables) → IsLawfulFor g t → (tree other : Tree) → IsTree g.rules (Name g.start) tree → IsTree g.rules (Name g.start) other → yield tree ≡ yield other → tree ≡ other

-- each tree of a name is the only one with its yield
abbrev pub OnlyTreesLaw : Type 0
OnlyTreesLaw = (g : Grammar) (t : Tables) → IsLawfulFor g t → (n : ℕ) (tree : Tree) → n < g.names → IsTree g.rules (Name n) tree → IsOnly g.rules (Name n) tree

-- so its inner nodes are bounded by the grammar and the number of its tokens
abbrev pub TreeBoundLaw : Type 0
TreeBoundLaw = (g : Grammar) (t : Tables) (longest largest : ℕ) → IsLawfulFor g t → AreBounds g longest largest → (n : ℕ) (tree : Tree) → n < g.names → IsTree g.rules (Name n) tree → nodes tree ≤ 2 * g.names * (1 + longest * largest) * (length (yield tree) + 1)

-- the tokens before each place go on with the token there, but all before the last one don't go on with it; they go on
-- with exactly those tokens on which the state does something
pub record IsFirstError (g : Grammar) (t : Tables) (before : List TextToken) (token : TextToken) (state : ℕ) : Type 0 where
  pub earlier : (front : List TextToken) (b : TextToken) (back : List TextToken) → before ≡ front ++ b ∷ back → GoesOn g (ids_of front) b.id
  pub wrong : ¬ (GoesOn g (ids_of before) token.id)
  pub expected : (a : ℕ) → (act_in t state a ≢ Error) ↔ GoesOn g (ids_of before) a

-- where a run from state 0 alone comes to an error, all tokens before it went on, and the error is the first
abbrev pub FirstErrorLaw : Type 0
FirstErrorLaw = (g : Grammar) (t : Tables) → IsLawfulFor g t → (before later : List TextToken) (token : TextToken) (stack : List Entry) → Reaches t 0 [] (before ++ token ∷ later) stack (token ∷ later) → act_in t (top 0 stack) token.id ≡ Error → IsFirstError g t before token (top 0 stack)

-- a whole run that errs does so at the first wrong place of the token list, on the token there, or on the end mark
-- behind the list, in a state whose actions other than errors are those on the expected tokens
pub record IsWrongIn (g : Grammar) (t : Tables) (w : List ℕ) (index : ℕ) (token : ℕ) (state : ℕ) : Type 0 where
  pub place : IsWrongAt g w index
  pub token_there : token ≡ token_at g w index
  pub expected : (a : ℕ) → (act_in t state a ≢ Error) ↔ GoesOn g (take index w) a

abbrev pub RejectLaw : Type 0
RejectLaw = (g : Grammar) (t : Tables) → IsLawfulFor g t → (tokens : List TextToken) (end : TextToken) (index : ℕ) (token : TextToken) (state : ℕ) → end.id ≡ t.tokens → Rejects t tokens end index token state → IsWrongIn g t (ids_of tokens) index token.id state

-- a whole run over tokens other than the end mark ends: it accepts or errs
abbrev pub WholeLaw : Type 0
WholeLaw = (g : Grammar) (t : Tables) → IsLawfulFor g t → (tokens : List TextToken) (end : TextToken) → All (λ (token : TextToken). token.id ≢ t.tokens) tokens → end.id ≡ t.tokens → ((tree : Tree) × Accepts t tokens end tree) ⊎ ((index : ℕ) × (token : TextToken) × (state : ℕ) × Rejects t tokens end index token state)

-- so a list of such tokens is a sentence, or has a first wrong place
abbrev pub SentenceOrWrongLaw : Type 0
SentenceOrWrongLaw = (g : Grammar) (t : Tables) → IsLawfulFor g t → (tokens : List TextToken) → All (λ (token : TextToken). token.id ≢ t.tokens) tokens → IsSentence g (ids_of tokens) ⊎ ((index : ℕ) × IsWrongAt g (ids_of tokens) index)
