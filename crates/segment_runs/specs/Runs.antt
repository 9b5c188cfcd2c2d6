-- What a parse of a text in segments comes to, for a grammar for which the tables are lawful: what one parse from left to right
-- comes to, but that the nodes of the tree stand where the segments and the joins have made them.
-- Source: Knuth, On the Translation of Languages from Left to Right, 1965; parsing in segments after Fischer, On Parsing
-- Context Free Languages in Parallel Environments, 1975, and Mickunas and Schell, Parallel Compilation in a Multiprocessor
-- Environment, 1978.
use Rattle.std.specs.Prelude.{◌≡◌, ◌↔◌, ℕ, List, [], length}
use Rattle.grammar_data.specs.declared.rule.Sym.TheVariants.{Name}
use Rattle.grammar_data.specs.declared.token.Token.{Token as TextToken}
use Rattle.grammar_data.specs.Grammar.{Grammar}
use Rattle.grammar_theory.specs.Derivations.{IsSentence}
use Rattle.grammar_theory.specs.Trees.{Tree, IsTree, yield, ids_of}
use Rattle.pattern_data.specs.declared.pattern.Pattern.{Pattern}
use Rattle.node_data.specs.declared.kid.Kid.TheVariants.{Node as NodeKid}
use Rattle.tree_theory.specs.Stores.{Ref, Shows}
use Rattle.tree_theory.specs.Walks.{Step, Walks}
use Rattle.table_data.specs.Tables.{Tables}
use Rattle.token_patterns.specs.Scanner.{IsScannerOf}
use Rattle.cutting_theory.specs.Cuttings.{AreTokensOfSegments}
use Rattle.lawful_theory.specs.Lawful.{IsLawfulFor}
use Rattle.part_laws.specs.InAll.{HavePartsInAll}
use Rattle.use_theory.specs.Distinct.{IsDistinct}
use Rattle.node_store.specs.Chunks.{Chunk, store_of}
use Rattle.plain_parse.specs.Parses.{IsWrongOf, HasTree}
use Rattle.plain_parse.specs.declared.parsed.Parsed.{Parsed}
use Rattle.plain_parse.specs.declared.parsed.Parsed.TheVariants.{Tree as IsTreeAnswer, Wrong}
use Rattle.range_theory.specs.Ranges.{all_of}
use Rattle.segment_counts.specs.declared.job.Job.{Job}
use Rattle.segment_counts.specs.Ranges.{scanning_in}
use Rattle.segment_runs.specs.declared.run.SegmentRun.{SegmentRun}

-- the root shows, with nothing supplied, a tree of the start that yields the tokens, and each node of the store stands
-- exactly once in it
pub record IsTreeIn (g : Grammar) (tokens : List TextToken) (root : Ref) (store : List Chunk) : Type 0 where
  pub tree : Tree
  pub shown : (n : Ref) (i : ℕ) → Shows (store_of store) [] n i (NodeKid root) tree
  pub is_tree : IsTree g.rules (Name g.start) tree
  pub yields : yield tree ≡ tokens
  pub steps : List Step
  pub walk : (n : Ref) (i : ℕ) → Walks (store_of store) n i (NodeKid root) steps
  pub each_once : IsDistinct (store_of store) [] steps

-- such a tree, or the first wrong place as one parse from left to right tells it
abbrev pub IsParsedIn : Grammar → Tables → List TextToken → Parsed → Type 0
IsParsedIn g t tokens (IsTreeAnswer root store) = IsTreeIn g tokens root store
IsParsedIn g t tokens (Wrong index token state) = IsWrongOf g t tokens index token state

-- the run of a job: the tokens of its segments, what the parse of them all comes to, a tree exactly where they are a
-- sentence, and their numbers of tokens and of parts
pub record IsRunOf (job : Job) (run : SegmentRun) : Type 0 where
  pub lists : List (List TextToken)
  pub are : (patterns : List Pattern) → IsScannerOf job.scanner.now patterns → AreTokensOfSegments (scanning_in job patterns) job.text.now job.cutting.now lists
  pub parsed : (g : Grammar) → IsLawfulFor g job.tables.now → IsParsedIn g job.tables.now (all_of lists) run.parsed
  pub tree : (g : Grammar) → IsLawfulFor g job.tables.now → HasTree run.parsed ↔ IsSentence g (ids_of (all_of lists))
  pub tokens : run.tokens ≡ length (all_of lists)
  pub pieces : HavePartsInAll job.tables.now lists run.pieces
