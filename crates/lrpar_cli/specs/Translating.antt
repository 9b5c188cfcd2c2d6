-- The tree of a text, and why a text has none.
use Rattle.std.specs.Prelude.{◌≡◌, ℕ, max, List, [], length, Option, Some, None}
use Rattle.node_data.specs.declared.kid.Kid.TheVariants.{Node as NodeKid}
use Rattle.grammar_data.specs.declared.token.Token.{Token as TextToken}
use Rattle.grammar_theory.specs.Trees.{Tree}
use Rattle.table_data.specs.Tables.{Tables}
use Rattle.tree_theory.specs.Stores.{Ref, Shows}
use Rattle.node_store.specs.Chunks.{store_of}
use Rattle.sheet_data.specs.Sheet.{Sheet}
use Rattle.run_theory.specs.RunAnswers.{Refused, IsTreeOf}
use Rattle.tally_theory.specs.declared.asked.Asked.{Asked}
use Rattle.tally_theory.specs.Asked.{IsAnswerTo}
use Rattle.answer_theory.specs.declared.status.Status.TheVariants.{TextRefused}
use Rattle.lrpar_cli.specs.declared.translating.TextTree.{TextTree}
use Rattle.lrpar_cli.specs.declared.stop.Stop.{Stop}
use Rattle.lrpar_cli.specs.declared.stop.Stop.TheVariants.{Due, Unread, Unwritten, Spent}

-- the root shows a tree of the text
pub record HasTextTree (sheet : Sheet) (text : List ℕ) (found : TextTree) : Type 0 where
  pub tree : Tree
  pub of_text : IsTreeOf sheet text tree
  pub shown : (n : Ref) (i : ℕ) → Shows (store_of found.store) [] n i (NodeKid found.root) tree

-- why a text has no tree: it is refused, whatever is asked for, and this is said of it; or memory ran out
abbrev pub IsTextStop : Sheet → List ℕ → Stop → Type 0
IsTextStop sheet text (Due status said) = (status ≡ TextRefused) × ((asked : Asked) → IsAnswerTo sheet text asked (Refused said))
IsTextStop sheet text Unread = ⊥
IsTextStop sheet text Unwritten = ⊥
IsTextStop sheet text Spent = Unit {0}

-- the line of a token of a text whose lines begin so; that of its end is its last line, or 1 where it has none
abbrev pub line_in : List ℕ → Option TextToken → ℕ
line_in starts None = max 1 (length starts)
line_in starts (Some token) = token.place.line

-- the number of a token; that of the end is the end mark's
abbrev pub id_in : Tables → Option TextToken → ℕ
id_in t None = t.tokens
id_in t (Some token) = token.id
