-- The laws on derivations and trees, as they are stated.
use Rattle.std.proofs.Common.{◌≡◌, ℕ, ◌<◌, List, [], ◌∷◌, ◌++◌, refl, sym, ◌∙◌, subst, lt_irrefl, append-nil}
use Rattle.std.proofs.lemmas.List.Elements.{All-contains, Contains-append_right}
use Rattle.grammar_data.specs.declared.rule.Sym.{Sym}
use Rattle.grammar_data.specs.declared.rule.Sym.TheVariants.{Name}
use Rattle.grammar_data.specs.declared.token.Token.{Token as TextToken}
use Rattle.grammar_data.specs.Grammar.{Rule, Grammar}
use Rattle.grammar_theory.specs.Rules.{IsInRange, word, end_mark}
use Rattle.grammar_theory.specs.Derivations.{Derives, IsSentence, GoesOn, goes_on, ends, AppendLaw, SplitLaw, FoldLaw, MoreRulesLaw, WordLaw, StepsLaw, TokensLaw, EndLaw}
use Rattle.grammar_theory.specs.Trees.{Tree, Forest, yield, yields, ids_of, IsTree, AreTrees, no_tree, tree_first, TreesLaw, TreeLaw, SentenceLaw}
use Rattle.grammar_theory.proofs.DerivationLemmas.{Halves, halves, derives_append, derives_split, derives_fold, derives_more, derives_word, derives_word_alone, rule_kept}
use Rattle.grammar_theory.proofs.StepLemmas.{derives_steps, steps_back, derives_tokens_below}
use Rattle.grammar_theory.proofs.TreeLemmas.{Yielding, yielding, derives_yields, trees_of_derivation}
use Rattle.grammar_theory.proofs.UsefulLemmas.{contains_first}

pub append_law : AppendLaw
append_law rules xs ys u v d e = derives_append d e

split_parts : {rules : List Rule} {xs ys : List Sym} {w : List ℕ} → Halves rules xs ys w → (u : List ℕ) × (v : List ℕ) × Derives rules xs u × Derives rules ys v × (w ≡ u ++ v)
split_parts (halves {u = u} {v = v} d e at) = (u, v, d, e, at)

pub split_law : SplitLaw
split_law rules xs ys w d = split_parts (derives_split xs ys d)

pub fold_law : FoldLaw
fold_law rules r n right before after w rule d = derives_fold before after rule d

pub more_rules_law : MoreRulesLaw
more_rules_law rules more xs w d = derives_more (λ r n right rule. rule_kept rules more rule) d

pub word_law : WordLaw
word_law rules w v = (λ d. derives_word_alone w d, λ e. subst (λ l. Derives rules (word w) l) (sym e) (derives_word w))

pub steps_law : StepsLaw
steps_law rules xs w = (λ d. derives_steps d, λ s. steps_back s (derives_word w))

pub tokens_law : TokensLaw
tokens_law g range xs w below d = derives_tokens_below g range below d

-- a token with which a list goes on is one of the grammar
pub goes_on_below : (g : Grammar) → IsInRange g → (u v : List ℕ) (a : ℕ) → IsSentence g (u ++ a ∷ v) → a < g.tokens
goes_on_below g range u v a d = All-contains (λ b. b < g.tokens) (u ++ a ∷ v) a (derives_tokens_below g range tt d) (Contains-append_right u (a ∷ v) a (contains_first a v))

sentence_at_end : (g : Grammar) → IsInRange g → (u : List ℕ) (a : ℕ) → a ≡ end_mark g → GoesOn g u a → IsSentence g u
sentence_at_end g range u a e (goes_on v d) = absurd (lt_irrefl g.tokens (subst (λ b. b < g.tokens) e (goes_on_below g range u v a d)))
sentence_at_end g range u a e (ends at d) = d

pub end_law : EndLaw
end_law g range u = (λ goes. sentence_at_end g range u (end_mark g) refl goes, λ d. ends refl d)

trees_parts : {rules : List Rule} {xs : List Sym} {tokens : List TextToken} → Yielding rules xs tokens → (trees : Forest) × AreTrees rules xs trees × (yields trees ≡ tokens)
trees_parts (yielding {trees = trees} are at) = (trees, are, at)

trees_derive : {rules : List Rule} {xs : List Sym} {trees : Forest} {tokens : List TextToken} → AreTrees rules xs trees → yields trees ≡ tokens → Derives rules xs (ids_of tokens)
trees_derive {rules} {xs} are at = subst (λ l. Derives rules xs (ids_of l)) at (derives_yields are)

pub trees_law : TreesLaw
trees_law rules xs tokens = (λ d. trees_parts (trees_of_derivation d tokens refl), λ t. trees_derive t.1 t.2)

-- the only tree of a list of one
only_tree : {rules : List Rule} {x : Sym} {xs : List Sym} {trees : Forest} {tokens : List TextToken} → xs ≡ [] → AreTrees rules (x ∷ xs) trees → yields trees ≡ tokens → (tree : Tree) × IsTree rules x tree × (yield tree ≡ tokens)
only_tree e (tree_first {tree = tree} is no_tree) at = (tree, is, sym (append-nil (yield tree)) ∙ at)
only_tree e (tree_first is (tree_first other others)) at = absurd (cc)

tree_parts : {rules : List Rule} {x : Sym} {tokens : List TextToken} → Yielding rules (x ∷ []) tokens → (tree : Tree) × IsTree rules x tree × (yield tree ≡ tokens)
tree_parts (yielding are at) = only_tree refl are at

pub tree_law : TreeLaw
tree_law rules x tokens = (λ d. tree_parts (trees_of_derivation d tokens refl), λ t. trees_derive (tree_first t.1 no_tree) (append-nil (yield t.0) ∙ t.2))

pub sentence_law : SentenceLaw
sentence_law g tokens = tree_law g.rules (Name g.start) tokens
