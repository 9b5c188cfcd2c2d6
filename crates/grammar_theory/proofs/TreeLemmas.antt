-- Trees yield what their symbols derive, and each token list that symbols derive is the yield of trees.
use Rattle.std.proofs.Common.{◌≡◌, ℕ, List, [], ◌∷◌, ◌++◌, refl, sym, ap, ◌∙◌, subst}
use Rattle.std.proofs.lemmas.List.{map-append}
use Rattle.grammar_data.specs.declared.rule.Sym.{Sym}
use Rattle.grammar_data.specs.declared.rule.Sym.TheVariants.{Token, Name}
use Rattle.grammar_data.specs.declared.token.Token.{Token as TextToken}
use Rattle.grammar_data.specs.Grammar.{Rule}
use Rattle.grammar_theory.specs.Rules.{IsRule}
use Rattle.grammar_theory.specs.Derivations.{Derives, done, token_first, name_first}
use Rattle.grammar_theory.specs.Trees.{Forest, yields, ids_of, token_tree, node_tree, AreTrees, no_tree, tree_first}

pub ids_of-append : (front back : List TextToken) → ids_of (front ++ back) ≡ ids_of front ++ ids_of back
ids_of-append front back = map-append (λ token. token.id) front back

-- trees of the symbols yield a list that the symbols derive
pub derives_yields : {rules : List Rule} {xs : List Sym} {trees : Forest} → AreTrees rules xs trees → Derives rules xs (ids_of (yields trees))
derives_yields no_tree = done
derives_yields {rules} (tree_first {xs = xs} {trees = trees} (token_tree {token = token} e) rest) =
    subst (λ a. Derives rules (Token a ∷ xs) (token.id ∷ ids_of (yields trees))) e (token_first (derives_yields rest))
derives_yields (tree_first {trees = trees} (node_tree {kids = kids} rule inner) rest) =
    name_first rule (derives_yields inner) (derives_yields rest) (ids_of-append (yields kids) (yields trees))

-- a token list parted as its numbers are
pub data Parted (tokens : List TextToken) (u v : List ℕ) : Type 0 where
  parted : (front back : List TextToken) → tokens ≡ front ++ back → u ≡ ids_of front → v ≡ ids_of back → Parted tokens u v

parted_more : {tokens : List TextToken} {u v : List ℕ} (token : TextToken) (a : ℕ) → a ≡ token.id → Parted tokens u v → Parted (token ∷ tokens) (a ∷ u) v
parted_more token a e (parted front back at left right) = parted (token ∷ front) back (ap (λ l. token ∷ l) at) (cc) right

pub part_ids : (u v : List ℕ) (tokens : List TextToken) → u ++ v ≡ ids_of tokens → Parted tokens u v
part_ids [] v tokens e = parted [] tokens refl refl e
part_ids (a ∷ u) v [] e = absurd (cc)
part_ids (a ∷ u) v (token ∷ tokens) e = parted_more token a (cc) (part_ids u v tokens (cc))

-- trees of the symbols that yield this token list
pub data Yielding (rules : List Rule) (xs : List Sym) (tokens : List TextToken) : Type 0 where
  yielding : {trees : Forest} → AreTrees rules xs trees → yields trees ≡ tokens → Yielding rules xs tokens

yielding_token : {rules : List Rule} {a : ℕ} {xs : List Sym} {token : TextToken} {tokens : List TextToken} → token.id ≡ a → Yielding rules xs tokens → Yielding rules (Token a ∷ xs) (token ∷ tokens)
yielding_token {token = token} e (yielding are at) = yielding (tree_first (token_tree e) are) (ap (λ l. token ∷ l) at)

yielding_node : {rules : List Rule} {n r : ℕ} {right xs : List Sym} {front back tokens : List TextToken} → IsRule rules r n right → Yielding rules right front → Yielding rules xs back → tokens ≡ front ++ back → Yielding rules (Name n ∷ xs) tokens
yielding_node rule (yielding kids inner) (yielding are rest) at = yielding (tree_first (node_tree rule kids) are) (cc)

yielding_parts : {rules : List Rule} {n r : ℕ} {right xs : List Sym} {u v : List ℕ} {tokens : List TextToken} → IsRule rules r n right → ((front : List TextToken) → u ≡ ids_of front → Yielding rules right front) → ((back : List TextToken) → v ≡ ids_of back → Yielding rules xs back) → Parted tokens u v → Yielding rules (Name n ∷ xs) tokens
yielding_parts rule inner rest (parted front back here left right) = yielding_node rule (inner front left) (rest back right) here

pub trees_of_derivation : {rules : List Rule} {xs : List Sym} {w : List ℕ} → Derives rules xs w → (tokens : List TextToken) → w ≡ ids_of tokens → Yielding rules xs tokens
trees_of_derivation done [] e = yielding no_tree refl
trees_of_derivation done (token ∷ tokens) e = absurd (cc)
trees_of_derivation (token_first d) [] e = absurd (cc)
trees_of_derivation (token_first d) (token ∷ tokens) e = yielding_token (cc) (trees_of_derivation d tokens (cc))
trees_of_derivation (name_first {u = u} {v = v} rule d rest at) tokens e =
    yielding_parts rule (trees_of_derivation d) (trees_of_derivation rest) (part_ids u v tokens (sym at ∙ e))
