-- Walks: there is one, and what it meets is the tree.
use Rattle.std.proofs.Common.{◌≡◌, ℕ, suc, ◌+◌, List, [], ◌∷◌, ◌++◌, Contains, Some, refl, sym, ap, ◌∙◌, subst, append-nil, arith}
use Rattle.grammar_theory.specs.Trees.{Tree, Node, Forest, FirstTree, yield, yields, nodes, nodes_of}
use Rattle.node_data.specs.declared.kid.Kid.{Kid}
use Rattle.node_data.specs.declared.kid.Kid.TheVariants.{Node as NodeKid}
use Rattle.tree_theory.specs.Stores.{Ref, Store, Shows, shows_token, shows_hidden, shows_node, ShowsAll, shows_none, shows_more}
use Rattle.tree_theory.specs.Walks.{Step, Enter, AtToken, AtHidden, Leave, Walks, walks_token, walks_hidden, walks_node, WalksAll, walks_none, walks_more, tokens_in, entered, OneWalkLaw, WalkLaw}
use Rattle.tree_theory.proofs.ShownLemmas.{some_pair}

-- ---- one walk

mutual
  one_walk : {store : Store} {n : Ref} {i : ℕ} {kid : Kid} {steps : List Step} → Walks store n i kid steps → {others : List Step} → Walks store n i kid others → steps ≡ others
  one_walk walks_token walks_token = refl
  one_walk walks_hidden walks_hidden = refl
  one_walk {store} (walks_node {m = m} kids at all to) (walks_node {inner = inner} kids1 there more too) =
      let same = some_pair (sym at ∙ there) in
      to ∙ ap (λ l. Enter m ∷ (l ++ Leave m ∷ [])) (all_walk all (subst (λ l. WalksAll store m 0 l inner) (sym same.1) more)) ∙ sym too

  all_walk : {store : Store} {n : Ref} {i : ℕ} {kids : List Kid} {steps : List Step} → WalksAll store n i kids steps → {others : List Step} → WalksAll store n i kids others → steps ≡ others
  all_walk walks_none walks_none = refl
  all_walk (walks_more {rest = rest} one all to) (walks_more {first = other} two more too) =
      to ∙ ap (λ l. l ++ rest) (one_walk one two) ∙ ap (λ l. other ++ l) (all_walk all more) ∙ sym too

pub one_walk_law : OneWalkLaw
one_walk_law store n i kid steps others first second = one_walk first second

-- ---- what a walk meets

tokens-append : (xs ys : List Step) → tokens_in (xs ++ ys) ≡ tokens_in xs ++ tokens_in ys
tokens-append [] ys = refl
tokens-append (Enter m ∷ xs) ys = tokens-append xs ys
tokens-append (AtToken token ∷ xs) ys = ap (λ l. token ∷ l) (tokens-append xs ys)
tokens-append (AtHidden n i ∷ xs) ys = tokens-append xs ys
tokens-append (Leave m ∷ xs) ys = tokens-append xs ys

entered-append : (xs ys : List Step) → entered (xs ++ ys) ≡ entered xs + entered ys
entered-append [] ys = omega arith
entered-append (Enter m ∷ xs) ys = let rest = entered-append xs ys in omega (arith, rest)
entered-append (AtToken token ∷ xs) ys = entered-append xs ys
entered-append (AtHidden n i ∷ xs) ys = entered-append xs ys
entered-append (Leave m ∷ xs) ys = entered-append xs ys

nothing_supplied : {n : Ref} {trees : List Tree} → Contains {X = Ref × List Tree} [] (n, trees) → ⊥
nothing_supplied (k, inside, at) = omega (arith, inside)

-- a walk that meets the tree
pub record IsWalked (store : Store) (n : Ref) (i : ℕ) (kid : Kid) (tree : Tree) : Type 0 where
  pub steps : List Step
  pub walks : Walks store n i kid steps
  pub tokens : tokens_in steps ≡ yield tree
  pub enters : entered steps ≡ nodes tree

pub record AreWalked (store : Store) (n : Ref) (i : ℕ) (kids : List Kid) (trees : Forest) : Type 0 where
  pub steps : List Step
  pub walks : WalksAll store n i kids steps
  pub tokens : tokens_in steps ≡ yields trees
  pub enters : entered steps ≡ nodes_of trees

walked_node : {store : Store} {n m : Ref} {i r : ℕ} {kids : List Kid} {trees : Forest} → store m ≡ Some (r, kids) → AreWalked store m 0 kids trees → IsWalked store n i (NodeKid m) (Node r trees)
walked_node {m = m} {kids = kids} at inner = record {
  steps = Enter m ∷ (inner.steps ++ Leave m ∷ []);
  walks = walks_node kids at inner.walks refl;
  tokens = tokens-append inner.steps (Leave m ∷ []) ∙ append-nil (tokens_in inner.steps) ∙ inner.tokens;
  enters = (let line = entered-append inner.steps (Leave m ∷ []) in let same = inner.enters in omega (arith, line, same));
}

walked_more : {store : Store} {n : Ref} {i : ℕ} {kid : Kid} {kids : List Kid} {tree : Tree} {trees : Forest} → IsWalked store n i kid tree → AreWalked store n (suc i) kids trees → AreWalked store n i (kid ∷ kids) (FirstTree tree trees)
walked_more {tree = tree} first rest = record {
  steps = first.steps ++ rest.steps;
  walks = walks_more first.walks rest.walks refl;
  tokens = tokens-append first.steps rest.steps ∙ ap (λ l. l ++ tokens_in rest.steps) first.tokens ∙ ap (λ l. yield tree ++ l) rest.tokens;
  enters = (let line = entered-append first.steps rest.steps in let same = first.enters in let more = rest.enters in omega (arith, line, same, more));
}

mutual
  walked : {store : Store} {n : Ref} {i : ℕ} {kid : Kid} {tree : Tree} → Shows store [] n i kid tree → IsWalked store n i kid tree
  walked (shows_token {token = token}) = record { steps = AtToken token ∷ []; walks = walks_token; tokens = refl; enters = refl }
  walked (shows_hidden trees has at) = absurd (nothing_supplied has)
  walked (shows_node kids at all) = walked_node at (all_walked all)

  all_walked : {store : Store} {n : Ref} {i : ℕ} {kids : List Kid} {trees : Forest} → ShowsAll store [] n i kids trees → AreWalked store n i kids trees
  all_walked shows_none = record { steps = []; walks = walks_none; tokens = refl; enters = refl }
  all_walked (shows_more first rest) = walked_more (walked first) (all_walked rest)

pub walk_law : WalkLaw
walk_law store n i kid tree shown = let by = walked shown in (by.steps, by.walks, by.tokens, by.enters)
