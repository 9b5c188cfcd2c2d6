-- What kids show: one tree, and the same in each store that keeps the nodes.
use Rattle.std.proofs.Common.{◌≡◌, ◌≢◌, ℕ, List, Contains, slice_get, Option, Some, refl, sym, ap, ◌∙◌, subst}
use Rattle.grammar_theory.specs.Trees.{Tree, Node, Forest, FirstTree}
use Rattle.node_data.specs.declared.kid.Kid.{Kid}
use Rattle.node_data.specs.declared.kid.Kid.TheVariants.{Hidden}
use Rattle.tree_theory.specs.Stores.{Ref, Store, Supply, IsSupply, Shows, shows_token, shows_hidden, shows_node, ShowsAll, shows_none, shows_more, Refits, refits_none, refits_same, refits_hidden, Keeps, OneShownLaw, RefitLaw, GrowLaw}

same_some : {X : Type 0} {x y : X} → ◌≡◌ {A = Option X} (Some x) (Some y) → x ≡ y
same_some e = cc

pub some_pair : {A B : Type 0} {a b : A} {x y : B} → ◌≡◌ {A = Option (A × B)} (Some (a, x)) (Some (b, y)) → (a ≡ b) × (x ≡ y)
some_pair {A} {B} {a} {b} {x} {y} e = let p : ◌≡◌ {A = A × B} (a, x) (b, y) = cc in (ap (λ q. q.0) p, ap (λ q. q.1) p)

-- ---- one tree

supplied_once : (supply : Supply) → IsSupply supply → {n : Ref} (i : ℕ) {tree other : Tree} (trees others : List Tree) → Contains {X = Ref × List Tree} supply (n, trees) → slice_get trees i ≡ Some tree → Contains {X = Ref × List Tree} supply (n, others) → slice_get others i ≡ Some other → tree ≡ other
supplied_once supply once {n} i trees others has at too there = same_some (sym at ∙ ap (λ l. slice_get l i) (once n trees others has too) ∙ there)

mutual
  one_shown : {store : Store} {supply : Supply} → IsSupply supply → {n : Ref} {i : ℕ} {kid : Kid} {tree : Tree} → Shows store supply n i kid tree → {other : Tree} → Shows store supply n i kid other → tree ≡ other
  one_shown once shows_token shows_token = refl
  one_shown {supply = supply} once (shows_hidden {i = i} trees has at) (shows_hidden others too there) = supplied_once supply once i trees others has at too there
  one_shown {store} {supply} once (shows_node {m = m} {r = r} {trees = trees} kids at all) (shows_node {r = q} {trees = others} kids1 there more) =
      let same = some_pair (sym at ∙ there) in
      let inner = all_shown once all (subst (λ l. ShowsAll store supply m 0 l others) (sym same.1) more) in
      λ i. Node (same.0 i) (inner i)

  all_shown : {store : Store} {supply : Supply} → IsSupply supply → {n : Ref} {i : ℕ} {kids : List Kid} {trees : Forest} → ShowsAll store supply n i kids trees → {others : Forest} → ShowsAll store supply n i kids others → trees ≡ others
  all_shown once shows_none shows_none = refl
  all_shown once (shows_more first rest) (shows_more other others) =
      let head = one_shown once first other in
      let tail = all_shown once rest others in
      λ i. FirstTree (head i) (tail i)

pub one_shown_law : OneShownLaw
one_shown_law store supply once n i kid tree other first second = one_shown once first second

-- ---- the same trees

hidden_shown : {store : Store} {supply : Supply} {n : Ref} {i : ℕ} {kid : Kid} {tree : Tree} → Shows store supply n i kid tree → kid ≡ Hidden → (trees : List Tree) × Contains {X = Ref × List Tree} supply (n, trees) × (slice_get trees i ≡ Some tree)
hidden_shown shows_token e = absurd (cc)
hidden_shown (shows_hidden trees has at) e = (trees, has, at)
hidden_shown (shows_node kids at all) e = absurd (cc)

mutual
  refit : {store : Store} {supply : Supply} (store1 : Store) (supply1 : Supply) → Keeps store supply store1 supply1 → {n : Ref} {i : ℕ} {kid : Kid} {tree : Tree} → Shows store supply n i kid tree → kid ≢ Hidden → Shows store1 supply1 n i kid tree
  refit store1 supply1 keeps shows_token not = shows_token
  refit store1 supply1 keeps (shows_hidden trees has at) not = absurd (not refl)
  refit store1 supply1 keeps (shows_node {m = m} {r = r} kids at all) not =
      let kept = keeps m r kids at in
      shows_node kept.0 kept.1 (refit_all store1 supply1 keeps all kept.2)

  refit_all : {store : Store} {supply : Supply} (store1 : Store) (supply1 : Supply) → Keeps store supply store1 supply1 → {n : Ref} {i : ℕ} {kids : List Kid} {trees : Forest} → ShowsAll store supply n i kids trees → {others : List Kid} → Refits supply store1 supply1 n i kids others → ShowsAll store1 supply1 n i others trees
  refit_all store1 supply1 keeps shows_none refits_none = shows_none
  refit_all store1 supply1 keeps (shows_more first rest) (refits_same not more) = shows_more (refit store1 supply1 keeps first not) (refit_all store1 supply1 keeps rest more)
  refit_all store1 supply1 keeps (shows_more {tree = tree} first rest) (refits_hidden given more) =
      let hidden = hidden_shown first refl in
      shows_more (given hidden.0 tree hidden.1 hidden.2) (refit_all store1 supply1 keeps rest more)

pub refit_law : RefitLaw
refit_law store store1 supply supply1 keeps n i kid tree not shown = refit store1 supply1 keeps shown not

mutual
  grow : {store : Store} {supply : Supply} (store1 : Store) (supply1 : Supply) → ((m : Ref) (r : ℕ) (kids : List Kid) → store m ≡ Some (r, kids) → store1 m ≡ Some (r, kids)) → ((n : Ref) (trees : List Tree) → Contains {X = Ref × List Tree} supply (n, trees) → Contains {X = Ref × List Tree} supply1 (n, trees)) → {n : Ref} {i : ℕ} {kid : Kid} {tree : Tree} → Shows store supply n i kid tree → Shows store1 supply1 n i kid tree
  grow store1 supply1 kept more shows_token = shows_token
  grow store1 supply1 kept more (shows_hidden {n = n} trees has at) = shows_hidden trees (more n trees has) at
  grow store1 supply1 kept more (shows_node {m = m} {r = r} kids at all) = shows_node kids (kept m r kids at) (grow_all store1 supply1 kept more all)

  grow_all : {store : Store} {supply : Supply} (store1 : Store) (supply1 : Supply) → ((m : Ref) (r : ℕ) (kids : List Kid) → store m ≡ Some (r, kids) → store1 m ≡ Some (r, kids)) → ((n : Ref) (trees : List Tree) → Contains {X = Ref × List Tree} supply (n, trees) → Contains {X = Ref × List Tree} supply1 (n, trees)) → {n : Ref} {i : ℕ} {kids : List Kid} {trees : Forest} → ShowsAll store supply n i kids trees → ShowsAll store1 supply1 n i kids trees
  grow_all store1 supply1 kept more shows_none = shows_none
  grow_all store1 supply1 kept more (shows_more first rest) = shows_more (grow store1 supply1 kept more first) (grow_all store1 supply1 kept more rest)

pub grow_law : GrowLaw
grow_law store store1 supply supply1 kept more n i kid tree shown = grow store1 supply1 kept more shown
