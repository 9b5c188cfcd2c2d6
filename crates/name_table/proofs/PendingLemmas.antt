-- What is pending: the parts of a node, in its place.
use Rattle.std.proofs.Common.{◌≡◌, ℕ, suc, ◌+◌, List, [], ◌∷◌, ◌++◌, length, Bool, true, false, refl, sym, ap, subst, ◌∙◌, arith}
use Rattle.std.specs.Prelude.{if◌then◌else◌, All, Some}
use Rattle.std.proofs.lemmas.List.{append-nil, append_assoc, length-append, same_from_push, get_or_append_left, get_or-append-add}
use Rattle.std.proofs.lemmas.List.Elements.{All-head}
use Rattle.grammar_data.specs.declared.rule.Sym.{Sym}
use Rattle.grammar_data.specs.declared.rule.Sym.TheVariants.{Name}
use Rattle.grammar_data.specs.declared.token.Token.{Token as TextToken}
use Rattle.grammar_data.specs.Grammar.{Rule}
use Rattle.grammar_theory.specs.Trees.{Tree, Node as Inner, Forest, FirstTree, yield, yields, IsTree, AreTrees, token_tree, node_tree, no_tree, tree_first}
use Rattle.grammar_theory.specs.Rules.{IsRule}
use Rattle.node_data.specs.declared.kid.Kid.{Kid}
use Rattle.node_data.specs.declared.kid.Kid.TheVariants.{Token, Node, Hidden}
use Rattle.tree_theory.specs.Stores.{Ref, Store, Shows, shows_token, shows_hidden, shows_node, ShowsAll, shows_none, shows_more}
use Rattle.finished_theory.proofs.FinishedLemmas.{nothing_supplied}
use Rattle.sheet_data.specs.Sheet.{Sheet}
use Rattle.translation_theory.specs.TokenTexts.{IsInText}
use Rattle.translation_theory.specs.Marks.{is_declared, marked_leaves, marked_among}
use Rattle.name_table.specs.Markings.{AreSettled, declared_by, is_marking}
use Rattle.name_table.proofs.MarkingLemmas.{none_of_name}
use Rattle.name_table.specs.Pending.{pending_kids, ArePending, none_pending, leaf_pending, node_pending}

all_left : {X : Type 0} (P : X → Type 0) (xs ys : List X) → All P (xs ++ ys) → All P xs
all_left P xs ys all k d inside =
    let count = length-append xs ys in
    subst P (get_or_append_left xs ys d k inside) (all k d (omega (arith, inside, count)))

all_right : {X : Type 0} (P : X → Type 0) (xs ys : List X) → All P (xs ++ ys) → All P ys
all_right P xs ys all k d inside =
    let count = length-append xs ys in
    subst P (get_or-append-add xs ys k d) (all (length xs + k) d (omega (arith, inside, count)))

module _ (sheet : Sheet) (text : List ℕ) (store : Store) (marking : List Bool) (settled : AreSettled sheet marking) (parts : List Kid) (more : List TextToken) (pending : ArePending sheet text store parts more) (r : ℕ) where
  abbrev marks : List ℕ
  marks = declared_by sheet r

  -- the parts with those of the kids behind them
  abbrev IsBehind : ℕ → List Sym → List Kid → Forest → Type 0
  IsBehind i xs kids trees = ArePending sheet text store (parts ++ pending_kids marks marking i xs kids) (marked_among sheet r i trees ++ more)

  leaf_by : (i : ℕ) (token : TextToken) (xs : List Sym) (kids : List Kid) (trees : Forest) (b : Bool) → is_declared sheet r i ≡ b → IsInText text token → IsBehind (suc i) xs kids trees → ArePending sheet text store (parts ++ (pending_kids marks marking (suc i) xs kids ++ (if b then Token token ∷ [] else []))) (((if b then token ∷ [] else []) ++ marked_among sheet r (suc i) trees) ++ more)
  leaf_by i token xs kids trees true e inside rest = leaf_pending (sym (append_assoc parts (pending_kids marks marking (suc i) xs kids) (Token token ∷ []))) inside rest refl
  leaf_by i token xs kids trees false e inside rest =
      subst (λ l. ArePending sheet text store (parts ++ l) (marked_among sheet r (suc i) trees ++ more)) (sym (append-nil (pending_kids marks marking (suc i) xs kids))) rest

  node_by : (i : ℕ) {n : Ref} {k : ℕ} (m : Ref) (name q : ℕ) (inner : Forest) (xs : List Sym) (kids : List Kid) (trees : Forest) (b : Bool) → is_marking marking name ≡ b → Shows store [] n k (Node m) (Inner q inner) → IsTree sheet.grammar.rules (Name name) (Inner q inner) → All (IsInText text) (yields inner) → IsBehind (suc i) xs kids trees
      → ArePending sheet text store (parts ++ (pending_kids marks marking (suc i) xs kids ++ (if b then Node m ∷ [] else []))) ((marked_leaves sheet (Inner q inner) ++ marked_among sheet r (suc i) trees) ++ more)
  node_by i m name q inner xs kids trees true e shows is_tree inside rest =
      node_pending (sym (append_assoc parts (pending_kids marks marking (suc i) xs kids) (Node m ∷ []))) shows is_tree inside rest (append_assoc (marked_leaves sheet (Inner q inner)) (marked_among sheet r (suc i) trees) more)
  node_by i m name q inner xs kids trees false e shows is_tree inside rest =
      subst (λ l. ArePending sheet text store (parts ++ (pending_kids marks marking (suc i) xs kids ++ [])) ((l ++ marked_among sheet r (suc i) trees) ++ more)) (sym (none_of_name sheet marking settled is_tree e))
      (subst (λ l. ArePending sheet text store (parts ++ l) (marked_among sheet r (suc i) trees ++ more)) (sym (append-nil (pending_kids marks marking (suc i) xs kids))) rest)

  kid_behind : (i : ℕ) {n : Ref} {k : ℕ} {kid : Kid} {x : Sym} {tree : Tree} (xs : List Sym) (kids : List Kid) (trees : Forest) → Shows store [] n k kid tree → IsTree sheet.grammar.rules x tree → All (IsInText text) (yield tree) → IsBehind (suc i) xs kids trees → IsBehind i (x ∷ xs) (kid ∷ kids) (FirstTree tree trees)
  kid_behind i xs kids trees (shows_token {token = token}) (token_tree same) inside rest = leaf_by i token xs kids trees (is_declared sheet r i) refl (All-head (IsInText text) token [] inside) rest
  kid_behind i xs kids trees (shows_hidden supplied has at) is_tree inside rest = absurd (nothing_supplied has)
  kid_behind i xs kids trees (shows_node {n = n} {i = k} {m = m} {r = q} {trees = inner} inner_kids at all) (node_tree {n = name} rule are) inside rest =
      node_by i {n = n} {k = k} m name q inner xs kids trees (is_marking marking name) refl (shows_node inner_kids at all) (node_tree rule are) inside rest

  pub kids_behind : (i : ℕ) {n : Ref} {k : ℕ} {kids : List Kid} {trees : Forest} {xs : List Sym} → ShowsAll store [] n k kids trees → AreTrees sheet.grammar.rules xs trees → All (IsInText text) (yields trees) → IsBehind i xs kids trees
  kids_behind i shows_none no_tree inside = subst (λ l. ArePending sheet text store l more) (sym (append-nil parts)) pending
  kids_behind i (shows_more {kids = kids} {tree = tree} {trees = trees} first rest) (tree_first {xs = xs} is_tree others) inside =
      kid_behind i xs kids trees first is_tree (all_left (IsInText text) (yield tree) (yields trees) inside) (kids_behind (suc i) rest others (all_right (IsInText text) (yield tree) (yields trees) inside))

-- a node has a kid for each symbol
pub as_many : {rules : List Rule} {store : Store} {n : Ref} {k : ℕ} {kids : List Kid} {trees : Forest} {xs : List Sym} → ShowsAll store [] n k kids trees → AreTrees rules xs trees → length kids ≡ length xs
as_many shows_none no_tree = refl
as_many (shows_more first rest) (tree_first is_tree others) = ap suc (as_many rest others)

-- ---- the part that is next

data IsNext (sheet : Sheet) (text : List ℕ) (store : Store) (parts : List Kid) (part : Kid) (leaves : List TextToken) : Type 0 where
  next_leaf : {token : TextToken} {more : List TextToken} → part ≡ Token token → IsInText text token → ArePending sheet text store parts more → leaves ≡ token ∷ more → IsNext sheet text store parts part leaves
  next_node : {n m : Ref} {i : ℕ} {x : Sym} {tree : Tree} {more : List TextToken} → part ≡ Node m → Shows store [] n i (Node m) tree → IsTree sheet.grammar.rules x tree → All (IsInText text) (yield tree) → ArePending sheet text store parts more → leaves ≡ marked_leaves sheet tree ++ more → IsNext sheet text store parts part leaves

no_parts : (parts : List Kid) (part : Kid) → [] ≡ parts ++ part ∷ [] → ⊥
no_parts parts part e = let count = length-append parts (part ∷ []) in let size : 0 ≡ length (parts ++ part ∷ []) = ap length e in let one : length (part ∷ []) ≡ 1 = refl in omega (arith, count, size, one)

next_part : {sheet : Sheet} {text : List ℕ} {store : Store} {all : List Kid} {leaves : List TextToken} (parts : List Kid) (part : Kid) → ArePending sheet text store all leaves → all ≡ parts ++ part ∷ [] → IsNext sheet text store parts part leaves
next_part parts part none_pending e = absurd (no_parts parts part e)
next_part {sheet} {text} {store} parts part (leaf_pending {parts = others} {token = token} {more = more} is inside pending leaves_are) e =
    let same = same_from_push others parts (Token token) part (sym is ∙ e) in
    next_leaf (sym same.1) inside (subst (λ l. ArePending sheet text store l more) same.0 pending) leaves_are
next_part {sheet} {text} {store} parts part (node_pending {parts = others} {n = n} {m = m} {i = i} {more = more} is shows is_tree inside pending leaves_are) e =
    let same = same_from_push others parts (Node m) part (sym is ∙ e) in
    next_node {n = n} {i = i} (sym same.1) shows is_tree inside (subst (λ l. ArePending sheet text store l more) same.0 pending) leaves_are

pub nothing_pending : {sheet : Sheet} {text : List ℕ} {store : Store} {all : List Kid} {leaves : List TextToken} → ArePending sheet text store all leaves → all ≡ [] → leaves ≡ []
nothing_pending none_pending e = refl
nothing_pending (leaf_pending {parts = parts} {token = token} is inside pending leaves_are) e = absurd (no_parts parts (Token token) (sym e ∙ is))
nothing_pending (node_pending {parts = parts} {m = m} is shows is_tree inside pending leaves_are) e = absurd (no_parts parts (Node m) (sym e ∙ is))

-- a leaf that is next
pub record IsNextLeaf (sheet : Sheet) (text : List ℕ) (store : Store) (parts : List Kid) (token : TextToken) (leaves : List TextToken) : Type 0 where
  pub more : List TextToken
  pub inside : IsInText text token
  pub pending : ArePending sheet text store parts more
  pub are : leaves ≡ token ∷ more

leaf_of : {sheet : Sheet} {text : List ℕ} {store : Store} {parts : List Kid} {part : Kid} {leaves : List TextToken} (token : TextToken) → IsNext sheet text store parts part leaves → part ≡ Token token → IsNextLeaf sheet text store parts token leaves
leaf_of {text = text} token (next_leaf {token = other} {more = more} is inside pending are) e =
    let same : other ≡ token = cc in
    record { more = more; inside = subst (IsInText text) same inside; pending = pending; are = are ∙ ap (λ t. t ∷ more) same }
leaf_of token (next_node is shows is_tree inside pending are) e = absurd (cc)

pub next_leaf_of : {sheet : Sheet} {text : List ℕ} {store : Store} {leaves : List TextToken} (parts : List Kid) (part : Kid) (token : TextToken) → ArePending sheet text store (parts ++ part ∷ []) leaves → part ≡ Token token → IsNextLeaf sheet text store parts token leaves
next_leaf_of parts part token pending e = leaf_of token (next_part parts part pending refl) e

-- a node that is next
pub record IsNextNode (sheet : Sheet) (text : List ℕ) (store : Store) (parts : List Kid) (node : Ref) (leaves : List TextToken) : Type 0 where
  pub more : List TextToken
  pub rule : ℕ
  pub kids : List Kid
  pub trees : Forest
  pub name : ℕ
  pub right : List Sym
  pub at : store node ≡ Some (rule, kids)
  pub shows : ShowsAll store [] node 0 kids trees
  pub ruled : IsRule sheet.grammar.rules rule name right
  pub trees_are : AreTrees sheet.grammar.rules right trees
  pub inside : All (IsInText text) (yields trees)
  pub pending : ArePending sheet text store parts more
  pub are : leaves ≡ marked_among sheet rule 1 trees ++ more

record IsRuled (sheet : Sheet) (r : ℕ) (trees : Forest) : Type 0 where
  name : ℕ
  right : List Sym
  ruled : IsRule sheet.grammar.rules r name right
  trees_are : AreTrees sheet.grammar.rules right trees

rule_of : {sheet : Sheet} {x : Sym} {tree : Tree} (r : ℕ) (trees : Forest) → IsTree sheet.grammar.rules x tree → tree ≡ Inner r trees → IsRuled sheet r trees
rule_of r trees (token_tree same) e = absurd (cc)
rule_of {sheet} r trees (node_tree {n = n} {r = q} {right = right} {kids = others} rule are) e =
    let same : q ≡ r = cc in
    let trees_same : others ≡ trees = cc in
    record {
      name = n;
      right = right;
      ruled = subst (λ k. IsRule sheet.grammar.rules k n right) same rule;
      trees_are = subst (AreTrees sheet.grammar.rules right) trees_same are;
    }

node_shown : {sheet : Sheet} {text : List ℕ} {store : Store} {parts : List Kid} {leaves more : List TextToken} {n : Ref} {k : ℕ} {kid : Kid} {x : Sym} {tree : Tree} (node : Ref) → Shows store [] n k kid tree → kid ≡ Node node → IsTree sheet.grammar.rules x tree → All (IsInText text) (yield tree) → ArePending sheet text store parts more → leaves ≡ marked_leaves sheet tree ++ more → IsNextNode sheet text store parts node leaves
node_shown node shows_token e is_tree inside pending are = absurd (cc)
node_shown node (shows_hidden supplied has at) e is_tree inside pending are = absurd (nothing_supplied has)
node_shown {sheet} {store = store} {more = more} node (shows_node {m = m} {r = r} {trees = trees} kids at all) e is_tree inside pending are =
    let same : m ≡ node = cc in
    let by = rule_of {sheet = sheet} r trees is_tree refl in
    record {
      more = more;
      rule = r;
      kids = kids;
      trees = trees;
      name = by.name;
      right = by.right;
      at = subst (λ p. store p ≡ Some (r, kids)) same at;
      shows = subst (λ p. ShowsAll store [] p 0 kids trees) same all;
      ruled = by.ruled;
      trees_are = by.trees_are;
      inside = inside;
      pending = pending;
      are = are;
    }

node_of : {sheet : Sheet} {text : List ℕ} {store : Store} {parts : List Kid} {part : Kid} {leaves : List TextToken} (node : Ref) → IsNext sheet text store parts part leaves → part ≡ Node node → IsNextNode sheet text store parts node leaves
node_of node (next_leaf is inside pending are) e = absurd (cc)
node_of node (next_node {n = n} {m = m} {i = i} is shows is_tree inside pending are) e =
    let same : ◌≡◌ {A = Kid} (Node m) (Node node) = sym is ∙ e in
    node_shown {n = n} {k = i} node shows same is_tree inside pending are

pub next_node_of : {sheet : Sheet} {text : List ℕ} {store : Store} {leaves : List TextToken} (parts : List Kid) (part : Kid) (node : Ref) → ArePending sheet text store (parts ++ part ∷ []) leaves → part ≡ Node node → IsNextNode sheet text store parts node leaves
next_node_of parts part node pending e = node_of node (next_part parts part pending refl) e

no_hidden : {sheet : Sheet} {text : List ℕ} {store : Store} {parts : List Kid} {part : Kid} {leaves : List TextToken} → IsNext sheet text store parts part leaves → part ≡ Hidden → ⊥
no_hidden (next_leaf is inside pending are) e = cc
no_hidden (next_node is shows is_tree inside pending are) e = cc

pub not_hidden : {sheet : Sheet} {text : List ℕ} {store : Store} {leaves : List TextToken} (parts : List Kid) (part : Kid) → ArePending sheet text store (parts ++ part ∷ []) leaves → part ≡ Hidden → ⊥
not_hidden parts part pending e = no_hidden (next_part parts part pending refl) e
