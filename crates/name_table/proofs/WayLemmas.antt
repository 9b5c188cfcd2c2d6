-- One part more is looked at.
use Rattle.std.proofs.Common.{◌≡◌, ℕ, suc, ◌+◌, ◌<◌, ◌≤◌, List, [], ◌∷◌, ◌++◌, length, Bool, true, false, refl, sym, ap, subst, ◌∙◌, arith}
use Rattle.std.specs.Prelude.{if◌then◌else◌, All, slice_get, Option, Some, IsSome, unwrap_or}
use Rattle.std.specs.Option.{option_map}
use Rattle.std.proofs.lemmas.List.{append-nil, append_assoc, length-append, length_push}
use Rattle.std.proofs.lemmas.List.Sums.{get_or-le-sum_by}
use Rattle.std.proofs.lemmas.Option.{same_Some, slice_get_within}
use Rattle.grammar_data.specs.declared.token.Token.{Token as TextToken}
use Rattle.grammar_data.specs.Grammar.{Rule}
use Rattle.grammar_theory.specs.Trees.{Tree, Forest, yield, yields, Leaf, Node as Inner, NoTree, FirstTree}
use Rattle.node_data.specs.declared.kid.Kid.{Kid}
use Rattle.node_data.specs.declared.kid.Kid.TheVariants.{Token, Node, Hidden}
use Rattle.tree_theory.specs.Stores.{Ref, Store}
use Rattle.finished_theory.specs.FinishedTrees.{IsFinished}
use Rattle.sheet_data.specs.Sheet.{Sheet}
use Rattle.translation_theory.specs.TokenTexts.{bytes_of}
use Rattle.translation_theory.specs.Marks.{is_declared, leaf_at, marked_leaves, marked_among}
use Rattle.translation_theory.specs.DeclaredNames.{Row, rows_of, noted, names_of}
use Rattle.translation_theory.proofs.NotedLemmas.{one_noted, counted}
use Rattle.name_table.specs.Pending.{pending_kids, ArePending, none_pending, node_pending, IsUnderWay}
use Rattle.name_table.proofs.EntryLemmas.{few_noted}
use Rattle.name_table.proofs.PendingLemmas.{next_leaf_of, IsNextNode, next_node_of, not_hidden, nothing_pending, kids_behind, as_many}
use Rattle.name_table.specs.Markings.{AreSettled, declared_by, right_of}

-- ---- how many names there are, and how many leaves each has

few_from : (text : List ℕ) (done rest : List TextToken) → length (rows_of text done) ≤ length done → length (rows_of text (done ++ rest)) ≤ length (done ++ rest)
few_from text done [] few = subst (λ l. length (rows_of text l) ≤ length l) (sym (append-nil done)) few
few_from text done (leaf ∷ rest) few =
    let more = few_noted (rows_of text done) (bytes_of text leaf) leaf.place.line in
    let size = length_push done leaf in
    let count = ap length (one_noted text done leaf) in
    let next : length (rows_of text (done ++ leaf ∷ [])) ≤ length (done ++ leaf ∷ []) = omega (arith, more, size, count, few) in
    subst (λ l. length (rows_of text l) ≤ length l) (append_assoc done (leaf ∷ []) rest) (few_from text (done ++ leaf ∷ []) rest next)

few_rows : (text : List ℕ) (leaves : List TextToken) → length (rows_of text leaves) ≤ length leaves
unfolding rows_of
few_rows text leaves = few_from text [] leaves (omega arith)

few_times : (text : List ℕ) (leaves : List TextToken) → All (λ (row : Row). row.times ≤ length leaves) (rows_of text leaves)
few_times text leaves k d inside =
    let part = get_or-le-sum_by (λ (row : Row). row.times) (rows_of text leaves) k d inside in
    let all = counted text leaves in
    omega (arith, part, all)

module _ (sheet : Sheet) where
  leaf_few : (r i : ℕ) (token : TextToken) → length (leaf_at sheet r i (Leaf token)) ≤ 1
  leaf_few r i token = elim (is_declared sheet r i) as (λ b. length (if b then token ∷ [] else []) ≤ 1) [ true ↦ omega arith | false ↦ omega arith ]

  mutual
    few_marks : (tree : Tree) → length (marked_leaves sheet tree) ≤ length (yield tree)
    few_marks (Leaf token) = omega arith
    few_marks (Inner r kids) = few_among r 1 kids

    few_part : (r i : ℕ) (tree : Tree) → length (leaf_at sheet r i tree) + length (marked_leaves sheet tree) ≤ length (yield tree)
    few_part r i (Leaf token) = let few = leaf_few r i token in omega (arith, few)
    few_part r i (Inner q kids) = let few = few_among q 1 kids in omega (arith, few)

    few_among : (r i : ℕ) (trees : Forest) → length (marked_among sheet r i trees) ≤ length (yields trees)
    few_among r i NoTree = omega arith
    few_among r i (FirstTree tree trees) =
        let first = few_part r i tree in
        let rest = few_among r (suc i) trees in
        let here = length-append (leaf_at sheet r i tree) (marked_leaves sheet tree ++ marked_among sheet r (suc i) trees) in
        let inner = length-append (marked_leaves sheet tree) (marked_among sheet r (suc i) trees) in
        let all = length-append (yield tree) (yields trees) in
        omega (arith, first, rest, here, inner, all)

-- ---- a leaf

module _ (sheet : Sheet) (text : List ℕ) (store : Store) (all : List TextToken) (parts : List Kid) (part : Kid) (rows : List Row) (way : IsUnderWay sheet text store all (parts ++ part ∷ []) rows) where
  some_left : (token : TextToken) → part ≡ Token token → length way.done < length all
  some_left token e =
      let next = next_leaf_of parts part token way.pending e in
      let count : length all ≡ length way.done + length way.more = ap length way.are ∙ length-append way.done way.more in
      let more : length way.more ≡ length next.more + 1 = ap length next.are ∙ omega arith in
      omega (arith, count, more)

  pub few_names : (token : TextToken) → part ≡ Token token → length rows < length all
  few_names token e =
      let left = some_left token e in
      let few = few_rows text way.done in
      let count : length rows ≡ length (rows_of text way.done) = ap length way.rows_are in
      omega (arith, left, few, count)

  pub few_leaves : (token : TextToken) → part ≡ Token token → All (λ (row : Row). row.times < length all) rows
  few_leaves token e =
      let left = some_left token e in
      subst (All (λ (row : Row). row.times < length all)) (sym way.rows_are) (λ k d inside. (let few = few_times text way.done k d inside in omega (arith, left, few)))

  pub leaf_taken : (token : TextToken) (now : List Row) → part ≡ Token token → now ≡ noted rows (bytes_of text token) token.place.line → IsUnderWay sheet text store all parts now
  leaf_taken token now e is =
      let next = next_leaf_of parts part token way.pending e in
      record {
        done = way.done ++ token ∷ [];
        more = next.more;
        are = way.are ∙ ap (λ l. way.done ++ l) next.are ∙ sym (append_assoc way.done (token ∷ []) next.more);
        rows_are = is ∙ ap (λ r. noted r (bytes_of text token) token.place.line) way.rows_are ∙ sym (one_noted text way.done token);
        pending = next.pending;
      }

  -- ---- a node

  pub node_next : (node : Ref) → part ≡ Node node → IsNextNode sheet text store parts node way.more
  node_next node e = next_node_of parts part node way.pending e

  pub node_there : (node : Ref) → part ≡ Node node → IsSome (store node)
  node_there node e = let next = node_next node e in subst IsSome (sym next.at) refl

  rule_is : {r : ℕ} {kids : List Kid} (rule : ℕ) (found : Option (ℕ × List Kid)) → found ≡ Some (r, kids) → option_map (λ n. n.0) found ≡ Some rule → r ≡ rule
  rule_is {r} rule found at e = same_Some r rule (sym (ap (option_map (λ (n : ℕ × List Kid). n.0)) at) ∙ e)

  kids_are : {r : ℕ} {kids : List Kid} (shown : List Kid) (found : Option (ℕ × List Kid)) → found ≡ Some (r, kids) → option_map (λ n. n.1) found ≡ Some shown → kids ≡ shown
  kids_are {kids = kids} shown found at e = same_Some kids shown (sym (ap (option_map (λ (n : ℕ × List Kid). n.1)) at) ∙ e)

  pub rule_within : (node : Ref) (rule : ℕ) → part ≡ Node node → option_map (λ n. n.0) (store node) ≡ Some rule → rule < length sheet.grammar.rules
  rule_within node rule e is =
      let next = node_next node e in
      subst (λ r. r < length sheet.grammar.rules) (rule_is rule (store node) next.at is) (slice_get_within sheet.grammar.rules next.rule (next.name, next.right) next.ruled.found)

  -- the right side of the node's rule
  right_is : (node : Ref) (e : part ≡ Node node) (rule : ℕ) → option_map (λ n. n.0) (store node) ≡ Some rule → (node_next node e).right ≡ right_of sheet rule
  right_is node e rule rule_at =
      let next = node_next node e in
      let same : next.rule ≡ rule = rule_is rule (store node) next.at rule_at in
      let found : slice_get sheet.grammar.rules rule ≡ Some (next.name, next.right) = subst (λ r. slice_get sheet.grammar.rules r ≡ Some (next.name, next.right)) same next.ruled.found in
      sym (ap (λ (one : Option Rule). unwrap_or (option_map (λ (r : Rule). r.1) one) []) found)

  pub kid_each : (node : Ref) (rule : ℕ) (kids : List Kid) → part ≡ Node node → option_map (λ n. n.0) (store node) ≡ Some rule → option_map (λ n. n.1) (store node) ≡ Some kids → length kids ≡ length (right_of sheet rule)
  kid_each node rule kids e rule_at kids_at =
      let next = node_next node e in
      let same : next.kids ≡ kids = kids_are kids (store node) next.at kids_at in
      ap length (sym same) ∙ as_many next.shows next.trees_are ∙ ap length (right_is node e rule rule_at)

  pub node_taken : (marking : List Bool) → AreSettled sheet marking → (node : Ref) (rule : ℕ) (kids now : List Kid) → part ≡ Node node → option_map (λ n. n.0) (store node) ≡ Some rule → option_map (λ n. n.1) (store node) ≡ Some kids → now ≡ parts ++ pending_kids (declared_by sheet rule) marking 1 (right_of sheet rule) kids → IsUnderWay sheet text store all now rows
  node_taken marking settled node rule kids now e rule_at kids_at is =
      let next = node_next node e in
      let same_rule : next.rule ≡ rule = rule_is rule (store node) next.at rule_at in
      let same_kids : next.kids ≡ kids = kids_are kids (store node) next.at kids_at in
      let behind = kids_behind sheet text store marking settled parts next.more next.pending next.rule 1 next.shows next.trees_are next.inside in
      let parts_are : parts ++ pending_kids (declared_by sheet next.rule) marking 1 next.right next.kids ≡ now =
      ap (λ r. parts ++ pending_kids (declared_by sheet r) marking 1 next.right next.kids) same_rule ∙ ap (λ x. parts ++ pending_kids (declared_by sheet rule) marking 1 x next.kids) (right_is node e rule rule_at) ∙ ap (λ k. parts ++ pending_kids (declared_by sheet rule) marking 1 (right_of sheet rule) k) same_kids ∙ sym is in
      record {
        done = way.done;
        more = marked_among sheet next.rule 1 next.trees ++ next.more;
        are = way.are ∙ ap (λ l. way.done ++ l) next.are;
        rows_are = way.rows_are;
        pending = subst (λ l. ArePending sheet text store l (marked_among sheet next.rule 1 next.trees ++ next.more)) parts_are behind;
      }

  pub not_here : part ≡ Hidden → ⊥
  not_here e = not_hidden parts part way.pending e

-- ---- the first part, and when none is left

pub begun : (sheet : Sheet) (text : List ℕ) (store : Store) (root : Ref) (tree : Tree) → IsFinished sheet text store root tree → IsUnderWay sheet text store (marked_leaves sheet tree) (Node root ∷ []) []
unfolding rows_of
begun sheet text store root tree finished = record {
  done = [];
  more = marked_leaves sheet tree;
  are = refl;
  rows_are = refl;
  pending = node_pending {n = root} {i = 0} refl finished.shows finished.of_start finished.in_text.each none_pending (sym (append-nil (marked_leaves sheet tree)));
}

pub ended : (sheet : Sheet) (text : List ℕ) (store : Store) (tree : Tree) (parts : List Kid) (rows : List Row) → IsUnderWay sheet text store (marked_leaves sheet tree) parts rows → parts ≡ [] → rows ≡ names_of sheet text tree
ended sheet text store tree parts rows way none =
    let rest : way.more ≡ [] = nothing_pending way.pending none in
    way.rows_are ∙ ap (rows_of text) (sym (way.are ∙ ap (λ l. way.done ++ l) rest ∙ append-nil way.done))

pub few_marked : (sheet : Sheet) (text : List ℕ) (store : Store) (root : Ref) (tree : Tree) → IsFinished sheet text store root tree → length (marked_leaves sheet tree) ≤ length text
few_marked sheet text store root tree finished =
    let marks = few_marks sheet tree in
    let few = finished.in_text.few in
    omega (arith, marks, few)
