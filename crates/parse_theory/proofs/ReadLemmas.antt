-- The machine reads each tree that may stand where it is, so that a whole run accepts exactly the trees of the start.
use Rattle.std.proofs.Common.{◌≡◌, ℕ, ◌<◌, inr, ⊎_elim, List, [], ◌∷◌, ◌++◌, length, refl, sym, ap, ◌∙◌, subst, append_assoc, append-nil}
use Rattle.std.proofs.lemmas.List.{append_cancel_right}
use Rattle.std.proofs.lemmas.Option.{slice_get_within}
use Rattle.grammar_data.specs.declared.rule.Sym.{Sym}
use Rattle.grammar_data.specs.declared.rule.Sym.TheVariants.{Token, Name}
use Rattle.grammar_data.specs.declared.token.Token.{Token as TextToken}
use Rattle.grammar_data.specs.Grammar.{Rule, Grammar}
use Rattle.grammar_theory.specs.Rules.{IsRule, end_mark}
use Rattle.grammar_theory.specs.Trees.{Tree, Leaf, Node, Forest, NoTree, FirstTree, yield, yields, ids_of, IsTree, token_tree, node_tree, AreTrees, no_tree, tree_first}
use Rattle.grammar_theory.proofs.RuleLemmas.{rule_once, same_parts}
use Rattle.grammar_theory.proofs.TreeLemmas.{derives_yields}
use Rattle.item_theory.specs.Items.{Item, Dotted, first_or, all_rules, IsValid, Deed, Does, shifts, reduces as item_reduces, accepts, Shift as to_shift, Reduce as to_reduce, Accept as to_accept}
use Rattle.item_theory.specs.Chains.{first_item, moves, opens}
use Rattle.item_theory.proofs.ItemLemmas.{own_rule, last_rule, dotted_once, dotted_first, dotted_moved, moved}
use Rattle.item_theory.proofs.ItemLaws.{augmented_items_law}
use Rattle.item_theory.proofs.ChainLemmas.{is_ahead, follows_of_ahead, valid_first, valid_over, valid_into}
use Rattle.table_data.specs.declared.act.Act.TheVariants.{Shift, Accept}
use Rattle.table_data.specs.Tables.{Tables, act_in, shift_of}
use Rattle.machine_theory.specs.Machine.{Entry, top, symbols, forest_onto, IsStack, bottom, pushed, shifted, reduced, Reduces, Reaches, here, after_reduction, after_shift, Accepts}
use Rattle.machine_theory.proofs.RunLemmas.{reaches_then, compared, stops}
use Rattle.machine_theory.proofs.StackLemmas.{length-symbols, symbols-append, run_tokens}
use Rattle.table_theory.specs.Canonical.{deed_of}
use Rattle.lawful_theory.specs.Lawful.{IsLawfulFor}
use Rattle.lawful_theory.proofs.CanonicalLemmas.{accept_of}
use Rattle.lawful_theory.proofs.FitLemmas.{shift_acts, reduce_acts, IsReduced, reduction, run_stack}
use Rattle.parse_theory.specs.Parses.{SoundLaw, CompleteLaw, OneTreeLaw}

-- ---- lists of trees and tokens

forest-append : (s under : List Entry) (trees : Forest) → forest_onto (s ++ under) trees ≡ forest_onto under (forest_onto s trees)
forest-append [] under trees = refl
forest-append (e ∷ s) under trees = forest-append s under (FirstTree e.tree trees)

-- the first token of a list in front of another token
pub record IsHead (u : List TextToken) (a : TextToken) (v : List TextToken) : Type 0 where
  pub head : TextToken
  pub rest : List TextToken
  pub parts : u ++ a ∷ v ≡ head ∷ rest
  pub first : head.id ≡ first_or a.id (ids_of u)

head_of : (u : List TextToken) (a : TextToken) (v : List TextToken) → IsHead u a v
head_of [] a v = record { head = a; rest = v; parts = refl; first = refl }
head_of (b ∷ u) a v = record { head = b; rest = u ++ a ∷ v; parts = refl; first = refl }

-- ---- reading

-- the machine reads the trees of these symbols: their entries come onto the stack, and the item's dot moves over them
pub record AreRead (g : Grammar) (t : Tables) (s : List Entry) (i : Item) (n : ℕ) (before more : List Sym) (trees : Forest) (a : TextToken) (v : List TextToken) : Type 0 where
  pub taken : List Entry
  pub same : symbols taken ≡ more
  pub forest : forest_onto taken NoTree ≡ trees
  pub reached : Reaches t 0 s (yields trees ++ a ∷ v) (taken ++ s) (a ∷ v)
  pub stack : IsStack t 0 (taken ++ s)
  pub last : Item
  pub is_valid : IsValid g (symbols (taken ++ s)) last
  pub dotted : Dotted g last n (before ++ more) []
  pub rule : last.rule ≡ i.rule
  pub ahead : last.ahead ≡ i.ahead

-- one more entry in front of what is read
read_more : {g : Grammar} {t : Tables} {s : List Entry} {i : Item} {n : ℕ} (before more : List Sym) {trees : Forest} {a : TextToken} {v : List TextToken} (e : Entry) (x : Sym) (tree : Tree) → e.symbol ≡ x → e.tree ≡ tree → Reaches t 0 s (yields (FirstTree tree trees) ++ a ∷ v) (e ∷ s) (yields trees ++ a ∷ v) → AreRead g t (e ∷ s) (moved i) n (before ++ x ∷ []) more trees a v → AreRead g t s i n before (x ∷ more) (FirstTree tree trees) a v
read_more {g} {t} {s} {i} {n} before more {trees} {a} {v} e x tree symbol is run read = record {
  taken = read.taken ++ e ∷ [];
  same = symbols-append read.taken (e ∷ []) ∙ ap (λ y. y ∷ symbols read.taken) symbol ∙ ap (λ l. x ∷ l) read.same;
  forest = forest-append read.taken (e ∷ []) NoTree ∙ ap (λ y. FirstTree y (forest_onto read.taken NoTree)) is ∙ ap (λ l. FirstTree tree l) read.forest;
  reached = reaches_then run (subst (λ l. Reaches t 0 (e ∷ s) (yields trees ++ a ∷ v) l (a ∷ v)) line read.reached);
  stack = subst (λ l. IsStack t 0 l) line read.stack;
  last = read.last;
  is_valid = subst (λ l. IsValid g (symbols l) read.last) line read.is_valid;
  dotted = subst (λ l. Dotted g read.last n l []) (append_assoc before (x ∷ []) more) read.dotted;
  rule = read.rule;
  ahead = read.ahead;
}
  where
    line : read.taken ++ e ∷ s ≡ (read.taken ++ e ∷ []) ++ s
    line = sym (append_assoc read.taken (e ∷ []) s)

-- a node is read: its kids, and then a reduction
pub record IsNodeRead (t : Tables) (s : List Entry) (m r : ℕ) (kids : Forest) (c : TextToken) (rest : List TextToken) : Type 0 where
  pub state : ℕ
  pub reached : Reaches t 0 s (yields kids ++ c ∷ rest) (record { symbol = Name m; tree = Node r kids; state = state } ∷ s) (c ∷ rest)
  pub stack : IsStack t 0 (record { symbol = Name m; tree = Node r kids; state = state } ∷ s)

same_entries : {r n m p : ℕ} {taken given rest left : List Entry} {kids : Forest} → n ≡ m → taken ≡ given → rest ≡ left → forest_onto given NoTree ≡ kids → reduced r n taken p ∷ rest ≡ record { symbol = Name m; tree = Node r kids; state = p } ∷ left
same_entries {r} {m = m} {p = p} {left = left} en et el ek = (λ i. reduced r (en i) (et i) p ∷ el i) ∙ ap (λ forest. record { symbol = Name m; tree = Node r forest; state = p } ∷ left) ek

module _ {g : Grammar} {t : Tables} (lawful : IsLawfulFor g t) where
  node_reduced : (taken : List Entry) {s : List Entry} {m r : ℕ} {right : List Sym} {kids : Forest} {c : TextToken} {rest : List TextToken} → IsRule g.rules r m right → symbols taken ≡ right → forest_onto taken NoTree ≡ kids → Reaches t 0 s (yields kids ++ c ∷ rest) (taken ++ s) (c ∷ rest) → IsReduced g t (taken ++ s) c.id r → IsNodeRead t s m r kids c rest
  node_reduced taken {s} {m} {r} {right} {kids} {c} {rest} rule same forest run by =
      let one = rule_once by.own rule in
      let count : length by.taken ≡ length taken = sym (length-symbols by.taken) ∙ ap length (by.same ∙ one.1 ∙ sym same) ∙ length-symbols taken in
      let parts = same_parts by.taken by.rest taken s (sym by.parts) count in
      let entries : reduced r by.name by.taken by.state ∷ by.rest ≡ record { symbol = Name m; tree = Node r kids; state = by.state } ∷ s = same_entries one.0 parts.0 parts.1 forest in
      record {
        state = by.state;
        reached = reaches_then run (after_reduction (subst (λ l. Reduces t 0 c.id (taken ++ s) l) entries by.move) here);
        stack = subst (λ l. IsStack t 0 l) entries by.stack;
      }

  node_read : {s : List Entry} {i : Item} {m r : ℕ} {right : List Sym} {kids : Forest} {c : TextToken} {rest : List TextToken} → IsRule g.rules r m right → i.rule ≡ r → i.ahead ≡ c.id → AreRead g t s i m [] right kids c rest → IsNodeRead t s m r kids c rest
  node_read {s} {i} {m} {r} {right} {kids} {c} {rest} rule at ahead read =
      let less : read.last.rule < length g.rules = subst (λ k. k < length g.rules) (sym (read.rule ∙ at)) (slice_get_within g.rules r (m, right) rule.found) in
      let does : Does g read.last c.id (to_reduce r) = item_reduces read.dotted less (read.ahead ∙ ahead) (ap to_reduce (sym (read.rule ∙ at))) in
      let act = reduce_acts (act_in t (top 0 (read.taken ++ s)) c.id) r ((lawful.acts (read.taken ++ s) c.id read.stack (to_reduce r)).1 (read.last, read.is_valid, does)) in
      node_reduced read.taken rule read.same read.forest read.reached (reduction lawful read.stack act)

  pub reads : {more : List Sym} {trees : Forest} → AreTrees g.rules more trees → (s : List Entry) (i : Item) (n : ℕ) (before : List Sym) (a : TextToken) (v : List TextToken) → IsStack t 0 s → IsValid g (symbols s) i → Dotted g i n before more → i.ahead ≡ a.id → AreRead g t s i n before more trees a v
  reads no_tree s i n before a v is ok dotted ahead = record {
    taken = [];
    same = refl;
    forest = refl;
    reached = here;
    stack = is;
    last = i;
    is_valid = ok;
    dotted = subst (λ l. Dotted g i n l []) (sym (append-nil before)) dotted;
    rule = refl;
    ahead = refl;
  }
  reads (tree_first {xs = more} {trees = trees} (token_tree {a = b} {token = token} e) others) s i n before a v is ok dotted ahead =
      let shift = shift_acts (act_in t (top 0 s) b) ((lawful.acts s b is to_shift).1 (i, ok, shifts dotted)) in
      let act : act_in t (top 0 s) token.id ≡ Shift shift.0 = ap (λ c. act_in t (top 0 s) c) e ∙ shift.1 in
      let entry : Entry = shifted token shift.0 in
      let next : IsValid g (symbols (shifted token shift.0 ∷ s)) (moved i) = subst (λ c. IsValid g (symbols s ++ Token c ∷ []) (moved i)) (sym e) (valid_over g ok (moves n before more dotted refl) refl) in
      read_more before more (shifted token shift.0) (Token b) (Leaf token) (ap Token e) refl (after_shift act here)
      (reads others (shifted token shift.0 ∷ s) (moved i) n (before ++ Token b ∷ []) a v (pushed is (token_tree refl) (ap shift_of act)) next (dotted_moved before dotted) ahead)
  reads (tree_first {xs = more} {trees = trees} (node_tree {n = m} {r = r} {right = right} {kids = kids} rule inner) others) s i n before a v is ok dotted ahead =
      let head = head_of (yields trees) a v in
      let opened : Item = record { rule = r; dot = 0; ahead = head.head.id } in
      let front : Dotted g (record { rule = r; dot = 0; ahead = head.head.id }) m [] right = record { rule = own_rule g rule; dot = refl } in
      let first : head.head.id ≡ first_or i.ahead (ids_of (yields trees)) = head.first ∙ ap (λ c. first_or c (ids_of (yields trees))) (sym ahead) in
      let entered = valid_into g ok (opens n m before more right dotted front (follows_of_ahead g (is_ahead (derives_yields others) first))) in
      let node = node_read rule refl refl (reads inner s (record { rule = r; dot = 0; ahead = head.head.id }) m [] head.head head.rest is entered front refl) in
      let run : Reaches t 0 s (yields (FirstTree (Node r kids) trees) ++ a ∷ v) (record { symbol = Name m; tree = Node r kids; state = node.state } ∷ s) (yields trees ++ a ∷ v) = subst (λ l. Reaches t 0 s l (record { symbol = Name m; tree = Node r kids; state = node.state } ∷ s) (yields trees ++ a ∷ v)) (sym (append_assoc (yields kids) (yields trees) (a ∷ v))) (subst (λ l. Reaches t 0 s (yields kids ++ l) (record { symbol = Name m; tree = Node r kids; state = node.state } ∷ s) l) (sym head.parts) node.reached) in
      read_more before more (record { symbol = Name m; tree = Node r kids; state = node.state }) (Name m) (Node r kids) refl refl run
      (reads others (record { symbol = Name m; tree = Node r kids; state = node.state } ∷ s) (moved i) n (before ++ Name m ∷ []) a v node.stack (valid_over g ok (moves n before more dotted refl) refl) (dotted_moved before dotted) ahead)

-- ---- acceptance

one_entry : {x : Sym} {tree : Tree} (taken : List Entry) → symbols taken ≡ x ∷ [] → forest_onto taken NoTree ≡ FirstTree tree NoTree → (e : Entry) × (taken ≡ e ∷ []) × (e.symbol ≡ x) × (e.tree ≡ tree)
one_entry [] same forest = absurd (cc)
one_entry (e ∷ []) same forest = (e, refl, cc, cc)
one_entry (e ∷ f ∷ taken) same forest = absurd (longer (symbols taken) f.symbol e.symbol same)
  where
    longer : (xs : List Sym) (y z : Sym) {x : Sym} → (xs ++ y ∷ []) ++ z ∷ [] ≡ x ∷ [] → ⊥
    longer [] y z e = cc
    longer (u ∷ []) y z e = cc
    longer (u ∷ w ∷ xs) y z e = cc

accepted_stack : {t : Tables} {u : List TextToken} {end : TextToken} {x : Sym} {tree : Tree} {taken : List Entry} → Reaches t 0 [] (u ++ end ∷ []) taken (end ∷ []) → act_in t (top 0 taken) end.id ≡ Accept → (e : Entry) × (taken ≡ e ∷ []) × (e.symbol ≡ x) × (e.tree ≡ tree) → Accepts t u end tree
accepted_stack {t} {u} {end} {tree = tree} run act (e, at, symbol, is) = record {
  symbol = e.symbol;
  state = e.state;
  reached = subst (λ l. Reaches t 0 [] (u ++ end ∷ []) l (end ∷ [])) (at ∙ (λ i. record { symbol = e.symbol; tree = is i; state = e.state } ∷ [])) run;
  accept = ap (λ l. act_in t (top 0 l) end.id) (sym at) ∙ act;
}

pub complete : {g : Grammar} {t : Tables} → IsLawfulFor g t → {end : TextToken} {tree : Tree} → end.id ≡ t.tokens → IsTree g.rules (Name g.start) tree → Accepts t (yield tree) end tree
complete {g} {t} lawful {end} {tree} e is =
    let mark : end_mark g ≡ end.id = sym (e ∙ lawful.tokens) in
    let read = reads lawful (tree_first is no_tree) [] (first_item g) g.names [] end [] bottom (valid_first g) (dotted_first g) mark in
    let line = append-nil read.taken in
    let last : length g.rules ≡ length g.rules = refl in
    let accept = accept_of (act_in t (top 0 (read.taken ++ [])) end.id) ((lawful.acts (read.taken ++ []) end.id read.stack to_accept).1 (read.last, read.is_valid, accepts read.dotted read.rule (sym mark))) in
    accepted_stack
    (subst (λ l. Reaches t 0 [] (yield tree ++ end ∷ []) l (end ∷ [])) line (subst (λ l. Reaches t 0 [] (l ++ end ∷ []) (read.taken ++ []) (end ∷ [])) (append-nil (yield tree)) read.reached))
    (subst (λ l. act_in t (top 0 l) end.id ≡ Accept) line accept)
    (one_entry read.taken read.same read.forest)

pub complete_law : CompleteLaw
complete_law g t lawful end tree e is = complete lawful e is

same_tree : {x y : Sym} {tree other : Tree} {p q : ℕ} → ◌≡◌ {A = List Entry} (record { symbol = x; tree = tree; state = p } ∷ []) (record { symbol = y; tree = other; state = q } ∷ []) → tree ≡ other
same_tree e = ap (λ l. tree_on l) e
  where
    tree_on : List Entry → Tree
    tree_on [] = Node 0 NoTree
    tree_on (e ∷ s) = e.tree

pub one_accepted : {t : Tables} {u : List TextToken} {end : TextToken} {tree other : Tree} → Accepts t u end tree → Accepts t u end other → tree ≡ other
one_accepted {end = end} first second =
    ⊎_elim
    (λ run. sym (same_tree (stops run end [] refl (inr first.accept)).0))
    (λ run. same_tree (stops run end [] refl (inr second.accept)).0)
    (compared first.reached second.reached)

end_token : Tables → TextToken
end_token t = record { id = t.tokens; place = record { line = 0; start = 0; len = 0 } }

pub one_tree_law : OneTreeLaw
unfolding end_token
one_tree_law g t lawful tree other is too same =
    one_accepted (complete lawful {end = end_token t} refl is) (subst (λ l. Accepts t l (end_token t) other) (sym same) (complete lawful {end = end_token t} refl too))

-- ---- soundness

-- where the action is an acceptance, the start alone is on the stack, under the end mark
pub accept_item : {g : Grammar} {t : Tables} → IsLawfulFor g t → {s : List Entry} {a : ℕ} → IsStack t 0 s → act_in t (top 0 s) a ≡ Accept → (symbols s ≡ Name g.start ∷ []) × (a ≡ end_mark g)
accept_item {g} lawful {s} {a} is act =
    let deed = (lawful.acts s a is to_accept).0 (ap deed_of act) in
    (at_end deed.1 deed.2, under_end deed.2 refl)
  where
    no_dot : {i : Item} {n : ℕ} {front : List Sym} → Dotted g i n front [] → i.dot ≡ 0 → i.rule ≡ length g.rules → ⊥
    no_dot {i} dotted zero last =
        let front : Dotted g i g.names [] (Name g.start ∷ []) = record { rule = subst (λ (k : ℕ). IsRule (all_rules g) k g.names (Name g.start ∷ [])) (sym last) (last_rule g); dot = zero } in
        cons_nil (dotted_once dotted front).2
      where
        cons_nil : {y : Sym} {ys : List Sym} → [] ≡ y ∷ ys → ⊥
        cons_nil e = cc

    at_dot : {i : Item} {n : ℕ} {front : List Sym} → Dotted g i n front [] → i.rule ≡ length g.rules → IsValid g (symbols s) i → symbols s ≡ Name g.start ∷ []
    at_dot {i} dotted last v = ⊎_elim (λ h. absurd (no_dot dotted (ap (λ (k : Item). k.dot) h.1) last)) (λ h. h.0) ((augmented_items_law g lawful.range (symbols s) i last).0 v)

    accepting : {i : Item} {deed : Deed} → IsValid g (symbols s) i → Does g i a deed → deed ≡ to_accept → symbols s ≡ Name g.start ∷ []
    accepting v (shifts dotted) e = absurd (cc)
    accepting v (item_reduces dotted less at is) e = absurd (cc)
    accepting v (accepts dotted last at) e = at_dot dotted last v

    at_end : {i : Item} → IsValid g (symbols s) i → Does g i a to_accept → symbols s ≡ Name g.start ∷ []
    at_end v does = accepting v does refl

    under_end : {i : Item} {deed : Deed} → Does g i a deed → deed ≡ to_accept → a ≡ end_mark g
    under_end (shifts dotted) e = absurd (cc)
    under_end (item_reduces dotted less at is) e = absurd (cc)
    under_end (accepts dotted last at) e = at

top_tree : {t : Tables} {base : ℕ} {s : List Entry} {e : Entry} → IsStack t base (e ∷ s) → IsTree t.rules e.symbol e.tree
top_tree (pushed is tree step) = tree

pub sound : {g : Grammar} {t : Tables} → IsLawfulFor g t → {u : List TextToken} {end : TextToken} {tree : Tree} → Accepts t u end tree → IsTree g.rules (Name g.start) tree × (yield tree ≡ u)
sound {g} {t} lawful {u} {end} {tree} accepted =
    let is = run_stack lawful accepted.reached bottom in
    let start : accepted.symbol ≡ Name g.start = first_of (accept_item lawful is accepted.accept).0 in (
      subst (λ (l : List Rule). IsTree l (Name g.start) tree) lawful.rules (subst (λ x. IsTree t.rules x tree) start (top_tree is)),
      sym (append_cancel_right u (yield tree) (end ∷ []) (run_tokens accepted.reached)),
    )
  where
    first_of : {x y : Sym} → x ∷ [] ≡ y ∷ [] → x ≡ y
    first_of e = cc

pub sound_law : SoundLaw
sound_law g t lawful tokens end tree accepted = sound lawful accepted
