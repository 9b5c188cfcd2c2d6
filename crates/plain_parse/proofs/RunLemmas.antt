-- The lists of a parse as the machine's stack: lengths, what stands on top, what a reduction takes, and what it leaves.
use Rattle.std.proofs.Common.{◌≡◌, ℕ, suc, ◌+◌, ◌-◌, ◌^◌, ◌<◌, ◌≤◌, List, [], ◌∷◌, ◌++◌, length, take, drop, get_or, Some, refl, sym, ap, ◌∙◌, subst, append_assoc, append-nil, arith}
use Rattle.std.proofs.Math.Seq.{get_or-append_seam, take-append_seam, drop-append_seam, drop-cons}
use Rattle.std.proofs.lemmas.List.{get_or_append_left, get_or_default, length-append, length_push, take-append-le, take_all}
use Rattle.grammar_data.specs.declared.rule.Sym.{Sym}
use Rattle.grammar_data.specs.declared.token.Token.{Token as TextToken}
use Rattle.grammar_theory.specs.Trees.{Forest, NoTree, FirstTree, nodes, nodes_of, token_tree}
use Rattle.table_data.specs.declared.act.Act.TheVariants.{Shift, Reduce}
use Rattle.table_data.specs.Tables.{Tables, act_in, goto_in, shift_of}
use Rattle.machine_theory.specs.Machine.{Entry, top, forest_onto, IsStack, bottom, pushed, shifted, reduced, Reduces, Reaches, here, after_reduction, after_shift}
use Rattle.machine_theory.proofs.RunLemmas.{reaches_then}
use Rattle.machine_theory.proofs.StackLemmas.{length-symbols}
use Rattle.lawful_theory.specs.Lawful.{IsLawful}
use Rattle.lawful_theory.proofs.FitLemmas.{IsReduced as IsReducedStack, reduction}
use Rattle.node_data.specs.declared.kid.Kid.{Kid}
use Rattle.node_data.specs.declared.kid.Kid.TheVariants.{Token as TokenKid}
use Rattle.tree_theory.specs.Stores.{Ref, Store, Shows, shows_token, shows_node, ShowsAll, shows_none, shows_more}
use Rattle.tree_theory.proofs.ShownLemmas.{grow_law}
use Rattle.node_store.specs.Chunks.{node_count_in, numbers_in, store_of}
use Rattle.plain_parse.specs.declared.run.Run.{Run}
use Rattle.plain_parse.specs.Runs.{end_of, input_of, token_of, states_of, nodes_on, ShowsStack, shows_bottom, shows_entry, IsRun, IsStart, top_of, FitsReduction, IsReducible, IsReduced}

-- ---- lists of states

pub length_states : (s : List Entry) → length (states_of s) ≡ length s + 1
length_states [] = refl
length_states (e ∷ s) = let more = length_push (states_of s) e.state in let below = length_states s in omega (arith, more, below)

-- the state on top stands last
pub state_on_top : (s : List Entry) → get_or (states_of s) (length s) 0 ≡ top 0 s
state_on_top [] = refl
state_on_top (e ∷ s) = ap (λ i. get_or (states_of s ++ e.state ∷ []) i 0) (at (length s) (length_states s)) ∙ get_or-append_seam (states_of s) e.state [] 0
  where
    at : (n : ℕ) → length (states_of s) ≡ n + 1 → suc n ≡ length (states_of s)
    at n e = omega arith

longer : (e : Entry) (taken rest : List Entry) → length rest + 1 ≤ length (states_of (taken ++ rest))
longer e taken rest = let count = length_states (taken ++ rest) in let both = length-append taken rest in omega (arith, count, both)

-- the states of the lower part of a stack
pub states_below : (taken rest : List Entry) → take (length rest + 1) (states_of (taken ++ rest)) ≡ states_of rest
states_below [] rest = take_all (length rest + 1) (states_of rest) (let count = length_states rest in omega (arith, count))
states_below (e ∷ taken) rest = take-append-le (length rest + 1) (states_of (taken ++ rest)) (e.state ∷ []) (longer e taken rest) ∙ states_below taken rest

pub state_below : (taken rest : List Entry) → get_or (states_of (taken ++ rest)) (length rest) 0 ≡ top 0 rest
state_below [] rest = state_on_top rest
state_below (e ∷ taken) rest = get_or_append_left (states_of (taken ++ rest)) (e.state ∷ []) 0 (length rest) (let more = longer e taken rest in omega (arith, more)) ∙ state_below taken rest

-- ---- kids

pub length_shown : {store : Store} {s : List Entry} {kids : List Kid} → ShowsStack store s kids → length kids ≡ length s
length_shown shows_bottom = refl
length_shown (shows_entry {s = s} {below = below} {kid = kid} shown one at) = ap length at ∙ length_push below kid ∙ ap (λ k. k + 1) (length_shown shown) ∙ plus_one (length s)
  where
    plus_one : (k : ℕ) → k + 1 ≡ suc k
    plus_one k = omega arith

-- what a store that keeps the nodes shows
pub stack_grown : {store : Store} (now : Store) → ((m : Ref) (r : ℕ) (kids : List Kid) → store m ≡ Some (r, kids) → now m ≡ Some (r, kids)) → {s : List Entry} {kids : List Kid} → ShowsStack store s kids → ShowsStack now s kids
stack_grown now kept shows_bottom = shows_bottom
stack_grown {store} now kept (shows_entry {e = e} {kid = kid} shown one at) = shows_entry (stack_grown now kept shown) (λ n i. grow_law store now [] [] kept (λ m trees has. has) n i kid e.tree (one n i)) at

grown_all : {store : Store} (now : Store) → ((m : Ref) (r : ℕ) (kids : List Kid) → store m ≡ Some (r, kids) → now m ≡ Some (r, kids)) → {n : Ref} {i : ℕ} {kids : List Kid} {trees : Forest} → ShowsAll store [] n i kids trees → ShowsAll now [] n i kids trees
grown_all now kept shows_none = shows_none
grown_all {store} now kept (shows_more {n = n} {i = i} {kid = kid} {tree = tree} first rest) = shows_more (grow_law store now [] [] kept (λ m trees has. has) n i kid tree first) (grown_all now kept rest)

-- the kids of the upper part of a stack and those of the lower part
pub record Split (store : Store) (taken rest : List Entry) (kids : List Kid) : Type 0 where
  pub lower : List Kid
  pub upper : List Kid
  pub parts : kids ≡ lower ++ upper
  pub size : length upper ≡ length taken
  pub below : ShowsStack store rest lower
  pub above : (m : Ref) (i : ℕ) (more : List Kid) (trees : Forest) → ((j : ℕ) → ShowsAll store [] m j more trees) → ShowsAll store [] m i (upper ++ more) (forest_onto taken trees)

split_more : {store : Store} {e : Entry} (taken rest : List Entry) {below kids : List Kid} {kid : Kid} → Split store taken rest below → ((n : Ref) (i : ℕ) → Shows store [] n i kid e.tree) → kids ≡ below ++ kid ∷ [] → Split store (e ∷ taken) rest kids
split_more {store} {e} taken rest {kid = kid} split one at = record {
  lower = split.lower;
  upper = split.upper ++ kid ∷ [];
  parts = at ∙ ap (λ l. l ++ kid ∷ []) split.parts ∙ append_assoc split.lower split.upper (kid ∷ []);
  size = longer_by_one (length split.upper) (length taken) (length_push split.upper kid) split.size;
  below = split.below;
  above = λ m i more trees all. subst (λ l. ShowsAll store [] m i l (forest_onto taken (FirstTree e.tree trees))) (sym (append_assoc split.upper (kid ∷ []) more)) (split.above m i (kid ∷ more) (FirstTree e.tree trees) (λ j. shows_more (one m j) (all (suc j))));
}
  where
    longer_by_one : (n k : ℕ) {m : ℕ} → m ≡ n + 1 → n ≡ k → m ≡ suc k
    longer_by_one n k e f = omega arith

pub split : {store : Store} (taken rest : List Entry) {kids : List Kid} → ShowsStack store (taken ++ rest) kids → Split store taken rest kids
split [] rest {kids} shown = record {
  lower = kids;
  upper = [];
  parts = sym (append-nil kids);
  size = refl;
  below = shown;
  above = λ m i more trees all. all i;
}
split (e ∷ taken) rest (shows_entry shown one at) = split_more taken rest (split taken rest shown) one at

-- ---- nodes

pub nodes_forest : (s : List Entry) (trees : Forest) → nodes_of (forest_onto s trees) ≡ nodes_on s + nodes_of trees
nodes_forest [] trees = zero_plus (nodes_of trees)
  where
    zero_plus : (k : ℕ) → k ≡ 0 + k
    zero_plus k = omega arith
nodes_forest (e ∷ s) trees = nodes_forest s (FirstTree e.tree trees) ∙ regroup (nodes_on s) (nodes e.tree) (nodes_of trees)
  where
    regroup : (a b c : ℕ) → a + (b + c) ≡ (a + b) + c
    regroup a b c = omega arith

pub nodes-append : (taken rest : List Entry) → nodes_on (taken ++ rest) ≡ nodes_on rest + nodes_on taken
nodes-append [] rest = plus_zero (nodes_on rest)
  where
    plus_zero : (k : ℕ) → k ≡ k + 0
    plus_zero k = omega arith
nodes-append (e ∷ taken) rest = ap (λ k. k + nodes e.tree) (nodes-append taken rest) ∙ regroup (nodes_on rest) (nodes_on taken) (nodes e.tree)
  where
    regroup : (a b c : ℕ) → (a + b) + c ≡ a + (b + c)
    regroup a b c = omega arith

-- ---- the input

-- what is left of the input begins with its token at the index
pub front : (t : Tables) (tokens : List TextToken) (index : ℕ) → index ≤ length tokens → drop index (input_of t tokens) ≡ get_or (input_of t tokens) index (end_of t) ∷ drop (suc index) (input_of t tokens)
front t tokens index within = drop-cons (input_of t tokens) index (end_of t) (let count = length_push tokens (end_of t) in omega (arith, count))

pub text_token : (t : Tables) (tokens : List TextToken) (index : ℕ) (d : TextToken) → index < length tokens → get_or (input_of t tokens) index d ≡ get_or tokens index d
text_token t tokens index d within = get_or_append_left tokens (end_of t ∷ []) d index within

pub end_token : (t : Tables) (tokens : List TextToken) (d : TextToken) → get_or (input_of t tokens) (length tokens) d ≡ end_of t
end_token t tokens d = get_or-append_seam tokens (end_of t) [] d

-- ---- what stands

module _ {t : Tables} {tokens : List TextToken} {index : ℕ} {run : Run} (at : IsRun t tokens index run) where
  pub level : length run.states.items ≡ length run.kids.items + 1
  level = let one = ap (λ (l : List ℕ). length l) at.states in let count = length_states at.stack in let shown = length_shown at.shown in omega (arith, one, count, shown)

  pub top_is : top_of run ≡ top 0 at.stack
  top_is =
      let one = ap (λ (l : List ℕ). length l) at.states in
      let count = length_states at.stack in
      let place : length run.states.items - 1 ≡ length at.stack = omega (arith, one, count) in
      ap (λ k. get_or run.states.items k 0) place ∙ ap (λ l. get_or l (length at.stack) 0) at.states ∙ state_on_top at.stack

pub started : (t : Tables) (tokens : List TextToken) (run : Run) → IsStart run → IsRun t tokens 0 run
started t tokens run start = record {
  stack = [];
  is_stack = bottom;
  states = start.states;
  shown = subst (λ (l : List Kid). ShowsStack (store_of run.store) [] l) (sym start.kids) shows_bottom;
  count = start.count;
  chunks = start.chunks;
  reached = here;
}

-- after a shift
shift_reached : {t : Tables} {all u : List TextToken} {stack : List Entry} {token : TextToken} {v : List TextToken} {p : ℕ} → Reaches t 0 [] all stack u → u ≡ token ∷ v → act_in t (top 0 stack) token.id ≡ Shift p → Reaches t 0 [] all (shifted token p ∷ stack) v
shift_reached {t} {all} {stack = stack} run e act = reaches_then (subst (λ l. Reaches t 0 [] all stack l) e run) (after_shift act here)

pub run_shifted : (t : Tables) (tokens : List TextToken) (index : ℕ) (run next : Run) (token : TextToken) (p : ℕ) → IsRun t tokens index run → index < length tokens → token ≡ get_or tokens index token → act_in t (top_of run) (token_of t tokens index) ≡ Shift p → next.states.items ≡ run.states.items ++ p ∷ [] → next.kids.items ≡ run.kids.items ++ TokenKid token ∷ [] → next.store ≡ run.store → IsRun t tokens (index + 1) next
run_shifted t tokens index run next token p at within is act states kids store =
    let same = top_is at in
    let there : get_or (input_of t tokens) index (end_of t) ≡ token = text_token t tokens index (end_of t) within ∙ (get_or_default tokens index (end_of t) token within ∙ sym is) in
    let acts : act_in t (top 0 at.stack) token.id ≡ Shift p = ap (λ q. act_in t q token.id) (sym same) ∙ ap (λ (x : TextToken). act_in t (top_of run) x.id) (sym there) ∙ act in
    record {
      stack = shifted token p ∷ at.stack;
      is_stack = pushed at.is_stack (token_tree refl) (ap shift_of acts);
      states = states ∙ ap (λ l. l ++ p ∷ []) at.states;
      shown = shows_entry (subst (λ s. ShowsStack (store_of s) at.stack run.kids.items) (sym store) at.shown) (λ n i. shows_token) kids;
      count = ap node_count_in store ∙ at.count ∙ plus_zero (nodes_on at.stack);
      chunks = ap numbers_in store ∙ at.chunks;
      reached = subst (λ k. Reaches t 0 [] (input_of t tokens) (shifted token p ∷ at.stack) (drop k (input_of t tokens))) (one_more index) (shift_reached at.reached (front t tokens index (omega arith) ∙ ap (λ (x : TextToken). x ∷ drop (suc index) (input_of t tokens)) there) acts);
    }
  where
    plus_zero : (k : ℕ) → k ≡ k + 0
    plus_zero k = omega arith

    one_more : (k : ℕ) → suc k ≡ k + 1
    one_more k = omega arith

-- ---- a reduction

-- the lists of a stack whose upper part is taken
pub record Taken (run : Run) (taken rest : List Entry) (size : ℕ) : Type 0 where
  pub enough : size ≤ length run.kids.items
  pub from : get_or run.states.items (length run.kids.items - size) 0 ≡ top 0 rest
  pub states : take (length run.states.items - size) run.states.items ≡ states_of rest
  pub lower : ShowsStack (store_of run.store) rest (take (length run.kids.items - size) run.kids.items)
  pub upper : (m : Ref) → ShowsAll (store_of run.store) [] m 0 (drop (length run.kids.items - size) run.kids.items) (forest_onto taken NoTree)

upper_at : {store : Store} (taken rest : List Entry) {kids : List Kid} (size : ℕ) → length taken ≡ size → (split : Split store taken rest kids) → (ShowsStack store rest (take (length kids - size) kids)) × ((m : Ref) → ShowsAll store [] m 0 (drop (length kids - size) kids) (forest_onto taken NoTree))
upper_at {store} taken rest {kids} size count split =
    let whole = length-append split.lower split.upper in
    let long = ap (λ (l : List Kid). length l) split.parts in
    let place : length kids - size ≡ length split.lower = omega (arith, whole, long, split.size, count) in
    let lower : take (length kids - size) kids ≡ split.lower = ap (λ k. take k kids) place ∙ ap (λ l. take (length split.lower) l) split.parts ∙ take-append_seam split.lower split.upper in
    let upper : drop (length kids - size) kids ≡ split.upper ++ [] = ap (λ k. drop k kids) place ∙ ap (λ l. drop (length split.lower) l) split.parts ∙ drop-append_seam split.lower split.upper ∙ sym (append-nil split.upper) in (
      subst (λ l. ShowsStack store rest l) (sym lower) split.below,
      λ m. subst (λ l. ShowsAll store [] m 0 l (forest_onto taken NoTree)) (sym upper) (split.above m 0 [] NoTree (λ j. shows_none)),
    )

taken_at : {t : Tables} {tokens : List TextToken} {index : ℕ} {run : Run} (at : IsRun t tokens index run) (taken rest : List Entry) (size : ℕ) → at.stack ≡ taken ++ rest → length taken ≡ size → Taken run taken rest size
taken_at {run = run} at taken rest size parts count =
    let states : run.states.items ≡ states_of (taken ++ rest) = at.states ∙ ap states_of parts in
    let level_is = level at in
    let whole = length-append taken rest in
    let long = ap (λ (l : List Entry). length l) parts in
    let shown_size = length_shown at.shown in
    let place : length run.kids.items - size ≡ length rest = omega (arith, whole, long, shown_size, count) in
    let more : length run.states.items - size ≡ length rest + 1 = omega (arith, whole, long, shown_size, count, level_is) in
    let kids = upper_at taken rest size count (split taken rest (subst (λ s. ShowsStack (store_of run.store) s run.kids.items) parts at.shown)) in
    record {
      enough = omega (arith, whole, long, shown_size, count);
      from = ap (λ k. get_or run.states.items k 0) place ∙ ap (λ l. get_or l (length rest) 0) states ∙ state_below taken rest;
      states = ap (λ k. take k run.states.items) more ∙ ap (λ l. take (length rest + 1) l) states ∙ states_below taken rest;
      lower = kids.0;
      upper = kids.1;
    }

reduce_reached : {t : Tables} {all u : List TextToken} {stack next : List Entry} {token : TextToken} {v : List TextToken} → Reaches t 0 [] all stack u → u ≡ token ∷ v → Reduces t 0 token.id stack next → Reaches t 0 [] all next u
reduce_reached {t} {all} {u} {stack} {next} {token} {v} run e move = subst (λ l. Reaches t 0 [] all next l) (sym e) (reaches_then (subst (λ l. Reaches t 0 [] all stack l) e run) (after_reduction move here))

module _ {t : Tables} (lawful : IsLawful t) {tokens : List TextToken} {index : ℕ} {run : Run} (at : IsRun t tokens index run) (within : index ≤ length tokens) {r : ℕ} (act : act_in t (top_of run) (token_of t tokens index) ≡ Reduce r) where
  by : IsReducedStack (record { tokens = t.tokens; names = t.names; rules = t.rules; start = lawful.0 }) t at.stack (token_of t tokens index) r
  by = reduction lawful.1 at.is_stack (ap (λ q. act_in t q (token_of t tokens index)) (sym (top_is at)) ∙ act)

  size_is : length by.taken ≡ length by.right
  size_is = sym (length-symbols by.taken) ∙ ap (λ (l : List Sym). length l) by.same

  taken_is : Taken run by.taken by.rest (length by.right)
  taken_is = taken_at at by.taken by.rest (length by.right) by.parts size_is

  rest_stack : {e : Entry} → IsStack t 0 (e ∷ by.rest) → IsStack t 0 by.rest
  rest_stack (pushed is tree step) = is

  fits : FitsReduction t r run (length by.right) by.state
  fits = record {
    name = by.name;
    right = by.right;
    rule = by.rule;
    symbols = refl;
    enough = taken_is.enough;
    level = level at;
    within = subst (λ q. q < t.states) (sym taken_is.from) (lawful.1.within by.rest (rest_stack by.stack));
    goes = ap (λ q. goto_in t q by.name) taken_is.from ∙ by.goes;
    chunks = at.chunks;
  }

  pub reducible : IsReducible t r run
  reducible = (length by.right, by.state, fits)

  run_reduced_by : (next : Run) → IsReduced r (length by.right) by.state run next → IsRun t tokens index next
  run_reduced_by next made =
      let entry : Entry = reduced r by.name by.taken by.state in
      let forest = nodes_forest by.taken NoTree in
      let both = nodes-append by.taken by.rest in
      let same = ap (λ s. nodes_on s) by.parts in
      record {
        stack = entry ∷ by.rest;
        is_stack = by.stack;
        states = made.states ∙ ap (λ (l : List ℕ). l ++ by.state ∷ []) taken_is.states;
        shown = shows_entry (stack_grown (store_of next.store) made.stores.kept taken_is.lower) (λ n i. shows_node (drop (length run.kids.items - length by.right) run.kids.items) made.stores.some (all_grown made.node)) made.kids;
        count = count_of (nodes_of (forest_onto by.taken NoTree)) (nodes_on by.taken) (nodes_on by.rest) made.count at.count (same ∙ both) forest;
        chunks = made.chunks;
        reached = reduce_reached at.reached (front t tokens index within) by.move;
      }
    where
      count_of : (inner on rest : ℕ) {before now here : ℕ} → now ≡ before + 1 → before ≡ here → here ≡ rest + on → inner ≡ on + 0 → now ≡ rest + suc inner
      count_of inner on rest e f g h = omega arith

      all_grown : (m : Ref) → ShowsAll (store_of next.store) [] m 0 (drop (length run.kids.items - length by.right) run.kids.items) (forest_onto by.taken NoTree)
      all_grown m = grown_all (store_of next.store) made.stores.kept (taken_is.upper m)

  pub run_reduced : (next : Run) → ((size state : ℕ) → FitsReduction t r run size state → IsReduced r size state run next) → IsRun t tokens index next
  run_reduced next made = run_reduced_by next (made (length by.right) by.state fits)

  -- there is one node more, and room for it
  pub one_node_more : (next : Run) → ((size state : ℕ) → FitsReduction t r run size state → IsReduced r size state run next) → 2 ^ 64 - node_count_in next.store < 2 ^ 64 - node_count_in run.store
  one_node_more next made = let by_one = made (length by.right) by.state fits in omega (arith, by_one.count, by_one.few)
