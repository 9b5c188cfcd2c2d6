-- The gathered entries as the machine's stack: what stands on top, what a reduction takes, and what it leaves.
use Rattle.std.proofs.Common.{◌≡◌, ◌≢◌, ℕ, ◌+◌, ◌-◌, ◌^◌, ◌<◌, ◌≤◌, List, [], ◌∷◌, ◌++◌, length, take, drop, Contains, Option, Some, None, refl, sym, ap, ◌∙◌, subst, subst₂, append_assoc, append-nil, arith}
use Rattle.std.proofs.lemmas.List.Elements.{All-push}
use Rattle.std.proofs.lemmas.List.{length-append, length-take, length-drop, take-append-drop}
use Rattle.grammar_data.specs.declared.rule.Sym.{Sym}
use Rattle.grammar_data.specs.declared.token.Token.{Token as TextToken}
use Rattle.grammar_theory.specs.Trees.{Forest, NoTree}
use Rattle.node_data.specs.declared.kid.Kid.{Kid}
use Rattle.node_data.specs.declared.kid.Kid.TheVariants.{Node as NodeKid, Hidden}
use Rattle.tree_theory.specs.Stores.{Ref, Store, ShowsAll, shows_none, shows_more, shows_node}
use Rattle.tree_theory.proofs.ShownLemmas.{grow_law}
use Rattle.tree_theory.specs.Walks.{Step, Leave, walks_node, WalksAll, walks_none, walks_more, tokens_in}
use Rattle.table_data.specs.declared.act.Act.TheVariants.{Reduce}
use Rattle.table_data.specs.Tables.{Tables, act_in, goto_in}
use Rattle.machine_theory.specs.Machine.{Entry, top, forest_onto, IsStack, bottom, pushed, reduced, Reaches, here, after_reduction}
use Rattle.machine_theory.proofs.RunLemmas.{reaches_then}
use Rattle.machine_theory.proofs.StackLemmas.{length-symbols}
use Rattle.lawful_theory.specs.Lawful.{IsLawful}
use Rattle.lawful_theory.proofs.FitLemmas.{IsReduced as IsReducedStack, reduction, run_stack}
use Rattle.use_theory.specs.Distinct.{IsDistinct, around}
use Rattle.use_theory.proofs.DistinctLemmas.{grown_law}
use Rattle.use_theory.proofs.FillLemmas.{tokens-append, walk_then}
use Rattle.piece_theory.specs.Pieces.{Fault, Held, kids_of}
use Rattle.piece_theory.specs.Applies.{nowhere, node_symbol, Puts, Tells, tells_error, tells_stack}
use Rattle.piece_theory.specs.Laws.{HasMore}
use Rattle.piece_theory.proofs.StoreLemmas.{walk_all_more}
use Rattle.arm_laws.proofs.PutLemmas.{puts_then, puts_split, put_grow, put_above}
use Rattle.join_theory.proofs.PutLemmas.{top_state}
use Rattle.walk_laws.proofs.WalkLemmas.{AreShown, shown_front, shown_back, none_hidden, walks_parted, walks_elsewhere}
use Rattle.finish_theory.proofs.EndingLemmas.{falls_ground, ground_left, ground_fault}
use Rattle.node_store.specs.Chunks.{StoresNode, node_count_in, numbers_in, store_of}
use Rattle.stack_finish.specs.declared.gathered.Gathered.{Gathered}
use Rattle.stack_finish.specs.Gathering.{ground, entries_on, piece_on, last_state, top_of, IsUnder, FitsReduction, CanReduce, IsReducedBy}
use Rattle.stack_finish.proofs.EntryLemmas.{length_entries, entries_kids, entries-append, state_on, alive, same_parts, all_shown}

-- ---- the stack

-- the machine has come to a stack that the entries are
pub record IsStanding (t : Tables) (store : Store) (kids : List Kid) (states : List ℕ) (tokens : List TextToken) (token : TextToken) : Type 0 where
  pub last : List Entry
  pub up : Puts t.rules store [] 0 (entries_on kids states) [] last
  pub run : Reaches t 0 [] (tokens ++ token ∷ []) last (token ∷ [])
  pub on_top : last_state 0 states ≡ top 0 last

same_state : {p q : ℕ} → ◌≡◌ {A = Option ℕ} (Some p) (Some q) → p ≡ q
same_state e = cc

no_ground_fault : {x : Fault} → ◌≡◌ {A = Option Fault} None (Some x) → ⊥
no_ground_fault e = cc

pub standing : {t : Tables} {store : Store} {kids : List Kid} {states : List ℕ} {tokens : List TextToken} {token : TextToken} → length states ≡ length kids → Tells t store (piece_on kids states) tokens (token ∷ []) [] → IsStanding t store kids states tokens token
standing even (tells_error fails errs) = absurd (no_ground_fault (ground_fault {e = ground} refl fails))
standing {t} {store} {kids} {states} {tokens} {token} even (tells_stack {last = last} leaves run) =
    let left = ground_left {e = ground} refl leaves.down in
    let first = subst (λ l. Puts t.rules store l (top 0 leaves.rest) (entries_on kids states) leaves.rest last) left.1 leaves.up in
    let up : Puts t.rules store [] 0 (entries_on kids states) [] last = subst (λ l. Puts t.rules store [] (top 0 l) (entries_on kids states) l last) left.0 first in
    record { last = last; up = up; run = run; on_top = same_state (sym (state_on kids states even) ∙ top_state ground.starts alive up) }

-- the upper entries are taken
pub record IsCut (t : Tables) (store : Store) (low high : List Kid) (lower upper : List ℕ) (taken rest : List Entry) : Type 0 where
  pub below : Puts t.rules store [] 0 (entries_on low lower) [] rest
  pub all : (m : Ref) (i : ℕ) → ShowsAll store [] m i high (forest_onto taken NoTree)
  pub state : last_state 0 lower ≡ top 0 rest

cut_at : (t : Tables) (store : Store) (low high : List Kid) (lower upper : List ℕ) {last : List Entry} (taken rest : List Entry) → length lower ≡ length low → length upper ≡ length high → length high ≡ length taken → last ≡ taken ++ rest → Puts t.rules store [] 0 (entries_on (low ++ high) (lower ++ upper)) [] last → IsCut t store low high lower upper taken rest
cut_at t store low high lower upper {last} taken rest even even1 many parts up =
    let split = puts_split (entries_on low lower) (entries_on high upper) (subst (λ l. Puts t.rules store [] 0 l [] last) (entries-append low high lower upper even) up) in
    let above = put_above split.2 in
    let entries = length_entries high upper even1 in
    let counted = above.count in
    let same = same_parts above.pushed taken split.0 rest (omega (arith, many, entries, counted)) (sym above.parts ∙ parts) in
    let below : Puts t.rules store [] 0 (entries_on low lower) [] rest = subst (λ l. Puts t.rules store [] 0 (entries_on low lower) [] l) same.1 split.1 in
    record {
      below = below;
      all = λ m i. cut_all m i above.pushed same.0 (above.all m i);
      state = same_state (sym (state_on low lower even) ∙ top_state ground.starts alive below);
    }
  where
    cut_all : (m : Ref) (i : ℕ) (others : List Entry) → others ≡ taken → ShowsAll store [] m i (kids_of (entries_on high upper)) (forest_onto others NoTree) → ShowsAll store [] m i high (forest_onto taken NoTree)
    cut_all m i others same all = subst (λ l. ShowsAll store [] m i high (forest_onto l NoTree)) same (subst (λ l. ShowsAll store [] m i l (forest_onto others NoTree)) (entries_kids high upper even1) all)

-- ---- a reduction

all_more : {store new : Store} → HasMore store new → {n : Ref} {i : ℕ} {kids : List Kid} {trees : Forest} → ShowsAll store [] n i kids trees → ShowsAll new [] n i kids trees
all_more has shows_none = shows_none
all_more {store} {new} has (shows_more {n = n} {i = i} {kid = kid} {tree = tree} one rest) = shows_more (grow_law store new [] [] has (λ k trees given. given) n i kid tree one) (all_more has rest)

-- a new node has the upper kids
module _ {t : Tables} (lawful : IsLawful t) (store new : Store) (low high : List Kid) (lower upper : List ℕ) (tokens : List TextToken) (token : TextToken) (nodes : List Ref) (behind : List Step) (even : length lower ≡ length low) (even1 : length upper ≡ length high) (under : IsUnder t store (low ++ high) (lower ++ upper) tokens token nodes behind) (m : Ref) (r : ℕ) (stores : StoresNode store new r high m) where
  has_more : HasMore store new
  has_more = stores.kept

  shown : AreShown (low ++ high)
  shown = all_shown (low ++ high) under.visible

  -- the walk over the entries
  pub record IsRewalked : Type 0 where
    pub first : List Step
    pub inner : List Step
    pub parts : under.steps ≡ first ++ inner
    pub walk : WalksAll new nowhere 0 (low ++ NodeKid m ∷ []) (first ++ around m 0 inner)
    pub once : IsDistinct new nodes (first ++ (around m 0 inner ++ behind))

  rewalked : IsRewalked
  rewalked =
      let cut = walks_parted low high under.walk in
      let inner : WalksAll new m 0 high cut.inner = walk_all_more has_more (walks_elsewhere (shown_back low high shown) cut.up m 0) in
      let whole = subst (λ l. IsDistinct store nodes l) (ap (λ l. l ++ behind) cut.parts ∙ append_assoc cut.first cut.inner behind) under.each_once in
      record {
        first = cut.first;
        inner = cut.inner;
        parts = cut.parts;
        walk = walk_then (walk_all_more has_more cut.low) (0 + length low) (NodeKid m ∷ []) (around m 0 cut.inner) refl (walks_more (walks_node high stores.some inner refl) walks_none (sym (append-nil (around m 0 cut.inner))));
        once = grown_law store new m r 0 high nodes nodes cut.first cut.inner behind stores.none stores.some stores.others
            (let within = under.each_once.within m in let one = under.each_once.once m in omega (arith, within, one)) (λ n not. refl) (λ has. absurd (none_hidden high (shown_back low high shown) has)) whole;
      }

  around_tokens : (inner : List Step) → tokens_in (around m 0 inner) ≡ tokens_in inner
  around_tokens inner = tokens-append inner (Leave m ∷ []) ∙ append-nil (tokens_in inner)

  module _ (stand : IsStanding t store (low ++ high) (lower ++ upper) tokens token) (by : IsReducedStack (record { tokens = t.tokens; names = t.names; rules = t.rules; start = lawful.0 }) t stand.last token.id r) (many : length high ≡ length by.taken) where
    cut : IsCut t store low high lower upper by.taken by.rest
    cut = cut_at t store low high lower upper by.taken by.rest even even1 many by.parts stand.up

    pub under_reduced : IsUnder t new (low ++ NodeKid m ∷ []) (lower ++ by.state ∷ []) tokens token nodes behind
    under_reduced =
        let h : Held = record { kid = NodeKid m; states = (0, by.state) ∷ [] } in
        let entries : entries_on (low ++ NodeKid m ∷ []) (lower ++ by.state ∷ []) ≡ entries_on low lower ++ h ∷ [] = entries-append low (NodeKid m ∷ []) lower (by.state ∷ []) even in
        let up = puts_then (put_grow has_more (λ n trees has. has) cut.below) h (node_symbol high stores.some by.rule) (shows_node high stores.some (grown_all m)) refl in
        let walked = rewalked in
        record {
          even = (let a = length-append lower (by.state ∷ []) in let b = length-append low (NodeKid m ∷ []) in omega (arith, a, b, even));
          tells = tells_stack (record { rest = []; supply = []; down = falls_ground ground refl refl; up = subst (λ l. Puts t.rules new [] 0 l [] (reduced r by.name by.taken by.state ∷ by.rest)) (sym entries) up }) (reaches_then stand.run (after_reduction by.move here));
          visible = λ has. last_shown has;
          steps = walked.first ++ around m 0 walked.inner;
          walk = walked.walk;
          yields = tokens-append walked.first (around m 0 walked.inner) ∙ ap (λ l. tokens_in walked.first ++ l) (around_tokens walked.inner) ∙ sym (tokens-append walked.first walked.inner) ∙ ap tokens_in (sym walked.parts) ∙ under.yields;
          each_once = subst (λ l. IsDistinct new nodes l) (sym (append_assoc walked.first (around m 0 walked.inner) behind)) walked.once;
        }
      where
        grown_all : (n : Ref) → ShowsAll new [] n 0 high (forest_onto by.taken NoTree)
        grown_all n = all_more has_more (cut.all n 0)

        last_shown : Contains {X = Kid} (low ++ NodeKid m ∷ []) Hidden → ⊥
        last_shown has = none_hidden (low ++ NodeKid m ∷ []) (All-push {X = Kid} (λ kid. kid ≢ Hidden) low (NodeKid m) (shown_front low high shown) (λ e. cc)) has

-- ---- the lists of a parse

abbrev pub below_of : {X : Type 0} → List X → ℕ → List X
below_of xs size = take (length xs - size) xs

abbrev pub above_of : {X : Type 0} → List X → ℕ → List X
above_of xs size = drop (length xs - size) xs

-- a reduction on the lists, under a token
module _ {t : Tables} (lawful : IsLawful t) (s : Gathered) (tokens : List TextToken) (token : TextToken) (nodes : List Ref) (behind : List Step) (under : IsUnder t (store_of s.store) s.kids.items s.states.items tokens token nodes behind) (r : ℕ) (act : act_in t (top_of s) token.id ≡ Reduce r) where
  stand : IsStanding t (store_of s.store) s.kids.items s.states.items tokens token
  stand = standing under.even under.tells

  by : IsReducedStack (record { tokens = t.tokens; names = t.names; rules = t.rules; start = lawful.0 }) t stand.last token.id r
  by = reduction lawful.1 (run_stack lawful.1 stand.run bottom) (ap (λ q. act_in t q token.id) (sym stand.on_top) ∙ act)

  size_is : length by.taken ≡ length by.right
  size_is = sym (length-symbols by.taken) ∙ ap (λ (l : List Sym). length l) by.same

  many : length by.taken + length by.rest ≡ length s.kids.items
  many =
      let above = put_above stand.up in
      let counted = above.count in
      let entries = length_entries s.kids.items s.states.items under.even in
      let whole = ap (λ (l : List Entry). length l) (sym by.parts ∙ above.parts) in
      let both = length-append by.taken by.rest in
      let pushed = length-append above.pushed [] in
      omega (arith, counted, entries, whole, both, pushed)

  enough : length by.right ≤ length s.kids.items
  enough = let all = many in let size = size_is in omega (arith, all, size)

  even_low : length (below_of s.states.items (length by.right)) ≡ length (below_of s.kids.items (length by.right))
  even_low =
      let a = length-take (length s.states.items - length by.right) s.states.items in
      let b = length-take (length s.kids.items - length by.right) s.kids.items in
      let e = under.even in
      omega (arith, a, b, e)

  long_kids : length (above_of s.kids.items (length by.right)) ≡ length by.right
  long_kids = let b = length-drop (length s.kids.items - length by.right) s.kids.items in let e = enough in omega (arith, b, e)

  even_high : length (above_of s.states.items (length by.right)) ≡ length (above_of s.kids.items (length by.right))
  even_high =
      let a = length-drop (length s.states.items - length by.right) s.states.items in
      let b = length-drop (length s.kids.items - length by.right) s.kids.items in
      let e = under.even in
      omega (arith, a, b, e)

  kids_are : s.kids.items ≡ below_of s.kids.items (length by.right) ++ above_of s.kids.items (length by.right)
  kids_are = sym (take-append-drop (length s.kids.items - length by.right) s.kids.items)

  states_are : s.states.items ≡ below_of s.states.items (length by.right) ++ above_of s.states.items (length by.right)
  states_are = sym (take-append-drop (length s.states.items - length by.right) s.states.items)

  cut_here : IsCut t (store_of s.store) (below_of s.kids.items (length by.right)) (above_of s.kids.items (length by.right)) (below_of s.states.items (length by.right)) (above_of s.states.items (length by.right)) by.taken by.rest
  cut_here = cut_at t (store_of s.store) (below_of s.kids.items (length by.right)) (above_of s.kids.items (length by.right)) (below_of s.states.items (length by.right)) (above_of s.states.items (length by.right)) by.taken by.rest even_low even_high (long_kids ∙ sym size_is) by.parts
      (subst₂ (λ ks qs. Puts t.rules (store_of s.store) [] 0 (entries_on ks qs) [] stand.last) kids_are states_are stand.up)

  rest_stack : {e : Entry} → IsStack t 0 (e ∷ by.rest) → IsStack t 0 by.rest
  rest_stack (pushed is tree step) = is

  fits : FitsReduction t r s (length by.right) by.state
  fits = record {
    name = by.name;
    right = by.right;
    rule = by.rule;
    symbols = refl;
    even = under.even;
    enough = enough;
    within = subst (λ q. q < t.states) (sym cut_here.state) (lawful.1.within by.rest (rest_stack by.stack));
    goes = ap (λ q. goto_in t q by.name) cut_here.state ∙ by.goes;
  }

  pub reducible : CanReduce t r s
  reducible = (length by.right, by.state, fits)

  pub reduced_under : (next : Gathered) → IsReducedBy t r s next → IsUnder t (store_of next.store) next.kids.items next.states.items tokens token nodes behind
  reduced_under next made =
      let one = made (length by.right) by.state fits in
      let low = below_of s.kids.items (length by.right) in
      let high = above_of s.kids.items (length by.right) in
      let lower = below_of s.states.items (length by.right) in
      let upper = above_of s.states.items (length by.right) in
      let whole : IsUnder t (store_of s.store) (low ++ high) (lower ++ upper) tokens token nodes behind = subst₂ (λ ks qs. IsUnder t (store_of s.store) ks qs tokens token nodes behind) kids_are states_are under in
      let there : IsStanding t (store_of s.store) (low ++ high) (lower ++ upper) tokens token = record { last = stand.last; up = subst₂ (λ ks qs. Puts t.rules (store_of s.store) [] 0 (entries_on ks qs) [] stand.last) kids_are states_are stand.up; run = stand.run; on_top = ap (last_state 0) (sym states_are) ∙ stand.on_top } in
      subst₂ (λ ks qs. IsUnder t (store_of next.store) ks qs tokens token nodes behind) (sym one.kids) (sym one.states)
      (under_reduced lawful (store_of s.store) (store_of next.store) low high lower upper tokens token nodes behind even_low even_high whole one.node r one.stores there by (long_kids ∙ sym size_is))

  pub more_nodes : (next : Gathered) → IsReducedBy t r s next → HasMore (store_of s.store) (store_of next.store)
  more_nodes next made = (made (length by.right) by.state fits).stores.kept

  pub same_rest : (next : Gathered) → IsReducedBy t r s next → (numbers_in next.store ≡ numbers_in s.store) × (next.chunk ≡ s.chunk) × (next.count ≡ s.count)
  same_rest next made = let one = made (length by.right) by.state fits in (one.chunks, one.chunk, one.count)

  -- there is one node more, and room for it
  pub one_node_more : (next : Gathered) → IsReducedBy t r s next → 2 ^ 64 - node_count_in next.store < 2 ^ 64 - node_count_in s.store
  one_node_more next made = let one = made (length by.right) by.state fits in omega (arith, one.nodes, one.few)

-- the state on top is one of the tables
pub top_within : {t : Tables} → IsLawful t → (s : Gathered) (tokens : List TextToken) (token : TextToken) (nodes : List Ref) (behind : List Step) → IsUnder t (store_of s.store) s.kids.items s.states.items tokens token nodes behind → top_of s < t.states
top_within {t} lawful s tokens token nodes behind under =
    let stand = standing under.even under.tells in
    subst (λ q. q < t.states) (sym stand.on_top) (lawful.1.within stand.last (run_stack lawful.1 stand.run bottom))
