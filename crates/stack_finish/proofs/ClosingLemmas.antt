-- The end of a parse in parts: no piece is to come, and the end mark is looked at; and what an error of the text means.
use Rattle.std.proofs.Common.{◌≡◌, ◌≢◌, ℕ, suc, ◌<◌, ◌↔◌, List, [], ◌∷◌, ◌++◌, length, get_or, Contains, Some, None, refl, sym, ap, ◌∙◌, subst, subst₂, append-nil, arith}
use Rattle.std.specs.Prelude.{AllPairs}
use Rattle.std.proofs.Math.Seq.{get_or-append_seam}
use Rattle.std.proofs.lemmas.List.{length-append}
use Rattle.std.proofs.lemmas.Option.{slice_get-get_or, slice_get_past}
use Rattle.grammar_data.specs.declared.rule.Sym.{Sym}
use Rattle.grammar_data.specs.declared.rule.Sym.TheVariants.{Name}
use Rattle.grammar_data.specs.declared.token.Token.{Token as TextToken}
use Rattle.grammar_data.specs.Grammar.{Grammar, Rule}
use Rattle.grammar_theory.specs.Derivations.{IsSentence}
use Rattle.grammar_theory.specs.Trees.{Tree, IsTree, node_tree, ids_of}
use Rattle.grammar_theory.proofs.DerivationLaws.{sentence_law}
use Rattle.next_theory.proofs.GoingLemmas.{no_wrong_place_law}
use Rattle.node_data.specs.declared.kid.Kid.{Kid}
use Rattle.node_data.specs.declared.kid.Kid.TheVariants.{Node as NodeKid, Hidden}
use Rattle.tree_theory.specs.Stores.{Ref, Store, Shows, shows_hidden, shows_node}
use Rattle.tree_theory.specs.Walks.{Step, Walks, walks_node, WalksAll, walks_none, walks_more}
use Rattle.table_data.specs.declared.act.Act.TheVariants.{Shift, Accept, Error}
use Rattle.table_data.specs.Tables.{Tables, act_in}
use Rattle.machine_theory.specs.Machine.{Entry, bottom, Errs, Accepts, Rejects}
use Rattle.machine_theory.proofs.RunLemmas.{error_more_input_law}
use Rattle.machine_theory.proofs.StackLemmas.{length-symbols}
use Rattle.lawful_theory.specs.Lawful.{IsLawfulFor}
use Rattle.lawful_theory.proofs.FitLemmas.{run_stack}
use Rattle.parse_theory.proofs.ReadLemmas.{accept_item, sound}
use Rattle.parse_theory.proofs.ErrorLemmas.{reject_law}
use Rattle.parse_theory.proofs.WholeLemmas.{no_end_shift}
use Rattle.use_theory.specs.Distinct.{IsDistinct}
use Rattle.use_theory.specs.Kept.{IsKept}
use Rattle.use_theory.proofs.KeptLemmas.{kept_then}
use Rattle.piece_theory.specs.Applies.{nowhere}
use Rattle.piece_theory.specs.Laws.{HasMore}
use Rattle.arm_laws.proofs.PutLemmas.{put_above}
use Rattle.finish_theory.specs.Finishing.{IsClosing}
use Rattle.finish_theory.proofs.FinishLemmas.{closing_law, accept_law}
use Rattle.node_store.specs.Chunks.{numbers_in, store_of}
use Rattle.plain_parse.specs.Runs.{end_of}
use Rattle.plain_parse.specs.Parses.{IsWrongOf, HasTree}
use Rattle.plain_parse.specs.declared.parsed.Parsed.{Parsed}
use Rattle.plain_parse.specs.declared.parsed.Parsed.TheVariants.{Tree as IsTreeAnswer, Wrong}
use Rattle.stack_finish.specs.declared.gathered.Gathered.{Gathered}
use Rattle.stack_finish.specs.Gathering.{ground, entries_on, piece_on, last_state, top_of, IsUnder, IsGathered}
use Rattle.stack_finish.specs.Finished.{IsTreeFrom, IsAnswer, HasRoot, IsRoot}
use Rattle.stack_finish.proofs.EntryLemmas.{length_entries, entries_kids, alive}
use Rattle.stack_finish.proofs.NodeLemmas.{tree_nodes}
use Rattle.stack_finish.proofs.UnderLemmas.{IsStanding, standing}
use Rattle.stack_finish.proofs.PieceLemmas.{ground_is, kept_more}

-- ---- errors

-- an error of the tokens is the first wrong place
pub wrong_in : {g : Grammar} {t : Tables} → IsLawfulFor g t → {w : List TextToken} {index : ℕ} {token : TextToken} {state : ℕ} → Errs t 0 [] w index token state → IsWrongOf g t w index (Some token) state
wrong_in {g} {t} lawful {w} {index} {token} {state} errs =
    let end = end_of t in
    let wrong = reject_law g t lawful w end index token state refl (error_more_input_law t 0 [] w (end ∷ []) index token state errs) in
    let all = ap (λ (l : List TextToken). length l) errs.parts ∙ length-append errs.before (token ∷ errs.later) in
    let at = errs.at in
    let here : get_or w index token ≡ token = ap (λ l. get_or l index token) errs.parts ∙ ap (λ n. get_or (errs.before ++ token ∷ errs.later) n token) (sym at) ∙ get_or-append_seam errs.before token errs.later token in
    record {
      token_there = sym (slice_get-get_or w index token (omega (arith, all, at)) ∙ ap Some here);
      wrong = record { place = wrong.place; token_there = refl; expected = wrong.expected };
      is_state = subst (λ q. q < t.states) errs.state_on_top (lawful.within errs.stack (run_stack lawful errs.reached bottom));
    }

-- an error of a piece is told of the text
pub within : {t : Tables} {w : List TextToken} {index : ℕ} {token : TextToken} {state : ℕ} → Errs t 0 [] w index token state → index < length w
within {w = w} {token = token} errs =
    let all = ap (λ (l : List TextToken). length l) errs.parts ∙ length-append errs.before (token ∷ errs.later) in
    let at = errs.at in
    omega (arith, all, at)

-- ---- the end

-- what shows a tree of a name is a node
name_kid : {store : Store} {rules : List Rule} {name : ℕ} {n : Ref} {i : ℕ} {kid : Kid} {tree : Tree} → IsTree rules (Name name) tree → Shows store [] n i kid tree → (m : Ref) × (kid ≡ NodeKid m)
name_kid (node_tree rule trees) (shows_hidden given has at) = absurd (omega (arith, has.1))
name_kid (node_tree rule trees) (shows_node {m = m} kids at all) = (m, refl)

node_anywhere : {store : Store} {n : Ref} {i : ℕ} {m : Ref} {tree : Tree} → Shows store [] n i (NodeKid m) tree → (k : Ref) (j : ℕ) → Shows store [] k j (NodeKid m) tree
node_anywhere (shows_node kids at all) k j = shows_node kids at all

walk_anywhere : {store : Store} {n : Ref} {i : ℕ} {m : Ref} {steps : List Step} → Walks store n i (NodeKid m) steps → (k : Ref) (j : ℕ) → Walks store k j (NodeKid m) steps
walk_anywhere (walks_node kids at all to) k j = walks_node kids at all to

one_walk : {store : Store} {n : Ref} {i : ℕ} {m : Ref} {kids : List Kid} {steps : List Step} → kids ≡ NodeKid m ∷ [] → WalksAll store n i kids steps → Walks store n i (NodeKid m) steps
one_walk e walks_none = absurd (cc)
one_walk {store} {n} {i} {m} {steps = steps} e (walks_more {kid = kid} {kids = kids} {first = first} {rest = rest} one all to) = only (tail_of e) all
  where
    tail_of : {k : Kid} {ks : List Kid} → k ∷ ks ≡ NodeKid m ∷ [] → ks ≡ []
    tail_of h = cc

    head_of : {k : Kid} {ks : List Kid} → k ∷ ks ≡ NodeKid m ∷ [] → k ≡ NodeKid m
    head_of h = cc

    none_of : {ks : List Kid} {ys : List Step} {j : ℕ} → ks ≡ [] → WalksAll store n j ks ys → ys ≡ []
    none_of h walks_none = refl
    none_of h (walks_more a b c) = absurd (cc)

    only : kids ≡ [] → WalksAll store n (suc i) kids rest → Walks store n i (NodeKid m) steps
    only none more = subst₂ (λ k l. Walks store n i k l) (head_of e) (sym (append-nil first) ∙ ap (λ l. first ++ l) (sym (none_of none more)) ∙ sym to) one

single_kid : (kids : List Kid) → length kids ≡ 1 → (k : Kid) × (kids ≡ k ∷ [])
single_kid [] e = absurd (omega (arith, e))
single_kid (k ∷ []) e = (k, refl)
single_kid (k ∷ m ∷ kids) e = absurd (omega (arith, e))

single_state : (states : List ℕ) → length states ≡ 1 → (q : ℕ) × (states ≡ q ∷ [])
single_state [] e = absurd (omega (arith, e))
single_state (q ∷ []) e = (q, refl)
single_state (q ∷ p ∷ states) e = absurd (omega (arith, e))

-- no piece is to come: the end mark is looked at
pub under_end : {t : Tables} {base : Store} {s : Gathered} {w : List TextToken} → IsGathered t base s [] w → IsUnder t (store_of s.store) s.kids.items s.states.items w (end_of t) [] []
under_end {t} {base} {s} {w} at =
    let closing : IsClosing t (store_of s.store) (piece_on s.kids.items s.states.items) ground w (end_of t) = closing_law t (store_of s.store) (piece_on s.kids.items s.states.items) ground w (end_of t) at.ending in
    let same = entries_kids s.kids.items s.states.items at.even in
    record {
      even = at.even;
      tells = closing.tells;
      visible = subst (λ l. Contains {X = Kid} l Hidden → ⊥) same closing.visible;
      steps = closing.steps;
      walk = subst (λ l. WalksAll (store_of s.store) nowhere 0 l closing.steps) same closing.walk;
      yields = closing.yields;
      each_once = subst (λ l. IsDistinct (store_of s.store) [] l) (sym (append-nil closing.steps)) closing.each_once;
    }

module _ {g : Grammar} {t : Tables} (lawful : IsLawfulFor g t) (s : Gathered) {w : List TextToken} (under : IsUnder t (store_of s.store) s.kids.items s.states.items w (end_of t) [] []) where
  stand : IsStanding t (store_of s.store) s.kids.items s.states.items w (end_of t)
  stand = standing under.even under.tells

  pub no_shift : {p : ℕ} → act_in t (top_of s) t.tokens ≡ Shift p → ⊥
  no_shift act = no_end_shift lawful (run_stack lawful stand.run bottom) lawful.tokens (ap (λ q. act_in t q t.tokens) (sym stand.on_top) ∙ act)

  pub wrong_end : s.count ≡ length w → act_in t (top_of s) t.tokens ≡ Error → IsWrongOf g t w s.count None (top_of s)
  wrong_end count act =
      let rejects : Rejects t w (end_of t) (length w) (end_of t) (top_of s) = record { stack = stand.last; before = w; later = []; parts = refl; at = refl; reached = stand.run; state_on_top = sym stand.on_top; error = act } in
      let wrong = reject_law g t lawful w (end_of t) (length w) (end_of t) (top_of s) refl rejects in
      subst (λ n. IsWrongOf g t w n None (top_of s)) (sym count) (record {
        token_there = sym (slice_get_past w (length w) (omega arith));
        wrong = record { place = wrong.place; token_there = refl; expected = wrong.expected };
        is_state = subst (λ q. q < t.states) (sym stand.on_top) (lawful.within stand.last (run_stack lawful stand.run bottom));
      })

  module _ (act : act_in t (top_of s) t.tokens ≡ Accept) where
    one_symbol : length stand.last ≡ 1
    one_symbol = sym (length-symbols stand.last) ∙ ap (λ (l : List Sym). length l) (accept_item lawful (run_stack lawful stand.run bottom) (ap (λ q. act_in t q t.tokens) (sym stand.on_top) ∙ act)).0

    many : length s.kids.items ≡ 1
    many =
        let above = put_above stand.up in
        let counted = above.count in
        let entries = length_entries s.kids.items s.states.items under.even in
        let whole = ap (λ (l : List Entry). length l) above.parts in
        let pushed = length-append above.pushed [] in
        let one = one_symbol in
        omega (arith, counted, entries, whole, pushed, one)

    kid : (k : Kid) × (s.kids.items ≡ k ∷ [])
    kid = single_kid s.kids.items many

    state : (q : ℕ) × (s.states.items ≡ q ∷ [])
    state = single_state s.states.items (let one = many in let e = under.even in omega (arith, one, e))

    closed : IsClosing t (store_of s.store) (piece_on s.kids.items s.states.items) ground w (end_of t)
    closed =
        let same = entries_kids s.kids.items s.states.items under.even in
        record {
          ground = ground_is s.kids.items s.states.items;
          steps = under.steps;
          tells = under.tells;
          visible = subst (λ l. Contains {X = Kid} l Hidden → ⊥) (sym same) under.visible;
          walk = subst (λ l. WalksAll (store_of s.store) nowhere 0 l under.steps) (sym same) under.walk;
          yields = under.yields;
          each_once = subst (λ l. IsDistinct (store_of s.store) [] l) (append-nil under.steps) under.each_once;
        }

    accepted : (tree : Tree) × Accepts t w (end_of t) tree × Shows (store_of s.store) [] nowhere 0 kid.0 tree
    accepted = accept_law t (store_of s.store) (piece_on s.kids.items s.states.items) ground (record { kid = kid.0; states = (0, state.0) ∷ [] }) w (end_of t) state.0 closed alive
        (λ i. entries_on (kid.1 i) (state.1 i)) refl (ap (λ l. act_in t (last_state 0 l) t.tokens) (sym state.1) ∙ act)

    pub root_left : HasRoot s
    root_left =
        let node = name_kid (sound lawful accepted.1).0 accepted.2 in
        (node.0, kid.1 ∙ ap (λ k. k ∷ []) node.1)

    pub tree_there : {base : Store} {numbers : List ℕ} → IsKept base (store_of s.store) → numbers_in s.store ≡ numbers → (root : Ref) → s.kids.items ≡ NodeKid root ∷ [] → IsTreeFrom g w base numbers root s.store
    tree_there kept same root one =
        let is = sound lawful accepted.1 in
        record {
          tree = accepted.0;
          shown = node_anywhere shows;
          is_tree = is.0;
          yields = is.1;
          kept = kept;
          chunks = same;
          steps = under.steps;
          walk = walk_anywhere walks;
          each_once = once;
          count = λ apart. tree_nodes s.store (subst (λ l. AllPairs {X = ℕ} (λ a b. a ≢ b) l) (sym same) apart) nowhere 0 (NodeKid root) accepted.0 under.steps (node_anywhere shows nowhere 0) (walk_anywhere walks nowhere 0) once;
        }
      where
        same_kid : {k m : Kid} → k ∷ [] ≡ m ∷ [] → k ≡ m
        same_kid e = cc

        shows : Shows (store_of s.store) [] nowhere 0 (NodeKid root) accepted.0
        shows = subst (λ k. Shows (store_of s.store) [] nowhere 0 k accepted.0) (same_kid (sym kid.1 ∙ one)) accepted.2

        walks : Walks (store_of s.store) nowhere 0 (NodeKid root) under.steps
        walks = one_walk one under.walk

        once : IsDistinct (store_of s.store) [] under.steps
        once = subst (λ l. IsDistinct (store_of s.store) [] l) (append-nil under.steps) under.each_once

-- ---- the answer and sentences

pub tree_sentence : {g : Grammar} {t : Tables} → IsLawfulFor g t → (base : Store) (numbers : List ℕ) (w : List TextToken) (parsed : Parsed) → IsAnswer g t w base numbers parsed → HasTree parsed ↔ IsSentence g (ids_of w)
tree_sentence {g} lawful base numbers w (IsTreeAnswer root store) is = (λ h. (sentence_law g w).1 (is.tree, is.is_tree, is.yields), λ sentence. tt)
tree_sentence {g} lawful base numbers w (Wrong index token q) is = (λ h. absurd h, λ sentence. no_wrong_place_law g (ids_of w) index sentence is.wrong.place)

pub no_sentence : {g : Grammar} {t : Tables} → IsLawfulFor g t → (base : Store) (numbers : List ℕ) (w : List TextToken) (parsed : Parsed) → IsAnswer g t w base numbers parsed → (¬ (HasTree parsed)) ↔ (¬ (IsSentence g (ids_of w)))
no_sentence lawful base numbers w parsed is =
    let same = tree_sentence lawful base numbers w parsed is in
    (λ no_tree sentence. no_tree (same.1 sentence), λ none tree. none (same.0 tree))

-- ---- the answers of the end

module _ {t : Tables} {base : Store} {s : Gathered} {w : List TextToken} (at : IsGathered t base s [] w) (next : Gathered) (under : IsUnder t (store_of next.store) next.kids.items next.states.items w (end_of t) [] []) (more : HasMore (store_of s.store) (store_of next.store)) (chunks : numbers_in next.store ≡ numbers_in s.store) (count : next.count ≡ s.count) where
  pub tree_answer : {g : Grammar} → IsLawfulFor g t → act_in t (top_of next) t.tokens ≡ Accept → {parsed : Parsed} → IsRoot next parsed → IsAnswer g t w base (numbers_in s.store) parsed
  tree_answer {g} lawful act {parsed} is =
      let root = root_left lawful next under act in
      subst (λ p. IsAnswer g t w base (numbers_in s.store) p) (sym (is root.0 root.1)) (tree_there lawful next under act (kept_then base (store_of s.store) (store_of next.store) at.kept (kept_more more)) chunks root.0 root.1)

  pub wrong_answer : {g : Grammar} → IsLawfulFor g t → act_in t (top_of next) t.tokens ≡ Error → {state : ℕ} → state ≡ top_of next → IsAnswer g t w base (numbers_in s.store) (Wrong next.count None state)
  wrong_answer {g} lawful act {state} is =
      let counted = at.counted in
      let long : next.count ≡ length w = omega (arith, counted, count) in
      subst (λ q. IsWrongOf g t w next.count None q) (sym is) (wrong_end lawful next under long act)
