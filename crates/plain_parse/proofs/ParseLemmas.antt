-- What a parse comes to: the tree where it accepts, the first wrong place where it errs, and nothing else.
use Rattle.std.proofs.Common.{◌≡◌, ℕ, suc, ◌+◌, ◌*◌, ◌<◌, ◌≤◌, ◌↔◌, List, [], ◌∷◌, ◌++◌, length, take, drop, get_or, slice_get, refl, sym, ap, ◌∙◌, subst, arith}
use Rattle.std.proofs.Math.Seq.{drop-append_seam}
use Rattle.std.proofs.lemmas.List.{take-append-drop, length_push, length-take}
use Rattle.grammar_data.specs.declared.rule.Sym.{Sym}
use Rattle.grammar_data.specs.declared.rule.Sym.TheVariants.{Name}
use Rattle.grammar_data.specs.declared.token.Token.{Token as TextToken}
use Rattle.grammar_data.specs.Grammar.{Grammar, Rule}
use Rattle.grammar_theory.specs.Derivations.{IsSentence}
use Rattle.grammar_theory.specs.Trees.{Tree, IsTree, node_tree, yield, nodes, ids_of}
use Rattle.grammar_theory.proofs.DerivationLaws.{sentence_law}
use Rattle.next_theory.proofs.GoingLemmas.{no_wrong_place_law}
use Rattle.table_data.specs.declared.act.Act.{Act}
use Rattle.table_data.specs.declared.act.Act.TheVariants.{Shift, Accept, Error}
use Rattle.table_data.specs.Tables.{Tables, act_in}
use Rattle.machine_theory.specs.Machine.{Entry, top, symbols, Reaches, Accepts, Rejects}
use Rattle.lawful_theory.specs.Lawful.{IsLawfulFor, IsLawful}
use Rattle.parse_theory.proofs.ReadLemmas.{accept_item, sound}
use Rattle.parse_theory.proofs.ErrorLemmas.{reject_law}
use Rattle.parse_theory.proofs.OnlyLemmas.{tree_bound_law}
use Rattle.parse_theory.proofs.WholeLemmas.{no_end_shift}
use Rattle.node_data.specs.declared.kid.Kid.{Kid}
use Rattle.node_data.specs.declared.kid.Kid.TheVariants.{Node as NodeKid}
use Rattle.tree_theory.specs.Stores.{Ref, Store, Shows, shows_hidden, shows_node}
use Rattle.node_store.specs.Chunks.{node_count_in, store_of}
use Rattle.plain_parse.specs.declared.run.Run.{Run}
use Rattle.plain_parse.specs.declared.parsed.Parsed.{Parsed}
use Rattle.plain_parse.specs.declared.parsed.Parsed.TheVariants.{Tree as IsTreeAnswer, Wrong}
use Rattle.plain_parse.specs.Runs.{end_of, input_of, token_of, nodes_on, ShowsStack, shows_bottom, shows_entry, IsRun, IsSettled, top_of, HasRoot}
use Rattle.plain_parse.specs.Parses.{AreTextTokens, IsTreeOf, IsWrongOf, IsParsed, HasTree, IsFinish}
use Rattle.plain_parse.proofs.RunLemmas.{front, text_token, end_token, level, top_is}

-- ---- where the parse errs

module _ {g : Grammar} {t : Tables} (lawful : IsLawfulFor g t) {tokens : List TextToken} {index : ℕ} {run : Run} (at : IsRun t tokens index run) (within : index ≤ length tokens) (act : act_in t (top_of run) (token_of t tokens index) ≡ Error) where
  rejected : Rejects t tokens (end_of t) index (get_or (input_of t tokens) index (end_of t)) (top_of run)
  rejected =
      let ahead = front t tokens index within in
      let count = length_push tokens (end_of t) in
      record {
        stack = at.stack;
        before = take index (input_of t tokens);
        later = drop (suc index) (input_of t tokens);
        parts = sym (take-append-drop index (input_of t tokens)) ∙ ap (λ l. take index (input_of t tokens) ++ l) ahead;
        at = omega (arith, length-take index (input_of t tokens), count);
        reached = subst (λ l. Reaches t 0 [] (input_of t tokens) at.stack l) ahead at.reached;
        state_on_top = sym (top_is at);
        error = act;
      }

  pub wrong_there : IsWrongOf g t tokens index (slice_get tokens index) (top_of run)
  wrong_there =
      let wrong = reject_law g t lawful tokens (end_of t) index (get_or (input_of t tokens) index (end_of t)) (top_of run) refl rejected in
      record {
        token_there = refl;
        wrong = record { place = wrong.place; token_there = refl; expected = wrong.expected };
        is_state = subst (λ q. q < t.states) (sym (top_is at)) (lawful.within at.stack at.is_stack);
      }

-- ---- where it accepts

-- a stack of one symbol is one entry
single : {x : Sym} (s : List Entry) → symbols s ≡ x ∷ [] → (e : Entry) × (s ≡ e ∷ [])
single [] one = absurd (cc)
single (e ∷ []) one = (e, refl)
single (e ∷ f ∷ s) one = absurd (longer (symbols s) f.symbol e.symbol one)
  where
    longer : (xs : List Sym) (y z : Sym) {x : Sym} → (xs ++ y ∷ []) ++ z ∷ [] ≡ x ∷ [] → ⊥
    longer [] y z h = cc
    longer (u ∷ []) y z h = cc
    longer (u ∷ w ∷ xs) y z h = cc

-- what shows a tree of a name is a node
name_kid : {store : Store} {rules : List Rule} {name : ℕ} {n : Ref} {i : ℕ} {kid : Kid} {tree : Tree} → IsTree rules (Name name) tree → Shows store [] n i kid tree → (m : Ref) × (kid ≡ NodeKid m)
name_kid (node_tree rule trees) (shows_hidden given has at) = absurd (omega (arith, has.1))
name_kid (node_tree rule trees) (shows_node {m = m} kids at all) = (m, refl)

one_kid : {store : Store} {e : Entry} {kids : List Kid} → ShowsStack store (e ∷ []) kids → (kid : Kid) × (kids ≡ kid ∷ []) × ((n : Ref) (i : ℕ) → Shows store [] n i kid e.tree)
one_kid (shows_entry {kid = kid} shows_bottom one at) = (kid, at, one)

module _ {g : Grammar} {t : Tables} (lawful : IsLawfulFor g t) {tokens : List TextToken} {run : Run} (at : IsRun t tokens (length tokens) run) (act : act_in t (top_of run) (token_of t tokens (length tokens)) ≡ Accept) where
  acts : act_in t (top 0 at.stack) t.tokens ≡ Accept
  acts = ap (λ q. act_in t q t.tokens) (sym (top_is at)) ∙ ap (λ (x : TextToken). act_in t (top_of run) x.id) (sym (end_token t tokens (end_of t))) ∙ act

  alone : (e : Entry) × (at.stack ≡ e ∷ [])
  alone = single at.stack (accept_item lawful at.is_stack acts).0

  end_left : drop (length tokens) (input_of t tokens) ≡ end_of t ∷ []
  end_left = drop-append_seam tokens (end_of t ∷ [])

  accepts : Accepts t tokens (end_of t) alone.0.tree
  accepts = record {
    symbol = alone.0.symbol;
    state = alone.0.state;
    reached = subst (λ l. Reaches t 0 [] (input_of t tokens) l (end_of t ∷ [])) alone.1 (subst (λ l. Reaches t 0 [] (input_of t tokens) at.stack l) end_left at.reached);
    accept = ap (λ s. act_in t (top 0 s) t.tokens) (sym alone.1) ∙ acts;
  }

  shown : (kid : Kid) × (run.kids.items ≡ kid ∷ []) × ((n : Ref) (i : ℕ) → Shows (store_of run.store) [] n i kid alone.0.tree)
  shown = one_kid (subst (λ s. ShowsStack (store_of run.store) s run.kids.items) alone.1 at.shown)

  pub root_left : HasRoot run
  root_left =
      let node = name_kid (sound lawful accepts).0 (shown.2 (0, 0) 0) in
      (node.0, shown.1 ∙ ap (λ k. k ∷ []) node.1)

  pub tree_there : (root : Ref) → run.kids.items ≡ NodeKid root ∷ [] → IsTreeOf g tokens root run.store
  tree_there root one =
      let is = sound lawful accepts in
      let count : node_count_in run.store ≡ nodes alone.0.tree = at.count ∙ ap nodes_on alone.1 ∙ zero_plus (nodes alone.0.tree) in
      record {
        tree = alone.0.tree;
        shown = λ n i. subst (λ k. Shows (store_of run.store) [] n i k alone.0.tree) (same_kid (sym shown.1 ∙ one)) (shown.2 n i);
        is_tree = is.0;
        yields = is.1;
        chunks = at.chunks;
        count = count;
        bound = λ longest largest bounds. subst (λ k. node_count_in run.store ≤ 2 * g.names * (1 + longest * largest) * (k + 1)) (ap (λ (l : List TextToken). length l) is.1) (subst (λ k. k ≤ 2 * g.names * (1 + longest * largest) * (length (yield alone.0.tree) + 1)) (sym count) (tree_bound_law g t longest largest lawful bounds g.start alone.0.tree lawful.range.start is.0));
      }
    where
      zero_plus : (k : ℕ) → 0 + k ≡ k
      zero_plus k = omega arith

      same_kid : {k m : Kid} → k ∷ [] ≡ m ∷ [] → k ≡ m
      same_kid e = cc

-- ---- what can't come

pub no_accept : {t : Tables} → IsLawful t → {tokens : List TextToken} {index : ℕ} {run : Run} → IsRun t tokens index run → AreTextTokens t tokens → index < length tokens → act_in t (top_of run) (token_of t tokens index) ≡ Accept → ⊥
no_accept {t} lawful {tokens} {index} at text within act =
    let end = (accept_item lawful.1 at.is_stack (ap (λ q. act_in t q (token_of t tokens index)) (sym (top_is at)) ∙ act)).1 in
    (text index (end_of t) within).1 (ap (λ (x : TextToken). x.id) (sym (text_token t tokens index (end_of t) within)) ∙ end)

pub no_shift : {t : Tables} → IsLawful t → {tokens : List TextToken} {run : Run} {p : ℕ} → IsRun t tokens (length tokens) run → act_in t (top_of run) (token_of t tokens (length tokens)) ≡ Shift p → ⊥
no_shift {t} lawful {tokens} at act =
    no_end_shift lawful.1 at.is_stack (ap (λ (x : TextToken). x.id) (end_token t tokens (end_of t))) (ap (λ q. act_in t q (token_of t tokens (length tokens))) (sym (top_is at)) ∙ act)

-- what is shifted is a token, and only the end is accepted
pub shift_inside : {t : Tables} → IsLawful t → {tokens : List TextToken} {index : ℕ} {run : Run} {p : ℕ} → IsRun t tokens index run → index ≤ length tokens → act_in t (top_of run) (token_of t tokens index) ≡ Shift p → index < length tokens
shift_inside {t} lawful {tokens} {index} {run} {p} at within act = let ahead = at_end index at act in omega (arith, ahead)
  where
    at_end : (i : ℕ) → IsRun t tokens i run → act_in t (top_of run) (token_of t tokens i) ≡ Shift p → i ≡ length tokens → ⊥
    at_end i here shifts end = no_shift lawful (subst (λ k. IsRun t tokens k run) end here) (subst (λ k. act_in t (top_of run) (token_of t tokens k) ≡ Shift p) end shifts)

pub accept_behind : {t : Tables} → IsLawful t → {tokens : List TextToken} {index : ℕ} {run : Run} → IsRun t tokens index run → AreTextTokens t tokens → index ≤ length tokens → act_in t (top_of run) (token_of t tokens index) ≡ Accept → index ≡ length tokens
accept_behind {t} lawful {tokens} {index} at text within act = let behind : index < length tokens → ⊥ = λ inside. no_accept lawful at text inside act in omega (arith, behind)

-- ---- the answer and sentences

pub tree_sentence : {g : Grammar} {t : Tables} → IsLawfulFor g t → (tokens : List TextToken) (parsed : Parsed) → IsParsed g t tokens parsed → HasTree parsed ↔ IsSentence g (ids_of tokens)
tree_sentence {g} lawful tokens (IsTreeAnswer root store) is = (λ h. (sentence_law g tokens).1 (is.tree, is.is_tree, is.yields), λ sentence. tt)
tree_sentence {g} lawful tokens (Wrong index token state) is = (λ h. absurd h, λ sentence. no_wrong_place_law g (ids_of tokens) index sentence is.wrong.place)

pub no_sentence : {g : Grammar} {t : Tables} → IsLawfulFor g t → (tokens : List TextToken) (parsed : Parsed) → IsParsed g t tokens parsed → (¬ (HasTree parsed)) ↔ (¬ (IsSentence g (ids_of tokens)))
no_sentence lawful tokens parsed is =
    let same = tree_sentence lawful tokens parsed is in
    (λ no_tree sentence. no_tree (same.1 sentence), λ none tree. none (same.0 tree))

-- ---- the answers

pub has_state : {t : Tables} {tokens : List TextToken} {index : ℕ} {run : Run} → IsRun t tokens index run → 0 < length run.states.items
has_state at = let count = level at in omega (arith, count)

pub wrong_parsed : {g : Grammar} {t : Tables} → IsLawfulFor g t → {tokens : List TextToken} {index : ℕ} {run : Run} → IsRun t tokens index run → index ≤ length tokens → {act : Act} → IsSettled t tokens index run act → act ≡ Error → {parsed : Parsed} → parsed ≡ Wrong index (slice_get tokens index) (top_of run) → IsParsed g t tokens parsed
wrong_parsed {g} {t} lawful {tokens} at within settled e is = subst (λ p. IsParsed g t tokens p) (sym is) (wrong_there lawful at within (sym settled.is_act ∙ e))

pub tree_parsed : {g : Grammar} {t : Tables} → IsLawfulFor g t → {tokens : List TextToken} {run : Run} → IsRun t tokens (length tokens) run → {act : Act} → IsSettled t tokens (length tokens) run act → act ≡ Accept → {parsed : Parsed} → IsFinish run parsed → IsParsed g t tokens parsed
tree_parsed {g} {t} lawful {tokens} at settled e is =
    let accept = sym settled.is_act ∙ e in
    let root = root_left lawful at accept in
    subst (λ p. IsParsed g t tokens p) (sym (is root.0 root.1)) (tree_there lawful at accept root.0 root.1)

pub root_behind : {t : Tables} → IsLawful t → {tokens : List TextToken} {index : ℕ} {run : Run} → IsRun t tokens index run → AreTextTokens t tokens → index ≤ length tokens → {act : Act} → IsSettled t tokens index run act → act ≡ Accept → HasRoot run
root_behind {t} lawful {tokens} {index} {run} at text within settled e =
    let accept = sym settled.is_act ∙ e in
    let end = accept_behind lawful at text within accept in
    root_left lawful.1 (subst (λ k. IsRun t tokens k run) end at) (subst (λ k. act_in t (top_of run) (token_of t tokens k) ≡ Accept) end accept)

pub tree_behind : {g : Grammar} {t : Tables} → IsLawful t → IsLawfulFor g t → {tokens : List TextToken} {index : ℕ} {run : Run} → IsRun t tokens index run → AreTextTokens t tokens → index ≤ length tokens → {act : Act} → IsSettled t tokens index run act → act ≡ Accept → {parsed : Parsed} → IsFinish run parsed → IsParsed g t tokens parsed
tree_behind {t = t} lawful for_g {tokens} {index} {run} at text within {act} settled e is =
    let end = accept_behind lawful at text within (sym settled.is_act ∙ e) in
    tree_parsed for_g (subst (λ k. IsRun t tokens k run) end at) (subst (λ k. IsSettled t tokens k run act) end settled) e is
