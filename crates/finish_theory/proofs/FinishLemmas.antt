-- The end gives what the whole run gives.
use Rattle.std.proofs.Common.{◌≡◌, ℕ, ◌⊎◌, inl, inr, List, [], ◌∷◌, ◌++◌, length, Option, Some, IsSome, refl, sym, ap, ◌∙◌, subst, append_assoc, append-nil}
use Rattle.grammar_data.specs.declared.rule.Sym.{Sym}
use Rattle.grammar_data.specs.declared.token.Token.{Token as TextToken}
use Rattle.grammar_theory.specs.Trees.{Tree}
use Rattle.tree_theory.specs.Stores.{Store, Shows}
use Rattle.tree_theory.specs.Walks.{Step}
use Rattle.table_data.specs.declared.act.Act.TheVariants.{Accept, Error}
use Rattle.table_data.specs.Tables.{Tables, act_in}
use Rattle.machine_theory.specs.Machine.{Entry, top, Reaches, Errs, Accepts, Rejects}
use Rattle.machine_theory.proofs.RunLemmas.{error_more_input_law, compared, stops, errs_here}
use Rattle.map_theory.specs.Maps.{target}
use Rattle.use_theory.specs.Distinct.{IsDistinct}
use Rattle.piece_theory.specs.Pieces.{Fault, Floor, Held, Piece, fault_at, hidden_of}
use Rattle.piece_theory.specs.Applies.{nowhere, Falls, Fails, fails_here, Puts, put_all, puts, Tells, tells_error, tells_stack}
use Rattle.piece_theory.specs.Lists.{first_or, ArePieces, no_piece, piece_first}
use Rattle.piece_theory.proofs.ResultLemmas.{falls_not_fails}
use Rattle.join_theory.specs.Faults.{state_over}
use Rattle.join_theory.proofs.PutLemmas.{top_state}
use Rattle.join_theory.proofs.AliveLemmas.{not_none, is_some_of}
use Rattle.seam_theory.proofs.SeamLemmas.{tells_next}
use Rattle.finish_theory.specs.Endings.{IsGround}
use Rattle.finish_theory.specs.Finishing.{ClosingLaw, FaultLaw, ClosingFaultLaw, StopLaw, ClosingStopLaw, AcceptLaw, OneEndLaw}
use Rattle.finish_theory.proofs.EndingLemmas.{ground_left, ground_fault}

-- ---- the end mark

no_tokens : {t : Tables} {store : Store} {v : List TextToken} {steps : List Step} → ArePieces t store [] [] v steps → (v ≡ []) × (steps ≡ [])
no_tokens no_piece = (refl, refl)

pub closing_law : ClosingLaw
closing_law t store p e w end ending =
    let empty = no_tokens ending.after in
    let all : w ≡ ending.tokens = ending.parts ∙ ap (λ l. ending.tokens ++ l) empty.0 ∙ append-nil ending.tokens in
    record {
      ground = ending.ground;
      steps = ending.steps;
      tells = subst (λ l. Tells t store p l (end ∷ []) []) (sym all) (tells_next (end ∷ []) ending.tells);
      visible = ending.visible;
      walk = ending.walk;
      yields = ending.yields ∙ sym all;
      each_once = subst (λ l. IsDistinct store [] l) (ap (λ l. ending.steps ++ l) empty.1 ∙ append-nil ending.steps) ending.each_once;
    }

-- what follows the tokens so far, up to the end mark
next_input : {t : Tables} {store : Store} {rest : List Piece} {v : List TextToken} {steps : List Step} (end : TextToken) → ArePieces t store [] rest v steps → (more : List TextToken) × (first_or [] rest ++ more ≡ v ++ end ∷ [])
next_input end no_piece = (end ∷ [], refl)
next_input end (piece_first {p = p} {u = u} {v = v} made stands takes stuck after parts walk) =
    ((made.later ++ v) ++ end ∷ [], ap (λ l. l ++ end ∷ []) (sym (parts ∙ ap (λ l. l ++ v) made.begins)))

whole_input : (u v first more : List TextToken) (w : List TextToken) (end : TextToken) → w ≡ u ++ v → first ++ more ≡ v ++ end ∷ [] → (u ++ first) ++ more ≡ w ++ end ∷ []
whole_input u v first more w end parts e = append_assoc u first more ∙ ap (λ l. u ++ l) e ∙ sym (append_assoc u v (end ∷ [])) ∙ ap (λ l. l ++ end ∷ []) (sym parts)

-- ---- errors

same_some : {x y : Fault} → ◌≡◌ {A = Option Fault} (Some x) (Some y) → x ≡ y
same_some e = cc

ground_fails : {p : Piece} {e : Floor} {x : Fault} → IsGround p e → fault_at e.faults 0 ≡ Some x → Fails p.floors [] x
ground_fails {p} {e} {x} ground is = subst (λ l. Fails l [] x) (sym ground.floors) (fails_here [] [] refl (ap hidden_of (sym ground.unopened)) is)

fault_errs : (t : Tables) (store : Store) (p : Piece) (e : Floor) (w next : List TextToken) (x : Fault) → IsGround p e → fault_at e.faults 0 ≡ Some x → Tells t store p w next [] → Errs t 0 [] (w ++ next) x.index x.token x.state
fault_errs t store p e w next x ground is (tells_error {fault = y} fails errs) =
    let same : y ≡ x = same_some (sym (ground_fault ground.unopened (subst (λ l. Fails l [] y) ground.floors fails)) ∙ is) in
    subst (λ (z : Fault). Errs t 0 [] (w ++ next) z.index z.token z.state) same errs
fault_errs t store p e w next x ground is (tells_stack leaves run) = absurd (falls_not_fails leaves.down (ground_fails {p = p} {e = e} ground is))

pub fault_law : FaultLaw
fault_law t store p e rest w end x ending is =
    let more = next_input end ending.after in
    let errs = fault_errs t store p e ending.tokens (first_or [] rest) x ending.ground is ending.tells in
    subst (λ l. Errs t 0 [] l x.index x.token x.state) (whole_input ending.tokens ending.rest_tokens (first_or [] rest) more.0 w end ending.parts more.1)
    (error_more_input_law t 0 [] (ending.tokens ++ first_or [] rest) more.0 x.index x.token x.state errs)

pub closing_fault_law : ClosingFaultLaw
closing_fault_law t store p e w end x closing is = fault_errs t store p e w (end ∷ []) x closing.ground is closing.tells

same_state : {p q : ℕ} → ◌≡◌ {A = Option ℕ} (Some p) (Some q) → p ≡ q
same_state e = cc

-- the state over the entries errs on the next token
stop_errs : (t : Tables) (store : Store) (p : Piece) (e : Floor) (w : List TextToken) (token : TextToken) (z : ℕ) → IsGround p e → IsSome (target e.starts 0) → state_over e.starts p.stack 0 ≡ Some z → act_in t z token.id ≡ Error → Tells t store p w (token ∷ []) [] → Errs t 0 [] (w ++ token ∷ []) (length w) token z
stop_errs t store p e w token z ground alive state error (tells_error {fault = y} fails errs) =
    absurd (not_none (is_some_of (ground_fault ground.unopened (subst (λ l. Fails l [] y) ground.floors fails))) (ground.apart 0 alive))
stop_errs t store p e w token z ground alive state error (tells_stack {last = last} leaves run) =
    let left = (ground_left ground.unopened (subst (λ l. Falls l [] leaves.rest leaves.supply) ground.floors leaves.down)).0 in
    let here : IsSome (target e.starts (top 0 leaves.rest)) = subst (λ l. IsSome (target e.starts (top 0 l))) (sym left) alive in
    let over = ap (λ (l : List Entry). state_over e.starts p.stack (top 0 l)) (sym left) ∙ top_state e.starts here leaves.up in
    record {
      stack = last;
      before = w;
      later = [];
      parts = refl;
      at = refl;
      reached = run;
      state_on_top = same_state (sym over ∙ state);
      error = error;
    }

pub stop_law : StopLaw
stop_law t store p right e rest w end z ending alive state error =
    let more = next_input end ending.after in
    let errs = stop_errs t store p e ending.tokens right.first z ending.ground alive state error ending.tells in
    subst (λ l. Errs t 0 [] l (length ending.tokens) right.first z) (whole_input ending.tokens ending.rest_tokens (right.first ∷ []) more.0 w end ending.parts more.1)
    (error_more_input_law t 0 [] (ending.tokens ++ right.first ∷ []) more.0 (length ending.tokens) right.first z errs)

pub closing_stop_law : ClosingStopLaw
closing_stop_law t store p e w end z closing alive state error = stop_errs t store p e w end z closing.ground alive state error closing.tells

-- ---- the tree

-- the one entry
pub record IsOneEntry (t : Tables) (store : Store) (h : Held) (q : ℕ) (last : List Entry) : Type 0 where
  pub symbol : Sym
  pub tree : Tree
  pub shows : Shows store [] nowhere 0 h.kid tree
  pub is : last ≡ record { symbol = symbol; tree = tree; state = q } ∷ []

one_entry : {t : Tables} {store : Store} {h : Held} {q : ℕ} {hs : List Held} {last : List Entry} → hs ≡ h ∷ [] → target h.states 0 ≡ Some q → Puts t.rules store [] 0 hs [] last → IsOneEntry t store h q last
one_entry e at put_all = absurd (cc)
one_entry {t} {store} {h} {q} e at (puts {h = k} {x = x} {tree = tree} {p = p} symbol shown to put_all) =
    let same : k ≡ h = cc in
    let state : p ≡ q = same_state (sym to ∙ ap (λ (y : Held). target y.states 0) same ∙ at) in
    record { symbol = x; tree = tree; shows = subst (λ (y : Held). Shows store [] nowhere 0 y.kid tree) same shown; is = ap (λ (z : ℕ). record { symbol = x; tree = tree; state = z } ∷ []) state }
one_entry e at (puts symbol shown to (puts symbol1 shown1 to1 rest)) = absurd (cc)

accepted : (t : Tables) (store : Store) (p : Piece) (e : Floor) (h : Held) (w : List TextToken) (end : TextToken) (q : ℕ) → IsGround p e → IsSome (target e.starts 0) → p.stack ≡ h ∷ [] → target h.states 0 ≡ Some q → act_in t q end.id ≡ Accept → Tells t store p w (end ∷ []) [] → (tree : Tree) × Accepts t w end tree × Shows store [] nowhere 0 h.kid tree
accepted t store p e h w end q ground alive stack at accept (tells_error {fault = y} fails errs) =
    absurd (not_none (is_some_of (ground_fault ground.unopened (subst (λ l. Fails l [] y) ground.floors fails))) (ground.apart 0 alive))
accepted t store p e h w end q ground alive stack at accept (tells_stack {last = last} leaves run) =
    let left = ground_left ground.unopened (subst (λ l. Falls l [] leaves.rest leaves.supply) ground.floors leaves.down) in
    let first = subst (λ l. Puts t.rules store l (top 0 leaves.rest) p.stack leaves.rest last) left.1 leaves.up in
    let second : Puts t.rules store [] 0 p.stack [] last = subst (λ l. Puts t.rules store [] (top 0 l) p.stack l last) left.0 first in
    let one = one_entry {t = t} stack at second in
    (one.tree, record { symbol = one.symbol; state = q; reached = subst (λ l. Reaches t 0 [] (w ++ end ∷ []) l (end ∷ [])) one.is run; accept = accept }, one.shows)

pub accept_law : AcceptLaw
accept_law t store p e h w end q closing alive stack at accept = accepted t store p e h w end q closing.ground alive stack at accept closing.tells

-- ---- one end

same_tree : {x y : Entry} → ◌≡◌ {A = List Entry} (x ∷ []) (y ∷ []) → x.tree ≡ y.tree
same_tree {x} {y} e = let same : x ≡ y = cc in ap (λ (z : Entry). z.tree) same

not_both : Accept ≡ Error → ⊥
not_both e = cc

one_tree : (t : Tables) (w : List TextToken) (end : TextToken) (tree other : Tree) → Accepts t w end tree → Accepts t w end other → tree ≡ other
one_tree t w end tree other first second = by (compared first.reached second.reached)
  where
    by : Reaches t 0 (record { symbol = first.symbol; tree = tree; state = first.state } ∷ []) (end ∷ []) (record { symbol = second.symbol; tree = other; state = second.state } ∷ []) (end ∷ []) ⊎ Reaches t 0 (record { symbol = second.symbol; tree = other; state = second.state } ∷ []) (end ∷ []) (record { symbol = first.symbol; tree = tree; state = first.state } ∷ []) (end ∷ []) → tree ≡ other
    by (inl run) = sym (same_tree (stops run end [] refl (inr first.accept)).0)
    by (inr run) = same_tree (stops run end [] refl (inr second.accept)).0

accepts_or_errs : (t : Tables) (w : List TextToken) (end : TextToken) (tree : Tree) (index : ℕ) (token : TextToken) (state : ℕ) → Accepts t w end tree → Rejects t w end index token state → ⊥
accepts_or_errs t w end tree index token state accepts errs = by (compared accepts.reached errs.reached)
  where
    first_of : {x y : TextToken} {xs ys : List TextToken} → x ∷ xs ≡ y ∷ ys → x ≡ y
    first_of e = cc

    by : Reaches t 0 (record { symbol = accepts.symbol; tree = tree; state = accepts.state } ∷ []) (end ∷ []) errs.stack (token ∷ errs.later) ⊎ Reaches t 0 errs.stack (token ∷ errs.later) (record { symbol = accepts.symbol; tree = tree; state = accepts.state } ∷ []) (end ∷ []) → ⊥
    by (inl run) =
        let still = stops run end [] refl (inr accepts.accept) in
        not_both (sym accepts.accept ∙ ap (λ (l : List Entry). act_in t (top 0 l) end.id) (sym still.0) ∙ ap (λ (x : TextToken). act_in t (top 0 errs.stack) x.id) (sym (first_of still.1)) ∙ errs_here errs)
    by (inr run) =
        let still = stops run token errs.later refl (inl (errs_here errs)) in
        not_both (sym accepts.accept ∙ ap (λ (l : List Entry). act_in t (top 0 l) end.id) still.0 ∙ ap (λ (x : TextToken). act_in t (top 0 errs.stack) x.id) (first_of still.1) ∙ errs_here errs)

pub one_end_law : OneEndLaw
one_end_law t w end tree other accepts = (λ second. one_tree t w end tree other accepts second, λ index token state errs. accepts_or_errs t w end tree index token state accepts errs)
