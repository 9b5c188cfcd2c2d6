-- A piece is put on the gathered entries, or its tokens err.
use Rattle.std.proofs.Common.{◌≡◌, ◌≢◌, ℕ, ◌+◌, ◌⊎◌, inl, inr, List, [], ◌∷◌, ◌++◌, length, get_or, Contains, Some, None, refl, sym, ap, ◌∙◌, subst, subst₂, append_assoc, arith}
use Rattle.std.proofs.Math.Seq.{get_or-append_seam}
use Rattle.std.proofs.lemmas.List.{length-append}
use Rattle.grammar_data.specs.declared.token.Token.{Token as TextToken}
use Rattle.node_data.specs.declared.kid.Kid.{Kid}
use Rattle.node_data.specs.declared.kid.Kid.TheVariants.{Hidden}
use Rattle.tree_theory.specs.Stores.{Ref, Store}
use Rattle.tree_theory.specs.Walks.{Step, WalksAll}
use Rattle.table_data.specs.declared.act.Act.TheVariants.{Accept, Error}
use Rattle.table_data.specs.Tables.{Tables, act_in}
use Rattle.machine_theory.specs.Machine.{bottom, Errs}
use Rattle.machine_theory.proofs.RunLemmas.{error_more_input_law}
use Rattle.lawful_theory.specs.Lawful.{IsLawful}
use Rattle.lawful_theory.proofs.FitLemmas.{run_stack}
use Rattle.parse_theory.proofs.ReadLemmas.{accept_item}
use Rattle.use_theory.specs.Distinct.{IsDistinct}
use Rattle.use_theory.specs.Kept.{IsKept, IsSame}
use Rattle.use_theory.proofs.CountLemmas.{times_back}
use Rattle.use_theory.proofs.KeptLemmas.{kept_same, kept_then}
use Rattle.piece_theory.specs.Pieces.{Fault, Piece, kids_of}
use Rattle.piece_theory.specs.Applies.{nowhere, Tells}
use Rattle.piece_theory.specs.Lists.{first_or, ArePieces, no_piece, piece_first, nodes_of_floors}
use Rattle.piece_theory.specs.Laws.{HasMore}
use Rattle.join_theory.proofs.AliveLemmas.{none_or_some}
use Rattle.seam_theory.proofs.SameLemmas.{pieces_same}
use Rattle.finish_theory.specs.Endings.{IsGround}
use Rattle.node_store.specs.Chunks.{store_of}
use Rattle.plain_parse.specs.Parses.{AreTextTokens}
use Rattle.stack_finish.specs.declared.gathered.Gathered.{Gathered}
use Rattle.stack_finish.specs.Gathering.{ground, entries_on, piece_on, top_of, token_total, IsUnder, IsGathered}
use Rattle.stack_finish.proofs.EntryLemmas.{entries_kids}
use Rattle.stack_finish.proofs.UnderLemmas.{IsStanding, standing}

-- ---- tokens and counts

pub total_is : {t : Tables} {store : Store} {next : List TextToken} {ps : List Piece} {w : List TextToken} {steps : List Step} → ArePieces t store next ps w steps → length w ≡ token_total ps
total_is no_piece = refl
total_is (piece_first {p = p} {ps = ps} {u = u} {v = v} made stands takes stuck more parts walk) =
    let all = ap length parts ∙ length-append u v in
    let rest = total_is more in
    let counted = made.counted in
    omega (arith, all, rest, counted)

-- the tokens of a list of pieces begin with the first piece's
begins_with : {t : Tables} {store : Store} {right : Piece} {rest : List Piece} {w : List TextToken} {steps : List Step} → ArePieces t store [] (right ∷ rest) w steps → (more : List TextToken) × (w ≡ right.first ∷ more)
begins_with (piece_first {p = p} {u = u} {v = v} made stands takes stuck more parts walk) = (made.later ++ v, parts ∙ ap (λ l. l ++ v) made.begins)

pub ground_is : (kids : List Kid) (states : List ℕ) → IsGround (piece_on kids states) ground
ground_is kids states = record { floors = refl; unopened = refl; apart = λ q here. refl }

-- ---- a store with more nodes

same_more : {store new : Store} {floors : List Ref} (front steps : List Step) → HasMore store new → IsDistinct store floors (front ++ steps) → IsSame store new steps
same_more {store} {new} {floors} front steps has once m some = by (none_or_some (store m))
  where
    by : (store m ≡ None) ⊎ ((n : ℕ × List Kid) × (store m ≡ Some n)) → new m ≡ store m
    by (inl none) = absurd (once.there m (times_back m front steps some) none)
    by (inr there) = has m there.0.0 there.0.1 there.1 ∙ sym there.1

pub kept_more : {store new : Store} → HasMore store new → IsKept store new
kept_more {store} {new} has = kept_same store new (λ m some. by m some (none_or_some (store m)))
  where
    by : (m : Ref) → store m ≢ None → (store m ≡ None) ⊎ ((n : ℕ × List Kid) × (store m ≡ Some n)) → new m ≡ store m
    by m some (inl none) = absurd (some none)
    by m some (inr there) = has m there.0.0 there.0.1 there.1 ∙ sym there.1

-- ---- the next token is looked at

module _ {t : Tables} {base : Store} {s : Gathered} {rest : List Piece} {w : List TextToken} (at : IsGathered t base s rest w) where
  kids_are : kids_of (entries_on s.kids.items s.states.items) ≡ s.kids.items
  kids_are = entries_kids s.kids.items s.states.items at.even

  visible : Contains {X = Kid} s.kids.items Hidden → ⊥
  visible = subst (λ l. Contains {X = Kid} l Hidden → ⊥) kids_are at.ending.visible

  walk : WalksAll (store_of s.store) nowhere 0 s.kids.items at.ending.steps
  walk = subst (λ l. WalksAll (store_of s.store) nowhere 0 l at.ending.steps) kids_are at.ending.walk

  pub under_next : (token : TextToken) → first_or [] rest ≡ token ∷ [] → IsUnder t (store_of s.store) s.kids.items s.states.items at.ending.tokens token (nodes_of_floors rest) at.ending.rest_steps
  under_next token next = record {
    even = at.even;
    tells = subst (λ l. Tells t (store_of s.store) (piece_on s.kids.items s.states.items) at.ending.tokens l []) next at.ending.tells;
    visible = visible;
    steps = at.ending.steps;
    walk = walk;
    yields = at.ending.yields;
    each_once = at.ending.each_once;
  }

  -- and reductions are made under it
  pub gathered_again : (next : Gathered) (token : TextToken) → first_or [] rest ≡ token ∷ [] → HasMore (store_of s.store) (store_of next.store) → next.count ≡ s.count → IsUnder t (store_of next.store) next.kids.items next.states.items at.ending.tokens token (nodes_of_floors rest) at.ending.rest_steps → IsGathered t base next rest w
  gathered_again next token first has count under = record {
    kept = kept_then base (store_of s.store) (store_of next.store) at.kept (kept_more has);
    even = under.even;
    ending = record {
      ground = ground_is next.kids.items next.states.items;
      tokens = at.ending.tokens;
      rest_tokens = at.ending.rest_tokens;
      steps = under.steps;
      rest_steps = at.ending.rest_steps;
      tells = subst (λ l. Tells t (store_of next.store) (piece_on next.kids.items next.states.items) at.ending.tokens l []) (sym first) under.tells;
      after = pieces_same (same_more at.ending.steps at.ending.rest_steps has at.ending.each_once) at.ending.after;
      parts = at.ending.parts;
      visible = subst (λ l. Contains {X = Kid} l Hidden → ⊥) (sym (entries_kids next.kids.items next.states.items under.even)) under.visible;
      walk = subst (λ l. WalksAll (store_of next.store) nowhere 0 l under.steps) (sym (entries_kids next.kids.items next.states.items under.even)) under.walk;
      yields = under.yields;
      each_once = under.each_once;
    };
    counted = ap (λ n. n + token_total rest) count ∙ at.counted;
  }

  pub tokens_counted : length at.ending.tokens ≡ s.count
  tokens_counted =
      let all = ap length at.ending.parts ∙ length-append at.ending.tokens at.ending.rest_tokens in
      let rest_count = total_is at.ending.after in
      let counted = at.counted in
      omega (arith, all, rest_count, counted)

-- ---- what the state on top does on the next piece's first token

module _ {t : Tables} (lawful : IsLawful t) {base : Store} {s : Gathered} {right : Piece} {rest : List Piece} {w : List TextToken} (at : IsGathered t base s (right ∷ rest) w) where
  stand : IsStanding t (store_of s.store) s.kids.items s.states.items at.ending.tokens right.first
  stand = let under = under_next at right.first refl in standing under.even under.tells

  more : (later : List TextToken) × (at.ending.rest_tokens ≡ right.first ∷ later)
  more = begins_with at.ending.after

  input : (at.ending.tokens ++ right.first ∷ []) ++ more.0 ≡ w
  input = append_assoc at.ending.tokens (right.first ∷ []) more.0 ∙ ap (λ l. at.ending.tokens ++ l) (sym more.1) ∙ sym at.ending.parts

  -- an error is that of the whole text
  pub stops : act_in t (top_of s) right.first.id ≡ Error → Errs t 0 [] w s.count right.first (top_of s)
  stops error =
      let errs : Errs t 0 [] (at.ending.tokens ++ right.first ∷ []) (length at.ending.tokens) right.first (top_of s) = record {
        stack = stand.last;
        before = at.ending.tokens;
        later = [];
        parts = refl;
        at = refl;
        reached = stand.run;
        state_on_top = sym stand.on_top;
        error = error;
      } in
      subst₂ (λ l n. Errs t 0 [] l n right.first (top_of s)) input (tokens_counted at) (error_more_input_law t 0 [] (at.ending.tokens ++ right.first ∷ []) more.0 (length at.ending.tokens) right.first (top_of s) errs)

  -- the text isn't accepted before its end
  pub not_yet : AreTextTokens t w → act_in t (top_of s) right.first.id ≡ Accept → ⊥
  not_yet text accept =
      let end = (accept_item lawful.1 (run_stack lawful.1 stand.run bottom) (ap (λ q. act_in t q right.first.id) (sym stand.on_top) ∙ accept)).1 in
      let parts : w ≡ at.ending.tokens ++ right.first ∷ more.0 = at.ending.parts ∙ ap (λ l. at.ending.tokens ++ l) more.1 in
      let all = ap length parts ∙ length-append at.ending.tokens (right.first ∷ more.0) in
      let here : get_or w (length at.ending.tokens) right.first ≡ right.first = ap (λ l. get_or l (length at.ending.tokens) right.first) parts ∙ get_or-append_seam at.ending.tokens right.first more.0 right.first in
      (text (length at.ending.tokens) right.first (omega (arith, all))).1 (ap (λ (x : TextToken). x.id) here ∙ end)

-- ---- after the reductions under that token

pub settled_again : {t : Tables} {base : Store} {s : Gathered} {right : Piece} {rest : List Piece} {w : List TextToken} (at : IsGathered t base s (right ∷ rest) w) (next : Gathered) (first : TextToken) → right.first ≡ first → ((tokens : List TextToken) (mark : TextToken) (nodes : List Ref) (behind : List Step) → mark.id ≡ first.id → IsUnder t (store_of s.store) s.kids.items s.states.items tokens mark nodes behind → IsUnder t (store_of next.store) next.kids.items next.states.items tokens mark nodes behind) → HasMore (store_of s.store) (store_of next.store) → next.count ≡ s.count → IsGathered t base next (right ∷ rest) w
settled_again {right = right} {rest = rest} at next first same under has count = gathered_again at next right.first refl has count (under at.ending.tokens right.first (nodes_of_floors (right ∷ rest)) at.ending.rest_steps (ap (λ (x : TextToken). x.id) same) (under_next at right.first refl))

pub fault_tells : {t : Tables} {w : List TextToken} {index : ℕ} {token first : TextToken} {state : ℕ} {fault : Fault} → fault ≡ record { start = 0; index = index; token = first; state = state } → token ≡ first → Errs t 0 [] w index token state → Errs t 0 [] w fault.index fault.token fault.state
fault_tells {t} {w} {index} {token} {first} {state} {fault} is same errs = subst (λ (x : Fault). Errs t 0 [] w x.index x.token x.state) (sym is) (subst (λ (k : TextToken). Errs t 0 [] w index k state) same errs)
