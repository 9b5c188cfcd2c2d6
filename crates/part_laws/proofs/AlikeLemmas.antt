-- Alike tables make the same moves from the same stacks, and so have the same parts.
use Rattle.std.proofs.Common.{◌≡◌, ℕ, ◌<◌, ◌≤◌, ◌⊎◌, inl, inr, ⊎_elim, true, false, nat_lt, List, None, refl, sym, ap, ◌∙◌, subst, arith}
use Rattle.std.proofs.lemmas.Bool.{cases_lt, lt-ltb, le-ltb}
use Rattle.grammar_data.specs.declared.rule.Sym.{Sym}
use Rattle.grammar_data.specs.declared.rule.Sym.TheVariants.{Token, Name}
use Rattle.grammar_data.specs.declared.token.Token.{Token as TextToken}
use Rattle.grammar_data.specs.Grammar.{Grammar}
use Rattle.grammar_theory.specs.Rules.{IsRule, end_mark}
use Rattle.grammar_theory.specs.Trees.{IsTree}
use Rattle.item_theory.specs.Items.{Deed}
use Rattle.collection_data.specs.Entries.{entries_have}
use Rattle.collection_data.specs.Collection.{CollectionParts, IsCollectionOf, has_item, items_in, state_count, step_in}
use Rattle.collection_data.proofs.TableLaws.{one_collection_law}
use Rattle.table_data.specs.declared.act.Act.{Act}
use Rattle.table_data.specs.declared.act.Act.TheVariants.{Error}
use Rattle.table_data.specs.Tables.{Tables, act_in, goto_in, shift_of, step_by}
use Rattle.table_theory.specs.Clashes.{ItemsOf}
use Rattle.table_theory.specs.Deeds.{HasDeed}
use Rattle.table_theory.specs.Canonical.{IsCanonicalAct}
use Rattle.table_theory.proofs.CanonicalLemmas.{canonical_once}
use Rattle.machine_theory.specs.Machine.{Entry, top, IsStack, bottom, pushed, Reduces, reduces}
use Rattle.machine_theory.proofs.StackLemmas.{stack_below}
use Rattle.lawful_theory.specs.Lawful.{IsLawfulFor}
use Rattle.lawful_theory.proofs.CanonicalLemmas.{canonical_lawful_law}
use Rattle.lawful_theory.proofs.FitLemmas.{stacks_stay_law}
use Rattle.part_theory.specs.Moves.{Move, MovesBy, shift_made, reduction_made, Runs, no_move, after_move}
use Rattle.part_theory.specs.Parts.{IsContext, Makes, ErrsWithin, IsAgreed, FirstPart, no_context, agreed_part, AreParts, no_parts, part_then}
use Rattle.part_theory.proofs.MoveLemmas.{moves_reach}
use Rattle.part_laws.specs.Alike.{AreAlike}
use Rattle.part_laws.specs.Laws.{AreCanonicalOf, CanonicalAlikeLaw, AlikePartsLaw, CanonicalPartsLaw}

-- ---- canonical tables are alike

-- past the end mark there is an error, and past the names no state to go to
error_past : (t : Tables) (q a : ℕ) → t.tokens < a → act_in t q a ≡ Error
error_past t q a past = let beyond : nat_lt t.tokens a ≡ true = lt-ltb t.tokens a past in rw beyond refl

none_past : (t : Tables) (q n : ℕ) → t.names ≤ n → goto_in t q n ≡ None
none_past t q n past = let beyond : nat_lt n t.names ≡ false = le-ltb n t.names past in rw beyond refl

module _ (g : Grammar) (c d : CollectionParts) (t u : Tables) (c_is : IsCollectionOf g c) (d_is : IsCollectionOf g d) (t_is : AreCanonicalOf g c t) (u_is : AreCanonicalOf g d u) where
  same_count : state_count c ≡ state_count d
  same_count = (one_collection_law g c d c_is d_is).0

  same_items : (q : ℕ) → q < state_count c → items_in c q ≡ items_in d q
  same_items q less = ((one_collection_law g c d c_is d_is).1 q less).0

  moved_act : (q a : ℕ) (act : Act) → q < state_count c → IsCanonicalAct g (has_item d) (step_in d) q a act → IsCanonicalAct g (has_item c) (step_in c) q a act
  moved_act q a act less is = record {
    deed = λ deed. (λ e. back deed ((is.deed deed).0 e), λ h. (is.deed deed).1 (there deed h));
    target = λ p e. ((one_collection_law g c d c_is d_is).1 q less).1 (Token a) ∙ is.target p e;
  }
    where
      there : (deed : Deed) → HasDeed g (ItemsOf (has_item c) q) a deed → HasDeed g (ItemsOf (has_item d) q) a deed
      there deed h = (h.0, ap (λ es. entries_have es h.0) (sym (same_items q less)) ∙ h.1, h.2)

      back : (deed : Deed) → HasDeed g (ItemsOf (has_item d) q) a deed → HasDeed g (ItemsOf (has_item c) q) a deed
      back deed h = (h.0, ap (λ es. entries_have es h.0) (same_items q less) ∙ h.1, h.2)

  same_act : (q a : ℕ) → q < t.states → act_in t q a ≡ act_in u q a
  same_act q a less = ⊎_elim past within (cases_lt (end_mark g) a)
    where
      mine : q < state_count c
      mine = let count = t_is.count in omega (arith, count, less)

      other : q < state_count d
      other = let same = same_count in omega (arith, same, mine)

      past : end_mark g < a → act_in t q a ≡ act_in u q a
      past more = error_past t q a (let tokens = t_is.tokens in omega (arith, tokens, more)) ∙ sym (error_past u q a (let tokens = u_is.tokens in omega (arith, tokens, more)))

      within : a ≤ end_mark g → act_in t q a ≡ act_in u q a
      within few = canonical_once g (has_item c) (step_in c) q a (act_in t q a) (act_in u q a) (t_is.acts q a mine few) (moved_act q a (act_in u q a) mine (u_is.acts q a other few))

  same_goto : (q n : ℕ) → q < t.states → goto_in t q n ≡ goto_in u q n
  same_goto q n less = ⊎_elim within past (cases_lt n g.names)
    where
      mine : q < state_count c
      mine = let count = t_is.count in omega (arith, count, less)

      other : q < state_count d
      other = let same = same_count in omega (arith, same, mine)

      within : n < g.names → goto_in t q n ≡ goto_in u q n
      within few = t_is.gotos q n mine few ∙ ((one_collection_law g c d c_is d_is).1 q mine).1 (Name n) ∙ sym (u_is.gotos q n other few)

      past : g.names ≤ n → goto_in t q n ≡ goto_in u q n
      past more = none_past t q n (let names = t_is.names in omega (arith, names, more)) ∙ sym (none_past u q n (let names = u_is.names in omega (arith, names, more)))

  canonical_alike : AreAlike t u
  canonical_alike = record {
    states = t_is.count ∙ same_count ∙ sym u_is.count;
    rules = t_is.rules ∙ sym u_is.rules;
    acts = same_act;
    gotos = same_goto;
  }

pub canonical_alike_law : CanonicalAlikeLaw
canonical_alike_law g c d t u c_is d_is t_is u_is = canonical_alike g c d t u c_is d_is t_is u_is

other_way : {t u : Tables} → AreAlike t u → AreAlike u t
other_way alike = record {
  states = sym alike.states;
  rules = sym alike.rules;
  acts = λ q a less. sym (alike.acts q a (let same = alike.states in omega (arith, same, less)));
  gotos = λ q n less. sym (alike.gotos q n (let same = alike.states in omega (arith, same, less)));
}

-- ---- the same moves

module _ (g : Grammar) (t u : Tables) (lawful : IsLawfulFor g t) (alike : AreAlike t u) where
  act_over : {s : List Entry} (a : ℕ) {act : Act} → IsStack t 0 s → act_in t (top 0 s) a ≡ act → act_in u (top 0 s) a ≡ act
  act_over {s = s} a stack does = sym (alike.acts (top 0 s) a (lawful.within s stack)) ∙ does

  step_over : (q : ℕ) (x : Sym) → q < t.states → step_by t q x ≡ step_by u q x
  step_over q (Token a) less = ap shift_of (alike.acts q a less)
  step_over q (Name n) less = alike.gotos q n less

  stack_over : {s : List Entry} → IsStack t 0 s → IsStack u 0 s
  stack_over bottom = bottom
  stack_over (pushed {e = e} {s = s} below tree step) =
      pushed (stack_over below) (subst (λ rules. IsTree rules e.symbol e.tree) alike.rules tree) (sym (step_over (top 0 s) e.symbol (lawful.within s below)) ∙ step)

  reduces_over : {a : ℕ} {s next : List Entry} → IsStack t 0 s → Reduces t 0 a s next → Reduces u 0 a s next
  reduces_over {a = a} stack (reduces {r = r} {n = n} {right = right} taken rest does rule parts same goes is) =
      let below : IsStack t 0 rest = stack_below taken rest (subst (IsStack t 0) parts stack) in
      reduces taken rest (act_over a stack does) (subst (λ rules. IsRule rules r n right) alike.rules rule) parts same (sym (alike.gotos (top 0 rest) n (lawful.within rest below)) ∙ goes) is

  move_over : {move : Move} {s mid : List Entry} {v w : List TextToken} → IsStack t 0 s → MovesBy t 0 move s w mid v → MovesBy u 0 move s w mid v
  move_over stack (shift_made {token = token} does) = shift_made (act_over token.id stack does)
  move_over stack (reduction_made {token = token} does m) = reduction_made (act_over token.id stack does) (reduces_over stack m)

  stays : {s last : List Entry} {v w : List TextToken} {moves : List Move} → IsStack t 0 s → Runs t 0 s w last v moves → IsStack t 0 last
  stays {s = s} {last = last} {v = v} {w = w} stack run = stacks_stay_law g t lawful s last w v stack (moves_reach run)

  runs_over : {s last : List Entry} {v w : List TextToken} {moves : List Move} → IsStack t 0 s → Runs t 0 s w last v moves → Runs u 0 s w last v moves
  runs_over stack no_move = no_move
  runs_over stack (after_move m more) = after_move (move_over stack m) (runs_over (stays stack (after_move m no_move)) more)

  context_over : (a : ℕ) (s : List Entry) → IsContext t a s → IsContext u a s
  context_over a s is = record { stack = stack_over is.stack; state = is.state; shifts = act_over a is.stack is.shifts }

  makes_over : {w : List TextToken} {s : List Entry} {moves : List Move} → IsStack t 0 s → Makes t w s moves → Makes u w s moves
  makes_over stack makes = record { last = makes.last; rest = makes.rest; run = runs_over stack makes.run }

  errs_over : {w : List TextToken} {s : List Entry} {moves : List Move} → IsStack t 0 s → ErrsWithin t w s moves → ErrsWithin u w s moves
  errs_over stack errs = record {
    made = errs.made;
    next = errs.next;
    more = errs.more;
    parts = errs.parts;
    last = errs.last;
    token = errs.token;
    later = errs.later;
    run = runs_over stack errs.run;
    error = act_over errs.token.id (stays stack errs.run) errs.error;
  }

  either_over : {w : List TextToken} {s : List Entry} {moves : List Move} → IsStack t 0 s → Makes t w s moves ⊎ ErrsWithin t w s moves → Makes u w s moves ⊎ ErrsWithin u w s moves
  either_over stack (inl makes) = inl (makes_over stack makes)
  either_over stack (inr errs) = inr (errs_over stack errs)

-- ---- the same parts

agreed_over : (g : Grammar) (t u : Tables) → IsLawfulFor g t → IsLawfulFor g u → AreAlike t u → (a : ℕ) (w : List TextToken) (moves : List Move) → IsAgreed t a w moves → IsAgreed u a w moves
agreed_over g t u lawful other alike a w moves agreed = record {
  context = agreed.context;
  is_context = context_over g t u lawful alike a agreed.context agreed.is_context;
  makes = makes_over g t u lawful alike agreed.is_context.stack agreed.makes;
  each = λ s is. let mine = context_over g u t other (other_way alike) a s is in either_over g t u lawful alike mine.stack (agreed.each s mine);
}

module _ (g : Grammar) (t u : Tables) (lawful : IsLawfulFor g t) (other : IsLawfulFor g u) (alike : AreAlike t u) where
  first_over : {a count : ℕ} {w : List TextToken} → FirstPart t a w count → FirstPart u a w count
  first_over {a = a} (no_context none e) = no_context (λ s is. none s (context_over g u t other (other_way alike) a s is)) e
  first_over {a = a} {w = w} (agreed_part moves agreed longest e) =
      agreed_part moves (agreed_over g t u lawful other alike a w moves agreed) (λ others too. longest others (agreed_over g u t other lawful (other_way alike) a w others too)) e

  parts_over : {w : List TextToken} {parts : List (List TextToken)} → AreParts t w parts → AreParts u w parts
  parts_over no_parts = no_parts
  parts_over (part_then part rest e first more) = part_then part rest e (first_over first) (parts_over more)

pub alike_parts_law : AlikePartsLaw
alike_parts_law g t u lawful other alike w count has = (has.0, parts_over g t u lawful other alike has.1, has.2)

pub canonical_parts_law : CanonicalPartsLaw
canonical_parts_law g range productive reachable c d t u c_is d_is t_is u_is w count has =
    alike_parts_law g t u
    (canonical_lawful_law g range productive reachable (state_count c) (has_item c) (step_in c) t c_is.collection t_is)
    (canonical_lawful_law g range productive reachable (state_count d) (has_item d) (step_in d) u d_is.collection u_is)
    (canonical_alike g c d t u c_is d_is t_is u_is)
    w count has
