-- What valid items and viable prefixes are made of.
use Rattle.std.proofs.Common.{ℕ, ◌<◌, ◌≤◌, All, List, [], ◌∷◌, length, sym, subst, arith}
use Rattle.std.proofs.lemmas.List.Elements.{All-head}
use Rattle.grammar_data.specs.declared.rule.Sym.{Sym}
use Rattle.grammar_data.specs.declared.rule.Sym.TheVariants.{Name}
use Rattle.grammar_data.specs.Grammar.{Grammar}
use Rattle.grammar_theory.specs.Rules.{IsInRange, NamesBelow, TokensBelow, end_mark}
use Rattle.grammar_theory.proofs.StepLemmas.{derives_tokens_below}
use Rattle.grammar_theory.proofs.RuleLemmas.{names_front, names_back, names_joined, tokens_front, tokens_back, tokens_joined}
use Rattle.item_theory.specs.Items.{Item, first_or}
use Rattle.item_theory.specs.Chains.{Moves, moves, Opens, opens, IsChained, begins, over, into}
use Rattle.item_theory.proofs.ItemLemmas.{rule_in_range, right_names, right_tokens}
use Rattle.item_theory.proofs.ChainLemmas.{IsAhead, is_ahead, ahead_of_follows}

module _ (g : Grammar) (range : IsInRange g) where
  first_below : {other : ℕ} (u : List ℕ) → All (λ a. a < g.tokens) u → other ≤ end_mark g → first_or other u ≤ end_mark g
  first_below [] all le = le
  first_below (a ∷ u) all le = let less = All-head (λ b. b < g.tokens) a u all in omega arith

  ahead_below : {after : List Sym} {a b : ℕ} → TokensBelow g.tokens after → a ≤ end_mark g → IsAhead g after a b → b ≤ end_mark g
  ahead_below {a = a} below le (is_ahead {u = u} d e) = subst (λ c. c ≤ end_mark g) (sym e) (first_below u (derives_tokens_below g range below d) le)

  open_below : {i j : Item} → i.ahead ≤ end_mark g → Opens g i j → (j.rule ≤ length g.rules) × (j.ahead ≤ end_mark g)
  open_below {i} {j} le (opens n m before after right place front_place follows) =
      (rule_in_range g front_place, ahead_below (tokens_back (λ a. a < g.tokens) before (Name m ∷ after) (right_tokens g range place.rule)) le (ahead_of_follows g after follows))

  move_keeps : {x : Sym} {i j : Item} → Moves g x i j → (i.rule ≤ length g.rules) × (i.ahead ≤ end_mark g) → (j.rule ≤ length g.rules) × (j.ahead ≤ end_mark g)
  move_keeps (moves n before after place e) below = subst (λ k. (k.rule ≤ length g.rules) × (k.ahead ≤ end_mark g)) (sym e) below

  -- the items of chains are in range
  pub chain_item_below : {xs : List Sym} {i : Item} → IsChained g xs i → (i.rule ≤ length g.rules) × (i.ahead ≤ end_mark g)
  chain_item_below (begins e) = subst (λ k. (k.rule ≤ length g.rules) × (k.ahead ≤ end_mark g)) (sym e) (omega arith, omega arith)
  chain_item_below (over c move to) = move_keeps move (chain_item_below c)
  chain_item_below (into c o) = open_below (chain_item_below c).1 o

  moved_symbol : {x : Sym} {i j : Item} → Moves g x i j → NamesBelow g.names (x ∷ []) × TokensBelow g.tokens (x ∷ [])
  moved_symbol {x} (moves n before after place e) = (
    names_front (λ k. k < g.names) (x ∷ []) after (names_back (λ k. k < g.names) before (x ∷ after) (right_names g range place.rule)),
    tokens_front (λ a. a < g.tokens) (x ∷ []) after (tokens_back (λ a. a < g.tokens) before (x ∷ after) (right_tokens g range place.rule)),
  )

  -- the lists of chains are in range
  pub chain_list_below : {xs : List Sym} {i : Item} → IsChained g xs i → NamesBelow g.names xs × TokensBelow g.tokens xs
  chain_list_below (begins e) = (tt, tt)
  chain_list_below (over {x = x} {xs = xs} c move to) =
      let before = chain_list_below c in
      let one = moved_symbol move in (
        subst (λ l. NamesBelow g.names l) (sym to) (names_joined (λ k. k < g.names) xs (x ∷ []) before.0 one.0),
        subst (λ l. TokensBelow g.tokens l) (sym to) (tokens_joined (λ a. a < g.tokens) xs (x ∷ []) before.1 one.1),
      )
  chain_list_below (into c o) = chain_list_below c
