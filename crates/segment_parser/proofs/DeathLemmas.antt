-- The starts that a look leaves out are those whose states err.
use Rattle.std.proofs.Common.{◌≡◌, ℕ, cond, [], ◌∷◌, Option, Some, None, refl, ap, ◌∙◌}
use Rattle.std.specs.Prelude.{All, is_some, option_and_then}
use Rattle.std.specs.List.{cons_option}
use Rattle.std.proofs.lemmas.List.Elements.{All-nil, All-cons, All-head, All-tail, All-weaker}
use Rattle.grammar_data.specs.declared.token.Token.{Token as TextToken}
use Rattle.table_data.specs.declared.act.Act.{Act}
use Rattle.table_data.specs.declared.act.Act.TheVariants.{Shift, Reduce, Accept, Error}
use Rattle.table_data.specs.Tables.{Tables, act_in}
use Rattle.map_theory.specs.Maps.{StateMap, target, IsRising}
use Rattle.map_theory.specs.Relations.{AreAlive, is_error}
use Rattle.map_theory.proofs.MapLemmas.{rising_tail, target_at, target_later}
use Rattle.level_laws.specs.Levels.{fault_of}
use Rattle.look_laws.specs.Deaths.{deaths}
use Rattle.piece_blocks.specs.Faults.{lost}

-- each start of a rising map has its target
pub own_targets : (m : StateMap) → IsRising m → All (λ pair. target m pair.0 ≡ Some pair.1) m
own_targets [] rising = All-nil (λ pair. target [] pair.0 ≡ Some pair.1)
own_targets (pair ∷ m) rising =
    All-cons (λ x. target (pair ∷ m) x.0 ≡ Some x.1) pair m (target_at pair m pair.0 refl)
    (All-weaker (λ x. target m x.0 ≡ Some x.1) (λ x. target (pair ∷ m) x.0 ≡ Some x.1) (λ x is. target_later pair m x.0 x.1 rising is) m (own_targets m (rising_tail pair m rising)))

module _ (t : Tables) (token : TextToken) (index : ℕ) (m alive : StateMap) where
  lost_one : (start state : ℕ) (act : Act) (o : Option ℕ) → o ≡ cond (is_error act) None (Some state) → cond (is_some o) None (Some (record { start = start; index = index; token = token; state = state })) ≡ fault_of token index start state act
  lost_one start state (Shift p) o is = ap (λ x. cond (is_some x) None (Some (record { start = start; index = index; token = token; state = state }))) is
  lost_one start state (Reduce r) o is = ap (λ x. cond (is_some x) None (Some (record { start = start; index = index; token = token; state = state }))) is
  lost_one start state Accept o is = ap (λ x. cond (is_some x) None (Some (record { start = start; index = index; token = token; state = state }))) is
  lost_one start state Error o is = ap (λ x. cond (is_some x) None (Some (record { start = start; index = index; token = token; state = state }))) is

  lost_part : (n : StateMap) → AreAlive t token.id m alive → All (λ pair. target m pair.0 ≡ Some pair.1) n → lost n alive token index ≡ deaths t token index n
  lost_part [] living own = refl
  lost_part (pair ∷ n) living own =
      let here : target m pair.0 ≡ Some pair.1 = All-head (λ x. target m x.0 ≡ Some x.1) pair n own in
      let is : target alive pair.0 ≡ cond (is_error (act_in t pair.1 token.id)) None (Some pair.1) = living.targets pair.0 ∙ ap (option_and_then (λ p. cond (is_error (act_in t p token.id)) None (Some p))) here in
      ap (λ o. cons_option o (lost n alive token index)) (lost_one pair.0 pair.1 (act_in t pair.1 token.id) (target alive pair.0) is)
      ∙ ap (cons_option (fault_of token index pair.0 pair.1 (act_in t pair.1 token.id))) (lost_part n living (All-tail (λ x. target m x.0 ≡ Some x.1) pair n own))

  pub lost_deaths : IsRising m → AreAlive t token.id m alive → lost m alive token index ≡ deaths t token index m
  lost_deaths rising living = lost_part m living (own_targets m rising)
