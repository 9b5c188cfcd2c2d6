-- Faults that are carried back pair by pair, and states class by class.
use Rattle.std.proofs.Common.{◌≡◌, ℕ, ◌+◌, [], ◌∷◌, ◌++◌, List, map, take, Option, Some, None, slice_get, ap, ◌∙◌, append-nil}
use Rattle.std.specs.List.{cons_option}
use Rattle.std.specs.Option.{option_map}
use Rattle.std.proofs.lemmas.Grind.{take_at_read}
use Rattle.std.proofs.lemmas.Option.{get_or_from_slice_get, slice_get_within}
use Rattle.std.proofs.lemmas.List.{map-append}
use Rattle.std.proofs.lemmas.List.Elements.{filter_map-append}
use Rattle.map_theory.specs.Maps.{StateMap}
use Rattle.piece_theory.specs.Pieces.{Fault, Floor, fault_at}
use Rattle.join_theory.specs.Faults.{carried_to}
use Rattle.landing_laws.specs.Carrying.{carried_faults}

pub one_more : {X : Type 0} (xs : List X) (i : ℕ) (x : X) → slice_get xs i ≡ Some x → take (i + 1) xs ≡ take i xs ++ x ∷ []
one_more xs i x at = (take_at_read xs i x (slice_get_within xs i x at)).1 ∙ ap (λ y. take i xs ++ y ∷ []) (get_or_from_slice_get xs i x x at)

module _ (tokens : ℕ) (f : Floor) (m : StateMap) (i start state : ℕ) (at : slice_get m i ≡ Some (start, state)) where
  carried_push : carried_faults tokens f (take (i + 1) m) ≡ carried_faults tokens f (take i m) ++ cons_option (option_map (carried_to tokens start) (fault_at f.faults state)) []
  carried_push = ap (carried_faults tokens f) (one_more m i (start, state) at) ∙ filter_map-append (λ (pair : ℕ × ℕ). option_map (carried_to tokens pair.0) (fault_at f.faults pair.1)) (take i m) ((start, state) ∷ [])

  pub fault_more : (x : Fault) → fault_at f.faults state ≡ Some x → carried_faults tokens f (take (i + 1) m) ≡ carried_faults tokens f (take i m) ++ carried_to tokens start x ∷ []
  fault_more x is = carried_push ∙ ap (λ (o : Option Fault). carried_faults tokens f (take i m) ++ cons_option (option_map (carried_to tokens start) o) []) is

  pub clear_more : fault_at f.faults state ≡ None → carried_faults tokens f (take (i + 1) m) ≡ carried_faults tokens f (take i m)
  clear_more none = carried_push ∙ ap (λ (o : Option Fault). carried_faults tokens f (take i m) ++ cons_option (option_map (carried_to tokens start) o) []) none ∙ append-nil (carried_faults tokens f (take i m))

pub map_more : (g : ℕ → Option ℕ) (xs : List ℕ) (i x : ℕ) → slice_get xs i ≡ Some x → map g (take (i + 1) xs) ≡ map g (take i xs) ++ g x ∷ []
map_more g xs i x at = ap (map g) (one_more xs i x at) ∙ map-append g (take i xs) (x ∷ [])
