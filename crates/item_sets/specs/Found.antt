-- A map from keys to states, by the numbers of its keys.
use Rattle.std.specs.Prelude.{ℕ, Bool, nat_eq, List, Option}
use Rattle.std.specs.Cmp.Lexicographic.{pointwise}
use Rattle.std.specs.HashMap.{HashMap}
use Rattle.std.specs.Map.{lookup}
use Rattle.std.specs.Global.{Vec}

-- whether two keys are the same
abbrev pub same_key : List ℕ → List ℕ → Bool
same_key key other = pointwise nat_eq key other

-- the state at the key
abbrev pub state_at : {S : Type 0} → HashMap (Vec ℕ) ℕ S → List ℕ → Option ℕ
state_at m key = lookup (λ (k : Vec ℕ). same_key key k.items) m.entries
