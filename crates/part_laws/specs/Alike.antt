-- Tables that do the same in each of their states.
use Rattle.std.specs.Prelude.{◌≡◌, ℕ, ◌<◌}
use Rattle.table_data.specs.Tables.{Tables, act_in, goto_in}

-- they have as many states and the same rules, and do the same on each token, and go to the same state along each name
pub record AreAlike (t u : Tables) : Type 0 where
  pub states : t.states ≡ u.states
  pub rules : t.rules ≡ u.rules
  pub acts : (q a : ℕ) → q < t.states → act_in t q a ≡ act_in u q a
  pub gotos : (q n : ℕ) → q < t.states → goto_in t q n ≡ goto_in u q n
