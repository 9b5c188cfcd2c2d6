-- A number for each byte string, in the order of words: the empty string has 0, and a string with one more byte has 256
-- times the number before it, and the byte, and 1.
use Rattle.std.specs.Prelude.{ℕ, ◌+◌, ◌*◌, ◌<◌, ◌↔◌, List, [], ◌∷◌}
use Rattle.position_theory.specs.States.{AreBytes}
use Rattle.sample_theory.specs.ShortestWords.{IsWordBefore}

-- the number of a string behind another one, by the other's number
abbrev pub number_from : ℕ → List ℕ → ℕ
number_from a [] = a
number_from a (byte ∷ bytes) = number_from (256 * a + byte + 1) bytes

abbrev pub number : List ℕ → ℕ
number w = number_from 0 w

-- the numbers have the order of the words
abbrev pub NumberLaw : Type 0
NumberLaw = (u v : List ℕ) → AreBytes u → AreBytes v → IsWordBefore u v ↔ (number u < number v)
