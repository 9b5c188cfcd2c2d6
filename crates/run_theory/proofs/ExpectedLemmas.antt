-- By the actions of a state, the list of the expected tokens.
use Rattle.std.proofs.Common.{◌≡◌, ◌≢◌, ℕ, zero, suc, ◌+◌, ◌<◌, List, [], ◌∷◌, length, get_or, Bool, true, false, refl, sym, ap, subst, ◌∙◌, arith}
use Rattle.std.specs.Prelude.{◌↔◌, filter, if◌then◌else◌, Contains}
use Rattle.std.specs.List.{range_with_len}
use Rattle.std.proofs.lemmas.Bool.{false≢true}
use Rattle.std.proofs.lemmas.List.Elements.{All-contains, filter_passes}
use Rattle.std.proofs.lemmas.List.FromFn.{length-range_with_len, get_or-range_with_len}
use Rattle.std.proofs.lemmas.List.Kept.{IsStrictlyIncreasing-filter}
use Rattle.scanning_theory.proofs.StartLemmas.{rising_range}
use Rattle.grammar_data.specs.Grammar.{Grammar}
use Rattle.grammar_theory.specs.Rules.{IsInRange, end_mark}
use Rattle.grammar_theory.specs.Derivations.{GoesOn}
use Rattle.next_theory.specs.GoingOn.{AreExpected}
use Rattle.next_theory.proofs.GoingLemmas.{going_range}
use Rattle.table_data.specs.declared.act.Act.{Act}
use Rattle.table_data.specs.declared.act.Act.TheVariants.{Shift, Reduce, Accept, Error}
use Rattle.table_data.specs.Tables.{Tables, act_in}

is_deed : Act → Bool
is_deed (Shift p) = true
is_deed (Reduce r) = true
is_deed Accept = true
is_deed Error = false

deed_not_error : (act : Act) → is_deed act ≡ true → act ≢ Error
unfolding is_deed
deed_not_error act e same = false≢true (sym (ap is_deed same) ∙ e)

not_error_deed : (act : Act) → act ≢ Error → is_deed act ≡ true
unfolding is_deed
not_error_deed (Shift p) not = refl
not_error_deed (Reduce r) not = refl
not_error_deed Accept not = refl
not_error_deed Error not = absurd (not refl)

-- what passes a test is kept by a filter
kept_by : (p : ℕ → Bool) (x : ℕ) (xs : List ℕ) (a : ℕ) (b : Bool) → p x ≡ b → p a ≡ true → Contains (x ∷ xs) a → (Contains xs a → Contains (filter p xs) a) → Contains (filter p (x ∷ xs)) a
kept_by p x xs a true e passes (zero, inside, at) rest =
    subst (λ b. Contains (if b then x ∷ filter p xs else filter p xs) a) (sym e) (zero, omega arith, at)
kept_by p x xs a true e passes (suc k, inside, at) rest =
    let (j, within, same) = rest (k, omega (arith, inside), at) in
    subst (λ b. Contains (if b then x ∷ filter p xs else filter p xs) a) (sym e) (suc j, omega (arith, within), same)
kept_by p x xs a false e passes (zero, inside, at) rest = absurd (false≢true (sym e ∙ ap p at ∙ passes))
kept_by p x xs a false e passes (suc k, inside, at) rest =
    subst (λ b. Contains (if b then x ∷ filter p xs else filter p xs) a) (sym e) (rest (k, omega (arith, inside), at))

contains_filter : (p : ℕ → Bool) (xs : List ℕ) (a : ℕ) → p a ≡ true → Contains xs a → Contains (filter p xs) a
contains_filter p [] a passes (k, inside, at) = absurd (omega (arith, inside))
contains_filter p (x ∷ xs) a passes has = kept_by p x xs a (p x) refl passes has (contains_filter p xs a passes)

in_range : (n a : ℕ) → a < n → Contains (range_with_len 0 n) a
in_range n a less =
    let size : length (range_with_len 0 n) ≡ n = length-range_with_len 0 n in
    let here : get_or (range_with_len 0 n) a a ≡ 0 + a = get_or-range_with_len 0 n a a less in
    (a, omega (arith, size, less), omega (arith, here))

-- the tokens and the end mark on which the state does something
pub expected_by : Tables → ℕ → ℕ → List ℕ
expected_by t state end = filter (λ a. is_deed (act_in t state a)) (range_with_len 0 (end + 1))

pub expected_are : (g : Grammar) → IsInRange g → (t : Tables) (state : ℕ) (u : List ℕ) → ((a : ℕ) → (act_in t state a ≢ Error) ↔ GoesOn g u a) → AreExpected g u (expected_by t state (end_mark g))
unfolding expected_by
expected_are g range t state u exact =
    let test : ℕ → Bool = λ a. is_deed (act_in t state a) in
    let all : List ℕ = range_with_len 0 (end_mark g + 1) in
    record {
      rising = IsStrictlyIncreasing-filter test all (rising_range (end_mark g + 1));
      exact = (λ a. (
        λ has. (exact a).0 (deed_not_error (act_in t state a) (All-contains (λ b. test b ≡ true) (filter test all) a (filter_passes test all) has)),
        λ goes. contains_filter test all a (not_error_deed (act_in t state a) ((exact a).1 goes)) (in_range (end_mark g + 1) a (let (_, low) = going_range g range goes in omega (arith, low))),
      ));
    }
