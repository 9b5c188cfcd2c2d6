-- A grammar has one first fault at most, and none where it has tables.
use Rattle.std.proofs.Common.{◌≡◌, ℕ, refl, ap, ◌∙◌}
use Rattle.item_theory.specs.Items.{Item}
use Rattle.table_theory.proofs.ConflictLemmas.{first_conflict, first_conflict_once}
use Rattle.grammar_theory.proofs.UselessLemmas.{one_unproductive, one_unreachable, one_too_large}
use Rattle.grammar_data.specs.Grammar.{Grammar}
use Rattle.grammar_faults.specs.declared.conflict.Conflict.{Conflict as ShownConflict}
use Rattle.grammar_faults.specs.declared.fault.GrammarFault.TheVariants.{Unproductive, Unreachable, EmptyTooLarge, TooManyStates, Conflict, NoMemory}
use Rattle.grammar_faults.specs.Building.{IsShown, OneFaultLaw, BuildableLaw}

abbrev shown : ℕ → ℕ → Item → Item → ShownConflict
shown q a first second = record { state = q; token = a; first = first; second = second }

same_shown : (c d : ShownConflict) → c.state ≡ d.state → c.token ≡ d.token → c.first ≡ d.first → c.second ≡ d.second → c ≡ d
same_shown c d state token first second =
    ap (λ q. shown q c.token c.first c.second) state
    ∙ ap (λ a. shown d.state a c.first c.second) token
    ∙ ap (λ i. shown d.state d.token i c.second) first
    ∙ ap (λ i. shown d.state d.token d.first i) second

same_conflict : (g : Grammar) (c d : ShownConflict) → IsShown g c → IsShown g d → c ≡ d
same_conflict g c d first other =
    let same = first_conflict_once g c.state d.state c.token d.token c.first c.second d.first d.second first other in
    same_shown c d same.0 same.1 same.2 same.3

pub one_fault : OneFaultLaw
one_fault g (Unproductive n) (Unproductive m) is other x y = ap Unproductive (one_unproductive g n m is other)
one_fault g (Unproductive n) (Unreachable m) is other x y = absurd (is.unproductive (other.productive n is.name))
one_fault g (Unproductive n) (EmptyTooLarge m) is other x y = absurd (is.unproductive (other.productive n is.name))
one_fault g (Unproductive n) TooManyStates is other x y = absurd (is.unproductive (other.0.productive n is.name))
one_fault g (Unproductive n) (Conflict d) is other x y = absurd (is.unproductive (other.0.useful.productive n is.name))
one_fault g (Unreachable n) (Unproductive m) is other x y = absurd (other.unproductive (is.productive m other.name))
one_fault g (Unreachable n) (Unreachable m) is other x y = ap Unreachable (one_unreachable g n m is other)
one_fault g (Unreachable n) (EmptyTooLarge m) is other x y = absurd (is.unreachable (other.reachable n is.name))
one_fault g (Unreachable n) TooManyStates is other x y = absurd (is.unreachable (other.0.reachable n is.name))
one_fault g (Unreachable n) (Conflict d) is other x y = absurd (is.unreachable (other.0.useful.reachable n is.name))
one_fault g (EmptyTooLarge n) (Unproductive m) is other x y = absurd (other.unproductive (is.productive m other.name))
one_fault g (EmptyTooLarge n) (Unreachable m) is other x y = absurd (other.unreachable (is.reachable m other.name))
one_fault g (EmptyTooLarge n) (EmptyTooLarge m) is other x y = ap EmptyTooLarge (one_too_large g n m is other)
one_fault g (EmptyTooLarge n) TooManyStates is other x y = absurd (other.0.small n is.name is.large)
one_fault g (EmptyTooLarge n) (Conflict d) is other x y = absurd (other.0.useful.small n is.name is.large)
one_fault g TooManyStates (Unproductive m) is other x y = absurd (other.unproductive (is.0.productive m other.name))
one_fault g TooManyStates (Unreachable m) is other x y = absurd (other.unreachable (is.0.reachable m other.name))
one_fault g TooManyStates (EmptyTooLarge m) is other x y = absurd (is.0.small m other.name other.large)
one_fault g TooManyStates TooManyStates is other x y = refl
one_fault g TooManyStates (Conflict d) is other x y = absurd (other.0.few is.1)
one_fault g (Conflict c) (Unproductive m) is other x y = absurd (other.unproductive (is.0.useful.productive m other.name))
one_fault g (Conflict c) (Unreachable m) is other x y = absurd (other.unreachable (is.0.useful.reachable m other.name))
one_fault g (Conflict c) (EmptyTooLarge m) is other x y = absurd (is.0.useful.small m other.name other.large)
one_fault g (Conflict c) TooManyStates is other x y = absurd (is.0.few other.1)
one_fault g (Conflict c) (Conflict d) is other x y = ap Conflict (same_conflict g c d is.1 other.1)
one_fault g NoMemory other h k x y = absurd (x refl)
one_fault g fault NoMemory h k x y = absurd (y refl)

pub buildable : BuildableLaw
buildable g (Unproductive n) is fault = absurd (fault.unproductive (is.small.useful.productive n fault.name))
buildable g (Unreachable n) is fault = absurd (fault.unreachable (is.small.useful.reachable n fault.name))
buildable g (EmptyTooLarge n) is fault = absurd (is.small.useful.small n fault.name fault.large)
buildable g TooManyStates is fault = absurd (is.small.few fault.1)
buildable g (Conflict c) is fault = absurd (is.free (first_conflict g c.state c.token c.first c.second fault.1))
buildable g NoMemory is fault = refl
