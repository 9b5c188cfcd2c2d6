-- At most one fault is due.
use Rattle.std.proofs.Common.{refl, ap}
use Rattle.grammar_theory.proofs.UselessLemmas.{one_unproductive, one_unreachable, one_too_large}
use Rattle.first_sets.specs.declared.fault.UselessFault.TheVariants.{Unproductive, Unreachable, EmptyTooLarge, NoMemory}
use Rattle.first_sets.specs.NameFaults.{UsefulLaw, OneNameFaultLaw}

pub useful_law : UsefulLaw
useful_law g (Unproductive n) useful due = absurd (due.unproductive (useful.productive n due.name))
useful_law g (Unreachable n) useful due = absurd (due.unreachable (useful.reachable n due.name))
useful_law g (EmptyTooLarge n) useful due = absurd (useful.small n due.name due.large)
useful_law g NoMemory useful due = refl

pub one_fault_law : OneNameFaultLaw
one_fault_law g (Unproductive n) (Unproductive m) due other some some_other = ap Unproductive (one_unproductive g n m due other)
one_fault_law g (Unproductive n) (Unreachable m) due other some some_other = absurd (due.unproductive (other.productive n due.name))
one_fault_law g (Unproductive n) (EmptyTooLarge m) due other some some_other = absurd (due.unproductive (other.productive n due.name))
one_fault_law g (Unreachable n) (Unproductive m) due other some some_other = absurd (other.unproductive (due.productive m other.name))
one_fault_law g (Unreachable n) (Unreachable m) due other some some_other = ap Unreachable (one_unreachable g n m due other)
one_fault_law g (Unreachable n) (EmptyTooLarge m) due other some some_other = absurd (due.unreachable (other.reachable n due.name))
one_fault_law g (EmptyTooLarge n) (Unproductive m) due other some some_other = absurd (other.unproductive (due.productive m other.name))
one_fault_law g (EmptyTooLarge n) (Unreachable m) due other some some_other = absurd (other.unreachable (due.reachable m other.name))
one_fault_law g (EmptyTooLarge n) (EmptyTooLarge m) due other some some_other = ap EmptyTooLarge (one_too_large g n m due other)
one_fault_law g NoMemory other due its some some_other = absurd (some refl)
one_fault_law g fault NoMemory due its some some_other = absurd (some_other refl)
