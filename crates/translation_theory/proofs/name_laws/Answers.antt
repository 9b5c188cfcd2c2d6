use Rattle.translation_theory.proofs.NameLemmas.{no_repeat, named, first_leaves, number, no_number}
use Rattle.translation_theory.proofs.NotedLemmas.{counted, one_noted}
use Rattle.translation_theory.proofs.name_laws.Goals as goal

pub returns : goal.returns
returns c = record {
  no_repeat = no_repeat;
  named = named;
  first_leaves = first_leaves;
  number = number;
  no_number = no_number;
  times = counted;
  noted = one_noted;
}
