-- Finished trees: a root has one.
use Rattle.std.proofs.Common.{List, [], Contains, arith}
use Rattle.grammar_theory.specs.Trees.{Tree, yield}
use Rattle.node_data.specs.declared.kid.Kid.TheVariants.{Node}
use Rattle.tree_theory.specs.Stores.{Ref, IsSupply}
use Rattle.tree_theory.proofs.ShownLemmas.{one_shown_law}
use Rattle.translation_theory.proofs.TokenLemmas.{in_text}
use Rattle.finished_theory.specs.FinishedTrees.{OneFinishedLaw, FinishedLaw}

pub nothing_supplied : {n : Ref} {trees : List Tree} → Contains {X = Ref × List Tree} [] (n, trees) → ⊥
nothing_supplied (k, inside, at) = omega (arith, inside)

no_supply : IsSupply []
no_supply n trees others has too = absurd (nothing_supplied has)

pub one_finished : OneFinishedLaw
one_finished sheet text store root tree other first second = one_shown_law store [] no_supply root 0 (Node root) tree other first.shows second.shows

pub finished : FinishedLaw
finished sheet scanning text store root tree shows of_start tokens = record { shows = shows; of_start = of_start; in_text = in_text scanning text (yield tree) tokens }
