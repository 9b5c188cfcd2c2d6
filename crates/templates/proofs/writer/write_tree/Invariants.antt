use Rattle.std.proofs.Common.{[], ◌∷◌, ◌++◌}
use Rattle.lr_base.specs.Outside.{IsSameSink}
use Rattle.grammar_theory.specs.Trees.{Tree}
use Rattle.translation_theory.specs.Translations.{translation_by}
use Rattle.templates.specs.Sources.{HasRules, IsTreeAt}
use Rattle.templates.proofs.UnderwayLemmas.{IsUnderway}
use Rattle.templates.proofs.writer.write_tree.Given as goal

abbrev pub invariant-loop-step : goal.invariant-loop-step
invariant-loop-step g l = record {
  each : (tree : Tree) → IsTreeAt l.source.chunks l.fn.root tree → HasRules l.source.sheet tree → IsUnderway l.source (g.O.Sink.seen l.fn.out) (g.O.Sink.seen l.out) l.blocks.gathered.items (l.frames.items ++ l.last ∷ []) (translation_by l.source.sheet l.source.text l.source.names tree);
  same : IsSameSink (g.O.Sink.seen l.fn.out) (g.O.Sink.seen l.out);
}
