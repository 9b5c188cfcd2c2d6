use Rattle.std.proofs.Common.{sym, subst}
use Rattle.segment_parser.proofs.FlushLemmas.{AreNumbersOf, numbers_none}
use Rattle.segment_parser.proofs.leaf.Leaf.keep_list.Goals as goal

pub loop-place-init : goal.loop-place-init
loop-place-init c = subst (λ l. AreNumbersOf c.args.self.now.ids.items c.args.places.now 0 l) (sym c.in_ok-keep.ensures.items) (numbers_none c.args.self.now.ids.items c.args.places.now)
