use Rattle.std.proofs.Common.{◌≤◌, ◌-◌, ◌∙◌, length, sym, subst}
use Rattle.segment_parser.specs.Numbers.{AreFrom}
use Rattle.stack_join.proofs.NumberLemmas.{from_set}
use Rattle.stack_join.proofs.carrying.lose.Goals as goal

pub returns-clause-stand : goal.returns-clause-stand
returns-clause-stand c from =
    let was = c.args.arrows.now.2 in
    let base = c.identity.new.self.2 in
    let ids = c.args.leaf.now.ids.items in
    let later = sym (c.identity.ensures.base ∙ c.restrict.ensures.base) in
    record {
      starts = subst (λ b. b ≤ c.in_ok-starts.starts) (sym c.identity.ensures.base) c.in_ok-starts.ensures.stands;
      own = c.in_ok-own.ensures.stands;
      entries = subst (λ b. AreFrom b c.set_last.new.ids.items) later (subst (λ l. AreFrom was l) (sym c.set_last.ensures) (from_set was ids (length ids - 1) c.args.left c.requires.left_stands from));
    }
