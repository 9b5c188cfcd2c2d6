use Rattle.std.proofs.Common.{take, sym, subst}
use Rattle.map_theory.specs.Relations.{IsBack, IsIdentityOf}
use Rattle.arrow_table.specs.Looks.{HasMap, map_at}
use Rattle.segment_parser.proofs.HeldLemmas.{stays_at, has_grows, rule_there}
use Rattle.segment_parser.proofs.leaf.Leaf.raise.Goals as goal

pub identity-requires-clause-id : goal.identity-requires-clause-id
identity-requires-clause-id c =
    let rule = rule_there c.args.arrows.now.0.rules c.args.rule c.requires.rule in
    (c.in_ok-starts.ensures.back rule.0 rule.1 rule.2).within

pub returns-clause-back : goal.returns-clause-back
returns-clause-back c n right rule =
    let back : HasMap c.back.new.self.1 c.in_ok-starts.starts (IsBack c.args.arrows.now.0 (take c.args.hidden right) (map_at c.args.arrows.now.1 c.args.self.now.starts)) = subst (λ s. HasMap c.back.new.self.1 c.in_ok-starts.starts (IsBack c.args.arrows.now.0 (take c.args.hidden right) (map_at c.args.arrows.now.1 s))) c.in_ok-put_floor.ensures.same.1 (c.in_ok-starts.ensures.back n right rule) in
    has_grows c.back.new.self.1 c.identity.new.self.1 (IsBack c.args.arrows.now.0 (take c.args.hidden right) (map_at c.args.arrows.now.1 c.args.self.now.starts)) c.in_ok-own.ensures.grows c.in_ok-starts.starts back

pub returns-clause-own : goal.returns-clause-own
returns-clause-own c =
    let rule = rule_there c.args.arrows.now.0.rules c.args.rule c.requires.rule in
    let inside = (c.in_ok-starts.ensures.back rule.0 rule.1 rule.2).within in
    subst (λ m. HasMap c.identity.new.self.1 c.in_ok-own.own (IsIdentityOf m)) (sym (stays_at c.back.new.self.1 c.identity.new.self.1 c.in_ok-own.ensures.grows c.in_ok-starts.starts inside)) c.in_ok-own.ensures.identity
