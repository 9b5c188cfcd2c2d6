use Rattle.std.proofs.Common.{◌<◌, [], ◌∷◌, ◌++◌, length, get_or, take, sym, subst, arith}
use Rattle.std.proofs.lemmas.List.{take_more, take_all}
use Rattle.std.proofs.lemmas.List.Elements.{Contains-get_or}
use Rattle.grammar_theory.specs.Rules.{IsRule}
use Rattle.first_sets.proofs.UseLemmas.{AreMentionsOf, mentions_more, mentions_done, use_in_range, left_is}
use Rattle.first_sets.proofs.uses.pairs_of_mentions.Goals as goal

pub left-requires : goal.left-requires
left-requires c =
    let uses = c.args.uses.now in
    let i = c.loop-name.name-index in
    use_in_range c.args.grammar.now.rules uses (get_or uses i (0, 0)).0 (get_or uses i (0, 0)).1 c.requires (Contains-get_or uses i (0, 0) (omega arith))

pub loop-name-preserved : goal.loop-name-preserved
loop-name-preserved c =
    let rules = c.args.grammar.now.rules in
    let uses = c.args.uses.now in
    let i = c.loop-name.name-index in
    let inside : i < length uses = omega arith in
    let name = (get_or uses i (0, 0)).0 in
    let number = (get_or uses i (0, 0)).1 in
    let found = c.requires.only name number (Contains-get_or uses i (0, 0) inside) in
    let left = c.push.inside.0 in
    let rule : IsRule rules number left found.1 = subst (λ n. IsRule rules number n found.1) (sym c.push.view_is) (left_is rules number found.0 c.left.result found.1 found.2 c.left.ensures.left) in
    record {
      mentions =
          subst (λ l. AreMentionsOf rules l c.push-in-loop-name.new.self.items) (sym (take_more uses i (0, 0) inside))
          (subst (λ l. AreMentionsOf rules (take i uses ++ (name, number) ∷ []) l) (sym c.in_ok-push.ensures.items)
          (mentions_more rules (take i uses) c.loop-name.pairs.items name number left found.1 rule found.3 c.loop-name.invariant.mentions));
      count = omega (arith, c.loop-name.invariant.count, c.in_ok-push.ensures.len);
    }

pub returns-clause-mentions : goal.returns-clause-mentions
returns-clause-mentions c =
    mentions_done c.args.grammar.now.rules c.args.uses.now c.loop-name.pairs.items c.requires
    (subst (λ l. AreMentionsOf c.args.grammar.now.rules l c.loop-name.pairs.items) (take_all c.loop-name.name-index c.args.uses.now (omega arith)) c.loop-name.invariant.mentions)
