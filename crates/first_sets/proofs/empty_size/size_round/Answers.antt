use Rattle.std.proofs.Common.{◌<◌, [], length, get_or, take, sym, subst, arith}
use Rattle.std.proofs.lemmas.List.{take_more}
use Rattle.std.proofs.lemmas.List.Elements.{Contains-get_or}
use Rattle.std.proofs.lemmas.Option.{slice_get-get_or}
use Rattle.grammar_data.specs.Grammar.{Rule}
use Rattle.grammar_theory.specs.Rules.{IsRule}
use Rattle.first_sets.specs.EmptySizes.{IsRound}
use Rattle.grammar_laws.proofs.RangeLemmas.{rule_of}
use Rattle.first_sets.proofs.RoundLemmas.{round_more}
use Rattle.first_sets.proofs.empty_size.size_round.Goals as goal

pub size_left-requires-clause-rule : goal.size_left-requires-clause-rule
size_left-requires-clause-rule c =
    c.requires.rules (get_or c.args.numbers.now c.loop-rule.rule-index 0) (Contains-get_or c.args.numbers.now c.loop-rule.rule-index 0 (omega arith))

pub loop-rule-preserved : goal.loop-rule-preserved
loop-rule-preserved c =
    let g = c.args.grammar.now in
    let numbers = c.args.numbers.now in
    let i = c.loop-rule.rule-index in
    let inside : i < length numbers = omega arith in
    let r = get_or numbers i 0 in
    let below : r < length g.rules = c.requires.rules r (Contains-get_or numbers i 0 inside) in
    let none : Rule = (0, []) in
    let x : Rule = get_or g.rules r none in
    let rule : IsRule g.rules r x.0 x.1 = record { found = slice_get-get_or g.rules r none below } in
    let range = rule_of g c.requires.grammar r x.0 x.1 rule in
    let left : x.0 < length c.loop-rule.sizes.items = omega (arith, range.left, c.loop-rule.invariant.names) in
    record {
      round =
          subst (λ l. IsRound g l c.args.total c.args.sizes.now.items c.size_left.new.sizes.items) (sym (take_more numbers i 0 inside))
          (round_more g (take i numbers) c.args.total c.args.sizes.now.items c.loop-rule.sizes.items c.size_left.new.sizes.items r x.0 x.1 rule left c.loop-rule.invariant.round c.size_left.ensures.sized);
      names = c.size_left.ensures.names;
    }
