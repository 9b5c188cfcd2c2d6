use Rattle.std.proofs.Common.{◌<◌, length, sym, ap, ◌∙◌, arith}
use Rattle.grammar_data.specs.declared.token.Token.{Token as TextToken}
use Rattle.plain_parse.proofs.RunLemmas.{started, run_shifted}
use Rattle.plain_parse.proofs.ParseLemmas.{has_state, root_behind, tree_behind, shift_inside, tree_sentence, no_sentence, wrong_parsed}
use Rattle.plain_parse.proofs.parsing.parse_one.Goals as goal

pub loop-run-init : goal.loop-run-init
loop-run-init c = record {
  run = started c.args.tables.now c.args.tokens.now c.in_ok-run.run' c.in_ok-run.ensures;
  within = omega arith;
}

pub bounds-tokens-index : goal.bounds-tokens-index
bounds-tokens-index c = shift_inside c.requires.lawful c.in_ok-state.ensures.run c.loop-run.invariant.within (sym c.in_ok-state.ensures.act.is_act ∙ c.in-Shift.is)

pub shift-requires : goal.shift-requires
shift-requires c =
    let inside : c.loop-run.index < length c.args.tokens.now = shift_inside c.requires.lawful c.in_ok-state.ensures.run c.loop-run.invariant.within (sym c.in_ok-state.ensures.act.is_act ∙ c.in-Shift.is) in
    let text = c.requires.tokens c.loop-run.index c.index-tokens-index.result inside in
    omega (arith, text.0, ap (λ (x : TextToken). x.id) c.index-tokens-index.is, c.holds.ensures.few_tokens)

pub loop-run-preserved : goal.loop-run-preserved
loop-run-preserved c =
    let shifted = c.in_ok-shift-in-Shift.ensures in
    let inside : c.loop-run.index < length c.args.tokens.now = shift_inside c.requires.lawful c.in_ok-state.ensures.run c.loop-run.invariant.within (sym c.in_ok-state.ensures.act.is_act ∙ c.in-Shift.is) in
    record {
      run = run_shifted c.args.tables.now c.args.tokens.now c.loop-run.index c.settle.new.self c.shift.new.self c.index-tokens-index.result c.in-Shift.state
          c.in_ok-state.ensures.run inside c.index-tokens-index.is (sym c.in_ok-state.ensures.act.is_act ∙ c.in-Shift.is) shifted.states shifted.kids shifted.store;
      within = omega (arith, inside);
    }

pub finish-requires : goal.finish-requires
finish-requires c = root_behind c.requires.lawful c.in_ok-state.ensures.run c.requires.tokens c.loop-run.invariant.within c.in_ok-state.ensures.act c.in-Accept.is

pub returns-in-Accept-clause-parsed : goal.returns-in-Accept-clause-parsed
returns-in-Accept-clause-parsed c g lawful =
    tree_behind c.requires.lawful lawful c.in_ok-state.ensures.run c.requires.tokens c.loop-run.invariant.within c.in_ok-state.ensures.act c.in-Accept.is c.finish.ensures

pub returns-in-Accept-clause-tree : goal.returns-in-Accept-clause-tree
returns-in-Accept-clause-tree c g lawful =
    tree_sentence lawful c.args.tokens.now c.finish.result
    (tree_behind c.requires.lawful lawful c.in_ok-state.ensures.run c.requires.tokens c.loop-run.invariant.within c.in_ok-state.ensures.act c.in-Accept.is c.finish.ensures)

pub returns-in-Accept-clause-wrong : goal.returns-in-Accept-clause-wrong
returns-in-Accept-clause-wrong c g lawful =
    no_sentence lawful c.args.tokens.now c.finish.result
    (tree_behind c.requires.lawful lawful c.in_ok-state.ensures.run c.requires.tokens c.loop-run.invariant.within c.in_ok-state.ensures.act c.in-Accept.is c.finish.ensures)

pub wrong-requires-clause-states : goal.wrong-requires-clause-states
wrong-requires-clause-states c = has_state c.in_ok-state.ensures.run

pub returns-in-Error-clause-parsed : goal.returns-in-Error-clause-parsed
returns-in-Error-clause-parsed c g lawful = wrong_parsed lawful c.in_ok-state.ensures.run c.loop-run.invariant.within c.in_ok-state.ensures.act c.in-Error.is c.wrong.ensures

pub returns-in-Error-clause-tree : goal.returns-in-Error-clause-tree
returns-in-Error-clause-tree c g lawful =
    tree_sentence lawful c.args.tokens.now c.wrong.result
    (wrong_parsed lawful c.in_ok-state.ensures.run c.loop-run.invariant.within c.in_ok-state.ensures.act c.in-Error.is c.wrong.ensures)

pub returns-in-Error-clause-wrong : goal.returns-in-Error-clause-wrong
returns-in-Error-clause-wrong c g lawful =
    no_sentence lawful c.args.tokens.now c.wrong.result
    (wrong_parsed lawful c.in_ok-state.ensures.run c.loop-run.invariant.within c.in_ok-state.ensures.act c.in-Error.is c.wrong.ensures)
