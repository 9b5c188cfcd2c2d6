use Rattle.std.proofs.Common.{◌≡◌, Some, rules, sym, ◌∙◌}
use Rattle.std.proofs.lemmas.Bool.{false≢true}
use Rattle.lr_tables.proofs.LeastLemmas.{none_same, none_idle, least_found}
use Rattle.lr_tables.proofs.clashes.least_beside.Goals as goal
use Rattle.lr_tables.proofs.clashes.least_beside.Goals.{else-ne-via-then-ne+else-acts, else-ne-via-else-ne}

pub returns-then-acts : goal.returns-then-acts
returns-then-acts c =
    let g = c.args.grammar.now in
    let es = c.args.entries.now in
    let deed = c.in-Some.deed in
    let differs : c.args.known ≡ Some deed → ⊥ = search rules in
    least_found g es c.requires.entries c.args.token c.args.known c.loop-entry.entry-index c.entry-item.result c.loop-entry-test.true c.entry-item.is c.loop-entry.invariant deed c.in-Some.ensures.does
    c.least_item.result c.least_item.ensures.rule c.least_item.ensures.dot c.least_item.ensures.ahead c.requires.known differs (c.acts.ensures.0 c.if-acts.true)

pub loop-entry-preserved : goal.loop-entry-preserved
loop-entry-preserved c =
    let g = c.args.grammar.now in
    let es = c.args.entries.now in
    let deed = c.in-Some.deed in
    elim c.else-ne.branch [
      | else-ne-via-then-ne+else-acts w ↦ none_idle g es c.requires.entries c.args.token c.args.known c.loop-entry.entry-index c.entry-item.result c.loop-entry-test.true c.entry-item.is c.loop-entry.invariant
          (λ h. false≢true (sym w.if-acts.false ∙ w.acts.ensures.1 h))
      | else-ne-via-else-ne w ↦ let same : c.args.known ≡ Some deed = search rules in
          none_same g es c.requires.entries c.args.token c.args.known c.loop-entry.entry-index c.entry-item.result c.loop-entry-test.true c.entry-item.is c.loop-entry.invariant deed c.in-Some.ensures.does same
    ]
