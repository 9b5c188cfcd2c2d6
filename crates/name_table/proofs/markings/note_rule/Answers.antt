use Rattle.std.proofs.Common.{◌≡◌, List, Bool, false, length, sym, subst, arith}
use Rattle.std.specs.Prelude.{slice_get, Some}
use Rattle.std.specs.Option.{option_map}
use Rattle.std.proofs.lemmas.Bool.Decides.{Decides-eqb}
use Rattle.grammar_data.specs.Grammar.{Grammar, Rule}
use Rattle.grammar_theory.specs.Rules.{AllNames}
use Rattle.name_table.specs.Markings.{is_marking}
use Rattle.name_table.proofs.MarkingLemmas.{settled_by, none_from}
use Rattle.name_table.proofs.markings.note_rule.Goals as goal

pub returns-then-not-mentions_one-clause-settled : goal.returns-then-not-mentions_one-clause-settled
returns-then-not-mentions_one-clause-settled c = λ fresh.
    settled_by c.args.sheet.now c.args.marking.now.items c.args.rule c.declares.result.now c.right.result.now c.declares.ensures
    (none_from c.declares.result.now ((Decides-eqb (length c.declares.result.now) 0).0 (sym c.if-is_empty.ensures)))
    (subst (λ (g : Grammar). option_map (λ (r : Rule). r.1) (slice_get g.rules c.args.rule) ≡ Some c.right.result.now) c.grammar-grammar.ensures c.right.ensures.right)
    (subst (λ (m : List Bool). AllNames (λ n. is_marking m n ≡ false) c.right.result.now) c.deref-then-is_empty.ensures.value (c.mentions_one.ensures (grind (arith, c.if-not-mentions_one.true))))
