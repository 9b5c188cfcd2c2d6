use Rattle.std.proofs.Common.{◌≡◌, ◌+◌, ◌<◌, ◌≤◌, ◌^◌, length, sym, ap, subst, ◌∙◌}
use Rattle.std.specs.Prelude.{All, None, true, sum_by}
use Rattle.outline_theory.specs.Limits.{first_passed, positions_in}
use Rattle.outline_theory.specs.Numbering.{WordLists, is_one_of, rules_by}
use Rattle.outline_theory.specs.Words.{StartUse, starts}
use Rattle.outline_numbers.specs.Symbols.{lists_in}
use Rattle.numbering_theory.specs.KnownWords.{unnamed_in, IsKnownGroup}
use Rattle.numbering_theory.specs.Passing.{all_measures, IsFirstFaultOf}
use Rattle.std.specs.List.{flat_map}
use Rattle.numbering_theory.proofs.OutlineLemmas.{all_known, starts_known}
use Rattle.numbering_theory.proofs.GrammarLemmas.{few_names, unnamed_behind, grammar_by}
use Rattle.numbering_theory.proofs.SheetLemmas.{keeps, passes, ordinary}
use Rattle.outline_numbers.proofs.SheetLemmas.{numbered_is}
use Rattle.outline_numbers.proofs.numbering.number_outline.Goals as goal

pub rules_within-requires-clause-tokens : goal.rules_within-requires-clause-tokens
rules_within-requires-clause-tokens c =
    subst (λ (l : WordLists). length l.tokens ≤ length l.literals) (sym c.in_ok-numbers.ensures.lists) (few_names c.args.outline.now)

pub rules_within-requires-clause-known : goal.rules_within-requires-clause-known
rules_within-requires-clause-known c =
    subst (λ (l : WordLists). All (IsKnownGroup l) c.args.outline.now.groups) (sym c.in_ok-numbers.ensures.lists) (all_known c.args.outline.now c.requires.faultless)

pub rules_within-requires-clause-small : goal.rules_within-requires-clause-small
rules_within-requires-clause-small c =
    subst (λ l. sum_by positions_in c.args.decls.now + sum_by length l < 2 ^ 64) (sym (ap unnamed_in c.in_ok-numbers.ensures.lists ∙ unnamed_behind c.args.outline.now)) c.requires.small

pub start_of-start-requires-clause-known : goal.start_of-start-requires-clause-known
start_of-start-requires-clause-known c =
    subst (λ (l : WordLists). All (λ (start : StartUse). is_one_of l.names start.name.bytes ≡ true) (starts c.args.outline.now)) (sym c.in_ok-numbers.ensures.lists) (starts_known c.args.outline.now c.requires.faultless)

pub copy_unnamed-requires : goal.copy_unnamed-requires
copy_unnamed-requires c =
    subst (λ (l : WordLists). length l.tokens ≤ length l.literals) (sym c.in_ok-numbers.ensures.lists) (few_names c.args.outline.now)

pub returns-clause-limits : goal.returns-clause-limits
returns-clause-limits c =
    keeps c.args.outline.now c.args.decls.now (subst (λ (l : WordLists). first_passed (all_measures l c.args.decls.now (flat_map (rules_by l) c.args.outline.now.groups)) ≡ None) c.in_ok-numbers.ensures.lists c.in-Ok.ensures.limits)

pub grammar_of-grammar-requires : goal.grammar_of-grammar-requires
grammar_of-grammar-requires c =
    grammar_by c.args.outline.now c.args.decls.now (lists_in c.in_ok-numbers.numbers) _ c.start_of-start.result (sym c.in_ok-numbers.ensures.lists) c.requires.faultless c.requires.shaped c.in-Ok.ensures.limits c.in-Ok.ensures.rules c.start_of-start.ensures

pub returns-in-Err-clause-limits : goal.returns-in-Err-clause-limits
returns-in-Err-clause-limits c =
    passes c.args.outline.now c.args.decls.now c.in-Err.fault (subst (λ (l : WordLists). IsFirstFaultOf (all_measures l c.args.decls.now (flat_map (rules_by l) c.args.outline.now.groups)) c.in-Err.fault) c.in_ok-numbers.ensures.lists c.in-Err.ensures.fault)

pub returns-clause-numbers : goal.returns-clause-numbers
returns-clause-numbers c =
    numbered_is c.args.outline.now (lists_in c.in_ok-numbers.numbers) _ _ c.start_of-start.result c.in_ok-numbers.ensures.lists c.in_ok-copy_unnamed.ensures c.in_ok-copy_names.ensures c.grammar_of-grammar.ensures c.in-Ok.ensures.rules c.start_of-start.ensures

pub returns-clause-ordinary : goal.returns-clause-ordinary
returns-clause-ordinary c =
    ordinary c.args.outline.now c.args.decls.now c.requires.faultless c.requires.decls (subst (λ (l : WordLists). first_passed (all_measures l c.args.decls.now (flat_map (rules_by l) c.args.outline.now.groups)) ≡ None) c.in_ok-numbers.ensures.lists c.in-Ok.ensures.limits)
