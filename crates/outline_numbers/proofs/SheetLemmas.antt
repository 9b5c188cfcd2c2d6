-- The limits of the sheet of an outline.
use Rattle.std.proofs.Common.{◌≡◌, ℕ, ◌+◌, List, length, ap, ◌∙◌}
use Rattle.std.specs.List.{flat_map}
use Rattle.grammar_data.specs.Grammar.{Rule}
use Rattle.outline_data.specs.Parts.{OutlineParts}
use Rattle.outline_theory.specs.Words.{token_words, starts}
use Rattle.outline_theory.specs.Numbering.{unnamed_literals, grammar_names, WordLists, lists_of, rules_by, rules_of, start_by}
use Rattle.numbering_theory.specs.KnownWords.{unnamed_in}
use Rattle.outline_numbers.specs.declared.numbering.Numbered.{Numbered}
use Rattle.outline_numbers.specs.Numbered.{IsNumbered}
use Rattle.numbering_theory.proofs.GrammarLemmas.{count_tokens, unnamed_behind}

pub numbered_is : (o : OutlineParts) (lists : WordLists) (numbered : Numbered) (rules : List Rule) (start : ℕ) → lists ≡ lists_of o → numbered.literals.items ≡ unnamed_in lists → numbered.names.items ≡ lists.names
    → numbered.grammar ≡ record { tokens = length lists.literals; names = length lists.names; rules = rules; start = start } → rules ≡ flat_map (rules_by lists) o.groups → start ≡ start_by lists.names (starts o) → IsNumbered o numbered
numbered_is o lists numbered rules start are literals names grammar by_rules by_start =
    let tokens : length lists.literals ≡ length (token_words o) + length (unnamed_literals o) = ap (λ (l : WordLists). length l.literals) are ∙ count_tokens o in
    let all_names : lists.names ≡ grammar_names o = ap (λ (l : WordLists). l.names) are in
    let all_rules : rules ≡ rules_of o = by_rules ∙ ap (λ l. flat_map (rules_by l) o.groups) are in
    let first : start ≡ start_by (grammar_names o) (starts o) = by_start ∙ ap (λ l. start_by l (starts o)) all_names in
    record {
      literals = literals ∙ ap unnamed_in are ∙ unnamed_behind o;
      names = names ∙ all_names;
      grammar = grammar ∙ cc (tokens, ap length all_names, all_rules, first);
    }
