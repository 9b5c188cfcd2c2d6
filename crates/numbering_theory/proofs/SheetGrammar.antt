-- The sheet of an outline without faults and within the limits has a grammar.
use Rattle.std.proofs.Common.{◌≡◌, ℕ, ◌+◌, List, length, sym, ap, subst, ◌∙◌}
use Rattle.grammar_data.specs.Grammar.{Grammar, Rule}
use Rattle.lr_base.specs.IsGrammar.{IsGrammar}
use Rattle.sheet_data.specs.Sheet.{Sheet}
use Rattle.outline_data.specs.Parts.{OutlineParts}
use Rattle.outline_theory.specs.Words.{token_words, starts}
use Rattle.outline_theory.specs.Limits.{measures, first_passed}
use Rattle.outline_theory.specs.Numbering.{IsSheetOf, unnamed_literals, grammar_names, rules_of, start_by}
use Rattle.numbering_theory.specs.Grammars.{SheetGrammarLaw}
use Rattle.outline_theory.specs.MadeSheets.{sheet_with}
use Rattle.numbering_theory.proofs.GrammarLemmas.{count_tokens, grammar_is}
use Rattle.numbering_theory.proofs.SheetLemmas.{sheet_measures}

abbrev grammar_with : ℕ → ℕ → List Rule → ℕ → Grammar
grammar_with tokens names rules start = record { tokens = tokens; names = names; rules = rules; start = start }

module _ (o : OutlineParts) (sheet : Sheet) (is : IsSheetOf o sheet) where
  tokens_are : sheet.grammar.tokens ≡ length (token_words o) + length (unnamed_literals o)
  tokens_are = is.tokens ∙ ap (λ l. length (token_words o) + length l) is.literals

  names_are : sheet.grammar.names ≡ length (grammar_names o)
  names_are = is.count ∙ ap length is.names

  grammar_parts : sheet.grammar ≡ grammar_with (length (token_words o) + length (unnamed_literals o)) (length (grammar_names o)) (rules_of o) (start_by (grammar_names o) (starts o))
  grammar_parts =
      ap (λ n. grammar_with n sheet.grammar.names sheet.grammar.rules sheet.grammar.start) tokens_are
      ∙ ap (λ n. grammar_with (length (token_words o) + length (unnamed_literals o)) n sheet.grammar.rules sheet.grammar.start) names_are
      ∙ ap (λ rules. grammar_with (length (token_words o) + length (unnamed_literals o)) (length (grammar_names o)) rules sheet.grammar.start) is.rules
      ∙ ap (λ start. grammar_with (length (token_words o) + length (unnamed_literals o)) (length (grammar_names o)) (rules_of o) start) is.start

  -- the sheet, by its declarations
  abbrev made : Grammar → List (List ℕ) → Sheet
  made grammar literals = record { decls = sheet.decls; literals = literals; names = sheet.names; grammar = grammar; templates = sheet.templates; declares = sheet.declares }

  -- its quantities are those of its words, its declarations and its rules
  same_measures : first_passed (measures sheet) ≡ first_passed (measures (sheet_with o sheet.decls))
  same_measures =
      ap (λ grammar. first_passed (measures (made grammar sheet.literals))) grammar_parts
      ∙ ap (λ literals. first_passed (measures (made (sheet_with o sheet.decls).grammar literals))) is.literals

pub sheet_grammar : SheetGrammarLaw
sheet_grammar o sheet faultless shaped is none =
    let whole = grammar_is o sheet.decls faultless shaped (sym (sheet_measures o sheet.decls) ∙ sym (same_measures o sheet is) ∙ none) in
    subst IsGrammar (ap (λ n. grammar_with n (length (grammar_names o)) (rules_of o) (start_by (grammar_names o) (starts o))) (count_tokens o) ∙ sym (grammar_parts o sheet is)) whole
