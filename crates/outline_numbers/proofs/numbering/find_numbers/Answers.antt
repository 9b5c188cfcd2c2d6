use Rattle.outline_numbers.specs.Vocabularies.{words_of}
use Rattle.numbering_theory.proofs.OutlineLemmas.{lists_are}
use Rattle.outline_numbers.proofs.numbering.find_numbers.Goals as goal

pub returns-clause-lists : goal.returns-clause-lists
returns-clause-lists c =
    lists_are c.args.outline.now (words_of c.in_ok-token_names.field-0) (words_of c.in_ok-literals.field-0) (words_of c.in_ok-grammar_names.field-0) c.requires c.in_ok-token_names.ensures.words c.in_ok-literals.ensures.words c.in_ok-grammar_names.ensures.words
