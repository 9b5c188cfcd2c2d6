use Rattle.std.proofs.Common.{◌∙◌}
use Rattle.outline_numbers.specs.Vocabularies.{place_in, words_of}
use Rattle.numbering_theory.proofs.WordPlaces.{finds}
use Rattle.outline_numbers.proofs.vocabulary.Vocabulary.place_of.Goals as goal

pub returns : goal.returns
returns c =
    finds (place_in c.args.self.now) (words_of c.args.self.now) c.args.word.now c.requires c.copied.result (c.copied.ensures ∙ c.get.ensures.value)
