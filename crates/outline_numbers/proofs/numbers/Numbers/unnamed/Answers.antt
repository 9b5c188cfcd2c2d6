use Rattle.std.proofs.Common.{map, drop, sym, ap, ◌∙◌}
use Rattle.std.proofs.lemmas.List.{drop-map}
use Rattle.outline_numbers.specs.Vocabularies.{words_of}
use Rattle.outline_numbers.proofs.numbers.Numbers.unnamed.Goals as goal

pub returns : goal.returns
returns c =
    let literals = c.args.self.now.literals.words.items in
    ap (map (λ w. w.now)) (c.words_behind.ensures ∙ ap (drop c.len.result) c.deref.ensures.value) ∙ sym (drop-map (λ w. w.now) c.len.result literals) ∙ ap (λ n. drop n (words_of c.args.self.now.literals)) c.len.ensures
