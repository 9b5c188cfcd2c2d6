use Rattle.std.proofs.Common.{◌<◌, length, get_or, None, ap, ◌∙◌, arith}
use Rattle.arrow_table.specs.Questions.{Kept}
use Rattle.arrow_table.proofs.QuestionLemmas.{remembers_set}
use Rattle.arrow_table.proofs.memo.Memo.keep.Goals as goal

pub returns : goal.returns
returns c =
    let s = c.self.inside in
    let filled : Kept = (s.questions.items, s.answers.items) in
    let inside : c.place_of-place.result < length filled.0 = omega (arith, c.place_of-place.ensures, c.in_ok-fill.ensures.there.0, ap (λ (k : Kept). length k.0) c.self.view_is) in
    let inside1 : c.place_of-place.result < length filled.1 = omega (arith, c.place_of-place.ensures, c.in_ok-fill.ensures.there.1, ap (λ (k : Kept). length k.1) c.self.view_is) in
    remembers_set c.args.self.now filled c.place_of-place.result c.args.question c.args.answer
    (λ i. ap (λ (k : Kept). get_or k.0 i None) c.self.view_is ∙ c.fill.ensures.questions i)
    (λ i. ap (λ (k : Kept). get_or k.1 i 0) c.self.view_is ∙ c.fill.ensures.answers i)
    inside inside1
