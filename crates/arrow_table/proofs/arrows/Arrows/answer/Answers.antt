use Rattle.std.proofs.Common.{sym, subst}
use Rattle.arrow_table.specs.Looks.{map_at}
use Rattle.arrow_table.specs.Questions.{Answers, IsAsked}
use Rattle.arrow_table.proofs.QuestionLemmas.{answers_grown, asked_grown}
use Rattle.arrow_table.proofs.arrows.Arrows.answer.Goals as goal

pub note_answer-requires-clause-asked : goal.note_answer-requires-clause-asked
note_answer-requires-clause-asked c =
    subst (λ t. IsAsked t c.add.new.self.1 c.args.question) (sym c.add.ensures.tables) (asked_grown c.args.self.now.0 c.args.self.now.1 c.add.new.self.1 c.args.question c.add.ensures.grows c.requires.asked)

pub note_answer-requires-clause-to : goal.note_answer-requires-clause-to
note_answer-requires-clause-to c =
    let is : Answers c.args.self.now.0 c.add.new.self.1 c.args.question c.args.arrow = answers_grown c.args.self.now.0 c.args.self.now.1 c.add.new.self.1 c.args.question c.args.arrow c.add.ensures.grows c.requires.asked c.requires.answers in
    record {
      within = c.in_ok-to.ensures.within;
      is = subst (λ t. Answers t c.add.new.self.1 c.args.question (map_at c.add.new.self.1 c.in_ok-to.to)) (sym c.add.ensures.tables) (subst (λ m. Answers c.args.self.now.0 c.add.new.self.1 c.args.question m) (sym c.in_ok-to.ensures.map) is);
    }
