use Rattle.std.specs.Str.{bytes_eq}
use Rattle.std.proofs.lemmas.Slice.Eq.{bytes_eq-Decides}
use Rattle.outline_checks.specs.WordSets.{has_word}
use Rattle.outline_checks.proofs.SetLemmas.{has_more}
use Rattle.outline_checks.proofs.word_set.WordSet.add.Goals as goal

pub returns-clause-more : goal.returns-clause-more
returns-clause-more c =
    λ words h. record { same = has_more bytes_eq bytes_eq-Decides (λ w. has_word c.args.self.now w) (λ w. has_word (record { words = c.insert.new.self }) w) words c.args.word.now h.same (λ w. c.in_ok-is_new.ensures.updates.0 (record { ref_ptr = c.args.word.ref_ptr; now = w })) }
