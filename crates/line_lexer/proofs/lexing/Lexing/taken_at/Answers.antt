use Rattle.std.proofs.Common.{◌≡◌, ℕ, ◌<◌, List, length, get_or, ap, ◌∙◌, inl, inr, refl, arith}
use Rattle.std.specs.Prelude.{slice_get, Some}
use Rattle.std.proofs.lemmas.Option.{slice_get-get_or}
use Rattle.pattern_data.specs.declared.pattern.Meaning.{Meaning}
use Rattle.line_lexer.proofs.lexing.Lexing.taken_at.Goals as goal

-- what was read at a rank is its meaning
meaning_read : (means : List Meaning) (rank : ℕ) (d m : Meaning) → rank < length means → get_or means rank d ≡ m → slice_get means rank ≡ Some m
meaning_read means rank d m below read = slice_get-get_or means rank d below ∙ ap (λ m. Some m) read

pub returns-in-None-clause-taken : goal.returns-in-None-clause-taken
returns-in-None-clause-taken c = λ patterns of. inr (c.in-None.ensures.longest patterns of, c.args.self.now.bad, refl)

pub returns-in-Token-clause-taken : goal.returns-in-Token-clause-taken
returns-in-Token-clause-taken c = λ patterns of.
    let below : c.in-Some.rank < length c.args.self.now.means.now = omega (arith, c.in-Some.ensures.ranked, c.args.self.now.ranks) in
    inl (c.in-Some.rank, c.in-Some.ensures.longest patterns of, meaning_read c.args.self.now.means.now c.in-Some.rank _ _ below c.in-Token.is)

pub returns-in-Skip-clause-taken : goal.returns-in-Skip-clause-taken
returns-in-Skip-clause-taken c = λ patterns of.
    let below : c.in-Some.rank < length c.args.self.now.means.now = omega (arith, c.in-Some.ensures.ranked, c.args.self.now.ranks) in
    (c.in-Some.rank, c.in-Some.ensures.longest patterns of, meaning_read c.args.self.now.means.now c.in-Some.rank _ _ below c.in-Skip.is)
