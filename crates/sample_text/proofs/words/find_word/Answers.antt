use Rattle.std.proofs.Common.{◌≡◌, ℕ, List, refl, sym, subst}
use Rattle.std.specs.Prelude.{Option, MatchOption}
use Rattle.std.specs.Global.{Vec}
use Rattle.pattern_data.specs.declared.pattern.Meaning.{Meaning}
use Rattle.sample_theory.specs.Samples.{IsRankOf}
use Rattle.sample_theory.specs.ShortestWords.{HasNoWord, IsShortestWord, IsWordOf}
use Rattle.sample_theory.proofs.SampleLemmas.{same_rank}
use Rattle.sample_text.proofs.words.find_word.Goals as goal

pub returns-in-Some-2-clause-word : goal.returns-in-Some-2-clause-word
returns-in-Some-2-clause-word c = λ scanning by.
    let rank = c.in-Some.rank in
    let ranked : IsRankOf c.args.means.now c.args.token rank = c.in-Some.ensures in
    let found = subst (λ (o : Option (Vec ℕ)). MatchOption o (HasNoWord scanning.patterns rank) (λ word. IsShortestWord scanning.patterns rank word.items)) c.in-Some-2.is (c.in_ok-word.ensures scanning.patterns by.scanner) in
    record { rank = rank; ranked = subst (λ (m : List Meaning). IsRankOf m c.args.token rank) (sym by.means_are) ranked; shortest = found }

pub returns-in-None-2-clause-fault : goal.returns-in-None-2-clause-fault
returns-in-None-2-clause-fault c = (
  refl,
  λ scanning by other ranked word is.
      let rank = c.in-Some.rank in
      let this : IsRankOf c.args.means.now c.args.token rank = c.in-Some.ensures in
      let same : other ≡ rank = same_rank (subst (λ (m : List Meaning). IsRankOf m c.args.token other) by.means_are ranked) this in
      let none = subst (λ (o : Option (Vec ℕ)). MatchOption o (HasNoWord scanning.patterns rank) (λ word. IsShortestWord scanning.patterns rank word.items)) c.in-None-2.is (c.in_ok-word.ensures scanning.patterns by.scanner) in
      none word (subst (λ k. IsWordOf scanning.patterns k word) same is),
)
