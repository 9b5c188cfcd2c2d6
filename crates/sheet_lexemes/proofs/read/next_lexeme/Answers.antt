use Rattle.std.proofs.Common.{ℕ, length, refl, sym, subst}
use Rattle.lexeme_theory.specs.declared.found.Found.{Found}
use Rattle.lexeme_theory.specs.Stands.{IsFound}
use Rattle.lexeme_theory.specs.Reading.{AreBlanks}
use Rattle.lexeme_theory.specs.Reading.AreBlanks.{no_blank}
use Rattle.lexeme_theory.proofs.EndLemmas.{EndsWithin, found_ends}
use Rattle.lexeme_theory.proofs.ReadingLemmas.{blanks_more}
use Rattle.sheet_lexemes.proofs.read.next_lexeme.Goals as goal

pub loop-place-init : goal.loop-place-init
loop-place-init c = record { stands = c.requires; blanks = no_blank refl }

pub loop-place-preserved : goal.loop-place-preserved
loop-place-preserved c = record {
  stands = c.moved-place.ensures.stands;
  blanks =
      let P : Found → Type 0 = λ found. IsFound c.args.bytes.now c.loop-place.place.at found in
      let Q : ℕ → Type 0 = λ n. AreBlanks c.args.bytes.now c.args.from.at n in
      subst Q (sym c.moved-place.ensures.at) (blanks_more c.args.bytes.now c.in-Blank.next c.loop-place.invariant.blanks (subst P c.in-Blank.is c.in_ok-next.ensures.found));
}

pub moved-requires-clause-inside : goal.moved-requires-clause-inside
moved-requires-clause-inside c =
    let P : Found → Type 0 = λ found. EndsWithin (length c.args.bytes.now) c.loop-place.place.at found in
    (subst P c.in-Lexeme.is (found_ends c.args.bytes.now c.loop-place.place.at _ c.in_ok-next.ensures.found)).1
