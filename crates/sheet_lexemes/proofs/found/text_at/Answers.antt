use Rattle.std.proofs.Common.{subst}
use Rattle.sheet_theory.specs.Names.{double_quote}
use Rattle.lexeme_theory.specs.declared.lexeme.Lexeme.TheVariants.{Text}
use Rattle.lexeme_theory.specs.Stands.{IsSpelledText}
use Rattle.sheet_lexemes.specs.declared.texts.Written.{Written}
use Rattle.sheet_lexemes.specs.Parts.{written_as}
use Rattle.sheet_lexemes.proofs.found.text_at.Goals as goal

pub returns-in-Text : goal.returns-in-Text
returns-in-Text c =
    let P : Written → Type 0 = λ w. IsSpelledText Text double_quote c.args.bytes.now c.args.at (written_as Text w) in
    subst P c.in-Text.is (c.in_ok-bytes.ensures Text)

pub returns-in-Fault : goal.returns-in-Fault
returns-in-Fault c =
    let P : Written → Type 0 = λ w. IsSpelledText Text double_quote c.args.bytes.now c.args.at (written_as Text w) in
    subst P c.in-Fault.is (c.in_ok-bytes.ensures Text)
