use Rattle.std.proofs.Common.{◌∙◌, sym, ap, arith, get_or}
use Rattle.std.specs.Prelude.{◌==◌, ◌&&◌, ◌||◌, not}
use Rattle.lexeme_theory.specs.Texts.{text_goes_on}
use Rattle.sheet_lexemes.proofs.Steps.{each_more, taken_more}
use Rattle.sheet_lexemes.proofs.runs.text_end.Goals as goal

pub loop-to-preserved : goal.loop-to-preserved
loop-to-preserved c =
    let byte = get_or c.args.bytes.now c.loop-to.to 0 in
    record {
      ordered = omega arith;
      inside = omega arith;
      each =
          each_more (text_goes_on c.args.closing c.args.bytes.now c.args.from) c.args.from c.loop-to.to c.loop-to.invariant.each
          (sym (c.if-is_text_byte.ensures ∙ ap (λ t. not (byte == 10) && (not (byte == c.args.closing) || t)) c.loop-to.invariant.taken));
      taken = c.takes_next-is_taken.ensures ∙ ap (λ t. (byte == 92) && not t) c.loop-to.invariant.taken ∙ sym (taken_more c.args.bytes.now c.args.from c.loop-to.to c.loop-to.invariant.ordered);
    }
