use Rattle.std.proofs.Common.{refl, ◌∙◌}
use Rattle.lrpar_cli.proofs.SegmentLemmas.{can_run, is_cut, text_run}
use Rattle.lrpar_cli.proofs.segments.run_text.Goals as goal

pub parse_lines-requires-clause-can : goal.parse_lines-requires-clause-can
parse_lines-requires-clause-can g c = λ κs within.
    can_run c.args.parsing.now.scanned _ c.requires.ready c.requires.built.lawful c.requires.counts refl c.deref.ensures.value c.requires.short c.requires.lines
    (is_cut c.args.options.now.cut c.args.lines.now c.in_ok-cutting.cutting c.requires.can.cut c.in_ok-cutting.ensures)

pub returns : goal.returns
returns g c =
    text_run c.args.parsing.now.scanned _ c.requires.ready c.requires.built.lawful c.requires.counts refl c.deref.ensures.value c.requires.short c.requires.lines
    (is_cut c.args.options.now.cut c.args.lines.now c.in_ok-cutting.cutting c.requires.can.cut c.in_ok-cutting.ensures)
    c.in_ok-parsed.field-0 c.in_ok-parsed.ensures c.args.options.now.cut c.in_ok-cutting.ensures c.args.parsing.now.built.collection c.requires.built.parts
    _ refl (c.from.ensures ∙ c.segments.ensures) refl refl
