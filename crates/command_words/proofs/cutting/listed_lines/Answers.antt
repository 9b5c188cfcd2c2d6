use Rattle.std.proofs.Common.{rules, ◌++◌, ◌∷◌, [], Some, sym, ap, ◌∙◌, arith, append_assoc}
use Rattle.std.proofs.lemmas.Str.Pattern.{split_parts}
use Rattle.std.specs.Str.Parse.{digits_value}
use Rattle.word_theory.specs.Values.{IsLinesWord, lines_in}
use Rattle.command_words.proofs.CommaLemmas.{first_line, later_lines, all_lines, lines_are, only_line, is_only, line_is, fault_at, none_lacks}
use Rattle.command_words.proofs.cutting.listed_lines.Goals as goal

pub split_once-requires-text-self : goal.split_once-requires-text-self
split_once-requires-text-self c κs = c.loop-number.invariant.text

pub returns-in_err-push_line-clause-fault : goal.returns-in_err-push_line-clause-fault
returns-in_err-push_line-clause-fault c =
    let rest = c.loop-number.rest.now in
    let parts = split_parts 44 rest (Some (c.in-Some.number, c.in-Some.more)) c.in-Some.ensures.cases (omega arith) in
    fault_at (¬ (IsLinesWord c.args.word.now)) c.from_residual.result c.in_err-push_line.field-0.0 c.from_residual.ensures.1
    (λ bad all. c.in_err-push_line.ensures.fault bad (first_line rest c.in-Some.number.now c.in-Some.more.now parts.0 parts.1 (c.loop-number.invariant.all.0 all)))

pub loop-number-preserved : goal.loop-number-preserved
loop-number-preserved c =
    let rest = c.loop-number.rest.now in
    let number = c.in-Some.number.now in
    let more = c.in-Some.more.now in
    let parts = split_parts 44 rest (Some (c.in-Some.number, c.in-Some.more)) c.in-Some.ensures.cases (omega arith) in
    let line = c.in_ok-push_line.ensures.line in
    record {
      text = search rules;
      all = (λ all. later_lines rest number more parts.0 parts.1 (c.loop-number.invariant.all.0 all), λ later. c.loop-number.invariant.all.1 (all_lines rest number more parts.0 parts.1 line.0 later));
      are = c.loop-number.invariant.are ∙ ap (λ l. c.loop-number.lines.items ++ l) (lines_are rest number more parts.0 parts.1)
          ∙ sym (append_assoc c.loop-number.lines.items (digits_value 10 number ∷ []) (lines_in more)) ∙ ap (λ l. l ++ lines_in more) (sym line.1);
    }

pub push_line-requires-2-text-word : goal.push_line-requires-2-text-word
push_line-requires-2-text-word c κs = c.loop-number.invariant.text

pub returns-in_err-push_line-2-clause-fault : goal.returns-in_err-push_line-2-clause-fault
returns-in_err-push_line-2-clause-fault c =
    let rest = c.loop-number.rest.now in
    let none = none_lacks _ rest c.split_once.result (split_parts 44 rest c.split_once.result c.split_once.ensures.cases (omega arith)) c.in_default.not-Some in
    fault_at (¬ (IsLinesWord c.args.word.now)) c.from_residual-in_err-push_line-2.result c.in_err-push_line-2.field-0.0 c.from_residual-in_err-push_line-2.ensures.1
    (λ bad all. c.in_err-push_line-2.ensures.fault bad (only_line rest none (c.loop-number.invariant.all.0 all)))

pub returns-clause-lines : goal.returns-clause-lines
returns-clause-lines c =
    let rest = c.loop-number.rest.now in
    let none = none_lacks _ rest c.split_once.result (split_parts 44 rest c.split_once.result c.split_once.ensures.cases (omega arith)) c.in_default.not-Some in
    let line = c.in_ok-push_line-2.ensures.line in
    (c.loop-number.invariant.all.1 (is_only rest none line.0), line.1 ∙ ap (λ l. c.loop-number.lines.items ++ l) (sym (line_is rest none)) ∙ sym c.loop-number.invariant.are)
