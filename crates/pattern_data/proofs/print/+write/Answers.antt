use Rattle.std.proofs.Common.{◌≡◌, ◌++◌, ◌∙◌, ◌-◌, List, [], length, take, drop, ap, sym, arith, append_assoc}
use Rattle.std.specs.List.{flat_map}
use Rattle.std.proofs.lemmas.List.{append-nil, take_all}
use Rattle.pattern_data.specs.declared.pattern.Pattern.{Pattern}
use Rattle.pattern_data.specs.Printing.{normal_spelling, written, within, signs_text}
use Rattle.pattern_data.proofs.PrintLemmas.{sequence_text, bar_text, spelling-set, spelling-seq, spelling-alt_none, spelling-alt, spelling-star, spelling-plus, spelling-opt, written_as}
use Rattle.pattern_data.proofs.print.+write.Goals as goal

pub write-returns-in_default : goal.write-returns-in_default
write-returns-in_default t c =
    let nothing : normal_spelling c.args.pattern.now ≡ [] = spelling-alt_none c.args.pattern.now c.as_slice.result.now (cc) c.in_default.len_below in
    sym (ap (λ l. c.args.text.now.items ++ l) nothing ∙ append-nil c.args.text.now.items)

pub write-returns-in-Set : goal.write-returns-in-Set
write-returns-in-Set t c = written_as c.write_set.result c.write_set.new.text.items c.args.text.now.items _ _ (sym (spelling-set c.args.pattern.now c.in-Set.set c.in-Set.is)) c.write_set.ensures

pub write-returns-after-loop-member : goal.write-returns-after-loop-member
write-returns-after-loop-member t c =
    let members : List Pattern = c.as_slice-member-items.result.now in
    let whole : take c.loop-member.member-index members ≡ members = take_all c.loop-member.member-index members (omega (arith, c.loop-member-test.false)) in
    c.loop-member.invariant ∙ ap (λ ms. c.args.text.now.items ++ flat_map sequence_text ms) whole ∙ ap (λ l. c.args.text.now.items ++ l) (sym (spelling-seq c.args.pattern.now members (cc)))

pub write-returns-after-loop-other : goal.write-returns-after-loop-other
write-returns-after-loop-other t c =
    let members : List Pattern = c.as_slice.result.now in
    let others : List Pattern = take (length members - 1) (drop 1 members) in
    let whole : take c.loop-other.other-index others ≡ others = take_all c.loop-other.other-index others (omega (arith, c.loop-other-test.false)) in
    c.loop-other.invariant ∙ ap (λ ms. c.write_within-in-Alt.new.text.items ++ flat_map bar_text ms) whole
    ∙ ap (λ l. l ++ flat_map bar_text others) c.in_ok-write_within-in-Alt.ensures
    ∙ append_assoc c.args.text.now.items (signs_text (within c.has_alternatives.result (written c.first-item.result).1)) (flat_map bar_text others)
    ∙ ap (λ l. c.args.text.now.items ++ l)
    (ap (λ b. signs_text (within b (written c.first-item.result).1) ++ flat_map bar_text others) c.has_alternatives.ensures
    ∙ sym (spelling-alt c.args.pattern.now members c.first-item.result (cc) c.in-len1-up.len_at_least c.first-item.is))

pub write-returns-in-Star : goal.write-returns-in-Star
write-returns-in-Star t c =
    written_as c.write_repeated.result c.write_repeated.new.text.items c.args.text.now.items _ _ (sym (spelling-star c.args.pattern.now c.get.result.now (cc))) c.write_repeated.ensures

pub write-returns-in-Plus : goal.write-returns-in-Plus
write-returns-in-Plus t c =
    written_as c.write_repeated-in-Plus.result c.write_repeated-in-Plus.new.text.items c.args.text.now.items _ _ (sym (spelling-plus c.args.pattern.now c.get-in-Plus.result.now (cc))) c.write_repeated-in-Plus.ensures

pub write-returns-in-Opt : goal.write-returns-in-Opt
write-returns-in-Opt t c =
    written_as c.write_repeated-in-Opt.result c.write_repeated-in-Opt.new.text.items c.args.text.now.items _ _ (sym (spelling-opt c.args.pattern.now c.get-in-Opt.result.now (cc))) c.write_repeated-in-Opt.ensures
