use Rattle.std.proofs.Common.{◌++◌, sym, ap, ◌∙◌, append_assoc, append-nil, arith}
use Rattle.piece_lists.specs.Lists.{pieces_in, pieces_of}
use Rattle.stack_join.proofs.PartLemmas.{no_pieces, pieces_push}
use Rattle.stack_join.proofs.parts.append.Goals as goal

pub loop-part-preserved-in-Continue-1 : goal.loop-part-preserved-in-Continue-1
loop-part-preserved-in-Continue-1 c =
    let before = pieces_in c.args.parts.now.items in
    let part = c.in-Some.part in
    ap pieces_in c.in_ok-push.ensures.items ∙ pieces_push c.loop-part.parts.items part ∙ ap (λ l. l ++ pieces_of part) c.loop-part.invariant ∙ append_assoc before (pieces_in c.loop-part.yielded) (pieces_of part) ∙ ap (λ l. before ++ l) (sym (pieces_push c.loop-part.yielded part))

pub loop-part-preserved : goal.loop-part-preserved
loop-part-preserved c =
    let test = c.if-part-count.false in
    let count = c.count.ensures in
    let yielded = c.loop-part.yielded in
    let none = no_pieces c.in-Some.part (omega (arith, test, count)) in
    c.loop-part.invariant ∙ ap (λ l. pieces_in c.args.parts.now.items ++ l) (sym (pieces_push yielded c.in-Some.part ∙ ap (λ l. pieces_in yielded ++ l) none ∙ append-nil (pieces_in yielded)))
