use Rattle.std.proofs.Common.{◌≡◌, ◌-◌, List, [], ◌∷◌, ◌++◌, map, sym, ap, ◌∙◌, subst, arith}
use Rattle.piece_blocks.specs.declared.head.Head.{Head}
use Rattle.piece_blocks.specs.Blocks.{Filling, floor_total, kid_total, floor_starts, kid_starts, cut_pieces}
use Rattle.piece_blocks.proofs.CutLemmas.{cut_close, floors_push, kids_push, starts_push, kid_starts_push}
use Rattle.piece_blocks.proofs.block.Block.close.Goals as goal

pub invariant_of-self-2 : goal.invariant_of-self-2
invariant_of-self-2 c =
    let head : Head = record { first = c.args.first; count = c.args.count; floors_from = c.self.inside.closed_floors; kids_from = c.self.inside.closed_kids; floors = c.len.result - c.self.inside.closed_floors; kids = c.len-2.result - c.self.inside.closed_kids } in
    let f = ap floor_total c.in_ok-push.ensures.items ∙ floors_push c.self.inside.heads.items head in
    let k = ap kid_total c.in_ok-push.ensures.items ∙ kids_push c.self.inside.heads.items head in
    record {
      floors_are = omega (arith, f, c.self.invariant.floors_are);
      kids_are = omega (arith, k, c.self.invariant.kids_are);
      floors_fit = omega (arith, c.len.ensures, c.self.inside.floors.ok.0, c.self.invariant.floors_fit);
      kids_fit = omega (arith, c.len-2.ensures, c.self.inside.kids.ok.0, c.self.invariant.kids_fit);
      floors_begin = subst (λ (l : List Head). map (λ (head : Head). head.floors_from) l ≡ floor_starts 0 l) (sym c.in_ok-push.ensures.items) (starts_push 0 c.self.inside.heads.items head c.self.invariant.floors_begin (omega (arith, c.self.invariant.floors_are)));
      kids_begin = subst (λ (l : List Head). map (λ (head : Head). head.kids_from) l ≡ kid_starts 0 l) (sym c.in_ok-push.ensures.items) (kid_starts_push 0 c.self.inside.heads.items head c.self.invariant.kids_begin (omega (arith, c.self.invariant.kids_are)));
    }

pub returns-clause-closed : goal.returns-clause-closed
returns-clause-closed c =
    let head : Head = record { first = c.args.first; count = c.args.count; floors_from = c.self.inside.closed_floors; kids_from = c.self.inside.closed_kids; floors = c.len.result - c.self.inside.closed_floors; kids = c.len-2.result - c.self.inside.closed_kids } in
    ap (λ l. cut_pieces l c.self.inside.floors.items c.self.inside.kids.items) c.in_ok-push.ensures.items
    ∙ cut_close c.self.inside.heads.items head c.self.inside.floors.items c.self.inside.kids.items c.self.inside.closed_floors c.self.inside.closed_kids c.self.invariant.floors_are c.self.invariant.kids_are (omega (arith, c.len.ensures, c.self.inside.floors.ok.0, c.self.invariant.floors_fit)) (omega (arith, c.len-2.ensures, c.self.inside.kids.ok.0, c.self.invariant.kids_fit))
    ∙ ap (λ (v : Filling). v.closed ++ record { first = c.args.first; count = c.args.count; floors = v.floors; kids = v.kids } ∷ []) c.self.view_is
