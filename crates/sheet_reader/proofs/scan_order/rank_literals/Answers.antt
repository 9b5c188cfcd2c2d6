use Rattle.sheet_theory.specs.ScanOrder.{declared_literals}
use Rattle.std.proofs.Common.{◌+◌, [], ◌∷◌, take, arith}
use Rattle.sheet_reader.proofs.RankLemmas.{ranked_both, names_next, literals_next, few_names}
use Rattle.sheet_reader.proofs.scan_order.rank_literals.Goals as goal

pub next_token-token-requires : goal.next_token-token-requires
next_token-token-requires c =
    let few = few_names c.args.decls.now c.loop-decl.decl-index c.decl-item.result c.loop-decl-test.true c.decl-item.is in
    omega (arith, few, c.loop-decl.invariant.token, c.requires.few)

pub loop-decl-preserved : goal.loop-decl-preserved
loop-decl-preserved c =
    let decls = c.args.decls.now in
    let i = c.loop-decl.decl-index in
    let decl = c.decl-item.result in
    let token = c.loop-decl.token in
    record {
      token = names_next decls i token c.next_token-token.result decl c.loop-decl-test.true c.decl-item.is c.loop-decl.invariant.token c.next_token-token.ensures;
      ranked = ranked_both c.args.ranking.now.items c.loop-decl.ranking.items c.rank_literal.new.ranking.items (declared_literals 0 (take i decls)) (declared_literals token (decl ∷ [])) (declared_literals 0 (take (i + 1) decls)) c.loop-decl.invariant.ranked c.in_ok-rank_literal.ensures (literals_next decls i token decl c.loop-decl-test.true c.decl-item.is c.loop-decl.invariant.token);
    }
