use Rattle.std.proofs.Common.{◌++◌, length, sym, ap, subst, ◌∙◌, arith}
use Rattle.std.specs.Prelude.{All}
use Rattle.sheet_data.specs.Sheet.{Sheet}
use Rattle.sheet_theory.specs.Names.{declared_names}
use Rattle.sheet_theory.specs.ScanOrder.{scan_order, declared_literals, unnamed_literals, declared_patterns}
use Rattle.sheet_reader.specs.WellFormed.{IsOrdinaryDecl, IsLiteralText, IsWellFormed}
use Rattle.sheet_reader.specs.Ranking.{IsScannable, token_count, Ranks}
use Rattle.sheet_reader.proofs.RankLemmas.{scannable, all_tokens, order_ranked, one_meaning_each}
use Rattle.sheet_reader.proofs.sheet.Sheet.scan_order.Goals as goal

pub rank_literals-requires : goal.rank_literals-requires
rank_literals-requires c = record {
  each = subst (All IsOrdinaryDecl) (sym c.deref.ensures.value) c.self.invariant.decls;
  few = omega (arith, ap (λ ds. length (declared_names ds)) c.deref.ensures.value, c.self.invariant.count);
}

pub rank_unnamed-requires : goal.rank_unnamed-requires
rank_unnamed-requires c = record {
  each = subst (All IsLiteralText) (sym c.deref-2.ensures.value) c.self.invariant.literals;
  few = omega (arith, ap length c.deref-2.ensures.value, c.declared_tokens.ensures, ap (λ (s : Sheet). length (declared_names s.decls)) c.self.view_is, c.self.invariant.count);
}

pub rank_patterns-requires : goal.rank_patterns-requires
rank_patterns-requires c = omega (arith, ap (λ ds. length (declared_names ds)) c.deref-3.ensures.value, c.self.invariant.count)

pub returns : goal.returns
returns c =
    let good = subst IsWellFormed c.self.view_is c.self.invariant in
    let decls = ap (λ (s : Sheet). s.decls) c.self.view_is in
    let literals = ap (λ (s : Sheet). s.literals) c.self.view_is in
    let all = c.in_ok-rank_patterns.ensures ∙ ap (λ l. l ++ declared_patterns 0 c.deref-3.result.now) (c.in_ok-rank_unnamed.ensures ∙ ap (λ l. l ++ unnamed_literals c.declared_tokens.result c.deref-2.result.now) (c.in_ok-rank_literals.ensures ∙ ap (λ l. l ++ declared_literals 0 c.deref.result.now) c.new-ranking.ensures.items)) in
    let ranked = order_ranked c.args.self.now c.rank_patterns.new.ranking.items c.deref.result.now c.deref-3.result.now c.deref-2.result.now c.declared_tokens.result (c.deref.ensures.value ∙ decls) (c.deref-3.ensures.value ∙ decls) (c.deref-2.ensures.value ∙ literals) c.declared_tokens.ensures all in
    let ranks = subst (Ranks c.in_ok-order.order) ranked c.in_ok-order.ensures in
    record {
      patterns = ranks.patterns;
      means = ranks.means;
      scannable = subst IsScannable (sym ranks.patterns) (scannable c.args.self.now good);
      each = one_meaning_each c.in_ok-order.order (scan_order c.args.self.now) ranks;
      tokens = ap token_count ranks.means ∙ all_tokens c.args.self.now good;
    }
