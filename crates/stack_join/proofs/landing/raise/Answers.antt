use Rattle.std.proofs.Common.{◌≡◌, ◌-◌, ◌<◌, ◌≤◌, ◌++◌, ◌∷◌, [], ℕ, List, Option, Some, length, take, refl, sym, ap, ◌∙◌, subst, arith}
use Rattle.map_theory.specs.Relations.{IsBack}
use Rattle.grammar_theory.specs.Rules.{IsRule}
use Rattle.piece_theory.specs.Pieces.{Floor, Opened}
use Rattle.arrow_table.specs.Looks.{HasMap, map_at}
use Rattle.segment_parser.specs.Standing.{last_in}
use Rattle.stack_join.proofs.SupplyLemmas.{first_rule, raised_by}
use Rattle.segment_parser.specs.Numbers.{AreFrom}
use Rattle.stack_join.proofs.NumberLemmas.{from_none}
use Rattle.stack_join.proofs.landing.raise.Goals as goal

pub identity-requires-clause-id : goal.identity-requires-clause-id
identity-requires-clause-id c =
    let same = ap (λ (o : Opened). o.rule) c.opened.view_is in
    let rule = first_rule c.args.arrows.now.0 c.opened.inside.rule (subst (λ (r : ℕ). r < length c.args.arrows.now.0.rules) (sym same) c.requires.rule) in
    (c.in_ok-starts.ensures.back rule.0 rule.1 rule.2).within

pub returns-clause-raised : goal.returns-clause-raised
returns-clause-raised c =
    let s = c.args.leaf.now in
    let maps = c.args.arrows.now.1 in
    let even = c.requires.has.even in
    let held = c.len-held.ensures in
    let nothing : length s.block.kids - c.len-held.result ≡ 0 = omega (arith, even, held) in
    let put = c.in_ok-put_floor.ensures in
    let same = ap (λ (o : Opened). o.rule) c.opened.view_is in
    raised_by c.requires.rule record {
      grows = c.identity.ensures.grows;
      kids = put.kids ∙ c.drop_kids.ensures.kids ∙ ap (λ n. take n s.block.kids) nothing;
      ids = c.clear.ensures.items;
      floors = put.floors ∙ ap (λ (l : List Floor). l ++ last_in maps s ∷ []) c.drop_kids.ensures.floors;
      closed = put.closed ∙ c.drop_kids.ensures.closed;
      opened_by = ap {B = Option Opened} (λ (o : Opened). Some (record { rule = o.rule; hidden = c.args.still; node = o.node })) c.opened.view_is;
      faults = put.faults;
      back = λ n right rule. subst (λ k. HasMap c.back.new.self.1 c.in_ok-starts.starts (IsBack c.args.arrows.now.0 (take c.args.still right) (map_at maps k))) put.same.1 (c.in_ok-starts.ensures.back n right (subst (λ (r : ℕ). IsRule c.args.arrows.now.0.rules r n right) (sym same) rule));
      start = refl;
      own = c.in_ok-own.ensures.identity;
      stale = refl;
      first = put.same.4;
      count = put.same.5;
    }

pub returns-clause-stand : goal.returns-clause-stand
returns-clause-stand c =
    let base = c.identity.new.self.2 in
    record {
      starts = subst (λ b. b ≤ c.in_ok-starts.starts) (sym c.identity.ensures.base) c.in_ok-starts.ensures.stands;
      own = c.in_ok-own.ensures.stands;
      entries = subst (λ l. AreFrom base l) (sym c.clear.ensures.items) (from_none base);
    }
