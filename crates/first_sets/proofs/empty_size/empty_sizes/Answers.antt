use Rattle.std.proofs.Common.{◌≡◌, ℕ, suc, ◌+◌, ◌<◌, length, Contains, replicate, sym, ap, subst, ◌∙◌, arith}
use Rattle.std.proofs.lemmas.List.{length-replicate}
use Rattle.grammar_theory.specs.EmptyNames.{IsSizedBelow}
use Rattle.first_sets.specs.EmptySizes.{AreSized, IsRound, size_in}
use Rattle.first_sets.proofs.RoundLemmas.{round_next, sized_all, sized_none}
use Rattle.first_sets.proofs.empty_size.empty_sizes.Goals as goal

pub returns-in-None-clause-sizes : goal.returns-in-None-clause-sizes
returns-in-None-clause-sizes c =
    let nullable = c.args.nullable.now in
    let all : AreSized nullable c.loop-total.sizes.items (length nullable) = subst (λ l. AreSized nullable l (length nullable)) c.deref.ensures.value c.in-None.ensures in
    sized_all c.args.grammar.now nullable c.loop-total.sizes.items (suc c.loop-total.total) 1001 (omega arith) c.requires.nullable all c.loop-total.invariant.sized

pub size_round-requires-clause-rules : goal.size_round-requires-clause-rules
size_round-requires-clause-rules c =
    subst (λ l. (r : ℕ) → Contains l r → r < length c.args.grammar.now.rules) (sym c.deref-in-Some.ensures.value) c.in_ok-numbers.ensures.only

pub loop-total-preserved : goal.loop-total-preserved
loop-total-preserved c =
    let g = c.args.grammar.now in
    let total = c.loop-total.total in
    let round : IsRound g c.in_ok-numbers.numbers.items total c.loop-total.sizes.items c.size_round.new.sizes.items =
    subst (λ l. IsRound g l total c.loop-total.sizes.items c.size_round.new.sizes.items) c.deref-in-Some.ensures.value c.size_round.ensures.round in
    let e : suc (suc total) ≡ suc (total + 1) = omega arith in
    record {
      sized =
          subst (λ k. IsSizedBelow g k (size_in c.size_round.new.sizes.items)) e
          (round_next g c.args.nullable.now c.in_ok-numbers.numbers.items total c.loop-total.sizes.items c.size_round.new.sizes.items c.requires.nullable c.in_ok-numbers.ensures c.loop-total.invariant.sized round);
      names = c.size_round.ensures.names;
    }

pub loop-total-init : goal.loop-total-init
loop-total-init c =
    let g = c.args.grammar.now in
    let none : c.in_ok-sizes.sizes.items ≡ replicate g.names 0 = c.in_ok-sizes.ensures.items_if_clones_equal (λ y e. e) ∙ ap (λ n. replicate n 0) c.names.ensures in
    record {
      sized = subst (λ l. IsSizedBelow g 1 (size_in l)) (sym none) (sized_none g);
      names = ap length none ∙ length-replicate g.names 0;
    }
