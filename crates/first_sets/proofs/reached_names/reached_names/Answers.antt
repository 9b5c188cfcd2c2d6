use Rattle.std.proofs.Common.{◌≡◌, ◌+◌, ◌*◌, ◌<◌, true, false, [], ◌∷◌, ◌++◌, length, set, replicate, Contains, sym, ap, subst, ◌∙◌, arith}
use Rattle.std.proofs.lemmas.List.{get_or_read, length-append}
use Rattle.std.proofs.lemmas.List.Elements.{Contains-push}
use Rattle.first_sets.specs.KnownNames.{is_known}
use Rattle.first_sets.proofs.RelationLemmas.{falls}
use Rattle.first_sets.proofs.KnownLemmas.{unknown_in, unknown_set}
use Rattle.first_sets.proofs.ReachLemmas.{IsReaching, reach_start, reach_known, reach_new, reach_done, led_below}
use Rattle.first_sets.proofs.reached_names.reached_names.Goals as goal
use Rattle.first_sets.proofs.reached_names.reached_names.Goals.{In-Some}

pub loop-name-init : goal.loop-name-init
loop-name-init c =
    let g = c.args.grammar.now in
    let none : c.in_ok-known.known.items ≡ replicate g.names false = c.in_ok-known.ensures.items_if_clones_equal (λ y e. e) ∙ ap (λ n. replicate n false) c.names.ensures in
    let first : c.push-2.new.self.items ≡ g.start ∷ [] =
    c.in_ok-push.ensures.items ∙ ap (λ l. l ++ c.push.inside.0 ∷ []) c.new-pending.ensures.items ∙ ap (λ n. n ∷ []) (c.push.view_is ∙ c.start.ensures) in
    rw (none, first) (reach_start g c.args.mentions.now.pairs)

-- the popped name is below the number of names
inside : (c : In-Some) → c.in-Some.name < length c.loop-name.known.items
inside c =
    let below = led_below c.args.grammar.now c.requires.grammar c.in-Some.name (c.loop-name.invariant.led c.in-Some.name (subst (λ l. Contains l c.in-Some.name) (sym c.in-Some.ensures.items) (Contains-push c.pop.new.self.items c.in-Some.name))) in
    omega (arith, c.loop-name.invariant.names)

pub index-requires : goal.index-requires
index-requires c = let less = inside (goal.at.index-requires c).In-Some in omega (arith, c.loop-name.known.ok.0)

pub index_mut-requires : goal.index_mut-requires
index_mut-requires c = let less = inside (goal.at.index_mut-requires c).In-Some in omega (arith, c.loop-name.known.ok.0)

pub push_all-requires : goal.push_all-requires
push_all-requires c = let less = inside (goal.at.push_all-requires c).In-Some in omega (arith, c.requires.keys, c.loop-name.invariant.names)

pub loop-name-smaller-in-Continue-branch-3 : goal.loop-name-smaller-in-Continue-branch-3
loop-name-smaller-in-Continue-branch-3 c =
    let known = c.loop-name.known.items in
    let name = c.in-Some.name in
    let pairs = c.args.mentions.now.pairs in
    let less : name < length known = inside (goal.at.loop-name-smaller-in-Continue-branch-3 c).In-Some in
    let unknown : is_known known name ≡ false = sym (get_or_read known name c.index.result.now less c.index.ensures false) ∙ c.if-not-index.true in
    let long : length c.loop-name.pending.items ≡ length c.pop.new.self.items + 1 = ap length c.in-Some.ensures.items ∙ length-append c.pop.new.self.items (name ∷ []) in
    let smaller : unknown_in (set known name true) * (length pairs + 1) + length c.push_all.new.values.items < unknown_in known * (length pairs + 1) + length c.loop-name.pending.items =
    falls (unknown_in (set known name true)) (unknown_in known) (length pairs) (length c.pop.new.self.items) (length c.loop-name.pending.items) (length c.push_all.new.values.items) (unknown_set known name less unknown) c.in_ok-push_all.ensures.few long in
    smaller

pub loop-name-preserved-in-Continue-branch-3 : goal.loop-name-preserved-in-Continue-branch-3
loop-name-preserved-in-Continue-branch-3 c =
    let known = c.loop-name.known.items in
    let less : c.in-Some.name < length known = inside (goal.at.loop-name-preserved-in-Continue-branch-3 c).In-Some in
    let s : IsReaching c.args.grammar.now c.args.mentions.now.pairs known (c.pop.new.self.items ++ c.in-Some.name ∷ []) =
    subst (λ l. IsReaching c.args.grammar.now c.args.mentions.now.pairs known l) c.in-Some.ensures.items c.loop-name.invariant in
    reach_new c.args.grammar.now c.args.mentions.now.pairs known c.pop.new.self.items c.push_all.new.values.items c.in-Some.name less c.requires.mentions c.in_ok-push_all.ensures s

pub loop-name-preserved : goal.loop-name-preserved
loop-name-preserved c =
    let known = c.loop-name.known.items in
    let less : c.in-Some.name < length known = inside (goal.at.loop-name-preserved c).In-Some in
    let s : IsReaching c.args.grammar.now c.args.mentions.now.pairs known (c.pop.new.self.items ++ c.in-Some.name ∷ []) =
    subst (λ l. IsReaching c.args.grammar.now c.args.mentions.now.pairs known l) c.in-Some.ensures.items c.loop-name.invariant in
    reach_known c.args.grammar.now c.args.mentions.now.pairs known c.pop.new.self.items c.in-Some.name (sym (get_or_read known c.in-Some.name c.index.result.now less c.index.ensures false) ∙ c.if-not-index.false) s

pub returns-clause-known : goal.returns-clause-known
returns-clause-known c =
    reach_done c.args.grammar.now c.args.mentions.now.pairs c.loop-name.known.items c.loop-name.pending.items (omega (arith, c.loop-name.pending.ok.0, c.in_default.ensures.cases.0)) c.requires.mentions c.loop-name.invariant
