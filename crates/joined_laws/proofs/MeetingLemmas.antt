-- What the left piece leaves, and where the joined piece's starts lead.
use Rattle.std.proofs.Common.{◌≡◌, ℕ, ◌<◌, ◌≤◌, ◌⊎◌, inl, inr, List, [], ◌∷◌, ◌++◌, Contains, Option, Some, None, IsSome, sym, ap, ◌∙◌, subst, arith}
use Rattle.std.proofs.lemmas.List.Elements.{Contains-append_cases}
use Rattle.grammar_theory.specs.Trees.{Tree}
use Rattle.tree_theory.specs.Stores.{Ref, Store, Supply, IsSupply}
use Rattle.table_data.specs.declared.act.Act.TheVariants.{Shift}
use Rattle.table_data.specs.Tables.{Tables, act_in}
use Rattle.machine_theory.specs.Machine.{Entry, top, IsStack}
use Rattle.lawful_theory.proofs.FitLemmas.{run_stack}
use Rattle.map_theory.specs.Maps.{target}
use Rattle.part_theory.specs.Parts.{IsContext}
use Rattle.use_theory.specs.Counts.{count_in}
use Rattle.piece_theory.specs.Pieces.{Fault, Opened, Floor, Piece, floor_nodes}
use Rattle.piece_theory.specs.Applies.{supply_of, trees_onto, Falls, through, falls, Fails, Puts, Leaves, Tells, tells_error, tells_stack}
use Rattle.piece_theory.proofs.ResultLemmas.{falls_once, falls_not_fails, put_once}
use Rattle.context_laws.specs.Contexts.{IsEnd}
use Rattle.context_laws.proofs.ContextLemmas.{end_law}
use Rattle.join_theory.specs.Faults.{state_over}
use Rattle.join_theory.proofs.PutLemmas.{top_state}
use Rattle.join_theory.proofs.FallLemmas.{count_floors}
use Rattle.join_theory.proofs.HoldLemmas.{cons_cases, counted_here}
use Rattle.join_theory.proofs.FloorLaws.{own_node, falls_nodes}
use Rattle.join_theory.proofs.AliveLemmas.{falls_alive}
use Rattle.joined_laws.specs.Meeting.{MeetLaw, LandsLaw}

-- ---- one list of trees for a node

own_trees : (o : Option Opened) (taken : List Entry) (x : Ref) (trees : List Tree) → Contains {X = Ref × List Tree} (supply_of o taken) (x, trees) → trees ≡ trees_onto taken []
own_trees None taken x trees (k, inside, at) = absurd (omega (arith, inside))
own_trees (Some opened) taken x trees has = by (cons_cases {X = Ref × List Tree} [] (opened.node, trees_onto taken []) (x, trees) has)
  where
    by : (◌≡◌ {A = Ref × List Tree} (opened.node, trees_onto taken []) (x, trees)) ⊎ Contains {X = Ref × List Tree} [] (x, trees) → trees ≡ trees_onto taken []
    by (inl e) = sym (ap (λ (p : Ref × List Tree). p.1) e)
    by (inr (k, inside, at)) = absurd (omega (arith, inside))

not_twice : (f : Floor) (fs : List Floor) (taken : List Entry) (n : Ref) (trees : List Tree) → count_in n (floor_nodes (f ∷ fs)) ≤ 1 → Contains {X = Ref × List Tree} (supply_of f.opened taken) (n, trees) → 0 < count_in n (floor_nodes fs) → ⊥
not_twice f fs taken n trees once has some =
    let own = own_node f.opened taken n trees has in
    let here = subst (λ y. 0 < count_in y (floor_nodes (f ∷ []))) own.2 (counted_here f [] own.0 own.1) in
    let all = count_floors n f fs in
    omega (arith, once, some, here, all)

pub supply_once : {fs : List Floor} {s rest : List Entry} {given : Supply} → Falls fs s rest given → ((x : Ref) → count_in x (floor_nodes fs) ≤ 1) → IsSupply given
supply_once through once n trees others (k, inside, at) there = absurd (omega (arith, inside))
supply_once (falls {f = f} {fs = fs} {given = given} {supply = all} taken below parts many clear down at) once n trees others has there =
    by (supply_once down (λ x. (let most = once x in let all = count_floors x f fs in omega (arith, most, all)))) (split trees has) (split others there)
  where
    split : (l : List Tree) → Contains {X = Ref × List Tree} all (n, l) → Contains {X = Ref × List Tree} (supply_of f.opened taken) (n, l) ⊎ Contains {X = Ref × List Tree} given (n, l)
    split l inside = Contains-append_cases {X = Ref × List Tree} (supply_of f.opened taken) given (n, l) (subst (λ y. Contains {X = Ref × List Tree} y (n, l)) at inside)

    by : IsSupply given → Contains {X = Ref × List Tree} (supply_of f.opened taken) (n, trees) ⊎ Contains {X = Ref × List Tree} given (n, trees) → Contains {X = Ref × List Tree} (supply_of f.opened taken) (n, others) ⊎ Contains {X = Ref × List Tree} given (n, others) → trees ≡ others
    by inner (inl one) (inl two) = own_trees f.opened taken n trees one ∙ sym (own_trees f.opened taken n others two)
    by inner (inl one) (inr two) = absurd (not_twice f fs taken n trees (once n) one (falls_nodes down n others two))
    by inner (inr one) (inl two) = absurd (not_twice f fs taken n others (once n) two (falls_nodes down n trees one))
    by inner (inr one) (inr two) = inner n trees others one two

-- ---- contexts of the right piece

pub same_result : (t : Tables) (store : Store) (left : Piece) (s mid other : List Entry) → ((x : Ref) → count_in x (floor_nodes left.floors) ≤ 1) → Leaves t.rules store left s mid → Leaves t.rules store left s other → mid ≡ other
same_result t store left s mid other once one two =
    let same = falls_once two.down one.down in
    let supply = subst (λ l. Puts t.rules store l (top 0 two.rest) left.stack two.rest other) same.1 two.up in
    let rest = subst (λ l. Puts t.rules store one.supply (top 0 l) left.stack l other) same.0 supply in
    put_once (supply_once one.down once) one.up rest

pub meet_law : MeetLaw
meet_law g t lawful store left starts token u next s mid floors right once shifts context tells leaves = record {
  stack = stack tells;
  state = shift.0;
  shifts = shift.1;
}
  where
    stack : Tells t store left u next s → IsStack t 0 mid
    stack (tells_error fails errs) = absurd (falls_not_fails leaves.down fails)
    stack (tells_stack {last = other} leaves1 run) = subst (λ l. IsStack t 0 l) (sym (same_result t store left s mid other once leaves leaves1)) (run_stack lawful run context.stack)

    alive : IsSome (target starts (top 0 leaves.rest))
    alive = falls_alive t left.first left.floors starts floors s leaves.rest leaves.supply context (right s context) leaves.down

    shift : (p : ℕ) × (act_in t (top 0 mid) token.id ≡ Shift p)
    shift = shifts (top 0 leaves.rest) (top 0 mid) alive (top_state starts alive leaves.up)

-- ---- where the starts lead

same_some : {x y : ℕ} → ◌≡◌ {A = Option ℕ} (Some x) (Some y) → x ≡ y
same_some e = cc

pub lands_law : LandsLaw
lands_law g t lawful lead store now tokens left right p lower e last stacked on_floors are takes put meet q z alive at =
    by (put from context).came
  where
    end : IsEnd t left.first (lower ++ e ∷ []) q
    end = end_law g t lawful lead left.first lower e q stacked alive

    from : List Entry
    from = end.comes.from

    context : IsContext t left.first.id from
    context = end.comes.is_context

    down : Falls p.floors from end.rest end.comes.supply
    down = subst (λ l. Falls l from end.rest end.comes.supply) (sym on_floors) end.comes.falls

    by : ((x : Fault) × Fails p.floors from x) ⊎ ((mid : List Entry) × (low : List Entry) × (supply : Supply) × Leaves t.rules store left from mid × Falls right.floors mid low supply) → IsSome (target last z)
    by (inl (x, fails)) = absurd (falls_not_fails down fails)
    by (inr (mid, low, supply, leaves, fallen)) =
        let c = (put from context).comes mid low supply leaves fallen in
        let base = ap (top 0) (falls_once c.down down).0 ∙ end.on_top in
        let state = ap (λ y. state_over e.starts p.stack y) (sym base) ∙ top_state e.starts c.alive c.up in
        let same : z ≡ top 0 low = same_some (sym at ∙ state) in
        let there = meet from mid context leaves in
        subst (λ y. IsSome (target last y)) (sym same) (falls_alive t right.first right.floors last are mid low supply there (takes mid there) fallen)
