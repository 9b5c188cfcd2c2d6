-- A reduction takes all entries of a piece and more: the floor that it opens, on one context.
use Rattle.std.proofs.Common.{◌≡◌, ℕ, ◌+◌, List, [], ◌∷◌, ◌++◌, length, take, replicate, Contains, Some, refl, sym, ap, ◌∙◌, subst, append_assoc, arith}
use Rattle.std.proofs.lemmas.List.{length-append}
use Rattle.std.proofs.lemmas.List.Elements.{Contains-append_left, Contains-push}
use Rattle.grammar_data.specs.declared.rule.Sym.{Sym}
use Rattle.grammar_data.specs.declared.rule.Sym.TheVariants.{Name}
use Rattle.grammar_theory.specs.Rules.{IsRule}
use Rattle.grammar_theory.specs.Trees.{Tree, Node, NoTree}
use Rattle.grammar_theory.proofs.RuleLemmas.{rule_once, same_parts}
use Rattle.node_data.specs.declared.kid.Kid.TheVariants.{Node as NodeKid, Hidden}
use Rattle.tree_theory.specs.Stores.{Ref, Store, Supply, Shows, shows_node, ShowsAll}
use Rattle.table_data.specs.Tables.{Tables, goto_in}
use Rattle.machine_theory.specs.Machine.{Entry, top, symbols, forest_onto, IsStack, reduced}
use Rattle.machine_theory.proofs.StackLemmas.{stack_below, length-symbols}
use Rattle.lawful_theory.specs.Lawful.{IsLawful}
use Rattle.lawful_theory.specs.Laws.{Fits}
use Rattle.map_theory.specs.Maps.{target, walk_by}
use Rattle.part_theory.specs.Moves.{ReduceMove}
use Rattle.piece_theory.specs.Pieces.{Floor, Held, hidden_of, kids_of}
use Rattle.piece_theory.specs.Applies.{HasSymbol, node_symbol, nowhere, trees_onto, supply_of, hidden_symbols, right_of, right_side, Falls, Fails, Puts, put_all, puts, Fitted}
use Rattle.piece_theory.specs.Laws.{HasMore}
use Rattle.piece_theory.proofs.ResultLemmas.{falls_once, falls_not_fails}
use Rattle.arm_laws.specs.Did.{did_err, did_leave}
use Rattle.arm_laws.specs.Arms.{FloorOpenedLaw}
use Rattle.arm_laws.proofs.FallLemmas.{falls_then, fails_more, TakesHere, fitted_then}
use Rattle.arm_laws.proofs.PutLemmas.{put_grow, put_above, forest-append, shows_supplied}
use Rattle.arm_laws.proofs.RunLemmas.{errs_moves, run_fits, run_stack, longer_front, walk_up, symbols_below}
use Rattle.arm_laws.proofs.ArmLemmas.{leaves_by, leaves_with, no_fault, reduces_then}

-- what the reduction takes below the entries: of the stack `rest` the part `more`, whose symbols are the rule's first ones
pub record TakesMore (t : Tables) (r n hidden : ℕ) (right : List Sym) (pushed rest : List Entry) : Type 0 where
  pub more : List Entry
  pub below : List Entry
  pub parts : rest ≡ more ++ below
  pub count : length more ≡ hidden
  pub are : symbols more ≡ take hidden right
  pub whole : length (pushed ++ more) ≡ length right
  pub leads : walk_by t (top 0 below) (take hidden right) ≡ Some (top 0 rest)
  pub state : ℕ
  pub goes : goto_in t (top 0 below) n ≡ Some state

takes_more : (t : Tables) {r n : ℕ} {right : List Sym} {last : List Entry} (hidden : ℕ) (pushed rest : List Entry) (fits : Fits t last r) → IsRule t.rules r n right → last ≡ pushed ++ rest → hidden + length pushed ≡ length right → IsStack t 0 last → TakesMore t r n hidden right pushed rest
takes_more t {r} {n} {right} {last} hidden pushed rest fits rule parts count is =
    let same = rule_once fits.rule rule in
    let symbols_are : symbols fits.taken ≡ right = fits.same ∙ same.1 in
    let len : length fits.taken ≡ length right = sym (length-symbols fits.taken) ∙ ap length symbols_are in
    let apart = longer_front fits.taken fits.rest pushed rest (sym fits.parts ∙ parts) (omega (arith, len, count)) in
    let both = ap length apart.front ∙ length-append pushed apart.more in
    let few : length apart.more ≡ hidden = omega (arith, len, count, both) in
    let are : symbols apart.more ≡ take hidden right = symbols_below pushed apart.more right hidden (ap symbols (sym apart.front) ∙ symbols_are) few in
    let low : IsStack t 0 rest = stack_below pushed rest (subst (λ l. IsStack t 0 l) parts is) in
    let up = walk_up t apart.more fits.rest (subst (λ l. IsStack t 0 l) apart.back low) in
    record {
      more = apart.more;
      below = fits.rest;
      parts = apart.back;
      count = few;
      are = are;
      whole = ap length (sym apart.front) ∙ len;
      leads = ap (λ l. walk_by t (top 0 fits.rest) l) (sym are) ∙ up ∙ ap (λ l. Some (top 0 l)) (sym apart.back);
      state = fits.state;
      goes = ap (λ k. goto_in t (top 0 fits.rest) k) (sym same.0) ∙ fits.goes;
    }

right_found : (t : Tables) {r n : ℕ} {right : List Sym} → IsRule t.rules r n right → right_of t.rules r ≡ right
right_found t rule = ap right_side rule.found

-- the floor takes these entries from the context
takes_here : (t : Tables) (g : Floor) {m : Ref} {r n hidden : ℕ} {right : List Sym} {pushed rest : List Entry} → g.opened ≡ Some (record { rule = r; hidden = hidden; node = m }) → IsRule t.rules r n right → TakesMore t r n hidden right pushed rest → TakesHere t.rules g rest
takes_here t g {r = r} {hidden = hidden} is rule takes = record {
  taken = takes.more;
  below = takes.below;
  parts = takes.parts;
  count = takes.count ∙ ap hidden_of (sym is);
  are = takes.are ∙ ap (λ l. take hidden l) (sym (right_found t rule)) ∙ ap (λ o. hidden_symbols t.rules o) (sym is);
}

-- what a floor takes is supplied for its node
supplied_here : (g : Floor) {m : Ref} {r hidden : ℕ} (supply : Supply) (more : List Entry) → g.opened ≡ Some (record { rule = r; hidden = hidden; node = m }) → Contains {X = Ref × List Tree} (supply ++ supply_of g.opened more) (m, trees_onto more [])
supplied_here g {m} supply more is = subst (λ (l : Supply). Contains {X = Ref × List Tree} (supply ++ l) (m, trees_onto more [])) (ap (λ o. supply_of o more) (sym is)) (Contains-push {X = Ref × List Tree} supply (m, trees_onto more []))

-- the piece on a context that it comes to
pub record OpensHere (t : Tables) (new : Store) (floors : List Floor) (g : Floor) (held : Held) (r n hidden : ℕ) (right : List Sym) (s last rest : List Entry) : Type 0 where
  pub pushed : List Entry
  pub parts : last ≡ pushed ++ rest
  pub takes : TakesMore t r n hidden right pushed rest
  pub supply : Supply
  pub down : Falls (floors ++ g ∷ []) s takes.below supply
  pub up : Puts t.rules new supply (top 0 takes.below) (held ∷ []) takes.below (reduced r n (pushed ++ takes.more) takes.state ∷ takes.below)

opens_here : (t : Tables) → IsLawful t → (store new : Store) → HasMore store new → (floors : List Floor) (hs : List Held) (g : Floor) (held : Held) (m : Ref) (r n hidden : ℕ) (right : List Sym) {s last rest : List Entry} {supply : Supply}
    → g.opened ≡ Some (record { rule = r; hidden = hidden; node = m }) → g.faults ≡ [] → IsRule t.rules r n right → hidden + length hs ≡ length right → held.kid ≡ NodeKid m → new m ≡ Some (r, replicate hidden Hidden ++ kids_of hs)
    → Falls floors s rest supply → Puts t.rules store supply (top 0 rest) hs rest last → IsStack t 0 last → Fits t last r
    → ((q y : ℕ) → walk_by t q (take hidden right) ≡ Some (top 0 rest) → goto_in t q n ≡ Some y → target held.states q ≡ Some y)
    → OpensHere t new floors g held r n hidden right s last rest
opens_here t lawful store new has floors hs g held m r n hidden right {s} {last} {rest} {supply} opened none rule count kid node down up is fits gotos =
    let old = put_above up in
    let takes = takes_more t hidden old.pushed rest fits rule old.parts (ap (λ k. hidden + k) old.count ∙ count) is in
    let all : Supply = supply ++ supply_of g.opened takes.more in
    let above = put_above (put_grow {store = store} {new = new} {supply = supply} {supply1 = all} has (λ x trees here. Contains-append_left {X = Ref × List Tree} supply (supply_of g.opened takes.more) (x, trees) here) up) in
    let same = same_parts above.pushed rest old.pushed rest (sym above.parts ∙ old.parts) (above.count ∙ sym old.count) in
    let entries : ShowsAll new all m hidden (kids_of hs) (forest_onto old.pushed NoTree) = subst (λ l. ShowsAll new all m hidden (kids_of hs) (forest_onto l NoTree)) same.0 (above.all m hidden) in
    let rows : ShowsAll new all m 0 (replicate hidden Hidden ++ kids_of hs) (forest_onto takes.more (forest_onto old.pushed NoTree)) = shows_supplied takes.more hidden takes.count (supplied_here g supply takes.more opened) entries in
    let tree : Tree = Node r (forest_onto (old.pushed ++ takes.more) NoTree) in
    let whole : ShowsAll new all m 0 (replicate hidden Hidden ++ kids_of hs) (forest_onto (old.pushed ++ takes.more) NoTree) = subst (λ l. ShowsAll new all m 0 (replicate hidden Hidden ++ kids_of hs) l) (sym (forest-append old.pushed takes.more NoTree)) rows in
    let shown : Shows new all nowhere 0 held.kid tree = subst (λ k. Shows new all nowhere 0 k tree) (sym kid) (shows_node (replicate hidden Hidden ++ kids_of hs) node whole) in
    let symbol : HasSymbol t.rules new held.kid (Name n) = subst (λ k. HasSymbol t.rules new k (Name n)) (sym kid) (node_symbol (replicate hidden Hidden ++ kids_of hs) node rule) in
    record {
      pushed = old.pushed;
      parts = old.parts;
      takes = takes;
      supply = all;
      down = falls_then down g takes.more takes.below takes.parts (takes.count ∙ ap hidden_of (sym opened)) (no_fault g none (top 0 takes.below));
      up = puts symbol shown (gotos (top 0 takes.below) takes.state takes.leads takes.goes) put_all;
    }

pub floor_opened_law : FloorOpenedLaw
floor_opened_law t lawful store new has p after lower f g held m r n hidden right input token moves on_floors floors opened none on_stack rule count kid node acts gotos s is (did_err {fault = fault} fails errs) fit = (
  did_err (subst (λ l. Fails l s fault) (sym floors) (fails_more (g ∷ []) fails)) (errs_moves (ReduceMove r ∷ []) errs),
  subst (λ l. Fitted t.rules l s) (sym floors) (fitted_then g fit (λ mid given down. absurd (falls_not_fails down fails))),
)
floor_opened_law t lawful store new has p after lower f g held m r n hidden right input token moves on_floors floors opened none on_stack rule count kid node acts gotos s is (did_leave {last = last} leaves run) fit =
    let by = leaves_by {t = t} {store = store} {p = p} lower f p.stack on_floors refl leaves in
    let q = top 0 by.rest in
    let act = acts q (top 0 last) by.by.clear by.over_all in
    let fits = run_fits lawful is run token.id r act in
    let stack = run_stack lawful is run in
    let down : Falls p.floors s by.rest by.supply = subst (λ l. Falls l s by.rest by.supply) (sym on_floors) by.down in
    let here = opens_here t lawful store new has p.floors p.stack g held m r n hidden right opened none rule count kid node down by.up stack fits (λ z y walk goes. gotos z q (top 0 last) y walk by.by.clear by.over_all goes) in
    let takes : TakesHere t.rules g by.rest = takes_here t g opened rule here.takes in (
      did_leave
          (leaves_with t new after (p.floors ++ g ∷ []) (held ∷ []) floors on_stack here.down here.up)
          (reduces_then (here.pushed ++ here.takes.more) here.takes.below run act rule (here.parts ∙ ap (λ l. here.pushed ++ l) here.takes.parts ∙ sym (append_assoc here.pushed here.takes.more here.takes.below)) here.takes.whole here.takes.goes),
      subst (λ l. Fitted t.rules l s) (sym floors) (fitted_then g fit (λ mid given more. subst (λ l. TakesHere t.rules g l) (falls_once down more).0 takes)),
    )
