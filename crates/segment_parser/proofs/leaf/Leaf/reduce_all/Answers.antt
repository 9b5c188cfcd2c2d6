use Rattle.std.proofs.Common.{◌≡◌, ◌-◌, ◌++◌, [], ◌∷◌, ℕ, length, sym, ap, ◌∙◌, subst, arith}
use Rattle.grammar_data.specs.declared.rule.Sym.TheVariants.{Name}
use Rattle.map_theory.specs.Relations.{IsThenSymbol}
use Rattle.node_store.specs.Chunks.{store_of}
use Rattle.node_data.specs.declared.kid.Kid.TheVariants.{Node as NodeKid}
use Rattle.arrow_table.specs.Looks.{HasMap, map_at}
use Rattle.segment_parser.specs.Standing.{SameButEntries}
use Rattle.segment_parser.proofs.ReduceLemmas.{left_is, all_taken, reduce_all_at}
use Rattle.segment_parser.proofs.OpenLemmas.{reduce_all_open}
use Rattle.segment_parser.proofs.leaf.Leaf.reduce_all.Goals as goal

pub returns-clause-at : goal.returns-clause-at
returns-clause-at c tokens w rest token at none all =
    let t = c.args.arrows.now.0 in
    let maps = c.args.arrows.now.1 in
    let final = c.put_node.new.arrows.1 in
    let s = c.args.self.now in
    let after = c.put_node.new.self in
    let rule = c.requires.rule in
    let took = c.in_ok-node.ensures in
    let put = c.in_ok-put_node.ensures in
    let k : ℕ = length s.ids.items - c.len-count.result in
    let nothing : k ≡ 0 = let e = c.len-count.ensures in let f = s.ids.ok.0 in omega (arith, e, f) in
    let same : SameButEntries s after = record { floors = put.same.floors ∙ took.same.floors; closed = put.same.closed ∙ took.same.closed; faults = put.same.faults ∙ took.same.faults; opened = put.same.opened ∙ took.same.opened; starts = put.same.starts ∙ took.same.starts; own = put.same.own ∙ took.same.own; first = put.same.first ∙ took.same.first } in
    let name : rule.0 ≡ c.left-name.result = left_is t c.tables.result.now c.args.rule rule.0 c.left-name.result rule.1 rule.2 c.tables.ensures c.left-name.ensures.left in
    let to = put.ids.0 in
    let goes1 : HasMap final to (IsThenSymbol t (Name rule.0) (map_at maps c.take.new.self.own)) = subst (λ (x : ℕ). HasMap final to (IsThenSymbol t (Name x) (map_at maps c.take.new.self.own))) (sym name) put.ids.2 in
    let goes : HasMap final to (IsThenSymbol t (Name rule.0) (map_at maps s.own)) = subst (λ (x : ℕ). HasMap final to (IsThenSymbol t (Name rule.0) (map_at maps x))) took.same.own goes1 in
    let grows = c.put_node.ensures.grows in
    let taken = all_taken t (store_of c.args.store.now) (store_of c.take.new.store) maps final s after c.args.rule rule.0 k c.in_ok-node.node to nothing c.requires.maps
    same put.stale (put.count ∙ took.count) (put.kids ∙ ap (λ l. l ++ NodeKid c.in_ok-node.node ∷ []) took.kids) (put.ids.1 ∙ ap (λ l. l ++ to ∷ []) took.ids) took.trees grows goes in
    reduce_all_at t c.requires.lawful (store_of c.args.store.now) (store_of c.take.new.store) maps final s after c.args.rule rule.0 rule.1 c.in_ok-node.node rule.2 rule.3 grows taken tokens w rest token at none all

pub returns-clause-open : goal.returns-clause-open
returns-clause-open c nodes front w token is none all =
    let t = c.args.arrows.now.0 in
    let maps = c.args.arrows.now.1 in
    let final = c.put_node.new.arrows.1 in
    let s = c.args.self.now in
    let after = c.put_node.new.self in
    let rule = c.requires.rule in
    let took = c.in_ok-node.ensures in
    let put = c.in_ok-put_node.ensures in
    let k : ℕ = length s.ids.items - c.len-count.result in
    let nothing : k ≡ 0 = let e = c.len-count.ensures in let f = s.ids.ok.0 in omega (arith, e, f) in
    let same : SameButEntries s after = record { floors = put.same.floors ∙ took.same.floors; closed = put.same.closed ∙ took.same.closed; faults = put.same.faults ∙ took.same.faults; opened = put.same.opened ∙ took.same.opened; starts = put.same.starts ∙ took.same.starts; own = put.same.own ∙ took.same.own; first = put.same.first ∙ took.same.first } in
    let name : rule.0 ≡ c.left-name.result = left_is t c.tables.result.now c.args.rule rule.0 c.left-name.result rule.1 rule.2 c.tables.ensures c.left-name.ensures.left in
    let to = put.ids.0 in
    let goes1 : HasMap final to (IsThenSymbol t (Name rule.0) (map_at maps c.take.new.self.own)) = subst (λ (x : ℕ). HasMap final to (IsThenSymbol t (Name x) (map_at maps c.take.new.self.own))) (sym name) put.ids.2 in
    let goes : HasMap final to (IsThenSymbol t (Name rule.0) (map_at maps s.own)) = subst (λ (x : ℕ). HasMap final to (IsThenSymbol t (Name rule.0) (map_at maps x))) took.same.own goes1 in
    let grows = c.put_node.ensures.grows in
    let taken = all_taken t (store_of c.args.store.now) (store_of c.take.new.store) maps final s after c.args.rule rule.0 k c.in_ok-node.node to nothing c.requires.maps
    same put.stale (put.count ∙ took.count) (put.kids ∙ ap (λ l. l ++ NodeKid c.in_ok-node.node ∷ []) took.kids) (put.ids.1 ∙ ap (λ l. l ++ to ∷ []) took.ids) took.trees grows goes in
    reduce_all_open t c.requires.lawful (store_of c.args.store.now) (store_of c.take.new.store) maps final s after c.args.rule rule.0 rule.1 c.in_ok-node.node rule.2 rule.3 grows taken nodes front w token is none all
