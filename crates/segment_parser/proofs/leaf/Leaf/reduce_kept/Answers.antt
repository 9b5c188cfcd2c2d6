use Rattle.std.proofs.Common.{◌≡◌, ◌≤◌, ◌<◌, ◌-◌, ℕ, List, Some, slice_get, length, sym, ap, ◌∙◌, subst, arith}
use Rattle.std.specs.Option.{option_map}
use Rattle.std.proofs.lemmas.List.{length-take}
use Rattle.std.proofs.lemmas.List.Elements.{All-push, All-take}
use Rattle.segment_parser.specs.Numbers.{AreFrom}
use Rattle.grammar_data.specs.declared.rule.Sym.{Sym}
use Rattle.grammar_data.specs.declared.rule.Sym.TheVariants.{Name}
use Rattle.grammar_data.specs.Grammar.{Rule}
use Rattle.map_theory.specs.Relations.{IsThenSymbol}
use Rattle.node_store.specs.Chunks.{store_of}
use Rattle.table_data.specs.Tables.{Tables}
use Rattle.arrow_table.specs.Looks.{HasMap, map_at}
use Rattle.segment_parser.specs.Working.{last_id, AreThere, IsFreshAt}
use Rattle.segment_parser.proofs.ReduceLemmas.{rule_inside, taken_there, fresh_there, fresh_length, last_inside, some_taken, reduce_some_at}
use Rattle.segment_parser.proofs.OpenLemmas.{reduce_some_open}
use Rattle.segment_parser.proofs.HeldLemmas.{grows_then}
use Rattle.segment_parser.proofs.leaf.Leaf.reduce_kept.Goals as goal

pub freshen-requires-clause-there : goal.freshen-requires-clause-there
freshen-requires-clause-there c = subst (λ l. AreThere c.args.arrows.now.1 l) (sym c.in_ok-node.ensures.ids) (taken_there c.args.arrows.now.1 c.args.self.now.ids.items (length c.args.self.now.ids.items - c.args.count) c.requires.maps.there)

pub freshen-requires-clause-starts : goal.freshen-requires-clause-starts
freshen-requires-clause-starts c = subst (λ (k : ℕ). k < length c.args.arrows.now.1) (sym c.in_ok-node.ensures.same.starts) c.requires.maps.starts

pub left-name-requires : goal.left-name-requires
left-name-requires c = subst (λ (t : Tables). c.args.rule < length t.rules) (sym (c.tables.ensures ∙ c.freshen.ensures.tables)) (rule_inside c.requires.rule.2)

pub put_node-requires-clause-below : goal.put_node-requires-clause-below
put_node-requires-clause-below c =
    let maps = c.args.arrows.now.1 in
    let ids = c.take.new.self.ids.items in
    let there : AreThere maps ids = subst (λ l. AreThere maps l) (sym c.in_ok-node.ensures.ids) (taken_there maps c.args.self.now.ids.items (length c.args.self.now.ids.items - c.args.count) c.requires.maps.there) in
    let after : AreThere c.freshen.new.arrows.1 c.freshen.new.self.ids.items = fresh_there maps c.freshen.new.arrows.1 c.take.new.self.starts c.take.new.self.stale c.freshen.new.self.stale (c.len-depth.result - 1) ids c.freshen.new.self.ids.items c.freshen.ensures.grows there c.in_ok-freshen.ensures.fresh in
    let same = fresh_length maps c.freshen.new.arrows.1 c.take.new.self.starts c.take.new.self.stale c.freshen.new.self.stale (c.len-depth.result - 1) ids c.freshen.new.self.ids.items c.in_ok-freshen.ensures.fresh in
    let count = ap length c.in_ok-node.ensures.ids ∙ length-take (length c.args.self.now.ids.items - c.args.count) c.args.self.now.ids.items in
    let less = c.requires.count in
    let some : 0 < length c.freshen.new.self.ids.items = omega (arith, same, count, less) in
    subst (λ (k : ℕ). k < length c.freshen.new.arrows.1) (sym c.top-below.ensures) (last_inside c.freshen.new.arrows.1 c.freshen.new.self.ids.items after some)

same_left : {n m : ℕ} (right : List Sym) → option_map {T = Rule} {U = ℕ} (λ rule. rule.0) (Some (n, right)) ≡ Some m → n ≡ m
same_left right e = cc

pub returns-clause-at : goal.returns-clause-at
returns-clause-at c tokens w rest token at none all =
    let t = c.args.arrows.now.0 in
    let maps = c.args.arrows.now.1 in
    let mid = c.freshen.new.arrows.1 in
    let final = c.put_node.new.arrows.1 in
    let s = c.args.self.now in
    let s1 = c.take.new.self in
    let s2 = c.freshen.new.self in
    let after = c.put_node.new.self in
    let rule = c.requires.rule in
    let put = c.in_ok-put_node.ensures in
    let depth : c.len-depth.result - 1 ≡ length s1.ids.items - 1 = let e = c.len-depth.ensures in let f = s1.ids.ok.0 in omega (arith, e, f) in
    let fresh : IsFreshAt maps mid s1.starts s1.stale s2.stale (length s1.ids.items - 1) s1.ids.items s2.ids.items = subst (λ (k : ℕ). IsFreshAt maps mid s1.starts s1.stale s2.stale k s1.ids.items s2.ids.items) depth c.in_ok-freshen.ensures.fresh in
    let same_tables : c.freshen.new.arrows.0 ≡ t = c.freshen.ensures.tables in
    let here : c.tables.result.now ≡ t = c.tables.ensures ∙ same_tables in
    let name : rule.0 ≡ c.left-name.result = same_left rule.1 (sym (ap (λ o. option_map {T = Rule} {U = ℕ} (λ r. r.0) o) rule.2.found) ∙ ap (λ (x : Tables). option_map {T = Rule} {U = ℕ} (λ r. r.0) (slice_get x.rules c.args.rule)) (sym here) ∙ c.left-name.ensures.left) in
    let to = put.ids.0 in
    let goes1 : HasMap final to (IsThenSymbol t (Name c.left-name.result) (map_at mid c.top-below.result)) = subst (λ (x : Tables). HasMap final to (IsThenSymbol x (Name c.left-name.result) (map_at mid c.top-below.result))) same_tables put.ids.2 in
    let goes2 : HasMap final to (IsThenSymbol t (Name rule.0) (map_at mid c.top-below.result)) = subst (λ (x : ℕ). HasMap final to (IsThenSymbol t (Name x) (map_at mid c.top-below.result))) (sym name) goes1 in
    let goes : HasMap final to (IsThenSymbol t (Name rule.0) (map_at mid (last_id s2.ids.items))) = subst (λ (x : ℕ). HasMap final to (IsThenSymbol t (Name rule.0) (map_at mid x))) c.top-below.ensures goes2 in
    let grows = grows_then maps mid final c.freshen.ensures.grows c.put_node.ensures.grows in
    let taken = some_taken t (store_of c.args.store.now) (store_of c.take.new.store) maps mid final s s1 s2 after c.args.rule rule.0 c.args.count c.in_ok-node.node to c.requires.count c.requires.maps
    c.in_ok-node.ensures.same c.in_ok-node.ensures.stale c.in_ok-node.ensures.count c.in_ok-node.ensures.kids c.in_ok-node.ensures.ids c.in_ok-node.ensures.trees
    c.freshen.ensures.grows fresh c.freshen.ensures.same (ap (λ b. b.kids) c.freshen.ensures.block) c.freshen.ensures.count
    c.put_node.ensures.grows put.same put.stale put.count put.kids put.ids.1 goes in
    reduce_some_at t c.requires.lawful (store_of c.args.store.now) (store_of c.take.new.store) maps final s after c.args.rule rule.0 c.args.count rule.1 c.in_ok-node.node rule.2 rule.3 c.requires.count grows taken tokens w rest token at none all

pub returns-clause-open : goal.returns-clause-open
returns-clause-open c nodes front w token is none all =
    let t = c.args.arrows.now.0 in
    let maps = c.args.arrows.now.1 in
    let mid = c.freshen.new.arrows.1 in
    let final = c.put_node.new.arrows.1 in
    let s = c.args.self.now in
    let s1 = c.take.new.self in
    let s2 = c.freshen.new.self in
    let after = c.put_node.new.self in
    let rule = c.requires.rule in
    let put = c.in_ok-put_node.ensures in
    let depth : c.len-depth.result - 1 ≡ length s1.ids.items - 1 = let e = c.len-depth.ensures in let f = s1.ids.ok.0 in omega (arith, e, f) in
    let fresh : IsFreshAt maps mid s1.starts s1.stale s2.stale (length s1.ids.items - 1) s1.ids.items s2.ids.items = subst (λ (k : ℕ). IsFreshAt maps mid s1.starts s1.stale s2.stale k s1.ids.items s2.ids.items) depth c.in_ok-freshen.ensures.fresh in
    let same_tables : c.freshen.new.arrows.0 ≡ t = c.freshen.ensures.tables in
    let here : c.tables.result.now ≡ t = c.tables.ensures ∙ same_tables in
    let name : rule.0 ≡ c.left-name.result = same_left rule.1 (sym (ap (λ o. option_map {T = Rule} {U = ℕ} (λ r. r.0) o) rule.2.found) ∙ ap (λ (x : Tables). option_map {T = Rule} {U = ℕ} (λ r. r.0) (slice_get x.rules c.args.rule)) (sym here) ∙ c.left-name.ensures.left) in
    let to = put.ids.0 in
    let goes1 : HasMap final to (IsThenSymbol t (Name c.left-name.result) (map_at mid c.top-below.result)) = subst (λ (x : Tables). HasMap final to (IsThenSymbol x (Name c.left-name.result) (map_at mid c.top-below.result))) same_tables put.ids.2 in
    let goes2 : HasMap final to (IsThenSymbol t (Name rule.0) (map_at mid c.top-below.result)) = subst (λ (x : ℕ). HasMap final to (IsThenSymbol t (Name x) (map_at mid c.top-below.result))) (sym name) goes1 in
    let goes : HasMap final to (IsThenSymbol t (Name rule.0) (map_at mid (last_id s2.ids.items))) = subst (λ (x : ℕ). HasMap final to (IsThenSymbol t (Name rule.0) (map_at mid x))) c.top-below.ensures goes2 in
    let grows = grows_then maps mid final c.freshen.ensures.grows c.put_node.ensures.grows in
    let taken = some_taken t (store_of c.args.store.now) (store_of c.take.new.store) maps mid final s s1 s2 after c.args.rule rule.0 c.args.count c.in_ok-node.node to c.requires.count c.requires.maps
    c.in_ok-node.ensures.same c.in_ok-node.ensures.stale c.in_ok-node.ensures.count c.in_ok-node.ensures.kids c.in_ok-node.ensures.ids c.in_ok-node.ensures.trees
    c.freshen.ensures.grows fresh c.freshen.ensures.same (ap (λ b. b.kids) c.freshen.ensures.block) c.freshen.ensures.count
    c.put_node.ensures.grows put.same put.stale put.count put.kids put.ids.1 goes in
    reduce_some_open t c.requires.lawful (store_of c.args.store.now) (store_of c.take.new.store) maps final s after c.args.rule rule.0 c.args.count rule.1 c.in_ok-node.node rule.2 rule.3 c.requires.count grows taken nodes front w token is none all

pub returns-clause-levels : goal.returns-clause-levels
returns-clause-levels c all =
    let base = c.args.arrows.now.2 in
    let base1 = c.put_node.new.arrows.2 in
    let ids = c.args.self.now.ids.items in
    let s2 = c.freshen.new.self in
    let put = c.in_ok-put_node.ensures.ids in
    let taken : AreFrom base c.take.new.self.ids.items = subst (λ l. AreFrom base l) (sym c.in_ok-node.ensures.ids) (All-take {X = ℕ} (λ id. base ≤ id) (length ids - c.args.count) ids all) in
    let fresh : AreFrom base1 s2.ids.items = subst (λ (b : ℕ). AreFrom b s2.ids.items) (sym c.put_node.ensures.base) (c.in_ok-freshen.ensures.levels taken) in
    subst (λ l. AreFrom base1 l) (sym put.1) (All-push {X = ℕ} (λ id. base1 ≤ id) s2.ids.items put.0 fresh put.3)
