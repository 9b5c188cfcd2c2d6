use Rattle.std.proofs.Common.{◌≡◌, ℕ, sym, ◌∙◌, subst}
use Rattle.grammar_data.specs.declared.rule.Sym.TheVariants.{Name}
use Rattle.map_theory.specs.Relations.{IsThenSymbol}
use Rattle.node_store.specs.Chunks.{store_of}
use Rattle.table_data.specs.Tables.{Tables}
use Rattle.arrow_table.specs.Looks.{HasMap, map_at}
use Rattle.segment_parser.proofs.HeldLemmas.{grows_then}
use Rattle.segment_parser.proofs.ReduceLemmas.{left_is, more_raised, reduce_more_at}
use Rattle.segment_parser.proofs.OpenLemmas.{reduce_more_open}
use Rattle.segment_parser.proofs.leaf.Leaf.reduce_more.Goals as goal

pub returns-clause-at : goal.returns-clause-at
returns-clause-at c tokens w rest token at none all =
    let t = c.args.arrows.now.0 in
    let maps = c.args.arrows.now.1 in
    let mid = c.raise.new.arrows.1 in
    let final = c.put_node.new.arrows.1 in
    let s = c.args.self.now in
    let s1 = c.raise.new.self in
    let after = c.put_node.new.self in
    let rule = c.requires.rule in
    let up = c.in_ok-node.ensures in
    let put = c.in_ok-put_node.ensures in
    let same_tables : c.raise.new.arrows.0 ≡ t = c.raise.ensures.tables in
    let name : rule.0 ≡ c.left-name.result = left_is t c.tables.result.now c.args.rule rule.0 c.left-name.result rule.1 rule.2 (c.tables.ensures ∙ same_tables) c.left-name.ensures.left in
    let to = put.ids.0 in
    let goes1 : HasMap final to (IsThenSymbol t (Name c.left-name.result) (map_at mid s1.own)) = subst (λ (x : Tables). HasMap final to (IsThenSymbol x (Name c.left-name.result) (map_at mid s1.own))) same_tables put.ids.2 in
    let goes : HasMap final to (IsThenSymbol t (Name rule.0) (map_at mid s1.own)) = subst (λ (x : ℕ). HasMap final to (IsThenSymbol t (Name x) (map_at mid s1.own))) (sym name) goes1 in
    let grows = grows_then maps mid final c.raise.ensures.grows c.put_node.ensures.grows in
    let raised = more_raised t (store_of c.args.store.now) (store_of c.raise.new.store) maps mid final s s1 after c.args.rule rule.0 c.args.hidden rule.1 c.in_ok-node.node to c.requires.maps
    up.floors up.closed up.faults up.opened up.same.0 up.same.1 up.entries.0 up.entries.1 up.entries.2 up.trees c.raise.ensures.grows (up.back rule.0 rule.1 rule.2) up.own
    put.same put.stale put.count put.kids put.ids.1 c.put_node.ensures.grows goes in
    reduce_more_at t c.requires.lawful c.requires.lead (store_of c.args.store.now) (store_of c.raise.new.store) maps final s after c.args.rule rule.0 c.args.hidden rule.1 c.in_ok-node.node rule.2 c.requires.some rule.3 grows raised tokens w rest token at none all

pub returns-clause-open : goal.returns-clause-open
returns-clause-open c nodes front w token is none all =
    let t = c.args.arrows.now.0 in
    let maps = c.args.arrows.now.1 in
    let mid = c.raise.new.arrows.1 in
    let final = c.put_node.new.arrows.1 in
    let s = c.args.self.now in
    let s1 = c.raise.new.self in
    let after = c.put_node.new.self in
    let rule = c.requires.rule in
    let up = c.in_ok-node.ensures in
    let put = c.in_ok-put_node.ensures in
    let same_tables : c.raise.new.arrows.0 ≡ t = c.raise.ensures.tables in
    let name : rule.0 ≡ c.left-name.result = left_is t c.tables.result.now c.args.rule rule.0 c.left-name.result rule.1 rule.2 (c.tables.ensures ∙ same_tables) c.left-name.ensures.left in
    let to = put.ids.0 in
    let goes1 : HasMap final to (IsThenSymbol t (Name c.left-name.result) (map_at mid s1.own)) = subst (λ (x : Tables). HasMap final to (IsThenSymbol x (Name c.left-name.result) (map_at mid s1.own))) same_tables put.ids.2 in
    let goes : HasMap final to (IsThenSymbol t (Name rule.0) (map_at mid s1.own)) = subst (λ (x : ℕ). HasMap final to (IsThenSymbol t (Name x) (map_at mid s1.own))) (sym name) goes1 in
    let grows = grows_then maps mid final c.raise.ensures.grows c.put_node.ensures.grows in
    let raised = more_raised t (store_of c.args.store.now) (store_of c.raise.new.store) maps mid final s s1 after c.args.rule rule.0 c.args.hidden rule.1 c.in_ok-node.node to c.requires.maps
    up.floors up.closed up.faults up.opened up.same.0 up.same.1 up.entries.0 up.entries.1 up.entries.2 up.trees c.raise.ensures.grows (up.back rule.0 rule.1 rule.2) up.own
    put.same put.stale put.count put.kids put.ids.1 c.put_node.ensures.grows goes in
    reduce_more_open t c.requires.lawful (store_of c.args.store.now) (store_of c.raise.new.store) maps final s after c.args.rule rule.0 c.args.hidden rule.1 c.in_ok-node.node rule.2 c.requires.some rule.3 grows raised nodes front w token is none all
