use Rattle.std.proofs.Common.{◌≡◌, ℕ, ◌<◌, List, [], ◌++◌, length, get_or, refl, sym, ap, subst, ◌∙◌, take, drop, arith}
use Rattle.std.specs.Prelude.{All, OnOk, Result, Ok, Err}
use Rattle.lr_base.specs.declared.errors.NoMemory.{NoMemory}
use Rattle.node_data.specs.declared.kid.Kid.{Kid}
use Rattle.node_store.specs.Chunks.{store_of}
use Rattle.node_store.specs.Kids.{kids_seen}
use Rattle.translation_theory.specs.DeclaredNames.{noted}
use Rattle.name_table.specs.Markings.{declared_by, marked_places, right_of}
use Rattle.name_table.specs.Pending.{kids_at, pending_kids}
use Rattle.name_table.proofs.PendingLemmas.{next_leaf_of}
use Rattle.name_table.proofs.PlaceLemmas.{has_places, kids_marked, places_are, places_below}
use Rattle.name_table.proofs.WayLemmas.{node_there, few_names, few_leaves, leaf_taken, rule_within, kid_each, node_taken, not_here}
use Rattle.name_table.proofs.tree_names.take_part.Goals as goal

-- what follows of a call that succeeds
on_ok : {P Q : Type 0} (result : Result (Unit {0}) NoMemory) → OnOk result P → (P → Q) → OnOk result Q
on_ok (Ok done) p f = f p
on_ok (Err fault) p f = p

pub slice_bounds-note-end : goal.slice_bounds-note-end
slice_bounds-note-end c =
    let (sheet, marking, all, settled, marked, small, way) = c.requires in
    let next = next_leaf_of c.args.parts.now.items c.args.part c.in-Token.token way.pending (sym c.kid.ensures ∙ c.in-Token.is) in
    omega (arith, next.inside)

pub rule-requires : goal.rule-requires
rule-requires c =
    let (sheet, marking, all, settled, marked, small, way) = c.requires in
    node_there sheet c.args.text.now (store_of c.args.store.now) all c.args.parts.now.items c.args.part c.args.names.now way c.in-Node.node (sym c.kid.ensures ∙ c.in-Node.is)

pub note-requires-clause-few : goal.note-requires-clause-few
note-requires-clause-few c =
    let (sheet, marking, all, settled, marked, small, way) = c.requires in
    let few = few_names sheet c.args.text.now (store_of c.args.store.now) all c.args.parts.now.items c.args.part c.args.names.now way c.in-Token.token (sym c.kid.ensures ∙ c.in-Token.is) in
    omega (arith, few, small)

pub note-requires-clause-times : goal.note-requires-clause-times
note-requires-clause-times c = λ k d inside.
    (let (sheet, marking, all, settled, marked, small, way) = c.requires in
    let few = few_leaves sheet c.args.text.now (store_of c.args.store.now) all c.args.parts.now.items c.args.part c.args.names.now way c.in-Token.token (sym c.kid.ensures ∙ c.in-Token.is) k d inside in
    omega (arith, few, small))

pub bounds-places-rule : goal.bounds-places-rule
bounds-places-rule c =
    let (sheet, marking, all, settled, marked, small, way) = c.requires in
    let e = sym c.kid.ensures ∙ c.in-Node.is in
    let within = rule_within sheet c.args.text.now (store_of c.args.store.now) all c.args.parts.now.items c.args.part c.args.names.now way c.in-Node.node c.rule.result e c.rule.ensures in
    let same : c.places.inside.0 ≡ c.rule.result = omega (arith, c.places.view_is) in
    omega (arith, same, has_places sheet marking c.args.places.now marked c.rule.result within)

pub push_parts-requires : goal.push_parts-requires
push_parts-requires c =
    let (sheet, marking, all, settled, marked, small, way) = c.requires in
    let e = sym c.kid.ensures ∙ c.in-Node.is in
    let within = rule_within sheet c.args.text.now (store_of c.args.store.now) all c.args.parts.now.items c.args.part c.args.names.now way c.in-Node.node c.rule.result e c.rule.ensures in
    let same : c.places.inside.0 ≡ c.rule.result = omega (arith, c.places.view_is) in
    let listed : c.deref.result.now ≡ marked_places (declared_by sheet c.rule.result) marking 0 (right_of sheet c.rule.result) = c.deref.ensures.value ∙ places_are sheet marking c.args.places.now marked c.rule.result within c.index-places-rule.result (c.index-places-rule.is ∙ ap (λ (n : ℕ). get_or c.args.places.now n c.index-places-rule.result) same) in
    let each : length (kids_seen c.kids.result) ≡ length (right_of sheet c.rule.result) = kid_each sheet c.args.text.now (store_of c.args.store.now) all c.args.parts.now.items c.args.part c.args.names.now way c.in-Node.node c.rule.result (kids_seen c.kids.result) e c.rule.ensures c.kids.ensures in
    subst (λ (l : List ℕ). All (λ place. place < length (kids_seen c.kids.result)) l) (sym listed) (λ k d inside. omega (arith, each, places_below (declared_by sheet c.rule.result) marking 0 (right_of sheet c.rule.result) k d inside))

pub returns-in-Token : goal.returns-in-Token
returns-in-Token c = λ sheet marking all settled marked small way.
    on_ok c.note.result c.note.ensures.noted (λ noted_rows.
    leaf_taken sheet c.args.text.now (store_of c.args.store.now) all c.args.parts.now.items c.args.part c.args.names.now way c.in-Token.token c.note.new.self (sym c.kid.ensures ∙ c.in-Token.is) (noted_rows ∙ ap (λ n. noted c.args.names.now (take n (drop c.in-Token.token.place.start c.args.text.now)) c.in-Token.token.place.line) (omega arith)))

pub returns-in-Node : goal.returns-in-Node
returns-in-Node c = λ sheet marking all settled marked small way.
    (let e = sym c.kid.ensures ∙ c.in-Node.is in
    let kids = kids_seen c.kids.result in
    let within = rule_within sheet c.args.text.now (store_of c.args.store.now) all c.args.parts.now.items c.args.part c.args.names.now way c.in-Node.node c.rule.result e c.rule.ensures in
    let same : c.places.inside.0 ≡ c.rule.result = omega (arith, c.places.view_is) in
    let listed : c.deref.result.now ≡ marked_places (declared_by sheet c.rule.result) marking 0 (right_of sheet c.rule.result) = c.deref.ensures.value ∙ places_are sheet marking c.args.places.now marked c.rule.result within c.index-places-rule.result (c.index-places-rule.is ∙ ap (λ (n : ℕ). get_or c.args.places.now n c.index-places-rule.result) same) in
    let each : length (kids_seen c.kids.result) ≡ length (right_of sheet c.rule.result) = kid_each sheet c.args.text.now (store_of c.args.store.now) all c.args.parts.now.items c.args.part c.args.names.now way c.in-Node.node c.rule.result (kids_seen c.kids.result) e c.rule.ensures c.kids.ensures in
    let are : kids_at kids c.deref.result.now ≡ pending_kids (declared_by sheet c.rule.result) marking 1 (right_of sheet c.rule.result) kids = ap (kids_at kids) listed ∙ kids_marked (declared_by sheet c.rule.result) marking 0 (right_of sheet c.rule.result) kids [] kids refl refl each in
    on_ok c.push_parts.result c.push_parts.ensures (λ pushed. node_taken sheet c.args.text.now (store_of c.args.store.now) all c.args.parts.now.items c.args.part c.args.names.now way marking settled c.in-Node.node c.rule.result kids c.push_parts.new.parts.items e c.rule.ensures c.kids.ensures (pushed ∙ ap (λ (l : List Kid). c.args.parts.now.items ++ l) are)))

pub returns-in-Hidden : goal.returns-in-Hidden
returns-in-Hidden c = λ sheet marking all settled marked small way.
    absurd (not_here sheet c.args.text.now (store_of c.args.store.now) all c.args.parts.now.items c.args.part c.args.names.now way (sym c.kid.ensures ∙ c.in-Hidden.is))
