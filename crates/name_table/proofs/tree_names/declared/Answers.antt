use Rattle.std.proofs.Common.{◌≡◌, ℕ, Bool, List, ◌++◌, ◌∷◌, [], sym, ap, subst, ◌∙◌, arith}
use Rattle.std.specs.Global.{Global}
use Rattle.std.specs.Prelude.{Vec}
use Rattle.std.proofs.lemmas.List.{nil_from_length}
use Rattle.node_data.specs.declared.kid.Kid.{Kid}
use Rattle.node_data.specs.declared.kid.Kid.TheVariants.{Node}
use Rattle.node_store.specs.Chunks.{store_of}
use Rattle.translation_theory.specs.Marks.{marked_leaves}
use Rattle.translation_theory.specs.DeclaredNames.{names_of}
use Rattle.finished_theory.proofs.FinishedLemmas.{one_finished}
use Rattle.name_table.specs.Markings.{AreMarkedPlaces, lists_of}
use Rattle.name_table.specs.Pending.{IsUnderWay}
use Rattle.name_table.proofs.WayLemmas.{begun, ended, few_marked}
use Rattle.name_table.proofs.tree_names.declared.Goals as goal

pub loop-init : goal.loop-init
loop-init c =
    let (tree, finished) = c.requires.tree in
    let way = begun c.args.sheet.now c.args.text.now (store_of c.args.store.now) c.args.root tree finished in
    let parts_are : c.push.new.self.items ≡ Node c.args.root ∷ [] = c.in_ok-push.ensures.items ∙ ap (λ l. l ++ c.of.result ∷ []) c.new-parts.ensures.items ∙ ap (λ (k : Kid). k ∷ []) c.of.ensures in
    record {
      tree = tree;
      finished = finished;
      way = subst (λ p. IsUnderWay c.args.sheet.now c.args.text.now (store_of c.args.store.now) (marked_leaves c.args.sheet.now tree) p c.new-names.result) (sym parts_are) (subst (λ r. IsUnderWay c.args.sheet.now c.args.text.now (store_of c.args.store.now) (marked_leaves c.args.sheet.now tree) (Node c.args.root ∷ []) r) (sym c.new-names.ensures) way);
    }

pub take_part-requires : goal.take_part-requires
take_part-requires c =
    let small = few_marked c.args.sheet.now c.args.text.now (store_of c.args.store.now) c.args.root c.loop.invariant.tree c.loop.invariant.finished in
    let within = c.requires.text in
    let marking = c.in_ok-marking.marking.items in
    let marked : AreMarkedPlaces c.args.sheet.now marking (lists_of c.deref-in-Some.result.now) = subst (λ (l : List (Vec ℕ Global)). AreMarkedPlaces c.args.sheet.now marking (lists_of l)) (sym c.deref-in-Some.ensures.value) (subst (λ (m : List Bool). AreMarkedPlaces c.args.sheet.now m (lists_of c.in_ok-places.places.items)) c.deref.ensures.value c.in_ok-places.ensures) in
    (c.args.sheet.now, marking, marked_leaves c.args.sheet.now c.loop.invariant.tree, c.in_ok-marking.ensures, marked, omega (arith, small, within), subst (λ p. IsUnderWay c.args.sheet.now c.args.text.now (store_of c.args.store.now) (marked_leaves c.args.sheet.now c.loop.invariant.tree) p c.loop.names) c.in-Some.ensures.items c.loop.invariant.way)

pub returns-in-None : goal.returns-in-None
returns-in-None c = λ tree finished.
    let none : c.loop.parts.items ≡ [] = nil_from_length c.loop.parts.items (let count = c.in-None.ensures.cases.0 in let ok = c.loop.parts.ok in omega (arith, count, ok)) in
    ended c.args.sheet.now c.args.text.now (store_of c.args.store.now) c.loop.invariant.tree c.loop.parts.items c.loop.names c.loop.invariant.way none ∙ ap (names_of c.args.sheet.now c.args.text.now) (one_finished c.args.sheet.now c.args.text.now (store_of c.args.store.now) c.args.root c.loop.invariant.tree tree c.loop.invariant.finished finished)

pub loop-preserved : goal.loop-preserved
loop-preserved c =
    let small = few_marked c.args.sheet.now c.args.text.now (store_of c.args.store.now) c.args.root c.loop.invariant.tree c.loop.invariant.finished in
    let within = c.requires.text in
    let marking = c.in_ok-marking.marking.items in
    let marked : AreMarkedPlaces c.args.sheet.now marking (lists_of c.deref-in-Some.result.now) = subst (λ (l : List (Vec ℕ Global)). AreMarkedPlaces c.args.sheet.now marking (lists_of l)) (sym c.deref-in-Some.ensures.value) (subst (λ (m : List Bool). AreMarkedPlaces c.args.sheet.now m (lists_of c.in_ok-places.places.items)) c.deref.ensures.value c.in_ok-places.ensures) in
    record {
      tree = c.loop.invariant.tree;
      finished = c.loop.invariant.finished;
      way = c.in_ok-take_part-in-Some.ensures c.args.sheet.now marking (marked_leaves c.args.sheet.now c.loop.invariant.tree) c.in_ok-marking.ensures marked (omega (arith, small, within)) (subst (λ p. IsUnderWay c.args.sheet.now c.args.text.now (store_of c.args.store.now) (marked_leaves c.args.sheet.now c.loop.invariant.tree) p c.loop.names) c.in-Some.ensures.items c.loop.invariant.way);
    }
