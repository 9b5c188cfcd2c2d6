-- A reduction that takes all entries, or all and more, on the code's open piece.
use Rattle.std.proofs.Common.{◌≡◌, ℕ, ◌+◌, ◌<◌, if◌then◌else◌, List, [], ◌∷◌, ◌++◌, length, take, replicate, slice_get, Option, Some, None, refl, sym, ap, ◌∙◌, subst, arith}
use Rattle.std.specs.Prelude.{is_some, option_and_then}
use Rattle.std.proofs.lemmas.List.Elements.{All-cons, All-nil}
use Rattle.grammar_data.specs.declared.rule.Sym.{Sym}
use Rattle.grammar_data.specs.declared.rule.Sym.TheVariants.{Name}
use Rattle.grammar_data.specs.declared.token.Token.{Token as TextToken}
use Rattle.grammar_theory.specs.Rules.{IsRule}
use Rattle.node_data.specs.declared.kid.Kid.TheVariants.{Node as NodeKid, Hidden}
use Rattle.tree_theory.specs.Stores.{Ref, Store}
use Rattle.table_data.specs.Tables.{Tables, step_by}
use Rattle.lawful_theory.specs.Lawful.{IsLawful}
use Rattle.map_theory.specs.Maps.{StateMap, target, IsMapOf}
use Rattle.map_theory.specs.Agreements.{AllReduce}
use Rattle.map_theory.specs.Relations.{IsBack, IsThenSymbol, IsIdentityOf}
use Rattle.piece_theory.specs.Pieces.{Opened, Held}
use Rattle.piece_theory.specs.Applies.{right_side}
use Rattle.piece_theory.specs.WellMade.{start_of}
use Rattle.context_laws.specs.Contexts.{LeadFromStates}
use Rattle.level_laws.proofs.LevelLemmas.{leading_law}
use Rattle.leaf_laws.specs.Leaves.{HasStart, NoneErrs}
use Rattle.leaf_laws.specs.Steps.{PutsNode, TakesAll, OpensFloor}
use Rattle.leaf_laws.proofs.StepLemmas.{takes_all_law, opens_floor_law}
use Rattle.segment_laws.proofs.StepLemmas.{takes_all_parsing_law, opens_floor_parsing_law}
use Rattle.node_store.specs.Chunks.{StoresNode}
use Rattle.arrow_table.specs.Looks.{HasMap, map_at}
use Rattle.segment_parser.specs.declared.leaf.Leaf.{Leaf}
use Rattle.segment_parser.specs.Working.{held_of, last_id, AreThere}
use Rattle.segment_parser.specs.Standing.{last_in, piece_in, HasMaps, IsAt, SameButEntries}
use Rattle.segment_parser.proofs.HeldLemmas.{held_kids, length_held}
use Rattle.segment_parser.proofs.AtLemmas.{last_same, floors_same, leaf_as, start_as, last_map}
use Rattle.segment_parser.proofs.TakeLemmas.{puts_node}

-- along a symbol from the starts of a map themselves
own_goes : (t : Tables) (x : Sym) (m own to : StateMap) → IsIdentityOf m own → IsThenSymbol t x own to → IsMapOf (λ q. option_and_then (λ z. step_by t z x) (start_of m q)) to
own_goes t x m own to is goes = record {
  rising = goes.rising;
  targets = λ q. goes.targets q ∙ ap (λ o. option_and_then (λ z. step_by t z x) o) (is.targets q ∙ same q (target m q));
}
  where
    same : (q : ℕ) (o : Option ℕ) → (if is_some o then Some q else None) ≡ option_and_then (λ (p : ℕ). Some q) o
    same q (Some p) = refl
    same q None = refl

one_there : (maps : List StateMap) (id : ℕ) → id < length maps → AreThere maps (id ∷ [])
one_there maps id inside = All-cons {X = ℕ} (λ n. n < length maps) id [] inside (All-nil {X = ℕ} (λ n. n < length maps))

-- ---- all entries

pub record HasTakenAll (t : Tables) (store new : Store) (maps : List StateMap) (s after : Leaf) (r n : ℕ) (m : Ref) : Type 0 where
  pub same : SameButEntries s after
  pub tokens : after.count ≡ s.count
  pub node : StoresNode store new r s.block.kids m
  pub kids : after.block.kids ≡ NodeKid m ∷ []
  pub to : ℕ
  pub ids : after.ids.items ≡ to ∷ []
  pub stale : after.stale ≡ 0
  pub goes : HasMap maps to (IsThenSymbol t (Name n) (map_at maps s.own))

-- as a step of a piece that grows
pub record IsTakenAll (t : Tables) (store new : Store) (maps : List StateMap) (s after : Leaf) (r n : ℕ) (right : List Sym) (m : Ref) (held : Held) : Type 0 where
  pub has : HasMaps maps after
  pub puts : PutsNode t store new r n right m held
  pub takes : TakesAll t new (piece_in maps s) (piece_in maps after) (last_in maps s) r n right m held

pub is_taken_all : (t : Tables) (store new : Store) (maps : List StateMap) (s after : Leaf) (r n : ℕ) (right : List Sym) (m : Ref) → HasMaps maps s → IsRule t.rules r n right → length s.ids.items ≡ length right → (taken : HasTakenAll t store new maps s after r n m)
    → IsTakenAll t store new maps s after r n right m (record { kid = NodeKid m; states = map_at maps taken.to })
is_taken_all t store new maps s after r n right m has rule sized taken = record {
  has = record {
    even = ap length taken.kids ∙ sym (ap length taken.ids);
    there = subst (λ l. AreThere maps l) (sym taken.ids) (one_there maps taken.to taken.goes.within);
    starts = subst (λ (k : ℕ). k < length maps) (sym taken.same.starts) has.starts;
    own = subst (λ (k : ℕ). HasMap maps k (IsIdentityOf (map_at maps after.starts))) (sym taken.same.own) (subst (λ (k : ℕ). HasMap maps s.own (IsIdentityOf (map_at maps k))) (sym taken.same.starts) has.own);
  };
  puts = puts_node t store new r n right m s.block.kids (map_at maps taken.to) rule taken.node;
  takes = record {
    first = taken.same.first;
    floors = floors_same maps s after taken.same;
    stack = λ i. held_of maps (taken.kids i) (taken.ids i);
    count = length_held maps s.block.kids s.ids.items has.even ∙ sized;
    node = taken.node.some ∙ ap (λ l. Some (r, l)) (sym (held_kids maps s.block.kids s.ids.items has.even));
    map = own_goes t (Name n) (map_at maps s.starts) (map_at maps s.own) (map_at maps taken.to) has.own.is taken.goes.is;
  };
}

pub takes_all_at : (t : Tables) → IsLawful t → (store new : Store) (maps : List StateMap) (s after : Leaf) (tokens w rest : List TextToken) (token : TextToken) (r n : ℕ) (right : List Sym) (m : Ref) → IsAt t store maps s tokens w rest (token ∷ []) → NoneErrs t token.id (map_at maps (last_id s.ids.items)) → AllReduce t token.id r (map_at maps (last_id s.ids.items)) → IsRule t.rules r n right → length s.ids.items ≡ length right → HasTakenAll t store new maps s after r n m
    → IsAt t new maps after tokens w rest (token ∷ []) × HasStart t (piece_in maps after) w (last_in maps after)
takes_all_at t lawful store new maps s after tokens w rest token r n right m at none all rule sized taken =
    let map = last_map at in
    let held : Held = record { kid = NodeKid m; states = map_at maps taken.to } in
    let took : IsTakenAll t store new maps s after r n right m held = is_taken_all t store new maps s after r n right m at.has rule sized taken in
    let leaf = takes_all_law t lawful store new (piece_in maps s) (piece_in maps after) w token s.block.floors (last_in maps s) at.under at.last s.stale r n right m held at.leaf (subst (λ l. NoneErrs t token.id l) map none) (subst (λ l. AllReduce t token.id r l) map all) took.puts took.takes in
    let last = sym (last_same maps s after taken.same) in (
      record {
        has = took.has;
        closed = at.closed;
        same = taken.same.closed ∙ at.same;
        parsing = takes_all_parsing_law t store new tokens at.closed (piece_in maps s) (piece_in maps after) w rest (last_in maps s) r n right m held at.parsing took.puts took.takes taken.tokens;
        under = [];
        last = held;
        leaf = leaf_as refl (sym taken.same.floors) last (sym taken.stale) leaf.0;
      },
      start_as refl last leaf.1,
    )

-- ---- all entries and more

pub record HasRaised (t : Tables) (store new : Store) (maps : List StateMap) (s after : Leaf) (r n hidden : ℕ) (right : List Sym) (m : Ref) : Type 0 where
  pub floors : after.block.floors ≡ s.block.floors ++ last_in maps s ∷ []
  pub closed : after.block.closed ≡ s.block.closed
  pub faults : after.faults ≡ []
  pub opened : after.opened ≡ Some (record { rule = r; hidden = hidden; node = m })
  pub back : HasMap maps after.starts (IsBack t (take hidden right) (map_at maps s.starts))
  pub own : HasMap maps after.own (IsIdentityOf (map_at maps after.starts))
  pub first : after.first ≡ s.first
  pub tokens : after.count ≡ s.count
  pub node : StoresNode store new r (replicate hidden Hidden ++ s.block.kids) m
  pub kids : after.block.kids ≡ NodeKid m ∷ []
  pub to : ℕ
  pub ids : after.ids.items ≡ to ∷ []
  pub stale : after.stale ≡ 0
  pub goes : HasMap maps to (IsThenSymbol t (Name n) (map_at maps after.own))

-- as a step of a piece that grows
pub record IsRaised (t : Tables) (store new : Store) (maps : List StateMap) (s after : Leaf) (r n hidden : ℕ) (right : List Sym) (m : Ref) (held : Held) : Type 0 where
  pub has : HasMaps maps after
  pub puts : PutsNode t store new r n right m held
  pub opens : OpensFloor t new (piece_in maps s) (piece_in maps after) (last_in maps s) (last_in maps after) r n hidden right m held

pub is_raised : (t : Tables) (store new : Store) (maps : List StateMap) (s after : Leaf) (r n hidden : ℕ) (right : List Sym) (m : Ref) → HasMaps maps s → IsRule t.rules r n right → 0 < hidden → hidden + length s.ids.items ≡ length right → (raised : HasRaised t store new maps s after r n hidden right m)
    → IsRaised t store new maps s after r n hidden right m (record { kid = NodeKid m; states = map_at maps raised.to })
is_raised t store new maps s after r n hidden right m has rule some sized raised =
    let opened : Opened = record { rule = r; hidden = hidden; node = m } in
    let g = last_in maps after in
    let back : IsBack t (take hidden (right_side (slice_get t.rules r))) (map_at maps s.starts) (map_at maps after.starts) = subst (λ o. IsBack t (take hidden (right_side o)) (map_at maps s.starts) (map_at maps after.starts)) (sym rule.found) raised.back.is in
    let stack_count = length_held maps s.block.kids s.ids.items has.even in
    record {
      has = record {
        even = ap length raised.kids ∙ sym (ap length raised.ids);
        there = subst (λ l. AreThere maps l) (sym raised.ids) (one_there maps raised.to raised.goes.within);
        starts = raised.back.within;
        own = raised.own;
      };
      puts = puts_node t store new r n right m (replicate hidden Hidden ++ s.block.kids) (map_at maps raised.to) rule raised.node;
      opens = record {
        first = raised.first;
        floors = ap (λ l. l ++ g ∷ []) raised.floors;
        opened = raised.opened;
        no_faults = raised.faults;
        starts = leading_law t opened (map_at maps s.starts) (map_at maps after.starts) back;
        stack = λ i. held_of maps (raised.kids i) (raised.ids i);
        some = some;
        count = omega (arith, sized, stack_count);
        node = raised.node.some ∙ ap (λ l. Some (r, replicate hidden Hidden ++ l)) (sym (held_kids maps s.block.kids s.ids.items has.even));
        map = own_goes t (Name n) (map_at maps after.starts) (map_at maps after.own) (map_at maps raised.to) raised.own.is raised.goes.is;
      };
    }

pub floor_at : (t : Tables) → IsLawful t → LeadFromStates t → (store new : Store) (maps : List StateMap) (s after : Leaf) (tokens w rest : List TextToken) (token : TextToken) (r n hidden : ℕ) (right : List Sym) (m : Ref) → IsAt t store maps s tokens w rest (token ∷ []) → NoneErrs t token.id (map_at maps (last_id s.ids.items)) → AllReduce t token.id r (map_at maps (last_id s.ids.items)) → IsRule t.rules r n right → 0 < hidden → hidden + length s.ids.items ≡ length right → HasRaised t store new maps s after r n hidden right m
    → IsAt t new maps after tokens w rest (token ∷ []) × HasStart t (piece_in maps after) w (last_in maps after)
floor_at t lawful lead store new maps s after tokens w rest token r n hidden right m at none all rule some sized raised =
    let map = last_map at in
    let held : Held = record { kid = NodeKid m; states = map_at maps raised.to } in
    let p = piece_in maps s in
    let g = last_in maps after in
    let up : IsRaised t store new maps s after r n hidden right m held = is_raised t store new maps s after r n hidden right m at.has rule some sized raised in
    let leaf = opens_floor_law t lawful lead store new p (piece_in maps after) w token s.block.floors (last_in maps s) g at.under at.last s.stale r n hidden right m held at.leaf (subst (λ l. NoneErrs t token.id l) map none) (subst (λ l. AllReduce t token.id r l) map all) up.puts up.opens in (
      record {
        has = up.has;
        closed = at.closed;
        same = raised.closed ∙ at.same;
        parsing = opens_floor_parsing_law t store new tokens at.closed p (piece_in maps after) w rest (last_in maps s) g r n hidden right m held at.parsing up.puts up.opens raised.tokens;
        under = [];
        last = held;
        leaf = leaf_as refl (sym raised.floors) refl (sym raised.stale) leaf.0;
      },
      leaf.1,
    )
