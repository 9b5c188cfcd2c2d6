-- A reduction that takes entries, on the code's open piece.
use Rattle.std.proofs.Common.{◌≡◌, ℕ, ◌+◌, ◌-◌, ◌<◌, ◌≤◌, List, [], ◌∷◌, ◌++◌, length, take, drop, slice_set, slice_index_or, Some, refl, sym, ap, ◌∙◌, subst, arith}
use Rattle.std.proofs.lemmas.List.{get_or_append_left, length-append, length-take, take-append-drop}
use Rattle.std.proofs.lemmas.List.Elements.{All-push}
use Rattle.std.proofs.Math.Seq.{get_or-append_seam}
use Rattle.grammar_data.specs.declared.rule.Sym.{Sym}
use Rattle.grammar_data.specs.declared.rule.Sym.TheVariants.{Name}
use Rattle.grammar_data.specs.declared.token.Token.{Token as TextToken}
use Rattle.grammar_theory.specs.Rules.{IsRule}
use Rattle.grammar_theory.proofs.Lists.{Pushed, empty, pushed, all_pushed}
use Rattle.node_data.specs.declared.kid.Kid.{Kid}
use Rattle.node_data.specs.declared.kid.Kid.TheVariants.{Node as NodeKid}
use Rattle.tree_theory.specs.Stores.{Ref, Store}
use Rattle.table_data.specs.Tables.{Tables}
use Rattle.lawful_theory.specs.Lawful.{IsLawful}
use Rattle.map_theory.specs.Maps.{StateMap}
use Rattle.map_theory.specs.Agreements.{AllReduce}
use Rattle.map_theory.specs.Relations.{IsRestricted, IsThenSymbol, IsIdentityOf}
use Rattle.piece_theory.specs.Pieces.{Held, kids_of}
use Rattle.leaf_laws.specs.Leaves.{IsLeaf, HasStart, NoneErrs}
use Rattle.leaf_laws.specs.Steps.{PutsNode, TakesSome}
use Rattle.leaf_laws.proofs.StepLemmas.{takes_some_law, takes_fresh_law}
use Rattle.segment_laws.proofs.StepLemmas.{takes_some_parsing_law}
use Rattle.node_store.specs.Chunks.{StoresNode}
use Rattle.arrow_table.specs.Looks.{HasMap, map_at}
use Rattle.segment_parser.specs.declared.leaf.Leaf.{Leaf}
use Rattle.segment_parser.specs.Working.{held_of, last_id, AreThere, IsFreshAt, was_fresh, made_fresh}
use Rattle.segment_parser.specs.Standing.{last_in, piece_in, HasMaps, IsAt, SameButEntries}
use Rattle.segment_parser.proofs.HeldLemmas.{held_push, held_parts, held_kids, front_there, last_there, length_held, last_pushed}
use Rattle.segment_parser.proofs.AtLemmas.{last_same, floors_same, leaf_as, start_as, last_map}
use Rattle.segment_parser.proofs.LookLemmas.{set_last}

-- ---- entries cut before the last ones, with one left on top

pub record IsCutAt {X : Type 0} (xs : List X) (n : ℕ) : Type 0 where
  pub low : List X
  pub on_top : X
  pub dropped : List X
  pub front : take n xs ≡ low ++ on_top ∷ []
  pub back : drop n xs ≡ dropped
  pub whole : xs ≡ (low ++ on_top ∷ []) ++ dropped
  pub before : length low + 1 ≡ n

cut_pushed : {X : Type 0} (xs : List X) (n : ℕ) → 0 < n → n ≤ length xs → Pushed (take n xs) → IsCutAt xs n
cut_pushed xs n some inside (empty none) = let count = length-take n xs in let nothing = ap length none in absurd (omega (arith, some, inside, count, nothing))
cut_pushed xs n some inside (pushed low x at) =
    let count = length-take n xs in
    let more = ap length at ∙ length-append low (x ∷ []) in
    record {
      low = low;
      on_top = x;
      dropped = drop n xs;
      front = at;
      back = refl;
      whole = sym (take-append-drop n xs) ∙ ap (λ l. l ++ drop n xs) at;
      before = omega (arith, inside, count, more);
    }

pub cut_at : {X : Type 0} (xs : List X) (n : ℕ) → 0 < n → n ≤ length xs → IsCutAt xs n
cut_at xs n some inside = cut_pushed xs n some inside (all_pushed (take n xs))

-- ---- what takes entries

-- the code has taken entries, made the last one fresh, and put the node
pub record HasTaken (t : Tables) (store new : Store) (maps : List StateMap) (s after : Leaf) (r n count : ℕ) (m : Ref) : Type 0 where
  pub same : SameButEntries s after
  pub tokens : after.count ≡ s.count
  pub node : StoresNode store new r (drop (length s.ids.items - count) s.block.kids) m
  pub kids : after.block.kids ≡ take (length s.ids.items - count) s.block.kids ++ NodeKid m ∷ []
  pub low : List ℕ
  pub fresh : IsFreshAt maps maps s.starts s.stale after.stale (length s.ids.items - count - 1) (take (length s.ids.items - count) s.ids.items) low
  pub to : ℕ
  pub ids : after.ids.items ≡ low ++ to ∷ []
  pub goes : HasMap maps to (IsThenSymbol t (Name n) (map_at maps (last_id low)))

pub puts_node : (t : Tables) (store new : Store) (r n : ℕ) (right : List Sym) (m : Ref) (kids : List Kid) (states : StateMap) → IsRule t.rules r n right → StoresNode store new r kids m → PutsNode t store new r n right m (record { kid = NodeKid m; states = states })
puts_node t store new r n right m kids states rule node = record { rule = rule; absent = node.none; others = node.others; kid = refl }

-- the entry left on top, as it is or made fresh
pub data IsTopOf (maps : List StateMap) (starts stale stale1 : ℕ) (below : List ℕ) (id : ℕ) (low : List ℕ) : Type 0 where
  same_top : stale ≤ length below → stale1 ≡ stale → low ≡ below ++ id ∷ [] → IsTopOf maps starts stale stale1 below id low
  fresh_top : (fresh : ℕ) → stale1 ≡ length below → low ≡ below ++ fresh ∷ [] → HasMap maps fresh (IsRestricted (map_at maps id) (map_at maps starts)) → IsTopOf maps starts stale stale1 below id low

pub top_of : (maps : List StateMap) (starts stale stale1 depth : ℕ) (ids low below : List ℕ) (id : ℕ) → ids ≡ below ++ id ∷ [] → depth ≡ length below → IsFreshAt maps maps starts stale stale1 depth ids low → IsTopOf maps starts stale stale1 below id low
top_of maps starts stale stale1 depth ids low below id parts at (was_fresh less same_stale same) = same_top (omega (arith, at, less)) same_stale (same ∙ parts)
top_of maps starts stale stale1 depth ids low below id parts at (made_fresh fresh less same_stale same has) =
    let place : slice_index_or ids depth 0 ≡ id = ap (λ l. slice_index_or l depth 0) parts ∙ ap (λ k. slice_index_or (below ++ id ∷ []) k 0) at ∙ get_or-append_seam below id [] 0 in
    fresh_top fresh (same_stale ∙ at) (same ∙ ap (λ l. slice_set l depth fresh) parts ∙ set_last below id fresh depth at) (subst (λ k. HasMap maps fresh (IsRestricted (map_at maps k) (map_at maps starts))) place has)

-- ---- the parse after a reduction that takes entries

pub there_front : (maps : List StateMap) (xs ys : List ℕ) → AreThere maps (xs ++ ys) → AreThere maps xs
there_front maps xs ys there k d inside =
    let count = length-append xs ys in
    subst (λ (n : ℕ). n < length maps) (get_or_append_left xs ys d k inside) (there k d (omega (arith, count, inside)))

-- the cut of the entries, for kids and map numbers alike
pub record AreCut (maps : List StateMap) (s : Leaf) (count : ℕ) : Type 0 where
  pub below : List Kid
  pub kid : Kid
  pub dropped : List Kid
  pub low : List ℕ
  pub id : ℕ
  pub others : List ℕ
  pub kids_front : take (length s.ids.items - count) s.block.kids ≡ below ++ kid ∷ []
  pub kids_back : drop (length s.ids.items - count) s.block.kids ≡ dropped
  pub ids_front : take (length s.ids.items - count) s.ids.items ≡ low ++ id ∷ []
  pub ids_whole : s.ids.items ≡ (low ++ id ∷ []) ++ others
  pub even : length below ≡ length low
  pub even_dropped : length dropped ≡ length others
  pub many : length others ≡ count
  pub depth : length s.ids.items - count - 1 ≡ length low
  pub stack : held_of maps s.block.kids s.ids.items ≡ (held_of maps below low ++ record { kid = kid; states = map_at maps id } ∷ []) ++ held_of maps dropped others

pub cut_entries : (maps : List StateMap) (s : Leaf) (count : ℕ) → count < length s.ids.items → length s.block.kids ≡ length s.ids.items → AreCut maps s count
cut_entries maps s count less even =
    let k = length s.ids.items - count in
    let ids = cut_at s.ids.items k (omega (arith, less)) (omega arith) in
    let kids = cut_at s.block.kids k (omega (arith, less)) (omega (arith, even)) in
    let same : length kids.low ≡ length ids.low = let a = ids.before in let b = kids.before in omega (arith, a, b) in
    let id_count = ap length ids.whole ∙ length-append (ids.low ++ ids.on_top ∷ []) ids.dropped in
    let id_front = length-append ids.low (ids.on_top ∷ []) in
    let kid_count = ap length kids.whole ∙ length-append (kids.low ++ kids.on_top ∷ []) kids.dropped in
    let kid_front = length-append kids.low (kids.on_top ∷ []) in
    let place = ids.before in
    let fronts : length (kids.low ++ kids.on_top ∷ []) ≡ length (ids.low ++ ids.on_top ∷ []) = omega (arith, id_front, kid_front, same) in
    record {
      below = kids.low;
      kid = kids.on_top;
      dropped = kids.dropped;
      low = ids.low;
      id = ids.on_top;
      others = ids.dropped;
      kids_front = kids.front;
      kids_back = kids.back;
      ids_front = ids.front;
      ids_whole = ids.whole;
      even = same;
      even_dropped = omega (arith, id_count, id_front, kid_count, kid_front, same, even);
      many = omega (arith, id_count, id_front, place, less);
      depth = omega (arith, place);
      stack = (λ i. held_of maps (kids.whole i) (ids.whole i)) ∙ held_parts maps (kids.low ++ kids.on_top ∷ []) kids.dropped (ids.low ++ ids.on_top ∷ []) ids.dropped fronts ∙ ap (λ l. l ++ held_of maps kids.dropped ids.dropped) (held_push maps kids.low ids.low kids.on_top ids.on_top same);
    }

-- what the code has done, as a step of a piece that grows
pub record IsTaken (t : Tables) (store new : Store) (maps : List StateMap) (s after : Leaf) (r n : ℕ) (right : List Sym) (m : Ref) (low taken : List Held) (top fresh held : Held) : Type 0 where
  pub has : HasMaps maps after
  pub puts : PutsNode t store new r n right m held
  pub takes : TakesSome t new (piece_in maps s) (piece_in maps after) r n right m low taken top fresh held

-- with the entry on top as it is or made fresh, `x` being the number of its map
pub is_taken : (t : Tables) (store new : Store) (maps : List StateMap) (s after : Leaf) (r n count x : ℕ) (right : List Sym) (m : Ref) → HasMaps maps s → IsRule t.rules r n right → count ≡ length right → (taken : HasTaken t store new maps s after r n count m) (cut : AreCut maps s count) → taken.low ≡ cut.low ++ x ∷ [] → x < length maps
    → IsTaken t store new maps s after r n right m (held_of maps cut.below cut.low) (held_of maps cut.dropped cut.others) (record { kid = cut.kid; states = map_at maps cut.id }) (record { kid = cut.kid; states = map_at maps x }) (record { kid = NodeKid m; states = map_at maps taken.to })
is_taken t store new maps s after r n count x right m has rule sized taken cut same_low inside =
    let top : Held = record { kid = cut.kid; states = map_at maps cut.id } in
    let fresh : Held = record { kid = cut.kid; states = map_at maps x } in
    let held : Held = record { kid = NodeKid m; states = map_at maps taken.to } in
    let low = held_of maps cut.below cut.low in
    let kids : after.block.kids ≡ (cut.below ++ cut.kid ∷ []) ++ NodeKid m ∷ [] = taken.kids ∙ ap (λ l. l ++ NodeKid m ∷ []) cut.kids_front in
    let ids : after.ids.items ≡ (cut.low ++ x ∷ []) ++ taken.to ∷ [] = taken.ids ∙ ap (λ l. l ++ taken.to ∷ []) same_low in
    let fronts : length (cut.below ++ cut.kid ∷ []) ≡ length (cut.low ++ x ∷ []) = let a = length-append cut.below (cut.kid ∷ []) in let b = length-append cut.low (x ∷ []) in let e = cut.even in omega (arith, a, b, e) in
    let stack : (piece_in maps after).stack ≡ (low ++ fresh ∷ []) ++ held ∷ [] = (λ i. held_of maps (kids i) (ids i)) ∙ held_push maps (cut.below ++ cut.kid ∷ []) (cut.low ++ x ∷ []) (NodeKid m) taken.to fronts ∙ ap (λ l. l ++ held ∷ []) (held_push maps cut.below cut.low cut.kid x cut.even) in
    let kid_list : drop (length s.ids.items - count) s.block.kids ≡ kids_of (held_of maps cut.dropped cut.others) = cut.kids_back ∙ sym (held_kids maps cut.dropped cut.others cut.even_dropped) in
    let goes : IsThenSymbol t (Name n) (map_at maps x) (map_at maps taken.to) = subst (λ k. IsThenSymbol t (Name n) (map_at maps k) (map_at maps taken.to)) (ap last_id same_low ∙ last_pushed cut.low x) taken.goes.is in
    let front : AreThere maps cut.low = front_there maps cut.low cut.id (there_front maps (cut.low ++ cut.id ∷ []) cut.others (subst (λ l. AreThere maps l) cut.ids_whole has.there)) in
    let there : AreThere maps ((cut.low ++ x ∷ []) ++ taken.to ∷ []) = All-push {X = ℕ} (λ id. id < length maps) (cut.low ++ x ∷ []) taken.to (All-push {X = ℕ} (λ id. id < length maps) cut.low x front inside) taken.goes.within in
    record {
      has = record {
        even = (let a = ap length kids ∙ length-append (cut.below ++ cut.kid ∷ []) (NodeKid m ∷ []) in let b = ap length ids ∙ length-append (cut.low ++ x ∷ []) (taken.to ∷ []) in omega (arith, a, b, fronts));
        there = subst (λ l. AreThere maps l) (sym ids) there;
        starts = subst (λ (k : ℕ). k < length maps) (sym taken.same.starts) has.starts;
        own = subst (λ (k : ℕ). HasMap maps k (IsIdentityOf (map_at maps after.starts))) (sym taken.same.own) (subst (λ (k : ℕ). HasMap maps s.own (IsIdentityOf (map_at maps k))) (sym taken.same.starts) has.own);
      };
      puts = puts_node t store new r n right m (drop (length s.ids.items - count) s.block.kids) (map_at maps taken.to) rule taken.node;
      takes = record {
        first = taken.same.first;
        floors = floors_same maps s after taken.same;
        parts = cut.stack;
        stack = stack;
        count = length_held maps cut.dropped cut.others cut.even_dropped ∙ cut.many ∙ sized;
        node = taken.node.some ∙ ap (λ l. Some (r, l)) kid_list;
        map = goes;
      };
    }

took_at : (t : Tables) (store new : Store) (maps : List StateMap) (s after : Leaf) (tokens w rest : List TextToken) (token : TextToken) (r n count x : ℕ) (right : List Sym) (m : Ref) (at : IsAt t store maps s tokens w rest (token ∷ [])) → IsRule t.rules r n right → count ≡ length right → (taken : HasTaken t store new maps s after r n count m) (cut : AreCut maps s count) → taken.low ≡ cut.low ++ x ∷ [] → x < length maps
    → (TakesSome t new (piece_in maps s) (piece_in maps after) r n right m (held_of maps cut.below cut.low) (held_of maps cut.dropped cut.others) (record { kid = cut.kid; states = map_at maps cut.id }) (record { kid = cut.kid; states = map_at maps x }) (record { kid = NodeKid m; states = map_at maps taken.to })
    → PutsNode t store new r n right m (record { kid = NodeKid m; states = map_at maps taken.to })
    → IsLeaf t new (piece_in maps after) w (token ∷ []) s.block.floors (last_in maps s) (held_of maps cut.below cut.low ++ record { kid = cut.kid; states = map_at maps x } ∷ []) (record { kid = NodeKid m; states = map_at maps taken.to }) after.stale × HasStart t (piece_in maps after) w (last_in maps s))
    → IsAt t new maps after tokens w rest (token ∷ []) × HasStart t (piece_in maps after) w (last_in maps after)
took_at t store new maps s after tokens w rest token r n count x right m at rule sized taken cut same_low inside law =
    let top : Held = record { kid = cut.kid; states = map_at maps cut.id } in
    let fresh : Held = record { kid = cut.kid; states = map_at maps x } in
    let held : Held = record { kid = NodeKid m; states = map_at maps taken.to } in
    let low = held_of maps cut.below cut.low in
    let took : IsTaken t store new maps s after r n right m low (held_of maps cut.dropped cut.others) top fresh held = is_taken t store new maps s after r n count x right m at.has rule sized taken cut same_low inside in
    let leaf = law took.takes took.puts in
    let last = sym (last_same maps s after taken.same) in (
      record {
        has = took.has;
        closed = at.closed;
        same = taken.same.closed ∙ at.same;
        parsing = takes_some_parsing_law t store new tokens at.closed (piece_in maps s) (piece_in maps after) w rest r n right m low (held_of maps cut.dropped cut.others) top fresh held at.parsing took.puts took.takes refl taken.tokens;
        under = low ++ fresh ∷ [];
        last = held;
        leaf = leaf_as refl (sym taken.same.floors) last refl leaf.0;
      },
      start_as refl last leaf.1,
    )

pub takes_some_at : (t : Tables) → IsLawful t → (store new : Store) (maps : List StateMap) (s after : Leaf) (tokens w rest : List TextToken) (token : TextToken) (r n count : ℕ) (right : List Sym) (m : Ref) → IsAt t store maps s tokens w rest (token ∷ []) → NoneErrs t token.id (map_at maps (last_id s.ids.items)) → AllReduce t token.id r (map_at maps (last_id s.ids.items)) → IsRule t.rules r n right → count ≡ length right → count < length s.ids.items → HasTaken t store new maps s after r n count m
    → IsAt t new maps after tokens w rest (token ∷ []) × HasStart t (piece_in maps after) w (last_in maps after)
takes_some_at t lawful store new maps s after tokens w rest token r n count right m at none all rule sized less taken = cases (cut_entries maps s count less at.has.even)
  where
    map : map_at maps (last_id s.ids.items) ≡ at.last.states
    map = last_map at

    none_errs : NoneErrs t token.id at.last.states
    none_errs = subst (λ l. NoneErrs t token.id l) map none

    all_reduce : AllReduce t token.id r at.last.states
    all_reduce = subst (λ l. AllReduce t token.id r l) map all

    by_top : (cut : AreCut maps s count) → IsTopOf maps s.starts s.stale after.stale cut.low cut.id taken.low → IsAt t new maps after tokens w rest (token ∷ []) × HasStart t (piece_in maps after) w (last_in maps after)
    by_top cut (same_top less same_stale same_low) =
        let inside : cut.id < length maps = last_there maps cut.low cut.id (there_front maps (cut.low ++ cut.id ∷ []) cut.others (subst (λ l. AreThere maps l) cut.ids_whole at.has.there)) in
        took_at t store new maps s after tokens w rest token r n count cut.id right m at rule sized taken cut same_low inside (λ takes puts.
        let low = held_of maps cut.below cut.low in
        let deep : length low ≡ length cut.low = length_held maps cut.below cut.low cut.even in
        let leaf = takes_fresh_law t lawful store new (piece_in maps s) (piece_in maps after) w token s.block.floors (last_in maps s) at.under at.last s.stale r n right m low (held_of maps cut.dropped cut.others) (record { kid = cut.kid; states = map_at maps cut.id }) (record { kid = NodeKid m; states = map_at maps taken.to }) at.leaf none_errs all_reduce puts takes (omega (arith, deep, less)) in
        (leaf_as refl refl refl (sym same_stale) leaf.0, leaf.1))
    by_top cut (fresh_top x same_stale same_low has) =
        took_at t store new maps s after tokens w rest token r n count x right m at rule sized taken cut same_low has.within (λ takes puts.
        let low = held_of maps cut.below cut.low in
        let deep : length low ≡ length cut.low = length_held maps cut.below cut.low cut.even in
        let leaf = takes_some_law t lawful store new (piece_in maps s) (piece_in maps after) w token s.block.floors (last_in maps s) at.under at.last s.stale r n right m low (held_of maps cut.dropped cut.others) (record { kid = cut.kid; states = map_at maps cut.id }) (record { kid = cut.kid; states = map_at maps x }) (record { kid = NodeKid m; states = map_at maps taken.to }) at.leaf none_errs all_reduce puts takes (record { kid = refl; states = has.is }) in
        (leaf_as refl refl refl (deep ∙ sym same_stale) leaf.0, leaf.1))

    cases : AreCut maps s count → IsAt t new maps after tokens w rest (token ∷ []) × HasStart t (piece_in maps after) w (last_in maps after)
    cases cut = by_top cut (top_of maps s.starts s.stale after.stale (length s.ids.items - count - 1) (take (length s.ids.items - count) s.ids.items) taken.low cut.low cut.id cut.ids_front cut.depth taken.fresh)
