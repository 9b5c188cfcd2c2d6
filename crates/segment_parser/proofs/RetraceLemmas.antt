-- Maps over entries that are found again, on the code's open piece.
use Rattle.std.proofs.Common.{◌≡◌, ℕ, ◌+◌, ◌-◌, ◌<◌, ◌≤◌, if◌then◌else◌, List, [], ◌∷◌, ◌++◌, length, take, drop, All, Option, Some, None, slice_index_or, append_assoc, refl, sym, ap, ◌∙◌, subst, arith}
use Rattle.std.specs.Prelude.{is_some, option_and_then, slice_range, IfOk, Result, Ok, Err}
use Rattle.std.proofs.lemmas.List.{get_or_append_left, length-append, length-take, length-drop, take-append-drop, drop-drop}
use Rattle.std.proofs.lemmas.List.Elements.{All-append, All-nil, All-cons}
use Rattle.std.proofs.Math.Seq.{get_or-append_seam, get_or-append_right}
use Rattle.grammar_data.specs.declared.token.Token.{Token as TextToken}
use Rattle.grammar_theory.proofs.Lists.{Pushed, empty, pushed, all_pushed}
use Rattle.node_data.specs.declared.kid.Kid.{Kid}
use Rattle.tree_theory.specs.Stores.{Ref, Store}
use Rattle.tree_theory.specs.Walks.{Step}
use Rattle.table_data.specs.Tables.{Tables}
use Rattle.map_theory.specs.Maps.{StateMap, target}
use Rattle.map_theory.specs.Relations.{IsRestricted, IsIdentityOf}
use Rattle.piece_theory.specs.Pieces.{Floor, Held, Piece, openings, kids_of}
use Rattle.piece_theory.specs.Lists.{ArePieces, nodes_of_floors}
use Rattle.piece_theory.specs.WellMade.{start_of, AreSteps}
use Rattle.level_laws.specs.Growing.{FollowOn, follow_none, follow, IsGrowing}
use Rattle.walk_laws.specs.Walked.{IsWalked}
use Rattle.walk_laws.proofs.StepLemmas.{looked_walk_law}
use Rattle.segment_laws.specs.Parsing.{IsParsing}
use Rattle.retrace_laws.specs.Retraced.{HaveSameKids, no_kids, same_kids, IsRetraced}
use Rattle.retrace_laws.proofs.RetraceLemmas.{retraced_maps_law, retraced_leaf_law, retraced_open_law}
use Rattle.arrow_table.specs.Looks.{Grows, HasMap, map_at}
use Rattle.segment_parser.specs.declared.leaf.Leaf.{Leaf}
use Rattle.segment_parser.specs.Working.{held_of, last_id, AreThere}
use Rattle.segment_parser.specs.Standing.{last_in, piece_in, HasMaps, IsAt, SameButEntries}
use Rattle.segment_parser.specs.Opening.{IsOpenIn}
use Rattle.segment_parser.specs.Entering.{over_all, AreEntered, IsKnown}
use Rattle.segment_parser.specs.Retracing.{IsOver, IsRewritten}
use Rattle.segment_parser.specs.Numbers.{AreFrom, Stands}
use Rattle.segment_parser.proofs.HeldLemmas.{held_grows, held_parts, held_push, held_kids, last_pushed, length_held, stays_at}
use Rattle.segment_parser.proofs.AtLemmas.{at_grows, floors_same, last_same, leaf_as, has_more}
use Rattle.segment_parser.proofs.OpenLemmas.{open_as, open_grows}
use Rattle.segment_parser.proofs.TakeLemmas.{IsCutAt, cut_at, there_front}
use Rattle.segment_parser.proofs.EnterLemmas.{over_push}

-- ---- kids that follow on have symbols

pub follow_known : {t : Tables} {store : Store} {alive : StateMap} {from : ℕ → Option ℕ} {hs : List Held} → FollowOn t store alive from hs → All (IsKnown t.rules store) (kids_of hs)
follow_known {t} {store} follow_none = All-nil (IsKnown t.rules store)
follow_known {t} {store} (follow {h = h} {hs = hs} x symbol rising at more) = All-cons (IsKnown t.rules store) h.kid (kids_of hs) (x, symbol) (follow_known more)

pub leaf_known : {t : Tables} {store : Store} (maps : List StateMap) (s : Leaf) → length s.block.kids ≡ length s.ids.items → {lower : List Floor} {f : Floor} {under : List Held} {h : Held} {stale : ℕ} → IsGrowing t store (piece_in maps s) lower f under h stale → All (IsKnown t.rules store) s.block.kids
leaf_known {t} {store} maps s even growing = subst (λ l. All (IsKnown t.rules store) l) (held_kids maps s.block.kids s.ids.items even) (follow_known growing.maps)

-- ---- the map over the first entries

-- what is known of the value, if there is one
pub of_value : {T E : Type 0} (r : Result T E) (P Q : T → Type 0) → ((v : T) → P v → Q v) → IfOk r P → IfOk r Q
of_value (Ok v) P Q leads is = leads v is
of_value (Err e) P Q leads is = is

start_alive : (o : Option ℕ) (q : ℕ) → (if is_some o then Some q else None) ≡ (if is_some o then option_and_then (λ (p : ℕ). Some q) o else None)
start_alive None q = refl
start_alive (Some p) q = refl

pub over_none : (maps : List StateMap) (s : Leaf) (first : ℕ) → HasMaps maps s → first ≡ 0 → IsOver maps maps s first s.own
over_none maps s first has none = subst (λ (n : ℕ). IsOver maps maps s n s.own) (sym none) (record {
  within = has.own.within;
  targets = λ q. has.own.is.targets q ∙ start_alive (target (map_at maps s.starts) q) q;
})

at_place : (low : List ℕ) (x : ℕ) (others : List ℕ) → slice_index_or ((low ++ x ∷ []) ++ others) (length low) 0 ≡ x
at_place low x others =
    let count = length-append low (x ∷ []) in
    get_or_append_left (low ++ x ∷ []) others 0 (length low) (omega (arith, count)) ∙ get_or-append_seam low x [] 0

over_by : (maps new : List StateMap) (s : Leaf) (first to : ℕ) → (ids : IsCutAt s.ids.items first) (kids : IsCutAt s.block.kids first) → HasMap new to (IsRestricted (map_at maps (slice_index_or s.ids.items (first - 1) 0)) (map_at maps s.starts)) → IsOver maps new s first to
over_by maps new s first to ids kids has =
    let before = ids.before in
    let before1 = kids.before in
    let even : length kids.low ≡ length ids.low = omega (arith, before, before1) in
    let place : first - 1 ≡ length ids.low = omega (arith, before) in
    let here : slice_index_or s.ids.items (first - 1) 0 ≡ ids.on_top = ap (λ (k : ℕ). slice_index_or s.ids.items k 0) place ∙ ap (λ (l : List ℕ). slice_index_or l (length ids.low) 0) ids.whole ∙ at_place ids.low ids.on_top ids.dropped in
    let held : held_of maps (take first s.block.kids) (take first s.ids.items) ≡ held_of maps kids.low ids.low ++ record { kid = kids.on_top; states = map_at maps ids.on_top } ∷ [] = (λ i. held_of maps (kids.front i) (ids.front i)) ∙ held_push maps kids.low ids.low kids.on_top ids.on_top even in
    let alive = map_at maps s.starts in
    record {
      within = has.within;
      targets = λ q.
          has.is.targets q
          ∙ ap (λ (k : ℕ). if is_some (target alive q) then target (map_at maps k) q else None) here
          ∙ ap (λ (o : Option ℕ). if is_some (target alive q) then o else None) (sym (ap (λ l. over_all (start_of alive) l q) held ∙ over_push (start_of alive) (held_of maps kids.low ids.low) (record { kid = kids.on_top; states = map_at maps ids.on_top }) q));
    }

pub over_some : (maps new : List StateMap) (s : Leaf) (first to : ℕ) → HasMaps maps s → 0 < first → first ≤ length s.ids.items → HasMap new to (IsRestricted (map_at maps (slice_index_or s.ids.items (first - 1) 0)) (map_at maps s.starts)) → IsOver maps new s first to
over_some maps new s first to has some inside is = let even = has.even in over_by maps new s first to (cut_at s.ids.items first some inside) (cut_at s.block.kids first some (omega (arith, inside, even))) is

-- ---- numbers in the place of others

-- a list in three parts
three_parts : {X : Type 0} (xs : List X) (i j : ℕ) → i ≤ j → xs ≡ take i xs ++ (slice_range xs i j ++ drop j xs)
three_parts xs i j less =
    let there : i + (j - i) ≡ j = omega (arith, less) in
    let behind : drop i xs ≡ slice_range xs i j ++ drop j xs = sym (take-append-drop (j - i) (drop i xs)) ∙ ap (λ l. slice_range xs i j ++ l) (drop-drop (j - i) i xs ∙ ap (λ (k : ℕ). drop k xs) there) in
    sym (take-append-drop i xs) ∙ ap (λ l. take i xs ++ l) behind

pub length-range : {X : Type 0} (xs : List X) (i j : ℕ) → i ≤ j → j ≤ length xs → length (slice_range xs i j) ≡ j - i
length-range xs i j less inside =
    let one = length-take (j - i) (drop i xs) in
    let two = length-drop i xs in
    omega (arith, one, two, less, inside)

pub is_rewritten : (t : Tables) (store : Store) (maps mid new : List StateMap) (s : Leaf) (first depth from : ℕ) (kids : List Kid) (fresh again : List ℕ) → HasMaps maps s → first ≤ depth → depth + 1 < length s.ids.items → IsOver maps mid s first from → kids ≡ slice_range s.block.kids first (depth + 1) → AreEntered t store (target (map_at mid from)) new kids fresh → again ≡ take first s.ids.items ++ (fresh ++ drop (first + length fresh) s.ids.items) → IsRewritten t store maps new s again
is_rewritten t store maps mid new s first depth from kids fresh again has less deep over kids_are entered same =
    let even = has.even in
    let passed = length-range s.block.kids first (depth + 1) (omega (arith, less)) (omega (arith, deep, even)) in
    let passed_ids = length-range s.ids.items first (depth + 1) (omega (arith, less)) (omega (arith, deep)) in
    let counted = entered.even in
    let are = ap length kids_are in
    let end : first + length fresh ≡ depth + 1 = omega (arith, counted, are, passed, less) in
    let low_kids = length-take first s.block.kids in
    let low_ids = length-take first s.ids.items in
    let left = length-drop (depth + 1) s.ids.items in
    record {
      below = take first s.block.kids;
      passed = slice_range s.block.kids first (depth + 1);
      above = drop (depth + 1) s.block.kids;
      kids = three_parts s.block.kids first (depth + 1) (omega (arith, less));
      low = take first s.ids.items;
      old = slice_range s.ids.items first (depth + 1);
      fresh = fresh;
      rest = drop (depth + 1) s.ids.items;
      ids = three_parts s.ids.items first (depth + 1) (omega (arith, less));
      ids_again = same ∙ ap (λ (k : ℕ). take first s.ids.items ++ (fresh ++ drop k s.ids.items)) end;
      even_low = omega (arith, low_kids, low_ids, even);
      even = omega (arith, passed, passed_ids);
      some = omega (arith, left, deep);
      from = target (map_at mid from);
      over = over.targets;
      entered = subst (λ l. AreEntered t store (target (map_at mid from)) new l fresh) kids_are entered;
    }

-- the number in a place that was written over
pub place_written : (base first depth : ℕ) (ids fresh again : List ℕ) → first ≤ depth → depth + 1 < length ids → first + length fresh ≡ depth + 1 → again ≡ take first ids ++ (fresh ++ drop (first + length fresh) ids) → AreFrom base fresh → base ≤ slice_index_or again depth 0
place_written base first depth ids fresh again less deep end same from =
    let low = length-take first ids in
    let rest = drop (first + length fresh) ids in
    let long : length (take first ids) ≤ depth = omega (arith, low, less) in
    let place : depth - length (take first ids) < length fresh = omega (arith, low, less, deep, end) in
    let here : slice_index_or again depth 0 ≡ slice_index_or fresh (depth - length (take first ids)) 0 = ap (λ (l : List ℕ). slice_index_or l depth 0) same ∙ get_or-append_right (take first ids) (fresh ++ rest) depth 0 long ∙ get_or_append_left fresh rest 0 (depth - length (take first ids)) place in
    subst (λ (k : ℕ). base ≤ k) (sym here) (from (depth - length (take first ids)) 0 place)

-- ---- the piece with them

past : {t : Tables} {store : Store} {alive : StateMap} (low : List Held) {rest : List Held} {from : ℕ → Option ℕ} → FollowOn t store alive from (low ++ rest) → FollowOn t store alive (over_all from low) rest
past [] maps = maps
past (h ∷ low) (follow x symbol rising at more) = past low more

front : {t : Tables} {store : Store} {alive : StateMap} (low rest : List Held) {from : ℕ → Option ℕ} → FollowOn t store alive from (low ++ rest) → FollowOn t store alive from low
front [] rest maps = follow_none
front (h ∷ low) rest (follow x symbol rising at more) = follow x symbol rising at (front low rest more)

kids_same : (maps : List StateMap) (kids : List Kid) (ids again : List ℕ) → length kids ≡ length ids → length again ≡ length kids → HaveSameKids (held_of maps kids ids) (held_of maps kids again)
kids_same maps [] ids again e f = no_kids
kids_same maps (k ∷ kids) [] again e f = absurd (omega (arith, e))
kids_same maps (k ∷ kids) (x ∷ ids) [] e f = absurd (omega (arith, f))
kids_same maps (k ∷ kids) (x ∷ ids) (y ∷ again) e f = same_kids refl (kids_same maps kids ids again (omega (arith, e)) (omega (arith, f)))

-- entries in three parts
held_three : (maps : List StateMap) (a b c : List Kid) (x y z : List ℕ) → length a ≡ length x → length b ≡ length y → held_of maps (a ++ (b ++ c)) (x ++ (y ++ z)) ≡ held_of maps a x ++ (held_of maps b y ++ held_of maps c z)
held_three maps a b c x y z one two = held_parts maps a (b ++ c) x (y ++ z) one ∙ ap (λ l. held_of maps a x ++ l) (held_parts maps b c y z two)

-- the lists of a rewriting, in the table after it
record AreParted (t : Tables) (store : Store) (new : List StateMap) (s after : Leaf) : Type 0 where
  pub low : List Held
  pub old : List Held
  pub fresh : List Held
  pub rest : List Held
  pub before : (piece_in new s).stack ≡ low ++ (old ++ rest)
  pub behind : (piece_in new after).stack ≡ low ++ (fresh ++ rest)
  pub some : 0 < length rest
  pub kids : HaveSameKids old fresh
  pub from : ℕ → Option ℕ
  pub over : (q : ℕ) → from q ≡ (if is_some (target (map_at new s.starts) q) then over_all (start_of (map_at new s.starts)) low q else None)
  pub steps : AreSteps t store from fresh

low_there : (maps : List StateMap) (low old rest : List ℕ) (ids : List ℕ) → ids ≡ low ++ (old ++ rest) → AreThere maps ids → AreThere maps low
low_there maps low old rest ids parts there = there_front maps low (old ++ rest) (subst (λ l. AreThere maps l) parts there)

parted : (t : Tables) (store : Store) (maps new : List StateMap) (s after : Leaf) → Grows maps new → HasMaps maps s → IsRewritten t store maps new s after.ids.items → after.block ≡ s.block → AreParted t store new s after
parted t store maps new s after grows has r block =
    let even = has.even in
    let kid_count = ap length r.kids ∙ length-append r.below (r.passed ++ r.above) in
    let kid_count1 = length-append r.passed r.above in
    let id_count = ap length r.ids ∙ length-append r.low (r.old ++ r.rest) in
    let id_count1 = length-append r.old r.rest in
    let even_low = r.even_low in
    let even_old = r.even in
    let some = r.some in
    let above : length r.above ≡ length r.rest = omega (arith, even, kid_count, kid_count1, id_count, id_count1, even_low, even_old) in
    let held_rest = length_held new r.above r.rest above in
    let kids : after.block.kids ≡ r.below ++ (r.passed ++ r.above) = ap (λ b. b.kids) block ∙ r.kids in
    let there = low_there maps r.low r.old r.rest s.ids.items r.ids has.there in
    let alive = sym (stays_at maps new grows s.starts has.starts) in
    let low = sym (held_grows maps new grows r.below r.low there) in
    record {
      low = held_of new r.below r.low;
      old = held_of new r.passed r.old;
      fresh = held_of new r.passed r.fresh;
      rest = held_of new r.above r.rest;
      before = (λ i. held_of new (r.kids i) (r.ids i)) ∙ held_three new r.below r.passed r.above r.low r.old r.rest r.even_low r.even;
      behind = (λ i. held_of new (kids i) (r.ids_again i)) ∙ held_three new r.below r.passed r.above r.low r.fresh r.rest r.even_low (sym r.entered.even);
      some = omega (arith, held_rest, some);
      kids = kids_same new r.passed r.old r.fresh r.even r.entered.even;
      from = r.from;
      over = λ q. r.over q ∙ (λ i. if is_some (target (alive i) q) then over_all (start_of (alive i)) (low i) q else None);
      steps = r.entered.steps;
    }

-- the piece with other maps, by the pieces' last entry
record HasOther (s after : Leaf) (new : List StateMap) : Type 0 where
  pub under : List Held
  pub top : Held
  pub retraced : IsRetraced (last_in new s) (piece_in new s) (piece_in new after) under top

other_by : (t : Tables) (store : Store) (new : List StateMap) (s after : Leaf) (parts : AreParted t store new s after) {lower : List Floor} {under : List Held} {h : Held} {stale : ℕ} → IsGrowing t store (piece_in new s) lower (last_in new s) under h stale → SameButEntries s after → Pushed parts.rest → HasOther s after new
other_by t store new s after parts growing same (empty none) = let less = ap length none in let some = parts.some in absurd (omega (arith, less, some))
other_by t store new s after parts growing same (pushed others g at) =
    let maps : FollowOn t store (map_at new s.starts) (start_of (map_at new s.starts)) (parts.low ++ (parts.old ++ parts.rest)) = subst (λ l. FollowOn t store (map_at new s.starts) (start_of (map_at new s.starts)) l) parts.before growing.maps in
    let fresh = retraced_maps_law t store (map_at new s.starts) (over_all (start_of (map_at new s.starts)) parts.low) parts.from parts.old parts.fresh (front parts.old parts.rest (past parts.low maps)) parts.over parts.steps parts.kids in
    let stack : (piece_in new after).stack ≡ (parts.low ++ (parts.fresh ++ others)) ++ g ∷ [] = parts.behind ∙ ap (λ l. parts.low ++ (parts.fresh ++ l)) at ∙ ap (λ l. parts.low ++ l) (sym (append_assoc parts.fresh others (g ∷ []))) ∙ sym (append_assoc parts.low (parts.fresh ++ others) (g ∷ [])) in
    record {
      under = parts.low ++ (parts.fresh ++ others);
      top = g;
      retraced = record {
        first = same.first;
        floors = floors_same new s after same;
        low = parts.low;
        old = parts.old;
        fresh = parts.fresh;
        rest = parts.rest;
        before = parts.before;
        behind = parts.behind;
        maps = fresh;
        on_stack = stack;
      };
    }

has_other : (t : Tables) (store : Store) (maps new : List StateMap) (s after : Leaf) → Grows maps new → HasMaps maps s → IsRewritten t store maps new s after.ids.items → after.block ≡ s.block → SameButEntries s after → {lower : List Floor} {under : List Held} {h : Held} {stale : ℕ} → IsGrowing t store (piece_in new s) lower (last_in new s) under h stale → HasOther s after new
has_other t store maps new s after grows has r block same growing =
    let parts = parted t store maps new s after grows has r block in
    other_by t store new s after parts growing same (all_pushed parts.rest)

-- ---- the numbers

pub rewritten_length : {t : Tables} {store : Store} {maps new : List StateMap} {s : Leaf} {again : List ℕ} → IsRewritten t store maps new s again → length again ≡ length s.ids.items
rewritten_length r =
    let one = ap length r.ids ∙ length-append r.low (r.old ++ r.rest) in
    let two = length-append r.old r.rest in
    let three = ap length r.ids_again ∙ length-append r.low (r.fresh ++ r.rest) in
    let four = length-append r.fresh r.rest in
    let even = r.even in
    let entered = r.entered.even in
    omega (arith, one, two, three, four, even, entered)

last_behind : (low mid rest : List ℕ) → 0 < length rest → last_id (low ++ (mid ++ rest)) ≡ last_id rest
last_behind low mid rest some = by (all_pushed rest)
  where
    by : Pushed rest → last_id (low ++ (mid ++ rest)) ≡ last_id rest
    by (empty none) = let less = ap length none in absurd (omega (arith, less, some))
    by (pushed others x at) =
        let whole : low ++ (mid ++ rest) ≡ (low ++ (mid ++ others)) ++ x ∷ [] = ap (λ l. low ++ (mid ++ l)) at ∙ ap (λ l. low ++ l) (sym (append_assoc mid others (x ∷ []))) ∙ sym (append_assoc low (mid ++ others) (x ∷ [])) in
        ap last_id whole ∙ last_pushed (low ++ (mid ++ others)) x ∙ sym (ap last_id at ∙ last_pushed others x)

pub rewritten_last : {t : Tables} {store : Store} {maps new : List StateMap} {s : Leaf} {again : List ℕ} → IsRewritten t store maps new s again → last_id again ≡ last_id s.ids.items
rewritten_last r = ap last_id r.ids_again ∙ last_behind r.low r.fresh r.rest r.some ∙ sym (ap last_id r.ids ∙ last_behind r.low r.old r.rest r.some)

there_behind : (maps : List StateMap) (xs ys : List ℕ) → AreThere maps (xs ++ ys) → AreThere maps ys
there_behind maps xs ys there k d inside =
    let count = length-append xs ys in
    let place : length xs ≤ length xs + k = omega arith in
    let back : length xs + k - length xs ≡ k = omega arith in
    subst (λ (n : ℕ). n < length maps) (get_or-append_right xs ys (length xs + k) d place ∙ ap (λ (j : ℕ). slice_index_or ys j d) back) (there (length xs + k) d (omega (arith, count, inside)))

pub rewritten_maps : (t : Tables) (store : Store) (maps new : List StateMap) (s after : Leaf) → Grows maps new → HasMaps maps s → IsRewritten t store maps new s after.ids.items → after.block ≡ s.block → SameButEntries s after → HasMaps new after
rewritten_maps t store maps new s after grows has r block same =
    let more = has_more maps new s grows has in
    let there : AreThere new (r.low ++ (r.old ++ r.rest)) = subst (λ l. AreThere new l) r.ids more.there in
    let low : AreThere new r.low = there_front new r.low (r.old ++ r.rest) there in
    let rest : AreThere new r.rest = there_behind new r.old r.rest (there_behind new r.low (r.old ++ r.rest) there) in
    let count = rewritten_length r in
    let even = has.even in
    let kids = ap (λ b. length b.kids) block in
    record {
      even = omega (arith, kids, even, count);
      there = subst (λ l. AreThere new l) (sym r.ids_again) (All-append {X = ℕ} (λ id. id < length new) r.low (r.fresh ++ r.rest) low (All-append {X = ℕ} (λ id. id < length new) r.fresh r.rest r.entered.there rest));
      starts = subst (λ (k : ℕ). k < length new) (sym same.starts) more.starts;
      own = subst (λ (k : ℕ). HasMap new k (IsIdentityOf (map_at new after.starts))) (sym same.own) (subst (λ (k : ℕ). HasMap new s.own (IsIdentityOf (map_at new k))) (sym same.starts) more.own);
    }

pub rewritten_stands : {t : Tables} {store : Store} {maps new : List StateMap} (base base1 : ℕ) (s after : Leaf) → base1 ≡ base → IsRewritten t store maps new s after.ids.items → SameButEntries s after → Stands base s → Stands base1 after
rewritten_stands base base1 s after same_base r same stand =
    let count = rewritten_length r in
    let starts = stand.starts in
    let own = stand.own in
    let starts1 = same.starts in
    let own1 = same.own in
    let last = rewritten_last r in
    record {
      starts = omega (arith, starts, starts1, same_base);
      own = omega (arith, own, own1, same_base);
      top = λ some. let top = stand.top (omega (arith, some, count)) in omega (arith, top, last, same_base);
    }

-- ---- the leaf

kids_retraced : (new : List StateMap) (s after : Leaf) → length s.block.kids ≡ length s.ids.items → length after.ids.items ≡ length s.ids.items → after.block ≡ s.block → kids_of (piece_in new after).stack ≡ kids_of (piece_in new s).stack
kids_retraced new s after even count block =
    let same = ap (λ b. b.kids) block in
    let kids = ap length same in
    held_kids new after.block.kids after.ids.items (omega (arith, even, count, kids)) ∙ same ∙ sym (held_kids new s.block.kids s.ids.items even)

walked_other : {store : Store} {nodes : List Ref} {front : List Step} {w : List TextToken} (new : List StateMap) (s after : Leaf) → length s.block.kids ≡ length s.ids.items → length after.ids.items ≡ length s.ids.items → after.block ≡ s.block → SameButEntries s after → after.count ≡ s.count → IsWalked store nodes front (piece_in new s) w → IsWalked store nodes front (piece_in new after) w
walked_other {store} {nodes} {front} {w} new s after even count block same tokens walked =
    looked_walk_law store nodes front (piece_in new s) (piece_in new after) w walked (record { first = same.first; count = tokens; floors = ap openings (floors_same new s after same) }) (kids_retraced new s after even count block)

pub retraced_open : (t : Tables) (store : Store) (maps new : List StateMap) (s after : Leaf) → Grows maps new → IsRewritten t store maps new s after.ids.items → after.block ≡ s.block → SameButEntries s after → after.count ≡ s.count → after.stale ≡ s.stale
    → (nodes : List Ref) (steps : List Step) (w next : List TextToken) → IsOpenIn t store maps s nodes steps w next → IsOpenIn t store new after nodes steps w next
retraced_open t store maps new s after grows r block same count stale nodes steps w next was =
    let is = open_grows maps new grows was in
    let other = has_other t store maps new s after grows was.has r block same is.open_piece.growing in
    let piece = retraced_open_law t store (piece_in new s) (piece_in new after) w next s.block.floors (last_in new s) is.under other.under is.last other.top s.stale is.open_piece other.retraced in
    record {
      has = rewritten_maps t store maps new s after grows was.has r block same;
      under = other.under;
      last = other.top;
      open_piece = open_as refl (sym same.floors) (sym (last_same new s after same)) (sym stale) piece;
      walked = walked_other new s after was.has.even (rewritten_length r) block same count is.walked;
    }

parsing_other : {t : Tables} {store : Store} {tokens : List TextToken} {ps : List Piece} {p after : Piece} {w rest : List TextToken} (was : IsParsing t store tokens ps p w rest) → after.first ≡ p.first → IsWalked store (nodes_of_floors ps) was.front after w → IsParsing t store tokens ps after w rest
parsing_other {t} {store} {ps = ps} was first walked = record {
  before = was.before;
  front = was.front;
  closed = subst (λ (x : TextToken). ArePieces t store (x ∷ []) ps was.before was.front) (sym first) was.closed;
  walked = walked;
  parts = was.parts;
  closed_parts = was.closed_parts;
  are_parts = was.are_parts;
  have = was.have;
}

pub retraced_at : (t : Tables) (store : Store) (maps new : List StateMap) (s after : Leaf) → Grows maps new → IsRewritten t store maps new s after.ids.items → after.block ≡ s.block → SameButEntries s after → after.count ≡ s.count → after.stale ≡ s.stale
    → (tokens w rest next : List TextToken) → IsAt t store maps s tokens w rest next → IsAt t store new after tokens w rest next
retraced_at t store maps new s after grows r block same count stale tokens w rest next was =
    let at = at_grows maps new grows was in
    let other = has_other t store maps new s after grows was.has r block same at.leaf.growing in
    let leaf = retraced_leaf_law t store (piece_in new s) (piece_in new after) w next s.block.floors (last_in new s) at.under other.under at.last other.top s.stale at.leaf other.retraced in
    record {
      has = rewritten_maps t store maps new s after grows was.has r block same;
      closed = at.closed;
      same = same.closed ∙ at.same;
      parsing = parsing_other at.parsing same.first (walked_other new s after was.has.even (rewritten_length r) block same count at.parsing.walked);
      under = other.under;
      last = other.top;
      leaf = leaf_as refl (sym same.floors) (sym (last_same new s after same)) (sym stale) leaf;
    }

-- ---- the last entry

pub last_stays : (maps new : List StateMap) (s after : Leaf) → Grows maps new → HasMaps maps s → 0 < length s.ids.items → last_id after.ids.items ≡ last_id s.ids.items → map_at new (last_id after.ids.items) ≡ map_at maps (last_id s.ids.items)
last_stays maps new s after grows has some same =
    let inside : last_id s.ids.items < length maps = has.there (length s.ids.items - 1) 0 (omega (arith, some)) in
    ap (λ (k : ℕ). map_at new k) same ∙ stays_at maps new grows (last_id s.ids.items) inside
