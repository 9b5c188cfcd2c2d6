-- The calls of a reduction, one after another, as one step of the open piece.
use Rattle.std.proofs.Common.{◌≡◌, ℕ, ◌+◌, ◌-◌, ◌<◌, List, [], ◌∷◌, ◌++◌, length, take, drop, replicate, slice_index_or, slice_get, Some, sym, ap, ◌∙◌, subst, arith}
use Rattle.std.proofs.lemmas.List.{length-append, length-take, length-set, take-append-drop}
use Rattle.std.proofs.lemmas.List.Elements.{All-set}
use Rattle.std.specs.Option.{option_map}
use Rattle.std.proofs.lemmas.Option.{slice_get_within}
use Rattle.grammar_data.specs.declared.rule.Sym.{Sym}
use Rattle.grammar_data.specs.declared.rule.Sym.TheVariants.{Name}
use Rattle.grammar_data.specs.declared.token.Token.{Token as TextToken}
use Rattle.grammar_data.specs.Grammar.{Rule}
use Rattle.grammar_theory.specs.Rules.{IsRule}
use Rattle.node_data.specs.declared.kid.Kid.TheVariants.{Node as NodeKid, Hidden}
use Rattle.tree_theory.specs.Stores.{Ref, Store}
use Rattle.table_data.specs.Tables.{Tables}
use Rattle.lawful_theory.specs.Lawful.{IsLawful}
use Rattle.map_theory.specs.Maps.{StateMap}
use Rattle.map_theory.specs.Agreements.{AllReduce}
use Rattle.map_theory.specs.Relations.{IsBack, IsIdentityOf, IsRestricted, IsThenSymbol}
use Rattle.context_laws.specs.Contexts.{LeadFromStates}
use Rattle.leaf_laws.specs.Leaves.{HasStart, NoneErrs}
use Rattle.node_store.specs.Chunks.{StoresNode}
use Rattle.arrow_table.specs.Looks.{Grows, HasMap, map_at}
use Rattle.segment_parser.specs.declared.leaf.Leaf.{Leaf}
use Rattle.segment_parser.specs.Working.{last_id, AreThere, IsFreshAt, was_fresh, made_fresh}
use Rattle.segment_parser.specs.Standing.{last_in, piece_in, HasMaps, IsAt, SameButEntries}
use Rattle.segment_parser.proofs.HeldLemmas.{stays_at, has_grows, grows_then}
use Rattle.segment_parser.proofs.AtLemmas.{at_grows, there_grows, last_at, last_grows}
use Rattle.segment_parser.proofs.TakeLemmas.{takes_some_at, there_front, HasTaken}
use Rattle.segment_parser.proofs.WholeLemmas.{takes_all_at, floor_at, HasTakenAll, HasRaised}

pub same_then : {s mid after : Leaf} → SameButEntries s mid → SameButEntries mid after → SameButEntries s after
same_then one two = record {
  floors = two.floors ∙ one.floors;
  closed = two.closed ∙ one.closed;
  faults = two.faults ∙ one.faults;
  opened = two.opened ∙ one.opened;
  starts = two.starts ∙ one.starts;
  own = two.own ∙ one.own;
  first = two.first ∙ one.first;
}

pub rule_inside : {rules : List Rule} {r n : ℕ} {right : List Sym} → IsRule rules r n right → r < length rules
rule_inside {rules} {r} {n} {right} rule = slice_get_within rules r (n, right) rule.found

pub taken_there : (maps : List StateMap) (ids : List ℕ) (k : ℕ) → AreThere maps ids → AreThere maps (take k ids)
taken_there maps ids k there = there_front maps (take k ids) (drop k ids) (subst (λ l. AreThere maps l) (sym (take-append-drop k ids)) there)

-- the number at a place is there
pub place_there : (maps : List StateMap) (ids : List ℕ) (k : ℕ) → AreThere maps ids → k < length ids → slice_index_or ids k 0 < length maps
place_there maps ids k there inside = there k 0 inside

pub last_inside : (maps : List StateMap) (ids : List ℕ) → AreThere maps ids → 0 < length ids → last_id ids < length maps
last_inside maps ids there some = there (length ids - 1) 0 (omega (arith, some))

pub fresh_there : (maps mid : List StateMap) (starts stale stale1 depth : ℕ) (ids ids1 : List ℕ) → Grows maps mid → AreThere maps ids → IsFreshAt maps mid starts stale stale1 depth ids ids1 → AreThere mid ids1
fresh_there maps mid starts stale stale1 depth ids ids1 grows there (was_fresh less e same) = subst (λ l. AreThere mid l) (sym same) (there_grows maps mid grows ids there)
fresh_there maps mid starts stale stale1 depth ids ids1 grows there (made_fresh fresh less e same has) = subst (λ l. AreThere mid l) (sym same) (All-set {X = ℕ} (λ n. n < length mid) ids depth fresh has.within (there_grows maps mid grows ids there))

pub fresh_length : (maps mid : List StateMap) (starts stale stale1 depth : ℕ) (ids ids1 : List ℕ) → IsFreshAt maps mid starts stale stale1 depth ids ids1 → length ids1 ≡ length ids
fresh_length maps mid starts stale stale1 depth ids ids1 (was_fresh less e same) = ap length same
fresh_length maps mid starts stale stale1 depth ids ids1 (made_fresh fresh less e same has) = ap length same ∙ length-set ids depth fresh

-- the same in the last table
pub fresh_grows : (maps mid final : List StateMap) (starts stale stale1 depth : ℕ) (ids ids1 : List ℕ) → Grows maps mid → Grows mid final → AreThere maps ids → starts < length maps → depth < length ids → IsFreshAt maps mid starts stale stale1 depth ids ids1 → IsFreshAt final final starts stale stale1 depth ids ids1
fresh_grows maps mid final starts stale stale1 depth ids ids1 one two there inside deep (was_fresh less e same) = was_fresh less e same
fresh_grows maps mid final starts stale stale1 depth ids ids1 one two there inside deep (made_fresh fresh less e same has) =
    let all = grows_then maps mid final one two in
    let top = sym (stays_at maps final all (slice_index_or ids depth 0) (place_there maps ids depth there deep)) in
    let keep = sym (stays_at maps final all starts inside) in
    let here : HasMap final fresh (IsRestricted (map_at maps (slice_index_or ids depth 0)) (map_at maps starts)) = has_grows mid final (IsRestricted (map_at maps (slice_index_or ids depth 0)) (map_at maps starts)) two fresh has in
    made_fresh fresh less e same (subst (λ m. HasMap final fresh (IsRestricted m (map_at final starts))) top (subst (λ m. HasMap final fresh (IsRestricted (map_at maps (slice_index_or ids depth 0)) m)) keep here))

-- the same by other names
fresh_as : {final : List StateMap} {starts starts1 stale stale1 stale2 stale3 depth depth1 : ℕ} {ids ids1 low : List ℕ} → IsFreshAt final final starts stale stale2 depth ids low → starts ≡ starts1 → stale ≡ stale1 → stale2 ≡ stale3 → depth ≡ depth1 → ids ≡ ids1 → IsFreshAt final final starts1 stale1 stale3 depth1 ids1 low
fresh_as {final} {starts} {starts1} {stale} {stale1} {stale2} {stale3} {depth} {depth1} {ids} {ids1} {low} is a b c d e =
    let one : IsFreshAt final final starts1 stale stale2 depth ids low = subst (λ (x : ℕ). IsFreshAt final final x stale stale2 depth ids low) a is in
    let two : IsFreshAt final final starts1 stale1 stale2 depth ids low = subst (λ (x : ℕ). IsFreshAt final final starts1 x stale2 depth ids low) b one in
    let three : IsFreshAt final final starts1 stale1 stale3 depth ids low = subst (λ (x : ℕ). IsFreshAt final final starts1 stale1 x depth ids low) c two in
    let four : IsFreshAt final final starts1 stale1 stale3 depth1 ids low = subst (λ (x : ℕ). IsFreshAt final final starts1 stale1 stale3 x ids low) d three in
    subst (λ x. IsFreshAt final final starts1 stale1 stale3 depth1 x low) e four

-- a reduction that takes fewer entries than there are, as it stands in the last table
pub some_taken : (t : Tables) (store new : Store) (maps mid final : List StateMap) (s s1 s2 after : Leaf) (r n count : ℕ) (m : Ref) (to : ℕ) → count < length s.ids.items → HasMaps maps s
    → SameButEntries s s1 → s1.stale ≡ s.stale → s1.count ≡ s.count → s1.block.kids ≡ take (length s.ids.items - count) s.block.kids → s1.ids.items ≡ take (length s.ids.items - count) s.ids.items → StoresNode store new r (drop (length s.ids.items - count) s.block.kids) m
    → Grows maps mid → IsFreshAt maps mid s1.starts s1.stale s2.stale (length s1.ids.items - 1) s1.ids.items s2.ids.items → SameButEntries s1 s2 → s2.block.kids ≡ s1.block.kids → s2.count ≡ s1.count
    → Grows mid final → SameButEntries s2 after → after.stale ≡ s2.stale → after.count ≡ s2.count → after.block.kids ≡ s2.block.kids ++ NodeKid m ∷ [] → after.ids.items ≡ s2.ids.items ++ to ∷ [] → HasMap final to (IsThenSymbol t (Name n) (map_at mid (last_id s2.ids.items)))
    → HasTaken t store new final s after r n count m
some_taken t store new maps mid final s s1 s2 after r n count m to less has same1 stale1 count1 kids1 ids1 node grows1 fresh same2 kids2 count2 grows2 same3 stale3 count3 kids3 ids3 goes =
    let k = length s.ids.items - count in
    let taken_count = ap length ids1 ∙ length-take k s.ids.items in
    let depth : length s1.ids.items - 1 ≡ k - 1 = omega (arith, taken_count, less) in
    let there1 : AreThere maps s1.ids.items = subst (λ l. AreThere maps l) (sym ids1) (taken_there maps s.ids.items k has.there) in
    let inside1 : s1.starts < length maps = subst (λ (x : ℕ). x < length maps) (sym same1.starts) has.starts in
    let deep : length s1.ids.items - 1 < length s1.ids.items = omega (arith, taken_count, less) in
    let there2 : AreThere mid s2.ids.items = fresh_there maps mid s1.starts s1.stale s2.stale (length s1.ids.items - 1) s1.ids.items s2.ids.items grows1 there1 fresh in
    let length2 = fresh_length maps mid s1.starts s1.stale s2.stale (length s1.ids.items - 1) s1.ids.items s2.ids.items fresh in
    let some2 : 0 < length s2.ids.items = omega (arith, length2, taken_count, less) in
    let fresh1 : IsFreshAt final final s1.starts s1.stale s2.stale (length s1.ids.items - 1) s1.ids.items s2.ids.items = fresh_grows maps mid final s1.starts s1.stale s2.stale (length s1.ids.items - 1) s1.ids.items s2.ids.items grows1 grows2 there1 inside1 deep fresh in
    let below = sym (stays_at mid final grows2 (last_id s2.ids.items) (last_inside mid s2.ids.items there2 some2)) in
    record {
      same = same_then same1 (same_then same2 same3);
      tokens = count3 ∙ count2 ∙ count1;
      node = node;
      kids = kids3 ∙ ap (λ l. l ++ NodeKid m ∷ []) (kids2 ∙ kids1);
      low = s2.ids.items;
      fresh = fresh_as fresh1 same1.starts stale1 (sym stale3) depth ids1;
      to = to;
      ids = ids3;
      goes = subst (λ x. HasMap final to (IsThenSymbol t (Name n) x)) below goes;
    }

-- in a table with more maps the last entry's map is the same
pub none_grows : (t : Tables) (maps final : List StateMap) (s : Leaf) (a : ℕ) → Grows maps final → HasMaps maps s → 0 < length s.ids.items → NoneErrs t a (map_at maps (last_id s.ids.items)) → NoneErrs t a (map_at final (last_id s.ids.items))
none_grows t maps final s a grows has some none = subst (λ x. NoneErrs t a x) (sym (stays_at maps final grows (last_id s.ids.items) (last_inside maps s.ids.items has.there some))) none

pub all_grows : (t : Tables) (maps final : List StateMap) (s : Leaf) (a r : ℕ) → Grows maps final → HasMaps maps s → 0 < length s.ids.items → AllReduce t a r (map_at maps (last_id s.ids.items)) → AllReduce t a r (map_at final (last_id s.ids.items))
all_grows t maps final s a r grows has some all = subst (λ x. AllReduce t a r x) (sym (stays_at maps final grows (last_id s.ids.items) (last_inside maps s.ids.items has.there some))) all

pub at_entry : {t : Tables} {store : Store} {maps : List StateMap} {s : Leaf} {tokens w rest next : List TextToken} → IsAt t store maps s tokens w rest next → 0 < length s.ids.items
at_entry at =
    let last = last_at at in
    let count = ap length last.ids_are ∙ length-append last.low (last.id ∷ []) in
    omega (arith, count)

pub reduce_some_at : (t : Tables) → IsLawful t → (store new : Store) (maps final : List StateMap) (s after : Leaf) (r n count : ℕ) (right : List Sym) (m : Ref) → IsRule t.rules r n right → count ≡ length right → count < length s.ids.items → Grows maps final → HasTaken t store new final s after r n count m
    → (tokens w rest : List TextToken) (token : TextToken) → IsAt t store maps s tokens w rest (token ∷ []) → NoneErrs t token.id (map_at maps (last_id s.ids.items)) → AllReduce t token.id r (map_at maps (last_id s.ids.items))
    → IsAt t new final after tokens w rest (token ∷ []) × HasStart t (piece_in final after) w (last_in final after)
reduce_some_at t lawful store new maps final s after r n count right m rule sized less grows taken tokens w rest token at none all =
    takes_some_at t lawful store new final s after tokens w rest token r n count right m (at_grows maps final grows at) (none_grows t maps final s token.id grows at.has (at_entry at) none) (all_grows t maps final s token.id r grows at.has (at_entry at) all) rule sized less taken

-- a reduction that takes all entries
pub all_taken : (t : Tables) (store new : Store) (maps final : List StateMap) (s after : Leaf) (r n k : ℕ) (m : Ref) (to : ℕ) → k ≡ 0 → HasMaps maps s
    → SameButEntries s after → after.stale ≡ 0 → after.count ≡ s.count → after.block.kids ≡ take k s.block.kids ++ NodeKid m ∷ [] → after.ids.items ≡ take k s.ids.items ++ to ∷ [] → StoresNode store new r (drop k s.block.kids) m
    → Grows maps final → HasMap final to (IsThenSymbol t (Name n) (map_at maps s.own)) → HasTakenAll t store new final s after r n m
all_taken t store new maps final s after r n k m to none_left has same stale count kids ids node grows goes =
    let own = sym (stays_at maps final grows s.own has.own.within) in
    record {
      same = same;
      tokens = count;
      node = subst (λ l. StoresNode store new r l m) (ap (λ x. drop x s.block.kids) none_left) node;
      kids = kids ∙ ap (λ x. take x s.block.kids ++ NodeKid m ∷ []) none_left;
      to = to;
      ids = ids ∙ ap (λ x. take x s.ids.items ++ to ∷ []) none_left;
      stale = stale;
      goes = subst (λ x. HasMap final to (IsThenSymbol t (Name n) x)) own goes;
    }

pub reduce_all_at : (t : Tables) → IsLawful t → (store new : Store) (maps final : List StateMap) (s after : Leaf) (r n : ℕ) (right : List Sym) (m : Ref) → IsRule t.rules r n right → length s.ids.items ≡ length right → Grows maps final → HasTakenAll t store new final s after r n m
    → (tokens w rest : List TextToken) (token : TextToken) → IsAt t store maps s tokens w rest (token ∷ []) → NoneErrs t token.id (map_at maps (last_id s.ids.items)) → AllReduce t token.id r (map_at maps (last_id s.ids.items))
    → IsAt t new final after tokens w rest (token ∷ []) × HasStart t (piece_in final after) w (last_in final after)
reduce_all_at t lawful store new maps final s after r n right m rule sized grows taken tokens w rest token at none all =
    takes_all_at t lawful store new final s after tokens w rest token r n right m (at_grows maps final grows at) (none_grows t maps final s token.id grows at.has (at_entry at) none) (all_grows t maps final s token.id r grows at.has (at_entry at) all) rule sized taken

pub same_left : {n m : ℕ} (right : List Sym) → option_map {T = Rule} {U = ℕ} (λ rule. rule.0) (Some (n, right)) ≡ Some m → n ≡ m
same_left right e = cc

-- the name that a rule's left side is, by the rule
pub left_is : (t here : Tables) (r n m : ℕ) (right : List Sym) → IsRule t.rules r n right → here ≡ t → option_map {T = Rule} {U = ℕ} (λ rule. rule.0) (slice_get here.rules r) ≡ Some m → n ≡ m
left_is t here r n m right rule same left = same_left right (sym (ap (λ o. option_map {T = Rule} {U = ℕ} (λ x. x.0) o) rule.found) ∙ ap (λ (x : Tables). option_map {T = Rule} {U = ℕ} (λ y. y.0) (slice_get x.rules r)) (sym same) ∙ left)

-- a reduction that takes all entries and more
pub more_raised : (t : Tables) (store new : Store) (maps mid final : List StateMap) (s s1 after : Leaf) (r n hidden : ℕ) (right : List Sym) (m : Ref) (to : ℕ) → HasMaps maps s
    → s1.block.floors ≡ s.block.floors ++ last_in maps s ∷ [] → s1.block.closed ≡ s.block.closed → s1.faults ≡ [] → s1.opened ≡ Some (record { rule = r; hidden = hidden; node = m }) → s1.first ≡ s.first → s1.count ≡ s.count → s1.block.kids ≡ [] → s1.ids.items ≡ [] → s1.stale ≡ 0
    → StoresNode store new r (replicate hidden Hidden ++ s.block.kids) m → Grows maps mid → HasMap mid s1.starts (IsBack t (take hidden right) (map_at maps s.starts)) → HasMap mid s1.own (IsIdentityOf (map_at mid s1.starts))
    → SameButEntries s1 after → after.stale ≡ s1.stale → after.count ≡ s1.count → after.block.kids ≡ s1.block.kids ++ NodeKid m ∷ [] → after.ids.items ≡ s1.ids.items ++ to ∷ [] → Grows mid final → HasMap final to (IsThenSymbol t (Name n) (map_at mid s1.own))
    → HasRaised t store new final s after r n hidden right m
more_raised t store new maps mid final s s1 after r n hidden right m to has floors closed faults opened first count kids ids stale node grows1 back own same stale2 count2 kids2 ids2 grows2 goes =
    let grows = grows_then maps mid final grows1 grows2 in
    let starts = sym (stays_at maps final grows s.starts has.starts) in
    let back1 : HasMap final s1.starts (IsBack t (take hidden right) (map_at maps s.starts)) = has_grows mid final (IsBack t (take hidden right) (map_at maps s.starts)) grows2 s1.starts back in
    let back2 : HasMap final s1.starts (IsBack t (take hidden right) (map_at final s.starts)) = subst (λ x. HasMap final s1.starts (IsBack t (take hidden right) x)) starts back1 in
    let own1 : HasMap final s1.own (IsIdentityOf (map_at mid s1.starts)) = has_grows mid final (IsIdentityOf (map_at mid s1.starts)) grows2 s1.own own in
    let own2 : HasMap final s1.own (IsIdentityOf (map_at final s1.starts)) = subst (λ x. HasMap final s1.own (IsIdentityOf x)) (sym (stays_at mid final grows2 s1.starts back.within)) own1 in
    let own3 : HasMap final after.own (IsIdentityOf (map_at final after.starts)) = subst (λ (k : ℕ). HasMap final k (IsIdentityOf (map_at final after.starts))) (sym same.own) (subst (λ (k : ℕ). HasMap final s1.own (IsIdentityOf (map_at final k))) (sym same.starts) own2) in
    let goes1 : HasMap final to (IsThenSymbol t (Name n) (map_at final s1.own)) = subst (λ x. HasMap final to (IsThenSymbol t (Name n) x)) (sym (stays_at mid final grows2 s1.own own.within)) goes in
    let goes2 : HasMap final to (IsThenSymbol t (Name n) (map_at final after.own)) = subst (λ (k : ℕ). HasMap final to (IsThenSymbol t (Name n) (map_at final k))) (sym same.own) goes1 in
    record {
      floors = same.floors ∙ floors ∙ ap (λ f. s.block.floors ++ f ∷ []) (sym (last_grows maps final s grows has.starts));
      closed = same.closed ∙ closed;
      faults = same.faults ∙ faults;
      opened = same.opened ∙ opened;
      back = subst (λ (k : ℕ). HasMap final k (IsBack t (take hidden right) (map_at final s.starts))) (sym same.starts) back2;
      own = own3;
      first = same.first ∙ first;
      tokens = count2 ∙ count;
      node = node;
      kids = kids2 ∙ ap (λ l. l ++ NodeKid m ∷ []) kids;
      to = to;
      ids = ids2 ∙ ap (λ l. l ++ to ∷ []) ids;
      stale = stale2 ∙ stale;
      goes = goes2;
    }

pub reduce_more_at : (t : Tables) → IsLawful t → LeadFromStates t → (store new : Store) (maps final : List StateMap) (s after : Leaf) (r n hidden : ℕ) (right : List Sym) (m : Ref) → IsRule t.rules r n right → 0 < hidden → hidden + length s.ids.items ≡ length right → Grows maps final → HasRaised t store new final s after r n hidden right m
    → (tokens w rest : List TextToken) (token : TextToken) → IsAt t store maps s tokens w rest (token ∷ []) → NoneErrs t token.id (map_at maps (last_id s.ids.items)) → AllReduce t token.id r (map_at maps (last_id s.ids.items))
    → IsAt t new final after tokens w rest (token ∷ []) × HasStart t (piece_in final after) w (last_in final after)
reduce_more_at t lawful lead store new maps final s after r n hidden right m rule some sized grows raised tokens w rest token at none all =
    floor_at t lawful lead store new final s after tokens w rest token r n hidden right m (at_grows maps final grows at) (none_grows t maps final s token.id grows at.has (at_entry at) none) (all_grows t maps final s token.id r grows at.has (at_entry at) all) rule some sized raised
