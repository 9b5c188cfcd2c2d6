-- A table that forgets maps, and the leaf with the numbers that it gets then.
use Rattle.std.proofs.Common.{◌≡◌, ◌≢◌, ℕ, ◌+◌, ◌-◌, ◌<◌, ◌⊎◌, inl, inr, List, [], ◌∷◌, ◌++◌, length, take, drop, suc, slice_index_or, slice_set, refl, sym, ap, ◌∙◌, subst, arith}
use Rattle.std.proofs.Math.Dec.{eqb}
use Rattle.std.proofs.Common.{true, false}
use Rattle.std.proofs.lemmas.Bool.Decides.{eqb_tells}
use Rattle.std.proofs.lemmas.List.{get_or_default, get_or-set_same, get_or-set_other, get_or_append_left, length-append, length-set}
use Rattle.std.proofs.Math.Seq.{get_or-append_seam, take-append_seam}
use Rattle.node_data.specs.declared.kid.Kid.{Kid}
use Rattle.tree_theory.specs.Stores.{Store}
use Rattle.grammar_data.specs.declared.token.Token.{Token as TextToken}
use Rattle.table_data.specs.Tables.{Tables}
use Rattle.map_theory.specs.Maps.{StateMap}
use Rattle.map_theory.specs.Relations.{IsIdentityOf}
use Rattle.segment_laws.specs.Parsing.{IsParsing}
use Rattle.arrow_table.specs.Forgetting.{AreKept}
use Rattle.arrow_table.specs.Looks.{Grows, map_at}
use Rattle.segment_parser.specs.declared.leaf.Leaf.{Leaf}
use Rattle.segment_parser.specs.Working.{held_of, last_id}
use Rattle.segment_parser.specs.Standing.{last_in, piece_in, HasMaps}
use Rattle.segment_parser.specs.Settling.{IsBetween}
use Rattle.segment_parser.specs.Numbers.{AreKeptPlaces, ArePut, IsKeepList, IsRenumbered}
use Rattle.segment_parser.proofs.HeldLemmas.{stays_at}
use Rattle.segment_parser.proofs.AtLemmas.{leaf_as, start_as}

-- ---- numbers put in places

-- of the places so many have their numbers
pub record PutSoFar (ids places numbers : List ℕ) (count : ℕ) (again : List ℕ) : Type 0 where
  pub even : length again ≡ length ids
  pub each : (j : ℕ) → j < length ids → (slice_index_or again j 0 ≡ slice_index_or ids j 0) ⊎ ((i : ℕ) × (i < count) × (slice_index_or places i 0 ≡ j) × (slice_index_or again j 0 ≡ slice_index_or numbers i 0))

pub put_none : (ids places numbers : List ℕ) → PutSoFar ids places numbers 0 ids
put_none ids places numbers = record { even = refl; each = λ j less. inl refl }

pub put_more : (ids places numbers : List ℕ) (count : ℕ) (again : List ℕ) (place number : ℕ) → PutSoFar ids places numbers count again → place ≡ slice_index_or places count 0 → number ≡ slice_index_or numbers count 0 → place < length ids → PutSoFar ids places numbers (count + 1) (slice_set again place number)
put_more ids places numbers count again place number so_far at is inside =
    let even = so_far.even in
    record {
      even = length-set again place number ∙ even;
      each = λ j less. by j less (eqb_tells j place);
    }
  where
    later : (j : ℕ) → slice_index_or (slice_set again place number) j 0 ≡ slice_index_or again j 0 → (slice_index_or again j 0 ≡ slice_index_or ids j 0) ⊎ ((i : ℕ) × (i < count) × (slice_index_or places i 0 ≡ j) × (slice_index_or again j 0 ≡ slice_index_or numbers i 0)) → (slice_index_or (slice_set again place number) j 0 ≡ slice_index_or ids j 0) ⊎ ((i : ℕ) × (i < count + 1) × (slice_index_or places i 0 ≡ j) × (slice_index_or (slice_set again place number) j 0 ≡ slice_index_or numbers i 0))
    later j same (inl old) = inl (same ∙ old)
    later j same (inr put) = let less = put.1 in inr (put.0, omega (arith, less), put.2, same ∙ put.3)

    by : (j : ℕ) → j < length ids → ((eqb j place ≡ true) × (j ≡ place)) ⊎ ((eqb j place ≡ false) × (j ≢ place)) → (slice_index_or (slice_set again place number) j 0 ≡ slice_index_or ids j 0) ⊎ ((i : ℕ) × (i < count + 1) × (slice_index_or places i 0 ≡ j) × (slice_index_or (slice_set again place number) j 0 ≡ slice_index_or numbers i 0))
    by j less (inl same) =
        let even = so_far.even in
        let here : place < length again = omega (arith, even, inside) in
        inr (count, omega arith, sym at ∙ sym same.1, ap (λ (k : ℕ). slice_index_or (slice_set again place number) k 0) same.1 ∙ get_or-set_same again place number 0 here ∙ is)
    by j less (inr other) = later j (get_or-set_other again place j number 0 other.1) (so_far.each j less)

pub put_all : (ids places numbers : List ℕ) (count : ℕ) (again : List ℕ) → count ≡ length places → PutSoFar ids places numbers count again → ArePut ids places numbers again
put_all ids places numbers count again all so_far = let is = subst (λ (k : ℕ). PutSoFar ids places numbers k again) all so_far in record { even = is.even; each = is.each }

-- ---- the numbers in some places

pub record AreNumbersOf (ids places : List ℕ) (count : ℕ) (keep : List ℕ) : Type 0 where
  pub long : length keep ≡ count
  pub each : (i : ℕ) → i < count → slice_index_or keep i 0 ≡ slice_index_or ids (slice_index_or places i 0) 0

pub numbers_none : (ids places : List ℕ) → AreNumbersOf ids places 0 []
numbers_none ids places = record { long = refl; each = λ i less. absurd (omega (arith, less)) }

pub numbers_more : (ids places : List ℕ) (count : ℕ) (keep : List ℕ) (id : ℕ) → AreNumbersOf ids places count keep → id ≡ slice_index_or ids (slice_index_or places count 0) 0 → AreNumbersOf ids places (count + 1) (keep ++ id ∷ [])
numbers_more ids places count keep id so_far is =
    let long = so_far.long in
    let more = length-append keep (id ∷ []) in
    record {
      long = omega (arith, long, more);
      each = λ i less. by i less (eqb_tells i count);
    }
  where
    by : (i : ℕ) → i < count + 1 → ((eqb i count ≡ true) × (i ≡ count)) ⊎ ((eqb i count ≡ false) × (i ≢ count)) → slice_index_or (keep ++ id ∷ []) i 0 ≡ slice_index_or ids (slice_index_or places i 0) 0
    by i less (inl same) =
        let at : i ≡ length keep = same.1 ∙ sym so_far.long in
        ap (λ (k : ℕ). slice_index_or (keep ++ id ∷ []) k 0) at ∙ get_or-append_seam keep id [] 0 ∙ is ∙ ap (λ (k : ℕ). slice_index_or ids (slice_index_or places k 0) 0) (sym same.1)
    by i less (inr other) =
        let long = so_far.long in
        let apart = other.1 in
        let fewer : i < count = by_less i less apart in
        get_or_append_left keep (id ∷ []) 0 i (omega (arith, fewer, long)) ∙ so_far.each i fewer
      where
        by_less : (i : ℕ) → i < count + 1 → i ≢ count → i < count
        by_less i less apart = omega (arith, less, apart)

pub keeps : (s : Leaf) (places : List ℕ) (count : ℕ) (keep one two three : List ℕ) (starts own top : ℕ) → count ≡ length places → AreNumbersOf s.ids.items places count keep → one ≡ keep ++ starts ∷ [] → two ≡ one ++ own ∷ [] → three ≡ two ++ top ∷ [] → starts ≡ s.starts → own ≡ s.own → top ≡ last_id s.ids.items → IsKeepList s places three
keeps s places count keep one two three starts own top all numbers is_one is_two is_three starts_is own_is top_is =
    let long : length keep ≡ length places = numbers.long ∙ all in
    let long1 = ap length is_one ∙ length-append keep (starts ∷ []) in
    let long2 = ap length is_two ∙ length-append one (own ∷ []) in
    let long3 = ap length is_three ∙ length-append two (top ∷ []) in
    let at_three : (i : ℕ) → i < length two → slice_index_or three i 0 ≡ slice_index_or two i 0 = λ i less. ap (λ (l : List ℕ). slice_index_or l i 0) is_three ∙ get_or_append_left two (top ∷ []) 0 i less in
    let at_two : (i : ℕ) → i < length one → slice_index_or two i 0 ≡ slice_index_or one i 0 = λ i less. ap (λ (l : List ℕ). slice_index_or l i 0) is_two ∙ get_or_append_left one (own ∷ []) 0 i less in
    let at_one : (i : ℕ) → i < length keep → slice_index_or one i 0 ≡ slice_index_or keep i 0 = λ i less. ap (λ (l : List ℕ). slice_index_or l i 0) is_one ∙ get_or_append_left keep (starts ∷ []) 0 i less in
    let place1 : length places + 1 ≡ length one = omega (arith, long, long1) in
    let place2 : length places + 2 ≡ length two = omega (arith, long, long1, long2) in
    record {
      count = omega (arith, long, long1, long2, long3);
      entries = λ i less. at_three i (omega (arith, less, long, long1, long2)) ∙ at_two i (omega (arith, less, long, long1)) ∙ at_one i (omega (arith, less, long)) ∙ numbers.each i (omega (arith, less, all));
      starts = at_three (length places) (omega (arith, long, long1, long2)) ∙ at_two (length places) (omega (arith, long, long1)) ∙ ap (λ (k : ℕ). slice_index_or one k 0) (sym long) ∙ ap (λ (l : List ℕ). slice_index_or l (length keep) 0) is_one ∙ get_or-append_seam keep starts [] 0 ∙ starts_is;
      own = at_three (length places + 1) (omega (arith, long, long1, long2)) ∙ ap (λ (k : ℕ). slice_index_or two k 0) place1 ∙ ap (λ (l : List ℕ). slice_index_or l (length one) 0) is_two ∙ get_or-append_seam one own [] 0 ∙ own_is;
      top = ap (λ (k : ℕ). slice_index_or three k 0) place2 ∙ ap (λ (l : List ℕ). slice_index_or l (length two) 0) is_three ∙ get_or-append_seam two top [] 0 ∙ top_is;
    }

-- ---- the leaf with other numbers

-- a list that was written through a slice of it
pub as_items : (len : ℕ) (old new : List ℕ) → len ≡ length old → length new ≡ length old → take len (new ++ drop (length new) old) ≡ new
as_items len old new is same = ap (λ (k : ℕ). take k (new ++ drop (length new) old)) (is ∙ sym same) ∙ take-append_seam new (drop (length new) old)

pub entries_renumbered : (ids places numbers put after : List ℕ) (last number : ℕ) → ArePut ids places numbers put → last ≡ length ids - 1 → after ≡ slice_set put last number → (j : ℕ) → j + 1 < length ids → (slice_index_or after j 0 ≡ slice_index_or ids j 0) ⊎ ((i : ℕ) × (i < length places) × (slice_index_or places i 0 ≡ j) × (slice_index_or after j 0 ≡ slice_index_or numbers i 0))
entries_renumbered ids places numbers put after last number are at is j less = by (are.each j (omega (arith, less)))
  where
    apart : j ≢ last
    apart e = omega (arith, e, at, less)

    same : slice_index_or after j 0 ≡ slice_index_or put j 0
    same = ap (λ (l : List ℕ). slice_index_or l j 0) is ∙ get_or-set_other put last j number 0 apart

    by : (slice_index_or put j 0 ≡ slice_index_or ids j 0) ⊎ ((i : ℕ) × (i < length places) × (slice_index_or places i 0 ≡ j) × (slice_index_or put j 0 ≡ slice_index_or numbers i 0)) → (slice_index_or after j 0 ≡ slice_index_or ids j 0) ⊎ ((i : ℕ) × (i < length places) × (slice_index_or places i 0 ≡ j) × (slice_index_or after j 0 ≡ slice_index_or numbers i 0))
    by (inl old) = inl (same ∙ old)
    by (inr new) = inr (new.0, new.1, new.2, same ∙ new.3)

pub last_renumbered : (ids places numbers put after : List ℕ) (last number : ℕ) → 0 < length ids → ArePut ids places numbers put → last ≡ length ids - 1 → after ≡ slice_set put last number → (last_id after ≡ number) × (length after ≡ length ids)
last_renumbered ids places numbers put after last number some are at is =
    let even = are.even in
    let count = ap length is ∙ length-set put last number in
    let place : length after - 1 ≡ last = omega (arith, count, even, at) in
    let inside : last < length put = omega (arith, even, at, some) in (
      ap (λ (k : ℕ). slice_index_or after k 0) place ∙ ap (λ (l : List ℕ). slice_index_or l last 0) is ∙ get_or-set_same put last number 0 inside,
      omega (arith, count, even),
    )

-- ---- the same maps by other numbers

held_same : (maps new : List StateMap) (kids : List Kid) (ids again : List ℕ) → length again ≡ length ids → ((j : ℕ) → j < length ids → map_at new (slice_index_or again j 0) ≡ map_at maps (slice_index_or ids j 0)) → held_of new kids again ≡ held_of maps kids ids
held_same maps new [] ids again even each = refl
held_same maps new (k ∷ kids) [] [] even each = refl
held_same maps new (k ∷ kids) [] (y ∷ again) even each = absurd (omega (arith, even))
held_same maps new (k ∷ kids) (x ∷ ids) [] even each = absurd (omega (arith, even))
held_same maps new (k ∷ kids) (x ∷ ids) (y ∷ again) even each =
    let first : map_at new y ≡ map_at maps x = each 0 (omega arith) in
    let rest = held_same maps new kids ids again (omega (arith, even)) (λ j less. each (suc j) (omega (arith, less))) in
    λ i. record { kid = k; states = first i } ∷ rest i

-- what a flush has done
pub record HasFlushed (maps new : List StateMap) (base base1 : ℕ) (s after : Leaf) : Type 0 where
  pub grows : Grows maps new
  pub has : HasMaps maps s
  pub some : 0 < length s.ids.items
  pub places : List ℕ
  pub keep : List ℕ
  pub again : List ℕ
  pub inside : AreKeptPlaces base s.ids.items places
  pub list : IsKeepList s places keep
  pub kept : AreKept maps new base1 keep again
  pub renumbered : IsRenumbered s after places again

one_same : {maps new : List StateMap} {base base1 : ℕ} {s after : Leaf} (is : HasFlushed maps new base base1 s after) (i : ℕ) → i < length is.places + 3 → map_at new (slice_index_or is.again i 0) ≡ map_at maps (slice_index_or is.keep i 0)
one_same is i less = let count = is.list.count in (is.kept.same i (omega (arith, less, count))).is

one_there : {maps new : List StateMap} {base base1 : ℕ} {s after : Leaf} (is : HasFlushed maps new base base1 s after) (i : ℕ) → i < length is.places + 3 → slice_index_or is.again i 0 < length new
one_there is i less = let count = is.list.count in (is.kept.same i (omega (arith, less, count))).within

starts_same : {maps new : List StateMap} {base base1 : ℕ} {s after : Leaf} → HasFlushed maps new base base1 s after → map_at new after.starts ≡ map_at maps s.starts
starts_same {maps} {new} is = ap (λ (k : ℕ). map_at new k) is.renumbered.starts ∙ one_same is (length is.places) (omega arith) ∙ ap (λ (k : ℕ). map_at maps k) is.list.starts

own_same : {maps new : List StateMap} {base base1 : ℕ} {s after : Leaf} → HasFlushed maps new base base1 s after → map_at new after.own ≡ map_at maps s.own
own_same {maps} {new} is = ap (λ (k : ℕ). map_at new k) is.renumbered.own ∙ one_same is (length is.places + 1) (omega arith) ∙ ap (λ (k : ℕ). map_at maps k) is.list.own

-- an entry's number: what it is, and which map it has
record IsEntry (maps new : List StateMap) (id again : ℕ) : Type 0 where
  pub same : map_at new again ≡ map_at maps id
  pub within : again < length new

entry_same : {maps new : List StateMap} {base base1 : ℕ} (s after : Leaf) (is : HasFlushed maps new base base1 s after) (j : ℕ) → j < length s.ids.items → IsEntry maps new (slice_index_or s.ids.items j 0) (slice_index_or after.ids.items j 0)
entry_same {maps} {new} s after is j less = by (eqb_tells (j + 1) (length s.ids.items))
  where
    by_number : (k : ℕ) → slice_index_or after.ids.items j 0 ≡ k → IsEntry maps new (slice_index_or s.ids.items j 0) k → IsEntry maps new (slice_index_or s.ids.items j 0) (slice_index_or after.ids.items j 0)
    by_number k e has = subst (λ (x : ℕ). IsEntry maps new (slice_index_or s.ids.items j 0) x) (sym e) has

    below : (slice_index_or after.ids.items j 0 ≡ slice_index_or s.ids.items j 0) ⊎ ((i : ℕ) × (i < length is.places) × (slice_index_or is.places i 0 ≡ j) × (slice_index_or after.ids.items j 0 ≡ slice_index_or is.again i 0)) → IsEntry maps new (slice_index_or s.ids.items j 0) (slice_index_or after.ids.items j 0)
    below (inl old) =
        let there : slice_index_or s.ids.items j 0 < length maps = is.has.there j 0 less in
        let count = ap length is.grows.1 ∙ length-append maps is.grows.0 in
        by_number (slice_index_or s.ids.items j 0) old (record { same = stays_at maps new is.grows (slice_index_or s.ids.items j 0) there; within = omega (arith, there, count) })
    below (inr put) =
        let fewer = put.1 in
        let here : slice_index_or is.keep put.0 0 ≡ slice_index_or s.ids.items j 0 = is.list.entries put.0 fewer ∙ ap (λ (k : ℕ). slice_index_or s.ids.items k 0) put.2 in
        by_number (slice_index_or is.again put.0 0) put.3 (record {
          same = one_same is put.0 (omega (arith, fewer)) ∙ ap (λ (k : ℕ). map_at maps k) here;
          within = one_there is put.0 (omega (arith, fewer));
        })

    by : ((eqb (j + 1) (length s.ids.items) ≡ true) × (j + 1 ≡ length s.ids.items)) ⊎ ((eqb (j + 1) (length s.ids.items) ≡ false) × (j + 1 ≢ length s.ids.items)) → IsEntry maps new (slice_index_or s.ids.items j 0) (slice_index_or after.ids.items j 0)
    by (inl last) =
        let even = is.renumbered.even in
        let at = last.1 in
        let place : j ≡ length after.ids.items - 1 = omega (arith, even, at) in
        let place1 : length s.ids.items - 1 ≡ j = omega (arith, at) in
        by_number (slice_index_or is.again (length is.places + 2) 0) (ap (λ (k : ℕ). slice_index_or after.ids.items k 0) place ∙ is.renumbered.top) (record {
          same = one_same is (length is.places + 2) (omega arith) ∙ ap (λ (k : ℕ). map_at maps k) (is.list.top ∙ ap (λ (k : ℕ). slice_index_or s.ids.items k 0) place1);
          within = one_there is (length is.places + 2) (omega arith);
        })
    by (inr other) = let apart = other.1 in below (is.renumbered.entries j (omega (arith, apart, less)))

last_flushed : {maps new : List StateMap} {base base1 : ℕ} (s after : Leaf) → HasFlushed maps new base base1 s after → last_in new after ≡ last_in maps s
last_flushed s after is = let starts = starts_same is in λ i. record { opened = is.renumbered.opened i; starts = starts i; faults = is.renumbered.faults i }

piece_flushed : {maps new : List StateMap} {base base1 : ℕ} (s after : Leaf) → HasFlushed maps new base base1 s after → piece_in new after ≡ piece_in maps s
piece_flushed {maps} {new} s after is =
    let last = last_flushed s after is in
    let kids : after.block.kids ≡ s.block.kids = ap (λ b. b.kids) is.renumbered.block in
    let held : held_of new after.block.kids after.ids.items ≡ held_of maps s.block.kids s.ids.items = ap (λ (l : List Kid). held_of new l after.ids.items) kids ∙ held_same maps new s.block.kids s.ids.items after.ids.items is.renumbered.even (λ j less. (entry_same s after is j less).same) in
    λ i. record { first = is.renumbered.first i; count = is.renumbered.count i; floors = (is.renumbered.block i).floors ++ last i ∷ []; stack = held i }

flushed_maps : {maps new : List StateMap} {base base1 : ℕ} (s after : Leaf) → HasFlushed maps new base base1 s after → HasMaps new after
flushed_maps {maps} {new} s after is =
    let even = is.has.even in
    let even1 = is.renumbered.even in
    let kids = ap (λ b. length b.kids) is.renumbered.block in
    let own : IsIdentityOf (map_at maps s.starts) (map_at new after.own) = subst (λ m. IsIdentityOf (map_at maps s.starts) m) (sym (own_same is)) is.has.own.is in
    record {
      even = omega (arith, even, even1, kids);
      there = λ k d less. subst (λ (x : ℕ). x < length new) (get_or_default after.ids.items k 0 d less) (entry_same s after is k (omega (arith, less, even1))).within;
      starts = subst (λ (k : ℕ). k < length new) (sym is.renumbered.starts) (one_there is (length is.places) (omega arith));
      own = record {
        within = subst (λ (k : ℕ). k < length new) (sym is.renumbered.own) (one_there is (length is.places + 1) (omega arith));
        is = subst (λ m. IsIdentityOf m (map_at new after.own)) (sym (starts_same is)) own;
      };
    }

pub flushed_between : {t : Tables} {store : Store} {maps new : List StateMap} {base base1 : ℕ} (s after : Leaf) (tokens : List TextToken) (index : ℕ) → HasFlushed maps new base base1 s after → IsBetween t store maps s tokens index → IsBetween t store new after tokens index
flushed_between {t} {store} {maps} {new} s after tokens index is was =
    let at = was.at in
    let piece = sym (piece_flushed s after is) in
    let last = sym (last_flushed s after is) in
    record {
      w = was.w;
      at = record {
        has = flushed_maps s after is;
        closed = at.closed;
        same = ap (λ b. b.closed) is.renumbered.block ∙ at.same;
        parsing = subst (λ p. IsParsing t store tokens at.closed p was.w (drop index tokens)) piece at.parsing;
        under = at.under;
        last = at.last;
        leaf = leaf_as piece (ap (λ b. b.floors) (sym is.renumbered.block)) last (sym is.renumbered.stale) at.leaf;
      };
      start = start_as piece last was.start;
    }
