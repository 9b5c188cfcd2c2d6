-- Pieces cut from flat lists: more at the end changes none, and a head more cuts what is left.
use Rattle.std.proofs.Common.{◌≡◌, ℕ, zero, suc, ◌+◌, ◌-◌, ◌<◌, ◌≤◌, List, [], ◌∷◌, ◌++◌, length, take, drop, map, get_or, Result, Ok, Err, OnOk, OnErr, refl, sym, ap, ◌∙◌, subst, append-nil, zero-add, arith}
use Rattle.std.proofs.lemmas.List.{length-drop, length-take, length-take-le, take-append-le, drop-append-le, drop-drop, take_all, take_more, take-append-drop}
use Rattle.node_data.specs.declared.kid.Kid.{Kid}
use Rattle.piece_theory.specs.Pieces.{Floor}
use Rattle.piece_blocks.specs.declared.head.Head.{Head}
use Rattle.bare_theory.specs.Bare.{Bare}
use Rattle.piece_blocks.specs.Blocks.{IsBlock, floor_total, kid_total, floor_starts, kid_starts, cut_pieces, piece_at}

-- floors and kids behind those that are cut change nothing
pub cut_more : (heads : List Head) (floors more : List Floor) (kids others : List Kid) → floor_total heads ≤ length floors → kid_total heads ≤ length kids → cut_pieces heads (floors ++ more) (kids ++ others) ≡ cut_pieces heads floors kids
cut_more [] floors more kids others f k = refl
cut_more (head ∷ heads) floors more kids others f k =
    let few : head.floors ≤ length floors = omega (arith, f) in
    let less : head.kids ≤ length kids = omega (arith, k) in
    let f_len = length-drop head.floors floors in
    let k_len = length-drop head.kids kids in
    let rest = cut_more heads (drop head.floors floors) more (drop head.kids kids) others (omega (arith, f, f_len)) (omega (arith, k, k_len)) in
    let front : ◌≡◌ {A = Bare} (record { first = head.first; count = head.count; floors = take head.floors (floors ++ more); kids = take head.kids (kids ++ others) }) (record { first = head.first; count = head.count; floors = take head.floors floors; kids = take head.kids kids }) = λ i. record { first = head.first; count = head.count; floors = take-append-le head.floors floors more few i; kids = take-append-le head.kids kids others less i } in
    let back : cut_pieces heads (drop head.floors (floors ++ more)) (drop head.kids (kids ++ others)) ≡ cut_pieces heads (drop head.floors floors) (drop head.kids kids) = ap (λ l. cut_pieces heads l (drop head.kids (kids ++ others))) (drop-append-le head.floors floors more few) ∙ ap (λ l. cut_pieces heads (drop head.floors floors ++ more) l) (drop-append-le head.kids kids others less) ∙ rest in
    λ i. front i ∷ back i

-- one head more cuts behind the others
pub cut_push : (heads : List Head) (head : Head) (floors : List Floor) (kids : List Kid) → cut_pieces (heads ++ head ∷ []) floors kids ≡ cut_pieces heads floors kids ++ record { first = head.first; count = head.count; floors = take head.floors (drop (floor_total heads) floors); kids = take head.kids (drop (kid_total heads) kids) } ∷ []
cut_push [] head floors kids = refl
cut_push (h ∷ heads) head floors kids = ap (λ l. record { first = h.first; count = h.count; floors = take h.floors floors; kids = take h.kids kids } ∷ l) (cut_push heads head (drop h.floors floors) (drop h.kids kids) ∙ (λ i. cut_pieces heads (drop h.floors floors) (drop h.kids kids) ++ record { first = head.first; count = head.count; floors = take head.floors (drop-drop (floor_total heads) h.floors floors i); kids = take head.kids (drop-drop (kid_total heads) h.kids kids i) } ∷ []))

pub floors_push : (heads : List Head) (head : Head) → floor_total (heads ++ head ∷ []) ≡ floor_total heads + head.floors
floors_push [] head = omega arith
floors_push (h ∷ heads) head = let rest = floors_push heads head in omega (arith, rest)

pub kids_push : (heads : List Head) (head : Head) → kid_total (heads ++ head ∷ []) ≡ kid_total heads + head.kids
kids_push [] head = omega arith
kids_push (h ∷ heads) head = let rest = kids_push heads head in omega (arith, rest)

pub length-cut : (heads : List Head) (floors : List Floor) (kids : List Kid) → length (cut_pieces heads floors kids) ≡ length heads
length-cut [] floors kids = refl
length-cut (h ∷ heads) floors kids = let rest = length-cut heads (drop h.floors floors) (drop h.kids kids) in omega (arith, rest)

-- kids off the end of the open piece change nothing
pub cut_take : (heads : List Head) (floors : List Floor) (kids : List Kid) (n : ℕ) → floor_total heads ≤ length floors → kid_total heads ≤ n → n ≤ length kids → cut_pieces heads floors (take n kids) ≡ cut_pieces heads floors kids
cut_take heads floors kids n f k less =
    let count = length-take n kids in
    sym (cut_more heads floors [] (take n kids) (drop n kids) f (omega (arith, k, less, count))) ∙ ap (λ l. cut_pieces heads l (take n kids ++ drop n kids)) (append-nil floors) ∙ ap (λ l. cut_pieces heads floors l) (take-append-drop n kids)

pub cut_kid : (heads : List Head) (floors : List Floor) (kids others : List Kid) → floor_total heads ≤ length floors → kid_total heads ≤ length kids → cut_pieces heads floors (kids ++ others) ≡ cut_pieces heads floors kids
cut_kid heads floors kids others f k = ap (λ l. cut_pieces heads l (kids ++ others)) (sym (append-nil floors)) ∙ cut_more heads floors [] kids others f k

pub cut_floor : (heads : List Head) (floors more : List Floor) (kids : List Kid) → floor_total heads ≤ length floors → kid_total heads ≤ length kids → cut_pieces heads (floors ++ more) kids ≡ cut_pieces heads floors kids
cut_floor heads floors more kids f k = ap (λ l. cut_pieces heads (floors ++ more) l) (sym (append-nil kids)) ∙ cut_more heads floors more kids [] f k

-- of the kids behind a place the last are dropped
pub drop_take : (from n count : ℕ) (kids : List Kid) → from ≤ length kids → n ≡ length kids - count → count ≤ length kids - from → drop from (take n kids) ≡ take (length (drop from kids) - count) (drop from kids)
drop_take from n count kids inside is few =
    let len = length-drop from kids in
    drop-take_more from kids n (length (drop from kids) - count) (omega (arith, inside, is, few, len))
  where
    take_nothing : (k : ℕ) → take {A = Kid} k [] ≡ []
    take_nothing zero = refl
    take_nothing (suc k) = refl

    drop-take_more : (from : ℕ) (kids : List Kid) (n m : ℕ) → n ≡ from + m → drop from (take n kids) ≡ take m (drop from kids)
    drop-take_more zero kids n m e = ap (λ k. take k kids) (e ∙ zero-add m)
    drop-take_more (suc from) [] n m e = ap (λ l. drop (suc from) l) (take_nothing n) ∙ sym (take_nothing m)
    drop-take_more (suc from) (kid ∷ kids) n m e = ap (λ k. drop (suc from) (take k (kid ∷ kids))) (e ∙ one_more from m) ∙ drop-take_more from kids (from + m) m refl
      where
        one_more : (from m : ℕ) → suc from + m ≡ suc (from + m)
        one_more from m = omega arith

pub by_result : {A E : Type 0} (r : Result A E) {P Q R : Type 0} → OnOk r P → OnErr r Q → (P → R) → (Q → R) → R
by_result (Ok a) done failed f g = f done
by_result (Err e) done failed f g = g failed

-- a head that takes all that is left
pub cut_close : (heads : List Head) (head : Head) (floors : List Floor) (kids : List Kid) (cut_floors cut_kids : ℕ) → cut_floors ≡ floor_total heads → cut_kids ≡ kid_total heads → cut_floors + head.floors ≡ length floors → cut_kids + head.kids ≡ length kids → cut_pieces (heads ++ head ∷ []) floors kids ≡ cut_pieces heads floors kids ++ record { first = head.first; count = head.count; floors = drop cut_floors floors; kids = drop cut_kids kids } ∷ []
cut_close heads head floors kids cut_floors cut_kids f k all_floors all_kids =
    let f_len = length-drop cut_floors floors in
    let k_len = length-drop cut_kids kids in
    let fs : take head.floors (drop (floor_total heads) floors) ≡ drop cut_floors floors = ap (λ n. take head.floors (drop n floors)) (sym f) ∙ take_all head.floors (drop cut_floors floors) (omega (arith, f_len, all_floors)) in
    let ks : take head.kids (drop (kid_total heads) kids) ≡ drop cut_kids kids = ap (λ n. take head.kids (drop n kids)) (sym k) ∙ take_all head.kids (drop cut_kids kids) (omega (arith, k_len, all_kids)) in
    cut_push heads head floors kids ∙ (λ i. cut_pieces heads floors kids ++ record { first = head.first; count = head.count; floors = fs i; kids = ks i } ∷ [])

-- where the piece with a number begins: behind the floors and the kids of those before it
pub floors_begin_at : (from : ℕ) (heads : List Head) (index : ℕ) (d : Head) → index < length heads → map (λ (head : Head). head.floors_from) heads ≡ floor_starts from heads → (get_or heads index d).floors_from ≡ from + floor_total (take index heads)
floors_begin_at from [] index d inside same = absurd (omega (arith, inside))
floors_begin_at from (head ∷ heads) zero d inside same = ap (λ l. get_or l 0 0) same ∙ omega arith
floors_begin_at from (head ∷ heads) (suc index) d inside same =
    let rest = floors_begin_at (from + head.floors) heads index d (omega (arith, inside)) (ap (λ l. drop 1 l) same) in
    omega (arith, rest)

pub kids_begin_at : (from : ℕ) (heads : List Head) (index : ℕ) (d : Head) → index < length heads → map (λ (head : Head). head.kids_from) heads ≡ kid_starts from heads → (get_or heads index d).kids_from ≡ from + kid_total (take index heads)
kids_begin_at from [] index d inside same = absurd (omega (arith, inside))
kids_begin_at from (head ∷ heads) zero d inside same = ap (λ l. get_or l 0 0) same ∙ omega arith
kids_begin_at from (head ∷ heads) (suc index) d inside same =
    let rest = kids_begin_at (from + head.kids) heads index d (omega (arith, inside)) (ap (λ l. drop 1 l) same) in
    omega (arith, rest)

-- its floors and kids end within those of all pieces
pub floors_end_at : (heads : List Head) (index : ℕ) (d : Head) → index < length heads → floor_total (take index heads) + (get_or heads index d).floors ≤ floor_total heads
floors_end_at [] index d inside = absurd (omega (arith, inside))
floors_end_at (head ∷ heads) zero d inside = omega arith
floors_end_at (head ∷ heads) (suc index) d inside = let rest = floors_end_at heads index d (omega (arith, inside)) in omega (arith, rest)

pub kids_end_at : (heads : List Head) (index : ℕ) (d : Head) → index < length heads → kid_total (take index heads) + (get_or heads index d).kids ≤ kid_total heads
kids_end_at [] index d inside = absurd (omega (arith, inside))
kids_end_at (head ∷ heads) zero d inside = omega arith
kids_end_at (head ∷ heads) (suc index) d inside = let rest = kids_end_at heads index d (omega (arith, inside)) in omega (arith, rest)

-- the piece with a number, as its head cuts it
pub cut_at : (heads : List Head) (floors : List Floor) (kids : List Kid) (index : ℕ) (d : Head) → index < length heads → piece_at (cut_pieces heads floors kids) index ≡ record { first = (get_or heads index d).first; count = (get_or heads index d).count; floors = take (get_or heads index d).floors (drop (floor_total (take index heads)) floors); kids = take (get_or heads index d).kids (drop (kid_total (take index heads)) kids) }
cut_at [] floors kids index d inside = absurd (omega (arith, inside))
cut_at (head ∷ heads) floors kids zero d inside = refl
cut_at (head ∷ heads) floors kids (suc index) d inside =
    cut_at heads (drop head.floors floors) (drop head.kids kids) index d (omega (arith, inside))
    ∙ (λ i. record { first = (get_or heads index d).first; count = (get_or heads index d).count; floors = take (get_or heads index d).floors (drop-drop (floor_total (take index heads)) head.floors floors i); kids = take (get_or heads index d).kids (drop-drop (kid_total (take index heads)) head.kids kids i) })

-- what a block's head with a number says: where its piece's floors and kids end, and the piece
pub record Reads (floors : List Floor) (kids : List Kid) (head : Head) (piece : Bare) : Type 0 where
  pub floors_end : head.floors_from + head.floors ≤ length floors
  pub kids_end : head.kids_from + head.kids ≤ length kids
  pub is : piece ≡ record { first = head.first; count = head.count; floors = take head.floors (drop head.floors_from floors); kids = take head.kids (drop head.kids_from kids) }

pub reads : (heads : List Head) (floors : List Floor) (kids : List Kid) (cut_floors cut_kids index : ℕ) (head : Head) → IsBlock heads floors kids cut_floors cut_kids → index < length heads → head ≡ get_or heads index head → Reads floors kids head (piece_at (cut_pieces heads floors kids) index)
reads heads floors kids cut_floors cut_kids index head is inside read =
    let at : Reads floors kids (get_or heads index head) (piece_at (cut_pieces heads floors kids) index) =
    let f : (get_or heads index head).floors_from ≡ floor_total (take index heads) = floors_begin_at 0 heads index head inside is.floors_begin ∙ zero-add (floor_total (take index heads)) in
    let k : (get_or heads index head).kids_from ≡ kid_total (take index heads) = kids_begin_at 0 heads index head inside is.kids_begin ∙ zero-add (kid_total (take index heads)) in
    let f_end = floors_end_at heads index head inside in
    let k_end = kids_end_at heads index head inside in
    record {
      floors_end = omega (arith, f, f_end, is.floors_are, is.floors_fit);
      kids_end = omega (arith, k, k_end, is.kids_are, is.kids_fit);
      is = cut_at heads floors kids index head inside ∙ (λ i. record { first = (get_or heads index head).first; count = (get_or heads index head).count; floors = take (get_or heads index head).floors (drop (sym f i) floors); kids = take (get_or heads index head).kids (drop (sym k i) kids) });
    } in
    subst (λ h. Reads floors kids h (piece_at (cut_pieces heads floors kids) index)) (sym read) at

pub starts_push : (from : ℕ) (heads : List Head) (head : Head) → map (λ (head : Head). head.floors_from) heads ≡ floor_starts from heads → head.floors_from ≡ from + floor_total heads → map (λ (head : Head). head.floors_from) (heads ++ head ∷ []) ≡ floor_starts from (heads ++ head ∷ [])
starts_push from [] head same begins = ap (λ n. n ∷ []) (begins ∙ omega arith)
starts_push from (h ∷ heads) head same begins = (λ i. get_or (same i) 0 0 ∷ starts_push (from + h.floors) heads head (ap (λ l. drop 1 l) same) (begins ∙ omega arith) i)

pub kid_starts_push : (from : ℕ) (heads : List Head) (head : Head) → map (λ (head : Head). head.kids_from) heads ≡ kid_starts from heads → head.kids_from ≡ from + kid_total heads → map (λ (head : Head). head.kids_from) (heads ++ head ∷ []) ≡ kid_starts from (heads ++ head ∷ [])
kid_starts_push from [] head same begins = ap (λ n. n ∷ []) (begins ∙ omega arith)
kid_starts_push from (h ∷ heads) head same begins = (λ i. get_or (same i) 0 0 ∷ kid_starts_push (from + h.kids) heads head (ap (λ l. drop 1 l) same) (begins ∙ omega arith) i)

pub starts_take : (from : ℕ) (heads : List Head) (n : ℕ) → map (λ (head : Head). head.floors_from) heads ≡ floor_starts from heads → map (λ (head : Head). head.floors_from) (take n heads) ≡ floor_starts from (take n heads)
starts_take from heads zero same = refl
starts_take from [] (suc n) same = refl
starts_take from (h ∷ heads) (suc n) same = λ i. get_or (same i) 0 0 ∷ starts_take (from + h.floors) heads n (ap (λ l. drop 1 l) same) i

pub kid_starts_take : (from : ℕ) (heads : List Head) (n : ℕ) → map (λ (head : Head). head.kids_from) heads ≡ kid_starts from heads → map (λ (head : Head). head.kids_from) (take n heads) ≡ kid_starts from (take n heads)
kid_starts_take from heads zero same = refl
kid_starts_take from [] (suc n) same = refl
kid_starts_take from (h ∷ heads) (suc n) same = λ i. get_or (same i) 0 0 ∷ kid_starts_take (from + h.kids) heads n (ap (λ l. drop 1 l) same) i

-- the last closed piece is the open one, with the head that it had
pub record Reopens (closed : List Bare) (heads : List Head) (floors : List Floor) (kids : List Kid) (head : Head) : Type 0 where
  pub block : IsBlock heads floors kids head.floors_from head.kids_from
  pub same : closed ≡ cut_pieces heads floors kids ++ record { first = head.first; count = head.count; floors = drop head.floors_from floors; kids = drop head.kids_from kids } ∷ []

reopens_taken : (heads : List Head) (floors : List Floor) (kids : List Kid) (cut_floors cut_kids last : ℕ) (head : Head) → IsBlock heads floors kids cut_floors cut_kids → length heads ≡ last + 1 → head ≡ get_or heads last head → Reopens (cut_pieces heads floors kids) (take last heads) (take cut_floors floors) (take cut_kids kids) head
reopens_taken heads floors kids cut_floors cut_kids last head is count read =
    let front = take last heads in
    let inside : last < length heads = omega (arith, count) in
    let split : front ++ head ∷ [] ≡ heads = ap (λ h. front ++ h ∷ []) read ∙ sym (take_more heads last head inside) ∙ take_all (last + 1) heads (omega (arith, count)) in
    let at : Reads floors kids head (piece_at (cut_pieces heads floors kids) last) = reads heads floors kids cut_floors cut_kids last head is inside read in
    let begin : head.floors_from ≡ floor_total front = ap (λ h. h.floors_from) read ∙ floors_begin_at 0 heads last head inside is.floors_begin ∙ zero-add (floor_total front) in
    let kids_at : head.kids_from ≡ kid_total front = ap (λ h. h.kids_from) read ∙ kids_begin_at 0 heads last head inside is.kids_begin ∙ zero-add (kid_total front) in
    let all = sym (floors_push front head) ∙ ap floor_total split in
    let all_kids = sym (kids_push front head) ∙ ap kid_total split in
    let f_len = length-take-le cut_floors floors is.floors_fit in
    let k_len = length-take-le cut_kids kids is.kids_fit in
    record {
      block = record {
        floors_are = begin;
        kids_are = kids_at;
        floors_fit = omega (arith, begin, all, f_len, is.floors_are);
        kids_fit = omega (arith, kids_at, all_kids, k_len, is.kids_are);
        floors_begin = starts_take 0 heads last is.floors_begin;
        kids_begin = kid_starts_take 0 heads last is.kids_begin;
      };
      same =
          ap (λ l. cut_pieces heads l kids) (sym (take-append-drop cut_floors floors))
          ∙ ap (λ l. cut_pieces heads (take cut_floors floors ++ drop cut_floors floors) l) (sym (take-append-drop cut_kids kids))
          ∙ cut_more heads (take cut_floors floors) (drop cut_floors floors) (take cut_kids kids) (drop cut_kids kids) (omega (arith, f_len, is.floors_are)) (omega (arith, k_len, is.kids_are))
          ∙ ap (λ l. cut_pieces l (take cut_floors floors) (take cut_kids kids)) (sym split)
          ∙ cut_close front head (take cut_floors floors) (take cut_kids kids) head.floors_from head.kids_from begin kids_at (omega (arith, begin, all, f_len, is.floors_are)) (omega (arith, kids_at, all_kids, k_len, is.kids_are));
    }

pub reopens : (heads : List Head) (floors : List Floor) (kids : List Kid) (cut_floors cut_kids last : ℕ) (head : Head) (front : List Head) (floors1 : List Floor) (kids1 : List Kid) → IsBlock heads floors kids cut_floors cut_kids → length heads ≡ last + 1 → head ≡ get_or heads last head → front ≡ take last heads → floors1 ≡ take cut_floors floors → kids1 ≡ take cut_kids kids → Reopens (cut_pieces heads floors kids) front floors1 kids1 head
reopens heads floors kids cut_floors cut_kids last head front floors1 kids1 is count read f g h =
    let closed = cut_pieces heads floors kids in
    subst (λ l. Reopens closed l floors1 kids1 head) (sym f) (subst (λ l. Reopens closed (take last heads) l kids1 head) (sym g) (subst (λ l. Reopens closed (take last heads) (take cut_floors floors) l head) (sym h) (reopens_taken heads floors kids cut_floors cut_kids last head is count read)))

-- floors off the end of the open piece change nothing
pub cut_fewer : (heads : List Head) (floors : List Floor) (kids : List Kid) (n : ℕ) → kid_total heads ≤ length kids → floor_total heads ≤ n → n ≤ length floors → cut_pieces heads (take n floors) kids ≡ cut_pieces heads floors kids
cut_fewer heads floors kids n k f less =
    let count = length-take n floors in
    sym (cut_more heads (take n floors) (drop n floors) kids [] (omega (arith, f, less, count)) k) ∙ ap (λ l. cut_pieces heads (take n floors ++ drop n floors) l) (append-nil kids) ∙ ap (λ l. cut_pieces heads l kids) (take-append-drop n floors)
