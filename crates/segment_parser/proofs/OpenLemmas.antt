-- An open piece beside other pieces, where it is reduced.
use Rattle.std.proofs.Common.{◌≡◌, ℕ, ◌+◌, ◌-◌, ◌<◌, List, [], ◌∷◌, ◌++◌, length, take, slice_set, All, Some, refl, sym, ap, ◌∙◌, subst, arith}
use Rattle.std.proofs.lemmas.List.{length-append}
use Rattle.std.proofs.lemmas.List.Elements.{All-push}
use Rattle.grammar_data.specs.declared.rule.Sym.{Sym}
use Rattle.grammar_data.specs.declared.token.Token.{Token as TextToken}
use Rattle.grammar_theory.specs.Rules.{IsRule}
use Rattle.node_data.specs.declared.kid.Kid.{Kid}
use Rattle.node_data.specs.declared.kid.Kid.TheVariants.{Node as NodeKid}
use Rattle.tree_theory.specs.Stores.{Ref, Store}
use Rattle.tree_theory.specs.Walks.{Step}
use Rattle.table_data.specs.Tables.{Tables}
use Rattle.lawful_theory.specs.Lawful.{IsLawful}
use Rattle.map_theory.specs.Maps.{StateMap}
use Rattle.map_theory.specs.Agreements.{AllReduce}
use Rattle.map_theory.specs.Relations.{AreAlive}
use Rattle.piece_theory.specs.Pieces.{Opened, Floor, Held, Piece, openings, opening_before, kids_of}
use Rattle.context_laws.specs.Contexts.{LeadFromStates}
use Rattle.leaf_laws.specs.Leaves.{IsOpenPiece, NoneErrs}
use Rattle.leaf_laws.specs.Steps.{LooksAt, PutsNode, TakesSome, TakesAll, OpensFloor}
use Rattle.leaf_laws.proofs.StepLemmas.{open_looks_law, open_takes_some_law, open_takes_fresh_law, open_takes_all_law, open_floor_law}
use Rattle.walk_laws.specs.Walked.{IsWalked, AddsNode}
use Rattle.walk_laws.proofs.StepLemmas.{looked_walk_law, reduced_walk_law, floor_walk_law}
use Rattle.segment_laws.proofs.KidLemmas.{kids-append, openings-append, openings_same}
use Rattle.look_laws.specs.Deaths.{deaths}
use Rattle.look_laws.proofs.DeathLemmas.{open_looks_by_deaths_law}
use Rattle.arrow_table.specs.Looks.{Grows, HasMap, map_at}
use Rattle.segment_parser.specs.declared.leaf.Leaf.{Leaf}
use Rattle.segment_parser.specs.Working.{held_of, last_id, AreThere}
use Rattle.segment_parser.specs.Standing.{last_in, piece_in}
use Rattle.segment_parser.specs.Opening.{IsOpenIn}
use Rattle.segment_parser.proofs.HeldLemmas.{LastHeld, front_there, held_grows, held_last, held_push, last_pushed, length_held, last_there}
use Rattle.segment_parser.proofs.AtLemmas.{last_same, has_more, last_grows, piece_grows, there_grows}
use Rattle.segment_parser.proofs.LookLemmas.{HasDied, set_last}
use Rattle.segment_parser.proofs.TakeLemmas.{HasTaken, AreCut, IsTopOf, same_top, fresh_top, is_taken, cut_entries, top_of, there_front}
use Rattle.segment_parser.proofs.WholeLemmas.{HasTakenAll, is_taken_all, HasRaised, is_raised}
use Rattle.segment_parser.proofs.ReduceLemmas.{none_grows, all_grows}

-- ---- what is the same by another name

pub open_as : {t : Tables} {store : Store} {p q : Piece} {w next : List TextToken} {lower other : List Floor} {f g : Floor} {under : List Held} {h : Held} {stale stale1 : ℕ} → p ≡ q → lower ≡ other → f ≡ g → stale ≡ stale1 → IsOpenPiece t store p w next lower f under h stale → IsOpenPiece t store q w next other g under h stale1
open_as {t} {store} {p} {q} {w} {next} {lower} {other} {f} {g} {under} {h} {stale} {stale1} same_piece same_lower same_floor same_stale piece =
    let one : IsOpenPiece t store q w next lower f under h stale = subst (λ x. IsOpenPiece t store x w next lower f under h stale) same_piece piece in
    let two : IsOpenPiece t store q w next other f under h stale = subst (λ x. IsOpenPiece t store q w next x f under h stale) same_lower one in
    let three : IsOpenPiece t store q w next other g under h stale = subst (λ x. IsOpenPiece t store q w next other x under h stale) same_floor two in
    subst (λ (x : ℕ). IsOpenPiece t store q w next other g under h x) same_stale three

pub open_grows : {t : Tables} {store : Store} (maps new : List StateMap) {s : Leaf} {nodes : List Ref} {front : List Step} {w next : List TextToken} → Grows maps new → IsOpenIn t store maps s nodes front w next → IsOpenIn t store new s nodes front w next
open_grows {t} {store} maps new {s} {nodes} {front} {w} {next} grows is =
    let piece = piece_grows maps new s grows is.has in
    record {
      has = has_more maps new s grows is.has;
      under = is.under;
      last = is.last;
      open_piece = open_as (sym piece) refl (sym (last_grows maps new s grows is.has.starts)) refl is.open_piece;
      walked = subst (λ p. IsWalked store nodes front p w) (sym piece) is.walked;
    }

open_last : {t : Tables} {store : Store} {maps : List StateMap} {s : Leaf} {nodes : List Ref} {front : List Step} {w next : List TextToken} (is : IsOpenIn t store maps s nodes front w next) → LastHeld maps s.block.kids s.ids.items is.under is.last
open_last {maps = maps} {s = s} is = held_last maps s.block.kids s.ids.items is.under is.last is.has.even is.open_piece.growing.on_stack

open_map : {t : Tables} {store : Store} {maps : List StateMap} {s : Leaf} {nodes : List Ref} {front : List Step} {w next : List TextToken} (is : IsOpenIn t store maps s nodes front w next) → map_at maps (last_id s.ids.items) ≡ is.last.states
open_map {maps = maps} is =
    let last = open_last is in
    ap (λ k. map_at maps k) (ap last_id last.ids_are ∙ last_pushed last.low last.id) ∙ sym (ap (λ (h : Held). h.states) last.last_is)

open_entry : {t : Tables} {store : Store} {maps : List StateMap} {s : Leaf} {nodes : List Ref} {front : List Step} {w next : List TextToken} → IsOpenIn t store maps s nodes front w next → 0 < length s.ids.items
open_entry is =
    let last = open_last is in
    let count = ap length last.ids_are ∙ length-append last.low (last.id ∷ []) in
    omega (arith, count)

-- ---- the walk

adds : {t : Tables} {store new : Store} {r n : ℕ} {right : List Sym} {m : Ref} {held : Held} {kids : List Kid} → PutsNode t store new r n right m held → new m ≡ Some (r, kids) → AddsNode store new m r kids
adds puts at = record { fresh = puts.absent; found = at; others = puts.others }

some_walked : {t : Tables} {store new : Store} {nodes : List Ref} {front : List Step} {p after : Piece} {w : List TextToken} {r n : ℕ} {right : List Sym} {m : Ref} {low taken : List Held} {top fresh held : Held} → IsWalked store nodes front p w → PutsNode t store new r n right m held → TakesSome t new p after r n right m low taken top fresh held → fresh.kid ≡ top.kid → after.count ≡ p.count → IsWalked new nodes front after w
some_walked {store = store} {new = new} {nodes = nodes} {front = front} {p = p} {after = after} {w = w} {r = r} {m = m} {low = low} {taken = taken} {top = top} {fresh = fresh} {held = held} walked puts takes kid count =
    let keep = kids_of (low ++ top ∷ []) in
    let kids : kids_of p.stack ≡ keep ++ kids_of taken = ap kids_of takes.parts ∙ kids-append (low ++ top ∷ []) taken in
    let kept : kids_of (low ++ fresh ∷ []) ≡ keep = kids-append low (fresh ∷ []) ∙ ap (λ k. kids_of low ++ k ∷ []) kid ∙ sym (kids-append low (top ∷ [])) in
    let now : kids_of after.stack ≡ keep ++ NodeKid m ∷ [] = ap kids_of takes.stack ∙ kids-append (low ++ fresh ∷ []) (held ∷ []) ∙ ap (λ l. l ++ held.kid ∷ []) kept ∙ ap (λ k. keep ++ k ∷ []) puts.kid in
    reduced_walk_law store new nodes front p after w m r keep (kids_of taken) walked (adds puts takes.node) (record { first = takes.first; count = count; floors = ap openings takes.floors }) kids now

all_walked : {t : Tables} {store new : Store} {nodes : List Ref} {front : List Step} {p after : Piece} {w : List TextToken} {f : Floor} {r n : ℕ} {right : List Sym} {m : Ref} {held : Held} → IsWalked store nodes front p w → PutsNode t store new r n right m held → TakesAll t new p after f r n right m held → after.count ≡ p.count → IsWalked new nodes front after w
all_walked {store = store} {new = new} {nodes = nodes} {front = front} {p = p} {after = after} {w = w} {r = r} {m = m} walked puts takes count =
    let now : kids_of after.stack ≡ NodeKid m ∷ [] = ap kids_of takes.stack ∙ ap (λ k. k ∷ []) puts.kid in
    reduced_walk_law store new nodes front p after w m r [] (kids_of p.stack) walked (adds puts takes.node) (record { first = takes.first; count = count; floors = ap openings takes.floors }) refl now

floor_walked : {t : Tables} {store new : Store} {nodes : List Ref} {front : List Step} {p after : Piece} {w : List TextToken} {f g : Floor} {r n hidden : ℕ} {right : List Sym} {m : Ref} {held : Held} → IsWalked store nodes front p w → PutsNode t store new r n right m held → OpensFloor t new p after f g r n hidden right m held → after.count ≡ p.count → IsWalked new nodes front after w
floor_walked {store = store} {new = new} {nodes = nodes} {front = front} {p = p} {after = after} {w = w} {g = g} {r = r} {hidden = hidden} {m = m} walked puts opens count =
    let opened : Opened = record { rule = r; hidden = hidden; node = m } in
    let floors : openings after.floors ≡ openings p.floors ++ opened ∷ [] = ap openings opens.floors ∙ openings-append p.floors (g ∷ []) ∙ ap (λ o. openings p.floors ++ opening_before o []) opens.opened in
    let now : kids_of after.stack ≡ NodeKid m ∷ [] = ap kids_of opens.stack ∙ ap (λ k. k ∷ []) puts.kid in
    floor_walk_law store new nodes front p after w opened walked (adds puts opens.node) opens.first count floors now

-- ---- a reduction that takes fewer entries than there are

pub reduce_some_open : (t : Tables) → IsLawful t → (store new : Store) (maps final : List StateMap) (s after : Leaf) (r n count : ℕ) (right : List Sym) (m : Ref) → IsRule t.rules r n right → count ≡ length right → count < length s.ids.items → Grows maps final → HasTaken t store new final s after r n count m
    → (nodes : List Ref) (front : List Step) (w : List TextToken) (token : TextToken) → IsOpenIn t store maps s nodes front w (token ∷ []) → NoneErrs t token.id (map_at maps (last_id s.ids.items)) → AllReduce t token.id r (map_at maps (last_id s.ids.items))
    → IsOpenIn t new final after nodes front w (token ∷ [])
reduce_some_open t lawful store new maps final s after r n count right m rule sized less grows taken nodes front w token was none all = cases (cut_entries final s count less is.has.even)
  where
    is : IsOpenIn t store final s nodes front w (token ∷ [])
    is = open_grows maps final grows was

    none_errs : NoneErrs t token.id is.last.states
    none_errs = subst (λ l. NoneErrs t token.id l) (open_map is) (none_grows t maps final s token.id grows was.has (open_entry was) none)

    all_reduce : AllReduce t token.id r is.last.states
    all_reduce = subst (λ l. AllReduce t token.id r l) (open_map is) (all_grows t maps final s token.id r grows was.has (open_entry was) all)

    held : Held
    held = record { kid = NodeKid m; states = map_at final taken.to }

    by_top : (cut : AreCut final s count) → IsTopOf final s.starts s.stale after.stale cut.low cut.id taken.low → IsOpenIn t new final after nodes front w (token ∷ [])
    by_top cut (same_top less same_stale same_low) =
        let inside : cut.id < length final = last_there final cut.low cut.id (there_front final (cut.low ++ cut.id ∷ []) cut.others (subst (λ l. All {X = ℕ} (λ id. id < length final) l) cut.ids_whole is.has.there)) in
        let top : Held = record { kid = cut.kid; states = map_at final cut.id } in
        let low = held_of final cut.below cut.low in
        let deep : length low ≡ length cut.low = length_held final cut.below cut.low cut.even in
        let took = is_taken t store new final s after r n count cut.id right m is.has rule sized taken cut same_low inside in
        let piece = open_takes_fresh_law t lawful store new (piece_in final s) (piece_in final after) w token s.block.floors (last_in final s) is.under is.last s.stale r n right m low (held_of final cut.dropped cut.others) top held is.open_piece none_errs all_reduce took.puts took.takes (omega (arith, deep, less)) in
        record {
          has = took.has;
          under = low ++ top ∷ [];
          last = held;
          open_piece = open_as refl (sym taken.same.floors) (sym (last_same final s after taken.same)) (sym same_stale) piece;
          walked = some_walked is.walked took.puts took.takes refl taken.tokens;
        }
    by_top cut (fresh_top x same_stale same_low has) =
        let top : Held = record { kid = cut.kid; states = map_at final cut.id } in
        let fresh : Held = record { kid = cut.kid; states = map_at final x } in
        let low = held_of final cut.below cut.low in
        let deep : length low ≡ length cut.low = length_held final cut.below cut.low cut.even in
        let took = is_taken t store new final s after r n count x right m is.has rule sized taken cut same_low has.within in
        let piece = open_takes_some_law t lawful store new (piece_in final s) (piece_in final after) w token s.block.floors (last_in final s) is.under is.last s.stale r n right m low (held_of final cut.dropped cut.others) top fresh held is.open_piece none_errs all_reduce took.puts took.takes (record { kid = refl; states = has.is }) in
        record {
          has = took.has;
          under = low ++ fresh ∷ [];
          last = held;
          open_piece = open_as refl (sym taken.same.floors) (sym (last_same final s after taken.same)) (deep ∙ sym same_stale) piece;
          walked = some_walked is.walked took.puts took.takes refl taken.tokens;
        }

    cases : AreCut final s count → IsOpenIn t new final after nodes front w (token ∷ [])
    cases cut = by_top cut (top_of final s.starts s.stale after.stale (length s.ids.items - count - 1) (take (length s.ids.items - count) s.ids.items) taken.low cut.low cut.id cut.ids_front cut.depth taken.fresh)

-- ---- a reduction that takes all entries

pub reduce_all_open : (t : Tables) → IsLawful t → (store new : Store) (maps final : List StateMap) (s after : Leaf) (r n : ℕ) (right : List Sym) (m : Ref) → IsRule t.rules r n right → length s.ids.items ≡ length right → Grows maps final → HasTakenAll t store new final s after r n m
    → (nodes : List Ref) (front : List Step) (w : List TextToken) (token : TextToken) → IsOpenIn t store maps s nodes front w (token ∷ []) → NoneErrs t token.id (map_at maps (last_id s.ids.items)) → AllReduce t token.id r (map_at maps (last_id s.ids.items))
    → IsOpenIn t new final after nodes front w (token ∷ [])
reduce_all_open t lawful store new maps final s after r n right m rule sized grows taken nodes front w token was none all =
    let is = open_grows maps final grows was in
    let held : Held = record { kid = NodeKid m; states = map_at final taken.to } in
    let none_errs : NoneErrs t token.id is.last.states = subst (λ l. NoneErrs t token.id l) (open_map is) (none_grows t maps final s token.id grows was.has (open_entry was) none) in
    let all_reduce : AllReduce t token.id r is.last.states = subst (λ l. AllReduce t token.id r l) (open_map is) (all_grows t maps final s token.id r grows was.has (open_entry was) all) in
    let took = is_taken_all t store new final s after r n right m is.has rule sized taken in
    let piece = open_takes_all_law t lawful store new (piece_in final s) (piece_in final after) w token s.block.floors (last_in final s) is.under is.last s.stale r n right m held is.open_piece none_errs all_reduce took.puts took.takes in
    record {
      has = took.has;
      under = [];
      last = held;
      open_piece = open_as refl (sym taken.same.floors) (sym (last_same final s after taken.same)) (sym taken.stale) piece;
      walked = all_walked is.walked took.puts took.takes taken.tokens;
    }

-- ---- a reduction that takes all entries and more

pub reduce_more_open : (t : Tables) → IsLawful t → (store new : Store) (maps final : List StateMap) (s after : Leaf) (r n hidden : ℕ) (right : List Sym) (m : Ref) → IsRule t.rules r n right → 0 < hidden → hidden + length s.ids.items ≡ length right → Grows maps final → HasRaised t store new final s after r n hidden right m
    → (nodes : List Ref) (front : List Step) (w : List TextToken) (token : TextToken) → IsOpenIn t store maps s nodes front w (token ∷ []) → NoneErrs t token.id (map_at maps (last_id s.ids.items)) → AllReduce t token.id r (map_at maps (last_id s.ids.items))
    → IsOpenIn t new final after nodes front w (token ∷ [])
reduce_more_open t lawful store new maps final s after r n hidden right m rule some sized grows raised nodes front w token was none all =
    let is = open_grows maps final grows was in
    let held : Held = record { kid = NodeKid m; states = map_at final raised.to } in
    let none_errs : NoneErrs t token.id is.last.states = subst (λ l. NoneErrs t token.id l) (open_map is) (none_grows t maps final s token.id grows was.has (open_entry was) none) in
    let all_reduce : AllReduce t token.id r is.last.states = subst (λ l. AllReduce t token.id r l) (open_map is) (all_grows t maps final s token.id r grows was.has (open_entry was) all) in
    let up = is_raised t store new final s after r n hidden right m is.has rule some sized raised in
    let piece = open_floor_law t lawful store new (piece_in final s) (piece_in final after) w token s.block.floors (last_in final s) (last_in final after) is.under is.last s.stale r n hidden right m held is.open_piece none_errs all_reduce up.puts up.opens in
    record {
      has = up.has;
      under = [];
      last = held;
      open_piece = open_as refl (sym raised.floors) refl (sym raised.stale) piece;
      walked = floor_walked is.walked up.puts up.opens raised.tokens;
    }

-- ---- a look at which starts err

pub die_open : (t : Tables) → IsLawful t → LeadFromStates t → (store : Store) (maps new : List StateMap) (s after : Leaf) (nodes : List Ref) (front : List Step) (w : List TextToken) (token : TextToken) (alive : ℕ) → IsOpenIn t store maps s nodes front w (token ∷ []) → HasMap maps alive (AreAlive t token.id (map_at maps (last_id s.ids.items))) → HasDied t maps new token alive s after
    → IsOpenIn t store new after nodes front w (token ∷ [])
die_open t lawful lead store maps new s after nodes front w token alive is is_alive died =
    let last = open_last is in
    let map = open_map is in
    let fresh : Held = record { kid = last.kid; states = map_at maps alive } in
    let id_count = ap length last.ids_are ∙ length-append last.low (last.id ∷ []) in
    let place : length s.ids.items - 1 ≡ length last.low = omega (arith, id_count) in
    let ids : after.ids.items ≡ last.low ++ alive ∷ [] = died.ids ∙ ap (λ l. slice_set l (length s.ids.items - 1) alive) last.ids_are ∙ set_last last.low last.id alive (length s.ids.items - 1) place in
    let there : AreThere maps (last.low ++ alive ∷ []) = All-push {X = ℕ} (λ id. id < length maps) last.low alive (front_there maps last.low last.id (subst (λ l. AreThere maps l) last.ids_are is.has.there)) is_alive.within in
    let kids : after.block.kids ≡ last.below ++ last.kid ∷ [] = ap (λ b. b.kids) died.block ∙ last.kids_are in
    let stack : held_of new after.block.kids after.ids.items ≡ is.under ++ fresh ∷ [] = (λ i. held_of new (kids i) (ids i)) ∙ held_grows maps new died.grows (last.below ++ last.kid ∷ []) (last.low ++ alive ∷ []) there ∙ held_push maps last.below last.low last.kid alive last.even ∙ ap (λ l. l ++ fresh ∷ []) (sym last.under_is) in
    let looked = piece_in new after in
    let g = last_in new after in
    let counted : length w ≡ s.count = is.walked.has.counted in
    let faults : after.faults ≡ s.faults ++ deaths t token (length w) is.last.states = died.faults ∙ (λ i. s.faults ++ deaths t token (sym counted i) (map i)) in
    let floors : looked.floors ≡ s.block.floors ++ g ∷ [] = ap (λ b. b.floors ++ g ∷ []) died.block in
    let kid : fresh.kid ≡ is.last.kid = sym (ap (λ (h : Held). h.kid) last.last_is) in
    let living : AreAlive t token.id is.last.states (map_at maps alive) = subst (λ m. AreAlive t token.id m (map_at maps alive)) map is_alive.is in
    let looks : LooksAt t token (length w) (piece_in maps s) looked s.block.floors (last_in maps s) g is.under is.last fresh = open_looks_by_deaths_law t lawful lead store (piece_in maps s) looked w token s.block.floors (last_in maps s) g is.under is.last fresh s.stale is.open_piece died.first floors stack died.opened died.starts.is faults kid living in
    let piece = open_looks_law t store (piece_in maps s) looked w token s.block.floors (last_in maps s) g is.under is.last fresh s.stale is.open_piece looks in
    let under_count = ap length last.under_is ∙ length_held maps last.below last.low last.even in
    let stale : length is.under ≡ after.stale = omega (arith, under_count, place, died.stale) in
    let openings_are : openings looked.floors ≡ openings (piece_in maps s).floors = ap openings floors ∙ openings_same s.block.floors (last_in maps s) g looks.moved.opened in
    let kids_are : kids_of looked.stack ≡ kids_of (piece_in maps s).stack = ap kids_of stack ∙ kids-append is.under (fresh ∷ []) ∙ ap (λ k. kids_of is.under ++ k ∷ []) looks.is_fresh.kid ∙ sym (kids-append is.under (is.last ∷ [])) ∙ ap kids_of (sym is.open_piece.growing.on_stack) in
    record {
      has = record {
        even = (let e = ap length kids ∙ length-append last.below (last.kid ∷ []) in let f = ap length ids ∙ length-append last.low (alive ∷ []) in let same = last.even in omega (arith, e, f, same));
        there = subst (λ l. AreThere new l) (sym ids) (there_grows maps new died.grows (last.low ++ alive ∷ []) there);
        starts = died.starts.within;
        own = died.own;
      };
      under = is.under;
      last = fresh;
      open_piece = open_as refl (ap (λ b. b.floors) (sym died.block)) refl stale piece.0;
      walked = looked_walk_law store nodes front (piece_in maps s) looked w is.walked (record { first = looks.first; count = died.count; floors = openings_are }) kids_are;
    }
