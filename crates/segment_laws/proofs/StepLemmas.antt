-- The parse of a segment at each step of its open piece.
use Rattle.std.proofs.Common.{◌≡◌, ℕ, List, [], ◌∷◌, ◌++◌, Option, Some, None, refl, sym, ap, ◌∙◌, subst, append_assoc, arith}
use Rattle.grammar_data.specs.declared.rule.Sym.{Sym}
use Rattle.grammar_data.specs.declared.token.Token.{Token as TextToken}
use Rattle.node_data.specs.declared.kid.Kid.{Kid}
use Rattle.node_data.specs.declared.kid.Kid.TheVariants.{Token as TokenKid, Node as NodeKid}
use Rattle.tree_theory.specs.Stores.{Ref, Store}
use Rattle.table_data.specs.Tables.{Tables}
use Rattle.use_theory.specs.Distinct.{IsDistinct}
use Rattle.piece_theory.specs.Pieces.{Opened, Floor, Held, Piece, openings, opening_before, kids_of}
use Rattle.piece_theory.specs.Lists.{ArePieces, no_piece, nodes_of_floors}
use Rattle.piece_theory.specs.Laws.{HasMore}
use Rattle.piece_theory.proofs.StoreLemmas.{walk_all_more}
use Rattle.walk_laws.specs.Walked.{IsWalked, AddsNode}
use Rattle.walk_laws.proofs.StepLemmas.{adds_more, opened_walk_law, looked_walk_law, shifted_walk_law, reduced_walk_law, floor_walk_law}
use Rattle.list_laws.proofs.ListLemmas.{pieces_more}
use Rattle.leaf_laws.specs.Steps.{Opens, PutsNode}
use Rattle.leaf_laws.specs.Closing.{AreClosed}
use Rattle.segment_laws.specs.Parsing.{HaveParts, no_parts_left, part_first, IsParsing}
use Rattle.segment_laws.specs.Laws.{HasNoNodes, BeginsLaw, LooksParsingLaw, ShiftsParsingLaw, TakesSomeParsingLaw, TakesAllParsingLaw, OpensFloorParsingLaw}
use Rattle.segment_laws.proofs.KidLemmas.{kids-append, openings-append, openings_same}

-- ---- the beginning

nothing_there : (store : Store) → HasNoNodes store → (m : Ref) {r : ℕ} {kids : List Kid} → store m ≡ Some (r, kids) → ⊥
nothing_there store none m at = contradiction (sym (none m) ∙ at)
  where
    contradiction : {r : ℕ} {kids : List Kid} → ◌≡◌ {A = Option (ℕ × List Kid)} None (Some (r, kids)) → ⊥
    contradiction e = cc

pub no_node_distinct : (store : Store) → HasNoNodes store → IsDistinct store [] []
no_node_distinct store none = record {
  once = λ m. omega arith;
  used = λ m r kids at. absurd (nothing_there store none m at);
  there = λ m less. absurd (omega (arith, less));
  hidden = λ m r kids at has. absurd (nothing_there store none m at);
  within = λ m. omega arith;
}

pub opened_kids : {t : Tables} {p : Piece} {f : Floor} {h : Held} → Opens t p f h → kids_of p.stack ≡ TokenKid p.first ∷ []
opened_kids opens = ap kids_of opens.stack ∙ ap (λ k. k ∷ []) opens.kid

pub begins_law : BeginsLaw
begins_law t store p f h rest none opens count = record {
  before = [];
  front = [];
  closed = no_piece;
  walked = opened_walk_law store [] [] p f (no_node_distinct store none) opens.floors opens.unopened (opened_kids opens) count;
  parts = refl;
  closed_parts = [];
  are_parts = λ others are. are;
  have = no_parts_left;
}

-- ---- steps

-- in a store that has more nodes each piece has its part
pub parts_more : {store new : Store} → HasMore store new → {ps : List Piece} {parts : List (List TextToken)} → HaveParts store ps parts → HaveParts new ps parts
parts_more has no_parts_left = no_parts_left
parts_more has (part_first yield rest) = part_first (record { steps = yield.steps; walk = walk_all_more has yield.walk; yields = yield.yields }) (parts_more has rest)

stepped : {t : Tables} {store new : Store} {tokens : List TextToken} {ps : List Piece} {p after : Piece} {w rest : List TextToken} (was : IsParsing t store tokens ps p w rest) → HasMore store new → after.first ≡ p.first → IsWalked new (nodes_of_floors ps) was.front after w → IsParsing t new tokens ps after w rest
stepped {t} {new = new} {ps = ps} was more first walked = record {
  before = was.before;
  front = was.front;
  closed = subst (λ x. ArePieces t new (x ∷ []) ps was.before was.front) (sym first) (pieces_more more was.closed);
  walked = walked;
  parts = was.parts;
  closed_parts = was.closed_parts;
  are_parts = was.are_parts;
  have = parts_more more was.have;
}

no_more : (store : Store) → HasMore store store
no_more store m r kids at = at

pub looks_parsing_law : LooksParsingLaw
looks_parsing_law t store tokens ps p looked w rest token index lower f g under h fresh was on_floors on_stack looks count =
    let floors : openings looked.floors ≡ openings p.floors = ap openings looks.floors ∙ openings_same lower f g looks.moved.opened ∙ ap openings (sym on_floors) in
    let kids : kids_of looked.stack ≡ kids_of p.stack = ap kids_of looks.stack ∙ kids-append under (fresh ∷ []) ∙ ap (λ k. kids_of under ++ k ∷ []) looks.is_fresh.kid ∙ sym (kids-append under (h ∷ [])) ∙ ap kids_of (sym on_stack) in
    stepped was (no_more store) looks.first (looked_walk_law store (nodes_of_floors ps) was.front p looked w was.walked (record { first = looks.first; count = count; floors = floors }) kids)

pub shifts_parsing_law : ShiftsParsingLaw
shifts_parsing_law t store tokens ps p after w rest token h new was shifts count =
    let kids : kids_of after.stack ≡ kids_of p.stack ++ TokenKid token ∷ [] = ap kids_of shifts.stack ∙ kids-append p.stack (new ∷ []) ∙ ap (λ k. kids_of p.stack ++ k ∷ []) shifts.kid in
    let walked = shifted_walk_law store (nodes_of_floors ps) was.front p after w token was.walked shifts.first count (ap openings shifts.floors) kids in
    let same : w ++ token ∷ rest ≡ (w ++ token ∷ []) ++ rest = sym (append_assoc w (token ∷ []) rest) in
    record {
      before = was.before;
      front = was.front;
      closed = subst (λ x. ArePieces t store (x ∷ []) ps was.before was.front) (sym shifts.first) was.closed;
      walked = walked;
      parts = was.parts ∙ ap (λ l. was.before ++ l) same;
      closed_parts = was.closed_parts;
      are_parts = subst (λ l. AreClosed t tokens was.closed_parts l) same was.are_parts;
      have = was.have;
    }

puts_adds : {t : Tables} {store new : Store} {r n : ℕ} {right : List Sym} {m : Ref} {held : Held} {kids : List Kid} → PutsNode t store new r n right m held → new m ≡ Some (r, kids) → AddsNode store new m r kids
puts_adds puts at = record { fresh = puts.absent; found = at; others = puts.others }

pub takes_some_parsing_law : TakesSomeParsingLaw
takes_some_parsing_law t store new tokens ps p after w rest r n right m low taken top fresh held was puts takes kid count =
    let adds = puts_adds puts takes.node in
    let keep = kids_of (low ++ top ∷ []) in
    let kids : kids_of p.stack ≡ keep ++ kids_of taken = ap kids_of takes.parts ∙ kids-append (low ++ top ∷ []) taken in
    let kept : kids_of (low ++ fresh ∷ []) ≡ keep = kids-append low (fresh ∷ []) ∙ ap (λ k. kids_of low ++ k ∷ []) kid ∙ sym (kids-append low (top ∷ [])) in
    let now : kids_of after.stack ≡ keep ++ NodeKid m ∷ [] = ap kids_of takes.stack ∙ kids-append (low ++ fresh ∷ []) (held ∷ []) ∙ ap (λ l. l ++ held.kid ∷ []) kept ∙ ap (λ k. keep ++ k ∷ []) puts.kid in
    stepped was (adds_more adds) takes.first (reduced_walk_law store new (nodes_of_floors ps) was.front p after w m r keep (kids_of taken) was.walked adds (record { first = takes.first; count = count; floors = ap openings takes.floors }) kids now)

pub takes_all_parsing_law : TakesAllParsingLaw
takes_all_parsing_law t store new tokens ps p after w rest f r n right m held was puts takes count =
    let adds = puts_adds puts takes.node in
    let now : kids_of after.stack ≡ NodeKid m ∷ [] = ap kids_of takes.stack ∙ ap (λ k. k ∷ []) puts.kid in
    stepped was (adds_more adds) takes.first (reduced_walk_law store new (nodes_of_floors ps) was.front p after w m r [] (kids_of p.stack) was.walked adds (record { first = takes.first; count = count; floors = ap openings takes.floors }) refl now)

pub opens_floor_parsing_law : OpensFloorParsingLaw
opens_floor_parsing_law t store new tokens ps p after w rest f g r n hidden right m held was puts opens count =
    let adds = puts_adds puts opens.node in
    let opened : Opened = record { rule = r; hidden = hidden; node = m } in
    let floors : openings after.floors ≡ openings p.floors ++ opened ∷ [] = ap openings opens.floors ∙ openings-append p.floors (g ∷ []) ∙ ap (λ o. openings p.floors ++ opening_before o []) opens.opened in
    let now : kids_of after.stack ≡ NodeKid m ∷ [] = ap kids_of opens.stack ∙ ap (λ k. k ∷ []) puts.kid in
    stepped was (adds_more adds) opens.first (floor_walk_law store new (nodes_of_floors ps) was.front p after w opened was.walked adds opens.first count floors now)
