-- The open piece is closed, and the end of a segment.
use Rattle.std.proofs.Common.{suc, ◌≡◌, ℕ, ◌⊎◌, inl, inr, List, [], ◌∷◌, ◌++◌, length, refl, sym, ap, ◌∙◌, subst, append_assoc, append-nil}
use Rattle.grammar_data.specs.declared.token.Token.{Token as TextToken}
use Rattle.tree_theory.specs.Stores.{Ref, Store}
use Rattle.tree_theory.specs.Walks.{Step}
use Rattle.table_data.specs.Tables.{Tables}
use Rattle.map_theory.specs.Agreements.{NoneLeft, AreSeveral}
use Rattle.part_theory.specs.Parts.{FirstPart, AreParts, no_parts}
use Rattle.use_theory.specs.Distinct.{IsDistinct}
use Rattle.piece_theory.specs.Pieces.{Floor, Held, Piece, openings, floor_nodes}
use Rattle.piece_theory.specs.WellMade.{IsMade}
use Rattle.piece_theory.specs.Lists.{IsStuck, IsStuckUnder, ArePieces, no_piece, nodes_of_floors}
use Rattle.walk_laws.specs.Walked.{HasWalk, IsWalked}
use Rattle.walk_laws.proofs.StepLemmas.{opened_walk_law, looked_walk_law, made_law}
use Rattle.list_laws.proofs.ListLemmas.{piece_pushed_law, floors_then_law}
use Rattle.level_laws.specs.Laws.{AreFresh}
use Rattle.level_laws.proofs.GrowingLemmas.{last_map_law}
use Rattle.leaf_laws.specs.Leaves.{IsLeaf}
use Rattle.leaf_laws.specs.Closing.{StandsAlone}
use Rattle.leaf_laws.proofs.PartLemmas.{closes_law, stands_law}
use Rattle.segment_laws.specs.Parsing.{HasYield, HaveParts, no_parts_left, part_first, IsParsing}
use Rattle.segment_laws.specs.Laws.{NoTokensLaw, NumberLaw, IsClosedAs, ClosedLaw, ClosesParsingLaw, EndsParsingLaw}
use Rattle.segment_laws.proofs.KidLemmas.{fresh_of, fresh_kids, fresh_last, fresh_same, none_same, several_same}
use Rattle.segment_laws.proofs.StepLemmas.{no_node_distinct, opened_kids}

pub no_tokens_law : NoTokensLaw
no_tokens_law t store none = (record { steps = []; pieces = no_piece; each_once = no_node_distinct store none }, ([], no_parts, no_parts_left))

pub closed_law : ClosedLaw
closed_law t store p w next lower f under h stale leaf =
    let fresh = fresh_of leaf.growing.maps in
    (record { first = p.first; count = p.count; floors = p.floors; stack = fresh.0 }, record { first = refl; count = refl; floors = refl; maps = fresh.1 })

-- ---- the closed piece

-- it is the leaf with other maps
same_piece : (p closed : Piece) (f : Floor) → IsClosedAs p closed f → record p { stack = closed.stack } ≡ closed
same_piece p closed f is = λ i. record { first = sym is.first i; count = sym is.count i; floors = sym is.floors i; stack = closed.stack }

closed_stands : {t : Tables} {store : Store} {p closed : Piece} {w next : List TextToken} {lower : List Floor} {f : Floor} {under : List Held} {h : Held} {stale : ℕ} → IsLeaf t store p w next lower f under h stale → IsClosedAs p closed f → StandsAlone t store closed w next f
closed_stands {t} {store} {p} {closed} {w} {next} {lower} {f} {under} {h} {stale} leaf is =
    subst (λ c. StandsAlone t store c w next f) (same_piece p closed f is) (stands_law t store p w next lower f under h stale closed.stack leaf is.maps)

closed_walked : {store : Store} {nodes : List Ref} {front : List Step} {p closed : Piece} {w : List TextToken} {f : Floor} → IsWalked store nodes front p w → IsClosedAs p closed f → IsWalked store nodes front closed w
closed_walked {store} {nodes} {front} {p} {closed} {w} walked is = looked_walk_law store nodes front p closed w walked (record { first = is.first; count = is.count; floors = ap openings is.floors }) (fresh_kids is.maps)

closed_made : {t : Tables} {store : Store} {closed : Piece} {w next : List TextToken} {f : Floor} {steps : List Step} → StandsAlone t store closed w next f → HasWalk store closed w steps → IsMade t store closed w steps
closed_made {t} {store} {closed} {w} {f = f} {steps = steps} stands has = made_law t store closed w steps f.starts stands.floors stands.maps has

-- it is stuck where the leaf was
closed_stuck : {t : Tables} {store : Store} {p closed : Piece} {w next : List TextToken} {lower : List Floor} {f : Floor} {under : List Held} {h : Held} {stale : ℕ} (token : TextToken) → IsLeaf t store p w next lower f under h stale → IsClosedAs p closed f → NoneLeft t token.id h.states ⊎ AreSeveral t token.id h.states → IsStuck t closed token
closed_stuck {t} {store} {p} {closed} {lower = lower} {f = f} {under = under} {h = h} {stale = stale} token leaf is stuck =
    let last = fresh_last under h (subst (λ l. AreFresh f.starts l closed.stack) leaf.growing.on_stack is.maps) in
    let same = fresh_same f.starts h last.last (last_map_law t store p lower f under h stale leaf.growing) last.is in
    record { lower = last.lower; last = last.last; entries = last.parts; agrees_not = either stuck (none_same t token.id h.states last.last.states same) (several_same t token.id h.states last.last.states same) }
  where
    either : {A B X Y : Type 0} → A ⊎ B → (A → X) → (B → Y) → X ⊎ Y
    either (inl a) f g = inl (f a)
    either (inr b) f g = inr (g b)

-- ---- a close

pushed_nodes : (ps : List Piece) (p : Piece) → nodes_of_floors (ps ++ p ∷ []) ≡ nodes_of_floors ps ++ floor_nodes p.floors
pushed_nodes ps p = floors_then_law ps (p ∷ []) ∙ ap (λ l. nodes_of_floors ps ++ l) (append-nil (floor_nodes p.floors))

-- one piece more has one part more
pushed_part : {store : Store} {ps : List Piece} {parts : List (List TextToken)} → HaveParts store ps parts → {p : Piece} {part : List TextToken} → HasYield store p part → HaveParts store (ps ++ p ∷ []) (parts ++ part ∷ [])
pushed_part no_parts_left last = part_first last no_parts_left
pushed_part (part_first first rest) last = part_first first (pushed_part rest last)

yield_of : {store : Store} {p : Piece} {w : List TextToken} {steps : List Step} → HasWalk store p w steps → HasYield store p w
yield_of {steps = steps} has = record { steps = steps; walk = has.walk; yields = has.yields }

as_many : {store : Store} {ps : List Piece} {parts : List (List TextToken)} → HaveParts store ps parts → length parts ≡ length ps
as_many no_parts_left = refl
as_many (part_first first rest) = ap suc (as_many rest)

pub number_law : NumberLaw
number_law t store ps tokens by = (by.0, by.1, as_many by.2)

-- the closed pieces with one more
pieces_closed : {t : Tables} {store : Store} {tokens : List TextToken} {ps : List Piece} {p closed : Piece} {w rest next : List TextToken} {lower : List Floor} {f : Floor} {under : List Held} {h : Held} {stale : ℕ} (was : IsParsing t store tokens ps p w rest) → IsLeaf t store p w next lower f under h stale → IsClosedAs p closed f → IsStuckUnder t closed next → (by : IsWalked store (nodes_of_floors ps) was.front closed w) → ArePieces t store next (ps ++ closed ∷ []) (was.before ++ w) (was.front ++ by.steps)
pieces_closed {t} {store} {ps = ps} {closed = closed} {w = w} {next = next} was leaf is stuck by =
    let stands = closed_stands leaf is in
    piece_pushed_law t store next ps closed was.before w was.front by.steps (subst (λ x. ArePieces t store (x ∷ []) ps was.before was.front) (sym is.first) was.closed) (closed_made stands by.has) stands.stands stands.right stuck

pub closes_parsing_law : ClosesParsingLaw
closes_parsing_law t store tokens ps p closed opened w rest lower f g under h held stale was leaf agrees part is opens count =
    let by = closed_walked was.walked is in
    let each_once : IsDistinct store (nodes_of_floors (ps ++ closed ∷ [])) (was.front ++ by.steps) = subst (λ l. IsDistinct store l (was.front ++ by.steps)) (sym (pushed_nodes ps closed)) by.each_once in
    record {
      before = was.before ++ w;
      front = was.front ++ by.steps;
      closed = pieces_closed was leaf is (closed_stuck opened.first leaf is agrees) by;
      walked = opened_walk_law store (nodes_of_floors (ps ++ closed ∷ [])) (was.front ++ by.steps) opened g each_once opens.floors opens.unopened (opened_kids opens) count;
      parts = was.parts ∙ sym (append_assoc was.before w (opened.first ∷ rest));
      closed_parts = was.closed_parts ++ w ∷ [];
      are_parts = closes_law t tokens w (opened.first ∷ rest) was.walked.has.later p.first was.closed_parts was.walked.has.begins part was.are_parts;
      have = pushed_part was.have (yield_of by.has);
    }

pub ends_parsing_law : EndsParsingLaw
ends_parsing_law t store tokens ps p closed w lower f under h stale was leaf part is =
    let by = closed_walked was.walked is in
    let each_once : IsDistinct store (nodes_of_floors (ps ++ closed ∷ [])) (was.front ++ by.steps) = subst (λ l. IsDistinct store l (was.front ++ by.steps)) (sym (pushed_nodes ps closed)) by.each_once in
    let whole : was.before ++ w ≡ tokens = ap (λ l. was.before ++ l) (sym (append-nil w)) ∙ sym was.parts in
    let part_here : FirstPart t p.first.id (w ++ []) (length w) = subst (λ l. FirstPart t p.first.id l (length w)) (sym (append-nil w)) part in
    let closed_parts = closes_law t tokens w [] was.walked.has.later p.first was.closed_parts was.walked.has.begins part_here was.are_parts [] no_parts in (
      record { steps = was.front ++ by.steps; pieces = subst (λ l. ArePieces t store [] (ps ++ closed ∷ []) l (was.front ++ by.steps)) whole (pieces_closed was leaf is tt by); each_once = each_once },
      (was.closed_parts ++ w ∷ [], subst (λ l. AreParts t tokens l) (append-nil (was.closed_parts ++ w ∷ [])) closed_parts, pushed_part was.have (yield_of by.has)),
    )
