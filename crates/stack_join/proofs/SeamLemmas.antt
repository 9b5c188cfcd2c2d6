-- The open piece at the seam, looked at and reduced as an open piece beside others.
use Rattle.std.proofs.Common.{◌≡◌, ℕ, ◌+◌, ◌<◌, ◌≤◌, ◌⊎◌, inl, inr, List, [], ◌∷◌, ◌++◌, length, All, Option, refl, sym, ap, ◌∙◌, subst, arith}
use Rattle.std.proofs.lemmas.List.{length-append}
use Rattle.std.proofs.lemmas.List.Elements.{All-cons, All-nil}
use Rattle.grammar_data.specs.declared.token.Token.{Token as TextToken}
use Rattle.grammar_theory.proofs.Lists.{Pushed, empty, pushed, all_pushed}
use Rattle.tree_theory.specs.Stores.{Store}
use Rattle.table_data.specs.Tables.{Tables}
use Rattle.map_theory.specs.Maps.{StateMap, IsRising}
use Rattle.piece_theory.specs.Pieces.{Held, Piece, openings}
use Rattle.piece_theory.specs.Applies.{StandsFor, TakesRight}
use Rattle.piece_theory.specs.WellMade.{IsMade}
use Rattle.piece_theory.specs.Lists.{first_or}
use Rattle.piece_theory.specs.Laws.{HasMore}
use Rattle.level_laws.specs.Growing.{AreTight, FollowOn, follow_none, follow}
use Rattle.level_laws.specs.Laws.{AreFresh, fresh_none, fresh_more}
use Rattle.leaf_laws.specs.Leaves.{IsOpenPiece}
use Rattle.leaf_laws.proofs.MadeLemmas.{made_open_law}
use Rattle.leaf_laws.proofs.PartLemmas.{open_stands_law}
use Rattle.walk_laws.specs.Walked.{IsWalked}
use Rattle.walk_laws.proofs.StepLemmas.{looked_walk_law, made_law}
use Rattle.segment_laws.proofs.KidLemmas.{fresh_of, fresh_kids}
use Rattle.landing_laws.proofs.BehindLemmas.{loose_open_law}
use Rattle.seam_theory.specs.Moves.{other_nodes}
use Rattle.seam_theory.specs.Seams.{IsSeam}
use Rattle.seam_theory.proofs.MoveLemmas.{seam_walked_law, seam_grown_law}
use Rattle.arrow_table.specs.Looks.{Grows, map_at}
use Rattle.segment_parser.specs.declared.leaf.Leaf.{Leaf}
use Rattle.segment_parser.specs.Standing.{last_in, piece_in, HasMaps}
use Rattle.segment_parser.specs.Opening.{IsOpenIn}
use Rattle.stack_join.specs.Joining.{IsKeptAs, IsAtSeam}
use Rattle.stack_join.proofs.StandingLemmas.{map_stays, piece_later, has_later, entry_count}

-- ---- more maps

pub kept_later : (maps new : List StateMap) (s : Leaf) (p : Piece) → Grows maps new → IsKeptAs maps s p → IsKeptAs new s p
kept_later maps new s p grows kept =
    let piece = piece_later maps new s grows kept.has in
    let starts = map_stays maps new grows s.starts kept.has.starts in
    record {
      has = has_later maps new s grows kept.has;
      first = kept.first;
      count = kept.count;
      floors = ap (λ (x : Piece). x.floors) piece ∙ kept.floors;
      fresh = subst (λ m. AreFresh m (piece_in new s).stack p.stack) (sym starts) (subst (λ (x : Piece). AreFresh (map_at maps s.starts) x.stack p.stack) (sym piece) kept.fresh);
      rising = subst (λ (x : Piece). All {X = Held} (λ h. IsRising h.states) x.stack) (sym piece) kept.rising;
      tight = record {
        tight = subst (λ m. AreTight m s.stale (piece_in new s).stack) (sym starts) (subst (λ (x : Piece). AreTight (map_at maps s.starts) s.stale x.stack) (sym piece) kept.tight.tight);
        within = kept.tight.within;
      };
    }

pub seam_later : {t : Tables} {store : Store} (maps new : List StateMap) {s : Leaf} {front rest : List Piece} {w : List TextToken} → Grows maps new → IsAtSeam t store maps s front rest w → IsAtSeam t store new s front rest w
seam_later maps new {s} grows at = record { last = at.last; kept_as = kept_later maps new s at.last grows at.kept_as; seam = at.seam }

-- ---- from the seam to the open piece

fresh_count : {alive : StateMap} {hs fresh : List Held} → AreFresh alive hs fresh → length fresh ≡ length hs
fresh_count fresh_none = refl
fresh_count (fresh_more first rest) = let more = fresh_count rest in omega (arith, more)

-- the piece with its maps restricted, by the open piece
pub kept_same : {maps : List StateMap} {s : Leaf} {p : Piece} → IsKeptAs maps s p → record (piece_in maps s) { stack = p.stack } ≡ p
kept_same {p = p} kept = λ i. record { first = kept.first i; count = kept.count i; floors = kept.floors i; stack = p.stack }

-- how far down maps may be stale, by the entries below the last one
stale_within : (stale ids under : ℕ) → (stale ≡ 0) ⊎ (stale < ids) → ids ≡ under + 1 → stale ≤ under
stale_within stale ids under (inl none) count = omega (arith, none)
stale_within stale ids under (inr less) count = omega (arith, less, count)

pub seam_open : (t : Tables) (store : Store) (maps : List StateMap) (s : Leaf) (front rest : List Piece) (w : List TextToken) (at : IsAtSeam t store maps s front rest w) → IsOpenIn t store maps s (other_nodes front rest) (at.seam.front_steps ++ at.seam.rest_steps) at.seam.tokens (first_or [] rest)
seam_open t store maps s front rest w at = cases (all_pushed (piece_in maps s).stack)
  where
    p : Piece
    p = piece_in maps s

    same : record p { stack = at.last.stack } ≡ at.last
    same = kept_same at.kept_as

    count : length p.stack ≡ length s.ids.items
    count = entry_count maps s at.kept_as.has

    cases : Pushed p.stack → IsOpenIn t store maps s (other_nodes front rest) (at.seam.front_steps ++ at.seam.rest_steps) at.seam.tokens (first_or [] rest)
    cases (empty none) =
        let some = at.seam.made.some_entry in
        let fresh = fresh_count at.kept_as.fresh in
        let nothing = ap length none in
        absurd (omega (arith, some, fresh, nothing))
    cases (pushed under h parts) =
        let tokens = at.seam.tokens in
        let next = first_or [] rest in
        let many = ap length parts ∙ length-append under (h ∷ []) in
        record {
          has = at.kept_as.has;
          under = under;
          last = h;
          open_piece = loose_open_law t store p at.last.stack tokens next at.seam.steps s.block.floors (last_in maps s) under h s.stale
              (subst (λ x. IsMade t store x tokens at.seam.steps) (sym same) at.seam.made)
              (subst (λ x. StandsFor t store x tokens next) (sym same) at.seam.stands)
              (subst (λ x. TakesRight t x) (sym same) at.seam.takes)
              at.kept_as.fresh refl parts at.kept_as.rising at.kept_as.tight.tight (stale_within s.stale (length s.ids.items) (length under) at.kept_as.tight.within (omega (arith, many, count)));
          walked = looked_walk_law store (other_nodes front rest) (at.seam.front_steps ++ at.seam.rest_steps) at.last p tokens (seam_walked_law t store front at.last rest w at.seam)
              (record { first = at.kept_as.first; count = at.kept_as.count; floors = ap openings at.kept_as.floors }) (sym (fresh_kids at.kept_as.fresh));
        }

-- ---- and back

follow_rising : {t : Tables} {store : Store} {alive : StateMap} {from : ℕ → Option ℕ} {hs : List Held} → FollowOn t store alive from hs → All {X = Held} (λ h. IsRising h.states) hs
follow_rising follow_none = All-nil {X = Held} (λ h. IsRising h.states)
follow_rising (follow {h = h} {hs = hs} x symbol rising at more) = All-cons {X = Held} (λ h. IsRising h.states) h hs rising (follow_rising more)

pub grown_seam : (t : Tables) (store new : Store) (final : List StateMap) (after : Leaf) (front : List Piece) (last : Piece) (rest : List Piece) (w : List TextToken) (seam : IsSeam t store front last rest w) → HasMore store new → after.first ≡ last.first
    → IsOpenIn t new final after (other_nodes front rest) (seam.front_steps ++ seam.rest_steps) seam.tokens (first_or [] rest) → IsAtSeam t new final after front rest w
grown_seam t store new final after front last rest w seam more first is =
    let p = piece_in final after in
    let growing = is.open_piece.growing in
    let fresh = fresh_of growing.maps in
    let moved : Piece = record p { stack = fresh.0 } in
    let tokens = seam.tokens in
    let alone = open_stands_law t new p tokens (first_or [] rest) after.block.floors (last_in final after) is.under is.last after.stale fresh.0 is.open_piece fresh.1 in
    let walked = looked_walk_law new (other_nodes front rest) (seam.front_steps ++ seam.rest_steps) p moved tokens is.walked (record { first = refl; count = refl; floors = refl }) (fresh_kids fresh.1) in
    let made : IsMade t new moved tokens walked.steps = made_law t new moved tokens walked.steps (map_at final after.starts) alone.floors alone.maps walked.has in
    let many = ap length growing.on_stack ∙ length-append is.under (is.last ∷ []) in
    let count = entry_count final after is.has in
    let less = growing.within in
    record {
      last = moved;
      kept_as = record {
        has = is.has;
        first = refl;
        count = refl;
        floors = refl;
        fresh = fresh.1;
        rising = follow_rising growing.maps;
        tight = record { tight = growing.tight; within = inr (omega (arith, many, count, less)) };
      };
      seam = seam_grown_law t store new front last moved rest w seam more first walked made alone.stands alone.right;
    }

pub open_seam : (t : Tables) (store new : Store) (maps final : List StateMap) (s after : Leaf) (front rest : List Piece) (w : List TextToken) (at : IsAtSeam t store maps s front rest w) → HasMore store new → after.first ≡ s.first
    → IsOpenIn t new final after (other_nodes front rest) (at.seam.front_steps ++ at.seam.rest_steps) at.seam.tokens (first_or [] rest) → IsAtSeam t new final after front rest w
open_seam t store new maps final s after front rest w at more first is = grown_seam t store new final after front at.last rest w at.seam more (first ∙ at.kept_as.first) is

-- ---- the last closed piece, opened again

pub reopened_seam : (t : Tables) (store : Store) (maps : List StateMap) (s : Leaf) (front : List Piece) (last : Piece) (rest : List Piece) (w : List TextToken) → IsSeam t store front last rest w → HasMaps maps s → piece_in maps s ≡ last → s.stale ≡ 0 → IsAtSeam t store maps s front rest w
reopened_seam t store maps s front last rest w seam has same stale = cases (all_pushed last.stack)
  where
    floors : last.floors ≡ s.block.floors ++ last_in maps s ∷ []
    floors = ap (λ (p : Piece). p.floors) (sym same)

    cases : Pushed last.stack → IsAtSeam t store maps s front rest w
    cases (empty none) = let some = seam.made.some_entry in let nothing = ap length none in absurd (omega (arith, some, nothing))
    cases (pushed under h parts) =
        let next = first_or [] rest in
        let made : IsOpenPiece t store last seam.tokens next s.block.floors (last_in maps s) under h 0 = made_open_law t store last seam.tokens next seam.steps s.block.floors (last_in maps s) under h seam.made seam.stands seam.takes floors parts in
        let as_it_is : IsOpenPiece t store (piece_in maps s) seam.tokens next s.block.floors (last_in maps s) under h 0 = subst (λ p. IsOpenPiece t store p seam.tokens next s.block.floors (last_in maps s) under h 0) (sym same) made in
        grown_seam t store store maps s front last rest w seam (λ m r kids here. here) (ap (λ (p : Piece). p.first) same) (record {
          has = has;
          under = under;
          last = h;
          open_piece = subst (λ (n : ℕ). IsOpenPiece t store (piece_in maps s) seam.tokens next s.block.floors (last_in maps s) under h n) (sym stale) as_it_is;
          walked = subst (λ p. IsWalked store (other_nodes front rest) (seam.front_steps ++ seam.rest_steps) p seam.tokens) (sym same) (seam_walked_law t store front last rest w seam);
        })
