-- The entries of the next piece are put on the code's open piece.
use Rattle.std.proofs.Common.{◌≡◌, ℕ, ◌+◌, ◌-◌, ◌<◌, ◌≤◌, ◌⊎◌, inl, inr, eqb, List, [], ◌∷◌, ◌++◌, length, All, Option, refl, sym, ap, ◌∙◌, subst, arith}
use Rattle.std.specs.Prelude.{◌==◌, if◌then◌else◌}
use Rattle.std.proofs.lemmas.Bool.{cond-false, ne_eqb}
use Rattle.std.proofs.lemmas.List.{length-append}
use Rattle.std.proofs.lemmas.List.Elements.{All-nil, All-cons, All-append}
use Rattle.grammar_data.specs.Grammar.{Grammar}
use Rattle.node_data.specs.declared.kid.Kid.{Kid}
use Rattle.tree_theory.specs.Stores.{Store}
use Rattle.table_data.specs.Tables.{Tables}
use Rattle.lawful_theory.specs.Lawful.{IsLawfulFor}
use Rattle.map_theory.specs.Maps.{StateMap, target}
use Rattle.use_theory.specs.Kept.{IsKept}
use Rattle.piece_theory.specs.Pieces.{Held, kids_of}
use Rattle.piece_theory.specs.WellMade.{AreSteps, no_step, step_on}
use Rattle.context_laws.specs.Contexts.{LeadFromStates}
use Rattle.level_laws.specs.Laws.{AreFresh}
use Rattle.level_laws.specs.Growing.{AreTight}
use Rattle.join_theory.specs.Faults.{state_over}
use Rattle.join_theory.proofs.PutLemmas.{symbol_kept}
use Rattle.landing_laws.specs.Carrying.{IsOverAlive}
use Rattle.landing_laws.specs.Behind.{AreRising, IsPutBehind}
use Rattle.landing_laws.proofs.WideLemmas.{join_wide_law}
use Rattle.landing_laws.proofs.BehindLemmas.{join_put_law}
use Rattle.arrow_table.specs.Looks.{Grows, map_at}
use Rattle.segment_parser.specs.declared.leaf.Leaf.{Leaf}
use Rattle.segment_parser.specs.Working.{held_of, last_id, AreThere}
use Rattle.segment_parser.specs.Standing.{last_in, piece_in, HasMaps}
use Rattle.segment_parser.specs.Entering.{IsKnown, AreEntered}
use Rattle.stack_join.specs.Joining.{over_id, Met, IsLanding, IsPiled}
use Rattle.stack_join.proofs.EntryLemmas.{entries_stay}
use Rattle.stack_join.proofs.StandingLemmas.{map_stays}
use Rattle.stack_join.proofs.EnteredLemmas.{entries_kids}
use Rattle.stack_join.proofs.HeldLemmas.{follow_rising, over_alive_of, entries_both, entries_length, there_grow}
use Rattle.stack_join.proofs.CutLemmas.{has_same}

-- kids of exact entries have symbols
known_of : {t : Tables} {store now : Store} → IsKept store now → {hs : List Held} {from : ℕ → Option ℕ} → AreSteps t store from hs → All (IsKnown t.rules now) (kids_of hs)
known_of {t} {store} {now} kept no_step = All-nil (IsKnown t.rules now)
known_of {t} {store} {now} kept (step_on {h = h} {hs = hs} x symbol rising at more) = All-cons (IsKnown t.rules now) h.kid (kids_of hs) (x, symbol_kept kept symbol) (known_of kept more)

pub known_right : {t : Tables} {met : Met} {store : Store} {maps : List StateMap} {s : Leaf} → IsLanding t met store maps s [] → (kids : List Kid) → kids ≡ kids_of met.right.stack → All (IsKnown t.rules store) kids
known_right {t} {met} {store} at kids same = subst (λ l. All (IsKnown t.rules store) l) (sym same) (known_of at.joining.kept at.meet.made_right.maps)

-- the map over the last entry is there
pub over_there : (maps : List StateMap) (s : Leaf) → HasMaps maps s → over_id s < length maps
over_there maps s has = by s.ids.items has.there
  where
    by : (ids : List ℕ) → AreThere maps ids → (if length ids == 0 then s.own else last_id ids) < length maps
    by [] there = has.own.within
    by (x ∷ ids) there = subst (λ n. n < length maps) (sym (cond-false (eqb (length (x ∷ ids)) 0) s.own (last_id (x ∷ ids)) (ne_eqb (length (x ∷ ids)) 0 (λ e. absurd (omega (arith, e)))))) (there (length (x ∷ ids) - 1) 0 (omega arith))

-- the code has pushed the kids and the numbers of their maps
pub record HasPushed (t : Tables) (store : Store) (maps new : List StateMap) (s after : Leaf) (kids : List Kid) (ids : List ℕ) (tokens : ℕ) : Type 0 where
  pub grows : Grows maps new
  pub entered : AreEntered t store (target (map_at maps (over_id s))) new kids ids
  pub kids_are : after.block.kids ≡ s.block.kids ++ kids
  pub ids_are : after.ids.items ≡ s.ids.items ++ ids
  pub floors : after.block.floors ≡ s.block.floors
  pub opened : after.opened ≡ s.opened
  pub starts : after.starts ≡ s.starts
  pub own : after.own ≡ s.own
  pub faults : after.faults ≡ s.faults
  pub stale : after.stale ≡ s.stale
  pub first : after.first ≡ s.first
  pub count : after.count ≡ s.count + tokens

pub piled : {g : Grammar} {t : Tables} → IsLawfulFor g t → LeadFromStates t → {met : Met} {store : Store} {maps new : List StateMap} {s after : Leaf} {kids : List Kid} {ids : List ℕ} {tokens : ℕ} → IsLanding t met store maps s [] → kids ≡ kids_of met.right.stack → tokens ≡ met.right.count → HasPushed t store maps new s after kids ids tokens → IsPiled t met store new after
piled {g} {t} lawful lead {met} {store} {maps} {new} {s} {after} {kids} {ids} {tokens} at same many pushed = record {
  joined = record (piece_in new after) { stack = by.fresh };
  kept_as = record {
    has = has;
    first = refl;
    count = refl;
    floors = refl;
    fresh = subst (λ m. AreFresh m (piece_in new after).stack by.fresh) (sym starts_same) by.restricted;
    rising = by.rising;
    tight = record {
      tight = subst (λ m. AreTight m after.stale (piece_in new after).stack) (sym starts_same) (subst (λ n. AreTight (map_at maps s.starts) n (piece_in new after).stack) (sym pushed.stale) by.tight);
      within = within_all at.tight.within;
    };
  };
  first = pushed.first ∙ at.joining.first;
  is_joined = by.joined;
}
  where
    starts_same : map_at new after.starts ≡ map_at maps s.starts
    starts_same = ap (map_at new) pushed.starts ∙ map_stays maps new pushed.grows s.starts at.has.starts

    last_same : last_in new after ≡ last_in maps s
    last_same = (λ i. record { opened = pushed.opened i; starts = starts_same i; faults = pushed.faults i })

    ids_count : length after.ids.items ≡ length s.ids.items + length ids
    ids_count = ap length pushed.ids_are ∙ length-append s.ids.items ids

    has : HasMaps new after
    has = has_same maps new s after at.has pushed.grows pushed.starts pushed.own
        (let a = ap length pushed.kids_are ∙ length-append s.block.kids kids in let e = at.has.even in let f = pushed.entered.even in let b = ids_count in omega (arith, a, b, e, f))
        (subst (λ l. AreThere new l) (sym pushed.ids_are) (All-append {X = ℕ} (λ n. n < length new) s.ids.items ids (there_grow maps new pushed.grows s.ids.items at.has.there) pushed.entered.there))

    within_all : (s.stale ≡ 0) ⊎ (s.stale < length s.ids.items) → (after.stale ≡ 0) ⊎ (after.stale < length after.ids.items)
    within_all (inl none) = inl (pushed.stale ∙ none)
    within_all (inr less) = inr (let e = pushed.stale in let n = ids_count in omega (arith, e, n, less))

    stack : (piece_in new after).stack ≡ (piece_in maps s).stack ++ held_of new kids ids
    stack =
        (λ i. held_of new (pushed.kids_are i) (pushed.ids_are i)) ∙ entries_both new s.block.kids kids s.ids.items ids (sym at.has.even)
        ∙ ap (λ l. l ++ held_of new kids ids) (entries_stay maps new pushed.grows s.block.kids s.ids.items at.has.there)

    rising : AreRising (piece_in maps s).stack
    rising = follow_rising at.joining.floors.maps

    over : IsOverAlive (map_at maps s.starts) (map_at maps (over_id s)) (state_over (map_at maps s.starts) (piece_in maps s).stack)
    over = over_alive_of maps s.block.kids s.ids.items s.starts s.own s.stale (state_over (map_at maps s.starts) (piece_in maps s).stack) (sym at.has.even) at.has.own.is rising at.tight.tight at.tight.within (λ q live. refl)
        (join_wide_law g t lawful lead met.store store met.left met.right (piece_in maps s) met.u met.v met.beside s.block.floors (last_in maps s) [] at.joining)

    small : (s.stale ≡ 0) ⊎ (s.stale < length s.ids.items) → s.stale ≤ length (piece_in maps s).stack - 1
    small (inl none) = omega (arith, none)
    small (inr less) = let n = entries_length maps s.block.kids s.ids.items (sym at.has.even) in omega (arith, less, n)

    count : after.count ≡ met.left.count + met.right.count
    count = let a = pushed.count in let b = at.count in let c = at.meet.made.counted in omega (arith, a, b, c, many)

    by : IsPutBehind t met.store store met.right (piece_in new after) (met.u ++ met.v) met.next met.beside s.block.floors (last_in maps s) s.stale
    by = join_put_law g t lawful lead met.store store met.left met.right (piece_in maps s) (piece_in new after) met.u met.v met.next met.steps met.more met.beside s.block.floors (last_in maps s) (map_at maps (over_id s)) (held_of new kids ids) s.stale
        at.meet at.joining at.tight.tight (small at.tight.within) over pushed.entered.steps (entries_kids new kids ids pushed.entered.even ∙ same) pushed.first count ((λ i. pushed.floors i ++ last_same i ∷ [])) stack
