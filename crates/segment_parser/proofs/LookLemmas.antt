-- A look at which starts err, on the code's open piece.
use Rattle.std.proofs.Common.{◌≡◌, ℕ, zero, suc, ◌-◌, ◌<◌, ◌⊎◌, inl, inr, List, [], ◌∷◌, ◌++◌, length, slice_set, refl, sym, ap, ◌∙◌, subst, arith}
use Rattle.std.proofs.lemmas.List.{length-append}
use Rattle.std.proofs.lemmas.List.Elements.{All-push}
use Rattle.grammar_data.specs.declared.token.Token.{Token as TextToken}
use Rattle.tree_theory.specs.Stores.{Store}
use Rattle.table_data.specs.Tables.{Tables}
use Rattle.lawful_theory.specs.Lawful.{IsLawful}
use Rattle.map_theory.specs.Maps.{StateMap}
use Rattle.map_theory.specs.Relations.{AreAlive, IsRestricted, IsIdentityOf}
use Rattle.part_theory.specs.Parts.{FirstPart}
use Rattle.piece_theory.specs.Pieces.{Floor, Held, Piece}
use Rattle.context_laws.specs.Contexts.{LeadFromStates}
use Rattle.leaf_laws.specs.Leaves.{HasStart}
use Rattle.leaf_laws.specs.Steps.{LooksAt}
use Rattle.leaf_laws.proofs.StepLemmas.{looks_law}
use Rattle.look_laws.specs.Deaths.{deaths}
use Rattle.look_laws.proofs.DeathLemmas.{looks_by_deaths_law, look_start_law}
use Rattle.segment_laws.proofs.StepLemmas.{looks_parsing_law}
use Rattle.arrow_table.specs.Looks.{Grows, HasMap, map_at}
use Rattle.segment_parser.specs.declared.leaf.Leaf.{Leaf}
use Rattle.segment_parser.specs.Working.{held_of, last_id, AreThere}
use Rattle.segment_parser.specs.Standing.{last_in, piece_in, IsAt}
use Rattle.segment_parser.proofs.HeldLemmas.{held_grows, held_push, front_there, length_held}
use Rattle.segment_parser.proofs.AtLemmas.{leaf_as, there_grows, last_at, last_map}

pub set_last : (low : List ℕ) (id other : ℕ) (place : ℕ) → place ≡ length low → slice_set (low ++ id ∷ []) place other ≡ low ++ other ∷ []
set_last [] id other zero e = refl
set_last [] id other (suc place) e = absurd (omega (arith, e))
set_last (x ∷ low) id other zero e = absurd (omega (arith, e))
set_last (x ∷ low) id other (suc place) e = ap (λ l. x ∷ l) (set_last low id other place (omega (arith, e)))

-- starts have erred
pub record HasDied (t : Tables) (maps new : List StateMap) (token : TextToken) (alive : ℕ) (s after : Leaf) : Type 0 where
  pub grows : Grows maps new
  pub faults : after.faults ≡ s.faults ++ deaths t token s.count (map_at maps (last_id s.ids.items))
  pub starts : HasMap new after.starts (IsRestricted (map_at maps s.starts) (map_at maps alive))
  pub own : HasMap new after.own (IsIdentityOf (map_at new after.starts))
  pub ids : after.ids.items ≡ slice_set s.ids.items (length s.ids.items - 1) alive
  pub stale : after.stale ≡ length s.ids.items - 1
  pub block : after.block ≡ s.block
  pub opened : after.opened ≡ s.opened
  pub first : after.first ≡ s.first
  pub count : after.count ≡ s.count

-- the open piece has an alive start, or its tokens are known to be a first part
abbrev pub StartOrPart : Tables → Piece → List TextToken → Floor → TextToken → List TextToken → Type 0
StartOrPart t p w f token rest = HasStart t p w f ⊎ FirstPart t p.first.id (w ++ token ∷ rest) (length w)

pub die_at : (t : Tables) → IsLawful t → LeadFromStates t → (store : Store) (maps new : List StateMap) (s after : Leaf) (tokens w rest : List TextToken) (token : TextToken) (alive : ℕ) → IsAt t store maps s tokens w (token ∷ rest) (token ∷ []) → HasMap maps alive (AreAlive t token.id (map_at maps (last_id s.ids.items))) → HasDied t maps new token alive s after → StartOrPart t (piece_in maps s) w (last_in maps s) token rest
    → IsAt t store new after tokens w (token ∷ rest) (token ∷ []) × StartOrPart t (piece_in new after) w (last_in new after) token rest
die_at t lawful lead store maps new s after tokens w rest token alive at is_alive died start =
    let last = last_at at in
    let map = last_map at in
    let fresh : Held = record { kid = last.kid; states = map_at maps alive } in
    let id_count = ap length last.ids_are ∙ length-append last.low (last.id ∷ []) in
    let place : length s.ids.items - 1 ≡ length last.low = omega (arith, id_count) in
    let ids : after.ids.items ≡ last.low ++ alive ∷ [] = died.ids ∙ ap (λ l. slice_set l (length s.ids.items - 1) alive) last.ids_are ∙ set_last last.low last.id alive (length s.ids.items - 1) place in
    let there : AreThere maps (last.low ++ alive ∷ []) = All-push {X = ℕ} (λ id. id < length maps) last.low alive (front_there maps last.low last.id (subst (λ l. AreThere maps l) last.ids_are at.has.there)) is_alive.within in
    let kids : after.block.kids ≡ last.below ++ last.kid ∷ [] = ap (λ b. b.kids) died.block ∙ last.kids_are in
    let stack : held_of new after.block.kids after.ids.items ≡ at.under ++ fresh ∷ [] = (λ i. held_of new (kids i) (ids i)) ∙ held_grows maps new died.grows (last.below ++ last.kid ∷ []) (last.low ++ alive ∷ []) there ∙ held_push maps last.below last.low last.kid alive last.even ∙ ap (λ l. l ++ fresh ∷ []) (sym last.under_is) in
    let looked = piece_in new after in
    let g = last_in new after in
    let counted : length w ≡ s.count = at.parsing.walked.has.counted in
    let faults : after.faults ≡ s.faults ++ deaths t token (length w) at.last.states = died.faults ∙ (λ i. s.faults ++ deaths t token (sym counted i) (map i)) in
    let floors : looked.floors ≡ s.block.floors ++ g ∷ [] = ap (λ b. b.floors ++ g ∷ []) died.block in
    let kid : fresh.kid ≡ at.last.kid = sym (ap (λ (h : Held). h.kid) last.last_is) in
    let living : AreAlive t token.id at.last.states (map_at maps alive) = subst (λ m. AreAlive t token.id m (map_at maps alive)) map is_alive.is in
    let looks : LooksAt t token (length w) (piece_in maps s) looked s.block.floors (last_in maps s) g at.under at.last fresh = looks_by_deaths_law t lawful lead store (piece_in maps s) looked w token s.block.floors (last_in maps s) g at.under at.last fresh s.stale at.leaf died.first floors stack died.opened died.starts.is faults kid living in
    let leaf = looks_law t store (piece_in maps s) looked w token s.block.floors (last_in maps s) g at.under at.last fresh s.stale at.leaf looks in
    let under_count = ap length last.under_is ∙ length_held maps last.below last.low last.even in
    let stale : length at.under ≡ after.stale = omega (arith, under_count, place, died.stale) in (
      record {
        has = record {
          even = (let e = ap length kids ∙ length-append last.below (last.kid ∷ []) in let f = ap length ids ∙ length-append last.low (alive ∷ []) in let same = last.even in omega (arith, e, f, same));
          there = subst (λ l. AreThere new l) (sym ids) (there_grows maps new died.grows (last.low ++ alive ∷ []) there);
          starts = died.starts.within;
          own = died.own;
        };
        closed = at.closed;
        same = ap (λ b. b.closed) died.block ∙ at.same;
        parsing = looks_parsing_law t store tokens at.closed (piece_in maps s) looked w (token ∷ rest) token (length w) s.block.floors (last_in maps s) g at.under at.last fresh at.parsing refl at.leaf.growing.on_stack looks died.count;
        under = at.under;
        last = fresh;
        leaf = leaf_as refl (ap (λ b. b.floors) (sym died.block)) refl stale leaf.0;
      },
      starts fresh start looks,
    )
  where
    starts : (fresh : Held) → StartOrPart t (piece_in maps s) w (last_in maps s) token rest → LooksAt t token (length w) (piece_in maps s) (piece_in new after) s.block.floors (last_in maps s) (last_in new after) at.under at.last fresh → StartOrPart t (piece_in new after) w (last_in new after) token rest
    starts fresh (inl here) looks = look_start_law t lawful lead store (piece_in maps s) (piece_in new after) w token rest s.block.floors (last_in maps s) (last_in new after) at.under at.last fresh s.stale at.leaf looks here
    starts fresh (inr part) looks = inr (subst (λ (x : TextToken). FirstPart t x.id (w ++ token ∷ rest) (length w)) (sym died.first) part)
