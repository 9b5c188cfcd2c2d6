-- Maps over entries, where more maps are added, and over one entry more.
use Rattle.std.proofs.Common.{◌≡◌, ℕ, ◌<◌, List, [], ◌∷◌, ◌++◌, length, All, refl, ap, arith}
use Rattle.std.proofs.lemmas.List.Elements.{All-head, All-tail}
use Rattle.node_data.specs.declared.kid.Kid.{Kid}
use Rattle.map_theory.specs.Maps.{StateMap}
use Rattle.arrow_table.specs.Looks.{Grows, map_at}
use Rattle.segment_parser.specs.Working.{held_of}
use Rattle.stack_join.proofs.StandingLemmas.{map_stays}

pub entries_stay : (maps new : List StateMap) → Grows maps new → (kids : List Kid) (ids : List ℕ) → All {X = ℕ} (λ id. id < length maps) ids → held_of new kids ids ≡ held_of maps kids ids
entries_stay maps new grows [] ids there = refl
entries_stay maps new grows (kid ∷ kids) [] there = refl
entries_stay maps new grows (kid ∷ kids) (id ∷ ids) there =
    let first = map_stays maps new grows id (All-head {X = ℕ} (λ n. n < length maps) id ids there) in
    let rest = entries_stay maps new grows kids ids (All-tail {X = ℕ} (λ n. n < length maps) id ids there) in
    λ i. record { kid = kid; states = first i } ∷ rest i

pub entries_push : (maps : List StateMap) (kids : List Kid) (ids : List ℕ) (kid : Kid) (id : ℕ) → length ids ≡ length kids → held_of maps (kids ++ kid ∷ []) (ids ++ id ∷ []) ≡ held_of maps kids ids ++ record { kid = kid; states = map_at maps id } ∷ []
entries_push maps [] [] kid id e = refl
entries_push maps [] (x ∷ ids) kid id e = absurd (omega (arith, e))
entries_push maps (k ∷ kids) [] kid id e = absurd (omega (arith, e))
entries_push maps (k ∷ kids) (x ∷ ids) kid id e = ap (λ l. record { kid = k; states = map_at maps x } ∷ l) (entries_push maps kids ids kid id (omega (arith, e)))
