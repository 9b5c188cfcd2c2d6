-- The pairs of starts by the images of their classes.
use Rattle.std.specs.Prelude.{ℕ, List, [], ◌∷◌, slice_index_or, Option, None}
use Rattle.std.specs.List.{cons_option}
use Rattle.std.specs.Option.{option_map}
use Rattle.map_theory.specs.Maps.{StateMap}

-- each start whose class has an image, with that image
abbrev pub spread_pairs : List ℕ → List ℕ → List (Option ℕ) → StateMap
spread_pairs [] classes images = []
spread_pairs (q ∷ starts) [] images = []
spread_pairs (q ∷ starts) (k ∷ classes) images = cons_option (option_map (λ p. (q, p)) (slice_index_or images k None)) (spread_pairs starts classes images)
