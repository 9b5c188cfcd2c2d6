-- Floors from the first up and from the last down.
use Rattle.std.proofs.Common.{◌≡◌, ◌<◌, List, [], ◌∷◌, ◌++◌, length, Some, refl, sym, ap, ◌∙◌, append_assoc}
use Rattle.grammar_data.specs.declared.token.Token.{Token as TextToken}
use Rattle.table_data.specs.Tables.{Tables}
use Rattle.map_theory.specs.Maps.{StateMap}
use Rattle.piece_theory.specs.Pieces.{Opened, Floor}
use Rattle.piece_theory.specs.Applies.{right_of}
use Rattle.piece_theory.specs.WellMade.{leading, IsLevel, AreLevels, no_level, level_above, AreFloors, AreStacked, on_ground, on_floor}
use Rattle.piece_theory.specs.Laws.{StackedLaw, FloorsLaw}

pub levels_then : {t : Tables} {below last : StateMap} {fs : List Floor} (f : Floor) (opened : Opened) → AreLevels t below fs last → f.opened ≡ Some opened → 0 < opened.hidden → opened.hidden < length (right_of t.rules opened.rule) → IsLevel (leading t opened last) f → AreLevels t below (fs ++ f ∷ []) f.starts
levels_then f opened no_level is some less level = level_above opened is some less level no_level
levels_then f opened (level_above o is1 some1 less1 level1 levels) is some less level = level_above o is1 some1 less1 level1 (levels_then f opened levels is some less level)

pub from_ground : {t : Tables} {first : TextToken} {lower : List Floor} {f : Floor} → AreStacked t first lower f → AreFloors t first (lower ++ f ∷ []) f.starts
from_ground (on_ground {f = f} un level) = record { ground = f; upper = []; parts = refl; unopened = un; shifts = level; levels = no_level }
from_ground (on_floor {f = f} opened stacked at is some less level) =
    let rest = from_ground stacked in
    record {
      ground = rest.ground;
      upper = rest.upper ++ f ∷ [];
      parts = ap (λ l. l ++ f ∷ []) (at ∙ rest.parts);
      unopened = rest.unopened;
      shifts = rest.shifts;
      levels = levels_then f opened rest.levels is some less level;
    }

pub stacked_law : StackedLaw
stacked_law t first lower f stacked = from_ground stacked

-- the last of the floors on top of these
climb : {t : Tables} {first : TextToken} {fs : List Floor} {last : StateMap} {lower : List Floor} {f : Floor} → AreStacked t first lower f → AreLevels t f.starts fs last → (lower1 : List Floor) × (g : Floor) × (lower ++ f ∷ fs ≡ lower1 ++ g ∷ []) × (g.starts ≡ last) × AreStacked t first lower1 g
climb {lower = lower} {f = f} stacked no_level = (lower, f, refl, refl, stacked)
climb {lower = lower} {f = f} stacked (level_above {f = g} {fs = fs} opened is some less level levels) =
    let up = climb (on_floor opened stacked refl is some less level) levels in
    (up.0, up.1, sym (append_assoc lower (f ∷ []) (g ∷ fs)) ∙ up.2, up.3, up.4)

pub floors_law : FloorsLaw
floors_law t first floors last are =
    let up = climb (on_ground are.unopened are.shifts) are.levels in
    (up.0, up.1, are.parts ∙ up.2, up.3, up.4)
