-- What stands of maps stays where maps are added behind them.
use Rattle.std.proofs.Common.{◌≡◌, ℕ, ◌<◌, List, [], length, sym, subst, ap, ◌∙◌, arith, length-append}
use Rattle.std.proofs.lemmas.List.{get_or_append_left}
use Rattle.map_theory.specs.Maps.{StateMap}
use Rattle.arrow_table.specs.Looks.{Grows, HasMap, map_at}

pub within_grown : (old new : List StateMap) (id : ℕ) → Grows old new → id < length old → id < length new
within_grown old new id grows within = omega (arith, within, ap length grows.1, length-append old grows.0)

pub map_grown : (old new : List StateMap) (id : ℕ) → Grows old new → id < length old → map_at new id ≡ map_at old id
map_grown old new id grows within = ap (λ maps. map_at maps id) grows.1 ∙ get_or_append_left old grows.0 [] id within

pub has_grown : (old new : List StateMap) (id : ℕ) (P : StateMap → Type 0) → Grows old new → HasMap old id P → HasMap new id P
has_grown old new id P grows has = record {
  within = within_grown old new id grows has.within;
  is = subst P (sym (map_grown old new id grows has.within)) has.is;
}
