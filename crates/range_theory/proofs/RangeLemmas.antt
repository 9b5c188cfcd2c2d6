-- The tokens of segments that stand one after another, and the numbers of their parts.
use Rattle.std.proofs.Common.{◌≡◌, ℕ, zero, suc, ◌+◌, ◌≤◌, List, [], ◌∷◌, ◌++◌, length, slice_get, Option, Some, refl, sym, ap, ◌∙◌, subst, arith}
use Rattle.grammar_data.specs.declared.token.Token.{Token as TextToken}
use Rattle.scanning_theory.specs.Scan.{Scanning, AreTokensOfLines}
use Rattle.scanning_theory.specs.Scan.AreTokensOfLines.{no_line}
use Rattle.scanning_theory.proofs.ScanLemmas.{lines_join}
use Rattle.cutting_theory.specs.Cuttings.{IsCutting, IsNeverFalling, AreTokensOfSegments, segments_of}
use Rattle.cutting_theory.proofs.BoundLemmas.{at_second}
use Rattle.table_data.specs.Tables.{Tables}
use Rattle.part_theory.specs.Parts.{AreParts, no_parts, part_then, HasParts}
use Rattle.part_theory.proofs.PartLemmas.{first_part_bounds_law}
use Rattle.part_laws.specs.InAll.{HavePartsInAll, no_list, list_first}
use Rattle.std.proofs.lemmas.List.{length-append}
use Rattle.range_theory.specs.Ranges.{AreTokensOfRange, no_segment, first_segment, all_of}

same_some : {X : Type 0} {x y : X} {o : Option X} → o ≡ Some x → o ≡ Some y → x ≡ y
same_some p q = cc

-- ---- bounds

most : (from : ℕ) (bounds : List ℕ) (last i bound : ℕ) → IsNeverFalling (from ∷ bounds) → slice_get (from ∷ bounds) (length bounds) ≡ Some last → slice_get (from ∷ bounds) i ≡ Some bound → bound ≤ last
most from [] last zero bound rises ends at = let same : bound ≡ last = same_some at ends in omega (arith, same)
most from [] last (suc i) bound rises ends at = absurd (cc)
most from (to ∷ bounds) last zero bound rises ends at =
    let first : from ≡ bound = cc in
    let less = rises 0 from to refl refl in
    let more = most to bounds last 0 to (λ i low high p q. rises (suc i) low high p (at_second from (to ∷ bounds) i ∙ q)) ends refl in
    omega (arith, first, less, more)
most from (to ∷ bounds) last (suc i) bound rises ends at = most to bounds last i bound (λ i low high p q. rises (suc i) low high p (at_second from (to ∷ bounds) i ∙ q)) ends at

-- no bound of a cutting is behind the last line
pub bound_within : (lines : ℕ) (bounds : List ℕ) (i bound : ℕ) → IsCutting lines bounds → slice_get bounds i ≡ Some bound → bound ≤ lines
bound_within lines [] i bound cutting at = absurd (cc)
bound_within lines (from ∷ bounds) i bound cutting at =
    let last : segments_of (from ∷ bounds) ≡ length bounds = omega arith in
    most from bounds lines i bound cutting.rising (ap (slice_get (from ∷ bounds)) (sym last) ∙ cutting.ends) at

-- ---- ranges

module _ (scanning : Scanning) (text bounds : List ℕ) where
  pub one_segment : (first from to : ℕ) (tokens : List TextToken) → slice_get bounds first ≡ Some from → slice_get bounds (first + 1) ≡ Some to → AreTokensOfLines scanning text to from tokens → AreTokensOfRange scanning text bounds (first + 1) first (tokens ∷ [])
  one_segment first from to tokens low high are = first_segment low high are (no_segment refl)

  pub ranges_join : {middle first : ℕ} {lists : List (List TextToken)} (last : ℕ) (others : List (List TextToken)) → AreTokensOfRange scanning text bounds middle first lists → AreTokensOfRange scanning text bounds last middle others → AreTokensOfRange scanning text bounds last first (lists ++ others)
  ranges_join last others (no_segment same) later = subst (λ n. AreTokensOfRange scanning text bounds last n others) (sym same) later
  ranges_join last others (first_segment low high are more) later = first_segment low high are (ranges_join last others more later)

  -- they are the tokens of the lines between the bounds
  pub range_lines : {last first : ℕ} {lists : List (List TextToken)} (from to : ℕ) → AreTokensOfRange scanning text bounds last first lists → slice_get bounds first ≡ Some from → slice_get bounds last ≡ Some to → AreTokensOfLines scanning text to from (all_of lists)
  range_lines from to (no_segment same) low high = no_line (same_some (sym (ap (slice_get bounds) same) ∙ low) high)
  range_lines from to (first_segment {from = mine} {to = middle} {tokens = tokens} {lists = lists} start end are more) low high =
      let rest : AreTokensOfLines scanning text to middle (all_of lists) = range_lines middle to more end high in
      let here : AreTokensOfLines scanning text middle from tokens = subst (λ n. AreTokensOfLines scanning text middle n tokens) (same_some start low) are in
      lines_join scanning text to (all_of lists) here rest

  range_many : {last first : ℕ} {lists : List (List TextToken)} → AreTokensOfRange scanning text bounds last first lists → first + length lists ≡ last
  range_many (no_segment same) = omega (arith, same)
  range_many (first_segment low high are more) = let rest = range_many more in omega (arith, rest)

  range_each : {last first : ℕ} {lists : List (List TextToken)} → AreTokensOfRange scanning text bounds last first lists → (i place from to : ℕ) (tokens : List TextToken) → place ≡ first + i → slice_get bounds place ≡ Some from → slice_get bounds (place + 1) ≡ Some to → slice_get lists i ≡ Some tokens → AreTokensOfLines scanning text to from tokens
  range_each (no_segment same) i place from to tokens e low high at = absurd (cc)
  range_each {first = first} (first_segment {from = mine} {to = other} {tokens = here} start end are more) zero place from to tokens e low high at =
      let same : place ≡ first = omega (arith, e) in
      let begin : mine ≡ from = same_some start (sym (ap (slice_get bounds) same) ∙ low) in
      let finish : other ≡ to = same_some end (sym (ap (λ n. slice_get bounds (n + 1)) same) ∙ high) in
      let list : here ≡ tokens = cc in
      subst (λ l. AreTokensOfLines scanning text to from l) list (subst (λ n. AreTokensOfLines scanning text to n here) begin (subst (λ n. AreTokensOfLines scanning text n mine here) finish are))
  range_each (first_segment low_here high_here are more) (suc i) place from to tokens e low high at = range_each more i place from to tokens (omega (arith, e)) low high at

  -- those of all segments are the tokens of the segments
  pub whole_range : (last : ℕ) (lists : List (List TextToken)) → last ≡ segments_of bounds → AreTokensOfRange scanning text bounds last 0 lists → AreTokensOfSegments scanning text bounds lists
  whole_range last lists all are = record {
    many = let many = range_many are in omega (arith, many, all);
    each = λ i from to tokens low high at. range_each are i i from to tokens (omega arith) low high at;
  }

-- ---- numbers of parts

parts_few : {t : Tables} {w : List TextToken} {parts : List (List TextToken)} → AreParts t w parts → length parts ≤ length w
parts_few no_parts = omega arith
parts_few {t} (part_then {token = token} {later = later} part rest e first more) =
    let bounds = first_part_bounds_law t token later (length part) first in
    let fewer = parts_few more in
    let size = ap length e ∙ length-append part rest in
    omega (arith, bounds.0, fewer, size)

pub has_few : {t : Tables} {w : List TextToken} {count : ℕ} → HasParts t w count → count ≤ length w
has_few has = let few = parts_few has.1 in let e = has.2 in omega (arith, few, e)

pub in_all_few : {t : Tables} {lists : List (List TextToken)} {count : ℕ} → HavePartsInAll t lists count → count ≤ length (all_of lists)
in_all_few no_list = omega arith
in_all_few (list_first {tokens = tokens} {lists = lists} has more is) =
    let first = has_few has in
    let rest = in_all_few more in
    let size = length-append tokens (all_of lists) in
    omega (arith, first, rest, size, is)

pub in_all_both : {t : Tables} {lists others : List (List TextToken)} {count other all : ℕ} → HavePartsInAll t lists count → HavePartsInAll t others other → all ≡ count + other → HavePartsInAll t (lists ++ others) all
in_all_both {t} {others = others} no_list have e = subst (HavePartsInAll t others) (omega (arith, e)) have
in_all_both {other = other} (list_first {count = count} {rest = rest} has more is) have e = list_first has (in_all_both more have refl) (omega (arith, e, is))
