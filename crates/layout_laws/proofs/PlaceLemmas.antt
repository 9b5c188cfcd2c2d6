-- The symbols and places of a printed right side.
use Rattle.std.proofs.Common.{◌≡◌, ℕ, zero, suc, ◌+◌, ◌≤◌, List, [], ◌∷◌, ◌++◌, length, map, refl, sym, ap, subst, ◌∙◌, inl, inr, ⊎_elim, arith}
use Rattle.std.specs.Prelude.{◌⊎◌, Option, Some, None, slice_get, Contains, unwrap_or}
use Rattle.std.specs.List.{flat_map, range_with_len}
use Rattle.std.proofs.lemmas.List.{map-append}
use Rattle.std.proofs.lemmas.List.Elements.{Contains-append_cases}
use Rattle.std.proofs.lemmas.Option.{none-some, same_Some}
use Rattle.sheet_data.specs.declared.parts.Part.{Part}
use Rattle.sheet_data.specs.declared.parts.Part.TheVariants.{Text as text_of, Fold as fold_of, Number as number_of}
use Rattle.outline_data.specs.declared.outline.PlaceUse.{PlaceUse}
use Rattle.outline_data.specs.declared.rules.Symbol.{Symbol}
use Rattle.outline_data.specs.declared.rules.TemplatePart.{TemplatePart}
use Rattle.outline_data.specs.declared.rules.TemplatePart.TheVariants.{Text, Fold, Number}
use Rattle.outline_data.specs.Parts.{OutlineParts}
use Rattle.outline_theory.specs.Words.{parts_of, use_in, template_uses, number_in, token_uses, places}
use Rattle.outline_theory.specs.Numbering.{part_of, template_by, template_of}
use Rattle.layout_laws.proofs.MemberLemmas.{no_member, only_member, first_member, later_member, IsRepeated, range_once, range_member}
use Rattle.layout_laws.proofs.SideLemmas.{Side}
use Rattle.layout_laws.proofs.SymbolLemmas.{IsPrinted, ArePrinted}
use Rattle.layout_laws.proofs.SymbolLemmas.ArePrinted.{none_printed, next_printed}
use Rattle.layout_laws.proofs.RuleLemmas.{IsPrintedSide, ArePrintedSides}
use Rattle.layout_laws.proofs.RuleLemmas.ArePrintedSides.{none_sides, next_side}

-- ---- the symbol that a printed one comes from

pub record SymbolFrom (o : OutlineParts) (ss : List Symbol) (printed : Symbol) : Type 0 where
  pub from : Symbol
  pub stands : Contains ss from
  pub is : IsPrinted o from printed

pub symbol_from : {o : OutlineParts} {ss others : List Symbol} → ArePrinted o ss others → (printed : Symbol) → Contains others printed → SymbolFrom o ss printed
symbol_from none_printed printed h = absurd (no_member printed h)
symbol_from {o = o} (next_printed {s = s} {printed = first} {ss = ss} {others = others} is are) printed h = elim (Contains-append_cases (first ∷ []) others printed h) [
  | inl here ↦ record { from = s; stands = first_member s ss; is = subst (IsPrinted o s) (only_member first printed here) is }
  | inr later ↦ let r = symbol_from are printed later in record { from = r.from; stands = later_member s ss r.from r.stands; is = r.is }
]

pub record SymbolAt (o : OutlineParts) (ss : List Symbol) (i : ℕ) (printed : Symbol) : Type 0 where
  pub from : Symbol
  pub stands : slice_get ss i ≡ Some from
  pub is : IsPrinted o from printed

pub symbol_at : {o : OutlineParts} {ss others : List Symbol} → ArePrinted o ss others → (i : ℕ) (printed : Symbol) → slice_get others i ≡ Some printed → SymbolAt o ss i printed
symbol_at none_printed i printed h = absurd (none-some printed h)
symbol_at {o = o} (next_printed {s = s} {printed = first} is are) zero printed h = record { from = s; stands = refl; is = subst (IsPrinted o s) (same_Some first printed h) is }
symbol_at (next_printed is are) (suc i) printed h = let r = symbol_at are i printed h in record { from = r.from; stands = r.stands; is = r.is }

-- the rule that a printed one comes from
pub record SideFrom (o : OutlineParts) (sides : List Side) (printed : Side) : Type 0 where
  pub from : Side
  pub stands : Contains sides from
  pub is : IsPrintedSide o from printed

pub side_from : {o : OutlineParts} {sides others : List Side} → ArePrintedSides o sides others → (printed : Side) → Contains others printed → SideFrom o sides printed
side_from none_sides printed h = absurd (no_member printed h)
side_from {o = o} (next_side {side = side} {printed = first} {sides = sides} {others = others} is are) printed h = elim (Contains-append_cases (first ∷ []) others printed h) [
  | inl here ↦ record { from = side; stands = first_member side sides; is = subst (IsPrintedSide o side) (only_member first printed here) is }
  | inr later ↦ let r = side_from are printed later in record { from = r.from; stands = later_member side sides r.from r.stands; is = r.is }
]

-- ---- places

abbrev place_in : Part → List ℕ
place_in (text_of bytes) = []
place_in (fold_of place) = place ∷ []
place_in (number_of place) = place ∷ []

abbrev token_place_in : Part → List ℕ
token_place_in (text_of bytes) = []
token_place_in (fold_of place) = []
token_place_in (number_of place) = place ∷ []

abbrev pub part_places : List Part → List ℕ
part_places parts = flat_map place_in parts

abbrev pub token_part_places : List Part → List ℕ
token_part_places parts = flat_map token_place_in parts

pub places_append : (uses others : List PlaceUse) → places (uses ++ others) ≡ places uses ++ places others
places_append uses others = map-append (λ (u : PlaceUse). u.place) uses others

uses_places : (parts : List TemplatePart) → places (flat_map use_in parts) ≡ part_places (map part_of parts)
uses_places [] = refl
uses_places (Text bytes ∷ parts) = uses_places parts
uses_places (Fold used ∷ parts) = ap (λ l. used.place ∷ l) (uses_places parts)
uses_places (Number used ∷ parts) = ap (λ l. used.place ∷ l) (uses_places parts)

numbers_places : (parts : List TemplatePart) → places (flat_map number_in parts) ≡ token_part_places (map part_of parts)
numbers_places [] = refl
numbers_places (Text bytes ∷ parts) = numbers_places parts
numbers_places (Fold used ∷ parts) = numbers_places parts
numbers_places (Number used ∷ parts) = ap (λ l. used.place ∷ l) (numbers_places parts)

range_places : (from count : ℕ) → part_places (map fold_of (range_with_len from count)) ≡ range_with_len from count
range_places from zero = refl
range_places from (suc count) = ap (λ l. from ∷ l) (range_places (from + 1) count)

range_token_places : (from count : ℕ) → token_part_places (map fold_of (range_with_len from count)) ≡ []
range_token_places from zero = refl
range_token_places from (suc count) = range_token_places (from + 1) count

-- the places of a template as it is written, or those of the whole right side
abbrev PlacesBy : Option (List TemplatePart) → ℕ → Type 0
PlacesBy template count =
    (places (flat_map use_in (unwrap_or template [])) ≡ part_places (template_by template count)) ⊎ (part_places (template_by template count) ≡ range_with_len 1 count)

places_by : (template : Option (List TemplatePart)) (count : ℕ) → PlacesBy template count
places_by None count = inr (range_places 1 count)
places_by (Some parts) count = inl (uses_places parts)

token_places_by : (template : Option (List TemplatePart)) (count : ℕ) → token_part_places (template_by template count) ≡ places (flat_map number_in (unwrap_or template []))
token_places_by None count = range_token_places 1 count
token_places_by (Some parts) count = sym (numbers_places parts)

module _ (o : OutlineParts) (side printed : Side) (is : IsPrintedSide o side printed) where
  -- the places of a printed template
  printed_places : places (template_uses printed.1) ≡ part_places (template_of side.1)
  printed_places = ap (λ t. places (flat_map use_in (unwrap_or t []))) is.template ∙ uses_places is.parts ∙ ap part_places is.says

  printed_token_places : places (flat_map number_in (parts_of printed.1)) ≡ places (flat_map number_in (parts_of side.1))
  printed_token_places =
      ap (λ t. places (flat_map number_in (unwrap_or t []))) is.template ∙ numbers_places is.parts ∙ ap token_part_places is.says ∙ token_places_by side.1.template (length side.1.right)

  -- a place of the template is one of the rule's template, or one of the right side
  pub template_place : (place : ℕ) → Contains (places (template_uses printed.1)) place → Contains (places (template_uses side.1)) place ⊎ ((1 ≤ place) × (place ≤ length side.1.right))
  template_place place h =
      let there : Contains (part_places (template_of side.1)) place = subst (λ l. Contains l place) printed_places h in
      ⊎_elim
      (λ written. inl (subst (λ l. Contains l place) (sym written) there))
      (λ whole. let within = range_member 1 (length side.1.right) place (subst (λ l. Contains l place) whole there) in inr (within.0, (let less = within.1 in omega (arith, less))))
      (places_by side.1.template (length side.1.right))

  -- and stands there again in the rule's template
  pub template_again : (place : ℕ) → IsRepeated (places (template_uses printed.1)) place → IsRepeated (places (template_uses side.1)) place
  template_again place h =
      let there : IsRepeated (part_places (template_of side.1)) place = subst (λ l. IsRepeated l place) printed_places h in
      ⊎_elim
      (λ written. subst (λ l. IsRepeated l place) (sym written) there)
      (λ whole. absurd (range_once 1 (length side.1.right) place (subst (λ l. IsRepeated l place) whole there)))
      (places_by side.1.template (length side.1.right))

  pub token_places_same : places (token_uses printed.1) ≡ places (token_uses side.1)
  token_places_same =
      places_append (flat_map number_in (parts_of printed.1)) printed.1.marks
      ∙ ap (λ l. l ++ places printed.1.marks) printed_token_places
      ∙ ap (λ l. places (flat_map number_in (parts_of side.1)) ++ l) is.marks
      ∙ sym (places_append (flat_map number_in (parts_of side.1)) side.1.marks)
