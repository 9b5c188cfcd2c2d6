-- The places of a rule's marked parts, and the kids at them.
use Rattle.std.proofs.Common.{◌≡◌, ℕ, zero, suc, ◌+◌, ◌<◌, List, [], ◌∷◌, ◌++◌, length, get_or, slice_get, Bool, true, false, refl, sym, ap, subst, ◌∙◌, ⊎_elim, arith}
use Rattle.std.specs.Prelude.{if◌then◌else◌, All, Vec, Option, Some, unwrap_or}
use Rattle.std.specs.Global.{Global}
use Rattle.std.specs.Option.{option_map}
use Rattle.std.proofs.Math.Nat.{eq-or-lt_of_le}
use Rattle.std.proofs.Math.Seq.{get_or-append_seam}
use Rattle.std.proofs.lemmas.Option.{slice_get_read, slice_get_within, slice_get-map, same_Some}
use Rattle.std.proofs.lemmas.List.{append_assoc, length-append, length-map, map-append}
use Rattle.std.proofs.lemmas.List.Elements.{All-append}
use Rattle.grammar_data.specs.declared.rule.Sym.{Sym}
use Rattle.grammar_data.specs.Grammar.{Grammar, Rule}
use Rattle.node_data.specs.declared.kid.Kid.{Kid}
use Rattle.node_data.specs.declared.kid.Kid.TheVariants.{Hidden}
use Rattle.grammar_theory.proofs.DerivationLemmas.{slice_get_kept}
use Rattle.grammar_theory.proofs.RuleLemmas.{slice_get_last}
use Rattle.sheet_data.specs.Sheet.{Sheet}
use Rattle.name_table.specs.Markings.{AreMarkedPlaces, declared_by, is_marked_part, lists_of, marked_places, right_of}
use Rattle.name_table.specs.Pending.{kids_at, pending_kids}

module _ (declared : List ℕ) (marking : List Bool) where
  one_below : (b : Bool) (k most : ℕ) → k < most → All (λ place. place < most) (if b then k ∷ [] else [])
  one_below true k most below zero d inside = below
  one_below true k most below (suc i) d inside = absurd (omega (arith, inside))
  one_below false k most below i d inside = absurd (omega (arith, inside))

  -- the places are those of symbols
  pub places_below : (k : ℕ) (xs : List Sym) → All (λ place. place < k + length xs) (marked_places declared marking k xs)
  places_below k [] = λ i d inside. absurd (omega (arith, inside))
  places_below k (x ∷ xs) =
      let later : All (λ place. place < k + suc (length xs)) (marked_places declared marking (suc k) xs) = λ i d inside. (let below = places_below (suc k) xs i d inside in omega (arith, below)) in
      All-append (λ place. place < k + suc (length xs)) (marked_places declared marking (suc k) xs) (if is_marked_part declared marking (suc k) x then k ∷ [] else []) later
      (one_below (is_marked_part declared marking (suc k) x) k (k + suc (length xs)) (omega arith))

  here : (b : Bool) (whole : List Kid) (k : ℕ) (kid : Kid) → get_or whole k Hidden ≡ kid → kids_at whole (if b then k ∷ [] else []) ≡ (if b then kid ∷ [] else [])
  here true whole k kid is = ap (λ (one : Kid). one ∷ []) is
  here false whole k kid is = refl

  -- the kids at them are those that may have marked leaves
  pub kids_marked : (k : ℕ) (xs : List Sym) (whole front kids : List Kid) → whole ≡ front ++ kids → length front ≡ k → length kids ≡ length xs → kids_at whole (marked_places declared marking k xs) ≡ pending_kids declared marking (suc k) xs kids
  kids_marked k [] whole front kids is size each = refl
  kids_marked k (x ∷ xs) whole front [] is size each = absurd (omega (arith, each))
  kids_marked k (x ∷ xs) whole front (kid ∷ kids) is size each =
      let later = marked_places declared marking (suc k) xs in
      let longer : whole ≡ (front ++ kid ∷ []) ++ kids = is ∙ sym (append_assoc front (kid ∷ []) kids) in
      let count : length (front ++ kid ∷ []) ≡ suc k = omega (arith, size, length-append front (kid ∷ [])) in
      let at : get_or whole k Hidden ≡ kid = ap (λ (l : List Kid). get_or l k Hidden) is ∙ ap (λ n. get_or (front ++ kid ∷ kids) n Hidden) (sym size) ∙ get_or-append_seam front kid kids Hidden in
      map-append (λ (place : ℕ). get_or whole place Hidden) later (if is_marked_part declared marking (suc k) x then k ∷ [] else [])
      ∙ ap (λ (l : List Kid). l ++ kids_at whole (if is_marked_part declared marking (suc k) x then k ∷ [] else [])) (kids_marked (suc k) xs whole (front ++ kid ∷ []) kids longer count (omega (arith, each)))
      ∙ ap (λ (l : List Kid). pending_kids declared marking (suc (suc k)) xs kids ++ l) (here (is_marked_part declared marking (suc k) x) whole k kid at)

-- ---- rule by rule

-- the places of the rules below a number
pub record ArePlacesBelow (sheet : Sheet) (marking : List Bool) (lists : List (List ℕ)) (count : ℕ) : Type 0 where
  pub size : length lists ≡ count
  pub each : (r : ℕ) → r < count → slice_get lists r ≡ Some (marked_places (declared_by sheet r) marking 0 (right_of sheet r))

pub one_rule_more : (sheet : Sheet) (marking : List Bool) (lists now : List (List ℕ)) (count next : ℕ) (places : List ℕ) → ArePlacesBelow sheet marking lists count → next ≡ count + 1 → now ≡ lists ++ places ∷ [] → places ≡ marked_places (declared_by sheet count) marking 0 (right_of sheet count) → ArePlacesBelow sheet marking now next
one_rule_more sheet marking lists now count next places below is_next is are = record {
  size = omega (arith, ap length is, length-append lists (places ∷ []), below.size);
  each = λ r inside. subst (λ l. slice_get l r ≡ Some (places_at r)) (sym is) (⊎_elim (last r) (earlier r) (eq-or-lt_of_le {n = r} {m = count} (omega (arith, inside, is_next))));
}
  where
    places_at : ℕ → List ℕ
    places_at r = marked_places (declared_by sheet r) marking 0 (right_of sheet r)

    last : (r : ℕ) → r ≡ count → slice_get (lists ++ places ∷ []) r ≡ Some (places_at r)
    last r e =
        ap (slice_get (lists ++ places ∷ [])) (e ∙ sym below.size) ∙ slice_get_last lists places ∙ ap (λ (l : List ℕ). Some l) (are ∙ ap places_at (sym e))

    earlier : (r : ℕ) → r < count → slice_get (lists ++ places ∷ []) r ≡ Some (places_at r)
    earlier r inside = slice_get_kept lists (places ∷ []) r (below.each r inside)

module _ (sheet : Sheet) (marking : List Bool) (vectors : List (Vec ℕ Global)) (are : AreMarkedPlaces sheet marking (lists_of vectors)) (r : ℕ) (inside : r < length sheet.grammar.rules) where
  pub has_places : r < length vectors
  has_places =
      let within = slice_get_within (lists_of vectors) r (marked_places (declared_by sheet r) marking 0 (right_of sheet r)) (are r inside) in
      let size = length-map vectors (λ (vector : Vec ℕ Global). vector.items) in
      omega (arith, within, size)

  pub places_are : (vector : Vec ℕ Global) → vector ≡ get_or vectors r vector → vector.items ≡ marked_places (declared_by sheet r) marking 0 (right_of sheet r)
  places_are vector is =
      let at : slice_get vectors r ≡ Some vector = slice_get_read vectors (length vectors) r vector refl has_places is in
      let listed : slice_get (lists_of vectors) r ≡ Some vector.items = slice_get-map (λ (one : Vec ℕ Global). one.items) vectors r ∙ ap (option_map (λ (one : Vec ℕ Global). one.items)) at in
      same_Some vector.items (marked_places (declared_by sheet r) marking 0 (right_of sheet r)) (sym listed ∙ are r inside)

-- the places that were made of what the sheet says of a rule
pub places_made : (sheet : Sheet) (marking : List Bool) (r : ℕ) (declared : List ℕ) (right : List Sym) (grammar : Grammar) (places : List ℕ) → grammar ≡ sheet.grammar → slice_get sheet.declares r ≡ Some declared → option_map (λ (rule : Rule). rule.1) (slice_get grammar.rules r) ≡ Some right → places ≡ marked_places declared marking 0 right → places ≡ marked_places (declared_by sheet r) marking 0 (right_of sheet r)
places_made sheet marking r declared right grammar places same declares at are =
    let by : declared_by sheet r ≡ declared = ap (λ (o : Option (List ℕ)). unwrap_or o []) declares in
    let side : right_of sheet r ≡ right = ap (λ (o : Option (List Sym)). unwrap_or o []) (subst (λ (g : Grammar). option_map (λ (rule : Rule). rule.1) (slice_get g.rules r) ≡ Some right) same at) in
    are ∙ ap (λ d. marked_places d marking 0 right) (sym by) ∙ ap (λ x. marked_places (declared_by sheet r) marking 0 x) (sym side)
