-- Grammars, their spots and their fronts.
use Rattle.std.proofs.Common.{◌≡◌, ℕ, ◌<◌, inl, inr, List, [], ◌∷◌, ◌++◌, length, get_or, slice_get, Option, Some, None, ◌+◌, refl, sym, ap, subst, ◌∙◌, arith}
use Rattle.std.specs.Option.{option_map}
use Rattle.std.proofs.lemmas.Bool.{cases_eq}
use Rattle.std.proofs.lemmas.List.{get_or_push, get_or_default, get_or_append_left, length_push}
use Rattle.std.proofs.lemmas.List.Elements.{All-push, Contains-push, Contains-append_left}
use Rattle.std.proofs.lemmas.Option.{slice_get_within, same_Some, none-some}
use Rattle.grammar_data.specs.declared.rule.Sym.{Sym}
use Rattle.grammar_data.specs.declared.rule.Sym.TheVariants.{Token, Name}
use Rattle.grammar_data.specs.Grammar.{Rule, Grammar}
use Rattle.grammar_theory.specs.Rules.{IsRule, OnlyNames}
use Rattle.grammar_theory.proofs.FirstLemmas.{first_weaker}
use Rattle.first_sets.specs.NameFacts.{NameFacts, AreFirsts}
use Rattle.grammar_theory.proofs.RuleLemmas.{rule_once}
use Rattle.item_theory.specs.Items.{augmented_rule}
use Rattle.item_theory.proofs.ItemLemmas.{own_rule, WhichRule, is_own, is_last, which_rule}
use Rattle.item_sets.specs.declared.spot.Spot.{Spot}
use Rattle.item_sets.specs.Spots.{IsRestBy, IsRest, IsSpotAt, AreSpots, AreRuleSpots, IsFront, AreFrontsBelow}

-- ---- rests

only_weaker : (P Q : ℕ → Type 0) → ((n : ℕ) → P n → Q n) → (xs : List Sym) → OnlyNames P xs → OnlyNames Q xs
only_weaker P Q weaker [] all = tt
only_weaker P Q weaker (Token a ∷ xs) all = absurd all
only_weaker P Q weaker (Name n ∷ xs) all = (weaker n all.0, only_weaker P Q weaker xs all.1)

pub rest_of_facts : (g : Grammar) (facts : NameFacts) (xs : List Sym) (tokens : List ℕ) (mark : _) → AreFirsts g facts → IsRestBy facts xs tokens mark → IsRest g xs tokens mark
rest_of_facts g facts xs tokens mark are rest = record {
  first = λ b. (
    λ h. first_weaker (λ n a. (are.first n a).0) (λ n. (are.nullable n).0) xs b ((rest.first b).0 h),
    λ f. (rest.first b).1 (first_weaker (λ n a. (are.first n a).1) (λ n. (are.nullable n).1) xs b f),
  );
  passes = (
    λ yes. only_weaker _ _ (λ n. (are.nullable n).0) xs (rest.passes.0 yes),
    λ all. rest.passes.1 (only_weaker _ _ (λ n. (are.nullable n).1) xs all),
  );
}

-- ---- spots

pub spot_in_front : (g : Grammar) (rows : List (List Spot)) → AreRuleSpots g rows → (r n : ℕ) (right : List Sym) → IsRule g.rules r n right → AreSpots g right (get_or rows r [])
spot_in_front g rows are r n right rule = are.each r n right (own_rule g rule)

no_front : (g : Grammar) (x : Sym) (xs : List Sym) → AreSpots g (x ∷ xs) [] → ⊥
no_front g x xs are = let e = are.count in absurd (omega arith)

-- where a rule has no spot, its right side is empty
pub no_opening : (g : Grammar) (spots : List Spot) (x : Sym) (xs : List Sym) → AreSpots g (x ∷ xs) spots → slice_get spots 0 ≡ None → ⊥
no_opening g [] x xs are e = no_front g x xs are
no_opening g (s ∷ ss) x xs are e = absurd (cc)

-- the symbol in front of a right side
pub front_symbol : (g : Grammar) (spots : List Spot) (spot : Spot) (x : Sym) (xs : List Sym) → AreSpots g (x ∷ xs) spots → slice_get spots 0 ≡ Some spot → spot.symbol ≡ x
front_symbol g spots spot x xs are e = let at = are.each 0 spot e in let same : x ∷ xs ≡ spot.symbol ∷ at.after = at.behind in cc

-- ---- fronts

first_same : {X : Type 0} {y z : X} {ys zs : List X} → y ∷ ys ≡ z ∷ zs → (y ≡ z) × (ys ≡ zs)
first_same e = (cc, cc)

-- the rule's left side, and the row of its spots
pub record IsFrontOf (g : Grammar) (rows : List (List Spot)) (r n : ℕ) (row : List Spot) : Type 0 where
  pub are : AreRuleSpots g rows
  pub left : option_map (λ (rule : Rule). rule.0) (slice_get g.rules r) ≡ Some n
  pub here : row ≡ get_or rows r row
  pub within : r < length g.rules

row_spots : (g : Grammar) (rows : List (List Spot)) (r n : ℕ) (row : List Spot) → IsFrontOf g rows r n row → (l : ℕ) (right : List Sym) → IsRule g.rules r l right → AreSpots g right row
row_spots g rows r n row front l right rule =
    let inside : r < length rows = omega (arith, front.are.count, length_push g.rules (augmented_rule g)) in
    subst (λ ss. AreSpots g right ss) (get_or_default rows r [] row inside ∙ sym front.here) (spot_in_front g rows front.are r l right rule)

opened_at : (g : Grammar) (rows : List (List Spot)) (r n : ℕ) (row : List Spot) → IsFrontOf g rows r n row → (spot : Spot) (m : ℕ) → slice_get row 0 ≡ Some spot → spot.symbol ≡ Name m
    → (o : Option Rule) → slice_get g.rules r ≡ o → option_map (λ (rule : Rule). rule.0) o ≡ Some n
    → (q : ℕ) × (after : List Sym) × IsRule g.rules r n (Name q ∷ after) × IsSpotAt g (Name q ∷ after) 0 spot
opened_at g rows r n row front spot m at is None e h = absurd (none-some _ h)
opened_at g rows r n row front spot m at is (Some (l, right)) e h =
    let same : l ≡ n = same_Some _ _ h in
    let rule : IsRule g.rules r n right = record { found = subst (λ k. slice_get g.rules r ≡ Some (k, right)) same e } in
    let here = (row_spots g rows r n row front n right rule).each 0 spot at in
    let whole : right ≡ Name m ∷ here.after = here.behind ∙ ap (λ x. x ∷ here.after) is in
    (m, here.after, subst (λ l. IsRule g.rules r n l) whole rule, subst (λ l. IsSpotAt g l 0 spot) whole here)

pub opened : (g : Grammar) (rows : List (List Spot)) (r n : ℕ) (row : List Spot) → IsFrontOf g rows r n row → (spot : Spot) (m : ℕ) → slice_get row 0 ≡ Some spot → spot.symbol ≡ Name m
    → (q : ℕ) × (after : List Sym) × IsRule g.rules r n (Name q ∷ after) × IsSpotAt g (Name q ∷ after) 0 spot
opened g rows r n row front spot m at is = opened_at g rows r n row front spot m at is (slice_get g.rules r) refl front.left

pub not_opened : (g : Grammar) (rows : List (List Spot)) (r n : ℕ) (row : List Spot) → IsFrontOf g rows r n row → slice_get row 0 ≡ None → (m : ℕ) (after : List Sym) → IsRule g.rules r n (Name m ∷ after) → ⊥
not_opened g rows r n row front none m after rule = no_opening g row (Name m) after (row_spots g rows r n row front n (Name m ∷ after) rule) none

pub token_opened : (g : Grammar) (rows : List (List Spot)) (r n : ℕ) (row : List Spot) → IsFrontOf g rows r n row → (spot : Spot) (a : ℕ) → slice_get row 0 ≡ Some spot → spot.symbol ≡ Token a → (m : ℕ) (after : List Sym) → IsRule g.rules r n (Name m ∷ after) → ⊥
token_opened g rows r n row front spot a at is m after rule = let e = front_symbol g row spot (Name m) after (row_spots g rows r n row front n (Name m ∷ after) rule) at in absurd (cc)

-- ---- the fronts of one more rule

module _ (g : Grammar) (limit n : ℕ) (spots : List Spot) (below : AreFrontsBelow g limit n spots) where
  pub fronts_kept : ((m : ℕ) (after : List Sym) → IsRule g.rules limit n (Name m ∷ after) → ⊥) → AreFrontsBelow g (limit + 1) n spots
  fronts_kept none = record {
    sound = below.sound;
    whole = λ r m after less rule. elim (cases_eq r limit) [
      | inl e ↦ absurd (none m after (subst (λ k. IsRule g.rules k n (Name m ∷ after)) e rule))
      | inr ne ↦ below.whole r m after (omega arith) rule
    ];
  }

  last_opening : (spot : Spot) (q m : ℕ) (others after : List Sym) → IsRule g.rules limit n (Name q ∷ others) → IsSpotAt g (Name q ∷ others) 0 spot → IsRule g.rules limit n (Name m ∷ after) → IsSpotAt g (Name m ∷ after) 0 spot
  last_opening spot q m others after rule at other = subst (λ l. IsSpotAt g l 0 spot) (rule_once rule other).1 at

  pub fronts_pushed : (spot : Spot) (q : ℕ) (others : List Sym) → IsRule g.rules limit n (Name q ∷ others) → IsSpotAt g (Name q ∷ others) 0 spot → AreFrontsBelow g (limit + 1) n (spots ++ spot ∷ [])
  fronts_pushed spot q others own at = record {
    sound = All-push (IsFront g n) spots spot below.sound (record { number = limit; name = q; after = others; rule = own; front = at });
    whole = λ r m after less rule. elim (cases_eq r limit) [
      | inl e ↦ (spot, Contains-push spots spot, last_opening spot q m others after own at (subst (λ k. IsRule g.rules k n (Name m ∷ after)) e rule))
      | inr ne ↦ (let old = below.whole r m after (omega arith) rule in (old.0, Contains-append_left spots (spot ∷ []) old.0 old.1, old.2))
    ];
  }

-- ---- the rows of all rules

-- what holds of each element by its place, with one more
pub each_pushed : {X : Type 0} (P : ℕ → X → Type 0) (xs : List X) (d x : X) (n : ℕ) → length xs ≡ n → ((k : ℕ) → k < n → P k (get_or xs k d)) → P n x → (k : ℕ) → k < n + 1 → P k (get_or (xs ++ x ∷ []) k d)
each_pushed P xs d x n count each last k less =
    elim (cases_eq k n) [
      | inl e ↦ subst (λ i. P i (get_or (xs ++ x ∷ []) i d)) (sym e) (subst (λ y. P n y) (sym (get_or_push xs x d n count)) last)
      | inr ne ↦ (let inside : k < length xs = omega arith in subst (λ y. P k y) (sym (get_or_append_left xs (x ∷ []) d k inside)) (each k (omega arith)))
    ]

pub row_of_rule : (g : Grammar) (r l n : ℕ) (right side : List Sym) (row : List Spot) → slice_get g.rules r ≡ Some (l, side) → AreSpots g side row → IsRule g.rules r n right → AreSpots g right row
row_of_rule g r l n right side row at are rule = subst (λ xs. AreSpots g xs row) (rule_once (record { found = at }) rule).1 are

pub rows_whole : (g : Grammar) (rows : List (List Spot)) (last : List Spot) → length rows ≡ length g.rules
    → ((r : ℕ) → r < length g.rules → (n : ℕ) (right : List Sym) → IsRule g.rules r n right → AreSpots g right (get_or rows r []))
    → AreSpots g (Name g.start ∷ []) last → AreRuleSpots g (rows ++ last ∷ [])
rows_whole g rows last count own at = record {
  count = length_push rows last ∙ ap (λ k. k + 1) count ∙ sym (length_push g.rules (augmented_rule g));
  each = λ r n right rule. cases r n right (which_rule g rule);
}
  where
    cases : (r n : ℕ) (right : List Sym) → WhichRule g r n right → AreSpots g right (get_or (rows ++ last ∷ []) r [])
    cases r n right (is_own rule) =
        let less = slice_get_within g.rules r (n, right) rule.found in
        subst (λ ss. AreSpots g right ss) (sym (get_or_append_left rows (last ∷ []) [] r (omega arith))) (own r less n right rule)
    cases r n right (is_last e left is) =
        subst (λ l. AreSpots g l (get_or (rows ++ last ∷ []) r [])) (sym is)
        (subst (λ ss. AreSpots g (Name g.start ∷ []) ss) (sym (get_or_push rows last [] r (omega arith))) at)
