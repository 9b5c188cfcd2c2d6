-- The openings of right sides.
use Rattle.std.proofs.Common.{◌≡◌, ℕ, suc, ◌+◌, ◌<◌, ◌≤◌, ◌⊎◌, inl, inr, Bool, List, [], ◌∷◌, ◌++◌, length, take, get_or, slice_get, Contains, All, sym, ap, subst, ◌∙◌, arith}
use Rattle.std.proofs.lemmas.Bool.{cases_lt, cases_eq}
use Rattle.std.proofs.lemmas.List.{length-append, length-take-le, get_or-take, get_or_default}
use Rattle.std.proofs.lemmas.List.Elements.{All-more, Contains-push, Contains-push_cases, Contains-append_left}
use Rattle.grammar_data.specs.declared.rule.Sym.{Sym}
use Rattle.grammar_data.specs.declared.rule.Sym.TheVariants.{Name}
use Rattle.grammar_data.specs.Grammar.{Rule}
use Rattle.grammar_theory.specs.Rules.{IsRule}
use Rattle.grammar_theory.proofs.RuleLemmas.{slice_get_last, slice_get_cases}
use Rattle.grammar_theory.proofs.DerivationLemmas.{rule_kept, slice_get_kept}
use Rattle.first_sets.specs.declared.known_names.Lists.TheVariants.{Empty}
use Rattle.first_sets.specs.declared.opening.Opening.{Opening}
use Rattle.first_sets.specs.Relations.{HasPair}
use Rattle.first_sets.specs.KnownNames.{IsKnownSymbol}
use Rattle.first_sets.specs.Openings.{IsVisible, opening, HasOpeningsOf, AreOpenings, AreReaders}
use Rattle.first_sets.proofs.UseLemmas.{same_pair}

-- ---- one right side

-- all symbols before a place are nullable names, and are opened
pub record AreOpenedTo (nullable : List Bool) (left : ℕ) (right : List Sym) (place : ℕ) (old new : List Opening) : Type 0 where
  pub front : All (IsKnownSymbol nullable Empty) (take place right)
  pub kept : (o : Opening) → Contains old o → Contains new o
  pub added : (k : ℕ) (x : Sym) → k < place → get_or right k x ≡ x → Contains new (opening left x)
  pub only : (o : Opening) → Contains new o → Contains old o ⊎ ((o.left ≡ left) × IsVisible nullable right o.symbol)
  pub few : length new ≤ length old + place

same_opening : {n m : ℕ} {x y : Sym} → opening n x ≡ opening m y → (n ≡ m) × (x ≡ y)
same_opening e = (ap (λ o. o.left) e, ap (λ o. o.symbol) e)

-- the symbol at a place is opened
module _ (nullable : List Bool) (left : ℕ) (right : List Sym) (place : ℕ) (old now : List Opening) (x : Sym) (is : get_or right place x ≡ x) (inside : place < length right) where
  opened_at : AreOpenedTo nullable left right place old now → (k : ℕ) (y : Sym) → k < suc place → get_or right k y ≡ y → Contains (now ++ opening left x ∷ []) (opening left y)
  opened_at h k y less at = elim (cases_eq k place) [
    | inl e ↦
        let same : x ≡ y = sym is ∙ get_or_default right place x y inside ∙ ap (λ n. get_or right n y) (sym e) ∙ at in
        subst (λ z. Contains (now ++ opening left x ∷ []) (opening left z)) same (Contains-push now (opening left x))
    | inr ne ↦ Contains-append_left now (opening left x ∷ []) (opening left y) (h.added k y (omega arith) at)
  ]

  opened_only : AreOpenedTo nullable left right place old now → (o : Opening) → Contains (now ++ opening left x ∷ []) o → Contains old o ⊎ ((o.left ≡ left) × IsVisible nullable right o.symbol)
  opened_only h o has = elim (Contains-push_cases now (opening left x) o has) [
    | inl before ↦ h.only o before
    | inr e ↦ inr (sym (same_opening e).0, subst (λ y. IsVisible nullable right y) (same_opening e).1 (place, inside, is, h.front))
  ]

  pub opened_more : AreOpenedTo nullable left right place old now → IsKnownSymbol nullable Empty x → AreOpenedTo nullable left right (place + 1) old (now ++ opening left x ∷ [])
  opened_more h known = record {
    front = All-more (IsKnownSymbol nullable Empty) right place x inside h.front (subst (λ y. IsKnownSymbol nullable Empty y) (sym is) known);
    kept = λ o has. Contains-append_left now (opening left x ∷ []) o (h.kept o has);
    added = λ k y less at. opened_at h k y (omega arith) at;
    only = opened_only h;
    few = omega (arith, h.few, length-append now (opening left x ∷ []));
  }

  -- a symbol that isn't a nullable name is the last that is visible
  pub opened_last : AreOpenedTo nullable left right place old now → ¬ (IsKnownSymbol nullable Empty x) → HasOpeningsOf nullable left right old (now ++ opening left x ∷ [])
  opened_last h unknown = record {
    kept = λ o has. Contains-append_left now (opening left x ∷ []) o (h.kept o has);
    added = λ y seen. elim (cases_lt place seen.0) [
      | inl less ↦
          let long : place < length (take seen.0 right) = omega (arith, length-take-le seen.0 right (omega (arith, seen.1))) in
          absurd (unknown (subst (λ z. IsKnownSymbol nullable Empty z) (get_or-take seen.0 right place x less ∙ is) (seen.3 place x long)))
      | inr more ↦ opened_at h seen.0 y (omega arith) seen.2
    ];
    only = opened_only h;
    few = omega (arith, h.few, length-append now (opening left x ∷ []), inside);
  }

-- ---- all right sides

pub openings_more : (nullable : List Bool) (front : List Rule) (left : ℕ) (side : List Sym) (old new : List Opening) → AreOpenings nullable front old → HasOpeningsOf nullable left side old new
    → AreOpenings nullable (front ++ (left, side) ∷ []) new
openings_more nullable front left side old new all h = record {
  every = λ r n right x rule seen. elim (slice_get_cases front (left, side) (n, right) r rule.found) [
    | inl found ↦ h.kept (opening n x) (all.every r n right x (record { found = found }) seen)
    | inr last ↦
        let same_left : left ≡ n = ap (λ q. q.0) last.1 in
        let same_side : side ≡ right = ap (λ q. q.1) last.1 in
        subst (λ m. Contains new (opening m x)) same_left (h.added x (subst (λ xs. IsVisible nullable xs x) (sym same_side) seen))
  ];
  only = λ o has. elim (h.only o has) [
    | inl before ↦
        let found = all.only o before in
        (found.0, found.1, rule_kept front ((left, side) ∷ []) found.2, found.3)
    | inr last ↦ (length front, side, subst (λ n. IsRule (front ++ (left, side) ∷ []) (length front) n side) (sym last.0) (record { found = slice_get_last front (left, side) }), last.1)
  ];
}

-- ---- the places of openings by their names

pub readers_name : (front : List Opening) (last : Opening) (name : ℕ) (pairs : List (ℕ × ℕ)) → last.symbol ≡ Name name → AreReaders front pairs
    → AreReaders (front ++ last ∷ []) (pairs ++ (name, length front) ∷ [])
readers_name front last name pairs is all = record {
  every = λ k m o at symbol. elim (slice_get_cases front last o k at) [
    | inl found ↦ Contains-append_left pairs ((name, length front) ∷ []) (m, k) (all.every k m o found symbol)
    | inr e ↦
        let names : Name name ≡ Name m = sym is ∙ ap (λ p. p.symbol) e.1 ∙ symbol in
        let same : name ≡ m = cc in
        subst (λ j. HasPair (pairs ++ (name, length front) ∷ []) m j) (sym e.0) (subst (λ j. HasPair (pairs ++ (name, length front) ∷ []) j (length front)) same (Contains-push pairs (name, length front)))
  ];
  only = λ m k has. elim (Contains-push_cases pairs (name, length front) (m, k) has) [
    | inl before ↦ let found = all.only m k before in (found.0, slice_get_kept front (last ∷ []) k found.1, found.2)
    | inr e ↦ (last, ap (slice_get (front ++ last ∷ [])) (sym (same_pair e).1) ∙ slice_get_last front last, is ∙ ap Name (same_pair e).0)
  ];
}

pub readers_other : (front : List Opening) (last : Opening) (pairs : List (ℕ × ℕ)) → ((m : ℕ) → last.symbol ≡ Name m → ⊥) → AreReaders front pairs → AreReaders (front ++ last ∷ []) pairs
readers_other front last pairs none all = record {
  every = λ k m o at symbol. elim (slice_get_cases front last o k at) [
    | inl found ↦ all.every k m o found symbol
    | inr e ↦ absurd (none m (ap (λ p. p.symbol) e.1 ∙ symbol))
  ];
  only = λ m k has. (let found = all.only m k has in (found.0, slice_get_kept front (last ∷ []) k found.1, found.2));
}
