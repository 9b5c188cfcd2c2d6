-- The names of right sides, with the rules that they stand in.
use Rattle.std.proofs.Common.{◌≡◌, ℕ, ◌<◌, inl, inr, List, [], ◌∷◌, ◌++◌, length, slice_get, Contains, Some, Option, refl, sym, ap, subst, ◌∙◌, arith}
use Rattle.std.proofs.lemmas.List.{length-append}
use Rattle.std.specs.Option.{option_map}
use Rattle.std.proofs.lemmas.Option.{slice_get_within}
use Rattle.std.proofs.lemmas.List.Elements.{Contains-push, Contains-push_cases, Contains-append_left}
use Rattle.grammar_data.specs.declared.rule.Sym.{Sym}
use Rattle.grammar_data.specs.declared.rule.Sym.TheVariants.{Token, Name}
use Rattle.grammar_data.specs.Grammar.{Rule}
use Rattle.grammar_theory.specs.Rules.{IsRule}
use Rattle.grammar_theory.proofs.RuleLemmas.{rule_once, slice_get_last, slice_get_cases}
use Rattle.grammar_theory.proofs.DerivationLemmas.{rule_kept}
use Rattle.first_sets.specs.Relations.{HasPair}
use Rattle.first_sets.specs.KnownNames.{HasNamesOf, AreUses, AreMentions}

-- nothing is an element of the empty list
pub contains_none : {X : Type 0} {x : X} → Contains [] x → ⊥
contains_none has = omega (arith, has.1)

pub same_pair : {n m k j : ℕ} → ◌≡◌ {A = ℕ × ℕ} (n, k) (m, j) → (n ≡ m) × (k ≡ j)
same_pair e = (ap (λ q. q.0) e, ap (λ q. q.1) e)

-- ---- one right side

pub names_token : (front : List Sym) (a number : ℕ) (old new : List (ℕ × ℕ)) → HasNamesOf front number old new → HasNamesOf (front ++ Token a ∷ []) number old new
names_token front a number old new h = record {
  kept = h.kept;
  added = λ n has. elim (Contains-push_cases front (Token a) (Name n) has) [ inl before ↦ h.added n before | inr e ↦ absurd (cc) ];
  only = λ n k has. elim (h.only n k has) [
    | inl before ↦ inl before
    | inr new_one ↦ inr (new_one.0, Contains-append_left front (Token a ∷ []) (Name n) new_one.1)
  ];
  few = omega (arith, h.few, length-append front (Token a ∷ []));
}

pub names_name : (front : List Sym) (m number : ℕ) (old new : List (ℕ × ℕ)) → HasNamesOf front number old new → HasNamesOf (front ++ Name m ∷ []) number old (new ++ (m, number) ∷ [])
names_name front m number old new h = record {
  kept = λ n k has. Contains-append_left new ((m, number) ∷ []) (n, k) (h.kept n k has);
  added = λ n has. elim (Contains-push_cases front (Name m) (Name n) has) [
    | inl before ↦ Contains-append_left new ((m, number) ∷ []) (n, number) (h.added n before)
    | inr e ↦ let same : m ≡ n = cc in subst (λ j. HasPair (new ++ (m, number) ∷ []) j number) same (Contains-push new (m, number))
  ];
  only = λ n k has. elim (Contains-push_cases new (m, number) (n, k) has) [
    | inl before ↦ elim (h.only n k before) [
      | inl older ↦ inl older
      | inr newer ↦ inr (newer.0, Contains-append_left front (Name m ∷ []) (Name n) newer.1)
    ]
    | inr e ↦ inr (sym (same_pair e).1, subst (λ j. Contains (front ++ Name m ∷ []) (Name j)) (same_pair e).0 (Contains-push front (Name m)))
  ];
  few = omega (arith, h.few, length-append front (Name m ∷ []), length-append new ((m, number) ∷ []));
}

-- ---- all right sides

last_rule : (front : List Rule) (n : ℕ) (right : List Sym) → IsRule (front ++ (n, right) ∷ []) (length front) n right
last_rule front n right = record { found = slice_get_last front (n, right) }

pub uses_more : (front : List Rule) (left : ℕ) (side : List Sym) (old new : List (ℕ × ℕ)) → AreUses front old → HasNamesOf side (length front) old new
    → AreUses (front ++ (left, side) ∷ []) new
uses_more front left side old new uses names = record {
  every = λ r n m right rule has. elim (slice_get_cases front (left, side) (n, right) r rule.found) [
    | inl found ↦ names.kept m r (uses.every r n m right (record { found = found }) has)
    | inr last ↦
        let here : side ≡ right = ap (λ q. q.1) last.1 in
        subst (λ j. HasPair new m j) (sym last.0) (names.added m (subst (λ xs. Contains xs (Name m)) (sym here) has))
  ];
  only = λ m r has. elim (names.only m r has) [
    | inl before ↦
        let found = uses.only m r before in
        (found.0, found.1, rule_kept front ((left, side) ∷ []) found.2, found.3)
    | inr last ↦ (left, side, subst (λ j. IsRule (front ++ (left, side) ∷ []) j left side) (sym last.0) (last_rule front left side), last.1)
  ];
}

pub use_in_range : (rules : List Rule) (pairs : List (ℕ × ℕ)) (m r : ℕ) → AreUses rules pairs → HasPair pairs m r → r < length rules
use_in_range rules pairs m r uses has = let found = uses.only m r has in slice_get_within rules r (found.0, found.1) found.2.found

-- ---- from left sides to names

-- the pairs are those of these uses
pub record AreMentionsOf (rules : List Rule) (uses pairs : List (ℕ × ℕ)) : Type 0 where
  pub every : (m r n : ℕ) (right : List Sym) → HasPair uses m r → IsRule rules r n right → HasPair pairs n m
  pub only : (n m : ℕ) → HasPair pairs n m → (r : ℕ) × (right : List Sym) × IsRule rules r n right × Contains right (Name m)

pub mentions_more : (rules : List Rule) (uses pairs : List (ℕ × ℕ)) (name number left : ℕ) (side : List Sym) → IsRule rules number left side → Contains side (Name name)
    → AreMentionsOf rules uses pairs → AreMentionsOf rules (uses ++ (name, number) ∷ []) (pairs ++ (left, name) ∷ [])
mentions_more rules uses pairs name number left side is stands mentions = record {
  every = λ m r n right has rule. elim (Contains-push_cases uses (name, number) (m, r) has) [
    | inl before ↦ Contains-append_left pairs ((left, name) ∷ []) (n, m) (mentions.every m r n right before rule)
    | inr e ↦
        let same = same_pair e in
        let left_is : left ≡ n = (rule_once is (subst (λ j. IsRule rules j n right) (sym same.1) rule)).0 in
        subst (λ j. HasPair (pairs ++ (left, name) ∷ []) j m) left_is (subst (λ j. HasPair (pairs ++ (left, name) ∷ []) left j) same.0 (Contains-push pairs (left, name)))
  ];
  only = λ n m has. elim (Contains-push_cases pairs (left, name) (n, m) has) [
    | inl before ↦ mentions.only n m before
    | inr e ↦
        let same = same_pair e in
        (number, side, subst (λ j. IsRule rules number j side) same.0 is, subst (λ j. Contains side (Name j)) same.1 stands)
  ];
}

pub mentions_done : (rules : List Rule) (uses pairs : List (ℕ × ℕ)) → AreUses rules uses → AreMentionsOf rules uses pairs → AreMentions rules pairs
mentions_done rules uses pairs all mentions = record {
  every = λ r n m right rule has. mentions.every m r n right (all.every r n m right rule has) rule;
  only = mentions.only;
}

-- the left side that is read of a rule
pub left_is : (rules : List Rule) (r n left : ℕ) (right : List Sym) → IsRule rules r n right → option_map (λ (rule : Rule). rule.0) (slice_get rules r) ≡ Some left → IsRule rules r left right
left_is rules r n left right rule read =
    let e : ◌≡◌ {A = Option ℕ} (Some n) (Some left) = sym (ap (option_map (λ (x : Rule). x.0)) rule.found) ∙ read in
    let same : n ≡ left = cc in
    subst (λ m. IsRule rules r m right) same rule

-- a symbol that is no name is a token
pub names_other : (front : List Sym) (x : Sym) (number : ℕ) (old new : List (ℕ × ℕ)) → ((m : ℕ) → x ≡ Name m → ⊥) → HasNamesOf front number old new → HasNamesOf (front ++ x ∷ []) number old new
names_other front (Token a) number old new none h = names_token front a number old new h
names_other front (Name m) number old new none h = absurd (none m refl)
