-- The items of the augmented rule: chains have it with the dot in front at their begin, and behind the start.
use Rattle.std.proofs.Common.{◌≡◌, ◌+◌, ◌<◌, ◌⊎◌, inl, inr, List, [], ◌∷◌, ◌++◌, length, refl, sym, ap, ◌∙◌, subst, arith}
use Rattle.std.proofs.lemmas.Option.{slice_get_within}
use Rattle.grammar_data.specs.declared.rule.Sym.{Sym}
use Rattle.grammar_data.specs.declared.rule.Sym.TheVariants.{Name}
use Rattle.grammar_data.specs.Grammar.{Grammar}
use Rattle.grammar_theory.specs.Rules.{IsInRange}
use Rattle.grammar_theory.proofs.RuleLemmas.{names_back}
use Rattle.item_theory.specs.Items.{Item, Dotted, IsValid, augmented_item}
use Rattle.item_theory.specs.Chains.{Moves, moves, Opens, opens, IsChained, begins, over, into}
use Rattle.item_theory.proofs.ItemLemmas.{WhichRule, is_own, is_last, which_rule, right_names, dotted_once, dotted_first, dotted_moved}
use Rattle.item_theory.proofs.ChainLemmas.{valid_first, valid_over}

-- the item with the dot at the end is valid for the start
pub augmented_end : (g : Grammar) → IsValid g (Name g.start ∷ []) (augmented_item g 1)
augmented_end g = valid_over g (valid_first g) (moves g.names [] [] (dotted_first g) refl) refl

-- the item stands at the begin, or behind the start
abbrev pub IsAugmentedAt : Grammar → List Sym → Item → Type 0
IsAugmentedAt g xs i = ((xs ≡ []) × (i ≡ augmented_item g 0)) ⊎ ((xs ≡ Name g.start ∷ []) × (i ≡ augmented_item g 1))

-- a rule of the augmented name is no rule of a name that is opened
not_opened : (g : Grammar) → IsInRange g → {i j : Item} → Opens g i j → j.rule ≡ length g.rules → ⊥
not_opened g range {j = j} (opens n m before after right dotted front follows) last = cases (which_rule g front.rule)
  where
    cases : WhichRule g j.rule m right → ⊥
    cases (is_own own) = let less = slice_get_within g.rules j.rule (m, right) own.found in omega arith
    cases (is_last at left e) =
        let behind = names_back (λ k. k < g.names) before (Name m ∷ after) (right_names g range dotted.rule) in
        let less = behind.0 in
        omega arith

same_rule : {g : Grammar} {x : Sym} {i j : Item} → Moves g x i j → j.rule ≡ i.rule
same_rule (moves n before after dotted e) = ap (λ (k : Item). k.rule) e

moved_front : (g : Grammar) {x : Sym} {i j : Item} {ys : List Sym} → Moves g x i j → i ≡ augmented_item g 0 → ys ≡ [] ++ x ∷ [] → IsAugmentedAt g ys j
moved_front g {x} {i} {j} {ys} (moves n before after dotted e) is to =
    let same = dotted_once (subst (λ k. Dotted g k n before (x ∷ after)) is dotted) (dotted_first g) in
    let name : x ≡ Name g.start = first_of same.2 in
    inr (to ∙ ap (λ y. y ∷ []) name, e ∙ ap (λ (k : Item). record k { dot = k.dot + 1 }) is)
  where
    first_of : {us vs : List Sym} {y z : Sym} → y ∷ us ≡ z ∷ vs → y ≡ z
    first_of e = cc

not_moved_end : (g : Grammar) {x : Sym} {i j : Item} → Moves g x i j → i ≡ augmented_item g 1 → ⊥
not_moved_end g {x} (moves n before after dotted e) is =
    let same = dotted_once (subst (λ k. Dotted g k n before (x ∷ after)) is dotted) (dotted_moved [] (dotted_first g)) in
    absurd (cons_nil same.2)
  where
    cons_nil : {us : List Sym} {y : Sym} → y ∷ us ≡ [] → ⊥
    cons_nil e = cc

moved_from : (g : Grammar) {x : Sym} {xs ys : List Sym} {i j : Item} → Moves g x i j → ys ≡ xs ++ x ∷ [] → IsAugmentedAt g xs i → IsAugmentedAt g ys j
moved_from g {x} move to (inl (none, is)) = moved_front g move is (to ∙ ap (λ l. l ++ x ∷ []) none)
moved_from g move to (inr (start, is)) = absurd (not_moved_end g move is)

pub chain_augmented : (g : Grammar) → IsInRange g → {xs : List Sym} {i : Item} → IsChained g xs i → i.rule ≡ length g.rules → IsAugmentedAt g xs i
chain_augmented g range (begins e) last = inl (refl, e)
chain_augmented g range (over c move to) last = moved_from g move to (chain_augmented g range c (sym (same_rule move) ∙ last))
chain_augmented g range (into c o) last = absurd (not_opened g range o last)
