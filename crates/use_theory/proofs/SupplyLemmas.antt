-- Hidden kids that are filled: kid by kid, and what the nodes show then.
use Rattle.std.proofs.Common.{◌≡◌, ℕ, zero, suc, ◌+◌, ◌<◌, List, [], ◌∷◌, ◌++◌, length, replicate, slice_get, slice_set, Contains, Some, refl, sym, ap, ◌∙◌, subst, arith}
use Rattle.grammar_theory.specs.Trees.{Tree}
use Rattle.node_data.specs.declared.kid.Kid.{Kid}
use Rattle.node_data.specs.declared.kid.Kid.TheVariants.{Token, Node as NodeKid, Hidden}
use Rattle.tree_theory.specs.Stores.{Ref, Store, Supply, Shows, shows_hidden, Refits, refits_none, refits_same, refits_hidden}
use Rattle.tree_theory.proofs.ShownLemmas.{some_pair}
use Rattle.use_theory.specs.Fills.{FillsKid, SuppliesPart, KidByKidLaw, NoneSuppliedLaw, SuppliedLaw}
use Rattle.use_theory.proofs.DistinctLemmas.{one_or_other}

-- ---- kid by kid

one_hidden : (still : ℕ) (kids : List Kid) → replicate (suc still) Hidden ++ kids ≡ replicate still Hidden ++ Hidden ∷ kids
one_hidden zero kids = refl
one_hidden (suc still) kids = ap (λ l. Hidden ∷ l) (one_hidden still kids)

set_hidden : (still : ℕ) (kid : Kid) (kids : List Kid) → slice_set (replicate (suc still) Hidden ++ kids) still kid ≡ replicate still Hidden ++ kid ∷ kids
set_hidden zero kid kids = refl
set_hidden (suc still) kid kids = ap (λ l. Hidden ∷ l) (set_hidden still kid kids)

pub kid_by_kid : (store mid new : Store) (m : Ref) (still : ℕ) (kid : Kid) (kids : List Kid) → SuppliesPart store mid m (suc still) kids → FillsKid mid new m still kid → SuppliesPart store new m still (kid ∷ kids)
kid_by_kid store mid new m still kid kids part fill =
    let same = some_pair (sym fill.before ∙ part.after) in
    record {
      rule = part.rule;
      further = part.further;
      before = part.before ∙ ap (λ l. Some (part.rule, l)) (one_hidden still (replicate (length kids) Hidden ++ part.further));
      after = fill.after ∙ ap (λ (r : ℕ). Some (r, slice_set fill.kids still kid)) same.0 ∙ ap (λ l. Some (part.rule, slice_set l still kid)) same.1 ∙ ap (λ l. Some (part.rule, l)) (set_hidden still kid (kids ++ part.further));
      others = λ n not. fill.others n not ∙ part.others n not;
    }

pub kid_by_kid_law : KidByKidLaw
kid_by_kid_law store mid new m still kid kids part fill = kid_by_kid store mid new m still kid kids part fill

pub none_supplied_law : NoneSuppliedLaw
none_supplied_law store m rule still further at = record { rule = rule; further = further; before = at; after = at; others = λ n not. refl }

-- ---- what the nodes show

refits_others : (supply : Supply) (new : Store) (supply1 : Supply) (n : Ref) → ((trees : List Tree) → Contains {X = Ref × List Tree} supply (n, trees) → Contains {X = Ref × List Tree} supply1 (n, trees)) → (i : ℕ) (kids : List Kid) → Refits supply new supply1 n i kids kids
refits_others supply new supply1 n still i [] = refits_none
refits_others supply new supply1 n still i (Token token ∷ kids) = refits_same (λ e. cc) (refits_others supply new supply1 n still (suc i) kids)
refits_others supply new supply1 n still i (NodeKid m ∷ kids) = refits_same (λ e. cc) (refits_others supply new supply1 n still (suc i) kids)
refits_others supply new supply1 n still i (Hidden ∷ kids) = refits_hidden (λ trees tree has at. shows_hidden trees (still trees has) at) (refits_others supply new supply1 n still (suc i) kids)

hidden_later : (kid : Kid) (kids : List Kid) → (Contains {X = Kid} (kid ∷ kids) Hidden → ⊥) → Contains {X = Kid} kids Hidden → ⊥
hidden_later kid kids without (k, inside, at) = without (suc k, omega (arith, inside), at)

refits_further : (supply : Supply) (new : Store) (supply1 : Supply) (m : Ref) (i : ℕ) (kids : List Kid) → (Contains {X = Kid} kids Hidden → ⊥) → Refits supply new supply1 m i kids kids
refits_further supply new supply1 m i [] without = refits_none
refits_further supply new supply1 m i (kid ∷ kids) without = refits_same (λ e. without (zero, omega arith, e)) (refits_further supply new supply1 m (suc i) kids (hidden_later kid kids without))

-- what the kids from i on show
abbrev Shown : Supply → Store → Supply → Ref → ℕ → List Kid → Type 0
Shown supply new supply1 m i kids = (j : ℕ) (kid : Kid) (trees : List Tree) (tree : Tree) → slice_get kids j ≡ Some kid → Contains {X = Ref × List Tree} supply (m, trees) → slice_get trees (i + j) ≡ Some tree → Shows new supply1 m (i + j) kid tree

plus_zero : (i : ℕ) → i + 0 ≡ i
plus_zero i = omega arith

plus_suc : (i j : ℕ) → i + suc j ≡ suc i + j
plus_suc i j = omega arith

refits_new : (supply : Supply) (new : Store) (supply1 : Supply) (m : Ref) (i : ℕ) (kids further : List Kid) → (Contains {X = Kid} further Hidden → ⊥) → Shown supply new supply1 m i kids → Refits supply new supply1 m i (replicate (length kids) Hidden ++ further) (kids ++ further)
refits_new supply new supply1 m i [] further without shown = refits_further supply new supply1 m i further without
refits_new supply new supply1 m i (kid ∷ kids) further without shown = refits_hidden
    (λ trees tree has at. let here = plus_zero i in subst (λ (x : ℕ). Shows new supply1 m x kid tree) here (shown zero kid trees tree refl has (subst (λ (x : ℕ). slice_get trees x ≡ Some tree) (sym here) at)))
    (refits_new supply new supply1 m (suc i) kids further without
    (λ j other trees tree found has at. let there = plus_suc i j in subst (λ (x : ℕ). Shows new supply1 m x other tree) there (shown (suc j) other trees tree found has (subst (λ (x : ℕ). slice_get trees x ≡ Some tree) (sym there) at))))

refits_still : (supply : Supply) (new : Store) (supply1 : Supply) (m : Ref) (hidden i j : ℕ) (kids others : List Kid) → j ≡ i + hidden → ((k : ℕ) (trees : List Tree) (tree : Tree) → k < j → Contains {X = Ref × List Tree} supply (m, trees) → slice_get trees k ≡ Some tree → Shows new supply1 m k Hidden tree) → Refits supply new supply1 m j kids others → Refits supply new supply1 m i (replicate hidden Hidden ++ kids) (replicate hidden Hidden ++ others)
refits_still supply new supply1 m zero i j kids others e stay more = let same : j ≡ i = omega (arith, e) in subst (λ (x : ℕ). Refits supply new supply1 m x kids others) same more
refits_still supply new supply1 m (suc hidden) i j kids others e stay more = refits_hidden
    (λ trees tree has at. stay i trees tree (omega (arith, e)) has at)
    (refits_still supply new supply1 m hidden (suc i) j kids others (omega (arith, e)) stay more)

pub supplied_law : SuppliedLaw
supplied_law store new supply supply1 m still kids part without by = one_or_other (λ n. (r : ℕ) (l : List Kid) → store n ≡ Some (r, l) → (others : List Kid) × (new n ≡ Some (r, others)) × Refits supply new supply1 n 0 l others) m
    (λ r l at.
    let parts = some_pair (sym part.before ∙ at) in
    let kids1 = replicate still Hidden ++ (kids ++ part.further) in
    let now : new m ≡ Some (r, kids1) = part.after ∙ ap (λ (x : ℕ). Some (x, kids1)) parts.0 in
    let fit = refits_still supply new supply1 m still 0 still (replicate (length kids) Hidden ++ part.further) (kids ++ part.further) (omega arith) by.stay (refits_new supply new supply1 m still kids part.further without by.shown) in
    (kids1, now, subst (λ x. Refits supply new supply1 m 0 x kids1) parts.1 fit))
    (λ n not r l at. (l, part.others n not ∙ at, refits_others supply new supply1 n (λ trees has. by.others n trees not has) 0 l))
