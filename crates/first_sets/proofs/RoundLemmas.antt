-- Rounds of empty sizes.
use Rattle.std.proofs.Common.{◌≡◌, ℕ, suc, ◌+◌, ◌-◌, ◌<◌, ◌≤◌, ◌⊎◌, inl, inr, ◌↔◌, if◌then◌else◌, Bool, false, IsTrue, List, [], ◌∷◌, ◌++◌, length, get_or, set, replicate, Contains, All, Option, Some, None, refl, sym, ap, subst, ◌∙◌, arith}
use Rattle.std.proofs.lemmas.Bool.{cases_lt, cases_eq, false≢true, ne_eqb}
use Rattle.std.proofs.lemmas.List.{get_or-set_same, get_or-set_other, get_or-replicate, get_or_past, length-append, length-replicate}
use Rattle.std.proofs.lemmas.List.Elements.{All-cons, All-nil, Contains-push, Contains-push_cases, Contains-append_left}
use Rattle.grammar_data.specs.declared.rule.Sym.{Sym}
use Rattle.grammar_data.specs.declared.rule.Sym.TheVariants.{Token, Name}
use Rattle.grammar_data.specs.Grammar.{Rule, Grammar}
use Rattle.grammar_theory.specs.Rules.{IsRule}
use Rattle.grammar_theory.specs.EmptyNames.{IsNullable, AddsUp, IsSizedBelow}
use Rattle.grammar_theory.proofs.RuleLemmas.{rule_once, slice_get_cases}
use Rattle.grammar_theory.proofs.EmptyLemmas.{derives_of_vanishes}
use Rattle.grammar_theory.proofs.SizeLemmas.{one_size, first_round, next_round}
use Rattle.first_sets.specs.declared.known_names.Lists.TheVariants.{Empty}
use Rattle.first_sets.specs.NameFacts.{size_of}
use Rattle.first_sets.specs.KnownNames.{IsKnownSymbol, is_known}
use Rattle.first_sets.specs.EmptySizes.{AreEmptyRules, AreSized, IsRound, IsSizedBy, size_in, symbol_size_in}
use Rattle.first_sets.proofs.UseLemmas.{contains_none}

-- ---- sizes as numbers

pub no_size : (k : ℕ) → k ≡ 0 → size_of k ≡ None
no_size k e = ap size_of e

pub some_size : (k : ℕ) → 0 < k → size_of k ≡ Some k
some_size k more = ap (λ b. (if b then None else Some k)) (ne_eqb k 0 (λ e. omega (arith, e)))

some_same : {j k : ℕ} → ◌≡◌ {A = Option ℕ} (Some j) (Some k) → j ≡ k
some_same e = cc

none_some : {j : ℕ} → ◌≡◌ {A = Option ℕ} None (Some j) → ⊥
none_some e = cc

pub size_is : (k j : ℕ) → size_of k ≡ Some j → (k ≡ j) × (0 < k)
size_is k j e = elim (cases_lt 0 k) [
  | inl more ↦ (some_same (sym (some_size k more) ∙ e), more)
  | inr none ↦ absurd (none_some (sym (no_size k (omega arith)) ∙ e))
]

-- ---- what adds up

-- any other takes its size off
pub adds_more : (sizes : List ℕ) (x : Sym) (xs : List Sym) (rest : ℕ) → 0 < symbol_size_in sizes x → symbol_size_in sizes x ≤ rest
    → AddsUp (size_in sizes) (x ∷ xs) rest ↔ AddsUp (size_in sizes) xs (rest - symbol_size_in sizes x)
adds_more sizes (Token a) xs rest some within = absurd (omega arith)
adds_more sizes (Name n) xs rest some within = (
  λ sum.
      let is = (size_is (get_or sizes n 0) sum.0 sum.2).0 in
      let at : rest ≡ sum.0 + sum.1 = sum.4 in
      let e : sum.1 ≡ rest - get_or sizes n 0 = omega arith in
      subst (λ k. AddsUp (size_in sizes) xs k) e sum.3,
  λ sum. (get_or sizes n 0, rest - get_or sizes n 0, some_size (get_or sizes n 0) some, sum, omega arith),
)

-- what adds up by a table does by one that has more
adds_kept : (old new : ℕ → Option ℕ) → ((n j : ℕ) → old n ≡ Some j → new n ≡ Some j) → (xs : List Sym) (total : ℕ) → AddsUp old xs total → AddsUp new xs total
adds_kept old new kept [] total sum = sum
adds_kept old new kept (Token a ∷ xs) total sum = sum
adds_kept old new kept (Name n ∷ xs) total sum = (sum.0, sum.1, kept n sum.0 sum.2, adds_kept old new kept xs sum.1 sum.3, sum.4)

-- and what adds up to no more than k did before, if only larger sizes are new
adds_back : (old new : ℕ → Option ℕ) (k : ℕ) → ((n j : ℕ) → new n ≡ Some j → (old n ≡ Some j) ⊎ (k < j)) → (xs : List Sym) (total : ℕ) → total ≤ k → AddsUp new xs total → AddsUp old xs total
adds_back old new k back [] total within sum = sum
adds_back old new k back (Token a ∷ xs) total within sum = sum
adds_back old new k back (Name n ∷ xs) total within sum =
    let at : total ≡ sum.0 + sum.1 = sum.4 in
    elim (back n sum.0 sum.2) [
      | inl before ↦ (sum.0, sum.1, before, adds_back old new k back xs sum.1 (omega arith) sum.3, sum.4)
      | inr larger ↦ absurd (omega arith)
    ]

-- names that add up are nullable, if sized names are
adds_nullable : (nullable : List Bool) (table : ℕ → Option ℕ) → ((n j : ℕ) → table n ≡ Some j → IsTrue (is_known nullable n)) → (xs : List Sym) (total : ℕ) → AddsUp table xs total → All (IsKnownSymbol nullable Empty) xs
adds_nullable nullable table sized [] total sum = All-nil (IsKnownSymbol nullable Empty)
adds_nullable nullable table sized (Token a ∷ xs) total sum = absurd sum
adds_nullable nullable table sized (Name n ∷ xs) total sum = All-cons (IsKnownSymbol nullable Empty) (Name n) xs (sized n sum.0 sum.2) (adds_nullable nullable table sized xs sum.1 sum.3)

-- ---- the rules of a round

pub empty_rule : (front : List Rule) (left : ℕ) (side : List Sym) (nullable : List Bool) (numbers : List ℕ) → AreEmptyRules front nullable numbers
    → AreEmptyRules (front ++ (left, side) ∷ []) nullable (numbers ++ length front ∷ [])
empty_rule front left side nullable numbers all = record {
  every = λ r n right rule known. elim (slice_get_cases front (left, side) (n, right) r rule.found) [
    | inl found ↦ Contains-append_left numbers (length front ∷ []) r (all.every r n right (record { found = found }) known)
    | inr last ↦ subst (λ k. Contains (numbers ++ length front ∷ []) k) (sym last.0) (Contains-push numbers (length front))
  ];
  only = λ r has. elim (Contains-push_cases numbers (length front) r has) [
    | inl before ↦ let less = all.only r before in omega (arith, length-append front ((left, side) ∷ []))
    | inr e ↦ omega (arith, length-append front ((left, side) ∷ []))
  ];
}

pub other_rule : (front : List Rule) (left : ℕ) (side : List Sym) (nullable : List Bool) (numbers : List ℕ) → (All (IsKnownSymbol nullable Empty) side → ⊥) → AreEmptyRules front nullable numbers
    → AreEmptyRules (front ++ (left, side) ∷ []) nullable numbers
other_rule front left side nullable numbers unknown all = record {
  every = λ r n right rule known. elim (slice_get_cases front (left, side) (n, right) r rule.found) [
    | inl found ↦ all.every r n right (record { found = found }) known
    | inr last ↦ let same : side ≡ right = ap (λ q. q.1) last.1 in absurd (unknown (subst (λ xs. All (IsKnownSymbol nullable Empty) xs) (sym same) known))
  ];
  only = λ r has. (let less = all.only r has in omega (arith, length-append front ((left, side) ∷ [])));
}

-- ---- one round

pub round_none : (g : Grammar) (total : ℕ) (sizes : List ℕ) → IsRound g [] total sizes sizes
round_none g total sizes = record {
  kept = λ n j is. is;
  added = λ r n right has rule none sum. absurd (contains_none has);
  from = λ n j is. inl is;
}

module _ (g : Grammar) (front : List ℕ) (total : ℕ) (old now next : List ℕ) (r left : ℕ) (side : List Sym) (rule : IsRule g.rules r left side) (inside : left < length now) (round : IsRound g front total old now) where
  back : (n j : ℕ) → size_in now n ≡ Some j → (size_in old n ≡ Some j) ⊎ (total < j)
  back n j is = elim (round.from n j is) [
    | inl before ↦ inl before
    | inr new ↦ let e = new.0 in inr (omega arith)
  ]

  old_none : get_or now left 0 ≡ 0 → (o : Option ℕ) → size_in old left ≡ o → size_in old left ≡ None
  old_none none None e = e
  old_none none (Some j) e = absurd (none_some (sym (no_size (get_or now left 0) none) ∙ round.kept left j e))

  set_size : next ≡ set now left (suc total) → size_in next left ≡ Some (suc total)
  set_size is = ap (λ l. size_in l left) is ∙ ap size_of (get_or-set_same now left (suc total) 0 inside) ∙ some_size (suc total) (omega arith)

  other_size : next ≡ set now left (suc total) → (n : ℕ) → (n ≡ left → ⊥) → size_in next n ≡ size_in now n
  other_size is n other = ap (λ l. size_in l n) is ∙ ap size_of (get_or-set_other now left n (suc total) 0 other)

  round_sized : get_or now left 0 ≡ 0 → AddsUp (size_in now) side total → next ≡ set now left (suc total) → IsRound g (front ++ r ∷ []) total old next
  round_sized none sum is = record {
    kept = λ n j before. elim (cases_eq n left) [
      | inl e ↦ absurd (none_some (sym (no_size (get_or now left 0) none) ∙ round.kept left j (subst (λ k. size_in old k ≡ Some j) e before)))
      | inr ne ↦ other_size is n ne ∙ round.kept n j before
    ];
    added = λ k n right has this unsized adds. elim (cases_eq n left) [
      | inl e ↦ ap (size_in next) e ∙ set_size is
      | inr ne ↦ elim (Contains-push_cases front r k has) [
        | inl before ↦ other_size is n ne ∙ round.added k n right before this unsized adds
        | inr e ↦ absurd (ne (sym (rule_once rule (subst (λ j. IsRule g.rules j n right) (sym e) this)).0))
      ]
    ];
    from = λ n j now_is. elim (cases_eq n left) [
      | inl e ↦
          let same : ◌≡◌ {A = Option ℕ} (Some (suc total)) (Some j) = sym (set_size is) ∙ ap (size_in next) (sym e) ∙ now_is in
          inr (
            sym (some_same same),
            subst (λ k. size_in old k ≡ None) (sym e) (old_none none (size_in old left) refl),
            (r, side, subst (λ k. IsRule g.rules r k side) (sym e) rule, adds_back (size_in old) (size_in now) total back side total (omega arith) sum),
          )
      | inr ne ↦ round.from n j (sym (other_size is n ne) ∙ now_is)
    ];
  }

  round_same : ((get_or now left 0 ≡ 0) × AddsUp (size_in now) side total → ⊥) → next ≡ now → IsRound g (front ++ r ∷ []) total old next
  round_same unfit is = subst (λ l. IsRound g (front ++ r ∷ []) total old l) (sym is) (record {
    kept = round.kept;
    added = λ k n right has this unsized adds. elim (Contains-push_cases front r k has) [
      | inl before ↦ round.added k n right before this unsized adds
      | inr e ↦
          let same = rule_once rule (subst (λ j. IsRule g.rules j n right) (sym e) this) in
          let here : AddsUp (size_in now) side total = subst (λ xs. AddsUp (size_in now) xs total) (sym same.1) (adds_kept (size_in old) (size_in now) round.kept right total adds) in
          subst (λ j. size_in now j ≡ Some (suc total)) same.0 (sized here (size_in now left) refl (subst (λ j. size_in old j ≡ None) (sym same.0) unsized))
    ];
    from = round.from;
  })
    where
      sized : AddsUp (size_in now) side total → (o : Option ℕ) → size_in now left ≡ o → size_in old left ≡ None → size_in now left ≡ Some (suc total)
      sized here None none unsized = elim (cases_lt 0 (get_or now left 0)) [
        | inl more ↦ absurd (none_some (sym none ∙ some_size (get_or now left 0) more))
        | inr zero_size ↦ absurd (unfit (omega arith, here))
      ]
      sized here (Some j) is_some unsized = elim (round.from left j is_some) [
        | inl before ↦ absurd (none_some (sym unsized ∙ before))
        | inr new ↦ is_some ∙ ap Some new.0
      ]

  pub round_more : IsSizedBy g.rules r total now next → IsRound g (front ++ r ∷ []) total old next
  round_more by = elim (by left side rule) [
    | inl yes_sized ↦ round_sized yes_sized.0 yes_sized.1 yes_sized.2
    | inr not_sized ↦ round_same not_sized.0 not_sized.1
  ]

-- a round over the rules whose right sides are nullable names alone leaves the next table
pub round_next : (g : Grammar) (nullable : List Bool) (numbers : List ℕ) (total : ℕ) (old new : List ℕ) → ((n : ℕ) → IsTrue (is_known nullable n) ↔ IsNullable g n)
    → AreEmptyRules g.rules nullable numbers → IsSizedBelow g (suc total) (size_in old) → IsRound g numbers total old new → IsSizedBelow g (suc (suc total)) (size_in new)
round_next g nullable numbers total old new exact empty sized round = next_round g total (size_in old) (size_in new) sized (record {
  kept = round.kept;
  added = λ n none has. round.added has.0 n has.1 (empty.every has.0 n has.1 has.2
      (adds_nullable nullable (size_in old) (λ m j is. (exact m).1 (derives_of_vanishes (sized.sound m j is).some)) has.1 total has.3)) has.2 none has.3;
  new = round.from;
})

-- where all nullable names are sized, later rounds find nothing
pub sized_all : (g : Grammar) (nullable : List Bool) (sizes : List ℕ) (bound limit : ℕ) → bound ≤ limit → ((n : ℕ) → IsTrue (is_known nullable n) ↔ IsNullable g n)
    → AreSized nullable sizes (length nullable) → IsSizedBelow g bound (size_in sizes) → IsSizedBelow g limit (size_in sizes)
sized_all g nullable sizes bound limit within exact all sized = record {
  sound = sized.sound;
  below = λ n k is. (let less = sized.below n k is in omega arith);
  every = λ n k has less.
      let known : IsTrue (is_known nullable n) = (exact n).1 (derives_of_vanishes has.some) in
      let some = some_size (get_or sizes n 0) (sized_known n known) in
      some ∙ ap Some (one_size g n (get_or sizes n 0) k (sized.sound n (get_or sizes n 0) some) has);
}
  where
    sized_known : (n : ℕ) → IsTrue (is_known nullable n) → 0 < get_or sizes n 0
    sized_known n known = elim (cases_lt n (length nullable)) [
      | inl inside ↦ all n inside known
      | inr past ↦ absurd (false≢true (sym (get_or_past nullable n false past) ∙ known))
    ]

pub sized_none : (g : Grammar) → IsSizedBelow g 1 (size_in (replicate g.names 0))
sized_none g = first_round g (size_in (replicate g.names 0)) (λ n. no_size (get_or (replicate g.names 0) n 0) (zero_at g.names n))
  where
    zero_at : (m n : ℕ) → ◌≡◌ {A = ℕ} (get_or (replicate m 0) n 0) 0
    zero_at m n = elim (cases_lt n m) [
      | inl within ↦ get_or-replicate m n 0 0 within
      | inr past ↦ get_or_past (replicate m 0) n 0 (subst (λ k. k ≤ n) (sym (length-replicate m 0)) past)
    ]
