-- Names become known until no rule makes another one known.
use Rattle.std.proofs.Common.{◌≡◌, ℕ, suc, ◌+◌, ◌<◌, ◌⊎◌, inl, inr, Bool, true, false, not, IsTrue, List, [], ◌∷◌, ◌++◌, length, slice_get, get_or, set, replicate, Contains, All, Some, None, Option, ◌↔◌, count_by, if◌then◌else◌, refl, sym, ap, subst, ◌∙◌, arith}
use Rattle.std.proofs.lemmas.Bool.{cases_lt, cases_eq, false≢true}
use Rattle.std.proofs.lemmas.List.{get_or-set_same, get_or-set_other, get_or-replicate, get_or_past, length-set, length-replicate}
use Rattle.std.proofs.lemmas.List.Elements.{All-head, All-tail, All-cons, All-nil, Contains-push_cases, Contains-append_left}
use Rattle.std.proofs.lemmas.List.Sums.{sum_by-set}
use Rattle.std.proofs.lemmas.Option.{slice_get_within}
use Rattle.grammar_data.specs.declared.rule.Sym.{Sym}
use Rattle.grammar_data.specs.declared.rule.Sym.TheVariants.{Token, Name}
use Rattle.grammar_data.specs.Grammar.{Rule, Grammar}
use Rattle.grammar_theory.specs.Rules.{IsRule, AllNames, OnlyNames}
use Rattle.grammar_theory.proofs.RuleLemmas.{rule_once}
use Rattle.grammar_theory.proofs.UsefulLemmas.{productive_by_rule}
use Rattle.grammar_theory.proofs.EmptyLemmas.{nullable_by_rule}
use Rattle.grammar_theory.proofs.NameLaws.{productive_test_law, nullable_test_law}
use Rattle.first_sets.specs.declared.known_names.Lists.{Lists}
use Rattle.first_sets.specs.declared.known_names.Lists.TheVariants.{Any, Empty}
use Rattle.first_sets.specs.Relations.{IsExtended}
use Rattle.first_sets.specs.KnownNames.{HasList, is_known, IsKnownSymbol, AreUses, IsClosedAt, IsMarkedBy}
use Rattle.first_sets.proofs.UseLemmas.{use_in_range}

-- how many names are not known
abbrev pub unknown_in : List Bool → ℕ
unknown_in known = count_by not known

-- ---- known symbols and their lists

names_of_known : (known : List Bool) (right : List Sym) → All (IsKnownSymbol known Any) right → AllNames (λ m. IsTrue (is_known known m)) right
names_of_known known [] all = tt
names_of_known known (Token a ∷ xs) all = names_of_known known xs (All-tail (IsKnownSymbol known Any) (Token a) xs all)
names_of_known known (Name n ∷ xs) all = (All-head (IsKnownSymbol known Any) (Name n) xs all, names_of_known known xs (All-tail (IsKnownSymbol known Any) (Name n) xs all))

known_of_names : (known : List Bool) (right : List Sym) → AllNames (λ m. IsTrue (is_known known m)) right → All (IsKnownSymbol known Any) right
known_of_names known [] all = All-nil (IsKnownSymbol known Any)
known_of_names known (Token a ∷ xs) all = All-cons (IsKnownSymbol known Any) (Token a) xs refl (known_of_names known xs all)
known_of_names known (Name n ∷ xs) all = All-cons (IsKnownSymbol known Any) (Name n) xs all.0 (known_of_names known xs all.1)

no_token : ◌≡◌ {A = Lists} Empty Any → ⊥
no_token e = absurd (cc e)

pub only_of_known : (known : List Bool) (right : List Sym) → All (IsKnownSymbol known Empty) right → OnlyNames (λ m. IsTrue (is_known known m)) right
only_of_known known [] all = tt
only_of_known known (Token a ∷ xs) all = absurd (no_token (All-head (IsKnownSymbol known Empty) (Token a) xs all))
only_of_known known (Name n ∷ xs) all = (All-head (IsKnownSymbol known Empty) (Name n) xs all, only_of_known known xs (All-tail (IsKnownSymbol known Empty) (Name n) xs all))

pub known_of_only : (known : List Bool) (right : List Sym) → OnlyNames (λ m. IsTrue (is_known known m)) right → All (IsKnownSymbol known Empty) right
known_of_only known [] all = All-nil (IsKnownSymbol known Empty)
known_of_only known (Token a ∷ xs) all = absurd all
known_of_only known (Name n ∷ xs) all = All-cons (IsKnownSymbol known Empty) (Name n) xs all.0 (known_of_only known xs all.1)

pub all_weaker : {P Q : ℕ → Type 0} → ((n : ℕ) → P n → Q n) → (xs : List Sym) → AllNames P xs → AllNames Q xs
all_weaker f [] all = tt
all_weaker f (Token a ∷ xs) all = all_weaker f xs all
all_weaker f (Name n ∷ xs) all = (f n all.0, all_weaker f xs all.1)

pub only_weaker : {P Q : ℕ → Type 0} → ((n : ℕ) → P n → Q n) → (xs : List Sym) → OnlyNames P xs → OnlyNames Q xs
only_weaker f [] all = tt
only_weaker f (Token a ∷ xs) all = absurd all
only_weaker f (Name n ∷ xs) all = (f n all.0, only_weaker f xs all.1)

-- a rule with known symbols gives its left side a list
has_list_by : (g : Grammar) (lists : Lists) (known : List Bool) → ((n : ℕ) → IsTrue (is_known known n) → HasList g lists n)
    → (r n : ℕ) (right : List Sym) → IsRule g.rules r n right → All (IsKnownSymbol known lists) right → HasList g lists n
has_list_by g Any known sound r n right rule all = productive_by_rule g right rule (all_weaker sound right (names_of_known known right all))
has_list_by g Empty known sound r n right rule all = nullable_by_rule g right rule (only_weaker sound right (only_of_known known right all))

-- where no rule makes another name known, all are known
pub known_exactly : (g : Grammar) (lists : Lists) (known : List Bool) → ((n : ℕ) → IsTrue (is_known known n) → HasList g lists n)
    → ((r : ℕ) → IsClosedAt g.rules r lists known) → (n : ℕ) → IsTrue (is_known known n) ↔ HasList g lists n
known_exactly g Any known sound closed n =
    productive_test_law g (is_known known) (record {
      sound = sound;
      closed = λ r m right rule all. closed r m right rule (known_of_names known right all);
    }) n
known_exactly g Empty known sound closed n =
    nullable_test_law g (is_known known) (record {
      sound = sound;
      closed = λ r m right rule all. closed r m right rule (known_of_only known right all);
    }) n

-- ---- the names known so far

-- known names have a list, and each rule that isn't closed is pending
pub record IsSpreading (g : Grammar) (lists : Lists) (known : List Bool) (pending : List ℕ) : Type 0 where
  pub names : length known ≡ g.names
  pub sound : (n : ℕ) → IsTrue (is_known known n) → HasList g lists n
  pub rules : (r : ℕ) → Contains pending r → r < length g.rules
  pub closed : (r : ℕ) → Contains pending r ⊎ IsClosedAt g.rules r lists known

pub unmarked : (m n : ℕ) → get_or (replicate m false) n false ≡ false
unmarked m n = elim (cases_lt n m) [
  | inl within ↦ get_or-replicate m n false false within
  | inr past ↦ get_or_past (replicate m false) n false (omega (arith, length-replicate m false))
]

pub true_is : {b : Bool} → b ≡ true → b ≡ false → ⊥
true_is is not = false≢true (sym not ∙ is)

pub spread_none : (g : Grammar) (lists : Lists) (pending : List ℕ) → ((r : ℕ) → r < length g.rules → Contains pending r) → ((r : ℕ) → Contains pending r → r < length g.rules)
    → IsSpreading g lists (replicate g.names false) pending
spread_none g lists pending all within = record {
  names = length-replicate g.names false;
  sound = λ n is. absurd (true_is is (unmarked g.names n));
  rules = within;
  closed = λ r. elim (cases_lt r (length g.rules)) [
    | inl less ↦ inl (all r less)
    | inr past ↦ inr (λ n right rule all. absurd (omega (arith, slice_get_within g.rules r (n, right) rule.found)))
  ];
}

-- a rule that is closed need not be pending
pub spread_closed : (g : Grammar) (lists : Lists) (known : List Bool) (rest : List ℕ) (r : ℕ) → IsSpreading g lists known (rest ++ r ∷ []) → IsClosedAt g.rules r lists known → IsSpreading g lists known rest
spread_closed g lists known rest r s closed = record {
  names = s.names;
  sound = s.sound;
  rules = λ other has. s.rules other (Contains-append_left rest (r ∷ []) other has);
  closed = λ other. elim (s.closed other) [
    | inl has ↦ elim (Contains-push_cases rest r other has) [
      | inl before ↦ inl before
      | inr e ↦ inr (subst (λ k. IsClosedAt g.rules k lists known) e closed)
    ]
    | inr fine ↦ inr fine
  ];
}

-- one more name is known
pub known_set : (known : List Bool) (left n : ℕ) → left < length known → IsTrue (is_known (set known left true) n) → (n ≡ left) ⊎ IsTrue (is_known known n)
known_set known left n inside is = elim (cases_eq n left) [
  | inl e ↦ inl e
  | inr ne ↦ inr (subst IsTrue (get_or-set_other known left n true false ne) is)
]

pub set_known : (known : List Bool) (left n : ℕ) → left < length known → IsTrue (is_known known n) → IsTrue (is_known (set known left true) n)
set_known known left n inside is = elim (cases_eq n left) [
  | inl e ↦ subst IsTrue (sym (ap (λ k. get_or (set known left true) k false) e ∙ get_or-set_same known left true false inside)) refl
  | inr ne ↦ subst IsTrue (sym (get_or-set_other known left n true false ne)) is
]

pub set_itself : (known : List Bool) (left : ℕ) → left < length known → IsTrue (is_known (set known left true) left)
set_itself known left inside = subst IsTrue (sym (get_or-set_same known left true false inside)) refl

contains_more : {X : Type 0} (y x : X) (xs : List X) → Contains xs x → Contains (y ∷ xs) x
contains_more y x xs (k, inside, at) = (suc k, omega arith, at)

contains_here : {X : Type 0} (x : X) (xs : List X) → Contains (x ∷ xs) x
contains_here x xs = (0, omega arith, refl)

-- symbols have the new name, or are known only if they were
uses_new : (known : List Bool) (left : ℕ) (lists : Lists) → left < length known → (xs : List Sym)
    → Contains xs (Name left) ⊎ (All (IsKnownSymbol (set known left true) lists) xs → All (IsKnownSymbol known lists) xs)
uses_new known left lists inside [] = inr (λ all. All-nil (IsKnownSymbol known lists))
uses_new known left lists inside (Token a ∷ xs) = elim (uses_new known left lists inside xs) [
  | inl has ↦ inl (contains_more (Token a) (Name left) xs has)
  | inr old ↦ inr (λ all. All-cons (IsKnownSymbol known lists) (Token a) xs (All-head (IsKnownSymbol (set known left true) lists) (Token a) xs all) (old (All-tail (IsKnownSymbol (set known left true) lists) (Token a) xs all)))
]
uses_new known left lists inside (Name n ∷ xs) = elim (uses_new known left lists inside xs) [
  | inl has ↦ inl (contains_more (Name n) (Name left) xs has)
  | inr old ↦ elim (cases_eq n left) [
    | inl e ↦ inl (subst (λ k. Contains (Name k ∷ xs) (Name left)) (sym e) (contains_here (Name left) xs))
    | inr ne ↦ inr (λ all. All-cons (IsKnownSymbol known lists) (Name n) xs
        (subst IsTrue (get_or-set_other known left n true false ne) (All-head (IsKnownSymbol (set known left true) lists) (Name n) xs all))
        (old (All-tail (IsKnownSymbol (set known left true) lists) (Name n) xs all)))
  ]
]

module _ (g : Grammar) (lists : Lists) (known : List Bool) (rest new : List ℕ) (r left : ℕ) (pairs : List (ℕ × ℕ)) where
  new_closed : (right : List Sym) → IsRule g.rules r left right → left < length known → AreUses g.rules pairs → IsExtended pairs left rest new → IsSpreading g lists known (rest ++ r ∷ [])
      → (other : ℕ) → Contains new other ⊎ IsClosedAt g.rules other lists (set known left true)
  new_closed right rule inside uses more s other = elim (cases_eq other r) [
    | inl e ↦ inr (λ n side is all. subst (λ k. IsTrue (is_known (set known left true) k)) (rule_once rule (subst (λ k. IsRule g.rules k n side) e is)).0 (set_itself known left inside))
    | inr ne ↦ elim (s.closed other) [
      | inl has ↦ elim (Contains-push_cases rest r other has) [
        | inl before ↦ inl (more.kept other before)
        | inr e ↦ absurd (ne (sym e))
      ]
      | inr fine ↦ after fine (slice_get g.rules other) refl
    ]
  ]
    where
      after : IsClosedAt g.rules other lists known → (o : Option Rule) → slice_get g.rules other ≡ o → Contains new other ⊎ IsClosedAt g.rules other lists (set known left true)
      after fine None none = inr (λ n side is all. absurd (cc (none, is.found)))
      after fine (Some (m, xs)) some = elim (uses_new known left lists inside xs) [
        | inl has ↦ inl (more.added other (uses.every other m left xs (record { found = some }) has))
        | inr old ↦ inr (λ n side is all.
            let same = rule_once (record { found = some }) is in
            set_known known left n inside (fine n side is (subst (λ ys. All (IsKnownSymbol known lists) ys) same.1 (old (subst (λ ys. All (IsKnownSymbol (set known left true) lists) ys) (sym same.1) all)))))
      ]

  pub spread_marked : (marked : List Bool) (m : IsMarkedBy g.rules r lists known marked) → m.left ≡ left → AreUses g.rules pairs → IsExtended pairs left rest new → g.names ≡ length known → left < g.names
      → IsSpreading g lists known (rest ++ r ∷ []) → IsSpreading g lists marked new
  spread_marked marked m is uses more count less s =
      let inside : left < length known = omega arith in
      let set_is : marked ≡ set known left true = m.marked ∙ ap (λ k. set known k true) is in
      let rule : IsRule g.rules r left m.right = subst (λ k. IsRule g.rules r k m.right) is m.rule in
      subst (λ ks. IsSpreading g lists ks new) (sym set_is) (record {
        names = length-set known left true ∙ s.names;
        sound = λ n yes_now. elim (known_set known left n inside yes_now) [
          | inl e ↦ subst (λ k. HasList g lists k) (sym e) (has_list_by g lists known s.sound r left m.right rule m.known)
          | inr before ↦ s.sound n before
        ];
        rules = λ other has. elim (more.only other has) [
          | inl before ↦ s.rules other (Contains-append_left rest (r ∷ []) other before)
          | inr pair ↦ use_in_range g.rules pairs left other uses pair
        ];
        closed = new_closed m.right rule inside uses more s;
      })

-- one more known name, and its pairs pending, is nearer to the end
pub unknown_set : (known : List Bool) (left : ℕ) → left < length known → is_known known left ≡ false → unknown_in (set known left true) + 1 ≡ unknown_in known
unknown_set known left inside unknown =
    let sums = sum_by-set (λ (b : Bool). (if not b then 1 else 0)) known left true false inside in
    let was : ◌≡◌ {A = ℕ} (if not (is_known known left) then 1 else 0) 1 = ap (λ (b : Bool). (if not b then 1 else 0)) unknown in
    omega (arith, sums, was)

-- where no rule is pending, all names are known that derive what is asked
pub spread_done : (g : Grammar) (lists : Lists) (known : List Bool) (pending : List ℕ) → length pending ≡ 0 → IsSpreading g lists known pending → (n : ℕ) → IsTrue (is_known known n) ↔ HasList g lists n
spread_done g lists known pending none s n = known_exactly g lists known s.sound (λ r. elim (s.closed r) [
  | inl has ↦ absurd (omega (arith, has.1))
  | inr closed ↦ closed
]) n
