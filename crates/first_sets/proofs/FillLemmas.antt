-- Sets of first tokens grow until no opening adds to one.
use Rattle.std.proofs.Common.{◌≡◌, ℕ, zero, suc, ◌+◌, ◌*◌, ◌<◌, ◌≤◌, ◌/◌, ◌%◌, ◌==◌, ◌||◌, MatchBool, Option, ◌⊎◌, inl, inr, ◌↔◌, Bool, true, false, IsTrue, List, [], ◌∷◌, ◌++◌, length, get_or, set, replicate, slice_get, Contains, All, Some, sum_by, refl, sym, ap, subst, ◌∙◌, arith}
use Rattle.std.proofs.Math.Nat.{mul-le-mul_left}
use Rattle.std.proofs.lemmas.Bool.{cases_lt, cases_eq, false≢true}
use Rattle.std.proofs.lemmas.List.{get_or-set_same, get_or-set_other, get_or-replicate, get_or_past, set-get_or, length-set, length-replicate}
use Rattle.std.proofs.lemmas.List.Sums.{sum_by-set}
use Rattle.std.proofs.lemmas.List.Elements.{All-set, All-replicate, Contains-push_cases, Contains-append_left}
use Rattle.std.proofs.lemmas.Nat.Bits.{bit_at-zero}
use Rattle.std.proofs.lemmas.Option.{slice_get_within, slice_get-get_or, get_or_from_slice_get}
use Rattle.std.specs.Int.{bit_at}
use Rattle.grammar_data.specs.declared.rule.Sym.{Sym}
use Rattle.grammar_data.specs.declared.rule.Sym.TheVariants.{Token, Name}
use Rattle.grammar_data.specs.Grammar.{Grammar}
use Rattle.grammar_data.specs.TokenSet.{IsTokenSet, has_token}
use Rattle.grammar_theory.specs.FirstTokens.{FirstHas}
use Rattle.first_sets.specs.declared.opening.Opening.{Opening}
use Rattle.first_sets.specs.Relations.{IsExtended}
use Rattle.first_sets.specs.Openings.{AreReaders, Begins, BeginsIn, IsFilled, IsFilledBy, PassesOn, set_at}
use Rattle.first_sets.proofs.KnownLemmas.{true_is}

-- ---- how many tokens sets lack

abbrev absent : Bool → ℕ
absent true = 0
absent false = 1

absent_le : (b c : Bool) → (b ≡ true → c ≡ true) → absent c ≤ absent b
absent_le true true p = omega arith
absent_le true false p = absurd (false≢true (p refl))
absent_le false true p = omega arith
absent_le false false p = omega arith

-- how many tokens below a bound the set lacks
pub missing : ℕ → List ℕ → ℕ
missing zero ws = 0
missing (suc n) ws = absent (has_token ws n) + missing n ws

missing_le : (n : ℕ) (ws us : List ℕ) → ((a : ℕ) → IsTrue (has_token ws a) → IsTrue (has_token us a)) → missing n us ≤ missing n ws
unfolding missing
missing_le zero ws us more = omega arith
missing_le (suc n) ws us more = let le = absent_le (has_token ws n) (has_token us n) (more n) in let rest = missing_le n ws us more in omega arith

missing_less : (n : ℕ) (ws us : List ℕ) → ((a : ℕ) → IsTrue (has_token ws a) → IsTrue (has_token us a)) → (a : ℕ) → a < n → has_token ws a ≡ false → has_token us a ≡ true → missing n us + 1 ≤ missing n ws
unfolding missing
missing_less zero ws us more a less none some = absurd (omega arith)
missing_less (suc n) ws us more a less none some = elim (cases_eq a n) [
  | inl e ↦
      let rest = missing_le n ws us more in
      let was : absent (has_token ws n) ≡ 1 = ap absent (ap (has_token ws) (sym e) ∙ none) in
      let is : absent (has_token us n) ≡ 0 = ap absent (ap (has_token us) (sym e) ∙ some) in
      omega arith
  | inr ne ↦
      let le = absent_le (has_token ws n) (has_token us n) (more n) in
      let rest = missing_less n ws us more a (omega arith) none some in
      omega arith
]

-- how many tokens all sets lack
abbrev pub room : List (List ℕ) → ℕ
room sets = sum_by (missing 256) sets

-- ---- one set grows

module _ (sets new : List (List ℕ)) (o : Opening) (inside : o.left < length sets) (filled : IsFilledBy o sets new) where
  at_left : set_at new o.left ≡ filled.tokens
  at_left = ap (λ l. set_at l o.left) filled.changed ∙ get_or-set_same sets o.left filled.tokens [] inside

  at_other : (n : ℕ) → (n ≡ o.left → ⊥) → set_at new n ≡ set_at sets n
  at_other n other = ap (λ l. set_at l n) filled.changed ∙ get_or-set_other sets o.left n filled.tokens [] other

  grows : (n a : ℕ) → IsTrue (has_token (set_at sets n) a) → IsTrue (has_token (set_at new n) a)
  grows n a has = elim (cases_eq n o.left) [
    | inl e ↦
        let here : set_at new n ≡ filled.tokens = ap (set_at new) e ∙ at_left in
        subst (λ ws. IsTrue (has_token ws a)) (sym here) ((filled.members a).1 (inl (subst (λ k. IsTrue (has_token (set_at sets k) a)) e has)))
    | inr ne ↦ subst (λ ws. IsTrue (has_token ws a)) (sym (at_other n ne)) has
  ]

  pub less_room : room new + 1 ≤ room sets
  less_room =
      let sums = sum_by-set (missing 256) sets o.left filled.tokens [] inside in
      let fewer = missing_less 256 (set_at sets o.left) filled.tokens (λ a has. (filled.members a).1 (inl has)) filled.token filled.small filled.absent filled.present in
      omega (arith, sums, fewer, ap room filled.changed)

  -- the symbol is the left side of what grew, or begins with no more than before
  begins_before : (x : Sym) → (x ≡ Name o.left) ⊎ ((a : ℕ) → Begins new x a → Begins sets x a)
  begins_before (Token c) = inr (λ a h. h)
  begins_before (Name m) = elim (cases_eq m o.left) [
    | inl e ↦ inl (ap Name e)
    | inr ne ↦ inr (λ a h. subst (λ ws. IsTrue (has_token ws a)) (at_other m ne) h)
  ]

  filled_itself : IsFilled new o
  filled_itself a h = elim (begins_before o.symbol) [
    | inl e ↦ subst (λ x. Begins new x a) e h
    | inr before ↦ subst (λ ws. IsTrue (has_token ws a)) (sym at_left) ((filled.members a).1 (inr (before a h)))
  ]

-- one fewer to come at least, for at most so many more pending
pub falls_more : (u v n rest old new : ℕ) → u + 1 ≤ v → new ≤ rest + n → old ≡ rest + 1 → u * (n + 1) + new < v * (n + 1) + old
falls_more u v n rest old new le more at = omega (arith, mul-le-mul_left (n + 1) le)

-- ---- the sets so far

-- sets have first tokens alone, and each opening that isn't filled is pending
pub record IsFilling (g : Grammar) (openings : List Opening) (sets : List (List ℕ)) (pending : List ℕ) : Type 0 where
  pub names : length sets ≡ g.names
  pub tokens : All IsTokenSet sets
  pub sound : (n a : ℕ) → IsTrue (has_token (set_at sets n) a) → FirstHas g n a
  pub places : (k : ℕ) → Contains pending k → k < length openings
  pub closed : (k : ℕ) (o : Opening) → slice_get openings k ≡ Some o → Contains pending k ⊎ IsFilled sets o

-- no set stands for none of its tokens
no_tokens : (a : ℕ) → has_token [] a ≡ false
no_tokens a = ap (λ x. x == 1) (bit_at-zero (a % 64))

pub fill_none : (g : Grammar) (openings : List Opening) (empty : List ℕ) (pending : List ℕ) → IsTokenSet empty → ((a : ℕ) → has_token empty a ≡ false)
    → ((k : ℕ) → Contains pending k ↔ k < length openings) → IsFilling g openings (replicate g.names empty) pending
fill_none g openings empty pending is none all = record {
  names = length-replicate g.names empty;
  tokens = All-replicate IsTokenSet g.names empty is;
  sound = λ n a has. elim (cases_lt n g.names) [
    | inl less ↦ absurd (true_is has (ap (λ ws. has_token ws a) (get_or-replicate g.names n empty [] less) ∙ none a))
    | inr past ↦ absurd (true_is has (ap (λ ws. has_token ws a) (get_or_past (replicate g.names empty) n [] (subst (λ k. k ≤ n) (sym (length-replicate g.names empty)) past)) ∙ no_tokens a))
  ];
  places = λ k has. (all k).0 has;
  closed = λ k o at. inl ((all k).1 (slice_get_within openings k o at));
}

pub fill_filled : (g : Grammar) (openings : List Opening) (sets : List (List ℕ)) (rest : List ℕ) (k : ℕ) (o : Opening) → slice_get openings k ≡ Some o → IsFilled sets o
    → IsFilling g openings sets (rest ++ k ∷ []) → IsFilling g openings sets rest
fill_filled g openings sets rest k o at filled s = record {
  names = s.names;
  tokens = s.tokens;
  sound = s.sound;
  places = λ j has. s.places j (Contains-append_left rest (k ∷ []) j has);
  closed = λ j p here. elim (s.closed j p here) [
    | inl has ↦ elim (Contains-push_cases rest k j has) [
      | inl before ↦ inl before
      | inr e ↦
          let same : ◌≡◌ {A = Option Opening} (Some o) (Some p) = sym at ∙ ap (slice_get openings) e ∙ here in
          let is : o ≡ p = cc in
          inr (subst (λ q. IsFilled sets q) is filled)
    ]
    | inr fine ↦ inr fine
  ];
}

module _ (g : Grammar) (openings : List Opening) (sets new : List (List ℕ)) (rest more : List ℕ) (pairs : List (ℕ × ℕ)) (k : ℕ) (o : Opening) (inside : o.left < length sets) (filled : IsFilledBy o sets new)
    (at : slice_get openings k ≡ Some o) (readers : AreReaders openings pairs) (grown : IsExtended pairs o.left rest more) (passes : PassesOn g openings) (s : IsFilling g openings sets (rest ++ k ∷ [])) where
  begins_in : (x : Sym) (a : ℕ) → Begins sets x a → BeginsIn g x a
  begins_in (Token c) a h = h
  begins_in (Name m) a h = s.sound m a h

  stands : Contains openings o
  stands = (k, slice_get_within openings k o at, get_or_from_slice_get openings k o o at)

  new_sound : (n a : ℕ) → IsTrue (has_token (set_at new n) a) → FirstHas g n a
  new_sound n a has = elim (cases_eq n o.left) [
    | inl e ↦
        let here : set_at new n ≡ filled.tokens = ap (set_at new) e ∙ at_left sets new o inside filled in
        elim ((filled.members a).0 (subst (λ ws. IsTrue (has_token ws a)) here has)) [
          | inl before ↦ subst (λ m. FirstHas g m a) (sym e) (s.sound o.left a before)
          | inr begins ↦ subst (λ m. FirstHas g m a) (sym e) (passes o stands a (begins_in o.symbol a begins))
        ]
    | inr ne ↦ s.sound n a (subst (λ ws. IsTrue (has_token ws a)) (at_other sets new o inside filled n ne) has)
  ]

  still : (j : ℕ) (p : Opening) → slice_get openings j ≡ Some p → IsFilled sets p → Contains more j ⊎ IsFilled new p
  still j p here fine = elim (begins_before sets new o inside filled p.symbol) [
    | inl e ↦ inl (grown.added j (readers.every j o.left p here e))
    | inr before ↦ inr (λ a h. grows sets new o inside filled p.left a (fine a (before a h)))
  ]

  new_closed : (j : ℕ) (p : Opening) → slice_get openings j ≡ Some p → Contains more j ⊎ IsFilled new p
  new_closed j p here = elim (s.closed j p here) [
    | inl has ↦ elim (Contains-push_cases rest k j has) [
      | inl before ↦ inl (grown.kept j before)
      | inr e ↦
          let same : ◌≡◌ {A = Option Opening} (Some o) (Some p) = sym at ∙ ap (slice_get openings) e ∙ here in
          let is : o ≡ p = cc in
          inr (subst (λ q. IsFilled new q) is (filled_itself sets new o inside filled))
    ]
    | inr fine ↦ still j p here fine
  ]

  pub fill_grown : IsFilling g openings new more
  fill_grown = record {
    names = ap length filled.changed ∙ length-set sets o.left filled.tokens ∙ s.names;
    tokens = subst (λ l. All IsTokenSet l) (sym filled.changed) (All-set IsTokenSet sets o.left filled.tokens filled.is_set s.tokens);
    sound = new_sound;
    places = λ j has. elim (grown.only j has) [
      | inl before ↦ s.places j (Contains-append_left rest (k ∷ []) j before)
      | inr pair ↦ let found = readers.only o.left j pair in slice_get_within openings j found.0 found.1
    ];
    closed = new_closed;
  }

pub fill_done : (g : Grammar) (openings : List Opening) (sets : List (List ℕ)) (pending : List ℕ) → length pending ≡ 0 → IsFilling g openings sets pending → All (IsFilled sets) openings
fill_done g openings sets pending none s k d less = elim (s.closed k (get_or openings k d) (slice_get-get_or openings k d less)) [
  | inl has ↦ absurd (omega (arith, has.1))
  | inr fine ↦ fine
]

-- ---- one opening

or_cases : (b c : Bool) → (b || c) ≡ true → (b ≡ true) ⊎ (c ≡ true)
or_cases true c is = inl refl
or_cases false c is = inr is

or_left : (b c : Bool) → b ≡ true → (b || c) ≡ true
or_left true c is = refl
or_left false c is = absurd (false≢true is)

or_right : (b c : Bool) → c ≡ true → (b || c) ≡ true
or_right true c is = refl
or_right false c is = is

-- a token of a set is below 256
token_small : (words : List ℕ) (a : ℕ) → IsTokenSet words → has_token words a ≡ true → a < 256
token_small words a is has = elim (cases_lt a 256) [
  | inl less ↦ less
  | inr past ↦ absurd (false≢true (sym (ap (λ x. bit_at x (a % 64) == 1) (get_or_past words (a / 64) 0 (omega (arith, is.four))) ∙ no_tokens a) ∙ has))
]

pub fill_result : (grew : Bool) (o : Opening) (sets : List (List ℕ)) (old new tokens : List ℕ) → old ≡ set_at sets o.left
    → ((a : ℕ) → has_token new a ≡ (has_token old a || has_token tokens a)) → MatchBool grew ((a : ℕ) × (has_token old a ≡ false) × (has_token tokens a ≡ true)) (new ≡ old)
    → ((a : ℕ) → IsTrue (has_token tokens a) ↔ Begins sets o.symbol a) → IsTokenSet tokens → IsTokenSet new
    → MatchBool grew (IsFilledBy o sets (set sets o.left new)) (IsFilled (set sets o.left new) o × (set sets o.left new ≡ sets))
fill_result true o sets old new tokens is members more begins small fits = record {
  tokens = new;
  changed = refl;
  members = λ a. (
    λ has. elim (or_cases (has_token old a) (has_token tokens a) (sym (members a) ∙ has)) [
      | inl before ↦ inl (subst (λ ws. IsTrue (has_token ws a)) is before)
      | inr added ↦ inr ((begins a).0 added)
    ],
    λ parts. members a ∙ elim parts [
      | inl before ↦ or_left (has_token old a) (has_token tokens a) (subst (λ ws. IsTrue (has_token ws a)) (sym is) before)
      | inr added ↦ or_right (has_token old a) (has_token tokens a) ((begins a).1 added)
    ],
  );
  token = more.0;
  small = token_small tokens more.0 small more.2;
  absent = ap (λ ws. has_token ws more.0) (sym is) ∙ more.1;
  present = members more.0 ∙ or_right (has_token old more.0) (has_token tokens more.0) more.2;
  is_set = fits;
}
fill_result false o sets old new tokens is members same begins small fits =
    let back : set sets o.left new ≡ sets = ap (set sets o.left) (same ∙ is) ∙ set-get_or sets o.left [] in (
      subst (λ l. IsFilled l o) (sym back) (λ a h. subst (λ ws. IsTrue (has_token ws a)) (same ∙ is) (members a ∙ or_right (has_token old a) (has_token tokens a) ((begins a).1 h))),
      back,
    )
