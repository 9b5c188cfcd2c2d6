-- Names are closed height by height, and when no height closes more, all productive ones are.
use Rattle.std.proofs.Common.{◌≡◌, ◌≢◌, ℕ, zero, suc, ◌+◌, ◌-◌, ◌<◌, ◌≤◌, ◌⊎◌, inl, inr, ⊎_elim, List, [], ◌∷◌, All, length, get_or, replicate, refl, sym, ap, ◌∙◌, subst, arith}
use Rattle.std.specs.Prelude.{slice_get, slice_set, slice_index_or, Option, Some, None, true}
use Rattle.std.specs.Option.{is_some, option_map}
use Rattle.std.proofs.lemmas.Bool.{cases_lt, cases_eq, false≢true}
use Rattle.std.proofs.lemmas.List.{get_or-set_same, get_or-set_other, length-set, length-replicate}
use Rattle.std.proofs.lemmas.List.Elements.{All-head, All-tail}
use Rattle.std.proofs.lemmas.Option.{slice_get_within, slice_get-get_or}
use Rattle.grammar_data.specs.declared.rule.Sym.{Sym}
use Rattle.grammar_data.specs.declared.rule.Sym.TheVariants.{Token, Name}
use Rattle.grammar_data.specs.Grammar.{Rule, Grammar}
use Rattle.grammar_theory.specs.Rules.{IsRule, AllNames}
use Rattle.grammar_theory.specs.UsefulNames.{AllProductive}
use Rattle.grammar_theory.proofs.RuleLemmas.{rule_once}
use Rattle.sample_theory.specs.ClosingRules.{Closes, no_symbol, token_closes, name_closes}
use Rattle.sample_theory.proofs.ClosingLemmas.{derived_closes}
use Rattle.sample_text.specs.declared.closing.Closing.{Closing}
use Rattle.sample_text.specs.Closings.{closing_at, IsClosedBelow, IsSymbolClosed, IsClosedBy, AllAreBelow, IsRound, IsTried, was_closed, is_open, now_closed, HaveClosings}

-- ---- what is kept of a name
option_cases : (o : Option Closing) → (o ≡ None) ⊎ ((c : Closing) × (o ≡ Some c))
option_cases None = inl refl
option_cases (Some c) = inr (c, refl)

pub none_some : {X : Type 0} {o : Option X} {x : X} → o ≡ None → o ≡ Some x → ⊥
none_some one two = cc

pub some_closing_same : {c d : Closing} → Some c ≡ Some d → c ≡ d
some_closing_same e = cc

pub found_at : {X : Type 0} (xs : List (Option X)) (k n : ℕ) (o : Option X) → o ≡ get_or xs k o → k ≡ n → n < length xs → slice_index_or xs n None ≡ o
found_at {X} xs k n o here e below = option_same (sym (slice_get-get_or xs n None below) ∙ slice_get-get_or xs n o below) ∙ ap (λ i. get_or xs i o) (sym e) ∙ sym here
  where
    option_same : {one other : Option X} → Some one ≡ Some other → one ≡ other
    option_same e = cc

pub is_some_of : {X : Type 0} (o : Option X) → is_some o ≡ true → (x : X) × (o ≡ Some x)
is_some_of None is = absurd (false≢true is)
is_some_of (Some x) is = (x, refl)

pub left_same : (rules : List Rule) (r : ℕ) {n left : ℕ} {right : List Sym} → option_map (λ (rule : Rule). rule.0) (slice_get rules r) ≡ Some left → slice_get rules r ≡ Some (n, right) → n ≡ left
left_same rules r {n = n} {left = left} lefts at = number_same (sym (ap (option_map (λ (rule : Rule). rule.0)) at) ∙ lefts)
  where
    number_same : {one other : ℕ} → Some one ≡ Some other → one ≡ other
    number_same e = cc

all_names : (closings : List (Option Closing)) (height : ℕ) (xs : List Sym) → All (IsSymbolClosed closings height) xs → AllNames (IsClosedBelow closings height) xs
all_names closings height [] all = tt
all_names closings height (Token a ∷ xs) all = all_names closings height xs (All-tail (IsSymbolClosed closings height) (Token a) xs all)
all_names closings height (Name n ∷ xs) all = (All-head (IsSymbolClosed closings height) (Name n) xs all, all_names closings height xs (All-tail (IsSymbolClosed closings height) (Name n) xs all))

all_symbols : (closings : List (Option Closing)) (height : ℕ) (xs : List Sym) → AllNames (IsClosedBelow closings height) xs → All (IsSymbolClosed closings height) xs
all_symbols closings height (Token a ∷ xs) all zero d below = tt
all_symbols closings height (Name n ∷ xs) all zero d below = all.0
all_symbols closings height [] all k d below = absurd (omega arith)
all_symbols closings height (Token a ∷ xs) all (suc k) d below = all_symbols closings height xs all k d (omega arith)
all_symbols closings height (Name n ∷ xs) all (suc k) d below = all_symbols closings height xs all.1 k d (omega arith)

-- ---- one round
module _ (g : Grammar) (height count : ℕ) (closings : List (Option Closing)) (some : 0 < height) (s : IsRound g height count closings) where
  -- names that are closed by lower trees have lower trees, and the other way round
  names_close : (xs : List Sym) → AllNames (IsClosedBelow closings height) xs → Closes g.rules (height - 1) xs
  names_close [] all = no_symbol
  names_close (Token a ∷ xs) all = token_closes (names_close xs all)
  names_close (Name n ∷ xs) ((c, at, less), all) =
      let k = s.known n c at in
      let least = k.least in
      name_closes k.closing.rule k.closing.closes (omega (arith, least, less)) (names_close xs all)

  closed_names : {bound : ℕ} {xs : List Sym} → bound < height → Closes g.rules bound xs → AllNames (IsClosedBelow closings height) xs
  closed_names low no_symbol = tt
  closed_names low (token_closes rest) = closed_names low rest
  closed_names low (name_closes {n = n} {r = r} {below = below} {right = right} rule inner less rest) = (
    ⊎_elim
        (λ none. absurd (let more = s.unknown n r below right none rule inner in omega (arith, more, less, low)))
        (λ some_closing.
        let k = s.known n some_closing.0 some_closing.1 in
        let lower = k.closing.least r below right rule inner in
        let least = k.least in
        (some_closing.0, some_closing.1, omega (arith, lower, least, less, low)))
        (option_cases (closing_at closings n)),
    closed_names low rest,
  )

  module _ (n : ℕ) (right : List Sym) (rule : IsRule g.rules count n right) (range : n < g.names) where
    -- nothing new
    round_same : ((bound : ℕ) → closing_at closings n ≡ None → Closes g.rules bound right → height ≤ bound) → IsRound g height (suc count) closings
    round_same here = record {
      size = s.size;
      known = s.known;
      within = s.within;
      unknown = s.unknown;
      tried = λ m r bound side none below other closes. ⊎_elim
          (λ earlier. s.tried m r bound side none earlier other closes)
          (λ upper.
          let same : count ≡ r = omega (arith, upper, below) in
          let once = rule_once (subst (λ k. IsRule g.rules k n right) same rule) other in
          here bound (ap (closing_at closings) once.0 ∙ none) (subst (λ l. Closes g.rules bound l) (sym once.1) closes))
          (cases_lt r count);
    }

    module _ (none : closing_at closings n ≡ None) (all : AllNames (IsClosedBelow closings height) right) where
      abbrev closed : Closing
      closed = record { rule = count; height = height }

      abbrev more : List (Option Closing)
      more = slice_set closings n (Some closed)

      inside : n < length closings
      inside = let size = s.size in omega (arith, size, range)

      here : closing_at more n ≡ Some closed
      here = get_or-set_same closings n (Some closed) None inside

      elsewhere : (m : ℕ) → m ≢ n → closing_at more m ≡ closing_at closings m
      elsewhere m other = get_or-set_other closings n m (Some closed) None other

      is_closing : IsClosedBy g n closed
      is_closing = record {
        right = right;
        closing = record {
          rule = rule;
          bound = height - 1;
          closes = names_close right all;
          least = λ other h side of_other side_closes. let low = s.unknown n other h side none of_other side_closes in omega (arith, low);
          first = λ other h side before of_other side_closes. let low = s.tried n other h side none before of_other side_closes in omega (arith, low, some);
        };
        least = omega (arith, some);
      }

      none_before : (m : ℕ) → closing_at more m ≡ None → (m ≢ n) × (closing_at closings m ≡ None)
      none_before m is = (λ e. none_some is (ap (closing_at more) e ∙ here), ⊎_elim (λ e. absurd (none_some is (ap (closing_at more) e ∙ here))) (λ other. sym (elsewhere m other) ∙ is) (cases_eq m n))

      round_more : IsRound g height (suc count) more
      round_more = record {
        size = length-set closings n (Some closed) ∙ s.size;
        known = λ m c at. ⊎_elim
            (λ e. let same : closed ≡ c = some_closing_same (sym (ap (closing_at more) e ∙ here) ∙ at) in
            subst (λ k. IsClosedBy g k c) (sym e) (subst (IsClosedBy g n) same is_closing))
            (λ other. s.known m c (sym (elsewhere m other) ∙ at))
            (cases_eq m n);
        within = λ m c at. ⊎_elim
            (λ e. let same : closed ≡ c = some_closing_same (sym (ap (closing_at more) e ∙ here) ∙ at) in let heights : height ≡ c.height = ap (λ (d : Closing). d.height) same in omega (arith, heights))
            (λ other. s.within m c (sym (elsewhere m other) ∙ at))
            (cases_eq m n);
        unknown = λ m r bound side is of_m closes. s.unknown m r bound side (none_before m is).1 of_m closes;
        tried = λ m r bound side is below of_m closes. ⊎_elim
            (λ earlier. s.tried m r bound side (none_before m is).1 earlier of_m closes)
            (λ upper.
            let same : count ≡ r = omega (arith, upper, below) in
            let once = rule_once (subst (λ k. IsRule g.rules k n right) same rule) of_m in
            absurd ((none_before m is).0 (sym once.0)))
            (cases_lt r count);
      }

    pub round_tried : (new : List (Option Closing)) → IsTried height count n right closings new → IsRound g height (suc count) new
    round_tried new (was_closed c at same) = subst (IsRound g height (suc count)) (sym same) (round_same (λ bound none closes. absurd (none_some none at)))
    round_tried new (is_open open_names same) = subst (IsRound g height (suc count)) (sym same)
        (round_same (λ bound none closes. ⊎_elim (λ low. absurd (open_names (all_symbols closings height right (closed_names low closes)))) (λ upper. upper) (cases_lt bound height)))
    round_tried new (now_closed none all same) = subst (IsRound g height (suc count)) (sym same) (round_more none (all_names closings height right all))

-- ---- the next round
pub next_round : (g : Grammar) (height : ℕ) (closings : List (Option Closing)) → IsRound g height (length g.rules) closings → IsRound g (height + 1) 0 closings
next_round g height closings s = record {
  size = s.size;
  known = s.known;
  within = λ n c at. let low = s.within n c at in omega (arith, low);
  unknown = λ n r bound right none rule closes. let low = s.tried n r bound right none (slice_get_within g.rules r (n, right) rule.found) rule closes in omega (arith, low);
  tried = λ n r bound right none below rule closes. absurd (omega (arith, below));
}

pub next_below : (g : Grammar) (height : ℕ) (closings : List (Option Closing)) → IsRound g height (length g.rules) closings → AllAreBelow closings (height + 1)
next_below g height closings s n c at = let low = s.within n c at in omega (arith, low)

-- ---- the last round
module _ (g : Grammar) (height : ℕ) (closings : List (Option Closing)) (some : 0 < height) (s : IsRound g height (length g.rules) closings) (below : AllAreBelow closings height) where
  all_closed : {bound : ℕ} {xs : List Sym} → Closes g.rules bound xs → AllNames (IsClosedBelow closings height) xs
  all_closed no_symbol = tt
  all_closed (token_closes rest) = all_closed rest
  all_closed (name_closes {n = n} {r = r} {right = right} rule inner less rest) = (
    ⊎_elim
        (λ none. absurd (let low = s.tried n r (height - 1) right none (slice_get_within g.rules r (n, right) rule.found) rule (names_close g height (length g.rules) closings some s right (all_closed inner)) in omega (arith, low, some)))
        (λ c. (c.0, c.1, below n c.0 c.1))
        (option_cases (closing_at closings n)),
    all_closed rest,
  )

  pub have_closings : AllProductive g → HaveClosings g closings
  have_closings productive n range =
      let p = productive n range in
      let c = derived_closes p.1 in
      let all = all_closed c.1 in
      (all.0.0, all.0.1, s.known n all.0.0 all.0.1)

-- ---- the first round
pub none_at : (count n : ℕ) → closing_at (replicate count None) n ≡ None
none_at zero n = refl
none_at (suc count) zero = refl
none_at (suc count) (suc n) = none_at count n

pub first_round : (g : Grammar) → IsRound g 1 0 (replicate g.names None)
first_round g = record {
  size = length-replicate g.names None;
  known = λ n c at. absurd (none_some (none_at g.names n) at);
  within = λ n c at. absurd (none_some (none_at g.names n) at);
  unknown = λ n r bound right none rule closes. omega arith;
  tried = λ n r bound right none below rule closes. absurd (omega (arith, below));
}
