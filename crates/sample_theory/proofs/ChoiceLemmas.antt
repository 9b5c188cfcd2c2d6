-- The tokens that numbers choose are one list, and a sentence; and there is one where names have closing rules.
use Rattle.std.proofs.Common.{◌≡◌, ℕ, zero, suc, ◌+◌, ◌<◌, ◌≤◌, ⊎_elim, Bool, true, false, List, [], ◌∷◌, ◌++◌, length, get_or, filter, refl, sym, ap, ◌∙◌, subst, arith, eqb-true, eq-eqb, append_assoc, cond}
use Rattle.std.specs.Prelude.{slice_get, Option, Some, None}
use Rattle.std.specs.List.{range_with_len}
use Rattle.std.proofs.lemmas.Bool.{cases_lt}
use Rattle.std.proofs.lemmas.List.Elements.{filter_passes}
use Rattle.std.proofs.lemmas.List.FromFn.{length-range_with_len, get_or-range_with_len}
use Rattle.std.proofs.lemmas.Option.{slice_get_within, slice_get-get_or, get_or_from_slice_get}
use Rattle.grammar_data.specs.declared.rule.Sym.{Sym}
use Rattle.grammar_data.specs.declared.rule.Sym.TheVariants.{Token, Name}
use Rattle.grammar_data.specs.Grammar.{Rule, Grammar}
use Rattle.grammar_theory.specs.Derivations.{Derives, done, token_first, name_first}
use Rattle.grammar_theory.specs.Rules.{IsRule, IsInRange, NamesBelow}
use Rattle.grammar_theory.proofs.DerivationLemmas.{Halves, halves, derives_split}
use Rattle.sample_theory.specs.ClosingRules.{Closes, no_symbol as no_symbol_closes, token_closes, name_closes}
use Rattle.sample_theory.specs.Choices.{next_number, number_at, picked, has_left, rules_of, IsDrawn, AreChosen, no_symbol, takes_token, draws_rule, closes_name, OneChoiceLaw, ChoiceLaw, HaveClosingRules, SomeChoiceLaw}
use Rattle.sample_theory.proofs.ClosingLemmas.{one_closing, closes_higher}

-- ---- numbers
pub number_start : (from : ℕ) → number_at from 0 ≡ from
unfolding number_at
number_start from = refl

pub number_next : (from k : ℕ) → number_at from (suc k) ≡ next_number (number_at from k)
unfolding number_at
number_next from k = refl

-- ---- one list
some_same : {X : Type 0} {x y : X} → Some x ≡ Some y → x ≡ y
some_same e = cc

same_right : {rules : List Rule} {r other n : ℕ} {right side : List Sym} → r ≡ other → IsRule rules r n right → IsRule rules other n side → right ≡ side
same_right {rules} {n = n} {right = right} {side = side} e one two =
    let pair : (n, right) ≡ (n, side) = some_same (sym one.found ∙ ap (λ k. slice_get rules k) e ∙ two.found) in
    ap (λ (p : Rule). p.1) pair

one_chosen : {g : Grammar} {from size drawn : ℕ} {xs : List Sym} {w v : List ℕ} → AreChosen g from size drawn xs w → AreChosen g from size drawn xs v → w ≡ v
one_chosen no_symbol no_symbol = refl
one_chosen (takes_token {a = a} d) (takes_token e) = ap (λ l. a ∷ l) (one_chosen d e)
one_chosen {g} {from} {size} {v = v} (draws_rule {drawn = drawn} {xs = xs} less drew d) (draws_rule also other e) =
    let same = same_right (some_same (sym drew.here ∙ other.here)) drew.rule other.rule in
    one_chosen d (subst (λ l. AreChosen g from size (suc drawn) (l ++ xs) v) (sym same) e)
one_chosen (draws_rule less drew d) (closes_name all closing e) = absurd (omega (arith, less, all))
one_chosen (closes_name all closing d) (draws_rule less drew e) = absurd (omega (arith, less, all))
one_chosen {g} {from} {size} {v = v} (closes_name {drawn = drawn} {n = n} {r = r} {right = right} {xs = xs} all closing d) (closes_name {r = other} {right = side} also other_closing e) =
    let same = same_right (one_closing g n r other right side closing other_closing) closing.rule other_closing.rule in
    one_chosen d (subst (λ l. AreChosen g from size drawn (l ++ xs) v) (sym same) e)

pub one_choice : OneChoiceLaw
one_choice g from size w other d e = one_chosen d e

-- ---- a sentence
by_side : {rules : List Rule} {n r : ℕ} {right xs : List Sym} {w : List ℕ} → IsRule rules r n right → Halves rules right xs w → Derives rules (Name n ∷ xs) w
by_side rule (halves d e at) = name_first rule d e at

chosen_derives : {g : Grammar} {from size drawn : ℕ} {xs : List Sym} {w : List ℕ} → AreChosen g from size drawn xs w → Derives g.rules xs w
chosen_derives no_symbol = done
chosen_derives (takes_token d) = token_first (chosen_derives d)
chosen_derives (draws_rule {right = right} {xs = xs} less drew d) = by_side drew.rule (derives_split right xs (chosen_derives d))
chosen_derives (closes_name {right = right} {xs = xs} all closing d) = by_side closing.rule (derives_split right xs (chosen_derives d))

pub choice_law : ChoiceLaw
choice_law g from size w d = chosen_derives d

-- ---- rules of a name
left_is : (n : ℕ) (o : Option Rule) → has_left n o ≡ true → (right : List Sym) × (o ≡ Some (n, right))
left_is n None e = absurd (cc)
left_is n (Some rule) e = (rule.1, ap Some (ap (λ (m : ℕ). (m, rule.1)) (eqb-true (rule.0) n e)))

pub rule_of_name : (rules : List Rule) (n k r : ℕ) → slice_get (rules_of rules n) k ≡ Some r → (right : List Sym) × IsRule rules r n right
unfolding rules_of
rule_of_name rules n k r at =
    let list : List ℕ = filter (λ r. has_left n (slice_get rules r)) (range_with_len 0 (length rules)) in
    let here : has_left n (slice_get rules r) ≡ true =
    subst (λ q. has_left n (slice_get rules q) ≡ true) (get_or_from_slice_get list k r 0 at)
    (filter_passes (λ q. has_left n (slice_get rules q)) (range_with_len 0 (length rules)) k 0 (slice_get_within list k r at)) in
    let found = left_is n (slice_get rules r) here in
    (found.0, record { found = found.1 })

some_left : (b : Bool) (y : ℕ) (ys : List ℕ) → 0 < length ys → 0 < length (cond b (y ∷ ys) ys)
some_left true y ys some = omega arith
some_left false y ys some = some

some_kept : (p : ℕ → Bool) (xs : List ℕ) (k x : ℕ) → slice_get xs k ≡ Some x → p x ≡ true → 0 < length (filter p xs)
some_kept p [] k x at passes = absurd (cc)
some_kept p (y ∷ xs) zero x at passes = let here : p y ≡ true = ap p (some_same at) ∙ passes in rw here (omega arith)
some_kept p (y ∷ xs) (suc k) x at passes = some_left (p y) y (filter p xs) (some_kept p xs k x at passes)

pub some_rule : (rules : List Rule) (n r : ℕ) (right : List Sym) → IsRule rules r n right → 0 < length (rules_of rules n)
unfolding rules_of
some_rule rules n r right rule =
    let below : r < length rules = slice_get_within rules r (n, right) rule.found in
    let size : length (range_with_len 0 (length rules)) ≡ length rules = length-range_with_len 0 (length rules) in
    let here : get_or (range_with_len 0 (length rules)) r 0 ≡ 0 + r = get_or-range_with_len 0 (length rules) r 0 below in
    let at : slice_get (range_with_len 0 (length rules)) r ≡ Some r = slice_get-get_or (range_with_len 0 (length rules)) r 0 (omega (arith, below, size)) ∙ ap Some (omega (arith, here)) in
    some_kept (λ q. has_left n (slice_get rules q)) (range_with_len 0 (length rules)) r r at (ap (has_left n) rule.found ∙ eq-eqb n n refl)

-- ---- there is a choice
pub drawn_rule : (g : Grammar) (from drawn n r : ℕ) (right : List Sym) → IsRule g.rules r n right → (q : ℕ) × (side : List Sym) × IsDrawn g from drawn n q side
drawn_rule g from drawn n r right rule =
    let list : List ℕ = rules_of g.rules n in
    let some : 0 < length list = some_rule g.rules n r right rule in
    let place : ℕ = picked (number_at from (suc drawn)) (length list) in
    let below : place < length list = omega (arith, some) in
    let q : ℕ = get_or list place 0 in
    let here : slice_get list place ≡ Some q = slice_get-get_or list place 0 below in
    let found = rule_of_name g.rules n place q here in
    (q, found.0, record { rule = found.1; here = here })

names_append : (bound : ℕ) (xs ys : List Sym) → NamesBelow bound xs → NamesBelow bound ys → NamesBelow bound (xs ++ ys)
names_append bound [] ys one two = two
names_append bound (Token a ∷ xs) ys one two = names_append bound xs ys one two
names_append bound (Name n ∷ xs) ys one two = (one.0, names_append bound xs ys one.1 two)

-- what is chosen for two lists of symbols, all choices being drawn
pub chosen_append : {g : Grammar} {from size drawn : ℕ} {xs ys : List Sym} {u v : List ℕ} → size ≤ drawn → AreChosen g from size drawn xs u → AreChosen g from size drawn ys v → AreChosen g from size drawn (xs ++ ys) (u ++ v)
chosen_append all no_symbol e = e
chosen_append all (takes_token d) e = takes_token (chosen_append all d e)
chosen_append all (draws_rule less drew d) e = absurd (omega (arith, all, less))
chosen_append {g} {from} {size} {ys = ys} {u = u} {v = v} all (closes_name {drawn = drawn} {right = right} {xs = xs} also closing d) e =
    closes_name also closing (subst (λ l. AreChosen g from size drawn l (u ++ v)) (append_assoc right xs ys) (chosen_append all d e))

module _ (g : Grammar) (from size : ℕ) (range : IsInRange g) (have : HaveClosingRules g) where
  -- symbols that close within a bound, where those that close within less have a choice
  closing_list : (bound drawn : ℕ) → size ≤ drawn
      → ((below : ℕ) (ys : List Sym) → below < bound → NamesBelow g.names ys → Closes g.rules below ys → (w : List ℕ) × AreChosen g from size drawn ys w)
      → (xs : List Sym) → NamesBelow g.names xs → Closes g.rules bound xs → (w : List ℕ) × AreChosen g from size drawn xs w
  closing_list bound drawn all lower [] names no_symbol_closes = ([], no_symbol)
  closing_list bound drawn all lower (Token a ∷ xs) names (token_closes rest) =
      let w = closing_list bound drawn all lower xs names rest in
      (a ∷ w.0, takes_token w.1)
  closing_list bound drawn all lower (Name n ∷ xs) names (name_closes {r = r} {below = below} {right = right} rule inner less rest) =
      let c = have n names.0 in
      let least : c.2.bound ≤ below = c.2.least r below right rule inner in
      let u = lower c.2.bound c.1 (omega (arith, least, less)) (range.names c.0 n c.1 c.2.rule) c.2.closes in
      let v = closing_list bound drawn all lower xs names.1 rest in
      (u.0 ++ v.0, closes_name all c.2 (chosen_append all u.1 v.1))

  closing_choice : (fuel bound drawn : ℕ) (xs : List Sym) → bound < fuel → size ≤ drawn → NamesBelow g.names xs → Closes g.rules bound xs → (w : List ℕ) × AreChosen g from size drawn xs w
  closing_choice zero bound drawn xs below all names closes = absurd (omega (arith, below))
  closing_choice (suc fuel) bound drawn xs below all names closes =
      closing_list bound drawn all (λ lower ys less named closed. closing_choice fuel lower drawn ys (omega (arith, less, below)) all named closed) xs names closes

  list_closes : (xs : List Sym) → NamesBelow g.names xs → (bound : ℕ) × Closes g.rules bound xs
  list_closes [] names = (0, no_symbol_closes)
  list_closes (Token a ∷ xs) names = let c = list_closes xs names in (c.0, token_closes c.1)
  list_closes (Name n ∷ xs) names =
      let c = have n names.0 in
      let rest = list_closes xs names.1 in
      let upper : ℕ = suc c.2.bound + rest.0 in
      (upper, name_closes c.2.rule c.2.closes (omega arith) (closes_higher upper (omega arith) rest.1))

  all_drawn : (drawn : ℕ) (xs : List Sym) → size ≤ drawn → NamesBelow g.names xs → (w : List ℕ) × AreChosen g from size drawn xs w
  all_drawn drawn xs all names = let c = list_closes xs names in closing_choice (suc c.0) c.0 drawn xs (omega arith) all names c.1

  drawing_list : (drawn : ℕ) → drawn < size → ((ys : List Sym) → NamesBelow g.names ys → (w : List ℕ) × AreChosen g from size (suc drawn) ys w)
      → (xs : List Sym) → NamesBelow g.names xs → (w : List ℕ) × AreChosen g from size drawn xs w
  drawing_list drawn less later [] names = ([], no_symbol)
  drawing_list drawn less later (Token a ∷ xs) names = let w = drawing_list drawn less later xs names in (a ∷ w.0, takes_token w.1)
  drawing_list drawn less later (Name n ∷ xs) names =
      let c = have n names.0 in
      let d = drawn_rule g from drawn n c.0 c.1 c.2.rule in
      let w = later (d.1 ++ xs) (names_append g.names d.1 xs (range.names d.0 n d.1 d.2.rule) names.1) in
      (w.0, draws_rule less d.2 w.1)

  choice_by : (fuel drawn : ℕ) (xs : List Sym) → size ≤ drawn + fuel → NamesBelow g.names xs → (w : List ℕ) × AreChosen g from size drawn xs w
  choice_by zero drawn xs within names = all_drawn drawn xs (omega (arith, within)) names
  choice_by (suc fuel) drawn xs within names =
      ⊎_elim (λ less. drawing_list drawn less (λ ys named. choice_by fuel (suc drawn) ys (omega (arith, within)) named) xs names)
      (λ all. all_drawn drawn xs all names)
      (cases_lt drawn size)

pub some_choice : SomeChoiceLaw
some_choice g from size drawn xs range have names = choice_by g from size range have size drawn xs (omega arith) names
