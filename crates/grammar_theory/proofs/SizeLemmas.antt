-- Empty sizes, by rounds and by a table that no rule improves.
use Rattle.std.proofs.Common.{◌≡◌, ℕ, zero, suc, ◌+◌, ◌<◌, ◌≤◌, List, [], ◌∷◌, Option, Some, None, refl, sym, ap, ◌∙◌, subst, inl, inr, ◌⊎◌, ⊎_elim, arith}
use Rattle.std.proofs.lemmas.Bool.{cases_lt}
use Rattle.grammar_data.specs.declared.rule.Sym.{Sym}
use Rattle.grammar_data.specs.declared.rule.Sym.TheVariants.{Token, Name}
use Rattle.grammar_data.specs.Grammar.{Rule, Grammar}
use Rattle.grammar_theory.specs.Rules.{IsRule}
use Rattle.grammar_theory.specs.EmptyNames.{Vanishes, no_symbol, name_gone, HasEmptySize, AddsUp, HasRightSide, IsSizedBelow, IsNextRound}

some_none : {k : ℕ} → ◌≡◌ {A = Option ℕ} (Some k) None → ⊥
some_none e = cc

some_same : {j k : ℕ} → ◌≡◌ {A = Option ℕ} (Some j) (Some k) → j ≡ k
some_same e = cc

-- ---- empty trees of a name and of what stands behind it

no_more : {rules : List Rule} {k : ℕ} → Vanishes rules [] k → k ≡ 0
no_more no_symbol = refl

pub gone_of_parts : {rules : List Rule} {n i j k : ℕ} {xs : List Sym} → Vanishes rules (Name n ∷ []) i → Vanishes rules xs j → k ≡ i + j → Vanishes rules (Name n ∷ xs) k
gone_of_parts (name_gone rule d nothing here) rest at = let e = no_more nothing in name_gone rule d rest (omega arith)

-- an empty tree of a name has a root
pub data Rooted (rules : List Rule) (n k : ℕ) : Type 0 where
  rooted : {r i : ℕ} {right : List Sym} → IsRule rules r n right → Vanishes rules right i → k ≡ suc i → Rooted rules n k

pub root_of_gone : {rules : List Rule} {n k : ℕ} → Vanishes rules (Name n ∷ []) k → Rooted rules n k
root_of_gone (name_gone rule d nothing at) = let e = no_more nothing in rooted rule d (omega arith)

pub gone_by_rule : {rules : List Rule} {n r i k : ℕ} {right : List Sym} → IsRule rules r n right → Vanishes rules right i → k ≡ suc i → Vanishes rules (Name n ∷ []) k
gone_by_rule rule d at = name_gone rule d no_symbol (omega arith)

no_root : {rules : List Rule} {n k : ℕ} → Rooted rules n k → k < 1 → ⊥
no_root (rooted rule d at) less = omega arith

pub one_size : (g : Grammar) (n i j : ℕ) → HasEmptySize g n i → HasEmptySize g n j → i ≡ j
one_size g n i j first second = let a = first.least j second.some in let b = second.least i first.some in omega arith

-- ---- rounds

-- no empty trees of the symbols have fewer nodes
abbrev IsLeast : Grammar → List Sym → ℕ → Type 0
IsLeast g xs k = (other : ℕ) → Vanishes g.rules xs other → k ≤ other

-- the sizes of the first name and of the rest
added : (g : Grammar) (bound : ℕ) (size : ℕ → Option ℕ) → IsSizedBelow g bound size → (n : ℕ) (xs : List Sym) {i j k : ℕ} → Vanishes g.rules (Name n ∷ []) i → Vanishes g.rules xs j → k ≡ i + j → IsLeast g (Name n ∷ xs) k → k < bound → (IsLeast g xs j → AddsUp size xs j) → AddsUp size (Name n ∷ xs) k
added g bound size table n xs {i = i} {j = j} d rest at least below next = (
  i,
  j,
  table.every n i (record { some = d; least = λ other e. (let le = least (other + j) (gone_of_parts e rest refl) in omega arith) }) (omega arith),
  next (λ other e. (let le = least (i + other) (gone_of_parts d e refl) in omega arith)),
  at,
)

module _ (g : Grammar) (bound : ℕ) (size : ℕ → Option ℕ) (table : IsSizedBelow g bound size) where
  -- the least empty trees of symbols have sizes of the table
  pub adds_up : {xs : List Sym} {k : ℕ} → Vanishes g.rules xs k → IsLeast g xs k → k < bound → AddsUp size xs k
  adds_up no_symbol least below = refl
  adds_up (name_gone {n = n} {i = i} {xs = xs} rule d rest at) least below =
      added g bound size table n xs (gone_by_rule rule d refl) rest (omega arith) least below (λ l. adds_up rest l (omega arith))

  -- an unsized name has no empty tree with fewer nodes than the bound
  pub unsized : (limit n k : ℕ) → size n ≡ None → Vanishes g.rules (Name n ∷ []) k → k < limit → k < bound → ⊥
  unsized zero n k none d below inside = omega arith
  unsized (suc limit) n k none d below inside =
      let none_less : (other : ℕ) → Vanishes g.rules (Name n ∷ []) other → k ≤ other =
      λ other e. ⊎_elim (λ less. absurd (unsized limit n other none e (omega arith) (omega arith))) (λ le. le) (cases_lt other k) in
      let same : size n ≡ Some k = table.every n k (record { some = d; least = none_less }) inside in
      some_none (sym same ∙ none)

-- sizes that add up are those of empty trees
pub vanishes_sum : (rules : List Rule) (size : ℕ → Option ℕ) → ((n k : ℕ) → size n ≡ Some k → Vanishes rules (Name n ∷ []) k) → (xs : List Sym) {total : ℕ} → AddsUp size xs total → Vanishes rules xs total
vanishes_sum rules size sound [] e = subst (λ k. Vanishes rules [] k) (sym e) no_symbol
vanishes_sum rules size sound (Token a ∷ xs) e = absurd e
vanishes_sum rules size sound (Name n ∷ xs) (here, rest, is, sum, at) = gone_of_parts (sound n here is) (vanishes_sum rules size sound xs sum) at

pub first_round : (g : Grammar) (size : ℕ → Option ℕ) → ((n : ℕ) → size n ≡ None) → IsSizedBelow g 1 size
first_round g size none = record {
  sound = λ n k is. absurd (some_none (sym is ∙ none n));
  below = λ n k is. absurd (some_none (sym is ∙ none n));
  every = λ n k h less. absurd (no_root (root_of_gone h.some) less);
}

round_right : (g : Grammar) (k : ℕ) (size : ℕ → Option ℕ) → IsSizedBelow g (suc k) size → (n : ℕ) → HasEmptySize g n (suc k) → Rooted g.rules n (suc k) → HasRightSide g size n k
round_right g k size table n h (rooted {r = r} {i = i} {right = right} rule d at) =
    let e : i ≡ k = omega arith in
    (r, right, rule, subst (λ m. AddsUp size right m) e (adds_up g (suc k) size table d (λ other gone. (let le = h.least (suc other) (gone_by_rule rule gone refl) in omega arith)) (omega arith)))

round_none : (g : Grammar) (k : ℕ) (size : ℕ → Option ℕ) → IsSizedBelow g (suc k) size → (n : ℕ) → HasEmptySize g n (suc k) → (o : Option ℕ) → size n ≡ o → size n ≡ None
round_none g k size table n h None e = e
round_none g k size table n h (Some j) e = let same = one_size g n (suc k) j h (table.sound n j e) in let less = table.below n j e in absurd (omega arith)

pub sized_next : (g : Grammar) (k : ℕ) (size : ℕ → Option ℕ) → IsSizedBelow g (suc k) size → (n : ℕ) → HasEmptySize g n (suc k) → (size n ≡ None) × HasRightSide g size n k
sized_next g k size table n h = (round_none g k size table n h (size n) refl, round_right g k size table n h (root_of_gone h.some))

pub next_sized : (g : Grammar) (k : ℕ) (size : ℕ → Option ℕ) → IsSizedBelow g (suc k) size → (n : ℕ) → size n ≡ None → HasRightSide g size n k → HasEmptySize g n (suc k)
next_sized g k size table n none (r, right, rule, sum) = record {
  some = gone_by_rule rule (vanishes_sum g.rules size (λ m i is. (table.sound m i is).some) right sum) refl;
  least = λ other e. ⊎_elim (λ less. absurd (unsized g (suc k) size table (suc k) n other none e less less)) (λ le. le) (cases_lt other (suc k));
}

pub unsized_above : (g : Grammar) (bound : ℕ) (size : ℕ → Option ℕ) → IsSizedBelow g bound size → (n k : ℕ) → size n ≡ None → Vanishes g.rules (Name n ∷ []) k → bound ≤ k
unsized_above g bound size table n k none d = ⊎_elim (λ less. absurd (unsized g bound size table bound n k none d less less)) (λ le. le) (cases_lt k bound)

-- the table of the next round
next_sound : (g : Grammar) (k : ℕ) (size next : ℕ → Option ℕ) → IsSizedBelow g (suc k) size → (n j : ℕ) → (size n ≡ Some j) ⊎ ((j ≡ suc k) × (size n ≡ None) × HasRightSide g size n k) → HasEmptySize g n j × (j < suc (suc k))
next_sound g k size next table n j (inl is) = let less = table.below n j is in (table.sound n j is, omega arith)
next_sound g k size next table n j (inr (e, none, right)) = (subst (λ m. HasEmptySize g n m) (sym e) (next_sized g k size table n none right), omega arith)

next_every : (g : Grammar) (k : ℕ) (size next : ℕ → Option ℕ) → IsSizedBelow g (suc k) size → IsNextRound g k size next → (n j : ℕ) → HasEmptySize g n j → (j < suc k) ⊎ (suc k ≤ j) → j < suc (suc k) → next n ≡ Some j
next_every g k size next table round n j h (inl less) below = round.kept n j (table.every n j h less)
next_every g k size next table round n j h (inr more) below =
    let e : j ≡ suc k = omega arith in
    let parts = sized_next g k size table n (subst (λ m. HasEmptySize g n m) e h) in
    round.added n parts.0 parts.1 ∙ ap Some (sym e)

pub next_round : (g : Grammar) (k : ℕ) (size next : ℕ → Option ℕ) → IsSizedBelow g (suc k) size → IsNextRound g k size next → IsSizedBelow g (suc (suc k)) next
next_round g k size next table round = record {
  sound = λ n j is. (next_sound g k size next table n j (round.new n j is)).0;
  below = λ n j is. (next_sound g k size next table n j (round.new n j is)).1;
  every = λ n j h below. next_every g k size next table round n j h (cases_lt j (suc k)) below;
}
