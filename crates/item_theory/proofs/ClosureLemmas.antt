-- The valid items of a list as a closure, and what an item opens.
use Rattle.std.proofs.Common.{◌≡◌, ℕ, ◌<◌, List, [], ◌∷◌, ◌++◌, refl, sym, ◌∙◌, subst}
use Rattle.std.proofs.lemmas.List.{same_from_push}
use Rattle.grammar_data.specs.declared.rule.Sym.{Sym}
use Rattle.grammar_data.specs.declared.rule.Sym.TheVariants.{Name}
use Rattle.grammar_data.specs.Grammar.{Grammar}
use Rattle.grammar_theory.specs.Rules.{IsRule, IsInRange, NamesBelow}
use Rattle.grammar_theory.specs.UsefulNames.{AllProductive}
use Rattle.grammar_theory.specs.FirstTokens.{Follows, IsFound}
use Rattle.grammar_theory.proofs.FirstLemmas.{found_following, found_follows}
use Rattle.grammar_theory.proofs.RuleLemmas.{names_back}
use Rattle.item_theory.specs.Items.{Item, Dotted, IsValid}
use Rattle.item_theory.specs.Chains.{Moves, Opens, opens, IsChained, begins, over, into, Closure, kept, opened, IsFirstItem, IsMoved}
use Rattle.item_theory.proofs.ItemLemmas.{own_rule, rule_of_name, right_names, dotted_once, dotted_front}
use Rattle.item_theory.proofs.ChainLemmas.{chain_valid}
use Rattle.item_theory.proofs.LeadLemmas.{valid_chain}

-- ---- closures

-- a closure stays within a set that has the given items and is closed
pub closure_within : {g : Grammar} {given set : Item → Type 0} → ((i : Item) → given i → set i) → ((i j : Item) → set i → Opens g i j → set j) → {i : Item} → Closure g given i → set i
closure_within keeps closed (kept {i = i} h) = keeps i h
closure_within keeps closed (opened {i = i} {j = j} c o) = closed i j (closure_within keeps closed c) o

pub closure_weaker : {g : Grammar} {given other : Item → Type 0} → ((i : Item) → given i → other i) → {i : Item} → Closure g given i → Closure g other i
closure_weaker weaker (kept {i = i} h) = kept (weaker i h)
closure_weaker weaker (opened c o) = opened (closure_weaker weaker c) o

pub moved_weaker : {g : Grammar} {set other : Item → Type 0} {x : Sym} → ((i : Item) → set i → other i) → (j : Item) → IsMoved g set x j → IsMoved g other x j
moved_weaker weaker j (i, h, move) = (i, weaker i h, move)

-- ---- the empty list

nil_push : {X : Type 0} (xs : List X) (x : X) → [] ≡ xs ++ x ∷ [] → ⊥
nil_push [] x e = cc
nil_push (y ∷ xs) x e = cc

pub chain_in_first : {g : Grammar} {xs : List Sym} {i : Item} → IsChained g xs i → xs ≡ [] → Closure g (IsFirstItem g) i
chain_in_first (begins e) at = kept e
chain_in_first (over {x = x} {xs = xs} c move to) at = absurd (nil_push xs x (sym at ∙ to))
chain_in_first (into c o) at = opened (chain_in_first c at) o

pub first_in_chain : {g : Grammar} {i : Item} → Closure g (IsFirstItem g) i → IsChained g [] i
first_in_chain (kept e) = begins e
first_in_chain (opened c o) = into (first_in_chain c) o

-- ---- one more symbol

pub chain_in_moved : {g : Grammar} {ys : List Sym} {i : Item} → IsChained g ys i → (xs : List Sym) (x : Sym) → ys ≡ xs ++ x ∷ [] → Closure g (IsMoved g (IsChained g xs) x) i
chain_in_moved (begins e) xs x at = absurd (nil_push xs x at)
chain_in_moved {g} (over {x = y} {xs = us} {i = i} {j = j} c move to) xs x at =
    let same = same_from_push us xs y x (sym to ∙ at) in
    kept (i, subst (λ l. IsChained g l i) same.0 c, subst (λ z. Moves g z i j) same.1 move)
chain_in_moved (into c o) xs x at = opened (chain_in_moved c xs x at) o

pub moved_in_chain : {g : Grammar} (xs : List Sym) (x : Sym) {i : Item} → Closure g (IsMoved g (IsChained g xs) x) i → IsChained g (xs ++ x ∷ []) i
moved_in_chain xs x (kept (i, c, move)) = over c move refl
moved_in_chain xs x (opened c o) = into (moved_in_chain xs x c) o

module _ (g : Grammar) (range : IsInRange g) where
  pub valid_in_first : {i : Item} → IsValid g [] i → Closure g (IsFirstItem g) i
  valid_in_first v = chain_in_first (valid_chain g range v) refl

  pub first_valid : {i : Item} → Closure g (IsFirstItem g) i → IsValid g [] i
  first_valid c = chain_valid g (first_in_chain c)

  pub valid_in_moved : {xs : List Sym} {x : Sym} {i : Item} → IsValid g (xs ++ x ∷ []) i → Closure g (IsMoved g (IsValid g xs) x) i
  valid_in_moved {xs} {x} v = closure_weaker (moved_weaker (λ i c. chain_valid g c)) (chain_in_moved (valid_chain g range v) xs x refl)

  pub moved_valid : {xs : List Sym} {x : Sym} {i : Item} → Closure g (IsMoved g (IsValid g xs) x) i → IsValid g (xs ++ x ∷ []) i
  moved_valid {xs} {x} c = chain_valid g (moved_in_chain xs x (closure_weaker (moved_weaker (λ i v. valid_chain g range v)) c))

-- ---- what an item opens

-- the name behind the dot is one of the grammar, and so are those behind it
names_behind : (g : Grammar) → IsInRange g → {i : Item} {n m : ℕ} {before after : List Sym} → Dotted g i n before (Name m ∷ after) → (m < g.names) × NamesBelow g.names after
names_behind g range {m = m} {before = before} {after = after} dotted = names_back (λ k. k < g.names) before (Name m ∷ after) (right_names g range dotted.rule)

open_cases : (g : Grammar) → IsInRange g → {i j : Item} {n m : ℕ} {before after : List Sym} → Dotted g i n before (Name m ∷ after) → Opens g i j → (right : List Sym) × IsRule g.rules j.rule m right × (j.dot ≡ 0) × Follows g after i.ahead j.ahead
open_cases g range {i} {j} {m = m} {after = after} dotted (opens k q front back right place front_place follows) =
    let same = dotted_once dotted place in
    let e : m ≡ q = same_name same.2 in
    let rest : after ≡ back = same_rest same.2 in
    (right, subst (λ p. IsRule g.rules j.rule p right) (sym e) (rule_of_name g (names_behind g range place).0 front_place.rule), front_place.dot, subst (λ l. Follows g l i.ahead j.ahead) (sym rest) follows)
  where
    same_name : {p q : ℕ} {us vs : List Sym} → Name p ∷ us ≡ Name q ∷ vs → p ≡ q
    same_name e = cc

    same_rest : {p q : ℕ} {us vs : List Sym} → Name p ∷ us ≡ Name q ∷ vs → us ≡ vs
    same_rest e = cc

pub open_found : (g : Grammar) → IsInRange g → {i j : Item} {n m : ℕ} {before after : List Sym} → Dotted g i n before (Name m ∷ after) → Opens g i j → (right : List Sym) × IsRule g.rules j.rule m right × (j.dot ≡ 0) × IsFound g after i.ahead j.ahead
open_found g range {i = i} {after = after} dotted o =
    let parts = open_cases g range dotted o in
    (parts.0, parts.1, parts.2, found_following g after i.ahead parts.3.1 refl)

pub found_open : (g : Grammar) → IsInRange g → AllProductive g → {i j : Item} {n m : ℕ} {before after : List Sym} {right : List Sym} → Dotted g i n before (Name m ∷ after) → IsRule g.rules j.rule m right → j.dot ≡ 0 → IsFound g after i.ahead j.ahead → Opens g i j
found_open g range all {i = i} {j = j} {n = n} {m = m} {before = before} {after = after} {right = right} dotted rule dot found =
    opens n m before after right dotted (dotted_front (own_rule g rule) dot) (found_follows g all after (names_behind g range dotted).1 i.ahead j.ahead found)
