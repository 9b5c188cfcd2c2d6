-- Productive and reachable names, by rules and by closed tests.
use Rattle.std.proofs.Common.{◌≡◌, ℕ, zero, suc, Bool, IsTrue, List, [], ◌∷◌, ◌++◌, Contains, refl, sym, ap, ◌∙◌, subst, inl, inr, ◌⊎◌, append_assoc, arith}
use Rattle.std.proofs.lemmas.List.Elements.{Contains-append_cases, Contains-append_left, Contains-append_right}
use Rattle.grammar_data.specs.declared.rule.Sym.{Sym}
use Rattle.grammar_data.specs.declared.rule.Sym.TheVariants.{Token, Name}
use Rattle.grammar_data.specs.Grammar.{Rule, Grammar}
use Rattle.grammar_theory.specs.Rules.{IsRule, AllNames, NamesBelow}
use Rattle.grammar_theory.specs.Derivations.{Derives, done, token_first, name_first, Steps, unchanged, replaced}
use Rattle.grammar_theory.specs.UsefulNames.{IsProductive, AllProductive, IsReachable, IsLedTo, at_start, in_right, IsProductiveTest, IsReachableTest}
use Rattle.grammar_theory.proofs.DerivationLemmas.{ByRule, by_rule, derives_by_rule, derives_name, derives_append}

-- ---- productive

pub names_productive : (g : Grammar) {xs : List Sym} {w : List ℕ} → Derives g.rules xs w → AllNames (IsProductive g) xs
names_productive g done = tt
names_productive g (token_first d) = names_productive g d
names_productive g (name_first {u = u} rule d rest at) = ((u, derives_name rule d), names_productive g rest)

-- the symbols derive some token list
pub data DerivesSome (rules : List Rule) (xs : List Sym) : Type 0 where
  derives_some : {w : List ℕ} → Derives rules xs w → DerivesSome rules xs

some_token : {rules : List Rule} {xs : List Sym} (a : ℕ) → DerivesSome rules xs → DerivesSome rules (Token a ∷ xs)
some_token a (derives_some d) = derives_some (token_first d)

some_name : {rules : List Rule} {n : ℕ} {xs : List Sym} {w : List ℕ} → Derives rules (Name n ∷ []) w → DerivesSome rules xs → DerivesSome rules (Name n ∷ xs)
some_name d (derives_some e) = derives_some (derives_append d e)

pub some_of_names : (g : Grammar) (xs : List Sym) → AllNames (IsProductive g) xs → DerivesSome g.rules xs
some_of_names g [] all = derives_some done
some_of_names g (Token a ∷ xs) all = some_token a (some_of_names g xs all)
some_of_names g (Name n ∷ xs) all = some_name all.0.1 (some_of_names g xs all.1)

pub below_productive : (g : Grammar) → AllProductive g → (xs : List Sym) → NamesBelow g.names xs → AllNames (IsProductive g) xs
below_productive g all [] below = tt
below_productive g all (Token a ∷ xs) below = below_productive g all xs below
below_productive g all (Name n ∷ xs) below = (all n below.0, below_productive g all xs below.1)

pub some_below : (g : Grammar) → AllProductive g → (xs : List Sym) → NamesBelow g.names xs → DerivesSome g.rules xs
some_below g all xs below = some_of_names g xs (below_productive g all xs below)

productive_by_some : (g : Grammar) {n r : ℕ} {right : List Sym} → IsRule g.rules r n right → DerivesSome g.rules right → IsProductive g n
productive_by_some g rule (derives_some {w = w} d) = (w, derives_name rule d)

pub productive_by_rule : (g : Grammar) {n r : ℕ} (right : List Sym) → IsRule g.rules r n right → AllNames (IsProductive g) right → IsProductive g n
productive_by_rule g right rule all = productive_by_some g rule (some_of_names g right all)

rule_of_productive : (g : Grammar) (n : ℕ) {w : List ℕ} → ByRule g.rules n w → (r : ℕ) × (right : List Sym) × IsRule g.rules r n right × AllNames (IsProductive g) right
rule_of_productive g n (by_rule {r = r} {right = right} rule d) = (r, right, rule, names_productive g d)

pub productive_rule : (g : Grammar) (n : ℕ) → IsProductive g n → (r : ℕ) × (right : List Sym) × IsRule g.rules r n right × AllNames (IsProductive g) right
productive_rule g n known = rule_of_productive g n (derives_by_rule known.1)

-- a closed test knows all names of symbols that derive something
pub knows_productive : {g : Grammar} {known : ℕ → Bool} → IsProductiveTest g known → {xs : List Sym} {w : List ℕ} → Derives g.rules xs w → AllNames (λ m. IsTrue (known m)) xs
knows_productive test done = tt
knows_productive test (token_first d) = knows_productive test d
knows_productive test (name_first {n = n} {r = r} {right = right} rule d rest at) = (test.closed r n right rule (knows_productive test d), knows_productive test rest)

-- ---- reachable

-- where an element stands
pub data Stands {X : Type 0} (xs : List X) (x : X) : Type 0 where
  stands : (before after : List X) → xs ≡ before ++ x ∷ after → Stands xs x

stands_more : {X : Type 0} {xs : List X} {x : X} (y : X) → Stands xs x → Stands (y ∷ xs) x
stands_more y (stands before after at) = stands (y ∷ before) after (ap (λ l. y ∷ l) at)

pub stands_in : {X : Type 0} (xs : List X) (x : X) → Contains xs x → Stands xs x
stands_in [] x (k, inside, at) = absurd (omega arith)
stands_in (y ∷ xs) x (zero, inside, at) = stands [] xs (ap (λ z. z ∷ xs) at)
stands_in (y ∷ xs) x (suc k, inside, at) = stands_more y (stands_in xs x (k, omega arith, at))

pub contains_first : {X : Type 0} (x : X) (xs : List X) → Contains (x ∷ xs) x
contains_first x xs = (0, omega arith, refl)

-- each name of a list that steps lead to is led to by rules
pub steps_lead : (g : Grammar) {xs : List Sym} → Steps g.rules (Name g.start ∷ []) xs → (n : ℕ) → Contains xs (Name n) → IsLedTo g n
steps_lead g (unchanged e) n has = start_leads (stands_in (Name g.start ∷ []) (Name n) (subst (λ l. Contains l (Name n)) e has))
  where
    start_leads : Stands (Name g.start ∷ []) (Name n) → IsLedTo g n
    start_leads (stands [] after at) = at_start (cc)
    start_leads (stands (x ∷ []) after at) = absurd (cc)
    start_leads (stands (x ∷ y ∷ before) after at) = absurd (cc)
steps_lead g (replaced {n = m} {right = right} {xs = xs} before after s at rule to) n has =
    cases (Contains-append_cases before (right ++ after) (Name n) (subst (λ l. Contains l (Name n)) to has)) (steps_lead g s)
  where
    old : ((k : ℕ) → Contains xs (Name k) → IsLedTo g k) → (k : ℕ) → Contains (before ++ Name m ∷ after) (Name k) → IsLedTo g k
    old led k here = led k (subst (λ l. Contains l (Name k)) (sym at) here)

    behind : ((k : ℕ) → Contains xs (Name k) → IsLedTo g k) → Contains right (Name n) ⊎ Contains after (Name n) → IsLedTo g n
    behind led (inl here) = in_right (old led m (Contains-append_right before (Name m ∷ after) (Name m) (contains_first (Name m) after))) rule here
    behind led (inr here) = old led n (Contains-append_right before (Name m ∷ after) (Name n) (Contains-append_right (Name m ∷ []) after (Name n) here))

    cases : Contains before (Name n) ⊎ Contains (right ++ after) (Name n) → ((k : ℕ) → Contains xs (Name k) → IsLedTo g k) → IsLedTo g n
    cases (inl here) led = old led n (Contains-append_left before (Name m ∷ after) (Name n) here)
    cases (inr here) led = behind led (Contains-append_cases right after (Name n) here)

-- one more rule of a chain
reached_more : (g : Grammar) {m n r : ℕ} {right : List Sym} → IsReachable g m → IsRule g.rules r m right → Stands right (Name n) → IsReachable g n
reached_more g {n = n} (before, after, s) rule (stands front back at) =
    (before ++ front, back ++ after, replaced before after s refl rule (append_assoc before front (Name n ∷ (back ++ after)) ∙ ap (λ l. before ++ l) (sym (append_assoc front (Name n ∷ back) after)) ∙ ap (λ l. before ++ (l ++ after)) (sym at)))

pub reachable_led : (g : Grammar) {n : ℕ} → IsLedTo g n → IsReachable g n
reachable_led g (at_start e) = ([], [], unchanged (ap (λ m. Name m ∷ []) e))
reachable_led g (in_right {n = n} {right = right} led rule has) = reached_more g (reachable_led g led) rule (stands_in right (Name n) has)

pub led_reachable : (g : Grammar) (n : ℕ) → IsReachable g n → IsLedTo g n
led_reachable g n (before, after, s) = steps_lead g s n (Contains-append_right before (Name n ∷ after) (Name n) (contains_first (Name n) after))

pub knows_reachable : {g : Grammar} {known : ℕ → Bool} → IsReachableTest g known → {n : ℕ} → IsLedTo g n → IsTrue (known n)
knows_reachable {known = known} test (at_start e) = subst (λ m. IsTrue (known m)) (sym e) test.start
knows_reachable test (in_right {m = m} {n = n} {r = r} {right = right} led rule has) = test.closed r m n right (knows_reachable test led) rule has
