-- Names are reached from the start until no right side has another one.
use Rattle.std.proofs.Common.{◌≡◌, ◌↔◌, ℕ, ◌<◌, ◌⊎◌, inl, inr, Bool, true, false, IsTrue, List, [], ◌∷◌, ◌++◌, length, set, replicate, Contains, refl, sym, subst, ◌∙◌, arith}
use Rattle.std.proofs.lemmas.List.{length-set, length-replicate}
use Rattle.std.proofs.lemmas.List.Elements.{Contains-push, Contains-push_cases, Contains-append_left, All-contains}
use Rattle.grammar_data.specs.declared.rule.Sym.TheVariants.{Name}
use Rattle.grammar_data.specs.Grammar.{Grammar}
use Rattle.lr_base.specs.IsGrammar.{IsGrammar, IsSymbolOf}
use Rattle.grammar_theory.specs.UsefulNames.{IsReachable, IsLedTo, at_start, in_right}
use Rattle.grammar_theory.proofs.UsefulLemmas.{reachable_led}
use Rattle.grammar_theory.proofs.NameLaws.{reachable_test_law}
use Rattle.first_sets.specs.Relations.{HasPair, IsExtended}
use Rattle.first_sets.specs.KnownNames.{is_known, AreMentions}
use Rattle.first_sets.proofs.UseLemmas.{contains_none}
use Rattle.first_sets.proofs.KnownLemmas.{unmarked, true_is, known_set, set_known, set_itself}
use Rattle.grammar_laws.proofs.RangeLemmas.{rule_of}

-- a rule of a grammar is in range
pub led_below : (g : Grammar) → IsGrammar g → (n : ℕ) → IsLedTo g n → n < g.names
led_below g is n (at_start e) = subst (λ k. k < g.names) (sym e) is.start
led_below g is n (in_right {m = m} {r = r} {right = right} led rule has) = All-contains (IsSymbolOf g.tokens g.names) right (Name n) (rule_of g is r m right rule).right has

-- known and pending names are led to; the start and what known names lead to is known or pending
pub record IsReaching (g : Grammar) (pairs : List (ℕ × ℕ)) (known : List Bool) (pending : List ℕ) : Type 0 where
  pub names : length known ≡ g.names
  pub led : (n : ℕ) → Contains pending n → IsLedTo g n
  pub sound : (n : ℕ) → IsTrue (is_known known n) → IsLedTo g n
  pub start : IsTrue (is_known known g.start) ⊎ Contains pending g.start
  pub closed : (m n : ℕ) → IsTrue (is_known known m) → HasPair pairs m n → IsTrue (is_known known n) ⊎ Contains pending n

pub reach_start : (g : Grammar) (pairs : List (ℕ × ℕ)) → IsReaching g pairs (replicate g.names false) (g.start ∷ [])
reach_start g pairs = record {
  names = length-replicate g.names false;
  led = λ n has. elim (Contains-push_cases [] g.start n has) [ inl none ↦ absurd (contains_none none) | inr e ↦ at_start (sym e) ];
  sound = λ n is. absurd (true_is is (unmarked g.names n));
  start = inr (0, omega arith, refl);
  closed = λ m n is pair. absurd (true_is is (unmarked g.names m));
}

-- a known name need not be pending
pub reach_known : (g : Grammar) (pairs : List (ℕ × ℕ)) (known : List Bool) (rest : List ℕ) (name : ℕ) → IsTrue (is_known known name) → IsReaching g pairs known (rest ++ name ∷ []) → IsReaching g pairs known rest
reach_known g pairs known rest name is s = record {
  names = s.names;
  led = λ n has. s.led n (Contains-append_left rest (name ∷ []) n has);
  sound = s.sound;
  start = elim s.start [ inl fine ↦ inl fine | inr has ↦ cases g.start has ];
  closed = λ m n yes_m pair. elim (s.closed m n yes_m pair) [ inl fine ↦ inl fine | inr has ↦ cases n has ];
}
  where
    cases : (n : ℕ) → Contains (rest ++ name ∷ []) n → IsTrue (is_known known n) ⊎ Contains rest n
    cases n has = elim (Contains-push_cases rest name n has) [
      | inl before ↦ inr before
      | inr e ↦ inl (subst (λ k. IsTrue (is_known known k)) e is)
    ]

-- a name becomes known, and what it leads to pending
pub reach_new : (g : Grammar) (pairs : List (ℕ × ℕ)) (known : List Bool) (rest new : List ℕ) (name : ℕ) → name < length known → AreMentions g.rules pairs → IsExtended pairs name rest new
    → IsReaching g pairs known (rest ++ name ∷ []) → IsReaching g pairs (set known name true) new
reach_new g pairs known rest new name inside mentions more s = record {
  names = length-set known name true ∙ s.names;
  led = λ n has. elim (more.only n has) [
    | inl before ↦ s.led n (Contains-append_left rest (name ∷ []) n before)
    | inr pair ↦ let found = mentions.only name n pair in in_right (s.led name here) found.2 found.3
  ];
  sound = λ n is. elim (known_set known name n inside is) [
    | inl e ↦ subst (λ k. IsLedTo g k) (sym e) (s.led name here)
    | inr before ↦ s.sound n before
  ];
  start = elim s.start [ inl fine ↦ inl (set_known known name g.start inside fine) | inr has ↦ cases g.start has ];
  closed = λ m n is pair. elim (known_set known name m inside is) [
    | inl e ↦ inr (more.added n (subst (λ k. HasPair pairs k n) e pair))
    | inr before ↦ elim (s.closed m n before pair) [ inl fine ↦ inl (set_known known name n inside fine) | inr has ↦ cases n has ]
  ];
}
  where
    here : Contains (rest ++ name ∷ []) name
    here = Contains-push rest name

    cases : (n : ℕ) → Contains (rest ++ name ∷ []) n → IsTrue (is_known (set known name true) n) ⊎ Contains new n
    cases n has = elim (Contains-push_cases rest name n has) [
      | inl before ↦ inr (more.kept n before)
      | inr e ↦ inl (subst (λ k. IsTrue (is_known (set known name true) k)) e (set_itself known name inside))
    ]

pub reach_done : (g : Grammar) (pairs : List (ℕ × ℕ)) (known : List Bool) (pending : List ℕ) → length pending ≡ 0 → AreMentions g.rules pairs → IsReaching g pairs known pending
    → (n : ℕ) → IsTrue (is_known known n) ↔ IsReachable g n
reach_done g pairs known pending none mentions s n =
    reachable_test_law g (is_known known) (record {
      sound = λ m is. reachable_led g (s.sound m is);
      start = fine g.start s.start;
      closed = λ r m k right is rule has. fine k (s.closed m k is (mentions.every r m k right rule has));
    }) n
  where
    fine : (k : ℕ) → IsTrue (is_known known k) ⊎ Contains pending k → IsTrue (is_known known k)
    fine k (inl is) = is
    fine k (inr has) = absurd (omega (arith, has.1))
