-- First tokens of symbols, by rules and by closed tables.
use Rattle.std.proofs.Common.{◌≡◌, ℕ, Bool, IsTrue, List, [], ◌∷◌, ◌++◌, refl, sym, ◌∙◌, subst, inl, inr, ◌⊎◌}
use Rattle.grammar_data.specs.declared.rule.Sym.{Sym}
use Rattle.grammar_data.specs.declared.rule.Sym.TheVariants.{Token, Name}
use Rattle.grammar_data.specs.Grammar.{Rule, Grammar}
use Rattle.grammar_theory.specs.Rules.{IsRule, IsInRange, NamesBelow, OnlyNames}
use Rattle.grammar_theory.specs.Derivations.{Derives, done, token_first, name_first}
use Rattle.grammar_theory.specs.UsefulNames.{AllProductive}
use Rattle.grammar_theory.specs.FirstTokens.{BeginsWith, FirstHas, Follows, IsFirstBy, IsFoundBy, IsFirst, IsFound, IsFirstTable}
use Rattle.grammar_theory.proofs.DerivationLemmas.{ByRule, by_rule, derives_by_rule, derives_name, derives_append}
use Rattle.grammar_theory.proofs.UsefulLemmas.{DerivesSome, derives_some, some_below}

-- where the first token of a list that is joined of two stands
pub data Heads (a : ℕ) (w u v : List ℕ) : Type 0 where
  head_first : (rest : List ℕ) → u ≡ a ∷ rest → Heads a w u v
  head_second : u ≡ [] → v ≡ a ∷ w → Heads a w u v

pub heads : (u v : List ℕ) {a : ℕ} {w : List ℕ} → a ∷ w ≡ u ++ v → Heads a w u v
heads [] v e = head_second refl (sym e)
heads (b ∷ u) v {a = a} e = head_first u (cc)

-- ---- exactly by symbols

first_found : (g : Grammar) (xs : List Sym) {n r a : ℕ} {right : List Sym} {u v w : List ℕ} → IsRule g.rules r n right → Derives g.rules right u → Heads a w u v → (v ≡ a ∷ w → IsFirst g xs a) → IsFirst g (Name n ∷ xs) a
first_found g xs {right = right} rule d (head_first rest e) next = inl (rest, derives_name rule (subst (λ l. Derives g.rules right l) e d))
first_found g xs {right = right} rule d (head_second none e) next = inr (derives_name rule (subst (λ l. Derives g.rules right l) none d), next e)

pub found_first : (g : Grammar) {xs : List Sym} {w : List ℕ} → Derives g.rules xs w → {a : ℕ} {u : List ℕ} → w ≡ a ∷ u → IsFirst g xs a
found_first g done e = absurd (cc)
found_first g (token_first d) e = cc
found_first g (name_first {xs = xs} {u = u} {v = v} rule d rest at) e = first_found g xs rule d (heads u v (sym e ∙ at)) (found_first g rest)

begins_some : {rules : List Rule} {x : Sym} {xs : List Sym} {a : ℕ} → BeginsWith rules (x ∷ []) a → DerivesSome rules xs → BeginsWith rules (x ∷ xs) a
begins_some (u, d) (derives_some {w = w} e) = (u ++ w, derives_append d e)

begins_token : {rules : List Rule} {c : ℕ} {xs : List Sym} (a : ℕ) → a ≡ c → DerivesSome rules xs → BeginsWith rules (Token c ∷ xs) a
begins_token {rules} {c = c} {xs = xs} a e (derives_some {w = w} d) = (w, subst (λ b. Derives rules (Token c ∷ xs) (b ∷ w)) (sym e) (token_first d))

begins_behind : {rules : List Rule} {x : Sym} {xs : List Sym} {a : ℕ} → Derives rules (x ∷ []) [] → BeginsWith rules xs a → BeginsWith rules (x ∷ xs) a
begins_behind d (u, e) = (u, derives_append d e)

pub first_begins : (g : Grammar) → AllProductive g → (xs : List Sym) → NamesBelow g.names xs → (b : ℕ) → IsFirst g xs b → BeginsWith g.rules xs b
first_begins g all [] below b h = absurd h
first_begins g all (Token c ∷ xs) below b h = begins_token b h (some_below g all xs below)
first_begins g all (Name n ∷ xs) below b (inl h) = begins_some h (some_below g all xs below.1)
first_begins g all (Name n ∷ xs) below b (inr h) = begins_behind h.0 (first_begins g all xs below.1 b h.1)

-- ---- with a token behind the symbols

follow_found : (g : Grammar) (xs : List Sym) (a : ℕ) {n r b : ℕ} {right : List Sym} {u v w : List ℕ} → IsRule g.rules r n right → Derives g.rules right u → Heads b w u v → (v ≡ b ∷ w → IsFound g xs a b) → IsFound g (Name n ∷ xs) a b
follow_found g xs a {right = right} rule d (head_first rest e) next = inl (rest, derives_name rule (subst (λ l. Derives g.rules right l) e d))
follow_found g xs a {right = right} rule d (head_second none e) next = inr (derives_name rule (subst (λ l. Derives g.rules right l) none d), next e)

pub found_following : (g : Grammar) (xs : List Sym) (a : ℕ) {w : List ℕ} → Derives g.rules (xs ++ Token a ∷ []) w → {b : ℕ} {u : List ℕ} → w ≡ b ∷ u → IsFound g xs a b
found_following g [] a (token_first d) e = cc
found_following g (Token c ∷ xs) a (token_first d) e = cc
found_following g (Name n ∷ xs) a (name_first {u = u} {v = v} rule d rest at) e = follow_found g xs a rule d (heads u v (sym e ∙ at)) (found_following g xs a rest)

some_before : {rules : List Rule} {xs : List Sym} (a : ℕ) → DerivesSome rules xs → DerivesSome rules (xs ++ Token a ∷ [])
some_before a (derives_some d) = derives_some (derives_append d (token_first done))

pub found_follows : (g : Grammar) → AllProductive g → (xs : List Sym) → NamesBelow g.names xs → (a b : ℕ) → IsFound g xs a b → Follows g xs a b
found_follows g all [] below a b h = begins_token b h (derives_some done)
found_follows g all (Token c ∷ xs) below a b h = begins_token b h (some_before a (some_below g all xs below))
found_follows g all (Name n ∷ xs) below a b (inl h) = begins_some h (some_before a (some_below g all xs below.1))
found_follows g all (Name n ∷ xs) below a b (inr h) = begins_behind h.0 (found_follows g all xs below.1 a b h.1)

-- ---- by what is known of names, whatever it is

pub first_weaker : {F G : ℕ → ℕ → Type 0} {M N : ℕ → Type 0} → ((n b : ℕ) → F n b → G n b) → ((n : ℕ) → M n → N n) → (xs : List Sym) (b : ℕ) → IsFirstBy F M xs b → IsFirstBy G N xs b
first_weaker f m [] b h = h
first_weaker f m (Token c ∷ xs) b h = h
first_weaker f m (Name n ∷ xs) b (inl h) = inl (f n b h)
first_weaker f m (Name n ∷ xs) b (inr h) = inr (m n h.0, first_weaker f m xs b h.1)

pub found_weaker : {F G : ℕ → ℕ → Type 0} {M N : ℕ → Type 0} → ((n b : ℕ) → F n b → G n b) → ((n : ℕ) → M n → N n) → (xs : List Sym) (a b : ℕ) → IsFoundBy F M xs a b → IsFoundBy G N xs a b
found_weaker f m [] a b h = h
found_weaker f m (Token c ∷ xs) a b h = h
found_weaker f m (Name n ∷ xs) a b (inl h) = inl (f n b h)
found_weaker f m (Name n ∷ xs) a b (inr h) = inr (m n h.0, found_weaker f m xs a b h.1)

pub found_parts : (F : ℕ → ℕ → Type 0) (N : ℕ → Type 0) (xs : List Sym) (a b : ℕ) → IsFoundBy F N xs a b → IsFirstBy F N xs b ⊎ (OnlyNames N xs × (b ≡ a))
found_parts F N [] a b h = inr (tt, h)
found_parts F N (Token c ∷ xs) a b h = inl h
found_parts F N (Name n ∷ xs) a b (inl h) = inl (inl h)
found_parts F N (Name n ∷ xs) a b (inr h) = behind (found_parts F N xs a b h.1)
  where
    behind : IsFirstBy F N xs b ⊎ (OnlyNames N xs × (b ≡ a)) → IsFirstBy F N (Name n ∷ xs) b ⊎ (OnlyNames N (Name n ∷ xs) × (b ≡ a))
    behind (inl k) = inl (inr (h.0, k))
    behind (inr k) = inr ((h.0, k.0), k.1)

pub found_of_first : (F : ℕ → ℕ → Type 0) (N : ℕ → Type 0) (xs : List Sym) (a b : ℕ) → IsFirstBy F N xs b → IsFoundBy F N xs a b
found_of_first F N [] a b h = absurd h
found_of_first F N (Token c ∷ xs) a b h = h
found_of_first F N (Name n ∷ xs) a b (inl h) = inl h
found_of_first F N (Name n ∷ xs) a b (inr h) = inr (h.0, found_of_first F N xs a b h.1)

pub found_of_end : (F : ℕ → ℕ → Type 0) (N : ℕ → Type 0) (xs : List Sym) (a b : ℕ) → OnlyNames N xs → b ≡ a → IsFoundBy F N xs a b
found_of_end F N [] a b all e = e
found_of_end F N (Token c ∷ xs) a b all e = absurd all
found_of_end F N (Name n ∷ xs) a b all e = inr (all.0, found_of_end F N xs a b all.1 e)

-- ---- by rules and by tables

first_of_rule : (g : Grammar) (n a : ℕ) {u : List ℕ} → ByRule g.rules n (a ∷ u) → (r : ℕ) × (right : List Sym) × IsRule g.rules r n right × IsFirst g right a
first_of_rule g n a (by_rule {r = r} {right = right} rule d) = (r, right, rule, found_first g d refl)

pub first_rule : (g : Grammar) (n a : ℕ) → FirstHas g n a → (r : ℕ) × (right : List Sym) × IsRule g.rules r n right × IsFirst g right a
first_rule g n a h = first_of_rule g n a (derives_by_rule h.1)

first_of_begins : (g : Grammar) {n r a : ℕ} {right : List Sym} → IsRule g.rules r n right → BeginsWith g.rules right a → FirstHas g n a
first_of_begins g rule (u, d) = (u, derives_name rule d)

pub first_by_rule : (g : Grammar) → IsInRange g → AllProductive g → {n r a : ℕ} (right : List Sym) → IsRule g.rules r n right → IsFirst g right a → FirstHas g n a
first_by_rule g range all {n = n} {r = r} {a = a} right rule h = first_of_begins g rule (first_begins g all right (range.names r n right rule) a h)

module _ {g : Grammar} {null : ℕ → Bool} {first : ℕ → ℕ → Bool} (table : IsFirstTable g null first) where
  abbrev IsKnown : List Sym → ℕ → Type 0
  IsKnown xs a = IsFirstBy (λ m b. IsTrue (first m b)) (λ m. IsTrue (null m)) xs a

  known_found : (xs : List Sym) {n r a : ℕ} {right : List Sym} {u v w : List ℕ} → IsRule g.rules r n right → Derives g.rules right u → ((b : ℕ) (t : List ℕ) → u ≡ b ∷ t → IsKnown right b) → Heads a w u v → (v ≡ a ∷ w → IsKnown xs a) → IsKnown (Name n ∷ xs) a
  known_found xs {n = n} {r = r} {a = a} {right = right} rule d knows (head_first rest e) next = inl (table.closed r n a right rule (knows a rest e))
  known_found xs {n = n} {right = right} rule d knows (head_second none e) next = inr (table.nullable n (derives_name rule (subst (λ l. Derives g.rules right l) none d)), next e)

  pub knows_first : {xs : List Sym} {w : List ℕ} → Derives g.rules xs w → {a : ℕ} {u : List ℕ} → w ≡ a ∷ u → IsKnown xs a
  knows_first done e = absurd (cc)
  knows_first (token_first d) e = cc
  knows_first (name_first {xs = xs} {u = u} {v = v} rule d rest at) e = known_found xs rule d (λ b t here. knows_first d here) (heads u v (sym e ∙ at)) (knows_first rest)
