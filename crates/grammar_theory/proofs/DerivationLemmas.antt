-- Derivations joined, split and folded, and the steps that they are made of.
use Rattle.std.proofs.Common.{◌≡◌, ℕ, zero, suc, List, slice_get, Some, [], ◌∷◌, ◌++◌, refl, sym, ap, ◌∙◌, subst, append_assoc, append-nil}
use Rattle.grammar_data.specs.declared.rule.Sym.{Sym}
use Rattle.grammar_data.specs.declared.rule.Sym.TheVariants.{Token, Name}
use Rattle.grammar_data.specs.Grammar.{Rule}
use Rattle.grammar_theory.specs.Rules.{IsRule, word}
use Rattle.grammar_theory.specs.Derivations.{Derives, done, token_first, name_first}

pub slice_get_kept : {X : Type 0} (xs ys : List X) (i : ℕ) {x : X} → slice_get xs i ≡ Some x → slice_get (xs ++ ys) i ≡ Some x
slice_get_kept [] ys i e = absurd (cc)
slice_get_kept (y ∷ xs) ys zero e = e
slice_get_kept (y ∷ xs) ys (suc i) e = slice_get_kept xs ys i e

pub derives_append : {rules : List Rule} {xs ys : List Sym} {u v : List ℕ} → Derives rules xs u → Derives rules ys v → Derives rules (xs ++ ys) (u ++ v)
derives_append done e = e
derives_append (token_first d) e = token_first (derives_append d e)
derives_append {v = w} (name_first {u = u} {v = v} rule d rest at) e = name_first rule d (derives_append rest e) (ap (λ l. l ++ w) at ∙ append_assoc u v w)

-- the derivations of two lists, one after the other
pub data Halves (rules : List Rule) (xs ys : List Sym) (w : List ℕ) : Type 0 where
  halves : {u v : List ℕ} → Derives rules xs u → Derives rules ys v → w ≡ u ++ v → Halves rules xs ys w

halves_token : {rules : List Rule} {a : ℕ} {xs ys : List Sym} {w : List ℕ} → Halves rules xs ys w → Halves rules (Token a ∷ xs) ys (a ∷ w)
halves_token {a = a} (halves d e at) = halves (token_first d) e (ap (λ l. a ∷ l) at)

halves_name : {rules : List Rule} {n r : ℕ} {right xs ys : List Sym} {t u w : List ℕ} → IsRule rules r n right → Derives rules right t → w ≡ t ++ u → Halves rules xs ys u → Halves rules (Name n ∷ xs) ys w
halves_name {t = t} rule d at (halves {u = u} {v = v} left right_half here) = halves (name_first {u = t} {v = u} rule d left refl) right_half (at ∙ ap (λ l. t ++ l) here ∙ sym (append_assoc t u v))

pub derives_split : {rules : List Rule} (xs ys : List Sym) {w : List ℕ} → Derives rules (xs ++ ys) w → Halves rules xs ys w
derives_split [] ys d = halves done d refl
derives_split (Token a ∷ xs) ys (token_first d) = halves_token (derives_split xs ys d)
derives_split (Name n ∷ xs) ys (name_first rule d rest at) = halves_name rule d at (derives_split xs ys rest)

-- a derivation of one name, by its rule
pub data ByRule (rules : List Rule) (n : ℕ) (w : List ℕ) : Type 0 where
  by_rule : {r : ℕ} {right : List Sym} → IsRule rules r n right → Derives rules right w → ByRule rules n w

derives_nothing : {rules : List Rule} {w : List ℕ} → Derives rules [] w → w ≡ []
derives_nothing done = refl

pub derives_by_rule : {rules : List Rule} {n : ℕ} {w : List ℕ} → Derives rules (Name n ∷ []) w → ByRule rules n w
derives_by_rule {rules} (name_first {right = right} {u = u} rule d rest at) = by_rule rule (subst (λ l. Derives rules right l) (sym (at ∙ ap (λ l. u ++ l) (derives_nothing rest) ∙ append-nil u)) d)

pub derives_name : {rules : List Rule} {n r : ℕ} {right : List Sym} {w : List ℕ} → IsRule rules r n right → Derives rules right w → Derives rules (Name n ∷ []) w
derives_name {w = w} rule d = name_first rule d done (sym (append-nil w))

folded : {rules : List Rule} {n r : ℕ} {right back : List Sym} {w : List ℕ} → IsRule rules r n right → Halves rules right back w → Derives rules (Name n ∷ back) w
folded rule (halves d e at) = name_first rule d e at

pub derives_fold : {rules : List Rule} (before after : List Sym) {n r : ℕ} {right : List Sym} {w : List ℕ} → IsRule rules r n right → Derives rules (before ++ (right ++ after)) w → Derives rules (before ++ Name n ∷ after) w
derives_fold [] after {right = right} rule d = folded rule (derives_split right after d)
derives_fold (Token a ∷ before) after rule (token_first d) = token_first (derives_fold before after rule d)
derives_fold (Name m ∷ before) after rule (name_first other d rest at) = name_first other d (derives_fold before after rule rest) at

pub derives_word : {rules : List Rule} (w : List ℕ) → Derives rules (word w) w
derives_word [] = done
derives_word (a ∷ w) = token_first (derives_word w)

pub derives_word_alone : {rules : List Rule} (w : List ℕ) {v : List ℕ} → Derives rules (word w) v → v ≡ w
derives_word_alone [] done = refl
derives_word_alone (a ∷ w) (token_first d) = ap (λ l. a ∷ l) (derives_word_alone w d)

-- what rules derive, others derive that have these rules too
pub derives_more : {rules more : List Rule} → ((r n : ℕ) (right : List Sym) → IsRule rules r n right → IsRule more r n right) → {xs : List Sym} {w : List ℕ} → Derives rules xs w → Derives more xs w
derives_more kept done = done
derives_more kept (token_first d) = token_first (derives_more kept d)
derives_more kept (name_first {n = n} {r = r} {right = right} rule d rest at) = name_first (kept r n right rule) (derives_more kept d) (derives_more kept rest) at

-- a rule of a list is one of a longer list
pub rule_kept : (rules more : List Rule) {r n : ℕ} {right : List Sym} → IsRule rules r n right → IsRule (rules ++ more) r n right
rule_kept rules more {r = r} rule = record { found = slice_get_kept rules more r rule.found }
