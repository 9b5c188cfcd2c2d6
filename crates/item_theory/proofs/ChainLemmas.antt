-- An item is valid for a symbol list exactly where a chain of items leads to it.
use Rattle.std.proofs.Common.{◌≡◌, ℕ, List, [], ◌∷◌, ◌++◌, refl, sym, ap, ◌∙◌, subst, append_assoc, append-nil}
use Rattle.grammar_data.specs.declared.rule.Sym.{Sym}
use Rattle.grammar_data.specs.declared.rule.Sym.TheVariants.{Token, Name}
use Rattle.grammar_data.specs.Grammar.{Rule, Grammar}
use Rattle.grammar_theory.specs.Rules.{word, end_mark}
use Rattle.grammar_theory.specs.Derivations.{Derives, done, token_first, name_first}
use Rattle.grammar_theory.specs.FirstTokens.{Follows}
use Rattle.grammar_theory.proofs.DerivationLemmas.{Halves, halves, derives_append, derives_split, derives_word_alone}
use Rattle.item_theory.specs.Items.{Item, Dotted, Rightmost, unchanged, replaced, IsReached, first_or, IsValid, valid}
use Rattle.item_theory.specs.Chains.{first_item, Moves, moves, Opens, opens, IsChained, begins, over, into}
use Rattle.item_theory.proofs.ItemLemmas.{derives_all, dotted_once, moved, dotted_moved, dotted_first}

-- ---- lookaheads

-- the symbols derive `u`, and `b` is its first token, or else `a`
pub data IsAhead (g : Grammar) (after : List Sym) (a b : ℕ) : Type 0 where
  is_ahead : {u : List ℕ} → Derives g.rules after u → b ≡ first_or a u → IsAhead g after a b

ahead_of_halves : (g : Grammar) {after : List Sym} {a b : ℕ} {w : List ℕ} → Halves g.rules after (Token a ∷ []) (b ∷ w) → IsAhead g after a b
ahead_of_halves g {a = a} {b = b} {w = w} (halves {u = u} {v = v} d e at) = is_ahead d (first u (at ∙ ap (λ l. u ++ l) (derives_word_alone (a ∷ []) e)))
  where
    first : (t : List ℕ) → b ∷ w ≡ t ++ a ∷ [] → b ≡ first_or a t
    first [] e = cc
    first (c ∷ t) e = cc

pub ahead_of_follows : (g : Grammar) (after : List Sym) {a b : ℕ} → Follows g after a b → IsAhead g after a b
ahead_of_follows g after {a = a} (u, d) = ahead_of_halves g (derives_split after (Token a ∷ []) d)

pub follows_of_ahead : (g : Grammar) {after : List Sym} {a b : ℕ} → IsAhead g after a b → Follows g after a b
follows_of_ahead g {after = after} {a = a} {b = b} (is_ahead {u = u} d e) = by_first u (derives_append d (token_first done)) e
  where
    by_first : (t : List ℕ) → Derives g.rules (after ++ Token a ∷ []) (t ++ a ∷ []) → b ≡ first_or a t → Follows g after a b
    by_first [] f e = ([], subst (λ c. Derives g.rules (after ++ Token a ∷ []) (c ∷ [])) (sym e) f)
    by_first (c ∷ t) f e = (t ++ a ∷ [], subst (λ x. Derives g.rules (after ++ Token a ∷ []) (x ∷ (t ++ a ∷ []))) (sym e) f)

pub first_or-append : (other : ℕ) (u w : List ℕ) → first_or (first_or other w) u ≡ first_or other (u ++ w)
first_or-append other [] w = refl
first_or-append other (a ∷ u) w = refl

-- ---- a chain's item is valid

-- symbols derive their tokens from the right
pub rightmost_over : {rules : List Rule} {from xs : List Sym} {u : List ℕ} → Derives rules xs u → (front : List Sym) (w : List ℕ) {ys zs : List Sym} → Rightmost rules from ys → ys ≡ front ++ (xs ++ word w) → zs ≡ front ++ word (u ++ w) → Rightmost rules from zs
rightmost_over {rules} {from} done front w s at to = subst (λ l. Rightmost rules from l) (at ∙ sym to) s
rightmost_over (token_first {a = a} {xs = xs} {u = u} d) front w s at to =
    rightmost_over d (front ++ Token a ∷ []) w s (at ∙ sym (append_assoc front (Token a ∷ []) (xs ++ word w))) (to ∙ sym (append_assoc front (Token a ∷ []) (word (u ++ w))))
rightmost_over (name_first {n = n} {right = right} {xs = xs} {u = u} {v = v} rule d rest here) front w s at to =
    rightmost_over d front (v ++ w)
    (replaced front (v ++ w)
    (rightmost_over rest (front ++ Name n ∷ []) w s (at ∙ sym (append_assoc front (Name n ∷ []) (xs ++ word w))) refl)
    (append_assoc front (Name n ∷ []) (word (v ++ w))) rule refl)
    refl
    (to ∙ ap (λ l. front ++ word l) (ap (λ l. l ++ w) here ∙ append_assoc u v w))

pub valid_first : (g : Grammar) → IsValid g [] (first_item g)
valid_first g = valid g.names [] [] (Name g.start ∷ []) [] (unchanged refl) (dotted_first g) refl refl

valid_over_parts : (g : Grammar) {x : Sym} {xs ys : List Sym} {i j : Item} {n m : ℕ} (front before after : List Sym) (w : List ℕ) {head tail : List Sym} → IsReached g (front ++ Name n ∷ word w) → Dotted g i n before after → i.ahead ≡ first_or (end_mark g) w → xs ≡ front ++ before → Dotted g i m head (x ∷ tail) → j ≡ moved i → ys ≡ xs ++ x ∷ [] → IsValid g ys j
valid_over_parts g {x} {xs} {ys} {i} {j} {n} front before after w {tail = tail} reached dotted ahead at place e to =
    let same = dotted_once dotted place in
    let here : Dotted g i n before (x ∷ tail) = subst (λ l. Dotted g i n before l) same.2 dotted in
    subst (λ k. IsValid g ys k) (sym e)
    (valid n front (before ++ x ∷ []) tail w reached (dotted_moved before here) ahead (to ∙ ap (λ l. l ++ x ∷ []) at ∙ append_assoc front before (x ∷ [])))

pub valid_over : (g : Grammar) {x : Sym} {xs ys : List Sym} {i j : Item} → IsValid g xs i → Moves g x i j → ys ≡ xs ++ x ∷ [] → IsValid g ys j
valid_over g (valid n front before after w reached dotted ahead at) (moves m head tail place e) to =
    valid_over_parts g front before after w reached dotted ahead at place e to

valid_into_ahead : (g : Grammar) {xs : List Sym} {i j : Item} {n m : ℕ} (front before after right : List Sym) (w : List ℕ) → IsReached g (front ++ Name n ∷ word w) → Dotted g i n before (Name m ∷ after) → i.ahead ≡ first_or (end_mark g) w → xs ≡ front ++ before → Dotted g j m [] right → IsAhead g after i.ahead j.ahead → IsValid g xs j
valid_into_ahead g {n = n} {m = m} front before after right w reached dotted ahead at place (is_ahead {u = u} d first) =
    valid m (front ++ before) [] right (u ++ w)
    (rightmost_over (derives_all g d) ((front ++ before) ++ Name m ∷ []) w
    (replaced front w reached refl dotted.rule refl)
    (ap (λ l. front ++ l) (append_assoc before (Name m ∷ after) (word w)) ∙ sym (append_assoc front before (Name m ∷ (after ++ word w))) ∙ sym (append_assoc (front ++ before) (Name m ∷ []) (after ++ word w)))
    (sym (append_assoc (front ++ before) (Name m ∷ []) (word (u ++ w)))))
    place
    (first ∙ ap (λ a. first_or a u) ahead ∙ first_or-append (end_mark g) u w)
    (at ∙ sym (append-nil (front ++ before)))

pub valid_into : (g : Grammar) {xs : List Sym} {i j : Item} → IsValid g xs i → Opens g i j → IsValid g xs j
valid_into g {i = i} (valid n front before after w reached dotted ahead at) (opens m k head tail right place front_place follows) =
    let same = dotted_once dotted place in
    valid_into_ahead g front before tail right w reached (subst (λ l. Dotted g i n before l) same.2 dotted) ahead at front_place (ahead_of_follows g tail follows)

pub chain_valid : (g : Grammar) {xs : List Sym} {i : Item} → IsChained g xs i → IsValid g xs i
chain_valid g (begins e) = subst (λ k. IsValid g [] k) (sym e) (valid_first g)
chain_valid g (over c move to) = valid_over g (chain_valid g c) move to
chain_valid g (into c open_it) = valid_into g (chain_valid g c) open_it
