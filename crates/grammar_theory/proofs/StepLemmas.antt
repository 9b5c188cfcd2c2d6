-- Steps that lead to a word, derivations, and the tokens of what is derived.
use Rattle.std.proofs.Common.{◌≡◌, ℕ, ◌<◌, List, [], ◌∷◌, ◌++◌, All, refl, sym, ap, ◌∙◌, subst, append_assoc, append-nil}
use Rattle.std.proofs.lemmas.List.{map-append}
use Rattle.std.proofs.lemmas.List.Elements.{All-nil, All-cons, All-append, All-same}
use Rattle.grammar_data.specs.declared.rule.Sym.{Sym}
use Rattle.grammar_data.specs.declared.rule.Sym.TheVariants.{Token, Name}
use Rattle.grammar_data.specs.Grammar.{Rule, Grammar}
use Rattle.grammar_theory.specs.Rules.{IsInRange, TokensBelow, word}
use Rattle.grammar_theory.specs.Derivations.{Derives, done, token_first, name_first, Steps, unchanged, replaced}
use Rattle.grammar_theory.proofs.DerivationLemmas.{derives_fold}

pub word-append : (u v : List ℕ) → word (u ++ v) ≡ word u ++ word v
word-append u v = map-append Token u v

-- what the symbols derive stands in their place at last
pub steps_over : {rules : List Rule} {from xs : List Sym} {u : List ℕ} → Derives rules xs u → (before after : List Sym) {ys zs : List Sym} → Steps rules from ys → ys ≡ before ++ (xs ++ after) → zs ≡ before ++ (word u ++ after) → Steps rules from zs
steps_over {rules} {from} done before after s at to = subst (λ l. Steps rules from l) (at ∙ sym to) s
steps_over (token_first {a = a} {xs = xs} {u = u} d) before after s at to =
    steps_over d (before ++ Token a ∷ []) after s (at ∙ sym (append_assoc before (Token a ∷ []) (xs ++ after))) (to ∙ sym (append_assoc before (Token a ∷ []) (word u ++ after)))
steps_over (name_first {right = right} {xs = xs} {u = u} {v = v} rule d rest here) before after s at to =
    steps_over rest (before ++ word u) after
    (steps_over d before (xs ++ after) (replaced before (xs ++ after) s at rule refl) refl refl)
    (sym (append_assoc before (word u) (xs ++ after)))
    (to ∙ ap (λ l. before ++ (word l ++ after)) here ∙ ap (λ l. before ++ (l ++ after)) (word-append u v) ∙ ap (λ l. before ++ l) (append_assoc (word u) (word v) after) ∙ sym (append_assoc before (word u) (word v ++ after)))

pub derives_steps : {rules : List Rule} {xs : List Sym} {w : List ℕ} → Derives rules xs w → Steps rules xs (word w)
derives_steps {xs = xs} {w = w} d = steps_over d [] [] (unchanged refl) (sym (append-nil xs)) (sym (append-nil (word w)))

-- what is derived after steps was derived before them
pub steps_back : {rules : List Rule} {from ys : List Sym} → Steps rules from ys → {w : List ℕ} → Derives rules ys w → Derives rules from w
steps_back {rules} (unchanged e) {w} d = subst (λ l. Derives rules l w) e d
steps_back {rules} (replaced before after s at rule to) {w} d =
    steps_back s (subst (λ l. Derives rules l w) (sym at) (derives_fold before after rule (subst (λ l. Derives rules l w) to d)))

-- steps lead on inside a longer list
pub steps_inside : {rules : List Rule} {from xs : List Sym} → Steps rules from xs → (before after : List Sym) {ys : List Sym} → ys ≡ before ++ (xs ++ after) → Steps rules (before ++ (from ++ after)) ys
steps_inside (unchanged e) before after to = unchanged (to ∙ ap (λ l. before ++ (l ++ after)) e)
steps_inside (replaced {n = n} {right = right} front back s at rule here) before after to =
    replaced (before ++ front) (back ++ after) (steps_inside s before after refl)
    (ap (λ l. before ++ (l ++ after)) at ∙ ap (λ l. before ++ l) (append_assoc front (Name n ∷ back) after) ∙ sym (append_assoc before front (Name n ∷ (back ++ after))))
    rule
    (to ∙ ap (λ l. before ++ (l ++ after)) here ∙ ap (λ l. before ++ l) (append_assoc front (right ++ back) after ∙ ap (λ l. front ++ l) (append_assoc right back after)) ∙ sym (append_assoc before front (right ++ (back ++ after))))

-- one after the other
pub steps_then : {rules : List Rule} {from xs ys : List Sym} → Steps rules from xs → Steps rules xs ys → Steps rules from ys
steps_then {rules} {from} s (unchanged e) = subst (λ l. Steps rules from l) (sym e) s
steps_then s (replaced before after t at rule to) = replaced before after (steps_then s t) at rule to

pub derives_tokens_below : (g : Grammar) → IsInRange g → {xs : List Sym} {w : List ℕ} → TokensBelow g.tokens xs → Derives g.rules xs w → All (λ a. a < g.tokens) w
derives_tokens_below g range below done = All-nil (λ a. a < g.tokens)
derives_tokens_below g range below (token_first {a = a} {u = u} d) = All-cons (λ a. a < g.tokens) a u below.0 (derives_tokens_below g range below.1 d)
derives_tokens_below g range below (name_first {n = n} {r = r} {right = right} {u = u} {v = v} {w = w} rule d rest at) =
    All-same (λ a. a < g.tokens) w (u ++ v) at (All-append (λ a. a < g.tokens) u v (derives_tokens_below g range (range.tokens r n right rule) d) (derives_tokens_below g range below rest))
