-- The symbols, trees and tokens of stacks and of their parts, and what stays in a run.
use Rattle.std.proofs.Common.{◌≡◌, ℕ, suc, ◌+◌, List, [], ◌∷◌, ◌++◌, length, refl, sym, ap, ◌∙◌, subst, append_assoc, append-nil, arith}
use Rattle.std.proofs.lemmas.List.{length_push, same_from_push}
use Rattle.grammar_data.specs.declared.rule.Sym.{Sym}
use Rattle.grammar_data.specs.declared.token.Token.{Token as TextToken}
use Rattle.grammar_theory.specs.Derivations.{Derives}
use Rattle.grammar_theory.specs.Trees.{Forest, NoTree, FirstTree, yield, yields, ids_of, AreTrees, no_tree, tree_first}
use Rattle.grammar_theory.proofs.Lists.{Pushed, empty, pushed as ends_in, all_pushed}
use Rattle.grammar_theory.proofs.TreeLemmas.{derives_yields}
use Rattle.table_data.specs.Tables.{Tables}
use Rattle.machine_theory.specs.Machine.{Entry, symbols, forest_onto, tokens_of, IsStack, pushed, Reduces, reduces, Reaches, here, after_reduction, after_shift}
use Rattle.machine_theory.specs.Runs.{TokensStayLaw}

pub symbols-append : (s under : List Entry) → symbols (s ++ under) ≡ symbols under ++ symbols s
symbols-append [] under = sym (append-nil (symbols under))
symbols-append (e ∷ s) under = ap (λ l. l ++ e.symbol ∷ []) (symbols-append s under) ∙ append_assoc (symbols under) (symbols s) (e.symbol ∷ [])

pub tokens-append : (s under : List Entry) → tokens_of (s ++ under) ≡ tokens_of under ++ tokens_of s
tokens-append [] under = sym (append-nil (tokens_of under))
tokens-append (e ∷ s) under = ap (λ l. l ++ yield e.tree) (tokens-append s under) ∙ append_assoc (tokens_of under) (tokens_of s) (yield e.tree)

-- the trees of entries yield their tokens
pub yields_onto : (s : List Entry) (trees : Forest) → yields (forest_onto s trees) ≡ tokens_of s ++ yields trees
yields_onto [] trees = refl
yields_onto (e ∷ s) trees = yields_onto s (FirstTree e.tree trees) ∙ sym (append_assoc (tokens_of s) (yield e.tree) (yields trees))

pub tokens_reduced : {t : Tables} {base a : ℕ} {s next : List Entry} → Reduces t base a s next → tokens_of s ≡ tokens_of next
tokens_reduced (reduces taken rest act rule parts len goto at) =
    ap tokens_of parts ∙ tokens-append taken rest ∙ ap (λ l. tokens_of rest ++ l) (sym (yields_onto taken NoTree ∙ append-nil (tokens_of taken))) ∙ sym (ap tokens_of at)

pub run_tokens : {t : Tables} {base : ℕ} {s last : List Entry} {u v : List TextToken} → Reaches t base s u last v → tokens_of s ++ u ≡ tokens_of last ++ v
run_tokens here = refl
run_tokens (after_reduction {token = token} {u = u} m more) = ap (λ l. l ++ token ∷ u) (tokens_reduced m) ∙ run_tokens more
run_tokens (after_shift {s = s} {token = token} {u = u} act more) = sym (append_assoc (tokens_of s) (token ∷ []) u) ∙ run_tokens more

pub tokens_stay_law : TokensStayLaw
tokens_stay_law t base s last u v run = run_tokens run

-- ---- parts of stacks

pub length-symbols : (s : List Entry) → length (symbols s) ≡ length s
length-symbols [] = refl
length-symbols (e ∷ s) = length_push (symbols s) e.symbol ∙ ap (λ k. k + 1) (length-symbols s) ∙ plus_one (length s)
  where
    plus_one : (k : ℕ) → k + 1 ≡ suc k
    plus_one k = omega arith

-- a stack cut where its symbols are
pub data Cut (s : List Entry) (front right : List Sym) : Type 0 where
  cut_at : (taken rest : List Entry) → s ≡ taken ++ rest → symbols rest ≡ front → symbols taken ≡ right → Cut s front right

cut_more : (e : Entry) {s : List Entry} {front right more : List Sym} → more ≡ right ++ e.symbol ∷ [] → Cut s front right → Cut (e ∷ s) front more
cut_more e at (cut_at taken rest parts below above) = cut_at (e ∷ taken) rest (ap (λ l. e ∷ l) parts) below (ap (λ l. l ++ e.symbol ∷ []) above ∙ sym at)

nothing_in_front : (front right : List Sym) → [] ≡ front ++ right → (front ≡ []) × (right ≡ [])
nothing_in_front [] right e = (refl, sym e)
nothing_in_front (x ∷ front) right e = absurd (cc)

pub cut : (s : List Entry) (front right : List Sym) → symbols s ≡ front ++ right → Cut s front right
cut [] front right e = let both = nothing_in_front front right e in cut_at [] [] refl (sym both.0) (sym both.1)
cut (e ∷ s) front right at = cases (all_pushed right) (λ more same. cut s front more same)
  where
    cases : Pushed right → ((more : List Sym) → symbols s ≡ front ++ more → Cut s front more) → Cut (e ∷ s) front right
    cases (empty none) go = cut_at [] (e ∷ s) refl (at ∙ ap (λ l. front ++ l) none ∙ append-nil front) (sym none)
    cases (ends_in more x to) go =
        let same = same_from_push (symbols s) (front ++ more) e.symbol x (at ∙ ap (λ l. front ++ l) to ∙ sym (append_assoc front more (x ∷ []))) in
        cut_more e (to ∙ ap (λ y. more ++ y ∷ []) (sym same.1)) (go more same.0)

-- the lower part of a valid stack is one
pub stack_below : {t : Tables} {base : ℕ} (taken rest : List Entry) → IsStack t base (taken ++ rest) → IsStack t base rest
stack_below [] rest is = is
stack_below (e ∷ taken) rest (pushed is tree step) = stack_below taken rest is

-- the trees of its upper part are those of their symbols
pub trees_above : {t : Tables} {base : ℕ} (taken rest : List Entry) → IsStack t base (taken ++ rest) → {xs : List Sym} {trees : Forest} → AreTrees t.rules xs trees → AreTrees t.rules (symbols taken ++ xs) (forest_onto taken trees)
trees_above [] rest is more = more
trees_above {t} (e ∷ taken) rest (pushed is tree step) {xs = xs} {trees = trees} more =
    subst (λ l. AreTrees t.rules l (forest_onto taken (FirstTree e.tree trees))) (sym (append_assoc (symbols taken) (e.symbol ∷ []) xs)) (trees_above taken rest is (tree_first tree more))

-- the symbols of a valid stack derive the tokens of its trees
pub stack_derives : {t : Tables} {base : ℕ} {s : List Entry} → IsStack t base s → Derives t.rules (symbols s) (ids_of (tokens_of s))
stack_derives {t} {base} {s} is =
    let whole : IsStack t base (s ++ []) = subst (λ l. IsStack t base l) (sym (append-nil s)) is in
    subst (λ l. Derives t.rules (symbols s) (ids_of l)) (yields_onto s NoTree ∙ append-nil (tokens_of s))
    (derives_yields (subst (λ l. AreTrees t.rules l (forest_onto s NoTree)) (append-nil (symbols s)) (trees_above s [] whole no_tree)))
