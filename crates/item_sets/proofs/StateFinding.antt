-- States are found by the keys of their kernels.
use Rattle.std.proofs.Common.{◌≡◌, ℕ, zero, suc, ◌<◌, ◌↔◌, ◌⊎◌, inl, inr, true, false, if◌then◌else◌, IsTrue, List, [], ◌∷◌, ◌++◌, length, slice_get, Some, None, All, refl, sym, ap, subst, ◌∙◌, arith}
use Rattle.std.specs.Cmp.Lexicographic.{same_text}
use Rattle.std.specs.HashMap.{HashMap}
use Rattle.std.specs.Global.{Vec}
use Rattle.std.specs.Map.{lookup}
use Rattle.std.proofs.lemmas.Bool.{and_from, eq-eqb, false≢true, cases_Bool}
use Rattle.std.proofs.lemmas.List.{length_push}
use Rattle.std.proofs.lemmas.List.Elements.{All-weaker, All-push, All-get_or}
use Rattle.std.proofs.lemmas.Option.{slice_get_within, get_or_from_slice_get, same_Some, none-some}
use Rattle.grammar_data.specs.Grammar.{Grammar}
use Rattle.grammar_theory.proofs.RuleLemmas.{slice_get_last, slice_get_cases}
use Rattle.grammar_data.specs.TokenSet.{IsTokenSet}
use Rattle.item_theory.specs.Chains.{Closure}
use Rattle.collection_data.specs.declared.entry.Entry.{Entry}
use Rattle.collection_data.specs.Entries.{entries_have, IsEntry, AreEntries}
use Rattle.table_data.specs.declared.limits.TheConstants.{MOST_STATES}
use Rattle.item_sets.specs.declared.spot.Spot.{Spot}
use Rattle.item_sets.specs.Layout.{IsClosureOf}
use Rattle.item_sets.specs.Successors.{key_of}
use Rattle.item_sets.specs.Found.{same_key, state_at}
use Rattle.item_sets.specs.Searching.{kernel_of, AreFoundSoFar, IsStateSet, IsStepKernel, HasKernel, FindsStates, IsNewKernel}
use Rattle.item_sets.proofs.KernelLemmas.{same_from_key, kernel_entries, kernel_of_closure}

abbrev pub AreSets : List Entry → Type 0
AreSets es = All (λ (e : Entry). IsTokenSet e.ahead) es

pub sets_of : (g : Grammar) (es : List Entry) → AreEntries g es → AreSets es
sets_of g es are = All-weaker (IsEntry g) (λ (e : Entry). IsTokenSet e.ahead) (λ e is. is.set) es are.each

pub own_key : (xs : List ℕ) → same_key xs xs ≡ true
own_key [] = refl
own_key (x ∷ xs) = and_from _ _ (eq-eqb x x refl) (own_key xs)

pub kept_get : {X : Type 0} (xs ys : List X) (k : ℕ) (x : X) → slice_get xs k ≡ Some x → slice_get (xs ++ ys) k ≡ Some x
kept_get [] ys k x e = absurd (none-some x e)
kept_get (z ∷ xs) ys zero x e = e
kept_get (z ∷ xs) ys (suc k) x e = kept_get xs ys k x e

pub set_at_state : (g : Grammar) (states : List (List Entry)) → All (IsStateSet g) states → (q : ℕ) (es : List Entry) → slice_get states q ≡ Some es → IsStateSet g es
set_at_state g states all q es at = subst (λ (l : List Entry). IsStateSet g l) (get_or_from_slice_get states q es es at) (All-get_or (IsStateSet g) states q es (slice_get_within states q es at) all)

module _ (g : Grammar) {S : Type 0} (found : HashMap (Vec ℕ) ℕ S) (states : List (List Entry)) (all : All (IsStateSet g) states) (finds : FindsStates found states)
    (kernel : List Entry) (are : AreEntries g kernel) (key : Vec ℕ) (is_key : key.items ≡ key_of kernel) where
  same_kernel : (es : List Entry) → AreEntries g es → key.items ≡ key_of (kernel_of es) → kernel_of es ≡ kernel
  same_kernel es own e = same_from_key (kernel_of es) kernel (sets_of g _ (kernel_entries g es own)) (sets_of g kernel are) (sym e ∙ is_key)

  pub found_state : (q : ℕ) → state_at found key.items ≡ Some q → HasKernel states kernel q
  found_state q at = let h = (finds key q).0 at in (h.0, h.1, same_kernel h.0 (set_at_state g states all q h.0 h.1).are h.2)

  pub not_found : state_at found key.items ≡ None → IsNewKernel states kernel
  not_found none q (es, at, same) = none-some q (sym none ∙ (finds key q).1 (es, at, is_key ∙ ap (λ l. key_of l) (sym same)))

  -- where the closure of a new kernel is put last
  module _ (fresh : IsNewKernel states kernel) (moved : All (λ (e : Entry). 0 < e.dot) kernel) (entries : List Entry) (closure : IsClosureOf g kernel entries) where
    own_kernel : kernel_of entries ≡ kernel
    own_kernel = kernel_of_closure g kernel entries are moved closure.are closure.have

    closed_set : IsStateSet g entries
    closed_set = record {
      are = closure.are;
      closed = λ some i. subst (λ (k : List Entry). IsTrue (entries_have entries i) ↔ Closure g (λ j. IsTrue (entries_have k j)) i) (sym own_kernel) (closure.have i);
    }

    pub sets_pushed : All (IsStateSet g) (states ++ entries ∷ [])
    sets_pushed = All-push (IsStateSet g) states entries all closed_set

    module _ (new : HashMap (Vec ℕ) ℕ S) (noted : (other : Vec ℕ) → state_at new other.items ≡ (if same_key key.items other.items then Some (length states) else state_at found other.items)) where
      finds_to : (other : Vec ℕ) (q : ℕ) → ((same_key key.items other.items ≡ true) ⊎ (same_key key.items other.items ≡ false)) → state_at new other.items ≡ Some q
          → (es : List Entry) × (slice_get (states ++ entries ∷ []) q ≡ Some es) × (other.items ≡ key_of (kernel_of es))
      finds_to other q (inl same) at =
          let last : Some (length states) ≡ Some q = sym (noted other ∙ ap (λ b. if b then Some (length states) else state_at found other.items) same) ∙ at in
          (entries, subst (λ k. slice_get (states ++ entries ∷ []) k ≡ Some entries) (same_Some _ _ last) (slice_get_last states entries), sym (same_text key.items other.items (sym same)) ∙ is_key ∙ ap (λ l. key_of l) (sym own_kernel))
      finds_to other q (inr apart) at =
          let old : state_at found other.items ≡ Some q = sym (noted other ∙ ap (λ b. if b then Some (length states) else state_at found other.items) apart) ∙ at in
          let h = (finds other q).0 old in
          (h.0, kept_get states (entries ∷ []) q h.0 h.1, h.2)

      finds_from : (other : Vec ℕ) (q : ℕ) (es : List Entry) → other.items ≡ key_of (kernel_of es) → ((same_key key.items other.items ≡ true) ⊎ (same_key key.items other.items ≡ false))
          → (slice_get states q ≡ Some es) ⊎ ((q ≡ length states) × (entries ≡ es)) → state_at new other.items ≡ Some q
      finds_from other q es e (inl same) (inl at) =
          let k : key.items ≡ key_of (kernel_of es) = same_text key.items other.items (sym same) ∙ e in
          absurd (fresh q (es, at, same_kernel es (set_at_state g states all q es at).are k))
      finds_from other q es e (inr apart) (inl at) = noted other ∙ ap (λ b. if b then Some (length states) else state_at found other.items) apart ∙ (finds other q).1 (es, at, e)
      finds_from other q es e (inl same) (inr last) = noted other ∙ ap (λ b. if b then Some (length states) else state_at found other.items) same ∙ ap Some (sym last.0)
      finds_from other q es e (inr apart) (inr last) =
          let k : key.items ≡ other.items = is_key ∙ ap (λ l. key_of l) (sym own_kernel) ∙ ap (λ l. key_of (kernel_of l)) last.1 ∙ sym e in
          absurd (false≢true (sym apart ∙ ap (λ l. same_key key.items l) (sym k) ∙ own_key key.items))

      pub finds_pushed : FindsStates new (states ++ entries ∷ [])
      finds_pushed other q = (
        λ at. finds_to other q (cases_Bool (same_key key.items other.items)) at,
        λ h. finds_from other q h.0 h.2 (cases_Bool (same_key key.items other.items)) (slice_get_cases states entries h.0 q h.1),
      )

-- ---- the states found so far

-- a map with the same entries finds the same states
pub found_same : (g : Grammar) (rows fronts : List (List Spot)) (sets : List (List Entry)) {S : Type 0} (found new : HashMap (Vec ℕ) ℕ S) → AreFoundSoFar g rows fronts sets found → new.entries ≡ found.entries
    → AreFoundSoFar g rows fronts sets new
found_same g rows fronts sets found new are same = record {
  setting = are.setting;
  few = are.few;
  each = are.each;
  finds = λ key q. subst (λ (es : List (Vec ℕ × ℕ)). (lookup (λ (k : Vec ℕ). same_key key.items k.items) es ≡ Some q) ↔ ((entries : List Entry) × (slice_get sets q ≡ Some entries) × (key.items ≡ key_of (kernel_of entries)))) (sym same) (are.finds key q);
}

-- with the closure of a new kernel put last
pub found_pushed : (g : Grammar) (rows fronts : List (List Spot)) (sets : List (List Entry)) {S : Type 0} (found new : HashMap (Vec ℕ) ℕ S) → AreFoundSoFar g rows fronts sets found → length sets < MOST_STATES
    → (kernel : List Entry) → IsStepKernel g kernel → (key : Vec ℕ) → key.items ≡ key_of kernel → IsNewKernel sets kernel → (entries : List Entry) → IsClosureOf g kernel entries
    → ((other : Vec ℕ) → state_at new other.items ≡ (if same_key key.items other.items then Some (length sets) else state_at found other.items)) → AreFoundSoFar g rows fronts (sets ++ entries ∷ []) new
found_pushed g rows fronts sets found new are less kernel is key is_key fresh entries closure noted = record {
  setting = are.setting;
  few = (let size = length_push sets entries in omega arith);
  each = sets_pushed g found sets are.each are.finds kernel is.is.entries key is_key fresh is.moved entries closure;
  finds = finds_pushed g found sets are.each are.finds kernel is.is.entries key is_key fresh is.moved entries closure new noted;
}
