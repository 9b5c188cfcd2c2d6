-- What the table of a grammar is for the search, and its first state.
use Rattle.std.proofs.Common.{◌≡◌, ℕ, zero, suc, ◌+◌, ◌<◌, ◌≤◌, ◌↔◌, ◌⊎◌, inl, inr, true, false, if◌then◌else◌, IsTrue, List, [], ◌∷◌, length, get_or, slice_get, Option, Some, None, All, refl, sym, ap, subst, ◌∙◌, arith}
use Rattle.std.specs.HashMap.{HashMap}
use Rattle.std.specs.Global.{Vec}
use Rattle.std.specs.Map.{lookup}
use Rattle.std.proofs.lemmas.Bool.{or_left, or_cases, false≢true, eq-eqb, eqb-true}
use Rattle.std.proofs.lemmas.List.{get_or_default}
use Rattle.std.proofs.lemmas.List.Elements.{All-from_get_or, All-cons, All-nil}
use Rattle.std.proofs.lemmas.Option.{slice_get-get_or, cond_some, same_Some, none-some}
use Rattle.std.specs.Cmp.Lexicographic.{same_text}
use Rattle.grammar_data.specs.declared.rule.Sym.{Sym}
use Rattle.grammar_data.specs.declared.rule.Sym.TheVariants.{Token, Name}
use Rattle.grammar_data.specs.Grammar.{Grammar}
use Rattle.lr_base.specs.declared.limits.TheConstants.{SIDE_SYMBOLS}
use Rattle.lr_base.specs.IsGrammar.{IsGrammar}
use Rattle.grammar_theory.specs.Rules.{IsRule}
use Rattle.grammar_theory.specs.UsefulNames.{AllProductive}
use Rattle.item_theory.specs.Items.{Item, all_rules}
use Rattle.item_theory.specs.Chains.{Closure, kept, opened, opens, IsFirstItem}
use Rattle.item_theory.proofs.ItemLemmas.{WhichRule, is_own, is_last, which_rule, last_rule, item_same}
use Rattle.collection_data.specs.declared.entry.Entry.{Entry}
use Rattle.item_sets.specs.declared.spot.Spot.{Spot}
use Rattle.collection_data.specs.Entries.{entry_has, entries_have, IsEntry, AreEntries}
use Rattle.item_sets.specs.Spots.{AreSpots, IsTable}
use Rattle.item_sets.specs.Closing.{IsSetting}
use Rattle.item_sets.specs.Layout.{IsClosureOf, IsKernel}
use Rattle.item_sets.specs.Successors.{key_of, moved_entries, AreSuccessors}
use Rattle.item_sets.specs.Found.{same_key, state_at}
use Rattle.item_sets.specs.Searching.{kernel_of, IsStateSet, FindsStates, IsFirstEntry, IsStepFound, IsStepKernel, IsFoundOrAdded}
use Rattle.collection_data.specs.Rows.{symbol_at}
use Rattle.grammar_laws.proofs.RangeLemmas.{in_range, rule_of}
use Rattle.collection_data.proofs.EntryLemmas.{entry_parts, entry_from, rising_of}
use Rattle.collection_data.proofs.SameEntries.{same_entries}
use Rattle.item_sets.proofs.KernelLemmas.{kernel_has, kernel_entries}
use Rattle.collection_data.proofs.RowLemmas.{symbol_of_column, column_at}
use Rattle.item_sets.proofs.SuccessorLemmas.{kernel_is, kernel_dots}
use Rattle.item_sets.proofs.StateFinding.{kept_get}

some_spot : Spot
some_spot = record { symbol = Token 0; column = 0; first = []; passes = false }

module _ (g : Grammar) (rows fronts : List (List Spot)) (grammar : IsGrammar g) (table : IsTable g rows fronts) where
  right_short : (r n : ℕ) (right : List Sym) → IsRule (all_rules g) r n right → length right ≤ SIDE_SYMBOLS
  right_short r n right rule = cases (which_rule g rule)
    where
      cases : WhichRule g r n right → length right ≤ SIDE_SYMBOLS
      cases (is_own own) = (rule_of g grammar r n right own).short
      cases (is_last at left is) = let size = ap length is in omega arith

  row_of : (P : List Spot → Type 0) → ((r n : ℕ) (right : List Sym) → IsRule (all_rules g) r n right → AreSpots g right (get_or rows r []) → P (get_or rows r [])) → All P rows
  row_of P each = All-from_get_or P rows [] (λ r less.
      let rule = get_or (all_rules g) r (0, []) in
      let within : r < length (all_rules g) = omega (arith, table.spots.count) in
      let is : IsRule (all_rules g) r rule.0 rule.1 = record { found = slice_get-get_or (all_rules g) r (0, []) within } in
      each r rule.0 rule.1 is (table.spots.each r rule.0 rule.1 is))

  all_short : All (λ row. length row ≤ SIDE_SYMBOLS) rows
  all_short = row_of (λ row. length row ≤ SIDE_SYMBOLS) (λ r n right rule are. let le = right_short r n right rule in omega (arith, are.count))

  all_columns : All (λ row. All (λ (spot : Spot). spot.column < g.tokens + g.names) row) rows
  all_columns = row_of (λ row. All (λ (spot : Spot). spot.column < g.tokens + g.names) row) (λ r n right rule are.
      All-from_get_or (λ (spot : Spot). spot.column < g.tokens + g.names) (get_or rows r []) some_spot (λ i less.
      let at = are.each i (get_or (get_or rows r []) i some_spot) (slice_get-get_or (get_or rows r []) i some_spot less) in
      (symbol_of_column g _ _ at.column).0))

  pub setting_of : AllProductive g → IsSetting g rows fronts
  setting_of productive = record {
    range = in_range g grammar;
    productive = productive;
    table = table;
    few = (let t = grammar.few_tokens in let n = grammar.few_names in omega arith);
    few_tokens = (let t = grammar.few_tokens in omega arith);
    short = all_short;
    columns = all_columns;
  }

-- ---- the first state

module _ (g : Grammar) (e : Entry) (first : IsFirstEntry g e) where
  first_is : IsEntry g e
  first_is = record {
    name = g.names;
    right = Name g.start ∷ [];
    rule = subst (λ r. IsRule (all_rules g) r g.names (Name g.start ∷ [])) (sym first.rule) (last_rule g);
    dot = (let dot = first.dot in omega arith);
    set = first.set;
    ahead = g.tokens;
    has = first.ahead g.tokens ∙ eq-eqb g.tokens g.tokens refl;
  }

  pub first_kernel : IsKernel g (e ∷ [])
  first_kernel = record {
    entries = record { rising = λ i j d less within. absurd (omega arith); each = All-cons (IsEntry g) e [] first_is (All-nil (IsEntry g)) };
    moved = All-cons (λ (d : Entry). (0 < d.dot) ⊎ (d.rule ≡ length g.rules)) e [] (inr first.rule) (All-nil (λ (d : Entry). (0 < d.dot) ⊎ (d.rule ≡ length g.rules)));
  }

  own_item : (i : Item) → (entry_has e i ≡ true) ⊎ (false ≡ true) → IsFirstItem g i
  own_item i (inl h) = let parts = entry_parts e i h in item_same (sym parts.0 ∙ first.rule) (sym parts.1 ∙ first.dot) (eqb-true i.ahead g.tokens (sym (first.ahead i.ahead) ∙ parts.2))
  own_item i (inr h) = absurd (false≢true h)

  pub first_only : (i : Item) → IsTrue (entries_have (e ∷ []) i) ↔ IsFirstItem g i
  first_only i = (
    λ h. own_item i (or_cases _ _ h),
    λ is. or_left _ _ (entry_from e i (first.rule ∙ sym (ap (λ (j : Item). j.rule) is)) (first.dot ∙ sym (ap (λ (j : Item). j.dot) is)) (first.ahead i.ahead ∙ eq-eqb i.ahead g.tokens (ap (λ (j : Item). j.ahead) is))),
  )

  front_only : {i : Item} → Closure g (λ j. IsTrue (entries_have (e ∷ []) j)) i → i.dot ≡ 0
  front_only (kept {i = i} h) = ap (λ (j : Item). j.dot) ((first_only i).0 h)
  front_only (opened c (opens n m before after right dotted front follows)) = front.dot

  module _ (set : List Entry) (closure : IsClosureOf g (e ∷ []) set) where
    no_kernel : kernel_of set ≡ []
    no_kernel =
        let mine = kernel_entries g set closure.are in
        same_entries g (kernel_of set) [] (rising_of _ mine.rising) tt mine.each (All-nil (IsEntry g))
        (λ i h. let k = kernel_has set i h in let dot = front_only ((closure.have i).0 k.0) in let less = k.1 in absurd (omega arith))
        (λ i h. absurd (false≢true h))

    pub first_set : All (IsStateSet g) (set ∷ [])
    first_set = All-cons (IsStateSet g) set [] (record { are = closure.are; closed = λ some. absurd (some no_kernel) }) (All-nil (IsStateSet g))

    module _ {S : Type 0} (old new : HashMap (Vec ℕ) ℕ S) (key : Vec ℕ) (empty : old.entries ≡ []) (no_key : key.items ≡ [])
        (noted : (other : Vec ℕ) → state_at new other.items ≡ (if same_key key.items other.items then Some 0 else state_at old other.items)) where
      noted_first : (other : Vec ℕ) → state_at new other.items ≡ (if same_key [] other.items then Some 0 else None)
      noted_first other = noted other ∙ ap (λ (l : List ℕ). if same_key l other.items then Some 0 else state_at old other.items) no_key
          ∙ ap (λ (o : Option ℕ). if same_key [] other.items then Some 0 else o) (ap (λ (es : List (Vec ℕ × ℕ)). lookup (λ (k : Vec ℕ). same_key other.items k.items) es) empty)

      one_state : (q : ℕ) (es : List Entry) → slice_get (set ∷ []) q ≡ Some es → (q ≡ 0) × (set ≡ es)
      one_state zero es at = (refl, same_Some _ _ at)
      one_state (suc q) es at = absurd (none-some es at)

      pub first_finds : FindsStates new (set ∷ [])
      first_finds other q = (
        λ at.
            let parts = cond_some (same_key [] other.items) 0 q (sym (noted_first other) ∙ at) in
            (set, subst (λ k. slice_get (set ∷ []) k ≡ Some set) parts.1 refl, sym (same_text [] other.items (sym parts.0)) ∙ ap (λ (l : List Entry). key_of l) (sym no_kernel)),
        λ h.
            let one = one_state q h.0 h.1 in
            let nil : other.items ≡ [] = h.2 ∙ ap (λ (l : List Entry). key_of (kernel_of l)) (sym one.1) ∙ ap (λ (l : List Entry). key_of l) no_kernel in
            noted_first other ∙ ap (λ (l : List ℕ). if same_key [] l then Some 0 else None) nil ∙ ap Some (sym one.0),
      )

-- ---- the kernels of a state

module _ (g : Grammar) (rows fronts : List (List Spot)) (setting : IsSetting g rows fronts) (set : List Entry) (are : AreEntries g set) where
  module _ (c : ℕ) (less : c < g.tokens + g.names) (kernel : List Entry) (is : kernel ≡ moved_entries rows c set) where
    kernel_here : IsKernel g kernel
    kernel_here = subst (λ (k : List Entry). IsKernel g k) (sym is) (kernel_is g rows fronts setting (symbol_at g c) c (column_at g c less) set are)

    pub step_kernel : IsStepKernel g kernel
    step_kernel = record {
      is = kernel_here;
      moved = subst (λ (k : List Entry). All (λ (e : Entry). 0 < e.dot) k) (sym is) (kernel_dots g rows fronts setting (symbol_at g c) c (column_at g c less) set);
    }

pub kernel_at : (rows : List (List Spot)) (width : ℕ) (set : List Entry) (kernels : List (List Entry)) → AreSuccessors rows width set kernels → (c : ℕ) → c < length kernels → (kernel : List Entry) → kernel ≡ get_or kernels c kernel → kernel ≡ moved_entries rows c set
kernel_at rows width set kernels are c less kernel is = is ∙ get_or_default kernels c kernel [] less ∙ are.each c (let size = are.count in omega arith)

-- a state stays where it is
pub step_keeps : (g : Grammar) (kernel : List Entry) (old new : List (List Entry)) (o : Option ℕ) → IsStepFound g kernel old new o → (q : ℕ) (es : List Entry) → slice_get old q ≡ Some es → slice_get new q ≡ Some es
step_keeps g kernel old new None h q es at = subst (λ (s : List (List Entry)). slice_get s q ≡ Some es) (sym h.1) at
step_keeps g kernel old new (Some p) h q es at = cases h.1
  where
    cases : IsFoundOrAdded g kernel old new p → slice_get new q ≡ Some es
    cases (inl found) = subst (λ (s : List (List Entry)). slice_get s q ≡ Some es) (sym found.1) at
    cases (inr added) = subst (λ (s : List (List Entry)). slice_get s q ≡ Some es) (sym added.1.2) (kept_get old (added.1.0 ∷ []) q es at)
