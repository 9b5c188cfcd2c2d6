-- The kernels of successors have exactly the moved items.
use Rattle.std.proofs.Common.{◌≡◌, ℕ, ◌+◌, ◌<◌, ◌⊎◌, inl, inr, Bool, true, ◌==◌, nat_lt, if◌then◌else◌, IsTrue, List, [], ◌∷◌, ◌++◌, length, get_or, set, take, slice_get, Option, Some, None, All, refl, sym, ap, subst, ◌∙◌, arith, append-nil}
use Rattle.std.specs.Option.{option_and_then}
use Rattle.std.specs.List.{cons_option}
use Rattle.std.proofs.lemmas.Bool.{or_left, or_right, or_cases, false≢true, ltb-true, eqb-true, eq-eqb, ne_eqb, cases_eq}
use Rattle.std.proofs.lemmas.List.{length-append, get_or-set_same, get_or-set_other, length-set}
use Rattle.std.proofs.lemmas.List.Elements.{All-head, All-tail, All-cons, All-get_or, filter_map-append}
use Rattle.std.proofs.lemmas.Option.{slice_get_within, get_or_from_slice_get, same_Some, cond_some, option_and_then_some}
use Rattle.grammar_data.specs.declared.rule.Sym.{Sym}
use Rattle.grammar_data.specs.declared.rule.Sym.TheVariants.{Token, Name}
use Rattle.grammar_data.specs.Grammar.{Grammar}
use Rattle.grammar_theory.specs.Rules.{IsRule}
use Rattle.grammar_theory.proofs.RuleLemmas.{rule_once}
use Rattle.item_theory.specs.Items.{Item, Dotted, all_rules}
use Rattle.item_theory.specs.Chains.{Moves, moves}
use Rattle.item_theory.proofs.ItemLemmas.{dotted_once, item_same}
use Rattle.collection_data.specs.declared.entry.Entry.{Entry}
use Rattle.item_sets.specs.declared.spot.Spot.{Spot}
use Rattle.collection_data.specs.Entries.{entry_has, entries_have, IsEntryBefore, IsEntry, AreEntries}
use Rattle.collection_data.specs.Collection.{column_of}
use Rattle.item_sets.specs.Closing.{IsSetting}
use Rattle.item_sets.specs.Layout.{IsKernel}
use Rattle.item_sets.specs.Successors.{moved_over, moved_entry, moved_entries, AreSuccessors, IsPushed}
use Rattle.collection_data.proofs.EntryLemmas.{entry_parts, entry_from, Rising, rising_of}
use Rattle.item_sets.proofs.ClosureExact.{IsSource, source_dotted, spot_of}
use Rattle.item_sets.proofs.LayoutLemmas.{pairs_of}

-- ---- columns

pub column_once : (tokens names c : ℕ) (x y : Sym) → column_of tokens names x ≡ Some c → column_of tokens names y ≡ Some c → x ≡ y
column_once tokens names c (Token a) (Token b) e f = ap Token ((cond_some (nat_lt a tokens) a c e).1 ∙ sym (cond_some (nat_lt b tokens) b c f).1)
column_once tokens names c (Token a) (Name m) e f =
    let p = cond_some (nat_lt a tokens) a c e in
    let q = cond_some (nat_lt m names) (tokens + m) c f in
    let less = ltb-true a tokens p.0 in
    let same = p.1 in
    let other = q.1 in
    absurd (omega arith)
column_once tokens names c (Name n) (Token b) e f =
    let p = cond_some (nat_lt b tokens) b c f in
    let q = cond_some (nat_lt n names) (tokens + n) c e in
    let less = ltb-true b tokens p.0 in
    let same = p.1 in
    let other = q.1 in
    absurd (omega arith)
column_once tokens names c (Name n) (Name m) e f =
    let p = (cond_some (nat_lt n names) (tokens + n) c e).1 in
    let q = (cond_some (nat_lt m names) (tokens + m) c f).1 in
    ap Name (let same : n ≡ m = omega arith in same)

-- ---- one entry

heads : {X : Type 0} {x y : X} {xs ys : List X} → x ∷ xs ≡ y ∷ ys → x ≡ y
heads e = cc

abbrev pub moved_on : Entry → Entry
moved_on e = record e { dot = e.dot + 1 }

module _ (g : Grammar) (rows fronts : List (List Spot)) (setting : IsSetting g rows fronts) (x : Sym) (c : ℕ) (in_column : column_of g.tokens g.names x ≡ Some c) where
  abbrev SpotAt : Entry → Option Spot
  SpotAt e = slice_get (get_or rows e.rule []) e.dot

  moved_parts : (e f : Entry) → moved_entry rows c e ≡ Some f → (spot : Spot) × (SpotAt e ≡ Some spot) × (spot.column ≡ c) × (moved_on e ≡ f)
  moved_parts e f h = option_and_then_some (moved_over c e) (SpotAt e) f h (λ spot at over.
      let p = cond_some (spot.column == c) (moved_on e) f over in
      (spot, at, eqb-true spot.column c p.0, p.1))

  moved_from : (e : Entry) (spot : Spot) → SpotAt e ≡ Some spot → spot.column ≡ c → moved_entry rows c e ≡ Some (moved_on e)
  moved_from e spot at col = ap (option_and_then (moved_over c e)) at ∙ ap (λ (b : Bool). if b then Some (moved_on e) else None) (eq-eqb spot.column c col)

  source_at : (e : Entry) → IsEntry g e → (spot : Spot) → SpotAt e ≡ Some spot → IsSource g e.rule e.dot spot
  source_at e entry spot at =
      let are = setting.table.spots.each e.rule entry.name entry.right entry.rule in
      let within = slice_get_within (get_or rows e.rule []) e.dot spot at in
      record { name = entry.name; right = entry.right; rule = entry.rule; within = omega (arith, are.count); at = are.each e.dot spot at }

  moved_sound : (e f : Entry) → IsEntry g e → moved_entry rows c e ≡ Some f → (j : Item) → IsTrue (entry_has f j) → (i : Item) × IsTrue (entry_has e i) × Moves g x i j
  moved_sound e f entry h j has =
      let parts = moved_parts e f h in
      let spot = parts.0 in
      let source = source_at e entry spot parts.1 in
      let here : spot.symbol ≡ x = column_once g.tokens g.names c spot.symbol x (source.at.column ∙ ap Some parts.2) in_column in
      let own = entry_parts (moved_on e) j (subst (λ (d : Entry). IsTrue (entry_has d j)) (sym parts.3) has) in
      let i : Item = record { rule = j.rule; dot = e.dot; ahead = j.ahead } in
      let dotted = subst (λ y. Dotted g i source.name (take e.dot source.right) (y ∷ source.at.after)) here (source_dotted g e.rule e.dot spot source i (sym own.0) refl) in
      (i, entry_from e i own.0 refl own.2, moves source.name (take e.dot source.right) source.at.after dotted (item_same refl (sym own.1) refl))

  dot_within : (e : Entry) (entry : IsEntry g e) (i : Item) (n : ℕ) (before after : List Sym) (y : Sym) → e.rule ≡ i.rule → e.dot ≡ i.dot → Dotted g i n before (y ∷ after) → e.dot < length entry.right
  dot_within e entry i n before after y rule dot dotted =
      let same = (rule_once entry.rule (subst (λ k. IsRule (all_rules g) k n (before ++ (y ∷ after))) (sym rule) dotted.rule)).1 in
      let size = ap length same ∙ length-append before (y ∷ after) in
      let at = dotted.dot in
      omega arith

  moved_whole : (e : Entry) → IsEntry g e → (i j : Item) → IsTrue (entry_has e i) → Moves g x i j → (moved_entry rows c e ≡ Some (moved_on e)) × IsTrue (entry_has (moved_on e) j)
  moved_whole e entry i j has (moves n before after dotted is) =
      let own = entry_parts e i has in
      let found = spot_of g rows fronts setting [] e.rule e.dot entry.name entry.right entry.rule (dot_within e entry i n before after x own.0 own.1 dotted) in
      let source = found.2 in
      let same = dotted_once (source_dotted g e.rule e.dot found.0 source i (sym own.0) (sym own.1)) dotted in
      let here : found.0.symbol ≡ x = heads same.2 in
      let col : found.0.column ≡ c = same_Some _ _ (sym source.at.column ∙ ap (column_of g.tokens g.names) here ∙ in_column) in
      (moved_from e found.0 found.1 col, subst (λ (k : Item). IsTrue (entry_has (moved_on e) k)) (sym is) (entry_from (moved_on e) _ own.0 (ap (λ d. d + 1) own.1) own.2))

  moved_is : (e f : Entry) → IsEntry g e → moved_entry rows c e ≡ Some f → IsEntry g f
  moved_is e f entry h =
      let parts = moved_parts e f h in
      let source = source_at e entry parts.0 parts.1 in
      let same = (rule_once source.rule entry.rule).1 in
      subst (λ (d : Entry). IsEntry g d) parts.3 (record { name = source.name; right = source.right; rule = source.rule; dot = (let less = source.within in omega arith); set = entry.set; ahead = entry.ahead; has = entry.has })

  -- ---- all entries

  abbrev Kernel : List Entry → List Entry
  Kernel es = moved_entries rows c es

  abbrev Moved : List Entry → Item → Type 0
  Moved es j = (i : Item) × IsTrue (entries_have es i) × Moves g x i j

  sound_later : (e : Entry) (es : List Entry) (j : Item) → Moved es j → Moved (e ∷ es) j
  sound_later e es j (i, h, m) = (i, or_right _ _ h, m)

  sound_first : (e f : Entry) (es : List Entry) (j : Item) → IsEntry g e → moved_entry rows c e ≡ Some f → (IsTrue (entries_have (Kernel es) j) → Moved es j) → (entry_has f j ≡ true) ⊎ (entries_have (Kernel es) j ≡ true) → Moved (e ∷ es) j
  sound_first e f es j entry at go (inl h) = let m = moved_sound e f entry at j h in (m.0, or_left _ _ m.1, m.2)
  sound_first e f es j entry at go (inr h) = sound_later e es j (go h)

  sound_by : (e : Entry) (es : List Entry) (j : Item) → IsEntry g e → (IsTrue (entries_have (Kernel es) j) → Moved es j) → (o : Option Entry) → moved_entry rows c e ≡ o → IsTrue (entries_have (cons_option o (Kernel es)) j) → Moved (e ∷ es) j
  sound_by e es j entry go None at h = sound_later e es j (go h)
  sound_by e es j entry go (Some f) at h = sound_first e f es j entry at go (or_cases _ _ h)

  pub kernel_sound : (es : List Entry) → All (IsEntry g) es → (j : Item) → IsTrue (entries_have (Kernel es) j) → Moved es j
  kernel_sound [] all j h = absurd (false≢true h)
  kernel_sound (e ∷ es) all j h = sound_by e es j (All-head (IsEntry g) e es all) (λ k. kernel_sound es (All-tail (IsEntry g) e es all) j k) (moved_entry rows c e) refl h

  whole_later : (es : List Entry) (j : Item) (o : Option Entry) → IsTrue (entries_have es j) → IsTrue (entries_have (cons_option o es) j)
  whole_later es j None h = h
  whole_later es j (Some f) h = or_right _ _ h

  whole_first : (e : Entry) (es : List Entry) (j : Item) → (moved_entry rows c e ≡ Some (moved_on e)) × IsTrue (entry_has (moved_on e) j) → IsTrue (entries_have (Kernel (e ∷ es)) j)
  whole_first e es j (at, has) = subst (λ (o : Option Entry). IsTrue (entries_have (cons_option o (Kernel es)) j)) (sym at) (or_left _ _ has)

  whole_cases : (e : Entry) (es : List Entry) (i j : Item) → IsEntry g e → Moves g x i j → (IsTrue (entries_have es i) → IsTrue (entries_have (Kernel es) j)) → (entry_has e i ≡ true) ⊎ (entries_have es i ≡ true) → IsTrue (entries_have (Kernel (e ∷ es)) j)
  whole_cases e es i j entry m go (inl h) = whole_first e es j (moved_whole e entry i j h m)
  whole_cases e es i j entry m go (inr h) = whole_later (Kernel es) j (moved_entry rows c e) (go h)

  pub kernel_whole : (es : List Entry) → All (IsEntry g) es → (i j : Item) → IsTrue (entries_have es i) → Moves g x i j → IsTrue (entries_have (Kernel es) j)
  kernel_whole [] all i j h m = absurd (false≢true h)
  kernel_whole (e ∷ es) all i j h m = whole_cases e es i j (All-head (IsEntry g) e es all) m (λ k. kernel_whole es (All-tail (IsEntry g) e es all) i j k m) (or_cases _ _ h)

  each_by : (es : List Entry) (e : Entry) → IsEntry g e → All (IsEntry g) (Kernel es) → (o : Option Entry) → moved_entry rows c e ≡ o → All (IsEntry g) (cons_option o (Kernel es))
  each_by es e entry all None at = all
  each_by es e entry all (Some f) at = All-cons (IsEntry g) f (Kernel es) (moved_is e f entry at) all

  kernel_each : (es : List Entry) → All (IsEntry g) es → All (IsEntry g) (Kernel es)
  kernel_each [] all = all
  kernel_each (e ∷ es) all = each_by es e (All-head (IsEntry g) e es all) (kernel_each es (All-tail (IsEntry g) e es all)) (moved_entry rows c e) refl

  dots_by : (es : List Entry) (e : Entry) → All (λ (d : Entry). 0 < d.dot) (Kernel es) → (o : Option Entry) → moved_entry rows c e ≡ o → All (λ (d : Entry). 0 < d.dot) (cons_option o (Kernel es))
  dots_by es e all None at = all
  dots_by es e all (Some f) at = All-cons (λ (d : Entry). 0 < d.dot) f (Kernel es) (let same = ap (λ (d : Entry). d.dot) (moved_parts e f at).3 in omega arith) all

  pub kernel_dots : (es : List Entry) → All (λ (d : Entry). 0 < d.dot) (Kernel es)
  kernel_dots [] = λ k d less. absurd (omega arith)
  kernel_dots (e ∷ es) = dots_by es e (kernel_dots es) (moved_entry rows c e) refl

  before_moved : (d e : Entry) → IsEntryBefore d e → IsEntryBefore (moved_on d) (moved_on e)
  before_moved d e (inl less) = inl less
  before_moved d e (inr h) = let less = h.1 in inr (h.0, omega arith)

  after_by : (d e : Entry) (es : List Entry) → IsEntryBefore d e → All (IsEntryBefore (moved_on d)) (Kernel es) → (o : Option Entry) → moved_entry rows c e ≡ o → All (IsEntryBefore (moved_on d)) (cons_option o (Kernel es))
  after_by d e es before all None at = all
  after_by d e es before all (Some f) at = All-cons (IsEntryBefore (moved_on d)) f (Kernel es) (subst (λ k. IsEntryBefore (moved_on d) k) (moved_parts e f at).3 (before_moved d e before)) all

  all_after : (d : Entry) (es : List Entry) → All (IsEntryBefore d) es → All (IsEntryBefore (moved_on d)) (Kernel es)
  all_after d [] all = λ k e less. absurd (omega arith)
  all_after d (e ∷ es) all = after_by d e es (All-head (IsEntryBefore d) e es all) (all_after d es (All-tail (IsEntryBefore d) e es all)) (moved_entry rows c e) refl

  rising_by : (e : Entry) (es : List Entry) → All (IsEntryBefore (moved_on e)) (Kernel es) → Rising (Kernel es) → (o : Option Entry) → moved_entry rows c e ≡ o → Rising (cons_option o (Kernel es))
  rising_by e es after rest None at = rest
  rising_by e es after rest (Some f) at = (subst (λ d. All (IsEntryBefore d) (Kernel es)) (moved_parts e f at).3 after, rest)

  kernel_rising : (es : List Entry) → Rising es → Rising (Kernel es)
  kernel_rising [] h = h
  kernel_rising (e ∷ es) h = rising_by e es (all_after e es h.0) (kernel_rising es h.1) (moved_entry rows c e) refl

  -- the moved entries are a kernel
  pub kernel_is : (es : List Entry) → AreEntries g es → IsKernel g (Kernel es)
  kernel_is es are = record {
    entries = record { rising = pairs_of _ (kernel_rising es (rising_of es are.rising)); each = kernel_each es are.each };
    moved = λ k d less. inl (kernel_dots es k d less);
  }

-- ---- one more entry

moved_pushed : (rows : List (List Spot)) (c : ℕ) (es : List Entry) (e : Entry) → moved_entries rows c (es ++ e ∷ []) ≡ moved_entries rows c es ++ cons_option (moved_entry rows c e) []
moved_pushed rows c es e = filter_map-append (moved_entry rows c) es (e ∷ [])

module _ (rows : List (List Spot)) (width : ℕ) (es : List Entry) (e : Entry) (kernels : List (List Entry)) (are : AreSuccessors rows width es kernels) where
  nothing_moved : (c : ℕ) → moved_entry rows c e ≡ None → moved_entries rows c (es ++ e ∷ []) ≡ moved_entries rows c es
  nothing_moved c none = moved_pushed rows c es e ∙ ap (λ (o : Option Entry). moved_entries rows c es ++ cons_option o []) none ∙ append-nil (moved_entries rows c es)

  -- with the dot at the end
  pub successors_none : slice_get (get_or rows e.rule []) e.dot ≡ None → AreSuccessors rows width (es ++ e ∷ []) kernels
  successors_none none = record {
    count = are.count;
    each = λ c less. are.each c less ∙ sym (nothing_moved c (ap (option_and_then (moved_over c e)) none));
  }

  module _ (spot : Spot) (at : slice_get (get_or rows e.rule []) e.dot ≡ Some spot) (within : spot.column < width) where
    moved_here : (c : ℕ) → c ≡ spot.column → moved_entries rows c (es ++ e ∷ []) ≡ moved_entries rows c es ++ moved_on e ∷ []
    moved_here c same = moved_pushed rows c es e ∙ ap (λ (o : Option Entry). moved_entries rows c es ++ cons_option o [])
        (ap (option_and_then (moved_over c e)) at ∙ ap (λ (b : Bool). if b then Some (moved_on e) else None) (eq-eqb spot.column c (sym same)))

    moved_elsewhere : (c : ℕ) → (c ≡ spot.column → ⊥) → moved_entries rows c (es ++ e ∷ []) ≡ moved_entries rows c es
    moved_elsewhere c apart = nothing_moved c (ap (option_and_then (moved_over c e)) at ∙ ap (λ (b : Bool). if b then Some (moved_on e) else None) (ne_eqb spot.column c (λ s. apart (sym s))))

    -- over the symbol at the spot
    pub successors_pushed : (new : List (List Entry)) → new ≡ set kernels spot.column (get_or kernels spot.column [] ++ moved_on e ∷ []) → AreSuccessors rows width (es ++ e ∷ []) new
    successors_pushed new is = record {
      count = ap length is ∙ length-set kernels spot.column _ ∙ are.count;
      each = λ c less. ap (λ (l : List (List Entry)). get_or l c []) is ∙ elim (cases_eq c spot.column) [
        | inl same ↦ ap (λ k. get_or (set kernels spot.column (get_or kernels spot.column [] ++ moved_on e ∷ [])) k []) same
            ∙ get_or-set_same kernels spot.column _ [] (let size = are.count in omega arith) ∙ ap (λ l. l ++ moved_on e ∷ []) (ap (λ k. get_or kernels k []) (sym same) ∙ are.each c less) ∙ sym (moved_here c same)
        | inr apart ↦ get_or-set_other kernels spot.column c _ [] apart ∙ are.each c less ∙ sym (moved_elsewhere c apart)
      ];
    }

pub successors_more : (rows : List (List Spot)) (width : ℕ) (es : List Entry) (e : Entry) (kernels new : List (List Entry)) → AreSuccessors rows width es kernels → All (λ row. All (λ (spot : Spot). spot.column < width) row) rows → e.rule < length rows
    → (o : Option Spot) → slice_get (get_or rows e.rule []) e.dot ≡ o → IsPushed o e kernels new → AreSuccessors rows width (es ++ e ∷ []) new
successors_more rows width es e kernels new are columns within None at is = subst (λ (ks : List (List Entry)). AreSuccessors rows width (es ++ e ∷ []) ks) (sym is) (successors_none rows width es e kernels are at)
successors_more rows width es e kernels new are columns within (Some spot) at is =
    let row = All-get_or (λ row. All (λ (s : Spot). s.column < width) row) rows e.rule [] within columns in
    let less = slice_get_within (get_or rows e.rule []) e.dot spot at in
    let small : spot.column < width = subst (λ (s : Spot). s.column < width) (get_or_from_slice_get (get_or rows e.rule []) e.dot spot spot at) (All-get_or (λ (s : Spot). s.column < width) (get_or rows e.rule []) e.dot spot less row) in
    successors_pushed rows width es e kernels are spot at small new is
