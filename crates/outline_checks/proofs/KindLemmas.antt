-- How the faults of a kind grow with the list that they stand in.
use Rattle.std.proofs.Common.{◌≡◌, ℕ, zero, suc, ◌+◌, ◌<◌, Bool, true, false, IsTrue, List, [], ◌∷◌, ◌++◌, length, take, get_or, refl, sym, ap, subst, ◌∙◌, inl, inr, arith}
use Rattle.std.specs.Prelude.{◌⊎◌, ◌↔◌, not, Option, Some, Result, Ok, Err, OnOk, slice_get, Contains}
use Rattle.std.specs.List.{flat_map}
use Rattle.std.proofs.lemmas.Bool.{false≢true}
use Rattle.std.proofs.lemmas.List.{map-append}
use Rattle.std.proofs.lemmas.List.Elements.{Contains-append_left, Contains-append_right, Contains-append_cases, Contains-push, Contains-push_cases}
use Rattle.pattern_data.specs.declared.pattern.Pattern.{Pattern}
use Rattle.pattern_data.specs.Language.{Matches}
use Rattle.pattern_data.specs.Spellings.{IsSpelling}
use Rattle.pattern_data.proofs.RoundLemmas.{spelling_once}
use Rattle.outline_data.specs.declared.outline.Word.{Word}
use Rattle.outline_data.specs.declared.outline.PlaceUse.{PlaceUse}
use Rattle.outline_data.specs.declared.rules.Symbol.{Symbol}
use Rattle.outline_data.specs.AlternativeParts.{AlternativeParts}
use Rattle.outline_data.specs.GroupParts.{GroupParts}
use Rattle.outline_data.specs.declared.rules.TemplatePart.{TemplatePart}
use Rattle.outline_data.specs.declared.fault.SheetFault.{SheetFault}
use Rattle.outline_data.specs.declared.fault.SheetFault.TheVariants.{BadPattern, PatternMatchesEmpty, Redeclared, UnknownSymbol, PlaceOutOfRange, PlaceTwice, NotAToken}
use Rattle.outline_theory.specs.Words.{StartUse, texts, places, number_in, parts_of}
use Rattle.outline_checks.specs.declared.names.Names.{Names}
use Rattle.outline_checks.specs.Noted.{Noted}
use Rattle.outline_checks.specs.Kinds.{is_token_name, is_left_side, InSome, LiteralFault, line_feed, empty, RepeatFault, again, NamedLiteralFault, named_again, named_text, PatternTextFault, no_spelling, empty_pattern, StartFault, second_start, unknown_start, NameFault, unknown_name, SymbolFault, PlaceFault, out_of_range, twice, IsGrammarName, NoTokenFault, not_a_token, AlternativeFault, in_right, in_template, in_marks, at_name, GroupFault, left_is_token, in_alternative, TemplateFault}
use Rattle.outline_checks.proofs.NotedLemmas.{noted_none, noted_both, noted_as}
use Rattle.outline_checks.proofs.ListLemmas.{get-append_left, get_pushed, get_push_cases, IsAgain, again_before, again_here, again_cases, next_taken}

-- ---- a fault of some element

in_some_cases : {X : Type 0} (Of : X → SheetFault → Type 0) (xs : List X) (x : X) (f : SheetFault) → InSome Of (xs ++ x ∷ []) f → InSome Of xs f ⊎ Of x f
in_some_cases Of xs x f h = elim (Contains-push_cases xs x h.element h.stands) [
  | inl before ↦ inl (record { element = h.element; stands = before; has = h.has })
  | inr same ↦ inr (subst (λ y. Of y f) (sym same) h.has)
]

in_some_back : {X : Type 0} (Of : X → SheetFault → Type 0) (xs : List X) (x : X) (f : SheetFault) → InSome Of xs f ⊎ Of x f → InSome Of (xs ++ x ∷ []) f
in_some_back Of xs x f (inl h) = record { element = h.element; stands = Contains-append_left xs (x ∷ []) h.element h.stands; has = h.has }
in_some_back Of xs x f (inr h) = record { element = x; stands = Contains-push xs x; has = h }

in_some_push : {X : Type 0} (Of : X → SheetFault → Type 0) (xs : List X) (x : X) {a b c : Option SheetFault} → Noted a b (InSome Of xs) → Noted b c (Of x) → Noted a c (InSome Of (xs ++ x ∷ []))
in_some_push Of xs x h k =
    noted_as (InSome Of (xs ++ x ∷ [])) (noted_both h k) (λ f p. in_some_back Of xs x f p) (λ f p. in_some_cases Of xs x f p)

pub in_some_next : {X : Type 0} (Of : X → SheetFault → Type 0) (xs : List X) (i : ℕ) (x : X) {a b c : Option SheetFault} → i < length xs → x ≡ get_or xs i x → Noted a b (InSome Of (take i xs)) → Noted b c (Of x) → Noted a c (InSome Of (take (i + 1) xs))
in_some_next Of xs i x {a} {b} {c} within read h k =
    subst (λ ys. Noted a c (InSome Of ys)) (sym (next_taken xs i x within read)) (in_some_push Of (take i xs) x h k)

-- ---- one fault

pub noted_one : (is : Bool) (fault : SheetFault) (Has : SheetFault → Type 0) {a b : Option SheetFault} → Noted a b (λ f. IsTrue is × (f ≡ fault)) → (is ≡ true → Has fault) → ((f : SheetFault) → Has f → IsTrue is × (f ≡ fault)) → Noted a b Has
noted_one is fault Has h to back = noted_as Has h (λ f p. subst Has (sym p.1) (to p.0)) back

-- ---- literals

pub literal_noted : (word : Word) (has_feed is_empty : Bool) {a b c : Option SheetFault} → (has_feed ≡ true) ↔ Contains word.bytes 10 → (is_empty ≡ true) ↔ (word.bytes ≡ []) → Noted a b (λ f. IsTrue has_feed × (f ≡ BadPattern word.line)) → Noted b c (λ f. IsTrue is_empty × (f ≡ PatternMatchesEmpty word.line)) → Noted a c (LiteralFault word)
literal_noted word has_feed is_empty feed none h k = noted_as (LiteralFault word) (noted_both h k) to back
  where
    to : (f : SheetFault) → (IsTrue has_feed × (f ≡ BadPattern word.line)) ⊎ (IsTrue is_empty × (f ≡ PatternMatchesEmpty word.line)) → LiteralFault word f
    to f (inl p) = subst (λ g. LiteralFault word g) (sym p.1) (line_feed (feed.0 p.0))
    to f (inr p) = subst (λ g. LiteralFault word g) (sym p.1) (empty (none.0 p.0))

    back : (f : SheetFault) → LiteralFault word f → (IsTrue has_feed × (f ≡ BadPattern word.line)) ⊎ (IsTrue is_empty × (f ≡ PatternMatchesEmpty word.line))
    back _ (line_feed h) = inl (feed.1 h, refl)
    back _ (empty h) = inr (none.1 h, refl)

-- ---- words that stand again

repeat_before : (words : List Word) (word : Word) (f : SheetFault) → RepeatFault words f → RepeatFault (words ++ word ∷ []) f
repeat_before words word _ (again {word = w} h) =
    let r : IsAgain (λ (w : Word). w.bytes) (words ++ word ∷ []) w = again_before (λ (w : Word). w.bytes) words word w (h.at, (h.here, h.before)) in
    again (record { at = r.0; here = r.1.0; before = r.1.1 })

repeat_here : (words : List Word) (word : Word) → Contains (texts words) word.bytes → RepeatFault (words ++ word ∷ []) (Redeclared word.line)
repeat_here words word h =
    let r : IsAgain (λ (w : Word). w.bytes) (words ++ word ∷ []) word = again_here (λ (w : Word). w.bytes) words word h in
    again (record { at = r.0; here = r.1.0; before = r.1.1 })

repeat_cases : (words : List Word) (word : Word) (f : SheetFault) → RepeatFault (words ++ word ∷ []) f → RepeatFault words f ⊎ (Contains (texts words) word.bytes × (f ≡ Redeclared word.line))
repeat_cases words word _ (again {word = w} h) = elim (again_cases (λ (w : Word). w.bytes) words word w (h.at, (h.here, h.before))) [
  | inl before ↦ inl (again (record { at = before.0; here = before.1.0; before = before.1.1 }))
  | inr last ↦ inr (last.0, ap (λ (v : Word). Redeclared v.line) (sym last.1))
]

pub texts_push : (words : List Word) (word : Word) → texts (words ++ word ∷ []) ≡ texts words ++ word.bytes ∷ []
texts_push words word = map-append (λ (w : Word). w.bytes) words (word ∷ [])

pub places_of_push : (uses : List PlaceUse) (used : PlaceUse) → places (uses ++ used ∷ []) ≡ places uses ++ used.place ∷ []
places_of_push uses used = map-append (λ (u : PlaceUse). u.place) uses (used ∷ [])

pub repeat_push : (words : List Word) (word : Word) (was : Bool) {a b c : Option SheetFault} → (was ≡ true) ↔ Contains (texts words) word.bytes → Noted a b (RepeatFault words) → Noted b c (λ f. (was ≡ true) × (f ≡ Redeclared word.line)) → Noted a c (RepeatFault (words ++ word ∷ []))
repeat_push words word was same h k = noted_as (RepeatFault (words ++ word ∷ [])) (noted_both h k) to back
  where
    to : (f : SheetFault) → RepeatFault words f ⊎ ((was ≡ true) × (f ≡ Redeclared word.line)) → RepeatFault (words ++ word ∷ []) f
    to f (inl p) = repeat_before words word f p
    to f (inr p) = subst (λ g. RepeatFault (words ++ word ∷ []) g) (sym p.1) (repeat_here words word (same.0 p.0))

    back : (f : SheetFault) → RepeatFault (words ++ word ∷ []) f → RepeatFault words f ⊎ ((was ≡ true) × (f ≡ Redeclared word.line))
    back f p = elim (repeat_cases words word f p) [ inl before ↦ inl before | inr last ↦ inr (same.1 last.0, last.1) ]

pub named_push : (words : List Word) (word : Word) (was : Bool) {a b c d : Option SheetFault} → (was ≡ true) ↔ Contains (texts words) word.bytes → Noted a b (NamedLiteralFault words) → Noted b c (λ f. (was ≡ true) × (f ≡ Redeclared word.line)) → Noted c d (LiteralFault word) → Noted a d (NamedLiteralFault (words ++ word ∷ []))
named_push words word was same h k l =
    noted_as (NamedLiteralFault (words ++ word ∷ [])) (noted_both (noted_both h k) l) to back
  where
    to : (f : SheetFault) → (NamedLiteralFault words f ⊎ ((was ≡ true) × (f ≡ Redeclared word.line))) ⊎ LiteralFault word f → NamedLiteralFault (words ++ word ∷ []) f
    to f (inl (inl (named_again p))) = named_again (repeat_before words word f p)
    to f (inl (inl (named_text p))) = named_text (in_some_back LiteralFault words word f (inl p))
    to f (inl (inr p)) = named_again (subst (λ g. RepeatFault (words ++ word ∷ []) g) (sym p.1) (repeat_here words word (same.0 p.0)))
    to f (inr p) = named_text (in_some_back LiteralFault words word f (inr p))

    back : (f : SheetFault) → NamedLiteralFault (words ++ word ∷ []) f → (NamedLiteralFault words f ⊎ ((was ≡ true) × (f ≡ Redeclared word.line))) ⊎ LiteralFault word f
    back f (named_again p) = elim (repeat_cases words word f p) [ inl before ↦ inl (inl (named_again before)) | inr last ↦ inl (inr (same.1 last.0, last.1)) ]
    back f (named_text p) = elim (in_some_cases LiteralFault words word f p) [ inl before ↦ inl (inl (named_text before)) | inr last ↦ inr last ]

-- ---- patterns

pub patterns_push : (words : List Word) (word : Word) {a b c : Option SheetFault} → Noted a b (InSome PatternTextFault words) → Noted b c (PatternTextFault word) → Noted a c (InSome PatternTextFault (words ++ word ∷ []))
patterns_push words word h k = in_some_push PatternTextFault words word h k

pub pattern_sound : (word : Word) (text : List ℕ) (pattern : Pattern) (a : Option SheetFault) → text ≡ word.bytes → IsSpelling text pattern → ¬ (Matches pattern []) → Noted a a (PatternTextFault word)
pattern_sound word text pattern a same read filled = noted_none a (PatternTextFault word) none
  where
    spelled : IsSpelling word.bytes pattern
    spelled = subst (λ t. IsSpelling t pattern) same read

    none : (f : SheetFault) → PatternTextFault word f → ⊥
    none _ (no_spelling h) = h pattern spelled
    none _ (empty_pattern {pattern = other} h empties) = filled (subst (λ p. Matches p []) (spelling_once word.bytes other pattern h spelled) empties)

pub pattern_unread : (word : Word) (text : List ℕ) {a b : Option SheetFault} → text ≡ word.bytes → ((pattern : Pattern) → ¬ (IsSpelling text pattern)) → Noted a b (λ f. IsTrue true × (f ≡ BadPattern word.line)) → Noted a b (PatternTextFault word)
pattern_unread word text same unread h = noted_one true (BadPattern word.line) (PatternTextFault word) h (λ _. no_spelling spelled) back
  where
    spelled : (pattern : Pattern) → ¬ (IsSpelling word.bytes pattern)
    spelled pattern read = unread pattern (subst (λ t. IsSpelling t pattern) (sym same) read)

    back : (f : SheetFault) → PatternTextFault word f → IsTrue true × (f ≡ BadPattern word.line)
    back _ (no_spelling h) = (refl, refl)
    back _ (empty_pattern {pattern = pattern} h empties) = absurd (spelled pattern h)

pub pattern_empty : (word : Word) (text : List ℕ) (pattern : Pattern) {a b : Option SheetFault} → text ≡ word.bytes → IsSpelling text pattern → Matches pattern [] → Noted a b (λ f. IsTrue true × (f ≡ PatternMatchesEmpty word.line)) → Noted a b (PatternTextFault word)
pattern_empty word text pattern same read empties h = noted_one true (PatternMatchesEmpty word.line) (PatternTextFault word) h (λ _. empty_pattern spelled empties) back
  where
    spelled : IsSpelling word.bytes pattern
    spelled = subst (λ t. IsSpelling t pattern) same read

    back : (f : SheetFault) → PatternTextFault word f → IsTrue true × (f ≡ PatternMatchesEmpty word.line)
    back _ (no_spelling none) = absurd (none pattern spelled)
    back _ (empty_pattern other is) = (refl, refl)

-- ---- starts

pub not_true_iff : (b t : Bool) → b ≡ t → (not b ≡ true) ↔ (t ≡ false)
not_true_iff true t e = (λ h. absurd (false≢true h), λ h. absurd (false≢true (sym h ∙ sym e)))
not_true_iff false t e = (λ _. sym e, λ _. refl)

pub starts_push : (names : Names) (starts : List StartUse) (start : StartUse) (has unknown : Bool) {a b c d : Option SheetFault} → (has ≡ true) ↔ (0 < length starts) → (unknown ≡ true) ↔ (is_left_side names start.name.bytes ≡ false) → Noted a b (StartFault names starts) → Noted b c (λ f. IsTrue has × (f ≡ Redeclared start.line)) → Noted c d (λ f. IsTrue unknown × (f ≡ UnknownSymbol start.name.line)) → Noted a d (StartFault names (starts ++ start ∷ []))
starts_push names starts start has unknown some none h k l =
    noted_as (StartFault names (starts ++ start ∷ [])) (noted_both (noted_both h k) l) to back
  where
    here : (n : ℕ) → length starts ≡ n → 0 < n → StartFault names (starts ++ start ∷ []) (Redeclared start.line)
    here zero e more = absurd (omega (arith, more))
    here (suc n) e more = second_start n (subst (λ m. slice_get (starts ++ start ∷ []) m ≡ Some start) e (get_pushed starts start))

    to : (f : SheetFault) → (StartFault names starts f ⊎ (IsTrue has × (f ≡ Redeclared start.line))) ⊎ (IsTrue unknown × (f ≡ UnknownSymbol start.name.line)) → StartFault names (starts ++ start ∷ []) f
    to _ (inl (inl (second_start before {start = s} e))) = second_start before (get-append_left starts (start ∷ []) (suc before) s e)
    to _ (inl (inl (unknown_start {start = s} h e))) = unknown_start (Contains-append_left starts (start ∷ []) s h) e
    to f (inl (inr p)) = subst (λ g. StartFault names (starts ++ start ∷ []) g) (sym p.1) (here (length starts) refl (some.0 p.0))
    to f (inr p) = subst (λ g. StartFault names (starts ++ start ∷ []) g) (sym p.1) (unknown_start (Contains-push starts start) (none.0 p.0))

    back : (f : SheetFault) → StartFault names (starts ++ start ∷ []) f → (StartFault names starts f ⊎ (IsTrue has × (f ≡ Redeclared start.line))) ⊎ (IsTrue unknown × (f ≡ UnknownSymbol start.name.line))
    back _ (second_start before {start = s} e) = elim (get_push_cases starts start (suc before) s e) [
      | inl early ↦ inl (inl (second_start before early))
      | inr last ↦ inl (inr (some.1 (omega (arith, last.0)), ap (λ (v : StartUse). Redeclared v.line) (sym last.1)))
    ]
    back _ (unknown_start {start = s} h e) = elim (Contains-push_cases starts start s h) [
      | inl early ↦ inl (inl (unknown_start early e))
      | inr same ↦ inr (none.1 (subst (λ (v : StartUse). is_left_side names v.name.bytes ≡ false) (sym same) e), ap (λ (v : StartUse). UnknownSymbol v.name.line) (sym same))
    ]

-- ---- symbols

pub name_noted : (names : Names) (word : Word) (unknown : Bool) {a b : Option SheetFault} → (unknown ≡ true) ↔ ((is_token_name names word.bytes ≡ false) × (is_left_side names word.bytes ≡ false)) → Noted a b (λ f. IsTrue unknown × (f ≡ UnknownSymbol word.line)) → Noted a b (NameFault names word)
name_noted names word unknown is h = noted_one unknown (UnknownSymbol word.line) (NameFault names word) h (λ e. unknown_name (is.0 e).0 (is.0 e).1) back
  where
    back : (f : SheetFault) → NameFault names word f → IsTrue unknown × (f ≡ UnknownSymbol word.line)
    back _ (unknown_name t r) = (is.1 (t, r), refl)

-- ---- places

place_before : (size : ℕ) (uses : List PlaceUse) (used : PlaceUse) (f : SheetFault) → PlaceFault size uses f → PlaceFault size (uses ++ used ∷ []) f
place_before size uses used _ (out_of_range {used = u} h range) = out_of_range (Contains-append_left uses (used ∷ []) u h) range
place_before size uses used _ (twice {used = u} h) =
    let r : IsAgain (λ (v : PlaceUse). v.place) (uses ++ used ∷ []) u = again_before (λ (v : PlaceUse). v.place) uses used u (h.at, (h.here, h.before)) in
    twice (record { at = r.0; here = r.1.0; before = r.1.1 })

pub places_push : (size : ℕ) (uses : List PlaceUse) (used : PlaceUse) (is_out was : Bool) {a b c d : Option SheetFault} → (is_out ≡ true) ↔ ((used.place ≡ 0) ⊎ (size < used.place)) → (was ≡ true) ↔ Contains (places uses) used.place → Noted a b (PlaceFault size uses) → Noted b c (λ f. IsTrue is_out × (f ≡ PlaceOutOfRange used.line)) → Noted c d (λ f. IsTrue was × (f ≡ PlaceTwice used.line)) → Noted a d (PlaceFault size (uses ++ used ∷ []))
places_push size uses used is_out was out same h k l =
    noted_as (PlaceFault size (uses ++ used ∷ [])) (noted_both (noted_both h k) l) to back
  where
    here : Contains (places uses) used.place → PlaceFault size (uses ++ used ∷ []) (PlaceTwice used.line)
    here h =
        let r : IsAgain (λ (v : PlaceUse). v.place) (uses ++ used ∷ []) used = again_here (λ (v : PlaceUse). v.place) uses used h in
        twice (record { at = r.0; here = r.1.0; before = r.1.1 })

    to : (f : SheetFault) → (PlaceFault size uses f ⊎ (IsTrue is_out × (f ≡ PlaceOutOfRange used.line))) ⊎ (IsTrue was × (f ≡ PlaceTwice used.line)) → PlaceFault size (uses ++ used ∷ []) f
    to f (inl (inl p)) = place_before size uses used f p
    to f (inl (inr p)) = subst (λ g. PlaceFault size (uses ++ used ∷ []) g) (sym p.1) (out_of_range (Contains-push uses used) (out.0 p.0))
    to f (inr p) = subst (λ g. PlaceFault size (uses ++ used ∷ []) g) (sym p.1) (here (same.0 p.0))

    back : (f : SheetFault) → PlaceFault size (uses ++ used ∷ []) f → (PlaceFault size uses f ⊎ (IsTrue is_out × (f ≡ PlaceOutOfRange used.line))) ⊎ (IsTrue was × (f ≡ PlaceTwice used.line))
    back _ (out_of_range {used = u} h range) = elim (Contains-push_cases uses used u h) [
      | inl early ↦ inl (inl (out_of_range early range))
      | inr last ↦ inl (inr (out.1 (subst (λ (v : PlaceUse). (v.place ≡ 0) ⊎ (size < v.place)) (sym last) range), ap (λ (v : PlaceUse). PlaceOutOfRange v.line) (sym last)))
    ]
    back _ (twice {used = u} h) = elim (again_cases (λ (v : PlaceUse). v.place) uses used u (h.at, (h.here, h.before))) [
      | inl early ↦ inl (inl (twice (record { at = early.0; here = early.1.0; before = early.1.1 })))
      | inr last ↦ inr (same.1 last.0, ap (λ (v : PlaceUse). PlaceTwice v.line) (sym last.1))
    ]

pub grammar_name_noted : (names : Names) (right : List Symbol) (used : PlaceUse) (is : Bool) {a b : Option SheetFault} → (is ≡ true) ↔ IsGrammarName names right used.place → Noted a b (λ f. IsTrue is × (f ≡ NotAToken used.line)) → Noted a b (NoTokenFault names right used)
grammar_name_noted names right used is same h = noted_one is (NotAToken used.line) (NoTokenFault names right used) h (λ e. not_a_token (same.0 e)) back
  where
    back : (f : SheetFault) → NoTokenFault names right used f → IsTrue is × (f ≡ NotAToken used.line)
    back _ (not_a_token g) = (same.1 g, refl)

-- ---- rules

pub group_noted : (names : Names) (g : GroupParts) (is : Bool) (alternatives : List AlternativeParts) {a b c : Option SheetFault} → is ≡ is_token_name names g.left.bytes → alternatives ≡ g.alternatives → Noted a b (λ f. IsTrue is × (f ≡ Redeclared g.left.line)) → Noted b c (InSome (AlternativeFault names) alternatives) → Noted a c (GroupFault names g)
group_noted names g is alternatives {a} {b} {c} same e h k =
    noted_as (GroupFault names g) (noted_both h (subst (λ xs. Noted b c (InSome (AlternativeFault names) xs)) e k)) to back
  where
    to : (f : SheetFault) → (IsTrue is × (f ≡ Redeclared g.left.line)) ⊎ InSome (AlternativeFault names) g.alternatives f → GroupFault names g f
    to f (inl p) = subst (λ v. GroupFault names g v) (sym p.1) (left_is_token (sym same ∙ p.0))
    to f (inr p) = in_alternative p

    back : (f : SheetFault) → GroupFault names g f → (IsTrue is × (f ≡ Redeclared g.left.line)) ⊎ InSome (AlternativeFault names) g.alternatives f
    back _ (left_is_token t) = inl (same ∙ t, refl)
    back f (in_alternative p) = inr p

pub on_ok_then : {T E P Q : Type 0} (r : Result T E) → (P → Q) → OnOk r P → OnOk r Q
on_ok_then (Ok v) f h = f h
on_ok_then (Err e) f h = tt

in_some_joined : {X : Type 0} (Of : X → SheetFault → Type 0) (xs ys : List X) (f : SheetFault) → InSome Of xs f ⊎ InSome Of ys f → InSome Of (xs ++ ys) f
in_some_joined Of xs ys f (inl h) = record { element = h.element; stands = Contains-append_left xs ys h.element h.stands; has = h.has }
in_some_joined Of xs ys f (inr h) = record { element = h.element; stands = Contains-append_right xs ys h.element h.stands; has = h.has }

in_some_apart : {X : Type 0} (Of : X → SheetFault → Type 0) (xs ys : List X) (f : SheetFault) → InSome Of (xs ++ ys) f → InSome Of xs f ⊎ InSome Of ys f
in_some_apart Of xs ys f h = elim (Contains-append_cases xs ys h.element h.stands) [
  | inl before ↦ inl (record { element = h.element; stands = before; has = h.has })
  | inr behind ↦ inr (record { element = h.element; stands = behind; has = h.has })
]

sides_noted : (names : Names) (s : AlternativeParts) {a b c d e : Option SheetFault} → Noted a b (InSome (SymbolFault names) s.right) → Noted b c (TemplateFault names s.right (parts_of s)) → Noted c d (PlaceFault (length s.right) s.marks) → Noted d e (InSome (NoTokenFault names s.right) s.marks) → Noted a e (AlternativeFault names s)
sides_noted names s h k l m = noted_as (AlternativeFault names s) (noted_both (noted_both (noted_both h k) l) m) to back
  where
    to : (f : SheetFault) → ((InSome (SymbolFault names) s.right f ⊎ TemplateFault names s.right (parts_of s) f) ⊎ PlaceFault (length s.right) s.marks f) ⊎ InSome (NoTokenFault names s.right) s.marks f → AlternativeFault names s f
    to f (inl (inl (inl p))) = in_right p
    to f (inl (inl (inr (inl p)))) = in_template p
    to f (inl (inl (inr (inr p)))) = at_name (in_some_joined (NoTokenFault names s.right) (flat_map number_in (parts_of s)) s.marks f (inl p))
    to f (inl (inr p)) = in_marks p
    to f (inr p) = at_name (in_some_joined (NoTokenFault names s.right) (flat_map number_in (parts_of s)) s.marks f (inr p))

    back : (f : SheetFault) → AlternativeFault names s f → ((InSome (SymbolFault names) s.right f ⊎ TemplateFault names s.right (parts_of s) f) ⊎ PlaceFault (length s.right) s.marks f) ⊎ InSome (NoTokenFault names s.right) s.marks f
    back f (in_right p) = inl (inl (inl p))
    back f (in_template p) = inl (inl (inr (inl p)))
    back f (in_marks p) = inl (inr p)
    back f (at_name p) = elim (in_some_apart (NoTokenFault names s.right) (flat_map number_in (parts_of s)) s.marks f p) [ inl q ↦ inl (inl (inr (inr q))) | inr q ↦ inr q ]

pub alternative_noted : (names : Names) (s : AlternativeParts) (right : List Symbol) (parts : List TemplatePart) (marks others : List PlaceUse) (size : ℕ) {a b c d e : Option SheetFault} → right ≡ s.right → parts ≡ parts_of s → marks ≡ s.marks → others ≡ s.marks → size ≡ length right → Noted a b (InSome (SymbolFault names) right) → Noted b c (TemplateFault names right parts) → Noted c d (PlaceFault size marks) → Noted d e (InSome (NoTokenFault names right) others) → Noted a e (AlternativeFault names s)
alternative_noted names s right parts marks others size {a} {b} {c} {d} {e} is_right is_parts is_marks is_others is_size h k l m =
    let h2 : Noted a b (InSome (SymbolFault names) s.right) = subst (λ r. Noted a b (InSome (SymbolFault names) r)) is_right h in
    let k1 : Noted b c (TemplateFault names s.right parts) = subst (λ r. Noted b c (TemplateFault names r parts)) is_right k in
    let k2 : Noted b c (TemplateFault names s.right (parts_of s)) = subst (λ p. Noted b c (TemplateFault names s.right p)) is_parts k1 in
    let l1 : Noted c d (PlaceFault (length s.right) marks) = subst (λ n. Noted c d (PlaceFault n marks)) (is_size ∙ ap length is_right) l in
    let l2 : Noted c d (PlaceFault (length s.right) s.marks) = subst (λ us. Noted c d (PlaceFault (length s.right) us)) is_marks l1 in
    let m1 : Noted d e (InSome (NoTokenFault names s.right) others) = subst (λ r. Noted d e (InSome (NoTokenFault names r) others)) is_right m in
    let m2 : Noted d e (InSome (NoTokenFault names s.right) s.marks) = subst (λ us. Noted d e (InSome (NoTokenFault names s.right) us)) is_others m1 in
    sides_noted names s h2 k2 l2 m2
