-- What the maps are that calls make of a map.
use Rattle.std.proofs.Common.{◌≡◌, ℕ, zero, suc, ◌+◌, ◌*◌, ◌<◌, ◌≤◌, ◌⊎◌, inl, inr, Bool, true, false, cond, ltb, List, [], ◌∷◌, ◌++◌, length, get_or, take, map, Option, Some, None, Result, Ok, Err, refl, sym, ap, ◌∙◌, subst, arith}
use Rattle.std.specs.Prelude.{All, filter, slice_get, IfOk, is_some, option_and_then}
use Rattle.std.specs.List.{cons_option}
use Rattle.std.specs.Option.{option_map}
use Rattle.std.proofs.lemmas.Option.{same_Some, slice_get_within, get_or_from_slice_get}
use Rattle.std.proofs.lemmas.List.{take_more}
use Rattle.std.proofs.lemmas.List.Elements.{All-head, All-tail, All-cons, filter-append}
use Rattle.grammar_data.specs.declared.rule.Sym.{Sym}
use Rattle.grammar_data.specs.declared.rule.Sym.TheVariants.{Token, Name}
use Rattle.table_data.specs.declared.act.Act.{Act}
use Rattle.table_data.specs.declared.act.Act.TheVariants.{Shift, Reduce, Accept, Error}
use Rattle.table_data.specs.Tables.{Tables, IsActOf, IsGotoOf, act_in, goto_in, shift_of, step_by}
use Rattle.lr_machine.specs.IsTables.{IsTables}
use Rattle.map_theory.specs.Maps.{StateMap, target, IsRising, IsMapOf, followed}
use Rattle.map_theory.specs.Relations.{is_error, IsIdentityOf, IsRestricted}
use Rattle.map_theory.proofs.MapLemmas.{followed_law, keep_law, target_cases}
use Rattle.state_sets.specs.Classes.{targets_of}
use Rattle.table_data.specs.declared.limits.TheConstants.{MOST_STATES}
use Rattle.state_sets.specs.Parts.{pairs_of, AreClassed, IsArrow}
use Rattle.state_sets.specs.Spreads.{spread_pairs}
use Rattle.state_sets.specs.Within.{AreWithin}
use Rattle.state_sets.proofs.PartsLemmas.{starts_rise, length-pairs_of}
use Rattle.state_sets.proofs.SpreadLemmas.{spread_rises, spread-followed, followed_within}

pub if_ok : {T E : Type 0} (P Q : T → Type 0) (r : Result T E) → IfOk r P → ((x : T) → P x → Q x) → IfOk r Q
if_ok P Q (Ok x) is then = then x is
if_ok P Q (Err e) is then = tt

pub along_rising : (starts classes targets : List ℕ) (images : List (Option ℕ)) (m : StateMap) → IsArrow starts classes targets → m ≡ spread_pairs starts classes images → IsRising m
along_rising starts classes targets images m arrow is =
    subst IsRising (sym is) (spread_rises starts classes images (starts_rise starts classes targets arrow.classed.lengths arrow.rising))

pub along_is : (starts classes targets : List ℕ) (images : List (Option ℕ)) (m : StateMap) (f : ℕ → Option ℕ) → IsArrow starts classes targets → pairs_of starts classes targets ≡ m → images ≡ map f (targets_of m) → spread_pairs starts classes images ≡ followed (λ q p. f p) m
along_is starts classes targets images m f arrow view are =
    let list : images ≡ map f targets = are ∙ ap (map f) (ap targets_of (sym view) ∙ sym arrow.classed.different) in
    ap (spread_pairs starts classes) list ∙ spread-followed f starts classes targets arrow.classed.numbers ∙ ap (followed (λ q p. f p)) view

pub followed_is : (f : ℕ → Option ℕ) (m n : StateMap) → IsRising m → n ≡ followed (λ q p. f p) m → IsMapOf (λ q. option_and_then f (target m q)) n
followed_is f m n rising is = subst (IsMapOf (λ q. option_and_then f (target m q))) (sym is) (followed_law (λ q p. f p) m rising)

pub followed_in : (k : ℕ) (f : ℕ → Option ℕ) (m n : StateMap) → AreWithin k m → ((p z : ℕ) → p < k → f p ≡ Some z → z < k) → n ≡ followed (λ q p. f p) m → AreWithin k n
followed_in k f m n within leads is = subst (AreWithin k) (sym is) (followed_within k (λ q p. f p) m within (λ q p z below at. leads p z below at))

-- ---- steps of tables are in range

act_at : (states rules : ℕ) (acts : List Act) (i : ℕ) → All (IsActOf states rules) acts → IsActOf states rules (get_or acts i Error)
act_at states rules [] i all = tt
act_at states rules (act ∷ acts) zero all = All-head (IsActOf states rules) act acts all
act_at states rules (act ∷ acts) (suc i) all = act_at states rules acts i (All-tail (IsActOf states rules) act acts all)

goto_at : (states : ℕ) (gotos : List (Option ℕ)) (i : ℕ) → All (IsGotoOf states) gotos → IsGotoOf states (get_or gotos i None)
goto_at states [] i all = tt
goto_at states (to ∷ gotos) zero all = All-head (IsGotoOf states) to gotos all
goto_at states (to ∷ gotos) (suc i) all = goto_at states gotos i (All-tail (IsGotoOf states) to gotos all)

act_within : (t : Tables) → IsTables t → (q a : ℕ) → IsActOf t.states (length t.rules) (act_in t q a)
act_within t is q a = cases (ltb t.tokens a)
  where
    cases : (b : Bool) → IsActOf t.states (length t.rules) (cond b Error (get_or t.acts (q * (t.tokens + 1) + a) Error))
    cases true = tt
    cases false = act_at t.states (length t.rules) t.acts (q * (t.tokens + 1) + a) is.acts

goto_within : (t : Tables) → IsTables t → (q n : ℕ) → IsGotoOf t.states (goto_in t q n)
goto_within t is q n = cases (ltb n t.names)
  where
    cases : (b : Bool) → IsGotoOf t.states (cond b (get_or t.gotos (q * t.names + n) None) None)
    cases true = goto_at t.states t.gotos (q * t.names + n) is.gotos
    cases false = tt

shift_within : (states rules : ℕ) (act : Act) (z : ℕ) → IsActOf states rules act → shift_of act ≡ Some z → z < states
shift_within states rules (Shift p) z within is = let e : p ≡ z = same_Some p z is in omega arith
shift_within states rules (Reduce r) z within is = absurd (cc is)
shift_within states rules Accept z within is = absurd (cc is)
shift_within states rules Error z within is = absurd (cc is)

goto_below : (states : ℕ) (o : Option ℕ) (z : ℕ) → IsGotoOf states o → o ≡ Some z → z < states
goto_below states None z within is = absurd (cc is)
goto_below states (Some p) z within is = let e : p ≡ z = same_Some p z is in omega arith

pub step_within : (t : Tables) → IsTables t → (q : ℕ) (x : Sym) (z : ℕ) → step_by t q x ≡ Some z → z < t.states
step_within t is q (Token a) z step = shift_within t.states (length t.rules) (act_in t q a) z (act_within t is q a) step
step_within t is q (Name n) z step = goto_below t.states (goto_in t q n) z (goto_within t is q n) step

-- ---- other maps in range

pub target_within : (n : ℕ) (m : StateMap) (q p : ℕ) → AreWithin n m → target m q ≡ Some p → p < n
target_within n [] q p within is = absurd (cc is)
target_within n (pair ∷ m) q p within is = cases (target_cases pair m q p is) (λ later. target_within n m q p (All-tail (λ x. (x.0 < n) × (x.1 < n)) pair m within) later)
  where
    cases : (pair.1 ≡ p) ⊎ (target m q ≡ Some p) → (target m q ≡ Some p → p < n) → p < n
    cases (inl same) go = let first = All-head (λ x. (x.0 < n) × (x.1 < n)) pair m within in subst (λ z. z < n) same first.1
    cases (inr later) go = go later

pub alive_within : (t : Tables) (a p z : ℕ) → p < t.states → cond (is_error (act_in t p a)) None (Some p) ≡ Some z → z < t.states
alive_within t a p z below is = cases (is_error (act_in t p a)) is
  where
    cases : (b : Bool) → cond b None (Some p) ≡ Some z → z < t.states
    cases true none = absurd (cc none)
    cases false some = let same : p ≡ z = same_Some p z some in subst (λ y. y < t.states) same below

pub same_starts : (m : StateMap) → map (λ pair. (pair.0, pair.0)) m ≡ followed (λ q p. Some q) m
same_starts [] = refl
same_starts (pair ∷ m) = ap (λ l. (pair.0, pair.0) ∷ l) (same_starts m)

pub identity_is : (m n : StateMap) → IsRising m → n ≡ map (λ pair. (pair.0, pair.0)) m → IsIdentityOf m n
identity_is m n rising is = record {
  rising = subst IsRising (sym whole) law.rising;
  targets = λ q. ap (λ l. target l q) whole ∙ law.targets q ∙ itself q (target m q);
}
  where
    whole : n ≡ followed (λ q p. Some q) m
    whole = is ∙ same_starts m

    law : IsMapOf (λ q. option_and_then (λ p. Some q) (target m q)) (followed (λ q p. Some q) m)
    law = followed_law (λ q p. Some q) m rising

    itself : (q : ℕ) (o : Option ℕ) → option_and_then (λ p. Some q) o ≡ cond (is_some o) (Some q) None
    itself q None = refl
    itself q (Some p) = refl

pub restricted_is : (m keep n : StateMap) → IsRising m → n ≡ filter (λ pair. is_some (target keep pair.0)) m → IsRestricted m keep n
restricted_is m keep n rising is = subst (IsRestricted m keep) (sym is) (keep_law (λ q. is_some (target keep q)) m rising)

pub rising_identity : (m : StateMap) → IsRising m → IsRising (map (λ pair. (pair.0, pair.0)) m)
rising_identity m rising = (identity_is m (map (λ pair. (pair.0, pair.0)) m) rising refl).rising

pub identity_within : (n : ℕ) (m : StateMap) → AreWithin n m → AreWithin n (map (λ pair. (pair.0, pair.0)) m)
identity_within n [] within = within
identity_within n (pair ∷ m) within =
    let first = All-head (λ x. (x.0 < n) × (x.1 < n)) pair m within in
    All-cons (λ x. (x.0 < n) × (x.1 < n)) (pair.0, pair.0) (map (λ x. (x.0, x.0)) m) (first.0, first.0) (identity_within n m (All-tail (λ x. (x.0 < n) × (x.1 < n)) pair m within))

-- ---- one more pair

pub take_pair : (m : StateMap) (i : ℕ) (pair : ℕ × ℕ) → slice_get m i ≡ Some pair → take (i + 1) m ≡ take i m ++ pair ∷ []
take_pair m i pair is = take_more m i pair (slice_get_within m i pair is) ∙ ap (λ x. take i m ++ x ∷ []) (get_or_from_slice_get m i pair pair is)

pub map_pair : (f : ℕ × ℕ → ℕ × ℕ) (m : StateMap) (i : ℕ) (pair : ℕ × ℕ) → slice_get m i ≡ Some pair → map f (take (i + 1) m) ≡ map f (take i m) ++ f pair ∷ []
map_pair f m i pair is = ap (map f) (take_pair m i pair is) ∙ push (take i m)
  where
    push : (l : StateMap) → map f (l ++ pair ∷ []) ≡ map f l ++ f pair ∷ []
    push [] = refl
    push (x ∷ l) = ap (λ y. f x ∷ y) (push l)

pub filter_pair : (test : ℕ × ℕ → Bool) (m : StateMap) (i : ℕ) (pair : ℕ × ℕ) (b : Bool) → slice_get m i ≡ Some pair → test pair ≡ b → filter test (take (i + 1) m) ≡ filter test (take i m) ++ cond b (pair ∷ []) []
filter_pair test m i pair b is passes =
    ap (filter test) (take_pair m i pair is) ∙ filter-append test (take i m) (pair ∷ []) ∙ ap (λ x. filter test (take i m) ++ cond x (pair ∷ []) []) passes

-- ---- lists of starts that are shared

pub starts-pairs_of : (starts classes targets : List ℕ) → length classes ≡ length starts → map (λ x. x.0) (pairs_of starts classes targets) ≡ starts
starts-pairs_of [] classes targets same = refl
starts-pairs_of (q ∷ starts) [] targets same = absurd (omega arith)
starts-pairs_of (q ∷ starts) (k ∷ classes) targets same = ap (λ l. q ∷ l) (starts-pairs_of starts classes targets (omega arith))

length_spread : (starts classes : List ℕ) (images : List (Option ℕ)) → length (spread_pairs starts classes images) ≤ length starts
length_spread [] classes images = omega arith
length_spread (q ∷ starts) [] images = omega arith
length_spread (q ∷ starts) (k ∷ classes) images = cases (get_or images k None) (length_spread starts classes images)
  where
    cases : (o : Option ℕ) → length (spread_pairs starts classes images) ≤ length starts → length (cons_option (option_map (λ p. (q, p)) o) (spread_pairs starts classes images)) ≤ length (q ∷ starts)
    cases None rest = omega arith
    cases (Some p) rest = omega arith

-- where no start is left out, the starts are the same
pub starts-spread_pairs : (starts classes : List ℕ) (images : List (Option ℕ)) → length (spread_pairs starts classes images) ≡ length starts → map (λ x. x.0) (spread_pairs starts classes images) ≡ starts
starts-spread_pairs [] classes images same = refl
starts-spread_pairs (q ∷ starts) [] images same = absurd (omega arith)
starts-spread_pairs (q ∷ starts) (k ∷ classes) images same = cases (get_or images k None) same (starts-spread_pairs starts classes images)
  where
    cases : (o : Option ℕ) → length (cons_option (option_map (λ p. (q, p)) o) (spread_pairs starts classes images)) ≡ length (q ∷ starts) → (length (spread_pairs starts classes images) ≡ length starts → map (λ x. x.0) (spread_pairs starts classes images) ≡ starts) → map (λ x. x.0) (cons_option (option_map (λ p. (q, p)) o) (spread_pairs starts classes images)) ≡ q ∷ starts
    cases None full go = absurd (omega (arith, length_spread starts classes images))
    cases (Some p) full go = ap (λ l. q ∷ l) (go (omega arith))

pub all_spread : (starts classes targets : List ℕ) (images : List (Option ℕ)) (made numbers new : List ℕ) (m : StateMap) → IsArrow starts classes targets → pairs_of starts classes targets ≡ m → length numbers ≡ length made → pairs_of made numbers new ≡ spread_pairs starts classes images → length made ≡ length starts → made ≡ map (λ x. x.0) m
all_spread starts classes targets images made numbers new m arrow view same pairs full =
    let size : length (spread_pairs starts classes images) ≡ length starts = ap length (sym pairs) ∙ length-pairs_of made numbers new same ∙ full in
    sym (starts-pairs_of made numbers new same) ∙ ap (map (λ x. x.0)) pairs ∙ starts-spread_pairs starts classes images size
    ∙ sym (starts-pairs_of starts classes targets arrow.classed.lengths) ∙ ap (map (λ x. x.0)) view

pub shared_starts : (starts classes targets made numbers new : List ℕ) (m : StateMap) → IsArrow starts classes targets → pairs_of starts classes targets ≡ m → made ≡ map (λ x. x.0) m → starts ≡ made
shared_starts starts classes targets made numbers new m arrow view is =
    sym (starts-pairs_of starts classes targets arrow.classed.lengths) ∙ ap (map (λ x. x.0)) view ∙ sym is

pub starts-identity : (m : StateMap) → map (λ (x : ℕ × ℕ). x.0) (map (λ (x : ℕ × ℕ). (x.0, x.0)) m) ≡ map (λ x. x.0) m
starts-identity [] = refl
starts-identity (x ∷ m) = ap (λ l. x.0 ∷ l) (starts-identity m)

-- a map over the starts of another, with the parts of pairs that were put one after another
pub arrow_over : (starts made numbers targets new : List ℕ) → starts ≡ made → targets ≡ new → AreClassed made numbers new → IsRising (pairs_of made numbers new) → length starts ≤ MOST_STATES → IsArrow starts numbers targets
arrow_over starts made numbers targets new same also classed rising few = record {
  classed = subst (λ l. AreClassed l numbers targets) (sym same) (subst (λ l. AreClassed made numbers l) (sym also) classed);
  rising = subst IsRising (λ i. pairs_of (sym same i) numbers (sym also i)) rising;
  few = few;
}
