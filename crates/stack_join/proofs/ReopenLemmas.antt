-- The last closed piece, opened again.
use Rattle.std.proofs.Common.{◌≡◌, ℕ, ◌<◌, List, [], ◌∷◌, ◌++◌, length, take, All, Option, Some, None, refl, sym, ap, ◌∙◌, subst, arith}
use Rattle.std.specs.Prelude.{option_and_then}
use Rattle.std.proofs.lemmas.List.{length-take, same_from_push}
use Rattle.std.proofs.lemmas.List.Elements.{All-cons, All-nil}
use Rattle.grammar_data.specs.declared.rule.Sym.{Sym}
use Rattle.grammar_data.specs.declared.rule.Sym.TheVariants.{Token}
use Rattle.grammar_data.specs.declared.token.Token.{Token as TextToken}
use Rattle.tree_theory.specs.Stores.{Store}
use Rattle.table_data.specs.Tables.{Tables, step_by}
use Rattle.map_theory.specs.Maps.{StateMap, target, IsRising, walk_by}
use Rattle.map_theory.proofs.MapLemmas.{rising_tail, target_at, target_later}
use Rattle.piece_theory.specs.Pieces.{Opened, Floor, Held, Piece, kids_of}
use Rattle.piece_theory.specs.Applies.{hidden_symbols, right_of}
use Rattle.piece_theory.specs.WellMade.{leading, shifting, start_of, AreFloors, AreStacked, on_ground, on_floor, AreSteps, no_step, step_on}
use Rattle.piece_theory.proofs.FloorLemmas.{floors_law}
use Rattle.context_laws.specs.Contexts.{LeadFromStates}
use Rattle.bare_theory.specs.Bare.{Bare, bare}
use Rattle.state_sets.specs.Within.{AreWithin}
use Rattle.segment_parser.specs.Entering.{IsKnown}

-- ---- the kids of well made entries have symbols

pub kids_known : {t : Tables} {store : Store} {from : ℕ → Option ℕ} {hs : List Held} → AreSteps t store from hs → All (IsKnown t.rules store) (kids_of hs)
kids_known {t} {store} no_step = All-nil (IsKnown t.rules store)
kids_known {t} {store} (step_on {h = h} {hs = hs} x symbol rising at more) = All-cons (IsKnown t.rules store) h.kid (kids_of hs) (x, symbol) (kids_known more)

-- ---- the starts of a floor are states

-- all starts and targets of the map are below this
abbrev pub IsBelow : ℕ → StateMap → Type 0
IsBelow n m = (q b : ℕ) → target m q ≡ Some b → (q < n) × (b < n)

below_within : (n : ℕ) (m : StateMap) → IsRising m → IsBelow n m → AreWithin n m
below_within n [] rising below = All-nil {X = ℕ × ℕ} (λ pair. (pair.0 < n) × (pair.1 < n))
below_within n (pair ∷ m) rising below = All-cons {X = ℕ × ℕ} (λ x. (x.0 < n) × (x.1 < n)) pair m (below pair.0 pair.1 (target_at pair m pair.0 refl)) (below_within n m (rising_tail pair m rising) (λ q b at. below q b (target_later pair m q b rising at)))

no_some_at : {b : ℕ} → ◌≡◌ {A = Option ℕ} None (Some b) → ⊥
no_some_at e = cc

one_some : {a b : ℕ} → Some a ≡ Some b → a ≡ b
one_some e = cc

walk_from : (t : Tables) → LeadFromStates t → (q z : ℕ) (xs : List Sym) → 0 < length xs → walk_by t q xs ≡ Some z → q < t.states
walk_from t lead q z [] some at = absurd (omega (arith, some))
walk_from t lead q z (x ∷ xs) some at = by (step_by t q x) refl at
  where
    by : (o : Option ℕ) → step_by t q x ≡ o → option_and_then (λ p. walk_by t p xs) o ≡ Some z → q < t.states
    by None is e = absurd (no_some_at e)
    by (Some p) is e = lead q p x is

shifting_below : (t : Tables) → LeadFromStates t → (first : TextToken) (q b : ℕ) → shifting t first q ≡ Some b → (q < t.states) × (b < t.states)
shifting_below t lead first q b at = by (step_by t q (Token first.id)) refl at
  where
    by : (o : Option ℕ) → step_by t q (Token first.id) ≡ o → option_and_then (λ p. Some q) o ≡ Some b → (q < t.states) × (b < t.states)
    by None is e = absurd (no_some_at e)
    by (Some p) is e = let less = lead q p (Token first.id) is in (less, subst (λ (n : ℕ). n < t.states) (one_some e) less)

leading_below : (t : Tables) → LeadFromStates t → (opened : Opened) (below : StateMap) → 0 < opened.hidden → opened.hidden < length (right_of t.rules opened.rule) → IsBelow t.states below → (q b : ℕ) → leading t opened below q ≡ Some b → (q < t.states) × (b < t.states)
leading_below t lead opened below some less under q b at = by (walk_by t q symbols) refl at
  where
    symbols : List Sym
    symbols = hidden_symbols t.rules (Some opened)

    many : 0 < length (take opened.hidden (right_of t.rules opened.rule))
    many = let count = length-take opened.hidden (right_of t.rules opened.rule) in omega (arith, count, some, less)

    starts : (z : ℕ) (o : Option ℕ) → target below z ≡ o → option_and_then (λ p. Some z) o ≡ Some b → b < t.states
    starts z None is e = absurd (no_some_at e)
    starts z (Some p) is e = subst (λ (n : ℕ). n < t.states) (one_some e) (under z p is).0

    by : (o : Option ℕ) → walk_by t q symbols ≡ o → option_and_then (λ z. start_of below z) o ≡ Some b → (q < t.states) × (b < t.states)
    by None is e = absurd (no_some_at e)
    by (Some z) is e = (walk_from t lead q z (take opened.hidden (right_of t.rules opened.rule)) many is, starts z (target below z) refl e)

stacked_below : {t : Tables} {first : TextToken} {lower : List Floor} {f : Floor} → LeadFromStates t → AreStacked t first lower f → IsBelow t.states f.starts
stacked_below {t} {first} lead (on_ground un level) q b at = shifting_below t lead first q b (level.starts q b at)
stacked_below {t} {first} lead (on_floor {below = below} opened stacked parts is some less level) q b at = leading_below t lead opened below.starts some less (stacked_below lead stacked) q b (level.starts q b at)

stacked_rising : {t : Tables} {first : TextToken} {lower : List Floor} {f : Floor} → AreStacked t first lower f → IsRising f.starts
stacked_rising (on_ground un level) = level.rising
stacked_rising (on_floor opened stacked parts is some less level) = level.rising

-- of well made floors the last one's
pub starts_within : (t : Tables) → LeadFromStates t → (first : TextToken) (floors lower : List Floor) (last : StateMap) (f : Floor) → AreFloors t first floors last → floors ≡ lower ++ f ∷ [] → AreWithin t.states f.starts
starts_within t lead first floors lower last f are parts =
    let by = floors_law t first floors last are in
    let same = same_from_push by.0 lower by.1 f (sym by.2 ∙ parts) in
    subst (λ (g : Floor). AreWithin t.states g.starts) same.1 (below_within t.states by.1.starts (stacked_rising by.4) (stacked_below lead by.4))

-- ---- the parts of a block

pub same_last : (others closed : List Bare) (last : Piece) (b : Bare) → others ++ bare last ∷ [] ≡ closed ++ b ∷ [] → (closed ≡ others) × (b ≡ bare last)
same_last others closed last b e = same_from_push closed others b (bare last) (sym e)

-- well made floors are some
pub some_floor : {t : Tables} {first : TextToken} {floors : List Floor} {last : StateMap} → AreFloors t first floors last → 0 < length floors
some_floor are = let count = ap length are.parts in omega (arith, count)
