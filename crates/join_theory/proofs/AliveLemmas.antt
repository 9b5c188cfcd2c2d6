-- A context that the floors let through comes down to an alive start; and what a floor's starts lose.
use Rattle.std.proofs.Common.{◌≡◌, ℕ, ◌≤◌, ◌⊎◌, inl, inr, Bool, true, false, List, [], ◌∷◌, ◌++◌, length, take, Option, Some, None, IsSome, refl, sym, ap, ◌∙◌, subst, arith}
use Rattle.std.specs.Prelude.{option_and_then}
use Rattle.std.specs.Option.{option_map}
use Rattle.std.proofs.lemmas.List.{take-take, take-append-le, take_all}
use Rattle.grammar_data.specs.declared.rule.Sym.{Sym}
use Rattle.grammar_data.specs.declared.rule.Sym.TheVariants.{Token}
use Rattle.grammar_data.specs.declared.token.Token.{Token as TextToken}
use Rattle.table_data.specs.Tables.{Tables, shift_of, step_by}
use Rattle.tree_theory.specs.Stores.{Supply}
use Rattle.machine_theory.specs.Machine.{Entry, top, symbols, IsStack}
use Rattle.machine_theory.proofs.StackLemmas.{symbols-append, length-symbols, stack_below}
use Rattle.grammar_theory.proofs.RuleLemmas.{same_parts}
use Rattle.map_theory.specs.Maps.{StateMap, target, walk_by}
use Rattle.part_theory.specs.Parts.{IsContext}
use Rattle.piece_theory.specs.Pieces.{Fault, Opened, Floor, fault_at, hidden_of}
use Rattle.piece_theory.specs.Applies.{hidden_symbols, Falls, through, falls, Fitted, fitted}
use Rattle.piece_theory.specs.WellMade.{shifting, start_of, leading, IsLevel, AreLevels, no_level, level_above, AreFloors}
use Rattle.arm_laws.proofs.RunLemmas.{walk_up}
use Rattle.level_laws.specs.Levels.{IsMoved}
use Rattle.join_theory.specs.Faults.{IsLaterBy, carried_to, carried, HasApart}

-- ---- something or nothing

pub none_or_some : {X : Type 0} (o : Option X) → (o ≡ None) ⊎ ((x : X) × (o ≡ Some x))
none_or_some None = inl refl
none_or_some (Some x) = inr (x, refl)

pub is_some_of : {X : Type 0} {o : Option X} {x : X} → o ≡ Some x → IsSome o
is_some_of e = ap (λ o. is o) e
  where
    is : {X : Type 0} → Option X → Bool
    is None = false
    is (Some x) = true

pub not_none : {X : Type 0} {o : Option X} → IsSome o → o ≡ None → ⊥
not_none {X} some none = let bad : IsSome {T = X} None = subst IsSome none some in let contradiction : false ≡ true = bad in (cc contradiction)

-- ---- along a stack

leads_along : (o : Option ℕ) (b : ℕ) (below : StateMap) → o ≡ Some b → IsSome (target below b) → option_and_then (λ p. start_of below p) o ≡ Some b
leads_along o b below e some = ap (option_and_then (λ p. start_of below p)) e ∙ start (target below b) some
  where
    start : (x : Option ℕ) → IsSome x → option_and_then (λ (p : ℕ). Some b) x ≡ Some b
    start (Some p) has = refl
    start None has = let contradiction : false ≡ true = has in absurd (cc contradiction)

-- the state below the hidden symbols leads to the alive start over them
pub leads_up : (t : Tables) (opened : Opened) (starts : StateMap) (taken below : List Entry) → IsStack t 0 (taken ++ below) → symbols taken ≡ hidden_symbols t.rules (Some opened) → IsSome (target starts (top 0 (taken ++ below))) → leading t opened starts (top 0 below) ≡ Some (top 0 (taken ++ below))
leads_up t opened starts taken below is same alive =
    leads_along (walk_by t (top 0 below) (hidden_symbols t.rules (Some opened))) (top 0 (taken ++ below)) starts (ap (walk_by t (top 0 below)) (sym same) ∙ walk_up t taken below is) alive

-- a start that leads on and has no fault is alive
pub alive_of : (lead : ℕ → Option ℕ) (f : Floor) (q b : ℕ) → IsLevel lead f → lead q ≡ Some b → fault_at f.faults q ≡ None → IsSome (target f.starts q)
alive_of lead f q b level leads clear = elim (level.covered q (is_some_of leads)) as (λ _. IsSome (target f.starts q)) [ inl alive ↦ alive | inr fault ↦ absurd (not_none fault clear) ]

pub levels_alive : {t : Tables} {starts last : StateMap} {fs : List Floor} → AreLevels t starts fs last → {s rest : List Entry} {given : Supply} → IsStack t 0 s → IsSome (target starts (top 0 s)) → Fitted t.rules fs s → Falls fs s rest given → IsSome (target last (top 0 rest))
levels_alive no_level is alive fits through = alive
levels_alive {t} {starts} (level_above {f = f} {fs = fs} opened opens some less level levels) {s} {rest} is alive (fitted taken1 below1 parts1 many1 same more) (falls {given = given} taken below parts many clear down at) =
    let e = same_parts taken1 below1 taken below (sym parts1 ∙ parts) (many1 ∙ sym many) in
    let clear1 : fault_at f.faults (top 0 below1) ≡ None = ap (λ b. fault_at f.faults (top 0 b)) e.1 ∙ clear in
    let whole : IsStack t 0 (taken1 ++ below1) = subst (λ l. IsStack t 0 l) parts1 is in
    let here : IsSome (target starts (top 0 (taken1 ++ below1))) = subst (λ l. IsSome (target starts (top 0 l))) parts1 alive in
    let leads = leads_up t opened starts taken1 below1 whole (same ∙ ap (hidden_symbols t.rules) opens) here in
    levels_alive levels (stack_below taken1 below1 whole) (alive_of (leading t opened starts) f (top 0 below1) (top 0 (taken1 ++ below1)) level leads clear1) (more clear1) (subst (λ b. Falls fs b rest given) (sym e.1) down)

shifts_to : (t : Tables) (first : TextToken) (q p : ℕ) → step_by t q (Token first.id) ≡ Some p → shifting t first q ≡ Some q
shifts_to t first q p step = ap (option_and_then (λ (x : ℕ). Some q)) step

floors_alive : (t : Tables) (first : TextToken) (ground : Floor) (upper : List Floor) (last : StateMap) → ground.opened ≡ None → IsLevel (shifting t first) ground → AreLevels t ground.starts upper last → (s rest : List Entry) (given : Supply) → IsContext t first.id s → Fitted t.rules (ground ∷ upper) s → Falls (ground ∷ upper) s rest given → IsSome (target last (top 0 rest))
floors_alive t first ground upper last un level levels s rest given context (fitted taken1 below1 parts1 many1 same more) (falls {given = inner} taken below parts many clear down at) =
    let e = same_parts taken1 below1 taken below (sym parts1 ∙ parts) (many1 ∙ sym many) in
    let clear1 : fault_at ground.faults (top 0 below1) ≡ None = ap (λ b. fault_at ground.faults (top 0 b)) e.1 ∙ clear in
    let here : s ≡ below1 = nothing taken1 below1 parts1 (many1 ∙ ap hidden_of un) in
    let step : step_by t (top 0 below1) (Token first.id) ≡ Some context.state = ap (λ l. step_by t (top 0 l) (Token first.id)) (sym here) ∙ ap shift_of context.shifts in
    levels_alive levels (subst (λ l. IsStack t 0 l) here context.stack) (alive_of (shifting t first) ground (top 0 below1) (top 0 below1) level (shifts_to t first (top 0 below1) context.state step) clear1) (more clear1) (subst (λ b. Falls upper b rest inner) (sym e.1) down)
  where
    nothing : (a b : List Entry) → s ≡ a ++ b → length a ≡ 0 → s ≡ b
    nothing [] b e f = e
    nothing (x ∷ a) b e f = absurd (omega (arith, f))

-- a context that the floors let through comes down to an alive start of the last one
pub falls_alive : (t : Tables) (first : TextToken) (floors : List Floor) (last : StateMap) → AreFloors t first floors last → (s rest : List Entry) (given : Supply) → IsContext t first.id s → Fitted t.rules floors s → Falls floors s rest given → IsSome (target last (top 0 rest))
falls_alive t first floors last are s rest given context fits down =
    floors_alive t first are.ground are.upper last are.unopened are.shifts are.levels s rest given context (subst (λ l. Fitted t.rules l s) are.parts fits) (subst (λ l. Falls l s rest given) are.parts down)

-- ---- the symbols of the entries below

pub symbols_below : (upper below : List Entry) (right : List Sym) (hidden still : ℕ) → symbols (upper ++ below) ≡ take hidden right → length below ≡ still → still ≤ hidden → symbols below ≡ take still right
symbols_below upper below right hidden still same many less =
    let parts = sym (symbols-append upper below) ∙ same in
    let count : length (symbols below) ≡ still = length-symbols below ∙ many in
    sym (take_all still (symbols below) (omega (arith, count))) ∙ sym (take-append-le still (symbols below) (symbols upper) (omega (arith, count))) ∙ ap (take still) parts ∙ take-take still hidden right less

-- ---- faults

-- where alive starts have no fault, a floor that moves keeps its faults
module _ {dies : ℕ → Option Fault} {e g : Floor} (by : IsMoved dies e g) where
  pub keeps_faults : HasApart e → (q : ℕ) (x : Fault) → fault_at e.faults q ≡ Some x → fault_at g.faults q ≡ Some x
  keeps_faults apart q x at = elim (none_or_some (target e.starts q)) as (λ _. fault_at g.faults q ≡ Some x) [
    | inl none ↦ by.kept q none ∙ at
    | inr some ↦ absurd (not_none (is_some_of at) (apart q (is_some_of some.1)))
  ]

  pub still_alive : (q : ℕ) → dies q ≡ None → IsSome (target e.starts q) → IsSome (target g.starts q)
  still_alive q none alive = subst IsSome (sym (by.stay q none)) alive

  pub was_alive : (q : ℕ) → IsSome (target g.starts q) → IsSome (target e.starts q)
  was_alive q alive = elim (none_or_some (dies q)) as (λ _. IsSome (target e.starts q)) [
    | inl none ↦ subst IsSome (by.stay q none) alive
    | inr some ↦ absurd (not_none alive (by.gone q (is_some_of some.1)))
  ]

pub carried_none : (tokens : ℕ) (states : ℕ → Option ℕ) (f : Floor) (q z : ℕ) → states q ≡ Some z → fault_at f.faults z ≡ None → carried tokens states f q ≡ None
carried_none tokens states f q z at none = ap (λ o. option_map (carried_to tokens q) (option_and_then (fault_at f.faults) o)) at ∙ ap (option_map (carried_to tokens q)) none

pub carried_some : (tokens : ℕ) (states : ℕ → Option ℕ) (f : Floor) (q z : ℕ) (x : Fault) → states q ≡ Some z → fault_at f.faults z ≡ Some x → carried tokens states f q ≡ Some (carried_to tokens q x)
carried_some tokens states f q z x at some = ap (λ o. option_map (carried_to tokens q) (option_and_then (fault_at f.faults) o)) at ∙ ap (option_map (carried_to tokens q)) some

pub later_by : (tokens q : ℕ) (x : Fault) → IsLaterBy tokens x (carried_to tokens q x)
later_by tokens q x = record { index = refl; token = refl; state = refl }
