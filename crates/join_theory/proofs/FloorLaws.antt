-- The floors of the right piece, one after the other: each step keeps what holds in a context.
use Rattle.std.proofs.Common.{◌≡◌, ◌≢◌, ℕ, ◌+◌, ◌<◌, ◌≤◌, ◌⊎◌, inl, inr, List, [], ◌∷◌, ◌++◌, length, take, slice_get, Contains, Option, Some, None, IsSome, refl, sym, ap, ◌∙◌, subst, append-nil, arith}
use Rattle.std.proofs.lemmas.List.{length-append}
use Rattle.std.proofs.lemmas.List.Elements.{Contains-append_left, Contains-append_right, Contains-append_cases}
use Rattle.grammar_data.specs.Grammar.{Rule}
use Rattle.grammar_theory.proofs.RuleLemmas.{same_parts}
use Rattle.grammar_theory.specs.Trees.{Tree}
use Rattle.node_data.specs.declared.kid.Kid.{Kid}
use Rattle.node_data.specs.declared.kid.Kid.TheVariants.{Hidden}
use Rattle.tree_theory.specs.Stores.{Ref, Store, Supply, Shows}
use Rattle.tree_theory.proofs.ShownLemmas.{refit_law, grow_law}
use Rattle.table_data.specs.Tables.{Tables}
use Rattle.machine_theory.specs.Machine.{Entry, top, symbols, IsStack}
use Rattle.map_theory.specs.Maps.{StateMap, target}
use Rattle.use_theory.specs.Counts.{count_in}
use Rattle.use_theory.specs.Fills.{SuppliesPart}
use Rattle.use_theory.specs.Kept.{IsKept}
use Rattle.use_theory.proofs.KeptLemmas.{kept_none, kept_filled}
use Rattle.piece_theory.specs.Pieces.{Fault, Opened, Floor, Held, Piece, fault_at, hidden_of, floor_nodes, kids_of}
use Rattle.piece_theory.specs.Applies.{hidden_symbols, right_of, nowhere, trees_onto, supply_of, Falls, through, falls, Fails, fails_here, fails_below, Puts, put_all, Leaves, Tells, tells_error, tells_stack, Fitted, fitted_all, fitted}
use Rattle.piece_theory.specs.WellMade.{start_of, leading}
use Rattle.piece_theory.proofs.ResultLemmas.{falls_once, falls_not_fails}
use Rattle.level_laws.specs.Levels.{IsMoved}
use Rattle.join_theory.specs.Faults.{IsLaterBy, state_over, carried, carried_to}
use Rattle.join_theory.specs.Floors.{Holds, Comes, IsPutOn, FitsOn, ApartNodes, AreKeptFor, TakesKids, none_hidden, kids_taken, TakesWhole, TakesPart, AreOver, StartLaw, WholeLaw, PartLaw, EndLaw}
use Rattle.arm_laws.proofs.FallLemmas.{fails_more, fails_swap, fitted_swap}
use Rattle.join_theory.proofs.PutLemmas.{length-onto, puts_then, puts_split, top_state, alive_start, onto_append, onto_then, KidsShow, pushed_of, ShowsThere, puts_kept, puts_over}
use Rattle.join_theory.proofs.FallLemmas.{falls_then, falls_split, fails_behind, FailsLater, fails_split, falls_swapped, falls_fails, fitted_behind, fitted_then, falls_stack, count_floors}
use Rattle.join_theory.proofs.HoldLemmas.{cons_cases, kids_shown, IsGiven, keeps_given, holds_filled, counted_here}
use Rattle.join_theory.proofs.AliveLemmas.{none_or_some, falls_alive, alive_of, leads_up, symbols_below, keeps_faults, still_alive, carried_none, carried_some, later_by}

pub no_fault : {s : List Entry} {x : Fault} → Fails [] s x → ⊥
no_fault fails = elim fails [ ]

-- ---- the left piece itself

falls_nothing : {s rest : List Entry} {given : Supply} → Falls [] s rest given → (rest ≡ s) × (given ≡ [])
falls_nothing through = (refl, refl)

pub own_node : (o : Option Opened) (taken : List Entry) (x : Ref) (trees : List Tree) → Contains {X = Ref × List Tree} (supply_of o taken) (x, trees) → (opened : Opened) × (o ≡ Some opened) × (opened.node ≡ x)
own_node None taken x trees (k, inside, at) = absurd (omega (arith, inside))
own_node (Some opened) taken x trees has = by (cons_cases {X = Ref × List Tree} [] (opened.node, trees_onto taken []) (x, trees) has)
  where
    by : (◌≡◌ {A = Ref × List Tree} (opened.node, trees_onto taken []) (x, trees)) ⊎ Contains {X = Ref × List Tree} [] (x, trees) → (other : Opened) × (◌≡◌ {A = Option Opened} (Some opened) (Some other)) × (other.node ≡ x)
    by (inl e) = (opened, refl, ap (λ (p : Ref × List Tree). p.0) e)
    by (inr (k, inside, at)) = absurd (omega (arith, inside))

-- what floors supply is for their nodes
pub falls_nodes : {fs : List Floor} {s rest : List Entry} {given : Supply} → Falls fs s rest given → (x : Ref) (trees : List Tree) → Contains {X = Ref × List Tree} given (x, trees) → 0 < count_in x (floor_nodes fs)
falls_nodes through x trees (k, inside, at) = absurd (omega (arith, inside))
falls_nodes (falls {f = f} {fs = fs} {given = given} taken below parts many clear down at) x trees has =
    elim (Contains-append_cases {X = Ref × List Tree} (supply_of f.opened taken) given (x, trees) (subst (λ l. Contains {X = Ref × List Tree} l (x, trees)) at has)) as (λ _. 0 < count_in x (floor_nodes (f ∷ fs))) [
      | inl here ↦ (let own = own_node f.opened taken x trees here in subst (λ y. 0 < count_in y (floor_nodes (f ∷ fs))) own.2 (counted_here f fs own.0 own.1))
      | inr there ↦ (let some = falls_nodes down x trees there in let all = count_floors x f fs in omega (arith, some, all))
    ]

pub start_comes : (t : Tables) (store : Store) (left : Piece) (starts : StateMap) (further : List Floor) (s mid low : List Entry) (supply : Supply) → ApartNodes left.floors further → (leaves : Leaves t.rules store left s mid) → IsSome (target starts (top 0 leaves.rest)) → low ≡ mid → supply ≡ [] → Comes t.rules store store left starts further s low supply
start_comes t store left starts further s mid low supply apart leaves alive at none = record {
  base = leaves.rest;
  given = leaves.supply;
  down = leaves.down;
  alive = alive;
  up = subst (λ l. Puts t.rules store leaves.supply (top 0 leaves.rest) left.stack leaves.rest l) (sym at) leaves.up;
  apart = λ x trees has some. (let one = falls_nodes leaves.down x trees has in let both = apart x in omega (arith, some, one, both));
  holds = λ more later n i kid tree visible shown. grow_law store store more (leaves.supply ++ more) (λ m r kids here. here) (λ m trees has. Contains-append_right {X = Ref × List Tree} leaves.supply more (m, trees) has) n i kid tree (subst (λ l. Shows store (l ++ more) n i kid tree) none shown);
}

pub start_law : StartLaw
start_law t store left starts further u next s floors context fits tells apart = record {
  left_errs = λ x fails. fails;
  right_errs = λ mid leaves x fails. absurd (no_fault fails);
  comes = λ mid low supply leaves down. start_comes t store left starts further s mid low supply apart leaves (falls_alive t left.first left.floors starts floors s leaves.rest leaves.supply context fits leaves.down) (falls_nothing down).0 (falls_nothing down).1;
  came = came tells;
  fits = fits;
}
  where
    came : Tells t store left u next s → ((x : Fault) × Fails left.floors s x) ⊎ ((mid : List Entry) × (low : List Entry) × (supply : Supply) × Leaves t.rules store left s mid × Falls [] mid low supply)
    came (tells_error {fault = x} fails errs) = inl (x, fails)
    came (tells_stack {last = mid} leaves run) = inr (mid, mid, [], leaves, through)

-- ---- a floor that is supplied whole

-- the entries that it takes are the last ones
pub record IsDropped (rules : List Rule) (now : Store) (given : Supply) (starts : StateMap) (keep dropped : List Held) (base taken below : List Entry) : Type 0 where
  pub first : Puts rules now given (top 0 base) keep base below
  pub show : KidsShow now given dropped (trees_onto taken [])
  pub kids : (j : ℕ) (kid : Kid) → slice_get (kids_of dropped) j ≡ Some kid → kid ≢ Hidden
  pub state : state_over starts keep (top 0 base) ≡ Some (top 0 below)

dropped_of : (rules : List Rule) (now : Store) (given : Supply) (starts : StateMap) (keep dropped all : List Held) (base low taken below : List Entry) → IsSome (target starts (top 0 base)) → Puts rules now given (top 0 base) all base low → all ≡ keep ++ dropped → low ≡ taken ++ below → length taken ≡ length dropped → IsDropped rules now given starts keep dropped base taken below
dropped_of rules now given starts keep dropped all base low taken below alive up stack parts many =
    let split = puts_split keep dropped all stack up in
    let pushed = pushed_of split.second in
    let same = same_parts pushed.upper split.mid taken below (sym pushed.parts ∙ parts) (pushed.many ∙ sym many) in
    record {
      first = subst (λ l. Puts rules now given (top 0 base) keep base l) same.1 split.first;
      show = subst (λ l. KidsShow now given dropped (trees_onto l [])) same.0 pushed.show;
      kids = kids_shown split.second;
      state = top_state starts alive split.first ∙ ap (λ l. Some (top 0 l)) same.1;
    }

-- the start has the state's fault, or stays without one
moved_fault : (states : ℕ → Option ℕ) (tokens : ℕ) (f : Floor) {e g : Floor} → IsMoved (carried tokens states f) e g → (q z : ℕ) (x : Fault) → IsSome (target e.starts q) → states q ≡ Some z → fault_at f.faults z ≡ Some x → fault_at g.faults q ≡ Some (carried_to tokens q x)
moved_fault states tokens f loses q z x alive at is = loses.dead q alive ∙ carried_some tokens states f q z x at is

still_clear : (states : ℕ → Option ℕ) (tokens : ℕ) (f : Floor) {e g : Floor} → IsMoved (carried tokens states f) e g → (q z : ℕ) → IsSome (target e.starts q) → states q ≡ Some z → fault_at f.faults z ≡ None → fault_at g.faults q ≡ None
still_clear states tokens f loses q z alive at none = loses.dead q alive ∙ carried_none tokens states f q z at none

-- ---- the store with the kids in the floor's node

later_nodes : (f : Floor) (further : List Floor) (x : Ref) → 0 < count_in x (floor_nodes further) → 0 < count_in x (floor_nodes (f ∷ further))
later_nodes f further x some = let all = count_floors x f further in omega (arith, all, some)

elsewhere : (f : Floor) (further : List Floor) (opened : Opened) → f.opened ≡ Some opened → ApartNodes (f ∷ []) further → count_in opened.node (floor_nodes further) ≡ 0
elsewhere f further opened opens apart = let both = apart opened.node in let one = counted_here f [] opened opens in omega (arith, both, one)

pub record AreTaken (store now new : Store) (given supply : Supply) (further : List Floor) : Type 0 where
  pub kept : IsKept now new
  pub there : ShowsThere now given new given
  pub holds : Holds further store supply new given

taken_none : (store now new : Store) (given supply : Supply) (f : Floor) (further : List Floor) (taken : List Entry) → new ≡ now → f.opened ≡ None → Holds (f ∷ further) store supply now given → AreTaken store now new given (supply ++ supply_of f.opened taken) further
taken_none store now new given supply f further taken same opens holds = record {
  kept = subst (λ l. IsKept now l) (sym same) (kept_none now);
  there = λ kid tree visible shown. subst (λ l. Shows l given nowhere 0 kid tree) (sym same) shown;
  holds = λ more later n i kid tree visible shown. subst (λ l. Shows l (given ++ more) n i kid tree) (sym same)
      (holds more (λ x trees has. later_nodes f further x (later x trees has)) n i kid tree visible
      (subst (λ l. Shows store (l ++ more) n i kid tree) (ap (λ o. supply ++ supply_of o taken) opens ∙ append-nil supply) shown));
}

taken_some : (store now new : Store) (given supply : Supply) (f : Floor) (further : List Floor) (taken : List Entry) (opened : Opened) (dropped : List Held) (part : SuppliesPart now new opened.node 0 (kids_of dropped)) → (Contains {X = Kid} part.further Hidden → ⊥) → f.opened ≡ Some opened → ApartNodes (f ∷ []) further
    → ((x : Ref) (trees : List Tree) → Contains {X = Ref × List Tree} given (x, trees) → 0 < count_in x (floor_nodes (f ∷ further)) → ⊥) → KidsShow now given dropped (trees_onto taken []) → ((j : ℕ) (kid : Kid) → slice_get (kids_of dropped) j ≡ Some kid → kid ≢ Hidden)
    → Holds (f ∷ further) store supply now given → AreTaken store now new given (supply ++ supply_of f.opened taken) further
taken_some store now new given supply f further taken opened dropped part shown opens apart not_given show kids holds =
    let by : IsGiven now new given given f further opened dropped 0 [] (trees_onto taken []) = record {
      opens = opens;
      elsewhere = elsewhere f further opened opens apart;
      part = part;
      shown = shown;
      many = refl;
      show = show;
      kids = kids;
      apart = not_given;
      inside = λ n trees has. has;
      stay = λ less. absurd (omega (arith, less));
    } in
    record {
      kept = kept_filled now new opened.node 0 (kids_of dropped) part;
      there = λ kid tree visible was. refit_law now new given given (keeps_given by given (λ n trees has. has)) nowhere 0 kid tree visible was;
      holds = subst (λ o. Holds further store (supply ++ supply_of o taken) new given) (sym opens) (holds_filled by store supply holds);
    }

taken_of : (store now new : Store) (given supply : Supply) (f : Floor) (further : List Floor) (taken : List Entry) (o : Option Opened) (dropped : List Held) → TakesKids now new o dropped → f.opened ≡ o → ApartNodes (f ∷ []) further
    → ((x : Ref) (trees : List Tree) → Contains {X = Ref × List Tree} given (x, trees) → 0 < count_in x (floor_nodes (f ∷ further)) → ⊥) → KidsShow now given dropped (trees_onto taken []) → ((j : ℕ) (kid : Kid) → slice_get (kids_of dropped) j ≡ Some kid → kid ≢ Hidden)
    → Holds (f ∷ further) store supply now given → AreTaken store now new given (supply ++ supply_of f.opened taken) further
taken_of store now new given supply f further taken o dropped (none_hidden same) opens apart not_given show kids holds = taken_none store now new given supply f further taken same opens holds
taken_of store now new given supply f further taken o dropped (kids_taken {opened = opened} part shown) opens apart not_given show kids holds = taken_some store now new given supply f further taken opened dropped part shown opens apart not_given show kids holds

-- ---- one context comes down through the floor

whole_comes : (rules : List Rule) (store now new : Store) (tokens : ℕ) (p next : Piece) (e g f : Floor) (further : List Floor) (s low : List Entry) (supply : Supply) → TakesWhole now new tokens p next e g f → ApartNodes (f ∷ []) further → Comes rules store now p e.starts (f ∷ further) s low supply
    → (taken below : List Entry) → low ≡ taken ++ below → length taken ≡ hidden_of f.opened → fault_at f.faults (top 0 below) ≡ None → Comes rules store new next g.starts further s below (supply ++ supply_of f.opened taken)
whole_comes rules store now new tokens p next e g f further s low supply w apart c taken below parts many clear =
    let down = subst (λ l. Falls l s c.base c.given) w.floors c.down in
    let d = dropped_of rules now c.given e.starts w.keep w.dropped p.stack c.base low taken below c.alive c.up w.stack parts (many ∙ sym w.as_many) in
    let filled = taken_of store now new c.given supply f further taken f.opened w.dropped w.kids refl apart c.apart d.show d.kids c.holds in
    let lives = still_alive w.faults (top 0 c.base) (carried_none tokens (state_over e.starts w.keep) f (top 0 c.base) (top 0 below) d.state clear) c.alive in
    record {
      base = c.base;
      given = c.given;
      down = subst (λ l. Falls l s c.base c.given) (sym w.floors_next) (falls_swapped w.lower e g w.faults.opened (still_clear (state_over e.starts w.keep) tokens f w.faults (top 0 c.base) (top 0 below) c.alive d.state clear) down);
      alive = lives;
      up = puts_kept g.starts filled.kept filled.there lives w.kept d.first;
      apart = λ x trees has some. c.apart x trees has (later_nodes f further x some);
      holds = filled.holds;
    }

whole_fails : (rules : List Rule) (store now new : Store) (tokens : ℕ) (p next : Piece) (e g f : Floor) (further : List Floor) (s low : List Entry) (supply : Supply) (x : Fault) → TakesWhole now new tokens p next e g f → Comes rules store now p e.starts (f ∷ further) s low supply → Fails (f ∷ []) low x → (y : Fault) × Fails next.floors s y × IsLaterBy tokens x y
whole_fails rules store now new tokens p next e g f further s low supply x w c (fails_here taken below parts many is) =
    let down = subst (λ l. Falls l s c.base c.given) w.floors c.down in
    let d = dropped_of rules now c.given e.starts w.keep w.dropped p.stack c.base low taken below c.alive c.up w.stack parts (many ∙ sym w.as_many) in
    let found = moved_fault (state_over e.starts w.keep) tokens f w.faults (top 0 c.base) (top 0 below) x c.alive d.state is in
    (carried_to tokens (top 0 c.base) x, subst (λ l. Fails l s (carried_to tokens (top 0 c.base) x)) (sym w.floors_next) (falls_fails w.lower e g w.faults.opened found down), later_by tokens (top 0 c.base) x)
whole_fails rules store now new tokens p next e g f further s low supply x w c (fails_below taken below parts many clear more) = absurd (no_fault more)

-- one floor lets a stack through
pub record IsThrough (f : Floor) (low below : List Entry) (more : Supply) : Type 0 where
  pub taken : List Entry
  pub parts : low ≡ taken ++ below
  pub many : length taken ≡ hidden_of f.opened
  pub clear : fault_at f.faults (top 0 below) ≡ None
  pub supply : more ≡ supply_of f.opened taken

through_one : {f : Floor} {low below : List Entry} {more : Supply} → Falls (f ∷ []) low below more → IsThrough f low below more
through_one {f} (falls taken below parts many clear through at) = record { taken = taken; parts = parts; many = many; clear = clear; supply = at ∙ append-nil (supply_of f.opened taken) }

-- ---- the step for any floor

-- what a step does in a context, where the right piece's floors before it are fallen through
pub record IsStep (rules : List Rule) (store now new : Store) (tokens : ℕ) (p next : Piece) (before after : StateMap) (f : Floor) (further : List Floor) (s : List Entry) : Type 0 where
  pub keeps : (x : Fault) → Fails p.floors s x → Fails next.floors s x
  pub comes : (low : List Entry) (supply : Supply) → Comes rules store now p before (f ∷ further) s low supply → Fitted rules (f ∷ further) low → (taken below : List Entry) → low ≡ taken ++ below → length taken ≡ hidden_of f.opened → fault_at f.faults (top 0 below) ≡ None → Comes rules store new next after further s below (supply ++ supply_of f.opened taken)
  pub fails : (low : List Entry) (supply : Supply) (x : Fault) → Comes rules store now p before (f ∷ further) s low supply → Fitted rules (f ∷ further) low → Fails (f ∷ []) low x → (y : Fault) × Fails next.floors s y × IsLaterBy tokens x y

module _ {rules : List Rule} {store now new : Store} {tokens : ℕ} {left p next : Piece} {before after : StateMap} {f : Floor} {taken further : List Floor} {s : List Entry} (step : IsStep rules store now new tokens p next before after f further s) (fit : FitsOn rules store left (taken ++ f ∷ further) s) (is : IsPutOn rules store now tokens left p before taken (f ∷ further) s) where
  step_fails : (mid : List Entry) → Leaves rules store left s mid → (x : Fault) → Fails (taken ++ f ∷ []) mid x → (y : Fault) × Fails next.floors s y × IsLaterBy tokens x y
  step_fails mid leaves x fails = by (fails_split taken (f ∷ []) fails)
    where
      by : Fails taken mid x ⊎ FailsLater taken (f ∷ []) mid x → (y : Fault) × Fails next.floors s y × IsLaterBy tokens x y
      by (inl first) = let was = is.right_errs mid leaves x first in (was.0, step.keeps was.0 was.1, was.2)
      by (inr later) = step.fails later.mid later.given x (is.comes mid later.mid later.given leaves later.down) (fitted_behind later.down (fit mid leaves)) later.fails

  step_comes : (mid low : List Entry) (supply : Supply) → Leaves rules store left s mid → Falls (taken ++ f ∷ []) mid low supply → Comes rules store new next after further s low supply
  step_comes mid low supply leaves down =
      let split = falls_split taken (f ∷ []) down in
      let one = through_one split.second in
      let now_comes = step.comes split.mid split.given (is.comes mid split.mid split.given leaves split.first) (fitted_behind split.first (fit mid leaves)) one.taken low one.parts one.many one.clear in
      subst (λ l. Comes rules store new next after further s low l) (ap (λ l. split.given ++ l) (sym one.supply) ∙ sym split.supply) now_comes

  -- what has come to the floor is let through, or has its fault
  step_came : (mid low : List Entry) (supply : Supply) → Leaves rules store left s mid → Falls taken mid low supply → Fitted rules (f ∷ further) low → ((x : Fault) × Fails next.floors s x) ⊎ ((mid1 : List Entry) × (low1 : List Entry) × (supply1 : Supply) × Leaves rules store left s mid1 × Falls (taken ++ f ∷ []) mid1 low1 supply1)
  step_came mid low supply leaves down (fitted given below parts many same more) = by (none_or_some (fault_at f.faults (top 0 below)))
    where
      by : (fault_at f.faults (top 0 below) ≡ None) ⊎ ((x : Fault) × (fault_at f.faults (top 0 below) ≡ Some x)) → ((x : Fault) × Fails next.floors s x) ⊎ ((mid1 : List Entry) × (low1 : List Entry) × (supply1 : Supply) × Leaves rules store left s mid1 × Falls (taken ++ f ∷ []) mid1 low1 supply1)
      by (inl clear) = inr (mid, below, supply ++ (supply_of f.opened given ++ []), leaves, falls_then down (falls given below parts many clear through refl))
      by (inr (x, found)) = let was = step_fails mid leaves x (fails_behind down (fails_here given below parts many found)) in inl (was.0, was.1)

  step_over : ((x : Fault) × Fails p.floors s x) ⊎ ((mid : List Entry) × (low : List Entry) × (supply : Supply) × Leaves rules store left s mid × Falls taken mid low supply) → ((x : Fault) × Fails next.floors s x) ⊎ ((mid1 : List Entry) × (low1 : List Entry) × (supply1 : Supply) × Leaves rules store left s mid1 × Falls (taken ++ f ∷ []) mid1 low1 supply1)
  step_over (inl (x, fails)) = inl (x, step.keeps x fails)
  step_over (inr (mid, low, supply, leaves, down)) = step_came mid low supply leaves down (fitted_behind down (fit mid leaves))

  pub put_on_step : Fitted rules next.floors s → IsPutOn rules store new tokens left next after (taken ++ f ∷ []) further s
  put_on_step fits = record {
    left_errs = λ x fails. step.keeps x (is.left_errs x fails);
    right_errs = step_fails;
    comes = step_comes;
    came = step_over is.came;
    fits = fits;
  }

pub whole_law : WholeLaw
whole_law rules store now new tokens left p next e g f taken further s w apart fit is = put_on_step step fit is
    (subst (λ l. Fitted rules l s) (sym w.floors_next) (fitted_swap rules w.lower e g w.faults.opened (subst (λ l. Fitted rules l s) w.floors is.fits)))
  where
    step : IsStep rules store now new tokens p next e.starts g.starts f further s
    step = record {
      keeps = λ x fails. subst (λ l. Fails l s x) (sym w.floors_next) (fails_swap w.lower e g w.faults.opened (keeps_faults w.faults w.apart) (subst (λ l. Fails l s x) w.floors fails));
      comes = λ low supply c fits given below parts many clear. whole_comes rules store now new tokens p next e g f further s low supply w apart c given below parts many clear;
      fails = λ low supply x c fits fails. whole_fails rules store now new tokens p next e g f further s low supply x w c fails;
    }

-- ---- a floor that is supplied in part

-- the longer of two fronts goes on
pub longer_front : {X : Type 0} (xs ys us vs : List X) → xs ++ ys ≡ us ++ vs → length xs ≤ length us → (mid : List X) × (us ≡ xs ++ mid) × (ys ≡ mid ++ vs)
longer_front [] ys us vs e less = (us, refl, e)
longer_front (x ∷ xs) ys [] vs e less = absurd (omega (arith, less))
longer_front {X} (x ∷ xs) ys (u ∷ us) vs e less =
    let same : u ≡ x = cc in
    let rest = longer_front xs ys us vs (cc) (omega (arith, less)) in
    (rest.0, (cc (rest.1)), rest.2)

-- the floor takes all entries and some below them, which are of the first symbols
pub record IsRest (t : Tables) (now : Store) (given : Supply) (e fresh : Floor) (hs : List Held) (opened : Opened) (still : ℕ) (base taken below : List Entry) : Type 0 where
  pub under : List Entry
  pub upper : List Entry
  pub parts : taken ≡ upper ++ under
  pub base_parts : base ≡ under ++ below
  pub many : length under ≡ still
  pub same : symbols under ≡ take still (right_of t.rules opened.rule)
  pub show : KidsShow now given hs (trees_onto upper [])
  pub kids : (j : ℕ) (kid : Kid) → slice_get (kids_of hs) j ≡ Some kid → kid ≢ Hidden
  pub alive : IsSome (target fresh.starts (top 0 below))

rest_of : (t : Tables) (now new : Store) (tokens : ℕ) (p next : Piece) (e g f : Floor) (given : Supply) (base low taken below : List Entry) (w : TakesPart t now new tokens p next e g f) → IsStack t 0 base → IsSome (target e.starts (top 0 base)) → Puts t.rules now given (top 0 base) p.stack base low → low ≡ taken ++ below → length taken ≡ hidden_of f.opened → symbols taken ≡ hidden_symbols t.rules f.opened → IsRest t now given e w.fresh p.stack w.opened w.still base taken below
rest_of t now new tokens p next e g f given base low taken below w stack alive up parts many same =
    let pushed = pushed_of up in
    let count : length taken ≡ w.still + length p.stack = many ∙ ap hidden_of w.opens ∙ sym w.fewer in
    let upper_many = pushed.many in
    let front = longer_front pushed.upper base taken below (sym pushed.parts ∙ parts) (omega (arith, count, upper_many)) in
    let under = front.0 in
    let total = ap length front.1 ∙ length-append pushed.upper under in
    let under_many : length under ≡ w.still = omega (arith, total, count, upper_many) in
    let all_symbols : symbols (pushed.upper ++ under) ≡ take w.opened.hidden (right_of t.rules w.opened.rule) = ap symbols (sym front.1) ∙ same ∙ ap (hidden_symbols t.rules) w.opens in
    let fewer = w.fewer in
    let under_symbols = symbols_below pushed.upper under (right_of t.rules w.opened.rule) w.opened.hidden w.still all_symbols under_many (omega (arith, fewer)) in
    let leads = leads_up t (record { rule = w.opened.rule; hidden = w.still; node = w.opened.node }) e.starts under below (subst (λ l. IsStack t 0 l) front.2 stack) under_symbols (subst (λ l. IsSome (target e.starts (top 0 l))) front.2 alive) in
    record {
      under = under;
      upper = pushed.upper;
      parts = front.1;
      base_parts = front.2;
      many = under_many;
      same = under_symbols;
      show = pushed.show;
      kids = kids_shown up;
      alive = alive_of (leading t (record { rule = w.opened.rule; hidden = w.still; node = w.opened.node }) e.starts) w.fresh (top 0 below) (top 0 (under ++ below)) w.level leads (ap (λ l. fault_at l (top 0 below)) w.no_fault);
    }

rest_opened : (t : Tables) (now new : Store) (tokens : ℕ) (p next : Piece) (e g f : Floor) (w : TakesPart t now new tokens p next e g f) → g.opened ≡ Some (record { rule = w.opened.rule; hidden = w.still; node = w.opened.node })
rest_opened t now new tokens p next e g f w = w.faults.opened ∙ w.opens_fresh

part_given : (t : Tables) (store now new : Store) (tokens : ℕ) (p next : Piece) (e g f : Floor) (further : List Floor) (given supply : Supply) (base taken below : List Entry) (w : TakesPart t now new tokens p next e g f) → ApartNodes (f ∷ []) further → ((x : Ref) (trees : List Tree) → Contains {X = Ref × List Tree} given (x, trees) → 0 < count_in x (floor_nodes (f ∷ further)) → ⊥)
    → (r : IsRest t now given e w.fresh p.stack w.opened w.still base taken below) → Holds (f ∷ further) store supply now given → Holds further store (supply ++ supply_of f.opened taken) new (given ++ supply_of g.opened r.under)
part_given t store now new tokens p next e g f further given supply base taken below w apart not_given r holds =
    let m = w.opened.node in
    let low = trees_onto r.under [] in
    let upper = trees_onto r.upper [] in
    let after : Supply = given ++ (m, low) ∷ [] in
    let all : low ++ upper ≡ trees_onto taken [] = sym (onto_then r.under upper) ∙ sym (onto_append r.upper r.under []) ∙ ap (λ l. trees_onto l []) (sym r.parts) in
    let size = length-onto r.under [] in
    let under_many = r.many in
    let by : IsGiven now new given after f further w.opened p.stack w.still low upper = record {
      opens = w.opens;
      elsewhere = elsewhere f further w.opened w.opens apart;
      part = w.part;
      shown = w.shown;
      many = omega (arith, size, under_many);
      show = r.show;
      kids = r.kids;
      apart = not_given;
      inside = λ n trees has. Contains-append_left {X = Ref × List Tree} given ((m, low) ∷ []) (n, trees) has;
      stay = λ less. Contains-append_right {X = Ref × List Tree} given ((m, low) ∷ []) (m, low) (0, omega arith, refl);
    } in
    let held = holds_filled by store supply holds in
    let first : supply ++ (m, low ++ upper) ∷ [] ≡ supply ++ supply_of f.opened taken = ap (λ l. supply ++ (m, l) ∷ []) all ∙ ap (λ o. supply ++ supply_of o taken) (sym w.opens) in
    let second : after ≡ given ++ supply_of g.opened r.under = ap (λ o. given ++ supply_of o r.under) (sym (rest_opened t now new tokens p next e g f w)) in
    subst (λ l. Holds further store (supply ++ supply_of f.opened taken) new l) second (subst (λ l. Holds further store l new after) first held)

same_node : (a b : Opened) → ◌≡◌ {A = Option Opened} (Some a) (Some b) → a.node ≡ b.node
same_node a b e = let same : a ≡ b = cc in ap (λ o. o.node) same

rest_apart : (t : Tables) (now new : Store) (tokens : ℕ) (p next : Piece) (e g f : Floor) (further : List Floor) (given : Supply) (under : List Entry) (w : TakesPart t now new tokens p next e g f) → ApartNodes (f ∷ []) further → ((x : Ref) (trees : List Tree) → Contains {X = Ref × List Tree} given (x, trees) → 0 < count_in x (floor_nodes (f ∷ further)) → ⊥) → (x : Ref) (trees : List Tree) → Contains {X = Ref × List Tree} (given ++ supply_of g.opened under) (x, trees) → 0 < count_in x (floor_nodes further) → ⊥
rest_apart t now new tokens p next e g f further given under w apart not_given x trees has some = by (Contains-append_cases {X = Ref × List Tree} given (supply_of g.opened under) (x, trees) has)
  where
    by : Contains {X = Ref × List Tree} given (x, trees) ⊎ Contains {X = Ref × List Tree} (supply_of g.opened under) (x, trees) → ⊥
    by (inl here) = not_given x trees here (later_nodes f further x some)
    by (inr there) =
        let own = own_node g.opened under x trees there in
        let opens = rest_opened t now new tokens p next e g f w in
        let node : own.0.node ≡ w.opened.node = same_node own.0 (record { rule = w.opened.rule; hidden = w.still; node = w.opened.node }) (sym own.1 ∙ opens) in
        let none = ap (λ y. count_in y (floor_nodes further)) (sym own.2 ∙ node) ∙ elsewhere f further w.opened w.opens apart in
        let bad : ⊥ = omega (arith, some, none) in
        bad

part_comes : (t : Tables) (store now new : Store) (tokens : ℕ) (p next : Piece) (e g f : Floor) (further : List Floor) (s low : List Entry) (supply : Supply) (w : TakesPart t now new tokens p next e g f) → ApartNodes (f ∷ []) further → IsStack t 0 s → (c : Comes t.rules store now p e.starts (f ∷ further) s low supply)
    → (taken below : List Entry) → low ≡ taken ++ below → length taken ≡ hidden_of f.opened → symbols taken ≡ hidden_symbols t.rules f.opened → fault_at f.faults (top 0 below) ≡ None → Comes t.rules store new next g.starts further s below (supply ++ supply_of f.opened taken)
part_comes t store now new tokens p next e g f further s low supply w apart stack c taken below parts many same clear =
    let r = rest_of t now new tokens p next e g f c.given c.base low taken below w (falls_stack c.down stack) c.alive c.up parts many same in
    let opens = rest_opened t now new tokens p next e g f w in
    let state = alive_start w.fresh.starts (top 0 below) r.alive in
    let now_clear = still_clear (start_of w.fresh.starts) tokens f w.faults (top 0 below) (top 0 below) r.alive state clear in
    let own : Falls (g ∷ []) c.base below (supply_of g.opened r.under) = falls r.under below r.base_parts (r.many ∙ ap hidden_of (sym opens)) now_clear through (sym (append-nil (supply_of g.opened r.under))) in
    record {
      base = below;
      given = c.given ++ supply_of g.opened r.under;
      down = subst (λ l. Falls l s below (c.given ++ supply_of g.opened r.under)) (sym w.floors_next) (falls_then c.down own);
      alive = still_alive w.faults (top 0 below) (carried_none tokens (start_of w.fresh.starts) f (top 0 below) (top 0 below) state clear) r.alive;
      up = subst (λ l. Puts t.rules new (c.given ++ supply_of g.opened r.under) (top 0 below) l below below) (sym w.stack_next) put_all;
      apart = rest_apart t now new tokens p next e g f further c.given r.under w apart c.apart;
      holds = part_given t store now new tokens p next e g f further c.given supply c.base taken below w apart c.apart r c.holds;
    }

part_fails : (t : Tables) (store now new : Store) (tokens : ℕ) (p next : Piece) (e g f : Floor) (further : List Floor) (s low : List Entry) (supply : Supply) (x : Fault) (w : TakesPart t now new tokens p next e g f) → IsStack t 0 s → (c : Comes t.rules store now p e.starts (f ∷ further) s low supply) → Fitted t.rules (f ∷ further) low → Fails (f ∷ []) low x → (y : Fault) × Fails next.floors s y × IsLaterBy tokens x y
part_fails t store now new tokens p next e g f further s low supply x w stack c (fitted given under parts1 many1 symbol more1) (fails_here taken below parts many is) =
    let eq = same_parts given under taken below (sym parts1 ∙ parts) (many1 ∙ sym many) in
    let r = rest_of t now new tokens p next e g f c.given c.base low taken below w (falls_stack c.down stack) c.alive c.up parts many (ap symbols (sym eq.0) ∙ symbol) in
    let opens = rest_opened t now new tokens p next e g f w in
    let state = alive_start w.fresh.starts (top 0 below) r.alive in
    let found = moved_fault (start_of w.fresh.starts) tokens f w.faults (top 0 below) (top 0 below) x r.alive state is in
    let own : Fails (g ∷ []) c.base (carried_to tokens (top 0 below) x) = fails_here r.under below r.base_parts (r.many ∙ ap hidden_of (sym opens)) found in
    (carried_to tokens (top 0 below) x, subst (λ l. Fails l s (carried_to tokens (top 0 below) x)) (sym w.floors_next) (fails_behind c.down own), later_by tokens (top 0 below) x)
part_fails t store now new tokens p next e g f further s low supply x w stack c fits (fails_below taken below parts many clear more) = absurd (no_fault more)

rest_fits : (t : Tables) (store now new : Store) (tokens : ℕ) (p next : Piece) (e g f : Floor) (further : List Floor) (s low : List Entry) (supply : Supply) (w : TakesPart t now new tokens p next e g f) → IsStack t 0 s → (c : Comes t.rules store now p e.starts (f ∷ further) s low supply) → Fitted t.rules (f ∷ further) low → Fitted t.rules (g ∷ []) c.base
rest_fits t store now new tokens p next e g f further s low supply w stack c (fitted taken below parts many same more) =
    let r = rest_of t now new tokens p next e g f c.given c.base low taken below w (falls_stack c.down stack) c.alive c.up parts many same in
    let opens = rest_opened t now new tokens p next e g f w in
    fitted r.under below r.base_parts (r.many ∙ ap hidden_of (sym opens)) (r.same ∙ ap (hidden_symbols t.rules) (sym opens)) (λ clear. fitted_all)

pub part_law : PartLaw
part_law t store now new tokens left p next e g f taken further s w apart fit stack is = put_on_step step fit is
    (subst (λ l. Fitted t.rules l s) (sym w.floors_next) (fitted_then p.floors g is.fits last))
  where
    step : IsStep t.rules store now new tokens p next e.starts g.starts f further s
    step = record {
      keeps = λ x fails. subst (λ l. Fails l s x) (sym w.floors_next) (fails_more (g ∷ []) fails);
      comes = λ low supply c fits. comes low supply c fits;
      fails = λ low supply x c fits fails. part_fails t store now new tokens p next e g f further s low supply x w stack c fits fails;
    }
      where
        comes : (low : List Entry) (supply : Supply) → Comes t.rules store now p e.starts (f ∷ further) s low supply → Fitted t.rules (f ∷ further) low → (given below : List Entry) → low ≡ given ++ below → length given ≡ hidden_of f.opened → fault_at f.faults (top 0 below) ≡ None → Comes t.rules store new next g.starts further s below (supply ++ supply_of f.opened given)
        comes low supply c (fitted given1 below1 parts1 many1 same more) given below parts many clear =
            let eq = same_parts given1 below1 given below (sym parts1 ∙ parts) (many1 ∙ sym many) in
            part_comes t store now new tokens p next e g f further s low supply w apart stack c given below parts many (ap symbols (sym eq.0) ∙ same) clear

    last : (rest : List Entry) (given : Supply) → Falls p.floors s rest given → Fitted t.rules (g ∷ []) rest
    last rest given down = by is.came
      where
        by : ((x : Fault) × Fails p.floors s x) ⊎ ((mid : List Entry) × (low : List Entry) × (supply : Supply) × Leaves t.rules store left s mid × Falls taken mid low supply) → Fitted t.rules (g ∷ []) rest
        by (inl (x, fails)) = absurd (falls_not_fails down fails)
        by (inr (mid, low, supply, leaves, fallen)) =
            let c = is.comes mid low supply leaves fallen in
            let same = falls_once c.down down in
            subst (λ l. Fitted t.rules (g ∷ []) l) same.0 (rest_fits t store now new tokens p next e g f further s low supply w stack c (fitted_behind fallen (fit mid leaves)))

-- ---- the entries

end_leaves : (rules : List Rule) (store now : Store) (left right p next : Piece) (starts : StateMap) (keep put : List Held) (s mid last : List Entry) → next.floors ≡ p.floors → next.stack ≡ keep ++ put → AreKeptFor starts p.stack keep → AreOver (state_over starts p.stack) starts right.stack put → IsKept store now → (over : Leaves rules store right mid last) → Comes rules store now p starts [] s over.rest over.supply → Leaves rules now next s last
end_leaves rules store now left right p next starts keep put s mid last floors stack kept put_over is_kept over c =
    let there : ShowsThere store over.supply now c.given = λ kid tree visible shown.
    subst (λ l. Shows now l nowhere 0 kid tree) (append-nil c.given) (c.holds [] (λ x trees has. absurd (nothing x trees has)) nowhere 0 kid tree visible (subst (λ l. Shows store l nowhere 0 kid tree) (sym (append-nil over.supply)) shown)) in
    let first = puts_kept starts (kept_none now) (λ kid tree visible shown. shown) c.alive kept c.up in
    let second = puts_over (state_over starts p.stack) starts is_kept there c.alive (top_state starts c.alive c.up) put_over over.up in
    record {
      rest = c.base;
      supply = c.given;
      down = subst (λ l. Falls l s c.base c.given) (sym floors) c.down;
      up = subst (λ l. Puts rules now c.given (top 0 c.base) l c.base last) (sym stack) (puts_then first second);
    }
  where
    nothing : (x : Ref) (trees : List Tree) → Contains {X = Ref × List Tree} [] (x, trees) → ⊥
    nothing x trees (k, inside, at) = omega (arith, inside)

pub end_law : EndLaw
end_law rules store now tokens left right p next starts keep put s floors stack kept put_over is_kept is = (
  record {
    left_errs = λ x fails. subst (λ l. Fails l s x) (sym floors) (is.left_errs x fails);
    right_errs = λ mid leaves x fails. (let was = is.right_errs mid leaves x fails in (was.0, subst (λ l. Fails l s was.0) (sym floors) was.1, was.2));
    leaves = λ mid last leaves over. end_leaves rules store now left right p next starts keep put s mid last floors stack kept put_over is_kept over (is.comes mid over.rest over.supply leaves over.down);
  },
  subst (λ l. Fitted rules l s) (sym floors) is.fits,
)
