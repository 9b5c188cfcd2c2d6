-- Floors one after another: what falls through them, where they have a fault, and what fits them.
use Rattle.std.proofs.Common.{◌≡◌, ◌+◌, ◌⊎◌, inl, inr, List, [], ◌∷◌, ◌++◌, length, Option, Some, None, refl, sym, ap, ◌∙◌, subst, append_assoc, arith}
use Rattle.grammar_data.specs.Grammar.{Rule}
use Rattle.grammar_theory.proofs.RuleLemmas.{same_parts}
use Rattle.tree_theory.specs.Stores.{Ref, Supply}
use Rattle.table_data.specs.Tables.{Tables}
use Rattle.machine_theory.specs.Machine.{Entry, top, IsStack}
use Rattle.machine_theory.proofs.StackLemmas.{stack_below}
use Rattle.piece_theory.specs.Pieces.{Fault, Opened, Floor, fault_at, hidden_of, floor_nodes}
use Rattle.piece_theory.specs.Applies.{supply_of, Falls, through, falls, Fails, fails_here, fails_below, Fitted, fitted_all, fitted}
use Rattle.use_theory.specs.Counts.{count_in}

-- ---- one after another

pub falls_then : {fs : List Floor} {s mid : List Entry} {given : Supply} → Falls fs s mid given → {gs : List Floor} {rest : List Entry} {more : Supply} → Falls gs mid rest more → Falls (fs ++ gs) s rest (given ++ more)
falls_then through more = more
falls_then {fs = f ∷ fs} (falls {given = given} taken below parts many clear down at) {more = more} other =
    falls taken below parts many clear (falls_then down other) (ap (λ l. l ++ more) at ∙ append_assoc (supply_of f.opened taken) given more)

pub record AreParted (fs gs : List Floor) (s rest : List Entry) (all : Supply) : Type 0 where
  pub mid : List Entry
  pub given : Supply
  pub more : Supply
  pub first : Falls fs s mid given
  pub second : Falls gs mid rest more
  pub supply : all ≡ given ++ more

pub falls_split : (fs gs : List Floor) {s rest : List Entry} {all : Supply} → Falls (fs ++ gs) s rest all → AreParted fs gs s rest all
falls_split [] gs {s} {all = all} down = record { mid = s; given = []; more = all; first = through; second = down; supply = refl }
falls_split (f ∷ fs) gs (falls taken below parts many clear down at) =
    let split = falls_split fs gs down in
    record {
      mid = split.mid;
      given = supply_of f.opened taken ++ split.given;
      more = split.more;
      first = falls taken below parts many clear split.first refl;
      second = split.second;
      supply = at ∙ ap (λ l. supply_of f.opened taken ++ l) split.supply ∙ sym (append_assoc (supply_of f.opened taken) split.given split.more);
    }

pub fails_behind : {fs : List Floor} {s mid : List Entry} {given : Supply} → Falls fs s mid given → {gs : List Floor} {x : Fault} → Fails gs mid x → Fails (fs ++ gs) s x
fails_behind through fails = fails
fails_behind (falls taken below parts many clear down at) fails = fails_below taken below parts many clear (fails_behind down fails)

-- a fault is one of the first floors, or one of the others, to which the stack comes
pub record FailsLater (fs gs : List Floor) (s : List Entry) (x : Fault) : Type 0 where
  pub mid : List Entry
  pub given : Supply
  pub down : Falls fs s mid given
  pub fails : Fails gs mid x

fails_later : {f : Floor} {fs gs : List Floor} {s : List Entry} {x : Fault} (taken below : List Entry) → s ≡ taken ++ below → length taken ≡ hidden_of f.opened → fault_at f.faults (top 0 below) ≡ None → Fails fs below x ⊎ FailsLater fs gs below x → Fails (f ∷ fs) s x ⊎ FailsLater (f ∷ fs) gs s x
fails_later taken below parts many clear (inl fails) = inl (fails_below taken below parts many clear fails)
fails_later taken below parts many clear (inr later) = inr (record { mid = later.mid; given = _; down = falls taken below parts many clear later.down refl; fails = later.fails })

pub fails_split : (fs gs : List Floor) {s : List Entry} {x : Fault} → Fails (fs ++ gs) s x → Fails fs s x ⊎ FailsLater fs gs s x
fails_split [] gs {s} fails = inr (record { mid = s; given = []; down = through; fails = fails })
fails_split (f ∷ fs) gs (fails_here taken below parts many is) = inl (fails_here taken below parts many is)
fails_split (f ∷ fs) gs (fails_below taken below parts many clear more) = fails_later taken below parts many clear (fails_split fs gs more)

-- ---- the last floor has other faults

pub falls_swapped : (fs : List Floor) (e g : Floor) {s rest : List Entry} {given : Supply} → g.opened ≡ e.opened → fault_at g.faults (top 0 rest) ≡ None → Falls (fs ++ e ∷ []) s rest given → Falls (fs ++ g ∷ []) s rest given
falls_swapped [] e g same clear (falls taken below parts many was through at) = falls taken below parts (many ∙ ap hidden_of (sym same)) clear through (at ∙ ap (λ o. supply_of o taken ++ []) (sym same))
falls_swapped (f ∷ fs) e g same clear (falls taken below parts many was down at) = falls taken below parts many was (falls_swapped fs e g same clear down) at

-- the last floor has a fault now where the stack came through
pub falls_fails : (fs : List Floor) (e g : Floor) {s rest : List Entry} {given : Supply} {x : Fault} → g.opened ≡ e.opened → fault_at g.faults (top 0 rest) ≡ Some x → Falls (fs ++ e ∷ []) s rest given → Fails (fs ++ g ∷ []) s x
falls_fails [] e g same is (falls taken below parts many was through at) = fails_here taken below parts (many ∙ ap hidden_of (sym same)) is
falls_fails (f ∷ fs) e g same is (falls taken below parts many was down at) = fails_below taken below parts many was (falls_fails fs e g same is down)

-- ---- what fits

pub fitted_behind : {rules : List Rule} {fs : List Floor} {s mid : List Entry} {given : Supply} → Falls fs s mid given → {gs : List Floor} → Fitted rules (fs ++ gs) s → Fitted rules gs mid
fitted_behind through fits = fits
fitted_behind {rules} {fs = f ∷ fs} (falls {rest = rest} {given = given} taken below parts many clear down at) {gs} (fitted taken1 below1 parts1 many1 same more) =
    let e = same_parts taken below taken1 below1 (sym parts ∙ parts1) (many ∙ sym many1) in
    fitted_behind down (subst (λ b. Fitted rules (fs ++ gs) b) (sym e.1) (more (ap (λ b. fault_at f.faults (top 0 b)) (sym e.1) ∙ clear)))

pub fitted_front : {rules : List Rule} (fs gs : List Floor) {s : List Entry} → Fitted rules (fs ++ gs) s → Fitted rules fs s
fitted_front [] gs fits = fitted_all
fitted_front (f ∷ fs) gs (fitted taken below parts many same more) = fitted taken below parts many same (λ clear. fitted_front fs gs (more clear))

pub fitted_then : {rules : List Rule} (fs : List Floor) (g : Floor) {s : List Entry} → Fitted rules fs s → ((rest : List Entry) (given : Supply) → Falls fs s rest given → Fitted rules (g ∷ []) rest) → Fitted rules (fs ++ g ∷ []) s
fitted_then [] g {s} fits last = last s [] through
fitted_then (f ∷ fs) g (fitted taken below parts many symbol more) last = fitted taken below parts many symbol (λ clear. fitted_then fs g (more clear) (λ rest given down. last rest (supply_of f.opened taken ++ given) (falls taken below parts many clear down refl)))

-- ---- stacks, and nodes

pub falls_stack : {t : Tables} {fs : List Floor} {s rest : List Entry} {given : Supply} → Falls fs s rest given → IsStack t 0 s → IsStack t 0 rest
falls_stack through is = is
falls_stack {t} (falls taken below parts many clear down at) is = falls_stack down (stack_below taken below (subst (λ l. IsStack t 0 l) parts is))

pub nodes_some : (f : Floor) (fs : List Floor) (opened : Opened) → f.opened ≡ Some opened → floor_nodes (f ∷ fs) ≡ opened.node ∷ floor_nodes fs
nodes_some f fs opened e = ap (λ o. nodes_before o fs) e
  where
    nodes_before : Option Opened → List Floor → List Ref
    nodes_before o gs = floor_nodes (record { opened = o; starts = []; faults = [] } ∷ gs)

pub nodes_none : (f : Floor) (fs : List Floor) → f.opened ≡ None → floor_nodes (f ∷ fs) ≡ floor_nodes fs
nodes_none f fs e = ap (λ o. nodes_before o fs) e
  where
    nodes_before : Option Opened → List Floor → List Ref
    nodes_before o gs = floor_nodes (record { opened = o; starts = []; faults = [] } ∷ gs)

-- the nodes of floors are those of the first and those of the others
pub count_floors : (x : Ref) (f : Floor) (fs : List Floor) → count_in x (floor_nodes (f ∷ fs)) ≡ count_in x (floor_nodes (f ∷ [])) + count_in x (floor_nodes fs)
count_floors x f fs = by f.opened refl
  where
    by : (o : Option Opened) → f.opened ≡ o → count_in x (floor_nodes (f ∷ fs)) ≡ count_in x (floor_nodes (f ∷ [])) + count_in x (floor_nodes fs)
    by None e = let all = ap (count_in x) (nodes_none f fs e) in let one = ap (count_in x) (nodes_none f [] e) in omega (arith, all, one)
    by (Some opened) e = let all = ap (count_in x) (nodes_some f fs opened e) in let one = ap (count_in x) (nodes_some f [] opened e) in omega (arith, all, one)
