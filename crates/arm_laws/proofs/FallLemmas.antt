-- Floors: one more at the end, another last one, and what the last one takes.
use Rattle.std.proofs.Common.{◌≡◌, ℕ, List, [], ◌∷◌, ◌++◌, length, Some, None, refl, sym, ap, ◌∙◌, subst, append_assoc, append-nil}
use Rattle.grammar_data.specs.Grammar.{Rule}
use Rattle.tree_theory.specs.Stores.{Supply}
use Rattle.machine_theory.specs.Machine.{Entry, top, symbols}
use Rattle.piece_theory.specs.Pieces.{Fault, Floor, fault_at, hidden_of}
use Rattle.piece_theory.specs.Applies.{hidden_symbols, supply_of, Falls, through, falls, Fails, fails_here, fails_below, Fitted, fitted_all, fitted}

-- ---- through one more floor

pub falls_then : {fs : List Floor} {s mid : List Entry} {given : Supply} → Falls fs s mid given → (g : Floor) (taken below : List Entry) → mid ≡ taken ++ below → length taken ≡ hidden_of g.opened → fault_at g.faults (top 0 below) ≡ None → Falls (fs ++ g ∷ []) s below (given ++ supply_of g.opened taken)
falls_then through g taken below parts count clear = falls taken below parts count clear through (sym (append-nil (supply_of g.opened taken)))
falls_then (falls {f = f} {given = given} taken1 below1 parts1 count1 clear1 go at) g taken below parts count clear =
    falls taken1 below1 parts1 count1 clear1 (falls_then go g taken below parts count clear) (ap (λ l. l ++ supply_of g.opened taken) at ∙ append_assoc (supply_of f.opened taken1) given (supply_of g.opened taken))

pub fails_then : {fs : List Floor} {s mid : List Entry} {given : Supply} → Falls fs s mid given → (g : Floor) (taken below : List Entry) {fault : Fault} → mid ≡ taken ++ below → length taken ≡ hidden_of g.opened → fault_at g.faults (top 0 below) ≡ Some fault → Fails (fs ++ g ∷ []) s fault
fails_then through g taken below parts count is = fails_here taken below parts count is
fails_then (falls taken1 below1 parts1 count1 clear1 go at) g taken below parts count is = fails_below taken1 below1 parts1 count1 clear1 (fails_then go g taken below parts count is)

pub fails_more : {fs : List Floor} {s : List Entry} {fault : Fault} (gs : List Floor) → Fails fs s fault → Fails (fs ++ gs) s fault
fails_more gs (fails_here taken below parts count is) = fails_here taken below parts count is
fails_more gs (fails_below taken below parts count clear more) = fails_below taken below parts count clear (fails_more gs more)

-- ---- the last floor

-- what the last floor takes, after the floors before it
pub record LastFalls (lower : List Floor) (f : Floor) (s rest : List Entry) (supply : Supply) : Type 0 where
  pub mid : List Entry
  pub taken : List Entry
  pub given : Supply
  pub down : Falls lower s mid given
  pub parts : mid ≡ taken ++ rest
  pub count : length taken ≡ hidden_of f.opened
  pub clear : fault_at f.faults (top 0 rest) ≡ None
  pub all : supply ≡ given ++ supply_of f.opened taken

nothing_falls : {s rest : List Entry} {given : Supply} → Falls [] s rest given → (s ≡ rest) × (given ≡ [])
nothing_falls through = (refl, refl)

pub falls_last : (lower : List Floor) (f : Floor) {s rest : List Entry} {supply : Supply} → Falls (lower ++ f ∷ []) s rest supply → LastFalls lower f s rest supply
falls_last [] f {s = s} (falls taken below parts count clear go at) =
    let same = nothing_falls go in
    record {
      mid = s;
      taken = taken;
      given = [];
      down = through;
      parts = parts ∙ ap (λ b. taken ++ b) same.0;
      count = count;
      clear = ap (λ b. fault_at f.faults (top 0 b)) (sym same.0) ∙ clear;
      all = at ∙ ap (λ l. supply_of f.opened taken ++ l) same.1 ∙ append-nil (supply_of f.opened taken);
    }
falls_last (e ∷ lower) f (falls {given = given} taken below parts count clear go at) =
    let inner = falls_last lower f go in
    record {
      mid = inner.mid;
      taken = inner.taken;
      given = supply_of e.opened taken ++ inner.given;
      down = falls taken below parts count clear inner.down refl;
      parts = inner.parts;
      count = inner.count;
      clear = inner.clear;
      all = at ∙ ap (λ l. supply_of e.opened taken ++ l) inner.all ∙ sym (append_assoc (supply_of e.opened taken) inner.given (supply_of f.opened inner.taken));
    }

-- another last floor that was opened by the same, and has no fault here
pub falls_swap : (lower : List Floor) (f g : Floor) {s rest : List Entry} {supply : Supply} → LastFalls lower f s rest supply → g.opened ≡ f.opened → fault_at g.faults (top 0 rest) ≡ None → Falls (lower ++ g ∷ []) s rest supply
falls_swap lower f g {s} {rest} {supply} by same clear =
    let at : by.given ++ supply_of g.opened by.taken ≡ supply = ap (λ o. by.given ++ supply_of o by.taken) same ∙ sym by.all in
    subst (λ l. Falls (lower ++ g ∷ []) s rest l) at (falls_then by.down g by.taken rest by.parts (by.count ∙ ap hidden_of (sym same)) clear)

nothing_fails : {s : List Entry} {fault : Fault} → Fails [] s fault → ⊥
nothing_fails fails = elim fails [ ]

pub fails_swap : (lower : List Floor) (f g : Floor) {s : List Entry} {fault : Fault} → g.opened ≡ f.opened → ((q : ℕ) (x : Fault) → fault_at f.faults q ≡ Some x → fault_at g.faults q ≡ Some x) → Fails (lower ++ f ∷ []) s fault → Fails (lower ++ g ∷ []) s fault
fails_swap [] f g {fault = fault} same stays (fails_here taken below parts count is) = fails_here taken below parts (count ∙ ap hidden_of (sym same)) (stays (top 0 below) fault is)
fails_swap [] f g same stays (fails_below taken below parts count clear more) = absurd (nothing_fails more)
fails_swap (e ∷ lower) f g same stays (fails_here taken below parts count is) = fails_here taken below parts count is
fails_swap (e ∷ lower) f g same stays (fails_below taken below parts count clear more) = fails_below taken below parts count clear (fails_swap lower f g same stays more)

-- ---- the symbols that floors take

pub fitted_swap : (rules : List Rule) (lower : List Floor) (f g : Floor) {s : List Entry} → g.opened ≡ f.opened → Fitted rules (lower ++ f ∷ []) s → Fitted rules (lower ++ g ∷ []) s
fitted_swap rules [] f g same (fitted taken below parts count are go) = fitted taken below parts (count ∙ ap hidden_of (sym same)) (are ∙ ap (λ o. hidden_symbols rules o) (sym same)) (λ clear. fitted_all)
fitted_swap rules (e ∷ lower) f g same (fitted taken below parts count are go) = fitted taken below parts count are (λ clear. fitted_swap rules lower f g same (go clear))

-- a floor takes its symbols from this stack
pub record TakesHere (rules : List Rule) (g : Floor) (mid : List Entry) : Type 0 where
  pub taken : List Entry
  pub below : List Entry
  pub parts : mid ≡ taken ++ below
  pub count : length taken ≡ hidden_of g.opened
  pub are : symbols taken ≡ hidden_symbols rules g.opened

pub fitted_then : {rules : List Rule} (g : Floor) {fs : List Floor} {s : List Entry} → Fitted rules fs s → ((mid : List Entry) (given : Supply) → Falls fs s mid given → TakesHere rules g mid) → Fitted rules (fs ++ g ∷ []) s
fitted_then g (fitted_all {s = s}) last = let here = last s [] through in fitted here.taken here.below here.parts here.count here.are (λ clear. fitted_all)
fitted_then g (fitted {f = f} taken below parts count are go) last = fitted taken below parts count are (λ clear. fitted_then g (go clear) (λ mid given down. last mid (supply_of f.opened taken ++ given) (falls taken below parts count clear down refl)))
