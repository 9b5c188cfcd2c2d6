-- From a stack on an alive start of the last floor, floor after floor, to a context.
use Rattle.std.proofs.Common.{◌≡◌, ℕ, ◌<◌, List, [], ◌∷◌, ◌++◌, length, Option, Some, None, refl, sym, ap, ◌∙◌, subst, arith}
use Rattle.std.specs.Prelude.{IsSome, is_some}
use Rattle.std.proofs.lemmas.List.{length-take-le}
use Rattle.grammar_data.specs.declared.rule.Sym.{Sym}
use Rattle.grammar_data.specs.declared.rule.Sym.TheVariants.{Token}
use Rattle.grammar_data.specs.declared.token.Token.{Token as TextToken}
use Rattle.grammar_data.specs.Grammar.{Grammar}
use Rattle.tree_theory.specs.Stores.{Supply}
use Rattle.table_data.specs.declared.act.Act.{Act}
use Rattle.table_data.specs.declared.act.Act.TheVariants.{Shift, Reduce, Accept, Error}
use Rattle.table_data.specs.Tables.{Tables, act_in, shift_of, step_by}
use Rattle.machine_theory.specs.Machine.{Entry, top, IsStack}
use Rattle.machine_theory.proofs.StackLemmas.{length-symbols}
use Rattle.lawful_theory.specs.Lawful.{IsLawfulFor}
use Rattle.map_theory.specs.Maps.{target, walk_by}
use Rattle.piece_theory.specs.Pieces.{Opened, Floor, fault_at, hidden_of}
use Rattle.piece_theory.specs.Applies.{right_of, hidden_symbols, supply_of, Falls, through, falls}
use Rattle.piece_theory.specs.WellMade.{start_of, AreStacked, on_ground, on_floor}
use Rattle.context_laws.specs.Contexts.{LeadFromStates, IsAlong, ComesDown, DownLaw, EndLaw}
use Rattle.context_laws.proofs.AlongLemmas.{by_state, along}

-- what is something is some state
pub some_of : (o : Option ℕ) → IsSome o → (p : ℕ) × (o ≡ Some p)
some_of (Some p) is = (p, refl)
some_of None is = absurd (cc)

pub is_some_by : {o : Option ℕ} {p : ℕ} → o ≡ Some p → IsSome o
is_some_by {p = p} e = ap is_some e

pub shift_by : (act : Act) (p : ℕ) → shift_of act ≡ Some p → act ≡ Shift p
shift_by (Shift q) p e = cc
shift_by (Reduce r) p e = absurd (cc)
shift_by Accept p e = absurd (cc)
shift_by Error p e = absurd (cc)

-- one more floor lets through what the others leave
pub falls_then : {fs : List Floor} {s mid : List Entry} {given : Supply} → Falls fs s mid given → (f : Floor) (taken below : List Entry) → mid ≡ taken ++ below → length taken ≡ hidden_of f.opened → fault_at f.faults (top 0 below) ≡ None → (supply : Supply) × Falls (fs ++ f ∷ []) s below supply
falls_then through f taken below parts len none = (supply_of f.opened taken ++ [], falls taken below parts len none through refl)
falls_then (falls {f = first} over under at size clear more same) f taken below parts len none =
    let rest = falls_then more f taken below parts len none in
    (supply_of first.opened over ++ rest.0, falls over under at size clear rest.1 refl)

module _ {g : Grammar} {t : Tables} (lawful : IsLawfulFor g t) where
  on_upper : {first : TextToken} {floors : List Floor} (lower : List Floor) (below f : Floor) (opened : Opened) (rest : List Entry) {b : ℕ} → floors ≡ lower ++ below ∷ [] → f.opened ≡ Some opened → opened.hidden < length (right_of t.rules opened.rule) → fault_at f.faults (top 0 rest) ≡ None → (up : IsAlong t rest (hidden_symbols t.rules (Some opened)) b) → ComesDown t first (lower ++ below ∷ []) (up.upper ++ rest) → ComesDown t first (floors ++ f ∷ []) rest
  on_upper {first} lower below f opened rest parts is less none up down =
      let hidden : length up.upper ≡ opened.hidden = sym (length-symbols up.upper) ∙ ap length up.same ∙ length-take-le opened.hidden (right_of t.rules opened.rule) (omega (arith, less)) in
      let more = falls_then down.falls f up.upper rest refl (hidden ∙ sym (ap hidden_of is)) none in
      subst (λ l. ComesDown t first (l ++ f ∷ []) rest) (sym parts) (record { from = down.from; is_context = down.is_context; supply = more.0; falls = more.1 })

  pub comes_down : {first : TextToken} {lower : List Floor} {f : Floor} → AreStacked t first lower f → (rest : List Entry) → IsStack t 0 rest → IsSome (target f.starts (top 0 rest)) → ComesDown t first (lower ++ f ∷ []) rest
  comes_down {first} {f = f} (on_ground unopened level) rest is alive =
      let start = some_of (target f.starts (top 0 rest)) alive in
      let leads = by_state (step_by t (top 0 rest) (Token first.id)) (λ p. Some (top 0 rest)) start.0 (level.starts (top 0 rest) start.0 start.1) in
      record {
        from = rest;
        is_context = record { stack = is; state = leads.0; shifts = shift_by (act_in t (top 0 rest) first.id) leads.0 leads.1 };
        supply = supply_of f.opened [] ++ [];
        falls = falls [] rest refl (sym (ap hidden_of unopened)) (level.apart (top 0 rest) alive) through refl;
      }
  comes_down {f = f} (on_floor {lower = lower} {below = below} opened stacked parts is some less level) rest stack alive =
      let start = some_of (target f.starts (top 0 rest)) alive in
      let leads = by_state (walk_by t (top 0 rest) (hidden_symbols t.rules (Some opened))) (start_of below.starts) start.0 (level.starts (top 0 rest) start.0 start.1) in
      let to = by_state (target below.starts leads.0) (λ p. Some leads.0) start.0 leads.2 in
      let up = along lawful (hidden_symbols t.rules (Some opened)) rest leads.0 stack leads.1 in
      on_upper lower below f opened rest parts is less (level.apart (top 0 rest) alive) up (comes_down stacked (up.upper ++ rest) up.stack (is_some_by (ap (target below.starts) up.on_top ∙ to.1)))

pub down_law : DownLaw
down_law g t lawful first lower f rest stacked is alive = comes_down lawful stacked rest is alive

-- ---- alive starts are states

starts_within : {t : Tables} → LeadFromStates t → {first : TextToken} {lower : List Floor} {f : Floor} → AreStacked t first lower f → (q : ℕ) → IsSome (target f.starts q) → q < t.states
starts_within {t} within {first} {f = f} (on_ground unopened level) q alive =
    let start = some_of (target f.starts q) alive in
    let leads = by_state (step_by t q (Token first.id)) (λ p. Some q) start.0 (level.starts q start.0 start.1) in
    within q leads.0 (Token first.id) leads.1
starts_within {t} within {f = f} (on_floor {below = below} opened stacked parts is some less level) q alive =
    let start = some_of (target f.starts q) alive in
    let leads = by_state (walk_by t q (hidden_symbols t.rules (Some opened))) (start_of below.starts) start.0 (level.starts q start.0 start.1) in
    first_step (hidden_symbols t.rules (Some opened)) (length-take-le opened.hidden (right_of t.rules opened.rule) (omega (arith, less))) leads.1
  where
    first_step : (xs : List Sym) → length xs ≡ opened.hidden → {b : ℕ} → walk_by t q xs ≡ Some b → q < t.states
    first_step [] len walk = absurd (omega (arith, len, some))
    first_step (x ∷ xs) len {b = b} walk = let step = by_state (step_by t q x) (λ p. walk_by t p xs) b walk in within q step.0 x step.1

pub end_law : EndLaw
end_law g t lawful within first lower f q stacked alive =
    let at = lawful.covered q (starts_within within stacked q alive) in
    record { rest = at.0; stack = at.1; on_top = at.2; comes = comes_down lawful stacked at.0 at.1 (subst (λ p. IsSome (target f.starts p)) (sym at.2) alive) }
