-- Runs: over a longer stack, one after another, with more input, and of one way only.
use Rattle.std.proofs.Common.{◌≡◌, ℕ, ◌+◌, ◌≤◌, ◌⊎◌, inl, inr, List, [], ◌∷◌, ◌++◌, length, Option, Some, refl, sym, ap, ◌∙◌, subst, append_assoc, arith}
use Rattle.std.proofs.lemmas.List.{length-append}
use Rattle.grammar_data.specs.declared.rule.Sym.{Sym}
use Rattle.grammar_data.specs.declared.token.Token.{Token as TextToken}
use Rattle.grammar_theory.specs.Rules.{IsRule}
use Rattle.grammar_theory.proofs.RuleLemmas.{rule_once, same_parts}
use Rattle.table_data.specs.declared.act.Act.{Act}
use Rattle.table_data.specs.declared.act.Act.TheVariants.{Shift, Reduce, Accept, Error}
use Rattle.table_data.specs.Tables.{Tables, act_in, goto_in, step_by}
use Rattle.machine_theory.specs.Machine.{Entry, top, IsStack, bottom, pushed, shifted, reduced, Reduces, reduces, Reaches, here, after_reduction, after_shift, Errs}
use Rattle.machine_theory.specs.Runs.{FrameLaw, ErrorFrameLaw, StackFrameLaw, ThenLaw, ErrorThenLaw, MoreInputLaw, ErrorMoreInputLaw, OneReductionLaw, OneRunLaw, StopLaw, OneErrorLaw, LookaheadLaw}

-- ---- over a longer stack

pub top-append : (low base : ℕ) (under s : List Entry) → top low under ≡ base → top low (s ++ under) ≡ top base s
top-append low base under [] e = e
top-append low base under (x ∷ s) e = refl

pub reduces_above : {t : Tables} {low base a : ℕ} (under : List Entry) {s next : List Entry} → top low under ≡ base → Reduces t base a s next → Reduces t low a (s ++ under) (next ++ under)
reduces_above {t} {low} {base} {a} under {s = s} e (reduces {n = n} taken rest act rule parts len goto at) =
    reduces taken (rest ++ under) (ap (λ q. act_in t q a) (top-append low base under s e) ∙ act) rule (ap (λ l. l ++ under) parts ∙ append_assoc taken rest under) len (ap (λ q. goto_in t q n) (top-append low base under rest e) ∙ goto) (ap (λ l. l ++ under) at)

pub reaches_above : {t : Tables} {low base : ℕ} (under : List Entry) → top low under ≡ base → {s last : List Entry} {u v : List TextToken} → Reaches t base s u last v → Reaches t low (s ++ under) u (last ++ under) v
reaches_above under e here = here
reaches_above under e (after_reduction m more) = after_reduction (reduces_above under e m) (reaches_above under e more)
reaches_above {t} {low} {base} under e (after_shift {s = s} {token = token} act more) = after_shift (ap (λ q. act_in t q token.id) (top-append low base under s e) ∙ act) (reaches_above under e more)

pub stack_above : {t : Tables} {low base : ℕ} {under : List Entry} → top low under ≡ base → IsStack t low under → {s : List Entry} → IsStack t base s → IsStack t low (s ++ under)
stack_above e below bottom = below
stack_above {t} {low} {base} {under} e below (pushed {e = entry} {s = s} is tree step) = pushed (stack_above e below is) tree (ap (λ q. step_by t q entry.symbol) (top-append low base under s e) ∙ step)

pub frame_law : FrameLaw
frame_law t low base under s last u v e run = reaches_above under e run

pub error_frame_law : ErrorFrameLaw
error_frame_law t low base under s u index token state e errs = record {
  stack = errs.stack ++ under;
  before = errs.before;
  later = errs.later;
  parts = errs.parts;
  at = errs.at;
  reached = reaches_above under e errs.reached;
  state_on_top = top-append low base under errs.stack e ∙ errs.state_on_top;
  error = errs.error;
}

pub stack_frame_law : StackFrameLaw
stack_frame_law t low base under s e below is = stack_above e below is

-- ---- one after another, and with more input

pub reaches_then : {t : Tables} {base : ℕ} {s mid last : List Entry} {u v w : List TextToken} → Reaches t base s u mid v → Reaches t base mid v last w → Reaches t base s u last w
reaches_then here other = other
reaches_then (after_reduction m more) other = after_reduction m (reaches_then more other)
reaches_then (after_shift act more) other = after_shift act (reaches_then more other)

pub reaches_more : {t : Tables} {base : ℕ} (more : List TextToken) {s last : List Entry} {u v : List TextToken} → Reaches t base s u last v → Reaches t base s (u ++ more) last (v ++ more)
reaches_more more here = here
reaches_more more (after_reduction m run) = after_reduction m (reaches_more more run)
reaches_more more (after_shift act run) = after_shift act (reaches_more more run)

pub then_law : ThenLaw
then_law t base s mid last u v w first second = reaches_then first second

pub error_then_law : ErrorThenLaw
error_then_law t base s mid u v index token state run errs = record {
  stack = errs.stack;
  before = u ++ errs.before;
  later = errs.later;
  parts = ap (λ l. u ++ l) errs.parts ∙ sym (append_assoc u errs.before (token ∷ errs.later));
  at = length-append u errs.before ∙ ap (λ k. length u + k) errs.at;
  reached = reaches_then run errs.reached;
  state_on_top = errs.state_on_top;
  error = errs.error;
}

pub more_input_law : MoreInputLaw
more_input_law t base s last u v more run = reaches_more more run

pub error_more_input_law : ErrorMoreInputLaw
error_more_input_law t base s u more index token state errs = record {
  stack = errs.stack;
  before = errs.before;
  later = errs.later ++ more;
  parts = ap (λ l. l ++ more) errs.parts ∙ append_assoc errs.before (token ∷ errs.later) more;
  at = errs.at;
  reached = reaches_more more errs.reached;
  state_on_top = errs.state_on_top;
  error = errs.error;
}

-- ---- one way only

same_goto : {p q : ℕ} → ◌≡◌ {A = Option ℕ} (Some p) (Some q) → p ≡ q
same_goto e = cc

same_rule : {r q : ℕ} → Reduce r ≡ Reduce q → r ≡ q
same_rule e = cc

same_target : {p q : ℕ} → Shift p ≡ Shift q → p ≡ q
same_target e = cc

not_both : {r p : ℕ} → Reduce r ≡ Shift p → ⊥
not_both e = cc

reduced_same : {r q n m p k : ℕ} {taken given rest left : List Entry} → r ≡ q → n ≡ m → taken ≡ given → rest ≡ left → p ≡ k → reduced r n taken p ∷ rest ≡ reduced q m given k ∷ left
reduced_same er en et el ep = λ i. reduced (er i) (en i) (et i) (ep i) ∷ el i

-- two reductions of one rule
reduces_by_rule : (t : Tables) (base : ℕ) (taken given rest left : List Entry) {r q n m p k : ℕ} {right other : List Sym} {s : List Entry} → r ≡ q → IsRule t.rules r n right → IsRule t.rules q m other → s ≡ taken ++ rest → s ≡ given ++ left → length taken ≡ length right → length given ≡ length other → goto_in t (top base rest) n ≡ Some p → goto_in t (top base left) m ≡ Some k → reduced r n taken p ∷ rest ≡ reduced q m given k ∷ left
reduces_by_rule t base taken given rest left {n = n} {right = right} e first second at too len many goto other_goto =
    let same = rule_once (subst (λ (l : ℕ). IsRule t.rules l n right) e first) second in
    let parts = same_parts taken rest given left (sym at ∙ too) (len ∙ ap length same.1 ∙ sym many) in
    reduced_same e same.0 parts.0 parts.1 (same_goto (sym goto ∙ ap (λ l. goto_in t (top base l) n) parts.1 ∙ ap (λ l. goto_in t (top base left) l) same.0 ∙ other_goto))

pub reduces_once : {t : Tables} {base a : ℕ} {s next other : List Entry} → Reduces t base a s next → Reduces t base a s other → next ≡ other
reduces_once {t} {base} (reduces taken rest act rule parts len goto at) (reduces given left other_act other_rule other_parts many other_goto too) =
    at ∙ reduces_by_rule t base taken given rest left (same_rule (sym act ∙ other_act)) rule other_rule parts other_parts len many goto other_goto ∙ sym too

pub act_of : {t : Tables} {base a : ℕ} {s next : List Entry} → Reduces t base a s next → (r : ℕ) × (act_in t (top base s) a ≡ Reduce r)
act_of (reduces {r = r} taken rest act rule parts len goto at) = (r, act)

pub compared : {t : Tables} {base : ℕ} {s first second : List Entry} {u v w : List TextToken} → Reaches t base s u first v → Reaches t base s u second w → Reaches t base first v second w ⊎ Reaches t base second w first v
compared here other = inl other
compared (after_reduction m more) here = inr (after_reduction m more)
compared {t} {base} (after_reduction {token = token} {u = u} {v = v} m more) (after_reduction {last = second} {v = w} n others) = compared more (subst (λ l. Reaches t base l (token ∷ u) second w) (reduces_once n m) others)
compared (after_reduction m more) (after_shift act others) = let red = act_of m in absurd (not_both (sym red.1 ∙ act))
compared (after_shift act more) here = inr (after_shift act more)
compared (after_shift act more) (after_reduction m others) = let red = act_of m in absurd (not_both (sym red.1 ∙ act))
compared {t} {base} (after_shift {s = s} {token = token} {u = u} act more) (after_shift {last = second} {v = w} other others) = compared more (subst (λ p. Reaches t base (shifted token p ∷ s) u second w) (same_target (sym other ∙ act)) others)

pub one_reduction_law : OneReductionLaw
one_reduction_law t base a s next other first second = reduces_once first second

pub one_run_law : OneRunLaw
one_run_law t base s first second u v w one two = compared one two

-- an error or an acceptance
abbrev Stops : Act → Type 0
Stops act = (act ≡ Error) ⊎ (act ≡ Accept)

no_shift : {act : Act} {p : ℕ} → Stops act → act ≡ Shift p → ⊥
no_shift (inl e) is = cc
no_shift (inr e) is = cc

no_reduction : {act : Act} {r : ℕ} → Stops act → act ≡ Reduce r → ⊥
no_reduction (inl e) is = cc
no_reduction (inr e) is = cc

same_first : {x y : TextToken} {xs ys : List TextToken} → x ∷ xs ≡ y ∷ ys → x ≡ y
same_first e = cc

same_rest : {x y : TextToken} {xs ys : List TextToken} → x ∷ xs ≡ y ∷ ys → xs ≡ ys
same_rest e = cc

-- nothing follows where the action stops
pub stops : {t : Tables} {base : ℕ} {s last : List Entry} {w v : List TextToken} → Reaches t base s w last v → (token : TextToken) (u : List TextToken) → w ≡ token ∷ u → Stops (act_in t (top base s) token.id) → (last ≡ s) × (v ≡ token ∷ u)
stops here token u e stop = (refl, e)
stops {t} {base} (after_reduction {s = s} m more) token u e stop =
    let red = act_of m in
    absurd (no_reduction stop (ap (λ (x : TextToken). act_in t (top base s) x.id) (sym (same_first e)) ∙ red.1))
stops {t} {base} (after_shift {s = s} act more) token u e stop =
    absurd (no_shift stop (ap (λ (x : TextToken). act_in t (top base s) x.id) (sym (same_first e)) ∙ act))

pub stop_law : StopLaw
stop_law t base s last token u v stop run = stops run token u refl stop

one_place : (before front : List TextToken) {token other : TextToken} {later back : List TextToken} → before ++ token ∷ later ≡ front ++ other ∷ back → token ∷ later ≡ other ∷ back → length before ≡ length front
one_place before front {token} {other} {later} {back} e same =
    let count = sym (length-append before (token ∷ later)) ∙ ap length e ∙ length-append front (other ∷ back) in
    let rest = ap length same in
    omega (arith, count, rest)

one_error : {t : Tables} {base : ℕ} {s : List Entry} {u : List TextToken} {index place : ℕ} {token other : TextToken} {state q : ℕ} (first : Errs t base s u index token state) (second : Errs t base s u place other q) → first.stack ≡ second.stack → token ∷ first.later ≡ other ∷ second.later → (index ≡ place) × (token ≡ other) × (state ≡ q)
one_error {base = base} first second stack rest = (
  sym first.at ∙ one_place first.before second.before (sym first.parts ∙ second.parts) rest ∙ second.at,
  same_first rest,
  sym first.state_on_top ∙ ap (top base) stack ∙ second.state_on_top,
)

pub errs_here : {t : Tables} {base : ℕ} {s : List Entry} {u : List TextToken} {index : ℕ} {token : TextToken} {state : ℕ} (errs : Errs t base s u index token state) → act_in t (top base errs.stack) token.id ≡ Error
errs_here {t} {token = token} errs = ap (λ q. act_in t q token.id) errs.state_on_top ∙ errs.error

pub one_error_law : OneErrorLaw
one_error_law t base s u index place token other state q first second = cases (compared first.reached second.reached)
  where
    cases : Reaches t base first.stack (token ∷ first.later) second.stack (other ∷ second.later) ⊎ Reaches t base second.stack (other ∷ second.later) first.stack (token ∷ first.later) → (index ≡ place) × (token ≡ other) × (state ≡ q)
    cases (inl run) = let still = stops run token first.later refl (inl (errs_here first)) in one_error first second (sym still.0) (sym still.1)
    cases (inr run) = let still = stops run other second.later refl (inl (errs_here second)) in one_error first second still.0 still.1

-- ---- one token ahead

pub run_length : {t : Tables} {base : ℕ} {s last : List Entry} {u v : List TextToken} → Reaches t base s u last v → length v ≤ length u
run_length here = omega arith
run_length (after_reduction m more) = run_length more
run_length (after_shift act more) = let less = run_length more in omega (arith, less)

pub another_rest : {t : Tables} {base : ℕ} {s last : List Entry} {u v : List TextToken} → Reaches t base s u last v → (front : List TextToken) (token : TextToken) (later other : List TextToken) → u ≡ front ++ token ∷ later → v ≡ token ∷ later → Reaches t base s (front ++ token ∷ other) last (token ∷ other)
another_rest here [] token later other e f = here
another_rest here (b ∷ front) token later other e f =
    let count = ap length (sym f ∙ e) in
    let parts = length-append front (token ∷ later) in
    absurd (omega (arith, count, parts))
another_rest {t} {base} (after_reduction {s = s} {next = next} m more) [] token later other e f =
    after_reduction (subst (λ (x : TextToken). Reduces t base x.id s next) (same_first e) m) (another_rest more [] token later other e f)
another_rest {t} {base} (after_reduction {s = s} {next = next} m more) (b ∷ front) token later other e f =
    after_reduction (subst (λ (x : TextToken). Reduces t base x.id s next) (same_first e) m) (another_rest more (b ∷ front) token later other e f)
another_rest (after_shift {u = u} act more) [] token later other e f =
    let less = run_length more in
    let count = ap length f in
    let rest = ap length (same_rest e) in
    absurd (omega (arith, less, count, rest))
another_rest {t} {base} (after_shift {s = s} {last = last} act more) (b ∷ front) token later other e f =
    subst (λ x. Reaches t base s (x ∷ (front ++ token ∷ other)) last (token ∷ other)) (same_first e) (after_shift act (another_rest more front token later other (same_rest e) f))

pub lookahead_law : LookaheadLaw
lookahead_law t base s last front later other token run = another_rest run front token later other refl refl
