-- A piece, applied to a stack, has one result.
use Rattle.std.proofs.Common.{◌≡◌, ℕ, List, [], ◌∷◌, ◌++◌, Option, Some, None, refl, sym, ap, ◌∙◌, subst}
use Rattle.grammar_data.specs.declared.rule.Sym.{Sym}
use Rattle.grammar_data.specs.declared.rule.Sym.TheVariants.{Name}
use Rattle.grammar_data.specs.Grammar.{Rule}
use Rattle.grammar_theory.specs.Rules.{IsRule}
use Rattle.grammar_theory.proofs.RuleLemmas.{rule_once, same_parts}
use Rattle.node_data.specs.declared.kid.Kid.{Kid}
use Rattle.tree_theory.specs.Stores.{Store, Supply, IsSupply}
use Rattle.tree_theory.proofs.ShownLemmas.{some_pair, one_shown_law}
use Rattle.machine_theory.specs.Machine.{Entry, top}
use Rattle.piece_theory.specs.Pieces.{Fault, Floor, Held, fault_at}
use Rattle.piece_theory.specs.Applies.{HasSymbol, token_symbol, node_symbol, nowhere, supply_of, Falls, through, falls, Fails, fails_here, fails_below, Puts, put_all, puts}
use Rattle.piece_theory.specs.Laws.{OneFallLaw, OneFaultLaw, FallsOrFailsLaw, OnePutLaw}

same_fault : {x y : Fault} → ◌≡◌ {A = Option Fault} (Some x) (Some y) → x ≡ y
same_fault e = cc

same_state : {p q : ℕ} → ◌≡◌ {A = Option ℕ} (Some p) (Some q) → p ≡ q
same_state e = cc

some_and_none : {x : Fault} {o : Option Fault} → o ≡ Some x → o ≡ None → ⊥
some_and_none e f = no_some (sym e ∙ f)
  where
    no_some : {x : Fault} → ◌≡◌ {A = Option Fault} (Some x) None → ⊥
    no_some e = cc

-- ---- floors

pub falls_once : {fs : List Floor} {s rest : List Entry} {supply : Supply} → Falls fs s rest supply → {other : List Entry} {more : Supply} → Falls fs s other more → (rest ≡ other) × (supply ≡ more)
falls_once through through = (refl, refl)
falls_once (falls {f = f} {fs = fs} taken below parts count clear go at) {other} (falls {given = given} taken1 below1 parts1 count1 clear1 go1 at1) =
    let same = same_parts taken below taken1 below1 (sym parts ∙ parts1) (count ∙ sym count1) in
    let inner = falls_once go (subst (λ b. Falls fs b other given) (sym same.1) go1) in
    let whole : supply_of f.opened taken ++ _ ≡ supply_of f.opened taken1 ++ given = λ i. supply_of f.opened (same.0 i) ++ inner.1 i in
    (inner.0, at ∙ whole ∙ sym at1)

pub fails_once : {fs : List Floor} {s : List Entry} {fault : Fault} → Fails fs s fault → {other : Fault} → Fails fs s other → fault ≡ other
fails_once (fails_here {f = f} taken below parts count is) (fails_here taken1 below1 parts1 count1 is1) =
    let same = same_parts taken below taken1 below1 (sym parts ∙ parts1) (count ∙ sym count1) in
    same_fault (sym is ∙ ap (λ b. fault_at f.faults (top 0 b)) same.1 ∙ is1)
fails_once (fails_here {f = f} taken below parts count is) (fails_below taken1 below1 parts1 count1 clear more) =
    let same = same_parts taken below taken1 below1 (sym parts ∙ parts1) (count ∙ sym count1) in
    absurd (some_and_none is (ap (λ b. fault_at f.faults (top 0 b)) same.1 ∙ clear))
fails_once (fails_below {f = f} taken below parts count clear more) (fails_here taken1 below1 parts1 count1 is) =
    let same = same_parts taken below taken1 below1 (sym parts ∙ parts1) (count ∙ sym count1) in
    absurd (some_and_none is (ap (λ b. fault_at f.faults (top 0 b)) (sym same.1) ∙ clear))
fails_once (fails_below {fs = fs} taken below parts count clear more) {other} (fails_below taken1 below1 parts1 count1 clear1 more1) =
    let same = same_parts taken below taken1 below1 (sym parts ∙ parts1) (count ∙ sym count1) in
    fails_once more (subst (λ b. Fails fs b other) (sym same.1) more1)

no_floor : {s : List Entry} {fault : Fault} → Fails [] s fault → ⊥
no_floor fails = elim fails [ ]

pub falls_not_fails : {fs : List Floor} {s rest : List Entry} {supply : Supply} → Falls fs s rest supply → {fault : Fault} → Fails fs s fault → ⊥
falls_not_fails through fails = no_floor fails
falls_not_fails (falls {f = f} taken below parts count clear go at) (fails_here taken1 below1 parts1 count1 is) =
    let same = same_parts taken below taken1 below1 (sym parts ∙ parts1) (count ∙ sym count1) in
    some_and_none is (ap (λ b. fault_at f.faults (top 0 b)) (sym same.1) ∙ clear)
falls_not_fails (falls {fs = fs} taken below parts count clear go at) {fault} (fails_below taken1 below1 parts1 count1 clear1 more) =
    let same = same_parts taken below taken1 below1 (sym parts ∙ parts1) (count ∙ sym count1) in
    falls_not_fails go (subst (λ b. Fails fs b fault) (sym same.1) more)

pub one_fall_law : OneFallLaw
one_fall_law fs s rest other supply more first second = falls_once first second

pub one_fault_law : OneFaultLaw
one_fault_law fs s fault other first second = fails_once first second

pub falls_or_fails_law : FallsOrFailsLaw
falls_or_fails_law fs s rest supply fault down fails = falls_not_fails down fails

-- ---- entries

pub symbol_once : {rules : List Rule} {store : Store} {kid : Kid} {x : Sym} → HasSymbol rules store kid x → {y : Sym} → HasSymbol rules store kid y → x ≡ y
symbol_once token_symbol token_symbol = refl
symbol_once {rules} (node_symbol {n = n} {right = right} kids at rule) (node_symbol {right = right1} kids1 at1 rule1) =
    let same = some_pair (sym at ∙ at1) in
    let names = rule_once (subst (λ (l : ℕ). IsRule rules l n right) same.0 rule) rule1 in
    ap Name names.0

pub put_once : {rules : List Rule} {store : Store} {supply : Supply} {q : ℕ} → IsSupply supply → {hs : List Held} {s last : List Entry} → Puts rules store supply q hs s last → {other : List Entry} → Puts rules store supply q hs s other → last ≡ other
put_once once put_all put_all = refl
put_once {rules} {store} {supply} {q} once (puts {h = h} {hs = hs} {s = s} {x = x} {tree = tree} {p = p} symbol shown to more) {other} (puts {x = x1} {tree = tree1} {p = p1} symbol1 shown1 to1 more1) =
    let ex = symbol_once symbol symbol1 in
    let et = one_shown_law store supply once nowhere 0 h.kid tree tree1 shown shown1 in
    let ep : p ≡ p1 = same_state (sym to ∙ to1) in
    let entry : ◌≡◌ {A = Entry} (record { symbol = x; tree = tree; state = p }) (record { symbol = x1; tree = tree1; state = p1 }) = λ i. record { symbol = ex i; tree = et i; state = ep i } in
    put_once once more (subst (λ e. Puts rules store supply q hs (e ∷ s) other) (sym entry) more1)

pub one_put_law : OnePutLaw
one_put_law rules store supply once q hs s last other first second = put_once once first second
