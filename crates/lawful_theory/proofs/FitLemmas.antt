-- A reduction fits its stack: what its item says, what the machine does, and that no error follows.
use Rattle.std.proofs.Common.{◌≡◌, ◌≢◌, ℕ, ◌<◌, List, [], ◌∷◌, ◌++◌, length, Option, Some, None, refl, sym, ap, ◌∙◌, subst, lt_irrefl, append-nil}
use Rattle.grammar_data.specs.declared.rule.Sym.{Sym}
use Rattle.grammar_data.specs.declared.rule.Sym.TheVariants.{Name}
use Rattle.grammar_data.specs.declared.token.Token.{Token as TextToken}
use Rattle.grammar_data.specs.Grammar.{Rule, Grammar}
use Rattle.grammar_theory.specs.Rules.{IsRule, word, end_mark}
use Rattle.grammar_theory.specs.Trees.{NoTree, AreTrees, no_tree, token_tree, node_tree}
use Rattle.item_theory.specs.Items.{Item, Dotted, IsReached, all_rules, first_or, IsValid, valid, Deed, Does, shifts, reduces as item_reduces, accepts, Shift as to_shift, Reduce as to_reduce}
use Rattle.item_theory.proofs.ItemLemmas.{WhichRule, is_own, is_last, which_rule, dotted_once, own_rule}
use Rattle.next_theory.specs.ComingNext.{ComesNext}
use Rattle.next_theory.proofs.NextLemmas.{acts_of_next, next_close_law}
use Rattle.table_data.specs.declared.act.Act.{Act}
use Rattle.table_data.specs.declared.act.Act.TheVariants.{Shift, Reduce, Accept, Error}
use Rattle.table_data.specs.Tables.{Tables, act_in, goto_in, shift_of}
use Rattle.table_theory.specs.Canonical.{deed_of}
use Rattle.machine_theory.specs.Machine.{Entry, top, symbols, forest_onto, IsStack, pushed, reduced, Reduces, reduces, Reaches, here, after_reduction, after_shift}
use Rattle.machine_theory.proofs.RunLemmas.{act_of, reduces_once}
use Rattle.machine_theory.proofs.StackLemmas.{length-symbols, Cut, cut_at, cut, stack_below, trees_above}
use Rattle.lawful_theory.specs.Lawful.{IsLawfulFor}
use Rattle.lawful_theory.specs.Laws.{FitLaw, StacksStayLaw, NoLateErrorLaw}

-- ---- actions and what they do

pub shift_acts : (act : Act) → deed_of act ≡ Some to_shift → (p : ℕ) × (act ≡ Shift p)
shift_acts (Shift p) e = (p, refl)
shift_acts (Reduce r) e = absurd (cc)
shift_acts Accept e = absurd (cc)
shift_acts Error e = absurd (cc)

pub reduce_acts : (act : Act) (r : ℕ) → deed_of act ≡ Some (to_reduce r) → act ≡ Reduce r
reduce_acts (Shift p) r e = absurd (cc)
reduce_acts (Reduce q) r e = cc
reduce_acts Accept r e = absurd (cc)
reduce_acts Error r e = absurd (cc)

pub no_error : {act : Act} {deed : Deed} → deed_of act ≡ Some deed → act ≢ Error
no_error {deed = deed} does error = none_some (sym (ap deed_of error) ∙ does)
  where
    none_some : ◌≡◌ {A = Option Deed} None (Some deed) → ⊥
    none_some e = cc

-- what comes next behind a stack's symbols is no error
pub next_acts : {g : Grammar} {t : Tables} → IsLawfulFor g t → {s : List Entry} {a : ℕ} → IsStack t 0 s → ComesNext g (symbols s) a → act_in t (top 0 s) a ≢ Error
next_acts {g} lawful {s = s} {a = a} is next =
    let acts = acts_of_next g lawful.range next in
    no_error ((lawful.acts s a is acts.1).1 (acts.0, acts.2, acts.3))

-- ---- the item of a reduction

-- a rule of the grammar is read behind some symbols, and the token is its lookahead
pub record IsRead (g : Grammar) (xs : List Sym) (a r : ℕ) : Type 0 where
  pub name : ℕ
  pub right : List Sym
  pub front : List Sym
  pub ahead : List ℕ
  pub rule : IsRule g.rules r name right
  pub reached : IsReached g (front ++ Name name ∷ word ahead)
  pub first : a ≡ first_or (end_mark g) ahead
  pub parts : xs ≡ front ++ right

own_by_number : (g : Grammar) {r n : ℕ} {right : List Sym} → r < length g.rules → WhichRule g r n right → IsRule g.rules r n right
own_by_number g less (is_own own) = own
own_by_number g less (is_last at left e) = absurd (lt_irrefl (length g.rules) (subst (λ k. k < length g.rules) at less))

read_parts : (g : Grammar) {xs : List Sym} {i : Item} {a r n : ℕ} {before : List Sym} → Dotted g i n before [] → i.rule < length g.rules → i.ahead ≡ a → r ≡ i.rule → IsValid g xs i → IsRead g xs a r
read_parts g {xs} {i} {a} {r} {n} {before} dotted less ahead e (valid m front head tail w reached place first at) =
    let same = dotted_once dotted place in
    let own : IsRule g.rules i.rule n (before ++ []) = own_by_number g less (which_rule g dotted.rule) in
    record {
      name = n;
      right = before;
      front = front;
      ahead = w;
      rule = subst (λ (k : ℕ). IsRule g.rules k n before) (sym e) (subst (λ l. IsRule g.rules i.rule n l) (append-nil before) own);
      reached = subst (λ k. IsReached g (front ++ Name k ∷ word w)) (sym same.0) reached;
      first = sym ahead ∙ first;
      parts = at ∙ ap (λ l. front ++ l) (sym same.1);
    }

same_deed : {r q : ℕ} → to_reduce r ≡ to_reduce q → r ≡ q
same_deed e = cc

read_by_deed : (g : Grammar) {xs : List Sym} {i : Item} {a r : ℕ} {deed : Deed} → IsValid g xs i → Does g i a deed → deed ≡ to_reduce r → IsRead g xs a r
read_by_deed g v (shifts dotted) e = absurd (cc)
read_by_deed g v (item_reduces dotted less ahead is) e = read_parts g dotted less ahead (same_deed (sym e ∙ is)) v
read_by_deed g v (accepts dotted last at) e = absurd (cc)

-- ---- the reduction

-- the machine reduces by the rule: what it takes, what it goes to, and what comes next
pub record IsReduced (g : Grammar) (t : Tables) (s : List Entry) (a r : ℕ) : Type 0 where
  pub name : ℕ
  pub right : List Sym
  pub taken : List Entry
  pub rest : List Entry
  pub state : ℕ
  pub rule : IsRule t.rules r name right
  pub own : IsRule g.rules r name right
  pub parts : s ≡ taken ++ rest
  pub same : symbols taken ≡ right
  pub goes : goto_in t (top 0 rest) name ≡ Some state
  pub move : Reduces t 0 a s (reduced r name taken state ∷ rest)
  pub stack : IsStack t 0 (reduced r name taken state ∷ rest)
  pub next : ComesNext g (symbols rest ++ Name name ∷ []) a
  pub ahead : List ℕ
  pub reached : IsReached g (symbols rest ++ Name name ∷ word ahead)
  pub first : a ≡ first_or (end_mark g) ahead

module _ {g : Grammar} {t : Tables} (lawful : IsLawfulFor g t) where
  reduced_at : {s : List Entry} {a r : ℕ} (read : IsRead g (symbols s) a r) (v : IsValid g (symbols s) (record { rule = r; dot = length read.right; ahead = a })) → IsStack t 0 s → act_in t (top 0 s) a ≡ Reduce r → Cut s read.front read.right → IsReduced g t s a r
  reduced_at {s} {a} {r} read v is act (cut_at taken rest parts below above) =
      let rule : IsRule t.rules r read.name read.right = subst (λ (l : List Rule). IsRule l r read.name read.right) (sym lawful.rules) read.rule in
      let whole : IsStack t 0 (taken ++ rest) = subst (λ l. IsStack t 0 l) parts is in
      let lower : IsStack t 0 rest = stack_below taken rest whole in
      let behind : ComesNext g (read.front ++ Name read.name ∷ []) a = next_close_law g lawful.range read.front read.right read.name r a read.rule (subst (λ l. IsValid g l (record { rule = r; dot = length read.right; ahead = a })) read.parts v) in
      let next : ComesNext g (symbols rest ++ Name read.name ∷ []) a = subst (λ l. ComesNext g (l ++ Name read.name ∷ []) a) (sym below) behind in
      let along = (lawful.steps rest (Name read.name) lower).1 (next.item, next.is_valid) in
      let trees : AreTrees t.rules read.right (forest_onto taken NoTree) = subst (λ l. AreTrees t.rules l (forest_onto taken NoTree)) (append-nil (symbols taken) ∙ above) (trees_above taken rest whole no_tree) in
      record {
        name = read.name;
        right = read.right;
        taken = taken;
        rest = rest;
        state = along.0;
        rule = rule;
        own = read.rule;
        parts = parts;
        same = above;
        goes = along.1;
        move = reduces taken rest act rule parts (sym (length-symbols taken) ∙ ap length above) along.1 refl;
        stack = pushed lower (node_tree rule trees) along.1;
        next = next;
        ahead = read.ahead;
        reached = subst (λ l. IsReached g (l ++ Name read.name ∷ word read.ahead)) (sym below) read.reached;
        first = read.first;
      }

  read_valid : {xs : List Sym} {a r : ℕ} (read : IsRead g xs a r) → IsValid g xs (record { rule = r; dot = length read.right; ahead = a })
  read_valid {xs} {a} {r} read = valid read.name read.front read.right [] read.ahead read.reached (record { rule = subst (λ l. IsRule (all_rules g) r read.name l) (sym (append-nil read.right)) (own_rule g read.rule); dot = refl }) read.first read.parts

  pub reduction : {s : List Entry} {a r : ℕ} → IsStack t 0 s → act_in t (top 0 s) a ≡ Reduce r → IsReduced g t s a r
  reduction {s} {a} {r} is act =
      let deed = (lawful.acts s a is (to_reduce r)).0 (ap deed_of act) in
      let read : IsRead g (symbols s) a r = read_by_deed g deed.1 deed.2 refl in
      reduced_at read (read_valid read) is act (cut s read.front read.right read.parts)

  pub next_stack : {s next : List Entry} {a : ℕ} → IsStack t 0 s → Reduces t 0 a s next → IsStack t 0 next
  next_stack is m =
      let act = act_of m in
      let by = reduction is act.1 in
      subst (λ l. IsStack t 0 l) (reduces_once by.move m) by.stack

  pub run_stack : {s last : List Entry} {u v : List TextToken} → Reaches t 0 s u last v → IsStack t 0 s → IsStack t 0 last
  run_stack here is = is
  run_stack (after_reduction m more) is = run_stack more (next_stack is m)
  run_stack (after_shift act more) is = run_stack more (pushed is (token_tree refl) (ap shift_of act))

  pub no_late_error : {s next : List Entry} {a : ℕ} → IsStack t 0 s → Reduces t 0 a s next → act_in t (top 0 next) a ≢ Error
  no_late_error {a = a} is m =
      let act = act_of m in
      let by = reduction is act.1 in
      subst (λ l. act_in t (top 0 l) a ≢ Error) (reduces_once by.move m) (next_acts lawful by.stack by.next)

pub fit_law : FitLaw
fit_law g t lawful s a r is act =
    let by = reduction lawful is act in
    record { name = by.name; right = by.right; taken = by.taken; rest = by.rest; state = by.state; rule = by.rule; parts = by.parts; same = by.same; goes = by.goes }

pub stacks_stay_law : StacksStayLaw
stacks_stay_law g t lawful s last u v is run = run_stack lawful run is

pub no_late_error_law : NoLateErrorLaw
no_late_error_law g t lawful s next a is m = no_late_error lawful is m
