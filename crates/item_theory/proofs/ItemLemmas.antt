-- Items, their parts, and the rules that they have.
use Rattle.std.proofs.Common.{◌≡◌, ℕ, ◌+◌, ◌<◌, ◌≤◌, List, [], ◌∷◌, ◌++◌, length, slice_get, Some, refl, sym, ap, ◌∙◌, subst, inl, inr, ◌⊎◌, append_assoc, arith}
use Rattle.std.proofs.lemmas.List.{length_push}
use Rattle.std.proofs.lemmas.Option.{slice_get_within}
use Rattle.grammar_data.specs.declared.rule.Sym.{Sym}
use Rattle.grammar_data.specs.declared.rule.Sym.TheVariants.{Token, Name}
use Rattle.grammar_data.specs.Grammar.{Grammar}
use Rattle.grammar_theory.specs.Rules.{IsRule, IsInRange, NamesBelow, TokensBelow}
use Rattle.grammar_theory.specs.Derivations.{Derives, done, token_first, name_first}
use Rattle.grammar_theory.proofs.DerivationLemmas.{rule_kept, derives_more}
use Rattle.grammar_theory.proofs.RuleLemmas.{rule_once, slice_get_last, slice_get_cases, same_parts}
use Rattle.item_theory.specs.Items.{Item, Dotted, augmented_rule, all_rules, Deed, Does, shifts, reduces, accepts}
use Rattle.item_theory.specs.Chains.{first_item}

-- a rule of the grammar is one of all
pub own_rule : (g : Grammar) {r n : ℕ} {right : List Sym} → IsRule g.rules r n right → IsRule (all_rules g) r n right
own_rule g rule = rule_kept g.rules (augmented_rule g ∷ []) rule

pub last_rule : (g : Grammar) → IsRule (all_rules g) (length g.rules) g.names (Name g.start ∷ [])
last_rule g = record { found = slice_get_last g.rules (augmented_rule g) }

-- a rule of all is one of the grammar, or the augmented one
pub data WhichRule (g : Grammar) (r n : ℕ) (right : List Sym) : Type 0 where
  is_own : IsRule g.rules r n right → WhichRule g r n right
  is_last : r ≡ length g.rules → n ≡ g.names → right ≡ Name g.start ∷ [] → WhichRule g r n right

pub which_rule : (g : Grammar) {r n : ℕ} {right : List Sym} → IsRule (all_rules g) r n right → WhichRule g r n right
which_rule g {r = r} {n = n} {right = right} rule = cases (slice_get_cases g.rules (augmented_rule g) (n, right) r rule.found)
  where
    cases : (slice_get g.rules r ≡ Some (n, right)) ⊎ ((r ≡ length g.rules) × (augmented_rule g ≡ (n, right))) → WhichRule g r n right
    cases (inl found) = is_own (record { found = found })
    cases (inr last) = is_last last.0 (sym (ap (λ q. q.0) last.1)) (sym (ap (λ q. q.1) last.1))

-- a rule of a name that the grammar has is one of the grammar
pub rule_of_name : (g : Grammar) {r n : ℕ} {right : List Sym} → n < g.names → IsRule (all_rules g) r n right → IsRule g.rules r n right
rule_of_name g {r = r} {n = n} {right = right} below rule = cases (which_rule g rule)
  where
    cases : WhichRule g r n right → IsRule g.rules r n right
    cases (is_own own) = own
    cases (is_last at left e) = absurd (omega arith)

pub right_names : (g : Grammar) → IsInRange g → {r n : ℕ} {right : List Sym} → IsRule (all_rules g) r n right → NamesBelow g.names right
right_names g range {r = r} {n = n} {right = right} rule = cases (which_rule g rule)
  where
    cases : WhichRule g r n right → NamesBelow g.names right
    cases (is_own own) = range.names r n right own
    cases (is_last at left e) = subst (λ l. NamesBelow g.names l) (sym e) (range.start, tt)

pub right_tokens : (g : Grammar) → IsInRange g → {r n : ℕ} {right : List Sym} → IsRule (all_rules g) r n right → TokensBelow g.tokens right
right_tokens g range {r = r} {n = n} {right = right} rule = cases (which_rule g rule)
  where
    cases : WhichRule g r n right → TokensBelow g.tokens right
    cases (is_own own) = range.tokens r n right own
    cases (is_last at left e) = subst (λ l. TokensBelow g.tokens l) (sym e) tt

-- what symbols derive by all rules, they derive by the grammar's
pub derives_own : (g : Grammar) → IsInRange g → {xs : List Sym} {w : List ℕ} → NamesBelow g.names xs → Derives (all_rules g) xs w → Derives g.rules xs w
derives_own g range below done = done
derives_own g range below (token_first d) = token_first (derives_own g range below d)
derives_own g range below (name_first {n = n} {r = r} {right = right} rule d rest at) =
    name_first (rule_of_name g below.0 rule) (derives_own g range (right_names g range rule) d) (derives_own g range below.1 rest) at

pub derives_all : (g : Grammar) {xs : List Sym} {w : List ℕ} → Derives g.rules xs w → Derives (all_rules g) xs w
derives_all g d = derives_more (λ r n right rule. own_rule g rule) d

-- ---- an item's parts

pub dotted_once : {g : Grammar} {i : Item} {n m : ℕ} {before after front back : List Sym} → Dotted g i n before after → Dotted g i m front back → (n ≡ m) × (before ≡ front) × (after ≡ back)
dotted_once {before = before} {after = after} {front = front} {back = back} first second =
    let same = rule_once first.rule second.rule in
    let parts = same_parts before after front back same.1 (sym first.dot ∙ second.dot) in
    (same.0, parts.0, parts.1)

pub item_same : {i j : Item} → i.rule ≡ j.rule → i.dot ≡ j.dot → i.ahead ≡ j.ahead → i ≡ j
item_same rule dot ahead = λ k. record { rule = rule k; dot = dot k; ahead = ahead k }

-- the dot one symbol on
abbrev pub moved : Item → Item
moved i = record i { dot = i.dot + 1 }

pub dotted_moved : {g : Grammar} {i : Item} {n : ℕ} {x : Sym} {after : List Sym} (before : List Sym) → Dotted g i n before (x ∷ after) → Dotted g (moved i) n (before ++ x ∷ []) after
dotted_moved {g} {i} {n} {x} {after} before dotted = record {
  rule = subst (λ l. IsRule (all_rules g) i.rule n l) (sym (append_assoc before (x ∷ []) after)) dotted.rule;
  dot = ap (λ d. d + 1) dotted.dot ∙ sym (length_push before x);
}

pub dotted_first : (g : Grammar) → Dotted g (first_item g) g.names [] (Name g.start ∷ [])
dotted_first g = record { rule = last_rule g; dot = refl }

-- the item of a rule with the dot in front
pub dotted_front : {g : Grammar} {i : Item} {n : ℕ} {right : List Sym} → IsRule (all_rules g) i.rule n right → i.dot ≡ 0 → Dotted g i n [] right
dotted_front rule e = record { rule = rule; dot = e }

pub rule_in_range : (g : Grammar) {i : Item} {n : ℕ} {before after : List Sym} → Dotted g i n before after → i.rule ≤ length g.rules
rule_in_range g {i = i} {n = n} {before = before} {after = after} dotted =
    let less = slice_get_within (all_rules g) i.rule (n, before ++ after) dotted.rule.found in
    let len = length_push g.rules (augmented_rule g) in
    omega arith

-- ---- what an item does

nil_cons : {X : Type 0} {x : X} {xs : List X} → [] ≡ x ∷ xs → ⊥
nil_cons e = cc

shift_or_end : {g : Grammar} {i : Item} {n m a : ℕ} {before after front : List Sym} → Dotted g i n before (Token a ∷ after) → Dotted g i m front [] → ⊥
shift_or_end first second = nil_cons (sym (dotted_once first second).2)

pub one_deed : {g : Grammar} {i : Item} {a : ℕ} {first second : Deed} → Does g i a first → Does g i a second → first ≡ second
one_deed (shifts d) (shifts e) = refl
one_deed (shifts d) (reduces e less at is) = absurd (shift_or_end d e)
one_deed (shifts d) (accepts e at is) = absurd (shift_or_end d e)
one_deed (reduces d less at is) (shifts e) = absurd (shift_or_end e d)
one_deed (reduces d less at is) (reduces e less_too at_too is_too) = is ∙ sym is_too
one_deed (reduces d less at is) (accepts e last end) = absurd (omega arith)
one_deed (accepts d last end) (shifts e) = absurd (shift_or_end e d)
one_deed (accepts d last end) (reduces e less at is) = absurd (omega arith)
one_deed (accepts d last end) (accepts e last_too end_too) = refl
