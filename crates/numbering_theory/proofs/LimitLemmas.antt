-- The first limit that is passed.
use Rattle.std.proofs.Common.{◌≡◌, ℕ, ◌+◌, ◌*◌, ◌<◌, ◌≤◌, List, [], ◌∷◌, ◌++◌, length, Bool, true, false, refl, sym, ap, subst, ◌∙◌, arith, inr}
use Rattle.std.specs.Prelude.{sum_by, Some, None, Result, Ok, Err, nat_lt, if◌then◌else◌}
use Rattle.std.proofs.lemmas.Bool.Decides.{nat_tests}
use Rattle.std.proofs.lemmas.Option.{none-some}
use Rattle.std.proofs.lemmas.List.Sums.{sum_by-cons}
use Rattle.grammar_data.specs.Grammar.{Rule}
use Rattle.lr_base.specs.IsGrammar.{symbols_of}
use Rattle.scanning_theory.specs.declared.limits.TheConstants.{POSITIONS}
use Rattle.sheet_data.specs.declared.parts.Decl.{Decl}
use Rattle.outline_data.specs.declared.fault.LimitKind.{LimitKind}
use Rattle.outline_data.specs.declared.fault.LimitKind.TheVariants.{Tokens, Skips, Names, Rules, RightSide, Symbols, Positions}
use Rattle.outline_data.specs.declared.fault.SheetFault.{SheetFault}
use Rattle.outline_theory.specs.Limits.{Measure, first_passed, skips_in, positions_in, long_side}
use Rattle.outline_theory.specs.Numbering.{WordLists}
use Rattle.numbering_theory.specs.KnownWords.{unnamed_in}
use Rattle.numbering_theory.specs.Passing.{IsFirstOf, Keeps, one_measure, word_measures, rule_measures, position_measures, all_measures, IsFirstFaultOf}

passed_by : (m : Measure) (ms : List Measure) (b : Bool) → nat_lt m.most m.count ≡ b → first_passed (m ∷ ms) ≡ (if b then Some m else first_passed ms)
passed_by m ms b e = ap (λ x. if x then Some m else first_passed ms) e

not_here : (m : Measure) (ms : List Measure) (b : Bool) → nat_lt m.most m.count ≡ b → first_passed (m ∷ []) ≡ None → first_passed (m ∷ ms) ≡ first_passed ms
not_here m ms true e none = absurd (none-some m (sym none ∙ passed_by m [] true e))
not_here m ms false e none = passed_by m ms false e

abbrev measure : LimitKind → ℕ → ℕ → Measure
measure kind count most = record { kind = kind; count = count; most = most }

pub passed_later : {A : Type 0} (kind : LimitKind) (n count most : ℕ) (ms : List Measure) (r : Result A SheetFault) → n ≡ count → first_passed (one_measure kind n most) ≡ None → Keeps ms r → Keeps (measure kind count most ∷ ms) r
passed_later kind n count most ms (Ok a) same none keeps =
    not_here (measure kind count most) ms (nat_lt most count) refl (subst (λ k. first_passed (one_measure kind k most) ≡ None) same none) ∙ keeps
passed_later kind n count most ms (Err fault) same none keeps = record {
  measure = keeps.measure;
  passed = not_here (measure kind count most) ms (nat_lt most count) refl (subst (λ k. first_passed (one_measure kind k most) ≡ None) same none) ∙ keeps.passed;
  is = keeps.is;
}

-- what isn't passed
pub at_most : (kind : LimitKind) (count most : ℕ) (ms : List Measure) → first_passed (measure kind count most ∷ ms) ≡ None → (b : Bool) → nat_lt most count ≡ b → count ≤ most
at_most kind count most ms none true e = absurd (none-some (measure kind count most) (sym none ∙ passed_by (measure kind count most) ms true e))
at_most kind count most ms none false e = grind (arith, nat_tests)

pub rest_keeps : (kind : LimitKind) (count most : ℕ) (ms : List Measure) → first_passed (measure kind count most ∷ ms) ≡ None → (b : Bool) → nat_lt most count ≡ b → first_passed ms ≡ None
rest_keeps kind count most ms none true e = absurd (none-some (measure kind count most) (sym none ∙ passed_by (measure kind count most) ms true e))
rest_keeps kind count most ms none false e = sym (passed_by (measure kind count most) ms false e) ∙ none

-- short right sides have few symbols
long_by : (rule : Rule) (rules : List Rule) (b : Bool) → nat_lt 20 (length rule.1) ≡ b → long_side (rule ∷ rules) ≡ (if b then length rule.1 else long_side rules)
long_by rule rules b e = ap (λ x. if x then length rule.1 else long_side rules) e

short_by : (rule : Rule) (rules : List Rule) (b : Bool) → nat_lt 20 (length rule.1) ≡ b → long_side (rule ∷ rules) ≤ 20 → (length rule.1 ≤ 20) × (long_side rules ≤ 20)
short_by rule rules true e short =
    let here : long_side (rule ∷ rules) ≡ length rule.1 = long_by rule rules true e in
    let long : 20 < length rule.1 = grind (arith, nat_tests) in
    absurd (omega arith)
short_by rule rules false e short =
    let here : long_side (rule ∷ rules) ≡ long_side rules = long_by rule rules false e in
    (grind (arith, nat_tests), omega arith)

pub short_first : (rule : Rule) (rules : List Rule) → long_side (rule ∷ rules) ≤ 20 → (length rule.1 ≤ 20) × (long_side rules ≤ 20)
short_first rule rules short = short_by rule rules (nat_lt 20 (length rule.1)) refl short

pub few_symbols : (rules : List Rule) → long_side rules ≤ 20 → symbols_of rules ≤ 20 * length rules
few_symbols [] short = omega arith
few_symbols (rule ∷ rules) short =
    let parts = short_first rule rules short in
    let rest : symbols_of rules ≤ 20 * length rules = few_symbols rules parts.1 in
    let here : length rule.1 ≤ 20 = parts.0 in
    let sum : symbols_of (rule ∷ rules) ≡ length rule.1 + symbols_of rules = sum_by-cons (λ (r : Rule). length r.1) rule rules in
    omega arith

pub passed_one : (kind : LimitKind) (count most : ℕ) (b : Bool) → nat_lt most count ≡ b → most < count → first_passed (one_measure kind count most) ≡ Some (measure kind count most)
passed_one kind count most true e over = passed_by (measure kind count most) [] true e
passed_one kind count most false e over =
    let within : count ≤ most = grind (arith, nat_tests) in
    absurd (omega arith)

-- limits before others, and behind them
more_by : (m : Measure) (ms more : List Measure) (n : Measure) (b : Bool) → nat_lt m.most m.count ≡ b → (first_passed ms ≡ Some n → first_passed (ms ++ more) ≡ Some n) → first_passed (m ∷ ms) ≡ Some n → first_passed (m ∷ (ms ++ more)) ≡ Some n
more_by m ms more n true e rest passed = passed_by m (ms ++ more) true e ∙ sym (passed_by m ms true e) ∙ passed
more_by m ms more n false e rest passed = passed_by m (ms ++ more) false e ∙ rest (sym (passed_by m ms false e) ∙ passed)

passed_more : (ms more : List Measure) (n : Measure) → first_passed ms ≡ Some n → first_passed (ms ++ more) ≡ Some n
passed_more [] more n passed = absurd (none-some n passed)
passed_more (m ∷ ms) more n passed = more_by m ms more n (nat_lt m.most m.count) refl (passed_more ms more n) passed

pub first_more : (ms more : List Measure) (fault : SheetFault) → IsFirstOf ms fault → IsFirstOf (ms ++ more) fault
first_more ms more fault h = record { measure = h.measure; passed = passed_more ms more h.measure h.passed; is = h.is }

behind_by : (m : Measure) (ms more : List Measure) (b : Bool) → nat_lt m.most m.count ≡ b → (first_passed ms ≡ None → first_passed (ms ++ more) ≡ first_passed more) → first_passed (m ∷ ms) ≡ None → first_passed (m ∷ (ms ++ more)) ≡ first_passed more
behind_by m ms more true e rest none = absurd (none-some m (sym none ∙ passed_by m ms true e))
behind_by m ms more false e rest none = passed_by m (ms ++ more) false e ∙ rest (sym (passed_by m ms false e) ∙ none)

pub passed_behind : (ms more : List Measure) → first_passed ms ≡ None → first_passed (ms ++ more) ≡ first_passed more
passed_behind [] more none = refl
passed_behind (m ∷ ms) more none = behind_by m ms more (nat_lt m.most m.count) refl (passed_behind ms more) none

-- by the place of the fault
pub words_passed : (lists : WordLists) (decls : List Decl) (rules : List Rule) (fault : SheetFault) → IsFirstOf (word_measures lists decls) fault → IsFirstFaultOf (all_measures lists decls rules) fault
words_passed lists decls rules fault h = inr (first_more (word_measures lists decls) (rule_measures rules ++ position_measures lists decls) fault h)

pub rules_passed : (lists : WordLists) (decls : List Decl) (rules : List Rule) (fault : SheetFault) → first_passed (word_measures lists decls) ≡ None → IsFirstOf (rule_measures rules) fault → IsFirstFaultOf (all_measures lists decls rules) fault
rules_passed lists decls rules fault words h =
    let more = first_more (rule_measures rules) (position_measures lists decls) fault h in
    inr (record { measure = more.measure; passed = passed_behind (word_measures lists decls) (rule_measures rules ++ position_measures lists decls) words ∙ more.passed; is = more.is })

pub positions_passed : (lists : WordLists) (decls : List Decl) (rules : List Rule) (fault : SheetFault) → first_passed (word_measures lists decls) ≡ None → first_passed (rule_measures rules) ≡ None → IsFirstOf (position_measures lists decls) fault → IsFirstFaultOf (all_measures lists decls rules) fault
positions_passed lists decls rules fault words within h =
    inr (record { measure = h.measure; passed = passed_behind (word_measures lists decls) (rule_measures rules ++ position_measures lists decls) words ∙ passed_behind (rule_measures rules) (position_measures lists decls) within ∙ h.passed; is = h.is })

pub none_passed : (lists : WordLists) (decls : List Decl) (rules : List Rule) → first_passed (word_measures lists decls) ≡ None → first_passed (rule_measures rules) ≡ None → first_passed (position_measures lists decls) ≡ None → first_passed (all_measures lists decls rules) ≡ None
none_passed lists decls rules words within positions =
    passed_behind (word_measures lists decls) (rule_measures rules ++ position_measures lists decls) words ∙ passed_behind (rule_measures rules) (position_measures lists decls) within ∙ positions

-- what the quantities are at most where none passes its limit
pub record AreWithin (lists : WordLists) (decls : List Decl) (rules : List Rule) : Type 0 where
  pub few_tokens : length lists.literals ≤ 250
  pub few_skips : sum_by skips_in decls ≤ 50
  pub few_names : length lists.names ≤ 500
  pub few_rules : length rules ≤ 1000
  pub short_sides : long_side rules ≤ 20
  pub few_symbols : symbols_of rules ≤ 4000
  pub few_positions : sum_by positions_in decls + sum_by length (unnamed_in lists) ≤ POSITIONS

pub none_over : (lists : WordLists) (decls : List Decl) (rules : List Rule) → first_passed (all_measures lists decls rules) ≡ None → AreWithin lists decls rules
none_over lists decls rules none =
    let tokens = length lists.literals in
    let skips = sum_by skips_in decls in
    let names = length lists.names in
    let positions = sum_by positions_in decls + sum_by length (unnamed_in lists) in
    let symbols_on : List Measure = measure Symbols (symbols_of rules) 4000 ∷ position_measures lists decls in
    let sides_on : List Measure = measure RightSide (long_side rules) 20 ∷ symbols_on in
    let rules_on : List Measure = measure Rules (length rules) 1000 ∷ sides_on in
    let names_on : List Measure = measure Names names 500 ∷ rules_on in
    let skips_on : List Measure = measure Skips skips 50 ∷ names_on in
    let behind_tokens = rest_keeps Tokens tokens 250 skips_on none (nat_lt 250 tokens) refl in
    let behind_skips = rest_keeps Skips skips 50 names_on behind_tokens (nat_lt 50 skips) refl in
    let behind_names = rest_keeps Names names 500 rules_on behind_skips (nat_lt 500 names) refl in
    let behind_rules = rest_keeps Rules (length rules) 1000 sides_on behind_names (nat_lt 1000 (length rules)) refl in
    let behind_sides = rest_keeps RightSide (long_side rules) 20 symbols_on behind_rules (nat_lt 20 (long_side rules)) refl in
    let behind_symbols = rest_keeps Symbols (symbols_of rules) 4000 (position_measures lists decls) behind_sides (nat_lt 4000 (symbols_of rules)) refl in
    record {
      few_tokens = at_most Tokens tokens 250 skips_on none (nat_lt 250 tokens) refl;
      few_skips = at_most Skips skips 50 names_on behind_tokens (nat_lt 50 skips) refl;
      few_names = at_most Names names 500 rules_on behind_skips (nat_lt 500 names) refl;
      few_rules = at_most Rules (length rules) 1000 sides_on behind_names (nat_lt 1000 (length rules)) refl;
      short_sides = at_most RightSide (long_side rules) 20 symbols_on behind_rules (nat_lt 20 (long_side rules)) refl;
      few_symbols = at_most Symbols (symbols_of rules) 4000 (position_measures lists decls) behind_sides (nat_lt 4000 (symbols_of rules)) refl;
      few_positions = at_most Positions positions POSITIONS [] behind_symbols (nat_lt POSITIONS positions) refl;
    }
