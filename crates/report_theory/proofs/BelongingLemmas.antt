-- What belongs to a grammar.
use Rattle.std.proofs.Common.{◌≡◌, ℕ, ◌<◌, ◌≤◌, List, ◌∷◌, ◌++◌, length, sym, ap, ◌∙◌, arith, length-append}
use Rattle.std.proofs.lemmas.List.{get_or_past}
use Rattle.std.proofs.lemmas.Option.{slice_get_within, get_or_from_slice_get}
use Rattle.grammar_data.specs.declared.rule.Sym.{Sym}
use Rattle.grammar_data.specs.declared.rule.Sym.TheVariants.{Token}
use Rattle.grammar_data.specs.Grammar.{Grammar, Rule}
use Rattle.grammar_theory.specs.Rules.{IsRule, IsInRange, end_mark}
use Rattle.grammar_theory.proofs.RuleLemmas.{tokens_back}
use Rattle.item_theory.specs.Items.{Item, IsItemOf, Deed, Does, shifts, reduces, accepts, augmented_rule, all_rules}
use Rattle.item_theory.proofs.ItemLemmas.{WhichRule, is_own, is_last, which_rule, right_tokens}
use Rattle.item_theory.proofs.ItemLaws.{item_range_law}
use Rattle.collection_data.specs.declared.entry.Entry.{Entry}
use Rattle.collection_data.specs.Entries.{IsEntry}
use Rattle.report_theory.specs.ItemTexts.{rule_at}
use Rattle.report_theory.specs.Belonging.{ConflictInLaw}

-- the rule of its number
record IsRuleAt (g : Grammar) (r n : ℕ) (right : List Sym) : Type 0 where
  pub within : r ≤ length g.rules
  pub is : rule_at g r ≡ (n, right)

rule_is : (g : Grammar) {r n : ℕ} {right : List Sym} → IsRule (all_rules g) r n right → IsRuleAt g r n right
rule_is g {r = r} {n = n} {right = right} rule = cases (which_rule g rule)
  where
    cases : WhichRule g r n right → IsRuleAt g r n right
    cases (is_own own) = let below = slice_get_within g.rules r (n, right) own.found in record { within = omega (arith, below); is = get_or_from_slice_get g.rules r (n, right) (augmented_rule g) own.found }
    cases (is_last at left e) = record {
      within = omega (arith, at);
      is = get_or_past g.rules r (augmented_rule g) (omega (arith, at)) ∙ sym (ap (λ m. (m, right)) left ∙ ap (λ xs. (g.names, xs)) e);
    }

-- the rule is one of the grammar or the augmented one, and the dot within its right side
abbrev pub IsWithin : Grammar → ℕ → ℕ → Type 0
IsWithin g r dot = (r ≤ length g.rules) × (dot ≤ length (rule_at g r).1)

within_by : (g : Grammar) (r dot n : ℕ) (right : List Sym) → IsRule (all_rules g) r n right → dot ≤ length right → IsWithin g r dot
within_by g r dot n right rule within =
    let at = rule_is g rule in
    let same : length (rule_at g r).1 ≡ length right = ap (λ (q : Rule). length q.1) at.is in
    (at.within, omega (arith, same, within))

pub entry_within : (g : Grammar) (e : Entry) → IsEntry g e → IsWithin g e.rule e.dot
entry_within g e h = within_by g e.rule e.dot h.name h.right h.rule h.dot

pub item_within : (g : Grammar) (i : Item) → IsItemOf g i → IsWithin g i.rule i.dot
item_within g i is =
    let size = length-append is.before is.after in
    let place = is.dotted.dot in
    within_by g i.rule i.dot is.name (is.before ++ is.after) is.dotted.rule (omega (arith, size, place))

acts_on : (g : Grammar) → IsInRange g → (i : Item) (a : ℕ) (deed : Deed) → i.ahead ≤ end_mark g → Does g i a deed → a ≤ end_mark g
acts_on g range i a deed within (shifts {before = before} {after = after} dotted) =
    let below = (tokens_back (λ b. b < g.tokens) before (Token a ∷ after) (right_tokens g range dotted.rule)).0 in omega (arith, below)
acts_on g range i a deed within (reduces dotted own ahead is) = omega (arith, ahead, within)
acts_on g range i a deed within (accepts dotted last is) = omega (arith, is)

pub first_conflict : ConflictInLaw
first_conflict g range c h =
    let first = item_range_law g range h.word c.first h.conflict.first_valid in
    record {
      token = acts_on g range c.first c.token h.conflict.first_deed first.ahead h.conflict.first_does;
      first = first;
      second = item_range_law g range h.word c.second h.conflict.second_valid;
    }
