-- Names that are marked as left sides of rules.
use Rattle.std.proofs.Common.{◌≡◌, ℕ, ◌<◌, ◌≤◌, Bool, true, false, ◌↔◌, List, length, get_or, take, replicate, All, Contains, sym, ap, ◌∙◌, arith, inl, inr}
use Rattle.std.proofs.lemmas.Bool.{cases_lt}
use Rattle.std.proofs.lemmas.List.{get_or-replicate, get_or-take, get_or_default, get_or_past, length-replicate, length-take}
use Rattle.grammar_data.specs.Grammar.{Rule}
use Rattle.grammar_data.specs.declared.rule.Sym.{Sym}
use Rattle.lr_base.specs.IsGrammar.{HasRuleForEach}

-- nothing is marked at first
pub unmarked : (m n : ℕ) → get_or (replicate m false) n false ≡ false
unmarked m n = elim (cases_lt n m) [
  | inl within ↦ get_or-replicate m n false false within
  | inr past ↦ get_or_past (replicate m false) n false (omega (arith, length-replicate m false))
]

-- the marks of the names are all set exactly where each name has a rule
pub all_marked : (rules : List Rule) (marked : List Bool) (names : ℕ) → names ≤ length marked
    → ((n : ℕ) → get_or marked n false ≡ true → (right : List Sym) × Contains rules (n, right))
    → All (λ rule. get_or marked rule.0 false ≡ true) rules
    → All (λ mark. mark ≡ true) (take names marked) ↔ HasRuleForEach names rules
all_marked grammar marked names within only all = (
  λ set n below. only n
      (sym (get_or-take names marked n false below) ∙ set n false (omega (arith, length-take names marked))),
  λ each k d below.
      let lower : k < names = omega (arith, length-take names marked) in
      let found = each k lower in
      let default : get_or marked k d ≡ get_or marked k false = get_or_default marked k d false (omega arith) in
      get_or-take names marked k d lower ∙ default
      ∙ ap (λ (rule : Rule). get_or marked rule.0 false) (sym found.1.2) ∙ all found.1.0 (k, found.0) found.1.1,
)
