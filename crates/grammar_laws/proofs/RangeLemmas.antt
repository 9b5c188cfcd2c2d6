-- The symbols of a grammar's rules are in range.
use Rattle.std.proofs.Common.{ℕ, List, [], ◌∷◌, All, subst}
use Rattle.std.proofs.lemmas.List.Elements.{All-get_or, All-head, All-tail}
use Rattle.std.proofs.lemmas.Option.{slice_get_within, get_or_from_slice_get}
use Rattle.grammar_data.specs.declared.rule.Sym.{Sym}
use Rattle.grammar_data.specs.declared.rule.Sym.TheVariants.{Token, Name}
use Rattle.grammar_data.specs.Grammar.{Rule, Grammar}
use Rattle.lr_base.specs.IsGrammar.{IsGrammar, IsRuleOf, IsSymbolOf}
use Rattle.grammar_theory.specs.Rules.{IsRule, NamesBelow, TokensBelow}
use Rattle.grammar_laws.specs.Ranges.{InRangeLaw}

pub names_below : (tokens names : ℕ) (xs : List Sym) → All (IsSymbolOf tokens names) xs → NamesBelow names xs
names_below tokens names [] all = tt
names_below tokens names (Token a ∷ xs) all = names_below tokens names xs (All-tail (IsSymbolOf tokens names) (Token a) xs all)
names_below tokens names (Name n ∷ xs) all = (All-head (IsSymbolOf tokens names) (Name n) xs all, names_below tokens names xs (All-tail (IsSymbolOf tokens names) (Name n) xs all))

pub tokens_below : (tokens names : ℕ) (xs : List Sym) → All (IsSymbolOf tokens names) xs → TokensBelow tokens xs
tokens_below tokens names [] all = tt
tokens_below tokens names (Token a ∷ xs) all = (All-head (IsSymbolOf tokens names) (Token a) xs all, tokens_below tokens names xs (All-tail (IsSymbolOf tokens names) (Token a) xs all))
tokens_below tokens names (Name n ∷ xs) all = tokens_below tokens names xs (All-tail (IsSymbolOf tokens names) (Name n) xs all)

pub rule_of : (g : Grammar) → IsGrammar g → (r n : ℕ) (right : List Sym) → IsRule g.rules r n right → IsRuleOf g.tokens g.names (n, right)
rule_of g grammar r n right rule =
    subst (λ (p : Rule). IsRuleOf g.tokens g.names p) (get_or_from_slice_get g.rules r (n, right) (n, right) rule.found)
    (All-get_or (IsRuleOf g.tokens g.names) g.rules r (n, right) (slice_get_within g.rules r (n, right) rule.found) grammar.rules)

pub in_range : InRangeLaw
in_range g grammar = record {
  lefts = λ r n right rule. (rule_of g grammar r n right rule).left;
  names = λ r n right rule. names_below g.tokens g.names right (rule_of g grammar r n right rule).right;
  tokens = λ r n right rule. tokens_below g.tokens g.names right (rule_of g grammar r n right rule).right;
  start = grammar.start;
}
