use Rattle.std.proofs.Common.{◌≡◌, ℕ, List, [], ◌∷◌, ◌++◌, All, reverse, sym, ap, ◌∙◌, subst, arith}
use Rattle.grammar_data.specs.declared.rule.Sym.{Sym}
use Rattle.grammar_data.specs.declared.rule.Sym.TheVariants.{Name}
use Rattle.grammar_data.specs.Grammar.{Grammar}
use Rattle.lr_base.specs.IsGrammar.{IsGrammar, IsSymbolOf}
use Rattle.sample_text.specs.ClosingTexts.{AreClosingTokens, IsSymbolClosedOn}
use Rattle.sample_text.proofs.SamplingLemmas.{IsMaking, one_symbol, empty_list, all_back, popped_left}
use Rattle.sample_text.proofs.ClosingTextLemmas.{name_begins, name_text, symbol_made, symbol_range}
use Rattle.sample_text.proofs.closing_texts.closing_text.Goals as goal

pub loop-init : goal.loop-init
loop-init c =
    let g : Grammar = c.args.chooser.now.grammar.now in
    let n = c.args.name in
    let one : c.push.new.self.items ≡ Name n ∷ [] = c.in_ok-push.ensures.items ∙ ap (λ (l : List Sym). l ++ Name n ∷ []) c.new-todo.ensures.items in
    record {
      symbols = subst (All (IsSymbolOf g.tokens g.names)) (sym one) (one_symbol (IsSymbolOf g.tokens g.names) (Name n) c.requires.name);
      making = λ scanning are. subst (λ (l : List Sym). IsMaking scanning g 0 0 (AreClosingTokens g (Name n ∷ [])) 0 (reverse l) c.new-text.result.items) (sym one)
          (subst (λ (l : List ℕ). IsMaking scanning g 0 0 (AreClosingTokens g (Name n ∷ [])) 0 (Name n ∷ []) l) (sym c.new-text.ensures.items) (name_begins scanning g n));
    }

pub returns-in-None : goal.returns-in-None
returns-in-None c = λ scanning are.
    let g : Grammar = c.args.chooser.now.grammar.now in
    let n = c.args.name in
    let none : c.loop.todo.items ≡ [] = empty_list c.loop.todo.items (omega (arith, c.in-None.ensures.cases.0)) in
    name_text scanning g n c.loop.text.items (subst (λ (l : List Sym). IsMaking scanning g 0 0 (AreClosingTokens g (Name n ∷ [])) 0 (reverse l) c.loop.text.items) none (c.loop.invariant.making scanning are))

pub close_symbol-requires-clause-symbol : goal.close_symbol-requires-clause-symbol
close_symbol-requires-clause-symbol c =
    let P = IsSymbolOf c.args.chooser.now.grammar.now.tokens c.args.chooser.now.grammar.now.names in
    (all_back P c.pop.new.self.items c.in-Some.symbol (subst (All P) c.in-Some.ensures.items c.loop.invariant.symbols)).1

pub loop-preserved : goal.loop-preserved
loop-preserved c =
    let g : Grammar = c.args.chooser.now.grammar.now in
    let n = c.args.name in
    let P = IsSymbolOf g.tokens g.names in
    let back = all_back P c.pop.new.self.items c.in-Some.symbol (subst (All P) c.in-Some.ensures.items c.loop.invariant.symbols) in
    let grammar : IsGrammar g = subst IsGrammar c.grammar.ensures c.holds.ensures in
    let closed : IsSymbolClosedOn g c.args.found.now c.in-Some.symbol c.pop.new.self.items c.loop.text.items c.close_symbol.new.todo.items c.close_symbol.new.text.items = c.in_ok-close_symbol.ensures c.if-not-branch.false in
    record {
      symbols = symbol_range g grammar back.0 closed;
      making = λ scanning are. symbol_made scanning g are
          (subst (λ (l : List Sym). IsMaking scanning g 0 0 (AreClosingTokens g (Name n ∷ [])) 0 l c.loop.text.items) (popped_left c.loop.todo.items c.pop.new.self.items c.in-Some.symbol c.in-Some.ensures.items) (c.loop.invariant.making scanning are))
          closed;
    }
