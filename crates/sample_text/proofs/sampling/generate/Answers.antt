use Rattle.std.proofs.Common.{◌≡◌, ℕ, ◌<◌, ◌≤◌, ◌++◌, ◌∷◌, [], List, All, length, reverse, sym, ap, ◌∙◌, subst, arith}
use Rattle.std.specs.Prelude.{Option}
use Rattle.std.specs.Global.{Vec}
use Rattle.std.proofs.lemmas.List.Elements.{All-append}
use Rattle.grammar_data.specs.declared.rule.Sym.{Sym}
use Rattle.grammar_data.specs.declared.rule.Sym.TheVariants.{Token, Name}
use Rattle.grammar_data.specs.Grammar.{Grammar}
use Rattle.lr_base.specs.declared.limits.TheConstants.{TEXT_BYTES}
use Rattle.lr_base.specs.IsGrammar.{IsSymbolOf}
use Rattle.sample_theory.specs.Choices.{number_at}
use Rattle.sample_theory.proofs.ChoiceLemmas.{number_start}
use Rattle.sample_text.specs.declared.choices.Draws.{Draws}
use Rattle.sample_text.specs.declared.fault.SampleFault.{SampleFault}
use Rattle.sample_text.specs.Answering.{IsFault}
use Rattle.sample_text.specs.Choosing.{IsChoice}
use Rattle.scanning_theory.specs.Scan.{Scanning}
use Rattle.sample_text.specs.ClosingTexts.{HaveClosingTexts, IsClosedOn}
use Rattle.sample_text.specs.Wording.{AreKnown, IsScannedBy}
use Rattle.sample_text.proofs.ClosingTextLemmas.{closed_range, goes_closed, no_texts, past_fault, texts_kept}
use Rattle.sample_text.proofs.ClosingLemmas.{none_some}
use Rattle.sample_text.proofs.SamplingLemmas.{IsSampling, begins, goes_on, is_text, popped_left, pushed_left, all_back, all_reverse, empty_list, one_symbol, have_rules, has_rest, is_fault, goes_behind, err_same, chosen_rule}
use Rattle.sample_text.proofs.sampling.generate.Goals as goal
use Rattle.sample_text.proofs.sampling.generate.Goals.{in-Token+in_ok-write_word-in-Token, in-Name+then-draws-size+in_ok-put_first-in-Name, in-Name+else-draws-size+in_ok-close-in-Name}

pub loop-init : goal.loop-init
loop-init c =
    let g : Grammar = c.args.grammar.now in
    let one : c.push.new.self.items ≡ Name g.start ∷ [] = c.in_ok-push.ensures.items ∙ ap (λ (l : List Sym). l ++ Name c.start.result ∷ []) c.new-todo.ensures.items ∙ ap (λ n. Name n ∷ []) c.start.ensures in
    record {
      grammar = c.in_ok-chooser.ensures.grammar;
      size = c.in_ok-chooser.ensures.size;
      can = c.in_ok-chooser.ensures.can;
      count = c.in_ok-found.ensures.size ∙ c.tokens.ensures;
      known = λ a word at. absurd (none_some (c.in_ok-found.ensures.none a) at);
      texts = λ scanning by. no_texts scanning g c.new-texts.result.items c.new-texts.ensures.items;
      number = sym (number_start c.args.from);
      symbols = subst (All (IsSymbolOf g.tokens g.names)) (sym one) (one_symbol (IsSymbolOf g.tokens g.names) (Name g.start) c.holds.ensures.start);
      fits = let none = ap length c.new-text.ensures.items in omega (arith, none);
      sampling = λ scanning by. subst (λ (l : List Sym). IsSampling scanning g c.args.from c.args.size 0 (reverse l) c.new-text.result.items) (sym one)
          (subst (λ (l : List ℕ). IsSampling scanning g c.args.from c.args.size 0 (Name g.start ∷ []) l) (sym c.new-text.ensures.items) (begins scanning g c.args.from c.args.size));
    }

pub returns-in-None-clause-text : goal.returns-in-None-clause-text
returns-in-None-clause-text c = λ scanning by.
    let g : Grammar = c.args.grammar.now in
    let none : c.loop.todo.items ≡ [] = empty_list c.loop.todo.items (omega (arith, c.in-None.ensures.cases.0)) in
    is_text scanning g c.args.from c.args.size c.loop.draws.drawn c.loop.text.items
    (subst (λ (l : List Sym). IsSampling scanning g c.args.from c.args.size c.loop.draws.drawn (reverse l) c.loop.text.items) none (c.loop.invariant.sampling scanning by)) c.loop.invariant.fits

pub write_word-requires-clause-token : goal.write_word-requires-clause-token
write_word-requires-clause-token c =
    let g : Grammar = c.args.grammar.now in
    let P = IsSymbolOf g.tokens g.names in
    let back = all_back P c.pop.new.self.items c.in-Some.symbol (subst (All P) c.in-Some.ensures.items c.loop.invariant.symbols) in
    let below : c.in-Token.token < g.tokens = subst P c.in-Token.is back.1 in
    subst (λ k. c.in-Token.token < k) (sym c.loop.invariant.count) below

pub returns-in_err-write_word-in-Token-clause-fault : goal.returns-in_err-write_word-in-Token-clause-fault
returns-in_err-write_word-in-Token-clause-fault c =
    let g : Grammar = c.args.grammar.now in
    let P = IsSymbolOf g.tokens g.names in
    let back = all_back P c.pop.new.self.items c.in-Some.symbol (subst (All P) c.in-Some.ensures.items c.loop.invariant.symbols) in
    let left : reverse c.loop.todo.items ≡ Token c.in-Token.token ∷ reverse c.pop.new.self.items = popped_left c.loop.todo.items c.pop.new.self.items c.in-Some.symbol c.in-Some.ensures.items ∙ ap (λ x. x ∷ reverse c.pop.new.self.items) c.in-Token.is in
    let rest = has_rest g c.args.from c.args.size c.loop.draws.drawn c.pop.new.self.items c.holds.ensures (have_rules g c.in_ok-chooser.chooser.closings.items c.loop.invariant.can.closings_are) back.0 in
    let fault : SampleFault = c.in_err-write_word-in-Token.field-0.0 in
    let is : IsFault c.args.scanner.now c.args.means.now g c.args.from c.args.size fault =
    is_fault c.args.scanner.now c.args.means.now g c.args.from c.args.size c.loop.draws.drawn c.in-Token.token (reverse c.pop.new.self.items) c.loop.text.items
    (λ scanning by. subst (λ l. IsSampling scanning g c.args.from c.args.size c.loop.draws.drawn l c.loop.text.items) left (c.loop.invariant.sampling scanning by))
    c.loop.invariant.fits rest fault c.in_err-write_word-in-Token.ensures.fault in
    err_same c.from_residual-in_err-write_word-in-Token.result fault (IsFault c.args.scanner.now c.args.means.now g c.args.from c.args.size) c.from_residual-in_err-write_word-in-Token.ensures.1 is

pub draw-rule-requires-clause-name : goal.draw-rule-requires-clause-name
draw-rule-requires-clause-name c =
    let g : Grammar = c.args.grammar.now in
    let P = IsSymbolOf g.tokens g.names in
    let back = all_back P c.pop.new.self.items c.in-Some.symbol (subst (All P) c.in-Some.ensures.items c.loop.invariant.symbols) in
    let below : c.in-Name.name < g.names = subst P c.in-Name.is back.1 in
    subst (λ (h : Grammar). c.in-Name.name < h.names) (sym c.loop.invariant.grammar) below

pub close-requires-clause-name : goal.close-requires-clause-name
close-requires-clause-name c =
    let g : Grammar = c.args.grammar.now in
    let P = IsSymbolOf g.tokens g.names in
    let back = all_back P c.pop.new.self.items c.in-Some.symbol (subst (All P) c.in-Some.ensures.items c.loop.invariant.symbols) in
    let below : c.in-Name.name < g.names = subst P c.in-Name.is back.1 in
    subst (λ (h : Grammar). c.in-Name.name < h.names) (sym c.loop.invariant.grammar) below

pub returns-in_err-close-in-Name-clause-fault : goal.returns-in_err-close-in-Name-clause-fault
returns-in_err-close-in-Name-clause-fault c =
    let g : Grammar = c.args.grammar.now in
    let P = IsSymbolOf g.tokens g.names in
    let back = all_back P c.pop.new.self.items c.in-Some.symbol (subst (All P) c.in-Some.ensures.items c.loop.invariant.symbols) in
    let rest : List Sym = c.pop.new.self.items in
    let left : reverse c.loop.todo.items ≡ Name c.in-Name.name ∷ reverse rest = popped_left c.loop.todo.items rest c.in-Some.symbol c.in-Some.ensures.items ∙ ap (λ x. x ∷ reverse rest) c.in-Name.is in
    let rest_of = has_rest g c.args.from c.args.size c.loop.draws.drawn rest c.holds.ensures (have_rules g c.in_ok-chooser.chooser.closings.items c.loop.invariant.can.closings_are) back.0 in
    let fault : SampleFault = c.in_err-close-in-Name.field-0.0 in
    let texts = c.close.new.texts.items in
    let have : (scanning : Scanning) → IsScannedBy c.args.scanner.now c.args.means.now scanning → HaveClosingTexts scanning g texts =
    texts_kept c.args.scanner.now c.args.means.now c.in_ok-chooser.chooser.grammar.now g c.deref.result.now c.loop.found.items c.loop.texts.items texts c.loop.invariant.grammar c.deref.ensures.value
    c.loop.invariant.known c.in_err-close-in-Name.ensures.texts c.loop.invariant.texts in
    let is : IsFault c.args.scanner.now c.args.means.now g c.args.from c.args.size fault =
    past_fault c.args.scanner.now c.args.means.now g c.args.from c.args.size c.loop.draws.drawn c.in-Name.name rest c.loop.text.items texts (omega (arith, c.if-draws-size.false))
    (λ scanning by. subst (λ l. IsSampling scanning g c.args.from c.args.size c.loop.draws.drawn l c.loop.text.items) left (c.loop.invariant.sampling scanning by))
    have rest_of fault c.in_err-close-in-Name.ensures.fault in
    err_same c.from_residual-in_err-close-in-Name.result fault (IsFault c.args.scanner.now c.args.means.now g c.args.from c.args.size) c.from_residual-in_err-close-in-Name.ensures.1 is

pub loop-preserved : goal.loop-preserved
loop-preserved c =
    let g : Grammar = c.args.grammar.now in
    let P = IsSymbolOf g.tokens g.names in
    let from = c.args.from in
    let size = c.args.size in
    let rest : List Sym = c.pop.new.self.items in
    let back = all_back P rest c.in-Some.symbol (subst (All P) c.in-Some.ensures.items c.loop.invariant.symbols) in
    let left : reverse c.loop.todo.items ≡ c.in-Some.symbol ∷ reverse rest = popped_left c.loop.todo.items rest c.in-Some.symbol c.in-Some.ensures.items in
    elim c.match-symbol.branch [
      | in-Token+in_ok-write_word-in-Token w ↦
          let todo = ap (λ (v : Vec Sym). v.items) w.todo-is in
          let text = ap (λ (v : Vec ℕ). v.items) w.text-is in
          let found = ap (λ (v : Vec (Option (Vec ℕ))). v.items) w.found-is in
          let drawn = ap (λ (d : Draws). d.drawn) w.draws-is in
          let here = left ∙ ap (λ x. x ∷ reverse rest) w.in-Token.is in
          record {
            grammar = c.loop.invariant.grammar;
            size = c.loop.invariant.size;
            can = c.loop.invariant.can;
            count = ap length found ∙ w.in_ok-write_word-in-Token.ensures.size ∙ c.loop.invariant.count;
            known = subst (AreKnown c.args.scanner.now c.args.means.now) (sym found) w.in_ok-write_word-in-Token.ensures.known;
            texts = λ scanning by. subst (λ (v : Vec (Option (Vec ℕ))). HaveClosingTexts scanning g v.items) (sym w.texts-is) (c.loop.invariant.texts scanning by);
            number = ap (λ (d : Draws). d.number) w.draws-is ∙ c.loop.invariant.number ∙ ap (number_at from) (sym drawn);
            symbols = subst (All P) (sym todo) back.0;
            fits = subst (λ (l : List ℕ). length l ≤ TEXT_BYTES) (sym text) w.in_ok-write_word-in-Token.ensures.fits;
            sampling = λ scanning by.
                let rest_of = has_rest g from size c.loop.draws.drawn rest c.holds.ensures (have_rules g c.in_ok-chooser.chooser.closings.items c.loop.invariant.can.closings_are) back.0 in
                subst (λ k. IsSampling scanning g from size k (reverse c.match-symbol.todo.items) c.match-symbol.text.items) (sym drawn)
                (subst (λ (l : List Sym). IsSampling scanning g from size c.loop.draws.drawn (reverse l) c.match-symbol.text.items) (sym todo)
                (subst (λ (l : List ℕ). IsSampling scanning g from size c.loop.draws.drawn (reverse rest) l) (sym text)
                (goes_behind c.args.scanner.now c.args.means.now g from size c.loop.draws.drawn w.in-Token.token (reverse rest) c.loop.text.items
                (λ one one_by. subst (λ l. IsSampling one g from size c.loop.draws.drawn l c.loop.text.items) here (c.loop.invariant.sampling one one_by))
                c.loop.invariant.fits rest_of w.write_word.new.text.items w.in_ok-write_word-in-Token.ensures.text scanning by)));
          }
      | in-Name+then-draws-size+in_ok-put_first-in-Name w ↦
          let text = ap (λ (v : Vec ℕ). v.items) w.text-is in
          let found = ap (λ (v : Vec (Option (Vec ℕ))). v.items) w.found-is in
          let drawn = ap (λ (d : Draws). d.drawn) w.draws-is in
          let here = left ∙ ap (λ x. x ∷ reverse rest) w.in-Name.is in
          let put : c.match-symbol.todo.items ≡ rest ++ reverse w.right.result.now = ap (λ (v : Vec Sym). v.items) w.todo-is ∙ w.in_ok-put_first-in-Name.ensures in
          let r = w.draw-rule.result in
          let number : w.draw-rule.new.draws.number ≡ number_at from w.draw-rule.new.draws.drawn = w.draw-rule.ensures.number from c.loop.invariant.number in
          record {
            grammar = c.loop.invariant.grammar;
            size = c.loop.invariant.size;
            can = c.loop.invariant.can;
            count = ap length found ∙ c.loop.invariant.count;
            known = subst (AreKnown c.args.scanner.now c.args.means.now) (sym found) c.loop.invariant.known;
            texts = λ scanning by. subst (λ (v : Vec (Option (Vec ℕ))). HaveClosingTexts scanning g v.items) (sym w.texts-is) (c.loop.invariant.texts scanning by);
            number = ap (λ (d : Draws). d.number) w.draws-is ∙ number ∙ ap (number_at from) (sym drawn);
            symbols = subst (All P) (sym put) (All-append P rest (reverse w.right.result.now) back.0 (all_reverse P w.right.result.now w.right.ensures.in_range));
            fits = subst (λ (l : List ℕ). length l ≤ TEXT_BYTES) (sym text) c.loop.invariant.fits;
            sampling = λ scanning by.
                let now = w.draw-rule.new.draws.drawn in
                let name = w.in-Name.name in
                let right : List Sym = w.right.result.now in
                let chosen = w.draw-rule.ensures.choice from c.loop.invariant.number in
                let choice : IsChoice g from size c.loop.draws.drawn name r now =
                subst (λ k. IsChoice g from k c.loop.draws.drawn name r now) c.loop.invariant.size
                (subst (λ (h : Grammar). IsChoice h from c.in_ok-chooser.chooser.size c.loop.draws.drawn name r now) c.loop.invariant.grammar chosen) in
                let rule = chosen_rule choice w.right.ensures.right in
                let turned : reverse c.match-symbol.todo.items ≡ right ++ reverse rest = pushed_left rest c.match-symbol.todo.items right put in
                subst (λ k. IsSampling scanning g from size k (reverse c.match-symbol.todo.items) c.match-symbol.text.items) (sym drawn)
                (subst (λ (l : List Sym). IsSampling scanning g from size now l c.match-symbol.text.items) (sym turned)
                (subst (λ (l : List ℕ). IsSampling scanning g from size now (right ++ reverse rest) l) (sym text)
                (goes_on scanning g from size c.loop.draws.drawn (reverse rest) c.loop.text.items name r now
                (subst (λ l. IsSampling scanning g from size c.loop.draws.drawn l c.loop.text.items) here (c.loop.invariant.sampling scanning by)) choice right rule)));
          }
      | in-Name+else-draws-size+in_ok-close-in-Name w ↦
          let text = ap (λ (v : Vec ℕ). v.items) w.text-is in
          let todo = ap (λ (v : Vec Sym). v.items) w.todo-is in
          let found = ap (λ (v : Vec (Option (Vec ℕ))). v.items) w.found-is in
          let drawn = ap (λ (d : Draws). d.drawn) w.draws-is in
          let n = w.in-Name.name in
          let here = left ∙ ap (λ x. x ∷ reverse rest) w.in-Name.is in
          let have : (scanning : Scanning) → IsScannedBy c.args.scanner.now c.args.means.now scanning → HaveClosingTexts scanning g w.close.new.texts.items =
          texts_kept c.args.scanner.now c.args.means.now c.in_ok-chooser.chooser.grammar.now g w.deref.result.now c.loop.found.items c.loop.texts.items w.close.new.texts.items c.loop.invariant.grammar w.deref.ensures.value
          c.loop.invariant.known w.in_ok-close-in-Name.ensures.texts c.loop.invariant.texts in
          let closed : IsClosedOn g w.close.new.texts.items n rest c.loop.text.items w.close.new.todo.items w.close.new.text.items =
          subst (λ (h : Grammar). IsClosedOn h w.close.new.texts.items n rest c.loop.text.items w.close.new.todo.items w.close.new.text.items) c.loop.invariant.grammar w.in_ok-close-in-Name.ensures.closed in
          record {
            grammar = c.loop.invariant.grammar;
            size = c.loop.invariant.size;
            can = c.loop.invariant.can;
            count = ap length found ∙ c.loop.invariant.count;
            known = subst (AreKnown c.args.scanner.now c.args.means.now) (sym found) c.loop.invariant.known;
            texts = λ scanning by. subst (λ (v : Vec (Option (Vec ℕ))). HaveClosingTexts scanning g v.items) (sym w.texts-is) (have scanning by);
            number = ap (λ (d : Draws). d.number) w.draws-is ∙ c.loop.invariant.number ∙ ap (number_at from) (sym drawn);
            symbols = subst (All P) (sym todo) (closed_range g c.holds.ensures back.0 closed);
            fits = subst (λ (l : List ℕ). length l ≤ TEXT_BYTES) (sym text) w.in_ok-close-in-Name.ensures.fits;
            sampling = λ scanning by.
                subst (λ k. IsSampling scanning g from size k (reverse c.match-symbol.todo.items) c.match-symbol.text.items) (sym drawn)
                (subst (λ (l : List Sym). IsSampling scanning g from size c.loop.draws.drawn (reverse l) c.match-symbol.text.items) (sym todo)
                (subst (λ (l : List ℕ). IsSampling scanning g from size c.loop.draws.drawn (reverse w.close.new.todo.items) l) (sym text)
                (goes_closed scanning g from size c.loop.draws.drawn n (omega (arith, w.if-draws-size.false)) (have scanning by)
                (subst (λ l. IsSampling scanning g from size c.loop.draws.drawn l c.loop.text.items) here (c.loop.invariant.sampling scanning by)) closed)));
          }
    ]
