use Rattle.std.proofs.Common.{◌≡◌, ℕ, ◌≤◌, ◌+◌, ◌++◌, ◌∷◌, [], take, subst, subst₂, sym, refl, ap, ◌∙◌, append_assoc, append-nil}
use Rattle.std.proofs.lemmas.List.{take_more}
use Rattle.std.proofs.lemmas.List.Elements.{All-nil, All-push}
use Rattle.node_data.specs.declared.kid.Kid.{Kid}
use Rattle.table_data.specs.Tables.{Tables}
use Rattle.map_theory.specs.Maps.{target}
use Rattle.map_theory.specs.Relations.{IsThenSymbol}
use Rattle.piece_theory.specs.Applies.{HasSymbol}
use Rattle.node_store.specs.Chunks.{store_of}
use Rattle.arrow_table.specs.Looks.{HasMap, map_at}
use Rattle.segment_parser.specs.Entering.{IsKnown}
use Rattle.segment_parser.specs.Numbers.{AreFrom}
use Rattle.segment_parser.proofs.EnterLemmas.{EntersTo, enters_none, enters_more}
use Rattle.segment_parser.proofs.entering.enter.Goals as goal

pub loop-kid-init : goal.loop-kid-init
loop-kid-init c = record {
  tables = refl;
  base = refl;
  stands = c.requires.stands;
  from = subst (λ l. AreFrom c.args.arrows.now.2 l) (sym c.in_ok-ids.ensures.items) (All-nil {X = ℕ} (λ id. c.args.arrows.now.2 ≤ id));
  grows = ([], sym (append-nil c.args.arrows.now.1));
  enters = subst (λ l. EntersTo c.args.arrows.now.0 (store_of c.args.store.now) (target (map_at c.args.arrows.now.1 c.args.own)) c.args.arrows.now.1 [] l c.args.own) (sym c.in_ok-ids.ensures.items) (enters_none c.args.arrows.now.0 (store_of c.args.store.now) c.args.arrows.now.1 c.args.own c.requires.own);
}

pub symbol_of-symbol-requires : goal.symbol_of-symbol-requires
symbol_of-symbol-requires c =
    subst₂ (λ (t : Tables) (kid : Kid). IsKnown t.rules (store_of c.args.store.now) kid) (sym (c.tables.ensures ∙ c.loop-kid.invariant.tables)) (sym (c.kid.ensures ∙ c.kid-item.is)) (c.requires.kids c.loop-kid.kid-index c.kid-item.result c.loop-kid-test.true)

pub loop-kid-preserved : goal.loop-kid-preserved
loop-kid-preserved c =
    let t = c.args.arrows.now.0 in
    let store = store_of c.args.store.now in
    let from = target (map_at c.args.arrows.now.1 c.args.own) in
    let kid = c.kid-item.result in
    let x = c.symbol_of-symbol.result in
    let first = c.loop-kid.invariant.grows in
    let next = c.in_ok-top.ensures.grows in
    let symbol : HasSymbol t.rules store kid x = subst₂ (λ (u : Tables) (k : Kid). HasSymbol u.rules store k x) (c.tables.ensures ∙ c.loop-kid.invariant.tables) c.kid.ensures c.symbol_of-symbol.ensures.symbol in
    let has : HasMap c.step.new.self.1 c.in_ok-top.top (IsThenSymbol t x (map_at c.loop-kid.arrows.1 c.loop-kid.top)) = subst (λ (u : Tables). HasMap c.step.new.self.1 c.in_ok-top.top (IsThenSymbol u x (map_at c.loop-kid.arrows.1 c.loop-kid.top))) c.loop-kid.invariant.tables c.in_ok-top.ensures.then in
    let more = enters_more t store from c.loop-kid.arrows.1 c.step.new.self.1 (take c.loop-kid.kid-index c.args.kids.now) c.loop-kid.ids.items c.loop-kid.top c.in_ok-top.top kid x next c.loop-kid.invariant.enters symbol has in
    let kids : take (c.loop-kid.kid-index + 1) c.args.kids.now ≡ take c.loop-kid.kid-index c.args.kids.now ++ kid ∷ [] = take_more c.args.kids.now c.loop-kid.kid-index kid c.loop-kid-test.true ∙ ap (λ k. take c.loop-kid.kid-index c.args.kids.now ++ k ∷ []) (sym c.kid-item.is) in
    let base : ℕ = c.args.arrows.now.2 in
    let kept : c.step.new.self.2 ≡ base = c.in_ok-top.ensures.base ∙ c.loop-kid.invariant.base in
    let stands : base ≤ c.in_ok-top.top = subst (λ (b : ℕ). b ≤ c.in_ok-top.top) kept c.in_ok-top.ensures.stands in
    record {
      tables = c.in_ok-top.ensures.tables ∙ c.loop-kid.invariant.tables;
      base = kept;
      stands = stands;
      from = subst (λ l. AreFrom base l) (sym c.in_ok-push.ensures.items) (All-push {X = ℕ} (λ id. base ≤ id) c.loop-kid.ids.items c.in_ok-top.top c.loop-kid.invariant.from stands);
      grows = (first.0 ++ next.0, next.1 ∙ ap (λ l. l ++ next.0) first.1 ∙ append_assoc c.args.arrows.now.1 first.0 next.0);
      enters = subst₂ (λ ks is. EntersTo t store from c.step.new.self.1 ks is c.in_ok-top.top) (sym kids) (sym c.in_ok-push.ensures.items) more;
    }

pub step-requires-clause-stands : goal.step-requires-clause-stands
step-requires-clause-stands c = subst (λ (b : ℕ). b ≤ c.loop-kid.top) (sym c.loop-kid.invariant.base) c.loop-kid.invariant.stands

pub returns-clause-stand : goal.returns-clause-stand
returns-clause-stand c = subst (λ (b : ℕ). AreFrom b c.loop-kid.ids.items) (sym c.loop-kid.invariant.base) c.loop-kid.invariant.from
