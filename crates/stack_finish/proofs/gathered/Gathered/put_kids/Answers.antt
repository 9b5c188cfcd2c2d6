use Rattle.std.proofs.Common.{◌≡◌, ℕ, ◌+◌, ◌∷◌, ◌++◌, [], List, take, drop, refl, sym, ap, ◌∙◌, subst, subst₂, append_assoc, append-nil}
use Rattle.std.proofs.lemmas.List.{take_more, take_all}
use Rattle.std.proofs.Math.ListN.{drop_of_length-le}
use Rattle.node_data.specs.declared.kid.Kid.{Kid}
use Rattle.node_store.specs.Chunks.{Chunk, store_of}
use Rattle.stack_finish.specs.Gathering.{last_state}
use Rattle.stack_finish.specs.Putting.{LeadsTo}
use Rattle.stack_finish.proofs.KidLemmas.{IsPartly, next_kid, partly_none, partly_next, partly_all}
use Rattle.stack_finish.proofs.gathered.Gathered.put_kids.Goals as goal

pub loop-kid-init : goal.loop-kid-init
loop-kid-init c = record { kids = sym (append-nil c.args.self.now.kids.items); states = λ states along. partly_none along; store = refl; chunk = refl; count = refl }

pub state_over-state-requires : goal.state_over-state-requires
state_over-state-requires c =
    let t = c.args.tables.now in
    let store = store_of c.args.self.now.store in
    let ahead = next_kid c.args.kids.now c.loop-kid.kid-index c.kid-item.result c.loop-kid-test.true c.kid-item.is in
    let led = partly_next (subst (λ l. IsPartly t store c.args.self.now.states.items l c.requires.0 c.loop-kid.self.states.items) ahead (c.loop-kid.invariant.states c.requires.0 c.requires.1)) in
    let here : LeadsTo t (store_of c.loop-kid.self.store) c.kid-item.result (last_state 0 c.loop-kid.self.states.items) led.state = subst (λ (l : List Chunk). LeadsTo t (store_of l) c.kid-item.result (last_state 0 c.loop-kid.self.states.items) led.state) (sym c.loop-kid.invariant.store) led.leads in
    (led.state, subst₂ (λ (k : Kid) (q : ℕ). LeadsTo t (store_of c.loop-kid.self.store) k q led.state) (sym c.kid.ensures) (sym c.top.ensures) here)

pub loop-kid-preserved : goal.loop-kid-preserved
loop-kid-preserved c =
    let t = c.args.tables.now in
    let store = store_of c.args.self.now.store in
    let ahead = next_kid c.args.kids.now c.loop-kid.kid-index c.kid-item.result c.loop-kid-test.true c.kid-item.is in
    let kids : take (c.loop-kid.kid-index + 1) c.args.kids.now ≡ take c.loop-kid.kid-index c.args.kids.now ++ c.kid-item.result ∷ [] = take_more c.args.kids.now c.loop-kid.kid-index c.kid-item.result c.loop-kid-test.true ∙ ap (λ k. take c.loop-kid.kid-index c.args.kids.now ++ k ∷ []) (sym c.kid-item.is) in
    record {
      kids = c.in_ok-push.ensures.items ∙ ap (λ l. l ++ c.kid-item.result ∷ []) c.loop-kid.invariant.kids ∙ append_assoc c.args.self.now.kids.items (take c.loop-kid.kid-index c.args.kids.now) (c.kid-item.result ∷ []) ∙ ap (λ l. c.args.self.now.kids.items ++ l) (sym kids);
      states = λ states along. (
          let led = partly_next (subst (λ l. IsPartly t store c.args.self.now.states.items l states c.loop-kid.self.states.items) ahead (c.loop-kid.invariant.states states along)) in
          let here : LeadsTo t (store_of c.loop-kid.self.store) c.kid-item.result (last_state 0 c.loop-kid.self.states.items) led.state = subst (λ (l : List Chunk). LeadsTo t (store_of l) c.kid-item.result (last_state 0 c.loop-kid.self.states.items) led.state) (sym c.loop-kid.invariant.store) led.leads in
          let same = c.state_over-state.ensures led.state (subst₂ (λ (k : Kid) (q : ℕ). LeadsTo t (store_of c.loop-kid.self.store) k q led.state) (sym c.kid.ensures) (sym c.top.ensures) here) in
          subst (λ l. IsPartly t store c.args.self.now.states.items (drop (c.loop-kid.kid-index + 1) c.args.kids.now) states l) (ap (λ q. c.loop-kid.self.states.items ++ q ∷ []) (sym same) ∙ sym c.in_ok-push-2.ensures.items) led.next);
      store = c.loop-kid.invariant.store;
      chunk = c.loop-kid.invariant.chunk;
      count = c.loop-kid.invariant.count;
    }

pub returns-clause-kids : goal.returns-clause-kids
returns-clause-kids c = c.loop-kid.invariant.kids ∙ ap (λ l. c.args.self.now.kids.items ++ l) (take_all c.loop-kid.kid-index c.args.kids.now c.loop-kid-test.false)

pub returns-clause-states : goal.returns-clause-states
returns-clause-states c states along = partly_all (subst (λ l. IsPartly c.args.tables.now (store_of c.args.self.now.store) c.args.self.now.states.items l states c.loop-kid.self.states.items) (drop_of_length-le c.args.kids.now c.loop-kid-test.false) (c.loop-kid.invariant.states states along))
