use Rattle.std.proofs.Common.{List, [], None, ap, sym, subst, ◌∙◌, reverse}
use Rattle.node_data.specs.declared.kid.Kid.TheVariants.{Token as TokenKid, Node as NodeKid}
use Rattle.node_store.specs.Chunks.{store_of}
use Rattle.node_store.specs.Kids.{kids_seen}
use Rattle.node_store.specs.Walking.{Frame, Remains, TakesFirst}
use Rattle.node_store.proofs.WalkingLemmas.{takes_root, takes_leave, takes_token, takes_enter, next_there, not_hidden, at_end}
use Rattle.node_store.proofs.walk.Walk.next_step.Goals as goal

pub invariant_of-self-in-Some : goal.invariant_of-self-in-Some
invariant_of-self-in-Some c =
    let it = takes_root (store_of c.self.inside.store.now) c.self.inside.root c.in-Some.root (kids_seen c.kids.result) (reverse c.self.inside.frames.items) (reverse c.push.new.frames.items) c.in-Some.is c.kids.ensures c.in_ok-push.ensures.ok c.self.invariant.0 c.self.invariant.1 in
    (it.others, it.remains)

pub returns-in-Some-clause-step : goal.returns-in-Some-clause-step
returns-in-Some-clause-step c steps remains =
    let it = takes_root (store_of c.self.inside.store.now) c.self.inside.root c.in-Some.root (kids_seen c.kids.result) (reverse c.self.inside.frames.items) (reverse c.push.new.frames.items) c.in-Some.is c.kids.ensures c.in_ok-push.ensures.ok steps (subst (λ w. Remains w steps) (sym c.self.view_is) remains) in
    (it.others, it.same, it.remains)

pub invariant_of-self-in-End : goal.invariant_of-self-in-End
invariant_of-self-in-End c =
    let same = ap (λ (l : List Frame). reverse l) (sym c.deref.ensures.value) ∙ c.in-End.ensures.1 in
    let it = takes_leave (store_of c.self.inside.store.now) c.self.inside.root (reverse c.self.inside.frames.items) (reverse c.leave.new.frames.items) c.in-End.node c.in-End.ensures.0 c.in_default.is same (c.leave.ensures (c.in-End.node, []) c.in-End.ensures.0 same) c.self.invariant.0 c.self.invariant.1 in
    (it.others, it.remains)

pub returns-in-End-clause-step : goal.returns-in-End-clause-step
returns-in-End-clause-step c steps remains =
    let same = ap (λ (l : List Frame). reverse l) (sym c.deref.ensures.value) ∙ c.in-End.ensures.1 in
    let it = takes_leave (store_of c.self.inside.store.now) c.self.inside.root (reverse c.self.inside.frames.items) (reverse c.leave.new.frames.items) c.in-End.node c.in-End.ensures.0 c.in_default.is same (c.leave.ensures (c.in-End.node, []) c.in-End.ensures.0 same) steps (subst (λ w. Remains w steps) (sym c.self.view_is) remains) in
    (it.others, it.same, it.remains)

pub invariant_of-self-in-Token : goal.invariant_of-self-in-Token
invariant_of-self-in-Token c =
    let same = ap (λ (l : List Frame). reverse l) (sym c.deref.ensures.value) ∙ c.in-Token.ensures.3 in
    let it = takes_token (store_of c.self.inside.store.now) c.self.inside.root (reverse c.self.inside.frames.items) (reverse c.skip.new.frames.items) c.in-Token.ensures.0 c.in-Token.token c.in-Token.ensures.1 c.in-Token.ensures.2 c.in_default.is same
    (c.skip.ensures c.in-Token.ensures.0 (TokenKid c.in-Token.token) c.in-Token.ensures.1 c.in-Token.ensures.2 same) c.self.invariant.0 c.self.invariant.1 in
    (it.others, it.remains)

pub returns-in-Token-clause-step : goal.returns-in-Token-clause-step
returns-in-Token-clause-step c steps remains =
    let same = ap (λ (l : List Frame). reverse l) (sym c.deref.ensures.value) ∙ c.in-Token.ensures.3 in
    let it = takes_token (store_of c.self.inside.store.now) c.self.inside.root (reverse c.self.inside.frames.items) (reverse c.skip.new.frames.items) c.in-Token.ensures.0 c.in-Token.token c.in-Token.ensures.1 c.in-Token.ensures.2 c.in_default.is same
    (c.skip.ensures c.in-Token.ensures.0 (TokenKid c.in-Token.token) c.in-Token.ensures.1 c.in-Token.ensures.2 same) steps (subst (λ w. Remains w steps) (sym c.self.view_is) remains) in
    (it.others, it.same, it.remains)

pub kids-requires-in-Node : goal.kids-requires-in-Node
kids-requires-in-Node c =
    let same = ap (λ (l : List Frame). reverse l) (sym c.deref.ensures.value) ∙ c.in-Node.ensures.3 in
    next_there (store_of c.self.inside.store.now) c.self.inside.root (reverse c.self.inside.frames.items) c.in-Node.ensures.0 c.in-Node.node c.in-Node.ensures.1 c.in-Node.ensures.2 c.in_default.is same c.self.invariant.0 c.self.invariant.1

pub invariant_of-self-in-Node : goal.invariant_of-self-in-Node
invariant_of-self-in-Node c =
    let same = ap (λ (l : List Frame). reverse l) (sym c.deref.ensures.value) ∙ c.in-Node.ensures.3 in
    let it = takes_enter (store_of c.self.inside.store.now) c.self.inside.root (reverse c.self.inside.frames.items) (reverse c.enter.new.frames.items) c.in-Node.ensures.0 c.in-Node.node (kids_seen c.kids-in-Node.result) c.in-Node.ensures.1 c.in-Node.ensures.2 c.in_default.is same c.kids-in-Node.ensures
    (c.in_ok-enter-in-Node.ensures.ok c.in-Node.ensures.0 (NodeKid c.in-Node.node) c.in-Node.ensures.1 c.in-Node.ensures.2 same) c.self.invariant.0 c.self.invariant.1 in
    (it.others, it.remains)

pub returns-in_ok-enter-in-Node-clause-step : goal.returns-in_ok-enter-in-Node-clause-step
returns-in_ok-enter-in-Node-clause-step c steps remains =
    let same = ap (λ (l : List Frame). reverse l) (sym c.deref.ensures.value) ∙ c.in-Node.ensures.3 in
    let it = takes_enter (store_of c.self.inside.store.now) c.self.inside.root (reverse c.self.inside.frames.items) (reverse c.enter.new.frames.items) c.in-Node.ensures.0 c.in-Node.node (kids_seen c.kids-in-Node.result) c.in-Node.ensures.1 c.in-Node.ensures.2 c.in_default.is same c.kids-in-Node.ensures
    (c.in_ok-enter-in-Node.ensures.ok c.in-Node.ensures.0 (NodeKid c.in-Node.node) c.in-Node.ensures.1 c.in-Node.ensures.2 same) steps (subst (λ w. Remains w steps) (sym c.self.view_is) remains) in
    (it.others, it.same, it.remains)

pub unreachable-requires : goal.unreachable-requires
unreachable-requires c =
    let same = ap (λ (l : List Frame). reverse l) (sym c.deref.ensures.value) ∙ c.in-Hidden.ensures.3 in
    not_hidden (store_of c.self.inside.store.now) c.self.inside.root (reverse c.self.inside.frames.items) c.in-Hidden.ensures.0 c.in-Hidden.ensures.1 c.in-Hidden.ensures.2 c.in_default.is same c.self.invariant.0 c.self.invariant.1

pub returns-in-Nothing-clause-step : goal.returns-in-Nothing-clause-step
returns-in-Nothing-clause-step c steps remains =
    let same = ap (λ (l : List Frame). reverse l) (sym c.deref.ensures.value) ∙ c.in-Nothing.ensures in
    subst (TakesFirst steps None) c.self.view_is
    (at_end (record { chunks = c.self.inside.store.now; root = c.self.inside.root; frames = reverse c.self.inside.frames.items }) c.in_default.is same steps (subst (λ w. Remains w steps) (sym c.self.view_is) remains))
