use Rattle.std.proofs.Common.{◌≡◌, ◌≤◌, List, ◌++◌, cond, not, true, Result, Ok, Err, OnOk, ap, sym, ◌∙◌, subst, arith, length}
use Rattle.std.specs.Result.{is_ok}
use Rattle.node_store.specs.Slots.{IsIndexOf, AreDistinct, HaveSlots}
use Rattle.node_store.specs.Chunks.{Chunk, AreApart, StoresBoth, numbers_in, node_count_in, store_of}
use Rattle.node_store.proofs.ChunkListLemmas.{stores_both, count-append}
use Rattle.node_store.proofs.SlotLemmas.{contained_at}
use Rattle.node_store.proofs.StoreLemmas.{distinct_both, room_append}
use Rattle.node_store.proofs.store.Store.append.Goals as goal

on_ok : {T E : Type 0} (r : Result T E) (P : Type 0) → OnOk r P → is_ok r ≡ true → P
on_ok (Ok x) P holds ok = holds
on_ok (Err e) P holds ok = absurd (cc)

pub set_slots-requires-clause-room : goal.set_slots-requires-clause-room
set_slots-requires-clause-room c =
    let done : is_ok c.append.result ≡ true = c.is_err-2.ensures.negation ∙ ap not c.if-is_err-2.false in
    let items = c.append.ensures.items ∙ ap (λ b. cond b (c.self.inside.chunks.items ++ c.other.inside.chunks.items) c.self.inside.chunks.items) done in
    let grown : is_ok c.grow.result ≡ true = c.is_err.ensures.negation ∙ ap not c.if-is_err.false in
    let room : length c.other.inside.slots.items ≤ length c.grow.new.slots.items = omega (arith, on_ok c.grow.result (c.len-2.result ≤ length c.grow.new.slots.items) c.grow.ensures.room grown, c.len-2.ensures, c.other.inside.slots.ok.0) in
    subst (λ (l : List Chunk). HaveSlots c.grow.new.slots.items c.len-place.result (numbers_in l)) (sym (c.deref.ensures.value ∙ items))
    (subst (λ n. HaveSlots c.grow.new.slots.items n (numbers_in (c.self.inside.chunks.items ++ c.other.inside.chunks.items))) (omega (arith, c.len-place.ensures, c.self.inside.chunks.ok.0))
    (room_append c.self.inside.chunks.items c.other.inside.chunks.items c.grow.new.slots.items c.other.inside.slots.items c.other.invariant.indexed room))

pub set_slots-requires-clause-distinct : goal.set_slots-requires-clause-distinct
set_slots-requires-clause-distinct c =
    let done : is_ok c.append.result ≡ true = c.is_err-2.ensures.negation ∙ ap not c.if-is_err-2.false in
    let items = c.append.ensures.items ∙ ap (λ b. cond b (c.self.inside.chunks.items ++ c.other.inside.chunks.items) c.self.inside.chunks.items) done in
    let apart = subst (λ l. AreApart c.self.inside.chunks.items l) (sym c.other.view_is) (subst (λ l. AreApart l c.args.other) (sym c.self.view_is) c.requires) in
    subst (λ (l : List Chunk). AreDistinct (numbers_in l)) (sym (c.deref.ensures.value ∙ items))
    (distinct_both c.self.inside.chunks.items c.other.inside.chunks.items c.self.inside.slots.items c.other.inside.slots.items c.self.invariant.indexed c.other.invariant.indexed apart)

pub invariant_of-self-2 : goal.invariant_of-self-2
invariant_of-self-2 c =
    let done : is_ok c.append.result ≡ true = c.is_err-2.ensures.negation ∙ ap not c.if-is_err-2.false in
    let items = c.append.ensures.items ∙ ap (λ b. cond b (c.self.inside.chunks.items ++ c.other.inside.chunks.items) c.self.inside.chunks.items) done in
    let all = ap node_count_in items in
    let sum = count-append c.self.inside.chunks.items c.other.inside.chunks.items in
    record {
      indexed = subst (λ (l : List Chunk). IsIndexOf c.set_slots.new.slots.items (numbers_in l)) c.deref.ensures.value c.set_slots.ensures;
      counted = omega (arith, c.in-Some.ensures.1, c.self.invariant.counted, c.other.invariant.counted, all, sum);
    }

pub returns-clause-trees : goal.returns-clause-trees
returns-clause-trees c =
    let done : is_ok c.append.result ≡ true = c.is_err-2.ensures.negation ∙ ap not c.if-is_err-2.false in
    let items = c.append.ensures.items ∙ ap (λ b. cond b (c.self.inside.chunks.items ++ c.other.inside.chunks.items) c.self.inside.chunks.items) done in
    let whole = items ∙ ap (λ l. l ++ c.other.inside.chunks.items) c.self.view_is ∙ ap (λ l. c.args.self.now ++ l) c.other.view_is in
    subst (λ l. StoresBoth (store_of c.args.self.now) (store_of c.args.other) (store_of l)) (sym whole)
    (stores_both c.args.self.now c.args.other (λ number one two. c.requires number (contained_at (numbers_in c.args.self.now) number one.0 one.1) (contained_at (numbers_in c.args.other) number two.0 two.1)))

pub returns-clause-count : goal.returns-clause-count
returns-clause-count c =
    let done : is_ok c.append.result ≡ true = c.is_err-2.ensures.negation ∙ ap not c.if-is_err-2.false in
    let items = c.append.ensures.items ∙ ap (λ b. cond b (c.self.inside.chunks.items ++ c.other.inside.chunks.items) c.self.inside.chunks.items) done in
    let whole = items ∙ ap (λ l. l ++ c.other.inside.chunks.items) c.self.view_is ∙ ap (λ l. c.args.self.now ++ l) c.other.view_is in
    ap node_count_in whole ∙ count-append c.args.self.now c.args.other
