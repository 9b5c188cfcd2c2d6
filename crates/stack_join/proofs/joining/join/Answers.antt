use Rattle.std.proofs.Common.{◌≡◌, ◌∙◌, ◌++◌, ◌∷◌, [], List, ℕ, sym, ap, append_assoc, subst, arith}
use Rattle.grammar_data.specs.declared.token.Token.{Token as TextToken}
use Rattle.context_laws.proofs.AlongLemmas.{size_law}
use Rattle.use_theory.specs.Distinct.{Unites}
use Rattle.use_theory.specs.Kept.{IsKept}
use Rattle.use_theory.proofs.KeptLemmas.{kept_same, kept_then}
use Rattle.bare_theory.specs.Bare.{AreBarePiecesOf}
use Rattle.node_store.specs.Chunks.{AreApart, Chunk, HasChunk, StoresBoth, numbers_in, store_of}
use Rattle.lr_machine.specs.IsTables.{IsTables}
use Rattle.piece_lists.specs.Lists.{Stored, pieces_in}
use Rattle.stack_join.proofs.BeginLemmas.{no_chunk, numbers_then, take_front, unites_of, where_ok}
use Rattle.stack_join.proofs.joining.join.Goals.{After-deref_mut}
use Rattle.stack_join.proofs.joining.join.Goals as goal

pub append-requires : goal.append-requires
append-requires c number has also =
    let left = ap (λ (v : Stored). v.store) c.into_parts-parts.ensures in
    let right = ap (λ (v : Stored). v.store) c.into_parts-others.ensures in
    c.requires.apart number (subst (λ (l : List Chunk). HasChunk l number) (sym left) has) (subst (λ (l : List Chunk). HasChunk l number) (sym right) also)

pub add_chunk-requires : goal.add_chunk-requires
add_chunk-requires c has =
    let left = ap (λ (v : Stored). v.store) c.into_parts-parts.ensures in
    let right = ap (λ (v : Stored). v.store) c.into_parts-others.ensures in
    let both = where_ok c.append.result (sym c.is_err.ensures.value ∙ c.if-is_err.false) c.append.ensures.appended in
    no_chunk c.into_parts-parts.result.1 c.into_parts-others.result.1 c.append.new.self c.args.chunk both
    (λ it. c.requires.chunk.0 (subst (λ (l : List Chunk). HasChunk l c.args.chunk) (sym left) it))
    (λ it. c.requires.chunk.1 (subst (λ (l : List Chunk). HasChunk l c.args.chunk) (sym right) it)) has

pub put_together-requires-clause-lead : goal.put_together-requires-clause-lead
put_together-requires-clause-lead c =
    let is : IsTables c.args.arrows.now.0 = subst IsTables c.tables.ensures c.holds.ensures in
    size_law c.args.arrows.now.0 is.acts_size is.gotos_size

-- the store has the nodes of both
unites : (c : After-deref_mut) → Unites (store_of c.into_parts-parts.result.1) (store_of c.into_parts-others.result.1) (store_of c.add_chunk.new.self)
unites c =
    let first = c.into_parts-parts.result.1 in
    let second = c.into_parts-others.result.1 in
    let left = ap (λ (v : Stored). v.store) c.into_parts-parts.ensures in
    let right = ap (λ (v : Stored). v.store) c.into_parts-others.ensures in
    let apart : AreApart first second = λ number has also. c.requires.apart number (subst (λ (l : List Chunk). HasChunk l number) (sym left) has) (subst (λ (l : List Chunk). HasChunk l number) (sym right) also) in
    let stores : StoresBoth (store_of first) (store_of second) (store_of c.append.new.self) = where_ok c.append.result (sym c.is_err.ensures.value ∙ c.if-is_err.false) c.append.ensures.trees in
    unites_of first second c.append.new.self c.add_chunk.new.self apart stores (λ m. c.in_ok-add_chunk.ensures.trees m)

-- what either list is pieces of
left_are : (c : After-deref_mut) (tokens : List TextToken) → AreBarePiecesOf c.args.arrows.now.0 (store_of c.args.left.store) c.args.left.closed tokens → AreBarePiecesOf c.args.arrows.now.0 (store_of c.into_parts-parts.result.1) (pieces_in c.into_parts-parts.result.0.items) tokens
left_are c tokens are = subst (λ (v : Stored). AreBarePiecesOf c.args.arrows.now.0 (store_of v.store) v.closed tokens) c.into_parts-parts.ensures are

right_are : (c : After-deref_mut) (tokens : List TextToken) → AreBarePiecesOf c.args.arrows.now.0 (store_of c.args.right.store) c.args.right.closed tokens → AreBarePiecesOf c.args.arrows.now.0 (store_of c.into_parts-others.result.1) (pieces_in c.deref_mut.result.now) tokens
right_are c tokens are =
    let also : AreBarePiecesOf c.args.arrows.now.0 (store_of c.into_parts-others.result.1) (pieces_in c.into_parts-others.result.0.items) tokens = subst (λ (v : Stored). AreBarePiecesOf c.args.arrows.now.0 (store_of v.store) v.closed tokens) c.into_parts-others.ensures are in
    subst (λ l. AreBarePiecesOf c.args.arrows.now.0 (store_of c.into_parts-others.result.1) (pieces_in l) tokens) (sym c.deref_mut.ensures.value) also

pub put_together-requires-clause-pieces : goal.put_together-requires-clause-pieces
put_together-requires-clause-pieces c =
    let at = (goal.at.put_together-requires-clause-pieces c).After-deref_mut in
    let tokens = c.requires.pieces.0 in
    let more = c.requires.pieces.1 in
    (store_of c.into_parts-parts.result.1, store_of c.into_parts-others.result.1, tokens, more, c.requires.pieces.2, unites at, left_are at tokens c.requires.pieces.3, right_are at more c.requires.pieces.4)

pub returns-clause-pieces : goal.returns-clause-pieces
returns-clause-pieces c tokens more are also =
    let t = c.args.arrows.now.0 in
    let at = (goal.at.returns-clause-pieces c).After-deref_mut in
    let whole = c.in_ok-put_together.ensures.pieces (store_of c.into_parts-parts.result.1) (store_of c.into_parts-others.result.1) tokens more (unites at) (left_are at tokens are) (right_are at more also) in
    let same = ap (λ l. pieces_in c.put_together.new.parts.items ++ pieces_in l) (take_front c.put_together.new.others _ c.into_parts-others.result.0.len (let long = c.put_together.auto.others in let count = c.deref_mut.ensures.len in let held = c.into_parts-others.result.0.ok.0 in omega (arith, long, count, held))) in
    let put : AreBarePiecesOf t (store_of c.put_together.new.store) (pieces_in c.append-2.new.parts.items) (tokens ++ more) = subst (λ l. AreBarePiecesOf t (store_of c.put_together.new.store) l (tokens ++ more)) (sym (c.in_ok-append.ensures ∙ same)) whole in
    subst (λ (v : Stored). AreBarePiecesOf t (store_of v.store) v.closed (tokens ++ more)) (sym c.of_parts.ensures) put

pub returns-clause-kept : goal.returns-clause-kept
returns-clause-kept c =
    let base = unites (goal.at.returns-clause-kept c).After-deref_mut in
    let first = store_of c.into_parts-parts.result.1 in
    let second = store_of c.into_parts-others.result.1 in
    let both = store_of c.add_chunk.new.self in
    let now = store_of c.put_together.new.store in
    let result = ap (λ (v : Stored). v.store) c.of_parts.ensures in
    let left : IsKept first now = kept_then first both now (kept_same first both base.of_first) c.in_ok-put_together.ensures.kept in
    let right : IsKept second now = kept_then second both now (kept_same second both base.of_second) c.in_ok-put_together.ensures.kept in
    let left_is = ap (λ (v : Stored). v.store) c.into_parts-parts.ensures in
    let right_is = ap (λ (v : Stored). v.store) c.into_parts-others.ensures in (
      subst (λ (l : List Chunk). IsKept (store_of l) (store_of c.of_parts.result.store)) (sym left_is) (subst (λ (l : List Chunk). IsKept first (store_of l)) (sym result) left),
      subst (λ (l : List Chunk). IsKept (store_of l) (store_of c.of_parts.result.store)) (sym right_is) (subst (λ (l : List Chunk). IsKept second (store_of l)) (sym result) right),
    )

pub returns-clause-chunks : goal.returns-clause-chunks
returns-clause-chunks c =
    let first = c.into_parts-parts.result.1 in
    let second = c.into_parts-others.result.1 in
    let number : List ℕ = c.args.chunk ∷ [] in
    let both = where_ok c.append.result (sym c.is_err.ensures.value ∙ c.if-is_err.false) c.append.ensures.appended in
    let left = ap (λ (v : Stored). numbers_in v.store) c.into_parts-parts.ensures in
    let right = ap (λ (v : Stored). numbers_in v.store) c.into_parts-others.ensures in
    ap (λ (v : Stored). numbers_in v.store) c.of_parts.ensures ∙ c.in_ok-put_together.ensures.chunks ∙ ap numbers_in c.in_ok-add_chunk.ensures.added ∙ numbers_then c.append.new.self ((c.args.chunk, []) ∷ [])
    ∙ ap (λ (l : List Chunk). numbers_in l ++ number) both ∙ ap (λ (l : List ℕ). l ++ number) (numbers_then first second) ∙ append_assoc (numbers_in first) (numbers_in second) number
    ∙ (λ k. sym left k ++ (sym right k ++ number))

pub returns-clause-empty : goal.returns-clause-empty
returns-clause-empty c =
    let left = ap (λ (v : Stored). v.closed) c.into_parts-parts.ensures in
    let right = ap (λ (v : Stored). v.closed) c.into_parts-others.ensures ∙ ap pieces_in (sym c.deref_mut.ensures.value) in
    let same = ap (λ l. pieces_in c.put_together.new.parts.items ++ pieces_in l) (take_front c.put_together.new.others _ c.into_parts-others.result.0.len (let long = c.put_together.auto.others in let count = c.deref_mut.ensures.len in let held = c.into_parts-others.result.0.ok.0 in omega (arith, long, count, held))) in
    let result : c.of_parts.result.closed ≡ pieces_in c.put_together.new.parts.items ++ pieces_in c.put_together.new.others = ap (λ (v : Stored). v.closed) c.of_parts.ensures ∙ c.in_ok-append.ensures ∙ same in (
      λ none. result ∙ c.in_ok-put_together.ensures.empty.0 (sym left ∙ none) ∙ sym right,
      λ none. result ∙ c.in_ok-put_together.ensures.empty.1 (sym right ∙ none) ∙ sym left,
    )
