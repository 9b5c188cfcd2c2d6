use Rattle.std.proofs.Common.{◌+◌, [], ◌∷◌, ◌++◌, refl, sym, ap, ◌∙◌, subst, arith}
use Rattle.bare_theory.specs.Bare.{AreBarePiecesOf}
use Rattle.node_store.specs.Chunks.{numbers_in, store_of}
use Rattle.range_theory.specs.Ranges.{all_of}
use Rattle.segment_runs.proofs.JoinedLemmas.{are_apart, few_both, joined_few, new_chunk, of_both}
use Rattle.segment_runs.proofs.joined.Joined.with.Goals as goal

pub join-requires-clause-apart : goal.join-requires-clause-apart
join-requires-clause-apart c =
    let (first, last, low, high, within, left, right) = c.requires.sides in
    are_apart c.args.job.now c.requires.can first c.args.boundary last c.args.self c.args.right low high within left right

pub join-requires-clause-chunk : goal.join-requires-clause-chunk
join-requires-clause-chunk c =
    let (first, last, low, high, within, left, right) = c.requires.sides in
    rw c.segments.ensures (new_chunk c.args.job.now c.requires.can first c.args.boundary last c.args.self c.args.right low high within left right)

pub join-requires-clause-pieces : goal.join-requires-clause-pieces
join-requires-clause-pieces c =
    let (first, last, low, high, within, left, right) = c.requires.sides in
    rw c.requires.tables (all_of left.lists, all_of right.lists, few_both c.args.job.now c.requires.can first c.args.boundary last c.args.self c.args.right low high within left right, left.pieces, right.pieces)

pub overflow_add-result : goal.overflow_add-result
overflow_add-result c =
    let (first, last, low, high, within, left, right) = c.requires.sides in
    let one = joined_few c.args.job.now c.requires.can first c.args.boundary c.args.self (omega (arith, low)) (omega (arith, high, within)) left in
    let two = joined_few c.args.job.now c.requires.can c.args.boundary last c.args.right (omega (arith, high)) within right in
    omega (arith, one, two)

pub overflow_add-result-2 : goal.overflow_add-result-2
overflow_add-result-2 c =
    let (first, last, low, high, within, left, right) = c.requires.sides in
    let one = joined_few c.args.job.now c.requires.can first c.args.boundary c.args.self (omega (arith, low)) (omega (arith, high, within)) left in
    let two = joined_few c.args.job.now c.requires.can c.args.boundary last c.args.right (omega (arith, high)) within right in
    omega (arith, one, two)

pub returns-clause-joined : goal.returns-clause-joined
returns-clause-joined c first last low high within left right =
    let job = c.args.job.now in
    let made = c.in_ok-join.field-0 in
    let pieces = c.in_ok-join.ensures.pieces (all_of left.lists) (all_of right.lists)
    (subst (λ t. AreBarePiecesOf t (store_of c.args.self.pieces.store) c.args.self.pieces.closed (all_of left.lists)) (sym c.requires.tables) left.pieces)
    (subst (λ t. AreBarePiecesOf t (store_of c.args.right.pieces.store) c.args.right.pieces.closed (all_of right.lists)) (sym c.requires.tables) right.pieces) in
    of_both job c.requires.can first c.args.boundary last c.args.self c.args.right low high within left right
    (record { pieces = made; tokens = c.args.self.tokens + c.args.right.tokens; count = c.args.self.count + c.args.right.count })
    (subst (λ t. AreBarePiecesOf t (store_of made.store) made.closed (all_of left.lists ++ all_of right.lists)) c.requires.tables pieces)
    (c.in_ok-join.ensures.chunks ∙ ap (λ n. numbers_in c.args.self.pieces.store ++ (numbers_in c.args.right.pieces.store ++ (n + c.args.boundary) ∷ [])) c.segments.ensures)
    refl refl
