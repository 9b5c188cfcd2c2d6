use Rattle.std.proofs.Common.{◌≡◌, ℕ, ◌<◌, List, length, get_or, ◌∙◌, arith}
use Rattle.std.specs.Prelude.{slice_get}
use Rattle.std.proofs.lemmas.List.{ext_get_or}
use Rattle.std.proofs.lemmas.Option.{get_or_from_slice_get, slice_get-get_or}
use Rattle.arrow_table.proofs.interning.same_map.Goals as goal

-- lists of one length with the same at each place are the same
same_by_places : (xs ys : List (ℕ × ℕ)) → length xs ≡ length ys → ((k : ℕ) → k < length xs → slice_get xs k ≡ slice_get ys k) → xs ≡ ys
same_by_places xs ys lengths places = ext_get_or (0, 0) xs ys lengths (λ i within.
    get_or_from_slice_get xs i (get_or ys i (0, 0)) (0, 0) (places i within ∙ slice_get-get_or ys i (0, 0) (omega (arith, lengths, within))))

pub returns-clause-same : goal.returns-clause-same
returns-clause-same c _ =
    same_by_places c.args.one.now c.args.other.now (omega (arith, c.len.ensures, c.len-2.ensures, c.if-len.false)) (λ k within.
    c.loop-i.invariant k (omega (arith, within, c.loop-i-test.false, c.len-i-end.ensures)))
