-- A byte that was looked up.
use Rattle.std.proofs.Common.{◌≡◌, ℕ, List, length, get_or, ltb, sym, ap, ◌∙◌, Bor, ⊎_elim}
use Rattle.std.specs.Prelude.{Option, None, Some, slice_get, is_some, IfSome}
use Rattle.std.specs.Option.{option_copied}
use Rattle.std.proofs.lemmas.Bool.{false≢true, cases_lt, ltb-true, lt-ltb}
use Rattle.std.proofs.lemmas.Option.{slice_get_past, slice_get-get_or}

pub copied_get : (xs : List ℕ) (i : ℕ) (r : Option (Bor ℕ)) → is_some r ≡ ltb i (length xs) → IfSome r (λ x. x.now ≡ get_or xs i x.now) → option_copied r ≡ slice_get xs i
copied_get xs i None tells value =
    ⊎_elim (λ inside. absurd (false≢true (tells ∙ lt-ltb i (length xs) inside))) (λ past. sym (slice_get_past xs i past)) (cases_lt i (length xs))
copied_get xs i (Some x) tells value =
    ap Some value ∙ sym (slice_get-get_or xs i x.now (ltb-true i (length xs) (sym tells)))
