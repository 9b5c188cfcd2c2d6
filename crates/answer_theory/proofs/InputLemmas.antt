-- Inputs are within their limits, or one passes its limit: in one way, and not in both.
use Rattle.std.proofs.Common.{◌≡◌, ℕ, ◌≤◌, ◌⊎◌, inl, inr, List, [], ◌∷◌, ◌++◌, length, refl, sym, ap, ⊎_elim, arith}
use Rattle.std.proofs.lemmas.Bool.{cases_lt}
use Rattle.answer_theory.specs.declared.status.Status.{Status}
use Rattle.answer_theory.specs.Tasks.{Input}
use Rattle.answer_theory.specs.Answers.{AreWithin, none_left, one_within, IsPassed, passed_here, passed_later}

-- no more was read where all inputs were
pub within_once : {inputs : List Input} {given all : List (List ℕ)} (more : List (List ℕ)) → AreWithin inputs given → all ≡ given ++ more → AreWithin inputs all → more ≡ []
within_once more none_left e none_left = sym e
within_once more (one_within short within) e (one_within other_short other_within) = within_once more within (cc) other_within

-- nor where one is too long, and it is the same one
pub passed_once : {inputs : List Input} {given all : List (List ℕ)} {status other_status : Status} {said other_said : List ℕ} (more : List (List ℕ)) → IsPassed inputs given status said → all ≡ given ++ more → IsPassed inputs all other_status other_said → (more ≡ []) × (status ≡ other_status) × (said ≡ other_said)
passed_once more (passed_here long) e (passed_here other_long) = (cc, refl, refl)
passed_once more (passed_here {input = input} {bytes = bytes} long) e (passed_later {bytes = other} short later) =
    let same : other ≡ bytes = cc in
    absurd (omega (arith, long, short, ap length same))
passed_once more (passed_later {bytes = bytes} short later) e (passed_here {bytes = other} long) =
    let same : other ≡ bytes = cc in
    absurd (omega (arith, long, short, ap length same))
passed_once more (passed_later short later) e (passed_later other_short other_later) = passed_once more later (cc) other_later

-- they are not all within their limits where one is too long
pub not_both : {inputs : List Input} {given all : List (List ℕ)} {status : Status} {said : List ℕ} (more : List (List ℕ)) → IsPassed inputs given status said → all ≡ given ++ more → ¬ (AreWithin inputs all)
not_both more (passed_here {bytes = bytes} long) e (one_within {bytes = other} short within) =
    let same : other ≡ bytes = cc in
    absurd (omega (arith, long, short, ap length same))
not_both more (passed_later short later) e (one_within other_short within) = not_both more later (cc) within

pub not_passed : {inputs : List Input} {given all : List (List ℕ)} {status : Status} {said : List ℕ} (more : List (List ℕ)) → AreWithin inputs given → all ≡ given ++ more → ¬ (IsPassed inputs all status said)
not_passed more none_left e passed = elim passed [ ]
not_passed more (one_within {bytes = bytes} short within) e (passed_here {bytes = other} long) =
    let same : other ≡ bytes = cc in
    absurd (omega (arith, long, short, ap length same))
not_passed more (one_within short within) e (passed_later other_short later) = not_passed more within (cc) later

-- the first of these passes its limit, and those before do not
pub record HasPassed (inputs : List Input) (given : List (List ℕ)) : Type 0 where
  pub before : List (List ℕ)
  pub more : List (List ℕ)
  pub status : Status
  pub said : List ℕ
  pub are : given ≡ before ++ more
  pub passed : IsPassed inputs before status said

one_more : {input : Input} {inputs : List Input} (bytes : List ℕ) (given : List (List ℕ)) → length bytes ≤ input.most → AreWithin inputs given ⊎ HasPassed inputs given → AreWithin (input ∷ inputs) (bytes ∷ given) ⊎ HasPassed (input ∷ inputs) (bytes ∷ given)
one_more bytes given short (inl within) = inl (one_within short within)
one_more bytes given short (inr h) =
    inr (record { before = bytes ∷ h.before; more = h.more; status = h.status; said = h.said; are = ap (λ l. bytes ∷ l) h.are; passed = passed_later short h.passed })

pub within_or_passed : (inputs : List Input) (given : List (List ℕ)) → length given ≡ length inputs → AreWithin inputs given ⊎ HasPassed inputs given
within_or_passed [] [] e = inl none_left
within_or_passed [] (bytes ∷ given) e = absurd (omega (arith, e))
within_or_passed (input ∷ inputs) [] e = absurd (omega (arith, e))
within_or_passed (input ∷ inputs) (bytes ∷ given) e =
    ⊎_elim
    (λ long. inr (record { before = bytes ∷ []; more = given; status = input.status; said = input.said; are = refl; passed = passed_here long }))
    (λ short. one_more bytes given short (within_or_passed inputs given (omega (arith, e))))
    (cases_lt input.most (length bytes))
