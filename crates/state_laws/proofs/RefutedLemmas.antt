-- What isn't refuted: where no test decides a fact, neither it nor its contrary is; nor that a number with it has a least.
use Rattle.std.proofs.Common.{◌≡◌, ℕ, zero, suc, ◌<◌, ◌⊎◌, subst, inl, inr, ⊎_elim, arith}
use Rattle.std.proofs.lemmas.Bool.{cases_lt}

abbrev pub NotRefuted : Type 0 → Type 0
NotRefuted P = (P → ⊥) → ⊥

pub decided : (P : Type 0) → NotRefuted (P ⊎ (P → ⊥))
decided P refuted = refuted (inr (λ p. refuted (inl p)))

-- a number with the fact, and none below has it
abbrev pub HasLeast : (ℕ → Type 0) → Type 0
HasLeast P = (n : ℕ) × P n × ((m : ℕ) → m < n → P m → ⊥)

abbrev pub HasNone : (ℕ → Type 0) → ℕ → Type 0
HasNone P bound = (n : ℕ) → n < bound → P n → ⊥

none_more : (P : ℕ → Type 0) (bound : ℕ) → HasNone P bound → (P bound → ⊥) → HasNone P (suc bound)
none_more P bound none not n below has =
    ⊎_elim (λ lower. none n lower has) (λ upper. let same : n ≡ bound = omega arith in not (subst P same has)) (cases_lt n bound)

none_or_least : (P : ℕ → Type 0) (bound : ℕ) → NotRefuted (HasNone P bound ⊎ HasLeast P)
none_or_least P zero refuted = refuted (inl (λ n below has. absurd (omega (arith, below))))
none_or_least P (suc bound) refuted =
    none_or_least P bound (λ found. ⊎_elim
    (λ none. decided (P bound) (λ d. ⊎_elim (λ has. refuted (inr (bound, has, none))) (λ not. refuted (inl (none_more P bound none not))) d))
    (λ least. refuted (inr least))
    found)

pub least : (P : ℕ → Type 0) (n : ℕ) → P n → NotRefuted (HasLeast P)
least P n has refuted =
    none_or_least P (suc n) (λ found. ⊎_elim (λ none. none n (omega arith) has) (λ h. refuted h) found)
