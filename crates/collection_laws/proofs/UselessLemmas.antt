-- It is refuted that a grammar has no useless name and yet isn't useful.
use Rattle.std.proofs.Common.{◌≡◌, ◌≢◌, ℕ, zero, suc, ◌<◌, ◌⊎◌, subst, inl, inr, ⊎_elim, arith}
use Rattle.std.proofs.lemmas.Bool.{cases_lt}
use Rattle.grammar_data.specs.Grammar.{Grammar}
use Rattle.grammar_theory.specs.UsefulNames.{IsProductive, IsReachable}
use Rattle.grammar_faults.specs.declared.fault.GrammarFault.{GrammarFault}
use Rattle.grammar_faults.specs.declared.fault.GrammarFault.TheVariants.{Unproductive, Unreachable, EmptyTooLarge, NoMemory}
use Rattle.grammar_faults.specs.Building.{IsFaultOf}
use Rattle.grammar_theory.specs.UselessNames.{IsEmptyTooLarge, IsUseful}
use Rattle.state_laws.proofs.RefutedLemmas.{NotRefuted, decided}

-- a fact of all numbers below the bound
abbrev HasAll : (ℕ → Type 0) → ℕ → Type 0
HasAll P bound = (n : ℕ) → n < bound → P n

-- the least number below the bound without it
abbrev HasFirst : (ℕ → Type 0) → ℕ → Type 0
HasFirst P bound = (n : ℕ) × (n < bound) × (P n → ⊥) × ((m : ℕ) → m < n → P m)

all_more : (P : ℕ → Type 0) (bound : ℕ) → HasAll P bound → P bound → HasAll P (suc bound)
all_more P bound all here n below =
    ⊎_elim (λ lower. all n lower) (λ upper. let same : bound ≡ n = omega arith in subst P same here) (cases_lt n bound)

first_more : (P : ℕ → Type 0) (bound : ℕ) → HasFirst P bound → HasFirst P (suc bound)
first_more P bound (n, below, not, least) = (n, omega (arith, below), not, least)

all_or_first : (P : ℕ → Type 0) (bound : ℕ) → NotRefuted (HasAll P bound ⊎ HasFirst P bound)
all_or_first P zero refuted = refuted (inl (λ n below. absurd (omega (arith, below))))
all_or_first P (suc bound) refuted =
    all_or_first P bound (λ found. ⊎_elim
    (λ all. decided (P bound) (λ d. ⊎_elim (λ here. refuted (inl (all_more P bound all here))) (λ not. refuted (inr (bound, omega arith, not, all))) d))
    (λ first. refuted (inr (first_more P bound first)))
    found)

pub some_useless : (g : Grammar) → (IsUseful g → ⊥) → ((fault : GrammarFault) → fault ≢ NoMemory → ¬ (IsFaultOf g fault)) → ⊥
some_useless g not_useful faultless =
    all_or_first (IsProductive g) g.names (λ productive. ⊎_elim
    (λ all_productive. all_or_first (IsReachable g) g.names (λ reachable. ⊎_elim
    (λ all_reachable. all_or_first (λ n. ¬ (IsEmptyTooLarge g n)) g.names (λ small. ⊎_elim
    (λ all_small. not_useful (record { productive = all_productive; reachable = all_reachable; small = all_small }))
    (λ first. let (n, below, not, least) = first in not (λ large. faultless (EmptyTooLarge n) (λ e. absurd (cc)) (record { productive = all_productive; reachable = all_reachable; name = below; large = large; least = least })))
    small))
    (λ first. let (n, below, not, least) = first in faultless (Unreachable n) (λ e. absurd (cc)) (record { productive = all_productive; name = below; unreachable = not; least = least }))
    reachable))
    (λ first. let (n, below, not, least) = first in faultless (Unproductive n) (λ e. absurd (cc)) (record { name = below; unproductive = not; least = least }))
    productive)
