-- The match that the loop of a walk keeps, as it begins, with a byte more, and as the walk's.
use Rattle.std.proofs.Common.{◌≡◌, ◌≢◌, ℕ, ◌+◌, ◌-◌, ◌^◌, ◌<◌, ◌≤◌, inl, inr, Bool, true, false, List, length, refl, sym, ap, ◌∙◌, subst, arith}
use Rattle.std.specs.Prelude.{slice_index, Option, Some, None, IfSome}
use Rattle.pattern_data.specs.declared.pattern.Pattern.{Pattern}
use Rattle.token_patterns.specs.Ahead.{no_rank}
use Rattle.token_patterns.specs.Scanner.{Table, IsScannerOf, IsTable, EndsHere, EndsMatch}
use Rattle.token_patterns.specs.Walking.{read_of, IsBest, IsFound, IsRead, NoneLonger, IsWalk}
use Rattle.token_patterns.specs.declared.walk.Found.{Found}
use Rattle.token_patterns.specs.declared.walk.Walk.{Walk}
use Rattle.token_patterns.proofs.LongestLemmas.{best_more, ended_keeps, within_more, rank_of_end}

-- one match is kept, and no other
same_match : (end len : ℕ) (one other : Option (ℕ × ℕ)) → EndsMatch end len None one → EndsMatch end len None other → one ≡ other
same_match end len one other (inl a) (inl b) = a.1 ∙ sym b.1
same_match end len one other (inl a) (inr b) = absurd (b.0 a.0)
same_match end len one other (inr a) (inl b) = absurd (a.0 b.0)
same_match end len one other (inr a) (inr b) = a.1 ∙ sym b.1

-- what says that no pattern ends isn't the rank of a match
pub no_rank_among : (table : Table) (best : Option (ℕ × ℕ)) → IsTable table → IfSome best (λ one. one.1 < table.ranks) → IfSome best (λ one. one.1 < no_rank)
no_rank_among table None is ranked = tt
no_rank_among table (Some one) is ranked = let few = is.few in omega (arith, ranked, few)

pub found_first : (table : Table) (text : List ℕ) (from : ℕ) (walk : Walk) (found : Found) → IsWalk table text from walk → from ≤ found.behind → EndsMatch found.end (found.behind - from) None walk.best → IsFound table text from walk.at found
found_first table text from walk found walks behind is = record {
  behind = behind;
  best = walk.best;
  is = is;
  some = walks.some;
  within = walks.within;
  ranked = walks.ranked;
  longest = walks.best;
}

-- what is the best match when a byte more was read
next_best : (end from at : ℕ) (before result : Found) (best : Option (ℕ × ℕ)) → EndsHere end (at + 1) before result → EndsMatch before.end (before.behind - from) None best
    → (next : Option (ℕ × ℕ)) × EndsMatch end (at + 1 - from) best next × EndsMatch result.end (result.behind - from) None next
next_best end from at before result best (inl (is, same)) found = (best, inl (is, refl), subst (λ (f : Found). EndsMatch f.end (f.behind - from) None best) (sym same) found)
next_best end from at before result best (inr (other, same)) found =
    (Some (at + 1 - from, end), inr (other, refl), subst (λ (f : Found). EndsMatch f.end (f.behind - from) None (Some (at + 1 - from, end))) (sym same) (inr (other, refl)))

behind_next : (end from at : ℕ) (before result : Found) → EndsHere end (at + 1) before result → from ≤ at → from ≤ before.behind → from ≤ result.behind
behind_next end from at before result (inl (is, same)) after behind = subst (λ (f : Found). from ≤ f.behind) (sym same) behind
behind_next end from at before result (inr (other, same)) after behind = subst (λ (f : Found). from ≤ f.behind) (sym same) (omega (arith, after))

pub found_more : (table : Table) (text : List ℕ) (from at state : ℕ) (before result : Found) → IsTable table → from ≤ at → at < length text → state < length table.ends
    → ((patterns : List Pattern) (s : IsScannerOf table patterns) → IsRead table patterns s (read_of text from (at - from + 1)) state)
    → EndsHere (slice_index table.ends state) (at + 1) before result → IsFound table text from at before → IsFound table text from (at + 1) result
found_more table text from at state before result is after inside within read ended found =
    let end = slice_index table.ends state in
    let more : at + 1 - from ≡ at - from + 1 = omega (arith, after) in
    let next = next_best end from at before result found.best ended found.is in
    let step : EndsMatch end (at - from + 1) found.best next.0 = subst (λ len. EndsMatch end len found.best next.0) more next.1 in
    record {
      behind = behind_next end from at before result ended after found.behind;
      best = next.0;
      is = next.2;
      some = ended_keeps (λ one. 0 < one.0) end (at - from + 1) found.best next.0 step found.some (λ other. omega arith);
      within = ended_keeps (λ one. from + one.0 ≤ at + 1) end (at - from + 1) found.best next.0 step (within_more found.best from at found.within) (λ other. omega (arith, after));
      ranked = ended_keeps (λ one. one.1 < table.ranks) end (at - from + 1) found.best next.0 step found.ranked (λ other. rank_of_end table state is within other);
      longest = λ patterns s. subst (λ k. IsBest patterns text from k next.0) (sym more)
          (best_more table patterns s text from (at - from) state (omega (arith, after, inside)) (read patterns s) is.few found.best next.0 step (found.longest patterns s));
    }

pub walk_of : (table : Table) (text : List ℕ) (from at state : ℕ) (found : Found) (best : Option (ℕ × ℕ)) (ended : Bool) → IsFound table text from at found → EndsMatch found.end (found.behind - from) None best
    → from ≤ at → at ≤ length text → state < length table.ends → state < 2 ^ 16
    → (ended ≡ false → (patterns : List Pattern) (s : IsScannerOf table patterns) → IsRead table patterns s (read_of text from (at - from)) state)
    → (ended ≡ true → (patterns : List Pattern) → IsScannerOf table patterns → NoneLonger patterns text from (at - from))
    → IsWalk table text from (record { at = at; state = state; best = best; ended = ended })
walk_of table text from at state found best ended is_found is after inside within small goes_on ends =
    let same : is_found.best ≡ best = same_match found.end (found.behind - from) is_found.best best is_found.is is in
    record {
      begun = after;
      inside = inside;
      state = within;
      small = small;
      some = subst (λ (o : Option (ℕ × ℕ)). IfSome o (λ one. 0 < one.0)) same is_found.some;
      within = subst (λ (o : Option (ℕ × ℕ)). IfSome o (λ one. from + one.0 ≤ at)) same is_found.within;
      ranked = subst (λ (o : Option (ℕ × ℕ)). IfSome o (λ one. one.1 < table.ranks)) same is_found.ranked;
      best = λ patterns s. subst (λ (o : Option (ℕ × ℕ)). IsBest patterns text from (at - from) o) same (is_found.longest patterns s);
      goes_on = goes_on;
      ends = ends;
    }
