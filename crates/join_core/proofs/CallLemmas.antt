-- Calls and the events that they make.
use Rattle.std.proofs.Common.{ℕ, ◌+◌, ◌<◌, List, [], ◌∷◌, ◌++◌, length, take, get_or, Option, ⊎_elim, refl, sym, subst, arith}
use Rattle.std.specs.List.{AllZip}
use Rattle.std.proofs.lemmas.List.{take_more}
use Rattle.std.proofs.lemmas.Option.{get_or_from_slice_get, slice_get_cases}
use Rattle.core_theory.specs.Core.{CoreState}
use Rattle.core_theory.specs.Events.{Claims}
use Rattle.core_theory.specs.Runs.{Event, Claimed, CameFirst, CameSecond, begin, step}
use Rattle.join_core.specs.declared.arrival.Arrival.{Arrival}
use Rattle.join_core.specs.declared.arrival.Arrival.TheVariants.{First, Second}
use Rattle.join_core.specs.declared.call.Call.{Call}
use Rattle.join_core.specs.declared.call.Call.TheVariants.{Claim, Arrive}
use Rattle.join_core.specs.Nodes.{range_from, Arrives}
use Rattle.join_core.specs.Calls.{IsEventOf, IsMade, IsMet, RunsCalls, StopsAt}

pub claim_made : {before after : CoreState} {found : Option ℕ} → Claims before found after → IsMade before Claim after
claim_made {found = found} claims = (Claimed found, tt, claims)

pub arrive_made : {before after : CoreState} {first last : ℕ} (arrival : Arrival) → Arrives before (range_from first last) arrival after → IsMade before (Arrive first last) after
arrive_made {first = first} {last = last} First (node, is_left, came) = (CameFirst (range_from first last) node is_left, refl, came)
arrive_made {first = first} {last = last} (Second from upto) (node, is_left, came, same) = (CameSecond (range_from first last) node is_left, refl, came)

pub runs_none : (s : CoreState) → RunsCalls s [] s
runs_none s = ([], tt, begin)

zip_push : (calls : List Call) (events : List Event) (call : Call) (event : Event) → AllZip IsEventOf calls events → IsEventOf call event → AllZip IsEventOf (calls ++ call ∷ []) (events ++ event ∷ [])
zip_push [] [] call event all is = (is, tt)
zip_push [] (other ∷ events) call event all is = absurd all
zip_push (first ∷ calls) [] call event all is = absurd all
zip_push (first ∷ calls) (other ∷ events) call event all is = (all.0, zip_push calls events call event all.1 is)

pub runs_more : {start before after : CoreState} (calls : List Call) (made : ℕ) (d : Call) → made < length calls → RunsCalls start (take made calls) before → IsMade before (get_or calls made d) after → RunsCalls start (take (made + 1) calls) after
runs_more {start} {before} {after} calls made d inside runs is =
    let P : List Call → Type 0 = λ l. RunsCalls start l after in
    subst P (sym (take_more calls made d inside)) (runs.0 ++ is.0 ∷ [], zip_push (take made calls) runs.0 (get_or calls made d) is.0 runs.1 is.1, step is.0 runs.2 is.2)

-- the next call may not be made
pub stops_here : {s : CoreState} (calls : List Call) (made : ℕ) (d : Call) → made < length calls → (IsMet s (get_or calls made d) → ⊥) → StopsAt s calls made
stops_here {s} calls made d inside unmet = record {
  within = omega (arith, inside);
  next = λ call at met. let P : Call → Type 0 = λ k. IsMet s k in unmet (subst P (sym (get_or_from_slice_get calls made call d at)) met);
}

-- there is no next call
pub stops_at_end : {s : CoreState} (calls : List Call) → StopsAt s calls (length calls)
stops_at_end calls = record {
  within = omega arith;
  next = λ call at met. ⊎_elim (λ here. omega (arith, here.1)) (λ past. cc (at, past.1)) (slice_get_cases calls (length calls)).1;
}
