use Rattle.std.proofs.Common.{◌≡◌, ◌<◌, ℕ, List, subst, ◌↔◌}
use Rattle.std.specs.Prelude.{slice_get, Some}
use Rattle.std.proofs.lemmas.Result.{IfOk-weaker}
use Rattle.position_sets.specs.Sets.{Has}
use Rattle.token_patterns.specs.Ahead.{IsBehindOne}
use Rattle.token_patterns.specs.Searching.{words_of}
use Rattle.token_patterns.proofs.KeyLemmas.{kept_words}
use Rattle.token_patterns.proofs.building.ahead_at.Goals as goal

pub returns-clause-others : goal.returns-clause-others
returns-clause-others c =
    let positions = c.args.joint.now.positions.items in
    let key = c.in-Some.set.now in
    IfOk-weaker c.ahead_of.result (λ ahead. (place : ℕ) → Has ahead.items place ↔ IsBehindOne c.deref-in-Some.result.now c.deref-in-Some-2.result.now place)
    (λ ahead. 0 < c.args.state → (set : List ℕ) → slice_get (words_of c.args.sets.now.keys) c.args.state ≡ Some set → (place : ℕ) → Has ahead.items place ↔ IsBehindOne positions set place)
    (λ ahead h above set at.
    let same = kept_words c.args.sets.now.keys c.args.state key set c.in-Some.ensures.key at in
    subst (λ (s : List ℕ). (place : ℕ) → Has ahead.items place ↔ IsBehindOne positions s place) same (rw (c.deref-in-Some.ensures.value, c.deref-in-Some-2.ensures.value) at h))
    c.ahead_of.ensures.places
