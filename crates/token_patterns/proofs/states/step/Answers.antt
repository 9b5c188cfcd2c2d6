use Rattle.std.proofs.Common.{◌≡◌, ◌+◌, ◌≤◌, ⊎_elim, inr, length, length-append, ap, ◌∙◌, arith}
use Rattle.std.proofs.lemmas.Bool.{and_from}
use Rattle.std.proofs.lemmas.Option.{slice_get_within}
use Rattle.scanning_theory.specs.declared.limits.TheConstants.{STATES}
use Rattle.token_patterns.specs.Searching.{words_of, IsCommonOf, IsFoundOrAdded}
use Rattle.token_patterns.proofs.KeyLemmas.{inserted, length_words}
use Rattle.token_patterns.proofs.states.step.Goals as goal

pub returns-then-state-ge-STATES-clause-many : goal.returns-then-state-ge-STATES-clause-many
returns-then-state-ge-STATES-clause-many c = λ same.
    let keys = c.args.sets.now.keys in
    let set = c.in_ok-set.set.items in
    let found : IsFoundOrAdded set (words_of keys) (words_of c.insert_full.new.self.keys) c.in_ok-state.state =
    inserted c.in_ok-set.set keys c.insert_full.new.self.keys c.in_ok-state.state c.in_ok-state.ensures.keys c.in_ok-state.ensures.index in
    let meets = c.if-not-meet.ensures in
    let common : IsCommonOf (length c.args.ahead.now) c.args.ahead.now c.args.mask.now set = record {
      both = c.in_ok-set.ensures.places;
      fit = c.in_ok-set.ensures.set (length c.args.ahead.now) c.requires.ahead c.requires.mask;
      some = (meets.0, c.in_ok-set.ensures.places meets.0 ∙ and_from _ _ meets.1 meets.2);
    } in
    let size : length (words_of keys) ≡ length keys = length_words keys in
    let few : length keys ≤ STATES = c.requires.few in
    let high : STATES ≤ c.in_ok-state.state = c.if-state-ge-STATES.true in
    ⊎_elim
    (λ old. absurd (let below = slice_get_within (words_of keys) c.in_ok-state.state set old.1 in omega (arith, below, size, few, high)))
    (λ new. record { set = set; common = common; fresh = new.2; full = let at : c.in_ok-state.state ≡ length (words_of keys) = new.1 in omega (arith, at, high) })
    found

pub returns-clause-cell : goal.returns-clause-cell
returns-clause-cell c =
    let keys = c.args.sets.now.keys in
    let set = c.in_ok-set.set.items in
    let found : IsFoundOrAdded set (words_of keys) (words_of c.insert_full.new.self.keys) c.in_ok-state.state =
    inserted c.in_ok-set.set keys c.insert_full.new.self.keys c.in_ok-state.state c.in_ok-state.ensures.keys c.in_ok-state.ensures.index in
    let meets = c.if-not-meet.ensures in
    let common : IsCommonOf (length c.args.ahead.now) c.args.ahead.now c.args.mask.now set = record {
      both = c.in_ok-set.ensures.places;
      fit = c.in_ok-set.ensures.set (length c.args.ahead.now) c.requires.ahead c.requires.mask;
      some = (meets.0, c.in_ok-set.ensures.places meets.0 ∙ and_from _ _ meets.1 meets.2);
    } in
    inr (set, common, found)

pub returns-clause-few : goal.returns-clause-few
returns-clause-few c =
    let keys = c.args.sets.now.keys in
    let set = c.in_ok-set.set.items in
    let after = c.insert_full.new.self.keys in
    let found : IsFoundOrAdded set (words_of keys) (words_of after) c.in_ok-state.state =
    inserted c.in_ok-set.set keys after c.in_ok-state.state c.in_ok-state.ensures.keys c.in_ok-state.ensures.index in
    let size : length (words_of keys) ≡ length keys = length_words keys in
    let grown : length (words_of after) ≡ length after = length_words after in
    let few : length keys ≤ STATES = c.requires.few in
    ⊎_elim
    (λ old. let same : length (words_of after) ≡ length (words_of keys) = ap length old.0 in omega (arith, size, grown, few, same))
    (λ new. let more : length (words_of after) ≡ length (words_of keys) + 1 = ap length new.0 ∙ length-append (words_of keys) _ in
    let at : c.in_ok-state.state ≡ length (words_of keys) = new.1 in
    omega (arith, grown, more, at, c.if-state-ge-STATES.false))
    found
