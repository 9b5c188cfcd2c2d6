use Rattle.std.proofs.Common.{◌≡◌, ◌++◌, ◌∷◌, ℕ, ◌<◌, List, [], length, Some, if◌then◌else◌, sym, ap, subst, ◌∙◌, arith}
use Rattle.std.specs.Global.{Vec}
use Rattle.collection_data.specs.declared.entry.Entry.{Entry}
use Rattle.item_sets.specs.Found.{same_key, state_at}
use Rattle.item_sets.specs.Searching.{AreFoundSoFar, FoundStates, IsNewKernel, IsStepKernel}
use Rattle.item_sets.proofs.StateFinding.{found_same, found_pushed}
use Rattle.item_sets.proofs.states.States.add.Goals as goal

pub invariant_of-self-in_err-note : goal.invariant_of-self-in_err-note
invariant_of-self-in_err-note c =
    let s = c.self.inside in
    let rows = s.table.now.rows.items in
    let fronts = s.table.now.fronts.items in
    subst (λ (sets : List (List Entry)). AreFoundSoFar s.grammar.now rows fronts sets c.note.new.found) (sym c.reserve.ensures.items)
    (found_same s.grammar.now rows fronts s.sets.items s.found c.note.new.found c.self.invariant c.in_err-note.ensures.kept)

pub invariant_of-self-2 : goal.invariant_of-self-2
invariant_of-self-2 c =
    let s = c.self.inside in
    let g = s.grammar.now in
    let rows = s.table.now.rows.items in
    let fronts = s.table.now.fronts.items in
    let sets = s.sets.items in
    let kernel = c.args.kernel.now in
    let key = c.args.key in
    let set = c.in_ok-set.set in
    let is : IsStepKernel g kernel = subst (λ (f : FoundStates). IsStepKernel f.grammar kernel) (sym c.self.view_is) c.requires.kernel in
    let fresh : IsNewKernel sets kernel = subst (λ (f : FoundStates). IsNewKernel f.states kernel) (sym c.self.view_is) c.requires.fresh in
    let count : c.len-count.result ≡ length sets = omega arith in
    let less : length sets < 10000 = omega arith in
    let pushed : c.push.new.self.items ≡ sets ++ set ∷ [] = c.in_ok-push.ensures.items ∙ ap (λ (l : List (List Entry)). l ++ set ∷ []) c.reserve.ensures.items in
    subst (λ (l : List (List Entry)). AreFoundSoFar g rows fronts l c.note.new.found) (sym pushed)
    (found_pushed g rows fronts sets s.found c.note.new.found c.self.invariant less kernel is key c.requires.key fresh set c.in_ok-set.ensures
    (subst (λ n. (other : Vec ℕ) → state_at c.note.new.found other.items ≡ (if same_key key.items other.items then Some n else state_at s.found other.items)) count c.in_ok-note.ensures.noted))
