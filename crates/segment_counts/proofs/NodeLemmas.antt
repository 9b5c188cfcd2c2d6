-- The nodes that a walk has entered so far, and those that it is still to enter.
use Rattle.std.proofs.Common.{◌≡◌, ℕ, ◌+◌, List, Option, Some, None, map, sym, ap, ◌∙◌, arith}
use Rattle.grammar_data.specs.declared.token.Token.{Token as TextToken}
use Rattle.tree_theory.specs.Stores.{Ref}
use Rattle.tree_theory.specs.Walks.{entered}
use Rattle.node_store.specs.declared.step.Step.{Step}
use Rattle.node_store.specs.declared.step.Step.TheVariants.{Enter, Token, Leave}
use Rattle.node_store.specs.Walking.{Walking, Remains, TakesFirst, step_of}

-- so many nodes were entered, and with those that are still to come there are so many in all
abbrev pub Counts : Walking → ℕ → ℕ → Type 0
Counts walk count all = (steps : List Step) × Remains walk steps × (count + entered (map step_of steps) ≡ all)

-- what the next step leaves
abbrev pub Takes : Walking → Option Step → Walking → Type 0
Takes walk next new = (steps : List Step) → Remains walk steps → TakesFirst steps next new

pub counts_end : (walk new : Walking) (count all : ℕ) → Counts walk count all → Takes walk None new → count ≡ all
counts_end walk new count all (steps, remains, sum) takes =
    let taken = takes steps remains in
    let left = ap (λ l. entered (map step_of l)) taken.0 in
    omega (arith, sum, left)

pub counts_enter : (walk new : Walking) (count all : ℕ) (node : Ref) → Counts walk count all → Takes walk (Some (Enter node)) new → Counts new (count + 1) all
counts_enter walk new count all node (steps, remains, sum) takes =
    let (rest, parts, after) = takes steps remains in
    let left = ap (λ l. entered (map step_of l)) parts in
    (rest, after, omega (arith, sum, left))

pub counts_token : (walk new : Walking) (count all : ℕ) (token : TextToken) → Counts walk count all → Takes walk (Some (Token token)) new → Counts new count all
counts_token walk new count all token (steps, remains, sum) takes =
    let (rest, parts, after) = takes steps remains in
    (rest, after, sym (ap (λ l. count + entered (map step_of l)) parts) ∙ sum)

pub counts_leave : (walk new : Walking) (count all : ℕ) (node : Ref) → Counts walk count all → Takes walk (Some (Leave node)) new → Counts new count all
counts_leave walk new count all node (steps, remains, sum) takes =
    let (rest, parts, after) = takes steps remains in
    (rest, after, sym (ap (λ l. count + entered (map step_of l)) parts) ∙ sum)
