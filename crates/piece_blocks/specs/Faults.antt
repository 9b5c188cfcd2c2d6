-- The starts of a floor that err, as the events at which they do: the states over some starts err at one look, or one start errs.
use Rattle.std.specs.Prelude.{ℕ, if◌then◌else◌, List, [], ◌∷◌, filter_map, is_some, Some, None}
use Rattle.grammar_data.specs.declared.token.Token.{Token as TextToken}
use Rattle.map_theory.specs.Maps.{StateMap, target}
use Rattle.piece_theory.specs.Pieces.{Fault}
use Rattle.piece_blocks.specs.declared.faults.Event.{Event}
use Rattle.piece_blocks.specs.declared.faults.Event.TheVariants.{Look, One}

-- the pairs of the map before a look whose start isn't one of the map after it, each as a fault under this token
abbrev pub lost : StateMap → StateMap → TextToken → ℕ → List Fault
lost before after token index = filter_map (λ pair. if is_some (target after pair.0) then None else Some (record { start = pair.0; index = index; token = token; state = pair.1 })) before

abbrev pub faults_in : Event → List Fault
faults_in (One fault) = fault ∷ []
faults_in (Look before after token index) = lost before after token index
