-- How a text is cut into segments: as it was asked for, by the number of its lines.
use Rattle.std.specs.Prelude.{◌≡◌, ℕ, ◌≤◌, List}
use Rattle.cutting_theory.specs.declared.limits.TheConstants.{SEGMENTS}
use Rattle.cutting_theory.specs.Cuttings.{IsEven, AreBegins, bounds_at}
use Rattle.tally_theory.specs.declared.cut.Cut.{Cut}
use Rattle.tally_theory.specs.declared.cut.Cut.TheVariants.{Even, At}

-- a text can be cut so: into 1 to 4,096 segments, or at lines at which segments can be asked to begin
abbrev pub CanBeCut : Cut → Type 0
CanBeCut (Even segments) = (1 ≤ segments) × (segments ≤ SEGMENTS)
CanBeCut (At begins) = AreBegins begins

-- so many lines have these bounds when they are cut so
abbrev pub HasBounds : Cut → ℕ → List ℕ → Type 0
HasBounds (Even segments) lines bounds = IsEven lines segments bounds
HasBounds (At begins) lines bounds = bounds ≡ bounds_at lines begins
