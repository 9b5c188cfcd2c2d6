-- What is still to be written of a tree: the nodes whose templates were begun and not ended, each inside the one before it.
use Rattle.std.specs.Prelude.{◌≡◌, ◌≢◌, ℕ, List, [], ◌∷◌, ◌++◌, Option}
use Rattle.std.specs.Option.{option_to_list}
use Rattle.grammar_theory.specs.Trees.{Forest}
use Rattle.node_store.specs.Kids.{kids_seen}
use Rattle.sheet_data.specs.declared.parts.Part.{Part}
use Rattle.templates.specs.Sources.{Source, AreKids, all_given}
use Rattle.templates.specs.declared.frame.Frame.{Frame}

-- the rest of a begun template gives the bytes
pub record Gives (source : Source) (frame : Frame) (bytes : List ℕ) : Type 0 where
  pub trees : Forest
  pub kids : AreKids source (kids_seen frame.kids) trees
  pub is : bytes ≡ all_given source trees frame.parts.now

-- the rests of begun templates give the bytes, the last one's first
pub data Pending (source : Source) : List Frame → List ℕ → Type 0 where
  all_ended : Pending source [] []
  one_begun : {frame : Frame} {frames : List Frame} {own inner bytes : List ℕ} → Gives source frame own → Pending source frames inner → bytes ≡ inner ++ own → Pending source (frame ∷ frames) bytes

abbrev pub IsPending : Source → List Frame → Type 0
IsPending source frames = (bytes : List ℕ) × Pending source frames bytes

-- of some bytes the first are gathered behind what was gathered before, and the others are what is pending now
pub record Goes (source : Source) (frames : List Frame) (before after bytes : List ℕ) : Type 0 where
  pub added : List ℕ
  pub rest : List ℕ
  pub gathered : after ≡ before ++ added
  pub pending : Pending source frames rest
  pub joined : bytes ≡ added ++ rest

-- whatever was pending, the first of its bytes are gathered, and the others are what is pending now
abbrev pub GoesOn : Source → List Frame → List Frame → List ℕ → List ℕ → Type 0
GoesOn source frames now before after = (bytes : List ℕ) → Pending source frames bytes → Goes source now before after bytes

-- the begun templates with the one to go on with behind them, if any
abbrev pub with_next : List Frame → Option Frame → List Frame
with_next frames next = frames ++ option_to_list next

-- what is left of a begun template stands behind the others; where nothing is left of it, it is ended
pub data HasLeft (left : Frame) (others now : List Frame) : Type 0 where
  nothing_left : left.parts.now ≡ [] → now ≡ others → HasLeft left others now
  parts_left : left.parts.now ≢ [] → now ≡ others ++ left ∷ [] → HasLeft left others now

-- the bytes of one more part: they are gathered, and the same template goes on, or its kid's template is begun and goes on, and
-- what is left of the other stands behind those begun before
pub data Unfolds (source : Source) (left : Frame) (frames : List Frame) (next : Frame) (now : List Frame) (before after bytes : List ℕ) : Type 0 where
  gathered : next ≡ left → now ≡ frames → after ≡ before ++ bytes → Unfolds source left frames next now before after bytes
  begun : HasLeft left frames now → Gives source next bytes → after ≡ before → Unfolds source left frames next now before after bytes

-- what a step does to the begun templates: where the last one has no part left, it is ended; else its next part is gone, and
-- where that is a kid's template, this is begun, and the other is ended before it, where no part is left of it
pub data Moves (frames now : List Frame) : Type 0 where
  last_ended : (others : List Frame) (frame : Frame) → frames ≡ others ++ frame ∷ [] → frame.parts.now ≡ [] → now ≡ others → Moves frames now
  part_gone : (others : List Frame) (frame left : Frame) (part : Part) → frames ≡ others ++ frame ∷ [] → frame.parts.now ≡ part ∷ left.parts.now → kids_seen left.kids ≡ (kids_seen frame.kids) → now ≡ others ++ left ∷ [] → Moves frames now
  kid_begun : (others : List Frame) (frame left next : Frame) (part : Part) (more : List Frame) → frames ≡ others ++ frame ∷ [] → frame.parts.now ≡ part ∷ left.parts.now → kids_seen left.kids ≡ (kids_seen frame.kids) → HasLeft left others more → now ≡ more ++ next ∷ [] → Moves frames now
