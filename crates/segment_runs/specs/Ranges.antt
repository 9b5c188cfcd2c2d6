-- What a text that is parsed in segments has come to: segments that stand one after another, with the pieces of their tokens.
use Rattle.std.specs.Prelude.{◌≡◌, ℕ, ◌+◌, ◌<◌, ◌≤◌, ◌⊎◌, List, length}
use Rattle.grammar_data.specs.declared.token.Token.{Token as TextToken}
use Rattle.pattern_data.specs.declared.pattern.Pattern.{Pattern}
use Rattle.token_patterns.specs.Scanner.{IsScannerOf}
use Rattle.cutting_theory.specs.Cuttings.{segments_of}
use Rattle.part_laws.specs.InAll.{HavePartsInAll}
use Rattle.bare_theory.specs.Bare.{AreBarePiecesOf}
use Rattle.node_store.specs.Chunks.{HasChunk, store_of}
use Rattle.range_theory.specs.Ranges.{AreTokensOfRange, all_of}
use Rattle.segment_counts.specs.declared.job.Job.{Job}
use Rattle.segment_counts.specs.Ranges.{scanning_in}
use Rattle.segment_runs.specs.declared.joined.Joined.{Joined}

-- the number of a chunk with nodes of the segments from `first` up to `last`, of which there are so many in all: it is a
-- segment's, or stands for a boundary between two of them
abbrev pub IsChunkOf : ℕ → ℕ → ℕ → ℕ → Type 0
IsChunkOf segments first last number = ((first ≤ number) × (number < last)) ⊎ ((segments + first < number) × (number < segments + last))

-- these segments, joined
pub record IsJoined (job : Job) (first last : ℕ) (joined : Joined) : Type 0 where
  pub lists : List (List TextToken)
  pub are : (patterns : List Pattern) → IsScannerOf job.scanner.now patterns → AreTokensOfRange (scanning_in job patterns) job.text.now job.cutting.now last first lists
  pub pieces : AreBarePiecesOf job.tables.now (store_of joined.pieces.store) joined.pieces.closed (all_of lists)
  pub tokens : joined.tokens ≡ length (all_of lists)
  pub count : HavePartsInAll job.tables.now lists joined.count
  pub chunks : (number : ℕ) → HasChunk joined.pieces.store number → IsChunkOf (segments_of job.cutting.now) first last number
