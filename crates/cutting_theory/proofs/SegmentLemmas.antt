-- The tokens of the segments of a cutting go together.
use Rattle.std.proofs.Common.{◌≡◌, ℕ, suc, ◌+◌, List, [], ◌∷◌, length, slice_get, Some, refl, ap, ◌∙◌, subst, arith}
use Rattle.std.specs.List.{flat_map}
use Rattle.grammar_data.specs.declared.token.Token.{Token}
use Rattle.scanning_theory.specs.Scan.{Scanning, AreTokensOfLines}
use Rattle.scanning_theory.specs.Scan.AreTokensOfLines.{no_line}
use Rattle.scanning_theory.proofs.ScanLemmas.{lines_join}
use Rattle.cutting_theory.specs.Cuttings.{IsCutting, AreTokensOfSegments, segments_of}
use Rattle.cutting_theory.proofs.BoundLemmas.{at_second}

-- the lists of the segments that these bounds make, each with its lines' tokens
abbrev Each : Scanning → List ℕ → List ℕ → List (List Token) → Type 0
Each scanning text bounds parts = (i from to : ℕ) (tokens : List Token) → slice_get bounds i ≡ Some from → slice_get bounds (i + 1) ≡ Some to → slice_get parts i ≡ Some tokens → AreTokensOfLines scanning text to from tokens

module _ (scanning : Scanning) (text : List ℕ) where
  ends_at : (from last : ℕ) → slice_get (from ∷ []) 0 ≡ Some last → AreTokensOfLines scanning text last from []
  ends_at from last e = no_line (cc)

  from_bound : (from last : ℕ) (bounds : List ℕ) (parts : List (List Token)) → length parts ≡ length bounds → Each scanning text (from ∷ bounds) parts → slice_get (from ∷ bounds) (length bounds) ≡ Some last → AreTokensOfLines scanning text last from (flat_map (λ part. part) parts)
  from_bound from last [] [] many each ends = ends_at from last ends
  from_bound from last [] (part ∷ parts) many each ends = absurd (omega arith)
  from_bound from last (to ∷ bounds) [] many each ends = absurd (omega arith)
  from_bound from last (to ∷ bounds) (part ∷ parts) many each ends =
      let here : AreTokensOfLines scanning text to from part = each 0 from to part refl refl refl in
      let rest : AreTokensOfLines scanning text last to (flat_map (λ part. part) parts) = from_bound to last bounds parts (omega arith) (λ i a b tokens p q r. each (suc i) a b tokens p (at_second from (to ∷ bounds) i ∙ q) r) ends in
      lines_join scanning text last (flat_map (λ part. part) parts) here rest

  zero_to : (lines : ℕ) (bounds : List ℕ) (parts : List (List Token)) → IsCutting lines bounds → AreTokensOfSegments scanning text bounds parts → AreTokensOfLines scanning text lines 0 (flat_map (λ part. part) parts)
  zero_to lines [] parts cutting tokens = let none = cutting.some in absurd (omega arith)
  zero_to lines (from ∷ bounds) parts cutting tokens =
      let last : length bounds ≡ segments_of (from ∷ bounds) = let all : length (from ∷ bounds) ≡ suc (length bounds) = refl in omega arith in
      let first : from ≡ 0 = let e = cutting.begins in cc in
      let whole : AreTokensOfLines scanning text lines from (flat_map (λ part. part) parts) = from_bound from lines bounds parts (let e = tokens.many in omega arith) tokens.each (ap (slice_get (from ∷ bounds)) last ∙ cutting.ends) in
      subst (λ n. AreTokensOfLines scanning text lines n (flat_map (λ part. part) parts)) first whole

pub segments_join : (scanning : Scanning) (text : List ℕ) (lines : ℕ) (bounds : List ℕ) (parts : List (List Token)) → IsCutting lines bounds → AreTokensOfSegments scanning text bounds parts → AreTokensOfLines scanning text lines 0 (flat_map (λ part. part) parts)
segments_join scanning text lines bounds parts cutting tokens = zero_to scanning text lines bounds parts cutting tokens
