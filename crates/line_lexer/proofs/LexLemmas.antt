-- What a scan appends, from place to place and from line to line.
use Rattle.std.proofs.Common.{◌≡◌, ℕ, ◌+◌, List, [], ◌∷◌, ◌++◌, refl, sym, ap, ◌∙◌, subst, append_assoc, ⊎_elim, arith}
use Rattle.std.specs.Prelude.{slice_get, Some}
use Rattle.std.proofs.lemmas.List.{append-nil}
use Rattle.grammar_data.specs.declared.token.Token.{Token}
use Rattle.pattern_data.specs.declared.pattern.Meaning.TheVariants.{Token as token_meaning}
use Rattle.scanning_theory.specs.Lines.{IsLineEnd, line_starts}
use Rattle.scanning_theory.specs.Scan.{Scanning, bad_byte, token_at, AreTokensFrom, AreTokensOfLines}
use Rattle.scanning_theory.specs.Scan.AreTokensFrom.{at_end, takes_token, skips, takes_bad_byte}
use Rattle.scanning_theory.specs.Scan.AreTokensOfLines.{no_line, first_line}
use Rattle.scanning_theory.proofs.ScanLemmas.{lines_join}
use Rattle.line_lexer.specs.declared.taken.Taken.TheVariants.{Token as taken_token, Skip as taken_skip}
use Rattle.line_lexer.specs.Taken.{IsLongestOf, IsBadByte, IsTaken, AppendsTokens}

module _ (scanning : Scanning) (text : List ℕ) (line : ℕ) where
  pub appends-trans : (at middle next : ℕ) (old between new : List Token) → AppendsTokens scanning text line at middle old between → AppendsTokens scanning text line middle next between new → AppendsTokens scanning text line at next old new
  appends-trans at middle next old between new a b = record {
    more = a.more ++ b.more;
    grown = b.grown ∙ ap (λ ts. ts ++ b.more) a.grown ∙ append_assoc old a.more b.more;
    tokens = λ rest d.
        let P : List Token → Type 0 = λ ts. AreTokensFrom scanning text line at ts in
        subst P (sym (append_assoc a.more b.more rest)) (a.tokens (b.more ++ rest) (b.tokens rest d));
  }

  -- a token of the longest match, a bad byte, and a skip
  appends-longest : (at id len : ℕ) (old new : List Token) → ¬ (IsLineEnd text at) → IsLongestOf scanning text at len (token_meaning id) → new ≡ old ++ token_at id line at len ∷ [] → AppendsTokens scanning text line at (at + len) old new
  appends-longest at id len old new not_end (rank, longest, means) pushed = record { more = token_at id line at len ∷ []; grown = pushed; tokens = λ rest d. takes_token len not_end longest means d refl }

  appends-bad : (at id len : ℕ) (old new : List Token) → ¬ (IsLineEnd text at) → IsBadByte scanning text at id len → new ≡ old ++ token_at id line at len ∷ [] → AppendsTokens scanning text line at (at + len) old new
  appends-bad at id len old new not_end (none, id_is, len_is) pushed = record {
    more = token_at id line at len ∷ [];
    grown = pushed;
    tokens = λ rest d.
        let P : ℕ → Type 0 = λ n. AreTokensFrom scanning text line (at + n) rest in
        takes_bad_byte not_end none (subst P len_is d) (ap (λ n. token_at n line at len ∷ rest) id_is ∙ ap (λ n. token_at (bad_byte scanning) line at n ∷ rest) len_is);
  }

  pub appends-token : (at id len : ℕ) (old new : List Token) → ¬ (IsLineEnd text at) → IsTaken scanning text at (taken_token id len) → new ≡ old ++ token_at id line at len ∷ [] → AppendsTokens scanning text line at (at + len) old new
  appends-token at id len old new not_end taken pushed =
      ⊎_elim (λ longest. appends-longest at id len old new not_end longest pushed) (λ bad. appends-bad at id len old new not_end bad pushed) taken

  pub appends-skip : (at len : ℕ) (old : List Token) → ¬ (IsLineEnd text at) → IsTaken scanning text at (taken_skip len) → AppendsTokens scanning text line at (at + len) old old
  appends-skip at len old not_end (rank, longest, means) = record { more = []; grown = sym (append-nil old); tokens = λ rest d. skips len not_end longest means d }

  -- at the line's end, what was appended is the line's tokens
  pub appends-end : (at next : ℕ) (old new : List Token) → IsLineEnd text next → AppendsTokens scanning text line at next old new → (more : List Token) × (new ≡ old ++ more) × AreTokensFrom scanning text line at more
  appends-end at next old new end a =
      let P : List Token → Type 0 = λ ts. AreTokensFrom scanning text line at ts in
      (a.more, a.grown, subst P (append-nil a.more) (a.tokens [] (at_end end)))

-- one more line
pub line-more : (scanning : Scanning) (text : List ℕ) (from line next at : ℕ) (before more now : List Token) → next ≡ line + 1 → AreTokensOfLines scanning text line from before → slice_get (line_starts text) line ≡ Some at → AreTokensFrom scanning text (line + 1) at more → now ≡ before ++ more → AreTokensOfLines scanning text next from now
line-more scanning text from line next at before more now is lines start tokens grown =
    let P : List Token → Type 0 = λ ts. AreTokensOfLines scanning text next from ts in
    let alone : AreTokensOfLines scanning text next line more = first_line (omega arith) start tokens (no_line (sym is)) (sym (append-nil more)) in
    subst P (sym grown) (lines_join scanning text next more lines alone)
