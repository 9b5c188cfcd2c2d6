-- There is one longest match and one list of tokens, and tokens of lines go together.
use Rattle.std.proofs.Common.{◌≡◌, ℕ, ◌+◌, ◌<◌, ◌≤◌, List, [], ◌∷◌, ◌++◌, refl, sym, ap, ◌∙◌, subst, append_assoc, arith}
use Rattle.std.specs.Prelude.{slice_get, Option, Some}
use Rattle.grammar_data.specs.declared.token.Token.{Token}
use Rattle.pattern_data.specs.declared.pattern.Pattern.{Pattern}
use Rattle.pattern_data.specs.declared.pattern.Meaning.{Meaning}
use Rattle.pattern_data.specs.declared.pattern.Meaning.TheVariants.{Token as token_meaning, Skip as skip_meaning}
use Rattle.scanning_theory.specs.Lines.{IsLineEnd, line_starts}
use Rattle.scanning_theory.specs.Scan.{IsMatch, HasNoMatch, IsLongest, Scanning, bad_byte, token_at, AreTokensFrom, AreTokensOfLines}
use Rattle.scanning_theory.specs.Scan.AreTokensFrom.{at_end, takes_token, skips, takes_bad_byte}
use Rattle.scanning_theory.specs.Scan.AreTokensOfLines.{no_line, first_line}

pub longest-len : (patterns : List Pattern) (text : List ℕ) (at len rank other_len other : ℕ) → IsLongest patterns text at len rank → IsLongest patterns text at other_len other → len ≡ other_len
longest-len patterns text at len rank other_len other a b =
    let down : other_len ≤ len = a.longest other_len other b.matches in
    let up : len ≤ other_len = b.longest len rank a.matches in omega arith

pub longest-rank : (patterns : List Pattern) (text : List ℕ) (at len rank other_len other : ℕ) → IsLongest patterns text at len rank → IsLongest patterns text at other_len other → rank ≡ other
longest-rank patterns text at len rank other_len other a b =
    let same : len ≡ other_len = longest-len patterns text at len rank other_len other a b in
    let P : ℕ → ℕ → Type 0 = λ r n. IsMatch patterns text at n r in
    let up : rank ≤ other = a.least other (subst (P other) (sym same) b.matches) in
    let down : other ≤ rank = b.least rank (subst (P rank) same a.matches) in omega arith

pub longest-not_none : (patterns : List Pattern) (text : List ℕ) (at len rank : ℕ) → IsLongest patterns text at len rank → HasNoMatch patterns text at → ⊥
longest-not_none patterns text at len rank a none = none len rank a.matches

Some-same : {A : Type 0} {o : Option A} {x y : A} → o ≡ Some x → o ≡ Some y → x ≡ y
Some-same p q = cc

-- two meanings of one rank are the same one
one_meaning : (means : List Meaning) (rank other : ℕ) (m n : Meaning) → rank ≡ other → slice_get means rank ≡ Some m → slice_get means other ≡ Some n → m ≡ n
one_meaning means rank other m n same p q = Some-same p (ap (λ r. slice_get means r) same ∙ q)

token_not_skip : (id : ℕ) → token_meaning id ≡ skip_meaning → ⊥
token_not_skip id e = cc

same_id : (id other : ℕ) → token_meaning id ≡ token_meaning other → id ≡ other
same_id id other e = cc

module _ (scanning : Scanning) (text : List ℕ) (line : ℕ) where
  -- these tokens and no others are those from this place
  abbrev Once : ℕ → List Token → Type 0
  Once at tokens = (others : List Token) → AreTokensFrom scanning text line at others → tokens ≡ others

  once_moved : (at : ℕ) {rest others : List Token} (len other_len : ℕ) → Once (at + len) rest → len ≡ other_len → AreTokensFrom scanning text line (at + other_len) others → rest ≡ others
  once_moved at {others = others} len other_len once same more =
      once others (let P : ℕ → Type 0 = λ n. AreTokensFrom scanning text line (at + n) others in subst P (sym same) more)

  once_end : {at : ℕ} {others : List Token} → IsLineEnd text at → AreTokensFrom scanning text line at others → [] ≡ others
  once_end end (at_end _) = refl
  once_end end (takes_token len not_end longest means more is) = absurd (not_end end)
  once_end end (skips len not_end longest means more) = absurd (not_end end)
  once_end end (takes_bad_byte not_end none more is) = absurd (not_end end)

  once_token : {at rank id : ℕ} {rest all others : List Token} (len : ℕ) → ¬ (IsLineEnd text at) → IsLongest scanning.patterns text at len rank → slice_get scanning.means rank ≡ Some (token_meaning id) → Once (at + len) rest → all ≡ token_at id line at len ∷ rest → AreTokensFrom scanning text line at others → all ≡ others
  once_token len not_end longest means once is (at_end end) = absurd (not_end end)
  once_token {at = at} {rank = rank} {id = id} {rest = rest} len not_end longest means once is (takes_token {rank = other} {id = other_id} {rest = others} other_len _ other_longest other_means more other_is) =
      let same : len ≡ other_len = longest-len scanning.patterns text at len rank other_len other longest other_longest in
      let rank_same : rank ≡ other = longest-rank scanning.patterns text at len rank other_len other longest other_longest in
      let id_same : id ≡ other_id = same_id id other_id (one_meaning scanning.means rank other (token_meaning id) (token_meaning other_id) rank_same means other_means) in
      let rest_same : rest ≡ others = once_moved at len other_len once same more in
      is ∙ ap (λ n. token_at id line at n ∷ rest) same ∙ ap (λ n. token_at n line at other_len ∷ rest) id_same ∙ ap (λ ts. token_at other_id line at other_len ∷ ts) rest_same ∙ sym other_is
  once_token {at = at} {rank = rank} {id = id} len not_end longest means once is (skips {rank = other} other_len _ other_longest other_means more) =
      absurd (token_not_skip id (one_meaning scanning.means rank other (token_meaning id) skip_meaning (longest-rank scanning.patterns text at len rank other_len other longest other_longest) means other_means))
  once_token {at = at} {rank = rank} len not_end longest means once is (takes_bad_byte _ none more other_is) = absurd (longest-not_none scanning.patterns text at len rank longest none)

  once_skip : {at rank : ℕ} {rest others : List Token} (len : ℕ) → ¬ (IsLineEnd text at) → IsLongest scanning.patterns text at len rank → slice_get scanning.means rank ≡ Some skip_meaning → Once (at + len) rest → AreTokensFrom scanning text line at others → rest ≡ others
  once_skip len not_end longest means once (at_end end) = absurd (not_end end)
  once_skip {at = at} {rank = rank} len not_end longest means once (takes_token {rank = other} {id = id} other_len _ other_longest other_means more other_is) =
      absurd (token_not_skip id (sym (one_meaning scanning.means rank other skip_meaning (token_meaning id) (longest-rank scanning.patterns text at len rank other_len other longest other_longest) means other_means)))
  once_skip {at = at} {rank = rank} len not_end longest means once (skips {rank = other} other_len _ other_longest other_means more) =
      once_moved at len other_len once (longest-len scanning.patterns text at len rank other_len other longest other_longest) more
  once_skip {at = at} {rank = rank} len not_end longest means once (takes_bad_byte _ none more other_is) = absurd (longest-not_none scanning.patterns text at len rank longest none)

  once_bad : {at : ℕ} {rest all others : List Token} → ¬ (IsLineEnd text at) → HasNoMatch scanning.patterns text at → Once (at + 1) rest → all ≡ token_at (bad_byte scanning) line at 1 ∷ rest → AreTokensFrom scanning text line at others → all ≡ others
  once_bad not_end none once is (at_end end) = absurd (not_end end)
  once_bad {at = at} not_end none once is (takes_token {rank = rank} len _ longest means more other_is) = absurd (longest-not_none scanning.patterns text at len rank longest none)
  once_bad {at = at} not_end none once is (skips {rank = rank} len _ longest means more) = absurd (longest-not_none scanning.patterns text at len rank longest none)
  once_bad {at = at} not_end none once is (takes_bad_byte {rest = others} _ _ more other_is) = is ∙ ap (λ ts. token_at (bad_byte scanning) line at 1 ∷ ts) (once others more) ∙ sym other_is

  pub tokens_once : {at : ℕ} {tokens : List Token} → AreTokensFrom scanning text line at tokens → (others : List Token) → AreTokensFrom scanning text line at others → tokens ≡ others
  tokens_once (at_end end) others d = once_end end d
  tokens_once (takes_token len not_end longest means more is) others d = once_token len not_end longest means (tokens_once more) is d
  tokens_once (skips len not_end longest means more) others d = once_skip len not_end longest means (tokens_once more) d
  tokens_once (takes_bad_byte not_end none more is) others d = once_bad not_end none (tokens_once more) is d

module _ (scanning : Scanning) (text : List ℕ) where
  pub tokens_of_lines-order : {to from : ℕ} {tokens : List Token} → AreTokensOfLines scanning text to from tokens → from ≤ to
  tokens_of_lines-order (no_line same) = omega arith
  tokens_of_lines-order (first_line below start here more is) = omega arith

  lines_once_first : {to from at : ℕ} {here rest all others : List Token} → from < to → slice_get (line_starts text) from ≡ Some at → AreTokensFrom scanning text (from + 1) at here → ((ts : List Token) → AreTokensOfLines scanning text to (from + 1) ts → rest ≡ ts) → all ≡ here ++ rest → AreTokensOfLines scanning text to from others → all ≡ others
  lines_once_first below start here once is (no_line same) = absurd (omega arith)
  lines_once_first {from = from} {at = at} {here = tokens} {rest = rest} below start here once is (first_line {at = other} {here = others} {rest = other_rest} _ other_start other_here more other_is) =
      let same : other ≡ at = Some-same other_start start in
      let moved : AreTokensFrom scanning text (from + 1) at others = let P : ℕ → Type 0 = λ a. AreTokensFrom scanning text (from + 1) a others in subst P same other_here in
      is ∙ ap (λ ts. ts ++ rest) (tokens_once scanning text (from + 1) here others moved) ∙ ap (λ ts. others ++ ts) (once other_rest more) ∙ sym other_is

  lines_once_none : {to from : ℕ} {others : List Token} → from ≡ to → AreTokensOfLines scanning text to from others → [] ≡ others
  lines_once_none same (no_line _) = refl
  lines_once_none same (first_line below start here more is) = absurd (omega arith)

  pub lines_once : {to from : ℕ} {tokens : List Token} → AreTokensOfLines scanning text to from tokens → (others : List Token) → AreTokensOfLines scanning text to from others → tokens ≡ others
  lines_once (no_line same) others d = lines_once_none same d
  lines_once (first_line below start here more is) others d = lines_once_first below start here (lines_once more) is d

  pub lines_join : {middle from : ℕ} {tokens : List Token} (to : ℕ) (others : List Token) → AreTokensOfLines scanning text middle from tokens → AreTokensOfLines scanning text to middle others → AreTokensOfLines scanning text to from (tokens ++ others)
  lines_join to others (no_line same) later = let P : ℕ → Type 0 = λ n. AreTokensOfLines scanning text to n others in subst P (sym same) later
  lines_join to others (first_line {here = tokens} {rest = rest} below start here more is) later =
      let order = tokens_of_lines-order later in
      first_line (omega (arith, order)) start here (lines_join to others more later) (ap (λ ts. ts ++ others) is ∙ append_assoc tokens rest others)
