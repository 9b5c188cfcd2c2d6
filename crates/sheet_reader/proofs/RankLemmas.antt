-- The order in which the patterns of a sheet are scanned.
use Rattle.std.proofs.Common.{◌≡◌, ◌≢◌, ℕ, zero, suc, cond, ◌+◌, ◌<◌, ◌≤◌, false, List, [], ◌∷◌, ◌++◌, length, map, take, get_or, refl, sym, ap, subst, ◌∙◌, arith}
use Rattle.std.specs.Prelude.{All, sum_by}
use Rattle.std.proofs.lemmas.Bool.{false≢true}
use Rattle.std.proofs.lemmas.List.{append_assoc, length-map, length-append, length-take-le, map-append, take_more}
use Rattle.std.proofs.lemmas.List.Elements.{All-head, All-tail, All-nil, All-cons, All-append}
use Rattle.std.proofs.lemmas.List.Sums.{sum_by-cons, sum_by-append}
use Rattle.pattern_data.specs.declared.pattern.Pattern.{Pattern}
use Rattle.pattern_data.specs.declared.pattern.Pattern.TheVariants.{outs-Set, outs-Seq}
use Rattle.pattern_data.specs.declared.pattern.Meaning.{Meaning}
use Rattle.pattern_data.specs.declared.pattern.Meaning.TheVariants.{Token as token_meaning, Skip as skip_meaning}
use Rattle.pattern_data.specs.Bytes.{only_byte}
use Rattle.pattern_data.specs.Language.{Matches, byte_pattern, literal_pattern, positions_of}
use Rattle.pattern_data.specs.Empty.{has_empty}
use Rattle.pattern_data.proofs.EmptyLemmas.{has_empty-set, has_empty-seq, all_fail, has_empty-matches}
use Rattle.position_theory.specs.Positions.{count_all}
use Rattle.position_theory.specs.Positions.HasMembers.{sequence_members}
use Rattle.position_theory.proofs.LayerLemmas.{count_set, count_members, sum_counts}
use Rattle.sheet_data.specs.Sheet.{Sheet}
use Rattle.sheet_data.specs.declared.parts.Decl.{Decl}
use Rattle.sheet_data.specs.declared.parts.Decl.TheVariants.{Literal, Matched, Skip}
use Rattle.sheet_theory.specs.Names.{declared_names}
use Rattle.sheet_theory.specs.ScanOrder.{Ranked, scan_order, ranked_literal, declared_literals, unnamed_literals, declared_patterns}
use Rattle.outline_theory.specs.Limits.{skips_in, positions_in}
use Rattle.sheet_reader.specs.Ranking.{IsScannable, is_token, token_count, Ranks}
use Rattle.sheet_reader.specs.WellFormed.{IsLiteralText, IsOrdinaryDecl, IsWellFormed}
use Rattle.sheet_reader.specs.declared.scan_order.ScanOrder.{ScanOrder}

abbrev patterns_in : List Ranked → List Pattern
patterns_in ranked = map (λ (r : Ranked). r.0) ranked

abbrev means_in : List Ranked → List Meaning
means_in ranked = map (λ (r : Ranked). r.1) ranked

-- more patterns behind others
pub ranked_both : (old middle new first second all : List Ranked) → middle ≡ old ++ first → new ≡ middle ++ second → first ++ second ≡ all → new ≡ old ++ all
ranked_both old middle new first second all h k are = k ∙ ap (λ l. l ++ second) h ∙ append_assoc old first second ∙ ap (λ l. old ++ l) are

-- the tokens of declarations, and those behind them
pub names_append : (xs ys : List Decl) → declared_names (xs ++ ys) ≡ declared_names xs ++ declared_names ys
names_append [] ys = refl
names_append (Literal name bytes ∷ xs) ys = ap (λ l. name ∷ l) (names_append xs ys)
names_append (Matched name pattern ∷ xs) ys = ap (λ l. name ∷ l) (names_append xs ys)
names_append (Skip pattern ∷ xs) ys = names_append xs ys

pub literals_append : (k n : ℕ) (xs ys : List Decl) → k + length (declared_names xs) ≡ n → declared_literals k (xs ++ ys) ≡ declared_literals k xs ++ declared_literals n ys
literals_append k n [] ys e = let same : k ≡ n = omega (arith, e) in ap (λ m. declared_literals m ys) same
literals_append k n (Literal name bytes ∷ xs) ys e = ap (λ l. ranked_literal k bytes ∷ l) (literals_append (k + 1) n xs ys (omega (arith, e)))
literals_append k n (Matched name pattern ∷ xs) ys e = literals_append (k + 1) n xs ys (omega (arith, e))
literals_append k n (Skip pattern ∷ xs) ys e = literals_append k n xs ys (omega (arith, e))

pub patterns_append : (k n : ℕ) (xs ys : List Decl) → k + length (declared_names xs) ≡ n → declared_patterns k (xs ++ ys) ≡ declared_patterns k xs ++ declared_patterns n ys
patterns_append k n [] ys e = let same : k ≡ n = omega (arith, e) in ap (λ m. declared_patterns m ys) same
patterns_append k n (Literal name bytes ∷ xs) ys e = patterns_append (k + 1) n xs ys (omega (arith, e))
patterns_append k n (Matched name pattern ∷ xs) ys e = ap (λ l. (pattern, token_meaning k) ∷ l) (patterns_append (k + 1) n xs ys (omega (arith, e)))
patterns_append k n (Skip pattern ∷ xs) ys e = ap (λ l. (pattern, skip_meaning) ∷ l) (patterns_append k n xs ys (omega (arith, e)))

pub unnamed_append : (k n : ℕ) (xs ys : List (List ℕ)) → k + length xs ≡ n → unnamed_literals k (xs ++ ys) ≡ unnamed_literals k xs ++ unnamed_literals n ys
unnamed_append k n [] ys e = let same : k ≡ n = omega (arith, e) in ap (λ m. unnamed_literals m ys) same
unnamed_append k n (x ∷ xs) ys e = ap (λ l. ranked_literal k x ∷ l) (unnamed_append (k + 1) n xs ys (omega (arith, e)))

-- one declaration more
next_taken : {X : Type 0} (xs : List X) (i : ℕ) (x : X) → i < length xs → x ≡ get_or xs i x → take i xs ++ x ∷ [] ≡ take (i + 1) xs
next_taken xs i x within read = ap (λ y. take i xs ++ y ∷ []) read ∙ sym (take_more xs i x within)

pub names_next : (decls : List Decl) (i token next : ℕ) (decl : Decl) → i < length decls → decl ≡ get_or decls i decl → token ≡ length (declared_names (take i decls)) → next ≡ token + length (declared_names (decl ∷ [])) → next ≡ length (declared_names (take (i + 1) decls))
names_next decls i token next decl within read at is =
    let e : length (declared_names (take i decls ++ decl ∷ [])) ≡ length (declared_names (take i decls)) + length (declared_names (decl ∷ [])) = ap length (names_append (take i decls) (decl ∷ [])) ∙ length-append (declared_names (take i decls)) (declared_names (decl ∷ [])) in
    let f : length (declared_names (take (i + 1) decls)) ≡ length (declared_names (take i decls ++ decl ∷ [])) = ap (λ ds. length (declared_names ds)) (sym (next_taken decls i decl within read)) in
    omega (arith, e, f, at, is)

pub literals_next : (decls : List Decl) (i token : ℕ) (decl : Decl) → i < length decls → decl ≡ get_or decls i decl → token ≡ length (declared_names (take i decls)) → declared_literals 0 (take i decls) ++ declared_literals token (decl ∷ []) ≡ declared_literals 0 (take (i + 1) decls)
literals_next decls i token decl within read at =
    sym (literals_append 0 token (take i decls) (decl ∷ []) (omega (arith, at))) ∙ ap (declared_literals 0) (next_taken decls i decl within read)

pub patterns_next : (decls : List Decl) (i token : ℕ) (decl : Decl) → i < length decls → decl ≡ get_or decls i decl → token ≡ length (declared_names (take i decls)) → declared_patterns 0 (take i decls) ++ declared_patterns token (decl ∷ []) ≡ declared_patterns 0 (take (i + 1) decls)
patterns_next decls i token decl within read at =
    sym (patterns_append 0 token (take i decls) (decl ∷ []) (omega (arith, at))) ∙ ap (declared_patterns 0) (next_taken decls i decl within read)

pub unnamed_next : (k : ℕ) (literals : List (List ℕ)) (i token : ℕ) (bytes item : List ℕ) → i < length literals → item ≡ get_or literals i item → bytes ≡ item → token ≡ k + i → unnamed_literals k (take i literals) ++ ranked_literal token bytes ∷ [] ≡ unnamed_literals k (take (i + 1) literals)
unnamed_next k literals i token bytes item within read is at =
    let size : k + length (take i literals) ≡ token = omega (arith, at, length_taken) in
    sym (unnamed_append k token (take i literals) (bytes ∷ []) size) ∙ ap (λ b. unnamed_literals k (take i literals ++ b ∷ [])) is ∙ ap (unnamed_literals k) (next_taken literals i item within read)
  where
    length_taken : length (take i literals) ≡ i
    length_taken = length-take-le i literals (omega (arith, within))

-- the names of the first declarations are no more than those of all
pub few_names : (decls : List Decl) (i : ℕ) (decl : Decl) → i < length decls → decl ≡ get_or decls i decl → length (declared_names (take i decls)) + length (declared_names (decl ∷ [])) ≤ length (declared_names decls)
few_names [] i decl within read = absurd (omega (arith, within))
few_names (d ∷ decls) zero decl within read =
    let same : length (declared_names (decl ∷ [])) ≡ length (declared_names (d ∷ [])) = ap (λ x. length (declared_names (x ∷ []))) read in
    let all : length (declared_names (d ∷ decls)) ≡ length (declared_names (d ∷ [])) + length (declared_names decls) = ap length (names_append (d ∷ []) decls) ∙ length-append (declared_names (d ∷ [])) (declared_names decls) in
    omega (arith, same, all)
few_names (d ∷ decls) (suc i) decl within read =
    let rest = few_names decls i decl (omega (arith, within)) read in
    let all : length (declared_names (d ∷ decls)) ≡ length (declared_names (d ∷ [])) + length (declared_names decls) = ap length (names_append (d ∷ []) decls) ∙ length-append (declared_names (d ∷ [])) (declared_names decls) in
    let front : length (declared_names (d ∷ take i decls)) ≡ length (declared_names (d ∷ [])) + length (declared_names (take i decls)) = ap length (names_append (d ∷ []) (take i decls)) ∙ length-append (declared_names (d ∷ [])) (declared_names (take i decls)) in
    omega (arith, rest, all, front)

-- ---- literals
byte_positions : (byte : ℕ) → positions_of (byte_pattern byte) ≡ 1
byte_positions byte = count_set (record { opens = outs-Set (only_byte byte) })

bytes_positions : (bytes : List ℕ) → count_all (map byte_pattern bytes) ≡ length bytes
bytes_positions [] = refl
bytes_positions (byte ∷ bytes) = let one = byte_positions byte in let rest = bytes_positions bytes in omega (arith, one, rest)

literal_positions : (bytes : List ℕ) → bytes ≢ [] → positions_of (literal_pattern bytes) ≡ length bytes
literal_positions [] some = absurd (some refl)
literal_positions (byte ∷ []) some = byte_positions byte
literal_positions (byte ∷ second ∷ bytes) some =
    count_members (sequence_members (record { opens = outs-Seq (map byte_pattern (byte ∷ second ∷ bytes)) })) ∙ bytes_positions (byte ∷ second ∷ bytes)

not_empty : (pattern : Pattern) → has_empty pattern ≡ false → ¬ (Matches pattern [])
not_empty pattern none string = false≢true (sym none ∙ (has_empty-matches pattern).1 string)

literal_not_empty : (bytes : List ℕ) → bytes ≢ [] → ¬ (Matches (literal_pattern bytes) [])
literal_not_empty [] some = absurd (some refl)
literal_not_empty (byte ∷ []) some = not_empty (byte_pattern byte) (has_empty-set (byte_pattern byte) (only_byte byte) refl)
literal_not_empty (byte ∷ second ∷ bytes) some =
    let members : List Pattern = map byte_pattern (byte ∷ second ∷ bytes) in
    let first : has_empty (byte_pattern byte) ≡ false = has_empty-set (byte_pattern byte) (only_byte byte) refl in
    not_empty (literal_pattern (byte ∷ second ∷ bytes)) (has_empty-seq (literal_pattern (byte ∷ second ∷ bytes)) members refl ∙ all_fail members 0 (byte_pattern byte) (omega arith) refl first)

-- ---- what a scanner asks
abbrev IsFilled : Pattern → Type 0
IsFilled pattern = ¬ (Matches pattern [])

count_append : (ps qs : List Pattern) → count_all (ps ++ qs) ≡ count_all ps + count_all qs
count_append [] qs = omega arith
count_append (p ∷ ps) qs = let e = count_append ps qs in omega (arith, e)

-- how many patterns, positions and tokens declarations have
record Declared (k : ℕ) (decls : List Decl) : Type 0 where
  count : length (declared_literals k decls) + length (declared_patterns k decls) ≡ length (declared_names decls) + sum_by skips_in decls
  positions : count_all (patterns_in (declared_literals k decls)) + count_all (patterns_in (declared_patterns k decls)) ≡ sum_by positions_in decls
  tokens : token_count (means_in (declared_literals k decls)) + token_count (means_in (declared_patterns k decls)) ≡ length (declared_names decls)
  literals : All IsFilled (patterns_in (declared_literals k decls))
  patterns : All IsFilled (patterns_in (declared_patterns k decls))

count_token : (m : Meaning) (means : List Meaning) → token_count (m ∷ means) ≡ cond (is_token m) 1 0 + token_count means
count_token m means = sum_by-cons (λ x. cond (is_token x) 1 0) m means

declared : (k : ℕ) (decls : List Decl) → All IsOrdinaryDecl decls → Declared k decls
declared k [] all = record { count = omega arith; positions = omega arith; tokens = omega arith; literals = All-nil IsFilled; patterns = All-nil IsFilled }
declared k (Literal name bytes ∷ decls) all =
    let here : IsLiteralText bytes = All-head IsOrdinaryDecl (Literal name bytes) decls all in
    let rest = declared (k + 1) decls (All-tail IsOrdinaryDecl (Literal name bytes) decls all) in
    let skips = sum_by-cons skips_in (Literal name bytes) decls in
    let positions = sum_by-cons positions_in (Literal name bytes) decls in
    let size = literal_positions bytes here.0 in
    let token = count_token (token_meaning k) (means_in (declared_literals (k + 1) decls)) in
    record {
      count = omega (arith, rest.count, skips);
      positions = omega (arith, rest.positions, positions, size);
      tokens = omega (arith, rest.tokens, token);
      literals = All-cons IsFilled (literal_pattern bytes) (patterns_in (declared_literals (k + 1) decls)) (literal_not_empty bytes here.0) rest.literals;
      patterns = rest.patterns;
    }
declared k (Matched name pattern ∷ decls) all =
    let here : ¬ (Matches pattern []) = All-head IsOrdinaryDecl (Matched name pattern) decls all in
    let rest = declared (k + 1) decls (All-tail IsOrdinaryDecl (Matched name pattern) decls all) in
    let skips = sum_by-cons skips_in (Matched name pattern) decls in
    let positions = sum_by-cons positions_in (Matched name pattern) decls in
    let token = count_token (token_meaning k) (means_in (declared_patterns (k + 1) decls)) in
    record {
      count = omega (arith, rest.count, skips);
      positions = omega (arith, rest.positions, positions);
      tokens = omega (arith, rest.tokens, token);
      literals = rest.literals;
      patterns = All-cons IsFilled pattern (patterns_in (declared_patterns (k + 1) decls)) here rest.patterns;
    }
declared k (Skip pattern ∷ decls) all =
    let here : ¬ (Matches pattern []) = All-head IsOrdinaryDecl (Skip pattern) decls all in
    let rest = declared k decls (All-tail IsOrdinaryDecl (Skip pattern) decls all) in
    let skips = sum_by-cons skips_in (Skip pattern) decls in
    let positions = sum_by-cons positions_in (Skip pattern) decls in
    let token = count_token skip_meaning (means_in (declared_patterns k decls)) in
    record {
      count = omega (arith, rest.count, skips);
      positions = omega (arith, rest.positions, positions);
      tokens = omega (arith, rest.tokens, token);
      literals = rest.literals;
      patterns = All-cons IsFilled pattern (patterns_in (declared_patterns k decls)) here rest.patterns;
    }

record Unnamed (k : ℕ) (literals : List (List ℕ)) : Type 0 where
  count : length (unnamed_literals k literals) ≡ length literals
  positions : count_all (patterns_in (unnamed_literals k literals)) ≡ sum_by length literals
  tokens : token_count (means_in (unnamed_literals k literals)) ≡ length literals
  filled : All IsFilled (patterns_in (unnamed_literals k literals))

unnamed : (k : ℕ) (literals : List (List ℕ)) → All IsLiteralText literals → Unnamed k literals
unnamed k [] all = record { count = refl; positions = refl; tokens = refl; filled = All-nil IsFilled }
unnamed k (bytes ∷ literals) all =
    let here : IsLiteralText bytes = All-head IsLiteralText bytes literals all in
    let rest = unnamed (k + 1) literals (All-tail IsLiteralText bytes literals all) in
    let sizes = sum_by-cons length bytes literals in
    let size = literal_positions bytes here.0 in
    let token = count_token (token_meaning k) (means_in (unnamed_literals (k + 1) literals)) in
    record {
      count = omega (arith, rest.count);
      positions = omega (arith, rest.positions, sizes, size);
      tokens = omega (arith, rest.tokens, token);
      filled = All-cons IsFilled (literal_pattern bytes) (patterns_in (unnamed_literals (k + 1) literals)) (literal_not_empty bytes here.0) rest.filled;
    }

-- a sheet's order: literals, literals without a name, and patterns
abbrev in_order : Sheet → List Ranked
in_order sheet = declared_literals 0 sheet.decls ++ (unnamed_literals (length (declared_names sheet.decls)) sheet.literals ++ declared_patterns 0 sheet.decls)

pub order_is : (sheet : Sheet) → in_order sheet ≡ scan_order sheet
unfolding scan_order
order_is sheet = refl

token_append : (xs ys : List Meaning) → token_count (xs ++ ys) ≡ token_count xs + token_count ys
token_append xs ys = sum_by-append (λ x. cond (is_token x) 1 0) xs ys

module _ (sheet : Sheet) (good : IsWellFormed sheet) where
  abbrev first : List Ranked
  first = declared_literals 0 sheet.decls

  abbrev second : List Ranked
  second = unnamed_literals (length (declared_names sheet.decls)) sheet.literals

  abbrev third : List Ranked
  third = declared_patterns 0 sheet.decls

  of_decls : Declared 0 sheet.decls
  of_decls = declared 0 sheet.decls good.decls

  of_literals : Unnamed (length (declared_names sheet.decls)) sheet.literals
  of_literals = unnamed (length (declared_names sheet.decls)) sheet.literals good.literals

  patterns_are : patterns_in (in_order sheet) ≡ patterns_in first ++ (patterns_in second ++ patterns_in third)
  patterns_are = map-append (λ (r : Ranked). r.0) first (second ++ third) ∙ ap (λ l. patterns_in first ++ l) (map-append (λ (r : Ranked). r.0) second third)

  means_are : means_in (in_order sheet) ≡ means_in first ++ (means_in second ++ means_in third)
  means_are = map-append (λ (r : Ranked). r.1) first (second ++ third) ∙ ap (λ l. means_in first ++ l) (map-append (λ (r : Ranked). r.1) second third)

  in_order_scannable : IsScannable (patterns_in (in_order sheet))
  in_order_scannable = record {
    count =
        let all = length-map (in_order sheet) (λ (r : Ranked). r.0) in
        let outer = length-append first (second ++ third) in
        let inner = length-append second third in
        omega (arith, all, outer, inner, of_decls.count, of_literals.count, good.count, good.skips);
    positions =
        let all = sum_counts (patterns_in (in_order sheet)) in
        let are : count_all (patterns_in (in_order sheet)) ≡ count_all (patterns_in first ++ (patterns_in second ++ patterns_in third)) = ap count_all patterns_are in
        let outer = count_append (patterns_in first) (patterns_in second ++ patterns_in third) in
        let inner = count_append (patterns_in second) (patterns_in third) in
        omega (arith, all, are, outer, inner, of_decls.positions, of_literals.positions, good.positions);
    not_empty = subst (All IsFilled) (sym patterns_are) (All-append IsFilled (patterns_in first) (patterns_in second ++ patterns_in third) of_decls.literals (All-append IsFilled (patterns_in second) (patterns_in third) of_literals.filled of_decls.patterns));
  }

  pub scannable : IsScannable (map (λ (r : Ranked). r.0) (scan_order sheet))
  scannable = subst (λ l. IsScannable (patterns_in l)) (order_is sheet) in_order_scannable

  in_order_tokens : token_count (means_in (in_order sheet)) ≡ sheet.grammar.tokens
  in_order_tokens =
      let are : token_count (means_in (in_order sheet)) ≡ token_count (means_in first ++ (means_in second ++ means_in third)) = ap token_count means_are in
      let outer = token_append (means_in first) (means_in second ++ means_in third) in
      let inner = token_append (means_in second) (means_in third) in
      omega (arith, are, outer, inner, of_decls.tokens, of_literals.tokens, good.tokens)

  pub all_tokens : token_count (map (λ (r : Ranked). r.1) (scan_order sheet)) ≡ sheet.grammar.tokens
  all_tokens = subst (λ l. token_count (means_in l) ≡ sheet.grammar.tokens) (order_is sheet) in_order_tokens

-- all patterns are ranked
pub order_ranked : (sheet : Sheet) (ranking : List Ranked) (decls others : List Decl) (literals : List (List ℕ)) (from : ℕ) → decls ≡ sheet.decls → others ≡ sheet.decls → literals ≡ sheet.literals → from ≡ length (declared_names sheet.decls) → ranking ≡ (declared_literals 0 decls ++ unnamed_literals from literals) ++ declared_patterns 0 others → ranking ≡ scan_order sheet
order_ranked sheet ranking decls others literals from same again words count ranked =
    let are : (declared_literals 0 decls ++ unnamed_literals from literals) ++ declared_patterns 0 others ≡ (declared_literals 0 sheet.decls ++ unnamed_literals (length (declared_names sheet.decls)) sheet.literals) ++ declared_patterns 0 sheet.decls = cc in
    ranked ∙ are ∙ append_assoc (declared_literals 0 sheet.decls) (unnamed_literals (length (declared_names sheet.decls)) sheet.literals) (declared_patterns 0 sheet.decls) ∙ order_is sheet

pub one_meaning_each : (order : ScanOrder) (ranked : List Ranked) → Ranks order ranked → length order.patterns.items ≡ length order.means.items
one_meaning_each order ranked ranks =
    omega (arith, ap length ranks.patterns, ap length ranks.means, length-map ranked (λ (r : Ranked). r.0), length-map ranked (λ (r : Ranked). r.1))
