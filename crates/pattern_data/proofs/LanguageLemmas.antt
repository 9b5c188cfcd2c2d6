-- What patterns match: the string of a literal and no other, and never a line feed.
use Rattle.std.proofs.Common.{◌≡◌, ◌≢◌, ℕ, ◌+◌, ◌<◌, ◌↔◌, List, [], ◌∷◌, ◌++◌, map, sum, length, refl, ap, ◌∙◌, subst, ⊎_elim, arith}
use Rattle.std.specs.Prelude.{fold, Contains, All}
use Rattle.std.proofs.lemmas.List.Elements.{Contains-append_cases, Contains-push_cases, All-head, All-tail}
use Rattle.pattern_data.specs.declared.pattern.Pattern.{Pattern, out-Pattern, map-Pattern, fold_out-Pattern}
use Rattle.pattern_data.specs.declared.pattern.Pattern.TheOpen.Pattern-F.{Set, Seq}
use Rattle.pattern_data.specs.declared.pattern.Pattern.TheVariants.{Seq as seq_pattern, outs-Set, outs-Seq}
use Rattle.pattern_data.specs.Bytes.{IsMember, only_byte}
use Rattle.pattern_data.specs.Language.{Matches, MatchesInOrder, Repeats, positions_step, positions_of, byte_pattern, literal_pattern, IsLiteralByte, IsLiteral}
use Rattle.pattern_data.specs.Language.Matches.{one_byte, in_order, any_one, repeated, at_least_once, once, left_out}
use Rattle.pattern_data.specs.Language.MatchesInOrder.{no_member, first_member}
use Rattle.pattern_data.specs.Language.Repeats.{no_more, one_more}
use Rattle.pattern_data.proofs.ByteLemmas.{only_byte-member}

-- ---- no line feed
not_in_none : (x : ℕ) → Contains [] x → ⊥
not_in_none x h = let few : h.0 < 0 = h.1 in omega arith

not_in_empty : (w : List ℕ) (x : ℕ) → w ≡ [] → Contains w x → ⊥
not_in_empty w x e h = not_in_none x (let P : List ℕ → Type 0 = λ v. Contains v x in subst P e h)

not_in_one : (w : List ℕ) (byte x : ℕ) → w ≡ byte ∷ [] → byte ≢ x → Contains w x → ⊥
not_in_one w byte x e differs h =
    let P : List ℕ → Type 0 = λ v. Contains v x in
    ⊎_elim (not_in_none x) differs (Contains-push_cases [] byte x (subst P e h))

not_in_both : (u v w : List ℕ) (x : ℕ) → w ≡ u ++ v → (Contains u x → ⊥) → (Contains v x → ⊥) → Contains w x → ⊥
not_in_both u v w x e first second h =
    let P : List ℕ → Type 0 = λ t. Contains t x in
    ⊎_elim first second (Contains-append_cases u v x (subst P e h))

mutual
  pub Matches-no_feed : {p : Pattern} {w : List ℕ} → Matches p w → Contains w 10 → ⊥
  Matches-no_feed (one_byte {w = w} {byte = byte} opens member is) = not_in_one w byte 10 is member.0
  Matches-no_feed (in_order opens strings) = InOrder-no_feed strings
  Matches-no_feed (any_one opens one string) = Matches-no_feed string
  Matches-no_feed (repeated opens strings) = Repeats-no_feed strings
  Matches-no_feed (at_least_once {u = u} {v = v} {w = w} opens string strings is) = not_in_both u v w 10 is (Matches-no_feed string) (Repeats-no_feed strings)
  Matches-no_feed (once opens string) = Matches-no_feed string
  Matches-no_feed (left_out {w = w} opens is) = not_in_empty w 10 is

  pub InOrder-no_feed : {members : List Pattern} {w : List ℕ} → MatchesInOrder members w → Contains w 10 → ⊥
  InOrder-no_feed (no_member {w = w} is) = not_in_empty w 10 is
  InOrder-no_feed (first_member {u = u} {v = v} {w = w} string strings is) = not_in_both u v w 10 is (Matches-no_feed string) (InOrder-no_feed strings)

  pub Repeats-no_feed : {p : Pattern} {w : List ℕ} → Repeats p w → Contains w 10 → ⊥
  Repeats-no_feed (no_more {w = w} is) = not_in_empty w 10 is
  Repeats-no_feed (one_more {u = u} {v = v} {w = w} string strings is) = not_in_both u v w 10 is (Matches-no_feed string) (Repeats-no_feed strings)

-- ---- the strings of a set and of a sequence
match_Set : {p : Pattern} {w : List ℕ} (words : List ℕ) → out-Pattern p ≡ Set words → Matches p w → (byte : ℕ) × IsMember words byte × (w ≡ byte ∷ [])
match_Set words is (one_byte {words = these} {byte = byte} opens member string) =
    let same : these ≡ words = cc in
    (byte, let P : List ℕ → Type 0 = λ ws. IsMember ws byte in subst P same member, string)
match_Set words is (in_order opens strings) = absurd (cc)
match_Set words is (any_one opens one string) = absurd (cc)
match_Set words is (repeated opens strings) = absurd (cc)
match_Set words is (at_least_once opens string strings parts) = absurd (cc)
match_Set words is (once opens string) = absurd (cc)
match_Set words is (left_out opens nothing) = absurd (cc)

match_Seq : {p : Pattern} {w : List ℕ} (members : List Pattern) → out-Pattern p ≡ Seq members → Matches p w → MatchesInOrder members w
match_Seq members is (one_byte opens member string) = absurd (cc)
match_Seq {w = w} members is (in_order {members = these} opens strings) =
    let same : these ≡ members = cc in
    let P : List Pattern → Type 0 = λ ms. MatchesInOrder ms w in subst P same strings
match_Seq members is (any_one opens one string) = absurd (cc)
match_Seq members is (repeated opens strings) = absurd (cc)
match_Seq members is (at_least_once opens string strings parts) = absurd (cc)
match_Seq members is (once opens string) = absurd (cc)
match_Seq members is (left_out opens nothing) = absurd (cc)

-- ---- literals
pub byte_pattern-match : (byte : ℕ) (w : List ℕ) → byte < 256 → byte ≢ 10 → Matches (byte_pattern byte) w → w ≡ byte ∷ []
byte_pattern-match byte w below no_feed string =
    let found = match_Set (only_byte byte) (outs-Set (only_byte byte)) string in
    found.2 ∙ ap (λ b. b ∷ []) ((only_byte-member byte found.0 below no_feed).0 found.1)

pub byte_pattern-has : (byte : ℕ) (w : List ℕ) → byte < 256 → byte ≢ 10 → w ≡ byte ∷ [] → Matches (byte_pattern byte) w
byte_pattern-has byte w below no_feed is =
    one_byte {words = only_byte byte} {byte = byte} (outs-Set (only_byte byte)) ((only_byte-member byte byte below no_feed).1 refl) is

in_order-match : (bytes w : List ℕ) → All IsLiteralByte bytes → MatchesInOrder (map byte_pattern bytes) w → w ≡ bytes
in_order-match [] w each (no_member is) = is
in_order-match (byte ∷ bytes) w each (first_member {u = u} {v = v} string strings is) =
    let here : IsLiteralByte byte = All-head IsLiteralByte byte bytes each in
    let first : u ≡ byte ∷ [] = byte_pattern-match byte u here.0 here.1 string in
    let rest : v ≡ bytes = in_order-match bytes v (All-tail IsLiteralByte byte bytes each) strings in
    is ∙ ap (λ t. t ++ v) first ∙ ap (λ t. byte ∷ t) rest

in_order-has : (bytes w : List ℕ) → All IsLiteralByte bytes → w ≡ bytes → MatchesInOrder (map byte_pattern bytes) w
in_order-has [] w each is = no_member is
in_order-has (byte ∷ bytes) w each is =
    let here : IsLiteralByte byte = All-head IsLiteralByte byte bytes each in
    first_member {u = byte ∷ []} {v = bytes} (byte_pattern-has byte (byte ∷ []) here.0 here.1 refl)
    (in_order-has bytes bytes (All-tail IsLiteralByte byte bytes each) refl) is

literal-cases : (bytes w : List ℕ) → bytes ≢ [] → All IsLiteralByte bytes → Matches (literal_pattern bytes) w ↔ (w ≡ bytes)
literal-cases [] w some each = absurd (some refl)
literal-cases (byte ∷ []) w some each =
    let here : IsLiteralByte byte = All-head IsLiteralByte byte [] each in
    (byte_pattern-match byte w here.0 here.1, byte_pattern-has byte w here.0 here.1)
literal-cases (byte ∷ second ∷ bytes) w some each =
    let members : List Pattern = map byte_pattern (byte ∷ second ∷ bytes) in (
      λ string. in_order-match (byte ∷ second ∷ bytes) w each (match_Seq members (outs-Seq members) string),
      λ is. in_order {members = members} (outs-Seq members) (in_order-has (byte ∷ second ∷ bytes) w each is),
    )

pub literal-match : (bytes w : List ℕ) → IsLiteral bytes → Matches (literal_pattern bytes) w ↔ (w ≡ bytes)
literal-match bytes w literal = literal-cases bytes w literal.some literal.each

-- ---- positions
positions_of-byte : (byte : ℕ) → positions_of (byte_pattern byte) ≡ 1
unfolding positions_of
positions_of-byte byte = fold_out-Pattern ℕ positions_step (byte_pattern byte) ∙ ap (λ layer. positions_step (map-Pattern Pattern ℕ positions_of layer)) (outs-Set (only_byte byte))

fold-positions : (bytes : List ℕ) (acc : ℕ) → fold ◌+◌ acc (map positions_of (map byte_pattern bytes)) ≡ acc + length bytes
fold-positions [] acc = omega arith
fold-positions (byte ∷ bytes) acc =
    let here : acc + positions_of (byte_pattern byte) ≡ acc + 1 = ap (λ n. acc + n) (positions_of-byte byte) in
    let rest : fold ◌+◌ (acc + positions_of (byte_pattern byte)) (map positions_of (map byte_pattern bytes)) ≡ (acc + positions_of (byte_pattern byte)) + length bytes = fold-positions bytes (acc + positions_of (byte_pattern byte)) in
    rest ∙ ap (λ n. n + length bytes) here ∙ omega arith

sum-positions : (bytes : List ℕ) → sum (map positions_of (map byte_pattern bytes)) ≡ length bytes
sum-positions bytes = fold-positions bytes 0 ∙ omega arith

literal-positions_cases : (bytes : List ℕ) → bytes ≢ [] → positions_of (literal_pattern bytes) ≡ length bytes
unfolding positions_of
literal-positions_cases [] some = absurd (some refl)
literal-positions_cases (byte ∷ []) some = positions_of-byte byte
literal-positions_cases (byte ∷ second ∷ bytes) some =
    let members : List Pattern = map byte_pattern (byte ∷ second ∷ bytes) in
    fold_out-Pattern ℕ positions_step (seq_pattern members) ∙ ap (λ layer. positions_step (map-Pattern Pattern ℕ positions_of layer)) (outs-Seq members)
    ∙ sum-positions (byte ∷ second ∷ bytes)

pub literal-positions : (bytes : List ℕ) → IsLiteral bytes → positions_of (literal_pattern bytes) ≡ length bytes
literal-positions bytes literal = literal-positions_cases bytes literal.some
