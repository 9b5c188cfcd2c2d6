-- A position of a literal is reached by one string alone.
use Rattle.std.proofs.Common.{◌≡◌, ℕ, suc, ◌+◌, ◌-◌, ◌≤◌, List, [], ◌∷◌, ◌++◌, map, length, take, refl, sym, ap, ◌∙◌, subst, arith}
use Rattle.std.specs.Prelude.{slice_get, Some, All}
use Rattle.std.proofs.lemmas.List.Elements.{All-head, All-tail}
use Rattle.pattern_data.specs.declared.pattern.Pattern.{Pattern}
use Rattle.pattern_data.specs.declared.pattern.Pattern.TheVariants.{Seq as seq_pattern, outs-Set, outs-Seq}
use Rattle.pattern_data.specs.Bytes.{IsMember, only_byte}
use Rattle.pattern_data.specs.Language.{IsLiteralByte, IsLiteral, byte_pattern, literal_pattern}
use Rattle.pattern_data.proofs.ByteLemmas.{only_byte-member}
use Rattle.pattern_data.proofs.LanguageLemmas.{byte_pattern-match}
use Rattle.position_theory.specs.Positions.{count_all, IsSet, IsSequence, Reaches, ReachesInOrder, ReachesOne}
use Rattle.position_theory.specs.Positions.HasMembers.{sequence_members, choice_members}
use Rattle.position_theory.specs.Positions.HasInner.{loop_inner, option_inner}
use Rattle.position_theory.specs.Positions.Reaches.{by_byte, in_sequence, in_choice, in_loop, in_option}
use Rattle.position_theory.specs.Positions.ReachesInOrder.{reaches_first, reaches_behind}
use Rattle.position_theory.specs.Positions.ReachesOne.{reaches_this, reaches_later}
use Rattle.position_theory.specs.States.{HaveSameSet, HaveDifferentSets}
use Rattle.position_theory.specs.Literals.{IsLiteralPattern, LiteralStatesLaw}
use Rattle.position_theory.proofs.LayerLemmas.{set_no_members, set_no_inner, sets_same, count_set, sum_counts}
use Rattle.position_theory.proofs.BoundLemmas.{order_below, one_reached_below}
use Rattle.position_theory.proofs.MatchLemmas.{reached_this, reached_later}
use Rattle.position_theory.proofs.StepLemmas.{reached_sequence}
use Rattle.position_theory.proofs.StateLemmas.{not_more, get_at}

byte_set : (byte : ℕ) → IsSet (byte_pattern byte) (only_byte byte)
byte_set byte = record { opens = outs-Set (only_byte byte) }

byte_reached : (byte : ℕ) (w : List ℕ) (q : ℕ) → IsLiteralByte byte → Reaches (byte_pattern byte) w q → (w ≡ byte ∷ []) × (q ≡ 0)
byte_reached byte w q literal (by_byte {words = words} {byte = other} is member string at) =
    let same : words ≡ only_byte byte = sets_same is (byte_set byte) in
    let here : other ≡ byte = (only_byte-member byte other literal.0 literal.1).0 (subst (λ (ws : List ℕ). IsMember ws other) same member) in
    (string ∙ ap (λ b. b ∷ []) here, at)
byte_reached byte w q literal (in_sequence is reach) = absurd (set_no_members (byte_set byte) (sequence_members is))
byte_reached byte w q literal (in_choice is reach) = absurd (set_no_members (byte_set byte) (choice_members is))
byte_reached byte w q literal (in_loop loop strings reach parts) = absurd (set_no_inner (byte_set byte) (loop_inner loop))
byte_reached byte w q literal (in_option is reach) = absurd (set_no_inner (byte_set byte) (option_inner is))

count_bytes : (bytes : List ℕ) → count_all (map byte_pattern bytes) ≡ length bytes
count_bytes [] = refl
count_bytes (byte ∷ bytes) = let one = count_set (byte_set byte) in let rest = count_bytes bytes in omega (arith, one, rest)

bytes_reached : (bytes : List ℕ) (w : List ℕ) (q : ℕ) → All IsLiteralByte bytes → ReachesInOrder (map byte_pattern bytes) w q → w ≡ take (length bytes - q) bytes
bytes_reached [] w q each reach = absurd (let below = order_below reach in omega (arith, below))
bytes_reached (byte ∷ bytes) w q each (reaches_first {k = k} reach at) =
    let h = byte_reached byte w k (All-head IsLiteralByte byte bytes each) reach in
    let count = count_bytes bytes in
    let one : length (byte ∷ bytes) - q ≡ 1 = let zeroth = h.1 in omega (arith, at, count, zeroth) in
    h.0 ∙ sym (ap (λ n. take n (byte ∷ bytes)) one)
bytes_reached (byte ∷ bytes) w q each (reaches_behind {u = u} {v = v} string reach parts) =
    let here : IsLiteralByte byte = All-head IsLiteralByte byte bytes each in
    let first : u ≡ byte ∷ [] = byte_pattern-match byte u here.0 here.1 string in
    let rest = bytes_reached bytes v q (All-tail IsLiteralByte byte bytes each) reach in
    let below = order_below reach in
    let count = count_bytes bytes in
    let more : length (byte ∷ bytes) - q ≡ 1 + (length bytes - q) = omega (arith, below, count) in
    parts ∙ ap (λ x. x ++ v) first ∙ ap (λ x. byte ∷ x) rest ∙ one_more bytes (length bytes - q) ∙ sym (ap (λ n. take n (byte ∷ bytes)) more)
  where
    one_more : (bytes : List ℕ) (n : ℕ) → byte ∷ take n bytes ≡ take (1 + n) (byte ∷ bytes)
    one_more bytes n = let e : 1 + n ≡ suc n = omega arith in sym (ap (λ k. take k (byte ∷ bytes)) e)

literal_reached : (bytes : List ℕ) (w : List ℕ) (q : ℕ) → IsLiteral bytes → Reaches (literal_pattern bytes) w q → w ≡ take (length bytes - q) bytes
literal_reached [] w q literal reach = absurd (literal.some refl)
literal_reached (byte ∷ []) w q literal reach =
    let h = byte_reached byte w q (All-head IsLiteralByte byte [] literal.each) reach in
    let one : length (byte ∷ []) - q ≡ 1 = let zeroth = h.1 in omega (arith, zeroth) in
    h.0 ∙ sym (ap (λ n. take n (byte ∷ [])) one)
literal_reached (byte ∷ second ∷ bytes) w q literal reach =
    let members : List Pattern = map byte_pattern (byte ∷ second ∷ bytes) in
    let is : IsSequence (seq_pattern members) members = record { opens = outs-Seq members } in
    bytes_reached (byte ∷ second ∷ bytes) w q literal.each (reached_sequence is reach)

same_string : (p : Pattern) (u v : List ℕ) (q : ℕ) → IsLiteralPattern p → Reaches p u q → Reaches p v q → u ≡ v
same_string p u v q (bytes, literal, is) a b =
    literal_reached bytes u q literal (subst (λ (x : Pattern). Reaches x u q) is a) ∙ sym (literal_reached bytes v q literal (subst (λ (x : Pattern). Reaches x v q) is b))

one_string : (ps : List Pattern) (u v : List ℕ) (q : ℕ) → All IsLiteralPattern ps → ReachesOne ps u q → ReachesOne ps v q → u ≡ v
one_string [] u v q each a b = absurd (let below = one_reached_below a in omega (arith, below))
one_string (p ∷ ps) u v q each (reaches_this {k = k} reach at) b = same_string p u v k (All-head IsLiteralPattern p ps each) reach (reached_this at b)
one_string (p ∷ ps) u v q each (reaches_later reach) b = one_string ps u v q (All-tail IsLiteralPattern p ps each) reach (reached_later (one_reached_below reach) b)

module _ (patterns : List Pattern) (words : List (List ℕ)) (each : All IsLiteralPattern patterns) (differ : HaveDifferentSets patterns words) where
  abbrev At : ℕ → ℕ → Type 0
  At j q = (w : List ℕ) × (slice_get words j ≡ Some w) × ReachesOne patterns w q

  few_words : length words ≤ count_all patterns
  few_words = not_more (count_all patterns) (length words) At
      (λ j below. let w = get_at words j below in let q = differ.some j w.0 w.1 in (q.0, one_reached_below q.1, (w.0, w.1, q.1)))
      (λ i j q less below a b.
      let same = one_string patterns a.0 b.0 q each a.2 b.2 in
      differ.different i j a.0 b.0 less a.1 b.1 (subst (λ (x : List ℕ). HaveSameSet patterns a.0 x) same (λ t. (λ r. r, λ r. r))))

pub literal_states : LiteralStatesLaw
literal_states patterns limit each more =
    let few = few_words patterns more.0 each more.1 in
    let above = more.2 in
    let same = sum_counts patterns in
    omega (arith, few, above, same)
