-- The positions of a pattern: its sets, each as often as it stands. They are numbered from 0, from the last one of the
-- pattern to its first; in a list of patterns those of the later patterns come first. A position is reached by a byte
-- string where the pattern can read the string so that the set at this position reads its last byte. Positions may be
-- first, may be last, and may follow one another.
-- Source: McNaughton and Yamada, Regular Expressions and State Graphs for Automata, 1960; Glushkov, The Abstract Theory
-- of Automata, 1961.
use Rattle.std.specs.Prelude.{◌≡◌, ℕ, ◌+◌, List, [], ◌∷◌, ◌++◌}
use Rattle.pattern_data.specs.declared.pattern.Pattern.{Pattern, out-Pattern}
use Rattle.pattern_data.specs.declared.pattern.Pattern.TheOpen.Pattern-F.{Set, Seq, Alt, Star, Plus, Opt}
use Rattle.pattern_data.specs.Bytes.{IsMember}
use Rattle.pattern_data.specs.Language.{Matches, MatchesInOrder, Repeats, positions_of}

-- the number of positions of patterns together
abbrev pub count_all : List Pattern → ℕ
count_all [] = 0
count_all (p ∷ ps) = positions_of p + count_all ps

-- one byte of a set
pub record IsSet (p : Pattern) (words : List ℕ) : Type 0 where
  pub opens : out-Pattern p ≡ Set words

-- one string of each member, one after another
pub record IsSequence (p : Pattern) (members : List Pattern) : Type 0 where
  pub opens : out-Pattern p ≡ Seq members

-- a string of any one member
pub record IsChoice (p : Pattern) (members : List Pattern) : Type 0 where
  pub opens : out-Pattern p ≡ Alt members

-- a string of the inner pattern, or nothing
pub record IsOption (p inner : Pattern) : Type 0 where
  pub opens : out-Pattern p ≡ Opt inner

-- strings of the inner pattern, one after another
pub data IsLoop (p inner : Pattern) : Type 0 where
  star_loop : out-Pattern p ≡ Star inner → IsLoop p inner
  plus_loop : out-Pattern p ≡ Plus inner → IsLoop p inner

-- made of these members
pub data HasMembers (p : Pattern) (members : List Pattern) : Type 0 where
  sequence_members : IsSequence p members → HasMembers p members
  choice_members : IsChoice p members → HasMembers p members

-- made of one inner pattern
pub data HasInner (p inner : Pattern) : Type 0 where
  loop_inner : IsLoop p inner → HasInner p inner
  option_inner : IsOption p inner → HasInner p inner

-- the set at the position has the byte
mutual
  pub data Reads : Pattern → ℕ → ℕ → Type 0 where
    set_reads : {p : Pattern} {words : List ℕ} {q byte : ℕ} → IsSet p words → q ≡ 0 → IsMember words byte → Reads p q byte
    member_reads : {p : Pattern} {members : List Pattern} {q byte : ℕ} → HasMembers p members → ReadsAmong members q byte → Reads p q byte
    inner_reads : {p inner : Pattern} {q byte : ℕ} → HasInner p inner → Reads inner q byte → Reads p q byte

  pub data ReadsAmong : List Pattern → ℕ → ℕ → Type 0 where
    this_reads : {p : Pattern} {ps : List Pattern} {k q byte : ℕ} → Reads p k byte → q ≡ count_all ps + k → ReadsAmong (p ∷ ps) q byte
    later_reads : {p : Pattern} {ps : List Pattern} {q byte : ℕ} → ReadsAmong ps q byte → ReadsAmong (p ∷ ps) q byte

-- the position is reached by the string
mutual
  pub data Reaches : Pattern → List ℕ → ℕ → Type 0 where
    by_byte : {p : Pattern} {words w : List ℕ} {byte q : ℕ} → IsSet p words → IsMember words byte → w ≡ byte ∷ [] → q ≡ 0 → Reaches p w q
    in_sequence : {p : Pattern} {members : List Pattern} {w : List ℕ} {q : ℕ} → IsSequence p members → ReachesInOrder members w q → Reaches p w q
    in_choice : {p : Pattern} {members : List Pattern} {w : List ℕ} {q : ℕ} → IsChoice p members → ReachesOne members w q → Reaches p w q
    in_loop : {p inner : Pattern} {u v w : List ℕ} {q : ℕ} → IsLoop p inner → Repeats inner u → Reaches inner v q → w ≡ u ++ v → Reaches p w q
    in_option : {p inner : Pattern} {w : List ℕ} {q : ℕ} → IsOption p inner → Reaches inner w q → Reaches p w q

  -- in a sequence of patterns
  pub data ReachesInOrder : List Pattern → List ℕ → ℕ → Type 0 where
    reaches_first : {p : Pattern} {ps : List Pattern} {w : List ℕ} {k q : ℕ} → Reaches p w k → q ≡ count_all ps + k → ReachesInOrder (p ∷ ps) w q
    reaches_behind : {p : Pattern} {ps : List Pattern} {u v w : List ℕ} {q : ℕ} → Matches p u → ReachesInOrder ps v q → w ≡ u ++ v → ReachesInOrder (p ∷ ps) w q

  -- in one of some patterns
  pub data ReachesOne : List Pattern → List ℕ → ℕ → Type 0 where
    reaches_this : {p : Pattern} {ps : List Pattern} {w : List ℕ} {k q : ℕ} → Reaches p w k → q ≡ count_all ps + k → ReachesOne (p ∷ ps) w q
    reaches_later : {p : Pattern} {ps : List Pattern} {w : List ℕ} {q : ℕ} → ReachesOne ps w q → ReachesOne (p ∷ ps) w q

-- a string of the pattern can begin at the position
mutual
  pub data IsFirst : Pattern → ℕ → Type 0 where
    set_first : {p : Pattern} {words : List ℕ} {q : ℕ} → IsSet p words → q ≡ 0 → IsFirst p q
    sequence_first : {p : Pattern} {members : List Pattern} {q : ℕ} → IsSequence p members → IsFirstInOrder members q → IsFirst p q
    choice_first : {p : Pattern} {members : List Pattern} {q : ℕ} → IsChoice p members → IsFirstOfOne members q → IsFirst p q
    inner_first : {p inner : Pattern} {q : ℕ} → HasInner p inner → IsFirst inner q → IsFirst p q

  pub data IsFirstInOrder : List Pattern → ℕ → Type 0 where
    first_in_first : {p : Pattern} {ps : List Pattern} {k q : ℕ} → IsFirst p k → q ≡ count_all ps + k → IsFirstInOrder (p ∷ ps) q
    first_behind : {p : Pattern} {ps : List Pattern} {q : ℕ} → Matches p [] → IsFirstInOrder ps q → IsFirstInOrder (p ∷ ps) q

  pub data IsFirstOfOne : List Pattern → ℕ → Type 0 where
    first_in_this : {p : Pattern} {ps : List Pattern} {k q : ℕ} → IsFirst p k → q ≡ count_all ps + k → IsFirstOfOne (p ∷ ps) q
    first_in_later : {p : Pattern} {ps : List Pattern} {q : ℕ} → IsFirstOfOne ps q → IsFirstOfOne (p ∷ ps) q

-- a string of the pattern can end at the position
mutual
  pub data IsLast : Pattern → ℕ → Type 0 where
    set_last : {p : Pattern} {words : List ℕ} {q : ℕ} → IsSet p words → q ≡ 0 → IsLast p q
    sequence_last : {p : Pattern} {members : List Pattern} {q : ℕ} → IsSequence p members → IsLastInOrder members q → IsLast p q
    choice_last : {p : Pattern} {members : List Pattern} {q : ℕ} → IsChoice p members → IsLastOfOne members q → IsLast p q
    inner_last : {p inner : Pattern} {q : ℕ} → HasInner p inner → IsLast inner q → IsLast p q

  pub data IsLastInOrder : List Pattern → ℕ → Type 0 where
    last_in_first : {p : Pattern} {ps : List Pattern} {k q : ℕ} → IsLast p k → MatchesInOrder ps [] → q ≡ count_all ps + k → IsLastInOrder (p ∷ ps) q
    last_behind : {p : Pattern} {ps : List Pattern} {q : ℕ} → IsLastInOrder ps q → IsLastInOrder (p ∷ ps) q

  pub data IsLastOfOne : List Pattern → ℕ → Type 0 where
    last_in_this : {p : Pattern} {ps : List Pattern} {k q : ℕ} → IsLast p k → q ≡ count_all ps + k → IsLastOfOne (p ∷ ps) q
    last_in_later : {p : Pattern} {ps : List Pattern} {q : ℕ} → IsLastOfOne ps q → IsLastOfOne (p ∷ ps) q

-- `Follows p q t`: the byte behind that of position q can be read at position t
mutual
  pub data Follows : Pattern → ℕ → ℕ → Type 0 where
    sequence_follows : {p : Pattern} {members : List Pattern} {q t : ℕ} → IsSequence p members → FollowsInOrder members q t → Follows p q t
    choice_follows : {p : Pattern} {members : List Pattern} {q t : ℕ} → IsChoice p members → FollowsInOne members q t → Follows p q t
    inner_follows : {p inner : Pattern} {q t : ℕ} → HasInner p inner → Follows inner q t → Follows p q t
    follows_again : {p inner : Pattern} {q t : ℕ} → IsLoop p inner → IsLast inner q → IsFirst inner t → Follows p q t

  pub data FollowsInOrder : List Pattern → ℕ → ℕ → Type 0 where
    follows_within : {p : Pattern} {ps : List Pattern} {j k q t : ℕ} → Follows p j k → q ≡ count_all ps + j → t ≡ count_all ps + k → FollowsInOrder (p ∷ ps) q t
    follows_across : {p : Pattern} {ps : List Pattern} {j q t : ℕ} → IsLast p j → q ≡ count_all ps + j → IsFirstInOrder ps t → FollowsInOrder (p ∷ ps) q t
    follows_behind : {p : Pattern} {ps : List Pattern} {q t : ℕ} → FollowsInOrder ps q t → FollowsInOrder (p ∷ ps) q t

  pub data FollowsInOne : List Pattern → ℕ → ℕ → Type 0 where
    follows_in_this : {p : Pattern} {ps : List Pattern} {j k q t : ℕ} → Follows p j k → q ≡ count_all ps + j → t ≡ count_all ps + k → FollowsInOne (p ∷ ps) q t
    follows_in_later : {p : Pattern} {ps : List Pattern} {q t : ℕ} → FollowsInOne ps q t → FollowsInOne (p ∷ ps) q t

-- a string of the pattern of this rank can end at the position
pub data Ends : List Pattern → ℕ → ℕ → Type 0 where
  this_ends : {p : Pattern} {ps : List Pattern} {rank k q : ℕ} → rank ≡ 0 → IsLast p k → q ≡ count_all ps + k → Ends (p ∷ ps) rank q
  later_ends : {p : Pattern} {ps : List Pattern} {rank lower q : ℕ} → rank ≡ lower + 1 → Ends ps lower q → Ends (p ∷ ps) rank q
