-- Hidden kids of a node are filled. The first kids of a node are hidden; the last of these become kids that stand below it
-- from then on, and the others stay hidden. In a walk the steps at those hidden kids become the walk over the new kids.
use Rattle.std.specs.Prelude.{◌≡◌, ◌≢◌, ℕ, zero, suc, ◌+◌, ◌<◌, List, [], ◌∷◌, ◌++◌, length, replicate, Contains, slice_get, slice_set, Some}
use Rattle.grammar_theory.specs.Trees.{Tree}
use Rattle.node_data.specs.declared.kid.Kid.{Kid}
use Rattle.node_data.specs.declared.kid.Kid.TheVariants.{Hidden}
use Rattle.tree_theory.specs.Stores.{Ref, Store, Supply, Shows, Keeps}
use Rattle.tree_theory.specs.Walks.{Step, Enter, AtHidden, tokens_in, WalksAll}
use Rattle.use_theory.specs.Counts.{times}

-- the steps at so many hidden kids of a node, from that kid on
abbrev pub holes : Ref → ℕ → ℕ → List Step
holes m from zero = []
holes m from (suc hidden) = AtHidden m from ∷ holes m (suc from) hidden

-- a hidden kid of a node becomes another, and nothing else changes
pub record FillsKid (store new : Store) (m : Ref) (i : ℕ) (kid : Kid) : Type 0 where
  pub rule : ℕ
  pub kids : List Kid
  pub before : store m ≡ Some (rule, kids)
  pub hidden : slice_get kids i ≡ Some Hidden
  pub after : new m ≡ Some (rule, slice_set kids i kid)
  pub others : (n : Ref) → n ≢ m → new n ≡ store n

-- the first kids of a node are hidden; so many of them stay so, and the further ones become these kids
pub record SuppliesPart (store new : Store) (m : Ref) (still : ℕ) (kids : List Kid) : Type 0 where
  pub rule : ℕ
  pub further : List Kid
  pub before : store m ≡ Some (rule, replicate still Hidden ++ (replicate (length kids) Hidden ++ further))
  pub after : new m ≡ Some (rule, replicate still Hidden ++ (kids ++ further))
  pub others : (n : Ref) → n ≢ m → new n ≡ store n

-- a walk enters the node and meets its hidden kids; in the other walk the last of them are walked over instead
pub record Filled (m : Ref) (still filled : ℕ) (inner steps steps1 : List Step) : Type 0 where
  pub front : List Step
  pub back : List Step
  pub before : steps ≡ front ++ Enter m ∷ (holes m 0 still ++ (holes m still filled ++ back))
  pub after : steps1 ≡ front ++ Enter m ∷ (holes m 0 still ++ (inner ++ back))

-- what the hidden kids of the node were supplied with, the new kids show; and all else is supplied still
pub record SuppliesSame (new : Store) (supply supply1 : Supply) (m : Ref) (still : ℕ) (kids : List Kid) : Type 0 where
  pub others : (n : Ref) (trees : List Tree) → n ≢ m → Contains {X = Ref × List Tree} supply (n, trees) → Contains {X = Ref × List Tree} supply1 (n, trees)
  pub stay : (i : ℕ) (trees : List Tree) (tree : Tree) → i < still → Contains {X = Ref × List Tree} supply (m, trees) → slice_get trees i ≡ Some tree → Shows new supply1 m i Hidden tree
  pub shown : (j : ℕ) (kid : Kid) (trees : List Tree) (tree : Tree) → slice_get kids j ≡ Some kid → Contains {X = Ref × List Tree} supply (m, trees) → slice_get trees (still + j) ≡ Some tree → Shows new supply1 m (still + j) kid tree

-- a part is supplied kid by kid, the last hidden kid first
abbrev pub KidByKidLaw : Type 0
KidByKidLaw = (store mid new : Store) (m : Ref) (still : ℕ) (kid : Kid) (kids : List Kid) → SuppliesPart store mid m (suc still) kids → FillsKid mid new m still kid → SuppliesPart store new m still (kid ∷ kids)

-- nothing is supplied
abbrev pub NoneSuppliedLaw : Type 0
NoneSuppliedLaw = (store : Store) (m : Ref) (rule still : ℕ) (further : List Kid) → store m ≡ Some (rule, replicate still Hidden ++ further) → SuppliesPart store store m still []

-- where a walk enters the node once, there is a walk in the other store, with those hidden kids walked over
abbrev pub FillWalkLaw : Type 0
FillWalkLaw = (store new : Store) (m : Ref) (still : ℕ) (kids : List Kid) (inner : List Step) → SuppliesPart store new m still kids → WalksAll new m still kids inner
    → (n : Ref) (i : ℕ) (others : List Kid) (steps : List Step) → times m steps ≡ 1 → WalksAll store n i others steps
    → (steps1 : List Step) × Filled m still (length kids) inner steps steps1 × WalksAll new n i others steps1

-- such a walk enters what both walks enter; and where no token stands before the node, the new tokens are the first
abbrev pub FilledStepsLaw : Type 0
FilledStepsLaw = (m : Ref) (still filled : ℕ) (inner steps steps1 : List Step) (by : Filled m still filled inner steps steps1)
    → ((n : Ref) → times n steps1 ≡ times n inner + times n steps) × (tokens_in by.front ≡ [] → tokens_in steps1 ≡ tokens_in inner ++ tokens_in steps)

-- where the new kids show what was supplied, each node shows what it did
abbrev pub SuppliedLaw : Type 0
SuppliedLaw = (store new : Store) (supply supply1 : Supply) (m : Ref) (still : ℕ) (kids : List Kid) (part : SuppliesPart store new m still kids) → (Contains {X = Kid} part.further Hidden → ⊥) → SuppliesSame new supply supply1 m still kids → Keeps store supply new supply1
