-- The nodes of the joined piece's floors: which there are, their hidden kids, and that each is used once.
use Rattle.std.proofs.Common.{◌≡◌, ◌≢◌, ℕ, zero, suc, ◌+◌, ◌<◌, ◌≤◌, List, [], ◌∷◌, ◌++◌, reverse, map, length, slice_index_or, All, Option, Some, None, refl, sym, ap, ◌∙◌, arith}
use Rattle.std.proofs.lemmas.List.{reverse-append, map-append}
use Rattle.grammar_theory.proofs.Lists.{Splits, in_first, in_second, splits}
use Rattle.node_data.specs.declared.kid.Kid.{Kid}
use Rattle.tree_theory.specs.Stores.{Ref, Store}
use Rattle.tree_theory.specs.Walks.{Step, Enter, WalksAll, tokens_in}
use Rattle.use_theory.specs.Counts.{sameness, count_in, times}
use Rattle.use_theory.specs.Fills.{holes, Filled, SuppliesPart}
use Rattle.use_theory.specs.Spines.{IsSpine}
use Rattle.use_theory.proofs.CountLemmas.{same_self, count-append, times-append}
use Rattle.use_theory.proofs.FillLemmas.{fill_walk_law}
use Rattle.piece_theory.specs.Pieces.{Opened, Floor, Held, opening_before, openings, floor_nodes, kids_of}
use Rattle.piece_theory.specs.Applies.{nowhere}
use Rattle.piece_theory.specs.WellMade.{HasHidden}
use Rattle.join_theory.specs.Floors.{AreKeptFor, none_kept, kept_next}
use Rattle.joined_laws.specs.Joining.{Beside, all_nodes, all_steps}
use Rattle.joined_laws.proofs.EdgeLemmas.{spine_enters, spine_front}

-- ---- the nodes of floors

pub openings_swapped : (lower : List Floor) (e g : Floor) → g.opened ≡ e.opened → openings (lower ++ g ∷ []) ≡ openings (lower ++ e ∷ [])
openings_swapped [] e g same = ap (λ o. opening_before o []) same
openings_swapped (f ∷ lower) e g same = ap (λ l. opening_before f.opened l) (openings_swapped lower e g same)

pub openings_push : (fs : List Floor) (g : Floor) (opened : Opened) → g.opened ≡ Some opened → openings (fs ++ g ∷ []) ≡ openings fs ++ opened ∷ []
openings_push [] g opened is = ap (λ o. opening_before o []) is
openings_push (f ∷ fs) g opened is = ap (λ l. opening_before f.opened l) (openings_push fs g opened is) ∙ before f.opened
  where
    before : (o : Option Opened) → opening_before o (openings fs ++ opened ∷ []) ≡ opening_before o (openings fs) ++ opened ∷ []
    before None = refl
    before (Some first) = refl

pub nodes_push : (fs : List Floor) (g : Floor) (opened : Opened) → g.opened ≡ Some opened → floor_nodes (fs ++ g ∷ []) ≡ floor_nodes fs ++ opened.node ∷ []
nodes_push fs g opened is = ap (λ l. map (λ o. o.node) l) (openings_push fs g opened is) ∙ map-append (λ o. o.node) (openings fs) (opened ∷ [])

pub reverse_first : (m : Ref) (ms : List Ref) → reverse (m ∷ ms) ≡ reverse ms ++ m ∷ []
reverse_first m ms = reverse-append (m ∷ []) ms

pub reverse_last : (m : Ref) (ms : List Ref) → reverse (ms ++ m ∷ []) ≡ m ∷ reverse ms
reverse_last m ms = reverse-append ms (m ∷ [])

pub count_reverse : (x : Ref) (ms : List Ref) → count_in x (reverse ms) ≡ count_in x ms
count_reverse x [] = refl
count_reverse x (m ∷ ms) =
    let sum = ap (count_in x) (reverse_first m ms) ∙ count-append x (reverse ms) (m ∷ []) in
    let rest = count_reverse x ms in
    omega (arith, sum, rest)

-- ---- hidden kids elsewhere

pub hidden_elsewhere : (now new : Store) (m : Ref) → ((n : Ref) → n ≢ m → new n ≡ now n) → (os : List Opened) → count_in m (map (λ o. o.node) os) ≡ 0 → All {X = Opened} (HasHidden now) os → All {X = Opened} (HasHidden new) os
hidden_elsewhere now new m others os none all k d inside =
    let has = all k d inside in
    let o = slice_index_or os k d in
    record { kids = has.kids; found = others o.node (λ e. not_here os k d inside none e) ∙ has.found; shown = has.shown }
  where
    not_here : (l : List Opened) (k : ℕ) (d : Opened) → k < length l → count_in m (map (λ o. o.node) l) ≡ 0 → (slice_index_or l k d).node ≡ m → ⊥
    not_here [] k d inside none e = omega (arith, inside)
    not_here (o ∷ l) zero d inside none e = let one = same_self m in let same = ap (λ x. sameness m x) e in let bad : ⊥ = omega (arith, none, one, same) in bad
    not_here (o ∷ l) (suc k) d inside none e = not_here l k d (omega (arith, inside)) (omega (arith, none)) e

pub all_push : (P : Opened → Type 0) (os : List Opened) (o : Opened) → All {X = Opened} P os → P o → All {X = Opened} P (os ++ o ∷ [])
all_push P [] o all p zero d inside = p
all_push P [] o all p (suc k) d inside = absurd (omega (arith, inside))
all_push P (x ∷ os) o all p zero d inside = all zero d (omega arith)
all_push P (x ∷ os) o all p (suc k) d inside = all_push P os o (λ j e less. all (suc j) e (omega (arith, less))) p k d (omega (arith, inside))

pub all_rest : (P : Opened → Type 0) (o : Opened) (os : List Opened) → All {X = Opened} P (o ∷ os) → All {X = Opened} P os
all_rest P o os all k d inside = all (suc k) d (omega (arith, inside))

pub all_first : (P : Opened → Type 0) (o : Opened) (os : List Opened) → All {X = Opened} P (o ∷ os) → P o
all_first P o os all = all zero o (omega arith)

-- ---- counts

pub count_all : (x : Ref) (beside : Beside) (fs gs : List Floor) → count_in x (all_nodes beside fs gs) ≡ count_in x beside.nodes_before + (count_in x (floor_nodes fs) + count_in x (floor_nodes gs)) + count_in x beside.nodes_behind
count_all x beside fs gs =
    let one = count-append x beside.nodes_before ((floor_nodes fs ++ floor_nodes gs) ++ beside.nodes_behind) in
    let two = count-append x (floor_nodes fs ++ floor_nodes gs) beside.nodes_behind in
    let three = count-append x (floor_nodes fs) (floor_nodes gs) in
    omega (arith, one, two, three)

pub times_all : (x : Ref) (beside : Beside) (steps more : List Step) → times x (all_steps beside steps more) ≡ times x beside.steps_before + (times x steps + times x more) + times x beside.steps_behind
times_all x beside steps more =
    let one = times-append x beside.steps_before (steps ++ (more ++ beside.steps_behind)) in
    let two = times-append x steps (more ++ beside.steps_behind) in
    let three = times-append x more beside.steps_behind in
    omega (arith, one, two, three)

-- ---- kids

pub kids_kept : {starts : _} {hs ks : List Held} → AreKeptFor starts hs ks → kids_of ks ≡ kids_of hs
kids_kept none_kept = refl
kids_kept (kept_next kid up states more) = λ i. kid i ∷ kids_kept more i

-- ---- the innermost node gets kids

-- the walk over the right piece's entries, once the node of the first floor still to come has the kids
pub record IsFilledMore (new : Store) (m : Ref) (still filled : ℕ) (inner more edge : List Step) (ms : List Ref) (kids : List Kid) : Type 0 where
  pub now : List Step
  pub fills : Filled m still filled inner more now
  pub walk : WalksAll new nowhere 0 kids now
  pub none : tokens_in fills.front ≡ []
  pub spine : IsSpine ms fills.front
  pub mid : List Step
  pub edge_is : edge ≡ fills.front ++ Enter m ∷ mid

fill_cases : (m : Ref) (edge rest front tail more : List Step) → more ≡ edge ++ rest → times m more ≡ 1 → 0 < times m edge → Splits edge rest front (Enter m) tail → (mid : List Step) × (edge ≡ front ++ Enter m ∷ mid)
fill_cases m edge rest front tail more parts once some (in_first mid has at) = (mid, has)
fill_cases m edge rest front tail more parts once some (in_second mid has at) =
    let sum = ap (times m) parts ∙ times-append m edge rest in
    let there = ap (times m) at ∙ times-append m mid (Enter m ∷ tail) in
    let one = same_self m in
    absurd (omega (arith, once, some, sum, there, one))

pub fill_more : (now new : Store) (m : Ref) (still : ℕ) (taken : List Kid) (inner more edge rest : List Step) (ms : List Ref) (kids : List Kid) → SuppliesPart now new m still taken → WalksAll new m still taken inner → WalksAll now nowhere 0 kids more → times m more ≤ 1 → more ≡ edge ++ rest → IsSpine (ms ++ m ∷ []) edge → IsFilledMore new m still (length taken) inner more edge ms kids
fill_more now new m still taken inner more edge rest ms kids part walk more_walk most parts spine =
    let some = spine_enters ms m spine in
    let sum = ap (times m) parts ∙ times-append m edge rest in
    let once : times m more ≡ 1 = omega (arith, most, some, sum) in
    let by = fill_walk_law now new m still taken inner part walk nowhere 0 kids more once more_walk in
    let tail = holes m 0 still ++ (holes m still (length taken) ++ by.1.back) in
    let here = fill_cases m edge rest by.1.front tail more parts once some (splits edge rest by.1.front (Enter m) tail (sym parts ∙ by.1.before)) in
    let front = spine_front ms m spine (omega (arith, once, sum)) by.1.front here.0 here.1 in
    record { now = by.0; fills = by.1; walk = by.2; none = front.none; spine = front.spine; mid = here.0; edge_is = here.1 }
