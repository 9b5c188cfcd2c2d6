-- The piece at the seam moves on.
use Rattle.std.proofs.Common.{◌≡◌, ◌≢◌, ℕ, ◌<◌, List, ◌++◌, Option, Some, None, refl, sym, ◌∙◌, arith}
use Rattle.node_data.specs.declared.kid.Kid.{Kid}
use Rattle.tree_theory.specs.Stores.{Ref, Store}
use Rattle.tree_theory.specs.Walks.{Step}
use Rattle.use_theory.specs.Counts.{count_in, times}
use Rattle.use_theory.specs.Distinct.{IsDistinct}
use Rattle.use_theory.specs.Kept.{IsSame}
use Rattle.use_theory.proofs.CountLemmas.{count-append, times-append}
use Rattle.piece_theory.specs.Pieces.{floor_nodes, kids_of}
use Rattle.piece_theory.specs.Lists.{nodes_of_floors}
use Rattle.piece_theory.specs.Laws.{HasMore}
use Rattle.joined_laws.proofs.JoiningLemmas.{steps_visible, all_visible}
use Rattle.seam_theory.specs.Moves.{AnyOrderLaw, other_nodes, SeamWalkedLaw, SeamGrownLaw}
use Rattle.seam_theory.proofs.SeamLemmas.{seam_move_law}

pub any_order : {store : Store} {floors : List Ref} {steps : List Step} (others : List Ref) (more : List Step) → ((m : Ref) → count_in m others ≡ count_in m floors) → ((m : Ref) → times m more ≡ times m steps) → IsDistinct store floors steps → IsDistinct store others more
any_order others more same_count same_times was = record {
  once = λ m. (let same = same_times m in let once = was.once m in omega (arith, same, once));
  used = λ m r kids at. (let same = same_times m in let some = was.used m r kids at in omega (arith, same, some));
  there = λ m some. was.there m (let same = same_times m in omega (arith, same, some));
  hidden = λ m r kids at has. (let same = same_count m in let some = was.hidden m r kids at has in omega (arith, same, some));
  within = λ m. (let same = same_count m in let same1 = same_times m in let less = was.within m in omega (arith, same, same1, less));
}

pub any_order_law : AnyOrderLaw
any_order_law store floors others steps more same_count same_times was = any_order others more same_count same_times was

last_count : (m : Ref) (a b c : List Ref) → count_in m ((a ++ c) ++ b) ≡ count_in m (a ++ (b ++ c))
last_count m a b c =
    let one = count-append m (a ++ c) b in
    let two = count-append m a c in
    let three = count-append m a (b ++ c) in
    let four = count-append m b c in
    omega (arith, one, two, three, four)

last_times : (m : Ref) (a b c : List Step) → times m ((a ++ c) ++ b) ≡ times m (a ++ (b ++ c))
last_times m a b c =
    let one = times-append m (a ++ c) b in
    let two = times-append m a c in
    let three = times-append m a (b ++ c) in
    let four = times-append m b c in
    omega (arith, one, two, three, four)

pub seam_walked_law : SeamWalkedLaw
seam_walked_law t store front last rest w seam = record {
  steps = seam.steps;
  has = record {
    walk = seam.made.walk;
    yields = seam.made.yields;
    later = seam.made.later;
    begins = seam.made.begins;
    counted = seam.made.counted;
    shown = all_visible (kids_of last.stack) (steps_visible seam.made.maps);
    nodes = seam.made.nodes;
    spine = seam.made.spine;
  };
  each_once = any_order (other_nodes front rest ++ floor_nodes last.floors) ((seam.front_steps ++ seam.rest_steps) ++ seam.steps)
      (λ m. last_count m (nodes_of_floors front) (floor_nodes last.floors) (nodes_of_floors rest)) (λ m. last_times m seam.front_steps seam.steps seam.rest_steps) seam.each_once;
}

-- a node that is used is there in a store that has more
more_same : (store new : Store) (steps : List Step) → HasMore store new → ((m : Ref) → 0 < times m steps → store m ≢ None) → IsSame store new steps
more_same store new steps has there m some = by (store m) refl
  where
    by : (o : Option (ℕ × List Kid)) → store m ≡ o → new m ≡ store m
    by None is = absurd (there m some is)
    by (Some (r, kids)) is = has m r kids is ∙ sym is

pub seam_grown_law : SeamGrownLaw
seam_grown_law t store new front last moved rest w seam has first walked made stands takes =
    seam_move_law t store new front last moved rest w seam walked.steps first made stands takes
    (more_same store new seam.front_steps has (λ m some. seam.each_once.there m (let one = times-append m seam.front_steps (seam.steps ++ seam.rest_steps) in omega (arith, some, one))))
    (more_same store new seam.rest_steps has (λ m some. seam.each_once.there m (let one = times-append m seam.front_steps (seam.steps ++ seam.rest_steps) in let two = times-append m seam.steps seam.rest_steps in omega (arith, some, one, two))))
    (any_order (nodes_of_floors front ++ (floor_nodes moved.floors ++ nodes_of_floors rest)) (seam.front_steps ++ (walked.steps ++ seam.rest_steps))
    (λ m. sym (last_count m (nodes_of_floors front) (floor_nodes moved.floors) (nodes_of_floors rest))) (λ m. sym (last_times m seam.front_steps walked.steps seam.rest_steps)) walked.each_once)
