-- The pairs of starts by the images of their classes, as they are made one after another.
use Rattle.std.proofs.Common.{◌≡◌, ◌≢◌, ℕ, zero, suc, ◌+◌, ◌<◌, ◌≤◌, ◌⊎◌, inl, inr, List, [], ◌∷◌, ◌++◌, length, get_or, set, take, map, Option, Some, None, refl, sym, ap, ◌∙◌, arith, append-nil, length-take, length-set}
use Rattle.std.specs.Prelude.{All, AllPairs, fold, slice_get}
use Rattle.std.specs.List.{cons_option}
use Rattle.std.specs.Option.{option_map, option_to_list}
use Rattle.std.proofs.lemmas.List.{take_more, get_or_default, get_or-map}
use Rattle.std.proofs.lemmas.List.Elements.{All-nil, All-cons, All-head, All-tail, All-push}
use Rattle.std.proofs.lemmas.List.Kept.{AllPairs-cons}
use Rattle.std.proofs.lemmas.Option.{same_Some, slice_get-get_or}
use Rattle.std.proofs.lemmas.Bool.{cases_eq}
use Rattle.map_theory.specs.Maps.{StateMap, IsRising, followed}
use Rattle.state_sets.specs.Classes.{put_once, targets_of}
use Rattle.state_sets.specs.Parts.{pairs_of, AreClassed}
use Rattle.state_sets.specs.Within.{AreWithin}
use Rattle.state_sets.specs.Spreads.{spread_pairs}
use Rattle.state_sets.proofs.ClassLemmas.{put_keeps, put_cases}

put_behind : (o : Option (ℕ × ℕ)) (m n : StateMap) → cons_option o m ++ n ≡ cons_option o (m ++ n)
put_behind None m n = refl
put_behind (Some pair) m n = refl

alone : (o : Option (ℕ × ℕ)) → cons_option o [] ≡ option_to_list o
alone None = refl
alone (Some pair) = refl

spread_push : (starts classes : List ℕ) (images : List (Option ℕ)) (q k : ℕ) → length classes ≡ length starts → spread_pairs (starts ++ q ∷ []) (classes ++ k ∷ []) images ≡ spread_pairs starts classes images ++ option_to_list (option_map (λ p. (q, p)) (get_or images k None))
spread_push [] [] images q k same = alone (option_map (λ p. (q, p)) (get_or images k None))
spread_push [] (j ∷ classes) images q k same = absurd (omega arith)
spread_push (x ∷ starts) [] images q k same = absurd (omega arith)
spread_push (x ∷ starts) (j ∷ classes) images q k same =
    ap (cons_option (option_map (λ p. (x, p)) (get_or images j None))) (spread_push starts classes images q k (omega arith))
    ∙ sym (put_behind (option_map (λ p. (x, p)) (get_or images j None)) (spread_pairs starts classes images) (option_to_list (option_map (λ p. (q, p)) (get_or images k None))))

get_set : (l : List (Option ℕ)) (k : ℕ) (x : Option ℕ) → k < length l → slice_get (set l k x) k ≡ Some x
get_set [] k x inside = absurd (omega arith)
get_set (y ∷ l) zero x inside = refl
get_set (y ∷ l) (suc k) x inside = get_set l k x (omega arith)

get_set_other : (l : List (Option ℕ)) (k k' : ℕ) (x : Option ℕ) → k' ≢ k → slice_get (set l k x) k' ≡ slice_get l k'
get_set_other [] k k' x other = refl
get_set_other (y ∷ l) zero zero x other = absurd (other refl)
get_set_other (y ∷ l) zero (suc k') x other = refl
get_set_other (y ∷ l) (suc k) zero x other = refl
get_set_other (y ∷ l) (suc k) (suc k') x other = get_set_other l k k' x (λ e. other (ap suc e))

-- how far the pairs are made
pub record IsSpread (starts classes : List ℕ) (images : List (Option ℕ)) (i : ℕ) (made numbers targets : List ℕ) (known : List (Option ℕ)) : Type 0 where
  pub classed : AreClassed made numbers targets
  pub pairs : pairs_of made numbers targets ≡ spread_pairs (take i starts) (take i classes) images
  pub few : length made ≤ i
  pub size : length known ≡ length images
  pub right : (k j : ℕ) → slice_get known k ≡ Some (Some j) → (p : ℕ) × (slice_get images k ≡ Some (Some p)) × (slice_get targets j ≡ Some p)

pub spread_more : (starts classes : List ℕ) (images : List (Option ℕ)) (i q k : ℕ) (image : Option ℕ) → length classes ≡ length starts → i < length starts → q ≡ get_or starts i 0 → k ≡ get_or classes i 0 → get_or images k None ≡ image → spread_pairs (take (i + 1) starts) (take (i + 1) classes) images ≡ spread_pairs (take i starts) (take i classes) images ++ option_to_list (option_map (λ p. (q, p)) image)
spread_more starts classes images i q k image same within start class is =
    let also : i < length classes = omega (arith, same) in
    let below : length (take i classes) ≡ length (take i starts) = omega (arith, length-take i classes, length-take i starts, same) in
    (λ j. spread_pairs (take_more starts i 0 within j) (take_more classes i 0 also j) images)
    ∙ spread_push (take i starts) (take i classes) images (get_or starts i 0) (get_or classes i 0) below
    ∙ ap (λ x. spread_pairs (take i starts) (take i classes) images ++ option_to_list (option_map (λ p. (x, p)) (get_or images (get_or classes i 0) None))) (sym start)
    ∙ ap (λ o. spread_pairs (take i starts) (take i classes) images ++ option_to_list (option_map (λ p. (q, p)) o)) (ap (λ j. get_or images j None) (sym class) ∙ is)

pub spread_skip : (starts classes : List ℕ) (images : List (Option ℕ)) (i k : ℕ) (made numbers targets : List ℕ) (known : List (Option ℕ)) → length classes ≡ length starts → i < length starts → k ≡ get_or classes i 0 → get_or images k None ≡ None → IsSpread starts classes images i made numbers targets known → IsSpread starts classes images (i + 1) made numbers targets known
spread_skip starts classes images i k made numbers targets known same within class is so_far = record {
  classed = so_far.classed;
  pairs = so_far.pairs ∙ sym (append-nil (spread_pairs (take i starts) (take i classes) images)) ∙ sym (spread_more starts classes images i (get_or starts i 0) k None same within refl class is);
  few = omega (arith, so_far.few);
  size = so_far.size;
  right = so_far.right;
}

pub spread_put : (starts classes : List ℕ) (images : List (Option ℕ)) (i q k p j : ℕ) (made numbers targets : List ℕ) (known : List (Option ℕ)) (made1 numbers1 targets1 : List ℕ) (known1 : List (Option ℕ)) → length classes ≡ length starts → i < length starts → q ≡ get_or starts i 0 → k ≡ get_or classes i 0 → k < length images → get_or images k None ≡ Some p → IsSpread starts classes images i made numbers targets known
    → AreClassed made1 numbers1 targets1 → pairs_of made1 numbers1 targets1 ≡ pairs_of made numbers targets ++ (q, p) ∷ [] → targets1 ≡ put_once targets p → slice_get targets1 j ≡ Some p → length made1 ≡ length made + 1 → known1 ≡ set known k (Some j)
    → IsSpread starts classes images (i + 1) made1 numbers1 targets1 known1
spread_put starts classes images i q k p j made numbers targets known made1 numbers1 targets1 known1 same within start class inside is so_far classed pairs put at one_more set_known = record {
  classed = classed;
  pairs = pairs ∙ ap (λ m. m ++ (q, p) ∷ []) so_far.pairs ∙ sym (spread_more starts classes images i q k (Some p) same within start class is);
  few = omega (arith, so_far.few, one_more);
  size = ap length set_known ∙ length-set known k (Some j) ∙ so_far.size;
  right = λ k' j' is_known. cases k' j' (cases_eq k' k) (ap (λ l. slice_get l k') (sym set_known) ∙ is_known);
}
  where
    image : slice_get images k ≡ Some (Some p)
    image = slice_get-get_or images k None inside ∙ ap Some is

    cases : (k' j' : ℕ) → (k' ≡ k) ⊎ (k' ≡ k → ⊥) → slice_get (set known k (Some j)) k' ≡ Some (Some j') → (x : ℕ) × (slice_get images k' ≡ Some (Some x)) × (slice_get targets1 j' ≡ Some x)
    cases k' j' (inl equal) is_set =
        let now : Some (Some j) ≡ Some (Some j') = sym (get_set known k (Some j) (omega (arith, so_far.size, inside))) ∙ ap (slice_get (set known k (Some j))) (sym equal) ∙ is_set in
        let number : j ≡ j' = same_Some j j' (same_Some (Some j) (Some j') now) in
        (p, ap (slice_get images) equal ∙ image, ap (slice_get targets1) (sym number) ∙ at)
    cases k' j' (inr other) is_set =
        let old = so_far.right k' j' (sym (get_set_other known k k' (Some j) other) ∙ is_set) in
        (old.0, old.1, ap (λ l. slice_get l j') put ∙ put_keeps targets p j' old.0 old.2)

-- an image that was read with any default
pub image_is : (images : List (Option ℕ)) (k : ℕ) (image d : Option ℕ) → k < length images → get_or images k d ≡ image → get_or images k None ≡ image
image_is images k image d inside is = get_or_default images k None d inside ∙ is

-- a known class is that of the image
pub known_is : (starts classes : List ℕ) (images : List (Option ℕ)) (i k p j : ℕ) (made numbers targets : List ℕ) (known : List (Option ℕ)) → IsSpread starts classes images i made numbers targets known → k < length images → get_or images k None ≡ Some p → {x : Option ℕ} → x ≡ get_or known k x → x ≡ Some j → slice_get targets j ≡ Some p
known_is starts classes images i k p j made numbers targets known so_far inside image {x = x} read is =
    let number : slice_get known k ≡ Some (Some j) = slice_get-get_or known k x (omega (arith, so_far.size, inside)) ∙ ap Some (sym read ∙ is) in
    let right = so_far.right k j number in
    let same : Some right.0 ≡ Some p = same_Some (Some right.0) (Some p) (sym right.1 ∙ slice_get-get_or images k None inside ∙ ap Some image) in
    right.2 ∙ same

-- ---- what the pairs are

abbrev pub rises : List ℕ → Type 0
rises starts = AllPairs (λ x y. x < y) starts

put_rises : (q : ℕ) (o : Option ℕ) (m : StateMap) → All (λ x. q < x.0) m → IsRising m → IsRising (cons_option (option_map (λ p. (q, p)) o) m)
put_rises q None m above rising = rising
put_rises q (Some p) m above rising = AllPairs-cons (λ x y. x.0 < y.0) (q, p) m above rising

put_above : (z q : ℕ) (o : Option ℕ) (m : StateMap) → z < q → All (λ x. z < x.0) m → All (λ x. z < x.0) (cons_option (option_map (λ p. (q, p)) o) m)
put_above z q None m before above = above
put_above z q (Some p) m before above = All-cons (λ x. z < x.0) (q, p) m before above

spread_above : (z : ℕ) (starts classes : List ℕ) (images : List (Option ℕ)) → All (λ x. z < x) starts → All (λ x. z < x.0) (spread_pairs starts classes images)
spread_above z [] classes images above = All-nil (λ x. z < x.0)
spread_above z (q ∷ starts) [] images above = All-nil (λ x. z < x.0)
spread_above z (q ∷ starts) (k ∷ classes) images above =
    put_above z q (get_or images k None) (spread_pairs starts classes images) (All-head (λ x. z < x) q starts above) (spread_above z starts classes images (All-tail (λ x. z < x) q starts above))

later_rise : (q : ℕ) (starts : List ℕ) → rises (q ∷ starts) → rises starts
later_rise q starts rise = λ i j d before within. rise (suc i) (suc j) d (omega arith) (omega arith)

above_first : (q : ℕ) (starts : List ℕ) → rises (q ∷ starts) → All (λ x. q < x) starts
above_first q starts rise = λ k d within. rise 0 (suc k) d (omega arith) (omega arith)

pub spread_rises : (starts classes : List ℕ) (images : List (Option ℕ)) → rises starts → IsRising (spread_pairs starts classes images)
spread_rises [] classes images rise = λ i j d before within. absurd (omega arith)
spread_rises (q ∷ starts) [] images rise = λ i j d before within. absurd (omega arith)
spread_rises (q ∷ starts) (k ∷ classes) images rise =
    put_rises q (get_or images k None) (spread_pairs starts classes images) (spread_above q starts classes images (above_first q starts rise)) (spread_rises starts classes images (later_rise q starts rise))

-- the pairs are what a function makes of the targets
pub spread-followed : (f : ℕ → Option ℕ) (starts classes targets : List ℕ) → All (λ k. k < length targets) classes → spread_pairs starts classes (map f targets) ≡ followed (λ q p. f p) (pairs_of starts classes targets)
spread-followed f [] classes targets numbers = refl
spread-followed f (q ∷ starts) [] targets numbers = refl
spread-followed f (q ∷ starts) (k ∷ classes) targets numbers =
    let image : get_or (map f targets) k None ≡ f (get_or targets k 0) = get_or-map f targets k 0 None (All-head (λ j. j < length targets) k classes numbers) in
    let rest = spread-followed f starts classes targets (All-tail (λ j. j < length targets) k classes numbers) in
    λ i. cons_option (option_map (λ p. (q, p)) (image i)) (rest i)

put_within : (n q : ℕ) (o : Option ℕ) (m : StateMap) → q < n → ((p : ℕ) → o ≡ Some p → p < n) → AreWithin n m → AreWithin n (cons_option (option_map (λ p. (q, p)) o) m)
put_within n q None m start end within = within
put_within n q (Some p) m start end within = All-cons (λ x. (x.0 < n) × (x.1 < n)) (q, p) m (start, end p refl) within

pub followed_within : (n : ℕ) (f : ℕ → ℕ → Option ℕ) (m : StateMap) → AreWithin n m → ((q p z : ℕ) → p < n → f q p ≡ Some z → z < n) → AreWithin n (followed f m)
followed_within n f [] within leads = within
followed_within n f (pair ∷ m) within leads =
    let first = All-head (λ x. (x.0 < n) × (x.1 < n)) pair m within in
    put_within n pair.0 (f pair.0 pair.1) (followed f m) first.0 (λ p is. leads pair.0 pair.1 p first.1 is) (followed_within n f m (All-tail (λ x. (x.0 < n) × (x.1 < n)) pair m within) leads)

put_once_all : (P : ℕ → Type 0) (ps : List ℕ) (p : ℕ) → All P ps → P p → All P (put_once ps p)
put_once_all P ps p all this = put_cases (λ l. All P l) ps p all (All-push P ps p all this)

all_targets : (n : ℕ) (seen : List ℕ) (m : StateMap) → All (λ p. p < n) seen → AreWithin n m → All (λ p. p < n) (fold put_once seen (map (λ x. x.1) m))
all_targets n seen [] all within = all
all_targets n seen (pair ∷ m) all within =
    all_targets n (put_once seen pair.1) m (put_once_all (λ p. p < n) seen pair.1 all (All-head (λ x. (x.0 < n) × (x.1 < n)) pair m within).1) (All-tail (λ x. (x.0 < n) × (x.1 < n)) pair m within)

pub targets_within : (n : ℕ) (m : StateMap) → AreWithin n m → All (λ p. p < n) (targets_of m)
targets_within n m within = all_targets n [] m (All-nil (λ p. p < n)) within
