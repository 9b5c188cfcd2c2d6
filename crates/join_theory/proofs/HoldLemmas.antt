-- What kids show once a floor's node has got the entries that it takes.
use Rattle.std.proofs.Common.{◌≡◌, ◌≢◌, ℕ, zero, suc, ◌+◌, ◌<◌, ◌⊎◌, inl, inr, List, [], ◌∷◌, ◌++◌, length, slice_get, Contains, Option, Some, refl, sym, ap, ◌∙◌, subst, append_assoc, arith}
use Rattle.std.proofs.lemmas.List.Elements.{Contains-append_left, Contains-append_right, Contains-append_cases}
use Rattle.grammar_theory.specs.Trees.{Tree}
use Rattle.node_data.specs.declared.kid.Kid.{Kid}
use Rattle.node_data.specs.declared.kid.Kid.TheVariants.{Hidden}
use Rattle.tree_theory.specs.Stores.{Ref, Store, Supply, Shows, shows_hidden, Keeps}
use Rattle.tree_theory.proofs.ShownLemmas.{refit_law}
use Rattle.grammar_data.specs.Grammar.{Rule}
use Rattle.machine_theory.specs.Machine.{Entry}
use Rattle.use_theory.specs.Counts.{count_in}
use Rattle.use_theory.specs.Fills.{SuppliesPart}
use Rattle.use_theory.proofs.CountLemmas.{same_self}
use Rattle.use_theory.proofs.SupplyLemmas.{supplied_law}
use Rattle.piece_theory.specs.Pieces.{Opened, Floor, Held, floor_nodes, kids_of}
use Rattle.piece_theory.specs.Applies.{Puts, put_all, puts, nowhere}
use Rattle.join_theory.specs.Floors.{Holds}
use Rattle.join_theory.proofs.PutLemmas.{KidsShow, moved, symbol_shown}
use Rattle.join_theory.proofs.FallLemmas.{nodes_some}

-- ---- lists

pub cons_cases : {X : Type 0} (xs : List X) (y z : X) → Contains {X = X} (y ∷ xs) z → (y ≡ z) ⊎ Contains {X = X} xs z
cons_cases xs y z (zero, inside, at) = inl at
cons_cases xs y z (suc k, inside, at) = inr (k, omega (arith, inside), at)

pub get_front : {X : Type 0} (xs ys : List X) (i : ℕ) → i < length xs → slice_get (xs ++ ys) i ≡ slice_get xs i
get_front [] ys i less = absurd (omega (arith, less))
get_front (x ∷ xs) ys zero less = refl
get_front (x ∷ xs) ys (suc i) less = get_front xs ys i (omega (arith, less))

pub get_behind : {X : Type 0} (xs ys : List X) (k i j : ℕ) → k ≡ i + j → i ≡ length xs → slice_get (xs ++ ys) k ≡ slice_get ys j
get_behind [] ys k i j e f = let same : k ≡ j = omega (arith, e, f) in ap (λ (x : ℕ). slice_get ys x) same
get_behind (x ∷ xs) ys zero i j e f = absurd (omega (arith, e, f))
get_behind (x ∷ xs) ys (suc k) zero j e f = absurd (omega (arith, e, f))
get_behind (x ∷ xs) ys (suc k) (suc i) j e f = get_behind xs ys k i j (omega (arith, e)) (omega (arith, f))

same_some : {X : Type 0} {x y : X} → ◌≡◌ {A = Option X} (Some x) (Some y) → x ≡ y
same_some e = cc

-- the kids of entries that are pushed aren't hidden
pub kids_shown : {rules : List Rule} {store : Store} {supply : Supply} {q : ℕ} {hs : List Held} {s last : List Entry} → Puts rules store supply q hs s last → (j : ℕ) (kid : Kid) → slice_get (kids_of hs) j ≡ Some kid → kid ≢ Hidden
kids_shown put_all zero kid at e = absurd (cc)
kids_shown put_all (suc j) kid at e = absurd (cc)
kids_shown (puts symbol shown to rest) zero kid at e = symbol_shown symbol (same_some at ∙ e)
kids_shown (puts symbol shown to rest) (suc j) kid at e = kids_shown rest j kid at e

-- ---- filled

-- what the node of the floor gets, and what is supplied before and after
pub record IsGiven (now new : Store) (given after : Supply) (f : Floor) (further : List Floor) (opened : Opened) (hs : List Held) (still : ℕ) (low upper : List Tree) : Type 0 where
  pub opens : f.opened ≡ Some opened
  pub elsewhere : count_in opened.node (floor_nodes further) ≡ 0
  pub part : SuppliesPart now new opened.node still (kids_of hs)
  pub shown : Contains {X = Kid} part.further Hidden → ⊥
  pub many : length low ≡ still
  pub show : KidsShow now given hs upper
  pub kids : (j : ℕ) (kid : Kid) → slice_get (kids_of hs) j ≡ Some kid → kid ≢ Hidden
  pub apart : (x : Ref) (trees : List Tree) → Contains {X = Ref × List Tree} given (x, trees) → 0 < count_in x (floor_nodes (f ∷ further)) → ⊥
  pub inside : (n : Ref) (trees : List Tree) → Contains {X = Ref × List Tree} given (n, trees) → Contains {X = Ref × List Tree} after (n, trees)
  pub stay : 0 < still → Contains {X = Ref × List Tree} after (opened.node, low)

pub counted_here : (f : Floor) (further : List Floor) (opened : Opened) → f.opened ≡ Some opened → 0 < count_in opened.node (floor_nodes (f ∷ further))
counted_here f further opened opens = let all = ap (count_in opened.node) (nodes_some f further opened opens) in let one = same_self opened.node in omega (arith, all, one)

pub counted_later : (x : Ref) (f : Floor) (further : List Floor) (opened : Opened) → f.opened ≡ Some opened → 0 < count_in x (floor_nodes further) → 0 < count_in x (floor_nodes (f ∷ further))
counted_later x f further opened opens some = let all = ap (count_in x) (nodes_some f further opened opens) in omega (arith, all, some)

module _ {now new : Store} {given after : Supply} {f : Floor} {further : List Floor} {opened : Opened} {hs : List Held} {still : ℕ} {low upper : List Tree} (by : IsGiven now new given after f further opened hs still low upper) where
  not_given : (trees : List Tree) → Contains {X = Ref × List Tree} given (opened.node, trees) → ⊥
  not_given trees has = by.apart opened.node trees has (counted_here f further opened by.opens)

  -- what was supplied to the left piece's nodes shows the same
  pub keeps_given : (more : Supply) → ((n : Ref) (trees : List Tree) → Contains {X = Ref × List Tree} given (n, trees) → Contains {X = Ref × List Tree} more (n, trees)) → Keeps now given new more
  keeps_given more inside = supplied_law now new given more opened.node still (kids_of hs) by.part by.shown (record {
    others = λ n trees not has. inside n trees has;
    stay = λ i trees tree less has at. absurd (not_given trees has);
    shown = λ j kid trees tree at has there. absurd (not_given trees has);
  })

  only_all : (more : Supply) → ((x : Ref) (trees : List Tree) → Contains {X = Ref × List Tree} more (x, trees) → 0 < count_in x (floor_nodes further)) → (trees : List Tree) → Contains {X = Ref × List Tree} (given ++ (opened.node, low ++ upper) ∷ more) (opened.node, trees) → trees ≡ low ++ upper
  only_all more later trees has = first (Contains-append_cases {X = Ref × List Tree} given ((opened.node, low ++ upper) ∷ more) (opened.node, trees) has)
    where
      second : (◌≡◌ {A = Ref × List Tree} (opened.node, low ++ upper) (opened.node, trees)) ⊎ Contains {X = Ref × List Tree} more (opened.node, trees) → trees ≡ low ++ upper
      second (inl e) = sym (ap (λ (p : Ref × List Tree). p.1) e)
      second (inr there) = let some = later opened.node trees there in let none = by.elsewhere in absurd (omega (arith, some, none))

      first : Contains {X = Ref × List Tree} given (opened.node, trees) ⊎ Contains {X = Ref × List Tree} ((opened.node, low ++ upper) ∷ more) (opened.node, trees) → trees ≡ low ++ upper
      first (inl there) = absurd (not_given trees there)
      first (inr there) = second (cons_cases {X = Ref × List Tree} more (opened.node, low ++ upper) (opened.node, trees) there)

  other_supplied : (more : Supply) (n : Ref) (trees : List Tree) → n ≢ opened.node → Contains {X = Ref × List Tree} (given ++ (opened.node, low ++ upper) ∷ more) (n, trees) → Contains {X = Ref × List Tree} (after ++ more) (n, trees)
  other_supplied more n trees not has = first (Contains-append_cases {X = Ref × List Tree} given ((opened.node, low ++ upper) ∷ more) (n, trees) has)
    where
      second : (◌≡◌ {A = Ref × List Tree} (opened.node, low ++ upper) (n, trees)) ⊎ Contains {X = Ref × List Tree} more (n, trees) → Contains {X = Ref × List Tree} (after ++ more) (n, trees)
      second (inl e) = absurd (not (sym (ap (λ (p : Ref × List Tree). p.0) e)))
      second (inr there) = Contains-append_right {X = Ref × List Tree} after more (n, trees) there

      first : Contains {X = Ref × List Tree} given (n, trees) ⊎ Contains {X = Ref × List Tree} ((opened.node, low ++ upper) ∷ more) (n, trees) → Contains {X = Ref × List Tree} (after ++ more) (n, trees)
      first (inl there) = Contains-append_left {X = Ref × List Tree} after more (n, trees) (by.inside n trees there)
      first (inr there) = second (cons_cases {X = Ref × List Tree} more (opened.node, low ++ upper) (n, trees) there)

  keeps_filled : (more : Supply) → ((x : Ref) (trees : List Tree) → Contains {X = Ref × List Tree} more (x, trees) → 0 < count_in x (floor_nodes further)) → Keeps now (given ++ (opened.node, low ++ upper) ∷ more) new (after ++ more)
  keeps_filled more later = supplied_law now new (given ++ (opened.node, low ++ upper) ∷ more) (after ++ more) opened.node still (kids_of hs) by.part by.shown (record {
    others = λ n trees not has. other_supplied more n trees not has;
    stay = λ i trees tree less has at. stay i trees tree less has at;
    shown = λ j kid trees tree at has there. shown j kid trees tree at has there;
  })
    where
      stay : (i : ℕ) (trees : List Tree) (tree : Tree) → i < still → Contains {X = Ref × List Tree} (given ++ (opened.node, low ++ upper) ∷ more) (opened.node, trees) → slice_get trees i ≡ Some tree → Shows new (after ++ more) opened.node i Hidden tree
      stay i trees tree less has at =
          let same = only_all more later trees has in
          let many = by.many in
          let there : slice_get low i ≡ Some tree = sym (get_front low upper i (omega (arith, less, many))) ∙ ap (λ l. slice_get l i) (sym same) ∙ at in
          shows_hidden low (Contains-append_left {X = Ref × List Tree} after more (opened.node, low) (by.stay (omega (arith, less)))) there

      shown : (j : ℕ) (kid : Kid) (trees : List Tree) (tree : Tree) → slice_get (kids_of hs) j ≡ Some kid → Contains {X = Ref × List Tree} (given ++ (opened.node, low ++ upper) ∷ more) (opened.node, trees) → slice_get trees (still + j) ≡ Some tree → Shows new (after ++ more) opened.node (still + j) kid tree
      shown j kid trees tree at has there =
          let same = only_all more later trees has in
          let found : slice_get upper j ≡ Some tree = sym (get_behind low upper (still + j) still j refl (sym by.many)) ∙ ap (λ l. slice_get l (still + j)) (sym same) ∙ there in
          let visible = by.kids j kid at in
          let keeps = keeps_given (after ++ more) (λ n others inside. Contains-append_left {X = Ref × List Tree} after more (n, others) (by.inside n others inside)) in
          moved (refit_law now new given (after ++ more) keeps nowhere 0 kid tree visible (by.show j kid tree at found)) visible

  pub holds_filled : (store : Store) (supply : Supply) → Holds (f ∷ further) store supply now given → Holds further store (supply ++ (opened.node, low ++ upper) ∷ []) new after
  holds_filled store supply holds more later n i kid tree visible was =
      let before : Shows store (supply ++ (opened.node, low ++ upper) ∷ more) n i kid tree = subst (λ l. Shows store l n i kid tree) (append_assoc supply ((opened.node, low ++ upper) ∷ []) more) was in
      refit_law now new (given ++ (opened.node, low ++ upper) ∷ more) (after ++ more) (keeps_filled more later) n i kid tree visible (holds ((opened.node, low ++ upper) ∷ more) here n i kid tree visible before)
    where
      here : (x : Ref) (trees : List Tree) → Contains {X = Ref × List Tree} ((opened.node, low ++ upper) ∷ more) (x, trees) → 0 < count_in x (floor_nodes (f ∷ further))
      here x trees has = elim (cons_cases {X = Ref × List Tree} more (opened.node, low ++ upper) (x, trees) has) as (λ _. 0 < count_in x (floor_nodes (f ∷ further))) [
        | inl e ↦ subst (λ y. 0 < count_in y (floor_nodes (f ∷ further))) (ap (λ (p : Ref × List Tree). p.0) e) (counted_here f further opened by.opens)
        | inr there ↦ counted_later x f further opened by.opens (later x trees there)
      ]
