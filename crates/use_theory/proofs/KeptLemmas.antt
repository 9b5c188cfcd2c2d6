-- What stays in another store.
use Rattle.std.proofs.Common.{◌≡◌, ◌≢◌, ℕ, zero, suc, List, [], ◌∷◌, ◌++◌, length, replicate, Option, Some, None, sym, ap, ◌∙◌, subst, arith}
use Rattle.grammar_theory.specs.Trees.{Tree, Forest}
use Rattle.node_data.specs.declared.kid.Kid.{Kid}
use Rattle.node_data.specs.declared.kid.Kid.TheVariants.{Hidden}
use Rattle.tree_theory.specs.Stores.{Ref, Store, Supply, Shows, shows_token, shows_hidden, shows_node, ShowsAll, shows_none, shows_more}
use Rattle.tree_theory.specs.Walks.{Step, Enter, Leave, Walks, walks_token, walks_hidden, walks_node, WalksAll, walks_none, walks_more}
use Rattle.tree_theory.proofs.ShownLemmas.{some_pair}
use Rattle.use_theory.specs.Counts.{times}
use Rattle.use_theory.specs.Fills.{SuppliesPart}
use Rattle.use_theory.specs.Kept.{IsSame, AreFilled, no_kids, kid_stays, kid_filled, IsKept, SameWalkLaw, SameShownLaw, KeptThenLaw, KeptByLaw}
use Rattle.use_theory.proofs.CountLemmas.{same_self, times-append}
use Rattle.use_theory.proofs.DistinctLemmas.{one_or_other}

-- ---- the nodes of a walk are the same

pub same_first : {store new : Store} {steps : List Step} (first rest : List Step) → IsSame store new steps → steps ≡ first ++ rest → IsSame store new first
same_first first rest same to m some = same m (let sum = ap (times m) to ∙ times-append m first rest in omega (arith, sum, some))

pub same_rest : {store new : Store} {steps : List Step} (first rest : List Step) → IsSame store new steps → steps ≡ first ++ rest → IsSame store new rest
same_rest first rest same to m some = same m (let sum = ap (times m) to ∙ times-append m first rest in omega (arith, sum, some))

same_node : {store new : Store} {steps : List Step} (m : Ref) (inner : List Step) → IsSame store new steps → steps ≡ Enter m ∷ (inner ++ Leave m ∷ []) → new m ≡ store m
same_node m inner same to = same m (let one = same_self m in let sum = ap (times m) to in omega (arith, sum, one))

same_inner : {store new : Store} {steps : List Step} (m : Ref) (inner : List Step) → IsSame store new steps → steps ≡ Enter m ∷ (inner ++ Leave m ∷ []) → IsSame store new inner
same_inner m inner same to n some = same n (let sum = ap (times n) to in let parts = times-append n inner (Leave m ∷ []) in omega (arith, sum, parts, some))

mutual
  pub walks_on : {store new : Store} {n : Ref} {i : ℕ} {kid : Kid} {steps : List Step} → Walks store n i kid steps → IsSame store new steps → Walks new n i kid steps
  walks_on walks_token same = walks_token
  walks_on walks_hidden same = walks_hidden
  walks_on {store} {new} (walks_node {m = m} {inner = inner} kids at all to) same = walks_node kids (same_node {store = store} {new = new} m inner same to ∙ at) (walks_all_on all (same_inner {store = store} {new = new} m inner same to)) to

  pub walks_all_on : {store new : Store} {n : Ref} {i : ℕ} {kids : List Kid} {steps : List Step} → WalksAll store n i kids steps → IsSame store new steps → WalksAll new n i kids steps
  walks_all_on walks_none same = walks_none
  walks_all_on {store} {new} (walks_more {first = first} {rest = rest} one all to) same = walks_more (walks_on one (same_first {store = store} {new = new} first rest same to)) (walks_all_on all (same_rest {store = store} {new = new} first rest same to)) to

pub same_walk_law : SameWalkLaw
same_walk_law store new n i kids steps same walks = walks_all_on walks same

mutual
  pub shows_on : {store new : Store} {supply : Supply} {n : Ref} {i : ℕ} {kid : Kid} {steps : List Step} → Walks store n i kid steps → IsSame store new steps → {tree : Tree} → Shows store supply n i kid tree → Shows new supply n i kid tree
  shows_on walks_token same shows_token = shows_token
  shows_on walks_hidden same (shows_hidden trees has at) = shows_hidden trees has at
  shows_on {store} {new} {supply} (walks_node {m = m} {r = r} {inner = inner} kids at all to) same (shows_node {r = q} {trees = trees} kids1 there shown) =
      let parts = some_pair (sym at ∙ there) in
      let here : new m ≡ Some (q, kids) = same_node {store = store} {new = new} m inner same to ∙ at ∙ ap (λ (x : ℕ). Some (x, kids)) parts.0 in
      shows_node kids here (shows_all_on all (same_inner {store = store} {new = new} m inner same to) (subst (λ l. ShowsAll store supply m 0 l trees) (sym parts.1) shown))

  pub shows_all_on : {store new : Store} {supply : Supply} {n : Ref} {i : ℕ} {kids : List Kid} {steps : List Step} → WalksAll store n i kids steps → IsSame store new steps → {trees : Forest} → ShowsAll store supply n i kids trees → ShowsAll new supply n i kids trees
  shows_all_on walks_none same shows_none = shows_none
  shows_all_on {store} {new} (walks_more {first = first} {rest = rest} one all to) same (shows_more shown more) = shows_more (shows_on one (same_first {store = store} {new = new} first rest same to) shown) (shows_all_on all (same_rest {store = store} {new = new} first rest same to) more)

pub same_shown_law : SameShownLaw
same_shown_law store new supply n i kid tree steps same walks shown = shows_on walks same shown

-- ---- nodes are kept

pub filled_none : (kids : List Kid) → AreFilled kids kids
filled_none [] = no_kids
filled_none (kid ∷ kids) = kid_stays (filled_none kids)

pub filled_then : {kids mid others : List Kid} → AreFilled kids mid → AreFilled mid others → AreFilled kids others
filled_then no_kids no_kids = no_kids
filled_then (kid_stays first) (kid_stays second) = kid_stays (filled_then first second)
filled_then (kid_stays first) (kid_filled second) = kid_filled (filled_then first second)
filled_then (kid_filled first) (kid_stays second) = kid_filled (filled_then first second)
filled_then (kid_filled first) (kid_filled second) = kid_filled (filled_then first second)

pub kept_none : (store : Store) → IsKept store store
kept_none store m r kids at = (kids, at, filled_none kids)

pub kept_then : (store mid new : Store) → IsKept store mid → IsKept mid new → IsKept store new
kept_then store mid new first second m r kids at =
    let one = first m r kids at in
    let two = second m r one.0 one.1 in
    (two.0, two.1, filled_then one.2 two.2)

pub kept_then_law : KeptThenLaw
kept_then_law store mid new = (kept_none store, kept_then store mid new)

some_not_none : {X : Type 0} {x : X} → ◌≡◌ {A = Option X} (Some x) None → ⊥
some_not_none e = cc

pub kept_same : (store new : Store) → ((m : Ref) → store m ≢ None → new m ≡ store m) → IsKept store new
kept_same store new same m r kids at = (kids, same m (λ none. some_not_none (sym at ∙ none)) ∙ at, filled_none kids)

filled_more : (kids further : List Kid) → AreFilled (replicate (length kids) Hidden ++ further) (kids ++ further)
filled_more [] further = filled_none further
filled_more (kid ∷ kids) further = kid_filled (filled_more kids further)

filled_behind : (still : ℕ) {kids others : List Kid} → AreFilled kids others → AreFilled (replicate still Hidden ++ kids) (replicate still Hidden ++ others)
filled_behind zero by = by
filled_behind (suc still) by = kid_stays (filled_behind still by)

pub kept_filled : (store new : Store) (m : Ref) (still : ℕ) (kids : List Kid) → SuppliesPart store new m still kids → IsKept store new
kept_filled store new m still kids part = one_or_other (λ n. (r : ℕ) (l : List Kid) → store n ≡ Some (r, l) → (others : List Kid) × (new n ≡ Some (r, others)) × AreFilled l others) m
    (λ r l at.
    let parts = some_pair (sym part.before ∙ at) in
    let now : new m ≡ Some (r, replicate still Hidden ++ (kids ++ part.further)) = part.after ∙ ap (λ (x : ℕ). Some (x, replicate still Hidden ++ (kids ++ part.further))) parts.0 in
    let kept : AreFilled l (replicate still Hidden ++ (kids ++ part.further)) = subst (λ x. AreFilled x (replicate still Hidden ++ (kids ++ part.further))) parts.1 (filled_behind still (filled_more kids part.further)) in
    (replicate still Hidden ++ (kids ++ part.further), now, kept))
    (λ n not r l at. (l, part.others n not ∙ at, filled_none l))

pub kept_by_law : KeptByLaw
kept_by_law store new = (kept_same store new, kept_filled store new)
