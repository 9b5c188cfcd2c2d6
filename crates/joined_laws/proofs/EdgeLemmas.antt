-- Nodes at the left edge of walks that are put one into the other, and walks of kids in parts.
use Rattle.std.proofs.Common.{◌≡◌, ◌≢◌, ℕ, suc, ◌+◌, ◌<◌, ◌≤◌, List, [], ◌∷◌, ◌++◌, length, Contains, refl, sym, ap, ◌∙◌, subst, append_assoc, arith}
use Rattle.grammar_theory.proofs.Lists.{Splits, in_first, in_second, splits}
use Rattle.node_data.specs.declared.kid.Kid.{Kid}
use Rattle.node_data.specs.declared.kid.Kid.TheVariants.{Hidden}
use Rattle.tree_theory.specs.Stores.{Ref, Store}
use Rattle.tree_theory.specs.Walks.{Step, Enter, Walks, walks_token, walks_hidden, walks_node, WalksAll, walks_none, walks_more, tokens_in}
use Rattle.use_theory.specs.Counts.{count_in, times}
use Rattle.use_theory.specs.Spines.{IsSpine, spine_end, spine_node}
use Rattle.use_theory.proofs.CountLemmas.{same_self, times-append}
use Rattle.use_theory.proofs.SpineLemmas.{no_tokens_front, no_tokens_back, no_tokens_in}

-- none of the nodes is entered
abbrev pub NoneEntered : List Ref → List Step → Type 0
NoneEntered ms steps = (x : Ref) → 0 < count_in x ms → times x steps ≡ 0

enter_times : (m : Ref) (before after : List Step) → times m (before ++ Enter m ∷ after) ≡ times m before + (1 + times m after)
enter_times m before after = let sum = times-append m before (Enter m ∷ after) in let one = same_self m in omega (arith, sum, one)

fewer_entered : (m : Ref) (ms : List Ref) (t : List Step) → NoneEntered (m ∷ ms) t → NoneEntered ms t
fewer_entered m ms t none x some = none x (omega (arith, some))

-- ---- steps that are moved

swap_first : {ms : List Ref} {m : Ref} (before a z t1 b mid : List Step) → tokens_in before ≡ [] → a ≡ before ++ Enter m ∷ mid → IsSpine ms (mid ++ (t1 ++ (z ++ b))) → IsSpine (m ∷ ms) (a ++ (t1 ++ (z ++ b)))
swap_first {m = m} before a z t1 b mid empty is deeper = spine_node before (mid ++ (t1 ++ (z ++ b))) (ap (λ l. l ++ (t1 ++ (z ++ b))) is ∙ shifted before (Enter m) mid (t1 ++ (z ++ b))) empty deeper
  where
    shifted : (a : List Step) (x : Step) (b c : List Step) → (a ++ x ∷ b) ++ c ≡ a ++ x ∷ (b ++ c)
    shifted a x b c = simp append_assoc

swap_second : {ms : List Ref} {m : Ref} (before a z t1 b mid mid2 : List Step) → tokens_in t1 ≡ [] → tokens_in before ≡ [] → before ≡ a ++ mid → z ≡ mid ++ Enter m ∷ mid2 → IsSpine ms (mid2 ++ b) → IsSpine (m ∷ ms) (a ++ (t1 ++ (z ++ b)))
swap_second {m = m} before a z t1 b mid mid2 none empty is is2 deeper =
    let none_before : tokens_in (a ++ mid) ≡ [] = ap tokens_in (sym is) ∙ empty in
    spine_node (a ++ (t1 ++ mid)) (mid2 ++ b) (ap (λ l. a ++ (t1 ++ (l ++ b))) is2 ∙ shifted a t1 mid (Enter m) mid2 b) (no_tokens_in a (t1 ++ mid) (no_tokens_front a mid none_before) (no_tokens_in t1 mid none (no_tokens_back a mid none_before))) deeper
  where
    shifted : (a b c : List Step) (x : Step) (d e : List Step) → a ++ (b ++ ((c ++ x ∷ d) ++ e)) ≡ (a ++ (b ++ c)) ++ x ∷ (d ++ e)
    shifted a b c x d e = simp append_assoc

swap_third : {ms : List Ref} {m : Ref} (before a z t t1 b mid mid2 mid3 after : List Step) → tokens_in t1 ≡ [] → tokens_in before ≡ [] → before ≡ a ++ mid → mid ≡ z ++ mid2 → mid2 ≡ t ++ mid3 → b ≡ mid3 ++ Enter m ∷ after → IsSpine ms after → IsSpine (m ∷ ms) (a ++ (t1 ++ (z ++ b)))
swap_third {m = m} before a z t t1 b mid mid2 mid3 after none empty is is2 is3 is4 deeper =
    let first : tokens_in (a ++ mid) ≡ [] = ap tokens_in (sym is) ∙ empty in
    let second : tokens_in (z ++ mid2) ≡ [] = ap tokens_in (sym is2) ∙ no_tokens_back a mid first in
    let third : tokens_in (t ++ mid3) ≡ [] = ap tokens_in (sym is3) ∙ no_tokens_back z mid2 second in
    spine_node (a ++ (t1 ++ (z ++ mid3))) after (ap (λ l. a ++ (t1 ++ (z ++ l))) is4 ∙ shifted a t1 z mid3 (Enter m) after)
    (no_tokens_in a (t1 ++ (z ++ mid3)) (no_tokens_front a mid first) (no_tokens_in t1 (z ++ mid3) none (no_tokens_in z mid3 (no_tokens_front z mid2 second) (no_tokens_back t mid3 third)))) deeper
  where
    shifted : (a b c d : List Step) (x : Step) (e : List Step) → a ++ (b ++ (c ++ (d ++ x ∷ e))) ≡ (a ++ (b ++ (c ++ d))) ++ x ∷ e
    shifted a b c d x e = simp append_assoc

swap_in_rest : {ms : List Ref} {m : Ref} (before a z t t1 b mid mid2 after : List Step) → tokens_in t1 ≡ [] → tokens_in before ≡ [] → times m t ≡ 0 → before ≡ a ++ mid → mid ≡ z ++ mid2 → IsSpine ms after → Splits t b mid2 (Enter m) after → IsSpine (m ∷ ms) (a ++ (t1 ++ (z ++ b)))
swap_in_rest {m = m} before a z t t1 b mid mid2 after none empty not is is2 deeper (in_first mid3 has at) =
    let sum = ap (times m) has ∙ enter_times m mid2 mid3 in absurd (omega (arith, not, sum))
swap_in_rest before a z t t1 b mid mid2 after none empty not is is2 deeper (in_second mid3 has at) = swap_third before a z t t1 b mid mid2 mid3 after none empty is is2 has at deeper

swap_behind : {ms : List Ref} {m : Ref} (before a z t t1 b mid after : List Step) → tokens_in t1 ≡ [] → tokens_in before ≡ [] → times m t ≡ 0 → before ≡ a ++ mid → IsSpine ms after → ((mid2 : List Step) → after ≡ mid2 ++ (t ++ b) → IsSpine ms (mid2 ++ b)) → Splits z (t ++ b) mid (Enter m) after → IsSpine (m ∷ ms) (a ++ (t1 ++ (z ++ b)))
swap_behind before a z t t1 b mid after none empty not is deeper later (in_first mid2 has at) = swap_second before a z t1 b mid mid2 none empty is has (later mid2 at)
swap_behind {m = m} before a z t t1 b mid after none empty not is deeper later (in_second mid2 has at) = swap_in_rest before a z t t1 b mid mid2 after none empty not is has deeper (splits t b mid2 (Enter m) after at)

swap_cases : {ms : List Ref} {m : Ref} (before a z t t1 b after : List Step) → tokens_in t1 ≡ [] → tokens_in before ≡ [] → times m t ≡ 0 → IsSpine ms after → ((mid : List Step) → after ≡ mid ++ (z ++ (t ++ b)) → IsSpine ms (mid ++ (t1 ++ (z ++ b)))) → ((mid2 : List Step) → after ≡ mid2 ++ (t ++ b) → IsSpine ms (mid2 ++ b)) → Splits a (z ++ (t ++ b)) before (Enter m) after → IsSpine (m ∷ ms) (a ++ (t1 ++ (z ++ b)))
swap_cases before a z t t1 b after none empty not deeper first later (in_first mid has at) = swap_first before a z t1 b mid empty has (first mid at)
swap_cases {m = m} before a z t t1 b after none empty not deeper first later (in_second mid has at) = swap_behind before a z t t1 b mid after none empty not has deeper later (splits z (t ++ b) mid (Enter m) after at)

-- steps with no token and none of the nodes go out from behind others, and steps with no token come in before them
pub spine_swap : {ms : List Ref} {steps : List Step} → IsSpine ms steps → (a z t t1 b : List Step) → tokens_in t1 ≡ [] → NoneEntered ms t → steps ≡ a ++ (z ++ (t ++ b)) → IsSpine ms (a ++ (t1 ++ (z ++ b)))
spine_swap spine_end a z t t1 b none not to = spine_end
spine_swap (spine_node {m = m} {ms = ms} before after at empty deeper) a z t t1 b none not to =
    swap_cases before a z t t1 b after none empty (not m (let one = same_self m in omega (arith, one))) deeper
    (λ mid is. spine_swap deeper mid z t t1 b none (fewer_entered m ms t not) is)
    (λ mid2 is. spine_swap deeper [] mid2 t [] b refl (fewer_entered m ms t not) is)
    (splits a (z ++ (t ++ b)) before (Enter m) after (sym to ∙ at))

-- ---- the nodes before the innermost one

pub spine_enters : (ms : List Ref) (m : Ref) {steps : List Step} → IsSpine (ms ++ m ∷ []) steps → 0 < times m steps
spine_enters [] m (spine_node before after to empty deeper) = let sum = ap (times m) to ∙ enter_times m before after in omega (arith, sum)
spine_enters (x ∷ ms) m (spine_node before after to empty deeper) =
    let some = spine_enters ms m deeper in
    let sum = ap (times m) to ∙ times-append m before (Enter x ∷ after) in
    let more = times-append m (Enter x ∷ []) after in
    omega (arith, some, sum, more)

pub record IsFront (ms : List Ref) (front : List Step) : Type 0 where
  pub none : tokens_in front ≡ []
  pub spine : IsSpine ms front

joined : (a : List Step) (x : Step) (b : List Step) → a ++ x ∷ b ≡ (a ++ x ∷ []) ++ b
joined a x b = simp append_assoc

front_here : (m : Ref) (before after front rest steps : List Step) → tokens_in before ≡ [] → steps ≡ before ++ Enter m ∷ after → times m steps ≤ 1 → Splits (before ++ Enter m ∷ []) after front (Enter m) rest → IsFront [] front
front_here m before after front rest steps empty to once (in_first mid has is) = record { none = no_tokens_front front (Enter m ∷ mid) (ap tokens_in (sym has) ∙ no_tokens_in before (Enter m ∷ []) empty refl); spine = spine_end }
front_here m before after front rest steps empty to once (in_second mid has is) =
    let sum = ap (times m) to ∙ enter_times m before after in
    let more = ap (times m) is ∙ enter_times m mid rest in
    absurd (omega (arith, once, sum, more))

front_outer : (ms : List Ref) (m x : Ref) (before after front rest steps : List Step) → tokens_in before ≡ [] → steps ≡ before ++ Enter x ∷ after → times m steps ≤ 1 → 0 < times m after → ((mid : List Step) → after ≡ mid ++ Enter m ∷ rest → IsFront ms mid) → Splits (before ++ Enter x ∷ []) after front (Enter m) rest → IsFront (x ∷ ms) front
front_outer ms m x before after front rest steps empty to once some later (in_first mid has is) =
    let sum = ap (times m) (to ∙ joined before (Enter x) after) ∙ times-append m (before ++ Enter x ∷ []) after in
    let more = ap (times m) has ∙ enter_times m front mid in
    absurd (omega (arith, once, sum, more, some))
front_outer ms m x before after front rest steps empty to once some later (in_second mid has is) =
    let inner = later mid is in
    record {
      none = ap tokens_in has ∙ no_tokens_in (before ++ Enter x ∷ []) mid (no_tokens_in before (Enter x ∷ []) empty refl) inner.none;
      spine = spine_node before mid (has ∙ sym (joined before (Enter x) mid)) empty inner.spine;
    }

pub spine_front : (ms : List Ref) (m : Ref) {steps : List Step} → IsSpine (ms ++ m ∷ []) steps → times m steps ≤ 1 → (front rest : List Step) → steps ≡ front ++ Enter m ∷ rest → IsFront ms front
spine_front [] m {steps} (spine_node before after to empty deeper) once front rest at = front_here m before after front rest steps empty to once (splits (before ++ Enter m ∷ []) after front (Enter m) rest (sym (joined before (Enter m) after) ∙ sym to ∙ at))
spine_front (x ∷ ms) m {steps} (spine_node before after to empty deeper) once front rest at =
    let sum = ap (times m) (to ∙ joined before (Enter x) after) ∙ times-append m (before ++ Enter x ∷ []) after in
    front_outer ms m x before after front rest steps empty to once (spine_enters ms m deeper)
    (λ mid is. spine_front ms m deeper (omega (arith, once, sum)) mid rest is)
    (splits (before ++ Enter x ∷ []) after front (Enter m) rest (sym (joined before (Enter x) after) ∙ sym to ∙ at))

-- ---- walks of kids

pub record AreWalkedApart (store : Store) (n : Ref) (i j : ℕ) (kids others : List Kid) (steps : List Step) : Type 0 where
  pub first : List Step
  pub second : List Step
  pub parts : steps ≡ first ++ second
  pub walk : WalksAll store n i kids first
  pub walk_behind : WalksAll store n j others second

pub walks_split : (store : Store) (n : Ref) (kids others all : List Kid) (i j : ℕ) (steps : List Step) → all ≡ kids ++ others → j ≡ i + length kids → WalksAll store n i all steps → AreWalkedApart store n i j kids others steps
walks_split store n [] others all i j steps e f walk =
    let same : i ≡ j = omega (arith, f) in
    let moved : WalksAll store n j all steps = subst (λ (x : ℕ). WalksAll store n x all steps) same walk in
    record { first = []; second = steps; parts = refl; walk = walks_none; walk_behind = subst (λ l. WalksAll store n j l steps) e moved }
walks_split store n (kid ∷ kids) others [] i j steps e f walks_none = absurd (cc)
walks_split store n (kid ∷ kids) others (k ∷ all) i j steps e f (walks_more {first = first} {rest = rest} one more to) =
    let same : k ≡ kid = cc in
    let inner = walks_split store n kids others all (suc i) j rest (cc) (omega (arith, f)) more in
    record {
      first = first ++ inner.first;
      second = inner.second;
      parts = to ∙ ap (λ l. first ++ l) inner.parts ∙ sym (append_assoc first inner.first inner.second);
      walk = walks_more (subst (λ l. Walks store n i l first) same one) inner.walk refl;
      walk_behind = inner.walk_behind;
    }

hidden_later : (kid : Kid) (kids : List Kid) → (Contains {X = Kid} (kid ∷ kids) Hidden → ⊥) → Contains {X = Kid} kids Hidden → ⊥
hidden_later kid kids without (k, inside, at) = without (suc k, omega (arith, inside), at)

pub walk_moved : {store : Store} {n : Ref} {i : ℕ} {kid : Kid} {steps : List Step} (m : Ref) (j : ℕ) → kid ≢ Hidden → Walks store n i kid steps → Walks store m j kid steps
walk_moved m j visible walks_token = walks_token
walk_moved m j visible walks_hidden = absurd (visible refl)
walk_moved m j visible (walks_node kids at all to) = walks_node kids at all to

-- where no kid is hidden, the walk is the same wherever the kids stand
pub walks_moved : {store : Store} {n : Ref} {i : ℕ} {kids : List Kid} {steps : List Step} → WalksAll store n i kids steps → (m : Ref) (j : ℕ) → (Contains {X = Kid} kids Hidden → ⊥) → WalksAll store m j kids steps
walks_moved walks_none m j without = walks_none
walks_moved (walks_more {kid = kid} {kids = kids} one more to) m j without = walks_more (walk_moved m j (λ e. without (0, omega arith, e)) one) (walks_moved more m (suc j) (hidden_later kid kids without)) to
