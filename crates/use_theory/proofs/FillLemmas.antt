-- Hidden kids that are filled: the walk then, its tokens, and what the nodes show.
use Rattle.std.proofs.Common.{◌≡◌, ◌≢◌, ℕ, zero, suc, ◌+◌, ◌⊎◌, inl, inr, List, [], ◌∷◌, ◌++◌, length, replicate, Some, refl, sym, ap, ◌∙◌, subst, append-nil, append_assoc, arith}
use Rattle.node_data.specs.declared.kid.Kid.{Kid}
use Rattle.node_data.specs.declared.kid.Kid.TheVariants.{Node as NodeKid, Hidden}
use Rattle.tree_theory.specs.Stores.{Ref, Store}
use Rattle.tree_theory.specs.Walks.{Step, Enter, AtToken, AtHidden, Leave, Walks, walks_token, walks_hidden, walks_node, WalksAll, walks_none, walks_more, tokens_in}
use Rattle.tree_theory.proofs.ShownLemmas.{some_pair}
use Rattle.use_theory.specs.Counts.{times}
use Rattle.use_theory.specs.Fills.{holes, SuppliesPart, Filled, FillWalkLaw, FilledStepsLaw}
use Rattle.use_theory.specs.Kept.{IsSame}
use Rattle.use_theory.proofs.CountLemmas.{same_cases, same_self, times-append}
use Rattle.use_theory.proofs.DistinctLemmas.{filled_times}
use Rattle.use_theory.proofs.KeptLemmas.{walks_on, walks_all_on}

-- ---- tokens

pub tokens-append : (xs ys : List Step) → tokens_in (xs ++ ys) ≡ tokens_in xs ++ tokens_in ys
tokens-append [] ys = refl
tokens-append (Enter m ∷ xs) ys = tokens-append xs ys
tokens-append (AtToken token ∷ xs) ys = ap (λ l. token ∷ l) (tokens-append xs ys)
tokens-append (AtHidden n i ∷ xs) ys = tokens-append xs ys
tokens-append (Leave m ∷ xs) ys = tokens-append xs ys

pub holes_tokens : (m : Ref) (from hidden : ℕ) (steps : List Step) → tokens_in (holes m from hidden ++ steps) ≡ tokens_in steps
holes_tokens m from zero steps = refl
holes_tokens m from (suc hidden) steps = holes_tokens m (suc from) hidden steps

pub filled_tokens : {m : Ref} {still filled : ℕ} {inner steps steps1 : List Step} (by : Filled m still filled inner steps steps1) → tokens_in by.front ≡ [] → tokens_in steps1 ≡ tokens_in inner ++ tokens_in steps
filled_tokens {m} {still} {filled} {inner} {steps} {steps1} by none =
    let was : tokens_in steps ≡ tokens_in by.back = ap tokens_in by.before ∙ tokens-append by.front (Enter m ∷ (holes m 0 still ++ (holes m still filled ++ by.back))) ∙ ap (λ l. l ++ tokens_in (holes m 0 still ++ (holes m still filled ++ by.back))) none ∙ holes_tokens m 0 still (holes m still filled ++ by.back) ∙ holes_tokens m still filled by.back in
    ap tokens_in by.after ∙ tokens-append by.front (Enter m ∷ (holes m 0 still ++ (inner ++ by.back))) ∙ ap (λ l. l ++ tokens_in (holes m 0 still ++ (inner ++ by.back))) none ∙ holes_tokens m 0 still (inner ++ by.back) ∙ tokens-append inner by.back ∙ ap (λ l. tokens_in inner ++ l) (sym was)

pub filled_steps_law : FilledStepsLaw
filled_steps_law m still filled inner steps steps1 by = (filled_times by, filled_tokens by)

-- ---- the walk over hidden kids and others

-- the walk over kids the first of which are hidden
pub record IsCut (store : Store) (m : Ref) (i hidden j : ℕ) (kids : List Kid) (steps : List Step) : Type 0 where
  pub rest : List Step
  pub to : steps ≡ holes m i hidden ++ rest
  pub walks : WalksAll store m j kids rest

hidden_step : {store : Store} {m : Ref} {i : ℕ} {kid : Kid} {steps : List Step} → Walks store m i kid steps → kid ≡ Hidden → steps ≡ AtHidden m i ∷ []
hidden_step walks_token e = absurd (cc)
hidden_step walks_hidden e = refl
hidden_step (walks_node kids at all to) e = absurd (cc)

pub cut_holes : (store : Store) (m : Ref) (hidden i j : ℕ) (kids steps_kids : List Kid) (steps : List Step) → j ≡ i + hidden → steps_kids ≡ replicate hidden Hidden ++ kids → WalksAll store m i steps_kids steps → IsCut store m i hidden j kids steps
cut_holes store m zero i j kids l steps e f walks =
    let same : i ≡ j = omega (arith, e) in
    let moved : WalksAll store m j l steps = subst (λ (x : ℕ). WalksAll store m x l steps) same walks in
    record { rest = steps; to = refl; walks = subst (λ x. WalksAll store m j x steps) f moved }
cut_holes store m (suc hidden) i j kids [] steps e f walks_none = absurd (cc)
cut_holes store m (suc hidden) i j kids (kid ∷ l) steps e f (walks_more {first = first} {rest = rest} one all to) =
    let first_is : kid ≡ Hidden = cc in
    let rest_is : l ≡ replicate hidden Hidden ++ kids = cc in
    let step = hidden_step one first_is in
    let cut = cut_holes store m hidden (suc i) j kids l rest (omega (arith, e)) rest_is all in
    record { rest = cut.rest; to = to ∙ ap (λ x. x ++ rest) step ∙ ap (λ x. AtHidden m i ∷ x) cut.to; walks = cut.walks }

pub walk_holes : (store : Store) (m : Ref) (hidden i j : ℕ) (kids : List Kid) (steps : List Step) → j ≡ i + hidden → WalksAll store m j kids steps → WalksAll store m i (replicate hidden Hidden ++ kids) (holes m i hidden ++ steps)
walk_holes store m zero i j kids steps e walks = let same : j ≡ i = omega (arith, e) in subst (λ (x : ℕ). WalksAll store m x kids steps) same walks
walk_holes store m (suc hidden) i j kids steps e walks = walks_more walks_hidden (walk_holes store m hidden (suc i) j kids steps (omega (arith, e)) walks) refl

pub walk_then : {store : Store} {n : Ref} {i : ℕ} {kids : List Kid} {xs : List Step} → WalksAll store n i kids xs → (j : ℕ) (others : List Kid) (ys : List Step) → j ≡ i + length kids → WalksAll store n j others ys → WalksAll store n i (kids ++ others) (xs ++ ys)
walk_then {store} {n} {i} walks_none j others ys e more = let same : j ≡ i = omega (arith, e) in subst (λ (x : ℕ). WalksAll store n x others ys) same more
walk_then (walks_more {first = first} {rest = rest} one all to) j others ys e more =
    walks_more one (walk_then all j others ys (omega (arith, e)) more) (ap (λ l. l ++ ys) to ∙ append_assoc first rest ys)

-- ---- the walk once the kids are filled

pub record IsKidFilled (new : Store) (m : Ref) (still filled : ℕ) (inner : List Step) (n : Ref) (i : ℕ) (kid : Kid) (steps : List Step) : Type 0 where
  pub now : List Step
  pub fills : Filled m still filled inner steps now
  pub walks : Walks new n i kid now

pub record AreKidsFilled (new : Store) (m : Ref) (still filled : ℕ) (inner : List Step) (n : Ref) (i : ℕ) (kids : List Kid) (steps : List Step) : Type 0 where
  pub now : List Step
  pub fills : Filled m still filled inner steps now
  pub walks : WalksAll new n i kids now

-- a walk that doesn't enter the node is as before
pub same_elsewhere : {store new : Store} {m : Ref} (steps : List Step) → ((n : Ref) → n ≢ m → new n ≡ store n) → times m steps ≡ 0 → IsSame store new steps
same_elsewhere {m = m} steps others none n some = others n (λ e. let here = ap (λ x. times x steps) e in let is : ⊥ = omega (arith, none, some, here) in is)

front_filled : {m : Ref} {still filled : ℕ} {inner steps steps1 : List Step} (front back all all1 : List Step) → Filled m still filled inner steps steps1 → all ≡ front ++ (steps ++ back) → all1 ≡ front ++ (steps1 ++ back) → Filled m still filled inner all all1
front_filled {m} {still} {filled} {inner} front back all all1 by to to1 =
    let hidden = holes m 0 still in
    let others = holes m still filled in
    record {
      front = front ++ by.front;
      back = by.back ++ back;
      before = to ∙ ap (λ l. front ++ (l ++ back)) by.before ∙ shifted front by.front (Enter m) hidden others by.back back;
      after = to1 ∙ ap (λ l. front ++ (l ++ back)) by.after ∙ shifted front by.front (Enter m) hidden inner by.back back;
    }
  where
    shifted : (a b : List Step) (x : Step) (c d e f : List Step) → a ++ ((b ++ x ∷ (c ++ (d ++ e))) ++ f) ≡ (a ++ b) ++ x ∷ (c ++ (d ++ (e ++ f)))
    shifted a b x c d e f = simp append_assoc

-- at the node itself
filled_node : (store new : Store) (m : Ref) (still : ℕ) (kids l : List Kid) (r : ℕ) (inner inside : List Step) (n : Ref) (i : ℕ) (steps : List Step) → SuppliesPart store new m still kids → WalksAll new m still kids inner → store m ≡ Some (r, l) → WalksAll store m 0 l inside → steps ≡ Enter m ∷ (inside ++ Leave m ∷ []) → times m steps ≡ 1 → IsKidFilled new m still (length kids) inner n i (NodeKid m) steps
filled_node store new m still kids l r inner inside n i steps part walks at all to once =
    let same = some_pair (sym part.before ∙ at) in
    let first = cut_holes store m still 0 still (replicate (length kids) Hidden ++ part.further) l inside (omega arith) (sym same.1) all in
    let second = cut_holes store m (length kids) still (still + length kids) part.further (replicate (length kids) Hidden ++ part.further) first.rest refl refl first.walks in
    let back = second.rest in
    let inside_is : inside ≡ holes m 0 still ++ (holes m still (length kids) ++ back) = first.to ∙ ap (λ x. holes m 0 still ++ x) second.to in
    let none : times m back ≡ 0 = none_behind back inside_is in
    let further = walks_all_on second.walks (same_elsewhere {store = store} {new = new} back part.others none) in
    let together = walk_holes new m still 0 still (kids ++ part.further) (inner ++ back) (omega arith) (walk_then walks (still + length kids) part.further back refl further) in
    record {
      now = Enter m ∷ ((holes m 0 still ++ (inner ++ back)) ++ Leave m ∷ []);
      fills = record {
        front = [];
        back = back ++ Leave m ∷ [];
        before = to ∙ ap (λ x. Enter m ∷ (x ++ Leave m ∷ [])) inside_is ∙ ap (λ x. Enter m ∷ x) (shifted (holes m 0 still) (holes m still (length kids)) back (Leave m ∷ []));
        after = ap (λ x. Enter m ∷ x) (shifted (holes m 0 still) inner back (Leave m ∷ []));
      };
      walks = walks_node (replicate still Hidden ++ (kids ++ part.further)) part.after together refl;
    }
  where
    shifted : (a b c d : List Step) → (a ++ (b ++ c)) ++ d ≡ a ++ (b ++ (c ++ d))
    shifted a b c d = simp append_assoc

    none_behind : (back : List Step) → inside ≡ holes m 0 still ++ (holes m still (length kids) ++ back) → times m back ≡ 0
    none_behind back is =
        let sum = ap (times m) to in
        let parts = times-append m inside (Leave m ∷ []) in
        let in_parts = ap (times m) is ∙ times-append m (holes m 0 still) (holes m still (length kids) ++ back) in
        let more = times-append m (holes m still (length kids)) back in
        let self = same_self m in
        omega (arith, once, sum, parts, in_parts, more, self)

-- one of two numbers is 1 and the other 0
one_of : (a b : ℕ) → a + b ≡ 1 → ((a ≡ 1) × (b ≡ 0)) ⊎ ((a ≡ 0) × (b ≡ 1))
one_of zero b e = inr (refl, omega (arith, e))
one_of (suc a) b e = inl (omega (arith, e), omega (arith, e))

kid_at : {new : Store} {m : Ref} {still filled : ℕ} {inner : List Step} {n x : Ref} {i : ℕ} {steps : List Step} → m ≡ x → IsKidFilled new m still filled inner n i (NodeKid m) steps → IsKidFilled new m still filled inner n i (NodeKid x) steps
kid_at {new} {m} {still} {filled} {inner} {n} {x} {i} {steps} e by = record { now = by.now; fills = by.fills; walks = subst (λ y. Walks new n i (NodeKid y) by.now) e by.walks }

inside_node : {new : Store} {m : Ref} {still filled : ℕ} {inner inside : List Step} {n x : Ref} {i : ℕ} {steps : List Step} (r : ℕ) (l : List Kid) → new x ≡ Some (r, l) → steps ≡ Enter x ∷ (inside ++ Leave x ∷ []) → AreKidsFilled new m still filled inner x 0 l inside → IsKidFilled new m still filled inner n i (NodeKid x) steps
inside_node {x = x} {steps = steps} r l at to by = record {
  now = Enter x ∷ (by.now ++ Leave x ∷ []);
  fills = front_filled (Enter x ∷ []) (Leave x ∷ []) steps (Enter x ∷ (by.now ++ Leave x ∷ [])) by.fills to refl;
  walks = walks_node l at by.walks refl;
}

first_kid : {new : Store} {m : Ref} {still filled : ℕ} {inner first rest : List Step} {n : Ref} {i : ℕ} {kid : Kid} {kids : List Kid} {steps : List Step} → steps ≡ first ++ rest → WalksAll new n (suc i) kids rest → IsKidFilled new m still filled inner n i kid first → AreKidsFilled new m still filled inner n i (kid ∷ kids) steps
first_kid {rest = rest} {steps = steps} to more by = record {
  now = by.now ++ rest;
  fills = front_filled [] rest steps (by.now ++ rest) by.fills to refl;
  walks = walks_more by.walks more refl;
}

other_kids : {new : Store} {m : Ref} {still filled : ℕ} {inner first rest : List Step} {n : Ref} {i : ℕ} {kid : Kid} {kids : List Kid} {steps : List Step} → steps ≡ first ++ rest → Walks new n i kid first → AreKidsFilled new m still filled inner n (suc i) kids rest → AreKidsFilled new m still filled inner n i (kid ∷ kids) steps
other_kids {first = first} {rest = rest} {steps = steps} to one by = record {
  now = first ++ by.now;
  fills = front_filled first [] steps (first ++ by.now) by.fills (to ∙ ap (λ l. first ++ l) (sym (append-nil rest))) (ap (λ l. first ++ l) (sym (append-nil by.now)));
  walks = walks_more one by.walks refl;
}

mutual
  fill_one : {store new : Store} {m : Ref} {still : ℕ} {kids : List Kid} {inner : List Step} → SuppliesPart store new m still kids → WalksAll new m still kids inner → {n : Ref} {i : ℕ} {kid : Kid} {steps : List Step} → Walks store n i kid steps → times m steps ≡ 1 → IsKidFilled new m still (length kids) inner n i kid steps
  fill_one part walks walks_token once = absurd (omega (arith, once))
  fill_one part walks walks_hidden once = absurd (omega (arith, once))
  fill_one {store} {new} {m} {still} {kids} {inner} part walks {n} {i} {steps = steps} (walks_node {m = x} {r = r} {inner = inside} l at all to) once =
      elim (same_cases m x) as (λ _. IsKidFilled new m still (length kids) inner n i (NodeKid x) steps) [
        | inl same ↦ kid_at same.1 (filled_node store new m still kids l r inner inside n i steps part walks (ap store same.1 ∙ at) (subst (λ y. WalksAll store y 0 l inside) (sym same.1) all) (to ∙ ap (λ y. Enter y ∷ (inside ++ Leave y ∷ [])) (sym same.1)) once)
        | inr other ↦ inside_node r l (part.others x (λ e. other.1 (sym e)) ∙ at) to (fill_all part walks all (let no = other.0 in let sum = ap (times m) to in let parts = times-append m inside (Leave x ∷ []) in omega (arith, once, no, sum, parts)))
      ]

  fill_all : {store new : Store} {m : Ref} {still : ℕ} {kids : List Kid} {inner : List Step} → SuppliesPart store new m still kids → WalksAll new m still kids inner → {n : Ref} {i : ℕ} {others : List Kid} {steps : List Step} → WalksAll store n i others steps → times m steps ≡ 1 → AreKidsFilled new m still (length kids) inner n i others steps
  fill_all part walks walks_none once = absurd (omega (arith, once))
  fill_all {store} {new} {m} {still} {kids} {inner} part walks {n} {i} {steps = steps} (walks_more {kid = kid} {kids = others} {first = first} {rest = rest} one all to) once =
      elim (one_of (times m first) (times m rest) (sym (times-append m first rest) ∙ ap (times m) (sym to) ∙ once)) as (λ _. AreKidsFilled new m still (length kids) inner n i (kid ∷ others) steps) [
        | inl here ↦ first_kid to (walks_all_on all (same_elsewhere {store = store} {new = new} rest part.others here.1)) (fill_one part walks one here.0)
        | inr there ↦ other_kids to (walks_on one (same_elsewhere {store = store} {new = new} first part.others there.0)) (fill_all part walks all there.1)
      ]

pub fill_walk_law : FillWalkLaw
fill_walk_law store new m still kids inner part walks n i others steps once all = let by = fill_all part walks all once in (by.now, by.fills, by.walks)
