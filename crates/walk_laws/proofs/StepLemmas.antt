-- The walk over a piece at each step by which it grows.
use Rattle.std.proofs.Common.{◌≡◌, ◌≢◌, ℕ, zero, suc, ◌+◌, ◌<◌, ◌≤◌, ◌⊎◌, inl, inr, List, [], ◌∷◌, ◌++◌, map, reverse, length, replicate, All, Option, Some, None, refl, sym, ap, ◌∙◌, subst, append_assoc, append-nil, arith}
use Rattle.std.proofs.lemmas.List.{length-append, reverse-append, map-append}
use Rattle.std.proofs.lemmas.List.Elements.{All-nil, All-cons, All-push}
use Rattle.grammar_data.specs.declared.token.Token.{Token as TextToken}
use Rattle.node_data.specs.declared.kid.Kid.{Kid}
use Rattle.node_data.specs.declared.kid.Kid.TheVariants.{Token as TokenKid, Node as NodeKid, Hidden}
use Rattle.tree_theory.specs.Stores.{Ref, Store}
use Rattle.tree_theory.specs.Walks.{Step, Enter, AtToken, Leave, Walks, walks_token, walks_node, WalksAll, walks_none, walks_more, tokens_in}
use Rattle.use_theory.specs.Counts.{sameness, count_in, times}
use Rattle.use_theory.specs.Fills.{holes}
use Rattle.use_theory.specs.Spines.{IsSpine, spine_end}
use Rattle.use_theory.specs.Distinct.{IsDistinct, around}
use Rattle.use_theory.proofs.CountLemmas.{same_cases, same_self, same_zero, count-append, times-append}
use Rattle.use_theory.proofs.DistinctLemmas.{grown_law}
use Rattle.use_theory.proofs.FillLemmas.{tokens-append, holes_tokens, walk_holes, walk_then}
use Rattle.use_theory.proofs.SpineLemmas.{spine_more, spine_inside, spine_opened}
use Rattle.piece_theory.specs.Pieces.{Opened, Held, Piece, opening_before, openings, floor_nodes, kids_of}
use Rattle.piece_theory.specs.Applies.{nowhere}
use Rattle.piece_theory.specs.WellMade.{HasHidden}
use Rattle.piece_theory.specs.Laws.{HasMore}
use Rattle.piece_theory.proofs.StoreLemmas.{walk_all_more}
use Rattle.walk_laws.specs.Walked.{HasWalk, AddsNode}
use Rattle.walk_laws.specs.Laws.{AddsMoreLaw, AreOfSame, OpenedWalkLaw, LookedWalkLaw, ShiftedWalkLaw, ReducedWalkLaw, FloorWalkLaw, MadeLaw}
use Rattle.walk_laws.proofs.WalkLemmas.{AreShown, shown_front, shown_back, none_hidden, IsParted, walks_parted, walks_elsewhere}

-- ---- stores and counts

not_there : (store : Store) (m : Ref) {r : ℕ} {kids : List Kid} → store m ≡ None → store m ≡ Some (r, kids) → ⊥
not_there store m none some = contradiction (sym none ∙ some)
  where
    contradiction : {r : ℕ} {kids : List Kid} → ◌≡◌ {A = Option (ℕ × List Kid)} None (Some (r, kids)) → ⊥
    contradiction e = cc

pub adds_more : {store new : Store} {m : Ref} {r : ℕ} {kids : List Kid} → AddsNode store new m r kids → HasMore store new
adds_more {store} {new} {m} adds x s others at = cases (same_cases x m)
  where
    cases : ((sameness x m ≡ 1) × (x ≡ m)) ⊎ ((sameness x m ≡ 0) × (x ≢ m)) → new x ≡ Some (s, others)
    cases (inl same) = absurd (not_there store m adds.fresh (ap store (sym same.1) ∙ at))
    cases (inr not) = adds.others x not.1 ∙ at

pub adds_more_law : AddsMoreLaw
adds_more_law store new m r kids adds = adds_more adds

-- only how often nodes stand there matters
recounted : {store : Store} {floors floors1 : List Ref} {steps steps1 : List Step} → ((n : Ref) → count_in n floors1 ≡ count_in n floors) → ((n : Ref) → times n steps1 ≡ times n steps) → IsDistinct store floors steps → IsDistinct store floors1 steps1
recounted floors_same steps_same was = record {
  once = λ m. let e = steps_same m in let o = was.once m in omega (arith, e, o);
  used = λ m r kids at. let e = steps_same m in let o = was.used m r kids at in omega (arith, e, o);
  there = λ m less. let e = steps_same m in was.there m (omega (arith, e, less));
  hidden = λ m r kids at has. let e = floors_same m in let o = was.hidden m r kids at has in omega (arith, e, o);
  within = λ m. let e = floors_same m in let f = steps_same m in let o = was.within m in omega (arith, e, f, o);
}

zero_or_more : (k : ℕ) → (k ≡ 0) ⊎ (0 < k)
zero_or_more zero = inl refl
zero_or_more (suc k) = inr (omega arith)

-- a node that isn't there is entered nowhere
none_entered : {store : Store} {floors : List Ref} {steps : List Step} (m : Ref) → store m ≡ None → IsDistinct store floors steps → times m steps ≡ 0
none_entered {steps = steps} m none was = cases (zero_or_more (times m steps))
  where
    cases : (times m steps ≡ 0) ⊎ (0 < times m steps) → times m steps ≡ 0
    cases (inl is) = is
    cases (inr less) = absurd (was.there m less none)

nodes_more : {store new : Store} → HasMore store new → (os : List Opened) → All {X = Opened} (HasHidden store) os → All {X = Opened} (HasHidden new) os
nodes_more {store} {new} has os all = λ k d inside. more _ (all k d inside)
  where
    more : (o : Opened) → HasHidden store o → HasHidden new o
    more o of = record { kids = of.kids; found = has o.node o.rule _ of.found; shown = of.shown }

-- ---- a token

pub opened_walk_law : OpenedWalkLaw
opened_walk_law store nodes front p f was on_floors un kids count = record {
  steps = AtToken p.first ∷ [];
  has = record {
    walk = subst (λ l. WalksAll store nowhere 0 l (AtToken p.first ∷ [])) (sym kids) (walks_more walks_token walks_none refl);
    yields = refl;
    later = [];
    begins = refl;
    counted = sym count;
    shown = subst (λ l. AreShown l) (sym kids) (All-cons {X = Kid} (λ kid. kid ≢ Hidden) (TokenKid p.first) [] (λ e. cc) (All-nil {X = Kid} (λ kid. kid ≢ Hidden)));
    nodes = subst (λ l. All {X = Opened} (HasHidden store) l) (sym none) (All-nil {X = Opened} (HasHidden store));
    spine = subst (λ l. IsSpine (reverse (map (λ (o : Opened). o.node) l)) (AtToken p.first ∷ [])) (sym none) spine_end;
  };
  each_once = recounted (λ n. floors_same n) (λ n. steps_same n) was;
}
  where
    none : openings p.floors ≡ []
    none = ap openings on_floors ∙ ap (λ o. opening_before o []) un

    floors_same : (n : Ref) → count_in n (nodes ++ floor_nodes p.floors) ≡ count_in n nodes
    floors_same n = ap (λ l. count_in n (nodes ++ map (λ (o : Opened). o.node) l)) none ∙ ap (λ l. count_in n l) (append-nil nodes)

    steps_same : (n : Ref) → times n (front ++ AtToken p.first ∷ []) ≡ times n front
    steps_same n = let e = times-append n front (AtToken p.first ∷ []) in omega (arith, e)

-- ---- starts and maps change

same_walk : {store : Store} {p q : Piece} {tokens : List TextToken} {steps : List Step} → AreOfSame p q → kids_of q.stack ≡ kids_of p.stack → HasWalk store p tokens steps → HasWalk store q tokens steps
same_walk {store} {p} {q} {tokens} {steps} same kids has = record {
  walk = subst (λ l. WalksAll store nowhere 0 l steps) (sym kids) has.walk;
  yields = has.yields;
  later = has.later;
  begins = has.begins ∙ ap (λ x. x ∷ has.later) (sym same.first);
  counted = has.counted ∙ sym same.count;
  shown = subst (λ l. AreShown l) (sym kids) has.shown;
  nodes = subst (λ l. All {X = Opened} (HasHidden store) l) (sym same.floors) has.nodes;
  spine = subst (λ l. IsSpine (reverse (map (λ (o : Opened). o.node) l)) steps) (sym same.floors) has.spine;
}

pub looked_walk_law : LookedWalkLaw
looked_walk_law store nodes front p q tokens walked same kids = record {
  steps = walked.steps;
  has = same_walk {p = p} {q = q} same kids walked.has;
  each_once = subst (λ l. IsDistinct store (nodes ++ map (λ (o : Opened). o.node) l) (front ++ walked.steps)) (sym same.floors) walked.each_once;
}

-- ---- a token is pushed

shifted_walk : (store : Store) (p q : Piece) (tokens : List TextToken) (steps : List Step) (token : TextToken) → HasWalk store p tokens steps → q.first ≡ p.first → q.count ≡ p.count + 1 → openings q.floors ≡ openings p.floors → kids_of q.stack ≡ kids_of p.stack ++ TokenKid token ∷ [] → HasWalk store q (tokens ++ token ∷ []) (steps ++ AtToken token ∷ [])
shifted_walk store p q tokens steps token has first count floors kids = record {
  walk = subst (λ l. WalksAll store nowhere 0 l (steps ++ AtToken token ∷ [])) (sym kids) (walk_then has.walk (0 + length (kids_of p.stack)) (TokenKid token ∷ []) (AtToken token ∷ []) refl (walks_more walks_token walks_none refl));
  yields = tokens-append steps (AtToken token ∷ []) ∙ ap (λ l. l ++ token ∷ []) has.yields;
  later = has.later ++ token ∷ [];
  begins = ap (λ l. l ++ token ∷ []) has.begins ∙ ap (λ x. x ∷ (has.later ++ token ∷ [])) (sym first);
  counted = length-append tokens (token ∷ []) ∙ ap (λ k. k + 1) has.counted ∙ sym count;
  shown = subst (λ l. AreShown l) (sym kids) (All-push {X = Kid} (λ kid. kid ≢ Hidden) (kids_of p.stack) (TokenKid token) has.shown (λ e. cc));
  nodes = subst (λ l. All {X = Opened} (HasHidden store) l) (sym floors) has.nodes;
  spine = subst (λ l. IsSpine (reverse (map (λ (o : Opened). o.node) l)) (steps ++ AtToken token ∷ [])) (sym floors) (spine_more [] (AtToken token ∷ []) refl has.spine);
}

pub shifted_walk_law : ShiftedWalkLaw
shifted_walk_law store nodes front p q tokens token walked first count floors kids = record {
  steps = walked.steps ++ AtToken token ∷ [];
  has = shifted_walk store p q tokens walked.steps token walked.has first count floors kids;
  each_once = recounted (λ n. ap (λ l. count_in n (nodes ++ map (λ (o : Opened). o.node) l)) floors) (λ n. steps_same n) walked.each_once;
}
  where
    steps_same : (n : Ref) → times n (front ++ (walked.steps ++ AtToken token ∷ [])) ≡ times n (front ++ walked.steps)
    steps_same n =
        let e = times-append n front (walked.steps ++ AtToken token ∷ []) in
        let f = times-append n walked.steps (AtToken token ∷ []) in
        let g = times-append n front walked.steps in
        omega (arith, e, f, g)

-- ---- a node takes the last entries

around_tokens : (m : Ref) (hidden : ℕ) (steps : List Step) → tokens_in (around m hidden steps) ≡ tokens_in steps
around_tokens m hidden steps = tokens-append (holes m 0 hidden ++ steps) (Leave m ∷ []) ∙ append-nil (tokens_in (holes m 0 hidden ++ steps)) ∙ holes_tokens m 0 hidden steps

reduced_walk : (store new : Store) (p q : Piece) (tokens : List TextToken) (steps : List Step) (m : Ref) (r : ℕ) (keep taken : List Kid) → HasMore store new → new m ≡ Some (r, taken) → AreOfSame p q → AreShown (keep ++ taken) → kids_of q.stack ≡ keep ++ NodeKid m ∷ [] → HasWalk store p tokens steps → (by : IsParted store nowhere 0 (0 + length keep) keep taken steps) → HasWalk new q tokens (by.first ++ around m 0 by.inner)
reduced_walk store new p q tokens steps m r keep taken more found same shown kids has by = record {
  walk = subst (λ l. WalksAll new nowhere 0 l (by.first ++ around m 0 by.inner)) (sym kids) (walk_then (walk_all_more more by.low) (0 + length keep) (NodeKid m ∷ []) (around m 0 by.inner) refl (walks_more node walks_none (sym (append-nil (around m 0 by.inner)))));
  yields = tokens-append by.first (around m 0 by.inner) ∙ ap (λ l. tokens_in by.first ++ l) (around_tokens m 0 by.inner) ∙ sym (tokens-append by.first by.inner) ∙ ap tokens_in (sym by.parts) ∙ has.yields;
  later = has.later;
  begins = has.begins ∙ ap (λ x. x ∷ has.later) (sym same.first);
  counted = has.counted ∙ sym same.count;
  shown = subst (λ l. AreShown l) (sym kids) (All-push {X = Kid} (λ kid. kid ≢ Hidden) keep (NodeKid m) (shown_front keep taken shown) (λ e. cc));
  nodes = subst (λ l. All {X = Opened} (HasHidden new) l) (sym same.floors) (nodes_more more (openings p.floors) has.nodes);
  spine = subst (λ l. IsSpine (reverse (map (λ (o : Opened). o.node) l)) (by.first ++ around m 0 by.inner)) (sym same.floors) (spine_inside has.spine by.first by.inner (Enter m ∷ []) (Leave m ∷ []) refl by.parts);
}
  where
    inside : WalksAll new m 0 taken by.inner
    inside = walks_elsewhere (shown_back keep taken shown) (walk_all_more more by.up) m 0

    node : Walks new nowhere (0 + length keep) (NodeKid m) (around m 0 by.inner)
    node = walks_node taken found inside refl

pub reduced_walk_law : ReducedWalkLaw
reduced_walk_law store new nodes front p q tokens m r keep taken walked adds same kids now =
    let more : HasMore store new = adds_more adds in
    let shown : AreShown (keep ++ taken) = subst (λ l. AreShown l) kids walked.has.shown in
    let by : IsParted store nowhere 0 (0 + length keep) keep taken walked.steps = walks_parted keep taken (subst (λ l. WalksAll store nowhere 0 l walked.steps) kids walked.has.walk) in
    let floors = nodes ++ floor_nodes p.floors in
    let was = subst (λ l. IsDistinct store floors l) (ap (λ l. front ++ l) by.parts ∙ sym (append_assoc front by.first by.inner) ∙ ap (λ l. (front ++ by.first) ++ l) (sym (append-nil by.inner))) walked.each_once in
    let few : count_in m floors ≤ 1 = let e = walked.each_once.within m in let o = walked.each_once.once m in omega (arith, e, o) in
    let grown : IsDistinct new floors ((front ++ by.first) ++ (around m 0 by.inner ++ [])) = grown_law store new m r 0 taken floors floors (front ++ by.first) by.inner [] adds.fresh adds.found adds.others few (λ n not. refl) (λ has. absurd (none_hidden taken (shown_back keep taken shown) has)) was in
    record {
      steps = by.first ++ around m 0 by.inner;
      has = reduced_walk store new p q tokens walked.steps m r keep taken more adds.found same shown now walked.has by;
      each_once = recounted (λ n. ap (λ l. count_in n (nodes ++ map (λ (o : Opened). o.node) l)) same.floors) (λ n. ap (λ l. times n l) (sym (append_assoc front by.first (around m 0 by.inner)) ∙ ap (λ l. (front ++ by.first) ++ l) (sym (append-nil (around m 0 by.inner))))) grown;
    }

-- ---- a node takes all entries and opens a floor

one_more : (os : List Opened) (o : Opened) → reverse (map (λ (x : Opened). x.node) (os ++ o ∷ [])) ≡ o.node ∷ reverse (map (λ (x : Opened). x.node) os)
one_more os o = ap reverse (map-append (λ (x : Opened). x.node) os (o ∷ [])) ∙ reverse-append (map (λ (x : Opened). x.node) os) (o.node ∷ [])

floor_walk : (store new : Store) (p q : Piece) (tokens : List TextToken) (steps : List Step) (opened : Opened) → HasMore store new → new opened.node ≡ Some (opened.rule, replicate opened.hidden Hidden ++ kids_of p.stack) → q.first ≡ p.first → q.count ≡ p.count → openings q.floors ≡ openings p.floors ++ opened ∷ [] → kids_of q.stack ≡ NodeKid opened.node ∷ [] → HasWalk store p tokens steps → HasWalk new q tokens (around opened.node opened.hidden steps)
floor_walk store new p q tokens steps opened more found first count floors kids has = record {
  walk = subst (λ l. WalksAll new nowhere 0 l (around opened.node opened.hidden steps)) (sym kids) (walks_more node walks_none (sym (append-nil (around opened.node opened.hidden steps))));
  yields = around_tokens opened.node opened.hidden steps ∙ has.yields;
  later = has.later;
  begins = has.begins ∙ ap (λ x. x ∷ has.later) (sym first);
  counted = has.counted ∙ sym count;
  shown = subst (λ l. AreShown l) (sym kids) (All-cons {X = Kid} (λ kid. kid ≢ Hidden) (NodeKid opened.node) [] (λ e. cc) (All-nil {X = Kid} (λ kid. kid ≢ Hidden)));
  nodes = subst (λ l. All {X = Opened} (HasHidden new) l) (sym floors) (All-push {X = Opened} (HasHidden new) (openings p.floors) opened (nodes_more more (openings p.floors) has.nodes) (record { kids = kids_of p.stack; found = found; shown = has.shown }));
  spine = subst (λ l. IsSpine l (around opened.node opened.hidden steps)) (sym (ap (λ l. reverse (map (λ (x : Opened). x.node) l)) floors ∙ one_more (openings p.floors) opened)) (spine_opened opened.node opened.hidden has.spine);
}
  where
    inside : WalksAll new opened.node (0 + opened.hidden) (kids_of p.stack) steps
    inside = walks_elsewhere has.shown (walk_all_more more has.walk) opened.node (0 + opened.hidden)

    node : Walks new nowhere 0 (NodeKid opened.node) (around opened.node opened.hidden steps)
    node = walks_node (replicate opened.hidden Hidden ++ kids_of p.stack) found (walk_holes new opened.node opened.hidden 0 (0 + opened.hidden) (kids_of p.stack) steps refl inside) refl

counts_with : (n m : Ref) (front back : List Ref) → count_in n (front ++ (back ++ m ∷ [])) ≡ count_in n (front ++ back) + sameness n m
counts_with n m front back =
    let e = count-append n front (back ++ m ∷ []) in
    let f = count-append n back (m ∷ []) in
    let g = count-append n front back in
    omega (arith, e, f, g)

pub floor_walk_law : FloorWalkLaw
floor_walk_law store new nodes front p q tokens opened walked adds first count floors kids =
    let more : HasMore store new = adds_more adds in
    let m = opened.node in
    let was_floors = nodes ++ floor_nodes p.floors in
    let now_floors = nodes ++ (floor_nodes p.floors ++ m ∷ []) in
    let none : times m (front ++ walked.steps) ≡ 0 = none_entered {store = store} m adds.fresh walked.each_once in
    let self : sameness m m ≡ 1 = same_self m in
    let with_m : count_in m now_floors ≡ count_in m was_floors + sameness m m = counts_with m m nodes (floor_nodes p.floors) in
    let less : count_in m was_floors ≤ times m (front ++ walked.steps) = walked.each_once.within m in
    let one : count_in m now_floors ≡ 1 = omega (arith, none, self, with_m, less) in
    let was = subst (λ l. IsDistinct store was_floors l) (ap (λ l. front ++ l) (sym (append-nil walked.steps))) walked.each_once in
    let grown : IsDistinct new now_floors (front ++ (around m opened.hidden walked.steps ++ [])) =
    grown_law store new m opened.rule opened.hidden (replicate opened.hidden Hidden ++ kids_of p.stack) was_floors now_floors front walked.steps [] adds.fresh adds.found adds.others (omega (arith, one))
    (λ n not. let zero_same = same_zero n m not in let others = counts_with n m nodes (floor_nodes p.floors) in omega (arith, zero_same, others))
    (λ has. omega (arith, one)) was
    in
    let same_floors : floor_nodes q.floors ≡ floor_nodes p.floors ++ m ∷ [] = ap (λ l. map (λ (x : Opened). x.node) l) floors ∙ map-append (λ (x : Opened). x.node) (openings p.floors) (opened ∷ []) in
    record {
      steps = around m opened.hidden walked.steps;
      has = floor_walk store new p q tokens walked.steps opened more adds.found first count floors kids walked.has;
      each_once = recounted (λ n. ap (λ l. count_in n (nodes ++ l)) same_floors) (λ n. ap (λ l. times n (front ++ l)) (sym (append-nil (around m opened.hidden walked.steps)))) grown;
    }

-- ---- well made

no_steps : {store : Store} {n : Ref} {i : ℕ} {kids : List Kid} {steps : List Step} → WalksAll store n i kids steps → kids ≡ [] → steps ≡ []
no_steps walks_none e = refl
no_steps (walks_more first rest to) e = absurd (cc)

none_or_some : (hs : List Held) → (hs ≡ []) ⊎ (0 < length hs)
none_or_some [] = inl refl
none_or_some (h ∷ hs) = inr (omega arith)

-- a piece with tokens has entries
some_entry : {store : Store} {p : Piece} {tokens : List TextToken} {steps : List Step} → HasWalk store p tokens steps → 0 < length p.stack
some_entry {p = p} has = cases (none_or_some p.stack)
  where
    no_token : {x : TextToken} {later : List TextToken} → [] ≡ x ∷ later → ⊥
    no_token e = cc

    cases : (p.stack ≡ []) ⊎ (0 < length p.stack) → 0 < length p.stack
    cases (inl none) = absurd (no_token (sym (ap tokens_in (no_steps has.walk (ap kids_of none))) ∙ has.yields ∙ has.begins))
    cases (inr some) = some

pub made_law : MadeLaw
made_law t store p tokens steps last floors maps has = record {
  last = last;
  floors = floors;
  nodes = has.nodes;
  some_entry = some_entry has;
  maps = maps;
  walk = has.walk;
  yields = has.yields;
  later = has.later;
  begins = has.begins;
  counted = has.counted;
  spine = has.spine;
}
