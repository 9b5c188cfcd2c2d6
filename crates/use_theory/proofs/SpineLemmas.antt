-- Nodes that stand at the left edge of a walk.
use Rattle.std.proofs.Common.{◌≡◌, ℕ, ◌+◌, ◌<◌, ◌≤◌, List, [], ◌∷◌, ◌++◌, refl, sym, ap, ◌∙◌, subst, append_assoc, append-nil, arith}
use Rattle.grammar_data.specs.declared.token.Token.{Token as TextToken}
use Rattle.grammar_theory.proofs.Lists.{Splits, in_first, in_second, splits}
use Rattle.tree_theory.specs.Stores.{Ref}
use Rattle.tree_theory.specs.Walks.{Step, Enter, Leave, tokens_in}
use Rattle.use_theory.specs.Counts.{times}
use Rattle.use_theory.specs.Fills.{holes, Filled}
use Rattle.use_theory.specs.Distinct.{around}
use Rattle.use_theory.specs.Spines.{IsSpine, spine_end, spine_node, SpineMoreLaw, SpineInsideLaw, SpineOpenedLaw, SpineFilledLaw}
use Rattle.use_theory.proofs.CountLemmas.{same_self, times-append}
use Rattle.use_theory.proofs.FillLemmas.{tokens-append, holes_tokens, filled_tokens}

-- ---- no token

nil_front : (a b : List TextToken) → a ++ b ≡ [] → a ≡ []
nil_front [] b e = refl
nil_front (x ∷ a) b e = absurd (cc)

nil_back : (a b : List TextToken) → a ++ b ≡ [] → b ≡ []
nil_back [] b e = e
nil_back (x ∷ a) b e = absurd (cc)

pub no_tokens_front : (xs ys : List Step) → tokens_in (xs ++ ys) ≡ [] → tokens_in xs ≡ []
no_tokens_front xs ys none = nil_front (tokens_in xs) (tokens_in ys) (sym (tokens-append xs ys) ∙ none)

pub no_tokens_back : (xs ys : List Step) → tokens_in (xs ++ ys) ≡ [] → tokens_in ys ≡ []
no_tokens_back xs ys none = nil_back (tokens_in xs) (tokens_in ys) (sym (tokens-append xs ys) ∙ none)

pub no_tokens_in : (xs ys : List Step) → tokens_in xs ≡ [] → tokens_in ys ≡ [] → tokens_in (xs ++ ys) ≡ []
no_tokens_in xs ys first second = tokens-append xs ys ∙ ap (λ l. l ++ tokens_in ys) first ∙ second

-- ---- more steps

pub spine_more : {ms : List Ref} {steps : List Step} (front more : List Step) → tokens_in front ≡ [] → IsSpine ms steps → IsSpine ms (front ++ (steps ++ more))
spine_more front more none spine_end = spine_end
spine_more front more none (spine_node {m = m} before after to empty deeper) =
    spine_node (front ++ before) (after ++ more) (ap (λ l. front ++ (l ++ more)) to ∙ shifted front before (Enter m) after more) (no_tokens_in front before none empty) (spine_more [] more refl deeper)
  where
    shifted : (a b : List Step) (x : Step) (c d : List Step) → a ++ ((b ++ x ∷ c) ++ d) ≡ (a ++ b) ++ x ∷ (c ++ d)
    shifted a b x c d = simp append_assoc

pub spine_more_law : SpineMoreLaw
spine_more_law ms front steps more none spine = spine_more front more none spine

inside_first : {ms : List Ref} {m : Ref} (before front inner between after mid : List Step) → tokens_in before ≡ [] → front ≡ before ++ Enter m ∷ mid → IsSpine ms (mid ++ (between ++ (inner ++ after))) → IsSpine (m ∷ ms) (front ++ (between ++ (inner ++ after)))
inside_first {m = m} before front inner between after mid empty has deeper = spine_node before (mid ++ (between ++ (inner ++ after))) (ap (λ l. l ++ (between ++ (inner ++ after))) has ∙ shifted before (Enter m) mid (between ++ (inner ++ after))) empty deeper
  where
    shifted : (a : List Step) (x : Step) (b c : List Step) → (a ++ x ∷ b) ++ c ≡ a ++ x ∷ (b ++ c)
    shifted a x b c = simp append_assoc

inside_second : {ms : List Ref} {m : Ref} (before rest front inner between after mid : List Step) → tokens_in between ≡ [] → tokens_in before ≡ [] → before ≡ front ++ mid → inner ≡ mid ++ Enter m ∷ rest → IsSpine ms rest → IsSpine (m ∷ ms) (front ++ (between ++ (inner ++ after)))
inside_second {m = m} before rest front inner between after mid none empty has is deeper =
    let none_before : tokens_in (front ++ mid) ≡ [] = ap tokens_in (sym has) ∙ empty in
    spine_node (front ++ (between ++ mid)) (rest ++ after) (ap (λ l. front ++ (between ++ (l ++ after))) is ∙ shifted front between mid (Enter m) rest after)
    (no_tokens_in front (between ++ mid) (no_tokens_front front mid none_before) (no_tokens_in between mid none (no_tokens_back front mid none_before)))
    (spine_more [] after refl deeper)
  where
    shifted : (a b c : List Step) (x : Step) (d e : List Step) → a ++ (b ++ ((c ++ x ∷ d) ++ e)) ≡ (a ++ (b ++ c)) ++ x ∷ (d ++ e)
    shifted a b c x d e = simp append_assoc

inside_cases : {ms : List Ref} {m : Ref} (before rest front inner between after : List Step) → tokens_in between ≡ [] → tokens_in before ≡ [] → IsSpine ms rest → ((mid : List Step) → rest ≡ mid ++ inner → IsSpine ms (mid ++ (between ++ (inner ++ after)))) → Splits front inner before (Enter m) rest → IsSpine (m ∷ ms) (front ++ (between ++ (inner ++ after)))
inside_cases before rest front inner between after none empty deeper later (in_first mid has is) = inside_first before front inner between after mid empty has (later mid is)
inside_cases before rest front inner between after none empty deeper later (in_second mid has is) = inside_second before rest front inner between after mid none empty has is deeper

pub spine_inside : {ms : List Ref} {steps : List Step} → IsSpine ms steps → (front inner between after : List Step) → tokens_in between ≡ [] → steps ≡ front ++ inner → IsSpine ms (front ++ (between ++ (inner ++ after)))
spine_inside spine_end front inner between after none to = spine_end
spine_inside (spine_node {m = m} before rest at empty deeper) front inner between after none to =
    inside_cases before rest front inner between after none empty deeper (λ mid is. spine_inside deeper mid inner between after none is) (splits front inner before (Enter m) rest (sym to ∙ at))

pub spine_inside_law : SpineInsideLaw
spine_inside_law ms front inner between after none spine = spine_inside spine front inner between after none refl

pub no_hole_tokens : (m : Ref) (from hidden : ℕ) → tokens_in (holes m from hidden) ≡ []
no_hole_tokens m from hidden = ap tokens_in (sym (append-nil (holes m from hidden))) ∙ holes_tokens m from hidden []

pub spine_opened : (m : Ref) (hidden : ℕ) {ms : List Ref} {steps : List Step} → IsSpine ms steps → IsSpine (m ∷ ms) (around m hidden steps)
spine_opened m hidden {ms} {steps} spine = spine_node [] ((holes m 0 hidden ++ steps) ++ Leave m ∷ []) refl refl
    (subst (λ l. IsSpine ms l) (sym (append_assoc (holes m 0 hidden) steps (Leave m ∷ []))) (spine_more (holes m 0 hidden) (Leave m ∷ []) (no_hole_tokens m 0 hidden) spine))

pub spine_opened_law : SpineOpenedLaw
spine_opened_law m hidden ms steps spine = spine_opened m hidden spine

-- ---- the innermost node is filled

enter_times : (m : Ref) (before after : List Step) → times m (before ++ Enter m ∷ after) ≡ times m before + (1 + times m after)
enter_times m before after = let sum = times-append m before (Enter m ∷ after) in let one = same_self m in omega (arith, sum, one)

spine_enters : (ms : List Ref) (m : Ref) {steps : List Step} → IsSpine (ms ++ m ∷ []) steps → 0 < times m steps
spine_enters [] m (spine_node before after to empty deeper) = let sum = ap (times m) to ∙ enter_times m before after in omega (arith, sum)
spine_enters (x ∷ ms) m (spine_node before after to empty deeper) =
    let some = spine_enters ms m deeper in
    let sum = ap (times m) to ∙ times-append m before (Enter x ∷ after) in
    let more = times-append m (Enter x ∷ []) after in
    omega (arith, some, sum, more)

-- what stands behind the innermost node is changed
pub record IsChanged (ms : List Ref) (m : Ref) (front rest1 : List Step) : Type 0 where
  pub none : tokens_in front ≡ []
  pub whole : (ns : List Ref) → IsSpine ns rest1 → IsSpine (ms ++ ns) (front ++ Enter m ∷ rest1)
  pub part : (ns : List Ref) → IsSpine ns rest1 → IsSpine (ms ++ m ∷ ns) (front ++ Enter m ∷ rest1)

joined : (a : List Step) (x : Step) (b : List Step) → a ++ x ∷ b ≡ (a ++ x ∷ []) ++ b
joined a x b = simp append_assoc

outer_changed : (ms : List Ref) (m x : Ref) (before after front rest rest1 : List Step) {total : ℕ} → tokens_in before ≡ [] → 0 < times m after → times m (before ++ Enter x ∷ []) + times m after ≡ total → total ≤ 1 → ((mid : List Step) → after ≡ mid ++ Enter m ∷ rest → IsChanged ms m mid rest1) → Splits (before ++ Enter x ∷ []) after front (Enter m) rest → IsChanged (x ∷ ms) m front rest1
outer_changed ms m x before after front rest rest1 empty some sum once later (in_first mid has is) =
    let more = ap (times m) has ∙ enter_times m front mid in
    absurd (omega (arith, once, sum, more, some))
outer_changed ms m x before after front rest rest1 empty some sum once later (in_second mid has is) =
    let changed = later mid is in
    let now : front ++ Enter m ∷ rest1 ≡ before ++ Enter x ∷ (mid ++ Enter m ∷ rest1) = ap (λ l. l ++ Enter m ∷ rest1) has ∙ shifted before (Enter x) mid (Enter m ∷ rest1) in
    record {
      none = ap tokens_in has ∙ no_tokens_in (before ++ Enter x ∷ []) mid (no_tokens_in before (Enter x ∷ []) empty refl) changed.none;
      whole = λ ns spine. spine_node before (mid ++ Enter m ∷ rest1) now empty (changed.whole ns spine);
      part = λ ns spine. spine_node before (mid ++ Enter m ∷ rest1) now empty (changed.part ns spine);
    }
  where
    shifted : (a : List Step) (y : Step) (b c : List Step) → ((a ++ y ∷ []) ++ b) ++ c ≡ a ++ y ∷ (b ++ c)
    shifted a y b c = simp append_assoc

spine_changed : (ms : List Ref) (m : Ref) {steps : List Step} → IsSpine (ms ++ m ∷ []) steps → times m steps ≤ 1 → (front rest rest1 : List Step) → steps ≡ front ++ Enter m ∷ rest → IsChanged ms m front rest1
spine_changed [] m {steps} (spine_node before after to empty deeper) once front rest rest1 at = cases (splits (before ++ Enter m ∷ []) after front (Enter m) rest (sym (joined before (Enter m) after) ∙ sym to ∙ at))
  where
    cases : Splits (before ++ Enter m ∷ []) after front (Enter m) rest → IsChanged [] m front rest1
    cases (in_first mid has is) =
        let none : tokens_in front ≡ [] = no_tokens_front front (Enter m ∷ mid) (ap tokens_in (sym has) ∙ no_tokens_in before (Enter m ∷ []) empty refl) in
        record {
          none = none;
          whole = λ ns spine. subst (λ l. IsSpine ns l) (ap (λ l. (front ++ Enter m ∷ []) ++ l) (append-nil rest1) ∙ sym (joined front (Enter m) rest1)) (spine_more (front ++ Enter m ∷ []) [] (no_tokens_in front (Enter m ∷ []) none refl) spine);
          part = λ ns spine. spine_node front rest1 refl none spine;
        }
    cases (in_second mid has is) =
        let sum = ap (times m) to ∙ enter_times m before after in
        let more = ap (times m) is ∙ enter_times m mid rest in
        absurd (omega (arith, once, sum, more))
spine_changed (x ∷ ms) m {steps} (spine_node before after to empty deeper) once front rest rest1 at =
    let total = ap (times m) (to ∙ joined before (Enter x) after) ∙ times-append m (before ++ Enter x ∷ []) after in
    outer_changed ms m x before after front rest rest1 empty (spine_enters ms m deeper) (sym total) once
    (λ mid is. spine_changed ms m deeper (omega (arith, once, total)) mid rest rest1 is)
    (splits (before ++ Enter x ∷ []) after front (Enter m) rest (sym (joined before (Enter x) after) ∙ sym to ∙ at))

pub spine_filled : (ms : List Ref) (m : Ref) {still filled : ℕ} {inner steps steps1 : List Step} → IsSpine (ms ++ m ∷ []) steps → times m steps ≤ 1 → (by : Filled m still filled inner steps steps1) → IsChanged ms m by.front (holes m 0 still ++ (inner ++ by.back))
spine_filled ms m {still} {filled} {inner} spine once by = spine_changed ms m spine once by.front (holes m 0 still ++ (holes m still filled ++ by.back)) (holes m 0 still ++ (inner ++ by.back)) by.before

pub spine_filled_law : SpineFilledLaw
spine_filled_law ms m still filled inner steps steps1 spine once by =
    let changed = spine_filled ms m spine once by in (
      filled_tokens by changed.none,
      λ ns more. (let moved = spine_more (holes m 0 still) by.back (no_hole_tokens m 0 still) more in
          (subst (λ l. IsSpine (ms ++ ns) l) (sym by.after) (changed.whole ns moved), subst (λ l. IsSpine (ms ++ m ∷ ns) l) (sym by.after) (changed.part ns moved))),
    )
