-- Reductions under one token end: each takes back one step of a rightmost derivation.
use Rattle.std.proofs.Common.{◌≡◌, ◌≢◌, ℕ, ◌<◌, List, [], ◌∷◌, ◌++◌, length, Some, refl, sym, ap, ◌∙◌, subst, append_assoc, append-nil, arith}
use Rattle.std.proofs.lemmas.List.{append_cancel_right}
use Rattle.std.proofs.lemmas.Option.{slice_get_within}
use Rattle.grammar_data.specs.declared.rule.Sym.{Sym}
use Rattle.grammar_data.specs.declared.rule.Sym.TheVariants.{Token, Name}
use Rattle.grammar_data.specs.Grammar.{Grammar}
use Rattle.grammar_theory.specs.Rules.{IsRule, word, end_mark}
use Rattle.grammar_theory.proofs.Lists.{Splits, in_first, in_second, splits}
use Rattle.grammar_theory.proofs.RuleLemmas.{rule_once}
use Rattle.item_theory.specs.Items.{Item, Dotted, unchanged, replaced, IsReached, all_rules, first_or, IsValid, valid, IsViable, shifts, reduces as item_reduces, accepts, Shift as to_shift, Reduce as to_reduce, Accept as to_accept}
use Rattle.item_theory.proofs.ItemLemmas.{WhichRule, is_own, is_last, which_rule}
use Rattle.item_theory.proofs.StateLemmas.{viable_prefix}
use Rattle.next_theory.proofs.NextLemmas.{augmented_ahead}
use Rattle.table_data.specs.declared.act.Act.{Act}
use Rattle.table_data.specs.declared.act.Act.TheVariants.{Shift, Reduce, Accept, Error}
use Rattle.table_data.specs.Tables.{Tables, act_in, shift_of}
use Rattle.machine_theory.specs.Machine.{Entry, top, symbols, IsStack, Settles, shift_comes, accept_comes, after_one}
use Rattle.machine_theory.proofs.StackLemmas.{symbols-append}
use Rattle.lawful_theory.specs.Lawful.{IsLawfulFor}
use Rattle.lawful_theory.specs.Laws.{ReductionsEndLaw}
use Rattle.lawful_theory.proofs.CanonicalLemmas.{accept_of}
use Rattle.lawful_theory.proofs.FitLemmas.{shift_acts, reduce_acts, IsReduced, reduction}

-- ---- words

first_of_word : (w : List ℕ) (b : ℕ) (xs : List Sym) (other : ℕ) → word w ≡ Token b ∷ xs → first_or other w ≡ b
first_of_word [] b xs other e = absurd (cc)
first_of_word (a ∷ w) b xs other e = cc

no_name_first : (w : List ℕ) (n : ℕ) (xs : List Sym) → word w ≡ Name n ∷ xs → ⊥
no_name_first [] n xs e = cc
no_name_first (a ∷ w) n xs e = cc

no_name_within : (w : List ℕ) (mid : List Sym) (n : ℕ) (back : List Sym) → word w ≡ mid ++ Name n ∷ back → ⊥
no_name_within w [] n back e = no_name_first w n back e
no_name_within [] (x ∷ mid) n back e = cc
no_name_within (a ∷ w) (x ∷ mid) n back e = no_name_within w mid n back (cc)

same_word : (w v : List ℕ) → word w ≡ word v → w ≡ v
same_word [] [] e = refl
same_word [] (b ∷ v) e = absurd (cc)
same_word (a ∷ w) [] e = absurd (cc)
same_word (a ∷ w) (b ∷ v) e =
    let rest = same_word w v (cc) in
    let first : a ≡ b = cc in
    λ i. first i ∷ rest i

shift_of_some : (act : Act) (p : ℕ) → shift_of act ≡ Some p → act ≡ Shift p
shift_of_some (Shift q) p e = cc
shift_of_some (Reduce r) p e = absurd (cc)
shift_of_some Accept p e = absurd (cc)
shift_of_some Error p e = absurd (cc)

-- ---- the claim on a reached list

-- behind each of its names of the grammar, with tokens alone behind it, reductions end
abbrev Claim : Grammar → Tables → List Sym → Type 0
Claim g t zs = (ys : List Sym) (n : ℕ) (w : List ℕ) (a : ℕ) (s : List Entry) → zs ≡ ys ++ Name n ∷ word w → n < g.names → a ≡ first_or (end_mark g) w → IsStack t 0 s → symbols s ≡ ys ++ Name n ∷ [] → Settles t 0 a s

module _ {g : Grammar} {t : Tables} (lawful : IsLawfulFor g t) where
  by_shift : {s : List Entry} {a b n : ℕ} {i : Item} (before after : List Sym) → IsStack t 0 s → a ≡ b → IsValid g (symbols s) i → Dotted g i n before (Token b ∷ after) → Settles t 0 a s
  by_shift {s} {a} {b} {i = i} before after is e v dotted =
      let act = shift_acts (act_in t (top 0 s) b) ((lawful.acts s b is to_shift).1 (i, v, shifts dotted)) in
      shift_comes (ap (λ c. act_in t (top 0 s) c) e ∙ act.1)

  module _ (before : List Sym) (v : List ℕ) {r m : ℕ} {right xs : List Sym} (rule : IsRule (all_rules g) r m right) (reached : IsReached g xs) (at : xs ≡ before ++ Name m ∷ word v) (claim : Claim g t xs) where
    -- the item of the rule with the dot behind some symbols
    item_at : List Sym → Item
    item_at front = record { rule = r; dot = length front; ahead = first_or (end_mark g) v }

    dotted_at : (front more : List Sym) → right ≡ front ++ more → Dotted g (item_at front) m front more
    unfolding item_at
    dotted_at front more e = record { rule = subst (λ l. IsRule (all_rules g) r m l) e rule; dot = refl }

    valid_at : (front more : List Sym) → right ≡ front ++ more → IsValid g (before ++ front) (item_at front)
    unfolding item_at
    valid_at front more e = valid m before front more v (subst (λ l. IsReached g l) at reached) (dotted_at front more e) refl refl

    -- the whole right side is on the stack
    settle_own : {s : List Entry} {a : ℕ} → IsStack t 0 s → symbols s ≡ before ++ right → a ≡ first_or (end_mark g) v → act_in t (top 0 s) a ≡ Reduce r → IsRule g.rules r m right → (by : IsReduced g t s a r) → Settles t 0 a s
    settle_own {s} {a} is here ahead act own by =
        let same = rule_once own by.own in
        let front : before ≡ symbols by.rest = append_cancel_right before (symbols by.rest) right
        (sym here ∙ ap symbols by.parts ∙ symbols-append by.taken by.rest ∙ ap (λ l. symbols by.rest ++ l) (by.same ∙ sym same.1)) in
        after_one by.move
        (claim before m v a _ at (lawful.range.lefts r m right own) ahead by.stack
        (ap (λ l. l ++ Name by.name ∷ []) (sym front) ∙ ap (λ n. before ++ Name n ∷ []) (sym same.0)))

    settle_end : {s : List Entry} {a : ℕ} → IsStack t 0 s → symbols s ≡ before ++ right → a ≡ first_or (end_mark g) v → WhichRule g r m right → Settles t 0 a s
    unfolding item_at
    settle_end {s} {a} is here ahead (is_own own) =
        let item : IsValid g (symbols s) (item_at right) = subst (λ l. IsValid g l (item_at right)) (sym here) (valid_at right [] (sym (append-nil right))) in
        let does = item_reduces {deed = to_reduce r} (dotted_at right [] (sym (append-nil right))) (slice_get_within g.rules r (m, right) own.found) (sym ahead) refl in
        let act = reduce_acts (act_in t (top 0 s) a) r ((lawful.acts s a is (to_reduce r)).1 (item_at right, item, does)) in
        settle_own is here ahead act own (reduction lawful is act)
    settle_end {s} {a} is here ahead (is_last last left e) =
        let item : IsValid g (symbols s) (item_at right) = subst (λ l. IsValid g l (item_at right)) (sym here) (valid_at right [] (sym (append-nil right))) in
        let does = accepts (dotted_at right [] (sym (append-nil right))) last (ahead ∙ augmented_ahead g lawful.range item last) in
        accept_comes (accept_of (act_in t (top 0 s) a) ((lawful.acts s a is to_accept).1 (item_at right, item, does)))

    -- some symbols of the right side are on the stack, and what comes behind them begins the rest
    settle_at : (front more : List Sym) → right ≡ front ++ more → (w : List ℕ) {s : List Entry} {a : ℕ} → word w ≡ more ++ word v → a ≡ first_or (end_mark g) w → IsStack t 0 s → symbols s ≡ before ++ front → Settles t 0 a s
    settle_at front [] e w next ahead is here =
        let whole = e ∙ append-nil front in
        settle_end is (here ∙ ap (λ l. before ++ l) (sym whole)) (ahead ∙ ap (first_or (end_mark g)) (same_word w v next)) (which_rule g rule)
    settle_at front (Token b ∷ more) e w next ahead is here =
        by_shift front more is (ahead ∙ first_of_word w b (more ++ word v) (end_mark g) next) (subst (λ l. IsValid g l (item_at front)) (sym here) (valid_at front (Token b ∷ more) e)) (dotted_at front (Token b ∷ more) e)
    settle_at front (Name k ∷ more) e w next ahead is here = absurd (no_name_first w k (more ++ word v) next)

    -- the name stands in the right side
    settle_in_right : {ys mid : List Sym} {n : ℕ} (w : List ℕ) {a : ℕ} {s : List Entry} → ys ≡ before ++ mid → Splits right (word v) mid (Name n) (word w) → a ≡ first_or (end_mark g) w → IsStack t 0 s → symbols s ≡ ys ++ Name n ∷ [] → Settles t 0 a s
    settle_in_right {mid = mid} {n = n} w split (in_first rest e next) ahead is here =
        settle_at (mid ++ Name n ∷ []) rest (e ∙ sym (append_assoc mid (Name n ∷ []) rest)) w next ahead is
        (here ∙ ap (λ l. l ++ Name n ∷ []) split ∙ append_assoc before mid (Name n ∷ []))
    settle_in_right {n = n} w split (in_second rest e next) ahead is here = absurd (no_name_within v rest n (word w) next)

    -- the list in front of the replaced name is viable
    before_viable : IsViable g before
    before_viable = (item_at [], subst (λ l. IsValid g l (item_at [])) (append-nil before) (valid_at [] right refl))

    -- the name stands in front of the replaced one
    settle_in_front : (ys : List Sym) (n : ℕ) (w : List ℕ) {a : ℕ} {s : List Entry} (mid : List Sym) → before ≡ ys ++ Name n ∷ mid → word w ≡ mid ++ (right ++ word v) → a ≡ first_or (end_mark g) w → IsStack t 0 s → symbols s ≡ ys ++ Name n ∷ [] → Settles t 0 a s
    settle_in_front ys n w [] split next ahead is here = settle_at [] right refl w next ahead is (here ∙ sym split ∙ sym (append-nil before))
    settle_in_front ys n w {a} {s} (Token b ∷ mid) split next ahead is here =
        let line : before ≡ (symbols s ++ Token b ∷ []) ++ mid = split ∙ sym (append_assoc ys (Name n ∷ []) (Token b ∷ mid)) ∙ ap (λ l. l ++ Token b ∷ mid) (sym here) ∙ sym (append_assoc (symbols s) (Token b ∷ []) mid) in
        let along = (lawful.steps s (Token b) is).1 (viable_prefix g lawful.range mid (symbols s ++ Token b ∷ []) (subst (λ l. IsViable g l) line before_viable)) in
        shift_comes (ap (λ c. act_in t (top 0 s) c) (ahead ∙ first_of_word w b (mid ++ (right ++ word v)) (end_mark g) next) ∙ shift_of_some (act_in t (top 0 s) b) along.0 along.1)
    settle_in_front ys n w (Name k ∷ mid) split next ahead is here = absurd (no_name_first w k (mid ++ (right ++ word v)) next)

    settle_cases : {ys : List Sym} {n : ℕ} (w : List ℕ) {a : ℕ} {s : List Entry} → Splits before (right ++ word v) ys (Name n) (word w) → a ≡ first_or (end_mark g) w → IsStack t 0 s → symbols s ≡ ys ++ Name n ∷ [] → Settles t 0 a s
    settle_cases {ys} {n} w (in_first mid split next) ahead is here = settle_in_front ys n w mid split next ahead is here
    settle_cases {n = n} w (in_second mid split next) ahead is here = settle_in_right w split (splits right (word v) mid (Name n) (word w) next) ahead is here

    settle_replaced : {zs : List Sym} → zs ≡ before ++ (right ++ word v) → Claim g t zs
    settle_replaced to ys n w a s here less ahead is on = settle_cases w (splits before (right ++ word v) ys (Name n) (word w) (sym to ∙ here)) ahead is on

  one_name : {n m : ℕ} (ys back : List Sym) → Name m ∷ [] ≡ ys ++ Name n ∷ back → n ≡ m
  one_name [] back e = cc
  one_name (x ∷ []) back e = absurd (cc)
  one_name (x ∷ y ∷ ys) back e = absurd (cc)

  claim_unchanged : {zs : List Sym} → zs ≡ Name g.names ∷ [] → Claim g t zs
  claim_unchanged e ys n w a s here less ahead is on = let same = one_name ys (word w) (sym e ∙ here) in absurd (omega (arith, less, same))

  claim_all : {zs : List Sym} → IsReached g zs → Claim g t zs
  claim_all (unchanged e) = claim_unchanged e
  claim_all (replaced before v reached at rule to) = settle_replaced before v rule reached at (claim_all reached) to

  settle_reduced : {s : List Entry} {a r : ℕ} → IsReduced g t s a r → Settles t 0 a s
  settle_reduced {a = a} {r = r} by =
      after_one by.move (claim_all by.reached (symbols by.rest) by.name by.ahead a _ refl (lawful.range.lefts r by.name by.right by.own) by.first by.stack refl)

  pub settle : {s : List Entry} {a : ℕ} → IsStack t 0 s → act_in t (top 0 s) a ≢ Error → Settles t 0 a s
  settle {s} {a} is acts = cases (act_in t (top 0 s) a) refl
    where
      cases : (act : Act) → act_in t (top 0 s) a ≡ act → Settles t 0 a s
      cases (Shift p) e = shift_comes e
      cases (Reduce r) e = settle_reduced (reduction lawful is e)
      cases Accept e = accept_comes e
      cases Error e = absurd (acts e)

pub reductions_end_law : ReductionsEndLaw
reductions_end_law g t lawful s a is acts = settle lawful is acts
