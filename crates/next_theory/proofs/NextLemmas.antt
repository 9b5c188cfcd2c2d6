-- What comes next behind symbols, by chains of items and by derivations.
use Rattle.std.proofs.Common.{◌≡◌, ℕ, ◌+◌, ◌<◌, List, [], ◌∷◌, ◌++◌, length, refl, sym, ap, ◌∙◌, subst, ⊎_elim, append_assoc, append-nil, arith}
use Rattle.std.proofs.lemmas.List.{same_from_push, append_cancel_right}
use Rattle.std.proofs.lemmas.Option.{slice_get_within}
use Rattle.grammar_data.specs.declared.rule.Sym.{Sym}
use Rattle.grammar_data.specs.declared.rule.Sym.TheVariants.{Token, Name}
use Rattle.grammar_data.specs.Grammar.{Rule, Grammar}
use Rattle.grammar_theory.specs.Rules.{IsRule, IsInRange, word, end_mark}
use Rattle.grammar_theory.specs.Derivations.{Derives, done, token_first, name_first, IsSentence, GoesOn, goes_on, ends}
use Rattle.grammar_theory.specs.UsefulNames.{AllProductive}
use Rattle.grammar_theory.specs.FirstTokens.{Follows}
use Rattle.grammar_theory.proofs.DerivationLemmas.{ByRule, by_rule, derives_append, derives_by_rule, derives_fold, derives_word}
use Rattle.grammar_theory.proofs.RuleLemmas.{names_back, rule_once, same_parts}
use Rattle.grammar_theory.proofs.UsefulLemmas.{DerivesSome, derives_some, some_below}
use Rattle.item_theory.specs.Items.{Item, Dotted, Rightmost, unchanged, replaced, IsReached, all_rules, first_or, IsValid, valid, Deed, Reduce, Accept, Shift, Does, shifts, reduces, accepts}
use Rattle.item_theory.specs.Chains.{moves, opens, IsChained, begins, over, into}
use Rattle.item_theory.proofs.ItemLemmas.{own_rule, WhichRule, is_own, is_last, which_rule, rule_of_name, right_names, derives_own, derives_all, dotted_once, dotted_moved, item_same, moved}
use Rattle.item_theory.proofs.ChainLemmas.{IsAhead, is_ahead, ahead_of_follows, follows_of_ahead, first_or-append, chain_valid, valid_into}
use Rattle.item_theory.proofs.LeadLemmas.{LedTo, led_to, dot_over, valid_chain}
use Rattle.item_theory.proofs.ItemLaws.{augmented_items_law}
use Rattle.next_theory.specs.ComingNext.{ComesNext, ComesBehind, NextBackLaw, NextDeedLaw, NextOpenLaw, NextCloseLaw, NextSentenceLaw}

nil_push : (xs : List Sym) (x : Sym) → [] ≡ xs ++ x ∷ [] → ⊥
nil_push [] x e = cc
nil_push (y ∷ xs) x e = cc

-- ---- back over one symbol

ahead_through : (g : Grammar) {m r a b c : ℕ} {right after : List Sym} → IsRule g.rules r m right → IsAhead g right b c → IsAhead g after a b → IsAhead g (Name m ∷ after) a c
ahead_through g {a = a} rule (is_ahead {u = u} d e) (is_ahead {u = w} rest at) =
    is_ahead (name_first rule d rest refl) (e ∙ ap (λ l. first_or l u) at ∙ first_or-append a u w)

-- the rule of an item that is opened is one of the grammar
opened_rule : (g : Grammar) → IsInRange g → {i j : Item} {n m : ℕ} {before after right : List Sym} → Dotted g i n before (Name m ∷ after) → Dotted g j m [] right → IsRule g.rules j.rule m right
opened_rule g range {m = m} {before = before} {after = after} dotted front =
    rule_of_name g (names_back (λ k. k < g.names) before (Name m ∷ after) (right_names g range dotted.rule)).0 front.rule

back_moved : (g : Grammar) {i j : Item} {us xs : List Sym} {x y : Sym} {n m a : ℕ} {before after front back : List Sym} → IsChained g us i → Dotted g i n before (y ∷ after) → j ≡ moved i → (us ≡ xs) × (y ≡ x) → Dotted g j m front back → Follows g back j.ahead a → ComesBehind g xs x a
back_moved g {i} {j} {us} {xs} {x} {y} {n} {m} {a} {before} {after} {front} {back} c place e same dotted follows =
    let parts = dotted_once (subst (λ k. Dotted g k m front back) e dotted) (dotted_moved before place) in
    record {
      item = i;
      name = n;
      before = before;
      after = after;
      is_valid = subst (λ l. IsValid g l i) same.0 (chain_valid g c);
      dotted = subst (λ z. Dotted g i n before (z ∷ after)) same.1 place;
      follows = subst (λ l. Follows g l i.ahead a) parts.2 (subst (λ (k : Item). Follows g back k.ahead a) e follows);
    }

module _ (g : Grammar) (range : IsInRange g) where
  pub next_back : {ys : List Sym} {j : Item} → IsChained g ys j → (xs : List Sym) (x : Sym) → ys ≡ xs ++ x ∷ [] → {m a : ℕ} {front back : List Sym} → Dotted g j m front back → Follows g back j.ahead a → ComesBehind g xs x a
  next_back (begins e) xs x at dotted follows = absurd (nil_push xs x at)
  next_back (over {x = y} {xs = us} c (moves n before after place e) to) xs x at dotted follows =
      back_moved g c place e (same_from_push us xs y x (sym to ∙ at)) dotted follows
  next_back (into {j = j} c (opens n k before after right place front_place ahead)) xs x at {a = a} {back = back} dotted follows =
      let parts = dotted_once dotted front_place in
      next_back c xs x at place
      (follows_of_ahead g (ahead_through g (opened_rule g range place front_place)
      (subst (λ l. IsAhead g l j.ahead a) parts.2 (ahead_of_follows g back follows))
      (ahead_of_follows g after ahead)))

pub next_back_law : NextBackLaw
next_back_law g range xs x a next = next_back g range (valid_chain g range next.is_valid) xs x refl next.dotted next.follows

-- ---- what items do

-- some valid item does something on the token
abbrev Acts : Grammar → List Sym → ℕ → Type 0
Acts g xs a = (i : Item) × (deed : Deed) × IsValid g xs i × Does g i a deed

pub augmented_ahead : (g : Grammar) → IsInRange g → {xs : List Sym} {i : Item} → IsValid g xs i → i.rule ≡ length g.rules → i.ahead ≡ end_mark g
augmented_ahead g range {xs} {i} v last =
    ⊎_elim (λ at. ap (λ (k : Item). k.ahead) at.1) (λ at. ap (λ (k : Item). k.ahead) at.1) ((augmented_items_law g range xs i last).0 v)

acts_at_end : (g : Grammar) → IsInRange g → {xs : List Sym} {i : Item} {n a : ℕ} {right before : List Sym} → IsValid g xs i → Dotted g i n before [] → a ≡ i.ahead → WhichRule g i.rule n right → Acts g xs a
acts_at_end g range {i = i} {n = n} {right = right} v dotted e (is_own own) = (i, Reduce i.rule, v, reduces dotted (slice_get_within g.rules i.rule (n, right) own.found) (sym e) refl)
acts_at_end g range {i = i} v dotted e (is_last at left same) = (i, Accept, v, accepts dotted at (e ∙ augmented_ahead g range v at))

module _ (g : Grammar) (range : IsInRange g) where
  acts_next : {after : List Sym} {u : List ℕ} → Derives g.rules after u → {xs : List Sym} {a : ℕ} (i : Item) (n : ℕ) (before : List Sym) → IsValid g xs i → Dotted g i n before after → a ≡ first_or i.ahead u → Acts g xs a
  acts_next done i n before v dotted e = acts_at_end g range v dotted e (which_rule g dotted.rule)
  acts_next (token_first {a = b} d) {xs = xs} i n before v dotted e = subst (λ c. Acts g xs c) (sym e) (i, Shift, v, shifts dotted)
  acts_next (name_first {n = m} {r = r} {right = right} {xs = after} {u = u} {v = w} rule d rest at) i n before v dotted e =
      acts_next d (record { rule = r; dot = 0; ahead = first_or i.ahead w }) m []
      (valid_into g v (opens n m before after right dotted (record { rule = own_rule g rule; dot = refl }) (follows_of_ahead g (is_ahead rest refl))))
      (record { rule = own_rule g rule; dot = refl })
      (e ∙ ap (first_or i.ahead) at ∙ sym (first_or-append i.ahead u w))

  acts_of_ahead : {xs after before : List Sym} {i : Item} {n a : ℕ} → IsValid g xs i → Dotted g i n before after → IsAhead g after i.ahead a → Acts g xs a
  acts_of_ahead {before = before} {i = i} {n = n} v dotted (is_ahead d e) = acts_next d i n before v dotted e

  pub acts_of_next : {xs : List Sym} {a : ℕ} → ComesNext g xs a → Acts g xs a
  acts_of_next next = acts_of_ahead next.is_valid next.dotted (ahead_of_follows g next.after next.follows)

  next_by : {xs : List Sym} {i : Item} {n a : ℕ} (before after : List Sym) → IsValid g xs i → Dotted g i n before after → IsAhead g after i.ahead a → ComesNext g xs a
  next_by {i = i} {n = n} before after v dotted ahead = record { item = i; name = n; before = before; after = after; is_valid = v; dotted = dotted; follows = follows_of_ahead g ahead }

  ahead_of_token : {after : List Sym} {a b : ℕ} → DerivesSome g.rules after → IsAhead g (Token a ∷ after) b a
  ahead_of_token (derives_some d) = is_ahead (token_first d) refl

  pub next_of_act : AllProductive g → {xs : List Sym} {i : Item} {a : ℕ} {deed : Deed} → IsValid g xs i → Does g i a deed → ComesNext g xs a
  next_of_act all {a = a} v (shifts {before = before} {after = after} dotted) =
      next_by before (Token a ∷ after) v dotted (ahead_of_token (some_below g all after (names_back (λ k. k < g.names) before (Token a ∷ after) (right_names g range dotted.rule))))
  next_of_act all v (reduces {before = before} dotted less at is) = next_by before [] v dotted (is_ahead done (sym at))
  next_of_act all v (accepts {before = before} dotted last at) = next_by before [] v dotted (is_ahead done (at ∙ sym (augmented_ahead g range v last)))

pub next_deed_law : NextDeedLaw
next_deed_law g range all xs a = (λ next. acts_of_next g range next, λ (i, deed, v, does). next_of_act g range all v does)

-- ---- opening and closing a rule

valid_of_led : (g : Grammar) {xs : List Sym} {r n d a : ℕ} {before after : List Sym} → d ≡ length before → LedTo g xs r n before after a → IsValid g xs (record { rule = r; dot = d; ahead = a })
valid_of_led g {xs} e (led_to j c rule place ahead) = subst (λ k. IsValid g xs k) (item_same rule (place.dot ∙ sym e) ahead) (chain_valid g c)

pub next_open : (g : Grammar) → IsInRange g → (xs read more : List Sym) (n r a : ℕ) → IsRule g.rules r n (read ++ more) → ComesBehind g xs (Name n) a → IsValid g (xs ++ read) (record { rule = r; dot = length read; ahead = a })
next_open g range xs read more n r a rule next =
    let front : Dotted g (record { rule = r; dot = 0; ahead = a }) n [] (read ++ more) = record { rule = own_rule g rule; dot = refl } in
    valid_of_led g refl
    (dot_over g read [] {after = more} (into (valid_chain g range next.is_valid) (opens next.name n next.before next.after (read ++ more) next.dotted front next.follows)) refl front refl refl refl)

pub next_open_law : NextOpenLaw
next_open_law g range xs read more n r a rule next = next_open g range xs read more n r a rule (next_back_law g range xs (Name n) a next)

zero_suc : (d k : ℕ) → d ≡ 0 → d ≡ k + 1 → ⊥
zero_suc d k e f = omega (arith, e, f)

-- a chain that leads to an item with the dot in front of a rule of the grammar ends by opening it
next_of_front : (g : Grammar) → IsInRange g → {xs : List Sym} {j : Item} {n : ℕ} {right : List Sym} → IsChained g xs j → j.dot ≡ 0 → IsRule g.rules j.rule n right → ComesNext g (xs ++ Name n ∷ []) j.ahead
next_of_front g range {j = j} {n = n} {right = right} (begins e) zero rule =
    let less = slice_get_within g.rules j.rule (n, right) rule.found in
    let last = ap (λ (k : Item). k.rule) e in
    absurd (omega (arith, less, last))
next_of_front g range (over {i = i} {j = j} c (moves m before after place e) to) zero rule = absurd (zero_suc j.dot i.dot zero (ap (λ (k : Item). k.dot) e))
next_of_front g range {xs} {j} {n} (into {i = i} c (opens k m before after right place front follows)) zero rule =
    let same : m ≡ n = (rule_once front.rule (own_rule g rule)).0 in
    let here : Dotted g i k before (Name n ∷ after) = subst (λ l. Dotted g i k before (Name l ∷ after)) same place in
    record {
      item = moved i;
      name = k;
      before = before ++ Name n ∷ [];
      after = after;
      is_valid = chain_valid g (over c (moves k before after here refl) refl);
      dotted = dotted_moved before here;
      follows = follows;
    }

close_parts : (g : Grammar) → IsInRange g → (xs right : List Sym) {n r a : ℕ} → IsRule g.rules r n right → {m : ℕ} (front before after : List Sym) (w : List ℕ) → IsReached g (front ++ Name m ∷ word w) → Dotted g (record { rule = r; dot = length right; ahead = a }) m before after → a ≡ first_or (end_mark g) w → xs ++ right ≡ front ++ before → ComesNext g (xs ++ Name n ∷ []) a
close_parts g range xs right {n} {r} {a} rule {m} front before after w reached dotted ahead at =
    let same = rule_once dotted.rule (own_rule g rule) in
    let parts = same_parts before after right [] (same.1 ∙ sym (append-nil right)) (sym dotted.dot) in
    let place : xs ≡ front = append_cancel_right xs front right (at ∙ ap (λ l. front ++ l) parts.0) in
    next_of_front g range {j = record { rule = r; dot = 0; ahead = a }}
    (valid_chain g range (valid m front [] (before ++ after) w reached (record { rule = dotted.rule; dot = refl }) ahead (place ∙ sym (append-nil front))))
    refl rule

pub next_close : (g : Grammar) → IsInRange g → (xs right : List Sym) {ys : List Sym} {n r a : ℕ} → IsRule g.rules r n right → ys ≡ xs ++ right → IsValid g ys (record { rule = r; dot = length right; ahead = a }) → ComesNext g (xs ++ Name n ∷ []) a
next_close g range xs right rule to (valid m front before after w reached dotted ahead at) = close_parts g range xs right rule front before after w reached dotted ahead (sym to ∙ at)

pub next_close_law : NextCloseLaw
next_close_law g range xs right n r a rule v = next_close g range xs right rule refl v

-- ---- sentences

-- what is derived after a rightmost derivation was derived before it
rightmost_back : {rules : List Rule} {from ys : List Sym} → Rightmost rules from ys → {w : List ℕ} → Derives rules ys w → Derives rules from w
rightmost_back {rules} (unchanged e) {w} d = subst (λ l. Derives rules l w) e d
rightmost_back {rules} (replaced before v s at rule to) {w} d =
    rightmost_back s (subst (λ l. Derives rules l w) (sym at) (derives_fold before (word v) rule (subst (λ l. Derives rules l w) to d)))

sentence_by_rule : (g : Grammar) → IsInRange g → {w : List ℕ} → ByRule (all_rules g) g.names w → IsSentence g w
sentence_by_rule g range {w} (by_rule {r = r} {right = right} rule d) = cases (which_rule g rule)
  where
    cases : WhichRule g r g.names right → IsSentence g w
    cases (is_own own) = let less = range.lefts r g.names right own in absurd (omega (arith, less))
    cases (is_last at left e) = derives_own g range (range.start, tt) (subst (λ l. Derives (all_rules g) l w) e d)

pub reached_sentence : (g : Grammar) → IsInRange g → {xs : List Sym} {w : List ℕ} → IsReached g xs → Derives g.rules xs w → IsSentence g w
reached_sentence g range reached d = sentence_by_rule g range (derives_by_rule (rightmost_back reached (derives_all g d)))

pub going : (g : Grammar) (u w : List ℕ) {a : ℕ} → IsSentence g (u ++ w) → a ≡ first_or (end_mark g) w → GoesOn g u a
going g u [] d e = ends e (subst (λ l. IsSentence g l) (append-nil u) d)
going g u (b ∷ w) d e = goes_on w (subst (λ c. IsSentence g (u ++ c ∷ w)) (sym e) d)

sentence_parts : (g : Grammar) → IsInRange g → {xs : List Sym} {u : List ℕ} {i : Item} {n a : ℕ} (front before after : List Sym) (w : List ℕ) → Derives g.rules xs u → IsReached g (front ++ Name n ∷ word w) → Dotted g i n before after → i.ahead ≡ first_or (end_mark g) w → xs ≡ front ++ before → IsAhead g after i.ahead a → GoesOn g u a
sentence_parts g range {xs} {u} {i} {n} {a} front before after w d reached dotted ahead at (is_ahead {u = v} rest e) =
    going g u (v ++ w)
    (reached_sentence g range (replaced front w reached refl dotted.rule refl)
    (subst (λ l. Derives g.rules l (u ++ (v ++ w))) line (derives_append d (derives_append rest (derives_word w)))))
    (e ∙ ap (λ l. first_or l v) ahead ∙ first_or-append (end_mark g) v w)
  where
    line : xs ++ (after ++ word w) ≡ front ++ ((before ++ after) ++ word w)
    line = ap (λ l. l ++ (after ++ word w)) at ∙ append_assoc front before (after ++ word w) ∙ ap (λ l. front ++ l) (sym (append_assoc before after (word w)))

next_sentence : (g : Grammar) → IsInRange g → {xs : List Sym} {u : List ℕ} {i : Item} {n a : ℕ} {before after : List Sym} → Derives g.rules xs u → IsValid g xs i → Dotted g i n before after → Follows g after i.ahead a → GoesOn g u a
next_sentence g range {i = i} {a = a} {after = after} d (valid m front head tail w reached place ahead at) dotted follows =
    let parts = dotted_once dotted place in
    sentence_parts g range front head tail w d reached place ahead at (subst (λ l. IsAhead g l i.ahead a) parts.2 (ahead_of_follows g after follows))

pub next_sentence_law : NextSentenceLaw
next_sentence_law g range xs u a d next = next_sentence g range d next.is_valid next.dotted next.follows
