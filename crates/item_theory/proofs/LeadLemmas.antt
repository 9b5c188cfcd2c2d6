-- A chain of items leads to each valid item.
use Rattle.std.proofs.Common.{◌≡◌, ℕ, ◌<◌, List, [], ◌∷◌, ◌++◌, refl, sym, ap, ◌∙◌, subst, append_assoc, append-nil, arith}
use Rattle.grammar_data.specs.declared.rule.Sym.{Sym}
use Rattle.grammar_data.specs.declared.rule.Sym.TheVariants.{Name}
use Rattle.grammar_data.specs.Grammar.{Grammar}
use Rattle.grammar_theory.specs.Rules.{IsRule, IsInRange, NamesBelow, word, end_mark}
use Rattle.grammar_theory.specs.Derivations.{Derives}
use Rattle.grammar_theory.proofs.Lists.{Splits, in_first, in_second, splits}
use Rattle.grammar_theory.proofs.DerivationLemmas.{Halves, halves, derives_split, derives_fold, derives_word, derives_word_alone}
use Rattle.grammar_theory.proofs.RuleLemmas.{names_back}
use Rattle.item_theory.specs.Items.{Item, Dotted, unchanged, replaced, IsReached, all_rules, first_or, IsValid, valid}
use Rattle.item_theory.specs.Chains.{first_item, moves, opens, IsChained, begins, over, into}
use Rattle.item_theory.proofs.ItemLemmas.{WhichRule, is_own, is_last, which_rule, right_names, derives_own, item_same, dotted_moved}
use Rattle.item_theory.proofs.ChainLemmas.{is_ahead, follows_of_ahead, first_or-append}

-- a chain leads to an item of this rule, with the dot between these symbols and this lookahead
pub data LedTo (g : Grammar) (xs : List Sym) (r n : ℕ) (before after : List Sym) (ahead : ℕ) : Type 0 where
  led_to : (i : Item) → IsChained g xs i → i.rule ≡ r → Dotted g i n before after → i.ahead ≡ ahead → LedTo g xs r n before after ahead

-- the dot walks over symbols
pub dot_over : (g : Grammar) (mid before : List Sym) {xs ys front after : List Sym} {i : Item} {r n ahead : ℕ} → IsChained g xs i → i.rule ≡ r → Dotted g i n before (mid ++ after) → i.ahead ≡ ahead → ys ≡ xs ++ mid → front ≡ before ++ mid → LedTo g ys r n front after ahead
dot_over g [] before {xs = xs} {after = after} {i = i} {n = n} c rule dotted ahead to at =
    led_to i (subst (λ l. IsChained g l i) (sym (to ∙ append-nil xs)) c) rule (subst (λ l. Dotted g i n l after) (sym (at ∙ append-nil before)) dotted) ahead
dot_over g (x ∷ mid) before {xs = xs} {after = after} {n = n} c rule dotted ahead to at =
    dot_over g mid (before ++ x ∷ []) (over c (moves n before (mid ++ after) dotted refl) refl) rule (dotted_moved before dotted) ahead
    (to ∙ sym (append_assoc xs (x ∷ []) mid))
    (at ∙ sym (append_assoc before (x ∷ []) mid))

-- a chain leads to each item that a reached list has before it: at each name, with a lookahead that begins what stands
-- behind the name
abbrev pub Leads : Grammar → List Sym → Type 0
Leads g xs = (front : List Sym) (n : ℕ) (back : List Sym) → xs ≡ front ++ Name n ∷ back → (w : List ℕ) → Derives (all_rules g) back w → (right : List Sym) (i : Item) → Dotted g i n [] right → i.ahead ≡ first_or (end_mark g) w → IsChained g front i

no_name_in_word : (w : List ℕ) (mid : List Sym) (n : ℕ) (back : List Sym) → word w ≡ mid ++ Name n ∷ back → ⊥
no_name_in_word [] [] n back e = cc
no_name_in_word [] (x ∷ mid) n back e = cc
no_name_in_word (a ∷ w) [] n back e = cc
no_name_in_word (a ∷ w) (x ∷ mid) n back e = no_name_in_word w mid n back (cc)

module _ (g : Grammar) (range : IsInRange g) where
  -- the augmented name alone
  lead_first_item : {i : Item} {n : ℕ} {right : List Sym} → n ≡ g.names → WhichRule g i.rule n right → i.dot ≡ 0 → i.ahead ≡ end_mark g → i ≡ first_item g
  lead_first_item {i = i} {n = n} {right = right} e (is_own own) dot ahead = let less = range.lefts i.rule n right own in absurd (omega arith)
  lead_first_item e (is_last at left same) dot ahead = item_same at dot ahead

  one_name : {n m : ℕ} (front : List Sym) {back : List Sym} → Name m ∷ [] ≡ front ++ Name n ∷ back → (front ≡ []) × (n ≡ m) × (back ≡ [])
  one_name [] e = (refl, cc, cc)
  one_name (x ∷ []) e = absurd (cc)
  one_name (x ∷ y ∷ front) e = absurd (cc)

  derives_none : {rules : List _} {xs : List Sym} {w : List ℕ} → xs ≡ [] → Derives rules xs w → w ≡ []
  derives_none {rules} {w = w} e d = derives_word_alone [] (subst (λ l. Derives rules l w) e d)

  lead_unchanged : {xs : List Sym} → xs ≡ Name g.names ∷ [] → Leads g xs
  lead_unchanged e front n back at w d right i dotted ahead =
      let parts = one_name front (sym e ∙ at) in
      let first : i ≡ first_item g = lead_first_item parts.1 (which_rule g dotted.rule) dotted.dot (ahead ∙ ap (first_or (end_mark g)) (derives_none parts.2 d)) in
      subst (λ l. IsChained g l i) (sym parts.0) (begins first)

  -- a name of the new right side
  lead_opened : (w0 : List ℕ) {r m n : ℕ} {mid mid_two right : List Sym} {w : List ℕ} {i : Item} {xs : List Sym} → LedTo g xs r m mid (Name n ∷ mid_two) (first_or (end_mark g) w0) → Halves (all_rules g) mid_two (word w0) w → NamesBelow g.names mid_two → Dotted g i n [] right → i.ahead ≡ first_or (end_mark g) w → IsChained g xs i
  lead_opened w0 {m = m} {n = n} {mid = mid} {mid_two = mid_two} {right = right} (led_to j c rule dotted before) (halves {u = u} {v = v} d e at) below place ahead =
      into c (opens m n mid mid_two right dotted place
      (follows_of_ahead g (is_ahead (derives_own g range below d)
      (ahead ∙ ap (first_or (end_mark g)) (at ∙ ap (λ l. u ++ l) (derives_word_alone w0 e)) ∙ sym (first_or-append (end_mark g) u w0) ∙ ap (λ a. first_or a u) (sym before)))))

  module _ {r m : ℕ} {right_side : List Sym} (before : List Sym) (w0 : List ℕ) (rule : IsRule (all_rules g) r m right_side) {xs : List Sym} (at : xs ≡ before ++ Name m ∷ word w0) (leads : Leads g xs) where
    opened_item : Item
    opened_item = record { rule = r; dot = 0; ahead = first_or (end_mark g) w0 }

    lead_in_right : {front back mid : List Sym} {n : ℕ} → front ≡ before ++ mid → Splits right_side (word w0) mid (Name n) back → (w : List ℕ) → Derives (all_rules g) back w → (right : List Sym) (i : Item) → Dotted g i n [] right → i.ahead ≡ first_or (end_mark g) w → IsChained g front i
    unfolding opened_item
    lead_in_right {mid = mid} {n = n} here (in_first mid_two split rest) w d right i place ahead =
        lead_opened w0
        (dot_over g mid [] (leads before m (word w0) at w0 (derives_word w0) right_side opened_item (record { rule = rule; dot = refl }) refl) refl
        (record { rule = subst (λ l. IsRule (all_rules g) r m l) split rule; dot = refl }) refl here refl)
        (derives_split mid_two (word w0) (subst (λ l. Derives (all_rules g) l w) rest d))
        (names_back (λ k. k < g.names) (Name n ∷ []) mid_two (names_back (λ k. k < g.names) mid (Name n ∷ mid_two) (subst (λ l. NamesBelow g.names l) split (right_names g range rule))))
        place ahead
    lead_in_right {back = back} {n = n} here (in_second mid_two split rest) w d right i place ahead = absurd (no_name_in_word w0 mid_two n back rest)

    lead_cases : {front back : List Sym} {n : ℕ} → Splits before (right_side ++ word w0) front (Name n) back → (w : List ℕ) → Derives (all_rules g) back w → (right : List Sym) (i : Item) → Dotted g i n [] right → i.ahead ≡ first_or (end_mark g) w → IsChained g front i
    lead_cases {front = front} {n = n} (in_first mid split rest) w d right i place ahead =
        leads front n (mid ++ Name m ∷ word w0)
        (at ∙ ap (λ l. l ++ Name m ∷ word w0) split ∙ append_assoc front (Name n ∷ mid) (Name m ∷ word w0))
        w (derives_fold mid (word w0) rule (subst (λ l. Derives (all_rules g) l w) rest d)) right i place ahead
    lead_cases {back = back} {n = n} (in_second mid split rest) w d right i place ahead =
        lead_in_right split (splits right_side (word w0) mid (Name n) back rest) w d right i place ahead

    lead_replaced : {ys : List Sym} → ys ≡ before ++ (right_side ++ word w0) → Leads g ys
    lead_replaced to front n back here w d right i place ahead =
        lead_cases (splits before (right_side ++ word w0) front (Name n) back (sym to ∙ here)) w d right i place ahead

  pub leads_all : {xs : List Sym} → IsReached g xs → Leads g xs
  leads_all (unchanged e) = lead_unchanged e
  leads_all (replaced before w s at rule to) = lead_replaced before w rule at (leads_all s) to

  chain_of_led : {xs : List Sym} {i : Item} {n : ℕ} {before after : List Sym} → Dotted g i n before after → LedTo g xs i.rule n before after i.ahead → IsChained g xs i
  chain_of_led {xs} {i} dotted (led_to j c rule place ahead) = subst (λ k. IsChained g xs k) (item_same rule (place.dot ∙ sym dotted.dot) ahead) c

  pub valid_chain : {xs : List Sym} {i : Item} → IsValid g xs i → IsChained g xs i
  valid_chain {i = i} (valid n front before after w reached dotted ahead at) =
      chain_of_led dotted
      (dot_over g before [] {i = record { rule = i.rule; dot = 0; ahead = i.ahead }}
      (leads_all reached front n (word w) refl w (derives_word w) (before ++ after) (record { rule = i.rule; dot = 0; ahead = i.ahead }) (record { rule = dotted.rule; dot = refl }) ahead)
      refl (record { rule = dotted.rule; dot = refl }) refl at refl)
