-- It isn't refuted that the valid items of a list are had as entries: rule by rule, and dot by dot.
use Rattle.std.proofs.Common.{◌≡◌, ℕ, zero, suc, ◌+◌, ◌<◌, ◌↔◌, ◌⊎◌, inl, inr, ⊎_elim, All, IsTrue, List, [], ◌∷◌, ◌++◌, length, get_or, refl, sym, ap, subst, ◌∙◌, arith}
use Rattle.std.proofs.lemmas.Bool.{or_left, or_right, false≢true, cases_lt}
use Rattle.std.proofs.lemmas.List.{length-append}
use Rattle.std.proofs.lemmas.List.Elements.{All-nil, All-push, All-weaker}
use Rattle.std.proofs.lemmas.List.Folds.{list_any-append}
use Rattle.std.proofs.lemmas.List.Quantifiers.{all_pairs_push}
use Rattle.std.proofs.lemmas.Option.{get_or_from_slice_get}
use Rattle.grammar_data.specs.declared.rule.Sym.{Sym}
use Rattle.grammar_data.specs.Grammar.{Rule, Grammar}
use Rattle.grammar_theory.specs.Rules.{IsInRange}
use Rattle.item_theory.specs.Items.{Item, Dotted, IsValid, valid, all_rules}
use Rattle.item_theory.proofs.ItemLemmas.{item_same}
use Rattle.item_theory.proofs.ItemLaws.{item_range_law}
use Rattle.collection_data.specs.declared.entry.Entry.{Entry}
use Rattle.collection_data.specs.Entries.{entry_has, entries_have, IsEntryBefore, IsEntry, AreEntries}
use Rattle.collection_data.proofs.EntryLemmas.{entry_parts, entry_from, have_pushed}
use Rattle.state_laws.proofs.RefutedLemmas.{NotRefuted, decided}
use Rattle.collection_laws.proofs.SetLemmas.{IsSetBelow, set_found}

-- ---- valid items in range

-- the item has its dot between symbols of its rule
abbrev HasDot : Grammar → Item → Type 0
HasDot g i = (n : ℕ) × (before : List Sym) × (after : List Sym) × Dotted g i n before after

dot_of : {g : Grammar} {xs : List Sym} {i : Item} → IsValid g xs i → HasDot g i
dot_of (valid n front before after w reached dotted ahead e) = (n, before, after, dotted)

-- the dots of a rule are below this
abbrev dot_bound : Grammar → ℕ → ℕ
dot_bound g r = suc (length (get_or (all_rules g) r (0, [])).1)

dot_within : (g : Grammar) (i : Item) (r : ℕ) → i.rule ≡ r → HasDot g i → i.dot < dot_bound g r
dot_within g i r same (n, before, after, dotted) =
    let own : length (get_or (all_rules g) i.rule (0, [])).1 ≡ length (before ++ after) = ap (λ (p : Rule). length p.1) (get_or_from_slice_get (all_rules g) i.rule (n, before ++ after) (0, []) dotted.rule.found) in
    let rule : length (get_or (all_rules g) i.rule (0, [])).1 ≡ length (get_or (all_rules g) r (0, [])).1 = ap (λ k. length (get_or (all_rules g) k (0, [])).1) same in
    let at = dotted.dot in
    omega (arith, length-append before after)

abbrev item : ℕ → ℕ → ℕ → Item
item r d a = record { rule = r; dot = d; ahead = a }

-- an entry of the rule and the dot, for what the order says of it
abbrev entry : ℕ → ℕ → List ℕ → Entry
entry r d words = record { rule = r; dot = d; ahead = words }

abbrev IsSpotBefore : Item → ℕ → ℕ → Type 0
IsSpotBefore i r d = (i.rule < r) ⊎ ((i.rule ≡ r) × (i.dot < d))

-- the entries have the valid items before a rule and a dot
record IsListedTo (g : Grammar) (xs : List Sym) (r d : ℕ) (es : List Entry) : Type 0 where
  pub are : AreEntries g es
  pub below : All (λ (e : Entry). IsEntryBefore e (entry r d [])) es
  pub have : (i : Item) → IsTrue (entries_have es i) ↔ (IsValid g xs i × IsSpotBefore i r d)

module _ (g : Grammar) (range : IsInRange g) (few : g.tokens < 256) (xs : List Sym) where
  abbrev Listed : ℕ → ℕ → Type 0
  Listed r d = (es : List Entry) × IsListedTo g xs r d es

  listed_begin : IsListedTo g xs 0 0 []
  listed_begin = record {
    are = record { rising = λ i j d less within. absurd (omega arith); each = All-nil (IsEntry g) };
    below = All-nil (λ (e : Entry). IsEntryBefore e (entry 0 0 []));
    have = λ i. (λ h. absurd (false≢true h), λ h. absurd (none i h.1));
  }
    where
      none : (i : Item) → IsSpotBefore i 0 0 → ⊥
      none i (inl less) = omega arith
      none i (inr (same, less)) = omega arith

  module _ (r d : ℕ) (es : List Entry) (listed : IsListedTo g xs r d es) where
    later : (e : Entry) → IsEntryBefore e (entry r d []) → IsEntryBefore e (entry r (suc d) [])
    later e (inl less) = inl less
    later e (inr (same, less)) = inr (same, omega arith)

    later_spot : (i : Item) → IsSpotBefore i r d → IsSpotBefore i r (suc d)
    later_spot i (inl less) = inl less
    later_spot i (inr (same, less)) = inr (same, omega arith)

    here_or_before : (i : Item) → IsSpotBefore i r (suc d) → IsSpotBefore i r d ⊎ ((r ≡ i.rule) × (d ≡ i.dot))
    here_or_before i (inl less) = inl (inl less)
    here_or_before i (inr (same, less)) = ⊎_elim (λ lower. inl (inr (same, lower))) (λ upper. inr (sym same, omega arith)) (cases_lt i.dot d)

    valid_same : (i : Item) → r ≡ i.rule → d ≡ i.dot → IsValid g xs i → IsValid g xs (item r d i.ahead)
    valid_same i rule dot v = subst (λ j. IsValid g xs j) (item_same {i = i} {j = item r d i.ahead} (sym rule) (sym dot) refl) v

    same_valid : (i : Item) → r ≡ i.rule → d ≡ i.dot → IsValid g xs (item r d i.ahead) → IsValid g xs i
    same_valid i rule dot v = subst (λ j. IsValid g xs j) (item_same {i = item r d i.ahead} {j = i} rule dot refl) v

    listed_same : (((a : ℕ) × IsValid g xs (item r d a)) → ⊥) → IsListedTo g xs r (suc d) es
    listed_same none = record {
      are = listed.are;
      below = All-weaker _ _ later es listed.below;
      have = λ i. (λ h. let old = (listed.have i).0 h in (old.0, later_spot i old.1), λ h. back i h.0 (here_or_before i h.1));
    }
      where
        back : (i : Item) → IsValid g xs i → IsSpotBefore i r d ⊎ ((r ≡ i.rule) × (d ≡ i.dot)) → IsTrue (entries_have es i)
        back i v (inl before) = (listed.have i).1 (v, before)
        back i v (inr (rule, dot)) = absurd (none (i.ahead, valid_same i rule dot v))

    module _ (words : List ℕ) (aheads : IsSetBelow (λ a. IsValid g xs (item r d a)) 256 words) (a : ℕ) (has : IsValid g xs (item r d a)) where
      ahead_small : (i : Item) → IsValid g xs i → i.ahead < 256
      ahead_small i v = let le = (item_range_law g range xs i v).ahead in omega arith

      new_entry : HasDot g (item r d a) → IsEntry g (entry r d words)
      new_entry (n, before, after, dotted) = record {
        name = n;
        right = before ++ after;
        rule = dotted.rule;
        dot = (let at = dotted.dot in omega (arith, length-append before after));
        set = aheads.set;
        ahead = a;
        has = (aheads.have a).1 (has, ahead_small (item r d a) has);
      }

      abbrev more : List Entry
      more = es ++ entry r d words ∷ []

      there : (i : Item) → IsTrue (entries_have es i) ⊎ IsTrue (entry_has (entry r d words) i) → IsValid g xs i × IsSpotBefore i r (suc d)
      there i (inl h) = let old = (listed.have i).0 h in (old.0, later_spot i old.1)
      there i (inr h) =
          let (rule, dot, ahead) = entry_parts (entry r d words) i h in
          (same_valid i rule dot ((aheads.have i.ahead).0 ahead).0, inr (sym rule, omega arith))

      back : (i : Item) → IsValid g xs i → IsSpotBefore i r d ⊎ ((r ≡ i.rule) × (d ≡ i.dot)) → IsTrue (entries_have more i)
      back i v (inl before) = list_any-append (λ (e : Entry). entry_has e i) es (entry r d words ∷ []) ∙ or_left _ _ ((listed.have i).1 (v, before))
      back i v (inr (rule, dot)) =
          list_any-append (λ (e : Entry). entry_has e i) es (entry r d words ∷ [])
          ∙ or_right _ _ (or_left _ _ (entry_from (entry r d words) i rule dot ((aheads.have i.ahead).1 (valid_same i rule dot v, ahead_small i v))))

      listed_more : IsListedTo g xs r (suc d) more
      listed_more = record {
        are = record {
          rising = all_pairs_push IsEntryBefore es (entry r d words) listed.are.rising listed.below;
          each = All-push (IsEntry g) es (entry r d words) listed.are.each (new_entry (dot_of has));
        };
        below = All-push (λ (e : Entry). IsEntryBefore e (entry r (suc d) [])) es (entry r d words) (All-weaker _ _ later es listed.below) (inr (refl, omega arith));
        have = λ i. (λ h. there i (have_pushed es (entry r d words) i h), λ h. back i h.0 (here_or_before i h.1));
      }

  dot_listed : (r d : ℕ) → Listed r d → NotRefuted (Listed r (suc d))
  dot_listed r d (es, listed) refuted = decided ((a : ℕ) × IsValid g xs (item r d a)) (λ some. ⊎_elim
      (λ one. set_found (λ a. IsValid g xs (item r d a)) 256 (omega arith) (λ words. refuted (es ++ entry r d words.0 ∷ [], listed_more r d es listed words.0 words.1 one.0 one.1)))
      (λ none. refuted (es, listed_same r d es listed none))
      some)

  dots_listed : (r left d bound : ℕ) → d + left ≡ bound → Listed r d → NotRefuted (Listed r bound)
  dots_listed r zero d bound all here refuted = let last : d ≡ bound = omega arith in refuted (subst (λ k. Listed r k) last here)
  dots_listed r (suc left) d bound all here refuted = dot_listed r d here (λ next. dots_listed r left (suc d) bound (omega arith) next refuted)

  rule_done : (r : ℕ) → Listed r (dot_bound g r) → Listed (suc r) 0
  rule_done r (es, listed) = (
    es,
    record {
      are = listed.are;
      below = All-weaker _ _ entry_later es listed.below;
      have = λ i. (λ h. let old = (listed.have i).0 h in (old.0, spot_later i old.1), λ h. (listed.have i).1 (h.0, spot_back i h.0 h.1));
    },
  )
    where
      entry_later : (e : Entry) → IsEntryBefore e (entry r (dot_bound g r) []) → IsEntryBefore e (entry (suc r) 0 [])
      entry_later e (inl less) = inl (omega arith)
      entry_later e (inr (same, less)) = inl (omega arith)

      spot_later : (i : Item) → IsSpotBefore i r (dot_bound g r) → IsSpotBefore i (suc r) 0
      spot_later i (inl less) = inl (omega arith)
      spot_later i (inr (same, less)) = inl (omega arith)

      below_or_same : (m n : ℕ) → m < suc n → (m < n) ⊎ (m ≡ n)
      below_or_same m n h = grind arith

      spot_back : (i : Item) → IsValid g xs i → IsSpotBefore i (suc r) 0 → IsSpotBefore i r (dot_bound g r)
      spot_back i v (inl less) = ⊎_elim (λ lower. inl lower) (λ same. inr (same, dot_within g i r same (dot_of v))) (below_or_same i.rule r less)
      spot_back i v (inr (same, less)) = absurd (omega arith)

  rules_listed : (left r bound : ℕ) → r + left ≡ bound → Listed r 0 → NotRefuted (Listed bound 0)
  rules_listed zero r bound all here refuted = let last : r ≡ bound = omega arith in refuted (subst (λ k. Listed k 0) last here)
  rules_listed (suc left) r bound all here refuted =
      dots_listed r (dot_bound g r) 0 (dot_bound g r) (omega arith) here
      (λ row. rules_listed left (suc r) bound (omega arith) (rule_done r row) refuted)

  -- entries with exactly the items that are valid for the list
  abbrev pub HasEntries : Type 0
  HasEntries = (es : List Entry) × AreEntries g es × ((i : Item) → IsTrue (entries_have es i) ↔ IsValid g xs i)

  whole : Listed (suc (length g.rules)) 0 → HasEntries
  whole (es, listed) = (es, listed.are, λ i. (λ h. ((listed.have i).0 h).0, λ v. (listed.have i).1 (v, inl (let le = (item_range_law g range xs i v).rule in omega arith))))

  pub entries_found : NotRefuted HasEntries
  entries_found refuted = rules_listed (suc (length g.rules)) 0 (suc (length g.rules)) (omega arith) ([], listed_begin) (λ found. refuted (whole found))
