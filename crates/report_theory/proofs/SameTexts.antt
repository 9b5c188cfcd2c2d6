-- The collection and the canonical tables of a grammar print in one way.
use Rattle.std.proofs.Common.{◌≡◌, ℕ, zero, suc, ◌+◌, ◌<◌, ◌≤◌, List, ◌++◌, refl, sym, ap, ◌∙◌, arith}
use Rattle.std.specs.Prelude.{codes}
use Rattle.std.specs.List.{flat_map, range_with_len}
use Rattle.std.proofs.lemmas.List.Concat.{flat_map-cons}
use Rattle.grammar_data.specs.declared.rule.Sym.TheVariants.{Token, Name}
use Rattle.grammar_data.specs.Grammar.{Grammar}
use Rattle.grammar_theory.specs.Rules.{end_mark}
use Rattle.item_theory.specs.Items.{Deed}
use Rattle.sheet_data.specs.Sheet.{Sheet}
use Rattle.collection_data.specs.Entries.{entries_have}
use Rattle.collection_data.specs.Collection.{CollectionParts, IsCollectionOf, has_item, items_in, state_count, step_in}
use Rattle.collection_data.proofs.TableLaws.{one_collection_law}
use Rattle.table_data.specs.declared.act.Act.{Act}
use Rattle.table_data.specs.Tables.{Tables, act_in, goto_in}
use Rattle.table_theory.specs.Clashes.{ItemsOf}
use Rattle.table_theory.specs.Deeds.{HasDeed}
use Rattle.table_theory.specs.Canonical.{AreCanonical, IsCanonicalAct}
use Rattle.table_theory.proofs.CanonicalLemmas.{canonical_once}
use Rattle.report_theory.specs.TableTexts.{entry_lines, act_line, act_lines, goto_line, goto_lines, last_number, state_text, tables_text}
use Rattle.report_theory.specs.SameTexts.{OneTextLaw}

flat_same : (f h : ℕ → List ℕ) (a n : ℕ) → ((k : ℕ) → k < a + n → f k ≡ h k) → flat_map f (range_with_len a n) ≡ flat_map h (range_with_len a n)
flat_same f h a zero same = refl
flat_same f h a (suc n) same =
    flat_map-cons f a (range_with_len (a + 1) n)
    ∙ ap (λ l. l ++ flat_map f (range_with_len (a + 1) n)) (same a (omega arith))
    ∙ ap (λ l. h a ++ l) (flat_same f h (a + 1) n (λ k less. same k (omega (arith, less))))
    ∙ sym (flat_map-cons h a (range_with_len (a + 1) n))

-- as many numbers, and the same lines for each
flat_both : (f h : ℕ → List ℕ) (m n : ℕ) → m ≡ n → ((k : ℕ) → k < m → f k ≡ h k) → flat_map f (range_with_len 0 m) ≡ flat_map h (range_with_len 0 n)
flat_both f h m n e same = flat_same f h 0 m (λ k less. same k (omega (arith, less))) ∙ ap (λ k. flat_map h (range_with_len 0 k)) e

module _ (sheet : Sheet) (c d : CollectionParts) (t u : Tables) (c_is : IsCollectionOf sheet.grammar c) (d_is : IsCollectionOf sheet.grammar d)
    (t_is : AreCanonical sheet.grammar (state_count c) (has_item c) (step_in c) t) (u_is : AreCanonical sheet.grammar (state_count d) (has_item d) (step_in d) u) where
  abbrev g : Grammar
  g = sheet.grammar

  same_count : state_count c ≡ state_count d
  same_count = (one_collection_law g c d c_is d_is).0

  same_items : (q : ℕ) → q < state_count c → items_in c q ≡ items_in d q
  same_items q less = ((one_collection_law g c d c_is d_is).1 q less).0

  deed_there : (q a : ℕ) → q < state_count c → (deed : Deed) → HasDeed g (ItemsOf (has_item c) q) a deed → HasDeed g (ItemsOf (has_item d) q) a deed
  deed_there q a less deed h = (h.0, ap (λ es. entries_have es h.0) (sym (same_items q less)) ∙ h.1, h.2)

  deed_here : (q a : ℕ) → q < state_count c → (deed : Deed) → HasDeed g (ItemsOf (has_item d) q) a deed → HasDeed g (ItemsOf (has_item c) q) a deed
  deed_here q a less deed h = (h.0, ap (λ es. entries_have es h.0) (same_items q less) ∙ h.1, h.2)

  act_here : (q a : ℕ) (act : Act) → q < state_count c → IsCanonicalAct g (has_item d) (step_in d) q a act → IsCanonicalAct g (has_item c) (step_in c) q a act
  act_here q a act less is = record {
    deed = λ deed. (λ e. deed_here q a less deed ((is.deed deed).0 e), λ h. (is.deed deed).1 (deed_there q a less deed h));
    target = λ p e. ((one_collection_law g c d c_is d_is).1 q less).1 (Token a) ∙ is.target p e;
  }

  same_act : (q a : ℕ) → q < state_count c → a ≤ end_mark g → act_in t q a ≡ act_in u q a
  same_act q a less within = canonical_once g (has_item c) (step_in c) q a (act_in t q a) (act_in u q a) (t_is.acts q a less within)
      (act_here q a (act_in u q a) less (u_is.acts q a (let e = same_count in omega (arith, e, less)) within))

  same_goto : (q n : ℕ) → q < state_count c → n < g.names → goto_in t q n ≡ goto_in u q n
  same_goto q n less within = t_is.gotos q n less within ∙ ((one_collection_law g c d c_is d_is).1 q less).1 (Name n) ∙ sym (u_is.gotos q n (let e = same_count in omega (arith, e, less)) within)

  act_lines_same : (q : ℕ) → q < state_count c → act_lines sheet t q ≡ act_lines sheet u q
  act_lines_same q less =
      let mine = t_is.tokens in
      let other = u_is.tokens in
      flat_both (λ a. act_line sheet a (act_in t q a)) (λ a. act_line sheet a (act_in u q a)) (t.tokens + 1) (u.tokens + 1) (omega (arith, mine, other))
      (λ a within. ap (act_line sheet a) (same_act q a less (omega (arith, mine, within))))

  goto_lines_same : (q : ℕ) → q < state_count c → goto_lines sheet t q ≡ goto_lines sheet u q
  goto_lines_same q less =
      let mine = t_is.names in
      flat_both (λ n. goto_line sheet n (goto_in t q n)) (λ n. goto_line sheet n (goto_in u q n)) t.names u.names (mine ∙ sym u_is.names)
      (λ n within. ap (goto_line sheet n) (same_goto q n less (omega (arith, mine, within))))

  state_same : (q : ℕ) → q < state_count c → state_text sheet c t q ≡ state_text sheet d u q
  unfolding state_text
  state_same q less =
      ap (λ l. codes "state " ++ (last_number q ++ (entry_lines sheet l ++ (act_lines sheet t q ++ goto_lines sheet t q)))) (same_items q less)
      ∙ ap (λ l. codes "state " ++ (last_number q ++ (entry_lines sheet (items_in d q) ++ (l ++ goto_lines sheet t q)))) (act_lines_same q less)
      ∙ ap (λ l. codes "state " ++ (last_number q ++ (entry_lines sheet (items_in d q) ++ (act_lines sheet u q ++ l)))) (goto_lines_same q less)

  states_same : t.states ≡ u.states
  states_same = t_is.count ∙ same_count ∙ sym u_is.count

  text_same : tables_text sheet c t ≡ tables_text sheet d u
  unfolding tables_text
  text_same =
      let mine = t_is.count in
      ap (λ n. (codes "states " ++ last_number n) ++ flat_map (state_text sheet c t) (range_with_len 0 t.states)) states_same
      ∙ ap (λ l. (codes "states " ++ last_number u.states) ++ l) (flat_both (state_text sheet c t) (state_text sheet d u) t.states u.states states_same (λ q less. state_same q (omega (arith, mine, less))))

pub one_text : OneTextLaw
one_text sheet c d t u c_is d_is t_is u_is = text_same sheet c d t u c_is d_is t_is u_is
