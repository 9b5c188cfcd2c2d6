-- A grammar has one first conflict at most.
use Rattle.std.proofs.Common.{◌≡◌, ℕ, ◌<◌, ◌⊎◌, inl, inr, List, slice_get, sym, ap, subst, ◌∙◌}
use Rattle.std.proofs.lemmas.Bool.{cases_order}
use Rattle.std.proofs.lemmas.Option.{same_Some}
use Rattle.grammar_data.specs.declared.rule.Sym.{Sym}
use Rattle.grammar_data.specs.Grammar.{Grammar}
use Rattle.item_theory.specs.Items.{Item, Deed, Does, IsValid, IsConflict}
use Rattle.item_theory.proofs.ItemLemmas.{one_deed}
use Rattle.item_theory.proofs.StateLemmas.{states_once}
use Rattle.table_theory.specs.Deeds.{IsLeastToAct, IsLeastToDiffer}
use Rattle.table_theory.specs.Conflicts.{HasConflictOn, IsFirstConflict, FirstConflictLaw, FirstConflictOnceLaw}
use Rattle.table_theory.proofs.OrderLemmas.{item_once}

-- the two items of a conflict that is first on its token
module _ (g : Grammar) (v w : List Sym) (a b : ℕ) (first second third fourth : Item) (words : v ≡ w) (tokens : a ≡ b)
    (c : IsConflict g v a first second) (d : IsConflict g w b third fourth)
    (c_first : IsLeastToAct g (IsValid g v) a first) (c_second : IsLeastToDiffer g (IsValid g v) a c.first_deed second)
    (d_first : IsLeastToAct g (IsValid g w) b third) (d_second : IsLeastToDiffer g (IsValid g w) b d.first_deed fourth) where
  valid_there : (i : Item) → IsValid g v i → IsValid g w i
  valid_there i h = subst (λ xs. IsValid g xs i) words h

  valid_here : (i : Item) → IsValid g w i → IsValid g v i
  valid_here i h = subst (λ xs. IsValid g xs i) (sym words) h

  does_there : (i : Item) (deed : Deed) → Does g i a deed → Does g i b deed
  does_there i deed h = subst (λ n. Does g i n deed) tokens h

  does_here : (i : Item) (deed : Deed) → Does g i b deed → Does g i a deed
  does_here i deed h = subst (λ n. Does g i n deed) (sym tokens) h

  pub first_same : first ≡ third
  first_same = item_once first third
      (c_first third d.first_deed (valid_here third d.first_valid) (does_here third d.first_deed d.first_does))
      (d_first first c.first_deed (valid_there first c.first_valid) (does_there first c.first_deed c.first_does))

  deed_same : c.first_deed ≡ d.first_deed
  deed_same = one_deed (subst (λ i. Does g i b c.first_deed) first_same (does_there first c.first_deed c.first_does)) d.first_does

  pub second_same : second ≡ fourth
  second_same = item_once second fourth
      (c_second fourth d.second_deed (valid_here fourth d.second_valid) (does_here fourth d.second_deed d.second_does) (λ e. d.differ (sym deed_same ∙ sym e)))
      (d_second second c.second_deed (valid_there second c.second_valid) (does_there second c.second_deed c.second_does) (λ e. c.differ (deed_same ∙ sym e)))

-- the conflict of a first conflict
on_token : (g : Grammar) (q a : ℕ) (first second : Item) (f : IsFirstConflict g q a first second) → HasConflictOn g f.words q a
on_token g q a first second f = (f.word, f.at, first, second, f.conflict)

module _ (g : Grammar) (q p a b : ℕ) (first second third fourth : Item) (f : IsFirstConflict g q a first second) (h : IsFirstConflict g p b third fourth) where
  one_list : f.words ≡ h.words
  one_list = states_once g f.words h.words f.are_states h.are_states

  here_too : HasConflictOn g h.words q a
  here_too = subst (λ ws. HasConflictOn g ws q a) one_list (on_token g q a first second f)

  there_too : HasConflictOn g f.words p b
  there_too = subst (λ ws. HasConflictOn g ws p b) (sym one_list) (on_token g p b third fourth h)

  state_same : q ≡ p
  state_same = cases (cases_order q p)
    where
      cases : (q ≡ p) ⊎ ((q < p) ⊎ (p < q)) → q ≡ p
      cases (inl same) = same
      cases (inr (inl less)) = absurd (h.least_state q a less here_too)
      cases (inr (inr less)) = absurd (f.least_state p b less there_too)

  token_same : a ≡ b
  token_same = cases (cases_order a b)
    where
      cases : (a ≡ b) ⊎ ((a < b) ⊎ (b < a)) → a ≡ b
      cases (inl same) = same
      cases (inr (inl less)) = absurd (h.least_token a less (subst (λ k. HasConflictOn g h.words k a) state_same here_too))
      cases (inr (inr less)) = absurd (f.least_token b less (subst (λ k. HasConflictOn g f.words k b) (sym state_same) there_too))

  word_same : f.word ≡ h.word
  word_same = same_Some f.word h.word (sym f.at ∙ ap (λ ws. slice_get ws q) one_list ∙ ap (λ k. slice_get h.words k) state_same ∙ h.at)

  pub one_conflict : (q ≡ p) × (a ≡ b) × (first ≡ third) × (second ≡ fourth)
  one_conflict = (
    state_same,
    token_same,
    first_same g f.word h.word a b first second third fourth word_same token_same f.conflict h.conflict f.least_first f.least_second h.least_first h.least_second,
    second_same g f.word h.word a b first second third fourth word_same token_same f.conflict h.conflict f.least_first f.least_second h.least_first h.least_second,
  )

pub first_conflict_once : FirstConflictOnceLaw
first_conflict_once g q p a b first second third fourth f h = one_conflict g q p a b first second third fourth f h

pub first_conflict : FirstConflictLaw
first_conflict g q a first second f = (f.word, a, first, second, f.conflict)
