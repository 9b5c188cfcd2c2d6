-- Where there is a conflict, it isn't refuted that one is the first: the least state, token and items are taken in turn.
use Rattle.std.proofs.Common.{◌≡◌, ◌≢◌, ℕ, ◌⊎◌, List, slice_get, Some, refl, sym, ◌∙◌, inl, inr, ⊎_elim, arith}
use Rattle.grammar_data.specs.declared.rule.Sym.{Sym}
use Rattle.grammar_data.specs.Grammar.{Grammar}
use Rattle.item_theory.specs.Items.{Item, Deed, Does, IsValid, IsConflict, HasConflict}
use Rattle.item_theory.specs.LeadingWords.{AreStates}
use Rattle.item_theory.proofs.StateLemmas.{conflict_state}
use Rattle.table_theory.specs.Deeds.{IsItemBefore, IsItemUpTo}
use Rattle.table_theory.specs.Conflicts.{HasConflictOn, IsFirstConflict}
use Rattle.table_theory.proofs.OrderLemmas.{item_total}
use Rattle.state_laws.specs.Laws.{SomeConflictLaw}
use Rattle.state_laws.proofs.RefutedLemmas.{NotRefuted, decided, least, HasLeast}
use Rattle.state_laws.proofs.FindingLemmas.{states_found}

-- ---- the least item of a set

module _ (set : Item → Type 0) where
  abbrev pub HasLeastItem : Type 0
  HasLeastItem = (i : Item) × set i × ((j : Item) → set j → IsItemUpTo i j)

  abbrev WithRule : ℕ → Type 0
  WithRule r = (i : Item) × set i × (i.rule ≡ r)

  abbrev WithDot : ℕ → ℕ → Type 0
  WithDot r d = (i : Item) × set i × (i.rule ≡ r) × (i.dot ≡ d)

  abbrev WithAhead : ℕ → ℕ → ℕ → Type 0
  WithAhead r d a = (i : Item) × set i × (i.rule ≡ r) × (i.dot ≡ d) × (i.ahead ≡ a)

  up_to : (i j : Item) → (IsItemBefore j i → ⊥) → IsItemUpTo i j
  up_to i j not = cases (item_total i j)
    where
      cases : (i ≡ j) ⊎ (IsItemBefore i j ⊎ IsItemBefore j i) → IsItemUpTo i j
      cases (inl same) = inl same
      cases (inr (inl before)) = inr before
      cases (inr (inr after)) = absurd (not after)

  whole : (r : HasLeast WithRule) (d : HasLeast (WithDot r.0)) (a : HasLeast (WithAhead r.0 d.0)) → HasLeastItem
  whole (r, some_rule, least_rule) (d, some_dot, least_dot) (a, (i, has, rule, dot, ahead), least_ahead) = (i, has, λ j other. up_to i j (earlier j other))
    where
      earlier : (j : Item) → set j → IsItemBefore j i → ⊥
      earlier j other (inl less) = least_rule j.rule (omega (arith, rule)) (j, other, refl)
      earlier j other (inr (same, inl less)) = least_dot j.dot (omega (arith, dot)) (j, other, same ∙ rule, refl)
      earlier j other (inr (same, inr (level, less))) = least_ahead j.ahead (omega (arith, ahead)) (j, other, same ∙ rule, level ∙ dot, refl)

  pub least_item : (i : Item) → set i → NotRefuted HasLeastItem
  least_item i has refuted =
      least WithRule i.rule (i, has, refl)
      (λ r. let (one, one_has, one_rule) = r.1 in least (WithDot r.0) one.dot (one, one_has, one_rule, refl)
      (λ d. let (two, two_has, two_rule, two_dot) = d.1 in least (WithAhead r.0 d.0) two.ahead (two, two_has, two_rule, two_dot, refl)
      (λ a. refuted (whole r d a))))

-- ---- the first conflict

-- an item of the word that acts on the token
abbrev Acts : Grammar → List Sym → ℕ → Item → Type 0
Acts g word a i = (deed : Deed) × IsValid g word i × Does g i a deed

-- an item of the word that does something else than the deed
abbrev Differs : Grammar → List Sym → ℕ → Deed → Item → Type 0
Differs g word a deed i = (other : Deed) × IsValid g word i × Does g i a other × (other ≢ deed)

module _ (g : Grammar) (words : List (List Sym)) (states : AreStates g words) where
  abbrev HasFirst : Type 0
  HasFirst = (q : ℕ) × (a : ℕ) × (first : Item) × (second : Item) × IsFirstConflict g q a first second

  abbrev IsInState : ℕ → Type 0
  IsInState q = (b : ℕ) × HasConflictOn g words q b

  -- of the two items of a conflict one does something else than the deed
  other_item : (word : List Sym) (a : ℕ) (deed : Deed) (one two : Item) → IsConflict g word a one two → NotRefuted ((i : Item) × Differs g word a deed i)
  other_item word a deed one two c refuted = decided (c.first_deed ≡ deed) (λ d. ⊎_elim
      (λ same. refuted (two, (c.second_deed, c.second_valid, c.second_does, λ e. c.differ (same ∙ sym e))))
      (λ not. refuted (one, (c.first_deed, c.first_valid, c.first_does, not)))
      d)

  first_of : (state : HasLeast IsInState) (token : HasLeast (HasConflictOn g words state.0)) (word : List Sym) → slice_get words state.0 ≡ Some word
      → (first : HasLeastItem (Acts g word token.0)) → HasLeastItem (Differs g word token.0 first.1.0) → HasFirst
  first_of (q, in_state, least_state) (a, on_token, least_token) word at (first, (deed, first_valid, first_does), least_first) (second, (other, second_valid, second_does, differ), least_second) = (
    q,
    a,
    first,
    second,
    record {
      words = words;
      word = word;
      are_states = states;
      at = at;
      conflict = record {
        first_valid = first_valid;
        second_valid = second_valid;
        first_deed = deed;
        second_deed = other;
        first_does = first_does;
        second_does = second_does;
        differ = λ e. differ (sym e);
      };
      least_state = λ p b less h. least_state p less (b, h);
      least_token = λ b less h. least_token b less h;
      least_first = λ i does valid acts. least_first i (does, valid, acts);
      least_second = λ i does valid acts differs. least_second i (does, valid, acts, differs);
    },
  )

  at_token : (state : HasLeast IsInState) (token : HasLeast (HasConflictOn g words state.0)) → NotRefuted HasFirst
  at_token state token refuted =
      let (word, at, one, two, c) = token.1 in
      least_item (Acts g word token.0) one (c.first_deed, c.first_valid, c.first_does)
      (λ first. other_item word token.0 first.1.0 one two c
      (λ other. least_item (Differs g word token.0 first.1.0) other.0 other.1
      (λ second. refuted (first_of state token word at first second))))

  first_found : HasConflict g → NotRefuted HasFirst
  first_found h refuted =
      let (q, xs, at, a, first, second, c) = conflict_state g words states h in
      least IsInState q (a, (xs, at, first, second, c))
      (λ state. least (HasConflictOn g words state.0) state.1.0 state.1.1
      (λ token. at_token state token refuted))

pub some_conflict : SomeConflictLaw
some_conflict g range limit few h none =
    states_found g range limit few
    (λ found. first_found g found.0 found.1 h (λ first. none first.0 first.1 first.2 first.3 first.4))
