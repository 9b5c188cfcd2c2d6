-- The search breadth first ends where the states are few, so that it isn't refuted that their leading words are had.
use Rattle.std.proofs.Common.{◌≡◌, ℕ, zero, suc, ◌+◌, ◌<◌, ◌≤◌, List, [], ◌∷◌, ◌++◌, length, get_or, subst, ⊎_elim, arith}
use Rattle.std.proofs.lemmas.Bool.{cases_lt}
use Rattle.std.proofs.lemmas.Option.{slice_get_within, slice_get-get_or}
use Rattle.grammar_data.specs.declared.rule.Sym.{Sym}
use Rattle.grammar_data.specs.declared.rule.Sym.TheVariants.{Token, Name}
use Rattle.grammar_data.specs.Grammar.{Grammar}
use Rattle.grammar_theory.specs.Rules.{IsInRange}
use Rattle.item_theory.specs.Items.{IsViable}
use Rattle.item_theory.specs.LeadingWords.{HasState, AreStates}
use Rattle.item_theory.specs.Collections.{HasMoreStates}
use Rattle.item_theory.specs.Search.{IsSearchedTo, next_symbol}
use Rattle.item_theory.proofs.SearchLemmas.{search_begin, search_old, search_new, search_names, search_next, search_end}
use Rattle.state_laws.specs.Laws.{SomeStatesLaw}
use Rattle.state_laws.proofs.RefutedLemmas.{NotRefuted, decided}

module _ (g : Grammar) (range : IsInRange g) where
  -- some words stand at this place of the search
  abbrev Reaches : ℕ → List Sym → Sym → Type 0
  Reaches p top x = (words : List (List Sym)) × IsSearchedTo g words p top x

  tried : (p : ℕ) (top : List Sym) (x : Sym) → Reaches p top x → NotRefuted (Reaches p top (next_symbol x))
  tried p top x (words, search) refuted =
      decided (HasState g words (top ++ x ∷ [])) (λ state. ⊎_elim
      (λ old. refuted (words, search_old g words p top x search (λ viable. old)))
      (λ new. decided (IsViable g (top ++ x ∷ [])) (λ d. ⊎_elim
      (λ viable. refuted (words ++ (top ++ x ∷ []) ∷ [], search_new g range words p top x search viable new))
      (λ not. refuted (words, search_old g words p top x search (λ viable. absurd (not viable))))
      d))
      state)

  tokens_tried : (p : ℕ) (top : List Sym) (left a : ℕ) → a + left ≡ g.tokens → Reaches p top (Token a) → NotRefuted (Reaches p top (Token g.tokens))
  tokens_tried p top zero a all here refuted = let last : a ≡ g.tokens = omega arith in refuted (subst (λ k. Reaches p top (Token k)) last here)
  tokens_tried p top (suc left) a all here refuted = tried p top (Token a) here (λ next. tokens_tried p top left (a + 1) (omega arith) next refuted)

  names_tried : (p : ℕ) (top : List Sym) (left n : ℕ) → n + left ≡ g.names → Reaches p top (Name n) → NotRefuted (Reaches p top (Name g.names))
  names_tried p top zero n all here refuted = let last : n ≡ g.names = omega arith in refuted (subst (λ k. Reaches p top (Name k)) last here)
  names_tried p top (suc left) n all here refuted = tried p top (Name n) here (λ next. names_tried p top left (n + 1) (omega arith) next refuted)

  -- all symbols behind one word
  word_tried : (p : ℕ) (top : List Sym) → Reaches p top (Token 0) → NotRefuted (Reaches p top (Name g.names))
  word_tried p top here refuted =
      tokens_tried p top g.tokens 0 (omega arith) here
      (λ tokens. names_tried p top g.names 0 (omega arith) (tokens.0, search_names g range tokens.0 p top tokens.1) refuted)

  module _ (limit : ℕ) (few : ¬ (HasMoreStates g limit)) where
    within : (words : List (List Sym)) (p : ℕ) (top : List Sym) (x : Sym) → IsSearchedTo g words p top x → length words ≤ limit
    within words p top x search = ⊎_elim (λ more. absurd (few (words, search.are_leading, more))) (λ le. le) (cases_lt limit (length words))

    abbrev HasStates : Type 0
    HasStates = (words : List (List Sym)) × AreStates g words

    words_tried : (left p : ℕ) (top : List Sym) → limit ≤ p + left → Reaches p top (Token 0) → NotRefuted HasStates
    words_tried zero p top enough here refuted =
        let inside : p < length here.0 = slice_get_within here.0 p top here.1.here in
        let le : length here.0 ≤ limit = within here.0 p top (Token 0) here.1 in
        absurd (omega arith)
    words_tried (suc left) p top enough here refuted = word_tried p top here (λ all. ⊎_elim
        (λ more.
        let next = slice_get-get_or all.0 (p + 1) [] more in
        words_tried left (p + 1) (get_or all.0 (p + 1) []) (omega arith) (all.0, search_next g range all.0 p top (get_or all.0 (p + 1) []) all.1 next) refuted)
        (λ last.
        let inside : p < length all.0 = slice_get_within all.0 p top all.1.here in
        refuted (all.0, search_end g range all.0 p top all.1 (omega arith)))
        (cases_lt (p + 1) (length all.0)))

    pub states_found : NotRefuted HasStates
    states_found = words_tried limit 0 [] (omega arith) ([] ∷ [], search_begin g)

pub some_states : SomeStatesLaw
some_states g range limit few none = states_found g range limit few (λ found. none found.0 found.1)
