-- The laws on leading words, states and the search, as they are stated.
use Rattle.std.proofs.Common.{◌≡◌, List, [], ◌∷◌, ◌++◌, subst, inl, inr, ◌⊎◌}
use Rattle.grammar_data.specs.declared.rule.Sym.{Sym}
use Rattle.item_theory.specs.LeadingWords.{IsSymBefore, IsWordBefore, TotalLaw, TransitiveLaw, IrreflexiveLaw, PushLaw, LeadingOnceLaw, StepLaw, SameStepLaw, PrefixLaw, StatesOnceLaw, StateCountLaw, LeadingStateLaw, ConflictStateLaw}
use Rattle.item_theory.specs.Search.{NewWordLaw, SearchBeginLaw, SearchOldLaw, SearchNewLaw, SearchNamesLaw, SearchNextLaw, SearchEndLaw}
use Rattle.item_theory.proofs.OrderLemmas.{word_total, word_transitive, word_irreflexive, word_push, word_push_last, word_pop}
use Rattle.item_theory.proofs.StateLemmas.{step_of_viable, viable_of_step, same_step, viable_prefix, leading_once, states_once, state_count, leading_state, conflict_state}
use Rattle.item_theory.proofs.SearchLemmas.{new_leading, search_begin, search_old, search_new, search_names, search_next, search_end}

-- ---- the order of words

pub total_law : TotalLaw
total_law xs ys = word_total xs ys

pub transitive_law : TransitiveLaw
transitive_law xs ys zs h k = word_transitive xs ys zs h k

pub irreflexive_law : IrreflexiveLaw
irreflexive_law xs h = word_irreflexive xs h

push_cases : (xs ys : List Sym) (x y : Sym) → IsWordBefore xs ys ⊎ ((xs ≡ ys) × IsSymBefore x y) → IsWordBefore (xs ++ x ∷ []) (ys ++ y ∷ [])
push_cases xs ys x y (inl h) = word_push xs ys x y h
push_cases xs ys x y (inr h) = subst (λ l. IsWordBefore (xs ++ x ∷ []) (l ++ y ∷ [])) h.0 (word_push_last xs x y h.1)

pub push_law : PushLaw
push_law xs ys x y = (λ h. word_pop xs ys x y h, λ h. push_cases xs ys x y h)

-- ---- states

pub leading_once_law : LeadingOnceLaw
leading_once_law g xs ys first second same = leading_once g xs ys first second same

pub step_law : StepLaw
step_law g range xs x = (λ v. step_of_viable g range xs x v, λ s. viable_of_step g range xs x s.0 s.1 s.2 s.3)

pub same_step_law : SameStepLaw
same_step_law g range xs ys x same = same_step g range xs ys x same

pub prefix_law : PrefixLaw
prefix_law g range xs ys viable = viable_prefix g range ys xs viable

pub states_once_law : StatesOnceLaw
states_once_law g words others first second = states_once g words others first second

pub state_count_law : StateCountLaw
state_count_law g words some states are = state_count g words states some are

pub leading_state_law : LeadingStateLaw
leading_state_law g words states xs leading = leading_state g words states xs leading

pub conflict_state_law : ConflictStateLaw
conflict_state_law g words states = (λ c. conflict_state g words states c, λ s. (s.1, s.3, s.4, s.5, s.6))

-- ---- the search

pub new_word_law : NewWordLaw
new_word_law g range words p top x search viable new = new_leading g range words p top x search viable new

pub search_begin_law : SearchBeginLaw
search_begin_law g = search_begin g

pub search_old_law : SearchOldLaw
search_old_law g words p top x search old = search_old g words p top x search old

pub search_new_law : SearchNewLaw
search_new_law g range words p top x search viable new = search_new g range words p top x search viable new

pub search_names_law : SearchNamesLaw
search_names_law g range words p top search = search_names g range words p top search

pub search_next_law : SearchNextLaw
search_next_law g range words p top next search at = search_next g range words p top next search at

pub search_end_law : SearchEndLaw
search_end_law g range words p top search last = search_end g range words p top search last
