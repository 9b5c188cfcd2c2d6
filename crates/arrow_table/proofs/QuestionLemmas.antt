-- Answers stay right where maps are added behind the others, and where one right answer is kept.
use Rattle.std.proofs.Common.{◌≡◌, ◌≢◌, ℕ, ◌<◌, ◌≤◌, ◌⊎◌, inl, inr, List, length, get_or, set, take, Some, None, sym, subst, ◌∙◌}
use Rattle.std.proofs.lemmas.Bool.{cases_eq}
use Rattle.std.proofs.lemmas.List.{get_or-set_other}
use Rattle.std.proofs.lemmas.Grind.{get_or-set_at}
use Rattle.std.proofs.lemmas.Option.{same_Some}
use Rattle.grammar_data.specs.declared.rule.Sym.TheVariants.{Token}
use Rattle.table_data.specs.Tables.{Tables}
use Rattle.map_theory.specs.Maps.{StateMap}
use Rattle.map_theory.specs.Relations.{IsBack, IsIdentityOf, IsRestricted, IsThenSymbol}
use Rattle.arrow_table.specs.declared.memo.Question.{Question}
use Rattle.arrow_table.specs.declared.memo.Question.TheVariants as question
use Rattle.arrow_table.specs.Looks.{Grows, HasMap, map_at}
use Rattle.arrow_table.specs.Questions.{Answers, AreAnswers, HasAnswer, IsAnswer, IsAsked, Kept, Remembers}
use Rattle.arrow_table.proofs.GrownLemmas.{has_grown, map_grown, within_grown}

-- ---- maps added

pub asked_grown : (t : Tables) (old new : List StateMap) (q : Question) → Grows old new → IsAsked t old q → IsAsked t new q
asked_grown t old new (question.Open a) grows asked = tt
asked_grown t old new (question.Identity id) grows asked = within_grown old new id grows asked
asked_grown t old new (question.Restrict id keep) grows asked = (within_grown old new id grows asked.0, within_grown old new keep grows asked.1)
asked_grown t old new (question.Back id rule hidden) grows asked = (within_grown old new id grows asked.0, asked.1, asked.2)
asked_grown t old new (question.Shift id a) grows asked = within_grown old new id grows asked

-- the maps that a question names are the same in the longer list
pub answers_grown : (t : Tables) (old new : List StateMap) (q : Question) (m : StateMap) → Grows old new → IsAsked t old q → Answers t old q m → Answers t new q m
answers_grown t old new (question.Open a) m grows asked is = is
answers_grown t old new (question.Identity id) m grows asked is = subst (λ n. IsIdentityOf n m) (sym (map_grown old new id grows asked)) is
answers_grown t old new (question.Restrict id keep) m grows asked is = subst (λ n. IsRestricted n (map_at new keep) m) (sym (map_grown old new id grows asked.0)) (subst (λ n. IsRestricted (map_at old id) n m) (sym (map_grown old new keep grows asked.1)) is)
answers_grown t old new (question.Back id rule hidden) m grows asked is = λ n right has. subst (λ x. IsBack t (take hidden right) x m) (sym (map_grown old new id grows asked.0)) (is n right has)
answers_grown t old new (question.Shift id a) m grows asked is = subst (λ n. IsThenSymbol t (Token a) n m) (sym (map_grown old new id grows asked)) is

pub answer_grown : (t : Tables) (old new : List StateMap) (q : Question) (to : ℕ) → Grows old new → IsAsked t old q → IsAnswer t old old q to → IsAnswer t new new q to
answer_grown t old new q to grows asked is =
    let has : HasMap new to (Answers t old q) = has_grown old new to (Answers t old q) grows is in
    record { within = has.within; is = answers_grown t old new q (map_at new to) grows asked has.is }

pub all_grown : (t : Tables) (old new : List StateMap) (base : ℕ) (kept : Kept) → Grows old new → AreAnswers t old base kept → AreAnswers t new base kept
all_grown t old new base kept grows right q to has =
    let was = right q to has in
    (asked_grown t old new q grows was.0, answer_grown t old new q to grows was.0 was.1, was.2)

-- ---- an answer kept

pub all_kept : (t : Tables) (maps : List StateMap) (base : ℕ) (old new : Kept) (q : Question) (to : ℕ) → Remembers old new q to → IsAsked t maps q → IsAnswer t maps maps q to → base ≤ to → AreAnswers t maps base old → AreAnswers t maps base new
all_kept t maps base old new q to remembers asked is stands right p a has = cases (remembers p a has)
  where
    cases : HasAnswer old p a ⊎ ((p ≡ q) × (a ≡ to)) → IsAsked t maps p × IsAnswer t maps maps p a × (base ≤ a)
    cases (inl was) = right p a was
    cases (inr here) = (subst (λ x. IsAsked t maps x) (sym here.0) asked, subst (λ x. IsAnswer t maps maps x a) (sym here.0) (subst (λ x. IsAnswer t maps maps q x) (sym here.1) is), subst (λ x. base ≤ x) (sym here.1) stands)

-- one place is set, in places that were filled up
pub remembers_set : (old filled : Kept) (place : ℕ) (q : Question) (to : ℕ) → ((i : ℕ) → get_or filled.0 i None ≡ get_or old.0 i None) → ((i : ℕ) → get_or filled.1 i 0 ≡ get_or old.1 i 0)
    → place < length filled.0 → place < length filled.1 → Remembers old (set filled.0 place (Some q), set filled.1 place to) q to
remembers_set old filled place q to same same1 inside inside1 p a has = cases (cases_eq has.place place)
  where
    cases : (has.place ≡ place) ⊎ (has.place ≢ place) → HasAnswer old p a ⊎ ((p ≡ q) × (a ≡ to))
    cases (inl here) =
        let is : q ≡ p = same_Some q p (sym (get_or-set_at filled.0 place has.place (Some q) None here inside) ∙ has.asked) in
        inr (sym is, sym has.answered ∙ get_or-set_at filled.1 place has.place to 0 here inside1)
    cases (inr differs) = inl (record {
      place = has.place;
      asked = sym (same has.place) ∙ sym (get_or-set_other filled.0 place has.place (Some q) None differs) ∙ has.asked;
      answered = sym (same1 has.place) ∙ sym (get_or-set_other filled.1 place has.place to 0 differs) ∙ has.answered;
    })
