-- What is known stays right where maps are added behind the others, and where one right cell is set.
use Rattle.std.proofs.Common.{◌≡◌, ℕ, ◌+◌, ◌-◌, ◌<◌, ◌≤◌, ◌⊎◌, inl, inr, List, [], length, Option, Some, None, refl, sym, subst, ◌∙◌, arith}
use Rattle.std.specs.Prelude.{All, IfSome}
use Rattle.std.proofs.lemmas.Option.{same_Some}
use Rattle.grammar_data.specs.declared.rule.Sym.{Sym}
use Rattle.grammar_data.specs.declared.rule.Sym.TheVariants.{Name, Token}
use Rattle.table_data.specs.Tables.{Tables}
use Rattle.map_theory.specs.Maps.{StateMap}
use Rattle.map_theory.specs.Relations.{IsThenSymbol, AreAlive}
use Rattle.state_sets.specs.Within.{AreWithin}
use Rattle.arrow_table.specs.declared.look.Look.{Look}
use Rattle.arrow_table.specs.declared.look.Look.TheVariants as look
use Rattle.arrow_table.specs.declared.known.Known.{Known}
use Rattle.arrow_table.specs.declared.known.Known.TheVariants as known
use Rattle.arrow_table.specs.declared.memo.Question.{Question}
use Rattle.arrow_table.specs.Looks.{Grows, HasMap, IsLook, IsLookFrom, map_at}
use Rattle.arrow_table.specs.Questions.{IsAnswer, IsAsked, Kept, Remembers}
use Rattle.arrow_table.proofs.GrownLemmas.{has_grown, map_grown, within_grown}
use Rattle.arrow_table.proofs.QuestionLemmas.{all_grown, all_kept}
use Rattle.arrow_table.specs.Cells.{Rows, AreRight, ChangesCell, IsLookKnown, IsStepKnown, cell_at, known_by, look_in}

-- ---- maps added

look_grown : (t : Tables) (a : ℕ) (m : StateMap) (old new : List StateMap) (said : Look) → Grows old new → IsLook t a m old said → IsLook t a m new said
look_grown t a m old new (look.Died alive) grows is = (is.0, has_grown old new alive (AreAlive t a m) grows is.1)
look_grown t a m old new (look.Shift to) grows is = (is.0, is.1, has_grown old new to (IsThenSymbol t (Token a) m) grows is.2)
look_grown t a m old new (look.Reduce rule) grows is = is
look_grown t a m old new look.Stuck grows is = is

look_known_grown : (t : Tables) (old new : List StateMap) (base id a : ℕ) (k : Known) → Grows old new → IsLookKnown t old base id a k → IsLookKnown t new base id a k
look_known_grown t old new base id a k grows right said is =
    let was = right said is in
    (within_grown old new id grows was.0, subst (λ m. IsLook t a m new said) (sym (map_grown old new id grows was.0)) (look_grown t a (map_at old id) old new said grows was.1), was.2)

step_known_grown : (t : Tables) (old new : List StateMap) (base id n : ℕ) (k : Known) → Grows old new → IsStepKnown t old base id n k → IsStepKnown t new base id n k
step_known_grown t old new base id n k grows right to is =
    let was = right to is in
    (within_grown old new id grows was.0, subst (λ m. HasMap new to (IsThenSymbol t (Name n) m)) (sym (map_grown old new id grows was.0)) (has_grown old new to (IsThenSymbol t (Name n) (map_at old id)) grows was.1), was.2)

pub right_grown : (t : Tables) (old new : List StateMap) (base : ℕ) (looks steps : Rows) (kept : Kept) → Grows old new → All (AreWithin t.states) new → AreRight t old base looks steps kept → AreRight t new base looks steps kept
right_grown t old new base looks steps kept grows within right = record {
  within = within;
  looks_right = λ row a inside. look_known_grown t old new base (base + row) a (cell_at looks row a) grows (right.looks_right row a inside);
  steps_right = λ row n inside. step_known_grown t old new base (base + row) n (cell_at steps row n) grows (right.steps_right row n inside);
  answers_right = all_grown t old new base kept grows right.answers_right;
}

-- where nothing is known, what is known is right
pub right_empty : (t : Tables) (maps : List StateMap) (base looks steps : ℕ) → All (AreWithin t.states) maps → AreRight t maps base (looks, []) (steps, []) ([], [])
right_empty t maps base looks steps within = record {
  within = within;
  looks_right = λ row a inside said is. absurd (cc is);
  steps_right = λ row n inside to is. absurd (cc is);
  answers_right = λ q a has. absurd (cc has.asked);
}

-- ---- a cell set

cells_set : (P : ℕ → ℕ → Known → Type 0) (old new : Rows) (row column : ℕ) (k : Known) → new.0 ≡ old.0 → ChangesCell old new row column k → P row column k
    → ((r c : ℕ) → c < old.0 → P r c (cell_at old r c)) → (r c : ℕ) → c < new.0 → P r c (cell_at new r c)
cells_set P old new row column k width changes put right r c within = cases (changes r c inside)
  where
    inside : c < old.0
    inside = omega (arith, within, width)

    cases : (cell_at new r c ≡ cell_at old r c) ⊎ ((r ≡ row) × (c ≡ column) × (cell_at new r c ≡ k)) → P r c (cell_at new r c)
    cases (inl same) = subst (P r c) (sym same) (right r c inside)
    cases (inr put_here) = subst (P r c) (sym put_here.2) (subst (λ x. P x c k) (sym put_here.0) (subst (λ y. P row y k) (sym put_here.1) put))

-- a number that stands, and its row
row_of : (base id : ℕ) → base ≤ id → base + (id - base) ≡ id
row_of base id stands = omega (arith, stands)

pub look_set : (t : Tables) (maps : List StateMap) (base : ℕ) (looks new steps : Rows) (kept : Kept) (id column : ℕ) (k : Known) → base ≤ id → new.0 ≡ looks.0 → ChangesCell looks new (id - base) column k → IsLookKnown t maps base id column k
    → AreRight t maps base looks steps kept → AreRight t maps base new steps kept
look_set t maps base looks new steps kept id column k stands width changes put right = record {
  within = right.within;
  looks_right = cells_set (λ row a known. IsLookKnown t maps base (base + row) a known) looks new (id - base) column k width changes (subst (λ n. IsLookKnown t maps base n column k) (sym (row_of base id stands)) put) right.looks_right;
  steps_right = right.steps_right;
  answers_right = right.answers_right;
}

pub step_set : (t : Tables) (maps : List StateMap) (base : ℕ) (looks steps new : Rows) (kept : Kept) (id column : ℕ) (k : Known) → base ≤ id → new.0 ≡ steps.0 → ChangesCell steps new (id - base) column k → IsStepKnown t maps base id column k
    → AreRight t maps base looks steps kept → AreRight t maps base looks new kept
step_set t maps base looks steps new kept id column k stands width changes put right = record {
  within = right.within;
  looks_right = right.looks_right;
  steps_right = cells_set (λ row n known. IsStepKnown t maps base (base + row) n known) steps new (id - base) column k width changes (subst (λ n. IsStepKnown t maps base n column k) (sym (row_of base id stands)) put) right.steps_right;
  answers_right = right.answers_right;
}

-- what is known in the row of a number that stands is known of that number
pub look_here : (t : Tables) (maps : List StateMap) (base : ℕ) (looks steps : Rows) (kept : Kept) (id a : ℕ) → AreRight t maps base looks steps kept → base ≤ id → a < looks.0 → IsLookKnown t maps base id a (cell_at looks (id - base) a)
look_here t maps base looks steps kept id a right stands inside = subst (λ n. IsLookKnown t maps base n a (cell_at looks (id - base) a)) (row_of base id stands) (right.looks_right (id - base) a inside)

pub step_here : (t : Tables) (maps : List StateMap) (base : ℕ) (looks steps : Rows) (kept : Kept) (id n : ℕ) → AreRight t maps base looks steps kept → base ≤ id → n < steps.0 → IsStepKnown t maps base id n (cell_at steps (id - base) n)
step_here t maps base looks steps kept id n right stands inside = subst (λ m. IsStepKnown t maps base m n (cell_at steps (id - base) n)) (row_of base id stands) (right.steps_right (id - base) n inside)

-- ---- an answer kept

pub memo_set : (t : Tables) (maps : List StateMap) (base : ℕ) (looks steps : Rows) (old new : Kept) (q : Question) (to : ℕ) → Remembers old new q to → IsAsked t maps q → IsAnswer t maps maps q to → base ≤ to
    → AreRight t maps base looks steps old → AreRight t maps base looks steps new
memo_set t maps base looks steps old new q to remembers asked is stands right = record {
  within = right.within;
  looks_right = right.looks_right;
  steps_right = right.steps_right;
  answers_right = all_kept t maps base old new q to remembers asked is stands right.answers_right;
}

-- ---- answers kept, and read again

look_again : (said : Look) → look_in (known_by said) ≡ Some said
look_again (look.Died alive) = refl
look_again (look.Shift to) = refl
look_again (look.Reduce rule) = refl
look_again look.Stuck = refl

pub look_kept : (t : Tables) (a : ℕ) (maps : List StateMap) (base id : ℕ) (said : Look) → id < length maps → IsLook t a (map_at maps id) maps said → IsLookFrom base said → IsLookKnown t maps base id a (known_by said)
look_kept t a maps base id said within is from other e =
    let same : said ≡ other = same_Some said other (sym (look_again said) ∙ e) in
    (within, subst (λ x. IsLook t a (map_at maps id) maps x) same is, subst (λ x. IsLookFrom base x) same from)

pub step_kept : (t : Tables) (n : ℕ) (maps : List StateMap) (base id to : ℕ) → id < length maps → HasMap maps to (IsThenSymbol t (Name n) (map_at maps id)) → base ≤ to → IsStepKnown t maps base id n (known.Step to)
step_kept t n maps base id to within has from other e =
    let same : to ≡ other = cc e in
    (within, subst (λ x. HasMap maps x (IsThenSymbol t (Name n) (map_at maps id))) same has, subst (λ x. base ≤ x) same from)

-- a fact of what is there, if it is
pub some_then : {X : Type 0} (P : X → Type 0) (o : Option X) → ((x : X) → o ≡ Some x → P x) → IfSome o P
some_then P None each = tt
some_then P (Some x) each = each x refl

-- what a look said of a map in the tables that stay
pub look_stands : (t u : Tables) (a : ℕ) (old new : List StateMap) (id : ℕ) (said : Look) → u ≡ t → Grows old new → id < length old → IsLook t a (map_at old id) new said → IsLook u a (map_at new id) new said
look_stands t u a old new id said same grows within is =
    subst (λ x. IsLook x a (map_at new id) new said) (sym same) (subst (λ m. IsLook t a m new said) (sym (map_grown old new id grows within)) is)

pub step_stands : (t u : Tables) (x : Sym) (old new : List StateMap) (id to : ℕ) → u ≡ t → Grows old new → id < length old → HasMap new to (IsThenSymbol t x (map_at old id)) → HasMap new to (IsThenSymbol u x (map_at new id))
step_stands t u x old new id to same grows within has =
    subst (λ v. HasMap new to (IsThenSymbol v x (map_at new id))) (sym same) (subst (λ m. HasMap new to (IsThenSymbol t x m)) (sym (map_grown old new id grows within)) has)
