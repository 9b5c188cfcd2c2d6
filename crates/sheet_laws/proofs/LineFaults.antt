-- An outline with a fault on a line has one first fault, unless that is refuted.
use Rattle.std.proofs.Common.{◌≡◌, ℕ, suc, ◌+◌, ◌*◌, ◌<◌, ◌≤◌, if◌then◌else◌, nat_eq, refl, sym, ap, ◌∙◌, inl, inr, ⊎_elim, arith}
use Rattle.std.specs.Prelude.{◌⊎◌}
use Rattle.std.proofs.lemmas.Bool.{cases_lt}
use Rattle.scanning_theory.proofs.NotRefuted.{NotRefuted, HasLeast, decided, least}
use Rattle.outline_data.specs.declared.fault.SheetFault.{SheetFault}
use Rattle.outline_data.specs.declared.fault.SheetFault.TheVariants.{BadByte, Syntax, BadPattern, PatternMatchesEmpty, Redeclared, UnknownSymbol, NoRules, PlaceOutOfRange, PlaceTwice, NotAToken, Limit, NoMemory}
use Rattle.outline_data.specs.Parts.{OutlineParts}
use Rattle.outline_theory.specs.Keys.{fault_line, fault_number, IsNoLater}
use Rattle.outline_theory.specs.LineFaults.{HasLineFault, IsFirstLineFault}

-- a fault on a line is the one with its number and its line
abbrev by_key : ℕ → ℕ → SheetFault
by_key number line =
    if nat_eq number 3 then BadPattern line else (if nat_eq number 4 then PatternMatchesEmpty line else (if nat_eq number 5 then Redeclared line else (if nat_eq number 6 then UnknownSymbol line else (if nat_eq number 8 then PlaceOutOfRange line else (if nat_eq number 9 then PlaceTwice line else NotAToken line)))))

has_key : (o : OutlineParts) (f : SheetFault) → HasLineFault o f → f ≡ by_key (fault_number f) (fault_line f)
has_key o _ (HasLineFault.line_feed h feed) = refl
has_key o _ (HasLineFault.no_spelling h none) = refl
has_key o _ (HasLineFault.empty_literal h none) = refl
has_key o _ (HasLineFault.empty_pattern h spelled empties) = refl
has_key o _ (HasLineFault.name_again h) = refl
has_key o _ (HasLineFault.literal_again h) = refl
has_key o _ (HasLineFault.start_again before e) = refl
has_key o _ (HasLineFault.left_is_token h t) = refl
has_key o _ (HasLineFault.unknown_name h t r) = refl
has_key o _ (HasLineFault.unknown_start h r) = refl
has_key o _ (HasLineFault.out_of_range h k range) = refl
has_key o _ (HasLineFault.twice_in_template h k) = refl
has_key o _ (HasLineFault.twice_in_marks h k) = refl
has_key o _ (HasLineFault.not_a_token h k g) = refl

same_key : (k a l b : ℕ) → (k < l) ⊎ ((k ≡ l) × (a ≤ b)) → (l < k) ⊎ ((l ≡ k) × (b ≤ a)) → (a ≡ b) × (k ≡ l)
same_key k a l b h j = grind arith

pub one_line_fault : (o : OutlineParts) (one other : SheetFault) → IsFirstLineFault o one → IsFirstLineFault o other → one ≡ other
one_line_fault o one other h k =
    let same = same_key (fault_line one) (fault_number one) (fault_line other) (fault_number other) (h.first other k.has) (k.first one h.has) in
    has_key o one h.has ∙ (ap (λ n. by_key n (fault_line one)) same.0 ∙ (ap (λ l. by_key (fault_number other) l) same.1 ∙ sym (has_key o other k.has)))

-- the line and the number as one number
abbrev order : SheetFault → ℕ
order f = 16 * fault_line f + fault_number f

low_number : (f : SheetFault) → fault_number f < 16
low_number (BadByte line) = omega arith
low_number (Syntax line) = omega arith
low_number (BadPattern line) = omega arith
low_number (PatternMatchesEmpty line) = omega arith
low_number (Redeclared line) = omega arith
low_number (UnknownSymbol line) = omega arith
low_number NoRules = omega arith
low_number (PlaceOutOfRange line) = omega arith
low_number (PlaceTwice line) = omega arith
low_number (NotAToken line) = omega arith
low_number (Limit kind count) = omega arith
low_number NoMemory = omega arith

by_order : (k a l b : ℕ) → a < 16 → b < 16 → 16 * k + a ≤ 16 * l + b → (k < l) ⊎ ((k ≡ l) × (a ≤ b))
by_order k a l b h j e = ⊎_elim (λ less. inl less) (λ least. let same : k ≡ l = omega (arith, h, j, e, least) in inr (same, omega (arith, same, e))) (cases_lt k l)

no_later : (f g : SheetFault) → order f ≤ order g → IsNoLater f g
no_later f g e = by_order (fault_line f) (fault_number f) (fault_line g) (fault_number g) (low_number f) (low_number g) e

-- a fault stands there in the order
abbrev StandsAt : OutlineParts → ℕ → Type 0
StandsAt o n = (f : SheetFault) × HasLineFault o f × (order f ≡ n)

first_of_least : (o : OutlineParts) → HasLeast (StandsAt o) → (f : SheetFault) × IsFirstLineFault o f
first_of_least o h =
    let f : SheetFault = h.1.0 in
    let at : order f ≡ h.0 = h.1.2 in (
      f,
      record {
        has = h.1.1;
        first = λ other has. let below : h.0 ≤ order other = h.2 (order other) (other, has, refl) in no_later f other (omega (arith, at, below));
      },
    )

first_some : (o : OutlineParts) (f : SheetFault) → HasLineFault o f → NotRefuted ((g : SheetFault) × IsFirstLineFault o g)
first_some o f has refuted =
    let n : ℕ = order f in
    least (StandsAt o) (suc n) (λ found. ⊎_elim (λ none. none n (omega arith) (f, has, refl)) (λ h. refuted (first_of_least o h)) found)

-- a first fault, or none
abbrev pub FirstOrNone : OutlineParts → Type 0
FirstOrNone o = ((f : SheetFault) × IsFirstLineFault o f) ⊎ ((f : SheetFault) → HasLineFault o f → ⊥)

pub first_or_none : (o : OutlineParts) → NotRefuted (FirstOrNone o)
first_or_none o refuted =
    decided ((f : SheetFault) × HasLineFault o f) (λ d. ⊎_elim (λ has. first_some o has.0 has.1 (λ first. refuted (inl first))) (λ none. refuted (inr (λ f has. none (f, has)))) d)
