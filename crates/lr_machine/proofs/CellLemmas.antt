-- One cell of rows that lie in one list, row after row.
use Rattle.std.proofs.Common.{◌≡◌, ◌≢◌, ℕ, ◌+◌, ◌*◌, ◌/◌, ◌%◌, ◌<◌, ◌≤◌, ◌⊎◌, inl, inr, Bool, true, false, ◌==◌, ◌&&◌, nat_lt, if◌then◌else◌, List, length, get_or, set, Option, None, sym, ap, ◌∙◌, arith}
use Rattle.std.proofs.lemmas.Bool.{cases_eq, cases_lt, eq-eqb, ne_eqb, lt-ltb, le-ltb}
use Rattle.std.proofs.lemmas.List.{get_or-set_other}
use Rattle.std.proofs.lemmas.Grind.{get_or-set_at}
use Rattle.std.proofs.lemmas.Nat.{div-mul-add, mod-mul-add, mul-add-lt}
use Rattle.table_data.specs.declared.act.Act.{Act}
use Rattle.table_data.specs.declared.act.Act.TheVariants.{Error}
use Rattle.table_data.specs.Tables.{Tables, act_in, goto_in}

-- ---- a test of two numbers

both_same : (p q b a : ℕ) → p ≡ q → b ≡ a → ((p == q) && (b == a)) ≡ true
both_same p q b a row column = ap (λ c. c && (b == a)) (eq-eqb p q row) ∙ eq-eqb b a column

first_other : (p q b a : ℕ) → p ≢ q → ((p == q) && (b == a)) ≡ false
first_other p q b a other = ap (λ c. c && (b == a)) (ne_eqb p q other)

second_other : (p q b a : ℕ) → b ≢ a → ((p == q) && (b == a)) ≡ false
second_other p q b a other = cases (cases_eq p q)
  where
    cases : (p ≡ q) ⊎ (p ≢ q) → ((p == q) && (b == a)) ≡ false
    cases (inl same) = ap (λ c. c && (b == a)) (eq-eqb p q same) ∙ ne_eqb b a other
    cases (inr differs) = first_other p q b a differs

-- ---- places

-- a place has one row and one column
place_once : (w q p a b : ℕ) → a < w → b < w → q * w + a ≡ p * w + b → (q ≡ p) × (a ≡ b)
place_once w q p a b small less same = (
  sym (div-mul-add q w a small) ∙ ap (λ n. n / w) same ∙ div-mul-add p w b less,
  sym (mod-mul-add q w a small) ∙ ap (λ n. n % w) same ∙ mod-mul-add p w b less,
)

-- what stands at a place after one cell was set
cell_set : {X : Type 0} (cells : List X) (w q p a b : ℕ) (x d : X) → a < w → b < w → q * w + a < length cells
    → get_or (set cells (q * w + a) x) (p * w + b) d ≡ (if (p == q) && (b == a) then x else get_or cells (p * w + b) d)
cell_set {X = X} cells w q p a b x d small less within = cases (cases_eq (p * w + b) (q * w + a))
  where
    place : ℕ
    place = p * w + b

    chosen : Bool → X
    chosen c = if c then x else get_or cells (p * w + b) d

    apart : (p * w + b ≢ q * w + a) → ((p == q) && (b == a)) ≡ false
    apart differs = by_row (cases_eq p q)
      where
        by_row : (p ≡ q) ⊎ (p ≢ q) → ((p == q) && (b == a)) ≡ false
        by_row (inr other) = first_other p q b a other
        by_row (inl row) = second_other p q b a (λ column. differs (ap (λ k. k * w + b) row ∙ ap (λ k. q * w + k) column))

    cases : (p * w + b ≡ q * w + a) ⊎ (p * w + b ≢ q * w + a) → get_or (set cells (q * w + a) x) (p * w + b) d ≡ (if (p == q) && (b == a) then x else get_or cells (p * w + b) d)
    cases (inl same) =
        let parts = place_once w p q b a less small same in
        get_or-set_at cells (q * w + a) (p * w + b) x d same within ∙ sym (ap chosen (both_same p q b a parts.0 parts.1))
    cases (inr differs) =
        get_or-set_other cells (q * w + a) (p * w + b) x d differs ∙ sym (ap chosen (apart differs))

-- ---- tables

-- the actions after one was set
pub act_set : (t : Tables) (q p a b : ℕ) (act : Act) → q < t.states → a ≤ t.tokens → length t.acts ≡ t.states * (t.tokens + 1)
    → act_in (record t { acts = set t.acts (q * (t.tokens + 1) + a) act }) p b ≡ (if (p == q) && (b == a) then act else act_in t p b)
act_set t q p a b act state token size = cases (cases_lt t.tokens b)
  where
    new : List Act
    new = set t.acts (q * (t.tokens + 1) + a) act

    within : q * (t.tokens + 1) + a < length t.acts
    within = let less = mul-add-lt q (t.tokens + 1) a t.states state (omega arith) in omega (arith, size)

    cases : (t.tokens < b) ⊎ (b ≤ t.tokens) → act_in (record t { acts = new }) p b ≡ (if (p == q) && (b == a) then act else act_in t p b)
    cases (inl past) =
        let beyond : nat_lt t.tokens b ≡ true = lt-ltb t.tokens b past in
        ap (λ (c : Bool). if c then Error else get_or new (p * (t.tokens + 1) + b) Error) beyond
        ∙ sym (ap (λ (c : Bool). if c then Error else get_or t.acts (p * (t.tokens + 1) + b) Error) beyond)
        ∙ sym (ap (λ (c : Bool). if c then act else act_in t p b) (second_other p q b a (λ same. absurd (omega arith))))
    cases (inr here) =
        let inside : nat_lt t.tokens b ≡ false = le-ltb t.tokens b here in
        ap (λ (c : Bool). if c then Error else get_or new (p * (t.tokens + 1) + b) Error) inside
        ∙ cell_set t.acts (t.tokens + 1) q p a b act Error (omega arith) (omega arith) within
        ∙ sym (ap (λ (e : Act). if (p == q) && (b == a) then act else e) (ap (λ (c : Bool). if c then Error else get_or t.acts (p * (t.tokens + 1) + b) Error) inside))

-- the gotos after one was set
pub goto_set : (t : Tables) (q p n m : ℕ) (to : Option ℕ) → q < t.states → n < t.names → length t.gotos ≡ t.states * t.names
    → goto_in (record t { gotos = set t.gotos (q * t.names + n) to }) p m ≡ (if (p == q) && (m == n) then to else goto_in t p m)
goto_set t q p n m to state name size = cases (cases_lt m t.names)
  where
    new : List (Option ℕ)
    new = set t.gotos (q * t.names + n) to

    within : q * t.names + n < length t.gotos
    within = let less = mul-add-lt q t.names n t.states state name in omega (arith, size)

    cases : (m < t.names) ⊎ (t.names ≤ m) → goto_in (record t { gotos = new }) p m ≡ (if (p == q) && (m == n) then to else goto_in t p m)
    cases (inl here) =
        let inside : nat_lt m t.names ≡ true = lt-ltb m t.names here in
        ap (λ (c : Bool). if c then get_or new (p * t.names + m) None else None) inside
        ∙ cell_set t.gotos t.names q p n m to None name here within
        ∙ sym (ap (λ (e : Option ℕ). if (p == q) && (m == n) then to else e) (ap (λ (c : Bool). if c then get_or t.gotos (p * t.names + m) None else None) inside))
    cases (inr past) =
        let beyond : nat_lt m t.names ≡ false = le-ltb m t.names past in
        ap (λ (c : Bool). if c then get_or new (p * t.names + m) None else None) beyond
        ∙ sym (ap (λ (c : Bool). if c then get_or t.gotos (p * t.names + m) None else None) beyond)
        ∙ sym (ap (λ (c : Bool). if c then to else goto_in t p m) (second_other p q m n (λ same. absurd (omega arith))))
