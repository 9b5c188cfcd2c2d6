-- Places in rows, and the symbols of columns.
use Rattle.std.proofs.Common.{◌≡◌, ℕ, suc, ◌+◌, ◌-◌, ◌*◌, ◌<◌, ◌≤◌, ◌⊎◌, inl, inr, Bool, nat_lt, if◌then◌else◌, Some, None, sym, ap, ◌∙◌, arith}
use Rattle.std.proofs.lemmas.Bool.{lt-ltb, le-ltb, ltb-true, cases_lt, cases_order}
use Rattle.std.proofs.lemmas.Nat.{mul-le}
use Rattle.std.proofs.lemmas.Option.{cond_some}
use Rattle.grammar_data.specs.declared.rule.Sym.{Sym}
use Rattle.grammar_data.specs.declared.rule.Sym.TheVariants.{Token, Name}
use Rattle.grammar_data.specs.Grammar.{Grammar}
use Rattle.collection_data.specs.Collection.{column_of}
use Rattle.collection_data.specs.Rows.{symbol_at}

pub times_le : (a b w : ℕ) → a ≤ b → a * w ≤ b * w
times_le a b w le = mul-le a w b w le (omega arith)

pub row_once : (q k p c w : ℕ) → k < w → c < w → q * w + k ≡ p * w + c → (q ≡ p) × (k ≡ c)
row_once q k p c w small less same = cases (cases_order q p)
  where
    cases : (q ≡ p) ⊎ ((q < p) ⊎ (p < q)) → (q ≡ p) × (k ≡ c)
    cases (inl e) = let rows = ap (λ n. n * w) e in (e, omega arith)
    cases (inr (inl before)) = let le = times_le (suc q) p w before in absurd (omega arith)
    cases (inr (inr after)) = let le = times_le (suc p) q w after in absurd (omega arith)

pub row_before : (q k p c w : ℕ) → c ≤ w → k < w → q * w + k < p * w + c → q ≤ p
row_before q k p c w small less before = cases (cases_lt p q)
  where
    cases : (p < q) ⊎ (q ≤ p) → q ≤ p
    cases (inl after) = let le = times_le (suc p) q w after in absurd (omega arith)
    cases (inr le) = le

-- ---- the symbols of columns

pub token_at : (g : Grammar) (c : ℕ) → c < g.tokens → symbol_at g c ≡ Token c
token_at g c less = ap (λ (b : Bool). if b then Token c else Name (c - g.tokens)) (lt-ltb c g.tokens less)

pub name_at : (g : Grammar) (c : ℕ) → g.tokens ≤ c → symbol_at g c ≡ Name (c - g.tokens)
name_at g c le = ap (λ (b : Bool). if b then Token c else Name (c - g.tokens)) (le-ltb c g.tokens le)

pub column_at : (g : Grammar) (c : ℕ) → c < g.tokens + g.names → column_of g.tokens g.names (symbol_at g c) ≡ Some c
column_at g c less = cases (cases_lt c g.tokens)
  where
    cases : (c < g.tokens) ⊎ (g.tokens ≤ c) → column_of g.tokens g.names (symbol_at g c) ≡ Some c
    cases (inl token) = ap (column_of g.tokens g.names) (token_at g c token) ∙ ap (λ (b : Bool). if b then Some c else None) (lt-ltb c g.tokens token)
    cases (inr name) =
        let small : c - g.tokens < g.names = omega arith in
        let back : g.tokens + (c - g.tokens) ≡ c = omega arith in
        ap (column_of g.tokens g.names) (name_at g c name) ∙ ap (λ (b : Bool). if b then Some (g.tokens + (c - g.tokens)) else None) (lt-ltb (c - g.tokens) g.names small) ∙ ap Some back

pub symbol_of_column : (g : Grammar) (x : Sym) (c : ℕ) → column_of g.tokens g.names x ≡ Some c → (c < g.tokens + g.names) × (symbol_at g c ≡ x)
symbol_of_column g (Token a) c e =
    let p = cond_some (nat_lt a g.tokens) a c e in
    let less = ltb-true a g.tokens p.0 in
    let same = p.1 in
    let small : c < g.tokens = omega arith in
    (omega arith, token_at g c small ∙ ap Token (sym p.1))
symbol_of_column g (Name n) c e =
    let p = cond_some (nat_lt n g.names) (g.tokens + n) c e in
    let less = ltb-true n g.names p.0 in
    let same = p.1 in
    let le : g.tokens ≤ c = omega arith in
    let back : c - g.tokens ≡ n = omega arith in
    (omega arith, name_at g c le ∙ ap Name back)
