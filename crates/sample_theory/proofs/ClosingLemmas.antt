-- Heights of trees, and closing rules.
use Rattle.std.proofs.Common.{◌≡◌, ℕ, zero, suc, ◌+◌, ◌<◌, ◌≤◌, ⊎_elim, List, [], ◌∷◌, refl, arith}
use Rattle.std.proofs.lemmas.Bool.{cases_lt}
use Rattle.grammar_data.specs.declared.rule.Sym.{Sym}
use Rattle.grammar_data.specs.declared.rule.Sym.TheVariants.{Name}
use Rattle.grammar_data.specs.declared.token.Token.{Token as TextToken}
use Rattle.grammar_data.specs.Grammar.{Rule, Grammar}
use Rattle.grammar_theory.specs.Derivations.{Derives, done, token_first, name_first}
use Rattle.grammar_theory.specs.Rules.{IsRule}
use Rattle.grammar_theory.specs.Trees.{Leaf, Node, Forest, NoTree, FirstTree, AreTrees, no_tree, tree_first, token_tree, node_tree}
use Rattle.sample_theory.specs.ClosingRules.{greatest_height, Closes, no_symbol, token_closes, name_closes, IsClosingRule, HeightLaw, OneClosingRuleLaw, SomeClosingRuleLaw}

pub closes_higher : {rules : List Rule} {bound : ℕ} {xs : List Sym} (upper : ℕ) → bound ≤ upper → Closes rules bound xs → Closes rules upper xs
closes_higher upper more no_symbol = no_symbol
closes_higher upper more (token_closes rest) = token_closes (closes_higher upper more rest)
closes_higher upper more (name_closes rule inner below rest) = name_closes rule inner (omega (arith, below, more)) (closes_higher upper more rest)

-- ---- trees
closes_trees : {rules : List Rule} {xs : List Sym} {trees : Forest} (bound : ℕ) → AreTrees rules xs trees → greatest_height trees ≤ bound → Closes rules bound xs
closes_trees bound no_tree within = no_symbol
closes_trees bound (tree_first {trees = trees} (token_tree e) rest) within = token_closes (closes_trees bound rest (omega (arith, within)))
closes_trees bound (tree_first {trees = trees} (node_tree {kids = kids} rule inner) rest) within =
    name_closes rule (closes_trees (greatest_height kids) inner (omega arith)) (omega (arith, within)) (closes_trees bound rest (omega (arith, within)))

trees_close : {rules : List Rule} {xs : List Sym} {bound : ℕ} → Closes rules bound xs → (trees : Forest) × AreTrees rules xs trees × (greatest_height trees ≤ bound)
trees_close no_symbol = (NoTree, no_tree, omega arith)
trees_close (token_closes {a = a} rest) =
    let leaf : TextToken = record { id = a; place = record { line = 0; start = 0; len = 0 } } in
    let t = trees_close rest in
    let low = t.2 in
    (FirstTree (Leaf leaf) t.0, tree_first (token_tree refl) t.1, omega (arith, low))
trees_close (name_closes {r = r} rule inner below rest) =
    let kids = trees_close inner in
    let t = trees_close rest in
    let low = t.2 in
    let kids_low = kids.2 in
    (FirstTree (Node r kids.0) t.0, tree_first (node_tree rule kids.1) t.1, omega (arith, low, kids_low, below))

pub height_law : HeightLaw
height_law rules bound xs = (λ c. trees_close c, λ t. closes_trees bound t.1 t.2)

-- ---- numbers that are neither less nor greater

pub same_or : (r other : ℕ) → (r < other → ⊥) → (other < r → ⊥) → r ≡ other
same_or r other less more = ⊎_elim (λ l. absurd (less l)) (λ u. ⊎_elim (λ l. absurd (more l)) (λ v. omega (arith, u, v)) (cases_lt other r)) (cases_lt r other)

-- ---- closing rules
earlier : {g : Grammar} {n r other : ℕ} {right side : List Sym} → IsClosingRule g n r right → IsClosingRule g n other side → r < other → ⊥
earlier {r = r} {other = other} {right = right} {side = side} c d below =
    let less = d.first r c.bound right below c.rule c.closes in
    let least = c.least other d.bound side d.rule d.closes in
    omega (arith, less, least)

pub one_closing : OneClosingRuleLaw
one_closing g n r other right side c d = same_or r other (earlier c d) (earlier d c)

module _ (g : Grammar) (n : ℕ) (none : (r : ℕ) (right : List Sym) → ¬ (IsClosingRule g n r right)) where
  none_lower : (bound : ℕ) → ((r h : ℕ) (right : List Sym) → h < bound → IsRule g.rules r n right → Closes g.rules h right → ⊥)
      → (k r h : ℕ) (right : List Sym) → r < k → h ≤ bound → IsRule g.rules r n right → Closes g.rules h right → ⊥
  none_lower bound lower zero r h right below within rule closes = omega (arith, below)
  none_lower bound lower (suc k) r h right below within rule closes = none r right (record {
    rule = rule;
    bound = h;
    closes = closes;
    least = λ other height side of_other side_closes. ⊎_elim
        (λ less. absurd (lower other height side (omega (arith, less, within)) of_other side_closes))
        (λ upper. upper)
        (cases_lt height h);
    first = λ other height side before of_other side_closes. ⊎_elim
        (λ less. less)
        (λ upper. absurd (none_lower bound lower k other height side (omega (arith, before, below)) (omega (arith, upper, within)) of_other side_closes))
        (cases_lt h height);
  })

  none_within : (bound r h : ℕ) (right : List Sym) → h < bound → IsRule g.rules r n right → Closes g.rules h right → ⊥
  none_within zero r h right below rule closes = omega (arith, below)
  none_within (suc bound) r h right below rule closes = none_lower bound (none_within bound) (suc r) r h right (omega arith) (omega (arith, below)) rule closes

-- what derives a token list closes
pub derived_closes : {rules : List Rule} {xs : List Sym} {w : List ℕ} → Derives rules xs w → (bound : ℕ) × Closes rules bound xs
derived_closes done = (0, no_symbol)
derived_closes (token_first d) = let c = derived_closes d in (c.0, token_closes c.1)
derived_closes (name_first rule d rest at) =
    let c = derived_closes d in
    let e = derived_closes rest in
    let all : ℕ = suc (c.0) + e.0 in
    (all, name_closes rule c.1 (omega arith) (closes_higher all (omega arith) e.1))

-- a name that closes has a rule whose right side does
pub closing_side : {rules : List Rule} {n bound : ℕ} → Closes rules bound (Name n ∷ []) → (r : ℕ) × (below : ℕ) × (right : List Sym) × IsRule rules r n right × Closes rules below right × (below < bound)
closing_side (name_closes {r = r} {below = below} {right = right} rule inner less rest) = (r, below, right, rule, inner, less)

pub some_closing : SomeClosingRuleLaw
some_closing g n productive none =
    let c = derived_closes productive.1 in
    let s = closing_side c.1 in
    none_within g n none (suc (s.1)) s.0 s.1 s.2 (omega arith) s.3 s.4
