use Rattle.std.proofs.Common.{◌≡◌, ◌≢◌, ℕ, ◌+◌, ◌*◌, ◌<◌, ◌⊎◌, inl, inr, length, get_or, set, ap, ◌∙◌, arith}
use Rattle.std.proofs.lemmas.Bool.{cases_eq}
use Rattle.std.proofs.lemmas.List.{get_or-set_other}
use Rattle.std.proofs.lemmas.Grind.{get_or-set_at}
use Rattle.std.proofs.lemmas.Nat.{same_from_place}
use Rattle.arrow_table.specs.declared.known.Known.{Known}
use Rattle.arrow_table.specs.declared.known.Known.TheVariants.{Nothing}
use Rattle.arrow_table.specs.Cells.{Rows, ChangesCell, cell_at}
use Rattle.arrow_table.proofs.rows.Rows.set.Goals as goal

-- one cell of rows that were filled up is set
one_changes : (old filled : Rows) (row column place : ℕ) (cell known : Known) → filled.0 ≡ old.0 → ((i : ℕ) → get_or filled.1 i Nothing ≡ get_or old.1 i Nothing)
    → column < old.0 → place ≡ row * old.0 + column → place < length filled.1 → cell ≡ known → ChangesCell old (filled.0, set filled.1 place cell) row column known
one_changes old filled row column place cell known width cells inside at within is r c small = cases (cases_eq (r * old.0 + c) place)
  where
    new : Rows
    new = (filled.0, set filled.1 place cell)

    by_width : cell_at new r c ≡ get_or (set filled.1 place cell) (r * old.0 + c) Nothing
    by_width = ap (λ w. get_or (set filled.1 place cell) (r * w + c) Nothing) width

    cases : (r * old.0 + c ≡ place) ⊎ (r * old.0 + c ≢ place) → (cell_at new r c ≡ cell_at old r c) ⊎ ((r ≡ row) × (c ≡ column) × (cell_at new r c ≡ known))
    cases (inl same) =
        let parts = same_from_place r c row column old.0 small inside (same ∙ at) in
        inr (parts.0, parts.1, by_width ∙ get_or-set_at filled.1 place (r * old.0 + c) cell Nothing same within ∙ is)
    cases (inr differs) = inl (by_width ∙ get_or-set_other filled.1 place (r * old.0 + c) cell Nothing differs ∙ cells (r * old.0 + c))

pub returns-clause-others : goal.returns-clause-others
returns-clause-others c =
    let filled : Rows = (c.self-2.inside.width, c.self-2.inside.cells.items) in
    let place : ℕ = c.args.row * c.self.inside.width + c.args.column in
    let width : filled.0 ≡ c.args.self.now.0 = cc (c.fill.ensures.width, ap (λ (s : Rows). s.0) c.self-2.view_is, ap (λ (s : Rows). s.0) c.self.view_is) in
    let at : place ≡ c.args.row * c.args.self.now.0 + c.args.column = ap (λ n. c.args.row * n + c.args.column) (ap (λ (s : Rows). s.0) c.self.view_is) in
    let within : place < length filled.1 = omega (arith, c.in_ok-fill.ensures.there, ap (λ (s : Rows). length s.1) c.self-2.view_is) in
    one_changes c.args.self.now filled c.args.row c.args.column place c.in-Some.cell c.args.known width
    (λ i. cc (c.fill.ensures.cells i, ap (λ (s : Rows). get_or s.1 i Nothing) c.self-2.view_is, ap (λ (s : Rows). get_or s.1 i Nothing) c.self.view_is))
    c.requires at within c.in-Some.ensures.some
