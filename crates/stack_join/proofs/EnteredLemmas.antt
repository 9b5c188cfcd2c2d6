-- The maps that are walked anew are those of the closed piece.
use Rattle.std.proofs.Common.{◌≡◌, ℕ, if◌then◌else◌, List, [], ◌∷◌, ◌++◌, length, Option, Some, None, refl, sym, ap, ◌∙◌, arith}
use Rattle.std.specs.Prelude.{is_some, option_and_then}
use Rattle.std.proofs.lemmas.List.{same_from_push}
use Rattle.grammar_data.specs.declared.token.Token.{Token as TextToken}
use Rattle.node_data.specs.declared.kid.Kid.{Kid}
use Rattle.tree_theory.specs.Stores.{Store}
use Rattle.tree_theory.specs.Walks.{Step}
use Rattle.table_data.specs.Tables.{Tables}
use Rattle.map_theory.specs.Maps.{StateMap, target}
use Rattle.map_theory.specs.Relations.{IsIdentityOf}
use Rattle.piece_theory.specs.Pieces.{Floor, Piece, kids_of}
use Rattle.piece_theory.specs.WellMade.{start_of, IsMade}
use Rattle.piece_theory.proofs.FloorLemmas.{floors_law}
use Rattle.entry_laws.proofs.EntryLemmas.{one_stack}
use Rattle.segment_parser.specs.Working.{held_of}
use Rattle.segment_parser.specs.Entering.{AreEntered}

pub entries_kids : (maps : List StateMap) (kids : List Kid) (ids : List ℕ) → length ids ≡ length kids → kids_of (held_of maps kids ids) ≡ kids
entries_kids maps [] ids e = refl
entries_kids maps (k ∷ kids) [] e = absurd (omega (arith, e))
entries_kids maps (k ∷ kids) (x ∷ ids) e = ap (λ l. k ∷ l) (entries_kids maps kids ids (omega (arith, e)))

pub by_test : (o : Option ℕ) (q : ℕ) → (if is_some o then Some q else None) ≡ option_and_then (λ p. Some q) o
by_test None q = refl
by_test (Some p) q = refl

-- the last map of a well made piece's floors
last_starts : {t : Tables} {store : Store} {p : Piece} {w : List TextToken} {steps : List Step} (made : IsMade t store p w steps) (lower : List Floor) (f : Floor) → p.floors ≡ lower ++ f ∷ [] → f.starts ≡ made.last
last_starts {t} {p = p} made lower f floors =
    let by = floors_law t p.first p.floors made.last made.floors in
    let same = same_from_push lower by.0 f by.1 (sym floors ∙ by.2) in
    ap (λ (g : Floor). g.starts) same.1 ∙ by.3

pub entered_same : (t : Tables) (store : Store) (p : Piece) (w : List TextToken) (steps : List Step) (made : IsMade t store p w steps) (lower : List Floor) (f : Floor) → p.floors ≡ lower ++ f ∷ [] → (own : StateMap) → IsIdentityOf f.starts own → (maps : List StateMap) (kids : List Kid) (ids : List ℕ) → AreEntered t store (target own) maps kids ids → kids ≡ kids_of p.stack → held_of maps kids ids ≡ p.stack
entered_same t store p w steps made lower f floors own is maps kids ids entered same =
    let last = last_starts made lower f floors in
    one_stack (λ q. is.targets q ∙ by_test (target f.starts q) q ∙ ap (λ m. start_of m q) last) entered.steps made.maps (entries_kids maps kids ids entered.even ∙ same)
