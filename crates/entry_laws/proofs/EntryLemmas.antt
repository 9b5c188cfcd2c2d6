-- Exact maps over the same kids are the same.
use Rattle.std.proofs.Common.{◌≡◌, ℕ, List, [], ◌∷◌, Option, refl, sym, ap, ap₂, ◌∙◌, subst}
use Rattle.std.specs.Prelude.{option_and_then}
use Rattle.std.proofs.lemmas.List.{same_from_push}
use Rattle.grammar_data.specs.declared.token.Token.{Token as TextToken}
use Rattle.node_data.specs.declared.kid.Kid.{Kid}
use Rattle.tree_theory.specs.Stores.{Store}
use Rattle.table_data.specs.Tables.{Tables, step_by}
use Rattle.map_theory.specs.Maps.{StateMap, target}
use Rattle.map_theory.proofs.MapLemmas.{same_targets}
use Rattle.piece_theory.specs.Pieces.{Floor, Held, Piece, kids_of}
use Rattle.piece_theory.specs.Applies.{HasSymbol}
use Rattle.piece_theory.specs.WellMade.{start_of, AreFloors, AreSteps, no_step, step_on}
use Rattle.piece_theory.proofs.ResultLemmas.{symbol_once}
use Rattle.piece_theory.proofs.FloorLemmas.{floors_law}
use Rattle.entry_laws.specs.Entries.{OneStackLaw, OnePieceLaw}

first_kid : {k l : Kid} {ks ls : List Kid} → k ∷ ks ≡ l ∷ ls → k ≡ l
first_kid e = cc

later_kids : {k l : Kid} {ks ls : List Kid} → k ∷ ks ≡ l ∷ ls → ks ≡ ls
later_kids e = cc

no_kids : {k : Kid} {ks : List Kid} → [] ≡ k ∷ ks → ⊥
no_kids e = cc

same_held : (h g : Held) → h.kid ≡ g.kid → h.states ≡ g.states → h ≡ g
same_held h g kid states = λ i. record { kid = kid i; states = states i }

pub one_stack : {t : Tables} {store : Store} {hs gs : List Held} {from other : ℕ → Option ℕ} → ((q : ℕ) → from q ≡ other q) → AreSteps t store from hs → AreSteps t store other gs → kids_of hs ≡ kids_of gs → hs ≡ gs
one_stack same no_step no_step e = refl
one_stack same no_step (step_on x symbol rising at more) e = absurd (no_kids e)
one_stack same (step_on x symbol rising at more) no_step e = absurd (no_kids (sym e))
one_stack {t} {store} {from = from} {other = other} same (step_on {h = h} x symbol rising at more) (step_on {h = g} y symbol1 rising1 at1 more1) e =
    let kid = first_kid e in
    let one : x ≡ y = symbol_once symbol (subst (λ k. HasSymbol t.rules store k y) (sym kid) symbol1) in
    let next : (q : ℕ) → target h.states q ≡ target g.states q = λ q. at q ∙ ap (option_and_then (λ p. step_by t p x)) (same q) ∙ ap (λ z. option_and_then (λ p. step_by t p z) (other q)) one ∙ sym (at1 q) in
    ap₂ (λ f rest. f ∷ rest) (same_held h g kid (same_targets h.states g.states rising rising1 next)) (one_stack next more more1 (later_kids e))

pub one_stack_law : OneStackLaw
one_stack_law t store from hs gs first second e = one_stack (λ q. refl) first second e

same_piece : (p q : Piece) → p.first ≡ q.first → p.count ≡ q.count → p.floors ≡ q.floors → p.stack ≡ q.stack → p ≡ q
same_piece p q first count floors stack = λ i. record { first = first i; count = count i; floors = floors i; stack = stack i }

-- floors have one last map
last_once : {t : Tables} {first other : TextToken} {floors more : List Floor} {last end : StateMap} → AreFloors t first floors last → AreFloors t other more end → floors ≡ more → last ≡ end
last_once {t} {first} {other} {floors} {more} {last} {end} one two same =
    let x = floors_law t first floors last one in
    let y = floors_law t other more end two in
    let parts = same_from_push x.0 y.0 x.1 y.1 (sym x.2 ∙ same ∙ y.2) in
    sym x.3 ∙ ap (λ (f : Floor). f.starts) parts.1 ∙ y.3

pub one_piece_law : OnePieceLaw
one_piece_law t store p q w other steps more made also first count floors kids =
    let last = last_once made.floors also.floors floors in
    same_piece p q first count floors (one_stack (λ x. ap (λ m. start_of m x) last) made.maps also.maps kids)
