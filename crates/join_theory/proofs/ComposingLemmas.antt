-- A composed piece stands for the tokens of both.
use Rattle.std.proofs.Common.{◌≡◌, ℕ, ◌+◌, List, [], ◌∷◌, ◌++◌, length, sym, ap, ◌∙◌, subst, append_assoc}
use Rattle.grammar_data.specs.declared.token.Token.{Token as TextToken}
use Rattle.tree_theory.specs.Stores.{Store}
use Rattle.table_data.specs.Tables.{Tables}
use Rattle.machine_theory.specs.Machine.{Entry, Reaches, Errs}
use Rattle.machine_theory.proofs.RunLemmas.{reaches_then, reaches_more, error_then_law, error_more_input_law}
use Rattle.lawful_theory.proofs.FitLemmas.{run_stack}
use Rattle.part_theory.specs.Parts.{IsContext}
use Rattle.piece_theory.specs.Pieces.{Fault, Piece}
use Rattle.piece_theory.specs.Applies.{Leaves, Tells, tells_error, tells_stack}
use Rattle.join_theory.specs.Faults.{IsLaterBy}
use Rattle.join_theory.specs.Composing.{IsComposedAt, TellsComposedLaw, StandsComposedLaw}

-- an error of a fault that is another, found later
error_later : (t : Tables) (s : List Entry) (w : List TextToken) (tokens : ℕ) (x y : Fault) → IsLaterBy tokens x y → Errs t 0 s w (tokens + x.index) x.token x.state → Errs t 0 s w y.index y.token y.state
error_later t s w tokens x y later errs =
    let first = subst (λ (i : ℕ). Errs t 0 s w i x.token x.state) (sym later.index) errs in
    let second = subst (λ (token : TextToken). Errs t 0 s w y.index token x.state) (sym later.token) first in
    subst (λ (q : ℕ). Errs t 0 s w y.index y.token q) (sym later.state) second

-- the input with what follows
whole_input : (u v later next : List TextToken) (first : TextToken) → v ≡ first ∷ later → (u ++ first ∷ []) ++ (later ++ next) ≡ (u ++ v) ++ next
whole_input u v later next first e = regroup ∙ ap (λ l. (u ++ l) ++ next) (sym e)
  where
    regroup : (u ++ first ∷ []) ++ (later ++ next) ≡ (u ++ first ∷ later) ++ next
    regroup = simp append_assoc

tells_right : (t : Tables) (store new : Store) (left right p : Piece) (u v later next : List TextToken) (s mid : List Entry) → v ≡ right.first ∷ later → IsComposedAt t.rules store new (length u) left right p s → Leaves t.rules store left s mid → Reaches t 0 s (u ++ right.first ∷ []) mid (right.first ∷ []) → Tells t store right v next mid → Tells t new p (u ++ v) next s
tells_right t store new left right p u v later next s mid begins composed leaves run tells = cases tells
  where
    to_mid : Reaches t 0 s (u ++ (v ++ next)) mid (v ++ next)
    to_mid =
        let more = reaches_more (later ++ next) run in
        let input = whole_input u v later next right.first begins ∙ append_assoc u v next in
        let rest : right.first ∷ (later ++ next) ≡ v ++ next = ap (λ l. l ++ next) (sym begins) in
        subst (λ l. Reaches t 0 s (u ++ (v ++ next)) mid l) rest (subst (λ l. Reaches t 0 s l mid (right.first ∷ (later ++ next))) input more)

    cases : Tells t store right v next mid → Tells t new p (u ++ v) next s
    cases (tells_error {fault = x} fails errs) =
        let found = composed.right_errs mid leaves x fails in
        let whole = error_then_law t 0 s mid u (v ++ next) x.index x.token x.state to_mid errs in
        tells_error found.1 (error_later t s ((u ++ v) ++ next) (length u) x found.0 found.2 (subst (λ l. Errs t 0 s l (length u + x.index) x.token x.state) (sym (append_assoc u v next)) whole))
    cases (tells_stack {last = last} over run2) =
        tells_stack (composed.leaves mid last leaves over) (subst (λ l. Reaches t 0 s l last next) (sym (append_assoc u v next)) (reaches_then to_mid run2))

pub tells_composed_law : TellsComposedLaw
tells_composed_law g t lawful store new left right p u v later next s begins stack composed shifts tells stands = cases tells
  where
    cases : Tells t store left u (right.first ∷ []) s → Tells t new p (u ++ v) next s
    cases (tells_error {fault = x} fails errs) =
        let more = error_more_input_law t 0 s (u ++ right.first ∷ []) (later ++ next) x.index x.token x.state errs in
        tells_error (composed.left_errs x fails) (subst (λ l. Errs t 0 s l x.index x.token x.state) (whole_input u v later next right.first begins) more)
    cases (tells_stack {last = mid} leaves run) =
        let shift = shifts mid leaves in
        let is_context : IsContext t right.first.id mid = record { stack = run_stack lawful run stack; state = shift.0; shifts = shift.1 } in
        tells_right t store new left right p u v later next s mid begins composed leaves run (stands mid is_context)

pub stands_composed_law : StandsComposedLaw
stands_composed_law g t lawful store new left right p u v later next begins first composed shifts left_stands right_stands s context =
    let here : IsContext t left.first.id s = subst (λ (x : TextToken). IsContext t x.id s) first context in
    tells_composed_law g t lawful store new left right p u v later next s begins here.stack (composed s here) (shifts s here) (left_stands s here) right_stands
