-- Between two floors each alive start has a state over the entries.
use Rattle.std.proofs.Common.{◌⊎◌, inl, inr, List, ◌∷◌, ◌++◌, [], IsSome, sym, ap, ◌∙◌, subst}
use Rattle.grammar_data.specs.declared.token.Token.{Token as TextToken}
use Rattle.tree_theory.specs.Stores.{Supply}
use Rattle.machine_theory.specs.Machine.{Entry, top}
use Rattle.piece_theory.specs.Pieces.{Fault}
use Rattle.piece_theory.specs.Applies.{Falls, Fails, Leaves}
use Rattle.piece_theory.specs.WellMade.{AreStacked}
use Rattle.piece_theory.proofs.ResultLemmas.{falls_once, falls_not_fails}
use Rattle.context_laws.specs.Contexts.{IsEnd}
use Rattle.context_laws.proofs.ContextLemmas.{end_law}
use Rattle.join_theory.specs.Faults.{state_over}
use Rattle.join_theory.proofs.PutLemmas.{top_state}
use Rattle.join_theory.proofs.AliveLemmas.{is_some_of}
use Rattle.landing_laws.specs.Carrying.{JoinWideLaw}

pub join_wide_law : JoinWideLaw
join_wide_law g t lawful lead store now left right p u v beside lower e further joining q alive = by (joining.put_on end.comes.from end.comes.is_context).came
  where
    end : IsEnd t left.first (lower ++ e ∷ []) q
    end = end_law g t lawful lead left.first lower e q (subst (λ (x : TextToken). AreStacked t x lower e) joining.first joining.floors.floors) alive

    down : Falls p.floors end.comes.from end.rest end.comes.supply
    down = subst (λ l. Falls l end.comes.from end.rest end.comes.supply) (sym joining.floors.on_floors) end.comes.falls

    by : ((x : Fault) × Fails p.floors end.comes.from x) ⊎ ((mid : List Entry) × (low : List Entry) × (supply : Supply) × Leaves t.rules store left end.comes.from mid × Falls joining.taken mid low supply) → IsSome (state_over e.starts p.stack q)
    by (inl (x, fails)) = absurd (falls_not_fails down fails)
    by (inr (mid, low, supply, leaves, fallen)) =
        let c = (joining.put_on end.comes.from end.comes.is_context).comes mid low supply leaves fallen in
        let base = ap (top 0) (falls_once c.down down).0 ∙ end.on_top in
        is_some_of (ap (λ y. state_over e.starts p.stack y) (sym base) ∙ top_state e.starts c.alive c.up)
