use Rattle.std.proofs.Common.{◌≡◌, ◌∷◌, ◌+◌, ◌∙◌, drop, sym, ap, subst}
use Rattle.std.proofs.lemmas.List.{drop_more, get_or_default, take_rest}
use Rattle.item_sets.specs.Spots.{IsRestBy}
use Rattle.item_sets.proofs.TableLemmas.{rest_of_facts}
use Rattle.item_sets.proofs.spot.spot_at.Goals as goal

pub returns : goal.returns
returns c =
    let here = c.index-right-dot-2.result in
    let back = drop (c.args.dot + 1) c.args.right.now in
    let same : c.index-right-dot.result ≡ here = c.index-right-dot.is ∙ get_or_default c.args.right.now c.args.dot _ here c.requires.within ∙ sym c.index-right-dot-2.is in
    record {
      after = back;
      behind = drop_more c.args.right.now c.args.dot here c.requires.within ∙ ap (λ x. x ∷ back) (sym c.index-right-dot-2.is);
      column = (cc);
      rest = rest_of_facts c.args.grammar.now c.args.firsts.now back _ _ c.requires.facts
          (subst (λ xs. IsRestBy c.args.firsts.now xs c.rest-first.result.0 c.rest-first.result.1) (take_rest c.args.right.now (c.args.dot + 1)) c.rest-first.ensures.rest);
      set = c.rest-first.ensures.set;
    }
