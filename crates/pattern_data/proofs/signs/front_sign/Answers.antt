use Rattle.std.proofs.Common.{◌≡◌, ◌∙◌, ◌∷◌, ◌-◌, List, ℕ, length, get_or, take, drop, sym, arith}
use Rattle.pattern_data.specs.declared.signs.Kind.TheVariants.{Class}
use Rattle.pattern_data.specs.Signs.{kind_of}
use Rattle.pattern_data.proofs.MemberLemmas.{front_rest}
use Rattle.pattern_data.proofs.SignLemmas.{class_begins, same_match}
use Rattle.pattern_data.proofs.signs.front_sign.Goals as goal

pub returns-in-Class-clause-front : goal.returns-in-Class-clause-front
returns-in-Class-clause-front c =
    let text : List ℕ = c.args.text.now in
    let is : text ≡ get_or text 0 0 ∷ take (length text - 1) (drop 1 text) = front_rest text (omega arith) in
    let kind : kind_of (get_or text 0 0) ≡ Class = sym c.begins.ensures ∙ c.in-Class.is in
    let both = class_begins text (take (length text - 1) (drop 1 text)) (get_or text 0 0) is kind in
    same_match c.class_sign.result _ _ _ _ (λ none sign rest h. none sign rest ((both sign rest).0 h)) (λ front h. (both front.0 front.1.now).1 h) c.class_sign.ensures.front
