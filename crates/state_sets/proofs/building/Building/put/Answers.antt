use Rattle.std.proofs.Common.{rules, ◌≡◌, ◌++◌, [], ◌∷◌, sym, ◌∙◌, subst, arith}
use Rattle.state_sets.specs.Parts.{AreClassed, pairs_of}
use Rattle.state_sets.proofs.ClassLemmas.{put_pairs, put_classed, few_targets}
use Rattle.state_sets.proofs.building.Building.put.Goals as goal

pub class_of-requires-clause-few : goal.class_of-requires-clause-few
class_of-requires-clause-few c = omega (arith, few_targets c.args.self.now.starts.items c.args.self.now.classes.items c.args.self.now.targets.keys c.requires.classed, c.requires.few)

pub returns-clause-classed : goal.returns-clause-classed
returns-clause-classed c =
    let starts : c.push.new.self.items ≡ c.args.self.now.starts.items ++ c.args.start ∷ [] = search rules in
    let classes : c.push-2.new.self.items ≡ c.args.self.now.classes.items ++ c.in_ok-class.class ∷ [] = search rules in
    subst (λ l. AreClassed l c.push-2.new.self.items c.class_of.new.targets.keys) (sym starts) (subst (λ l. AreClassed (c.args.self.now.starts.items ++ c.args.start ∷ []) l c.class_of.new.targets.keys) (sym classes)
    (put_classed c.args.self.now.starts.items c.args.self.now.classes.items c.args.self.now.targets.keys c.class_of.new.targets.keys c.args.start c.args.target c.in_ok-class.class c.requires.classed c.in_ok-class.ensures.keys c.in_ok-class.ensures.class))

pub returns-clause-pair : goal.returns-clause-pair
returns-clause-pair c =
    let starts : c.push.new.self.items ≡ c.args.self.now.starts.items ++ c.args.start ∷ [] = search rules in
    let classes : c.push-2.new.self.items ≡ c.args.self.now.classes.items ++ c.in_ok-class.class ∷ [] = search rules in
    (λ i. pairs_of (starts i) (classes i) c.class_of.new.targets.keys)
    ∙ put_pairs c.args.self.now.starts.items c.args.self.now.classes.items c.args.self.now.targets.keys c.class_of.new.targets.keys c.args.start c.args.target c.in_ok-class.class c.requires.classed c.in_ok-class.ensures.keys c.in_ok-class.ensures.class
