-- The layer of a pattern that is made of its parts.
use Rattle.std.proofs.Common.{◌≡◌, ℕ, List, ap, ◌∙◌}
use Rattle.pattern_data.specs.declared.pattern.Pattern.{Pattern, out-Pattern}
use Rattle.pattern_data.specs.declared.pattern.Pattern.TheOpen.Pattern-F.{Set, Seq, Alt, Star, Plus, Opt}
use Rattle.pattern_data.specs.declared.pattern.Pattern.TheVariants.{Set as set_pattern, Seq as seq_pattern, Alt as alt_pattern, Star as star_pattern, Plus as plus_pattern, Opt as opt_pattern, outs-Set, outs-Seq, outs-Alt, outs-Star, outs-Plus, outs-Opt}

pub opens_set : (p : Pattern) (words : List ℕ) → p ≡ set_pattern words → out-Pattern p ≡ Set words
opens_set p words is = ap out-Pattern is ∙ outs-Set words

pub opens_sequence : (p : Pattern) (members : List Pattern) → p ≡ seq_pattern members → out-Pattern p ≡ Seq members
opens_sequence p members is = ap out-Pattern is ∙ outs-Seq members

pub opens_choice : (p : Pattern) (members : List Pattern) → p ≡ alt_pattern members → out-Pattern p ≡ Alt members
opens_choice p members is = ap out-Pattern is ∙ outs-Alt members

pub opens_star : (p inner : Pattern) → p ≡ star_pattern inner → out-Pattern p ≡ Star inner
opens_star p inner is = ap out-Pattern is ∙ outs-Star inner

pub opens_plus : (p inner : Pattern) → p ≡ plus_pattern inner → out-Pattern p ≡ Plus inner
opens_plus p inner is = ap out-Pattern is ∙ outs-Plus inner

pub opens_option : (p inner : Pattern) → p ≡ opt_pattern inner → out-Pattern p ≡ Opt inner
opens_option p inner is = ap out-Pattern is ∙ outs-Opt inner
