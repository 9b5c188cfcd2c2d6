use Rattle.std.proofs.Common.{length, sym, ap, refl}
use Rattle.std.proofs.lemmas.Bool.Decides.{Decides-eqb, not_from_Decides}
use Rattle.templates.specs.Pending.{nothing_left, parts_left}
use Rattle.templates.proofs.PendingLemmas.{none_of}
use Rattle.templates.proofs.parts.push_left.Goals as goal

pub returns-then-is_empty : goal.returns-then-is_empty
returns-then-is_empty c = nothing_left (none_of c.args.left.parts.now ((Decides-eqb (length c.args.left.parts.now) 0).0 (sym c.if-is_empty.ensures))) refl

pub returns : goal.returns
returns c = parts_left (λ none. not_from_Decides _ (Decides-eqb (length c.args.left.parts.now) 0) (sym c.if-is_empty.ensures) (ap length none)) c.in_ok-push.ensures.items
