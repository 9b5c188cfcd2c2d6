use Rattle.std.proofs.Common.{◌<◌, length, subst}
use Rattle.grammar_theory.specs.UsefulNames.{IsReachable}
use Rattle.first_sets.specs.EmptySizes.{AreKnownBelow, IsLeastUnknown}
use Rattle.first_sets.proofs.FactLemmas.{all_known, below_known, none_known}
use Rattle.first_sets.proofs.analysis.check_reachable.Goals as goal

pub returns-in-None : goal.returns-in-None
returns-in-None c =
    let known = c.in_ok-reached.reached.items in
    let all : AreKnownBelow known (length known) = subst (λ l. AreKnownBelow l (length l)) c.deref.ensures.value c.in-None.ensures in
    all_known (IsReachable c.args.grammar.now) known c.args.grammar.now.names c.in_ok-reached.ensures.known c.in_ok-reached.ensures.count all

pub returns : goal.returns
returns c =
    let known = c.in_ok-reached.reached.items in
    let exact = c.in_ok-reached.ensures.known in
    let least : IsLeastUnknown known c.in-Some.name = subst (λ l. IsLeastUnknown l c.in-Some.name) c.deref.ensures.value c.in-Some.ensures in
    record {
      productive = c.requires.productive;
      name = subst (λ n. c.in-Some.name < n) c.in_ok-reached.ensures.count least.name;
      unreachable = none_known (IsReachable c.args.grammar.now) known c.in-Some.name exact least.unknown;
      least = below_known (IsReachable c.args.grammar.now) known c.in-Some.name exact least.least;
    }
