use Rattle.std.proofs.Common.{subst}
use Rattle.node_data.specs.declared.kid.Kid.{Kid}
use Rattle.node_store.specs.Chunks.{store_of}
use Rattle.stack_finish.specs.Putting.{LeadsTo}
use Rattle.stack_finish.proofs.KidLemmas.{is_within, token_shifts, node_goes, hidden_leads}
use Rattle.stack_finish.proofs.putting.state_over.Goals as goal

pub shift_over-requires-clause-within : goal.shift_over-requires-clause-within
shift_over-requires-clause-within c = is_within c.holds.ensures c.requires.1

pub shift_over-requires-clause-shifts : goal.shift_over-requires-clause-shifts
shift_over-requires-clause-shifts c = (c.requires.0, token_shifts (subst (λ (k : Kid). LeadsTo c.args.tables.now (store_of c.args.store.now) k c.args.below c.requires.0) c.in-Token.is c.requires.1))

pub goto_over-requires-clause-within : goal.goto_over-requires-clause-within
goto_over-requires-clause-within c = is_within c.holds.ensures c.requires.1

pub goto_over-requires-clause-goes : goal.goto_over-requires-clause-goes
goto_over-requires-clause-goes c = (c.requires.0, node_goes (subst (λ (k : Kid). LeadsTo c.args.tables.now (store_of c.args.store.now) k c.args.below c.requires.0) c.in-Node.is c.requires.1))

pub unreachable-requires : goal.unreachable-requires
unreachable-requires c = hidden_leads (subst (λ (k : Kid). LeadsTo c.args.tables.now (store_of c.args.store.now) k c.args.below c.requires.0) c.in-Hidden.is c.requires.1)

pub returns-in-Token : goal.returns-in-Token
returns-in-Token c p leads = c.shift_over.ensures p (token_shifts (subst (λ (k : Kid). LeadsTo c.args.tables.now (store_of c.args.store.now) k c.args.below p) c.in-Token.is leads))

pub returns-in-Node : goal.returns-in-Node
returns-in-Node c p leads = c.goto_over.ensures p (node_goes (subst (λ (k : Kid). LeadsTo c.args.tables.now (store_of c.args.store.now) k c.args.below p) c.in-Node.is leads))
