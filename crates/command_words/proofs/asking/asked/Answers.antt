use Rattle.std.proofs.Common.{rules, ℕ, List, subst}
use Rattle.answer_theory.specs.declared.task.Task.{Task}
use Rattle.word_theory.specs.Words.{AsksFor, asks_tokens, asks_check, asks_tables, asks_run, asks_gen, asks_load}
use Rattle.command_words.specs.Commands.{told_of}
use Rattle.command_words.proofs.AskingLemmas.{asked_by, not_run, not_loaded}
use Rattle.command_words.proofs.CommaLemmas.{fault_at}
use Rattle.command_words.proofs.asking.asked.Goals as goal

pub returns-in_err-options-in-Run-clause-fault : goal.returns-in_err-options-in-Run-clause-fault
returns-in_err-options-in-Run-clause-fault c =
    fault_at ((task : Task) (names : List (List ℕ)) → ¬ (AsksFor (told_of c.args.values) c.args.name task names)) c.from_residual-in_err-options-in-Run.result c.in_err-options-in-Run.field-0.0 c.from_residual-in_err-options-in-Run.ensures.1
    (λ bad task names asks. not_run (told_of c.args.values) (c.in_err-options-in-Run.ensures.fault bad) (subst (λ n. AsksFor (told_of c.args.values) n task names) c.in-Run.is asks))

pub returns-in_err-options-in-Load-clause-fault : goal.returns-in_err-options-in-Load-clause-fault
returns-in_err-options-in-Load-clause-fault c =
    fault_at ((task : Task) (names : List (List ℕ)) → ¬ (AsksFor (told_of c.args.values) c.args.name task names)) c.from_residual-in_err-options-in-Load.result c.in_err-options-in-Load.field-0.0 c.from_residual-in_err-options-in-Load.ensures.1
    (λ bad task names asks. not_loaded (told_of c.args.values) (c.in_err-options-in-Load.ensures.fault bad) (subst (λ n. AsksFor (told_of c.args.values) n task names) c.in-Load.is asks))

pub returns-in_ok-text-in-Tokens-clause-asked : goal.returns-in_ok-text-in-Tokens-clause-asked
returns-in_ok-text-in-Tokens-clause-asked c = asked_by _ _ _ _ _ c.in-Tokens.is (asks_tokens (search rules) (search rules))

pub returns-in-Check-clause-asked : goal.returns-in-Check-clause-asked
returns-in-Check-clause-asked c = asked_by _ _ _ _ _ c.in-Check.is (asks_check (search rules))

pub returns-in-Tables-clause-asked : goal.returns-in-Tables-clause-asked
returns-in-Tables-clause-asked c = asked_by _ _ _ _ _ c.in-Tables.is (asks_tables (search rules))

pub returns-in_ok-options-in-Run-clause-asked : goal.returns-in_ok-options-in-Run-clause-asked
returns-in_ok-options-in-Run-clause-asked c = asked_by _ _ _ _ _ c.in-Run.is (asks_run (search rules) (search rules) c.in_ok-options-in-Run.ensures.asked)

pub returns-in_ok-seed-in-Gen-clause-asked : goal.returns-in_ok-seed-in-Gen-clause-asked
returns-in_ok-seed-in-Gen-clause-asked c = asked_by _ _ _ _ _ c.in-Gen.is (asks_gen (search rules) (search rules))

pub returns-in_ok-options-in-Load-clause-asked : goal.returns-in_ok-options-in-Load-clause-asked
returns-in_ok-options-in-Load-clause-asked c = asked_by _ _ _ _ _ c.in-Load.is (asks_load (search rules) (search rules) c.in_ok-options-in-Load.ensures.asked)
