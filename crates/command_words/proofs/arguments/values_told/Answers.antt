use Rattle.std.proofs.Common.{map, string_bytes}
use Rattle.command_words.proofs.ClapLemmas.{told_by}
use Rattle.command_words.proofs.arguments.values_told.Goals as goal

pub returns-clause-values : goal.returns-clause-values
returns-clause-values c =
    told_by c.args.name (map string_bytes c.args.words.now) c.in_ok-matches.matches c.in_ok-matches.ensures.rows _ _ _ _ _ _ _ _ c.get_str.ensures c.get_str-2.ensures c.get_str-3.ensures c.get_str-4.ensures c.get_str-5.ensures c.get_str-6.ensures c.get_str-7.ensures c.get_str-8.ensures
