use Rattle.std.proofs.Common.{take, ◌≡◌, length}
use Rattle.first_sets.proofs.UseLemmas.{AreMentionsOf}
use Rattle.first_sets.proofs.uses.pairs_of_mentions.Given as goal

abbrev pub invariant-loop-name : goal.invariant-loop-name
invariant-loop-name l = record {
  mentions : AreMentionsOf l.grammar.rules (take l.name-index l.uses) l.pairs.items;
  count : length l.pairs.items ≡ l.name-index;
}
