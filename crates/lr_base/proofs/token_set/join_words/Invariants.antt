use Rattle.std.proofs.Common.{◌≡◌, ◌≢◌, ℕ, ◌<◌, ◌≤◌, get_or, length, bit_or, MatchBool}
use Rattle.lr_base.proofs.token_set.join_words.Given as goal

abbrev pub invariant-loop-place : goal.invariant-loop-place
invariant-loop-place l = record {
  four : length l.words ≡ 4;
  joined : (k : ℕ) → k < l.place → get_or l.words k 0 ≡ bit_or (get_or l.fn.words k 0) (get_or l.others k 0);
  others : (k : ℕ) → l.place ≤ k → get_or l.words k 0 ≡ get_or l.fn.words k 0;
  changed : MatchBool l.changed ((k : ℕ) × (k < l.place) × (get_or l.words k 0 ≢ get_or l.fn.words k 0)) (l.words ≡ l.fn.words);
}
