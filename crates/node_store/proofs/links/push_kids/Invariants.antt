use Rattle.std.proofs.Common.{◌≡◌, ℕ, ◌+◌, ◌-◌, ◌^◌, ◌≤◌, ◌++◌, List, length, take, vec_len, vec_capacity}
use Rattle.node_data.specs.declared.kid.Kid.{Kid}
use Rattle.node_store.specs.declared.link.Link.{Link}
use Rattle.node_store.specs.Links.{AreNumbered, linked}
use Rattle.node_store.proofs.links.push_kids.Given as goal

-- so many of the kids are behind those that there were
pub record ArePushed (number : ℕ) (links before : List Link) (leaves olds : List Kid) (kids : List Kid) (done : ℕ) : Type 0 where
  pub numbered : AreNumbered 0 links (length leaves)
  pub are : linked number leaves links ≡ linked number olds before ++ take done kids
  pub longer : length links ≡ length before + done
  pub few : length leaves + (length kids - done) ≤ 2 ^ 31

abbrev pub invariant-loop-kid : goal.invariant-loop-kid
invariant-loop-kid l = record {
  pushed : ArePushed l.number l.links.items l.fn.links.items l.leaves.items l.fn.leaves.items l.kids l.kid-index;
  link_room : vec_len l.links + (length l.kids - l.kid-index) ≤ vec_capacity l.links;
  leaf_room : vec_len l.leaves + (length l.kids - l.kid-index) ≤ vec_capacity l.leaves;
}
