use Rattle.std.proofs.Common.{ℕ, ◌+◌, ◌-◌, List, length, take, drop, Option, subst, sym, rules}
use Rattle.std.proofs.KnownBytes.{Appends-trans}
use Rattle.std.proofs.Math.Seq.{take-add}
use Rattle.std.proofs.lemmas.List.{take_rest}
use Rattle.std.specs.Io.KnownBytes.{Appends}
use Rattle.lr_base.proofs.writing.write_all.Goals as goal

-- a sink that took the bytes before a place, and then some of the rest, took the bytes before the later place
Appends-next : (a b c : Option (List ℕ)) (bytes : List ℕ) (at count : ℕ) → Appends a b (take at bytes)
    → Appends b c (take count (take (length bytes - at) (drop at bytes))) → Appends a c (take (at + count) bytes)
Appends-next a b c bytes at count before now =
    subst (Appends a c) (sym (take-add at count bytes))
    (Appends-trans a b c _ _ before (subst (λ rest. Appends b c (take count rest)) (take_rest bytes at) now))

pub loop-at-preserved : goal.loop-at-preserved
loop-at-preserved g c = record {
  within = search rules;
  appended = Appends-next _ _ _ c.args.bytes.now c.loop-at.at c.in-Ok.count c.loop-at.invariant.appended c.in-Ok.ensures.writes.bytes;
  kept = search rules;
  same = search rules;
  unmoved = search rules;
  written = search rules;
}
