use Rattle.std.proofs.Common.{◌≡◌, ℕ, zero, suc, ◌+◌, ◌-◌, ◌<◌, List, Bool, true, false, length, refl, sym, ap, ◌∙◌, subst, arith}
use Rattle.std.specs.Prelude.{◌||◌}
use Rattle.sheet_data.specs.Sheet.{Sheet}
use Rattle.name_table.specs.Markings.{IsSettled, unmarking}
use Rattle.name_table.proofs.markings.note_rules.Invariants.{AreNoted}
use Rattle.name_table.proofs.markings.note_rules.Goals as goal

module _ (sheet : Sheet) (before now next : List Bool) (left : ℕ) (some : 0 < left) where
  -- the rules from the one before on
  settled_from : next ≡ now → IsSettled sheet now (left - 1) → ((k : ℕ) → left + k < length sheet.grammar.rules → IsSettled sheet now (left + k)) → (k : ℕ) → left - 1 + k < length sheet.grammar.rules → IsSettled sheet next (left - 1 + k)
  settled_from same here rest zero less =
      let at : left - 1 ≡ left - 1 + 0 = omega arith in
      subst (IsSettled sheet next) at (subst (λ marking. IsSettled sheet marking (left - 1)) (sym same) here)
  settled_from same here rest (suc k) less =
      let at : left + k ≡ left - 1 + suc k = omega (arith, some) in
      subst (IsSettled sheet next) at (subst (λ marking. IsSettled sheet marking (left + k)) (sym same) (rest k (omega (arith, less, at))))

  more : (noted found : Bool) → AreNoted sheet before now noted left → length next ≡ length now → (found ≡ true → unmarking next < unmarking now) → (found ≡ false → next ≡ now) → (found ≡ false → IsSettled sheet now (left - 1)) → AreNoted sheet before next (noted || found) (left - 1)
  more true true old count fewer same settled = record {
    within = (let within = old.within in omega (arith, within));
    count = count ∙ old.count;
    fewer = λ e. (let one = fewer refl in let all = old.fewer refl in omega (arith, one, all));
    same = λ e. absurd (cc);
    settled = λ e. absurd (cc);
  }
  more true false old count fewer same settled = record {
    within = (let within = old.within in omega (arith, within));
    count = count ∙ old.count;
    fewer = λ e. (let one = ap unmarking (same refl) in let all = old.fewer refl in omega (arith, one, all));
    same = λ e. absurd (cc);
    settled = λ e. absurd (cc);
  }
  more false true old count fewer same settled = record {
    within = (let within = old.within in omega (arith, within));
    count = count ∙ old.count;
    fewer = λ e. (let one = fewer refl in let all = ap unmarking (old.same refl) in omega (arith, one, all));
    same = λ e. absurd (cc);
    settled = λ e. absurd (cc);
  }
  more false false old count fewer same settled = record {
    within = (let within = old.within in omega (arith, within));
    count = count ∙ old.count;
    fewer = λ e. absurd (cc);
    same = λ e. same refl ∙ old.same refl;
    settled = λ e. settled_from (same refl) (settled refl) (old.settled refl);
  }

pub loop-left-preserved : goal.loop-left-preserved
loop-left-preserved c =
    more c.args.sheet.now c.args.marking.now.items c.loop-left.marking.items c.note_rule-noted.new.marking.items c.loop-left.left (omega (arith, c.loop-left-test.true)) c.loop-left.noted c.note_rule-noted.result c.loop-left.invariant
    c.note_rule-noted.ensures.count c.note_rule-noted.ensures.fewer c.note_rule-noted.ensures.same c.note_rule-noted.ensures.settled

pub returns-clause-settled : goal.returns-clause-settled
returns-clause-settled c = λ none r less.
    (let end : c.loop-left.left + r ≡ r = omega (arith, c.loop-left-test.false) in
    subst (IsSettled c.args.sheet.now c.loop-left.marking.items) end (c.loop-left.invariant.settled none r (omega (arith, less, end))))
