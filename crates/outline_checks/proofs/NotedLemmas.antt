-- What noting leaves of the first fault.
use Rattle.std.proofs.Common.{◌≡◌, ℕ, ◌<◌, ◌≤◌, Bool, true, IsTrue, refl, sym, subst, ◌∙◌, inl, inr, arith}
use Rattle.std.specs.Prelude.{◌⊎◌, Option, None, Some}
use Rattle.outline_data.specs.declared.fault.SheetFault.{SheetFault}
use Rattle.outline_data.specs.Keys.{fault_line, fault_number, IsNoLater}
use Rattle.outline_checks.specs.Noted.{IsCovered, Noted}

turn : (k a l b m c : ℕ) → ((k < l) ⊎ ((k ≡ l) × (a ≤ b)) → ⊥) → (k < m) ⊎ ((k ≡ m) × (a ≤ c)) → (l < m) ⊎ ((l ≡ m) × (b ≤ c))
turn k a l b m c later h = grind arith

still_covered : (before : Option SheetFault) (fault other : SheetFault) → (IsCovered before fault → ⊥) → IsCovered before other → IsNoLater fault other
still_covered None fault other later h = absurd h
still_covered (Some first) fault other later h =
    turn (fault_line first) (fault_number first) (fault_line fault) (fault_number fault) (fault_line other) (fault_number other) later h

no_later_itself : (fault : SheetFault) → IsNoLater fault fault
no_later_itself fault = inr (refl, omega arith)

pub noted_first : (before : Option SheetFault) (is_fault : Bool) (fault : SheetFault) → is_fault ≡ true → (IsCovered before fault → ⊥) → Noted before (Some fault) (λ f. IsTrue is_fault × (f ≡ fault))
noted_first before is_fault fault is later = record {
  kept = λ other h. still_covered before fault other later h;
  noted = λ other h. subst (λ o. IsNoLater fault o) (sym h.1) (no_later_itself fault);
  from = inr (fault, (refl, (is, refl)));
}

pub noted_none : (a : Option SheetFault) (Has : SheetFault → Type 0) → ((f : SheetFault) → Has f → ⊥) → Noted a a Has
noted_none a Has none = record { kept = λ f h. h; noted = λ f h. absurd (none f h); from = inl refl }

pub noted_both : {a b c : Option SheetFault} {P Q : SheetFault → Type 0} → Noted a b P → Noted b c Q → Noted a c (λ f. P f ⊎ Q f)
noted_both {a} {b} {c} {P} {Q} h k = record {
  kept = λ f x. k.kept f (h.kept f x);
  noted = λ f x. elim x [ inl p ↦ k.kept f (h.noted f p) | inr q ↦ k.noted f q ];
  from = from_either k.from h.from;
}
  where
    from_either : (c ≡ b) ⊎ ((f : SheetFault) × ((c ≡ Some f) × Q f)) → (b ≡ a) ⊎ ((f : SheetFault) × ((b ≡ Some f) × P f)) → (c ≡ a) ⊎ ((f : SheetFault) × ((c ≡ Some f) × (P f ⊎ Q f)))
    from_either (inr later) early = inr (later.0, (later.1.0, inr later.1.1))
    from_either (inl same) (inl e) = inl (same ∙ e)
    from_either (inl same) (inr early) = inr (early.0, (same ∙ early.1.0, inl early.1.1))

pub noted_as : {a b : Option SheetFault} {P : SheetFault → Type 0} (Q : SheetFault → Type 0) → Noted a b P → ((f : SheetFault) → P f → Q f) → ((f : SheetFault) → Q f → P f) → Noted a b Q
noted_as {a} {b} {P} Q h to back = record {
  kept = h.kept;
  noted = λ f q. h.noted f (back f q);
  from = elim h.from [ inl same ↦ inl same | inr p ↦ inr (p.0, (p.1.0, to p.0 p.1.1)) ];
}
