-- The targets of the classes are the targets of the map, and agree in the same.
use Rattle.std.proofs.Common.{◌≡◌, ◌≢◌, ℕ, zero, suc, ◌⊎◌, inl, inr, Bool, true, false, cond, eqb, List, [], ◌∷◌, ◌++◌, length, get_or, map, Some, refl, sym, ap, ◌∙◌, subst, arith}
use Rattle.std.specs.Prelude.{All, AllPairs, Contains, fold, slice_get}
use Rattle.std.specs.List.{list_any}
use Rattle.std.proofs.lemmas.Bool.{cases_eq, eq-eqb, eqb-true}
use Rattle.std.proofs.lemmas.Option.{same_Some, slice_get_within, get_or_from_slice_get, slice_get-get_or}
use Rattle.std.proofs.lemmas.List.{map-append}
use Rattle.std.proofs.lemmas.List.Elements.{All-nil, All-head, All-tail, All-push}
use Rattle.std.proofs.lemmas.List.Folds.{list_any_at, Any-from_list_any}
use Rattle.std.proofs.lemmas.List.Quantifiers.{all_pairs_push}
use Rattle.table_data.specs.Tables.{Tables}
use Rattle.map_theory.specs.declared.agree.Agree.{Agree}
use Rattle.map_theory.specs.Maps.{StateMap, target, IsRising}
use Rattle.map_theory.specs.Agreements.{Agrees}
use Rattle.map_theory.proofs.MapLemmas.{target_at, target_other, target_cases}
use Rattle.map_theory.proofs.AgreementLemmas.{Adds, agrees_alike}
use Rattle.state_sets.specs.Classes.{put_once, targets_of, themselves, ClassLaw}
use Rattle.state_sets.proofs.PartsLemmas.{target_at_pair}
use Rattle.state_sets.proofs.ClassLemmas.{put_cases, put_keeps}

-- ---- states to themselves

same_state : (ps : List ℕ) (q z : ℕ) → target (themselves ps) q ≡ Some z → q ≡ z
same_state [] q z is = absurd (cc is)
same_state (x ∷ ps) q z is = cases (cases_eq x q) (same_state ps q z)
  where
    cases : (x ≡ q) ⊎ (x ≡ q → ⊥) → (target (themselves ps) q ≡ Some z → q ≡ z) → q ≡ z
    cases (inl same) go = sym same ∙ same_Some x z (sym (target_at (x, x) (themselves ps) q same) ∙ is)
    cases (inr other) go = go (sym (target_other (x, x) (themselves ps) q other) ∙ is)

pub state_at : (ps : List ℕ) (k z : ℕ) → slice_get ps k ≡ Some z → target (themselves ps) z ≡ Some z
state_at [] k z is = absurd (cc is)
state_at (x ∷ ps) zero z is = let same : x ≡ z = same_Some x z is in target_at (x, x) (themselves ps) z same ∙ ap Some same
state_at (x ∷ ps) (suc k) z is = cases (cases_eq x z) (state_at ps k z is)
  where
    cases : (x ≡ z) ⊎ (x ≡ z → ⊥) → target (themselves ps) z ≡ Some z → target ((x, x) ∷ themselves ps) z ≡ Some z
    cases (inl same) go = target_at (x, x) (themselves ps) z same ∙ ap Some same
    cases (inr other) go = target_other (x, x) (themselves ps) z other ∙ go

all_states : (P : ℕ → Type 0) (ps : List ℕ) (q z : ℕ) → All P ps → target (themselves ps) q ≡ Some z → P z
all_states P [] q z all is = absurd (cc is)
all_states P (x ∷ ps) q z all is = cases (target_cases (x, x) (themselves ps) q z is) (all_states P ps q z (All-tail P x ps all))
  where
    cases : (x ≡ z) ⊎ (target (themselves ps) q ≡ Some z) → (target (themselves ps) q ≡ Some z → P z) → P z
    cases (inl same) go = subst P same (All-head P x ps all)
    cases (inr later) go = go later

target_before : (m n : StateMap) (q z : ℕ) → target m q ≡ Some z → target (m ++ n) q ≡ Some z
target_before [] n q z is = absurd (cc is)
target_before (x ∷ m) n q z is = cases (cases_eq x.0 q) (target_before m n q z)
  where
    cases : (x.0 ≡ q) ⊎ (x.0 ≡ q → ⊥) → (target m q ≡ Some z → target (m ++ n) q ≡ Some z) → target (x ∷ (m ++ n)) q ≡ Some z
    cases (inl same) go = target_at x (m ++ n) q same ∙ sym (target_at x m q same) ∙ is
    cases (inr other) go = target_other x (m ++ n) q other ∙ go (sym (target_other x m q other) ∙ is)

target_last : (m : StateMap) (pair : ℕ × ℕ) (q z : ℕ) → target (m ++ pair ∷ []) q ≡ Some z → (pair.1 ≡ z) ⊎ (target m q ≡ Some z)
target_last [] pair q z is = target_cases pair [] q z is
target_last (x ∷ m) pair q z is = cases (cases_eq x.0 q) (target_last m pair q z)
  where
    cases : (x.0 ≡ q) ⊎ (x.0 ≡ q → ⊥) → (target (m ++ pair ∷ []) q ≡ Some z → (pair.1 ≡ z) ⊎ (target m q ≡ Some z)) → (pair.1 ≡ z) ⊎ (target (x ∷ m) q ≡ Some z)
    cases (inl same) go = inr (target_at x m q same ∙ sym (target_at x (m ++ pair ∷ []) q same) ∙ is)
    cases (inr other) go = back (go (sym (target_other x (m ++ pair ∷ []) q other) ∙ is))
      where
        back : (pair.1 ≡ z) ⊎ (target m q ≡ Some z) → (pair.1 ≡ z) ⊎ (target (x ∷ m) q ≡ Some z)
        back (inl last) = inl last
        back (inr old) = inr (target_other x m q other ∙ old)

themselves_push : (ps : List ℕ) (p : ℕ) → themselves (ps ++ p ∷ []) ≡ themselves ps ++ (p, p) ∷ []
themselves_push ps p = map-append (λ x. (x, x)) ps (p ∷ [])

last_at : (ps : List ℕ) (p : ℕ) → target (themselves ps ++ (p, p) ∷ []) p ≡ Some p
last_at [] p = target_at (p, p) [] p refl
last_at (x ∷ ps) p = cases (cases_eq x p) (last_at ps p)
  where
    cases : (x ≡ p) ⊎ (x ≡ p → ⊥) → target (themselves ps ++ (p, p) ∷ []) p ≡ Some p → target ((x, x) ∷ (themselves ps ++ (p, p) ∷ [])) p ≡ Some p
    cases (inl same) go = target_at (x, x) (themselves ps ++ (p, p) ∷ []) p same ∙ ap Some same
    cases (inr other) go = target_other (x, x) (themselves ps ++ (p, p) ∷ []) p other ∙ go

pub push_adds : (ps : List ℕ) (p : ℕ) → Adds (themselves ps) p (themselves (ps ++ p ∷ []))
push_adds ps p = subst (Adds (themselves ps) p) (sym (themselves_push ps p)) record {
  keeps = λ q z is. (q, target_before (themselves ps) ((p, p) ∷ []) q z is);
  start = p;
  new = last_at ps p;
  only = λ q z is. old q z (target_last (themselves ps) (p, p) q z is);
}
  where
    old : (q z : ℕ) → (p ≡ z) ⊎ (target (themselves ps) q ≡ Some z) → (p ≡ z) ⊎ ((y : ℕ) × (target (themselves ps) y ≡ Some z))
    old q z (inl same) = inl same
    old q z (inr is) = inr (q, is)

-- ---- the targets of the classes

put_has : (ps : List ℕ) (p : ℕ) → (k : ℕ) × (slice_get (put_once ps p) k ≡ Some p)
put_has ps p = cases (list_any (λ x. eqb p x) ps) refl
  where
    end : (l : List ℕ) → slice_get (l ++ p ∷ []) (length l) ≡ Some p
    end [] = refl
    end (x ∷ l) = end l

    cases : (b : Bool) → list_any (λ x. eqb p x) ps ≡ b → (k : ℕ) × (slice_get (cond b ps (ps ++ p ∷ [])) k ≡ Some p)
    cases true is = let any = Any-from_list_any (λ x. eqb p x) ps is in (any.0, slice_get-get_or ps any.0 any.1 any.2 ∙ ap Some (any.3 ∙ sym (eqb-true p any.1 any.4)))
    cases false is = (length ps, end ps)

fold_keeps : (seen : List ℕ) (m : StateMap) (k z : ℕ) → slice_get seen k ≡ Some z → slice_get (fold put_once seen (map (λ x. x.1) m)) k ≡ Some z
fold_keeps seen [] k z is = is
fold_keeps seen (x ∷ m) k z is = fold_keeps (put_once seen x.1) m k z (put_keeps seen x.1 k z is)

has_target : (seen : List ℕ) (m : StateMap) (q z : ℕ) → target m q ≡ Some z → (k : ℕ) × (slice_get (fold put_once seen (map (λ x. x.1) m)) k ≡ Some z)
has_target seen [] q z is = absurd (cc is)
has_target seen (x ∷ m) q z is = cases (target_cases x m q z is) (has_target (put_once seen x.1) m q z)
  where
    cases : (x.1 ≡ z) ⊎ (target m q ≡ Some z) → (target m q ≡ Some z → (k : ℕ) × (slice_get (fold put_once (put_once seen x.1) (map (λ y. y.1) m)) k ≡ Some z)) → (k : ℕ) × (slice_get (fold put_once (put_once seen x.1) (map (λ y. y.1) m)) k ≡ Some z)
    cases (inl same) go = let put = put_has seen x.1 in (put.0, fold_keeps (put_once seen x.1) m put.0 z (put.1 ∙ ap Some same))
    cases (inr later) go = go later

fold_all : (P : ℕ → Type 0) (seen : List ℕ) (m : StateMap) → All P seen → All (λ x. P x.1) m → All P (fold put_once seen (map (λ x. x.1) m))
fold_all P seen [] all each = all
fold_all P seen (x ∷ m) all each =
    fold_all P (put_once seen x.1) m (put_cases (λ l. All P l) seen x.1 all (All-push P seen x.1 all (All-head (λ y. P y.1) x m each))) (All-tail (λ y. P y.1) x m each)

pub each_target : (m : StateMap) → IsRising m → All (λ p. (q : ℕ) × (target m q ≡ Some p)) (targets_of m)
each_target m rising =
    fold_all (λ p. (q : ℕ) × (target m q ≡ Some p)) [] m (All-nil (λ p. (q : ℕ) × (target m q ≡ Some p)))
    (λ k d within. ((get_or m k d).0, target_at_pair m k (get_or m k d) rising (slice_get-get_or m k d within)))

put_different : (ps : List ℕ) (p : ℕ) → AllPairs (λ x y. x ≢ y) ps → AllPairs (λ x y. x ≢ y) (put_once ps p)
put_different ps p different = cases (list_any (λ x. eqb p x) ps) refl
  where
    cases : (b : Bool) → list_any (λ x. eqb p x) ps ≡ b → AllPairs (λ x y. x ≢ y) (cond b ps (ps ++ p ∷ []))
    cases true is = different
    cases false is = all_pairs_push (λ x y. x ≢ y) ps p different (λ k d within same. absurd (cc (is, list_any_at (λ x. eqb p x) ps k d within (eq-eqb p (get_or ps k d) (sym same)))))

fold_different : (seen : List ℕ) (m : StateMap) → AllPairs (λ x y. x ≢ y) seen → AllPairs (λ x y. x ≢ y) (fold put_once seen (map (λ x. x.1) m))
fold_different seen [] different = different
fold_different seen (x ∷ m) different = fold_different (put_once seen x.1) m (put_different seen x.1 different)

pub class_law : ClassLaw
class_law m rising = (fold_different [] m (λ i j d before within. absurd (omega arith)), λ p. (is_one p, has_it p))
  where
    is_one : (p : ℕ) → Contains (targets_of m) p → (q : ℕ) × (target m q ≡ Some p)
    is_one p has = subst (λ z. (q : ℕ) × (target m q ≡ Some z)) has.2 (each_target m rising has.0 p has.1)

    has_it : (p : ℕ) → (q : ℕ) × (target m q ≡ Some p) → Contains (targets_of m) p
    has_it p from = let at = has_target [] m from.0 p from.1 in (at.0, slice_get_within (targets_of m) at.0 p at.1, get_or_from_slice_get (targets_of m) at.0 p p at.1)

pub agrees_by_classes : (t : Tables) (a : ℕ) (m : StateMap) (g : Agree) → IsRising m → Agrees t a (themselves (targets_of m)) g → Agrees t a m g
agrees_by_classes t a m g rising agrees =
    agrees_alike t a (themselves (targets_of m)) m
    (λ q z is. all_states (λ p. (y : ℕ) × (target m y ≡ Some p)) (targets_of m) q z (each_target m rising) is)
    (λ q z is. let at = has_target [] m q z is in (z, state_at (targets_of m) at.0 z at.1)) g agrees
