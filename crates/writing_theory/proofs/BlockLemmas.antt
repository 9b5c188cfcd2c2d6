-- A text that is written in blocks.
use Rattle.std.proofs.Common.{◌≡◌, refl, Result, Ok, Err, IsErrAnd, ℕ, suc, ◌+◌, ◌<◌, ◌≤◌, List, [], ◌∷◌, ◌++◌, length, take, drop, get_or, Option, sym, ap, ◌∙◌, subst, arith, append_assoc, append-nil, length-append}
use Rattle.std.specs.List.{flat_map}
use Rattle.std.specs.Io.KnownBytes.{Appends}
use Rattle.std.proofs.KnownBytes.{Appends-nil, Appends-trans}
use Rattle.std.proofs.lemmas.List.{take-append-drop, take_more, take-append-le, take_all}
use Rattle.std.proofs.Math.Seq.{take-append-add, drop-cons}
use Rattle.std.proofs.lemmas.List.Concat.{flat_map-append}
use Rattle.lr_base.specs.Outside.{SinkSeen, Rose, AppendsPart, Takes, Fails}
use Rattle.writing_theory.specs.Writing.{Passes, IsWritten, cut, front_taken}
use Rattle.writing_theory.specs.declared.fault.WriteFault.TheVariants.{NoMemory}

-- nothing was written yet
pub takes_nothing : (a : SinkSeen) → Takes a a []
takes_nothing a = record { grown = Appends-nil a.taken; kept = refl }

-- one text and then another
takes_both : (a b c : SinkSeen) (x y : List ℕ) → Takes a b x → Takes b c y → Takes a c (x ++ y)
takes_both a b c x y p q = record { grown = Appends-trans a.taken b.taken c.taken x y p.grown q.grown; kept = q.kept ∙ p.kept }

-- what is gathered first
pub passes_first : (a : SinkSeen) (block : List ℕ) → Passes a a [] block block
passes_first a block = record { taken = []; takes = takes_nothing a; joined = refl }

-- more is gathered, and then some of it taken
pub passes_more : (a b c : SinkSeen) (old gathered new text more all : List ℕ) → Passes a b [] old text → gathered ≡ old ++ more → Passes b c gathered new [] → text ++ more ≡ all → Passes a c [] new all
passes_more a b c old gathered new text more all p e q joined = record {
  taken = p.taken ++ q.taken;
  takes = takes_both a b c p.taken q.taken p.takes q.takes;
  joined =
      sym joined ∙ ap (λ l. l ++ more) p.joined ∙ append_assoc p.taken old more ∙ ap (λ l. p.taken ++ l) (sym e ∙ sym (append-nil gathered) ∙ q.joined)
      ∙ sym (append_assoc p.taken q.taken new);
}

-- what was taken, and then a part of what comes next
part_behind : (a b c : Option (List ℕ)) (t k more all : List ℕ) → Appends a b t → AppendsPart b c k → all ≡ t ++ (k ++ more) → AppendsPart a c all
part_behind a b c t k more all p q e =
    let below : q.count ≤ length k = omega (arith, q.short) in
    let cut : take (length t + q.count) all ≡ t ++ take q.count k =
    ap (take (length t + q.count)) e ∙ take-append-add t (k ++ more) q.count ∙ ap (λ r. t ++ r) (take-append-le q.count k more below) in
    record {
      count = length t + q.count;
      short = omega (arith, q.short, ap length e, length-append t (k ++ more), length-append k more);
      grown = subst (Appends a c) (sym cut) (Appends-trans a b c t (take q.count k) p q.grown);
    }

-- what was gathered and taken, and then a part of the rest
pub fails_behind : (a b c : SinkSeen) (old gathered text next more all : List ℕ) → Passes a b [] old text → gathered ≡ old ++ next → Fails b c gathered → all ≡ text ++ (next ++ more) → Fails a c all
fails_behind a b c old gathered text next more all p e q joined =
    let front : all ≡ p.taken ++ (gathered ++ more) =
    joined ∙ ap (λ l. l ++ (next ++ more)) p.joined ∙ append_assoc p.taken old (next ++ more) ∙ ap (λ l. p.taken ++ l) (sym (append_assoc old next more) ∙ ap (λ l. l ++ more) (sym e)) in
    record {
      part = part_behind a.taken b.taken c.taken p.taken gathered more all p.takes.grown q.part front;
      rose = subst (λ count. Rose count c.faults) p.takes.kept q.rose;
      full = q.full;
    }

-- all that was gathered was taken
pub all_passed : (a b c : SinkSeen) (old gathered text next all : List ℕ) → Passes a b [] old text → gathered ≡ old ++ next → Takes b c gathered → all ≡ text ++ next → Takes a c all
all_passed a b c old gathered text next all p e q joined =
    let whole : all ≡ p.taken ++ gathered =
    joined ∙ ap (λ l. l ++ next) p.joined ∙ append_assoc p.taken old next ∙ ap (λ l. p.taken ++ l) (sym e) in
    subst (Takes a c) (sym whole) (takes_both a b c p.taken gathered p.takes q)

-- memory ran out behind what was taken
pub cut_behind : (Is : List ℕ → Type 0) (a b : SinkSeen) (old text more all : List ℕ) → Is all → Passes a b [] old text → all ≡ text ++ more → IsWritten Is a b (Err NoMemory)
cut_behind Is a b old text more all is p joined =
    cut (front_taken (old ++ more) is (joined ∙ ap (λ l. l ++ more) p.joined ∙ append_assoc p.taken old more) p.takes)

-- a list up to a place, the item there, and the rest
pub around_item : {X : Type 0} (f : X → List ℕ) (xs : List X) (i : ℕ) (x : X) (ending : List ℕ) → i < length xs → x ≡ get_or xs i x
    → flat_map f xs ++ ending ≡ flat_map f (take i xs) ++ (f x ++ (flat_map f (drop (suc i) xs) ++ ending))
around_item f xs i x ending h e =
    let split : xs ≡ take i xs ++ (x ∷ drop (suc i) xs) =
    sym (take-append-drop i xs) ∙ ap (λ rest. take i xs ++ rest) (drop-cons xs i x h ∙ ap (λ y. y ∷ drop (suc i) xs) (sym e)) in
    ap (λ l. l ++ ending) (ap (flat_map f) split ∙ flat_map-append f (take i xs) (x ∷ drop (suc i) xs)) ∙ append_assoc (flat_map f (take i xs)) (f x ++ flat_map f (drop (suc i) xs)) ending ∙ ap (λ l. flat_map f (take i xs) ++ l) (append_assoc (f x) (flat_map f (drop (suc i) xs)) ending)

-- the lines of one item more
pub one_more : {X : Type 0} (f : X → List ℕ) (xs : List X) (i : ℕ) (x : X) → i < length xs → x ≡ get_or xs i x → flat_map f (take i xs) ++ f x ≡ flat_map f (take (i + 1) xs)
one_more f xs i x h e =
    sym (ap (flat_map f) (take_more xs i x h ∙ ap (λ y. take i xs ++ y ∷ []) (sym e)) ∙ flat_map-append f (take i xs) (x ∷ []) ∙ ap (λ l. flat_map f (take i xs) ++ l) (append-nil (f x)))

-- all lines, and then the ending
pub all_lines : {X : Type 0} (f : X → List ℕ) (xs : List X) (i : ℕ) (ending : List ℕ) → length xs ≤ i → flat_map f xs ++ ending ≡ flat_map f (take i xs) ++ ending
all_lines f xs i ending h = ap (λ l. flat_map f l ++ ending) (sym (take_all i xs h))

-- a fact of the error that `?` makes
pub err_at : {A E : Type 0} (P : Result A E → Type 0) (r : Result A E) (e : E) → IsErrAnd r (λ x. x ≡ e) → P (Err e) → P r
err_at P (Ok a) e same h = absurd same
err_at P (Err x) e same h = subst (λ y. P (Err y)) (sym same) h
