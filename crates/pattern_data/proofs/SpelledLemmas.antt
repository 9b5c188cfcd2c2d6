-- A text that is read sign by sign.
use Rattle.std.proofs.Common.{◌≡◌, ℕ, ◌<◌, List, [], ◌∷◌, length, refl, sym, ap, ◌∙◌, subst, arith}
use Rattle.std.specs.Prelude.{Option, None, Some, option_and_then, Result, Ok, Err, IfOk, IfErr}
use Rattle.pattern_data.specs.declared.fault.PatternFault.{PatternFault}
use Rattle.pattern_data.specs.declared.fault.PatternFault.TheVariants.{Syntax, MatchesEmpty, NoMemory}
use Rattle.std.proofs.lemmas.Option.{none-some}
use Rattle.pattern_data.specs.declared.pattern.Pattern.{Pattern}
use Rattle.pattern_data.specs.declared.signs.Sign.{Sign}
use Rattle.pattern_data.specs.declared.group.Group.{Group}
use Rattle.pattern_data.specs.Signs.{IsSign, AreSigns}
use Rattle.pattern_data.specs.Signs.AreSigns.{no_sign, sign_and}
use Rattle.pattern_data.specs.Spellings.{IsSpelling}
use Rattle.pattern_data.specs.Groups.{Open, no_group, with_sign, at_end, SyntaxOnlyIf}
use Rattle.pattern_data.proofs.SignLemmas.{sign_once}
use Rattle.pattern_data.proofs.ReadingLemmas.{run, runs_whole, stands_whole}

-- what is left gives a pattern exactly where the text spells it
pub record ReadsSoFar (text : List ℕ) (group : Group) (outer : List Group) (left : List ℕ) : Type 0 where
  pub whole : (pattern : Pattern) (signs : List Sign) → AreSigns left signs → run signs group outer ≡ Some pattern → IsSpelling text pattern
  pub back : (pattern : Pattern) → IsSpelling text pattern → (signs : List Sign) × AreSigns left signs × (run signs group outer ≡ Some pattern)

pub reads_none : (text : List ℕ) (group : Group) (outer : List Group) → group ≡ no_group → outer ≡ [] → ReadsSoFar text group outer text
reads_none text group outer is none = let P : Group → Type 0 = λ g. ReadsSoFar text g outer text in
    let Q : List Group → Type 0 = λ o. ReadsSoFar text no_group o text in
    subst P (sym is) (subst Q (sym none) (record {
      whole = λ pattern signs read e. record { signs = signs; read = read; stands = stands_whole signs pattern e };
      back = λ pattern h. (h.signs, h.read, runs_whole h.signs pattern h.stands);
    }))

-- the first of the signs
record BeginsWith (sign : Sign) (rest : List ℕ) (signs : List Sign) : Type 0 where
  others : List Sign
  signs_are : signs ≡ sign ∷ others
  read : AreSigns rest others

no_sign_at : (text : List ℕ) (sign : Sign) (rest : List ℕ) → text ≡ [] → IsSign text sign rest → ⊥
no_sign_at text sign rest none is = let P : List ℕ → Type 0 = λ l. IsSign l sign rest in subst P none is

begins_with : (text rest : List ℕ) (sign : Sign) (signs : List Sign) → IsSign text sign rest → AreSigns text signs → BeginsWith sign rest signs
begins_with text rest sign signs is (no_sign none signs_are) = absurd (no_sign_at text sign rest none is)
begins_with text rest sign signs is (sign_and {rest = its_rest} {sign = its_sign} {others = others} its_is read signs_are) =
    let same = sign_once text its_sign sign its_rest rest its_is is in
    let P : List ℕ → Type 0 = λ l. AreSigns l others in
    record { others = others; signs_are = signs_are ∙ ap (λ s. s ∷ others) same.0; read = subst P same.1 read }

run_sign : (sign : Sign) (signs : List Sign) (group : Group) (outer : List Group) (o : Option Open) → with_sign sign group outer ≡ o → run (sign ∷ signs) group outer ≡ option_and_then (λ (a : Open). run signs a.0 a.1) o
run_sign sign signs group outer o e = ap (λ (x : Option Open). option_and_then (λ (a : Open). run signs a.0 a.1) x) e

pub reads_more : (text left rest : List ℕ) (sign : Sign) (group next : Group) (outer around : List Group) → ReadsSoFar text group outer left → IsSign left sign rest → with_sign sign group outer ≡ Some (next, around) → ReadsSoFar text next around rest
reads_more text left rest sign group next outer around h is e = record {
  whole = λ pattern signs read gives. h.whole pattern (sign ∷ signs) (sign_and is read refl) (run_sign sign signs group outer (Some (next, around)) e ∙ gives);
  back = λ pattern spelled. let old = h.back pattern spelled in
      let first = begins_with left rest sign old.0 is old.1 in
      (first.others, first.read, sym (run_sign sign first.others group outer (Some (next, around)) e) ∙ ap (λ ss. run ss group outer) (sym first.signs_are) ∙ old.2);
}

-- a sign that can't stand there
pub reads_wrong : (text left rest : List ℕ) (sign : Sign) (group : Group) (outer : List Group) → ReadsSoFar text group outer left → IsSign left sign rest → with_sign sign group outer ≡ None → (pattern : Pattern) → IsSpelling text pattern → ⊥
reads_wrong text left rest sign group outer h is e pattern spelled =
    let old = h.back pattern spelled in
    let first = begins_with left rest sign old.0 is old.1 in
    none-some pattern (sym (run_sign sign first.others group outer None e) ∙ ap (λ ss. run ss group outer) (sym first.signs_are) ∙ old.2)

-- no sign at all
nothing_at : (left : List ℕ) (signs : List Sign) → 0 < length left → ((sign : Sign) (rest : List ℕ) → IsSign left sign rest → ⊥) → AreSigns left signs → ⊥
nothing_at left signs some none (no_sign is signs_are) = let e = ap length is in omega (arith, e)
nothing_at left signs some none (sign_and {rest = rest} {sign = sign} is read signs_are) = none sign rest is

pub reads_nothing : (text left : List ℕ) (group : Group) (outer : List Group) → ReadsSoFar text group outer left → 0 < length left → ((sign : Sign) (rest : List ℕ) → IsSign left sign rest → ⊥) → (pattern : Pattern) → IsSpelling text pattern → ⊥
reads_nothing text left group outer h some none pattern spelled = let old = h.back pattern spelled in nothing_at left old.0 some none old.1

-- the end
signs_end : (left : List ℕ) (signs : List Sign) → length left ≡ 0 → AreSigns left signs → signs ≡ []
signs_end left signs end (no_sign is signs_are) = signs_are
signs_end [] signs end (sign_and {rest = rest} {sign = sign} is read signs_are) = absurd is
signs_end (byte ∷ left) signs end (sign_and is read signs_are) = absurd (omega arith)

no_text : (left : List ℕ) → length left ≡ 0 → left ≡ []
no_text [] e = refl
no_text (byte ∷ left) e = absurd (omega arith)

pub reads_all : (text left : List ℕ) (group : Group) (outer : List Group) (pattern : Pattern) → ReadsSoFar text group outer left → length left ≡ 0 → at_end group outer ≡ Some pattern → IsSpelling text pattern
reads_all text left group outer pattern h end e = h.whole pattern [] (no_sign (no_text left end) refl) e

pub reads_open : (text left : List ℕ) (group : Group) (outer : List Group) → ReadsSoFar text group outer left → length left ≡ 0 → at_end group outer ≡ None → (pattern : Pattern) → IsSpelling text pattern → ⊥
reads_open text left group outer h end e pattern spelled =
    let old = h.back pattern spelled in
    none-some pattern (sym e ∙ ap (λ ss. run ss group outer) (sym (signs_end left old.0 end old.1)) ∙ old.2)

-- ---- a fault by another cause
pub other_cause : (P Q : Type 0) (fault : PatternFault) → (P → Q) → SyntaxOnlyIf P fault → SyntaxOnlyIf Q fault
other_cause P Q Syntax f h = f h
other_cause P Q MatchesEmpty f h = absurd h
other_cause P Q NoMemory f h = tt

pub other_fault : {A : Type 0} (P Q : Type 0) (r : Result A PatternFault) → (P → Q) → IfErr r (λ fault. SyntaxOnlyIf P fault) → IfErr r (λ fault. SyntaxOnlyIf Q fault)
other_fault P Q (Ok a) f h = tt
other_fault P Q (Err fault) f h = other_cause P Q fault f h

pub other_ok : {A : Type 0} (P Q : A → Type 0) (r : Result A PatternFault) → ((a : A) → P a → Q a) → IfOk r P → IfOk r Q
other_ok P Q (Ok a) f h = f a h
other_ok P Q (Err fault) f h = tt
