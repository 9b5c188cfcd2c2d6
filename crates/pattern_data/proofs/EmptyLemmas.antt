-- Which patterns match the empty string.
use Rattle.std.proofs.Common.{◌≡◌, ℕ, zero, suc, ◌<◌, ◌↔◌, Bool, true, false, List, [], ◌∷◌, ◌++◌, map, length, get_or, refl, sym, ap, ◌∙◌, ⊎_elim, arith}
use Rattle.std.specs.Prelude.{◌||◌, Contains}
use Rattle.std.specs.List.{list_any, list_all}
use Rattle.std.proofs.lemmas.Bool.{false≢true, and_parts, and_from, or_cases, or_right}
use Rattle.std.proofs.lemmas.List.Folds.{list_all-map, list_all_at}
use Rattle.pattern_data.specs.declared.pattern.Pattern.{Pattern, Pattern-F, out-Pattern, map-Pattern, roll-Pattern, out-roll-Pattern, fold_out-Pattern, ind-Pattern}
use Rattle.pattern_data.specs.declared.pattern.Pattern.TheOpen.Pattern-F.{Set, Seq, Alt, Star, Plus, Opt}
use Rattle.pattern_data.specs.declared.pattern.Pattern.TheVariants.{Set as set_pattern, Seq as seq_pattern, Alt as alt_pattern, Star as star_pattern, Plus as plus_pattern, Opt as opt_pattern, outs-Set, outs-Seq, outs-Alt, outs-Star, outs-Plus, outs-Opt}
use Rattle.pattern_data.specs.Empty.{empty_step, has_empty}
use Rattle.pattern_data.specs.Language.{Matches, MatchesInOrder}
use Rattle.pattern_data.specs.Language.Matches.{one_byte, in_order, any_one, repeated, at_least_once, once, left_out}
use Rattle.pattern_data.specs.Language.MatchesInOrder.{no_member, first_member}
use Rattle.pattern_data.specs.Language.Repeats.{no_more}

-- ---- by the variants
has_empty-layer : (p : Pattern) (layer : Pattern-F Pattern) → out-Pattern p ≡ layer → has_empty p ≡ empty_step (map-Pattern Pattern Bool has_empty layer)
unfolding has_empty
has_empty-layer p layer is = fold_out-Pattern Bool empty_step p ∙ ap (λ l. empty_step (map-Pattern Pattern Bool has_empty l)) is

pub has_empty-set : (p : Pattern) (words : List ℕ) → p ≡ set_pattern words → has_empty p ≡ false
has_empty-set p words is = has_empty-layer p (Set words) (ap out-Pattern is ∙ outs-Set words)

pub has_empty-seq : (p : Pattern) (members : List Pattern) → p ≡ seq_pattern members → has_empty p ≡ list_all (λ b. b) (map has_empty members)
has_empty-seq p members is = has_empty-layer p (Seq members) (ap out-Pattern is ∙ outs-Seq members)

pub has_empty-alt : (p : Pattern) (members : List Pattern) → p ≡ alt_pattern members → has_empty p ≡ list_any (λ b. b) (map has_empty members)
has_empty-alt p members is = has_empty-layer p (Alt members) (ap out-Pattern is ∙ outs-Alt members)

pub has_empty-star : (p inner : Pattern) → p ≡ star_pattern inner → has_empty p ≡ true
has_empty-star p inner is = has_empty-layer p (Star inner) (ap out-Pattern is ∙ outs-Star inner)

pub has_empty-plus : (p inner : Pattern) → p ≡ plus_pattern inner → has_empty p ≡ has_empty inner
has_empty-plus p inner is = has_empty-layer p (Plus inner) (ap out-Pattern is ∙ outs-Plus inner)

pub has_empty-opt : (p inner : Pattern) → p ≡ opt_pattern inner → has_empty p ≡ true
has_empty-opt p inner is = has_empty-layer p (Opt inner) (ap out-Pattern is ∙ outs-Opt inner)

-- ---- a member that decides
pub all_fail : (members : List Pattern) (i : ℕ) (member : Pattern) → i < length members → member ≡ get_or members i member → has_empty member ≡ false → list_all (λ b. b) (map has_empty members) ≡ false
all_fail members i member below is e = list_all-map (λ b. b) has_empty members ∙ list_all_at has_empty members i member below (ap has_empty (sym is) ∙ e)

pub any_has_it : (members : List Pattern) (i : ℕ) (member : Pattern) → i < length members → member ≡ get_or members i member → has_empty member ≡ true → list_any (λ b. b) (map has_empty members) ≡ true
any_has_it [] i member below is e = absurd (omega arith)
any_has_it (first ∷ others) zero member below is e = ap (λ b. b || list_any (λ b. b) (map has_empty others)) (ap has_empty (sym is) ∙ e)
any_has_it (first ∷ others) (suc i) member below is e = or_right (has_empty first) _ (any_has_it others i member (omega arith) is e)

-- ---- what matches the empty string is said to
empty_parts : (u v : List ℕ) → u ++ v ≡ [] → u ≡ []
empty_parts [] v e = refl
empty_parts (a ∷ u) v e = absurd (cc)

empty_rest : (u v : List ℕ) → u ++ v ≡ [] → v ≡ []
empty_rest [] v e = e
empty_rest (a ∷ u) v e = absurd (cc)

mutual
  said : {p : Pattern} {w : List ℕ} → Matches p w → w ≡ [] → has_empty p ≡ true
  said (one_byte {byte = byte} opens member is) none = absurd (cc)
  said (in_order {p = p} {members = members} opens strings) none = has_empty-layer p (Seq members) opens ∙ said_in_order strings none
  said (any_one {p = p} {member = member} {members = members} opens one string) none =
      has_empty-layer p (Alt members) opens ∙ any_has_it members one.0 member one.1 (sym one.2) (said string none)
  said (repeated {p = p} {inner = inner} opens strings) none = has_empty-layer p (Star inner) opens
  said (at_least_once {p = p} {inner = inner} {u = u} {v = v} opens string strings is) none =
      has_empty-layer p (Plus inner) opens ∙ said string (empty_parts u v (sym is ∙ none))
  said (once {p = p} {inner = inner} opens string) none = has_empty-layer p (Opt inner) opens
  said (left_out {p = p} {inner = inner} opens is) none = has_empty-layer p (Opt inner) opens

  said_in_order : {members : List Pattern} {w : List ℕ} → MatchesInOrder members w → w ≡ [] → list_all (λ b. b) (map has_empty members) ≡ true
  said_in_order (no_member is) none = refl
  said_in_order (first_member {p = p} {members = members} {u = u} {v = v} string strings is) none =
      and_from (has_empty p) _ (said string (empty_parts u v (sym is ∙ none))) (said_in_order strings (empty_rest u v (sym is ∙ none)))

-- ---- and what is said to matches it
abbrev IsRight : Pattern → Type 0
IsRight p = has_empty p ≡ true → Matches p []

abbrev Right : Type 0
Right = (p : Pattern) × IsRight p

rights_in_order : (members : List Right) → list_all (λ b. b) (map has_empty (map (λ (r : Right). r.0) members)) ≡ true → MatchesInOrder (map (λ (r : Right). r.0) members) []
rights_in_order [] e = no_member refl
rights_in_order (first ∷ others) e =
    let parts = and_parts (has_empty first.0) (list_all (λ b. b) (map has_empty (map (λ (r : Right). r.0) others))) e in
    first_member (first.1 parts.0) (rights_in_order others parts.1) refl

rights_any : (members : List Right) → list_any (λ b. b) (map has_empty (map (λ (r : Right). r.0) members)) ≡ true → (member : Pattern) × Contains (map (λ (r : Right). r.0) members) member × Matches member []
rights_any [] e = absurd (false≢true e)
rights_any (first ∷ others) e =
    ⊎_elim
    (λ here. (first.0, (0, omega arith, refl), first.1 here))
    (λ later. let found = rights_any others later in (found.0, (suc found.1.0, let below = found.1.1 in omega arith, found.1.2), found.2))
    (or_cases (has_empty first.0) (list_any (λ b. b) (map has_empty (map (λ (r : Right). r.0) others))) e)

right_layer : (p : Pattern) (layer : Pattern-F Right) → out-Pattern p ≡ map-Pattern Right Pattern (λ (r : Right). r.0) layer → IsRight p
right_layer p (Set words) opens e = absurd (false≢true (sym (has_empty-layer p (Set words) opens) ∙ e))
right_layer p (Seq members) opens e =
    in_order opens (rights_in_order members (sym (has_empty-layer p (Seq (map (λ (r : Right). r.0) members)) opens) ∙ e))
right_layer p (Alt members) opens e =
    let found = rights_any members (sym (has_empty-layer p (Alt (map (λ (r : Right). r.0) members)) opens) ∙ e) in
    any_one opens found.1 found.2
right_layer p (Star inner) opens e = repeated opens (no_more refl)
right_layer p (Plus inner) opens e = at_least_once opens (inner.1 (sym (has_empty-layer p (Plus inner.0) opens) ∙ e)) (no_more refl) refl
right_layer p (Opt inner) opens e = left_out opens refl

right : (p : Pattern) → IsRight p
right p = ind-Pattern IsRight (λ x y is. right_layer (roll-Pattern x) y (out-roll-Pattern x ∙ sym is)) p

pub has_empty-matches : (p : Pattern) → (has_empty p ≡ true) ↔ Matches p []
has_empty-matches p = (right p, λ string. said string refl)
