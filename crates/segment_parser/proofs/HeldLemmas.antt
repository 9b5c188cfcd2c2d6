-- Entries by the numbers of their maps: in a table with more maps, with one entry more, and with fewer.
use Rattle.std.proofs.Common.{◌≡◌, ℕ, ◌-◌, ◌<◌, List, [], ◌∷◌, ◌++◌, length, get_or, append_assoc, refl, sym, ap, ◌∙◌, subst, arith}
use Rattle.std.proofs.lemmas.List.{get_or_append_left, length-append, same_from_push}
use Rattle.std.proofs.Math.Seq.{get_or-append_seam}
use Rattle.std.proofs.lemmas.Option.{slice_get-get_or}
use Rattle.grammar_data.specs.declared.rule.Sym.{Sym}
use Rattle.grammar_data.specs.Grammar.{Rule}
use Rattle.grammar_theory.specs.Rules.{IsRule}
use Rattle.grammar_theory.proofs.Lists.{Pushed, empty, pushed, all_pushed}
use Rattle.std.proofs.lemmas.List.Elements.{All-head, All-tail}
use Rattle.node_data.specs.declared.kid.Kid.{Kid}
use Rattle.map_theory.specs.Maps.{StateMap}
use Rattle.piece_theory.specs.Pieces.{Held, kids_of}
use Rattle.arrow_table.specs.Looks.{Grows, HasMap, map_at}
use Rattle.segment_parser.specs.Working.{held_of, last_id, AreThere}

-- a map that is there stays
pub map_stays : (maps more : List StateMap) (id : ℕ) → id < length maps → map_at (maps ++ more) id ≡ map_at maps id
map_stays maps more id inside = get_or_append_left maps more [] id inside

pub held_stays : (maps more : List StateMap) (kids : List Kid) (ids : List ℕ) → AreThere maps ids → held_of (maps ++ more) kids ids ≡ held_of maps kids ids
held_stays maps more [] ids there = refl
held_stays maps more (kid ∷ kids) [] there = refl
held_stays maps more (kid ∷ kids) (id ∷ ids) there =
    let first = map_stays maps more id (All-head {X = ℕ} (λ n. n < length maps) id ids there) in
    let rest = held_stays maps more kids ids (All-tail {X = ℕ} (λ n. n < length maps) id ids there) in
    λ i. record { kid = kid; states = first i } ∷ rest i

pub held_grows : (maps new : List StateMap) → Grows maps new → (kids : List Kid) (ids : List ℕ) → AreThere maps ids → held_of new kids ids ≡ held_of maps kids ids
held_grows maps new grows kids ids there = ap (λ l. held_of l kids ids) grows.1 ∙ held_stays maps grows.0 kids ids there

-- one entry more
pub held_push : (maps : List StateMap) (kids : List Kid) (ids : List ℕ) (kid : Kid) (id : ℕ) → length kids ≡ length ids → held_of maps (kids ++ kid ∷ []) (ids ++ id ∷ []) ≡ held_of maps kids ids ++ record { kid = kid; states = map_at maps id } ∷ []
held_push maps [] [] kid id e = refl
held_push maps [] (x ∷ ids) kid id e = absurd (omega (arith, e))
held_push maps (k ∷ kids) [] kid id e = absurd (omega (arith, e))
held_push maps (k ∷ kids) (x ∷ ids) kid id e = ap (λ l. record { kid = k; states = map_at maps x } ∷ l) (held_push maps kids ids kid id (omega (arith, e)))

-- entries in two parts
pub held_parts : (maps : List StateMap) (kids others : List Kid) (ids more : List ℕ) → length kids ≡ length ids → held_of maps (kids ++ others) (ids ++ more) ≡ held_of maps kids ids ++ held_of maps others more
held_parts maps [] others [] more e = refl
held_parts maps [] others (x ∷ ids) more e = absurd (omega (arith, e))
held_parts maps (k ∷ kids) others [] more e = absurd (omega (arith, e))
held_parts maps (k ∷ kids) others (x ∷ ids) more e = ap (λ l. record { kid = k; states = map_at maps x } ∷ l) (held_parts maps kids others ids more (omega (arith, e)))

pub held_kids : (maps : List StateMap) (kids : List Kid) (ids : List ℕ) → length kids ≡ length ids → kids_of (held_of maps kids ids) ≡ kids
held_kids maps [] ids e = refl
held_kids maps (k ∷ kids) [] e = absurd (omega (arith, e))
held_kids maps (k ∷ kids) (x ∷ ids) e = ap (λ l. k ∷ l) (held_kids maps kids ids (omega (arith, e)))

-- ---- maps that are there

pub stays_at : (maps new : List StateMap) → Grows maps new → (id : ℕ) → id < length maps → map_at new id ≡ map_at maps id
stays_at maps new grows id inside = ap (λ l. map_at l id) grows.1 ∙ map_stays maps grows.0 id inside

pub has_grows : (maps new : List StateMap) (P : StateMap → Type 0) → Grows maps new → (id : ℕ) → HasMap maps id P → HasMap new id P
has_grows maps new P grows id has =
    let count = ap length grows.1 ∙ length-append maps grows.0 in
    let inside = has.within in
    record { within = omega (arith, count, inside); is = subst P (sym (stays_at maps new grows id has.within)) has.is }

pub grows_then : (maps mid new : List StateMap) → Grows maps mid → Grows mid new → Grows maps new
grows_then maps mid new one two = (one.0 ++ two.0, two.1 ∙ ap (λ l. l ++ two.0) one.1 ∙ append_assoc maps one.0 two.0)

-- a rule that is there
pub rule_there : (rules : List Rule) (r : ℕ) → r < length rules → (n : ℕ) × (right : List Sym) × IsRule rules r n right
rule_there rules r inside =
    let nothing : Rule = (0, []) in
    ((get_or rules r nothing).0, (get_or rules r nothing).1, record { found = slice_get-get_or rules r nothing inside })

-- ---- the last entry

-- the last entry, by its kid and the number of its map
pub record LastHeld (maps : List StateMap) (kids : List Kid) (ids : List ℕ) (under : List Held) (h : Held) : Type 0 where
  pub low : List ℕ
  pub id : ℕ
  pub below : List Kid
  pub kid : Kid
  pub ids_are : ids ≡ low ++ id ∷ []
  pub kids_are : kids ≡ below ++ kid ∷ []
  pub even : length below ≡ length low
  pub under_is : under ≡ held_of maps below low
  pub last_is : h ≡ record { kid = kid; states = map_at maps id }

no_last : (under : List Held) (h : Held) → [] ≡ under ++ h ∷ [] → ⊥
no_last under h e = let count = ap length e ∙ length-append under (h ∷ []) in omega (arith, count)

last_held : (maps : List StateMap) (kids : List Kid) (ids : List ℕ) (under : List Held) (h : Held) → length kids ≡ length ids → held_of maps kids ids ≡ under ++ h ∷ [] → Pushed kids → Pushed ids → LastHeld maps kids ids under h
last_held maps kids ids under h even held (empty none) many = absurd (no_last under h (sym (ap (λ l. held_of maps l ids) none) ∙ held))
last_held maps kids ids under h even held (pushed below kid at) (empty none) =
    let count = ap length at ∙ length-append below (kid ∷ []) in
    let less = ap length none in
    absurd (omega (arith, even, count, less))
last_held maps kids ids under h even held (pushed below kid at) (pushed low id here) =
    let kid_count = ap length at ∙ length-append below (kid ∷ []) in
    let id_count = ap length here ∙ length-append low (id ∷ []) in
    let fewer : length below ≡ length low = omega (arith, even, kid_count, id_count) in
    let parts = same_from_push under (held_of maps below low) h (record { kid = kid; states = map_at maps id }) (sym held ∙ (λ i. held_of maps (at i) (here i)) ∙ held_push maps below low kid id fewer) in
    record { low = low; id = id; below = below; kid = kid; ids_are = here; kids_are = at; even = fewer; under_is = parts.0; last_is = parts.1 }

pub held_last : (maps : List StateMap) (kids : List Kid) (ids : List ℕ) (under : List Held) (h : Held) → length kids ≡ length ids → held_of maps kids ids ≡ under ++ h ∷ [] → LastHeld maps kids ids under h
held_last maps kids ids under h even held = last_held maps kids ids under h even held (all_pushed kids) (all_pushed ids)

pub last_pushed : (low : List ℕ) (id : ℕ) → last_id (low ++ id ∷ []) ≡ id
last_pushed low id =
    let count = length-append low (id ∷ []) in
    let place : length (low ++ id ∷ []) - 1 ≡ length low = omega (arith, count) in
    ap (λ k. get_or (low ++ id ∷ []) k 0) place ∙ get_or-append_seam low id [] 0

pub front_there : (maps : List StateMap) (low : List ℕ) (id : ℕ) → AreThere maps (low ++ id ∷ []) → AreThere maps low
front_there maps low id there k d inside =
    let count = length-append low (id ∷ []) in
    subst (λ (n : ℕ). n < length maps) (get_or_append_left low (id ∷ []) d k inside) (there k d (omega (arith, count, inside)))

pub length_held : (maps : List StateMap) (kids : List Kid) (ids : List ℕ) → length kids ≡ length ids → length (held_of maps kids ids) ≡ length ids
length_held maps [] ids even = even
length_held maps (k ∷ kids) [] even = absurd (omega (arith, even))
length_held maps (k ∷ kids) (x ∷ ids) even = let rest = length_held maps kids ids (omega (arith, even)) in omega (arith, rest)

pub last_there : (maps : List StateMap) (low : List ℕ) (id : ℕ) → AreThere maps (low ++ id ∷ []) → id < length maps
last_there maps low id there =
    let count = length-append low (id ∷ []) in
    subst (λ (n : ℕ). n < length maps) (get_or-append_seam low id [] 0) (there (length low) 0 (omega (arith, count)))
