-- The action of a state on a token is one, and where each state has one there is no conflict.
use Rattle.std.proofs.Common.{◌≡◌, ℕ, ◌<◌, ◌≤◌, List, [], ◌∷◌, ◌++◌, get_or, Option, Some, None, refl, sym, ap, ◌∙◌, arith}
use Rattle.std.proofs.lemmas.Option.{same_Some}
use Rattle.grammar_data.specs.declared.rule.Sym.{Sym}
use Rattle.grammar_data.specs.declared.rule.Sym.TheVariants.{Token}
use Rattle.grammar_data.specs.Grammar.{Grammar}
use Rattle.grammar_theory.specs.Rules.{IsInRange, TokensBelow, end_mark}
use Rattle.item_theory.specs.Items.{Item, Deed, Does, shifts, reduces, accepts, IsValid, Shift as to_shift, Reduce as to_reduce, Accept as to_accept}
use Rattle.item_theory.proofs.ItemLemmas.{right_tokens}
use Rattle.item_theory.proofs.ItemLaws.{item_range_law}
use Rattle.table_data.specs.declared.act.Act.{Act}
use Rattle.table_data.specs.declared.act.Act.TheVariants.{Shift, Reduce, Accept, Error}
use Rattle.table_data.specs.Tables.{act_in}
use Rattle.table_theory.specs.Clashes.{HasClash, ItemsOf}
use Rattle.table_theory.specs.Canonical.{deed_of, IsCanonicalAct, CanonicalErrorLaw, CanonicalOnceLaw, NoConflictLaw}
use Rattle.table_theory.proofs.ClashLemmas.{has_clash, word_of}

none_some : {X : Type 0} {x : X} → ◌≡◌ {A = Option X} None (Some x) → ⊥
none_some e = cc

-- ---- an error

idle_error : (act : Act) → ((deed : Deed) → deed_of act ≡ Some deed → ⊥) → act ≡ Error
idle_error (Shift p) without = absurd (without to_shift refl)
idle_error (Reduce r) without = absurd (without (to_reduce r) refl)
idle_error Accept without = absurd (without to_accept refl)
idle_error Error without = refl

error_idle : (act : Act) (deed : Deed) → act ≡ Error → deed_of act ≡ Some deed → ⊥
error_idle act deed error does = none_some (sym (ap deed_of error) ∙ does)

pub canonical_error : CanonicalErrorLaw
canonical_error g has step q a act canonical = (
  λ error deed has_deed. error_idle act deed error ((canonical.deed deed).1 has_deed),
  λ idle. idle_error act (λ deed does. idle deed ((canonical.deed deed).0 does)),
)

-- ---- one action

same_act : (x y : Act) → ((deed : Deed) → deed_of x ≡ Some deed → deed_of y ≡ Some deed) → ((deed : Deed) → deed_of y ≡ Some deed → deed_of x ≡ Some deed) → ((p r : ℕ) → x ≡ Shift p → y ≡ Shift r → p ≡ r) → x ≡ y
same_act (Shift p) (Shift r) there here targets = ap Shift (targets p r refl refl)
same_act (Shift p) (Reduce r) there here targets = let e = there to_shift refl in absurd (cc)
same_act (Shift p) Accept there here targets = let e = there to_shift refl in absurd (cc)
same_act (Shift p) Error there here targets = let e = there to_shift refl in absurd (cc)
same_act (Reduce r) (Shift p) there here targets = let e = there (to_reduce r) refl in absurd (cc)
same_act (Reduce r) (Reduce s) there here targets = let e = there (to_reduce r) refl in cc
same_act (Reduce r) Accept there here targets = let e = there (to_reduce r) refl in absurd (cc)
same_act (Reduce r) Error there here targets = let e = there (to_reduce r) refl in absurd (cc)
same_act Accept (Shift p) there here targets = let e = there to_accept refl in absurd (cc)
same_act Accept (Reduce r) there here targets = let e = there to_accept refl in absurd (cc)
same_act Accept Accept there here targets = refl
same_act Accept Error there here targets = let e = there to_accept refl in absurd (cc)
same_act Error y there here targets = sym (idle_error y (λ deed does. none_some (here deed does)))

pub canonical_once : CanonicalOnceLaw
canonical_once g has step q a act other first second = same_act act other
    (λ deed does. (second.deed deed).1 ((first.deed deed).0 does))
    (λ deed does. (first.deed deed).1 ((second.deed deed).0 does))
    (λ p r is too. same_Some p r (sym (first.target p is) ∙ second.target r too))

-- ---- no conflict

-- the first of the tokens behind a list is one of the grammar's
pub token_below : (bound a : ℕ) (before after : List Sym) → TokensBelow bound (before ++ Token a ∷ after) → a < bound
token_below bound a [] after below = below.0
token_below bound a (Token b ∷ before) after below = token_below bound a before after below.1
token_below bound a (_ ∷ before) after below = token_below bound a before after below

pub does_within : (g : Grammar) → IsInRange g → (xs : List Sym) (i : Item) (a : ℕ) (deed : Deed) → IsValid g xs i → Does g i a deed → a ≤ end_mark g
does_within g range xs i a deed known (shifts {before = before} {after = after} dotted) =
    let less : a < g.tokens = token_below g.tokens a before after (right_tokens g range dotted.rule) in omega arith
does_within g range xs i a deed known (reduces dotted own at is) = let within = (item_range_law g range xs i known).ahead in omega arith
does_within g range xs i a deed known (accepts dotted last at) = omega arith

pub no_conflict : NoConflictLaw
no_conflict g range states has step t collection canonical h = at_state (has_clash g states has step collection h)
  where
    at_state : ((q : ℕ) × (q < states) × (a : ℕ) × HasClash g (ItemsOf has q) a) → ⊥
    at_state (q, less, a, (deed, other, (first, has_first, first_does), (second, has_second, second_does), differ)) =
        let valid : IsValid g (get_or collection.words q []) first = (collection.items q (get_or collection.words q []) (word_of g states has step collection q less) first).0 has_first in
        let act : IsCanonicalAct g has step q a (act_in t q a) = canonical.acts q a less (does_within g range (get_or collection.words q []) first a deed valid first_does) in
        differ (same_Some deed other (sym ((act.deed deed).1 (first, has_first, first_does)) ∙ (act.deed other).1 (second, has_second, second_does)))
