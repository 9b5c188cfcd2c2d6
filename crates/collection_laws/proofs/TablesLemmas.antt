-- A collection has canonical tables, or its grammar a conflict: what the entries of its states do is decided.
use Rattle.std.proofs.Common.{◌≡◌, ℕ, zero, suc, ◌+◌, ◌*◌, ◌<◌, ◌≤◌, ◌⊎◌, inl, inr, ⊎_elim, All, Bool, if◌then◌else◌, [], ◌∷◌, ◌++◌, get_or, Option, Some, None, refl, sym, ap, subst, ◌∙◌, arith}
use Rattle.std.proofs.lemmas.Bool.{cases_lt, lt-ltb, le-ltb}
use Rattle.std.proofs.lemmas.Nat.{mul-le}
use Rattle.std.proofs.lemmas.Option.{slice_get-get_or, same_Some}
use Rattle.grammar_data.specs.declared.rule.Sym.{Sym}
use Rattle.grammar_data.specs.declared.rule.Sym.TheVariants.{Token, Name}
use Rattle.grammar_data.specs.Grammar.{Grammar}
use Rattle.grammar_theory.specs.Rules.{IsInRange, end_mark}
use Rattle.item_theory.specs.Items.{Item, Deed, Does, shifts, reduces, IsValid, HasConflict, Shift as to_shift, Reduce as to_reduce, Accept as to_accept}
use Rattle.item_theory.specs.Chains.{moves}
use Rattle.item_theory.specs.Collections.{IsCollection}
use Rattle.item_theory.proofs.StateLemmas.{viable_of_step}
use Rattle.collection_data.specs.Entries.{IsEntry}
use Rattle.collection_data.specs.Collection.{CollectionParts, IsCollectionOf, state_count, items_in, has_item, step_in}
use Rattle.collection_data.proofs.RowLemmas.{row_once}
use Rattle.table_data.specs.declared.act.Act.{Act}
use Rattle.table_data.specs.declared.act.Act.TheVariants.{Shift, Reduce, Accept, Error}
use Rattle.table_data.specs.Tables.{Tables, act_in, goto_in}
use Rattle.table_theory.specs.Deeds.{HasDeed, IsIdle}
use Rattle.table_theory.specs.Clashes.{ItemsOf}
use Rattle.table_theory.specs.Canonical.{deed_of, IsCanonicalAct, AreCanonical}
use Rattle.table_theory.proofs.ClashLemmas.{word_of, clash_law}
use Rattle.collection_laws.specs.Laws.{SomeTablesLaw}
use Rattle.collection_laws.proofs.ListLemmas.{HasList, list_or}
use Rattle.collection_laws.proofs.DeedLemmas.{Done, nothing, one_deed, clash, entries_done}

-- ---- places of rows

row_inside : (q k rows w : ℕ) → q < rows → k < w → q * w + k < rows * w
row_inside q k rows w less small = let le = mul-le (suc q) w rows w less (omega arith) in omega arith

-- a place of so many rows of one width
record IsPlace (rows width k : ℕ) : Type 0 where
  pub row : ℕ
  pub column : ℕ
  pub inside : row < rows
  pub small : column < width
  pub at : k ≡ row * width + column

not_zero : (rows w : ℕ) → 0 < rows * w → (0 < rows) × (0 < w)
not_zero rows w some = (⊎_elim (λ less. less) (λ none. absurd (no_rows (omega arith))) (cases_lt 0 rows), ⊎_elim (λ less. less) (λ none. absurd (no_width (omega arith))) (cases_lt 0 w))
  where
    no_rows : rows ≡ 0 → ⊥
    no_rows e = let none : rows * w ≡ 0 * w = ap (λ r. r * w) e in omega arith

    no_width : w ≡ 0 → ⊥
    no_width e = let none : rows * w ≡ rows * 0 = ap (λ n. rows * n) e in omega arith

next_place : (rows w k : ℕ) → suc k < rows * w → IsPlace rows w k → IsPlace rows w (suc k)
next_place rows w k less place = cases (cases_lt (suc place.column) w)
  where
    next_row : suc place.column ≡ w → suc place.row < rows
    next_row full = ⊎_elim (λ inside. inside) (λ past. past_end (mul-le rows w (suc place.row) w past (omega arith))) (cases_lt (suc place.row) rows)
      where
        past_end : rows * w ≤ suc place.row * w → suc place.row < rows
        past_end le = let at = place.at in absurd (omega arith)

    cases : (suc place.column < w) ⊎ (w ≤ suc place.column) → IsPlace rows w (suc k)
    cases (inl small) = record { row = place.row; column = suc place.column; inside = place.inside; small = small; at = (let at = place.at in omega arith) }
    cases (inr past) =
        let small = place.small in
        let full : suc place.column ≡ w = omega arith in
        record { row = suc place.row; column = 0; inside = next_row full; small = omega arith; at = (let at = place.at in omega arith) }

place_of : (rows w k : ℕ) → k < rows * w → IsPlace rows w k
place_of rows w zero less = let some = not_zero rows w less in record { row = 0; column = 0; inside = some.0; small = some.1; at = omega arith }
place_of rows w (suc k) less = next_place rows w k less (place_of rows w k (omega arith))

module _ (g : Grammar) (range : IsInRange g) (states : ℕ) (has : ℕ → Item → Bool) (step : ℕ → Sym → Option ℕ) (collection : IsCollection g states has step)
    (done : (q a : ℕ) → q < states → Done g (ItemsOf has q) a) where
  -- ---- one action

  stepped : (q a : ℕ) (i : Item) → q < states → IsValid g (get_or collection.words q []) i → Does g i a to_shift → (p : ℕ) × (step q (Token a) ≡ Some p)
  stepped q a i less v (shifts {n = n} {before = before} {after = after} dotted) =
      let word = word_of g states has step collection q less in
      let viable = viable_of_step g range (get_or collection.words q []) (Token a) i (record i { dot = i.dot + 1 }) v (moves n before after dotted refl) in
      let (p, ys, at, same) = collection.are_states.every (get_or collection.words q [] ++ Token a ∷ []) viable in
      (p, (collection.steps q p (get_or collection.words q []) (Token a) word).1 (ys, at, same))
  stepped q a i less v (reduces dotted own at is) = absurd (cc)

  abbrev IsOnly : ℕ → ℕ → Deed → Type 0
  IsOnly q a deed = (other : Deed) → HasDeed g (ItemsOf has q) a other → other ≡ deed

  canonical_by : (q a : ℕ) (act : Act) (deed : Deed) → deed_of act ≡ Some deed → HasDeed g (ItemsOf has q) a deed → IsOnly q a deed → ((p : ℕ) → act ≡ Shift p → step q (Token a) ≡ Some p) → IsCanonicalAct g has step q a act
  canonical_by q a act deed is does only target = record {
    deed = λ other. (
      λ e. subst (λ d. HasDeed g (ItemsOf has q) a d) (same_Some deed other (sym is ∙ e)) does,
      λ h. is ∙ ap Some (sym (only other h)),
    );
    target = target;
  }

  abbrev HasAct : ℕ → ℕ → Type 0
  HasAct q a = (act : Act) × IsCanonicalAct g has step q a act

  act_of : (q a : ℕ) → q < states → (deed : Deed) → HasDeed g (ItemsOf has q) a deed → IsOnly q a deed → HasAct q a
  act_of q a less to_shift (i, is, does) only =
      let valid = (collection.items q (get_or collection.words q []) (word_of g states has step collection q less) i).0 is in
      let (p, at) = stepped q a i less valid does in
      (Shift p, canonical_by q a (Shift p) to_shift refl (i, is, does) only (λ r e. let same : p ≡ r = cc in at ∙ ap Some same))
  act_of q a less (to_reduce r) does only = (Reduce r, canonical_by q a (Reduce r) (to_reduce r) refl does only (λ p e. absurd (cc)))
  act_of q a less to_accept does only = (Accept, canonical_by q a Accept to_accept refl does only (λ p e. absurd (cc)))

  no_act : (q a : ℕ) → IsIdle g (ItemsOf has q) a → IsCanonicalAct g has step q a Error
  no_act q a idle = record { deed = λ deed. (λ e. absurd (cc), λ h. absurd (idle deed h)); target = λ p e. absurd (cc) }

  act_or_conflict : (q a : ℕ) → q < states → HasAct q a ⊎ HasConflict g
  act_or_conflict q a less = cases (done q a less)
    where
      cases : Done g (ItemsOf has q) a → HasAct q a ⊎ HasConflict g
      cases (nothing idle) = inl (Error, no_act q a idle)
      cases (one_deed deed does only) = inl (act_of q a less deed does only)
      cases (clash two) = inr ((clash_law g states has step collection).1 (q, less, a, two))

  -- ---- the actions in rows

  abbrev width : ℕ
  width = g.tokens + 1

  -- the action is that of this place of the rows
  abbrev IsActAt : ℕ → Act → Type 0
  IsActAt k act = (q a : ℕ) → q < states → a < width → k ≡ q * width + a → IsCanonicalAct g has step q a act

  act_at_place : (k : ℕ) (place : IsPlace states width k) (act : Act) → IsCanonicalAct g has step place.row place.column act → IsActAt k act
  act_at_place k place act canonical q a less small at =
      let same = row_once place.row place.column q a width place.small small (sym place.at ∙ at) in
      subst (λ m. IsCanonicalAct g has step m a act) same.0 (subst (λ b. IsCanonicalAct g has step place.row b act) same.1 canonical)

  act_at_or_conflict : (k : ℕ) → k < states * width → ((act : Act) × IsActAt k act) ⊎ HasConflict g
  act_at_or_conflict k less =
      let place = place_of states width k less in
      ⊎_elim (λ (act, canonical). inl (act, act_at_place k place act canonical)) (λ conflict. inr conflict) (act_or_conflict place.row place.column place.inside)

  -- ---- the gotos in rows

  abbrev IsGotoAt : ℕ → Option ℕ → Type 0
  IsGotoAt k o = (q n : ℕ) → q < states → n < g.names → k ≡ q * g.names + n → o ≡ step q (Name n)

  goto_at_place : (k : ℕ) (place : IsPlace states g.names k) → IsGotoAt k (step place.row (Name place.column))
  goto_at_place k place q n less small at =
      let same = row_once place.row place.column q n g.names place.small small (sym place.at ∙ at) in
      ap (λ m. step m (Name place.column)) same.0 ∙ ap (λ m. step q (Name m)) same.1

  goto_at : (k : ℕ) → k < states * g.names → (o : Option ℕ) × IsGotoAt k o
  goto_at k less = let place = place_of states g.names k less in (step place.row (Name place.column), goto_at_place k place)

  -- ---- the tables

  abbrev HasTables : Type 0
  HasTables = (t : Tables) × AreCanonical g states has step t

  module _ (acts : HasList IsActAt (states * width)) (gotos : HasList IsGotoAt (states * g.names)) where
    abbrev tables : Tables
    tables = record { tokens = g.tokens; names = g.names; states = states; rules = g.rules; acts = acts.0; gotos = gotos.0 }

    act_at : (q a : ℕ) → q < states → a ≤ end_mark g → IsCanonicalAct g has step q a (act_in tables q a)
    act_at q a less le =
        let inside = row_inside q a states width less (omega arith) in
        let count = acts.1 in
        let small : a < width = omega arith in
        subst (λ (past : Bool). IsCanonicalAct g has step q a (if past then Error else get_or acts.0 (q * width + a) Error)) (sym (le-ltb g.tokens a le))
        (acts.2 (q * width + a) (get_or acts.0 (q * width + a) Error) (slice_get-get_or acts.0 (q * width + a) Error (omega arith)) q a less small refl)

    goto_there : (q n : ℕ) → q < states → n < g.names → goto_in tables q n ≡ step q (Name n)
    goto_there q n less small =
        let inside = row_inside q n states g.names less small in
        let count = gotos.1 in
        ap (λ (own : Bool). if own then get_or gotos.0 (q * g.names + n) None else None) (lt-ltb n g.names small)
        ∙ gotos.2 (q * g.names + n) (get_or gotos.0 (q * g.names + n) None) (slice_get-get_or gotos.0 (q * g.names + n) None (omega arith)) q n less small refl

    canonical : AreCanonical g states has step tables
    canonical = record { count = refl; tokens = refl; names = refl; rules = refl; acts = act_at; gotos = goto_there }

  pub tables_or_conflict : HasTables ⊎ HasConflict g
  tables_or_conflict =
      ⊎_elim
      (λ acts. ⊎_elim (λ gotos. inl (tables acts gotos, canonical acts gotos)) (λ conflict. inr conflict) (list_or IsGotoAt (HasConflict g) (states * g.names) (λ k less. inl (goto_at k less))))
      (λ conflict. inr conflict)
      (list_or IsActAt (HasConflict g) (states * width) act_at_or_conflict)

entries_in : (g : Grammar) (c : CollectionParts) → IsCollectionOf g c → (q : ℕ) → q < state_count c → All (IsEntry g) (items_in c q)
entries_in g c is q less = (is.entries q (items_in c q) (slice_get-get_or c.states q [] less)).each

pub some_tables : SomeTablesLaw
some_tables g range c is = tables_or_conflict g range (state_count c) (has_item c) (step_in c) is.collection (λ q a less. entries_done g (items_in c q) a (entries_in g c is q less))
