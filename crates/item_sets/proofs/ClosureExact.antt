-- The lookaheads that are found are those of the closure.
use Rattle.std.proofs.Common.{◌≡◌, ℕ, ◌<◌, ◌↔◌, ◌⊎◌, inl, inr, true, false, ◌&&◌, IsTrue, List, [], ◌∷◌, ◌++◌, length, get_or, take, slice_get, Option, Some, None, Contains, refl, sym, ap, subst, ◌∙◌, arith}
use Rattle.std.specs.Option.{option_to_list}
use Rattle.std.proofs.lemmas.Bool.{or_left, or_right, or_cases, and_parts, and_from, false≢true}
use Rattle.std.proofs.lemmas.List.{take-append-drop, length-take-le, nil_from_length, length-append}
use Rattle.std.proofs.lemmas.List.Elements.{All-contains, Contains-push, Contains-append_left, Contains-push_cases}
use Rattle.std.proofs.lemmas.Option.{slice_get_within, slice_get-get_or}
use Rattle.grammar_data.specs.declared.rule.Sym.{Sym}
use Rattle.grammar_data.specs.declared.rule.Sym.TheVariants.{Name}
use Rattle.grammar_data.specs.Grammar.{Grammar}
use Rattle.grammar_data.specs.TokenSet.{has_token}
use Rattle.grammar_theory.specs.Rules.{IsRule, OnlyNames}
use Rattle.grammar_theory.specs.EmptyNames.{IsNullable}
use Rattle.grammar_theory.specs.FirstTokens.{FirstHas, IsFirst, IsFound}
use Rattle.grammar_theory.proofs.FirstLemmas.{found_parts, found_of_first, found_of_end}
use Rattle.grammar_theory.proofs.RuleLemmas.{rule_once}
use Rattle.item_theory.specs.Items.{Item, Dotted, all_rules}
use Rattle.item_theory.specs.Chains.{Opens, opens, Closure, kept, opened}
use Rattle.item_theory.proofs.ItemLemmas.{own_rule, dotted_once}
use Rattle.item_theory.proofs.ClosureLemmas.{closure_within, open_found, found_open}
use Rattle.collection_data.specs.declared.entry.Entry.{Entry}
use Rattle.item_sets.specs.declared.spot.Spot.{Spot}
use Rattle.collection_data.specs.Entries.{entry_has, entries_have, IsEntry}
use Rattle.collection_data.proofs.EntryLemmas.{entry_parts, entry_from, have_pushed}
use Rattle.item_sets.specs.Spots.{IsSpotAt, IsFront}
use Rattle.item_sets.specs.Closing.{ahead_in, carries, IsGrown, IsRowOpened, IsSetting, Calls, IsSettled, IsClosing, IsOpenedItem, IsUnopened, PartClosure}

-- ---- spots as sources of lookaheads

pub record IsSource (g : Grammar) (r d : ℕ) (spot : Spot) : Type 0 where
  pub name : ℕ
  pub right : List Sym
  pub rule : IsRule (all_rules g) r name right
  pub within : d < length right
  pub at : IsSpotAt g right d spot

heads : {X : Type 0} {x y : X} {xs ys : List X} → x ∷ xs ≡ y ∷ ys → x ≡ y
heads e = cc

rests : {X : Type 0} {x y : X} {xs ys : List X} → x ∷ xs ≡ y ∷ ys → xs ≡ ys
rests e = cc

module _ (g : Grammar) (r d : ℕ) (spot : Spot) (source : IsSource g r d spot) where
  source_whole : source.right ≡ take d source.right ++ (spot.symbol ∷ source.at.after)
  source_whole = sym (take-append-drop d source.right) ∙ ap (λ l. take d source.right ++ l) source.at.behind

  pub source_dotted : (i : Item) → i.rule ≡ r → i.dot ≡ d → Dotted g i source.name (take d source.right) (spot.symbol ∷ source.at.after)
  source_dotted i rule dot = record {
    rule = subst (λ k. IsRule (all_rules g) k source.name (take d source.right ++ (spot.symbol ∷ source.at.after))) (sym rule) (subst (λ l. IsRule (all_rules g) r source.name l) source_whole source.rule);
    dot = dot ∙ sym (length-take-le d source.right (let less = source.within in omega arith));
  }

  carried_by : (from : List ℕ) (a b : ℕ) → IsTrue (has_token from a) → IsFirst g source.at.after b ⊎ (OnlyNames (IsNullable g) source.at.after × (b ≡ a)) → IsTrue (carries spot from b)
  carried_by from a b has (inl first) = or_left _ _ ((source.at.rest.first b).1 first)
  carried_by from a b has (inr all) = or_right _ _ (and_from _ _ (source.at.rest.passes.1 all.0) (ap (has_token from) all.1 ∙ has))

  pub carried_of_call : (i : Item) (from : List ℕ) (m b : ℕ) → i.rule ≡ r → i.dot ≡ d → IsTrue (has_token from i.ahead) → Calls g i m b → (spot.symbol ≡ Name m) × IsTrue (carries spot from b)
  carried_of_call i from m b rule dot has call =
      let same = dotted_once (source_dotted i rule dot) call.dotted in
      let found = found_parts (FirstHas g) (IsNullable g) call.after i.ahead b call.found in
      (heads same.2, carried_by from i.ahead b has (subst (λ l. IsFirst g l b ⊎ (OnlyNames (IsNullable g) l × (b ≡ i.ahead))) (sym (rests same.2)) found))

  call_at : (m a b : ℕ) → spot.symbol ≡ Name m → IsFound g source.at.after a b → Calls g (record { rule = r; dot = d; ahead = a }) m b
  call_at m a b is found = record {
    name = source.name;
    before = take d source.right;
    after = source.at.after;
    dotted = subst (λ x. Dotted g (record { rule = r; dot = d; ahead = a }) source.name (take d source.right) (x ∷ source.at.after)) is (source_dotted (record { rule = r; dot = d; ahead = a }) refl refl);
    found = found;
  }

  call_cases : (from : List ℕ) (m a b : ℕ) → spot.symbol ≡ Name m → IsTrue (has_token from a) → (has_token spot.first b ≡ true) ⊎ ((spot.passes && has_token from b) ≡ true) → (c : ℕ) × IsTrue (has_token from c) × Calls g (record { rule = r; dot = d; ahead = c }) m b
  call_cases from m a b is has (inl first) = (a, has, call_at m a b is (found_of_first (FirstHas g) (IsNullable g) source.at.after a b ((source.at.rest.first b).0 first)))
  call_cases from m a b is has (inr passed) =
      let parts = and_parts spot.passes (has_token from b) passed in
      (b, parts.1, call_at m b b is (found_of_end (FirstHas g) (IsNullable g) source.at.after b b (source.at.rest.passes.0 parts.0) refl))

  pub call_of_carried : (from : List ℕ) (m a b : ℕ) → spot.symbol ≡ Name m → IsTrue (has_token from a) → IsTrue (carries spot from b) → (c : ℕ) × IsTrue (has_token from c) × Calls g (record { rule = r; dot = d; ahead = c }) m b
  call_of_carried from m a b is has carried = call_cases from m a b is has (or_cases _ _ carried)

-- ---- the closure grows

module _ (g : Grammar) (rows fronts : List (List Spot)) (setting : IsSetting g rows fronts) (given : List Entry) where
  abbrev Given : Item → Type 0
  Given i = IsTrue (entries_have given i)

  -- the spot of an item that has a symbol behind its dot
  pub spot_of : (r d n : ℕ) (right : List Sym) → IsRule (all_rules g) r n right → d < length right → (spot : Spot) × (slice_get (get_or rows r []) d ≡ Some spot) × IsSource g r d spot
  spot_of r d n right rule less =
      let are = setting.table.spots.each r n right rule in
      let within : d < length (get_or rows r []) = omega (arith, are.count) in
      let front = right_first right d less in
      let spot = get_or (get_or rows r []) d (no_spot front) in
      let at = slice_get-get_or (get_or rows r []) d (no_spot front) within in
      (spot, at, record { name = n; right = right; rule = rule; within = less; at = are.each d spot at })
    where
      right_first : (xs : List Sym) (k : ℕ) → k < length xs → Sym
      right_first [] k h = absurd (omega arith)
      right_first (x ∷ xs) k h = x

      no_spot : Sym → Spot
      no_spot x = record { symbol = x; column = 0; first = []; passes = false }

  settled_kept : (old new : List (List ℕ)) (n : ℕ) → ((m b : ℕ) → IsTrue (ahead_in old m b) → IsTrue (ahead_in new m b)) → get_or new n [] ≡ get_or old n [] → IsSettled g old n → IsSettled g new n
  settled_kept old new n keeps same settled = λ r a m b right rule has call. keeps m b (settled r a m b right rule (ap (λ t. has_token t a) (sym same) ∙ has) call)

  settled_on : (old : List (List ℕ)) (work : List ℕ) (new : List (List ℕ)) (later : List ℕ) → IsGrown old work new later → (n : ℕ) → Contains work n ⊎ IsSettled g old n → Contains later n ⊎ IsSettled g new n
  settled_on old work new later grown n (inl h) = inl (grown.works n h)
  settled_on old work new later grown n (inr s) = noted (grown.noted n)
    where
      noted : Contains later n ⊎ (get_or new n [] ≡ get_or old n []) → Contains later n ⊎ IsSettled g new n
      noted (inl h) = inl h
      noted (inr same) = inr (settled_kept old new n grown.kept same s)

  waiting_on : (old : List (List ℕ)) (work : List ℕ) (new : List (List ℕ)) (later : List ℕ) → IsGrown old work new later → length old ≡ g.names → ((n : ℕ) → Contains work n → (n < g.names) × (a : ℕ) × IsTrue (ahead_in old n a))
      → (n : ℕ) → Contains work n ⊎ ((n < length new) × (a : ℕ) × IsTrue (ahead_in new n a)) → (n < g.names) × (a : ℕ) × IsTrue (ahead_in new n a)
  waiting_on old work new later grown count waits n (inl h) = let w = waits n h in (w.0, w.1, grown.kept n w.1 w.2)
  waiting_on old work new later grown count waits n (inr h) = (let less = h.0 in let size = grown.count in omega arith, h.1, h.2)

  open_call : (i j : Item) (m : ℕ) (right : List Sym) → Closure g Given i → Calls g i m j.ahead → IsRule g.rules j.rule m right → j.dot ≡ 0 → Closure g Given j
  open_call i j m right c call rule dot = opened c (found_open g setting.range setting.productive call.dotted rule dot call.found)

  -- nothing is opened of no entries
  pub closing_none : (c : PartClosure) → IsUnopened g.names c → IsClosing g given [] c.aheads c.work
  closing_none c unopened = record {
    count = unopened.count;
    sound = λ n j right h rule dot. absurd (false≢true (sym (unopened.none n j.ahead) ∙ h));
    settled = λ n. inr (λ r a m b right rule h call. absurd (false≢true (sym (unopened.none n a) ∙ h)));
    waiting = λ n h. absurd (let none : Contains [] n = subst (λ w. Contains w n) unopened.work h in omega (arith, none.1));
    seeds = λ i m b h call. absurd (false≢true h);
  }

  -- by the name behind the dot of a given entry
  module _ (seeded : List Entry) (e : Entry) (entry : IsEntry g e) (given_has : (i : Item) → IsTrue (entry_has e i) → Given i) (old : List (List ℕ)) (work : List ℕ) (new : List (List ℕ)) (later : List ℕ)
      (closing : IsClosing g given seeded old work) (row : IsRowOpened (option_to_list (slice_get (get_or rows e.rule []) e.dot)) e.ahead old work new later) where
    entry_source : (o : Option Spot) → slice_get (get_or rows e.rule []) e.dot ≡ o → (spot : Spot) → Contains (option_to_list o) spot → IsSource g e.rule e.dot spot
    entry_source None at spot h = absurd (omega (arith, h.1))
    entry_source (Some one) at spot h =
        let are = setting.table.spots.each e.rule entry.name entry.right entry.rule in
        let within = slice_get_within (get_or rows e.rule []) e.dot one at in
        let same : one ≡ spot = only (Contains-push_cases [] one spot h) in
        subst (λ s. IsSource g e.rule e.dot s) same (record { name = entry.name; right = entry.right; rule = entry.rule; within = omega (arith, are.count); at = are.each e.dot one at })
      where
        only : {X : Type 0} {x y : X} → Contains [] y ⊎ (x ≡ y) → x ≡ y
        only (inl none) = absurd (omega (arith, none.1))
        only (inr is) = is

    seed_sound : (n : ℕ) (j : Item) (right : List Sym) → IsRule g.rules j.rule n right → j.dot ≡ 0
        → IsTrue (ahead_in old n j.ahead) ⊎ ((spot : Spot) × Contains (option_to_list (slice_get (get_or rows e.rule []) e.dot)) spot × (spot.symbol ≡ Name n) × IsTrue (carries spot e.ahead j.ahead)) → Closure g Given j
    seed_sound n j right rule dot (inl h) = closing.sound n j right h rule dot
    seed_sound n j right rule dot (inr h) =
        let source = entry_source (slice_get (get_or rows e.rule []) e.dot) refl h.0 h.1 in
        let call = call_of_carried g e.rule e.dot h.0 source e.ahead n entry.ahead j.ahead h.2 entry.has h.3 in
        let i : Item = record { rule = e.rule; dot = e.dot; ahead = call.0 } in
        open_call i j n right (kept (given_has i (entry_from e i refl refl call.1))) call.2 rule dot

    call_within : (i : Item) (m b : ℕ) → e.rule ≡ i.rule → e.dot ≡ i.dot → Calls g i m b → e.dot < length entry.right
    call_within i m b rule dot call =
        let same = (rule_once entry.rule (subst (λ k. IsRule (all_rules g) k call.name (call.before ++ (Name m ∷ call.after))) (sym rule) call.dotted.rule)).1 in
        let size = ap length same ∙ length-append call.before (Name m ∷ call.after) in
        let at = call.dotted.dot in
        omega arith

    seed_has : (i : Item) (m b : ℕ) → Calls g i m b → IsTrue (entries_have seeded i) ⊎ IsTrue (entry_has e i) → IsTrue (ahead_in new m b)
    seed_has i m b call (inl h) = row.grown.kept m b (closing.seeds i m b h call)
    seed_has i m b call (inr h) =
        let parts = entry_parts e i h in
        let found = spot_of e.rule e.dot entry.name entry.right entry.rule (call_within i m b parts.0 parts.1 call) in
        let carried = carried_of_call g e.rule e.dot found.0 found.2 i e.ahead m b (sym parts.0) (sym parts.1) parts.2 call in
        row.has found.0 m b (subst (λ o. Contains (option_to_list o) found.0) (sym found.1) (Contains-push [] found.0)) carried.0 carried.1

    pub closing_seed : IsClosing g given (seeded ++ e ∷ []) new later
    closing_seed = record {
      count = row.grown.count ∙ closing.count;
      sound = λ n j right h rule dot. seed_sound n j right rule dot (row.only n j.ahead h);
      settled = λ n. settled_on old work new later row.grown n (closing.settled n);
      waiting = λ n h. waiting_on old work new later row.grown closing.count closing.waiting n (row.grown.waiting n h);
      seeds = λ i m b h call. seed_has i m b call (have_pushed seeded e i h);
    }

  -- by the names in front of a name's rules
  module _ (n : ℕ) (old : List (List ℕ)) (work : List ℕ) (new : List (List ℕ)) (later : List ℕ)
      (closing : IsClosing g given given old (work ++ n ∷ [])) (row : IsRowOpened (get_or fronts n []) (get_or old n []) old work new later) where
    name_within : n < g.names
    name_within = (closing.waiting n (Contains-push work n)).0

    name_sound : (m : ℕ) (j : Item) (right : List Sym) → IsRule g.rules j.rule m right → j.dot ≡ 0
        → IsTrue (ahead_in old m j.ahead) ⊎ ((spot : Spot) × Contains (get_or fronts n []) spot × (spot.symbol ≡ Name m) × IsTrue (carries spot (get_or old n []) j.ahead)) → Closure g Given j
    name_sound m j right rule dot (inl h) = closing.sound m j right h rule dot
    name_sound m j right rule dot (inr h) =
        let are = setting.table.each n name_within in
        let front_spot = All-contains (IsFront g n) (get_or fronts n []) h.0 are.sound h.1 in
        let source : IsSource g front_spot.number 0 h.0 = record { name = n; right = Name front_spot.name ∷ front_spot.after; rule = own_rule g front_spot.rule; within = omega arith; at = front_spot.front } in
        let some = (closing.waiting n (Contains-push work n)) in
        let call = call_of_carried g front_spot.number 0 h.0 source (get_or old n []) m some.1 j.ahead h.2 some.2 h.3 in
        let i : Item = record { rule = front_spot.number; dot = 0; ahead = call.0 } in
        open_call i j m right (closing.sound n i (Name front_spot.name ∷ front_spot.after) call.1 front_spot.rule refl) call.2 rule dot

    name_settled : get_or new n [] ≡ get_or old n [] → IsSettled g new n
    name_settled same r a m b right rule has call =
        let are = setting.table.each n name_within in
        let front : call.before ≡ [] = nil_from_length call.before (sym call.dotted.dot) in
        let whole : right ≡ call.before ++ (Name m ∷ call.after) = (rule_once (own_rule g rule) call.dotted.rule).1 in
        let own : IsRule g.rules r n (Name m ∷ call.after) = subst (λ l. IsRule g.rules r n l) (whole ∙ ap (λ l. l ++ (Name m ∷ call.after)) front) rule in
        let found = are.whole r m call.after (slice_get_within g.rules r (n, Name m ∷ call.after) own.found) own in
        let source : IsSource g r 0 found.0 = record { name = n; right = Name m ∷ call.after; rule = own_rule g own; within = omega arith; at = found.2 } in
        let carried = carried_of_call g r 0 found.0 source (record { rule = r; dot = 0; ahead = a }) (get_or old n []) m b refl refl (ap (λ t. has_token t a) (sym same) ∙ has) call in
        row.has found.0 m b found.1 carried.0 carried.1

    name_cases : (m : ℕ) → Contains work m ⊎ (n ≡ m) → Contains later m ⊎ IsSettled g new m
    name_cases m (inl h) = inl (row.grown.works m h)
    name_cases m (inr e) = noted (row.grown.noted n)
      where
        noted : Contains later n ⊎ (get_or new n [] ≡ get_or old n []) → Contains later m ⊎ IsSettled g new m
        noted (inl h) = inl (subst (λ k. Contains later k) e h)
        noted (inr same) = inr (subst (λ k. IsSettled g new k) e (name_settled same))

    settled_by : (m : ℕ) → Contains (work ++ n ∷ []) m ⊎ IsSettled g old m → Contains later m ⊎ IsSettled g new m
    settled_by m (inl h) = name_cases m (Contains-push_cases work n m h)
    settled_by m (inr s) = settled_on old work new later row.grown m (inr s)

    pub closing_name : IsClosing g given given new later
    closing_name = record {
      count = row.grown.count ∙ closing.count;
      sound = λ m j right h rule dot. name_sound m j right rule dot (row.only m j.ahead h);
      settled = λ m. settled_by m (closing.settled m);
      waiting = λ m h. waiting_on old work new later row.grown closing.count (λ k c. closing.waiting k (Contains-append_left work (n ∷ []) k c)) m (row.grown.waiting m h);
      seeds = λ i m b h call. row.grown.kept m b (closing.seeds i m b h call);
    }

  -- ---- at the end

  abbrev Known : List (List ℕ) → Item → Type 0
  Known aheads i = Given i ⊎ IsOpenedItem g aheads i

  module _ (aheads : List (List ℕ)) (closing : IsClosing g given given aheads []) where
    item_call : (i : Item) (m b : ℕ) → i.dot ≡ 0 → Calls g i m b → Calls g (record { rule = i.rule; dot = 0; ahead = i.ahead }) m b
    item_call i m b dot call = record { name = call.name; before = call.before; after = call.after; dotted = record { rule = call.dotted.rule; dot = sym dot ∙ call.dotted.dot }; found = call.found }

    opened_has : (i : Item) (m b n : ℕ) (right : List Sym) → IsRule g.rules i.rule n right → i.dot ≡ 0 → IsTrue (ahead_in aheads n i.ahead) → Calls g i m b → Contains [] n ⊎ IsSettled g aheads n → IsTrue (ahead_in aheads m b)
    opened_has i m b n right rule dot has call (inl h) = absurd (omega (arith, h.1))
    opened_has i m b n right rule dot has call (inr s) = s i.rule i.ahead m b right rule has (item_call i m b dot call)

    known_calls : (i : Item) (m b : ℕ) → Known aheads i → Calls g i m b → IsTrue (ahead_in aheads m b)
    known_calls i m b (inl h) call = closing.seeds i m b h call
    known_calls i m b (inr o) call = opened_has i m b o.name o.right o.rule o.front o.has call (closing.settled o.name)

    known_closed : (i j : Item) → Known aheads i → Opens g i j → Known aheads j
    known_closed i j known (opens n m before after right dotted front follows) =
        let found = open_found g setting.range dotted (opens n m before after right dotted front follows) in
        inr (record { name = m; right = found.0; rule = found.1; front = found.2; has = known_calls i m j.ahead known (record { name = n; before = before; after = after; dotted = dotted; found = found.3 }) })

    known_sound : (i : Item) → Known aheads i → Closure g Given i
    known_sound i (inl h) = kept h
    known_sound i (inr o) = closing.sound o.name i o.right o.has o.rule o.front

    -- what is given, and what was opened, is the closure
    pub closure_known : (i : Item) → Closure g Given i ↔ Known aheads i
    closure_known i = (λ c. closure_within (λ j h. inl h) known_closed c, known_sound i)
