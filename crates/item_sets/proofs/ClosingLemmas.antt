-- Lookaheads that grow, and what a spot carries to the name there.
use Rattle.std.proofs.Common.{◌≡◌, ℕ, zero, suc, ◌+◌, ◌<◌, ◌≤◌, ◌⊎◌, inl, inr, Bool, true, false, ◌||◌, IsTrue, List, [], ◌∷◌, ◌++◌, length, get_or, set, nat_lt, Some, All, Contains, refl, sym, ap, subst, ◌∙◌, arith}
use Rattle.std.proofs.lemmas.Bool.{or_left, or_right, or_cases, false≢true, cases_eq, ltb-true}
use Rattle.std.proofs.lemmas.List.{get_or-set_same, get_or-set_other, set-get_or, length-set, length_push}
use Rattle.std.proofs.lemmas.List.Elements.{All-set, All-get_or, All-from_get_or, All-weaker, Contains-push, Contains-append_left, Contains-append_right, Contains-push_cases}
use Rattle.std.proofs.lemmas.List.Sums.{sum_by-set}
use Rattle.std.proofs.lemmas.Option.{slice_get-get_or, cond_some}
use Rattle.grammar_data.specs.declared.rule.Sym.{Sym}
use Rattle.grammar_data.specs.declared.rule.Sym.TheVariants.{Token, Name}
use Rattle.grammar_data.specs.Grammar.{Grammar}
use Rattle.grammar_data.specs.TokenSet.{IsTokenSet, has_token}
use Rattle.item_theory.specs.Items.{all_rules}
use Rattle.item_sets.specs.declared.spot.Spot.{Spot}
use Rattle.item_sets.specs.Spots.{IsSpotAt, AreSpots, IsFront, IsTable}
use Rattle.collection_data.specs.Collection.{column_of}
use Rattle.collection_data.proofs.TokenLemmas.{token_below}
use Rattle.item_sets.specs.Closing.{ahead_in, carries, absent, lack, IsNameWithin, missing, IsGrown, IsRowOpened, IsAdded, IsMarked}

-- ---- sets that grow

one_absent : (old new : Bool) → (old ≡ true → new ≡ true) → lack new ≤ lack old
one_absent true new more = subst (λ b. lack b ≤ 0) (sym (more refl)) (omega arith)
one_absent false true more = omega arith
one_absent false false more = omega arith

absent_le : (n : ℕ) (old new : List ℕ) → ((a : ℕ) → has_token old a ≡ true → has_token new a ≡ true) → absent n new ≤ absent n old
absent_le zero old new more = omega arith
absent_le (suc n) old new more =
    let h = absent_le n old new more in
    let k = one_absent (has_token old n) (has_token new n) (more n) in
    omega arith

absent_less : (n : ℕ) (old new : List ℕ) (a : ℕ) → ((b : ℕ) → has_token old b ≡ true → has_token new b ≡ true) → a < n → has_token old a ≡ false → has_token new a ≡ true → suc (absent n new) ≤ absent n old
absent_less zero old new a more less clear has = absurd (omega arith)
absent_less (suc n) old new a more less clear has =
    elim (cases_eq a n) [
      | inl e ↦
          let h = absent_le n old new more in
          let was : lack (has_token old n) ≡ 1 = ap lack (ap (has_token old) (sym e) ∙ clear) in
          let is : lack (has_token new n) ≡ 0 = ap lack (ap (has_token new) (sym e) ∙ has) in
          omega arith
      | inr ne ↦
          let h = absent_less n old new a more (omega arith) clear has in
          let k = one_absent (has_token old n) (has_token new n) (more n) in
          omega arith
    ]

less_of_sums : (x y p q : ℕ) → x + p ≡ y + q → suc q ≤ p → suc x ≤ y
less_of_sums x y p q same less = omega arith

pub missing_less : (aheads : List (List ℕ)) (n : ℕ) (new : List ℕ) (a : ℕ) → n < length aheads
    → ((b : ℕ) → has_token (get_or aheads n []) b ≡ true → has_token new b ≡ true) → a < 256 → has_token (get_or aheads n []) a ≡ false → has_token new a ≡ true
    → suc (missing (set aheads n new)) ≤ missing aheads
unfolding missing
missing_less aheads n new a within more small clear has =
    less_of_sums _ _ _ _ (sum_by-set (λ (tokens : List ℕ). absent 256 tokens) aheads n new [] within) (absent_less 256 (get_or aheads n []) new a more small clear has)

-- ---- what one name gets

module _ (old : List (List ℕ)) (work : List ℕ) (n : ℕ) (tokens both : List ℕ) (within : n < length old) (members : (b : ℕ) → has_token both b ≡ (has_token (get_or old n []) b || has_token tokens b)) where
  abbrev new : List (List ℕ)
  new = set old n both

  new_at : (m : ℕ) → m ≡ n → get_or new m [] ≡ both
  new_at m e = ap (λ k. get_or new k []) e ∙ get_or-set_same old n both [] within

  new_other : (m : ℕ) → (m ≡ n → ⊥) → get_or new m [] ≡ get_or old m []
  new_other m ne = get_or-set_other old n m both [] ne

  added_kept : (m a : ℕ) → IsTrue (ahead_in old m a) → IsTrue (ahead_in new m a)
  added_kept m a h = elim (cases_eq m n) [
    | inl e ↦ ap (λ s. has_token s a) (new_at m e) ∙ members a ∙ or_left _ _ (ap (λ k. has_token (get_or old k []) a) (sym e) ∙ h)
    | inr ne ↦ ap (λ s. has_token s a) (new_other m ne) ∙ h
  ]

  added_has : (b : ℕ) → IsTrue (has_token tokens b) → IsTrue (ahead_in new n b)
  added_has b h = ap (λ s. has_token s b) (new_at n refl) ∙ members b ∙ or_right _ _ h

  added_from : (m b : ℕ) → m ≡ n → (has_token (get_or old n []) b ≡ true) ⊎ (has_token tokens b ≡ true) → IsTrue (ahead_in old m b) ⊎ ((m ≡ n) × IsTrue (has_token tokens b))
  added_from m b e (inl h) = inl (ap (λ k. has_token (get_or old k []) b) e ∙ h)
  added_from m b e (inr h) = inr (e, h)

  added_only : (m b : ℕ) → IsTrue (ahead_in new m b) → IsTrue (ahead_in old m b) ⊎ ((m ≡ n) × IsTrue (has_token tokens b))
  added_only m b h = elim (cases_eq m n) [
    | inl e ↦ added_from m b e (or_cases _ _ (sym (members b) ∙ ap (λ s. has_token s b) (sym (new_at m e)) ∙ h))
    | inr ne ↦ inl (ap (λ s. has_token s b) (sym (new_other m ne)) ∙ h)
  ]

  module _ (set_both : IsTokenSet both) where
    fewer_missing : (a : ℕ) → has_token (get_or old n []) a ≡ false → has_token tokens a ≡ true → suc (missing new) ≤ missing old
    fewer_missing a clear has = missing_less old n both a within (λ b h. members b ∙ or_left _ _ h) (token_below both a set_both (members a ∙ or_right _ _ has)) clear (members a ∙ or_right _ _ has)

    -- where some were new, the name waits now
    pub added_grew : (later : List ℕ) → later ≡ work ++ n ∷ [] → (a : ℕ) × (has_token (get_or old n []) a ≡ false) × (has_token tokens a ≡ true) → IsAdded n tokens old work new later
    added_grew later at (a, clear, has) = record {
      grown = record {
        count = length-set old n both;
        kept = added_kept;
        noted = λ m. elim (cases_eq m n) [
          | inl e ↦ inl (subst (λ l. Contains l m) (sym at) (subst (λ k. Contains (work ++ n ∷ []) k) (sym e) (Contains-push work n)))
          | inr ne ↦ inr (new_other m ne)
        ];
        works = λ m h. subst (λ l. Contains l m) (sym at) (Contains-append_left work (n ∷ []) m h);
        waiting = λ m h. waits m (Contains-push_cases work n m (subst (λ l. Contains l m) at h));
        less =
            let less = fewer_missing a clear has in
            let size = ap length at ∙ length_push work n in
            omega arith;
      };
      has = added_has;
      only = added_only;
    }
      where
        waits : (m : ℕ) → Contains work m ⊎ (n ≡ m) → Contains work m ⊎ ((m < length new) × (b : ℕ) × IsTrue (ahead_in new m b))
        waits m (inl h) = inl h
        waits m (inr e) = inr (let size = length-set old n both in omega arith, a, ap (λ k. has_token (get_or new k []) a) (sym e) ∙ added_has a has)

    -- it waited already
    pub added_waiting : Contains work n → (a : ℕ) × (has_token (get_or old n []) a ≡ false) × (has_token tokens a ≡ true) → IsAdded n tokens old work new work
    added_waiting waits (a, clear, has) = record {
      grown = record {
        count = length-set old n both;
        kept = added_kept;
        noted = λ m. elim (cases_eq m n) [
          | inl e ↦ inl (subst (λ k. Contains work k) (sym e) waits)
          | inr ne ↦ inr (new_other m ne)
        ];
        works = λ m h. h;
        waiting = λ m h. inl h;
        less = let less = fewer_missing a clear has in omega arith;
      };
      has = added_has;
      only = added_only;
    }

    -- else nothing changed
    pub added_same : both ≡ get_or old n [] → IsAdded n tokens old work new work
    added_same e = record {
      grown = record {
        count = length-set old n both;
        kept = added_kept;
        noted = λ m. inr (ap (λ l. get_or l m []) same);
        works = λ m h. h;
        waiting = λ m h. inl h;
        less = let size = ap missing same in omega arith;
      };
      has = added_has;
      only = added_only;
    }
      where
        same : new ≡ old
        same = ap (λ s. set old n s) e ∙ set-get_or old n []

-- ---- what waits

module _ (aheads : List (List ℕ)) (work : List ℕ) (waits : List Bool) where
  -- a set for another
  pub marked_set : (n : ℕ) (tokens : List ℕ) → IsTokenSet tokens → IsMarked aheads work waits → IsMarked (set aheads n tokens) work waits
  marked_set n tokens is marked = record {
    sets = All-set IsTokenSet aheads n tokens is marked.sets;
    count = marked.count ∙ sym (length-set aheads n tokens);
    within = λ m h. (let less = marked.within m h in let size = length-set aheads n tokens in omega arith);
    waiting = marked.waiting;
  }

  -- one name more, which is marked
  pub marked_more : (n : ℕ) → n < length aheads → IsMarked aheads work waits → IsMarked aheads (work ++ n ∷ []) (set waits n true)
  marked_more n less marked = record {
    sets = marked.sets;
    count = length-set waits n true ∙ marked.count;
    within = λ m h. elim (Contains-push_cases work n m h) [ inl before ↦ marked.within m before | inr e ↦ subst (λ k. k < length aheads) e less ];
    waiting = λ m is. elim (cases_eq m n) [
      | inl e ↦ subst (λ k. Contains (work ++ n ∷ []) k) (sym e) (Contains-push work n)
      | inr ne ↦ Contains-append_left work (n ∷ []) m (marked.waiting m (sym (get_or-set_other waits n m true false ne) ∙ is))
    ];
  }

  -- the last name waits no more
  pub marked_less : (n : ℕ) → IsMarked aheads (work ++ n ∷ []) waits → IsMarked aheads work (set waits n false)
  marked_less n marked = record {
    sets = marked.sets;
    count = length-set waits n false ∙ marked.count;
    within = λ m h. marked.within m (Contains-append_left work (n ∷ []) m h);
    waiting = λ m is. elim (cases_eq m n) [
      | inl e ↦
          let inside : n < length waits = (let less = marked.within n (Contains-push work n) in let count = marked.count in omega arith) in
          absurd (false≢true (sym (get_or-set_same waits n false false inside) ∙ ap (λ k. get_or (set waits n false) k false) (sym e) ∙ is))
      | inr ne ↦ elim (Contains-push_cases work n m (marked.waiting m (sym (get_or-set_other waits n m false false ne) ∙ is))) [
        | inl before ↦ before
        | inr same ↦ absurd (ne (sym same))
      ]
    ];
  }

-- ---- what a row of spots opens

pub grown_none : (old : List (List ℕ)) (work : List ℕ) → IsGrown old work old work
grown_none old work = record {
  count = refl;
  kept = λ n a h. h;
  noted = λ n. inr refl;
  works = λ n h. h;
  waiting = λ n h. inl h;
  less = omega arith;
}

nothing_in : {X : Type 0} (x : X) → Contains [] x → ⊥
nothing_in x h = absurd (omega (arith, h.1))

pub row_none : (from : List ℕ) (old : List (List ℕ)) (work : List ℕ) → IsRowOpened [] from old work old work
row_none from old work = record {
  grown = grown_none old work;
  has = λ spot m b h is carried. absurd (nothing_in spot h);
  only = λ m b h. inl h;
}

module _ (spot : Spot) (n : ℕ) (from tokens : List ℕ) (old : List (List ℕ)) (work : List ℕ) (new : List (List ℕ)) (later : List ℕ) where
  same_name : (m : ℕ) → spot.symbol ≡ Name n → spot.symbol ≡ Name m → m ≡ n
  same_name m e f = let k : Name m ≡ Name n = sym f ∙ e in cc

module _ (old : List (List ℕ)) (work : List ℕ) (mid : List (List ℕ)) (between : List ℕ) (new : List (List ℕ)) (later : List ℕ) where
  waits_on : (n : ℕ) → IsGrown old work mid between → IsGrown mid between new later → Contains between n ⊎ ((n < length new) × (a : ℕ) × IsTrue (ahead_in new n a)) → Contains work n ⊎ ((n < length new) × (a : ℕ) × IsTrue (ahead_in new n a))
  waits_on n first second (inl h) = before (first.waiting n h)
    where
      before : Contains work n ⊎ ((n < length mid) × (a : ℕ) × IsTrue (ahead_in mid n a)) → Contains work n ⊎ ((n < length new) × (a : ℕ) × IsTrue (ahead_in new n a))
      before (inl k) = inl k
      before (inr k) = inr (let e = second.count in let less = k.0 in omega arith, k.1, second.kept n k.1 k.2)
  waits_on n first second (inr h) = inr h

  notes_on : (n : ℕ) → IsGrown mid between new later → Contains between n ⊎ (get_or mid n [] ≡ get_or old n []) → Contains later n ⊎ (get_or new n [] ≡ get_or mid n []) → Contains later n ⊎ (get_or new n [] ≡ get_or old n [])
  notes_on n second (inl h) k = inl (second.works n h)
  notes_on n second (inr e) (inl k) = inl k
  notes_on n second (inr e) (inr f) = inr (f ∙ e)

  pub grown_on : IsGrown old work mid between → IsGrown mid between new later → IsGrown old work new later
  grown_on first second = record {
    count = second.count ∙ first.count;
    kept = λ n a h. second.kept n a (first.kept n a h);
    noted = λ n. notes_on n second (first.noted n) (second.noted n);
    works = λ n h. second.works n (first.works n h);
    waiting = λ n h. waits_on n first second (second.waiting n h);
    less = let h = first.less in let k = second.less in omega arith;
  }

  module _ (spots : List Spot) (spot : Spot) (from : List ℕ) where
    row_cases : (other : Spot) (m b : ℕ) → IsRowOpened spots from old work mid between → IsRowOpened (spot ∷ []) from mid between new later → other.symbol ≡ Name m → IsTrue (carries other from b) → Contains spots other ⊎ (spot ≡ other) → IsTrue (ahead_in new m b)
    row_cases other m b first second at carried (inl h) = second.grown.kept m b (first.has other m b h at carried)
    row_cases other m b first second at carried (inr e) = second.has other m b (subst (λ s. Contains (spot ∷ []) s) e (Contains-push [] spot)) at carried

    only_on : (m b : ℕ) → IsRowOpened spots from old work mid between → IsTrue (ahead_in mid m b) ⊎ ((other : Spot) × Contains (spot ∷ []) other × (other.symbol ≡ Name m) × IsTrue (carries other from b))
        → IsTrue (ahead_in old m b) ⊎ ((other : Spot) × Contains (spots ++ spot ∷ []) other × (other.symbol ≡ Name m) × IsTrue (carries other from b))
    only_on m b first (inl h) = before (first.only m b h)
      where
        before : IsTrue (ahead_in old m b) ⊎ ((other : Spot) × Contains spots other × (other.symbol ≡ Name m) × IsTrue (carries other from b))
            → IsTrue (ahead_in old m b) ⊎ ((other : Spot) × Contains (spots ++ spot ∷ []) other × (other.symbol ≡ Name m) × IsTrue (carries other from b))
        before (inl k) = inl k
        before (inr k) = inr (k.0, Contains-append_left spots (spot ∷ []) k.0 k.1, k.2, k.3)
    only_on m b first (inr h) = inr (h.0, Contains-append_right spots (spot ∷ []) h.0 h.1, h.2, h.3)

    -- one more spot
    pub row_more : IsRowOpened spots from old work mid between → IsRowOpened (spot ∷ []) from mid between new later → IsRowOpened (spots ++ spot ∷ []) from old work new later
    row_more first second = record {
      grown = grown_on first.grown second.grown;
      has = λ other m b h at carried. row_cases other m b first second at carried (Contains-push_cases spots spot other h);
      only = λ m b h. only_on m b first (second.only m b h);
    }

-- ---- names in range

pub name_within : (bound : ℕ) (rows : List (List Spot)) → All (λ row. All (λ (spot : Spot). IsNameWithin bound spot.symbol) row) rows → (n : ℕ) → n < length rows
    → (row : List Spot) → row ≡ get_or rows n row → (i : ℕ) → i < length row → (spot : Spot) → spot ≡ get_or row i spot → IsNameWithin bound spot.symbol
name_within bound rows all n within row at i less spot is =
    subst (λ (s : Spot). IsNameWithin bound s.symbol) (sym is)
    (All-get_or (λ (s : Spot). IsNameWithin bound s.symbol) row i spot less
    (subst (λ ss. All (λ (s : Spot). IsNameWithin bound s.symbol) ss) (sym at) (All-get_or (λ ss. All (λ (s : Spot). IsNameWithin bound s.symbol) ss) rows n row within all)))

symbol_within : (tokens names c : ℕ) (x : Sym) → column_of tokens names x ≡ Some c → IsNameWithin names x
symbol_within tokens names c (Token a) e = tt
symbol_within tokens names c (Name n) e = ltb-true n names (cond_some (nat_lt n names) (tokens + n) c e).0

some_spot : Spot
some_spot = record { symbol = Token 0; column = 0; first = []; passes = false }

spot_within : (g : Grammar) (right : List Sym) (dot : ℕ) (spot : Spot) → IsSpotAt g right dot spot → IsNameWithin g.names spot.symbol
spot_within g right dot spot at = symbol_within g.tokens g.names spot.column spot.symbol at.column

row_within : (g : Grammar) (right : List Sym) (row : List Spot) → AreSpots g right row → All (λ (spot : Spot). IsNameWithin g.names spot.symbol) row
row_within g right row are = All-from_get_or (λ (spot : Spot). IsNameWithin g.names spot.symbol) row some_spot
    (λ i less. spot_within g right i (get_or row i some_spot) (are.each i (get_or row i some_spot) (slice_get-get_or row i some_spot less)))

pub rows_within : (g : Grammar) (rows fronts : List (List Spot)) → IsTable g rows fronts → All (λ row. All (λ (spot : Spot). IsNameWithin g.names spot.symbol) row) rows
rows_within g rows fronts table = All-from_get_or (λ row. All (λ (spot : Spot). IsNameWithin g.names spot.symbol) row) rows [] (λ r less.
    let rule = get_or (all_rules g) r (0, []) in
    let within : r < length (all_rules g) = omega (arith, table.spots.count) in
    row_within g rule.1 (get_or rows r []) (table.spots.each r rule.0 rule.1 (record { found = slice_get-get_or (all_rules g) r (0, []) within })))

pub fronts_within : (g : Grammar) (rows fronts : List (List Spot)) → IsTable g rows fronts → All (λ row. All (λ (spot : Spot). IsNameWithin g.names spot.symbol) row) fronts
fronts_within g rows fronts table = All-from_get_or (λ row. All (λ (spot : Spot). IsNameWithin g.names spot.symbol) row) fronts [] (λ n less.
    All-weaker (IsFront g n) (λ (spot : Spot). IsNameWithin g.names spot.symbol) (λ spot front_spot. spot_within g _ 0 spot front_spot.front) (get_or fronts n []) (table.each n (omega (arith, table.count))).sound)
