-- The fault of a start in two lists, and among the faults of a look.
use Rattle.std.proofs.Common.{◌≡◌, ℕ, suc, ◌+◌, ◌<◌, Bool, true, false, cond, eqb, List, [], ◌∷◌, ◌++◌, length, get_or, take, drop, Option, Some, None, refl, sym, ap, ◌∙◌, add-one, append-nil, drop-cons}
use Rattle.std.specs.Prelude.{is_some, slice_get}
use Rattle.std.specs.List.{cons_option, flat_map}
use Rattle.std.specs.Option.{option_map}
use Rattle.std.proofs.lemmas.Bool.{eqb-true}
use Rattle.std.proofs.lemmas.List.{take_more}
use Rattle.std.proofs.lemmas.List.Concat.{flat_map-append}
use Rattle.std.proofs.lemmas.List.Elements.{filter_map-append}
use Rattle.std.proofs.lemmas.Option.{get_or_from_slice_get, slice_get_within}
use Rattle.grammar_data.specs.declared.token.Token.{Token as TextToken}
use Rattle.map_theory.specs.Maps.{StateMap, target}
use Rattle.piece_theory.specs.Pieces.{Fault, fault_at}
use Rattle.piece_blocks.specs.declared.faults.Event.{Event}
use Rattle.piece_blocks.specs.Faults.{faults_in, lost}

-- the first, if there is one, else the other
abbrev pub or_else : Option Fault → Option Fault → Option Fault
or_else None other = other
or_else (Some fault) other = Some fault

pub fault_append : (xs ys : List Fault) (q : ℕ) → fault_at (xs ++ ys) q ≡ or_else (fault_at xs q) (fault_at ys q)
fault_append [] ys q = refl
fault_append (x ∷ xs) ys q = cases (eqb x.start q) (fault_append xs ys q)
  where
    cases : (b : Bool) → fault_at (xs ++ ys) q ≡ or_else (fault_at xs q) (fault_at ys q) → cond b (Some x) (fault_at (xs ++ ys) q) ≡ or_else (cond b (Some x) (fault_at xs q)) (fault_at ys q)
    cases true more = refl
    cases false more = more

module _ (after : StateMap) (token : TextToken) (index : ℕ) where
  abbrev of_pair : ℕ → ℕ → Fault
  of_pair start state = record { start = start; index = index; token = token; state = state }

  abbrev found : ℕ → Option ℕ → Option Fault
  found q state = cond (is_some (target after q)) None (option_map (of_pair q) state)

  found_more : (m : StateMap) (q start state : ℕ) (b c : Bool) → eqb start q ≡ b → is_some (target after start) ≡ c → fault_at (lost m after token index) q ≡ found q (target m q)
      → fault_at (cons_option (cond c None (Some (of_pair start state))) (lost m after token index)) q ≡ found q (cond b (Some state) (target m q))
  found_more m q start state true true same alive more =
      let here : is_some (target after q) ≡ true = ap (λ s. is_some (target after s)) (sym (eqb-true start q same)) ∙ alive in
      more ∙ ap (λ d. cond d None (option_map (of_pair q) (target m q))) here ∙ sym (ap (λ d. cond d None (Some (of_pair q state))) here)
  found_more m q start state true false same dead more =
      let here : is_some (target after q) ≡ false = ap (λ s. is_some (target after s)) (sym (eqb-true start q same)) ∙ dead in
      ap (λ d. cond d (Some (of_pair start state)) (fault_at (lost m after token index) q)) same ∙ ap (λ s. Some (of_pair s state)) (eqb-true start q same) ∙ sym (ap (λ d. cond d None (Some (of_pair q state))) here)
  found_more m q start state false true other alive more = more
  found_more m q start state false false other dead more = ap (λ d. cond d (Some (of_pair start state)) (fault_at (lost m after token index) q)) other ∙ more

  -- the fault of a start is found by its targets in the two maps
  pub found_lost : (before : StateMap) (q : ℕ) → fault_at (lost before after token index) q ≡ found q (target before q)
  found_lost [] q = nothing (is_some (target after q))
    where
      nothing : (b : Bool) → None ≡ cond b None (option_map (of_pair q) None)
      nothing true = refl
      nothing false = refl
  found_lost (pair ∷ m) q = found_more m q pair.0 pair.1 (eqb pair.0 q) (is_some (target after pair.0)) refl refl (found_lost m q)

  pub found_as : (before : StateMap) (q : ℕ) (b : Bool) (o : Option ℕ) → is_some (target after q) ≡ b → target before q ≡ o → cond b None (option_map (of_pair q) o) ≡ fault_at (lost before after token index) q
  found_as before q b o alive state = (λ i. cond (sym alive i) None (option_map (of_pair q) (sym state i))) ∙ sym (found_lost before q)

  -- one pair more
  pub lost_more : (m : StateMap) (i : ℕ) (pair : ℕ × ℕ) (b : Bool) → slice_get m i ≡ Some pair → is_some (target after pair.0) ≡ b → lost (take (i + 1) m) after token index ≡ lost (take i m) after token index ++ cond b [] (of_pair pair.0 pair.1 ∷ [])
  lost_more m i pair b at alive =
      let parts : take (i + 1) m ≡ take i m ++ pair ∷ [] = take_more m i pair (slice_get_within m i pair at) ∙ ap (λ x. take i m ++ x ∷ []) (get_or_from_slice_get m i pair pair at) in
      ap (λ l. lost l after token index) parts
      ∙ filter_map-append (λ (x : ℕ × ℕ). cond (is_some (target after x.0)) None (Some (of_pair x.0 x.1))) (take i m) (pair ∷ [])
      ∙ ap (λ c. lost (take i m) after token index ++ cons_option (cond c None (Some (of_pair pair.0 pair.1))) []) alive
      ∙ cases b
    where
      cases : (b : Bool) → lost (take i m) after token index ++ cons_option (cond b None (Some (of_pair pair.0 pair.1))) [] ≡ lost (take i m) after token index ++ cond b [] (of_pair pair.0 pair.1 ∷ [])
      cases true = refl
      cases false = refl

-- ---- the events one after another

event_first : (events : List Event) (i : ℕ) (event : Event) (q : ℕ) → i < length events → event ≡ get_or events i event → fault_at (flat_map faults_in (drop i events)) q ≡ or_else (fault_at (faults_in event) q) (fault_at (flat_map faults_in (drop (i + 1) events)) q)
event_first events i event q inside is =
    ap (λ l. fault_at (flat_map faults_in l) q) (drop-cons events i event inside)
    ∙ fault_append (faults_in (get_or events i event)) (flat_map faults_in (drop (suc i) events)) q
    ∙ (λ k. or_else (fault_at (faults_in (sym is k)) q) (fault_at (flat_map faults_in (drop (sym (add-one i) k) events)) q))

pub found_here : (events : List Event) (i : ℕ) (event : Event) (q : ℕ) (fault : Fault) → i < length events → event ≡ get_or events i event → Some fault ≡ fault_at (faults_in event) q → Some fault ≡ fault_at (flat_map faults_in (drop i events)) q
found_here events i event q fault inside is found = sym (event_first events i event q inside is ∙ ap (λ o. or_else o (fault_at (flat_map faults_in (drop (i + 1) events)) q)) (sym found))

pub found_later : (events : List Event) (i : ℕ) (event : Event) (q : ℕ) → i < length events → event ≡ get_or events i event → None ≡ fault_at (faults_in event) q → fault_at (flat_map faults_in (drop (i + 1) events)) q ≡ fault_at (flat_map faults_in (drop i events)) q
found_later events i event q inside is found = sym (event_first events i event q inside is ∙ ap (λ o. or_else o (fault_at (flat_map faults_in (drop (i + 1) events)) q)) (sym found))

pub events_more : (events : List Event) (i : ℕ) (event : Event) → i < length events → event ≡ get_or events i event → flat_map faults_in (take (i + 1) events) ≡ flat_map faults_in (take i events) ++ faults_in event
events_more events i event inside is =
    ap (flat_map faults_in) (take_more events i event inside)
    ∙ flat_map-append faults_in (take i events) (get_or events i event ∷ [])
    ∙ ap (λ e. flat_map faults_in (take i events) ++ (faults_in e ++ [])) (sym is)
    ∙ ap (λ l. flat_map faults_in (take i events) ++ l) (append-nil (faults_in event))
