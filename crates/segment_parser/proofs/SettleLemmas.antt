-- One look at the next token, whatever it says.
use Rattle.std.proofs.Common.{◌≡◌, ℕ, zero, suc, ◌+◌, ◌*◌, ◌-◌, ◌<◌, ◌≤◌, ◌^◌, ◌⊎◌, inl, inr, nat_lt, true, false, Bool, if◌then◌else◌, List, [], ◌∷◌, ◌++◌, length, drop, slice_index_or, slice_set, All, sym, ap, ◌∙◌, subst, arith}
use Rattle.std.proofs.lemmas.List.{length-append}
use Rattle.std.proofs.lemmas.List.Elements.{All-head, All-tail}
use Rattle.grammar_data.specs.declared.rule.Sym.TheVariants.{Token}
use Rattle.grammar_data.specs.declared.token.Token.{Token as TextToken}
use Rattle.tree_theory.specs.Stores.{Store}
use Rattle.table_data.specs.declared.act.Act.{Act}
use Rattle.table_data.specs.declared.act.Act.TheVariants.{Error}
use Rattle.table_data.specs.Tables.{Tables, act_in, IsActOf}
use Rattle.lr_machine.specs.IsTables.{IsTables}
use Rattle.lawful_theory.specs.Lawful.{IsLawful}
use Rattle.map_theory.specs.Maps.{StateMap}
use Rattle.map_theory.specs.Agreements.{AllShift, AllReduce, NoneLeft, AreSeveral}
use Rattle.map_theory.specs.Relations.{AreAlive, IsIdentityOf, IsRestricted, IsThenSymbol}
use Rattle.part_theory.specs.Parts.{FirstPart}
use Rattle.context_laws.specs.Contexts.{LeadFromStates}
use Rattle.leaf_laws.specs.Leaves.{HasStart, NoneErrs}
use Rattle.look_laws.specs.Deaths.{deaths}
use Rattle.lr_base.specs.declared.limits.TheConstants.{TEXT_BYTES}
use Rattle.node_data.specs.declared.kid.Kid.TheVariants.{Token as TokenKid}
use Rattle.arrow_table.specs.Looks.{Grows, HasMap, map_at}
use Rattle.segment_parser.specs.declared.leaf.Leaf.{Leaf}
use Rattle.segment_parser.specs.Working.{last_id}
use Rattle.segment_parser.specs.Standing.{last_in, piece_in, IsAt, SameButEntries}
use Rattle.segment_parser.specs.Settling.{IsBetween, IsLooking, IsStuckOn}
use Rattle.segment_parser.proofs.HeldLemmas.{stays_at}
use Rattle.segment_parser.proofs.AtLemmas.{at_grows, last_at, last_grows, piece_grows, start_as, shift_at}
use Rattle.segment_parser.proofs.LookLemmas.{HasDied, die_at}
use Rattle.segment_parser.proofs.ReduceLemmas.{last_inside}

-- ---- what stands while a token is looked at

pub some_entry : {t : Tables} {store : Store} {maps : List StateMap} {s : Leaf} {tokens w rest next : List TextToken} → IsAt t store maps s tokens w rest next → 0 < length s.ids.items
some_entry at =
    let last = last_at at in
    let count = ap length last.ids_are ∙ length-append last.low (last.id ∷ []) in
    omega (arith, count)

pub few_tokens : {t : Tables} {store : Store} {maps : List StateMap} {s : Leaf} {tokens w : List TextToken} (rest : List TextToken) {next : List TextToken} → IsAt t store maps s tokens w rest next → s.count ≤ length tokens
few_tokens {w = w} rest at =
    let whole = ap length at.parsing.parts ∙ length-append at.parsing.before (w ++ rest) in
    let parts = length-append w rest in
    let count = at.parsing.walked.has.counted in
    omega (arith, whole, parts, count)

pub top_stays : {t : Tables} {store : Store} {maps : List StateMap} (mid : List StateMap) {s : Leaf} {tokens w rest next : List TextToken} → Grows maps mid → IsAt t store maps s tokens w rest next → map_at mid (last_id s.ids.items) ≡ map_at maps (last_id s.ids.items)
top_stays {maps = maps} mid {s} grows at = stays_at maps mid grows (last_id s.ids.items) (last_inside maps s.ids.items at.has.there (some_entry at))

pub looking_grows : {t : Tables} {store : Store} {maps : List StateMap} (mid : List StateMap) {s : Leaf} {tokens : List TextToken} {index : ℕ} {token : TextToken} → Grows maps mid → IsLooking t store maps s tokens index token → IsLooking t store mid s tokens index token
looking_grows {t} {store} {maps} mid {s} {tokens} {index} {token} grows looking = record {
  w = looking.w;
  here = looking.here;
  at = at_grows maps mid grows looking.at;
  start = starts looking.start;
}
  where
    starts : HasStart t (piece_in maps s) looking.w (last_in maps s) ⊎ FirstPart t s.first.id (looking.w ++ token ∷ drop (index + 1) tokens) (length looking.w) → HasStart t (piece_in mid s) looking.w (last_in mid s) ⊎ FirstPart t s.first.id (looking.w ++ token ∷ drop (index + 1) tokens) (length looking.w)
    starts (inl start) = inl (start_as (sym (piece_grows maps mid s grows looking.at.has)) (sym (last_grows maps mid s grows looking.at.has.starts)) start)
    starts (inr part) = inr part

-- ---- the steps

pub died_looking : (t : Tables) → IsLawful t → LeadFromStates t → (store : Store) (maps new : List StateMap) (s after : Leaf) (tokens : List TextToken) (index : ℕ) (token : TextToken) (alive : ℕ) → IsLooking t store maps s tokens index token → HasMap maps alive (AreAlive t token.id (map_at maps (last_id s.ids.items))) → HasDied t maps new token alive s after → IsLooking t store new after tokens index token
died_looking t lawful lead store maps new s after tokens index token alive looking is_alive died =
    let next = die_at t lawful lead store maps new s after tokens looking.w (drop (index + 1) tokens) token alive looking.at is_alive died looking.start in
    record { w = looking.w; here = looking.here; at = next.0; start = next.1 }

pub shifted_between : (t : Tables) (store : Store) (maps : List StateMap) (s after : Leaf) (tokens : List TextToken) (index : ℕ) (token : TextToken) (to : ℕ) → IsLooking t store maps s tokens index token → NoneErrs t token.id (map_at maps (last_id s.ids.items)) → AllShift t token.id (map_at maps (last_id s.ids.items)) → HasMap maps to (IsThenSymbol t (Token token.id) (map_at maps (last_id s.ids.items)))
    → SameButEntries s after → after.stale ≡ s.stale → after.count ≡ s.count + 1 → after.block.kids ≡ s.block.kids ++ TokenKid token ∷ [] → after.ids.items ≡ s.ids.items ++ to ∷ [] → IsBetween t store maps after tokens (index + 1)
shifted_between t store maps s after tokens index token to looking none all has same stale count kids ids =
    let next = shift_at t store maps s after tokens looking.w (drop (index + 1) tokens) token to looking.at none all has same stale count kids ids in
    record { w = looking.w ++ token ∷ []; at = next.0; start = next.1 }

-- ---- a rule that is reduced by is there

act_at : (states rules : ℕ) (acts : List Act) (i : ℕ) → All (IsActOf states rules) acts → IsActOf states rules (slice_index_or acts i Error)
act_at states rules [] i all = tt
act_at states rules (act ∷ acts) zero all = All-head (IsActOf states rules) act acts all
act_at states rules (act ∷ acts) (suc i) all = act_at states rules acts i (All-tail (IsActOf states rules) act acts all)

act_within : (t : Tables) → IsTables t → (q a : ℕ) → IsActOf t.states (length t.rules) (act_in t q a)
act_within t is q a = cases (nat_lt t.tokens a)
  where
    cases : (b : Bool) → IsActOf t.states (length t.rules) (if b then Error else slice_index_or t.acts (q * (t.tokens + 1) + a) Error)
    cases true = tt
    cases false = act_at t.states (length t.rules) t.acts (q * (t.tokens + 1) + a) is.acts

pub rule_inside : (t : Tables) → IsTables t → (a r : ℕ) (m : StateMap) → AllReduce t a r m → r < length t.rules
rule_inside t is a r m all =
    let one = all.some in
    subst (λ act. IsActOf t.states (length t.rules) act) one.3 (act_within t is one.1 a)

-- ---- the calls of a step, one after another

pub look_inside : {t : Tables} {store : Store} {maps : List StateMap} {s : Leaf} {tokens w rest next : List TextToken} → IsAt t store maps s tokens w rest next → last_id s.ids.items < length maps
look_inside {maps = maps} {s = s} at = last_inside maps s.ids.items at.has.there (some_entry at)

pub few_shifted : {t : Tables} {store : Store} {maps : List StateMap} {s : Leaf} {tokens : List TextToken} {index : ℕ} {token : TextToken} → IsLooking t store maps s tokens index token → length tokens ≤ TEXT_BYTES → s.count < 2 ^ 32 - 1
few_shifted {tokens = tokens} {index = index} {token = token} looking few =
    let count = few_tokens (token ∷ drop (index + 1) tokens) looking.at in
    omega (arith, count, few)

pub died_step : (t t1 : Tables) → t1 ≡ t → IsLawful t → LeadFromStates t → (store : Store) (maps mid new : List StateMap) (s after : Leaf) (tokens : List TextToken) (index : ℕ) (token : TextToken) (alive : ℕ) → Grows maps mid → HasMap mid alive (AreAlive t token.id (map_at maps (last_id s.ids.items))) → Grows mid new
    → (AreAlive t1 token.id (map_at mid (last_id s.ids.items)) (map_at mid alive) → after.faults ≡ s.faults ++ deaths t1 token s.count (map_at mid (last_id s.ids.items))) → HasMap new after.starts (IsRestricted (map_at mid s.starts) (map_at mid alive)) → HasMap new after.own (IsIdentityOf (map_at new after.starts)) → after.ids.items ≡ slice_set s.ids.items (length s.ids.items - 1) alive → after.stale ≡ length s.ids.items - 1 → after.block ≡ s.block → after.opened ≡ s.opened → after.first ≡ s.first → after.count ≡ s.count
    → IsLooking t store maps s tokens index token → IsLooking t store new after tokens index token
died_step t t1 same lawful lead store maps mid new s after tokens index token alive grows is_alive grows2 faults starts own ids stale block opened first count looking =
    let here = looking_grows mid grows looking in
    let top = top_stays mid grows looking.at in
    let living : HasMap mid alive (AreAlive t token.id (map_at mid (last_id s.ids.items))) = subst (λ m. HasMap mid alive (AreAlive t token.id m)) (sym top) is_alive in
    died_looking t lawful lead store mid new s after tokens index token alive here living (record {
      grows = grows2;
      faults = faults (subst (λ (x : Tables). AreAlive x token.id (map_at mid (last_id s.ids.items)) (map_at mid alive)) (sym same) living.is) ∙ ap (λ (x : Tables). s.faults ++ deaths x token s.count (map_at mid (last_id s.ids.items))) same;
      starts = starts;
      own = own;
      ids = ids;
      stale = stale;
      block = block;
      opened = opened;
      first = first;
      count = count;
    })

pub reduced_step : (t t1 : Tables) → t1 ≡ t → (store store1 : Store) (maps mid new : List StateMap) (s after : Leaf) (tokens : List TextToken) (index : ℕ) (token : TextToken) (r : ℕ) → Grows maps mid → NoneErrs t token.id (map_at maps (last_id s.ids.items)) → AllReduce t token.id r (map_at maps (last_id s.ids.items))
    → ((tokens w rest : List TextToken) (token : TextToken) → IsAt t1 store mid s tokens w rest (token ∷ []) → NoneErrs t1 token.id (map_at mid (last_id s.ids.items)) → AllReduce t1 token.id r (map_at mid (last_id s.ids.items)) → IsAt t1 store1 new after tokens w rest (token ∷ []) × HasStart t1 (piece_in new after) w (last_in new after))
    → IsLooking t store maps s tokens index token → IsLooking t store1 new after tokens index token
reduced_step t t1 same store store1 maps mid new s after tokens index token r grows none all does looking =
    let here : IsLooking t1 store mid s tokens index token = subst (λ x. IsLooking x store mid s tokens index token) (sym same) (looking_grows mid grows looking) in
    let top = sym (top_stays mid grows looking.at) in
    let none1 : NoneErrs t1 token.id (map_at mid (last_id s.ids.items)) = subst (λ x. NoneErrs x token.id (map_at mid (last_id s.ids.items))) (sym same) (subst (λ m. NoneErrs t token.id m) top none) in
    let all1 : AllReduce t1 token.id r (map_at mid (last_id s.ids.items)) = subst (λ x. AllReduce x token.id r (map_at mid (last_id s.ids.items))) (sym same) (subst (λ m. AllReduce t token.id r m) top all) in
    let next = does tokens here.w (token ∷ drop (index + 1) tokens) token here.at none1 all1 in
    let done : IsLooking t1 store1 new after tokens index token = record { w = here.w; here = here.here; at = next.0; start = inl next.1 } in
    subst (λ x. IsLooking x store1 new after tokens index token) same done

pub shifted_step : (t : Tables) (store : Store) (maps mid : List StateMap) (s after : Leaf) (tokens : List TextToken) (index : ℕ) (token : TextToken) (to : ℕ) → Grows maps mid → NoneErrs t token.id (map_at maps (last_id s.ids.items)) → AllShift t token.id (map_at maps (last_id s.ids.items)) → HasMap mid to (IsThenSymbol t (Token token.id) (map_at maps (last_id s.ids.items)))
    → SameButEntries s after → after.stale ≡ s.stale → after.count ≡ s.count + 1 → after.block.kids ≡ s.block.kids ++ TokenKid token ∷ [] → after.ids.items ≡ s.ids.items ++ to ∷ []
    → IsLooking t store maps s tokens index token → IsBetween t store mid after tokens (index + 1)
shifted_step t store maps mid s after tokens index token to grows none all has same stale count kids ids looking =
    let top = sym (top_stays mid grows looking.at) in
    shifted_between t store mid s after tokens index token to (looking_grows mid grows looking)
    (subst (λ m. NoneErrs t token.id m) top none)
    (subst (λ m. AllShift t token.id m) top all)
    (subst (λ m. HasMap mid to (IsThenSymbol t (Token token.id) m)) top has)
    same stale count kids ids

pub stuck_step : (t : Tables) (store : Store) (maps mid : List StateMap) (s : Leaf) (tokens : List TextToken) (index : ℕ) (token : TextToken) → Grows maps mid → NoneLeft t token.id (map_at maps (last_id s.ids.items)) ⊎ AreSeveral t token.id (map_at maps (last_id s.ids.items))
    → IsLooking t store maps s tokens index token → IsLooking t store mid s tokens index token × IsStuckOn t mid s token
stuck_step t store maps mid s tokens index token grows stuck looking =
    let top = sym (top_stays mid grows looking.at) in
    (looking_grows mid grows looking, subst (λ m. NoneLeft t token.id m ⊎ AreSeveral t token.id m) top stuck)
