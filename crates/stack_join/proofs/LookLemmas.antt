-- A look at the next piece's first token, at the seam.
use Rattle.std.proofs.Common.{◌≡◌, ℕ, zero, suc, ◌+◌, ◌-◌, ◌*◌, ◌<◌, ◌⊎◌, if◌then◌else◌, Bool, nat_lt, slice_index_or, All, List, [], ◌∷◌, ◌++◌, length, true, false, sym, ap, ◌∙◌, subst, arith}
use Rattle.std.proofs.lemmas.List.{length-append}
use Rattle.std.proofs.lemmas.List.Elements.{All-head, All-tail}
use Rattle.grammar_data.specs.declared.token.Token.{Token as TextToken}
use Rattle.tree_theory.specs.Stores.{Ref, Store}
use Rattle.tree_theory.specs.Walks.{Step}
use Rattle.table_data.specs.declared.act.Act.{Act}
use Rattle.table_data.specs.declared.act.Act.TheVariants.{Error}
use Rattle.table_data.specs.Tables.{Tables, act_in, IsActOf}
use Rattle.lr_machine.specs.IsTables.{IsTables}
use Rattle.lawful_theory.specs.Lawful.{IsLawful}
use Rattle.map_theory.specs.Maps.{StateMap}
use Rattle.map_theory.specs.Agreements.{NoneLeft, AllShift, AllReduce, AreSeveral}
use Rattle.map_theory.specs.Relations.{AreAlive}
use Rattle.piece_theory.specs.Pieces.{Piece}
use Rattle.piece_theory.specs.Laws.{HasMore}
use Rattle.context_laws.specs.Contexts.{LeadFromStates}
use Rattle.arrow_table.specs.Looks.{Grows, HasMap, NoneErrs, map_at}
use Rattle.seam_theory.specs.Moves.{other_nodes}
use Rattle.segment_parser.specs.declared.leaf.Leaf.{Leaf}
use Rattle.segment_parser.specs.Working.{last_id}
use Rattle.segment_parser.specs.Standing.{HasMaps}
use Rattle.segment_parser.specs.Opening.{IsOpenIn}
use Rattle.stack_join.specs.Joining.{IsAtSeam, IsDecided}
use Rattle.stack_join.proofs.StandingLemmas.{map_stays, entry_count}
use Rattle.stack_join.proofs.SeamLemmas.{seam_later, seam_open, open_seam}

-- the open piece has an entry
pub seam_entry : {t : Tables} {store : Store} {maps : List StateMap} {s : Leaf} {front rest : List Piece} {w : List TextToken} → IsAtSeam t store maps s front rest w → 0 < length s.ids.items
seam_entry {t} {store} {maps} {s} {front} {rest} {w} at =
    let is = seam_open t store maps s front rest w at in
    let many = ap length is.open_piece.growing.on_stack ∙ length-append is.under (is.last ∷ []) in
    let count = entry_count maps s at.kept_as.has in
    omega (arith, many, count)

-- the last map is there
pub top_there : {maps : List StateMap} {s : Leaf} → HasMaps maps s → 0 < length s.ids.items → last_id s.ids.items < length maps
top_there {s = s} has some = has.there (length s.ids.items - 1) 0 (omega (arith, some))

-- starts err
pub died_seam : (t t1 : Tables) → t1 ≡ t → IsLawful t → LeadFromStates t → (store : Store) (maps mid final : List StateMap) (s after : Leaf) (front : List Piece) (right : Piece) (rest : List Piece) (w : List TextToken) (token : TextToken) (alive : ℕ) → right.first ≡ token → Grows maps mid → HasMap mid alive (AreAlive t token.id (map_at maps (last_id s.ids.items))) → after.first ≡ s.first
    → ((store : Store) (nodes : List Ref) (steps : List Step) (u : List TextToken) → IsLawful t1 → LeadFromStates t1 → AreAlive t1 token.id (map_at mid (last_id s.ids.items)) (map_at mid alive) → IsOpenIn t1 store mid s nodes steps u (token ∷ []) → IsOpenIn t1 store final after nodes steps u (token ∷ []))
    → IsAtSeam t store maps s front (right ∷ rest) w → IsAtSeam t store final after front (right ∷ rest) w
died_seam t t1 same lawful lead store maps mid final s after front right rest w token alive first grows living kept opens at =
    let later = seam_later maps mid grows at in
    let nodes = other_nodes front (right ∷ rest) in
    let steps = later.seam.front_steps ++ later.seam.rest_steps in
    let u = later.seam.tokens in
    let is : IsOpenIn t store mid s nodes steps u (token ∷ []) = subst (λ (x : TextToken). IsOpenIn t store mid s nodes steps u (x ∷ [])) first (seam_open t store mid s front (right ∷ rest) w later) in
    let lives : AreAlive t token.id (map_at mid (last_id s.ids.items)) (map_at mid alive) = subst (λ m. AreAlive t token.id m (map_at mid alive)) (sym (map_stays maps mid grows (last_id s.ids.items) (top_there at.kept_as.has (seam_entry at)))) living.is in
    let opened = opens store nodes steps u (subst IsLawful (sym same) lawful) (subst (λ x. LeadFromStates x) (sym same) lead) (subst (λ x. AreAlive x token.id (map_at mid (last_id s.ids.items)) (map_at mid alive)) (sym same) lives) (subst (λ x. IsOpenIn x store mid s nodes steps u (token ∷ [])) (sym same) is) in
    let back : IsOpenIn t store final after nodes steps u (right.first ∷ []) = subst (λ (x : TextToken). IsOpenIn t store final after nodes steps u (x ∷ [])) (sym first) (subst (λ x. IsOpenIn x store final after nodes steps u (token ∷ [])) same opened) in
    open_seam t store store mid final s after front (right ∷ rest) w later (λ m r kids here. here) kept back

-- tokens have one first token
one_first : {a b : TextToken} {u us vs : List TextToken} → u ≡ a ∷ us → u ≡ b ∷ vs → b ≡ a
one_first e f = cc

-- a reduction
pub reduced_seam : (t t1 : Tables) → t1 ≡ t → (store new : Store) (maps mid final : List StateMap) (s after : Leaf) (front : List Piece) (right : Piece) (rest : List Piece) (w : List TextToken) (token : TextToken) (rule : ℕ) → right.first ≡ token → Grows maps mid → NoneErrs t token.id (map_at maps (last_id s.ids.items)) → AllReduce t token.id rule (map_at maps (last_id s.ids.items)) → HasMore store new → ((nodes : List Ref) (steps : List Step) (u : List TextToken) (token : TextToken) → IsOpenIn t1 store mid s nodes steps u (token ∷ []) → NoneErrs t1 token.id (map_at mid (last_id s.ids.items)) → AllReduce t1 token.id rule (map_at mid (last_id s.ids.items)) → IsOpenIn t1 new final after nodes steps u (token ∷ []))
    → IsAtSeam t store maps s front (right ∷ rest) w → IsAtSeam t new final after front (right ∷ rest) w
reduced_seam t t1 same store new maps mid final s after front right rest w token rule first grows none all more opens at =
    let later = seam_later maps mid grows at in
    let nodes = other_nodes front (right ∷ rest) in
    let steps = later.seam.front_steps ++ later.seam.rest_steps in
    let u = later.seam.tokens in
    let is : IsOpenIn t store mid s nodes steps u (token ∷ []) = subst (λ (x : TextToken). IsOpenIn t store mid s nodes steps u (x ∷ [])) first (seam_open t store mid s front (right ∷ rest) w later) in
    let top = sym (map_stays maps mid grows (last_id s.ids.items) (top_there at.kept_as.has (seam_entry at))) in
    let opened = opens nodes steps u token (subst (λ x. IsOpenIn x store mid s nodes steps u (token ∷ [])) (sym same) is) (subst (λ x. NoneErrs x token.id (map_at mid (last_id s.ids.items))) (sym same) (subst (λ m. NoneErrs t token.id m) top none)) (subst (λ x. AllReduce x token.id rule (map_at mid (last_id s.ids.items))) (sym same) (subst (λ m. AllReduce t token.id rule m) top all)) in
    let back : IsOpenIn t new final after nodes steps u (right.first ∷ []) = subst (λ (x : TextToken). IsOpenIn t new final after nodes steps u (x ∷ [])) (sym first) (subst (λ x. IsOpenIn x new final after nodes steps u (token ∷ [])) same opened) in
    open_seam t store new mid final s after front (right ∷ rest) w later more (one_first is.walked.has.begins opened.walked.has.begins) back

-- ---- a rule that is reduced by is there

act_at : (states rules : ℕ) (acts : List Act) (i : ℕ) → All (IsActOf states rules) acts → IsActOf states rules (slice_index_or acts i Error)
act_at states rules [] i all = tt
act_at states rules (act ∷ acts) zero all = All-head (IsActOf states rules) act acts all
act_at states rules (act ∷ acts) (suc i) all = act_at states rules acts i (All-tail (IsActOf states rules) act acts all)

act_within : (t : Tables) → IsTables t → (q a : ℕ) → IsActOf t.states (length t.rules) (act_in t q a)
act_within t is q a = cases (nat_lt t.tokens a)
  where
    cases : (b : Bool) → IsActOf t.states (length t.rules) (if b then Error else slice_index_or t.acts (q * (t.tokens + 1) + a) Error)
    cases true = tt
    cases false = act_at t.states (length t.rules) t.acts (q * (t.tokens + 1) + a) is.acts

pub rule_there : (t : Tables) → IsTables t → (a r : ℕ) (m : StateMap) → AllReduce t a r m → r < length t.rules
rule_there t is a r m all =
    let one = all.some in
    subst (λ act. IsActOf t.states (length t.rules) act) one.3 (act_within t is one.1 a)

-- ---- what a look decides

-- all shift the token, or they don't agree on it
pub shift_decided : (t : Tables) (maps mid : List StateMap) (s : Leaf) (token : TextToken) → Grows maps mid → last_id s.ids.items < length maps → NoneErrs t token.id (map_at maps (last_id s.ids.items)) → AllShift t token.id (map_at maps (last_id s.ids.items)) → IsDecided t mid s token true
shift_decided t maps mid s token grows inside none all =
    let top = sym (map_stays maps mid grows (last_id s.ids.items) inside) in
    (subst (λ m. NoneErrs t token.id m) top none, subst (λ m. AllShift t token.id m) top all)

pub stuck_decided : (t : Tables) (maps mid : List StateMap) (s : Leaf) (token : TextToken) → Grows maps mid → last_id s.ids.items < length maps → NoneLeft t token.id (map_at maps (last_id s.ids.items)) ⊎ AreSeveral t token.id (map_at maps (last_id s.ids.items)) → IsDecided t mid s token false
stuck_decided t maps mid s token grows inside stuck = subst (λ m. NoneLeft t token.id m ⊎ AreSeveral t token.id m) (sym (map_stays maps mid grows (last_id s.ids.items) inside)) stuck
