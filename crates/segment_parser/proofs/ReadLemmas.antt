-- A token is read; and all tokens of a segment, one after another.
use Rattle.std.proofs.Common.{◌≡◌, ℕ, ◌+◌, ◌<◌, ◌≤◌, inl, List, [], ◌∷◌, ◌++◌, length, drop, get_or, None, refl, sym, ap, ◌∙◌, subst, arith}
use Rattle.std.proofs.lemmas.List.{drop_all, drop_more}
use Rattle.grammar_data.specs.declared.token.Token.{Token as TextToken}
use Rattle.node_data.specs.declared.kid.Kid.TheVariants.{Token as TokenKid}
use Rattle.tree_theory.specs.Stores.{Store}
use Rattle.table_data.specs.Tables.{Tables}
use Rattle.lr_machine.specs.IsTables.{IsTables}
use Rattle.lawful_theory.specs.Lawful.{IsLawful}
use Rattle.map_theory.specs.Maps.{StateMap}
use Rattle.map_theory.specs.Relations.{AreShiftStarts, IsIdentityOf}
use Rattle.part_theory.specs.Parts.{HasParts}
use Rattle.piece_theory.specs.Pieces.{Piece}
use Rattle.context_laws.specs.Contexts.{LeadFromStates}
use Rattle.context_laws.proofs.AlongLemmas.{size_law}
use Rattle.segment_laws.specs.Laws.{HasNoNodes}
use Rattle.segment_laws.proofs.EndLemmas.{no_tokens_law, number_law}
use Rattle.node_store.specs.Chunks.{Chunk, store_of}
use Rattle.bare_theory.specs.Bare.{Bare, bares, AreBarePiecesOf}
use Rattle.arrow_table.specs.Looks.{HasMap, map_at}
use Rattle.segment_parser.specs.declared.leaf.Leaf.{Leaf}
use Rattle.segment_parser.specs.Standing.{IsAt}
use Rattle.segment_parser.specs.Settling.{IsBetween, IsLooking, IsStuckOn}
use Rattle.segment_parser.proofs.AtLemmas.{next_at}
use Rattle.segment_parser.proofs.CloseLemmas.{HasOpened, IsParsedTo, begin_at, close_at, closing, end_at}

pub lead_from : (t : Tables) → IsTables t → LeadFromStates t
lead_from t is = size_law t is.acts_size is.gotos_size

-- the next token is looked at
pub looks_next : {t : Tables} {store : Store} {maps : List StateMap} {s : Leaf} (tokens : List TextToken) (index : ℕ) (token : TextToken) → token ≡ get_or tokens index token → index < length tokens → IsBetween t store maps s tokens index → IsLooking t store maps s tokens index token
looks_next {t} {store} {maps} {s} tokens index token is inside between =
    let here : drop index tokens ≡ token ∷ drop (index + 1) tokens = drop_more tokens index token inside ∙ ap (λ x. x ∷ drop (index + 1) tokens) (sym is) in
    record {
      w = between.w;
      here = here;
      at = subst (λ rest. IsAt t store maps s tokens between.w rest (token ∷ [])) here (next_at token between.at);
      start = inl between.start;
    }

-- what an opening ensures
abbrev pub Opens1 : Tables → List StateMap → TextToken → Leaf → Type 0
Opens1 t new token after = (to : ℕ) × (after.ids.items ≡ to ∷ []) × HasMap new to (AreShiftStarts t token.id) × HasMap new after.starts (IsIdentityOf (map_at new to))

pub has_opened_as : (t t1 : Tables) → t1 ≡ t → (new : List StateMap) (token : TextToken) (after : Leaf) → after.block.floors ≡ [] → after.block.kids ≡ TokenKid token ∷ [] → Opens1 t1 new token after → HasMap new after.own (IsIdentityOf (map_at new after.starts)) → after.faults ≡ [] → after.opened ≡ None → after.first ≡ token → after.count ≡ 1 → after.stale ≡ 0 → HasOpened t new token after
has_opened_as t t1 same new token after floors kids ids own faults opened first count stale = record {
  floors = floors;
  kids = kids;
  to = ids.0;
  ids = ids.1;
  shifts = subst (λ x. HasMap new ids.0 (AreShiftStarts x token.id)) same ids.2;
  starts = ids.3;
  own = own;
  faults = faults;
  opened = opened;
  first = first;
  count = count;
  stale = stale;
}

-- the piece is closed where it's stuck, and the token opens another
pub closes_between : (t : Tables) → IsLawful t → LeadFromStates t → (store : Store) (maps new : List StateMap) (s after : Leaf) (tokens : List TextToken) (index : ℕ) (token : TextToken) → after.block.closed ≡ s.block.closed ++ closing maps s ∷ [] → HasOpened t new token after → IsLooking t store maps s tokens index token × IsStuckOn t maps s token → IsBetween t store new after tokens (index + 1)
closes_between t lawful lead store maps new s after tokens index token pushed re stuck =
    let looking = stuck.0 in
    let next = close_at t lawful lead store maps new s after tokens looking.w (drop (index + 1) tokens) token looking.at pushed re stuck.1 looking.start in
    record { w = token ∷ []; at = next.0; start = next.1 }

-- the first token is read
pub begins_between : (t : Tables) (store : Store) (new : List StateMap) (after : Leaf) (tokens : List TextToken) (token : TextToken) → token ≡ get_or tokens 0 token → 0 < length tokens → HasNoNodes store → after.block.closed ≡ [] → HasOpened t new token after → IsBetween t store new after tokens 1
begins_between t store new after tokens token is some none empty re =
    let whole : tokens ≡ token ∷ drop 1 tokens = drop_more tokens 0 token some ∙ ap (λ x. x ∷ drop 1 tokens) (sym is) in
    let first = begin_at t store new after token (drop 1 tokens) none empty re in
    record {
      w = token ∷ [];
      at = subst (λ l. IsAt t store new after l (token ∷ []) (drop 1 tokens) []) (sym whole) first.0;
      start = first.1;
    }

-- all tokens are read
pub ends_between : (t : Tables) → IsLawful t → LeadFromStates t → (store : Store) (maps : List StateMap) (s after : Leaf) (tokens : List TextToken) → IsBetween t store maps s tokens (length tokens) → after.block.closed ≡ s.block.closed ++ closing maps s ∷ [] → IsParsedTo t store after.block.closed tokens
ends_between t lawful lead store maps s after tokens between pushed =
    let all : length tokens ≤ length tokens = omega arith in
    let at : IsAt t store maps s tokens between.w [] [] = subst (λ rest. IsAt t store maps s tokens between.w rest []) (drop_all (length tokens) tokens all) between.at in
    end_at t lawful lead store maps s after tokens between.w at between.start pushed

length_bares : (ps : List Piece) → length (bares ps) ≡ length ps
length_bares [] = refl
length_bares (p ∷ ps) = let e = length_bares ps in omega (arith, e)

pub parsed_bare : {t : Tables} {store : Store} {closed : List Bare} {tokens : List TextToken} → IsParsedTo t store closed tokens → AreBarePiecesOf t store closed tokens
parsed_bare parsed = record { pieces = parsed.pieces; same = parsed.same; are = parsed.are }

pub parsed_parts : {t : Tables} {store : Store} {closed : List Bare} {tokens : List TextToken} → IsParsedTo t store closed tokens → HasParts t tokens (length closed)
parsed_parts {t} {store} {closed} {tokens} parsed =
    let parts = number_law t store parsed.pieces tokens parsed.parts in
    let count : length parsed.pieces ≡ length closed = sym (ap length parsed.same ∙ length_bares parsed.pieces) in
    subst (λ (n : ℕ). HasParts t tokens n) count parts

-- no token is there
pub none_parsed : {t : Tables} {store : Store} {closed : List Bare} (tokens : List TextToken) → HasNoNodes store → closed ≡ [] → length tokens ≡ 0 → IsParsedTo t store closed tokens
none_parsed {t} {store} [] none empty e =
    let are = no_tokens_law t store none in
    record { pieces = []; same = empty; are = are.0; parts = are.1 }
none_parsed (x ∷ tokens) none empty e = absurd (omega (arith, e))

-- a store of an empty chunk has no nodes
pub nothing_stored : (chunks : List Chunk) → chunks ≡ [] → (new : List Chunk) → ((m : ℕ × ℕ) → store_of new m ≡ store_of chunks m) → HasNoNodes (store_of new)
nothing_stored chunks empty new trees m = trees m ∙ ap (λ s. store_of s m) empty
