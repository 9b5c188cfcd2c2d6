-- A floor of the next piece lands on the code's open piece.
use Rattle.std.proofs.Common.{◌≡◌, ◌≢◌, ℕ, ◌+◌, ◌-◌, ◌<◌, inl, append_assoc, is_some, List, [], ◌∷◌, ◌++◌, length, take, drop, replicate, All, Contains, Option, Some, None, IsSome, slice_get, refl, sym, ap, ◌∙◌, subst, append-nil, arith}
use Rattle.std.proofs.lemmas.List.{length-append, length-drop, length-replicate, get_or_default}
use Rattle.std.proofs.lemmas.List.Elements.{All-head}
use Rattle.std.proofs.lemmas.Option.{slice_get_within, some_pair_parts}
use Rattle.std.proofs.Math.Seq.{drop-append_seam}
use Rattle.grammar_data.specs.declared.rule.Sym.{Sym}
use Rattle.grammar_data.specs.declared.token.Token.{Token as TextToken}
use Rattle.grammar_data.specs.Grammar.{Rule, Grammar}
use Rattle.grammar_theory.specs.Rules.{IsRule}
use Rattle.node_data.specs.declared.kid.Kid.{Kid}
use Rattle.node_data.specs.declared.kid.Kid.TheVariants.{Hidden}
use Rattle.tree_theory.specs.Stores.{Store}
use Rattle.table_data.specs.Tables.{Tables}
use Rattle.lawful_theory.specs.Lawful.{IsLawfulFor}
use Rattle.map_theory.specs.Maps.{StateMap, target}
use Rattle.map_theory.specs.Relations.{IsBack}
use Rattle.use_theory.specs.Fills.{SuppliesPart}
use Rattle.piece_theory.specs.Pieces.{Opened, Floor, Held, opening_before, openings, hidden_of, kids_of}
use Rattle.piece_theory.specs.Applies.{right_side, right_of}
use Rattle.piece_theory.specs.WellMade.{HasHidden, start_of, leading, IsLevel, AreStacked, on_ground, on_floor}
use Rattle.context_laws.specs.Contexts.{LeadFromStates}
use Rattle.level_laws.specs.Levels.{IsMoved}
use Rattle.level_laws.specs.Growing.{FollowOn, AreTight, tight_none}
use Rattle.level_laws.proofs.LevelLemmas.{level_new, leading_law}
use Rattle.join_theory.specs.Faults.{state_over, carried}
use Rattle.join_theory.specs.Floors.{AreKeptFor, TakesKids, none_hidden, kids_taken, TakesWhole, TakesPart}
use Rattle.join_theory.proofs.AliveLemmas.{was_alive}
use Rattle.join_theory.proofs.PutLemmas.{alive_start}
use Rattle.joined_laws.specs.Joint.{IsJoining}
use Rattle.joined_laws.proofs.JointLemmas.{join_whole_law, join_part_law}
use Rattle.landing_laws.specs.Carrying.{IsOverAlive, HasEachOnce}
use Rattle.landing_laws.specs.Behind.{AreRising}
use Rattle.landing_laws.proofs.WideLemmas.{join_wide_law}
use Rattle.arrow_table.specs.Looks.{Grows, map_at}
use Rattle.segment_parser.specs.declared.leaf.Leaf.{Leaf}
use Rattle.segment_parser.specs.Working.{held_of}
use Rattle.segment_parser.specs.Standing.{last_in, piece_in, HasMaps, SameButEntries}
use Rattle.stack_join.specs.Joining.{over_id, IsTightIn, Met, IsLanding}
use Rattle.stack_join.specs.Landing.{IsCarriedBack, IsCarriedOver, IsRaised, CanSupplyAll, IsSupplied, none_supplied, whole_supplied, part_supplied}
use Rattle.stack_join.proofs.StandingLemmas.{map_stays}
use Rattle.stack_join.proofs.EnteredLemmas.{entries_kids}
use Rattle.stack_join.proofs.HeldLemmas.{follow_rising, over_alive_of, kept_self, kept_over, kept_then, kept_rising, over_front, entries_cut, entries_length}

-- the maps are there after it
pub supplied_has : {t : Tables} {store now : Store} {maps mid : List StateMap} {s one : Leaf} {o : Option Opened} → HasMaps maps s → IsSupplied t store now maps mid s one o → HasMaps mid one
supplied_has {maps = maps} {one = one} has (none_supplied stored mapped stayed) = subst (λ (l : List StateMap). HasMaps l one) (sym mapped) (subst (λ (x : Leaf). HasMaps maps x) (sym stayed) has)
supplied_has has (whole_supplied enough cut part) = cut.has
supplied_has has (part_supplied still fewer some raised part) = raised.has

-- the pieces that are closed stay
pub supplied_closed : {t : Tables} {store now : Store} {maps mid : List StateMap} {s one : Leaf} {o : Option Opened} → IsSupplied t store now maps mid s one o → one.block.closed ≡ s.block.closed
supplied_closed (none_supplied stored mapped stayed) = ap (λ (x : Leaf). x.block.closed) stayed
supplied_closed (whole_supplied enough cut part) = cut.same.closed
supplied_closed (part_supplied still fewer some raised part) = raised.closed

-- ---- floors

pub each_once_of : {t : Tables} {first : TextToken} {lower : List Floor} {f : Floor} → AreStacked t first lower f → HasEachOnce f
each_once_of (on_ground unopened level) = record { apart = level.apart; rising = level.rising; once = level.once }
each_once_of (on_floor opened stacked parts is some less level) = record { apart = level.apart; rising = level.rising; once = level.once }

level_once : {lead : ℕ → Option ℕ} {f : Floor} → IsLevel lead f → HasEachOnce f
level_once level = record { apart = level.apart; rising = level.rising; once = level.once }

-- ---- kids

-- no further kid of the node is hidden
no_more_hidden : (store now : Store) (opened : Opened) (still : ℕ) (kids : List Kid) → HasHidden store opened → (part : SuppliesPart store now opened.node still kids) → still + length kids ≡ opened.hidden → Contains {X = Kid} part.further Hidden → ⊥
no_more_hidden store now opened still kids hides part many has =
    not_hidden hides.kids hides.shown (subst (λ l. Contains {X = Kid} l Hidden) same has)
  where
    front : List Kid
    front = replicate still Hidden ++ replicate (length kids) Hidden

    count : length (replicate still Hidden ++ replicate (length kids) Hidden) ≡ opened.hidden
    count =
        let all = length-append (replicate still Hidden) (replicate (length kids) Hidden) in
        let one = length-replicate still Hidden in
        let two = length-replicate (length kids) Hidden in
        omega (arith, all, one, two, many)

    lists : replicate opened.hidden Hidden ++ hides.kids ≡ (replicate still Hidden ++ replicate (length kids) Hidden) ++ part.further
    lists = (some_pair_parts opened.rule part.rule (replicate opened.hidden Hidden ++ hides.kids) (replicate still Hidden ++ (replicate (length kids) Hidden ++ part.further)) (sym hides.found ∙ part.before)).1 ∙ sym (append_assoc (replicate still Hidden) (replicate (length kids) Hidden) part.further)

    same : part.further ≡ hides.kids
    same =
        sym (drop-append_seam (replicate still Hidden ++ replicate (length kids) Hidden) part.further)
        ∙ ap (λ n. drop n ((replicate still Hidden ++ replicate (length kids) Hidden) ++ part.further)) (count ∙ sym (length-replicate opened.hidden Hidden))
        ∙ ap (drop (length (replicate opened.hidden Hidden))) (sym lists) ∙ drop-append_seam (replicate opened.hidden Hidden) hides.kids

    not_hidden : (l : List Kid) → All {X = Kid} (λ kid. kid ≢ Hidden) l → Contains {X = Kid} l Hidden → ⊥
    not_hidden l shown (k, inside, at) = shown k Hidden inside at

shown_all : (kids : List Kid) → (Contains {X = Kid} kids Hidden → ⊥) → All {X = Kid} (λ kid. kid ≢ Hidden) kids
shown_all kids none k d inside same = none (k, inside, get_or_default kids k Hidden d inside ∙ same)

-- ---- the rule of a floor

rule_from : (rules : List Rule) (r : ℕ) (o : Option Rule) → slice_get rules r ≡ o → 0 < length (right_side o) → (n : ℕ) × (right : List Sym) × IsRule rules r n right
rule_from rules r None at some = absurd (omega (arith, some))
rule_from rules r (Some rule) at some = (rule.0, rule.1, record { found = at })

rule_right : (rules : List Rule) (r n : ℕ) (right : List Sym) → IsRule rules r n right → right_of rules r ≡ right
rule_right rules r n right rule = ap right_side rule.found

module _ {g : Grammar} {t : Tables} (lawful : IsLawfulFor g t) (lead : LeadFromStates t) {met : Met} {store : Store} {maps : List StateMap} {s : Leaf} {f : Floor} {further : List Floor} (at : IsLanding t met store maps s (f ∷ further)) where
  first_hides : (opened : Opened) → f.opened ≡ Some opened → HasHidden store opened
  first_hides opened is = All-head {X = Opened} (HasHidden store) opened (openings further) (subst (λ o. All {X = Opened} (HasHidden store) (opening_before o (openings further))) is at.joining.nodes.further_nodes)

  first_fewer : (opened : Opened) → f.opened ≡ Some opened → opened.hidden < length (right_of t.rules opened.rule)
  first_fewer opened is = All-head {X = Opened} (λ o. o.hidden < length (right_of t.rules o.rule)) opened (openings further) (subst (λ o. All {X = Opened} (λ o1. o1.hidden < length (right_of t.rules o1.rule)) (opening_before o (openings further))) is at.joining.fewer)

  kids_same : kids_of (piece_in maps s).stack ≡ s.block.kids
  kids_same = entries_kids maps s.block.kids s.ids.items (sym at.has.even)

  pub can_supply : (o : Option Opened) → f.opened ≡ o → CanSupplyAll t store s o
  can_supply None is = tt
  can_supply (Some opened) is =
      let less = first_fewer opened is in
      let rule = rule_from t.rules opened.rule (slice_get t.rules opened.rule) refl (omega (arith, less)) in
      record {
        hides = first_hides opened is;
        shown = shown_all s.block.kids (subst (λ l. Contains {X = Kid} l Hidden → ⊥) kids_same at.joining.nodes.visible);
        rule = slice_get_within t.rules opened.rule (rule.0, rule.1) rule.2.found;
        fewer = λ n right is_rule. (let same = ap length (rule_right t.rules opened.rule n right is_rule) in omega (arith, less, same));
      }

  each : HasEachOnce (last_in maps s)
  each = each_once_of at.joining.floors.floors

  rising : AreRising (piece_in maps s).stack
  rising = follow_rising at.joining.floors.maps

  wide : (q : ℕ) → IsSome (target (map_at maps s.starts) q) → IsSome (state_over (map_at maps s.starts) (piece_in maps s).stack q)
  wide = join_wide_law g t lawful lead met.store store met.left met.right (piece_in maps s) met.u met.v met.beside s.block.floors (last_in maps s) (f ∷ further) at.joining

  -- ---- whole

  module _ {now : Store} {mid new : List StateMap} {one after : Leaf} (keep dropped : List Held) (parts : (piece_in maps s).stack ≡ keep ++ dropped) (many : length dropped ≡ hidden_of f.opened) (kids : TakesKids store now f.opened dropped) (grows : Grows maps mid) (has : HasMaps mid one) (same : SameButEntries s one) (count : one.count ≡ s.count) (kept : AreKeptFor (map_at maps s.starts) keep (piece_in mid one).stack) (tight : IsTightIn mid one) (back : IsCarriedBack f mid new one after) where
    starts_same : map_at mid one.starts ≡ map_at maps s.starts
    starts_same = ap (map_at mid) same.starts ∙ map_stays maps mid grows s.starts at.has.starts

    last_same : last_in mid one ≡ last_in maps s
    last_same = (λ i. record { opened = same.opened i; starts = starts_same i; faults = same.faults i })

    states : ℕ → Option ℕ
    states = state_over (map_at maps s.starts) keep

    alive_same : (q : ℕ) → IsSome (target (map_at mid one.starts) q) → IsSome (target (map_at maps s.starts) q)
    alive_same q live = subst (λ m. IsSome (target m q)) starts_same live

    over : IsOverAlive (map_at mid one.starts) (map_at mid (over_id one)) (state_over (map_at maps s.starts) keep)
    over = over_alive_of mid one.block.kids one.ids.items one.starts one.own one.stale (state_over (map_at maps s.starts) keep) (sym has.even) has.own.is (kept_rising kept) tight.tight tight.within
        (λ q live. ap (λ m. state_over m (piece_in mid one).stack q) starts_same ∙ kept_over kept q (alive_same q live) (start_of (map_at maps s.starts) q))
        (λ q live. over_front keep dropped (subst (λ l. FollowOn t store (map_at maps s.starts) (start_of (map_at maps s.starts)) l) parts at.joining.floors.maps) q (alive_same q live) (subst (λ l. IsSome (state_over (map_at maps s.starts) l q)) parts (wide q (alive_same q live))))

    by : IsCarriedOver f mid new one after (state_over (map_at maps s.starts) keep)
    by = back.over (state_over (map_at maps s.starts) keep) over (subst HasEachOnce (sym last_same) each) (kept_rising kept) tight

    tokens : one.count ≡ length met.u
    tokens = count ∙ at.count

    moved : IsMoved (carried (length met.u) (state_over (map_at maps s.starts) keep) f) (last_in maps s) (last_in new after)
    moved = subst (λ e. IsMoved (carried (length met.u) (state_over (map_at maps s.starts) keep) f) e (last_in new after)) last_same (subst (λ n. IsMoved (carried n (state_over (map_at maps s.starts) keep) f) (last_in mid one) (last_in new after)) tokens by.moved)

    lower_same : after.block.floors ≡ s.block.floors
    lower_same = ap (λ b. b.floors) back.block ∙ same.floors

    takes : TakesWhole store now (length met.u) (piece_in maps s) (piece_in new after) (last_in maps s) (last_in new after) f
    takes = record {
      lower = s.block.floors;
      keep = keep;
      dropped = dropped;
      floors = refl;
      floors_next = ap (λ l. l ++ last_in new after ∷ []) lower_same;
      stack = parts;
      as_many = many;
      apart = each.apart;
      faults = moved;
      kept = kept_then (λ q live. was_alive moved q live) kept by.kept;
      kids = kids;
    }

    pub lands_whole : IsLanding t met now new after further
    lands_whole = record {
      has = back.has;
      meet = at.meet;
      joining = subst (λ l. IsJoining t met.store now met.left met.right (piece_in new after) met.u met.v met.beside l (last_in new after) further) (sym lower_same)
          (join_whole_law g t lawful met.store store now met.left met.right (piece_in maps s) (piece_in new after) met.u met.v met.next met.steps met.more met.beside s.block.floors (last_in maps s) (last_in new after) f further at.meet takes (back.first ∙ same.first) at.joining);
      count = back.count ∙ tokens;
      tight = by.tight;
    }

  -- ---- in part

  module _ {now : Store} {mid new : List StateMap} {one after : Leaf} (opened : Opened) (opens : f.opened ≡ Some opened) (still : ℕ) (fewer : still + length s.ids.items ≡ opened.hidden) (some : 0 < still) (raised : IsRaised t maps mid s one opened still) (part : SuppliesPart store now opened.node still s.block.kids) (back : IsCarriedBack f mid new one after) where
    less : opened.hidden < length (right_of t.rules opened.rule)
    less = first_fewer opened opens

    rule : (n : ℕ) × (right : List Sym) × IsRule t.rules opened.rule n right
    rule = rule_from t.rules opened.rule (slice_get t.rules opened.rule) refl (omega (arith, less))

    rest : Opened
    rest = record { rule = opened.rule; hidden = still; node = opened.node }

    level : IsLevel (leading t (record { rule = opened.rule; hidden = still; node = opened.node }) (map_at maps s.starts)) (last_in mid one)
    level = level_new raised.faults (leading_law t (record { rule = opened.rule; hidden = still; node = opened.node }) (map_at maps s.starts) (map_at mid one.starts)
        (subst (λ l. IsBack t (take still l) (map_at maps s.starts) (map_at mid one.starts)) (sym (rule_right t.rules opened.rule rule.0 rule.1 rule.2)) (raised.starts rule.0 rule.1 rule.2).is))

    none_left : (piece_in mid one).stack ≡ []
    none_left = (λ i. held_of mid (raised.kids i) (raised.ids i))

    no_rising : AreRising (piece_in mid one).stack
    no_rising = subst AreRising (sym none_left) (λ k d inside. absurd (omega (arith, inside)))

    tight : IsTightIn mid one
    tight = record { tight = subst (λ l. AreTight (map_at mid one.starts) one.stale l) (sym none_left) tight_none; within = inl raised.stale }

    over_fresh : IsOverAlive (map_at mid one.starts) (map_at mid (over_id one)) (start_of (map_at mid one.starts))
    over_fresh = over_alive_of mid one.block.kids one.ids.items one.starts one.own one.stale (start_of (map_at mid one.starts)) (ap length raised.ids ∙ sym (ap length raised.kids)) raised.own.is no_rising tight.tight tight.within
        (λ q live. ap (λ l. state_over (map_at mid one.starts) l q) none_left)
        (λ q live. ap is_some (alive_start (map_at mid one.starts) q live))

    by_fresh : IsCarriedOver f mid new one after (start_of (map_at mid one.starts))
    by_fresh = back.over (start_of (map_at mid one.starts)) over_fresh (level_once level) no_rising tight

    kids_next : after.block.kids ≡ []
    kids_next = ap (λ b. b.kids) back.block ∙ raised.kids

    no_ids : (ids : List ℕ) → length ids ≡ 0 → ids ≡ []
    no_ids [] e = refl
    no_ids (x ∷ ids) e = absurd (omega (arith, e))

    ids_next : after.ids.items ≡ []
    ids_next = no_ids after.ids.items (sym back.has.even ∙ ap length kids_next)

    lower_next : after.block.floors ≡ (piece_in maps s).floors
    lower_next = ap (λ b. b.floors) back.block ∙ raised.floors

    long : length (piece_in maps s).stack ≡ length s.ids.items
    long = entries_length maps s.block.kids s.ids.items (sym at.has.even)

    filled : SuppliesPart store now opened.node still (kids_of (piece_in maps s).stack)
    filled = subst (λ l. SuppliesPart store now opened.node still l) (sym kids_same) part

    takes_part : TakesPart t store now (length met.u) (piece_in maps s) (piece_in new after) (last_in maps s) (last_in new after) f
    takes_part = record {
      lower = s.block.floors;
      opened = opened;
      still = still;
      floors = refl;
      floors_next = ap (λ l. l ++ last_in new after ∷ []) lower_next;
      stack_next = (λ i. held_of new (kids_next i) (ids_next i));
      opens = opens;
      fewer = (let n = long in omega (arith, n, fewer));
      some_still = some;
      fresh = last_in mid one;
      opens_fresh = raised.opened_by;
      level = level;
      no_fault = raised.faults;
      faults = subst (λ n. IsMoved (carried n (start_of (map_at mid one.starts)) f) (last_in mid one) (last_in new after)) (raised.count ∙ at.count) by_fresh.moved;
      part = filled;
      shown = no_more_hidden store now opened still (kids_of (piece_in maps s).stack) (first_hides opened opens) filled (let n = long in let k = ap length kids_same in let e = at.has.even in omega (arith, n, k, e, fewer));
    }

    pub lands_part : IsLanding t met now new after further
    lands_part = record {
      has = back.has;
      meet = at.meet;
      joining = subst (λ l. IsJoining t met.store now met.left met.right (piece_in new after) met.u met.v met.beside l (last_in new after) further) (sym lower_next)
          (join_part_law g t lawful met.store store now met.left met.right (piece_in maps s) (piece_in new after) met.u met.v met.next met.steps met.more met.beside s.block.floors (last_in maps s) (last_in new after) f further at.meet takes_part (back.first ∙ raised.first) at.joining);
      count = back.count ∙ raised.count ∙ at.count;
      tight = by_fresh.tight;
    }

  -- ---- each way

  pub lands_on : {now : Store} {mid new : List StateMap} {one after : Leaf} (o : Option Opened) → f.opened ≡ o → IsSupplied t store now maps mid s one o → Grows maps mid → IsCarriedBack f mid new one after → IsLanding t met now new after further
  lands_on {now} {mid} {new} {one} {after} None is (none_supplied stored mapped stayed) grows back =
      lands_whole {now = now} {mid = maps} {new = new} {one = s} {after = after} (piece_in maps s).stack [] (sym (append-nil (piece_in maps s).stack)) (sym (ap hidden_of is)) (subst (λ o. TakesKids store now o []) (sym is) (none_hidden stored))
      ([], sym (append-nil maps)) at.has (record { floors = refl; closed = refl; faults = refl; opened = refl; starts = refl; own = refl; first = refl }) refl (kept_self (map_at maps s.starts) (piece_in maps s).stack rising) at.tight
      (subst (λ l. IsCarriedBack f l new s after) mapped (subst (λ x. IsCarriedBack f mid new x after) stayed back))
  lands_on {now} {mid} {new} {one} {after} (Some opened) is (whole_supplied enough cut part) grows back =
      let rest = length s.ids.items - opened.hidden in
      let low = drop rest s.block.kids in
      let high = drop rest s.ids.items in
      let dropped = held_of maps (drop rest s.block.kids) (drop rest s.ids.items) in
      let one_count = length-drop rest s.block.kids in
      let two_count = length-drop rest s.ids.items in
      let even = at.has.even in
      let same_count : length high ≡ length low = omega (arith, one_count, two_count, even) in
      let kids_are : kids_of dropped ≡ low = entries_kids maps low high same_count in
      let filled : SuppliesPart store now opened.node 0 (kids_of dropped) = subst (λ l. SuppliesPart store now opened.node 0 l) (sym kids_are) part in
      let long : length dropped ≡ opened.hidden = (let n = entries_length maps low high same_count in omega (arith, n, two_count, enough)) in
      let held : 0 + length (kids_of dropped) ≡ opened.hidden = (let n = ap length kids_are in omega (arith, n, one_count, even, enough)) in
      let tightened = cut.kept rising at.tight in
      lands_whole {now = now} {mid = mid} {new = new} {one = one} {after = after} (held_of maps (take rest s.block.kids) (take rest s.ids.items)) dropped (entries_cut maps s.block.kids s.ids.items rest (sym even)) (long ∙ sym (ap hidden_of is))
      (subst (λ o. TakesKids store now o dropped) (sym is) (kids_taken filled (no_more_hidden store now opened 0 (kids_of dropped) (first_hides opened is) filled held)))
      grows cut.has cut.same cut.count tightened.0 tightened.1 back
  lands_on {now} {mid} {new} {one} {after} (Some opened) is (part_supplied still fewer some raised part) grows back =
      lands_part {now = now} {mid = mid} {new = new} {one = one} {after = after} opened is still fewer some raised part back
