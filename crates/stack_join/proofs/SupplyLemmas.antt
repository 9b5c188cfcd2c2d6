-- What the entries can supply, and the floor with the rest.
use Rattle.std.proofs.Common.{◌≡◌, ℕ, zero, suc, ◌+◌, ◌-◌, ◌<◌, List, [], ◌∷◌, ◌++◌, length, take, drop, replicate, get_or, Some, sym, ap, ◌∙◌, subst, append_assoc, arith}
use Rattle.std.proofs.lemmas.List.{length-append, length-drop, take_all}
use Rattle.std.proofs.lemmas.Option.{slice_get-get_or}
use Rattle.grammar_data.specs.declared.rule.Sym.{Sym}
use Rattle.grammar_theory.specs.Rules.{IsRule}
use Rattle.node_data.specs.declared.kid.Kid.{Kid}
use Rattle.node_data.specs.declared.kid.Kid.TheVariants.{Hidden}
use Rattle.tree_theory.specs.Stores.{Store}
use Rattle.table_data.specs.Tables.{Tables}
use Rattle.map_theory.specs.Maps.{StateMap}
use Rattle.map_theory.specs.Relations.{IsBack, IsIdentityOf}
use Rattle.piece_theory.specs.Pieces.{Opened}
use Rattle.piece_theory.specs.WellMade.{HasHidden}
use Rattle.arrow_table.specs.Looks.{Grows, HasMap, map_at}
use Rattle.segment_parser.specs.declared.leaf.Leaf.{Leaf}
use Rattle.segment_parser.specs.Standing.{last_in}
use Rattle.stack_finish.specs.Putting.{HidesMore}
use Rattle.stack_join.specs.Landing.{CanSupply, IsRaised}
use Rattle.stack_join.proofs.StandingLemmas.{map_stays}

hidden_parts : (a b n : ℕ) → n ≡ a + b → replicate n Hidden ≡ replicate a Hidden ++ replicate b Hidden
hidden_parts zero b n e = ap (λ k. replicate k Hidden) (let f : n ≡ b = omega (arith, e) in f)
hidden_parts (suc a) b zero e = absurd (omega (arith, e))
hidden_parts (suc a) b (suc n) e = ap (λ l. Hidden ∷ l) (hidden_parts a b n (omega (arith, e)))

-- so many of the hidden kids stay, and so many can be filled
pub hides_more : (store : Store) (opened : Opened) (still many : ℕ) → HasHidden store opened → still + many ≡ opened.hidden → HidesMore store opened.node still many
hides_more store opened still many hides all = record {
  rule = opened.rule;
  further = hides.kids;
  found = hides.found ∙ ap (λ l. Some (opened.rule, l)) (ap (λ l. l ++ hides.kids) (hidden_parts still many opened.hidden (sym all)) ∙ append_assoc (replicate still Hidden) (replicate many Hidden) hides.kids);
}

-- the list from some place on, cut out of it
pub from_place : (l : List Kid) (n : ℕ) → take (length l - n) (drop n l) ≡ drop n l
from_place l n = let count = length-drop n l in take_all (length l - n) (drop n l) (omega (arith, count))

-- the last entries, as many as are hidden, fill all hidden kids
pub fills_all : {t : Tables} {store : Store} {s : Leaf} {opened : Opened} → CanSupply t store s opened → length s.block.kids ≡ length s.ids.items → (l : List Kid) → l ≡ s.block.kids → (n : ℕ) → n + opened.hidden ≡ length s.ids.items → HidesMore store opened.node 0 (length (take (length l - n) (drop n l)))
fills_all {store = store} {opened = opened} can even l same n all =
    let cut = ap length (from_place l n) in
    let count = length-drop n l in
    let long = ap length same in
    hides_more store opened 0 (length (take (length l - n) (drop n l))) can.hides (omega (arith, cut, count, long, even, all))

-- all entries fill the last hidden kids
pub fills_last : {t : Tables} {store : Store} {s : Leaf} {opened : Opened} → CanSupply t store s opened → length s.block.kids ≡ length s.ids.items → (l : List Kid) → l ≡ s.block.kids → (still : ℕ) → still + length s.ids.items ≡ opened.hidden → HidesMore store opened.node still (length l)
fills_last {store = store} {opened = opened} can even l same still all = let long = ap length same in hides_more store opened still (length l) can.hides (omega (arith, long, even, all))

-- a rule with this number
pub first_rule : (t : Tables) (r : ℕ) → r < length t.rules → (n : ℕ) × (right : List Sym) × IsRule t.rules r n right
first_rule t r inside = ((get_or t.rules r (0, [])).0, (get_or t.rules r (0, [])).1, record { found = slice_get-get_or t.rules r (0, []) inside })

-- the code has put the last floor with the others, and walked back from its starts
pub record HasRaised (t : Tables) (maps mid new : List StateMap) (s after : Leaf) (opened : Opened) (still starts : ℕ) : Type 0 where
  pub grows : Grows mid new
  pub kids : after.block.kids ≡ []
  pub ids : after.ids.items ≡ []
  pub floors : after.block.floors ≡ s.block.floors ++ last_in maps s ∷ []
  pub closed : after.block.closed ≡ s.block.closed
  pub opened_by : after.opened ≡ Some (record { rule = opened.rule; hidden = still; node = opened.node })
  pub faults : after.faults ≡ []
  pub back : (n : ℕ) (right : List Sym) → IsRule t.rules opened.rule n right → HasMap mid starts (IsBack t (take still right) (map_at maps s.starts))
  pub start : after.starts ≡ starts
  pub own : HasMap new after.own (IsIdentityOf (map_at mid starts))
  pub stale : after.stale ≡ 0
  pub first : after.first ≡ s.first
  pub count : after.count ≡ s.count

pub raised_by : {t : Tables} {maps mid new : List StateMap} {s after : Leaf} {opened : Opened} {still starts : ℕ} → opened.rule < length t.rules → HasRaised t maps mid new s after opened still starts → IsRaised t maps new s after opened still
raised_by {t} {maps} {mid} {new} {s} {after} {opened} {still} {starts} inside raised = record {
  has = record {
    even = ap length raised.kids ∙ sym (ap length raised.ids);
    there = subst (λ l. (k : ℕ) (d : ℕ) → k < length l → get_or l k d < length new) (sym raised.ids) (λ k d less. absurd (omega (arith, less)));
    starts = (let e = raised.start in let g = grown in omega (arith, e, g));
    own = own;
  };
  kids = raised.kids;
  ids = raised.ids;
  floors = raised.floors;
  closed = raised.closed;
  opened_by = raised.opened_by;
  faults = raised.faults;
  starts = λ n right rule. record {
    within = (let e = raised.start in let g = grown in omega (arith, e, g));
    is = subst (IsBack t (take still right) (map_at maps s.starts)) (sym same) (raised.back n right rule).is;
  };
  own = own;
  stale = raised.stale;
  first = raised.first;
  count = raised.count;
}
  where
    rule : (n : ℕ) × (right : List Sym) × IsRule t.rules opened.rule n right
    rule = first_rule t opened.rule inside

    there : starts < length mid
    there = (raised.back rule.0 rule.1 rule.2).within

    grown : starts < length new
    grown = let n = ap length raised.grows.1 ∙ length-append mid raised.grows.0 in let less = there in omega (arith, n, less)

    same : map_at new after.starts ≡ map_at mid starts
    same = ap (map_at new) raised.start ∙ map_stays mid new raised.grows starts there

    own : HasMap new after.own (IsIdentityOf (map_at new after.starts))
    own = record { within = raised.own.within; is = subst (λ m. IsIdentityOf m (map_at new after.own)) (sym same) raised.own.is }
