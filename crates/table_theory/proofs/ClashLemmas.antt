-- The items of the states of a collection show the conflicts of the grammar.
use Rattle.std.proofs.Common.{◌≡◌, ℕ, ◌<◌, Bool, List, [], get_or, slice_get, Option, Some, sym, subst, arith}
use Rattle.std.proofs.lemmas.Option.{slice_get_within, slice_get-get_or}
use Rattle.grammar_data.specs.declared.rule.Sym.{Sym}
use Rattle.grammar_data.specs.Grammar.{Grammar}
use Rattle.item_theory.specs.Items.{Item, IsConflict, HasConflict}
use Rattle.item_theory.specs.Collections.{IsCollection}
use Rattle.item_theory.proofs.StateLemmas.{states_once, conflict_state}
use Rattle.table_theory.specs.Conflicts.{HasConflictOn, IsFirstConflict}
use Rattle.table_theory.specs.Clashes.{HasClash, ItemsOf, IsFirstClash, FirstClashLaw, ClashLaw}

module _ (g : Grammar) (states : ℕ) (has : ℕ → Item → Bool) (step : ℕ → Sym → Option ℕ) (collection : IsCollection g states has step) where
  pub word_of : (q : ℕ) → q < states → slice_get collection.words q ≡ Some (get_or collection.words q [])
  word_of q less = slice_get-get_or collection.words q [] (omega (arith, collection.count))

  pub state_of : (q : ℕ) (xs : List Sym) → slice_get collection.words q ≡ Some xs → q < states
  state_of q xs at = let less = slice_get_within collection.words q xs at in omega (arith, collection.count)

  clash_of : (q b : ℕ) → HasConflictOn g collection.words q b → HasClash g (ItemsOf has q) b
  clash_of q b (xs, at, first, second, c) = (
    c.first_deed,
    c.second_deed,
    (first, (collection.items q xs at first).1 c.first_valid, c.first_does),
    (second, (collection.items q xs at second).1 c.second_valid, c.second_does),
    c.differ,
  )

  conflict_of : (q b : ℕ) → q < states → HasClash g (ItemsOf has q) b → HasConflictOn g collection.words q b
  conflict_of q b less (deed, other, (first, has_first, first_does), (second, has_second, second_does), differ) = (
    get_or collection.words q [],
    word_of q less,
    first,
    second,
    record {
      first_valid = (collection.items q (get_or collection.words q []) (word_of q less) first).0 has_first;
      second_valid = (collection.items q (get_or collection.words q []) (word_of q less) second).0 has_second;
      first_deed = deed;
      second_deed = other;
      first_does = first_does;
      second_does = second_does;
      differ = differ;
    },
  )

  pub has_clash : HasConflict g → (q : ℕ) × (q < states) × (a : ℕ) × HasClash g (ItemsOf has q) a
  has_clash h = at_state (conflict_state g collection.words collection.are_states h)
    where
      at_state : ((q : ℕ) × (xs : List Sym) × (slice_get collection.words q ≡ Some xs) × (a : ℕ) × (first : Item) × (second : Item) × IsConflict g xs a first second) → (q : ℕ) × (q < states) × (a : ℕ) × HasClash g (ItemsOf has q) a
      at_state (q, xs, at, a, first, second, c) = (q, state_of q xs at, a, clash_of q a (xs, at, first, second, c))

  has_conflict : ((q : ℕ) × (q < states) × (a : ℕ) × HasClash g (ItemsOf has q) a) → HasConflict g
  has_conflict (q, less, a, clash) = whole (conflict_of q a less clash)
    where
      whole : HasConflictOn g collection.words q a → HasConflict g
      whole (xs, at, first, second, c) = (xs, a, first, second, c)

  module _ (q a : ℕ) (first second : Item) (less : q < states) where
    abbrev word : List Sym
    word = get_or collection.words q []

    to_conflict : IsFirstClash g has q a first second → IsFirstConflict g q a first second
    to_conflict f = record {
      words = collection.words;
      word = word;
      are_states = collection.are_states;
      at = word_of q less;
      conflict = record {
        first_valid = (collection.items q word (word_of q less) first).0 f.first_has;
        second_valid = (collection.items q word (word_of q less) second).0 f.second_has;
        first_deed = f.deed;
        second_deed = f.other;
        first_does = f.first_does;
        second_does = f.second_does;
        differ = f.differ;
      };
      least_state = λ p b before h. f.least_state p b before (clash_of p b h);
      least_token = λ b before h. f.least_token b before (clash_of q b h);
      least_first = λ i deed valid does. f.least_first i deed ((collection.items q word (word_of q less) i).1 valid) does;
      least_second = λ i other valid does differs. f.least_second i other ((collection.items q word (word_of q less) i).1 valid) does differs;
    }

    to_clash : IsFirstConflict g q a first second → IsFirstClash g has q a first second
    to_clash f =
        let same : f.words ≡ collection.words = states_once g f.words collection.words f.are_states collection.are_states in
        let at : slice_get collection.words q ≡ Some f.word = subst (λ ws. slice_get ws q ≡ Some f.word) same f.at in
        record {
          deed = f.conflict.first_deed;
          other = f.conflict.second_deed;
          first_has = (collection.items q f.word at first).1 f.conflict.first_valid;
          second_has = (collection.items q f.word at second).1 f.conflict.second_valid;
          first_does = f.conflict.first_does;
          second_does = f.conflict.second_does;
          differ = f.conflict.differ;
          least_state = λ p b before h. f.least_state p b before (subst (λ ws. HasConflictOn g ws p b) (sym same) (conflict_of p b (omega arith) h));
          least_token = λ b before h. f.least_token b before (subst (λ ws. HasConflictOn g ws q b) (sym same) (conflict_of q b less h));
          least_first = λ i deed is does. f.least_first i deed ((collection.items q f.word at i).0 is) does;
          least_second = λ i other is does differs. f.least_second i other ((collection.items q f.word at i).0 is) does differs;
        }

pub clash_law : ClashLaw
clash_law g states has step collection = (has_clash g states has step collection, has_conflict g states has step collection)

pub first_clash_law : FirstClashLaw
first_clash_law g states has step collection q a first second less =
    (to_conflict g states has step collection q a first second less, to_clash g states has step collection q a first second less)
