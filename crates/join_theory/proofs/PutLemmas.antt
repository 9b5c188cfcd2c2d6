-- Entries that are pushed: in two parts, with the state over them, and the trees that they show.
use Rattle.std.proofs.Common.{◌≡◌, ◌≢◌, ℕ, zero, suc, ◌+◌, List, [], ◌∷◌, ◌++◌, length, slice_get, true, false, Option, Some, None, IsSome, refl, sym, ap, ◌∙◌, subst, append_assoc, arith}
use Rattle.std.proofs.lemmas.List.{length-append}
use Rattle.std.specs.Prelude.{option_and_then}
use Rattle.grammar_data.specs.declared.rule.Sym.{Sym}
use Rattle.grammar_data.specs.Grammar.{Rule}
use Rattle.grammar_theory.specs.Trees.{Tree}
use Rattle.node_data.specs.declared.kid.Kid.{Kid}
use Rattle.node_data.specs.declared.kid.Kid.TheVariants.{Hidden}
use Rattle.tree_theory.specs.Stores.{Ref, Store, Supply, Shows, shows_token, shows_hidden, shows_node}
use Rattle.machine_theory.specs.Machine.{Entry, top}
use Rattle.map_theory.specs.Maps.{StateMap, target}
use Rattle.use_theory.specs.Kept.{IsKept}
use Rattle.piece_theory.specs.Pieces.{Held, kids_of}
use Rattle.piece_theory.specs.Applies.{HasSymbol, token_symbol, node_symbol, nowhere, trees_onto, Puts, put_all, puts}
use Rattle.piece_theory.specs.WellMade.{start_of}
use Rattle.join_theory.specs.Faults.{over, state_over}
use Rattle.join_theory.specs.Floors.{AreKeptFor, none_kept, kept_next, AreOver, none_over, over_next}

-- ---- in two parts

pub puts_then : {rules : List Rule} {store : Store} {supply : Supply} {q : ℕ} {hs : List Held} {s mid : List Entry} → Puts rules store supply q hs s mid → {more : List Held} {last : List Entry} → Puts rules store supply q more mid last → Puts rules store supply q (hs ++ more) s last
puts_then put_all more = more
puts_then (puts symbol shown to rest) more = puts symbol shown to (puts_then rest more)

pub record AreSplit (rules : List Rule) (store : Store) (supply : Supply) (q : ℕ) (hs more : List Held) (s last : List Entry) : Type 0 where
  pub mid : List Entry
  pub first : Puts rules store supply q hs s mid
  pub second : Puts rules store supply q more mid last

pub puts_split : {rules : List Rule} {store : Store} {supply : Supply} {q : ℕ} (hs more all : List Held) {s last : List Entry} → all ≡ hs ++ more → Puts rules store supply q all s last → AreSplit rules store supply q hs more s last
puts_split {rules} {store} {supply} {q} [] more all {s} {last} e put = record { mid = s; first = put_all; second = subst (λ l. Puts rules store supply q l s last) e put }
puts_split (h ∷ hs) more [] e put_all = absurd (cc)
puts_split {rules} {store} {supply} {q} (h ∷ hs) more (k ∷ all) {last = last} e (puts {s = s} {x = x} {tree = tree} {p = p} symbol shown to rest) =
    let same : k ≡ h = cc in
    let split = puts_split hs more all (cc) rest in
    record {
      mid = split.mid;
      first = puts (subst (λ (y : Held). HasSymbol rules store y.kid x) same symbol) (subst (λ (y : Held). Shows store supply nowhere 0 y.kid tree) same shown) (subst (λ (y : Held). target y.states q ≡ Some p) same to) split.first;
      second = split.second;
    }

-- ---- the state over them

pub top_over : {rules : List Rule} {store : Store} {supply : Supply} {q : ℕ} {hs : List Held} {s last : List Entry} → Puts rules store supply q hs s last → (from : Option ℕ) → from ≡ Some (top 0 s) → over from hs q ≡ Some (top 0 last)
top_over put_all from e = e
top_over (puts {h = h} symbol shown to rest) from e = top_over rest (target h.states _) to

start_is : (o : Option ℕ) (q : ℕ) → IsSome o → option_and_then (λ (b : ℕ). Some q) o ≡ Some q
start_is (Some b) q some = refl
start_is None q some = let no_start : false ≡ true = some in absurd (cc no_start)

pub alive_start : (starts : StateMap) (q : ℕ) → IsSome (target starts q) → start_of starts q ≡ Some q
alive_start starts q some = start_is (target starts q) q some

pub top_state : {rules : List Rule} {store : Store} {supply : Supply} (starts : StateMap) {hs : List Held} {s last : List Entry} → IsSome (target starts (top 0 s)) → Puts rules store supply (top 0 s) hs s last → state_over starts hs (top 0 s) ≡ Some (top 0 last)
top_state starts {s = s} some put = top_over put (start_of starts (top 0 s)) (alive_start starts (top 0 s) some)

-- ---- the trees

pub onto_append : (a b : List Entry) (trees : List Tree) → trees_onto (a ++ b) trees ≡ trees_onto b (trees_onto a trees)
onto_append [] b trees = refl
onto_append (e ∷ a) b trees = onto_append a b (e.tree ∷ trees)

pub onto_then : (a : List Entry) (trees : List Tree) → trees_onto a trees ≡ trees_onto a [] ++ trees
onto_then [] trees = refl
onto_then (e ∷ a) trees = onto_then a (e.tree ∷ trees) ∙ sym (append_assoc (trees_onto a []) (e.tree ∷ []) trees) ∙ ap (λ l. l ++ trees) (sym (onto_then a (e.tree ∷ [])))

pub length-onto : (a : List Entry) (trees : List Tree) → length (trees_onto a trees) ≡ length a + length trees
length-onto [] trees = omega arith
length-onto (e ∷ a) trees = let rest = length-onto a (e.tree ∷ trees) in omega (arith, rest)

-- what each kid shows
abbrev pub KidsShow : Store → Supply → List Held → List Tree → Type 0
KidsShow store supply hs trees = (j : ℕ) (kid : Kid) (tree : Tree) → slice_get (kids_of hs) j ≡ Some kid → slice_get trees j ≡ Some tree → Shows store supply nowhere 0 kid tree

-- the entries that were pushed
pub record ArePushed (store : Store) (supply : Supply) (hs : List Held) (s last : List Entry) : Type 0 where
  pub upper : List Entry
  pub parts : last ≡ upper ++ s
  pub many : length upper ≡ length hs
  pub show : KidsShow store supply hs (trees_onto upper [])

same_some : {X : Type 0} {x y : X} → ◌≡◌ {A = Option X} (Some x) (Some y) → x ≡ y
same_some e = cc

none_shown : {store : Store} {supply : Supply} (trees : List Tree) → KidsShow store supply [] trees
none_shown {store} {supply} trees j kid tree at there = absurd (nothing j kid at)
  where
    nothing : (j : ℕ) (kid : Kid) → ◌≡◌ {A = Option Kid} (slice_get [] j) (Some kid) → ⊥
    nothing zero kid e = cc
    nothing (suc j) kid e = cc

next_shown : {store : Store} {supply : Supply} (h : Held) (hs : List Held) (first : Tree) (trees : List Tree) → Shows store supply nowhere 0 h.kid first → KidsShow store supply hs trees → KidsShow store supply (h ∷ hs) (first ∷ trees)
next_shown {store} {supply} h hs first trees shown rest zero kid tree at there = subst (λ y. Shows store supply nowhere 0 kid y) (same_some there) (subst (λ y. Shows store supply nowhere 0 y first) (same_some at) shown)
next_shown h hs first trees shown rest (suc j) kid tree at there = rest j kid tree at there

pub pushed_of : {rules : List Rule} {store : Store} {supply : Supply} {q : ℕ} {hs : List Held} {s last : List Entry} → Puts rules store supply q hs s last → ArePushed store supply hs s last
pushed_of put_all = record { upper = []; parts = refl; many = refl; show = none_shown [] }
pushed_of {rules} {store} {supply} (puts {h = h} {hs = hs} {s = s} {x = x} {tree = tree} {p = p} symbol shown to rest) =
    let e : Entry = record { symbol = x; tree = tree; state = p } in
    let more = pushed_of rest in
    record {
      upper = more.upper ++ e ∷ [];
      parts = more.parts ∙ sym (append_assoc more.upper (e ∷ []) s);
      many = (let all = length-append more.upper (e ∷ []) in let many = more.many in omega (arith, all, many));
      show = subst (λ l. KidsShow store supply (h ∷ hs) l) (sym (onto_append more.upper (e ∷ []) [])) (next_shown h hs tree (trees_onto more.upper []) shown more.show);
    }

-- ---- in another store

pub moved : {store : Store} {supply : Supply} {n m : Ref} {i j : ℕ} {kid : Kid} {tree : Tree} → Shows store supply n i kid tree → kid ≢ Hidden → Shows store supply m j kid tree
moved shows_token shown = shows_token
moved (shows_hidden trees has at) shown = absurd (shown refl)
moved (shows_node kids at all) shown = shows_node kids at all

pub symbol_kept : {rules : List Rule} {store new : Store} → IsKept store new → {kid : Kid} {x : Sym} → HasSymbol rules store kid x → HasSymbol rules new kid x
symbol_kept kept token_symbol = token_symbol
symbol_kept {rules} {store} {new} kept (node_symbol {m = m} {r = r} kids at rule) = let now = kept m r kids at in node_symbol now.0 now.1 rule

pub symbol_shown : {rules : List Rule} {store : Store} {kid : Kid} {x : Sym} → HasSymbol rules store kid x → kid ≢ Hidden
symbol_shown token_symbol e = absurd (cc)
symbol_shown (node_symbol kids at rule) e = absurd (cc)

-- what kids that aren't hidden show, they show there
abbrev pub ShowsThere : Store → Supply → Store → Supply → Type 0
ShowsThere store supply new supply1 = (kid : Kid) (tree : Tree) → kid ≢ Hidden → Shows store supply nowhere 0 kid tree → Shows new supply1 nowhere 0 kid tree

pub puts_kept : {rules : List Rule} {store new : Store} {supply supply1 : Supply} (starts : StateMap) {q : ℕ} → IsKept store new → ShowsThere store supply new supply1 → IsSome (target starts q) → {hs ks : List Held} → AreKeptFor starts hs ks → {s last : List Entry} → Puts rules store supply q hs s last → Puts rules new supply1 q ks s last
puts_kept starts kept there alive none_kept put_all = put_all
puts_kept {rules} {new = new} {supply1 = supply1} starts {q} kept there alive (kept_next {h = h} {k = k} kid up states more) (puts {x = x} {tree = tree} symbol shown to rest) =
    puts (subst (λ y. HasSymbol rules new y x) (sym kid) (symbol_kept kept symbol)) (subst (λ y. Shows new supply1 nowhere 0 y tree) (sym kid) (there h.kid tree (symbol_shown symbol) shown)) (states q alive ∙ to) (puts_kept starts kept there alive more rest)

pub puts_over : {rules : List Rule} {store new : Store} {supply supply1 : Supply} (states : ℕ → Option ℕ) (starts : StateMap) {q z : ℕ} → IsKept store new → ShowsThere store supply new supply1 → IsSome (target starts q) → states q ≡ Some z → {hs ks : List Held} → AreOver states starts hs ks → {s last : List Entry} → Puts rules store supply z hs s last → Puts rules new supply1 q ks s last
puts_over states starts kept there alive at none_over put_all = put_all
puts_over {rules} {new = new} {supply1 = supply1} states starts {q} {z} kept there alive at (over_next {h = h} {k = k} kid up targets more) (puts {x = x} {tree = tree} {p = p} symbol shown to rest) =
    let here : option_and_then (target h.states) (states q) ≡ Some p = ap (option_and_then (target h.states)) at ∙ to in
    puts (subst (λ y. HasSymbol rules new y x) (sym kid) (symbol_kept kept symbol)) (subst (λ y. Shows new supply1 nowhere 0 y tree) (sym kid) (there h.kid tree (symbol_shown symbol) shown)) (targets q alive ∙ here) (puts_over states starts kept there alive at more rest)
