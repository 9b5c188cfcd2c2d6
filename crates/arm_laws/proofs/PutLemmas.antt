-- Entries that are pushed: one more, in two parts, the same ones to a start, in a larger store; the state over them, and the
-- trees that they show.
use Rattle.std.proofs.Common.{◌≡◌, ℕ, suc, ◌+◌, List, [], ◌∷◌, ◌++◌, length, replicate, Contains, slice_get, Option, Some, refl, sym, ap, ◌∙◌, subst, append_assoc, append-nil, arith}
use Rattle.std.proofs.lemmas.List.{length-append}
use Rattle.std.proofs.lemmas.Option.{slice_get_read}
use Rattle.std.proofs.Math.Seq.{get_or-append_seam}
use Rattle.grammar_data.specs.declared.rule.Sym.{Sym}
use Rattle.grammar_data.specs.Grammar.{Rule}
use Rattle.grammar_theory.specs.Trees.{Tree, Forest, NoTree, FirstTree}
use Rattle.node_data.specs.declared.kid.Kid.{Kid}
use Rattle.node_data.specs.declared.kid.Kid.TheVariants.{Hidden}
use Rattle.tree_theory.specs.Stores.{Ref, Store, Supply, Shows, shows_token, shows_hidden, shows_node, ShowsAll, shows_none, shows_more}
use Rattle.tree_theory.proofs.ShownLemmas.{grow_law}
use Rattle.machine_theory.specs.Machine.{Entry, top, forest_onto}
use Rattle.map_theory.specs.Maps.{target}
use Rattle.piece_theory.specs.Pieces.{Held, kids_of}
use Rattle.piece_theory.specs.Applies.{HasSymbol, token_symbol, node_symbol, nowhere, trees_onto, Puts, put_all, puts}
use Rattle.piece_theory.specs.Laws.{HasMore}
use Rattle.piece_theory.proofs.StoreLemmas.{symbol_more}
use Rattle.arm_laws.specs.Did.{over_from, AreSameAt, none_same, same_first}

pub puts_then : {rules : List Rule} {store : Store} {supply : Supply} {q : ℕ} {hs : List Held} {s mid : List Entry} → Puts rules store supply q hs s mid → (h : Held) {x : Sym} {tree : Tree} {p : ℕ} → HasSymbol rules store h.kid x → Shows store supply nowhere 0 h.kid tree → target h.states q ≡ Some p → Puts rules store supply q (hs ++ h ∷ []) s (record { symbol = x; tree = tree; state = p } ∷ mid)
puts_then put_all h symbol shown to = puts symbol shown to put_all
puts_then (puts symbol1 shown1 to1 more) h symbol shown to = puts symbol1 shown1 to1 (puts_then more h symbol shown to)

pub puts_split : {rules : List Rule} {store : Store} {supply : Supply} {q : ℕ} (hs gs : List Held) {s last : List Entry} → Puts rules store supply q (hs ++ gs) s last → (mid : List Entry) × Puts rules store supply q hs s mid × Puts rules store supply q gs mid last
puts_split [] gs {s} up = (s, put_all, up)
puts_split (h ∷ hs) gs (puts symbol shown to more) = let rest = puts_split hs gs more in (rest.0, puts symbol shown to rest.1, rest.2)

pub put_same : {rules : List Rule} {store : Store} {supply : Supply} {q : ℕ} {hs gs : List Held} → AreSameAt q hs gs → {s last : List Entry} → Puts rules store supply q hs s last → Puts rules store supply q gs s last
put_same none_same put_all = put_all
put_same {rules} {store} {supply} (same_first kid states rest) (puts {x = x} {tree = tree} symbol shown to more) =
    puts (subst (λ k. HasSymbol rules store k x) (sym kid) symbol) (subst (λ k. Shows store supply nowhere 0 k tree) (sym kid) shown) (states ∙ to) (put_same rest more)

pub put_grow : {rules : List Rule} {store new : Store} {supply supply1 : Supply} {q : ℕ} → HasMore store new → ((n : Ref) (trees : List Tree) → Contains {X = Ref × List Tree} supply (n, trees) → Contains {X = Ref × List Tree} supply1 (n, trees)) → {hs : List Held} {s last : List Entry} → Puts rules store supply q hs s last → Puts rules new supply1 q hs s last
put_grow has more put_all = put_all
put_grow {store = store} {new = new} {supply = supply} {supply1 = supply1} has more (puts {h = h} {tree = tree} symbol shown to rest) =
    puts (symbol_more has symbol) (grow_law store new supply supply1 has more nowhere 0 h.kid tree shown) to (put_grow has more rest)

-- ---- the state over entries

pub put_over : {rules : List Rule} {store : Store} {supply : Supply} {q : ℕ} {hs : List Held} {s last : List Entry} → Puts rules store supply q hs s last → over_from (Some (top 0 s)) hs q ≡ Some (top 0 last)
put_over put_all = refl
put_over {q = q} (puts {hs = hs} symbol shown to more) = ap (λ o. over_from o hs q) to ∙ put_over more

pub over_push : (below : Option ℕ) (hs : List Held) (h : Held) (q : ℕ) → over_from below (hs ++ h ∷ []) q ≡ target h.states q
over_push below [] h q = refl
over_push below (g ∷ hs) h q = over_push (target g.states q) hs h q

-- ---- the trees of entries

pub forest-append : (xs ys : List Entry) (trees : Forest) → forest_onto (xs ++ ys) trees ≡ forest_onto ys (forest_onto xs trees)
forest-append [] ys trees = refl
forest-append (e ∷ xs) ys trees = forest-append xs ys (FirstTree e.tree trees)

-- what has a symbol isn't hidden, and shows the same wherever it stands
pub shows_anywhere : {rules : List Rule} {store : Store} {supply : Supply} {kid : Kid} {x : Sym} → HasSymbol rules store kid x → {tree : Tree} {n : Ref} {i : ℕ} → Shows store supply n i kid tree → (m : Ref) (j : ℕ) → Shows store supply m j kid tree
shows_anywhere token_symbol shows_token m j = shows_token
shows_anywhere (node_symbol kids at rule) (shows_node others there all) m j = shows_node others there all

-- what is pushed, and that the entries' kids show its trees
pub record PutAbove (store : Store) (supply : Supply) (hs : List Held) (s last : List Entry) : Type 0 where
  pub pushed : List Entry
  pub parts : last ≡ pushed ++ s
  pub count : length pushed ≡ length hs
  pub all : (m : Ref) (i : ℕ) → ShowsAll store supply m i (kids_of hs) (forest_onto pushed NoTree)

pub put_above : {rules : List Rule} {store : Store} {supply : Supply} {q : ℕ} {hs : List Held} {s last : List Entry} → Puts rules store supply q hs s last → PutAbove store supply hs s last
put_above put_all = record { pushed = []; parts = refl; count = refl; all = λ m i. shows_none }
put_above {store = store} {supply = supply} (puts {h = h} {hs = hs} {s = s} {x = x} {tree = tree} {p = p} symbol shown to more) =
    let rest = put_above more in
    let e : Entry = record { symbol = x; tree = tree; state = p } in
    record {
      pushed = rest.pushed ++ e ∷ [];
      parts = rest.parts ∙ sym (append_assoc rest.pushed (e ∷ []) s);
      count = length-append rest.pushed (e ∷ []) ∙ plus_one (length rest.pushed) ∙ ap suc rest.count;
      all = λ m i. subst (λ l. ShowsAll store supply m i (h.kid ∷ kids_of hs) l) (sym (forest-append rest.pushed (e ∷ []) NoTree)) (shows_more (shows_anywhere symbol shown m i) (rest.all m (suc i)));
    }
  where
    plus_one : (k : ℕ) → k + 1 ≡ suc k
    plus_one k = omega arith

-- ---- the trees of hidden kids

forest_of : List Tree → Forest → Forest
forest_of [] trees = trees
forest_of (u ∷ us) trees = FirstTree u (forest_of us trees)

forest_of_onto : (more : List Entry) (us : List Tree) (trees : Forest) → forest_of (trees_onto more us) trees ≡ forest_onto more (forest_of us trees)
unfolding forest_of
forest_of_onto [] us trees = refl
forest_of_onto (e ∷ more) us trees = forest_of_onto more (e.tree ∷ us) trees

length_onto : (more : List Entry) (us : List Tree) → length (trees_onto more us) ≡ length more + length us
length_onto [] us = omega arith
length_onto (e ∷ more) us = let rest = length_onto more (e.tree ∷ us) in omega (arith, rest)

at_seam : (before ts : List Tree) (u : Tree) → slice_get (before ++ u ∷ ts) (length before) ≡ Some u
at_seam before ts u =
    let count = length-append before (u ∷ ts) in
    slice_get_read (before ++ u ∷ ts) (length (before ++ u ∷ ts)) (length before) u refl (omega (arith, count)) (sym (get_or-append_seam before u ts u))

hidden_rows : {store : Store} {supply : Supply} {m : Ref} {kids : List Kid} {trees : Forest} (all : List Tree) → Contains {X = Ref × List Tree} supply (m, all) → ShowsAll store supply m (length all) kids trees → (before ts : List Tree) → all ≡ before ++ ts → ShowsAll store supply m (length before) (replicate (length ts) Hidden ++ kids) (forest_of ts trees)
unfolding forest_of
hidden_rows {store} {supply} {m} {kids} {trees} all has more before [] at = subst (λ (k : ℕ). ShowsAll store supply m k kids trees) (ap length at ∙ ap length (append-nil before)) more
hidden_rows {store} {supply} {m} {kids} {trees} all has more before (u ∷ ts) at =
    let rest = hidden_rows all has more (before ++ u ∷ []) ts (at ∙ sym (append_assoc before (u ∷ []) ts)) in
    let count : length (before ++ u ∷ []) ≡ suc (length before) = length-append before (u ∷ []) ∙ plus_one (length before) in
    shows_more (shows_hidden all has (ap (λ l. slice_get l (length before)) at ∙ at_seam before ts u)) (subst (λ (k : ℕ). ShowsAll store supply m k (replicate (length ts) Hidden ++ kids) (forest_of ts trees)) count rest)
  where
    plus_one : (k : ℕ) → k + 1 ≡ suc k
    plus_one k = omega arith

-- where the trees of entries are supplied for a node, its first hidden kids show them
pub shows_supplied : {store : Store} {supply : Supply} {m : Ref} {kids : List Kid} {trees : Forest} (more : List Entry) (hidden : ℕ) → length more ≡ hidden → Contains {X = Ref × List Tree} supply (m, trees_onto more []) → ShowsAll store supply m hidden kids trees → ShowsAll store supply m 0 (replicate hidden Hidden ++ kids) (forest_onto more trees)
unfolding forest_of
shows_supplied {store} {supply} {m} {kids} {trees} more hidden count has shown =
    let len : length (trees_onto more []) ≡ hidden = length_onto more [] ∙ nothing_more (length more) ∙ count in
    let all : List Tree = trees_onto more [] in
    let from : ShowsAll store supply m (length all) kids trees = subst (λ (k : ℕ). ShowsAll store supply m k kids trees) (sym len) shown in
    let rows : ShowsAll store supply m 0 (replicate (length all) Hidden ++ kids) (forest_of all trees) = hidden_rows all has from [] all refl in
    let here : ShowsAll store supply m 0 (replicate hidden Hidden ++ kids) (forest_of all trees) = subst (λ (k : ℕ). ShowsAll store supply m 0 (replicate k Hidden ++ kids) (forest_of all trees)) len rows in
    subst (λ l. ShowsAll store supply m 0 (replicate hidden Hidden ++ kids) l) (forest_of_onto more [] trees) here
  where
    nothing_more : (k : ℕ) → k + 0 ≡ k
    nothing_more k = omega arith
