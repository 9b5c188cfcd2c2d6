-- Canonical tables are lawful.
use Rattle.std.proofs.Common.{◌≡◌, ℕ, ◌<◌, ◌↔◌, Bool, List, [], ◌∷◌, ◌++◌, length, get_or, Option, Some, None, refl, sym, ap, ◌∙◌, subst, ⊎_elim, append_assoc, append-nil}
use Rattle.std.proofs.lemmas.Option.{same_Some}
use Rattle.grammar_data.specs.declared.rule.Sym.{Sym}
use Rattle.grammar_data.specs.declared.rule.Sym.TheVariants.{Token, Name}
use Rattle.grammar_data.specs.declared.token.Token.{Token as TextToken}
use Rattle.grammar_data.specs.Grammar.{Rule, Grammar}
use Rattle.grammar_theory.specs.Rules.{IsInRange, NamesBelow}
use Rattle.grammar_theory.specs.Trees.{Tree, Leaf, IsTree, token_tree}
use Rattle.grammar_theory.specs.UsefulNames.{AllProductive}
use Rattle.grammar_theory.specs.UselessNames.{AllReachable}
use Rattle.grammar_theory.proofs.RuleLemmas.{names_back}
use Rattle.grammar_theory.proofs.NameLaws.{productive_tree_law}
use Rattle.item_theory.specs.Items.{Item, IsValid, IsViable, Deed, Does, shifts, reduces, accepts, augmented_item, Reduce as to_reduce, Accept as to_accept}
use Rattle.item_theory.specs.Search.{walk}
use Rattle.item_theory.specs.Collections.{IsStateOf, IsCollection}
use Rattle.item_theory.proofs.AugmentedLemmas.{augmented_end}
use Rattle.item_theory.proofs.ItemLemmas.{dotted_first, dotted_moved}
use Rattle.item_theory.proofs.ItemLaws.{augmented_items_law, prefix_range_law}
use Rattle.item_theory.proofs.StateLemmas.{viable_prefix, same_items_refl}
use Rattle.item_theory.proofs.CollectionLaws.{collection_items_law, collection_walk_law}
use Rattle.table_data.specs.declared.act.Act.{Act}
use Rattle.table_data.specs.declared.act.Act.TheVariants.{Shift, Reduce, Accept, Error}
use Rattle.table_data.specs.Tables.{Tables, act_in, goto_in, step_by}
use Rattle.table_theory.specs.Deeds.{HasDeed}
use Rattle.table_theory.specs.Canonical.{deed_of, AreCanonical}
use Rattle.table_theory.proofs.ClashLemmas.{word_of}
use Rattle.table_theory.proofs.StepLemmas.{canonical_walk, canonical_deed, canonical_viable}
use Rattle.machine_theory.specs.Machine.{Entry, top, symbols, IsStack, bottom, pushed}
use Rattle.lawful_theory.specs.Lawful.{IsStartOf, IsLawfulFor, grammar_with}
use Rattle.lawful_theory.specs.Laws.{CanonicalLawfulLaw, OneGrammarLaw, LawfulLaw}

-- ---- walks

walk_end : (step : ℕ → Sym → Option ℕ) (o : Option ℕ) → walk step o [] ≡ o
walk_end step None = refl
walk_end step (Some q) = refl

none_some : {q : ℕ} → ◌≡◌ {A = Option ℕ} None (Some q) → ⊥
none_some e = cc

walk_push : (step : ℕ → Sym → Option ℕ) (xs : List Sym) (o : Option ℕ) (x : Sym) (q : ℕ) → walk step o xs ≡ Some q → walk step o (xs ++ x ∷ []) ≡ step q x
walk_push step xs None x q e = absurd (none_some e)
walk_push step [] (Some p) x q e = walk_end step (step p x) ∙ ap (λ k. step k x) (same_Some p q e)
walk_push step (y ∷ xs) (Some p) x q e = walk_push step xs (step p y) x q e

-- ---- actions and what they do

pub accept_of : (act : Act) → deed_of act ≡ Some to_accept → act ≡ Accept
accept_of (Shift p) e = absurd (cc)
accept_of (Reduce r) e = absurd (cc)
accept_of Accept e = refl
accept_of Error e = absurd (cc)

accept_not_reduce : (r : ℕ) → to_accept ≡ to_reduce r → ⊥
accept_not_reduce r e = cc

-- an item that accepts is of the augmented rule
accepting_rule : (g : Grammar) {i : Item} {a : ℕ} {deed : Deed} → Does g i a deed → deed ≡ to_accept → i.rule ≡ length g.rules
accepting_rule g (shifts dotted) e = absurd (cc)
accepting_rule g (reduces {deed = deed} dotted less at is) e = absurd (accept_not_reduce _ (sym e ∙ is))
accepting_rule g (accepts dotted last at) e = last

one_symbol : {n m : ℕ} → Name n ∷ [] ≡ Name m ∷ [] → n ≡ m
one_symbol e = cc

no_symbol : {x : Sym} → x ∷ [] ≡ [] → ⊥
no_symbol e = cc

end_name : (n : ℕ) (xs : List Sym) (bound : ℕ) → NamesBelow bound (xs ++ Name n ∷ []) → n < bound
end_name n xs bound below = (names_back (λ k. k < bound) xs (Name n ∷ []) below).0

-- ---- stacks of canonical tables

module _ (g : Grammar) (range : IsInRange g) (productive : AllProductive g) (states : ℕ) (has : ℕ → Item → Bool) (step : ℕ → Sym → Option ℕ) (t : Tables) (collection : IsCollection g states has step) (canonical : AreCanonical g states has step t) where
  stack_walk : {s : List Entry} → IsStack t 0 s → walk (step_by t) (Some 0) (symbols s) ≡ Some (top 0 s)
  stack_walk bottom = refl
  stack_walk (pushed {e = e} {s = s} is tree along) = walk_push (step_by t) (symbols s) (Some 0) e.symbol (top 0 s) (stack_walk is) ∙ along

  walk_below : (xs : List Sym) (q : ℕ) → walk (step_by t) (Some 0) xs ≡ Some q → q < states
  walk_below xs q is = (collection_items_law g range states has step collection xs q (sym (canonical_walk g range states has step t collection canonical xs) ∙ is)).0

  viable_of_walk : (xs : List Sym) (q : ℕ) → walk (step_by t) (Some 0) xs ≡ Some q → IsViable g xs
  viable_of_walk xs q is = (canonical_viable g range states has step t collection canonical xs).1 (q, walk_below xs q is, is)

  stack_steps : (s : List Entry) (x : Sym) → IsStack t 0 s → ((p : ℕ) × (step_by t (top 0 s) x ≡ Some p)) ↔ IsViable g (symbols s ++ x ∷ [])
  stack_steps s x is =
      let along = walk_push (step_by t) (symbols s) (Some 0) x (top 0 s) (stack_walk is) in (
        λ (p, e). viable_of_walk (symbols s ++ x ∷ []) p (along ∙ e),
        λ viable. let led = (canonical_viable g range states has step t collection canonical (symbols s ++ x ∷ [])).0 viable in (led.0, sym along ∙ led.2),
      )

  stack_acts : (s : List Entry) (a : ℕ) → IsStack t 0 s → (deed : Deed) → (deed_of (act_in t (top 0 s) a) ≡ Some deed) ↔ HasDeed g (IsValid g (symbols s)) a deed
  stack_acts s a is deed = canonical_deed g range states has step t collection canonical (symbols s) (top 0 s) a (stack_walk is) deed

  -- ---- each viable list is that of a stack

  some_token : ℕ → TextToken
  some_token a = record { id = a; place = record { line = 0; start = 0; len = 0 } }

  some_tree : (xs : List Sym) (x : Sym) → IsViable g (xs ++ x ∷ []) → (tree : Tree) × IsTree t.rules x tree
  unfolding some_token
  some_tree xs (Token a) viable = (Leaf (some_token a), token_tree refl)
  some_tree xs (Name n) viable =
      let below = end_name n xs g.names (prefix_range_law g range (xs ++ Name n ∷ []) viable).0 in
      let tree = (productive_tree_law g n).0 (productive n below) in
      (tree.0, subst (λ (l : List Rule). IsTree l (Name n) tree.0) (sym canonical.rules) tree.1)

  stack_for : (xs : List Sym) (s : List Entry) → IsStack t 0 s → IsViable g (symbols s ++ xs) → (last : List Entry) × IsStack t 0 last × (symbols last ≡ symbols s ++ xs)
  stack_for [] s is viable = (s, is, sym (append-nil (symbols s)))
  stack_for (x ∷ xs) s is viable =
      let line = append_assoc (symbols s) (x ∷ []) xs in
      let longer : IsViable g ((symbols s ++ x ∷ []) ++ xs) = subst (λ l. IsViable g l) (sym line) viable in
      let next = viable_prefix g range xs (symbols s ++ x ∷ []) longer in
      let along = (stack_steps s x is).1 next in
      let tree = some_tree (symbols s) x next in
      let more = stack_for xs (record { symbol = x; tree = tree.0; state = along.0 } ∷ s) (pushed is tree.1 along.1) longer in
      (more.0, more.1, more.2 ∙ line)

  stack_covers : (q : ℕ) → q < t.states → (s : List Entry) × IsStack t 0 s × (top 0 s ≡ q)
  stack_covers q less =
      let xs = get_or collection.words q [] in
      let inside : q < states = subst (λ k. q < k) canonical.count less in
      let here : IsStateOf g collection.words q xs = (xs, word_of g states has step collection q inside, same_items_refl g xs) in
      let led = canonical_walk g range states has step t collection canonical xs ∙ (collection_walk_law g range states has step collection xs q).1 here in
      let stack = stack_for xs [] bottom (viable_of_walk xs q led) in
      (stack.0, stack.1, same_Some (top 0 stack.0) q (sym (stack_walk stack.1) ∙ ap (walk (step_by t) (Some 0)) stack.2 ∙ led))

  -- ---- the start

  goes_viable : IsViable g (Name g.start ∷ [])
  goes_viable = (augmented_item g 1, augmented_end g)

  start_goes : (p : ℕ) × (goto_in t 0 g.start ≡ Some p)
  start_goes = (stack_steps [] (Name g.start) bottom).1 goes_viable

  accepting : HasDeed g (IsValid g (Name g.start ∷ [])) t.tokens to_accept
  accepting = (augmented_item g 1, augmented_end g, accepts (dotted_moved [] (dotted_first g)) refl canonical.tokens)

  is_start : IsStartOf t g.start
  is_start = record {
    state = start_goes.0;
    goes = start_goes.1;
    accepts = accept_of (act_in t start_goes.0 t.tokens) ((canonical_deed g range states has step t collection canonical (Name g.start ∷ []) start_goes.0 t.tokens (walk_end (step_by t) (goto_in t 0 g.start) ∙ start_goes.1) to_accept).1 accepting);
  }

  only_start : (n : ℕ) → IsStartOf t n → n ≡ g.start
  only_start n start =
      let deed = (canonical_deed g range states has step t collection canonical (Name n ∷ []) start.state t.tokens (walk_end (step_by t) (goto_in t 0 n) ∙ start.goes) to_accept).0 (ap deed_of start.accepts) in
      ⊎_elim (λ h. absurd (no_symbol h.0)) (λ h. one_symbol h.0) ((augmented_items_law g range (Name n ∷ []) deed.0 (accepting_rule g deed.2 refl)).0 deed.1)

  pub canonical_lawful : AllReachable g → IsLawfulFor g t
  canonical_lawful reachable = record {
    tokens = canonical.tokens;
    names = canonical.names;
    rules = canonical.rules;
    range = range;
    productive = productive;
    reachable = reachable;
    start = is_start;
    one_start = only_start;
    covered = stack_covers;
    within = λ s is. subst (λ k. top 0 s < k) (sym canonical.count) (walk_below (symbols s) (top 0 s) (stack_walk is));
    prefixes = λ s is. viable_of_walk (symbols s) (top 0 s) (stack_walk is);
    steps = stack_steps;
    acts = stack_acts;
  }

pub canonical_lawful_law : CanonicalLawfulLaw
canonical_lawful_law g range productive reachable states has step t collection canonical = canonical_lawful g range productive states has step t collection canonical reachable

-- ---- one grammar

same_grammar : (g h : Grammar) → g.tokens ≡ h.tokens → g.names ≡ h.names → g.rules ≡ h.rules → g.start ≡ h.start → g ≡ h
same_grammar g h tokens names rules start = λ i. record { tokens = tokens i; names = names i; rules = rules i; start = start i }

pub one_grammar_law : OneGrammarLaw
one_grammar_law g h t first second = same_grammar g h (sym first.tokens ∙ second.tokens) (sym first.names ∙ second.names) (sym first.rules ∙ second.rules) (second.one_start g.start first.start)

own_grammar : (g : Grammar) (t : Tables) → IsLawfulFor g t → g ≡ grammar_with t g.start
own_grammar g t lawful = same_grammar g (grammar_with t g.start) (sym lawful.tokens) (sym lawful.names) (sym lawful.rules) refl

pub lawful_law : LawfulLaw
lawful_law g t lawful = (g.start, subst (λ h. IsLawfulFor h t) (own_grammar g t lawful) lawful)
