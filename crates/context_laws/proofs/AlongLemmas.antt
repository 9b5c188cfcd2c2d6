-- Tables of their size lead from states alone, and entries are pushed along symbols.
use Rattle.std.proofs.Common.{◌≡◌, ℕ, ◌+◌, ◌*◌, ◌<◌, ◌≤◌, ◌⊎◌, inl, inr, Bool, true, false, if◌then◌else◌, nat_lt, List, [], ◌∷◌, ◌++◌, length, Option, Some, None, refl, sym, ap, ◌∙◌, subst, append_assoc, arith}
use Rattle.std.proofs.Math.Nat.{mul-le-mul_left, mul_comm}
use Rattle.std.proofs.lemmas.Bool.{ltb-true, cases_lt}
use Rattle.std.proofs.lemmas.List.{get_or_past}
use Rattle.std.proofs.lemmas.Option.{same_Some}
use Rattle.std.specs.Prelude.{slice_index_or, option_and_then}
use Rattle.grammar_data.specs.declared.rule.Sym.{Sym}
use Rattle.grammar_data.specs.declared.rule.Sym.TheVariants.{Token, Name}
use Rattle.grammar_data.specs.declared.token.Token.{Token as TextToken}
use Rattle.grammar_data.specs.Grammar.{Rule, Grammar}
use Rattle.grammar_theory.specs.Trees.{Tree, Leaf, IsTree, token_tree}
use Rattle.grammar_theory.proofs.NameLaws.{productive_tree_law}
use Rattle.table_data.specs.declared.act.Act.TheVariants.{Error}
use Rattle.table_data.specs.Tables.{Tables, act_in, goto_in, shift_of, step_by}
use Rattle.machine_theory.specs.Machine.{Entry, top, IsStack, pushed}
use Rattle.machine_theory.proofs.StackLemmas.{symbols-append}
use Rattle.lawful_theory.specs.Lawful.{IsLawfulFor}
use Rattle.map_theory.specs.Maps.{walk_by}
use Rattle.context_laws.specs.Contexts.{SizeLaw, IsAlong, AlongLaw}

none_some : {p : ℕ} → ◌≡◌ {A = Option ℕ} None (Some p) → ⊥
none_some e = cc

-- what leads on leads by a state in between
pub by_state : (o : Option ℕ) (f : ℕ → Option ℕ) (p : ℕ) → option_and_then f o ≡ Some p → (q : ℕ) × (o ≡ Some q) × (f q ≡ Some p)
by_state (Some q) f p e = (q, refl, e)
by_state None f p e = absurd (none_some e)

-- ---- sizes

-- a row past the last one has no cell
past_rows : (rows width q a : ℕ) → rows ≤ q → rows * width ≤ q * width + a
past_rows rows width q a past = omega (arith, mul-le-mul_left {m = rows} {n = q} width past, mul_comm width rows, mul_comm width q)

past_cells : {X : Type 0} (cells : List X) (rows width q a : ℕ) (d : X) → length cells ≡ rows * width → rows ≤ q → slice_index_or cells (q * width + a) d ≡ d
past_cells cells rows width q a d size past = let more = past_rows rows width q a past in get_or_past cells (q * width + a) d (omega (arith, size, more))

choose : {X : Type 0} (b : Bool) (x y d : X) → x ≡ d → y ≡ d → (if b then x else y) ≡ d
choose true x y d e f = e
choose false x y d e f = f

no_act : (t : Tables) (q a : ℕ) → length t.acts ≡ t.states * (t.tokens + 1) → t.states ≤ q → act_in t q a ≡ Error
no_act t q a size past = choose (nat_lt t.tokens a) Error (slice_index_or t.acts (q * (t.tokens + 1) + a) Error) Error refl (past_cells t.acts t.states (t.tokens + 1) q a Error size past)

no_goto : (t : Tables) (q n : ℕ) → length t.gotos ≡ t.states * t.names → t.states ≤ q → goto_in t q n ≡ None
no_goto t q n size past = choose (nat_lt n t.names) (slice_index_or t.gotos (q * t.names + n) None) None None (past_cells t.gotos t.states t.names q n None size past) refl

no_step : (t : Tables) → length t.acts ≡ t.states * (t.tokens + 1) → length t.gotos ≡ t.states * t.names → (q : ℕ) (x : Sym) → t.states ≤ q → step_by t q x ≡ None
no_step t acts gotos q (Token a) past = ap shift_of (no_act t q a acts past)
no_step t acts gotos q (Name n) past = no_goto t q n gotos past

pub size_law : SizeLaw
size_law t acts gotos q p x step = cases (cases_lt q t.states)
  where
    cases : (q < t.states) ⊎ (t.states ≤ q) → q < t.states
    cases (inl less) = less
    cases (inr past) = absurd (none_some (sym (no_step t acts gotos q x past) ∙ step))

-- ---- entries along symbols

-- a tree of a symbol along which the tables lead
named : (t : Tables) (q n p : ℕ) → goto_in t q n ≡ Some p → n < t.names
named t q n p e = go (nat_lt n t.names) refl
  where
    go : (b : Bool) → nat_lt n t.names ≡ b → n < t.names
    go true is = ltb-true n t.names is
    go false is = absurd (none_some (sym (ap (λ (b : Bool). if b then slice_index_or t.gotos (q * t.names + n) None else None) is) ∙ e))

abbrev some_token : ℕ → TextToken
some_token a = record { id = a; place = record { line = 0; start = 0; len = 0 } }

module _ {g : Grammar} {t : Tables} (lawful : IsLawfulFor g t) where
  tree_along : (q p : ℕ) (x : Sym) → step_by t q x ≡ Some p → (tree : Tree) × IsTree t.rules x tree
  tree_along q p (Token a) e = (Leaf (some_token a), token_tree refl)
  tree_along q p (Name n) e =
      let less : n < g.names = omega (arith, named t q n p e, lawful.names) in
      let found = (productive_tree_law g n).0 (lawful.productive n less) in
      (found.0, subst (λ (l : List Rule). IsTree l (Name n) found.0) (sym lawful.rules) found.1)

  along_more : (xs : List Sym) (s : List Entry) (x : Sym) (p state : ℕ) → IsStack t 0 s → step_by t (top 0 s) x ≡ Some p → ((entry : Entry) → IsStack t 0 (entry ∷ s) → entry.state ≡ p → IsAlong t (entry ∷ s) xs state) → IsAlong t s (x ∷ xs) state
  along_more xs s x p state is step go =
      let tree = tree_along (top 0 s) p x step in
      let entry : Entry = record { symbol = x; tree = tree.0; state = p } in
      let rest = go entry (pushed is tree.1 step) refl in
      record {
        upper = rest.upper ++ entry ∷ [];
        stack = subst (λ l. IsStack t 0 l) (sym (append_assoc rest.upper (entry ∷ []) s)) rest.stack;
        on_top = ap (top 0) (append_assoc rest.upper (entry ∷ []) s) ∙ rest.on_top;
        same = symbols-append rest.upper (entry ∷ []) ∙ ap (λ l. x ∷ l) rest.same;
      }

  pub along : (xs : List Sym) (s : List Entry) (state : ℕ) → IsStack t 0 s → walk_by t (top 0 s) xs ≡ Some state → IsAlong t s xs state
  along [] s state is e = record { upper = []; stack = is; on_top = same_Some _ _ e; same = refl }
  along (x ∷ xs) s state is e =
      let by = by_state (step_by t (top 0 s) x) (λ p. walk_by t p xs) state e in
      along_more xs s x by.0 state is by.1 (λ entry valid to. along xs (entry ∷ s) state valid (ap (λ q. walk_by t q xs) to ∙ by.2))

pub along_law : AlongLaw
along_law g t lawful s xs state is e = along lawful xs s state is e
