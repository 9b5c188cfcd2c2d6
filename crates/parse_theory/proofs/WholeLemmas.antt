-- A whole run ends.
use Rattle.std.proofs.Common.{◌≡◌, ◌≢◌, ℕ, suc, ◌<◌, ◌⊎◌, inl, inr, ⊎_elim, List, [], ◌∷◌, ◌++◌, All, refl, sym, ap, ◌∙◌, arith}
use Rattle.std.proofs.lemmas.List.Elements.{All-head, All-tail}
use Rattle.grammar_data.specs.declared.rule.Sym.{Sym}
use Rattle.grammar_data.specs.declared.rule.Sym.TheVariants.{Token, Name}
use Rattle.grammar_data.specs.declared.token.Token.{Token as TextToken}
use Rattle.grammar_data.specs.Grammar.{Grammar}
use Rattle.grammar_theory.specs.Rules.{TokensBelow, end_mark}
use Rattle.grammar_theory.specs.Trees.{Tree, token_tree}
use Rattle.grammar_theory.proofs.DerivationLaws.{sentence_law}
use Rattle.grammar_theory.proofs.RuleLemmas.{tokens_back}
use Rattle.item_theory.proofs.ItemLaws.{prefix_range_law}
use Rattle.table_data.specs.declared.act.Act.{Act}
use Rattle.table_data.specs.declared.act.Act.TheVariants.{Shift, Reduce, Accept, Error}
use Rattle.table_data.specs.Tables.{Tables, act_in, shift_of}
use Rattle.machine_theory.specs.Machine.{Entry, top, symbols, IsStack, bottom, pushed, shifted, Reaches, here, after_reduction, after_shift, Settles, shift_comes, accept_comes, after_one, Errs, Accepts, Rejects}
use Rattle.machine_theory.proofs.RunLemmas.{reaches_then}
use Rattle.lawful_theory.specs.Lawful.{IsLawfulFor}
use Rattle.lawful_theory.proofs.FitLemmas.{run_stack}
use Rattle.lawful_theory.proofs.SettleLemmas.{settle}
use Rattle.parse_theory.specs.Parses.{WholeLaw, SentenceOrWrongLaw}
use Rattle.parse_theory.proofs.ReadLemmas.{accept_item, sound}
use Rattle.parse_theory.proofs.ErrorLemmas.{reject_law}

-- the end of a run under one token: before a shift of it, an acceptance or an error
pub data Stands (t : Tables) (s : List Entry) (token : TextToken) (v : List TextToken) : Type 0 where
  before_shift : {last : List Entry} {p : ℕ} → Reaches t 0 s (token ∷ v) last (token ∷ v) → act_in t (top 0 last) token.id ≡ Shift p → Stands t s token v
  at_acceptance : {last : List Entry} → Reaches t 0 s (token ∷ v) last (token ∷ v) → act_in t (top 0 last) token.id ≡ Accept → Stands t s token v
  at_error : {last : List Entry} → Reaches t 0 s (token ∷ v) last (token ∷ v) → act_in t (top 0 last) token.id ≡ Error → Stands t s token v

stands_after : {t : Tables} {s next : List Entry} {token : TextToken} {v : List TextToken} → Reaches t 0 s (token ∷ v) next (token ∷ v) → Stands t next token v → Stands t s token v
stands_after run (before_shift more act) = before_shift (reaches_then run more) act
stands_after run (at_acceptance more act) = at_acceptance (reaches_then run more) act
stands_after run (at_error more act) = at_error (reaches_then run more) act

stands_of : {t : Tables} (token : TextToken) (v : List TextToken) {s : List Entry} → Settles t 0 token.id s → Stands t s token v
stands_of token v (shift_comes act) = before_shift here act
stands_of token v (accept_comes act) = at_acceptance here act
stands_of token v (after_one m more) = stands_after (after_reduction m here) (stands_of token v more)

-- the end of a whole run
pub data Ends (t : Tables) (s : List Entry) (u : List TextToken) (end : TextToken) : Type 0 where
  accepts_at : {last : List Entry} → Reaches t 0 s (u ++ end ∷ []) last (end ∷ []) → act_in t (top 0 last) end.id ≡ Accept → Ends t s u end
  errs_at : {index : ℕ} {token : TextToken} {state : ℕ} → Errs t 0 s (u ++ end ∷ []) index token state → Ends t s u end

ends_after : {t : Tables} {s next : List Entry} {token : TextToken} {u : List TextToken} {end : TextToken} → Reaches t 0 s (token ∷ (u ++ end ∷ [])) next (u ++ end ∷ []) → Ends t next u end → Ends t s (token ∷ u) end
ends_after run (accepts_at more act) = accepts_at (reaches_then run more) act
ends_after {token = token} run (errs_at errs) = errs_at (record {
  stack = errs.stack;
  before = token ∷ errs.before;
  later = errs.later;
  parts = ap (λ l. token ∷ l) errs.parts;
  at = ap suc errs.at;
  reached = reaches_then run errs.reached;
  state_on_top = errs.state_on_top;
  error = errs.error;
})

error_first : {t : Tables} {s last : List Entry} {token : TextToken} {v : List TextToken} → Reaches t 0 s (token ∷ v) last (token ∷ v) → act_in t (top 0 last) token.id ≡ Error → Errs t 0 s (token ∷ v) 0 token (top 0 last)
error_first {last = last} {v = v} run act = record { stack = last; before = []; later = v; parts = refl; at = refl; reached = run; state_on_top = refl; error = act }

end_below : (bound a : ℕ) (xs : List Sym) → TokensBelow bound (xs ++ Token a ∷ []) → a < bound
end_below bound a xs below = (tokens_back (λ b. b < bound) xs (Token a ∷ []) below).0

module _ {g : Grammar} {t : Tables} (lawful : IsLawfulFor g t) where
  stands : (s : List Entry) → IsStack t 0 s → (token : TextToken) (v : List TextToken) → Stands t s token v
  stands s is token v = cases (act_in t (top 0 s) token.id) refl
    where
      settled : act_in t (top 0 s) token.id ≢ Error → Stands t s token v
      settled acts = stands_of token v (settle lawful is acts)

      cases : (act : Act) → act_in t (top 0 s) token.id ≡ act → Stands t s token v
      cases (Shift p) e = before_shift here e
      cases (Reduce r) e = settled (λ error. reduce_error (sym e ∙ error))
        where
          reduce_error : Reduce r ≡ Error → ⊥
          reduce_error f = cc
      cases Accept e = at_acceptance here e
      cases Error e = at_error here e

  -- the end mark isn't shifted
  pub no_end_shift : {s : List Entry} {a p : ℕ} → IsStack t 0 s → a ≡ end_mark g → act_in t (top 0 s) a ≡ Shift p → ⊥
  no_end_shift {s} {a} {p} is e act =
      let viable = (lawful.steps s (Token a) is).0 (p, ap shift_of act) in
      let less = end_below g.tokens a (symbols s) (prefix_range_law g lawful.range (symbols s ++ Token a ∷ []) viable).1 in
      omega (arith, less, e)

  end_of : (end : TextToken) → end.id ≡ end_mark g → {s : List Entry} → IsStack t 0 s → Stands t s end [] → Ends t s [] end
  end_of end e is (before_shift run act) = absurd (no_end_shift (run_stack lawful run is) e act)
  end_of end e is (at_acceptance run act) = accepts_at run act
  end_of end e is (at_error run act) = errs_at (error_first run act)

  more_of : {s : List Entry} (token : TextToken) (u : List TextToken) (end : TextToken) → token.id ≢ t.tokens → IsStack t 0 s → ((next : List Entry) → IsStack t 0 next → Ends t next u end) → Stands t s token (u ++ end ∷ []) → Ends t s (token ∷ u) end
  more_of token u end not_end is go (before_shift {last = last} {p = p} run act) =
      ends_after (reaches_then run (after_shift act here)) (go (shifted token p ∷ last) (pushed (run_stack lawful run is) (token_tree refl) (ap shift_of act)))
  more_of token u end not_end is go (at_acceptance run act) = absurd (not_end ((accept_item lawful (run_stack lawful run is) act).1 ∙ sym lawful.tokens))
  more_of token u end not_end is go (at_error run act) = errs_at (error_first run act)

  whole_from : (u : List TextToken) (end : TextToken) → All (λ (token : TextToken). token.id ≢ t.tokens) u → end.id ≡ t.tokens → (s : List Entry) → IsStack t 0 s → Ends t s u end
  whole_from [] end all e s is = end_of end (e ∙ lawful.tokens) is (stands s is end [])
  whole_from (token ∷ u) end all e s is =
      more_of token u end (All-head (λ (x : TextToken). x.id ≢ t.tokens) token u all) is
      (λ next below. whole_from u end (All-tail (λ (x : TextToken). x.id ≢ t.tokens) token u all) e next below)
      (stands s is token (u ++ end ∷ []))

  -- the stack of an acceptance is one entry
  accepted : {u : List TextToken} {end : TextToken} (last : List Entry) → symbols last ≡ Name g.start ∷ [] → Reaches t 0 [] (u ++ end ∷ []) last (end ∷ []) → act_in t (top 0 last) end.id ≡ Accept → (tree : Tree) × Accepts t u end tree
  accepted [] one run act = absurd (cc)
  accepted (e ∷ []) one run act = (e.tree, record { symbol = e.symbol; state = e.state; reached = run; accept = act })
  accepted (e ∷ f ∷ last) one run act = absurd (longer (symbols last) f.symbol e.symbol one)
    where
      longer : (xs : List Sym) (y z : Sym) {x : Sym} → (xs ++ y ∷ []) ++ z ∷ [] ≡ x ∷ [] → ⊥
      longer [] y z h = cc
      longer (u ∷ []) y z h = cc
      longer (u ∷ w ∷ xs) y z h = cc

  answer : {u : List TextToken} {end : TextToken} → Ends t [] u end → ((tree : Tree) × Accepts t u end tree) ⊎ ((index : ℕ) × (token : TextToken) × (state : ℕ) × Rejects t u end index token state)
  answer (accepts_at {last = last} run act) = inl (accepted last (accept_item lawful (run_stack lawful run bottom) act).0 run act)
  answer (errs_at {index = index} {token = token} {state = state} errs) = inr (index, token, state, errs)

pub whole_law : WholeLaw
whole_law g t lawful tokens end all e = answer lawful (whole_from lawful tokens end all e [] bottom)

end_for : Tables → TextToken
end_for t = record { id = t.tokens; place = record { line = 0; start = 0; len = 0 } }

pub sentence_or_wrong_law : SentenceOrWrongLaw
unfolding end_for
sentence_or_wrong_law g t lawful tokens all =
    ⊎_elim
    (λ (tree, accepts). let is = sound lawful accepts in inl ((sentence_law g tokens).1 (tree, is.0, is.1)))
    (λ (index, token, state, rejects). inr (index, (reject_law g t lawful tokens (end_for t) index token state refl rejects).place))
    (whole_law g t lawful tokens (end_for t) all refl)
