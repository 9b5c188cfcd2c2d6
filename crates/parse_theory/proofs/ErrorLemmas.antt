-- The first error of a run is exact: what goes on, what doesn't, and what is expected.
use Rattle.std.proofs.Common.{◌≡◌, ◌≢◌, ℕ, zero, suc, ◌<◌, ◌≤◌, inl, inr, ⊎_elim, List, [], ◌∷◌, ◌++◌, length, take, get_or, map, Some, refl, sym, ap, ◌∙◌, subst, append_assoc, append-nil, arith}
use Rattle.std.proofs.lemmas.List.{append_cancel_right, length-append, length-map}
use Rattle.std.proofs.Math.Seq.{take-append_seam}
use Rattle.grammar_data.specs.declared.token.Token.{Token as TextToken}
use Rattle.grammar_data.specs.Grammar.{Rule, Grammar}
use Rattle.grammar_theory.specs.Rules.{end_mark}
use Rattle.grammar_theory.specs.Derivations.{Derives, IsSentence, GoesOn, goes_on, ends}
use Rattle.grammar_theory.specs.Trees.{Tree, ids_of}
use Rattle.grammar_theory.proofs.Lists.{Splits, in_first, in_second, splits}
use Rattle.grammar_theory.proofs.DerivationLaws.{sentence_law}
use Rattle.grammar_theory.proofs.TreeLemmas.{ids_of-append}
use Rattle.item_theory.specs.Items.{first_or, Deed, Shift as to_shift, Reduce as to_reduce, Accept as to_accept}
use Rattle.next_theory.specs.GoingOn.{token_at, GoesOnAt}
use Rattle.next_theory.proofs.NextLemmas.{next_of_act, next_sentence_law}
use Rattle.table_data.specs.declared.act.Act.{Act}
use Rattle.table_data.specs.declared.act.Act.TheVariants.{Shift, Reduce, Accept, Error}
use Rattle.table_data.specs.Tables.{Tables, act_in, shift_of}
use Rattle.table_theory.specs.Canonical.{deed_of}
use Rattle.machine_theory.specs.Machine.{Entry, top, symbols, tokens_of, IsStack, bottom, pushed, Reduces, Reaches, here, after_reduction, after_shift, Accepts}
use Rattle.machine_theory.proofs.RunLemmas.{compared, stops, run_length, another_rest, reaches_more, errs_here}
use Rattle.machine_theory.proofs.StackLemmas.{tokens_reduced, run_tokens, stack_derives}
use Rattle.grammar_theory.specs.Trees.{token_tree}
use Rattle.lawful_theory.specs.Lawful.{IsLawfulFor}
use Rattle.lawful_theory.proofs.FitLemmas.{next_stack, run_stack, no_late_error}
use Rattle.parse_theory.specs.Parses.{IsFirstError, FirstErrorLaw, IsWrongIn, RejectLaw}
use Rattle.parse_theory.proofs.ReadLemmas.{complete}

-- ---- what a stack does, its tokens go on with

some_deed : (act : Act) → act ≢ Error → (deed : Deed) × (deed_of act ≡ Some deed)
some_deed (Shift p) acts = (to_shift, refl)
some_deed (Reduce r) acts = (to_reduce r, refl)
some_deed Accept acts = (to_accept, refl)
some_deed Error acts = absurd (acts refl)

pub goes_with : {g : Grammar} {t : Tables} → IsLawfulFor g t → {s : List Entry} {a : ℕ} → IsStack t 0 s → act_in t (top 0 s) a ≢ Error → GoesOn g (ids_of (tokens_of s)) a
goes_with {g} {t} lawful {s} {a} is acts =
    let deed = some_deed (act_in t (top 0 s) a) acts in
    let has = (lawful.acts s a is deed.0).0 deed.1 in
    next_sentence_law g lawful.range (symbols s) (ids_of (tokens_of s)) a
    (subst (λ (l : List Rule). Derives l (symbols s) (ids_of (tokens_of s))) lawful.rules (stack_derives is))
    (next_of_act g lawful.range lawful.productive has.1 has.2)

shift_acts_on : {act : Act} {p : ℕ} → act ≡ Shift p → act ≢ Error
shift_acts_on e error = shift_error (sym e ∙ error)
  where
    shift_error : {p : ℕ} → Shift p ≡ Error → ⊥
    shift_error e = cc

same_first : {x y : TextToken} {xs ys : List TextToken} → x ∷ xs ≡ y ∷ ys → x ≡ y
same_first e = cc

same_rest : {x y : TextToken} {xs ys : List TextToken} → x ∷ xs ≡ y ∷ ys → xs ≡ ys
same_rest e = cc

-- a list of which a proper end is as long as the list is none
not_longer : (front : List TextToken) (b : TextToken) (more v : List TextToken) → v ≡ front ++ b ∷ more → length v ≤ length more → ⊥
not_longer front b more v e le =
    let count = ap length e ∙ length-append front (b ∷ more) in
    omega (arith, count, le)

module _ {g : Grammar} {t : Tables} (lawful : IsLawfulFor g t) where
  -- the tokens that a run takes go on one after another
  goes_earlier : {s last : List Entry} {u v : List TextToken} → Reaches t 0 s u last v → IsStack t 0 s → (front : List TextToken) (b : TextToken) (more : List TextToken) → u ≡ front ++ b ∷ more → length v ≤ length more → GoesOn g (ids_of (tokens_of s ++ front)) b.id
  goes_earlier (here {u = u}) is front b more e le = absurd (not_longer front b more u e le)
  goes_earlier (after_reduction m run) is front b more e le = subst (λ l. GoesOn g (ids_of (l ++ front)) b.id) (sym (tokens_reduced m)) (goes_earlier run (next_stack lawful is m) front b more e le)
  goes_earlier (after_shift {s = s} {token = token} act run) is [] b more e le =
      subst (λ l. GoesOn g (ids_of l) b.id) (sym (append-nil (tokens_of s)))
      (subst (λ (x : TextToken). GoesOn g (ids_of (tokens_of s)) x.id) (same_first e) (goes_with lawful is (shift_acts_on act)))
  goes_earlier (after_shift {s = s} {token = token} act run) is (x ∷ front) b more e le =
      subst (λ l. GoesOn g (ids_of l) b.id)
      (append_assoc (tokens_of s) (token ∷ []) front ∙ ap (λ y. tokens_of s ++ y ∷ front) (same_first e))
      (goes_earlier run (pushed is (token_tree refl) (ap shift_of act)) front b more (same_rest e) le)

  -- under a token that errs no reduction was made
  at_token : {s last : List Entry} {u v : List TextToken} → Reaches t 0 s u last v → IsStack t 0 s → (token : TextToken) (later : List TextToken) → u ≡ token ∷ later → v ≡ token ∷ later → act_in t (top 0 s) token.id ≢ Error → act_in t (top 0 last) token.id ≢ Error
  at_token here is token later e f acts = acts
  at_token (after_reduction {next = next} m run) is token later e f acts =
      at_token run (next_stack lawful is m) token later e f
      (subst (λ (x : TextToken). act_in t (top 0 next) x.id ≢ Error) (same_first e) (no_late_error lawful is m))
  at_token (after_shift {u = u} {v = v} act run) is token later e f acts =
      let less = run_length run in
      let count = ap length f in
      let rest = ap length (same_rest e) in
      absurd (omega (arith, less, count, rest))

  -- so the run to the error is one over the tokens before it alone
  before_alone : {s last : List Entry} {u v : List TextToken} → Reaches t 0 s u last v → IsStack t 0 s → (front : List TextToken) (token : TextToken) (later : List TextToken) → u ≡ front ++ token ∷ later → v ≡ token ∷ later → act_in t (top 0 last) token.id ≡ Error → Reaches t 0 s front last []
  before_alone here is [] token later e f error = here
  before_alone (here {u = u}) is (b ∷ front) token later e f error =
      let count = ap length e ∙ length-append (b ∷ front) (token ∷ later) in
      let rest = ap length f in
      absurd (omega (arith, count, rest))
  before_alone (after_reduction {next = next} m run) is [] token later e f error =
      absurd (at_token run (next_stack lawful is m) token later e f (subst (λ (x : TextToken). act_in t (top 0 next) x.id ≢ Error) (same_first e) (no_late_error lawful is m)) error)
  before_alone (after_reduction {s = s} {next = next} m run) is (b ∷ front) token later e f error =
      after_reduction (subst (λ (x : TextToken). Reduces t 0 x.id s next) (same_first e) m) (before_alone run (next_stack lawful is m) (b ∷ front) token later e f error)
  before_alone (after_shift {u = u} act run) is [] token later e f error =
      let less = run_length run in
      let count = ap length f in
      let rest = ap length (same_rest e) in
      absurd (omega (arith, less, count, rest))
  before_alone (after_shift {s = s} {last = last} act run) is (b ∷ front) token later e f error =
      subst (λ x. Reaches t 0 s (x ∷ front) last []) (same_first e)
      (after_shift act (before_alone run (pushed is (token_tree refl) (ap shift_of act)) front token later (same_rest e) f error))

-- ---- no sentence goes on with a token that errs

error_accept : {act : Act} → act ≡ Error → act ≡ Accept → ⊥
error_accept e f = error_is_accept (sym e ∙ f)
  where
    error_is_accept : Error ≡ Accept → ⊥
    error_is_accept e = cc

-- text tokens of these numbers
tokens_for : List ℕ → List TextToken
tokens_for v = map (λ a. record { id = a; place = record { line = 0; start = 0; len = 0 } }) v

ids_of_tokens : (v : List ℕ) → ids_of (tokens_for v) ≡ v
unfolding tokens_for
ids_of_tokens [] = refl
ids_of_tokens (a ∷ v) = ap (λ l. a ∷ l) (ids_of_tokens v)

end_for : Tables → TextToken
end_for t = record { id = t.tokens; place = record { line = 0; start = 0; len = 0 } }

two_more : (token end : TextToken) (others : List TextToken) → end ∷ [] ≡ token ∷ (others ++ end ∷ []) → ⊥
two_more token end others e =
    let count = ap length e in
    let more = length-append others (end ∷ []) in
    omega (arith, count, more)

-- a run that errs at the token is no part of a run that accepts with more behind it
not_accepted_on : {t : Tables} (before later others : List TextToken) (token end : TextToken) {stack : List Entry} {tree : Tree} → Reaches t 0 [] (before ++ token ∷ later) stack (token ∷ later) → act_in t (top 0 stack) token.id ≡ Error → Accepts t (before ++ token ∷ others) end tree → ⊥
not_accepted_on {t} before later others token end {stack} {tree} run error accepted =
    ⊎_elim
    (λ more. two_more token end others (stops more token (others ++ end ∷ []) refl (inl error)).1)
    (λ more. two_more token end others (sym (stops more end [] refl (inr accepted.accept)).1))
    (compared (another_rest run before token later (others ++ end ∷ []) refl refl) (subst (λ l. Reaches t 0 [] l (record { symbol = accepted.symbol; tree = tree; state = accepted.state } ∷ []) (end ∷ [])) (append_assoc before (token ∷ others) (end ∷ [])) accepted.reached))

-- nor of one that accepts under this token
not_accepted_at : {t : Tables} (before later : List TextToken) (token : TextToken) {stack : List Entry} {tree : Tree} → Reaches t 0 [] (before ++ token ∷ later) stack (token ∷ later) → act_in t (top 0 stack) token.id ≡ Error → Accepts t before token tree → ⊥
not_accepted_at {t} before later token {stack} {tree} run error accepted =
    ⊎_elim
    (λ more. error_accept (ap (λ l. act_in t (top 0 l) token.id) (stops more token [] refl (inl error)).0 ∙ error) accepted.accept)
    (λ more. error_accept error (ap (λ l. act_in t (top 0 l) token.id) (stops more token [] refl (inr accepted.accept)).0 ∙ accepted.accept))
    (compared (another_rest run before token later [] refl refl) accepted.reached)

module _ {g : Grammar} {t : Tables} (lawful : IsLawfulFor g t) where
  accepted_sentence : (tokens : List TextToken) (end : TextToken) → end.id ≡ t.tokens → {w : List ℕ} → ids_of tokens ≡ w → IsSentence g w → (tree : Tree) × Accepts t tokens end tree
  accepted_sentence tokens end e at d =
      let tree = (sentence_law g tokens).0 (subst (λ l. IsSentence g l) (sym at) d) in
      (tree.0, subst (λ l. Accepts t l end tree.0) tree.2 (complete lawful e tree.1))

  pub not_on : (before later : List TextToken) (token : TextToken) {stack : List Entry} {a : ℕ} → Reaches t 0 [] (before ++ token ∷ later) stack (token ∷ later) → act_in t (top 0 stack) token.id ≡ Error → token.id ≡ a → GoesOn g (ids_of before) a → ⊥
  unfolding end_for
  not_on before later token {a = a} run error same (goes_on v d) =
      let line : ids_of (before ++ token ∷ tokens_for v) ≡ ids_of before ++ a ∷ v = ids_of-append before (token ∷ tokens_for v) ∙ ap (λ c. ids_of before ++ c ∷ ids_of (tokens_for v)) same ∙ ap (λ l. ids_of before ++ a ∷ l) (ids_of_tokens v) in
      not_accepted_on before later (tokens_for v) token (end_for t) run error (accepted_sentence (before ++ token ∷ tokens_for v) (end_for t) refl line d).1
  not_on before later token run error same (ends e d) =
      not_accepted_at before later token run error (accepted_sentence before token (same ∙ e ∙ sym lawful.tokens) refl d).1

  pub first_error : (before later : List TextToken) (token : TextToken) (stack : List Entry) → Reaches t 0 [] (before ++ token ∷ later) stack (token ∷ later) → act_in t (top 0 stack) token.id ≡ Error → IsFirstError g t before token (top 0 stack)
  first_error before later token stack run error = record {
    earlier = λ front b back at. goes_earlier lawful run bottom front b (back ++ token ∷ later) (ap (λ l. l ++ token ∷ later) at ∙ append_assoc front (b ∷ back) (token ∷ later)) (longer back);
    wrong = λ goes. not_on before later token run error refl goes;
    expected = λ a. (λ acts. subst (λ l. GoesOn g (ids_of l) a) taken (goes_with lawful (run_stack lawful run bottom) acts), λ goes none. not_on before [] (other a) (reaches_more (other a ∷ []) alone) none refl goes);
  }
    where
      longer : (back : List TextToken) → length (token ∷ later) ≤ length (back ++ token ∷ later)
      longer back = let count = length-append back (token ∷ later) in omega (arith, count)

      taken : tokens_of stack ≡ before
      taken = sym (append_cancel_right before (tokens_of stack) (token ∷ later) (run_tokens run))

      alone : Reaches t 0 [] before stack []
      alone = before_alone lawful run bottom before token later refl refl error

      other : ℕ → TextToken
      other a = record { id = a; place = record { line = 0; start = 0; len = 0 } }

pub first_error_law : FirstErrorLaw
first_error_law g t lawful before later token stack run error = first_error lawful before later token stack run error

-- ---- a whole run that errs

at_seam : (front back : List ℕ) (d : ℕ) → get_or (front ++ back) (length front) d ≡ first_or d back
at_seam [] [] d = refl
at_seam [] (b ∷ back) d = refl
at_seam (a ∷ front) back d = at_seam front back d

-- a front goes on with what stands behind it exactly where the whole list goes on at this place
goes_at : (g : Grammar) (front back w : List ℕ) {a : ℕ} → w ≡ front ++ back → a ≡ first_or (end_mark g) back → GoesOn g front a → GoesOnAt g w (length front)
goes_at g front back w {a} e first goes =
    subst (λ l. GoesOnAt g l (length front)) (sym e)
    (subst (λ l. GoesOn g l (token_at g (front ++ back) (length front))) (sym (take-append_seam front back))
    (subst (λ c. GoesOn g front c) (first ∙ sym (at_seam front back (end_mark g))) goes))

goes_back : (g : Grammar) (front back w : List ℕ) {a : ℕ} → w ≡ front ++ back → a ≡ first_or (end_mark g) back → GoesOnAt g w (length front) → GoesOn g front a
goes_back g front back w {a} e first goes =
    subst (λ c. GoesOn g front c) (at_seam front back (end_mark g) ∙ sym first)
    (subst (λ l. GoesOn g l (token_at g (front ++ back) (length front))) (take-append_seam front back)
    (subst (λ l. GoesOnAt g l (length front)) e goes))

-- the list parted at one of its places
pub record IsPartedAt (xs : List TextToken) (j : ℕ) : Type 0 where
  pub front : List TextToken
  pub b : TextToken
  pub back : List TextToken
  pub parts : xs ≡ front ++ b ∷ back
  pub place : length front ≡ j

parted_more : (x : TextToken) {xs : List TextToken} {j : ℕ} → IsPartedAt xs j → IsPartedAt (x ∷ xs) (suc j)
parted_more x p = record { front = x ∷ p.front; b = p.b; back = p.back; parts = ap (λ l. x ∷ l) p.parts; place = ap suc p.place }

parted_at : (xs : List TextToken) (j : ℕ) → j < length xs → IsPartedAt xs j
parted_at [] j less = absurd (omega (arith, less))
parted_at (x ∷ xs) zero less = record { front = []; b = x; back = xs; parts = refl; place = refl }
parted_at (x ∷ xs) (suc j) less = parted_more x (parted_at xs j (omega (arith, less)))

length-ids : (tokens : List TextToken) → length (ids_of tokens) ≡ length tokens
length-ids tokens = length-map tokens (λ token. token.id)

wrong_in : (g : Grammar) (t : Tables) (tokens before rest : List TextToken) (token : TextToken) {state : ℕ} → tokens ≡ before ++ rest → token.id ≡ first_or (end_mark g) (ids_of rest) → IsFirstError g t before token state → IsWrongIn g t (ids_of tokens) (length before) token.id state
wrong_in g t tokens before rest token {state} parts there error = record {
  place = record {
    within = (let count = ap length line ∙ length-append (ids_of before) (ids_of rest) in let same = length-ids before in omega (arith, count, same));
    earlier = λ j less. earlier j (parted_at before j less);
    wrong = λ goes. error.wrong (goes_back g (ids_of before) (ids_of rest) (ids_of tokens) line there (subst (λ k. GoesOnAt g (ids_of tokens) k) (sym (length-ids before)) goes));
  };
  token_there = there ∙ sym (at_seam (ids_of before) (ids_of rest) (end_mark g)) ∙ ap (λ l. get_or l (length (ids_of before)) (end_mark g)) (sym line) ∙ ap (λ k. get_or (ids_of tokens) k (end_mark g)) (length-ids before);
  expected = λ a. (λ acts. subst (λ l. GoesOn g l a) (sym front_is) ((error.expected a).0 acts), λ goes. (error.expected a).1 (subst (λ l. GoesOn g l a) front_is goes));
}
  where
    line : ids_of tokens ≡ ids_of before ++ ids_of rest
    line = ap ids_of parts ∙ ids_of-append before rest

    front_is : take (length before) (ids_of tokens) ≡ ids_of before
    front_is = ap (λ k. take k (ids_of tokens)) (sym (length-ids before)) ∙ ap (λ l. take (length (ids_of before)) l) line ∙ take-append_seam (ids_of before) (ids_of rest)

    earlier : (j : ℕ) → IsPartedAt before j → GoesOnAt g (ids_of tokens) j
    earlier j p =
        subst (λ k. GoesOnAt g (ids_of tokens) k) (length-ids p.front ∙ p.place)
        (goes_at g (ids_of p.front) (ids_of (p.b ∷ (p.back ++ rest))) (ids_of tokens)
        (ap ids_of (parts ∙ ap (λ l. l ++ rest) p.parts ∙ append_assoc p.front (p.b ∷ p.back) rest) ∙ ids_of-append p.front (p.b ∷ (p.back ++ rest)))
        refl (error.earlier p.front p.b p.back p.parts))

one_left : (end token : TextToken) (mid later : List TextToken) → end ∷ [] ≡ mid ++ token ∷ later → (mid ≡ []) × (end ≡ token)
one_left end token [] later e = (refl, same_first e)
one_left end token (x ∷ []) later e = absurd (cc)
one_left end token (x ∷ y ∷ mid) later e = absurd (cc)

wrong_cases : (g : Grammar) (t : Tables) (tokens before later : List TextToken) (end token : TextToken) {state : ℕ} → end.id ≡ end_mark g → Splits tokens (end ∷ []) before token later → IsFirstError g t before token state → IsWrongIn g t (ids_of tokens) (length before) token.id state
wrong_cases g t tokens before later end token mark (in_first mid at rest) error = wrong_in g t tokens before (token ∷ mid) token at refl error
wrong_cases g t tokens before later end token mark (in_second mid at rest) error =
    let only = one_left end token mid later rest in
    wrong_in g t tokens before [] token (sym (at ∙ ap (λ l. tokens ++ l) only.0 ∙ append-nil tokens) ∙ sym (append-nil before)) (ap (λ (x : TextToken). x.id) (sym only.1) ∙ mark) error

pub reject_law : RejectLaw
reject_law g t lawful tokens end index token state e errs =
    let run : Reaches t 0 [] (errs.before ++ token ∷ errs.later) errs.stack (token ∷ errs.later) = subst (λ l. Reaches t 0 [] l errs.stack (token ∷ errs.later)) errs.parts errs.reached in
    let error = subst (λ q. IsFirstError g t errs.before token q) errs.state_on_top (first_error lawful errs.before errs.later token errs.stack run (errs_here errs)) in
    subst (λ k. IsWrongIn g t (ids_of tokens) k token.id state) errs.at
    (wrong_cases g t tokens errs.before errs.later end token (e ∙ lawful.tokens) (splits tokens (end ∷ []) errs.before token errs.later errs.parts) error)
