-- A sample text while it is made: what of it stands, and what is left to do.
use Rattle.std.proofs.Common.{◌≡◌, ℕ, suc, ◌+◌, ◌-◌, ◌<◌, ◌≤◌, List, [], ◌∷◌, ◌++◌, All, length, drop, get_or, reverse, refl, sym, ap, ◌∙◌, subst, arith, append_assoc}
use Rattle.std.specs.Option.{option_map}
use Rattle.std.specs.Prelude.{slice_get, Option, Some, Result, Ok, Err, IfErr}
use Rattle.std.specs.Result.{IsErrAnd}
use Rattle.std.proofs.Math.Seq.{drop-cons}
use Rattle.std.proofs.lemmas.List.{append-nil, drop_all, get_or-reverse, length-reverse, reverse-append, reverse-reverse}
use Rattle.std.proofs.lemmas.List.Elements.{All-cons, All-head, All-tail}
use Rattle.std.proofs.lemmas.List.Concat.{flat_map-append}
use Rattle.grammar_data.specs.declared.rule.Sym.{Sym}
use Rattle.grammar_data.specs.declared.rule.Sym.TheVariants.{Token, Name}
use Rattle.grammar_data.specs.Grammar.{Rule, Grammar}
use Rattle.grammar_laws.proofs.RangeLemmas.{in_range, names_below}
use Rattle.grammar_theory.specs.Rules.{IsRule}
use Rattle.lr_base.specs.IsGrammar.{IsGrammar, IsSymbolOf}
use Rattle.pattern_data.specs.declared.pattern.Meaning.{Meaning}
use Rattle.token_patterns.specs.Scanner.{Table}
use Rattle.sample_text.specs.declared.closing.Closing.{Closing}
use Rattle.sample_text.specs.declared.fault.SampleFault.{SampleFault}
use Rattle.sample_text.specs.declared.fault.SampleFault.TheVariants.{NoSample as NoSampleOf, TooLong as TooLongText, NoMemory}
use Rattle.sample_text.specs.Answering.{IsFault}
use Rattle.sample_text.specs.Closings.{HaveClosings}
use Rattle.sample_text.specs.Wording.{IsScannedBy, IsUnwritten, IsWritten}
use Rattle.grammar_theory.proofs.RuleLemmas.{rule_once}
use Rattle.lr_base.specs.declared.limits.TheConstants.{TEXT_BYTES}
use Rattle.scanning_theory.specs.Lines.{line_feed}
use Rattle.scanning_theory.specs.Scan.{Scanning}
use Rattle.sample_theory.specs.Choices.{AreChosen, no_symbol, takes_token, draws_rule, closes_name, AreChosenTokens, HaveClosingRules}
use Rattle.sample_theory.specs.ClosingRules.{IsClosingRule}
use Rattle.sample_theory.specs.Samples.{IsWordFor, HasNoWordFor, AreWordsFor, no_token, word_first, lines_of, IsSample, Text, NoSample, TooLong}
use Rattle.sample_theory.proofs.ChoiceLemmas.{some_choice}
use Rattle.sample_theory.proofs.SampleLemmas.{words_append}
use Rattle.sample_text.specs.Choosing.{IsChoice, is_drawn, is_closed}

-- the words of the first tokens stand in the text, and with whatever is chosen for the symbols that are left behind them the
-- tokens are of a set
pub record IsMaking (scanning : Scanning) (g : Grammar) (from size : ℕ) (IsWhole : List ℕ → Type 0) (drawn : ℕ) (left : List Sym) (text : List ℕ) : Type 0 where
  pub tokens : List ℕ
  pub words : List (List ℕ)
  pub are : AreWordsFor scanning tokens words
  pub is : text ≡ lines_of words
  pub chosen : (rest : List ℕ) → AreChosen g from size drawn left rest → IsWhole (tokens ++ rest)

-- with whatever is chosen for the symbols that are left they are the chosen tokens
abbrev pub IsSampling : Scanning → Grammar → ℕ → ℕ → ℕ → List Sym → List ℕ → Type 0
IsSampling scanning g from size drawn left text = IsMaking scanning g from size (AreChosenTokens g from size) drawn left text

-- the words of further tokens stand behind the text, which are chosen for the first of the symbols
pub makes : {scanning : Scanning} {g : Grammar} {from size drawn : ℕ} {IsWhole : List ℕ → Type 0} {old left : List Sym} {text : List ℕ} (more : List ℕ) (words : List (List ℕ))
    → IsMaking scanning g from size IsWhole drawn old text → AreWordsFor scanning more words
    → ((rest : List ℕ) → AreChosen g from size drawn left rest → AreChosen g from size drawn old (more ++ rest))
    → IsMaking scanning g from size IsWhole drawn left (text ++ lines_of words)
makes {IsWhole = IsWhole} more words s are chosen = record {
  tokens = s.tokens ++ more;
  words = s.words ++ words;
  are = words_append s.are are;
  is = ap (λ l. l ++ lines_of words) s.is ∙ sym (flat_map-append (λ (w : List ℕ). w ++ line_feed ∷ []) s.words words);
  chosen = λ rest all. subst IsWhole (sym (append_assoc s.tokens more rest)) (s.chosen (more ++ rest) (chosen rest all));
}

-- a closing rule's right side stands in place of its name
pub closes : {scanning : Scanning} {g : Grammar} {from size drawn : ℕ} {IsWhole : List ℕ → Type 0} {left : List Sym} {text : List ℕ} {n rule : ℕ} {right : List Sym}
    → IsMaking scanning g from size IsWhole drawn (Name n ∷ left) text → size ≤ drawn → IsClosingRule g n rule right → IsMaking scanning g from size IsWhole drawn (right ++ left) text
closes s all closing = record { tokens = s.tokens; words = s.words; are = s.are; is = s.is; chosen = λ rest chosen. s.chosen rest (closes_name all closing chosen) }

module _ (scanning : Scanning) (g : Grammar) (from size : ℕ) where
  pub begins : IsSampling scanning g from size 0 (Name g.start ∷ []) []
  begins = record { tokens = []; words = []; are = no_token; is = refl; chosen = λ rest chosen. chosen }

  module _ (drawn : ℕ) (left : List Sym) (text : List ℕ) where
    pub writes : (a : ℕ) (word : List ℕ) → IsSampling scanning g from size drawn (Token a ∷ left) text → IsWordFor scanning a word → IsSampling scanning g from size drawn left (text ++ (word ++ line_feed ∷ []))
    writes a word s for_a = subst (λ l. IsSampling scanning g from size drawn left (text ++ l)) (append-nil (word ++ line_feed ∷ []))
        (makes (a ∷ []) (word ∷ []) s (word_first for_a no_token) (λ rest chosen. takes_token chosen))

    pub goes_on : (n r now : ℕ) → IsSampling scanning g from size drawn (Name n ∷ left) text → IsChoice g from size drawn n r now → (right : List Sym) → IsRule g.rules r n right → IsSampling scanning g from size now (right ++ left) text
    goes_on n r now s (is_drawn {right = side} less later drew) right rule =
        let same = (rule_once drew.rule rule).1 in
        record {
          tokens = s.tokens;
          words = s.words;
          are = s.are;
          is = s.is;
          chosen = λ rest chosen. s.chosen rest (draws_rule less drew
              (subst (λ k. AreChosen g from size k (side ++ left) rest) later (subst (λ l. AreChosen g from size now (l ++ left) rest) (sym same) chosen)));
        }
    goes_on n r now s (is_closed {right = side} all same_count closing) right rule =
        let same = (rule_once closing.rule rule).1 in
        subst (λ k. IsSampling scanning g from size k (right ++ left) text) (sym same_count) (subst (λ l. IsSampling scanning g from size drawn (l ++ left) text) same (closes s all closing))

    pub is_without : (a : ℕ) → IsSampling scanning g from size drawn (Token a ∷ left) text → length text ≤ TEXT_BYTES → HasNoWordFor scanning a → (rest : List ℕ) → AreChosen g from size drawn left rest → IsSample scanning g from size (NoSample a)
    is_without a s fits none rest chosen = record {
      before = s.tokens;
      after = rest;
      chosen = s.chosen (a ∷ rest) (takes_token chosen);
      words = s.words;
      are = s.are;
      fits = let size_is = ap length s.is in omega (arith, size_is, fits);
      none = none;
    }

    pub is_long : IsSampling scanning g from size drawn left text → TEXT_BYTES < length text → (rest : List ℕ) → AreChosen g from size drawn left rest → IsSample scanning g from size TooLong
    is_long s long rest chosen = record {
      before = s.tokens;
      after = rest;
      chosen = s.chosen rest chosen;
      words = s.words;
      are = s.are;
      long = let size_is = ap length s.is in omega (arith, size_is, long);
    }

  pub is_text : (drawn : ℕ) (text : List ℕ) → IsSampling scanning g from size drawn [] text → length text ≤ TEXT_BYTES → IsSample scanning g from size (Text text)
  is_text drawn text s fits = record {
    tokens = s.tokens;
    chosen = subst (AreChosenTokens g from size) (append-nil s.tokens) (s.chosen [] no_symbol);
    words = s.words;
    are = s.are;
    is = s.is;
    fits = fits;
  }

-- ---- the symbols that are left, from the last one to the first
pub popped_left : (old new : List Sym) (x : Sym) → old ≡ new ++ x ∷ [] → reverse old ≡ x ∷ reverse new
popped_left old new x e = ap reverse e ∙ reverse-append new (x ∷ [])

pub pushed_left : (old new right : List Sym) → new ≡ old ++ reverse right → reverse new ≡ right ++ reverse old
pushed_left old new right e = ap reverse e ∙ reverse-append old (reverse right) ∙ ap (λ l. l ++ reverse old) (reverse-reverse right)

pub first_turned : (todo right : List Sym) → todo ≡ todo ++ reverse (drop (length right - 0) right)
first_turned todo right = sym (ap (λ l. todo ++ reverse l) (drop_all (length right - 0) right (omega arith)) ∙ append-nil todo)

-- one symbol more of a right side that is put from its last one to its first
pub turned_more : (old todo new right : List Sym) (place : ℕ) (x : Sym) → place < length right → todo ≡ old ++ reverse (drop (length right - place) right) → x ≡ get_or right (length right - 1 - place) x → new ≡ todo ++ x ∷ [] → new ≡ old ++ reverse (drop (length right - (place + 1)) right)
turned_more old todo new right place x below is here pushed =
    let k : ℕ = length right - 1 - place in
    let next : suc k ≡ length right - place = omega (arith, below) in
    let this : k ≡ length right - (place + 1) = omega arith in
    let cut : drop k right ≡ x ∷ drop (length right - place) right = drop-cons right k x (omega (arith, below)) ∙ ap (λ y. y ∷ drop (suc k) right) (sym here) ∙ ap (λ i. x ∷ drop i right) next in
    let turned : reverse (drop k right) ≡ reverse (drop (length right - place) right) ++ x ∷ [] = ap reverse cut ∙ reverse-append (x ∷ []) (drop (length right - place) right) in
    pushed ∙ ap (λ l. l ++ x ∷ []) is ∙ append_assoc old (reverse (drop (length right - place) right)) (x ∷ []) ∙ ap (λ l. old ++ l) (sym turned) ∙ ap (λ i. old ++ reverse (drop i right)) this

pub all_turned : (todo right : List Sym) (place : ℕ) → length right ≤ place → todo ++ reverse (drop (length right - place) right) ≡ todo ++ reverse right
all_turned todo right place done = let none : length right - place ≡ 0 = omega (arith, done) in ap (λ i. todo ++ reverse (drop i right)) none

pub all_back : (P : Sym → Type 0) (xs : List Sym) (x : Sym) → All P (xs ++ x ∷ []) → All P xs × P x
all_back P [] x all = (λ k d below. absurd (omega arith), All-head P x [] all)
all_back P (y ∷ xs) x all = let rest = all_back P xs x (All-tail P y (xs ++ x ∷ []) all) in (All-cons P y xs (All-head P y (xs ++ x ∷ []) all) rest.0, rest.1)

pub all_reverse : (P : Sym → Type 0) (xs : List Sym) → All P xs → All P (reverse xs)
all_reverse P xs all k d below =
    let size : length (reverse xs) ≡ length xs = length-reverse xs in
    let inside : k < length xs = omega (arith, size, below) in
    subst P (sym (get_or-reverse xs k d inside)) (all (length xs - 1 - k) d (omega (arith, inside)))

-- ---- what is known of symbols and words
pub empty_list : (todo : List Sym) → length todo ≡ 0 → todo ≡ []
empty_list [] size = refl
empty_list (x ∷ todo) size = absurd (omega (arith, size))

pub one_symbol : (P : Sym → Type 0) (x : Sym) → P x → All P (x ∷ [])
one_symbol P x here = All-cons P x [] here (λ k d below. absurd (omega arith))

pub have_rules : (g : Grammar) (closings : List (Option Closing)) → HaveClosings g closings → HaveClosingRules g
have_rules g closings have n below = let c = have n below in (c.0.rule, c.2.right, c.2.closing)

pub has_rest : (g : Grammar) (from size drawn : ℕ) (todo : List Sym) → IsGrammar g → HaveClosingRules g → All (IsSymbolOf g.tokens g.names) todo → (rest : List ℕ) × AreChosen g from size drawn (reverse todo) rest
has_rest g from size drawn todo grammar have all =
    some_choice g from size drawn (reverse todo) (in_range g grammar) have (names_below g.tokens g.names (reverse todo) (all_reverse (IsSymbolOf g.tokens g.names) todo all))

-- why there is no text, where a token was not written
module _ (table : Table) (means : List Meaning) (g : Grammar) (from size drawn a : ℕ) (left : List Sym) (text : List ℕ)
    (s : (scanning : Scanning) → IsScannedBy table means scanning → IsSampling scanning g from size drawn (Token a ∷ left) text) (fits : length text ≤ TEXT_BYTES) (r : (rest : List ℕ) × AreChosen g from size drawn left rest) where
  pub is_fault : (fault : SampleFault) → IsUnwritten table means a text fault → IsFault table means g from size fault
  is_fault (NoSampleOf b) u = λ scanning by.
      subst (λ k. IsSample scanning g from size (NoSample k)) (sym u.0) (is_without scanning g from size drawn left text a (s scanning by) fits (u.1 scanning by) r.0 r.1)
  is_fault TooLongText longer = λ scanning by.
      let w = longer scanning by in
      is_long scanning g from size drawn left (text ++ (w.0 ++ line_feed ∷ [])) (writes scanning g from size drawn left text a w.0 (s scanning by) w.1) w.2 r.0 r.1
  is_fault NoMemory u = tt

  pub goes_behind : (new : List ℕ) → IsWritten table means a text new → (scanning : Scanning) → IsScannedBy table means scanning → IsSampling scanning g from size drawn left new
  goes_behind new written scanning by =
      let w = written scanning by in
      subst (λ l. IsSampling scanning g from size drawn left l) (sym w.2) (writes scanning g from size drawn left text a w.0 (s scanning by) w.1)

pub err_same : {X E : Type 0} (r : Result X E) (fault : E) (Q : E → Type 0) → IsErrAnd r (λ e. e ≡ fault) → Q fault → IfErr r Q
err_same (Ok x) fault Q is q = tt
err_same (Err e) fault Q is q = subst Q (sym is) q

-- the right side of a rule that is chosen for a name
choice_side : {g : Grammar} {from size drawn n r now : ℕ} → IsChoice g from size drawn n r now → (side : List Sym) × IsRule g.rules r n side
choice_side (is_drawn {right = side} less later drew) = (side, drew.rule)
choice_side (is_closed {right = side} all same closing) = (side, closing.rule)

pub chosen_rule : {g : Grammar} {from size drawn n r now : ℕ} {right : List Sym} → IsChoice g from size drawn n r now → option_map (λ (rule : Rule). rule.1) (slice_get g.rules r) ≡ Some right → IsRule g.rules r n right
chosen_rule {g} {n = n} {r = r} {right = right} choice at =
    let s = choice_side choice in
    let same : s.0 ≡ right = side_same (sym (ap (option_map (λ (rule : Rule). rule.1)) s.1.found) ∙ at) in
    subst (λ l. IsRule g.rules r n l) same s.1
  where
    side_same : {one other : List Sym} → Some one ≡ Some other → one ≡ other
    side_same e = cc
