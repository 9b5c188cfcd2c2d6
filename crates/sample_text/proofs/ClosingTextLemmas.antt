-- The lines of closing tokens while they are made, and a text while names are closed.
use Rattle.std.proofs.Common.{◌≡◌, ℕ, zero, suc, ◌<◌, ◌≤◌, ◌⊎◌, inl, inr, ⊎_elim, List, [], ◌∷◌, ◌++◌, All, length, reverse, refl, sym, ap, ◌∙◌, subst, arith}
use Rattle.std.specs.Prelude.{IfSome, Option, Some, None, slice_index_or}
use Rattle.std.specs.Global.{Vec}
use Rattle.std.proofs.lemmas.List.{append-nil}
use Rattle.std.proofs.lemmas.List.Elements.{All-append}
use Rattle.grammar_data.specs.declared.rule.Sym.{Sym}
use Rattle.grammar_data.specs.declared.rule.Sym.TheVariants.{Name}
use Rattle.grammar_data.specs.Grammar.{Grammar}
use Rattle.grammar_laws.proofs.RangeLemmas.{rule_of}
use Rattle.lr_base.specs.declared.limits.TheConstants.{TEXT_BYTES}
use Rattle.lr_base.specs.IsGrammar.{IsGrammar, IsSymbolOf}
use Rattle.pattern_data.specs.declared.pattern.Meaning.{Meaning}
use Rattle.token_patterns.specs.Scanner.{Table}
use Rattle.scanning_theory.specs.Lines.{line_feed}
use Rattle.scanning_theory.specs.Scan.{Scanning}
use Rattle.sample_theory.specs.Choices.{AreChosen, no_symbol, takes_token, draws_rule, closes_name}
use Rattle.sample_theory.specs.ClosingRules.{IsClosingRule}
use Rattle.sample_theory.specs.Samples.{no_token, word_first, lines_of}
use Rattle.sample_theory.proofs.ChoiceLemmas.{chosen_append}
use Rattle.sample_text.specs.declared.fault.SampleFault.{SampleFault}
use Rattle.sample_text.specs.declared.fault.SampleFault.TheVariants.{NoSample, TooLong, NoMemory}
use Rattle.sample_text.specs.Answering.{IsFault}
use Rattle.sample_text.specs.Wording.{AreKnown, IsLonger, IsScannedBy}
use Rattle.sample_text.specs.ClosingTexts.{AreClosingTokens, AreLinesOf, HaveClosingTexts, IsClosedOn, by_text, by_rule, IsClosingText, IsPast, IsSymbolClosedOn, by_line, by_side}
use Rattle.sample_text.proofs.SamplingLemmas.{IsMaking, IsSampling, is_long, makes, closes, all_reverse, pushed_left}

-- what closing rules choose doesn't depend on how many choices were drawn
pub closing_chosen : {g : Grammar} {from size drawn f s d : ℕ} {xs : List Sym} {w : List ℕ} → s ≤ d → size ≤ drawn → AreChosen g f s d xs w → AreChosen g from size drawn xs w
closing_chosen done all no_symbol = no_symbol
closing_chosen done all (takes_token rest) = takes_token (closing_chosen done all rest)
closing_chosen done all (draws_rule less drew rest) = absurd (omega (arith, done, less))
closing_chosen done all (closes_name also closing rest) = closes_name all closing (closing_chosen done all rest)

module _ (g : Grammar) (grammar : IsGrammar g) where
  side_all : (n rule : ℕ) (right : List Sym) → IsClosingRule g n rule right → All (IsSymbolOf g.tokens g.names) right
  side_all n rule right closing = (rule_of g grammar rule n right closing.rule).right

  put_all : (todo new right : List Sym) → All (IsSymbolOf g.tokens g.names) todo → All (IsSymbolOf g.tokens g.names) right → new ≡ todo ++ reverse right → All (IsSymbolOf g.tokens g.names) new
  put_all todo new right all more put = subst (All (IsSymbolOf g.tokens g.names)) (sym put) (All-append (IsSymbolOf g.tokens g.names) todo (reverse right) all (all_reverse (IsSymbolOf g.tokens g.names) right more))

  pub symbol_range : {found : List (Option (Vec ℕ))} {x : Sym} {todo new : List Sym} {text text_new : List ℕ} → All (IsSymbolOf g.tokens g.names) todo → IsSymbolClosedOn g found x todo text new text_new → All (IsSymbolOf g.tokens g.names) new
  symbol_range all (by_line is here line same) = subst (All (IsSymbolOf g.tokens g.names)) (sym same) all
  symbol_range {todo = todo} {new = new} all (by_side {n = n} {rule = rule} {right = right} is closing same put) = put_all todo new right all (side_all n rule right closing) put

  pub closed_range : {texts : List (Option (Vec ℕ))} {n : ℕ} {todo new : List Sym} {text text_new : List ℕ} → All (IsSymbolOf g.tokens g.names) todo → IsClosedOn g texts n todo text new text_new → All (IsSymbolOf g.tokens g.names) new
  closed_range all (by_text here lines same) = subst (All (IsSymbolOf g.tokens g.names)) (sym same) all
  closed_range {n = n} {todo = todo} {new = new} all (by_rule {rule = rule} {right = right} closing same put) = put_all todo new right all (side_all n rule right closing) put

module _ (scanning : Scanning) (g : Grammar) where
  -- ---- the lines of one name
  pub name_begins : (n : ℕ) → IsMaking scanning g 0 0 (AreClosingTokens g (Name n ∷ [])) 0 (Name n ∷ []) []
  name_begins n = record { tokens = []; words = []; are = no_token; is = refl; chosen = λ rest chosen. chosen }

  pub name_text : (n : ℕ) (text : List ℕ) → IsMaking scanning g 0 0 (AreClosingTokens g (Name n ∷ [])) 0 [] text → IsClosingText scanning g n text
  name_text n text s = record { tokens = s.tokens; chosen = subst (AreClosingTokens g (Name n ∷ [])) (append-nil s.tokens) (s.chosen [] no_symbol); words = s.words; are = s.are; is = s.is }

  pub symbol_made : {IsWhole : List ℕ → Type 0} {found : List (Option (Vec ℕ))} {x : Sym} {todo new : List Sym} {text text_new : List ℕ} → AreLinesOf scanning found
      → IsMaking scanning g 0 0 IsWhole 0 (x ∷ reverse todo) text → IsSymbolClosedOn g found x todo text new text_new → IsMaking scanning g 0 0 IsWhole 0 (reverse new) text_new
  symbol_made {IsWhole} {todo = todo} {new = new} {text = text} {text_new = text_new} are s (by_line {a = a} {line = line} is here line_put same) =
      let l = are a line here in
      let made : IsMaking scanning g 0 0 IsWhole 0 (reverse todo) (text ++ lines_of (l.0 ∷ [])) =
      makes (a ∷ []) (l.0 ∷ []) (subst (λ (y : Sym). IsMaking scanning g 0 0 IsWhole 0 (y ∷ reverse todo) text) is s) (word_first l.1 no_token) (λ rest chosen. takes_token chosen) in
      let put : text ++ lines_of (l.0 ∷ []) ≡ text_new = ap (λ r. text ++ r) (append-nil (l.0 ++ line_feed ∷ []) ∙ sym l.2) ∙ sym line_put in
      subst (λ (xs : List Sym). IsMaking scanning g 0 0 IsWhole 0 (reverse xs) text_new) (sym same) (subst (λ r. IsMaking scanning g 0 0 IsWhole 0 (reverse todo) r) put made)
  symbol_made {IsWhole} {todo = todo} {new = new} {text = text} {text_new = text_new} are s (by_side {n = n} {rule = rule} {right = right} is closing same put) =
      let made : IsMaking scanning g 0 0 IsWhole 0 (right ++ reverse todo) text = closes (subst (λ (y : Sym). IsMaking scanning g 0 0 IsWhole 0 (y ∷ reverse todo) text) is s) (omega arith) closing in
      subst (λ (xs : List Sym). IsMaking scanning g 0 0 IsWhole 0 xs text_new) (sym (pushed_left todo new right put)) (subst (λ r. IsMaking scanning g 0 0 IsWhole 0 (right ++ reverse todo) r) (sym same) made)

  -- ---- a text where all choices were drawn
  module _ (from size drawn n : ℕ) (done : size ≤ drawn) where
    pub name_closed : (left : List Sym) (text lines : List ℕ) → IsSampling scanning g from size drawn (Name n ∷ left) text → IsClosingText scanning g n lines → IsSampling scanning g from size drawn left (text ++ lines)
    name_closed left text lines s closing =
        subst (λ l. IsSampling scanning g from size drawn left (text ++ l)) (sym closing.is)
        (makes closing.tokens closing.words s closing.are (λ rest chosen. chosen_append done (closing_chosen (omega arith) done closing.chosen) chosen))

    pub goes_closed : {texts : List (Option (Vec ℕ))} {todo new : List Sym} {text text_new : List ℕ} → HaveClosingTexts scanning g texts
        → IsSampling scanning g from size drawn (Name n ∷ reverse todo) text → IsClosedOn g texts n todo text new text_new → IsSampling scanning g from size drawn (reverse new) text_new
    goes_closed {todo = todo} {text = text} {text_new = text_new} have s (by_text {lines = lines} here put same) =
        subst (λ (xs : List Sym). IsSampling scanning g from size drawn (reverse xs) text_new) (sym same)
        (subst (λ r. IsSampling scanning g from size drawn (reverse todo) r) (sym put) (name_closed (reverse todo) text lines.items s (have n lines here)))
    goes_closed {todo = todo} {new = new} {text = text} {text_new = text_new} have s (by_rule {right = right} closing same put) =
        subst (λ (xs : List Sym). IsSampling scanning g from size drawn xs text_new) (sym (pushed_left todo new right put))
        (subst (λ r. IsSampling scanning g from size drawn (right ++ reverse todo) r) (sym same) (closes s done closing))

-- ---- what is kept of names
-- what stands in a list with one element more
pub kept_behind : {X : Type 0} (xs : List (Option X)) (o : Option X) (k : ℕ) (x : X) → slice_index_or (xs ++ o ∷ []) k None ≡ Some x → (slice_index_or xs k None ≡ Some x) ⊎ ((k ≡ length xs) × (o ≡ Some x))
kept_behind [] o zero x at = inr (refl, at)
kept_behind [] o (suc k) x at = absurd (cc)
kept_behind (y ∷ xs) o zero x at = inl at
kept_behind (y ∷ xs) o (suc k) x at = ⊎_elim (λ here. inl here) (λ last. inr (ap suc last.0, last.1)) (kept_behind xs o k x at)

pub texts_behind : (scanning : Scanning) (g : Grammar) (texts new : List (Option (Vec ℕ))) (o : Option (Vec ℕ)) (n : ℕ) → new ≡ texts ++ o ∷ [] → length texts ≡ n
    → IfSome o (λ (text : Vec ℕ). IsClosingText scanning g n text.items) → HaveClosingTexts scanning g texts → HaveClosingTexts scanning g new
texts_behind scanning g texts new o n put size this have m text at = ⊎_elim
    (λ here. have m text here)
    (λ last. subst (λ k. IsClosingText scanning g k text.items) (sym (last.0 ∙ size)) (subst (λ q. IfSome q (λ (t : Vec ℕ). IsClosingText scanning g n t.items)) last.1 this))
    (kept_behind texts o m text (subst (λ l. slice_index_or l m None ≡ Some text) put at))

-- nothing is kept
pub no_texts : (scanning : Scanning) (g : Grammar) (texts : List (Option (Vec ℕ))) → texts ≡ [] → HaveClosingTexts scanning g texts
no_texts scanning g texts none m text at = absurd (nothing (subst (λ l. slice_index_or l m None ≡ Some text) none at))
  where
    nothing : slice_index_or [] m None ≡ Some text → ⊥
    nothing e = cc

pub longer_past : (texts : List (Option (Vec ℕ))) (n : ℕ) (lines : Vec ℕ) (text line : List ℕ) → slice_index_or texts n None ≡ Some lines → line ≡ lines.items → (fault : SampleFault) → IsLonger text line fault → IsPast texts n text fault
longer_past texts n lines text line here same (NoSample a) longer = longer
longer_past texts n lines text line here same TooLong longer = (lines, here, subst (λ l. TEXT_BYTES < length (text ++ l)) same longer)
longer_past texts n lines text line here same NoMemory longer = tt

-- the text passes its limit with lines that are kept
module _ (table : Table) (means : List Meaning) (g : Grammar) (from size drawn n : ℕ) (todo : List Sym) (text : List ℕ) (texts : List (Option (Vec ℕ))) (done : size ≤ drawn)
    (s : (scanning : Scanning) → IsScannedBy table means scanning → IsSampling scanning g from size drawn (Name n ∷ reverse todo) text)
    (have : (scanning : Scanning) → IsScannedBy table means scanning → HaveClosingTexts scanning g texts)
    (r : (rest : List ℕ) × AreChosen g from size drawn (reverse todo) rest) where
  pub past_fault : (fault : SampleFault) → IsPast texts n text fault → IsFault table means g from size fault
  past_fault (NoSample a) past = absurd past
  past_fault TooLong past = λ scanning by.
      is_long scanning g from size drawn (reverse todo) (text ++ past.0.items)
      (name_closed scanning g from size drawn n done (reverse todo) text past.0.items (s scanning by) (have scanning by n past.0 past.1)) past.2 r.0 r.1
  past_fault NoMemory past = tt

-- what is kept of names stays right, by the lines that were found
pub texts_kept : (table : Table) (means : List Meaning) (h g : Grammar) (found known old new : List (Option (Vec ℕ))) → h ≡ g → found ≡ known → AreKnown table means known
    → ((scanning : Scanning) → AreLinesOf scanning found → HaveClosingTexts scanning h old → HaveClosingTexts scanning h new)
    → ((scanning : Scanning) → IsScannedBy table means scanning → HaveClosingTexts scanning g old)
    → (scanning : Scanning) → IsScannedBy table means scanning → HaveClosingTexts scanning g new
texts_kept table means h g found known old new same there lines_are goes have scanning by =
    let lines : AreLinesOf scanning found = subst (AreLinesOf scanning) (sym there) (λ a line at. lines_are a line at scanning by) in
    subst (λ (k : Grammar). HaveClosingTexts scanning k new) same (goes scanning lines (subst (λ (k : Grammar). HaveClosingTexts scanning k old) (sym same) (have scanning by)))
