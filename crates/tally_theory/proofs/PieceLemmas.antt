-- The segments of a text have one list of tokens each, and one number of pieces in all.
use Rattle.std.proofs.Common.{◌≡◌, ℕ, zero, suc, ◌+◌, ◌<◌, ◌≤◌, List, [], ◌∷◌, length, slice_get, Option, Some, refl, sym, ap, ◌∙◌, subst, arith}
use Rattle.grammar_data.specs.declared.token.Token.{Token as TextToken}
use Rattle.grammar_data.specs.Grammar.{Grammar}
use Rattle.grammar_laws.proofs.RangeLemmas.{in_range}
use Rattle.lr_base.specs.IsGrammar.{IsGrammar}
use Rattle.scanning_theory.specs.Lines.{line_starts}
use Rattle.scanning_theory.specs.Scan.{Scanning, AreTokens, AreTokensOfLines}
use Rattle.scanning_theory.proofs.ScanLemmas.{lines_once}
use Rattle.line_laws.proofs.SplitLemmas.{split_law}
use Rattle.cutting_theory.specs.Cuttings.{IsCutting, IsNeverFalling, AreTokensOfSegments, segments_of}
use Rattle.cutting_theory.proofs.BoundLemmas.{at_second}
use Rattle.sheet_data.specs.Sheet.{Sheet}
use Rattle.sheet_theory.specs.ScanOrder.{scanning_of}
use Rattle.collection_data.specs.Collection.{CollectionParts, has_item, state_count, step_in}
use Rattle.collection_data.proofs.EntryLemmas.{get_at}
use Rattle.collection_laws.proofs.BuiltLemmas.{some_built}
use Rattle.table_data.specs.Tables.{Tables}
use Rattle.lawful_theory.specs.Lawful.{IsLawfulFor}
use Rattle.lawful_theory.proofs.CanonicalLemmas.{canonical_lawful_law}
use Rattle.part_theory.proofs.PartLemmas.{one_number_law}
use Rattle.part_laws.specs.InAll.{HavePartsInAll, no_list, list_first}
use Rattle.part_laws.proofs.AlikeLemmas.{canonical_parts_law}
use Rattle.part_laws.proofs.SomeLemmas.{some_parts_law}
use Rattle.grammar_faults.specs.Building.{IsBuildable, AreBuiltOf}
use Rattle.tally_theory.specs.declared.cut.Cut.{Cut}
use Rattle.tally_theory.specs.Cuts.{CanBeCut}
use Rattle.tally_theory.specs.Reports.{HasPieces}
use Rattle.tally_theory.proofs.CutLemmas.{cutting, one_cut, some_cut, same_by_places}

-- ---- one list of tokens a segment

same_some : {X : Type 0} {x y : X} {o p : Option X} → o ≡ Some x → p ≡ Some y → x ≡ y → o ≡ p
same_some e f same = e ∙ ap Some same ∙ sym f

pub lists_once : (scanning : Scanning) (text bounds : List ℕ) (lists others : List (List TextToken)) → AreTokensOfSegments scanning text bounds lists → AreTokensOfSegments scanning text bounds others → lists ≡ others
lists_once scanning text bounds lists others one two = same_by_places lists others (one.many ∙ sym two.many) same
  where
    same : (i : ℕ) → i < length lists → slice_get lists i ≡ slice_get others i
    same i less =
        let many = one.many in
        let count = two.many in
        let from = get_at bounds i (omega (arith, many, less)) in
        let to = get_at bounds (i + 1) (omega (arith, many, less)) in
        let mine = get_at lists i less in
        let other = get_at others i (omega (arith, many, count, less)) in
        same_some mine.1 other.1 (lines_once scanning text (one.each i from.0 to.0 mine.0 from.1 to.1 mine.1) other.0 (two.each i from.0 to.0 other.0 from.1 to.1 other.1))

-- ---- one number of pieces

in_all_once : {t : Tables} {lists : List (List TextToken)} {count other : ℕ} → HavePartsInAll t lists count → HavePartsInAll t lists other → count ≡ other
in_all_once no_list no_list = refl
in_all_once {t} (list_first {tokens = tokens} {count = count} {rest = rest} has more is) (list_first {count = other} {rest = others} too also other_is) =
    let first = one_number_law t tokens count other has too in
    let left = in_all_once more also in
    omega (arith, is, other_is, first, left)

module _ (g : Grammar) (grammar : IsGrammar g) (buildable : IsBuildable g) where
  pub lawful_of : (c : CollectionParts) (t : Tables) → AreBuiltOf g c t → IsLawfulFor g t
  lawful_of c t built = canonical_lawful_law g (in_range g grammar) buildable.small.useful.productive buildable.small.useful.reachable (state_count c) (has_item c) (step_in c) t built.collection.collection built.tables

  in_all_over : (c d : CollectionParts) (t u : Tables) → AreBuiltOf g c t → AreBuiltOf g d u → {lists : List (List TextToken)} {count : ℕ} → HavePartsInAll t lists count → HavePartsInAll u lists count
  in_all_over c d t u one two no_list = no_list
  in_all_over c d t u one two (list_first {tokens = tokens} {count = count} has more is) =
      list_first
      (canonical_parts_law g (in_range g grammar) buildable.small.useful.productive buildable.small.useful.reachable c d t u one.collection two.collection one.tables two.tables tokens count has)
      (in_all_over c d t u one two more)
      is

pub pieces_once : (sheet : Sheet) → IsGrammar sheet.grammar → IsBuildable sheet.grammar → (text : List ℕ) (cut : Cut) (segments pieces others other : ℕ) → HasPieces sheet text cut segments pieces → HasPieces sheet text cut others other → (segments ≡ others) × (pieces ≡ other)
pieces_once sheet grammar buildable text cut segments pieces others other one two =
    (one.segments_are ∙ ap segments_of bounds ∙ sym two.segments_are, in_all_once (in_all_over sheet.grammar grammar buildable one.collection two.collection one.tables two.tables one.built two.built one.have) moved)
  where
    bounds : one.bounds ≡ two.bounds
    bounds = one_cut cut (length (line_starts text)) one.bounds two.bounds one.cuts two.cuts

    lists : one.lists ≡ two.lists
    lists = lists_once (scanning_of sheet) text two.bounds one.lists two.lists (subst (λ b. AreTokensOfSegments (scanning_of sheet) text b one.lists) bounds one.tokens) two.tokens

    moved : HavePartsInAll two.tables one.lists other
    moved = subst (λ l. HavePartsInAll two.tables l other) (sym lists) two.have

-- ---- some number of pieces

module _ (scanning : Scanning) (text : List ℕ) where
  below_last : (from : ℕ) (bounds : List ℕ) (last : ℕ) → IsNeverFalling (from ∷ bounds) → slice_get (from ∷ bounds) (length bounds) ≡ Some last → from ≤ last
  below_last from [] last rises ends = let same : from ≡ last = cc in omega (arith, same)
  below_last from (to ∷ bounds) last rises ends =
      let here = rises 0 from to refl refl in
      let more = below_last to bounds last (λ i low high p q. rises (suc i) low high p (at_second from (to ∷ bounds) i ∙ q)) ends in
      omega (arith, here, more)

  -- the tokens of one more segment in front
  each_by : (from to : ℕ) (bounds : List ℕ) (front : List TextToken) (lists : List (List TextToken)) → AreTokensOfLines scanning text to from front → ((i a b : ℕ) (list : List TextToken) → slice_get (to ∷ bounds) i ≡ Some a → slice_get (to ∷ bounds) (i + 1) ≡ Some b → slice_get lists i ≡ Some list → AreTokensOfLines scanning text b a list) → (i a b : ℕ) (list : List TextToken) → slice_get (from ∷ to ∷ bounds) i ≡ Some a → slice_get (from ∷ to ∷ bounds) (i + 1) ≡ Some b → slice_get (front ∷ lists) i ≡ Some list → AreTokensOfLines scanning text b a list
  each_by from to bounds front lists first each zero a b list p q r =
      let at : from ≡ a = cc in
      let end : to ≡ b = cc in
      let same : front ≡ list = cc in
      subst (λ l. AreTokensOfLines scanning text b a l) same (subst (λ n. AreTokensOfLines scanning text b n front) at (subst (λ n. AreTokensOfLines scanning text n from front) end first))
  each_by from to bounds front lists first each (suc i) a b list p q r = each i a b list p (sym (at_second from (to ∷ bounds) i) ∙ q) r

  -- each segment has its tokens
  some_lists : (from last : ℕ) (bounds : List ℕ) (tokens : List TextToken) → IsNeverFalling (from ∷ bounds) → slice_get (from ∷ bounds) (length bounds) ≡ Some last → AreTokensOfLines scanning text last from tokens → (lists : List (List TextToken)) × AreTokensOfSegments scanning text (from ∷ bounds) lists
  some_lists from last [] tokens rises ends are = ([], record { many = omega arith; each = λ i a b list p q r. absurd (cc) })
  some_lists from last (to ∷ bounds) tokens rises ends are =
      let later : IsNeverFalling (to ∷ bounds) = λ i low high p q. rises (suc i) low high p (at_second from (to ∷ bounds) i ∙ q) in
      let split = split_law scanning text from to last tokens (rises 0 from to refl refl) (below_last to bounds last later ends) are in
      let rest = some_lists to last bounds split.back later ends split.second in
      (split.front ∷ rest.0, record { many = let many = rest.1.many in omega (arith, many); each = each_by from to bounds split.front rest.0 split.first rest.1.each })

some_segments : (scanning : Scanning) (text : List ℕ) (lines : ℕ) (bounds : List ℕ) (tokens : List TextToken) → IsCutting lines bounds → AreTokensOfLines scanning text lines 0 tokens → (lists : List (List TextToken)) × AreTokensOfSegments scanning text bounds lists
some_segments scanning text lines [] tokens cutting are = let some = cutting.some in absurd (omega (arith, some))
some_segments scanning text lines (from ∷ bounds) tokens cutting are =
    let first : from ≡ 0 = let e = cutting.begins in cc in
    let last : segments_of (from ∷ bounds) ≡ length bounds = omega arith in
    some_lists scanning text from lines bounds tokens cutting.rising (ap (slice_get (from ∷ bounds)) (sym last) ∙ cutting.ends) (subst (λ n. AreTokensOfLines scanning text lines n tokens) (sym first) are)

some_in_all : (g : Grammar) (t : Tables) → IsLawfulFor g t → (lists : List (List TextToken)) → ((count : ℕ) → ¬ (HavePartsInAll t lists count)) → ⊥
some_in_all g t lawful [] none = none 0 no_list
some_in_all g t lawful (tokens ∷ lists) none = some_parts_law g t lawful tokens (λ count has. some_in_all g t lawful lists (λ rest have. none (count + rest) (list_first has have refl)))

-- where the text has tokens and can be cut so, it is refuted that its segments have no number of pieces
pub some_pieces : (sheet : Sheet) → IsGrammar sheet.grammar → IsBuildable sheet.grammar → (text : List ℕ) (cut : Cut) (tokens : List TextToken) → CanBeCut cut → AreTokens (scanning_of sheet) text tokens → ((segments pieces : ℕ) → ¬ (HasPieces sheet text cut segments pieces)) → ⊥
some_pieces sheet grammar buildable text cut tokens can are none =
    let lines : ℕ = length (line_starts text) in
    let bounds = some_cut cut lines in
    let lists = some_segments (scanning_of sheet) text lines bounds.0 tokens (cutting cut lines bounds.0 can bounds.1) are in
    some_built sheet.grammar (in_range sheet.grammar grammar) (let few = grammar.few_tokens in omega (arith, few)) buildable (λ c t built.
    some_in_all sheet.grammar t (lawful_of sheet.grammar grammar buildable c t built) lists.0 (λ pieces have.
    none (segments_of bounds.0) pieces (record {
      bounds = bounds.0;
      cuts = bounds.1;
      segments_are = refl;
      lists = lists.0;
      tokens = lists.1;
      collection = c;
      tables = t;
      built = built;
      have = have;
    })))
