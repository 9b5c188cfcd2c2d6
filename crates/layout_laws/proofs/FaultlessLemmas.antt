-- The outline of a layout has no fault on its lines.
use Rattle.std.proofs.Common.{◌≡◌, ℕ, suc, ◌-◌, ◌<◌, List, [], ◌++◌, length, refl, sym, ap, subst, ◌∙◌, inl, inr, ⊎_elim, arith}
use Rattle.std.specs.Prelude.{◌⊎◌, Some, slice_get, Contains}
use Rattle.std.specs.List.{flat_map}
use Rattle.std.proofs.lemmas.List.Elements.{Contains-append_left, Contains-append_right, Contains-append_cases}
use Rattle.std.proofs.lemmas.Option.{none-some}
use Rattle.pattern_data.specs.declared.pattern.Pattern.{Pattern}
use Rattle.pattern_data.specs.Language.{Matches}
use Rattle.pattern_data.specs.Spellings.{IsSpelling}
use Rattle.pattern_data.proofs.RoundLemmas.{spelling_once}
use Rattle.sheet_data.specs.Sheet.{Sheet}
use Rattle.outline_data.specs.declared.fault.SheetFault.{SheetFault}
use Rattle.outline_data.specs.declared.outline.Word.{Word}
use Rattle.outline_data.specs.declared.outline.PlaceUse.{PlaceUse}
use Rattle.outline_data.specs.declared.rules.Symbol.{Symbol}
use Rattle.outline_data.specs.declared.rules.Symbol.TheVariants.{Name}
use Rattle.outline_data.specs.AlternativeParts.{AlternativeParts}
use Rattle.outline_data.specs.Parts.{OutlineParts}
use Rattle.outline_theory.specs.Spelling.{IsShaped}
use Rattle.outline_theory.specs.Words.{texts, token_words, literal_words, pattern_words, StartUse, starts, left_words, alternatives_of, name_in, side_names, quoted_in, side_literals, all_literals, template_uses, token_uses, all_uses, places}
use Rattle.outline_theory.specs.LineFaults.{IsTokenName, HasRule, StandsAgain, IsUsedAgain, IsOutOfRange, IsNameAt, HasLineFault}
use Rattle.outline_theory.specs.LineFaults.HasLineFault.{line_feed, no_spelling, empty_literal, empty_pattern, name_again, literal_again, start_again, left_is_token, unknown_name, unknown_start, out_of_range, twice_in_template, twice_in_marks, not_a_token}
use Rattle.outline_theory.specs.Numbering.{is_one_of}
use Rattle.outline_theory.specs.Reading.{IsFaultless}
use Rattle.layout_laws.proofs.MemberLemmas.{only_member, one_member, joined_has, joined_from, mapped_has, Mapped, mapped_from, IsRepeated, IsAgain, again_keys, keys_again}
use Rattle.layout_laws.proofs.IndexLemmas.{contains}
use Rattle.layout_laws.proofs.SideLemmas.{Side, sides_in, sides_alternatives}
use Rattle.layout_laws.proofs.FactLemmas.{decl_patterns, AreSpelled, decls_spelled, pattern_of, spelling_of, stands_again, texts_again, rule_known, known_rule, tokens_once}
use Rattle.layout_laws.proofs.SymbolLemmas.{IsSound, IsPrinted}
use Rattle.layout_laws.proofs.SymbolLemmas.IsPrinted.{same_name, same_literal, named_literal}
use Rattle.layout_laws.proofs.RuleLemmas.{IsPrintedSide}
use Rattle.layout_laws.proofs.LayoutLemmas.{LayoutRead}
use Rattle.layout_laws.proofs.SameLemmas.{texts_append, printed_length, printed, decls, tokens_same, literals_same, starts_are, alternatives_are, names_same}
use Rattle.layout_laws.proofs.PlaceLemmas.{symbol_from, symbol_at, side_from, places_append, template_place, template_again, token_places_same}

abbrev bytes_of : Word → List ℕ
bytes_of word = word.bytes

abbrev place_of : PlaceUse → ℕ
place_of used = used.place

used_again : (uses : List PlaceUse) (used : PlaceUse) → IsAgain place_of uses used → IsUsedAgain uses used
used_again uses used h = record { at = h.at; here = h.here; before = h.before }

again_used : (uses : List PlaceUse) (used : PlaceUse) → IsUsedAgain uses used → IsAgain place_of uses used
again_used uses used h = record { at = h.at; here = h.here; before = h.before }

-- the names and literals of one printed symbol
quoted_from : {o : OutlineParts} {s printed : Symbol} → IsPrinted o s printed → (word : Word) → Contains (quoted_in printed) word → Mapped bytes_of (quoted_in s) word.bytes
quoted_from (same_name e) word h = absurd (omega (arith, h.1))
quoted_from (same_literal {word = from} {printed = printed} e none) word h = record { from = from; stands = one_member from; is = sym e ∙ ap bytes_of (only_member printed word h) }
quoted_from (named_literal one token e) word h = absurd (omega (arith, h.1))

-- a name that is printed is the rule's, or a token's
record NameFrom (o : OutlineParts) (s : Symbol) (word : Word) : Type 0 where
  pub from : Word
  pub is : s ≡ Name from
  pub same : from.bytes ≡ word.bytes

name_of : {o : OutlineParts} {s printed : Symbol} → IsPrinted o s printed → (word : Word) → Contains (name_in printed) word → NameFrom o s word ⊎ IsTokenName o word.bytes
name_of (same_name {word = from} {printed = printed} e) word h = inl (record { from = from; is = refl; same = sym e ∙ ap bytes_of (only_member printed word h) })
name_of (same_literal e none) word h = absurd (omega (arith, h.1))
name_of {o = o} (named_literal {printed = printed} one token e) word h =
    inr (subst (IsTokenName o) (ap bytes_of (only_member printed word h)) (contains (texts (token_words o)) printed.bytes token))

module _ (o : OutlineParts) (shaped : IsShaped o) (faultless : IsFaultless o) (sheet : Sheet) (sound : IsSound o sheet) (r : LayoutRead o sheet) where
  abbrev p : OutlineParts
  p = printed o shaped sheet sound r

  token_there : (word : List ℕ) → IsTokenName p word → IsTokenName o word
  token_there word h = subst (λ l. Contains l word) (tokens_same o shaped sheet sound r) h

  token_here : (word : List ℕ) → IsTokenName o word → IsTokenName p word
  token_here word h = subst (λ l. Contains l word) (sym (tokens_same o shaped sheet sound r)) h

  rule_there : (word : List ℕ) → HasRule p word → HasRule o word
  rule_there word h = known_rule o word (ap (λ l. is_one_of l word) (sym (names_same o shaped sheet sound r)) ∙ rule_known p word h)

  rule_here : (word : List ℕ) → HasRule o word → HasRule p word
  rule_here word h = known_rule p word (ap (λ l. is_one_of l word) (names_same o shaped sheet sound r) ∙ rule_known o word h)

  -- the rule of an alternative
  record RuleFrom (a : AlternativeParts) : Type 0 where
    pub side : Side
    pub other : Side
    pub is : IsPrintedSide o side other
    pub same : other.1 ≡ a
    pub stands : Contains (alternatives_of o) side.1

  rule_from : (a : AlternativeParts) → Contains (alternatives_of p) a → RuleFrom a
  rule_from a h =
      let other = mapped_from (λ (side : Side). side.1) r.sides a (subst (λ l. Contains l a) (alternatives_are o shaped sheet sound r) h) in
      let side = side_from r.printed other.from other.stands in
      record {
        side = side.from;
        other = other.from;
        is = side.is;
        same = other.is;
        stands = subst (λ l. Contains l side.from.1) (sides_alternatives o.groups) (mapped_has (λ (s : Side). s.1) (sides_in o.groups) side.from side.stands);
      }

  -- literals
  side_literal_there : (word : Word) → Contains (side_literals p) word → Contains (texts (side_literals o)) word.bytes
  side_literal_there word h =
      let alternative = joined_from (λ (a : AlternativeParts). flat_map quoted_in a.right) (alternatives_of p) word h in
      let rule = rule_from alternative.from alternative.stands in
      let symbol = joined_from quoted_in alternative.from.right word alternative.has in
      let from = symbol_from rule.is.right symbol.from (subst (λ (a : AlternativeParts). Contains a.right symbol.from) (sym rule.same) symbol.stands) in
      let quoted = quoted_from from.is word symbol.has in
      let there : Contains (side_literals o) quoted.from = joined_has (λ (a : AlternativeParts). flat_map quoted_in a.right) (alternatives_of o) rule.side.1 quoted.from rule.stands (joined_has quoted_in rule.side.1.right from.from quoted.from from.stands quoted.stands) in
      subst (Contains (texts (side_literals o))) quoted.is (mapped_has bytes_of (side_literals o) quoted.from there)

  literal_there : (word : Word) → Contains (all_literals p) word → Mapped bytes_of (all_literals o) word.bytes
  literal_there word h =
      let there : Contains (texts (literal_words o) ++ texts (side_literals o)) word.bytes = ⊎_elim
      (λ declared. Contains-append_left (texts (literal_words o)) (texts (side_literals o)) word.bytes (subst (λ l. Contains l word.bytes) (literals_same o shaped sheet sound r) (mapped_has bytes_of (literal_words p) word declared)))
      (λ used. Contains-append_right (texts (literal_words o)) (texts (side_literals o)) word.bytes (side_literal_there word used))
      (Contains-append_cases (literal_words p) (side_literals p) word h) in
      mapped_from bytes_of (all_literals o) word.bytes (subst (λ l. Contains l word.bytes) (sym (texts_append (literal_words o) (side_literals o))) there)

  literals_fine : (word : Word) → Contains (all_literals p) word → (Contains word.bytes 10 → ⊥) × (word.bytes ≡ [] → ⊥)
  literals_fine word h =
      let there = literal_there word h in
      (λ feed. faultless.none _ (line_feed there.stands (subst (λ b. Contains b 10) (sym there.is) feed)), λ none. faultless.none _ (empty_literal there.stands (there.is ∙ none)))

  -- patterns: each word of the layout spells one that a word of the sheet spells
  spelled_there : AreSpelled (pattern_words o) (decl_patterns sheet.decls)
  spelled_there = decls_spelled sound.says.decls

  spelled_here : AreSpelled (pattern_words p) (decl_patterns sheet.decls)
  spelled_here = decls_spelled (decls o shaped sheet sound r)

  no_bad_spelling : (word : Word) → Contains (pattern_words p) word → ((pattern : Pattern) → IsSpelling word.bytes pattern → ⊥) → ⊥
  no_bad_spelling word h none = let found = pattern_of spelled_here word h in none found.pattern found.spelled

  no_empty_pattern : (word : Word) (pattern : Pattern) → Contains (pattern_words p) word → IsSpelling word.bytes pattern → Matches pattern [] → ⊥
  no_empty_pattern word pattern h spelled empty =
      let found = pattern_of spelled_here word h in
      let same : found.pattern ≡ pattern = spelling_once word.bytes found.pattern pattern found.spelled spelled in
      let there = spelling_of spelled_there found.pattern found.stands in
      faultless.none _ (empty_pattern there.stands there.spelled (subst (λ q. Matches q []) (sym same) empty))

  -- words that stand again
  no_name_again : (word : Word) → StandsAgain (token_words p) word → ⊥
  no_name_again word h =
      tokens_once o faultless word.bytes (subst (λ l. IsRepeated l word.bytes) (tokens_same o shaped sheet sound r) (again_keys bytes_of (token_words p) word (texts_again (token_words p) word h)))

  no_literal_again : (word : Word) → StandsAgain (literal_words p) word → ⊥
  no_literal_again word h =
      let there = keys_again bytes_of (literal_words o) word.bytes (subst (λ l. IsRepeated l word.bytes) (literals_same o shaped sheet sound r) (again_keys bytes_of (literal_words p) word (texts_again (literal_words p) word h))) in
      faultless.none _ (literal_again (stands_again (literal_words o) there.element there.again))

  no_start_again : (before : ℕ) (start : StartUse) → slice_get (starts p) (suc before) ≡ Some start → ⊥
  no_start_again before start h = none-some start (subst (λ l. slice_get l (suc before) ≡ Some start) (starts_are o shaped sheet sound r) h)

  no_left_token : (word : Word) → Contains (left_words p) word → IsTokenName p word.bytes → ⊥
  no_left_token word h token =
      let there = mapped_from bytes_of (left_words o) word.bytes (rule_there word.bytes (mapped_has bytes_of (left_words p) word h)) in
      faultless.none _ (left_is_token there.stands (subst (IsTokenName o) (sym there.is) (token_there word.bytes token)))

  -- names in right sides
  no_unknown_name : (word : Word) → Contains (side_names p) word → (IsTokenName p word.bytes → ⊥) → (HasRule p word.bytes → ⊥) → ⊥
  no_unknown_name word h no_token no_rule =
      let alternative = joined_from (λ (a : AlternativeParts). flat_map name_in a.right) (alternatives_of p) word h in
      let rule = rule_from alternative.from alternative.stands in
      let symbol = joined_from name_in alternative.from.right word alternative.has in
      let from = symbol_from rule.is.right symbol.from (subst (λ (a : AlternativeParts). Contains a.right symbol.from) (sym rule.same) symbol.stands) in
      ⊎_elim
      (λ name.
      let in_symbol : Contains (name_in from.from) name.from = subst (λ s. Contains (name_in s) name.from) (sym name.is) (one_member name.from) in
      let there : Contains (side_names o) name.from = joined_has (λ (a : AlternativeParts). flat_map name_in a.right) (alternatives_of o) rule.side.1 name.from rule.stands (joined_has name_in rule.side.1.right from.from name.from from.stands in_symbol) in
      faultless.none _ (unknown_name there (λ token. no_token (token_here word.bytes (subst (IsTokenName o) name.same token))) (λ has. no_rule (rule_here word.bytes (subst (HasRule o) name.same has)))))
      (λ token. no_token (token_here word.bytes token))
      (name_of from.is word symbol.has)

  no_unknown_start : (start : StartUse) → Contains (starts p) start → (HasRule p start.name.bytes → ⊥) → ⊥
  no_unknown_start start h no_rule =
      let only : StartUse = record { line = r.line; name = r.start } in
      let same : only ≡ start = only_member only start (subst (λ l. Contains l start) (starts_are o shaped sheet sound r) h) in
      let name : r.start_of.word ≡ start.name.bytes = sym r.starts ∙ ap (λ (s : StartUse). s.name.bytes) same in
      no_rule (rule_here start.name.bytes (subst (HasRule o) name (known_rule o r.start_of.word r.start_of.one)))

  -- places
  rule_out_of_range : (a : AlternativeParts) (place : ℕ) → Contains (alternatives_of o) a → Contains (places (all_uses a)) place → (place ≡ 0) ⊎ (length a.right < place) → ⊥
  rule_out_of_range a place stands has out =
      let there = mapped_from place_of (all_uses a) place has in
      faultless.none _ (out_of_range stands there.stands (subst (λ n. IsOutOfRange a n) (sym there.is) out))

  side_in_range : (side other : Side) → IsPrintedSide o side other → Contains (alternatives_of o) side.1 → (used : PlaceUse) → Contains (all_uses other.1) used → IsOutOfRange other.1 used.place → ⊥
  side_in_range side other is stands used has out =
      let size : length other.1.right ≡ length side.1.right = printed_length is.right in
      let there : (used.place ≡ 0) ⊎ (length side.1.right < used.place) = subst (λ n. (used.place ≡ 0) ⊎ (n < used.place)) size out in
      ⊎_elim
      (λ in_template. ⊎_elim
      (λ written. rule_out_of_range side.1 used.place stands (subst (λ l. Contains l used.place) (sym (places_append (template_uses side.1) side.1.marks)) (Contains-append_left (places (template_uses side.1)) (places side.1.marks) used.place written)) there)
      (λ within. ⊎_elim (λ none. let low = within.0 in omega (arith, low, none)) (λ past. let high = within.1 in omega (arith, high, past)) there)
      (template_place o side other is used.place (mapped_has place_of (template_uses other.1) used in_template)))
      (λ in_marks.
      let mark : Contains (places side.1.marks) used.place = subst (λ l. Contains l used.place) is.marks (mapped_has place_of other.1.marks used in_marks) in
      rule_out_of_range side.1 used.place stands (subst (λ l. Contains l used.place) (sym (places_append (template_uses side.1) side.1.marks)) (Contains-append_right (places (template_uses side.1)) (places side.1.marks) used.place mark)) there)
      (Contains-append_cases (template_uses other.1) other.1.marks used has)

  no_out_of_range : (a : AlternativeParts) (used : PlaceUse) → Contains (alternatives_of p) a → Contains (all_uses a) used → IsOutOfRange a used.place → ⊥
  no_out_of_range a used h has out =
      let rule = rule_from a h in
      side_in_range rule.side rule.other rule.is rule.stands used (subst (λ b. Contains (all_uses b) used) (sym rule.same) has) (subst (λ b. IsOutOfRange b used.place) (sym rule.same) out)

  no_twice_in_template : (a : AlternativeParts) (used : PlaceUse) → Contains (alternatives_of p) a → IsUsedAgain (template_uses a) used → ⊥
  no_twice_in_template a used h again =
      let rule = rule_from a h in
      let here : IsUsedAgain (template_uses rule.other.1) used = subst (λ b. IsUsedAgain (template_uses b) used) (sym rule.same) again in
      let there = keys_again place_of (template_uses rule.side.1) used.place (template_again o rule.side rule.other rule.is used.place (again_keys place_of (template_uses rule.other.1) used (again_used (template_uses rule.other.1) used here))) in
      faultless.none _ (twice_in_template rule.stands (used_again (template_uses rule.side.1) there.element there.again))

  no_twice_in_marks : (a : AlternativeParts) (used : PlaceUse) → Contains (alternatives_of p) a → IsUsedAgain a.marks used → ⊥
  no_twice_in_marks a used h again =
      let rule = rule_from a h in
      let here : IsUsedAgain rule.other.1.marks used = subst (λ (b : AlternativeParts). IsUsedAgain b.marks used) (sym rule.same) again in
      let there = keys_again place_of rule.side.1.marks used.place (subst (λ l. IsRepeated l used.place) rule.is.marks (again_keys place_of rule.other.1.marks used (again_used rule.other.1.marks used here))) in
      faultless.none _ (twice_in_marks rule.stands (used_again rule.side.1.marks there.element there.again))

  -- a name where a token has to stand
  name_at : (s : Symbol) (right : List Symbol) (i : ℕ) (word : Word) → slice_get right i ≡ Some s → IsPrinted o s (Name word) → (IsTokenName p word.bytes → ⊥) → (from : Word) × (slice_get right i ≡ Some (Name from)) × (from.bytes ≡ word.bytes)
  name_at s right i word here is no_token = ⊎_elim
      (λ name. (name.from, here ∙ ap Some name.is, name.same))
      (λ token. absurd (no_token (token_here word.bytes token)))
      (name_of is word (one_member word))

  no_not_a_token : (a : AlternativeParts) (used : PlaceUse) → Contains (alternatives_of p) a → Contains (token_uses a) used → IsNameAt p a used.place → ⊥
  no_not_a_token a used h has name =
      let rule = rule_from a h in
      let at = symbol_at rule.is.right (used.place - 1) (Name name.word) (subst (λ (b : AlternativeParts). slice_get b.right (used.place - 1) ≡ Some (Name name.word)) (sym rule.same) name.stands) in
      let from = name_at at.from rule.side.1.right (used.place - 1) name.word at.stands at.is name.no_token in
      let here : Contains (places (token_uses rule.other.1)) used.place = mapped_has place_of (token_uses rule.other.1) used (subst (λ b. Contains (token_uses b) used) (sym rule.same) has) in
      let there = mapped_from place_of (token_uses rule.side.1) used.place (subst (λ l. Contains l used.place) (token_places_same o rule.side rule.other rule.is) here) in
      let stands : IsNameAt o rule.side.1 used.place = record {
        word = from.0;
        not_zero = name.not_zero;
        stands = from.1;
        no_token = λ token. name.no_token (token_here name.word.bytes (subst (IsTokenName o) from.2 token));
        rule = subst (HasRule o) (sym from.2) (rule_there name.word.bytes name.rule);
      } in
      faultless.none _ (not_a_token rule.stands there.stands (subst (IsNameAt o rule.side.1) (sym there.is) stands))

  pub no_fault : (fault : SheetFault) → HasLineFault p fault → ⊥
  no_fault fault (line_feed {word = word} h feed) = (literals_fine word h).0 feed
  no_fault fault (no_spelling {word = word} h none) = no_bad_spelling word h none
  no_fault fault (empty_pattern {word = word} {pattern = pattern} h spelled empty) = no_empty_pattern word pattern h spelled empty
  no_fault fault (empty_literal {word = word} h none) = (literals_fine word h).1 none
  no_fault fault (name_again {word = word} h) = no_name_again word h
  no_fault fault (literal_again {word = word} h) = no_literal_again word h
  no_fault fault (start_again before {start = start} h) = no_start_again before start h
  no_fault fault (left_is_token {word = word} h token) = no_left_token word h token
  no_fault fault (unknown_name {word = word} h no_token no_rule) = no_unknown_name word h no_token no_rule
  no_fault fault (unknown_start {start = start} h no_rule) = no_unknown_start start h no_rule
  no_fault fault (out_of_range {a = a} {used = used} h has out) = no_out_of_range a used h has out
  no_fault fault (twice_in_template {a = a} {used = used} h again) = no_twice_in_template a used h again
  no_fault fault (twice_in_marks {a = a} {used = used} h again) = no_twice_in_marks a used h again
  no_fault fault (not_a_token {a = a} {used = used} h has name) = no_not_a_token a used h has name
