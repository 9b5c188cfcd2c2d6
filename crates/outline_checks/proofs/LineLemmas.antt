-- The faults of all kinds together are those of the outline.
use Rattle.std.proofs.Common.{◌≡◌, ℕ, Bool, true, false, List, length, refl, sym, subst, ◌∙◌, inl, inr}
use Rattle.std.specs.Prelude.{◌⊎◌, Option, None, Some, Contains, MatchOption}
use Rattle.std.specs.List.{flat_map}
use Rattle.std.proofs.lemmas.Bool.{false≢true}
use Rattle.std.proofs.lemmas.Option.{none-some, same_Some}
use Rattle.std.proofs.lemmas.List.Elements.{Contains-append_left, Contains-append_right, Contains-append_cases}
use Rattle.outline_data.specs.declared.outline.Word.{Word}
use Rattle.outline_data.specs.declared.outline.PlaceUse.{PlaceUse}
use Rattle.outline_data.specs.declared.rules.Symbol.{Symbol}
use Rattle.outline_data.specs.declared.rules.Symbol.TheVariants.{Name, Quoted}
use Rattle.outline_data.specs.declared.fault.SheetFault.{SheetFault}
use Rattle.outline_data.specs.AlternativeParts.{AlternativeParts}
use Rattle.outline_data.specs.GroupParts.{GroupParts}
use Rattle.outline_data.specs.Parts.{OutlineParts}
use Rattle.outline_theory.specs.Words.{texts, token_words, literal_words, pattern_words, starts, left_words, alternatives_of, name_in, quoted_in, side_names, side_literals, all_literals, template_uses, token_uses}
use Rattle.outline_theory.specs.LineFaults.{IsTokenName, HasRule, HasLineFault, IsFirstLineFault}
use Rattle.outline_checks.specs.declared.names.Names.{Names}
use Rattle.outline_checks.specs.Noted.{Noted}
use Rattle.outline_checks.specs.WordSets.{IsSetOf}
use Rattle.outline_checks.specs.Kinds.{is_token_name, is_left_side, InSome, LiteralFault, RepeatFault, NamedLiteralFault, PatternTextFault, StartFault, NameFault, SymbolFault, PlaceFault, IsGrammarName, NoTokenFault, AlternativeFault, GroupFault}
use Rattle.outline_checks.proofs.NotedLemmas.{noted_both, noted_as}
use Rattle.outline_checks.proofs.ListLemmas.{no_element, only_element, one_element, joined_has, joined_from, mapped_has, mapped_from}

-- the names that the sets hold are those of the outline
pub record KnowsNames (o : OutlineParts) (names : Names) : Type 0 where
  pub tokens : IsSetOf names.tokens (texts (token_words o))
  pub left_sides : IsSetOf names.left_sides (texts (left_words o))

not_true : (b : Bool) → (b ≡ true → ⊥) → b ≡ false
not_true true h = absurd (h refl)
not_true false h = refl

module _ (o : OutlineParts) (names : Names) (knows : KnowsNames o names) where
  token_of : (word : List ℕ) → is_token_name names word ≡ true → IsTokenName o word
  token_of word h = (knows.tokens.same word).0 h

  token_to : (word : List ℕ) → IsTokenName o word → is_token_name names word ≡ true
  token_to word h = (knows.tokens.same word).1 h

  no_token_of : (word : List ℕ) → is_token_name names word ≡ false → IsTokenName o word → ⊥
  no_token_of word e h = false≢true (sym e ∙ token_to word h)

  no_token_to : (word : List ℕ) → (IsTokenName o word → ⊥) → is_token_name names word ≡ false
  no_token_to word h = not_true (is_token_name names word) (λ e. h (token_of word e))

  rule_of : (word : List ℕ) → is_left_side names word ≡ true → HasRule o word
  rule_of word h = (knows.left_sides.same word).0 h

  rule_to : (word : List ℕ) → HasRule o word → is_left_side names word ≡ true
  rule_to word h = (knows.left_sides.same word).1 h

  no_rule_of : (word : List ℕ) → is_left_side names word ≡ false → HasRule o word → ⊥
  no_rule_of word e h = false≢true (sym e ∙ rule_to word h)

  no_rule_to : (word : List ℕ) → (HasRule o word → ⊥) → is_left_side names word ≡ false
  no_rule_to word h = not_true (is_left_side names word) (λ e. h (rule_of word e))

  -- the faults of all kinds
  abbrev pub AnyKind : SheetFault → Type 0
  AnyKind f = (((RepeatFault (token_words o) f ⊎ NamedLiteralFault (literal_words o) f) ⊎ InSome PatternTextFault (pattern_words o) f) ⊎ StartFault names (starts o) f) ⊎ InSome (GroupFault names) o.groups f

  -- ---- each fault of a kind is one of the outline

  of_literal : (word : Word) (f : SheetFault) → Contains (all_literals o) word → LiteralFault word f → HasLineFault o f
  of_literal word _ h (LiteralFault.line_feed feed) = HasLineFault.line_feed h feed
  of_literal word _ h (LiteralFault.empty none) = HasLineFault.empty_literal h none

  of_named : (f : SheetFault) → NamedLiteralFault (literal_words o) f → HasLineFault o f
  of_named f (NamedLiteralFault.named_again h) = of_again f h
    where
      of_again : (f : SheetFault) → RepeatFault (literal_words o) f → HasLineFault o f
      of_again _ (RepeatFault.again h) = HasLineFault.literal_again h
  of_named f (NamedLiteralFault.named_text h) = of_literal h.element f (Contains-append_left (literal_words o) (side_literals o) h.element h.stands) h.has

  of_token : (f : SheetFault) → RepeatFault (token_words o) f → HasLineFault o f
  of_token _ (RepeatFault.again h) = HasLineFault.name_again h

  of_pattern : (word : Word) (f : SheetFault) → Contains (pattern_words o) word → PatternTextFault word f → HasLineFault o f
  of_pattern word _ h (PatternTextFault.no_spelling none) = HasLineFault.no_spelling h none
  of_pattern word _ h (PatternTextFault.empty_pattern spelled empties) = HasLineFault.empty_pattern h spelled empties

  of_start : (f : SheetFault) → StartFault names (starts o) f → HasLineFault o f
  of_start _ (StartFault.second_start before e) = HasLineFault.start_again before e
  of_start _ (StartFault.unknown_start {start = s} h e) = HasLineFault.unknown_start h (no_rule_of s.name.bytes e)

  of_symbol : (a : AlternativeParts) (s : Symbol) (f : SheetFault) → Contains (alternatives_of o) a → Contains a.right s → SymbolFault names s f → HasLineFault o f
  of_symbol a (Name word) _ h k (NameFault.unknown_name t r) =
      let stands : Contains (side_names o) word = joined_has (λ (b : AlternativeParts). flat_map name_in b.right) (alternatives_of o) a word h (joined_has name_in a.right (Name word) word k (one_element word)) in
      HasLineFault.unknown_name stands (no_token_of word.bytes t) (no_rule_of word.bytes r)
  of_symbol a (Quoted word) f h k p =
      let stands : Contains (side_literals o) word = joined_has (λ (b : AlternativeParts). flat_map quoted_in b.right) (alternatives_of o) a word h (joined_has quoted_in a.right (Quoted word) word k (one_element word)) in
      of_literal word f (Contains-append_right (literal_words o) (side_literals o) word stands) p

  of_template : (a : AlternativeParts) (f : SheetFault) → Contains (alternatives_of o) a → PlaceFault (length a.right) (template_uses a) f → HasLineFault o f
  of_template a _ h (PlaceFault.out_of_range {used = u} k range) = HasLineFault.out_of_range h (Contains-append_left (template_uses a) a.marks u k) range
  of_template a _ h (PlaceFault.twice k) = HasLineFault.twice_in_template h k

  of_marks : (a : AlternativeParts) (f : SheetFault) → Contains (alternatives_of o) a → PlaceFault (length a.right) a.marks f → HasLineFault o f
  of_marks a _ h (PlaceFault.out_of_range {used = u} k range) = HasLineFault.out_of_range h (Contains-append_right (template_uses a) a.marks u k) range
  of_marks a _ h (PlaceFault.twice k) = HasLineFault.twice_in_marks h k

  of_no_token : (a : AlternativeParts) (used : PlaceUse) (f : SheetFault) → Contains (alternatives_of o) a → Contains (token_uses a) used → NoTokenFault names a.right used f → HasLineFault o f
  of_no_token a used _ h k (NoTokenFault.not_a_token g) =
      HasLineFault.not_a_token h k (record { word = g.word; not_zero = g.not_zero; stands = g.stands; no_token = no_token_of g.word.bytes g.no_token; rule = rule_of g.word.bytes g.rule })

  of_alternative : (a : AlternativeParts) (f : SheetFault) → Contains (alternatives_of o) a → AlternativeFault names a f → HasLineFault o f
  of_alternative a f h (AlternativeFault.in_right p) = of_symbol a p.element f h p.stands p.has
  of_alternative a f h (AlternativeFault.in_template p) = of_template a f h p
  of_alternative a f h (AlternativeFault.in_marks p) = of_marks a f h p
  of_alternative a f h (AlternativeFault.at_name p) = of_no_token a p.element f h p.stands p.has

  of_group : (g : GroupParts) (f : SheetFault) → Contains o.groups g → GroupFault names g f → HasLineFault o f
  of_group g _ h (GroupFault.left_is_token t) =
      HasLineFault.left_is_token (mapped_has (λ (b : GroupParts). b.left) o.groups g h) (token_of g.left.bytes t)
  of_group g f h (GroupFault.in_alternative p) =
      of_alternative p.element f (joined_has (λ (b : GroupParts). b.alternatives) o.groups g p.element h p.stands) p.has

  of_any : (f : SheetFault) → AnyKind f → HasLineFault o f
  of_any f (inl (inl (inl (inl p)))) = of_token f p
  of_any f (inl (inl (inl (inr p)))) = of_named f p
  of_any f (inl (inl (inr p))) = of_pattern p.element f p.stands p.has
  of_any f (inl (inr p)) = of_start f p
  of_any f (inr p) = of_group p.element f p.stands p.has

  -- ---- and each fault of the outline is one of a kind

  to_group : (a : AlternativeParts) (f : SheetFault) → Contains (alternatives_of o) a → AlternativeFault names a f → AnyKind f
  to_group a f h p =
      let r = joined_from (λ (b : GroupParts). b.alternatives) o.groups a h in
      inr (record { element = r.0; stands = r.1.0; has = GroupFault.in_alternative (record { element = a; stands = r.1.1; has = p }) })

  to_literal : (word : Word) (f : SheetFault) → Contains (all_literals o) word → LiteralFault word f → AnyKind f
  to_literal word f h p = elim (Contains-append_cases (literal_words o) (side_literals o) word h) [
    | inl named ↦ inl (inl (inl (inr (NamedLiteralFault.named_text (record { element = word; stands = named; has = p })))))
    | inr side ↦
        let r = joined_from (λ (b : AlternativeParts). flat_map quoted_in b.right) (alternatives_of o) word side in
        let s = joined_from quoted_in r.0.right word r.1.1 in
        to_group r.0 f r.1.0 (AlternativeFault.in_right (record { element = s.0; stands = s.1.0; has = quoted_fault s.0 s.1.1 }))
  ]
    where
      quoted_fault : (s : Symbol) → Contains (quoted_in s) word → SymbolFault names s f
      quoted_fault (Name w) k = absurd (no_element word k)
      quoted_fault (Quoted w) k = subst (λ (v : Word). LiteralFault v f) (sym (only_element w word k)) p

  to_name : (word : Word) → Contains (side_names o) word → NameFault names word (SheetFault.UnknownSymbol word.line) → AnyKind (SheetFault.UnknownSymbol word.line)
  to_name word h p =
      let r = joined_from (λ (b : AlternativeParts). flat_map name_in b.right) (alternatives_of o) word h in
      let s = joined_from name_in r.0.right word r.1.1 in
      to_group r.0 (SheetFault.UnknownSymbol word.line) r.1.0 (AlternativeFault.in_right (record { element = s.0; stands = s.1.0; has = name_fault s.0 s.1.1 }))
    where
      name_fault : (s : Symbol) → Contains (name_in s) word → SymbolFault names s (SheetFault.UnknownSymbol word.line)
      name_fault (Name w) k = subst (λ (v : Word). NameFault names v (SheetFault.UnknownSymbol word.line)) (sym (only_element w word k)) p
      name_fault (Quoted w) k = absurd (no_element word k)

  to_any : (f : SheetFault) → HasLineFault o f → AnyKind f
  to_any f (HasLineFault.line_feed {word = w} h feed) = to_literal w f h (LiteralFault.line_feed feed)
  to_any f (HasLineFault.empty_literal {word = w} h none) = to_literal w f h (LiteralFault.empty none)
  to_any f (HasLineFault.no_spelling {word = w} h none) = inl (inl (inr (record { element = w; stands = h; has = PatternTextFault.no_spelling none })))
  to_any f (HasLineFault.empty_pattern {word = w} h spelled empties) = inl (inl (inr (record { element = w; stands = h; has = PatternTextFault.empty_pattern spelled empties })))
  to_any f (HasLineFault.name_again h) = inl (inl (inl (inl (RepeatFault.again h))))
  to_any f (HasLineFault.literal_again h) = inl (inl (inl (inr (NamedLiteralFault.named_again (RepeatFault.again h)))))
  to_any f (HasLineFault.start_again before e) = inl (inr (StartFault.second_start before e))
  to_any f (HasLineFault.left_is_token {word = w} h t) =
      let r = mapped_from (λ (b : GroupParts). b.left) o.groups w h in
      inr (record { element = r.0; stands = r.1.0; has = subst (λ (v : Word). GroupFault names r.0 (SheetFault.Redeclared v.line)) r.1.1 (GroupFault.left_is_token (subst (λ (v : Word). is_token_name names v.bytes ≡ true) (sym r.1.1) (token_to w.bytes t))) })
  to_any f (HasLineFault.unknown_name {word = w} h t r) = to_name w h (NameFault.unknown_name (no_token_to w.bytes t) (no_rule_to w.bytes r))
  to_any f (HasLineFault.unknown_start {start = s} h r) = inl (inr (StartFault.unknown_start h (no_rule_to s.name.bytes r)))
  to_any f (HasLineFault.out_of_range {a = a} {used = u} h k range) = elim (Contains-append_cases (template_uses a) a.marks u k) [
    | inl early ↦ to_group a f h (AlternativeFault.in_template (PlaceFault.out_of_range early range))
    | inr late ↦ to_group a f h (AlternativeFault.in_marks (PlaceFault.out_of_range late range))
  ]
  to_any f (HasLineFault.twice_in_template {a = a} h k) = to_group a f h (AlternativeFault.in_template (PlaceFault.twice k))
  to_any f (HasLineFault.twice_in_marks {a = a} h k) = to_group a f h (AlternativeFault.in_marks (PlaceFault.twice k))
  to_any f (HasLineFault.not_a_token {a = a} {used = u} h k g) =
      let name : IsGrammarName names a.right u.place = record { word = g.word; not_zero = g.not_zero; stands = g.stands; no_token = no_token_to g.word.bytes g.no_token; rule = rule_to g.word.bytes g.rule } in
      to_group a f h (AlternativeFault.at_name (record { element = u; stands = k; has = NoTokenFault.not_a_token name }))

verdict : (o : OutlineParts) (found : Option SheetFault) → Noted None found (HasLineFault o) → MatchOption found ((fault : SheetFault) → HasLineFault o fault → ⊥) (λ fault. IsFirstLineFault o fault)
verdict o None h = λ fault has. h.noted fault has
verdict o (Some first) h = record {
  has = elim h.from [
    | inl same ↦ absurd (none-some first (sym same))
    | inr p ↦ subst (λ f. HasLineFault o f) (sym (same_Some first p.0 p.1.0)) p.1.1
  ];
  first = λ other has. h.noted other has;
}

pub first_found : (o : OutlineParts) (names : Names) {a b c d e n : Option SheetFault} → a ≡ None → KnowsNames o names → Noted a b (RepeatFault (token_words o)) → Noted b c (NamedLiteralFault (literal_words o)) → Noted c n (InSome PatternTextFault (pattern_words o)) → Noted n d (StartFault names (starts o)) → Noted d e (InSome (GroupFault names) o.groups) → MatchOption e ((fault : SheetFault) → HasLineFault o fault → ⊥) (λ fault. IsFirstLineFault o fault)
first_found o names {a} {b} {c} {d} {e} {n} new knows h k p l m =
    let all : Noted a e (HasLineFault o) = noted_as (HasLineFault o) (noted_both (noted_both (noted_both (noted_both h k) p) l) m) (of_any o names knows) (to_any o names knows) in
    verdict o e (subst (λ x. Noted x e (HasLineFault o)) new all)
