use Rattle.std.proofs.Common.{◌≡◌, ◌<◌, ◌≤◌, ◌+◌, ◌-◌, length, arith, sym, ap, subst, ◌∙◌, Some}
use Rattle.std.specs.Prelude.{slice_get, IfOk}
use Rattle.sheet_data.specs.Sheet.{Sheet}
use Rattle.sheet_theory.specs.Names.{declared_names, token_names}
use Rattle.sheet_reader.specs.Parts.{parts_of}
use Rattle.sheet_reader.proofs.SheetLemmas.{text_declared, text_quoted, text_end, text_bad_byte}
use Rattle.sheet_reader.proofs.sheet.Sheet.token_text.Goals as goal

pub declared_name-name-requires : goal.declared_name-name-requires
declared_name-name-requires c =
    let count : c.declared_tokens-declared.result ≡ length (declared_names c.deref.result.now) = c.declared_tokens-declared.ensures ∙ sym (ap (λ (s : Sheet). length (declared_names s.decls)) c.self.view_is) ∙ sym (ap (λ ds. length (declared_names ds)) c.deref.ensures.value) in
    omega (arith, count, c.if-number-declared.true)

pub returns-then-number-declared : goal.returns-then-number-declared
returns-then-number-declared c =
    let decls = c.deref.ensures.value ∙ ap (λ (s : Sheet). s.decls) c.self.view_is in
    text_declared c.args.self.now c.a.inside.0 c.args.a c.in_ok-from_slice.field-0.items c.a.view_is (ap (λ ds. slice_get (declared_names ds) c.a.inside.0) (sym decls) ∙ c.declared_name-name.ensures ∙ ap Some (sym c.in_ok-from_slice.ensures.items))

pub returns-then-unnamed-len : goal.returns-then-unnamed-len
returns-then-unnamed-len c =
    let P : Sheet → Type 0 = λ s. IfOk c.quoted.result (λ text. slice_get (token_names s) c.args.a ≡ Some text.items) in
    let count : c.declared_tokens-declared.result ≡ length (declared_names c.self.inside.decls.items) = c.declared_tokens-declared.ensures ∙ sym (ap (λ (s : Sheet). length (declared_names s.decls)) c.self.view_is) in
    let place : c.declared_tokens-declared.result + (c.a.inside.0 - c.declared_tokens-declared.result) ≡ c.args.a = omega (arith, c.a.view_is, c.if-number-declared.false) in
    let within : c.a.inside.0 - c.declared_tokens-declared.result < length c.self.inside.literals.items = omega (arith, c.len.ensures, c.self.inside.literals.ok) in
    subst P c.self.view_is (text_quoted c.quoted.result (parts_of c.self.inside) c.declared_tokens-declared.result c.args.a (c.a.inside.0 - c.declared_tokens-declared.result) c.index.result.now c.as_slice.result.now count place within c.index.ensures c.as_slice.ensures c.quoted.ensures)

pub returns-then-unnamed-len-2 : goal.returns-then-unnamed-len-2
returns-then-unnamed-len-2 c =
    let P : Sheet → Type 0 = λ s. slice_get (token_names s) c.args.a ≡ Some c.in_ok-end.end.items in
    let count : c.declared_tokens-declared.result ≡ length (declared_names c.self.inside.decls.items) = c.declared_tokens-declared.ensures ∙ sym (ap (λ (s : Sheet). length (declared_names s.decls)) c.self.view_is) in
    let place : c.args.a ≡ length (declared_names c.self.inside.decls.items) + length c.self.inside.literals.items = omega (arith, c.a.view_is, count, c.len.ensures, c.len-2.ensures, c.self.inside.literals.ok, c.if-number-declared.false) in
    subst P c.self.view_is (text_end (parts_of c.self.inside) c.args.a _ place (c.in_ok-end.ensures.items ∙ c.as_slice-then-unnamed-len-2.ensures))

pub returns : goal.returns
returns c =
    let P : Sheet → Type 0 = λ s. slice_get (token_names s) c.args.a ≡ Some c.in_ok-bad_byte.bad_byte.items in
    let count : c.declared_tokens-declared.result ≡ length (declared_names c.self.inside.decls.items) = c.declared_tokens-declared.ensures ∙ sym (ap (λ (s : Sheet). length (declared_names s.decls)) c.self.view_is) in
    let behind : length (declared_names c.self.inside.decls.items) + length c.self.inside.literals.items < c.args.a = omega (arith, c.a.view_is, count, c.len.ensures, c.len-2.ensures, c.self.inside.literals.ok, c.if-number-declared.false) in
    let within : c.args.a ≤ c.self.inside.grammar.tokens + 1 = omega (arith, c.requires, ap (λ (s : Sheet). s.grammar.tokens) c.self.view_is) in
    subst P c.self.view_is (text_bad_byte (parts_of c.self.inside) c.self.invariant c.args.a _ behind within (c.in_ok-bad_byte.ensures.items ∙ c.as_slice-2.ensures))
