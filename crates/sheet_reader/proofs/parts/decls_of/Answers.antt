use Rattle.std.proofs.Common.{◌+◌, List, [], take, sym, ap, subst, ◌∙◌, Vec, Global}
use Rattle.sheet_data.specs.declared.parts.Decl.{Decl}
use Rattle.outline_theory.specs.Numbering.{AreDecls, no_decl}
use Rattle.sheet_reader.proofs.PartLemmas.{kept_next, left_next}
use Rattle.sheet_reader.proofs.parts.decls_of.Goals as goal
use Rattle.sheet_reader.proofs.parts.decls_of.Goals.{in-Some+in_ok-push, in_default}

pub loop-declaration-init : goal.loop-declaration-init
loop-declaration-init c = subst (AreDecls []) (sym c.new-decls.ensures.items) no_decl

pub loop-declaration-preserved : goal.loop-declaration-preserved
loop-declaration-preserved c =
    let ds = c.args.declarations.now in
    let i = c.loop-declaration.declaration-index in
    let d = c.declaration-item.result in
    let decls : List Decl = c.loop-declaration.decls.items in
    let items : Vec Decl Global → List Decl = λ v. v.items in
    elim c.match-branch-2.branch [
      | in-Some+in_ok-push w ↦ kept_next ds i d c.in_ok-decl.field-0 w.in-Some.decl decls c.match-branch-2.decls.items c.loop-declaration-test.true c.declaration-item.is c.loop-declaration.invariant c.in_ok-decl.ensures w.in-Some.is (ap items w.decls-is ∙ w.in_ok-push.ensures.items)
      | in_default w ↦ subst (λ v. AreDecls (take (i + 1) ds) (items v)) (sym w.decls-is) (left_next ds i d c.in_ok-decl.field-0 decls c.loop-declaration-test.true c.declaration-item.is c.loop-declaration.invariant c.in_ok-decl.ensures w.in_default.is)
    ]
