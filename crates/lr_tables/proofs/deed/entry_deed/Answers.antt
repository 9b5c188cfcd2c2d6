use Rattle.std.proofs.Common.{◌≡◌, ◌<◌, ◌≤◌, suc, [], ◌∷◌, length, drop, refl, ap, ◌∙◌, arith}
use Rattle.std.proofs.lemmas.List.{drop_all}
use Rattle.grammar_data.specs.declared.rule.Sym.TheVariants.{Token, Name}
use Rattle.collection_data.specs.declared.entry.Entry.{Entry}
use Rattle.lr_tables.proofs.EntryDeedLemmas.{entry_shifts, entry_idle, entry_reduces, entry_accepts, augmented_right, own_right, own_rule_of, behind_at}
use Rattle.lr_tables.proofs.deed.entry_deed.Goals as goal

pub returns-then-entry-eq0-clause-does : goal.returns-then-entry-eq0-clause-does
returns-then-entry-eq0-clause-does c =
    let g = c.args.grammar.now in
    let e = c.args.entry.now in
    let rule = ap (λ (d : Entry). d.rule) c.entry.view_is in
    let dot = ap (λ (d : Entry). d.dot) c.entry.view_is in
    let last : e.rule ≡ length g.rules = omega (arith, rule) in
    let right = augmented_right g e last c.requires in
    let front : e.dot ≡ 0 = omega (arith, dot) in
    let behind : drop e.dot c.requires.right ≡ Name g.start ∷ [] = ap (λ d. drop d c.requires.right) front ∙ right in
    entry_idle g e c.requires.name c.requires.right c.requires.rule c.requires.dot g.start [] behind

pub returns-else-entry-eq0-clause-does : goal.returns-else-entry-eq0-clause-does
returns-else-entry-eq0-clause-does c =
    let g = c.args.grammar.now in
    let e = c.args.entry.now in
    let rule = ap (λ (d : Entry). d.rule) c.entry.view_is in
    let dot = ap (λ (d : Entry). d.dot) c.entry.view_is in
    let last : e.rule ≡ length g.rules = omega (arith, rule) in
    let right = augmented_right g e last c.requires in
    let past : length c.requires.right ≤ e.dot = let one : length c.requires.right ≡ 1 = ap length right in omega (arith, dot) in
    entry_accepts g e c.requires.name c.requires.right c.requires.rule c.requires.dot (drop_all e.dot c.requires.right past) last

pub right-requires : goal.right-requires
right-requires c =
    let rule = ap (λ (e : Entry). e.rule) c.entry.view_is in
    own_rule_of c.args.grammar.now c.args.entry.now c.requires (λ last. absurd (omega (arith, rule, last)))

pub returns-in-Some-Token-clause-does : goal.returns-in-Some-Token-clause-does
returns-in-Some-Token-clause-does c =
    let g = c.args.grammar.now in
    let e = c.args.entry.now in
    let rule = ap (λ (d : Entry). d.rule) c.entry.view_is in
    let own : e.rule < length g.rules = own_rule_of g e c.requires (λ last. absurd (omega (arith, rule, last))) in
    let right = own_right g e own c.requires c.right.result.now c.right.ensures.right in
    let dot = ap (λ (d : Entry). d.dot) c.entry.view_is in
    let found = c.in-Some-Token.ensures.lookup in
    let behind = behind_at c.right.result.now _ e.dot c.in-Some-Token.field-0.now (Token c.in-Some-Token.token) dot found.3.0 found.1 c.in-Some-Token.field-0-is in
    entry_shifts g e c.requires.name c.requires.right c.requires.rule c.requires.dot c.in-Some-Token.token (drop (suc e.dot) c.right.result.now) (ap (drop e.dot) right ∙ behind)

pub returns-in-Some-Name-clause-does : goal.returns-in-Some-Name-clause-does
returns-in-Some-Name-clause-does c =
    let g = c.args.grammar.now in
    let e = c.args.entry.now in
    let rule = ap (λ (d : Entry). d.rule) c.entry.view_is in
    let own : e.rule < length g.rules = own_rule_of g e c.requires (λ last. absurd (omega (arith, rule, last))) in
    let right = own_right g e own c.requires c.right.result.now c.right.ensures.right in
    let dot = ap (λ (d : Entry). d.dot) c.entry.view_is in
    let found = c.in-Some-Name.ensures.lookup in
    let behind = behind_at c.right.result.now _ e.dot c.in-Some-Name.field-0.now (Name c.in-Some-Name.field-0-0) dot found.3.0 found.1 c.in-Some-Name.field-0-is in
    entry_idle g e c.requires.name c.requires.right c.requires.rule c.requires.dot c.in-Some-Name.field-0-0 (drop (suc e.dot) c.right.result.now) (ap (drop e.dot) right ∙ behind)

pub returns-in-None-clause-does : goal.returns-in-None-clause-does
returns-in-None-clause-does c =
    let g = c.args.grammar.now in
    let e = c.args.entry.now in
    let rule = ap (λ (d : Entry). d.rule) c.entry.view_is in
    let own : e.rule < length g.rules = own_rule_of g e c.requires (λ last. absurd (omega (arith, rule, last))) in
    let right = own_right g e own c.requires c.right.result.now c.right.ensures.right in
    entry_reduces g e c.requires.name c.requires.right c.requires.rule c.requires.dot (ap (drop e.dot) right ∙ drop_all e.dot c.right.result.now (omega (arith, ap (λ (d : Entry). d.dot) c.entry.view_is, c.in-None.ensures.lookup.3))) own

pub returns-in-None-clause-in_range : goal.returns-in-None-clause-in_range
returns-in-None-clause-in_range c =
    let rule = ap (λ (e : Entry). e.rule) c.entry.view_is in
    (refl, own_rule_of c.args.grammar.now c.args.entry.now c.requires (λ last. absurd (omega (arith, rule, last))))
