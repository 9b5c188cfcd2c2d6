use Rattle.std.proofs.Common.{◌≡◌, ◌∙◌, ◌<◌, length, sym, subst, arith}
use Rattle.lr_machine.specs.IsTables.{IsTables}
use Rattle.context_laws.specs.Contexts.{LeadFromStates}
use Rattle.node_store.specs.Chunks.{store_of}
use Rattle.segment_laws.specs.Laws.{HasNoNodes}
use Rattle.segment_parser.specs.Settling.{IsBetween}
use Rattle.segment_parser.proofs.CloseLemmas.{HasOpened, IsParsedTo}
use Rattle.segment_parser.proofs.ReadLemmas.{lead_from, has_opened_as, begins_between, ends_between, parsed_bare, parsed_parts, none_parsed, nothing_stored}
use Rattle.segment_parser.proofs.parsing.parse_segment_by.Goals as goal

pub returns-then-is_empty-clause-pieces : goal.returns-then-is_empty-clause-pieces
returns-then-is_empty-clause-pieces c =
    let tokens = c.args.tokens.now in
    let none : length tokens ≡ 0 = grind arith in
    let stored : HasNoNodes (store_of c.add_chunk.new.self) = nothing_stored c.new-store.result c.new-store.ensures c.add_chunk.new.self c.add_chunk.ensures.trees in
    let parsed : IsParsedTo c.args.arrows.now.0 (store_of c.add_chunk.new.self) c.new-block.result.closed tokens = none_parsed tokens stored c.new-block.ensures.closed none in
    parsed_bare parsed

pub returns-then-is_empty-clause-parts : goal.returns-then-is_empty-clause-parts
returns-then-is_empty-clause-parts c =
    let tokens = c.args.tokens.now in
    let none : length tokens ≡ 0 = grind arith in
    let stored : HasNoNodes (store_of c.add_chunk.new.self) = nothing_stored c.new-store.result c.new-store.ensures c.add_chunk.new.self c.add_chunk.ensures.trees in
    let parsed : IsParsedTo c.args.arrows.now.0 (store_of c.add_chunk.new.self) c.new-block.result.closed tokens = none_parsed tokens stored c.new-block.ensures.closed none in
    parsed_parts parsed

pub read_all-requires-clause-lead : goal.read_all-requires-clause-lead
read_all-requires-clause-lead c =
    let tables : IsTables c.begin.new.arrows.0 = subst IsTables (c.tables.ensures ∙ sym c.begin.ensures.tables) c.holds.ensures in
    lead_from c.begin.new.arrows.0 tables

pub read_all-requires-clause-at : goal.read_all-requires-clause-at
read_all-requires-clause-at c =
    let tokens = c.args.tokens.now in
    let token = c.index-tokens-0.result in
    let t = c.begin.new.arrows.0 in
    let new = c.begin.new.arrows.1 in
    let leaf = c.in_ok-leaf.leaf in
    let some : 0 < length tokens = grind arith in
    let begun = c.in_ok-leaf.ensures in
    let stored : HasNoNodes (store_of c.add_chunk.new.self) = nothing_stored c.new-store.result c.new-store.ensures c.add_chunk.new.self c.add_chunk.ensures.trees in
    let opened : HasOpened t new token leaf = has_opened_as t c.args.arrows.now.0 (sym c.begin.ensures.tables) new token leaf begun.block.1 begun.block.0 begun.ids begun.own begun.first.4 begun.first.3 begun.first.0 begun.first.1 begun.first.2 in
    begins_between t (store_of c.add_chunk.new.self) new leaf tokens token c.index-tokens-0.is some stored begun.block.2 opened

pub returns-clause-pieces : goal.returns-clause-pieces
returns-clause-pieces c =
    let t = c.args.arrows.now.0 in
    let tokens = c.args.tokens.now in
    let store = store_of c.read_all.new.store in
    let maps = c.read_all.new.arrows.1 in
    let s = c.read_all.new.self in
    let lead : LeadFromStates t = lead_from t (subst IsTables c.tables.ensures c.holds.ensures) in
    let read : IsBetween t store maps s tokens (length tokens) = subst (λ x. IsBetween x store maps s tokens (length tokens)) c.begin.ensures.tables c.in_ok-read_all.ensures.at in
    parsed_bare (ends_between t c.requires.lawful lead store maps s c.close.new.self tokens read c.in_ok-close.ensures.closed)

pub returns-clause-parts : goal.returns-clause-parts
returns-clause-parts c =
    let t = c.args.arrows.now.0 in
    let tokens = c.args.tokens.now in
    let store = store_of c.read_all.new.store in
    let maps = c.read_all.new.arrows.1 in
    let s = c.read_all.new.self in
    let lead : LeadFromStates t = lead_from t (subst IsTables c.tables.ensures c.holds.ensures) in
    let read : IsBetween t store maps s tokens (length tokens) = subst (λ x. IsBetween x store maps s tokens (length tokens)) c.begin.ensures.tables c.in_ok-read_all.ensures.at in
    parsed_parts (ends_between t c.requires.lawful lead store maps s c.close.new.self tokens read c.in_ok-close.ensures.closed)
