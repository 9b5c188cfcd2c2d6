use Rattle.std.proofs.Common.{[], ◌∷◌, ◌++◌, ap, subst}
use Rattle.lawful_theory.proofs.CanonicalLemmas.{lawful_law}
use Rattle.bare_theory.specs.Bare.{AreBarePiecesOf}
use Rattle.node_store.specs.Chunks.{numbers_in, store_of}
use Rattle.join_rows.proofs.RowLemmas.{lawful_maps, new_number, text_numbers, walkable_end}
use Rattle.join_rows.proofs.answers.parse_joined.Goals as goal

pub joined_pieces-requires-clause-lawful : goal.joined_pieces-requires-clause-lawful
joined_pieces-requires-clause-lawful c =
    lawful_maps c.args.sheet.now.grammar c.args.built.now.tables c.new-arrows.result.0 c.requires.built.lawful (ap (λ x. x.0) c.new-arrows.ensures)

pub joined_pieces-requires-clause-numbered : goal.joined_pieces-requires-clause-numbered
joined_pieces-requires-clause-numbered c = text_numbers c.args.built.now.tables c.args.tokens.now c.holds.ensures c.requires.tokens

pub finish-requires-clause-lawful : goal.finish-requires-clause-lawful
finish-requires-clause-lawful c = lawful_law c.args.sheet.now.grammar c.args.built.now.tables c.requires.built.lawful

pub finish-requires-clause-chunk : goal.finish-requires-clause-chunk
finish-requires-clause-chunk c has = new_number {pieces = c.in_ok-pieces.pieces} c.in_ok-pieces.ensures.pieces has

pub returns : goal.returns
returns c =
    let g = c.args.sheet.now.grammar in
    let t = c.args.built.now.tables in
    let pieces = c.in_ok-pieces.pieces in
    let tokens = c.args.tokens.now in
    let are = subst (λ x. AreBarePiecesOf x (store_of pieces.store) pieces.closed tokens) (ap (λ x. x.0) c.new-arrows.ensures) c.in_ok-pieces.ensures.pieces.are in
    walkable_end g t tokens (store_of pieces.store) (numbers_in pieces.store ++ c.in_ok-pieces.number ∷ []) c.in_ok-parsed.parsed (c.in_ok-parsed.ensures.finished g tokens c.requires.built.lawful are)
