use Rattle.std.proofs.Common.{◌+◌, ◌∷◌, ◌++◌, [], List, Option, Some, drop, sym, ap, ◌∙◌, subst}
use Rattle.std.proofs.Math.ListN.{drop_of_length-le}
use Rattle.node_store.specs.Chunks.{Chunk, numbers_in, store_of}
use Rattle.piece_theory.specs.Pieces.{Fault}
use Rattle.piece_lists.specs.Lists.{Stored, pieces_of, pieces_in}
use Rattle.plain_parse.specs.Parses.{IsWrongOf}
use Rattle.plain_parse.specs.declared.parsed.Parsed.TheVariants.{Wrong}
use Rattle.stack_finish.specs.Finished.{IsAnswer}
use Rattle.stack_finish.specs.Gathering.{IsGathered}
use Rattle.stack_finish.specs.Putting.{IsAfter}
use Rattle.stack_finish.proofs.ClosingLemmas.{wrong_in, tree_sentence, no_sentence}
use Rattle.stack_finish.proofs.PartLemmas.{bares_split, none_of_bares, next_part, gathered_start}
use Rattle.stack_finish.proofs.finishing.finish.Goals as goal

pub loop-part-init : goal.loop-part-init
loop-part-init c =
    let store = ap (λ (v : Stored). v.store) c.into_parts-parts.ensures in
    record {
      at = λ w are. (are.pieces, sym are.same ∙ ap (λ (v : Stored). v.closed) c.into_parts-parts.ensures ∙ ap pieces_in (sym c.deref-part-items.ensures.value), gathered_start c.in_ok-gathered.ensures.entries.0 c.in_ok-gathered.ensures.entries.1 c.in_ok-gathered.ensures.entries.2 (λ m. c.in_ok-gathered.ensures.trees m ∙ ap (λ (l : List Chunk). store_of l m) (sym store)) are.are);
      chunks = c.in_ok-gathered.ensures.chunks.0 ∙ ap (λ (l : List Chunk). numbers_in l ++ c.args.chunk ∷ []) (sym store);
      chunk = c.in_ok-gathered.ensures.chunks.1;
    }

pub put_part-requires-clause-at : goal.put_part-requires-clause-at
put_part-requires-clause-at c =
    let t = c.args.tables.now in
    let base = store_of c.args.pieces.store in
    let parts = c.deref-part-items.result.now in
    let i = c.loop-part.part-index in
    let ahead = next_part parts i c.part-item.result c.loop-part-test.true c.part-item.is in
    let tokens = c.requires.pieces.0 in
    let are = c.requires.pieces.3 in
    let left = c.loop-part.invariant.at tokens are in
    let two = bares_split left.0 (pieces_of c.part-item.result) (pieces_in (drop (i + 1) parts)) (left.1 ∙ ahead) in
    let here : IsGathered t base c.loop-part.gathered (two.first ++ two.rest) tokens = subst (λ l. IsGathered t base c.loop-part.gathered l tokens) two.parts left.2 in
    (base, two.first, two.rest, tokens, c.requires.pieces.1, c.requires.pieces.2, two.of_first, here)

pub returns-in-Some-clause-finished : goal.returns-in-Some-clause-finished
returns-in-Some-clause-finished c g tokens lawful are =
    let t = c.args.tables.now in
    let base = store_of c.args.pieces.store in
    let parts = c.deref-part-items.result.now in
    let i = c.loop-part.part-index in
    let ahead = next_part parts i c.part-item.result c.loop-part-test.true c.part-item.is in
    let left = c.loop-part.invariant.at tokens are in
    let two = bares_split left.0 (pieces_of c.part-item.result) (pieces_in (drop (i + 1) parts)) (left.1 ∙ ahead) in
    let here : IsGathered t base c.loop-part.gathered (two.first ++ two.rest) tokens = subst (λ l. IsGathered t base c.loop-part.gathered l tokens) two.parts left.2 in
    let after : IsAfter t base c.put_part.new.self two.rest tokens (Some c.in-Some.error) = subst (λ (o : Option Fault). IsAfter t base c.put_part.new.self two.rest tokens o) c.in-Some.is (c.in_ok-error.ensures.at base two.first two.rest tokens two.of_first here) in
    let wrong : IsWrongOf g t tokens c.error.inside.index (Some c.error.inside.token) c.error.inside.state = subst (λ (z : Fault). IsWrongOf g t tokens z.index (Some z.token) z.state) (sym c.error.view_is) (wrong_in lawful after) in
    wrong

pub returns-in-Some-clause-tree : goal.returns-in-Some-clause-tree
returns-in-Some-clause-tree c g tokens lawful are =
    let t = c.args.tables.now in
    let base = store_of c.args.pieces.store in
    let parts = c.deref-part-items.result.now in
    let i = c.loop-part.part-index in
    let ahead = next_part parts i c.part-item.result c.loop-part-test.true c.part-item.is in
    let left = c.loop-part.invariant.at tokens are in
    let two = bares_split left.0 (pieces_of c.part-item.result) (pieces_in (drop (i + 1) parts)) (left.1 ∙ ahead) in
    let here : IsGathered t base c.loop-part.gathered (two.first ++ two.rest) tokens = subst (λ l. IsGathered t base c.loop-part.gathered l tokens) two.parts left.2 in
    let after : IsAfter t base c.put_part.new.self two.rest tokens (Some c.in-Some.error) = subst (λ (o : Option Fault). IsAfter t base c.put_part.new.self two.rest tokens o) c.in-Some.is (c.in_ok-error.ensures.at base two.first two.rest tokens two.of_first here) in
    let wrong : IsWrongOf g t tokens c.error.inside.index (Some c.error.inside.token) c.error.inside.state = subst (λ (z : Fault). IsWrongOf g t tokens z.index (Some z.token) z.state) (sym c.error.view_is) (wrong_in lawful after) in
    tree_sentence lawful base [] tokens (Wrong c.error.inside.index (Some c.error.inside.token) c.error.inside.state) wrong

pub returns-in-Some-clause-wrong : goal.returns-in-Some-clause-wrong
returns-in-Some-clause-wrong c g tokens lawful are =
    let t = c.args.tables.now in
    let base = store_of c.args.pieces.store in
    let parts = c.deref-part-items.result.now in
    let i = c.loop-part.part-index in
    let ahead = next_part parts i c.part-item.result c.loop-part-test.true c.part-item.is in
    let left = c.loop-part.invariant.at tokens are in
    let two = bares_split left.0 (pieces_of c.part-item.result) (pieces_in (drop (i + 1) parts)) (left.1 ∙ ahead) in
    let here : IsGathered t base c.loop-part.gathered (two.first ++ two.rest) tokens = subst (λ l. IsGathered t base c.loop-part.gathered l tokens) two.parts left.2 in
    let after : IsAfter t base c.put_part.new.self two.rest tokens (Some c.in-Some.error) = subst (λ (o : Option Fault). IsAfter t base c.put_part.new.self two.rest tokens o) c.in-Some.is (c.in_ok-error.ensures.at base two.first two.rest tokens two.of_first here) in
    let wrong : IsWrongOf g t tokens c.error.inside.index (Some c.error.inside.token) c.error.inside.state = subst (λ (z : Fault). IsWrongOf g t tokens z.index (Some z.token) z.state) (sym c.error.view_is) (wrong_in lawful after) in
    no_sentence lawful base [] tokens (Wrong c.error.inside.index (Some c.error.inside.token) c.error.inside.state) wrong

pub loop-part-preserved : goal.loop-part-preserved
loop-part-preserved c =
    let t = c.args.tables.now in
    let base = store_of c.args.pieces.store in
    let parts = c.deref-part-items.result.now in
    let i = c.loop-part.part-index in
    let ahead = next_part parts i c.part-item.result c.loop-part-test.true c.part-item.is in
    record {
      at = λ tokens are. (
          let left = c.loop-part.invariant.at tokens are in
          let two = bares_split left.0 (pieces_of c.part-item.result) (pieces_in (drop (i + 1) parts)) (left.1 ∙ ahead) in
          let here : IsGathered t base c.loop-part.gathered (two.first ++ two.rest) tokens = subst (λ l. IsGathered t base c.loop-part.gathered l tokens) two.parts left.2 in
          (two.rest, two.of_rest, subst (λ (o : Option Fault). IsAfter t base c.put_part.new.self two.rest tokens o) c.in-None.is (c.in_ok-error.ensures.at base two.first two.rest tokens two.of_first here)));
      chunks = c.in_ok-error.ensures.same.0 ∙ c.loop-part.invariant.chunks;
      chunk = c.in_ok-error.ensures.same.1 ∙ c.loop-part.invariant.chunk;
    }

pub close-requires-clause-at : goal.close-requires-clause-at
close-requires-clause-at c =
    let tokens = c.requires.pieces.0 in
    let are = c.requires.pieces.3 in
    let base = store_of c.args.pieces.store in
    let left = c.loop-part.invariant.at tokens are in
    let none = none_of_bares left.0 (left.1 ∙ ap pieces_in (drop_of_length-le c.deref-part-items.result.now c.loop-part-test.false)) in
    let here : IsGathered c.args.tables.now base c.loop-part.gathered [] tokens = subst (λ l. IsGathered c.args.tables.now base c.loop-part.gathered l tokens) none left.2 in
    (base, tokens, here)

pub returns-clause-finished : goal.returns-clause-finished
returns-clause-finished c g tokens lawful are =
    let base = store_of c.args.pieces.store in
    let left = c.loop-part.invariant.at tokens are in
    let none = none_of_bares left.0 (left.1 ∙ ap pieces_in (drop_of_length-le c.deref-part-items.result.now c.loop-part-test.false)) in
    let here : IsGathered c.args.tables.now base c.loop-part.gathered [] tokens = subst (λ l. IsGathered c.args.tables.now base c.loop-part.gathered l tokens) none left.2 in
    let answer : IsAnswer g c.args.tables.now tokens base (numbers_in c.args.pieces.store ++ c.args.chunk ∷ []) c.in_ok-parsed.parsed = subst (λ l. IsAnswer g c.args.tables.now tokens base l c.in_ok-parsed.parsed) c.loop-part.invariant.chunks (c.in_ok-parsed.ensures g base tokens lawful here) in
    answer

pub returns-clause-tree : goal.returns-clause-tree
returns-clause-tree c g tokens lawful are =
    let base = store_of c.args.pieces.store in
    let left = c.loop-part.invariant.at tokens are in
    let none = none_of_bares left.0 (left.1 ∙ ap pieces_in (drop_of_length-le c.deref-part-items.result.now c.loop-part-test.false)) in
    let here : IsGathered c.args.tables.now base c.loop-part.gathered [] tokens = subst (λ l. IsGathered c.args.tables.now base c.loop-part.gathered l tokens) none left.2 in
    let answer : IsAnswer g c.args.tables.now tokens base (numbers_in c.args.pieces.store ++ c.args.chunk ∷ []) c.in_ok-parsed.parsed = subst (λ l. IsAnswer g c.args.tables.now tokens base l c.in_ok-parsed.parsed) c.loop-part.invariant.chunks (c.in_ok-parsed.ensures g base tokens lawful here) in
    tree_sentence lawful base (numbers_in c.args.pieces.store ++ c.args.chunk ∷ []) tokens c.in_ok-parsed.parsed answer

pub returns-clause-wrong : goal.returns-clause-wrong
returns-clause-wrong c g tokens lawful are =
    let base = store_of c.args.pieces.store in
    let left = c.loop-part.invariant.at tokens are in
    let none = none_of_bares left.0 (left.1 ∙ ap pieces_in (drop_of_length-le c.deref-part-items.result.now c.loop-part-test.false)) in
    let here : IsGathered c.args.tables.now base c.loop-part.gathered [] tokens = subst (λ l. IsGathered c.args.tables.now base c.loop-part.gathered l tokens) none left.2 in
    let answer : IsAnswer g c.args.tables.now tokens base (numbers_in c.args.pieces.store ++ c.args.chunk ∷ []) c.in_ok-parsed.parsed = subst (λ l. IsAnswer g c.args.tables.now tokens base l c.in_ok-parsed.parsed) c.loop-part.invariant.chunks (c.in_ok-parsed.ensures g base tokens lawful here) in
    no_sentence lawful base (numbers_in c.args.pieces.store ++ c.args.chunk ∷ []) tokens c.in_ok-parsed.parsed answer
