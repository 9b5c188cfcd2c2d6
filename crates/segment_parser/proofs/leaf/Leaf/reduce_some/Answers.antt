use Rattle.std.proofs.Common.{◌≡◌, ◌<◌, ◌∷◌, [], length, sym, subst, arith}
use Rattle.leaf_laws.specs.Leaves.{HasStart, NoneErrs}
use Rattle.map_theory.specs.Agreements.{AllReduce}
use Rattle.node_store.specs.Chunks.{store_of}
use Rattle.table_data.specs.Tables.{Tables}
use Rattle.arrow_table.specs.Looks.{map_at}
use Rattle.segment_parser.specs.Opening.{IsOpenIn}
use Rattle.segment_parser.specs.Standing.{last_in, piece_in, IsAt}
use Rattle.segment_parser.specs.Working.{last_id}
use Rattle.segment_parser.proofs.RetraceLemmas.{last_stays}
use Rattle.segment_parser.proofs.leaf.Leaf.reduce_some.Goals as goal

pub returns-clause-levels : goal.returns-clause-levels
returns-clause-levels c all = c.in_ok-reduce_kept.ensures.levels (c.in_ok-retrace.ensures.levels all)

pub returns-clause-open : goal.returns-clause-open
returns-clause-open c nodes front w token is none all =
    let t = c.args.arrows.now.0 in
    let maps = c.args.arrows.now.1 in
    let mid = c.retrace.new.arrows.1 in
    let final = c.reduce_kept.new.arrows.1 in
    let store = store_of c.args.store.now in
    let new = store_of c.reduce_kept.new.store in
    let s = c.args.self.now in
    let s1 = c.retrace.new.self in
    let after = c.reduce_kept.new.self in
    let rule = c.args.rule in
    let less = c.requires.count in
    let some : 0 < length s.ids.items = omega (arith, less) in
    let same : map_at mid (last_id s1.ids.items) ≡ map_at maps (last_id s.ids.items) = last_stays maps mid s s1 c.retrace.ensures.grows c.requires.maps some c.in_ok-retrace.ensures.last in
    let top = map_at mid (last_id s1.ids.items) in
    let none1 : NoneErrs t token.id top = subst (λ m. NoneErrs t token.id m) (sym same) none in
    let all1 : AllReduce t token.id rule top = subst (λ m. AllReduce t token.id rule m) (sym same) all in
    let reduces : IsOpenIn t store mid s1 nodes front w (token ∷ []) → NoneErrs t token.id top → AllReduce t token.id rule top → IsOpenIn t new final after nodes front w (token ∷ []) = subst (λ (x : Tables). IsOpenIn x store mid s1 nodes front w (token ∷ []) → NoneErrs x token.id top → AllReduce x token.id rule top → IsOpenIn x new final after nodes front w (token ∷ [])) c.retrace.ensures.tables (c.in_ok-reduce_kept.ensures.open nodes front w token) in
    reduces (c.in_ok-retrace.ensures.open nodes front w (token ∷ []) is) none1 all1

pub returns-clause-at : goal.returns-clause-at
returns-clause-at c tokens w rest token at none all =
    let t = c.args.arrows.now.0 in
    let maps = c.args.arrows.now.1 in
    let mid = c.retrace.new.arrows.1 in
    let final = c.reduce_kept.new.arrows.1 in
    let store = store_of c.args.store.now in
    let new = store_of c.reduce_kept.new.store in
    let s = c.args.self.now in
    let s1 = c.retrace.new.self in
    let after = c.reduce_kept.new.self in
    let rule = c.args.rule in
    let less = c.requires.count in
    let some : 0 < length s.ids.items = omega (arith, less) in
    let same : map_at mid (last_id s1.ids.items) ≡ map_at maps (last_id s.ids.items) = last_stays maps mid s s1 c.retrace.ensures.grows c.requires.maps some c.in_ok-retrace.ensures.last in
    let top = map_at mid (last_id s1.ids.items) in
    let none1 : NoneErrs t token.id top = subst (λ m. NoneErrs t token.id m) (sym same) none in
    let all1 : AllReduce t token.id rule top = subst (λ m. AllReduce t token.id rule m) (sym same) all in
    let reduces : IsAt t store mid s1 tokens w rest (token ∷ []) → NoneErrs t token.id top → AllReduce t token.id rule top → IsAt t new final after tokens w rest (token ∷ []) × HasStart t (piece_in final after) w (last_in final after) = subst (λ (x : Tables). IsAt x store mid s1 tokens w rest (token ∷ []) → NoneErrs x token.id top → AllReduce x token.id rule top → IsAt x new final after tokens w rest (token ∷ []) × HasStart x (piece_in final after) w (last_in final after)) c.retrace.ensures.tables (c.in_ok-reduce_kept.ensures.at tokens w rest token) in
    reduces (c.in_ok-retrace.ensures.at tokens w rest (token ∷ []) at) none1 all1
