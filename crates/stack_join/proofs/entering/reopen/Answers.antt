use Rattle.std.proofs.Common.{◌≡◌, ◌++◌, ◌∷◌, [], All, List, length, ap, ◌∙◌, sym, subst, arith}
use Rattle.std.proofs.lemmas.List.{length-append}
use Rattle.node_data.specs.declared.kid.Kid.{Kid}
use Rattle.table_data.specs.Tables.{Tables}
use Rattle.map_theory.specs.Maps.{target}
use Rattle.map_theory.specs.Relations.{IsIdentityOf}
use Rattle.piece_theory.specs.Pieces.{Floor, kids_of}
use Rattle.bare_theory.specs.Bare.{Bare, bare}
use Rattle.node_store.specs.Chunks.{store_of}
use Rattle.state_sets.specs.Within.{AreWithin}
use Rattle.arrow_table.specs.Looks.{HasMap, map_at}
use Rattle.segment_parser.specs.Working.{held_of}
use Rattle.segment_parser.specs.Entering.{AreEntered, IsKnown}
use Rattle.stack_join.proofs.EnteredLemmas.{entered_same}
use Rattle.stack_join.proofs.StandingLemmas.{map_later, map_stays, more_then, there_later}
use Rattle.stack_join.proofs.ReopenLemmas.{kids_known, same_last, starts_within}
use Rattle.stack_join.proofs.entering.reopen.Goals as goal

pub reopen-extent-requires : goal.reopen-extent-requires
reopen-extent-requires c =
    let last = c.requires.last in
    let count = ap length last.parts ∙ length-append last.others (bare last.last ∷ []) in
    omega (arith, count)

pub add-requires : goal.add-requires
add-requires c =
    let last = c.requires.last in
    let t = c.args.arrows.now.0 in
    let store = store_of c.args.store.now in
    let opened_again = c.reopen-extent.new.self in
    let b : Bare = record { first = c.reopen-extent.result.first; count = c.reopen-extent.result.count; floors = opened_again.floors; kids = opened_again.kids } in
    let same = same_last last.others opened_again.closed last.last b (sym last.parts ∙ c.reopen-extent.ensures) in
    let block = c.pop_floor-floor.new.self in
    let f = c.pop_floor-floor.result in
    let floors : last.last.floors ≡ block.floors ++ f ∷ [] = sym (ap (λ (x : Bare). x.floors) same.1) ∙ c.pop_floor-floor.ensures.floors in
    let kids : block.kids ≡ kids_of last.last.stack = c.pop_floor-floor.ensures.kids ∙ ap (λ (x : Bare). x.kids) same.1 in
    subst (λ (g : Floor). AreWithin t.states g.starts) c.into_parts-opened.ensures (starts_within t c.requires.lead last.last.first last.last.floors block.floors last.made.last f last.made.floors floors)

pub enter-requires-clause-kids : goal.enter-requires-clause-kids
enter-requires-clause-kids c =
    let last = c.requires.last in
    let t = c.args.arrows.now.0 in
    let store = store_of c.args.store.now in
    let opened_again = c.reopen-extent.new.self in
    let b : Bare = record { first = c.reopen-extent.result.first; count = c.reopen-extent.result.count; floors = opened_again.floors; kids = opened_again.kids } in
    let same = same_last last.others opened_again.closed last.last b (sym last.parts ∙ c.reopen-extent.ensures) in
    let block = c.pop_floor-floor.new.self in
    let f = c.pop_floor-floor.result in
    let floors : last.last.floors ≡ block.floors ++ f ∷ [] = sym (ap (λ (x : Bare). x.floors) same.1) ∙ c.pop_floor-floor.ensures.floors in
    let kids : block.kids ≡ kids_of last.last.stack = c.pop_floor-floor.ensures.kids ∙ ap (λ (x : Bare). x.kids) same.1 in
    let known : All (IsKnown t.rules store) c.open_list.result.now = subst (λ l. All (IsKnown t.rules store) l) (sym kids ∙ sym c.open_list.ensures) (kids_known last.made.maps) in
    subst (λ (x : Tables). All (IsKnown x.rules store) c.open_list.result.now) (sym (c.identity.ensures.tables ∙ c.add.ensures.tables)) known

pub returns-clause-has : goal.returns-clause-has
returns-clause-has c =
    let mid = c.add.new.self.1 in
    let later = c.identity.new.self.1 in
    let final = c.enter.new.arrows.1 in
    let starts = c.in_ok-starts.starts in
    let own = c.in_ok-own.own in
    let inside = c.in_ok-starts.ensures.within in
    let grows = more_then mid later final c.identity.ensures.grows c.enter.ensures.grows in
    let entered = c.in_ok-ids.ensures.entered in
    let here : HasMap final own (IsIdentityOf (map_at mid starts)) = map_later later final (IsIdentityOf (map_at mid starts)) c.enter.ensures.grows own c.in_ok-own.ensures.identity in
    record {
      even = ap (λ (l : List Kid). length l) (sym c.open_list.ensures) ∙ sym entered.even;
      there = entered.there;
      starts = there_later mid final grows starts inside;
      own = subst (λ m. HasMap final own (IsIdentityOf m)) (sym (map_stays mid final grows starts inside)) here;
    }

pub returns-clause-opened : goal.returns-clause-opened
returns-clause-opened c last =
    let t = c.args.arrows.now.0 in
    let store = store_of c.args.store.now in
    let opened_again = c.reopen-extent.new.self in
    let b : Bare = record { first = c.reopen-extent.result.first; count = c.reopen-extent.result.count; floors = opened_again.floors; kids = opened_again.kids } in
    let same = same_last last.others opened_again.closed last.last b (sym last.parts ∙ c.reopen-extent.ensures) in
    let block = c.pop_floor-floor.new.self in
    let f = c.pop_floor-floor.result in
    let floors : last.last.floors ≡ block.floors ++ f ∷ [] = sym (ap (λ (x : Bare). x.floors) same.1) ∙ c.pop_floor-floor.ensures.floors in
    let kids : block.kids ≡ kids_of last.last.stack = c.pop_floor-floor.ensures.kids ∙ ap (λ (x : Bare). x.kids) same.1 in
    let mid = c.add.new.self.1 in
    let later = c.identity.new.self.1 in
    let final = c.enter.new.arrows.1 in
    let starts = c.in_ok-starts.starts in
    let own = c.in_ok-own.own in
    let inside = c.in_ok-starts.ensures.within in
    let grows = more_then mid later final c.identity.ensures.grows c.enter.ensures.grows in
    let starts_are : map_at mid starts ≡ f.starts = c.in_ok-starts.ensures.map ∙ sym (ap (λ (g : Floor). g.starts) c.into_parts-opened.ensures) in
    let identity : IsIdentityOf f.starts (map_at later own) = subst (λ m. IsIdentityOf m (map_at later own)) starts_are c.in_ok-own.ensures.identity.is in
    let entered : AreEntered t store (target (map_at later own)) final c.open_list.result.now c.in_ok-ids.ids.items = subst (λ (x : Tables). AreEntered x store (target (map_at later own)) final c.open_list.result.now c.in_ok-ids.ids.items) (c.identity.ensures.tables ∙ c.add.ensures.tables) c.in_ok-ids.ensures.entered in
    let stack : held_of final c.open_list.result.now c.in_ok-ids.ids.items ≡ last.last.stack = entered_same t store last.last last.tokens last.steps last.made block.floors f floors (map_at later own) identity final c.open_list.result.now c.in_ok-ids.ids.items entered (c.open_list.ensures ∙ kids) in
    let stack_is : held_of final block.kids c.in_ok-ids.ids.items ≡ last.last.stack = ap (λ (l : List Kid). held_of final l c.in_ok-ids.ids.items) (sym c.open_list.ensures) ∙ stack in
    let floor_is = ap (λ m. record { opened = c.into_parts-opened.result.0; starts = m; faults = c.into_parts-opened.result.2 }) (map_stays mid final grows starts inside ∙ c.in_ok-starts.ensures.map) ∙ sym c.into_parts-opened.ensures in
    let floors_are = ap (λ (g : Floor). block.floors ++ g ∷ []) floor_is ∙ sym floors in
    (c.pop_floor-floor.ensures.closed ∙ same.0, λ i. record { first = (same.1 i).first; count = (same.1 i).count; floors = floors_are i; stack = stack_is i })
