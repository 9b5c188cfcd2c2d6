use Rattle.std.proofs.Common.{◌≡◌, ◌∙◌, [], List, Bool, true, false, sym, ap, subst, subst₂}
use Rattle.grammar_data.specs.declared.token.Token.{Token as TextToken}
use Rattle.table_data.specs.Tables.{Tables}
use Rattle.use_theory.proofs.KeptLemmas.{kept_then}
use Rattle.piece_theory.specs.Pieces.{Floor, kids_of}
use Rattle.bare_theory.specs.Bare.{Bare}
use Rattle.node_store.specs.Chunks.{store_of}
use Rattle.stack_join.specs.Joining.{IsDecided, IsLanding, IsPiled}
use Rattle.stack_join.proofs.MeetLemmas.{met_of, piled_seam}
use Rattle.stack_join.proofs.PutLemmas.{IsMetAt, few_together, met_at, more_kept}
use Rattle.stack_join.proofs.putting.put.Goals as goal

pub settle-requires-clause-at : goal.settle-requires-clause-at
settle-requires-clause-at c = let at = c.requires.at in (at.0, at.1, at.2, at.3, ap (λ (b : Bare). b.first) at.5, at.6)

pub returns-then-not-branch-clause-kept : goal.returns-then-not-branch-clause-kept
returns-then-not-branch-clause-kept c = more_kept (store_of c.args.store.now) (store_of c.settle.new.store) c.in_ok-settle.ensures.more

pub returns-then-not-branch-clause-at : goal.returns-then-not-branch-clause-at
returns-then-not-branch-clause-at c front right rest w is at =
    let t = c.args.arrows.now.0 in
    let maps = c.settle.new.arrows.1 in
    let s = c.settle.new.leaf in
    let first = ap (λ (b : Bare). b.first) is in
    let decided : IsDecided t maps s c.args.first.now false = subst (λ (b : Bool). IsDecided t maps s c.args.first.now b) c.if-not-branch.true c.in_ok-settle.ensures.decided in
    (c.in_ok-settle.ensures.at front right rest w first at, subst (λ (x : TextToken). IsDecided t maps s x false) (sym first) decided)

pub land_all-requires-clause-at : goal.land_all-requires-clause-at
land_all-requires-clause-at c =
    let t = c.args.arrows.now.0 in
    let store = store_of c.settle.new.store in
    let maps = c.settle.new.arrows.1 in
    let s = c.settle.new.leaf in
    let at = c.requires.at in
    let first = ap (λ (b : Bare). b.first) at.5 in
    let decided : IsDecided t maps s c.args.first.now true = subst (λ (b : Bool). IsDecided t maps s c.args.first.now b) c.if-not-branch.false c.in_ok-settle.ensures.decided in
    let met : IsMetAt t store maps s at.0 at.1 at.2 at.3 = met_at t c.requires.lawful store maps s at.0 at.1 at.2 at.3 c.args.first.now first (c.in_ok-settle.ensures.at at.0 at.1 at.2 at.3 first at.6) decided in
    (met_of met.meeting, subst₂ (λ (x : Tables) (l : List Floor). IsLanding x (met_of met.meeting) store maps s l) (sym c.settle.ensures.tables) (ap (λ (b : Bare). b.floors) at.5) met.landing)

pub push_kids-requires-clause-few : goal.push_kids-requires-clause-few
push_kids-requires-clause-few c =
    let t = c.args.arrows.now.0 in
    let store = store_of c.settle.new.store in
    let maps = c.settle.new.arrows.1 in
    let s = c.settle.new.leaf in
    let front = c.requires.at.0 in
    let right = c.requires.at.1 in
    let rest = c.requires.at.2 in
    let w = c.requires.at.3 in
    let is = c.requires.at.5 in
    let at = c.requires.at.6 in
    let first = ap (λ (b : Bare). b.first) is in
    let decided : IsDecided t maps s c.args.first.now true = subst (λ (b : Bool). IsDecided t maps s c.args.first.now b) c.if-not-branch.false c.in_ok-settle.ensures.decided in
    let met : IsMetAt t store maps s front right rest w = met_at t c.requires.lawful store maps s front right rest w c.args.first.now first (c.in_ok-settle.ensures.at front right rest w first at) decided in
    let floors : IsLanding c.settle.new.arrows.0 (met_of met.meeting) store maps s c.args.floors.now = subst₂ (λ (x : Tables) (l : List Floor). IsLanding x (met_of met.meeting) store maps s l) (sym c.settle.ensures.tables) (ap (λ (b : Bare). b.floors) is) met.landing in
    let landed : IsLanding c.settle.new.arrows.0 (met_of met.meeting) (store_of c.land_all.new.store) c.land_all.new.arrows.1 c.land_all.new.leaf [] = c.in_ok-land_all.ensures.at (met_of met.meeting) floors in
    let there : IsLanding c.land_all.new.arrows.0 (met_of met.meeting) (store_of c.land_all.new.store) c.land_all.new.arrows.1 c.land_all.new.leaf [] = subst (λ (x : Tables). IsLanding x (met_of met.meeting) (store_of c.land_all.new.store) c.land_all.new.arrows.1 c.land_all.new.leaf []) (sym c.land_all.ensures.tables) landed in
    let kids : c.args.kids.now ≡ kids_of right.stack = sym (ap (λ (b : Bare). b.kids) is) in
    let tokens : c.args.tokens ≡ right.count = sym (ap (λ (b : Bare). b.count) is) in
    few_together met.meeting c.requires.at.4 c.land_all.new.leaf.count c.args.tokens there.count tokens

pub push_kids-requires-clause-at : goal.push_kids-requires-clause-at
push_kids-requires-clause-at c =
    let t = c.args.arrows.now.0 in
    let store = store_of c.settle.new.store in
    let maps = c.settle.new.arrows.1 in
    let s = c.settle.new.leaf in
    let front = c.requires.at.0 in
    let right = c.requires.at.1 in
    let rest = c.requires.at.2 in
    let w = c.requires.at.3 in
    let is = c.requires.at.5 in
    let at = c.requires.at.6 in
    let first = ap (λ (b : Bare). b.first) is in
    let decided : IsDecided t maps s c.args.first.now true = subst (λ (b : Bool). IsDecided t maps s c.args.first.now b) c.if-not-branch.false c.in_ok-settle.ensures.decided in
    let met : IsMetAt t store maps s front right rest w = met_at t c.requires.lawful store maps s front right rest w c.args.first.now first (c.in_ok-settle.ensures.at front right rest w first at) decided in
    let floors : IsLanding c.settle.new.arrows.0 (met_of met.meeting) store maps s c.args.floors.now = subst₂ (λ (x : Tables) (l : List Floor). IsLanding x (met_of met.meeting) store maps s l) (sym c.settle.ensures.tables) (ap (λ (b : Bare). b.floors) is) met.landing in
    let landed : IsLanding c.settle.new.arrows.0 (met_of met.meeting) (store_of c.land_all.new.store) c.land_all.new.arrows.1 c.land_all.new.leaf [] = c.in_ok-land_all.ensures.at (met_of met.meeting) floors in
    let there : IsLanding c.land_all.new.arrows.0 (met_of met.meeting) (store_of c.land_all.new.store) c.land_all.new.arrows.1 c.land_all.new.leaf [] = subst (λ (x : Tables). IsLanding x (met_of met.meeting) (store_of c.land_all.new.store) c.land_all.new.arrows.1 c.land_all.new.leaf []) (sym c.land_all.ensures.tables) landed in
    let kids : c.args.kids.now ≡ kids_of right.stack = sym (ap (λ (b : Bare). b.kids) is) in
    let tokens : c.args.tokens ≡ right.count = sym (ap (λ (b : Bare). b.count) is) in
    (met_of met.meeting, there, kids, tokens)

pub returns-clause-kept : goal.returns-clause-kept
returns-clause-kept c =
    let t = c.args.arrows.now.0 in
    let store = store_of c.settle.new.store in
    let maps = c.settle.new.arrows.1 in
    let s = c.settle.new.leaf in
    let front = c.requires.at.0 in
    let right = c.requires.at.1 in
    let rest = c.requires.at.2 in
    let w = c.requires.at.3 in
    let is = c.requires.at.5 in
    let at = c.requires.at.6 in
    let first = ap (λ (b : Bare). b.first) is in
    let decided : IsDecided t maps s c.args.first.now true = subst (λ (b : Bool). IsDecided t maps s c.args.first.now b) c.if-not-branch.false c.in_ok-settle.ensures.decided in
    let met : IsMetAt t store maps s front right rest w = met_at t c.requires.lawful store maps s front right rest w c.args.first.now first (c.in_ok-settle.ensures.at front right rest w first at) decided in
    let floors : IsLanding c.settle.new.arrows.0 (met_of met.meeting) store maps s c.args.floors.now = subst₂ (λ (x : Tables) (l : List Floor). IsLanding x (met_of met.meeting) store maps s l) (sym c.settle.ensures.tables) (ap (λ (b : Bare). b.floors) is) met.landing in
    let landed : IsLanding c.settle.new.arrows.0 (met_of met.meeting) (store_of c.land_all.new.store) c.land_all.new.arrows.1 c.land_all.new.leaf [] = c.in_ok-land_all.ensures.at (met_of met.meeting) floors in
    let there : IsLanding c.land_all.new.arrows.0 (met_of met.meeting) (store_of c.land_all.new.store) c.land_all.new.arrows.1 c.land_all.new.leaf [] = subst (λ (x : Tables). IsLanding x (met_of met.meeting) (store_of c.land_all.new.store) c.land_all.new.arrows.1 c.land_all.new.leaf []) (sym c.land_all.ensures.tables) landed in
    let kids : c.args.kids.now ≡ kids_of right.stack = sym (ap (λ (b : Bare). b.kids) is) in
    let tokens : c.args.tokens ≡ right.count = sym (ap (λ (b : Bare). b.count) is) in
    let piled = c.in_ok-push_kids.ensures.at (met_of met.meeting) there kids tokens in
    kept_then (store_of c.args.store.now) store (store_of c.land_all.new.store) (more_kept (store_of c.args.store.now) store c.in_ok-settle.ensures.more) piled.is_joined.kept

pub returns-clause-at : goal.returns-clause-at
returns-clause-at c front right rest w is at =
    let t = c.args.arrows.now.0 in
    let store = store_of c.settle.new.store in
    let maps = c.settle.new.arrows.1 in
    let s = c.settle.new.leaf in
    let first = ap (λ (b : Bare). b.first) is in
    let decided : IsDecided t maps s c.args.first.now true = subst (λ (b : Bool). IsDecided t maps s c.args.first.now b) c.if-not-branch.false c.in_ok-settle.ensures.decided in
    let met : IsMetAt t store maps s front right rest w = met_at t c.requires.lawful store maps s front right rest w c.args.first.now first (c.in_ok-settle.ensures.at front right rest w first at) decided in
    let floors : IsLanding c.settle.new.arrows.0 (met_of met.meeting) store maps s c.args.floors.now = subst₂ (λ (x : Tables) (l : List Floor). IsLanding x (met_of met.meeting) store maps s l) (sym c.settle.ensures.tables) (ap (λ (b : Bare). b.floors) is) met.landing in
    let landed : IsLanding c.settle.new.arrows.0 (met_of met.meeting) (store_of c.land_all.new.store) c.land_all.new.arrows.1 c.land_all.new.leaf [] = c.in_ok-land_all.ensures.at (met_of met.meeting) floors in
    let there : IsLanding c.land_all.new.arrows.0 (met_of met.meeting) (store_of c.land_all.new.store) c.land_all.new.arrows.1 c.land_all.new.leaf [] = subst (λ (x : Tables). IsLanding x (met_of met.meeting) (store_of c.land_all.new.store) c.land_all.new.arrows.1 c.land_all.new.leaf []) (sym c.land_all.ensures.tables) landed in
    let kids : c.args.kids.now ≡ kids_of right.stack = sym (ap (λ (b : Bare). b.kids) is) in
    let tokens : c.args.tokens ≡ right.count = sym (ap (λ (b : Bare). b.count) is) in
    let piled = c.in_ok-push_kids.ensures.at (met_of met.meeting) there kids tokens in
    let here : IsPiled t (met_of met.meeting) (store_of c.land_all.new.store) c.push_kids.new.arrows.1 c.push_kids.new.leaf = subst (λ (x : Tables). IsPiled x (met_of met.meeting) (store_of c.land_all.new.store) c.push_kids.new.arrows.1 c.push_kids.new.leaf) (c.land_all.ensures.tables ∙ c.settle.ensures.tables) piled in
    piled_seam t store (store_of c.land_all.new.store) c.push_kids.new.arrows.1 c.push_kids.new.leaf front met.last right rest w met.meeting here
