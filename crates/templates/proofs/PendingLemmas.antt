-- What is pending, step by step.
use Rattle.std.proofs.Common.{◌≡◌, ℕ, List, [], ◌∷◌, ◌++◌, refl, sym, ap, ◌∙◌, subst, append_assoc, append-nil, length, arith, Result, Ok, Err}
use Rattle.std.specs.Prelude.{Some, IfOk}
use Rattle.grammar_theory.specs.Trees.{Tree, Forest}
use Rattle.node_data.specs.declared.kid.Kid.{Kid}
use Rattle.node_store.specs.Chunks.{store_of}
use Rattle.node_store.specs.Kids.{kids_seen}
use Rattle.sheet_data.specs.declared.parts.Part.{Part}
use Rattle.sheet_data.specs.declared.parts.Part.TheVariants.{Fold, Number}
use Rattle.translation_theory.specs.DeclaredNames.{number_in}
use Rattle.std.specs.Fmt.{decimal}
use Rattle.translation_theory.specs.Translations.{at_place, template_in}
use Rattle.tree_theory.specs.Stores.{Ref}
use Rattle.templates.specs.Sources.{Source, AreKids, HasForest, HasRules, IsTreeAt, all_given, given, kid_at, token_bytes}
use Rattle.templates.specs.Pending.{Gives, Pending, all_ended, one_begun, IsPending, Goes, GoesOn, HasLeft, nothing_left, parts_left, Moves, part_gone, kid_begun, Unfolds, gathered, begun}
use Rattle.templates.specs.declared.frame.Frame.{Frame}
use Rattle.templates.proofs.KidLemmas.{NodeGives, one_kid, kid_bytes_at, translation_in, translations_in}

-- one more template is begun
pub pending_push : {source : Source} {frames : List Frame} {frame : Frame} {own bytes : List ℕ} → Gives source frame own → Pending source frames bytes → Pending source (frames ++ frame ∷ []) (own ++ bytes)
pending_push {own = own} gives all_ended = one_begun gives all_ended (append-nil own)
pending_push {own = own} gives (one_begun {own = mine} {inner = inner} first rest is) =
    one_begun first (pending_push gives rest) (ap (λ l. own ++ l) is ∙ sym (append_assoc own inner mine))

-- the template that was begun last, and the others
pub record LastPending (source : Source) (frames : List Frame) (frame : Frame) (bytes : List ℕ) : Type 0 where
  pub own : List ℕ
  pub rest : List ℕ
  pub gives : Gives source frame own
  pub pending : Pending source frames rest
  pub joined : bytes ≡ own ++ rest

pub pending_last : {source : Source} (frames : List Frame) (frame : Frame) {bytes : List ℕ} → Pending source (frames ++ frame ∷ []) bytes → LastPending source frames frame bytes
pending_last [] frame (one_begun {own = own} gives all_ended is) = record { own = own; rest = []; gives = gives; pending = all_ended; joined = is ∙ sym (append-nil own) }
pending_last (first ∷ frames) frame (one_begun {own = mine} {inner = inner} gives rest is) =
    let last : LastPending _ frames frame inner = pending_last frames frame rest in record {
      own = last.own;
      rest = last.rest ++ mine;
      gives = last.gives;
      pending = one_begun gives last.pending refl;
      joined = is ∙ ap (λ l. l ++ mine) last.joined ∙ append_assoc last.own last.rest mine;
    }

-- a node whose template is begun gives its translation
pub node_begun : {source : Source} {node : Ref} {bytes : List ℕ} (frame : Frame) → NodeGives source node bytes → ((rule : ℕ) (kids : List Kid) → store_of source.chunks node ≡ Some (rule, kids) → ((kids_seen frame.kids) ≡ kids) × (frame.parts.now ≡ template_in source.sheet rule)) → Gives source frame bytes
node_begun {source} {node} frame gives is =
    let of_node = is gives.rule gives.kids gives.at in record {
      trees = gives.trees;
      kids = subst (λ kids. AreKids source kids gives.trees) (sym of_node.0) (record { node = node; shown = gives.shown; rules = gives.rules });
      is = gives.is ∙ ap (all_given source gives.trees) (sym of_node.1);
    }

pub root_gives : (source : Source) (node : Ref) (tree : Tree) → IsTreeAt source.chunks node tree → HasRules source.sheet tree → NodeGives source node (translation_in source tree)
root_gives source node tree shows rules = (one_kid source shows rules).0

-- the template of the root is begun, and no other
pub begun_alone : {source : Source} {node : Ref} (tree : Tree) (frame : Frame) → IsTreeAt source.chunks node tree → HasRules source.sheet tree → ((rule : ℕ) (kids : List Kid) → store_of source.chunks node ≡ Some (rule, kids) → ((kids_seen frame.kids) ≡ kids) × (frame.parts.now ≡ template_in source.sheet rule)) → Pending source (frame ∷ []) (translation_in source tree)
begun_alone {source} {node} tree frame shows rules is = one_begun (node_begun frame (root_gives source node tree shows rules) is) all_ended refl

-- ---- a part

pub part_folds : {source : Source} {left next : Frame} {frames now : List Frame} {before after : List ℕ} (trees : Forest) (part : Part) (place : ℕ) → part ≡ Fold place → Unfolds source left frames next now before after (at_place (translations_in source trees) place) → Unfolds source left frames next now before after (given source trees part)
part_folds {source} {left} {next} {frames} {now} {before} {after} trees part place is unfolds =
    subst (λ part. Unfolds source left frames next now before after (given source trees part)) (sym is) unfolds

pub part_numbers : {source : Source} {left : Frame} {frames : List Frame} {before after : List ℕ} {kids : List Kid} (trees : Forest) (part : Part) (place : ℕ) → AreKids source kids trees → part ≡ Number place → after ≡ before ++ decimal (number_in source.names (token_bytes source.text (kid_at kids place))) → Unfolds source left frames left frames before after (given source trees part)
part_numbers {source} {left} {frames} {before} {after} trees part place are is added =
    subst (λ part. Unfolds source left frames left frames before after (given source trees part)) (sym is)
    (gathered refl refl (added ∙ ap (λ bytes. before ++ decimal (number_in source.names bytes)) (kid_bytes_at source are place)))

-- ---- a step

pub none_of : {X : Type 0} (xs : List X) → length xs ≡ 0 → xs ≡ []
none_of [] none = refl
none_of (x ∷ xs) none = absurd (omega (arith, none))

-- the template that was begun last has no part left
pub step_ends : {source : Source} (frames : List Frame) (frame : Frame) {gathered : List ℕ} → length frame.parts.now ≡ 0 → GoesOn source (frames ++ frame ∷ []) frames gathered gathered
step_ends {source} frames frame {gathered} none bytes pending =
    let last : LastPending source frames frame bytes = pending_last frames frame pending in record {
      added = [];
      rest = last.rest;
      gathered = sym (append-nil gathered);
      pending = last.pending;
      joined = last.joined ∙ ap (λ own. own ++ last.rest) (last.gives.is ∙ ap (all_given source last.gives.trees) (none_of frame.parts.now none));
    }

-- the kids of the node whose template was begun last
pub last_kids : {source : Source} (frames : List Frame) (frame : Frame) → IsPending source (frames ++ frame ∷ []) → HasForest source (kids_seen frame.kids)
last_kids {source} frames frame (bytes, pending) =
    let last : LastPending source frames frame bytes = pending_last frames frame pending in
    (last.gives.trees, last.gives.kids)

-- what is left of a begun template is pending before the others
left_pending : {source : Source} {others now : List Frame} {left : Frame} {own bytes : List ℕ} → Gives source left own → HasLeft left others now → Pending source others bytes → Pending source now (own ++ bytes)
left_pending {source} {now = now} {own = own} {bytes = bytes} gives (nothing_left none is) pending =
    let nothing : own ≡ [] = gives.is ∙ ap (all_given source gives.trees) none in
    subst (λ own. Pending source now (own ++ bytes)) (sym nothing) (subst (λ all. Pending source all bytes) (sym is) pending)
left_pending {source} {own = own} {bytes = bytes} gives (parts_left some is) pending =
    subst (λ all. Pending source all (own ++ bytes)) (sym is) (pending_push gives pending)

-- a part's bytes are gathered, or a kid's template is begun, before what else is pending
unfolds_before : {source : Source} {left next : Frame} {frames now : List Frame} {before after one own rest : List ℕ} → Unfolds source left frames next now before after one → Gives source left own → Pending source frames rest → Goes source (now ++ next ∷ []) before after (one ++ (own ++ rest))
unfolds_before {source} {left} {now = now} {one = one} {own = own} {rest = rest} (gathered same others is) gives pending = record {
  added = one;
  rest = own ++ rest;
  gathered = is;
  pending = subst (λ next. Pending source (now ++ next ∷ []) (own ++ rest)) (sym same) (subst (λ frames. Pending source (frames ++ left ∷ []) (own ++ rest)) (sym others) (pending_push gives pending));
  joined = refl;
}
unfolds_before {source} {before = before} {one = one} {own = own} {rest = rest} (begun has kid is) gives pending = record {
  added = [];
  rest = one ++ (own ++ rest);
  gathered = is ∙ sym (append-nil before);
  pending = pending_push kid (left_pending gives has pending);
  joined = refl;
}

-- the template that was begun last goes on by its next part
pub step_goes : {source : Source} (others now : List Frame) (frame left next : Frame) (part : Part) {before after : List ℕ} → frame.parts.now ≡ part ∷ left.parts.now → kids_seen left.kids ≡ (kids_seen frame.kids) → ((trees : Forest) → AreKids source (kids_seen left.kids) trees → Unfolds source left others next now before after (given source trees part)) → GoesOn source (others ++ frame ∷ []) (now ++ next ∷ []) before after
step_goes {source} others now frame left next part {before} {after} parts kids unfolds bytes pending =
    let last : LastPending source others frame bytes = pending_last others frame pending in
    let trees : Forest = last.gives.trees in
    let own : List ℕ = all_given source trees left.parts.now in
    let are : AreKids source (kids_seen left.kids) trees = subst (λ kids. AreKids source kids trees) (sym kids) last.gives.kids in
    let gives : Gives source left own = record { trees = trees; kids = are; is = refl } in
    let goes : Goes source (now ++ next ∷ []) before after (given source trees part ++ (own ++ last.rest)) = unfolds_before (unfolds trees are) gives last.pending in
    let all : bytes ≡ given source trees part ++ (own ++ last.rest) =
    last.joined ∙ ap (λ own. own ++ last.rest) (last.gives.is ∙ ap (all_given source trees) parts) ∙ append_assoc (given source trees part) own last.rest in
    subst (λ bytes. Goes source (now ++ next ∷ []) before after bytes) (sym all) goes

-- where the part was, what is left of its template is gone on with, or stands behind the others
unfolds_moves : {source : Source} {others now : List Frame} {left next : Frame} {before after one : List ℕ} (frame : Frame) (part : Part) → frame.parts.now ≡ part ∷ left.parts.now → kids_seen left.kids ≡ (kids_seen frame.kids) → Unfolds source left others next now before after one → Moves (others ++ frame ∷ []) (now ++ next ∷ [])
unfolds_moves {others = others} {now = now} {left = left} frame part parts kids (gathered same are is) =
    part_gone others frame left part refl parts kids (ap (λ next. now ++ next ∷ []) same ∙ ap (λ others. others ++ left ∷ []) are)
unfolds_moves {others = others} {now = now} {left = left} {next = next} frame part parts kids (begun has gives is) =
    kid_begun others frame left next part now refl parts kids has refl

pub step_moves : {source : Source} (others now : List Frame) (frame left next : Frame) (part : Part) {before after : List ℕ} → IsPending source (others ++ frame ∷ []) → frame.parts.now ≡ part ∷ left.parts.now → kids_seen left.kids ≡ (kids_seen frame.kids) → ((trees : Forest) → AreKids source (kids_seen left.kids) trees → Unfolds source left others next now before after (given source trees part)) → Moves (others ++ frame ∷ []) (now ++ next ∷ [])
step_moves {source} others now frame left next part pending parts kids unfolds =
    let forest = last_kids others frame pending in
    unfolds_moves frame part parts kids (unfolds forest.0 (subst (λ kids. AreKids source kids forest.0) (sym kids) forest.1))

-- what follows of what a call that succeeds gives
pub if_ok : {A E : Type 0} {P Q : A → Type 0} (result : Result A E) → ((a : A) → P a → Q a) → IfOk result P → IfOk result Q
if_ok (Ok a) so h = so a h
if_ok (Err e) so h = tt
