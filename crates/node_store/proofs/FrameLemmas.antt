-- The nodes that were entered, as a list whose last one is the innermost.
use Rattle.std.proofs.Common.{◌≡◌, ℕ, ◌+◌, ◌-◌, ◌<◌, List, [], ◌∷◌, ◌++◌, length, take, drop, set, get_or, slice_get, reverse, Some, None, refl, sym, ap, ◌∙◌, arith, length-append}
use Rattle.std.proofs.lemmas.List.{length-reverse, reverse-append, reverse-reverse, set_at, set-append_left, get_or_at, get_or_append_left, take_all, take_more}
use Rattle.std.proofs.lemmas.Option.{same_Some, slice_get_within, get_or_from_slice_get}
use Rattle.node_data.specs.declared.kid.Kid.{Kid}
use Rattle.node_data.specs.declared.kid.Kid.TheVariants.{Token as TokenKid, Node as NodeKid, Hidden as HiddenKid}
use Rattle.tree_theory.specs.Stores.{Ref}
use Rattle.node_store.specs.Walking.{Frame}
use Rattle.node_store.specs.Frames.{NextIs, IsTop, top_of}

reverse_push : (xs : List Frame) (x : Frame) → reverse (xs ++ x ∷ []) ≡ x ∷ reverse xs
reverse_push xs x = reverse-append xs (x ∷ [])

reverse_split : (xs : List Frame) (x : Frame) (below : List Frame) → reverse xs ≡ x ∷ below → xs ≡ reverse below ++ x ∷ []
reverse_split xs x below same = sym (reverse-reverse xs) ∙ ap reverse same ∙ reverse-append (x ∷ []) below

-- ---- the innermost node

pub last_frame : (frames : List Frame) (frame : Frame) → Some frame ≡ slice_get frames (length frames - 1) → reverse frames ≡ frame ∷ reverse (take (length frames - 1) frames)
last_frame frames frame at =
    let inside = slice_get_within frames (length frames - 1) frame (sym at) in
    let whole : take (length frames - 1 + 1) frames ≡ frames = take_all (length frames - 1 + 1) frames (omega (arith, inside)) in
    let split = sym whole ∙ take_more frames (length frames - 1) frame inside in
    ap reverse split ∙ reverse_push (take (length frames - 1) frames) (get_or frames (length frames - 1) frame)
    ∙ ap (λ f. f ∷ reverse (take (length frames - 1) frames)) (get_or_from_slice_get frames (length frames - 1) frame frame (sym at))

pub no_kids : (kids : List Kid) → None ≡ slice_get kids 0 → kids ≡ []
no_kids [] at = refl
no_kids (kid ∷ kids) at = absurd (cc)

pub first_kid : (kids : List Kid) (kid : Kid) → Some kid ≡ slice_get kids 0 → kids ≡ kid ∷ drop 1 kids
first_kid [] kid at = absurd (cc)
first_kid (other ∷ kids) kid at = ap (λ k. k ∷ kids) (sym (same_Some kid other at))

pub top_is : (frames : List Frame) (kid : Kid) → NextIs frames kid → IsTop frames (top_of kid)
top_is frames (TokenKid token) next = next
top_is frames (NodeKid node) next = next
top_is frames HiddenKid next = next

-- ---- past a kid

pub last_place : (items : List Frame) (frame : Frame) (below : List Frame) (len : ℕ) → reverse items ≡ frame ∷ below → len ≡ length items → len - 1 + 1 ≡ length items
last_place items frame below len same size = let count = ap length same in let turned = length-reverse items in omega (arith, count, turned, size)

pub skipped : (items : List Frame) (last : ℕ) (old new : Frame) (n : Ref) (kid : Kid) (rest : List Kid) (below : List Frame) → reverse items ≡ (n, kid ∷ rest) ∷ below → last + 1 ≡ length items → old ≡ get_or items last old → new ≡ (old.0, drop 1 old.1) → reverse (set items last new) ≡ (n, rest) ∷ below
skipped items last old new n kid rest below same size read to =
    let split = reverse_split items (n, kid ∷ rest) below same in
    let place : length (reverse below) ≡ last = (let count = ap length split in let sum = length-append (reverse below) ((n, kid ∷ rest) ∷ []) in omega (arith, count, sum, size)) in
    let is : old ≡ (n, kid ∷ rest) = read ∙ ap (λ l. get_or l last old) split ∙ get_or_at (reverse below) (n, kid ∷ rest) [] old last place in
    let now : new ≡ (n, rest) = to ∙ ap (λ (f : Frame). (f.0, drop 1 f.1)) is in
    ap (λ l. reverse (set l last new)) split
    ∙ ap reverse (set_at (reverse below) (n, kid ∷ rest) [] new last place)
    ∙ reverse_push (reverse below) new
    ∙ ap (λ l. new ∷ l) (reverse-reverse below)
    ∙ ap (λ f. f ∷ below) now

pub entered_next : (items pushed : List Frame) (last : ℕ) (old new frame : Frame) (n : Ref) (kid : Kid) (rest : List Kid) (below : List Frame) → pushed ≡ items ++ frame ∷ [] → reverse items ≡ (n, kid ∷ rest) ∷ below → last + 1 ≡ length items → old ≡ get_or pushed last old → new ≡ (old.0, drop 1 old.1) → reverse (set pushed last new) ≡ frame ∷ (n, rest) ∷ below
entered_next items pushed last old new frame n kid rest below push same size read to =
    let less : last < length items = omega (arith, size) in
    let again = read ∙ ap (λ l. get_or l last old) push ∙ get_or_append_left items (frame ∷ []) old last less in
    ap (λ l. reverse (set l last new)) push
    ∙ ap reverse (set-append_left items (frame ∷ []) last new less)
    ∙ reverse_push (set items last new) frame
    ∙ ap (λ l. frame ∷ l) (skipped items last old new n kid rest below same size again to)
