-- Hidden kids of a node are filled one by one, the last first.
use Rattle.std.proofs.Common.{◌≡◌, ℕ, suc, ◌+◌, ◌-◌, ◌<◌, ◌≤◌, List, ◌∷◌, ◌++◌, length, drop, get_or, replicate, Some, sym, ap, ◌∙◌, subst, append_assoc, arith}
use Rattle.std.specs.Prelude.{slice_get}
use Rattle.std.proofs.Math.Seq.{drop-length, drop-cons}
use Rattle.std.proofs.lemmas.List.{get_or_append_left, get_or-replicate, length-replicate, length-append, replicate-append-replicate}
use Rattle.std.proofs.lemmas.Option.{slice_get-get_or}
use Rattle.node_data.specs.declared.kid.Kid.{Kid}
use Rattle.node_data.specs.declared.kid.Kid.TheVariants.{Hidden}
use Rattle.tree_theory.specs.Stores.{Ref, Store}
use Rattle.use_theory.specs.Fills.{FillsKid, SuppliesPart}
use Rattle.use_theory.proofs.SupplyLemmas.{kid_by_kid, none_supplied_law}
use Rattle.node_store.specs.Chunks.{StoresKid}
use Rattle.stack_finish.specs.Putting.{HidesMore}

pub none_filled : (store : Store) (m : Ref) (still : ℕ) (kids : List Kid) → HidesMore store m still (length kids) → SuppliesPart store store m (still + length kids) (drop (length kids) kids)
none_filled store m still kids hides = subst (λ l. SuppliesPart store store m (still + length kids) l) (sym (drop-length kids))
    (none_supplied_law store m hides.rule (still + length kids) hides.further (hides.found ∙ ap (λ l. Some (hides.rule, l)) (sym (append_assoc (replicate still Hidden) (replicate (length kids) Hidden) hides.further) ∙ ap (λ l. l ++ hides.further) (replicate-append-replicate still (length kids) Hidden))))

hidden_in : (n i : ℕ) (kids : List Kid) → i < n → slice_get (replicate n Hidden ++ kids) i ≡ Some Hidden
hidden_in n i kids less =
    let a = length-replicate n Hidden in
    let b = length-append (replicate n Hidden) kids in
    slice_get-get_or (replicate n Hidden ++ kids) i Hidden (omega (arith, a, b)) ∙ ap Some (get_or_append_left (replicate n Hidden) kids Hidden i (omega (arith, a)) ∙ get_or-replicate n i Hidden Hidden less)

pub hidden_there : {store now : Store} {m : Ref} {still : ℕ} {kids : List Kid} → SuppliesPart store now m still kids → (i : ℕ) → i < still → (r : ℕ) × (all : List Kid) × (now m ≡ Some (r, all)) × (slice_get all i ≡ Some Hidden)
hidden_there {still = still} {kids = kids} part i less = (part.rule, replicate still Hidden ++ (kids ++ part.further), part.after, hidden_in still i (kids ++ part.further) less)

pub next_filled : (store now new : Store) (m : Ref) (still left : ℕ) (kids : List Kid) (kid : Kid) → 0 < left → left ≤ length kids → SuppliesPart store now m (still + left) (drop left kids) → StoresKid now new m (still + (left - 1)) kid → kid ≡ get_or kids (left - 1) kid → SuppliesPart store new m (still + (left - 1)) (drop (left - 1) kids)
next_filled store now new m still left kids kid some inside part stores is =
    let less : still + (left - 1) < still + left = omega (arith, some) in
    let one : still + left ≡ suc (still + (left - 1)) = omega (arith, some) in
    let here = hidden_there part (still + (left - 1)) less in
    let fills : FillsKid now new m (still + (left - 1)) kid = record { rule = here.0; kids = here.1; before = here.2; hidden = here.3; after = stores.filled here.0 here.1 here.2; others = stores.others } in
    let more : SuppliesPart store now m (suc (still + (left - 1))) (drop left kids) = subst (λ n. SuppliesPart store now m n (drop left kids)) one part in
    let ahead : drop (left - 1) kids ≡ kid ∷ drop left kids = drop-cons kids (left - 1) kid (omega (arith, some, inside)) ∙ (λ k. sym is k ∷ drop (back left some k) kids) in
    subst (λ l. SuppliesPart store new m (still + (left - 1)) l) (sym ahead) (kid_by_kid store now new m (still + (left - 1)) kid (drop left kids) more fills)
  where
    back : (n : ℕ) → 0 < n → suc (n - 1) ≡ n
    back n less = omega (arith, less)
