-- Items are in one order: by rule, then by dot, then by lookahead.
use Rattle.std.proofs.Common.{◌≡◌, ◌<◌, ◌⊎◌, inl, inr, sym, arith}
use Rattle.std.proofs.lemmas.Bool.{cases_order}
use Rattle.item_theory.specs.Items.{Item}
use Rattle.item_theory.proofs.ItemLemmas.{item_same}
use Rattle.table_theory.specs.Deeds.{IsItemBefore, IsItemUpTo, ItemTotalLaw, ItemTransitiveLaw, ItemIrreflexiveLaw}

pub item_irreflexive : ItemIrreflexiveLaw
item_irreflexive i (inl less) = absurd (omega arith)
item_irreflexive i (inr (same, inl less)) = absurd (omega arith)
item_irreflexive i (inr (same, inr (equal, less))) = absurd (omega arith)

pub item_transitive : ItemTransitiveLaw
item_transitive i j k (inl less) (inl more) = inl (omega arith)
item_transitive i j k (inl less) (inr (same, more)) = inl (omega arith)
item_transitive i j k (inr (same, less)) (inl more) = inl (omega arith)
item_transitive i j k (inr (same, inl less)) (inr (equal, inl more)) = inr (omega arith, inl (omega arith))
item_transitive i j k (inr (same, inl less)) (inr (equal, inr (level, more))) = inr (omega arith, inl (omega arith))
item_transitive i j k (inr (same, inr (level, less))) (inr (equal, inl more)) = inr (omega arith, inl (omega arith))
item_transitive i j k (inr (same, inr (level, less))) (inr (equal, inr (even, more))) = inr (omega arith, inr (omega arith, omega arith))

pub item_total : ItemTotalLaw
item_total i j = by_rule (cases_order i.rule j.rule)
  where
    by_ahead : i.rule ≡ j.rule → i.dot ≡ j.dot → (i.ahead ≡ j.ahead) ⊎ ((i.ahead < j.ahead) ⊎ (j.ahead < i.ahead)) → (i ≡ j) ⊎ (IsItemBefore i j ⊎ IsItemBefore j i)
    by_ahead rule dot (inl ahead) = inl (item_same rule dot ahead)
    by_ahead rule dot (inr (inl less)) = inr (inl (inr (rule, inr (dot, less))))
    by_ahead rule dot (inr (inr less)) = inr (inr (inr (sym rule, inr (sym dot, less))))

    by_dot : i.rule ≡ j.rule → (i.dot ≡ j.dot) ⊎ ((i.dot < j.dot) ⊎ (j.dot < i.dot)) → (i ≡ j) ⊎ (IsItemBefore i j ⊎ IsItemBefore j i)
    by_dot rule (inl dot) = by_ahead rule dot (cases_order i.ahead j.ahead)
    by_dot rule (inr (inl less)) = inr (inl (inr (rule, inl less)))
    by_dot rule (inr (inr less)) = inr (inr (inr (sym rule, inl less)))

    by_rule : (i.rule ≡ j.rule) ⊎ ((i.rule < j.rule) ⊎ (j.rule < i.rule)) → (i ≡ j) ⊎ (IsItemBefore i j ⊎ IsItemBefore j i)
    by_rule (inl rule) = by_dot rule (cases_order i.dot j.dot)
    by_rule (inr (inl less)) = inr (inl (inl less))
    by_rule (inr (inr less)) = inr (inr (inl less))

-- two items, each up to the other, are the same
pub item_once : (i j : Item) → IsItemUpTo i j → IsItemUpTo j i → i ≡ j
item_once i j (inl same) h = same
item_once i j (inr before) (inl same) = sym same
item_once i j (inr before) (inr after) = absurd (item_irreflexive i (item_transitive i j i before after))
