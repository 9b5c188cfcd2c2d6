-- The laws on items and chains, as they are stated.
use Rattle.std.proofs.Common.{List, [], ◌∷◌, sym, subst, ⊎_elim}
use Rattle.grammar_data.specs.declared.rule.Sym.{Sym}
use Rattle.grammar_data.specs.declared.rule.Sym.TheVariants.{Name}
use Rattle.grammar_data.specs.Grammar.{Grammar}
use Rattle.grammar_theory.specs.Rules.{IsInRange, NamesBelow, TokensBelow}
use Rattle.item_theory.specs.Items.{Item, IsItemOf, IsValid, valid, IsViable, AugmentedItemsLaw, DottedOnceLaw, OneDeedLaw, ItemRangeLaw, PrefixRangeLaw}
use Rattle.item_theory.specs.Chains.{IsChained, ChainLaw, FirstClosureLaw, MovedClosureLaw, OpensOnlyLaw, OpensLaw}
use Rattle.item_theory.proofs.ItemLemmas.{dotted_once, one_deed}
use Rattle.item_theory.proofs.ChainLemmas.{valid_first, chain_valid}
use Rattle.item_theory.proofs.LeadLemmas.{valid_chain}
use Rattle.item_theory.proofs.ClosureLemmas.{valid_in_first, first_valid, valid_in_moved, moved_valid, open_found, found_open}
use Rattle.item_theory.proofs.AugmentedLemmas.{chain_augmented, augmented_end}
use Rattle.item_theory.proofs.RangeLemmas.{chain_item_below, chain_list_below}

pub augmented_items_law : AugmentedItemsLaw
augmented_items_law g range xs i last = (
  λ v. chain_augmented g range (valid_chain g range v) last,
  λ h. ⊎_elim
      (λ (none, is). subst (λ l. IsValid g l i) (sym none) (subst (λ j. IsValid g [] j) (sym is) (valid_first g)))
      (λ (start, is). subst (λ l. IsValid g l i) (sym start) (subst (λ j. IsValid g (Name g.start ∷ []) j) (sym is) (augmented_end g)))
      h,
)

pub dotted_once_law : DottedOnceLaw
dotted_once_law g i n m before after front back first second = dotted_once first second

pub one_deed_law : OneDeedLaw
one_deed_law g i a first second one two = one_deed one two

item_of : (g : Grammar) → IsInRange g → (xs : List Sym) (i : Item) → IsChained g xs i → IsValid g xs i → IsItemOf g i
item_of g range xs i chain (valid n front before after w reached dotted ahead at) =
    let below = chain_item_below g range chain in
    record { name = n; before = before; after = after; dotted = dotted; rule = below.0; ahead = below.1 }

pub item_range_law : ItemRangeLaw
item_range_law g range xs i v = item_of g range xs i (valid_chain g range v) v

prefix_below : (g : Grammar) → IsInRange g → (xs : List Sym) → IsViable g xs → NamesBelow g.names xs × TokensBelow g.tokens xs
prefix_below g range xs (i, v) = chain_list_below g range (valid_chain g range v)

pub prefix_range_law : PrefixRangeLaw
prefix_range_law g range xs viable = prefix_below g range xs viable

pub chain_law : ChainLaw
chain_law g range xs i = (λ v. valid_chain g range v, λ c. chain_valid g c)

pub first_closure_law : FirstClosureLaw
first_closure_law g range i = (λ v. valid_in_first g range v, λ c. first_valid g range c)

pub moved_closure_law : MovedClosureLaw
moved_closure_law g range xs x i = (λ v. valid_in_moved g range v, λ c. moved_valid g range c)

pub opens_only_law : OpensOnlyLaw
opens_only_law g range i j n m before after dotted o = open_found g range dotted o

pub opens_law : OpensLaw
opens_law g range all i j n m before after dotted = (λ o. open_found g range dotted o, λ r. found_open g range all dotted r.1 r.2 r.3)
