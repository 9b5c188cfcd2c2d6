-- How the writing of an output comes out.
use Rattle.std.proofs.Common.{◌≡◌, ℕ, List, [], Result, Ok, Err, IsErrAnd, refl, sym, subst}
use Rattle.std.proofs.KnownBytes.{Appends-nil}
use Rattle.lr_base.specs.Outside.{SinkSeen, Takes}
use Rattle.grammar_data.specs.declared.token.Token.{Token}
use Rattle.scanning_theory.specs.Lines.{line_starts}
use Rattle.sheet_data.specs.Sheet.{Sheet}
use Rattle.sheet_theory.specs.Names.{token_names}
use Rattle.sheet_theory.specs.TokenList.{token_list, listed_tokens}
use Rattle.writing_theory.specs.Writing.{nothing_taken, front_taken, IsWritten, all_taken, part_taken, cut}
use Rattle.writing_theory.specs.declared.fault.WriteFault.{WriteFault}
use Rattle.writing_theory.specs.declared.fault.WriteFault.TheVariants.{NoMemory}

-- nothing was written
pub takes_nothing : (a : SinkSeen) → Takes a a []
takes_nothing a = record { grown = Appends-nil a.taken; kept = refl }

-- a fact of the error that `?` makes
pub err_at : {A E : Type 0} (P : Result A E → Type 0) (r : Result A E) (e : E) → IsErrAnd r (λ x. x ≡ e) → P (Err e) → P r
err_at P (Ok a) e same h = absurd same
err_at P (Err x) e same h = subst (λ y. P (Err y)) (sym same) h

-- memory ran out before anything was written
pub not_written : (Is : List ℕ → Type 0) (a : SinkSeen) (result : Result (Unit {0}) WriteFault) → IsErrAnd result (λ fault. fault ≡ NoMemory) → IsWritten Is a a result
not_written Is a result same = err_at (IsWritten Is a a) result NoMemory same (cut (nothing_taken (takes_nothing a)))

-- what is known of the text implies more
pub written_as : (Is Also : List ℕ → Type 0) (a b : SinkSeen) → ((text : List ℕ) → Is text → Also text) → {result : Result (Unit {0}) WriteFault} → IsWritten Is a b result → IsWritten Also a b result
written_as Is Also a b so (all_taken {text = text} is takes) = all_taken (so text is) takes
written_as Is Also a b so (part_taken {text = text} is fails) = part_taken (so text is) fails
written_as Is Also a b so (cut (nothing_taken takes)) = cut (nothing_taken takes)
written_as Is Also a b so (cut (front_taken {text = text} rest is e takes)) = cut (front_taken rest (so text is) e takes)

-- what is printed by the names and the lines is the sheet's list of the text
pub list_is : (sheet : Sheet) (text : List ℕ) (names : List (List ℕ)) (starts : List ℕ) (found tokens : List Token) → names ≡ token_names sheet → starts ≡ line_starts text → found ≡ tokens
    → listed_tokens names starts found ≡ token_list sheet text tokens
list_is sheet text names starts found tokens p q r = cc
