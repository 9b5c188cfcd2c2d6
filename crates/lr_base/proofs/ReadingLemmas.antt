-- What a shelf lost of the bytes under a name.
use Rattle.std.proofs.Common.{ℕ, List, [], ◌++◌, Option, None, Some, IsSome, sym, ap, ◌∙◌, append-nil}
use Rattle.std.specs.Io.KnownBytes.{Consumes, IsAtEnd}

-- where nothing is left, all is gone
pub all_lost : (stood left : Option (List ℕ)) → IsSome left → IsAtEnd left → (front : List ℕ) × Consumes stood left front
all_lost None left told ended = ([], tt)
all_lost (Some all) None told ended = cc
all_lost (Some all) (Some rest) told ended = (all, sym (append-nil all) ∙ ap (λ more. all ++ more) (sym ended))
