-- Bytes are one sheet at most.
use Rattle.std.proofs.Common.{◌≡◌, ℕ, List, subst}
use Rattle.sheet_data.specs.Sheet.{Sheet}
use Rattle.outline_data.specs.Parts.{OutlineParts}
use Rattle.outline_theory.specs.Numbering.{IsSheetOf}
use Rattle.outline_theory.specs.Reading.{HasOutline, Reads}
use Rattle.outline_laws.proofs.ApartLemmas.{one_outline}
use Rattle.sheet_laws.proofs.SheetLemmas.{sheet_once}

-- two outlines of the bytes are the same, and so are their sheets
pub same_by : (bytes : List ℕ) (o p : OutlineParts) (one other : Sheet) → HasOutline bytes o → HasOutline bytes p → IsSheetOf o one → IsSheetOf p other → one ≡ other
same_by bytes o p one other h k is other_is =
    let same : p ≡ o = one_outline bytes p o k.of h.of in
    sheet_once o one other is (subst (λ q. IsSheetOf q other) same other_is)

pub one_sheet : (bytes : List ℕ) (one other : Sheet) → Reads bytes one → Reads bytes other → one ≡ other
one_sheet bytes one other h k = same_by bytes h.outline k.outline one other h.has k.has h.says k.says
