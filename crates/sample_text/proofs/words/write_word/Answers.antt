use Rattle.std.proofs.Common.{◌≡◌, ℕ, ◌<◌, List, ◌++◌, length, sym, ◌∙◌, subst, arith}
use Rattle.std.specs.Prelude.{Option}
use Rattle.std.specs.Global.{Vec}
use Rattle.std.proofs.lemmas.Result.{IfOk-weaker, IfErr-weaker}
use Rattle.scanning_theory.specs.Scan.{Scanning}
use Rattle.sample_text.specs.Wording.{IsLineFor, IsLonger, IsScannedBy, IsUnwritten, IsWritten}
use Rattle.sample_text.proofs.ClosingLemmas.{found_at}
use Rattle.sample_text.proofs.WordLemmas.{line_unwritten, line_written}
use Rattle.sample_text.proofs.words.write_word.Goals as goal

-- the line that is appended is the token's
line_here : (c : goal.After-append) (scanning : Scanning) → IsScannedBy c.args.scanner.now c.args.means.now scanning → IsLineFor scanning c.args.token c.deref.result.now
line_here c scanning by =
    let found : List (Option (Vec ℕ)) = c.know_word.new.found.items in
    let below : c.args.token < length found = omega (arith, c.in_ok-know_word.ensures.size, c.requires.token) in
    let at = found_at found c.token.inside.0 c.args.token c.index.result.now c.index.ensures c.token.view_is below in
    subst (λ l. IsLineFor scanning c.args.token l) (sym c.deref.ensures.value) (c.in_ok-know_word.ensures.known c.args.token c.in-Some.line (at ∙ c.in-Some.is) scanning by)

pub returns-clause-text : goal.returns-clause-text
returns-clause-text c =
    let table = c.args.scanner.now in
    let means = c.args.means.now in
    let text = c.args.text.now.items in
    let line : List ℕ = c.deref.result.now in
    IfOk-weaker c.append.result (λ _. c.append.new.text.items ≡ text ++ line) (λ _. IsWritten table means c.args.token text c.append.new.text.items)
    (λ _ same. line_written table means c.args.token text line (line_here c) c.append.new.text.items same) c.append.ensures.text

pub returns-clause-fault : goal.returns-clause-fault
returns-clause-fault c =
    let table = c.args.scanner.now in
    let means = c.args.means.now in
    let text = c.args.text.now.items in
    let line : List ℕ = c.deref.result.now in
    IfErr-weaker c.append.result (IsLonger text line) (IsUnwritten table means c.args.token text) (line_unwritten table means c.args.token text line (line_here c)) c.append.ensures.fault
