-- The form that words are of: one at most, for what can be done.
use Rattle.std.proofs.Common.{◌≡◌, ℕ, ◌==◌, if◌then◌else◌, List, get_or, Option, Some, None, refl, sym, ap, subst, ◌∙◌, arith, codes}
use Rattle.run_theory.specs.declared.emit.Emit.{Emit}
use Rattle.run_theory.specs.declared.emit.Emit.TheVariants.{Output, Names}
use Rattle.tally_theory.specs.declared.asked.Asked.{Asked}
use Rattle.tally_theory.specs.declared.asked.Asked.TheVariants.{Text, Report}
use Rattle.tally_theory.specs.declared.cut.Cut.{Cut}
use Rattle.tally_theory.specs.Asked.{CanBeAsked}
use Rattle.tally_theory.specs.Cuts.{CanBeCut}
use Rattle.answer_theory.specs.declared.task.Seed.{Seed}
use Rattle.answer_theory.specs.declared.task.Task.{Task}
use Rattle.answer_theory.specs.declared.task.Task.TheVariants as task
use Rattle.answer_theory.specs.Tasks.{CanBeDone}
use Rattle.word_theory.specs.declared.command_name.CommandName.{CommandName}
use Rattle.word_theory.specs.declared.command_name.CommandName.TheVariants.{Tokens, Check, Tables, Run, Gen, Load}
use Rattle.word_theory.specs.Arguments.{word_of, Told, told_in}
use Rattle.word_theory.specs.Values.{CanWork, emit_word, IsAskedBy, IsCutBy, IsNumberBy, IsSeedBy, IsWorkersBy}
use Rattle.word_theory.specs.Words.{IsParsedBy, IsRunBy, AsksFor, asks_tokens, asks_check, asks_tables, asks_run, asks_gen, asks_load}
use Rattle.word_theory.specs.Laws.{FormLaw, OneFormLaw, OneParseLaw, ParseLaw}

-- the first two letters of the words of commands differ
abbrev name_with : ℕ → ℕ → CommandName
name_with first second = (if second == 104 then Check else (if second == 97 then Tables else (if second == 117 then Run else (if second == 101 then Gen else (if first == 116 then Tokens else Load)))))

abbrev named : List ℕ → CommandName
named word = name_with (get_or word 0 0) (get_or word 1 0)

name_said : (command : CommandName) → command ≡ named (word_of command)
name_said Tokens = refl
name_said Check = refl
name_said Tables = refl
name_said Run = refl
name_said Gen = refl
name_said Load = refl

pub same_command : (command other : CommandName) → word_of command ≡ word_of other → command ≡ other
same_command command other e = name_said command ∙ ap named e ∙ sym (name_said other)

-- a value says one thing
abbrev emit_named : List ℕ → Emit
emit_named word = if get_or word 1 0 == 97 then Names else Output

emit_is : (emit : Emit) → emit ≡ emit_named (emit_word emit)
emit_is Output = refl
emit_is Names = refl

emit_once : (word : List ℕ) (emit other : Emit) → word ≡ emit_word emit → word ≡ emit_word other → emit ≡ other
emit_once word emit other is also = emit_is emit ∙ ap emit_named (sym is ∙ also) ∙ sym (emit_is other)

-- no text's word is the report's
no_report : (word : List ℕ) (emit : Emit) → word ≡ emit_word emit → word ≡ codes "report" → ⊥
no_report word Output is also = let same : get_or (codes "output") 0 0 ≡ get_or (codes "report") 0 0 = ap (λ w. get_or w 0 0) (sym is ∙ also) in omega (arith, same)
no_report word Names is also = let same : get_or (codes "names") 0 0 ≡ get_or (codes "report") 0 0 = ap (λ w. get_or w 0 0) (sym is ∙ also) in omega (arith, same)

asked_by_once : (value : Option (List ℕ)) (cut : Cut) (asked other : Asked) → IsAskedBy value cut asked → IsAskedBy value cut other → asked ≡ other
asked_by_once None cut asked other is also = is ∙ sym also
asked_by_once (Some word) cut (Text emit) (Text other) is also = ap Text (emit_once word emit other is also)
asked_by_once (Some word) cut (Text emit) (Report by) is also = absurd (no_report word emit is also.0)
asked_by_once (Some word) cut (Report by) (Text emit) is also = absurd (no_report word emit also is.0)
asked_by_once (Some word) cut (Report by) (Report other) is also = ap Report (is.1 ∙ sym also.1)

cut_once : (value at : Option (List ℕ)) (cut other : Cut) → IsCutBy value at cut → IsCutBy value at other → cut ≡ other
cut_once None None cut other is also = is ∙ sym also
cut_once (Some word) None cut other is also = is.1 ∙ sym also.1
cut_once None (Some word) cut other is also = is.1 ∙ sym also.1
cut_once (Some count) (Some word) cut other is also = absurd is

run_once : (told : Told) (asked other : Asked) → IsRunBy told asked → IsRunBy told other → asked ≡ other
run_once told asked other is also =
    let cuts : is.cut ≡ also.cut = cut_once told.cut told.at is.cut also.cut is.parsed_told.cut_told also.parsed_told.cut_told in
    asked_by_once told.emit is.cut asked other is.asked_told (subst (λ c. IsAskedBy told.emit c other) (sym cuts) also.asked_told)

number_once : (value : Option (List ℕ)) (n other : ℕ) → IsNumberBy value n → IsNumberBy value other → n ≡ other
number_once None n other is also = absurd is
number_once (Some word) n other is also = is.1 ∙ sym also.1

workers_once : (value : Option (List ℕ)) (workers others : ℕ) → IsWorkersBy value workers → IsWorkersBy value others → workers ≡ others
workers_once None workers others is also = is ∙ sym also
workers_once (Some word) workers others is also = number_once (Some word) workers others is.0 also.0

parsed_once : (told : Told) (cut other : Cut) (workers others : ℕ) → IsParsedBy told cut workers → IsParsedBy told other others → (cut ≡ other) × (workers ≡ others)
parsed_once told cut other workers others is also =
    (cut_once told.cut told.at cut other is.cut_told also.cut_told, workers_once told.workers workers others is.workers_told also.workers_told)

seed_once : (from size : Option (List ℕ)) (seed other : Seed) → IsSeedBy from size seed → IsSeedBy from size other → seed ≡ other
seed_once from size seed other is also =
    let froms : seed.from ≡ other.from = number_once from seed.from other.from is.from_told also.from_told in
    let sizes : seed.size ≡ other.size = number_once size seed.size other.size is.size_told also.size_told in
    λ i. record { from = froms i; size = sizes i }

-- so do all values of a command
module _ (told : Told) where
  asked_once : {command : CommandName} {one other : Task} {names others : List (List ℕ)} → AsksFor told command one names → AsksFor told command other others → (one ≡ other) × (names ≡ others)
  asked_once (asks_tokens sheet text) (asks_tokens other_sheet other_text) = (refl, cc)
  asked_once (asks_check sheet) (asks_check other_sheet) = (refl, cc)
  asked_once (asks_tables sheet) (asks_tables other_sheet) = (refl, cc)
  asked_once (asks_run {asked = asked} sheet text runs) (asks_run {asked = other} other_sheet other_text other_runs) = (ap task.Run (run_once told asked other runs other_runs), cc)
  asked_once (asks_gen {seed = seed} sheet seeds) (asks_gen {seed = other} other_sheet other_seeds) = (ap task.Gen (seed_once _ _ seed other seeds other_seeds), cc)
  asked_once (asks_load {seed = seed} {asked = asked} sheet seeds runs) (asks_load {seed = other_seed} {asked = other} other_sheet other_seeds other_runs) =
      let same_seeds : seed ≡ other_seed = seed_once _ _ seed other_seed seeds other_seeds in
      let same_asked : asked ≡ other = run_once told asked other runs other_runs in
      (cc, cc)

-- the words are of one form at the most
pub form_once : OneFormLaw
form_once words names others one other form other_form =
    let heads : word_of form.command ≡ word_of other_form.command = cc (form.are, other_form.are) in
    let commands : form.command ≡ other_form.command = same_command form.command other_form.command heads in
    let rests : form.rest ≡ other_form.rest = cc (form.are, other_form.are) in
    let moved : AsksFor (told_in form.command form.rest) form.command other others =
    subst (λ w. AsksFor (told_in form.command w) form.command other others) (sym rests) (subst (λ c. AsksFor (told_in c other_form.rest) c other others) (sym commands) other_form.ask) in
    asked_once (told_in form.command form.rest) form.ask moved

-- and say one parse at the most
pub parse_once : OneParseLaw
parse_once words cut other workers others says also =
    let heads : word_of says.command ≡ word_of also.command = cc (says.are, also.are) in
    let commands : says.command ≡ also.command = same_command says.command also.command heads in
    let rests : says.rest ≡ also.rest = cc (says.are, also.are) in
    let moved : IsParsedBy (told_in says.command says.rest) other others =
    subst (λ w. IsParsedBy (told_in says.command w) other others) (sym rests) (subst (λ c. IsParsedBy (told_in c also.rest) other others) (sym commands) also.parsed_told) in
    parsed_once (told_in says.command says.rest) cut other workers others says.parsed_told moved

-- ---- what is asked for can be done

cut_can : (value at : Option (List ℕ)) (cut : Cut) → IsCutBy value at cut → CanBeCut cut
cut_can None None cut is = subst CanBeCut (sym is) (omega arith, omega arith)
cut_can (Some word) None cut is = is.2
cut_can None (Some word) cut is = is.2
cut_can (Some count) (Some word) cut is = absurd is

workers_can : (value : Option (List ℕ)) (workers : ℕ) → IsWorkersBy value workers → CanWork workers
workers_can None workers is = subst CanWork (sym is) (omega arith, omega arith)
workers_can (Some word) workers is = is.1

pub parsed_can : (told : Told) (cut : Cut) (workers : ℕ) → IsParsedBy told cut workers → CanBeCut cut × CanWork workers
parsed_can told cut workers is = (cut_can told.cut told.at cut is.cut_told, workers_can told.workers workers is.workers_told)

asked_can : (value : Option (List ℕ)) (cut : Cut) (asked : Asked) → CanBeCut cut → IsAskedBy value cut asked → CanBeAsked asked
asked_can None cut asked can is = subst CanBeAsked (sym is) tt
asked_can (Some word) cut (Text emit) can is = tt
asked_can (Some word) cut (Report by) can is = subst CanBeCut (sym is.1) can

run_can : (told : Told) (asked : Asked) → IsRunBy told asked → CanBeAsked asked
run_can told asked is = asked_can told.emit is.cut asked (cut_can told.cut told.at is.cut is.parsed_told.cut_told) is.asked_told

command_can : {told : Told} {command : CommandName} {asked : Task} {names : List (List ℕ)} → AsksFor told command asked names → CanBeDone asked
command_can (asks_tokens sheet text) = tt
command_can (asks_check sheet) = tt
command_can (asks_tables sheet) = tt
command_can {told} (asks_run {asked = asked} sheet text runs) = run_can told asked runs
command_can (asks_gen sheet seeds) = tt
command_can {told} (asks_load {asked = asked} sheet seeds runs) = run_can told asked runs

pub form_can : FormLaw
form_can words names asked form = command_can form.ask

pub parse_can : ParseLaw
parse_can words cut workers says = parsed_can (told_in says.command says.rest) cut workers says.parsed_told
