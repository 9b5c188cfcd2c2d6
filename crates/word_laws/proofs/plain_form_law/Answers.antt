use Rattle.word_laws.proofs.PlainLemmas.{plain_form}
use Rattle.word_laws.proofs.plain_form_law.Goals as goal

pub returns : goal.returns
returns c = plain_form
