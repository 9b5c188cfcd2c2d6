use Rattle.item_theory.proofs.StateLaws.{search_begin_law, search_old_law, new_word_law, search_new_law, search_names_law, search_next_law, search_end_law}
use Rattle.item_theory.proofs.search_laws.Goals as goal

pub returns : goal.returns
returns c = record {
  begin = search_begin_law;
  old = search_old_law;
  new_word = new_word_law;
  new = search_new_law;
  names = search_names_law;
  next = search_next_law;
  end = search_end_law;
}
