-- The printed text of tables, with the items of their states.
use Rattle.std.specs.Prelude.{ℕ, ◌+◌, List, [], ◌++◌, Option, None, Some, filter, codes}
use Rattle.std.specs.List.{flat_map, range_with_len}
use Rattle.std.specs.Fmt.{decimal}
use Rattle.grammar_data.specs.declared.rule.Sym.TheVariants.{Name}
use Rattle.grammar_data.specs.TokenSet.{has_token}
use Rattle.sheet_data.specs.Sheet.{Sheet}
use Rattle.outline_theory.specs.Layout.{symbol_text}
use Rattle.collection_data.specs.declared.entry.Entry.{Entry}
use Rattle.collection_data.specs.Collection.{CollectionParts, items_in}
use Rattle.table_data.specs.declared.act.Act.{Act}
use Rattle.table_data.specs.declared.act.Act.TheVariants.{Shift, Reduce, Accept, Error}
use Rattle.table_data.specs.Tables.{Tables, act_in, goto_in}
use Rattle.report_theory.specs.ItemTexts.{token_text, with_aheads, indented}

-- a number at the end of a line
abbrev pub last_number : ℕ → List ℕ
last_number n = decimal n ++ codes "\n"

-- the tokens of a set, and the end mark where it is in the set, in order of number
abbrev pub aheads_in : ℕ → List ℕ → List ℕ
aheads_in tokens words = filter (has_token words) (range_with_len 0 (tokens + 1))

-- the items of an entry, on one line
abbrev pub entry_line : Sheet → Entry → List ℕ
entry_line sheet entry = indented (with_aheads sheet entry.rule entry.dot (aheads_in sheet.grammar.tokens entry.ahead))

-- what a state does on a token or on the end mark; no line for an error
abbrev pub act_line : Sheet → ℕ → Act → List ℕ
act_line sheet a (Shift p) = codes "  on " ++ (token_text sheet a ++ (codes " shift " ++ last_number p))
act_line sheet a (Reduce r) = codes "  on " ++ (token_text sheet a ++ (codes " reduce " ++ last_number r))
act_line sheet a Accept = codes "  on " ++ (token_text sheet a ++ codes " accept\n")
act_line sheet a Error = []

-- where a state goes along a name; no line where it goes nowhere
abbrev pub goto_line : Sheet → ℕ → Option ℕ → List ℕ
goto_line sheet n None = []
goto_line sheet n (Some p) = codes "  to " ++ (symbol_text sheet (Name n) ++ (codes " goto " ++ last_number p))

-- the entries of a state, its actions in the order of the tokens with the end mark last, and its gotos in the order of
-- the names
abbrev pub entry_lines : Sheet → List Entry → List ℕ
entry_lines sheet entries = flat_map (entry_line sheet) entries

abbrev pub act_lines : Sheet → Tables → ℕ → List ℕ
act_lines sheet t q = flat_map (λ a. act_line sheet a (act_in t q a)) (range_with_len 0 (t.tokens + 1))

abbrev pub goto_lines : Sheet → Tables → ℕ → List ℕ
goto_lines sheet t q = flat_map (λ n. goto_line sheet n (goto_in t q n)) (range_with_len 0 t.names)

unfoldable pub state_text : Sheet → CollectionParts → Tables → ℕ → List ℕ
state_text sheet c t q =
    codes "state " ++ (last_number q ++ (entry_lines sheet (items_in c q) ++ (act_lines sheet t q ++ goto_lines sheet t q)))

abbrev pub states_line : Tables → List ℕ
states_line t = codes "states " ++ last_number t.states

-- how many states there are, and then each
unfoldable pub tables_text : Sheet → CollectionParts → Tables → List ℕ
tables_text sheet c t = states_line t ++ flat_map (state_text sheet c t) (range_with_len 0 t.states)
