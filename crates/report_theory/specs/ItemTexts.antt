-- The printed texts of items and conflicts.
use Rattle.std.specs.Prelude.{ℕ, nat_lt, if◌then◌else◌, List, ◌∷◌, [], ◌++◌, length, map, take, drop, slice_get, slice_index_or, unwrap_or, codes}
use Rattle.std.specs.List.{flat_map}
use Rattle.std.specs.Fmt.{decimal}
use Rattle.grammar_data.specs.Grammar.{Grammar, Rule}
use Rattle.grammar_data.specs.declared.rule.Sym.{Sym}
use Rattle.grammar_data.specs.declared.rule.Sym.TheVariants.{Name}
use Rattle.sheet_data.specs.Sheet.{Sheet}
use Rattle.sheet_theory.specs.Names.{token_names}
use Rattle.outline_theory.specs.Layout.{symbol_text}
use Rattle.item_theory.specs.Items.{Item, augmented_rule}
use Rattle.grammar_faults.specs.declared.conflict.Conflict.{Conflict}

-- a word, and a space before it
abbrev pub behind_space : List ℕ → List ℕ
behind_space word = 32 ∷ word

-- the printed name of a token, of the end mark or of the bad byte
abbrev pub token_text : Sheet → ℕ → List ℕ
token_text sheet a = unwrap_or (slice_get (token_names sheet) a) []

-- the rule of a number; the number after the last rule's is that of the augmented rule
abbrev pub rule_at : Grammar → ℕ → Rule
rule_at g r = slice_index_or g.rules r (augmented_rule g)

-- the printed left side of a rule: that of the augmented rule is `$accept`
abbrev pub left_text : Sheet → ℕ → List ℕ
left_text sheet r =
    if nat_lt r (length sheet.grammar.rules) then symbol_text sheet (Name (rule_at sheet.grammar r).0) else codes "$accept"

-- symbols, each with a space before it
abbrev pub symbols_text : Sheet → List Sym → List ℕ
symbols_text sheet symbols = flat_map behind_space (map (symbol_text sheet) symbols)

-- a right side with the dot behind so many of its symbols
abbrev pub dotted_side : Sheet → List Sym → ℕ → List ℕ
dotted_side sheet right dot = symbols_text sheet (take dot right) ++ (codes " ." ++ symbols_text sheet (drop dot right))

-- a rule with a dot
abbrev pub dotted_rule : Sheet → ℕ → ℕ → List ℕ
dotted_rule sheet r dot = left_text sheet r ++ (codes " :" ++ dotted_side sheet (rule_at sheet.grammar r).1 dot)

-- a rule with a dot, a comma, and then lookaheads, each with a space before it
abbrev pub with_aheads : Sheet → ℕ → ℕ → List ℕ → List ℕ
with_aheads sheet r dot aheads = dotted_rule sheet r dot ++ (codes " ," ++ flat_map behind_space (map (token_text sheet) aheads))

abbrev pub item_text : Sheet → Item → List ℕ
item_text sheet item = with_aheads sheet item.rule item.dot (item.ahead ∷ [])

-- a line that begins with two spaces
abbrev pub indented : List ℕ → List ℕ
indented text = codes "  " ++ (text ++ codes "\n")

-- the line of the state and the token, and a line for each of the two items
abbrev pub conflict_text : Sheet → Conflict → List ℕ
conflict_text sheet conflict =
    codes "sheet fault 16: conflict in state "
    ++ (decimal conflict.state ++ (codes " on " ++ (token_text sheet conflict.token ++ (codes "\n" ++ (indented (item_text sheet conflict.first) ++ indented (item_text sheet conflict.second))))))
