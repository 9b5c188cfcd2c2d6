-- Words of a line.
use Rattle.std.specs.Prelude.{ℕ, List, [], ◌∷◌, ◌++◌, map, codes}
use Rattle.std.specs.List.{flat_map}
use Rattle.grammar_data.specs.Grammar.{Rule}
use Rattle.grammar_data.specs.declared.rule.Sym.TheVariants.{Name}
use Rattle.sheet_data.specs.Sheet.{Sheet}
use Rattle.sheet_data.specs.declared.parts.Part.{Part}
use Rattle.outline_theory.specs.Layout.{symbol_text, part_text, mark_words}

-- a word, and the space behind it
abbrev pub spaced : List ℕ → List ℕ
spaced word = word ++ 32 ∷ []

-- the last word of a line, and its line feed
abbrev pub ended : List ℕ → List ℕ
ended word = word ++ 10 ∷ []

-- the line of a rule, as it is put together: up to its template, and from there on
abbrev pub head_text : Sheet → Rule → List ℕ
head_text sheet rule =
    spaced (symbol_text sheet (Name rule.0)) ++ (spaced (codes ":") ++ (flat_map spaced (map (symbol_text sheet) rule.1) ++ spaced (codes "{")))

abbrev pub tail_text : List Part → List ℕ → List ℕ
tail_text template declares =
    flat_map spaced (map part_text template) ++ (spaced (codes "}") ++ (flat_map spaced (flat_map mark_words declares) ++ ended (codes ";")))

abbrev pub rule_text : Sheet → Rule → List Part → List ℕ → List ℕ
rule_text sheet rule template declares = head_text sheet rule ++ tail_text template declares
