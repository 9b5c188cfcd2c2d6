-- The lines of a layout, word by word and rule by rule.
use Rattle.std.proofs.Common.{◌≡◌, ℕ, zero, suc, ◌+◌, ◌<◌, ◌≤◌, List, [], ◌∷◌, ◌++◌, length, map, get_or, refl, sym, ap, ◌∙◌, arith}
use Rattle.std.specs.Prelude.{slice_get, Some, codes, Result, Ok, Err, OnOk, take}
use Rattle.std.specs.List.{flat_map}
use Rattle.std.proofs.lemmas.Grind.{flat_map-append}
use Rattle.std.proofs.lemmas.List.{append_assoc, append-nil, take_more, take_all}
use Rattle.std.proofs.lemmas.Option.{none-some, same_Some, slice_get-get_or}
use Rattle.grammar_data.specs.Grammar.{Rule}
use Rattle.sheet_data.specs.Sheet.{Sheet}
use Rattle.sheet_data.specs.declared.parts.Part.{Part}
use Rattle.outline_theory.specs.Layout.{line_text, symbol_text, part_text, mark_words, rule_words, rule_lines, decl_words, layout}
use Rattle.grammar_data.specs.declared.rule.Sym.TheVariants.{Name}
use Rattle.sheet_reader.specs.Printing.{spaced, ended, tail_text, rule_text}

-- words before a word that isn't the last, or that is
line_behind : (words : List (List ℕ)) (word : List ℕ) (more : List (List ℕ)) → line_text (words ++ word ∷ more) ≡ flat_map spaced words ++ line_text (word ∷ more)
line_behind [] word more = refl
line_behind (first ∷ []) word more =
    sym (append_assoc first (32 ∷ []) (line_text (word ∷ more))) ∙ ap (λ l. l ++ line_text (word ∷ more)) (sym (append-nil (spaced first)))
line_behind (first ∷ second ∷ words) word more =
    ap (λ l. first ++ 32 ∷ l) (line_behind (second ∷ words) word more) ∙ sym (append_assoc first (32 ∷ []) (flat_map spaced (second ∷ words) ++ line_text (word ∷ more))) ∙ sym (append_assoc (spaced first) (flat_map spaced (second ∷ words)) (line_text (word ∷ more)))

joined : (a b c d e : List ℕ) → a ++ (b ++ (c ++ (d ++ e))) ≡ (a ++ (b ++ (c ++ d))) ++ e
joined a b c d e =
    ap (λ l. a ++ l) (ap (λ l. b ++ l) (sym (append_assoc c d e)) ∙ sym (append_assoc b (c ++ d) e)) ∙ sym (append_assoc a (b ++ (c ++ d)) e)

pub rule_line : (sheet : Sheet) (rule : Rule) (template : List Part) (declares : List ℕ) → line_text (rule_words sheet rule template declares) ≡ rule_text sheet rule template declares
rule_line sheet rule template declares =
    let left = symbol_text sheet (Name rule.0) in
    let rights = map (symbol_text sheet) rule.1 in
    let parts = map part_text template in
    let marks = flat_map mark_words declares in
    let end : line_text (codes "}" ∷ (marks ++ codes ";" ∷ [])) ≡ flat_map spaced (codes "}" ∷ marks) ++ ended (codes ";") = line_behind (codes "}" ∷ marks) (codes ";") [] in
    let middle : line_text (codes "{" ∷ (parts ++ codes "}" ∷ (marks ++ codes ";" ∷ []))) ≡ flat_map spaced (codes "{" ∷ parts) ++ line_text (codes "}" ∷ (marks ++ codes ";" ∷ [])) = line_behind (codes "{" ∷ parts) (codes "}") (marks ++ codes ";" ∷ []) in
    let first : line_text (rule_words sheet rule template declares) ≡ flat_map spaced (left ∷ codes ":" ∷ rights) ++ line_text (codes "{" ∷ (parts ++ codes "}" ∷ (marks ++ codes ";" ∷ []))) = line_behind (left ∷ codes ":" ∷ rights) (codes "{") (parts ++ codes "}" ∷ (marks ++ codes ";" ∷ [])) in
    first ∙ ap (λ l. flat_map spaced (left ∷ codes ":" ∷ rights) ++ l) (middle ∙ ap (λ l. flat_map spaced (codes "{" ∷ parts) ++ l) (end ∙ append_assoc (spaced (codes "}")) (flat_map spaced marks) (ended (codes ";"))) ∙ append_assoc (spaced (codes "{")) (flat_map spaced parts) _) ∙ append_assoc (spaced left) (spaced (codes ":") ++ flat_map spaced rights) _ ∙ ap (λ l. spaced left ++ l) (append_assoc (spaced (codes ":")) (flat_map spaced rights) _) ∙ joined (spaced left) (spaced (codes ":")) (flat_map spaced rights) (spaced (codes "{")) (tail_text template declares)

-- the line of the rule at a place
pub rule_at : (sheet : Sheet) (rules : List Rule) (templates : List (List Part)) (declares : List (List ℕ)) (i : ℕ) (rule : Rule) (template : List Part) (marks : List ℕ) → slice_get rules i ≡ Some rule → slice_get templates i ≡ Some template → slice_get declares i ≡ Some marks
    → slice_get (rule_lines sheet rules templates declares) i ≡ Some (rule_words sheet rule template marks)
rule_at sheet [] templates declares i rule template marks r t d = absurd (none-some rule r)
rule_at sheet (x ∷ rules) [] declares i rule template marks r t d = absurd (none-some template t)
rule_at sheet (x ∷ rules) (y ∷ templates) [] i rule template marks r t d = absurd (none-some marks d)
rule_at sheet (x ∷ rules) (y ∷ templates) (z ∷ declares) zero rule template marks r t d =
    let rr : x ≡ rule = same_Some x rule r in
    let tt : y ≡ template = same_Some y template t in
    let dd : z ≡ marks = same_Some z marks d in
    ap (λ w. Some (rule_words sheet w y z)) rr ∙ ap (λ w. Some (rule_words sheet rule w z)) tt ∙ ap (λ w. Some (rule_words sheet rule template w)) dd
rule_at sheet (x ∷ rules) (y ∷ templates) (z ∷ declares) (suc i) rule template marks r t d = rule_at sheet rules templates declares i rule template marks r t d

pub count_lines : (sheet : Sheet) (rules : List Rule) (templates : List (List Part)) (declares : List (List ℕ)) → length templates ≡ length rules → length declares ≡ length rules → length (rule_lines sheet rules templates declares) ≡ length rules
count_lines sheet [] templates declares t d = refl
count_lines sheet (x ∷ rules) [] declares t d = absurd (omega (arith, t))
count_lines sheet (x ∷ rules) (y ∷ templates) [] t d = absurd (omega (arith, d))
count_lines sheet (x ∷ rules) (y ∷ templates) (z ∷ declares) t d = ap suc (count_lines sheet rules templates declares (omega (arith, t)) (omega (arith, d)))

-- a rule's line behind others
pub rule_pushed : {E : Type 0} (r : Result (Unit {0}) E) (sheet : Sheet) (old new : List ℕ) (i : ℕ) (rule : Rule) (template : List Part) (marks : List ℕ) → slice_get sheet.grammar.rules i ≡ Some rule → slice_get sheet.templates i ≡ Some template → slice_get sheet.declares i ≡ Some marks
    → OnOk r (new ≡ old ++ rule_text sheet rule template marks) → OnOk r ((words : List (List ℕ)) → slice_get (rule_lines sheet sheet.grammar.rules sheet.templates sheet.declares) i ≡ Some words → new ≡ old ++ line_text words)
rule_pushed (Err e) sheet old new i rule template marks r t d pushed = tt
rule_pushed (Ok u) sheet old new i rule template marks r t d pushed =
    λ words at. let same : rule_words sheet rule template marks ≡ words = same_Some (rule_words sheet rule template marks) words (sym (rule_at sheet sheet.grammar.rules sheet.templates sheet.declares i rule template marks r t d) ∙ at) in pushed ∙ ap (λ l. old ++ l) (sym (rule_line sheet rule template marks) ∙ ap line_text same)

-- one line more, and all of them
pub line_at : (lines : List (List (List ℕ))) (old new before : List ℕ) (i : ℕ) → i < length lines → before ≡ old ++ flat_map line_text (take i lines) → ((words : List (List ℕ)) → slice_get lines i ≡ Some words → new ≡ before ++ line_text words) → new ≡ old ++ flat_map line_text (take (i + 1) lines)
line_at lines old new before i within so_far pushed =
    let words = get_or lines i [] in
    pushed words (slice_get-get_or lines i [] within) ∙ ap (λ l. l ++ line_text words) so_far ∙ append_assoc old (flat_map line_text (take i lines)) (line_text words) ∙ ap (λ l. old ++ l) (sym (ap (flat_map line_text) (take_more lines i [] within) ∙ flat_map-append line_text (take i lines) (words ∷ []) ∙ ap (λ l. flat_map line_text (take i lines) ++ l) (append-nil (line_text words))))

pub all_lines : (lines : List (List (List ℕ))) (old new : List ℕ) (i : ℕ) → length lines ≤ i → new ≡ old ++ flat_map line_text (take i lines) → new ≡ old ++ flat_map line_text lines
all_lines lines old new i over so_far = so_far ∙ ap (λ l. old ++ flat_map line_text l) (take_all i lines over)

-- the lines of the declarations, the start, the mark and the rules
pub layout_made : (sheet : Sheet) (decls start mark rules : List ℕ) → decls ≡ flat_map line_text (map decl_words sheet.decls) → start ≡ (decls ++ spaced (codes "%start")) ++ ended (symbol_text sheet (Name sheet.grammar.start)) → mark ≡ start ++ ended (codes "%%")
    → rules ≡ mark ++ flat_map line_text (rule_lines sheet sheet.grammar.rules sheet.templates sheet.declares) → rules ≡ layout sheet
unfolding layout
layout_made sheet decls start mark rules d s m r =
    let name = symbol_text sheet (Name sheet.grammar.start) in
    let more = flat_map line_text (rule_lines sheet sheet.grammar.rules sheet.templates sheet.declares) in
    let first : start ≡ decls ++ line_text (codes "%start" ∷ name ∷ []) = s ∙ append_assoc decls (spaced (codes "%start")) (ended name) in
    let second : mark ≡ decls ++ (line_text (codes "%start" ∷ name ∷ []) ++ line_text (codes "%%" ∷ [])) = m ∙ ap (λ l. l ++ ended (codes "%%")) first ∙ append_assoc decls (line_text (codes "%start" ∷ name ∷ [])) (ended (codes "%%")) in
    let third : rules ≡ decls ++ (line_text (codes "%start" ∷ name ∷ []) ++ (line_text (codes "%%" ∷ []) ++ more)) =
    r ∙ ap (λ l. l ++ more) second ∙ append_assoc decls (line_text (codes "%start" ∷ name ∷ []) ++ line_text (codes "%%" ∷ [])) more ∙ ap (λ l. decls ++ l) (append_assoc (line_text (codes "%start" ∷ name ∷ [])) (line_text (codes "%%" ∷ [])) more) in
    third ∙ ap (λ l. l ++ (line_text (codes "%start" ∷ name ∷ []) ++ (line_text (codes "%%" ∷ []) ++ more))) d ∙ sym (flat_map-append line_text (map decl_words sheet.decls) ((codes "%start" ∷ name ∷ []) ∷ (codes "%%" ∷ []) ∷ rule_lines sheet sheet.grammar.rules sheet.templates sheet.declares))
