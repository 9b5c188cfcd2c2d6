-- What the kids of a node that shows a tree give.
use Rattle.std.proofs.Common.{◌≡◌, ℕ, zero, suc, ◌-◌, ◌<◌, List, [], get_or, length, Contains, Some, refl, sym, ◌∙◌, subst, arith}
use Rattle.std.proofs.lemmas.Option.{unwrap_or-slice_get}
use Rattle.grammar_data.specs.declared.token.Token.{Token as TextToken}
use Rattle.grammar_theory.specs.Trees.{Tree, Forest}
use Rattle.node_data.specs.declared.kid.Kid.{Kid}
use Rattle.node_data.specs.declared.kid.Kid.TheVariants.{Token, Node as NodeKid, Hidden}
use Rattle.node_store.specs.Chunks.{store_of}
use Rattle.translation_theory.specs.TokenTexts.{bytes_of}
use Rattle.translation_theory.specs.Translations.{at_place, kid_bytes, leaf_bytes, template_in, translation_by, translations_by}
use Rattle.tree_theory.specs.Stores.{Ref, Shows, shows_token, shows_hidden, shows_node, ShowsAll, shows_none, shows_more}
use Rattle.templates.specs.Sources.{Source, HasRules, HaveRules, HasTemplate, AreKids, all_given, kid_at, token_bytes}

nothing_supplied : {n : Ref} {trees : List Tree} → Contains {X = Ref × List Tree} [] (n, trees) → ⊥
nothing_supplied (k, inside, at) = omega (arith, inside)

-- the template of a node's rule gives the bytes
pub record NodeGives (source : Source) (node : Ref) (bytes : List ℕ) : Type 0 where
  pub rule : ℕ
  pub kids : List Kid
  pub trees : Forest
  pub at : store_of source.chunks node ≡ Some (rule, kids)
  pub known : rule < length source.sheet.grammar.rules
  pub shown : ShowsAll (store_of source.chunks) [] node 0 kids trees
  pub rules : HaveRules source.sheet trees
  pub is : bytes ≡ all_given source trees (template_in source.sheet rule)

-- a kid's translation, and the bytes of a kid that is a token
abbrev pub KidGives : Source → Kid → List ℕ → List ℕ → Type 0
KidGives source (Token token) translation bytes = (translation ≡ bytes_of source.text token) × (bytes ≡ bytes_of source.text token)
KidGives source (NodeKid node) translation bytes = NodeGives source node translation × (bytes ≡ [])
KidGives source Hidden translation bytes = (translation ≡ []) × (bytes ≡ [])

abbrev pub translation_in : Source → Tree → List ℕ
translation_in source tree = translation_by source.sheet source.text source.names tree

abbrev pub translations_in : Source → Forest → List (List ℕ)
translations_in source trees = translations_by source.sheet source.text source.names trees

pub one_kid : (source : Source) {n : Ref} {i : ℕ} {kid : Kid} {tree : Tree} → Shows (store_of source.chunks) [] n i kid tree → HasRules source.sheet tree → KidGives source kid (translation_in source tree) (leaf_bytes source.text tree)
one_kid source shows_token rules = (refl, refl)
one_kid source (shows_hidden trees has at) rules = absurd (nothing_supplied has)
one_kid source (shows_node {r = r} {trees = trees} kids at shown) rules = (record { rule = r; kids = kids; trees = trees; at = at; known = rules.0; shown = shown; rules = rules.1; is = refl }, refl)

pub each_kid : (source : Source) {n : Ref} {i : ℕ} {kids : List Kid} {trees : Forest} → ShowsAll (store_of source.chunks) [] n i kids trees → HaveRules source.sheet trees → (k : ℕ) → KidGives source (get_or kids k Hidden) (get_or (translations_in source trees) k []) (get_or (kid_bytes source.text trees) k [])
each_kid source shows_none rules zero = (refl, refl)
each_kid source shows_none rules (suc k) = (refl, refl)
each_kid source (shows_more one shown) rules zero = one_kid source one rules.0
each_kid source (shows_more one shown) rules (suc k) = each_kid source shown rules.1 k

pub kid_gives : (source : Source) {kids : List Kid} {trees : Forest} → AreKids source kids trees → (place : ℕ) → KidGives source (kid_at kids place) (at_place (translations_in source trees) place) (at_place (kid_bytes source.text trees) place)
kid_gives source {kids} {trees} are place =
    subst (λ kid. KidGives source kid (get_or (translations_in source trees) (place - 1) []) (get_or (kid_bytes source.text trees) (place - 1) [])) (sym (unwrap_or-slice_get kids (place - 1) Hidden)) (each_kid source are.shown are.rules (place - 1))

-- the bytes of a kid that is a token
pub kid_bytes_at : (source : Source) {kids : List Kid} {trees : Forest} → AreKids source kids trees → (place : ℕ) → token_bytes source.text (kid_at kids place) ≡ at_place (kid_bytes source.text trees) place
kid_bytes_at source {kids} {trees} are place = by_kid (kid_at kids place) _ _ (kid_gives source are place)
  where
    by_kid : (kid : Kid) (translation bytes : List ℕ) → KidGives source kid translation bytes → token_bytes source.text kid ≡ bytes
    by_kid (Token token) translation bytes gives = sym gives.1
    by_kid (NodeKid node) translation bytes gives = sym gives.1
    by_kid Hidden translation bytes gives = sym gives.1

-- ---- by what a kid is

pub node_there : {source : Source} {node : Ref} {bytes : List ℕ} → NodeGives source node bytes → HasTemplate source node
node_there gives = record { rule = gives.rule; kids = gives.kids; at = gives.at; known = gives.known }

pub kid_is_token : (source : Source) {kids : List Kid} {trees : Forest} → AreKids source kids trees → (place : ℕ) (kid : Kid) (token : TextToken) → kid ≡ kid_at kids place → kid ≡ Token token → at_place (translations_in source trees) place ≡ bytes_of source.text token
kid_is_token source {kids} {trees} are place kid token at is =
    (subst (λ kid. KidGives source kid (at_place (translations_in source trees) place) (at_place (kid_bytes source.text trees) place)) (sym at ∙ is) (kid_gives source are place)).0

pub kid_is_node : (source : Source) {kids : List Kid} {trees : Forest} → AreKids source kids trees → (place : ℕ) (kid : Kid) (node : Ref) → kid ≡ kid_at kids place → kid ≡ NodeKid node → NodeGives source node (at_place (translations_in source trees) place)
kid_is_node source {kids} {trees} are place kid node at is =
    (subst (λ kid. KidGives source kid (at_place (translations_in source trees) place) (at_place (kid_bytes source.text trees) place)) (sym at ∙ is) (kid_gives source are place)).0

pub kid_is_hidden : (source : Source) {kids : List Kid} {trees : Forest} → AreKids source kids trees → (place : ℕ) (kid : Kid) → kid ≡ kid_at kids place → kid ≡ Hidden → at_place (translations_in source trees) place ≡ []
kid_is_hidden source {kids} {trees} are place kid at is =
    (subst (λ kid. KidGives source kid (at_place (translations_in source trees) place) (at_place (kid_bytes source.text trees) place)) (sym at ∙ is) (kid_gives source are place)).0
