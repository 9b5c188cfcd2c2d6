-- The normal layout of a sheet reads as this sheet.
use Rattle.std.proofs.Common.{◌≢◌, ℕ, ◌≤◌, List, [], ◌∷◌, length, map, refl, ap, subst, ◌∙◌}
use Rattle.std.specs.Prelude.{All, Contains}
use Rattle.std.proofs.lemmas.List.Elements.{All-nil, All-cons}
use Rattle.sheet_data.specs.Sheet.{Sheet}
use Rattle.outline_data.specs.GroupParts.{GroupParts}
use Rattle.outline_data.specs.Parts.{OutlineParts}
use Rattle.lr_base.specs.declared.limits.TheConstants.{SHEET_BYTES}
use Rattle.outline_theory.specs.Spelling.{spelled_outline, IsShaped}
use Rattle.outline_theory.specs.Words.{texts, left_words}
use Rattle.outline_theory.specs.Numbering.{is_one_of, IsSheetOf}
use Rattle.outline_theory.specs.Layout.{layout}
use Rattle.outline_theory.specs.Reading.{IsFaultless, Reads}
use Rattle.layout_laws.proofs.WordLemmas.{AreBytes}
use Rattle.layout_laws.proofs.GoodLemmas.{AreGood, reading_good}
use Rattle.layout_laws.proofs.MemberLemmas.{no_member}
use Rattle.layout_laws.proofs.SideLemmas.{Side, group_of, groups_of}
use Rattle.layout_laws.proofs.FactLemmas.{decls_names, decls_sizes, decls_named, known_rule, tokens_once, tokens_named, all_fine}
use Rattle.layout_laws.proofs.SymbolLemmas.{IsSound}
use Rattle.layout_laws.proofs.LayoutLemmas.{LayoutRead, layout_read}
use Rattle.layout_laws.proofs.SameLemmas.{printed, names_same, same_sheet}
use Rattle.layout_laws.proofs.FaultlessLemmas.{no_fault}

sound_of : (o : OutlineParts) (sheet : Sheet) → IsFaultless o → AreGood (spelled_outline o) → IsSheetOf o sheet → IsSound o sheet
sound_of o sheet faultless good says = record {
  says = says;
  tokens = decls_names says.decls;
  size = decls_sizes o.declarations;
  declared = decls_named o.declarations;
  once = tokens_once o faultless;
  named = tokens_named o faultless good;
}

groups_shaped : (sides : List Side) → All (λ (g : GroupParts). g.alternatives ≢ []) (groups_of sides)
groups_shaped [] = All-nil (λ (g : GroupParts). g.alternatives ≢ [])
groups_shaped (side ∷ sides) = All-cons (λ (g : GroupParts). g.alternatives ≢ []) (group_of side) (groups_of sides) (λ e. (cc)) (groups_shaped sides)

module _ (o : OutlineParts) (shaped : IsShaped o) (sheet : Sheet) (sound : IsSound o sheet) (r : LayoutRead o sheet) where
  abbrev p : OutlineParts
  p = printed o shaped sheet sound r

  has_rules : p.groups ≢ []
  has_rules none =
      let word : List ℕ = r.start_of.word in
      let rule : Contains (texts (left_words p)) word = known_rule p word (ap (λ l. is_one_of l word) (names_same o shaped sheet sound r) ∙ r.start_of.one) in
      no_member word (subst (λ gs. Contains (texts (map (λ (g : GroupParts). g.left) gs)) word) none rule)

pub layout_reads : (bytes : List ℕ) (sheet : Sheet) → AreBytes bytes → Reads bytes sheet → length (layout sheet) ≤ SHEET_BYTES → Reads (layout sheet) sheet
layout_reads bytes sheet small reads size =
    let o : OutlineParts = reads.outline in
    let shaped : IsShaped o = reads.has.of.shaped in
    let good : AreGood (spelled_outline o) = subst AreGood reads.has.of.spelled (reading_good bytes small reads.has.of.read) in
    let sound : IsSound o sheet = sound_of o sheet reads.faultless good reads.says in
    let r : LayoutRead o sheet = layout_read o reads.faultless sheet sound good (all_fine o reads.faultless good sheet reads.says reads.within) in
    record {
      outline = p o shaped sheet sound r;
      has = record {
        size = size;
        of = record {
          lexemes = r.read.placed;
          to = length (layout sheet);
          read = r.read.read;
          spelled = r.read.keeps;
          shaped = groups_shaped r.sides;
          ended = refl;
        };
      };
      faultless = record { rules = has_rules o shaped sheet sound r; none = no_fault o shaped reads.faultless sheet sound r };
      says = same_sheet o shaped sheet sound r;
      within = reads.within;
    }
