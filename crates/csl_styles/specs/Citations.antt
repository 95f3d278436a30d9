-- What a `citation` means.
use Rattle.std.specs.Prelude.{ℕ, Bool, true, false, not, ◌&&◌, List, codes, if◌then◌else◌, Option, Some, None, unwrap_or}
use Rattle.std.specs.Option.{option_or}
use Rattle.xml_tree.specs.Trees.{Element}
use Rattle.rendering_taxonomy.specs.declared.style.Collapse.{Collapse}
use Rattle.rendering_taxonomy.specs.declared.style.Collapse.TheVariants.{CitationNumber, Year, YearSuffix, YearSuffixRanged}
use Rattle.rendering_taxonomy.specs.declared.style.DisambiguationRule.{DisambiguationRule}
use Rattle.rendering_taxonomy.specs.declared.style.DisambiguationRule.TheVariants.{ByCite, AllNames, AllNamesWithInitials, PrimaryName, PrimaryNameWithInitials}
use Rattle.rendering_style.specs.Styles.{Citation}
use Rattle.csl_words.specs.Looking.{table, value_by, is_true, number}
use Rattle.csl_words.specs.Printing.{printed}
use Rattle.csl_words.specs.declared.options.TheConstants.{GIVEN_NAME_RULES, COLLAPSES}
use Rattle.csl_nodes.specs.Options.{name_options}
use Rattle.csl_styles.specs.Layouts.{layout_in}

-- given names are added to disambiguate cites alone
abbrev pub is_by_cite : DisambiguationRule → Bool
is_by_cite ByCite = true
is_by_cite AllNames = false
is_by_cite AllNamesWithInitials = false
is_by_cite PrimaryName = false
is_by_cite PrimaryNameWithInitials = false

-- the rule by which given names are added
abbrev pub givenname_rule : Element → DisambiguationRule
givenname_rule e = unwrap_or (value_by (table GIVEN_NAME_RULES.now) (codes "givenname-disambiguation-rule") e) ByCite

-- Given names are added to names, and not to cites alone: so before cites are compared.
abbrev pub raises_names_first : Element → Bool
raises_names_first e = is_true (codes "disambiguate-add-givenname") e && not (is_by_cite (givenname_rule e))

-- how cites are collapsed
abbrev pub collapse : Element → Option Collapse
collapse e = value_by (table COLLAPSES.now) (codes "collapse") e

-- cites are collapsed by their years
abbrev pub is_by_year : Option Collapse → Bool
is_by_year None = false
is_by_year (Some CitationNumber) = false
is_by_year (Some Year) = true
is_by_year (Some YearSuffix) = true
is_by_year (Some YearSuffixRanged) = true

-- the text between cites of a group that are collapsed so, where a style says none
abbrev pub usual_delimiter : Option Collapse → Option (List ℕ)
usual_delimiter c = if is_by_year c then Some (codes ", ") else None

-- the text between cites of a group
abbrev pub group_delimiter : Element → Option (List ℕ)
group_delimiter e = option_or (printed (codes "cite-group-delimiter") e) (usual_delimiter (collapse e))

-- up to how many notes back a note is near
abbrev pub near_note_distance : Element → ℕ
near_note_distance e = unwrap_or (number (codes "near-note-distance") e) 5

-- A citation. Of its last members all but `raises_names_first` and `locators_end_runs` are what CSL says of every style: the
-- first of alike cites takes the branch for alike ones too; ibid repeats a citation of one cite alone; names are compared with
-- those of other entries; year suffixes go by the numbers of entries; cites are gathered by what their names print; years that
-- repeat are left out. Locators end runs of numbers where the style prints any.
abbrev pub citation : List (List ℕ) → Bool → Element → Citation
citation words prints_locators e = record {
  layout = layout_in words e;
  name_options = name_options (codes "name-form") (codes "name-delimiter") e;
  add_names = is_true (codes "disambiguate-add-names") e;
  add_givenname = is_true (codes "disambiguate-add-givenname") e;
  givenname_rule = givenname_rule e;
  add_year_suffix = is_true (codes "disambiguate-add-year-suffix") e;
  collapse = collapse e;
  cite_group_delimiter = group_delimiter e;
  after_collapse_delimiter = printed (codes "after-collapse-delimiter") e;
  year_suffix_delimiter = printed (codes "year-suffix-delimiter") e;
  near_note_distance = near_note_distance e;
  first_chooses_too = true;
  ibid_after_one = true;
  same_entry_is_no_rival = true;
  suffixes_by_number = true;
  raises_names_first = raises_names_first e;
  gathers_by_text = true;
  locators_end_runs = prints_locators;
  repeats_no_years = true;
}
