-- Styles.
use Rattle.std.specs.Prelude.{ℕ, Bool, false, List, Option, None, ℤ}
use Rattle.rendering_taxonomy.specs.Formats.{Changes}
use Rattle.rendering_locale.specs.Locales.{Locale}
use Rattle.rendering_style.specs.Options.{NameOptions, open_options}
use Rattle.rendering_style.specs.Nodes.{Node}
use Rattle.rendering_style.specs.Sorting.{SortKey}
use Rattle.rendering_taxonomy.specs.declared.page.PageRangeFormat.{PageRangeFormat}
use Rattle.rendering_taxonomy.specs.declared.page.PageRule.{PageRule}
use Rattle.rendering_taxonomy.specs.declared.style.StyleClass.{StyleClass}
use Rattle.rendering_taxonomy.specs.declared.style.StyleCategory.{StyleCategory}
use Rattle.rendering_taxonomy.specs.declared.style.Collapse.{Collapse}
use Rattle.rendering_taxonomy.specs.declared.style.DisambiguationRule.{DisambiguationRule}
use Rattle.rendering_taxonomy.specs.declared.style.DisambiguationRule.TheVariants as given_names
use Rattle.rendering_taxonomy.specs.declared.style.SubsequentAuthorSubstituteRule.{SubsequentAuthorSubstituteRule}
use Rattle.rendering_taxonomy.specs.declared.style.SecondFieldAlign.{SecondFieldAlign}

-- Nodes with how they look and what stands round them. What stands round them may be left open, which is not to be empty; the
-- delimiter stands between cites.
pub record Layout : Type 0 where
  pub nodes : List Node
  pub formatting : Changes
  pub prefix : Option (List ℕ)
  pub suffix : Option (List ℕ)
  pub delimiter : Option (List ℕ)

-- nodes under a name
pub record Macro : Type 0 where
  pub name : List ℕ
  pub nodes : List Node

-- how cites are printed, disambiguated, gathered and collapsed
pub record Citation : Type 0 where
  pub layout : Layout
  pub name_options : NameOptions
  pub add_names : Bool
  pub add_givenname : Bool
  pub givenname_rule : DisambiguationRule
  pub add_year_suffix : Bool
  pub collapse : Option Collapse
  pub cite_group_delimiter : Option (List ℕ)
  pub after_collapse_delimiter : Option (List ℕ)
  pub year_suffix_delimiter : Option (List ℕ)
  pub near_note_distance : ℕ
  pub first_chooses_too : Bool
  pub ibid_after_one : Bool
  pub same_entry_is_no_rival : Bool
  pub suffixes_by_number : Bool
  pub raises_names_first : Bool
  pub gathers_by_text : Bool
  pub locators_end_runs : Bool
  pub repeats_no_years : Bool

-- cites that are not disambiguated, not gathered and not collapsed
abbrev pub plain_citation : Layout → Citation
plain_citation l = record {
  layout = l;
  name_options = open_options;
  add_names = false;
  add_givenname = false;
  givenname_rule = given_names.ByCite;
  add_year_suffix = false;
  collapse = None;
  cite_group_delimiter = None;
  after_collapse_delimiter = None;
  year_suffix_delimiter = None;
  near_note_distance = 5;
  first_chooses_too = false;
  ibid_after_one = false;
  same_entry_is_no_rival = false;
  suffixes_by_number = false;
  raises_names_first = false;
  gathers_by_text = false;
  locators_end_runs = false;
  repeats_no_years = false;
}

-- how the items of a bibliography are printed
pub record Bibliography : Type 0 where
  pub layout : Layout
  pub name_options : NameOptions
  pub hanging_indent : Bool
  pub second_field_align : Option SecondFieldAlign
  pub line_spacing : ℤ
  pub entry_spacing : ℤ
  pub substitute : Option (List ℕ)
  pub substitute_rule : SubsequentAuthorSubstituteRule
  pub substitutes_names_alone : Bool

-- a style, or the parts that one is to be made of
pub record Style : Type 0 where
  pub class : StyleClass
  pub categories : List StyleCategory
  pub default_locale : Option (List ℕ)
  pub page_ranges : Option PageRangeFormat
  pub page_rule : PageRule
  pub name_options : NameOptions
  pub locales : List Locale
  pub macros : List Macro
  pub citation : Citation
  pub bibliography : Option Bibliography
  pub citation_sort : List SortKey
  pub bibliography_sort : List SortKey
