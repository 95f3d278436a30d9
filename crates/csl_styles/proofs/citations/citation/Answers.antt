use Rattle.std.proofs.Common.{true}
use Rattle.csl_styles.proofs.citations.citation.Goals as goal

pub returns : goal.returns
returns c = λ j. record {
  layout = c.in_ok-layout.ensures j;
  name_options = c.in_ok-name_options.ensures j;
  add_names = c.is_true.ensures j;
  add_givenname = c.is_true-2.ensures j;
  givenname_rule = c.givenname_rule.ensures j;
  add_year_suffix = c.is_true-3.ensures j;
  collapse = c.collapse.ensures j;
  cite_group_delimiter = c.in_ok-cite_group_delimiter.ensures j;
  after_collapse_delimiter = c.in_ok-after_collapse_delimiter.ensures j;
  year_suffix_delimiter = c.in_ok-year_suffix_delimiter.ensures j;
  near_note_distance = c.near_note_distance.ensures j;
  first_chooses_too = true;
  ibid_after_one = true;
  same_entry_is_no_rival = true;
  suffixes_by_number = true;
  raises_names_first = c.raises_names_first.ensures j;
  gathers_by_text = true;
  locators_end_runs = c.args.prints_locators;
  repeats_no_years = true;
}
