-- The code's values without where they lie in memory.
use Rattle.std.specs.Option.{option_map}
use Rattle.laws.specs.Text.{spelled}
use Rattle.rendering_names.specs.Views.{names_around_view, names_parts_view}
use Rattle.rendering_page.specs.Views.{manner_view}
use Rattle.rendering_leaves.specs.NodeSettings as settings
use Rattle.rendering_leaves.specs.declared.node_setting.SpecialForm.{SpecialForm}
use Rattle.rendering_leaves.specs.declared.node_setting.SpecialForm.TheVariants as forms
use Rattle.rendering_leaves.specs.declared.node_setting.NodeSetting.{NodeSetting}

-- what is printed of a layout
abbrev pub form_view : SpecialForm → settings.SpecialForm
form_view forms.Whole = settings.whole
form_view (forms.AuthorOnly v) = settings.author_only v
form_view forms.WithoutAuthor = settings.without_author
form_view forms.FirstDateOnly = settings.first_date_only
form_view forms.SuffixOnly = settings.suffix_only
form_view (forms.AuthorsAlone v) = settings.authors_alone v
form_view (forms.WithoutNames v) = settings.without_names v

-- what is handed down
abbrev pub setting_view : NodeSetting → settings.NodeSetting
setting_view s = record {
  manner = manner_view s.manner;
  inside_quotes = s.inside_quotes;
  delimiter = option_map spelled s.delimiter;
  options = names_around_view s.options;
  in_substitute = s.in_substitute;
  form = form_view s.form;
  outer_names = option_map names_parts_view s.outer_names;
}
