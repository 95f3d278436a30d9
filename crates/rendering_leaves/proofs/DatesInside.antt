-- What a date node prints where more than the year suffix is wanted.
use Rattle.std.proofs.Common.{◌≡◌, ℕ, Bool, List, Option, Some, None, refl}
use Rattle.literature_values.specs.declared.date.Date.{Date}
use Rattle.rendering_context.specs.Contexts.{Context}
use Rattle.rendering_dates.specs.Dates.{cut_to, date_pieces}
use Rattle.rendering_leaves.specs.Parts.{day_in}
use Rattle.rendering_leaves.specs.NodeSettings.{NodeSetting}
use Rattle.rendering_leaves.specs.Values.{date_inside, date_suffix, day_pieces, shape_of}
use Rattle.rendering_leaves.specs.Views.{form_view}
use Rattle.rendering_leaves.specs.declared.node_setting.SpecialForm.{SpecialForm}
use Rattle.rendering_leaves.specs.declared.node_setting.SpecialForm.TheVariants as forms
use Rattle.rendering_page.specs.Pages.{Manner}
use Rattle.rendering_style.specs.Nodes.{DateNode}

-- the parts of the date
pub inside-parts : (c : Context) (m : Manner) (form : SpecialForm) (d : DateNode) (year_suffix : List ℕ) (day : Date) → (form ≡ forms.SuffixOnly → ⊥)
    → date_inside c m (form_view form) d year_suffix day ≡ date_pieces c.locales m (cut_to d.parts (shape_of c d)) year_suffix day
inside-parts c m forms.Whole d year_suffix day other = refl
inside-parts c m (forms.AuthorOnly v) d year_suffix day other = refl
inside-parts c m forms.WithoutAuthor d year_suffix day other = refl
inside-parts c m forms.FirstDateOnly d year_suffix day other = refl
inside-parts c m forms.SuffixOnly d year_suffix day other = absurd (other refl)
inside-parts c m (forms.AuthorsAlone v) d year_suffix day other = refl
inside-parts c m (forms.WithoutNames v) d year_suffix day other = refl

-- the year suffix of the first date
pub day-year_suffix : (c : Context) (s : NodeSetting) (d : DateNode) (has_date : Bool) (day : Option Date) → day_in c s d (date_suffix c has_date) day ≡ day_pieces c s has_date d day
day-year_suffix c s d has_date None = refl
day-year_suffix c s d has_date (Some day) = refl
