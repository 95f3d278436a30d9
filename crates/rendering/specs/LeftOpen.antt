-- What styles that are no published ones print in prose and where years are collapsed is not changed by what published ones ask for.
use Rattle.std.specs.Prelude.{◌≡◌, ℕ, List, Some}
use Rattle.rendering_context.specs.Contexts.{Context}
use Rattle.rendering_leaves.specs.NodeSettings.{SpecialForm, author_only, without_author, first_date_only, State}
use Rattle.rendering_style.specs.Styles.{Style}
use Rattle.rendering.specs.Purposes.{author_form, author_variable, append_between, append_enclosed, form_of, rest_form}
use Rattle.rendering_taxonomy.specs.declared.cite.CollapseVerdict.TheVariants as verdicts
use Rattle.rendering_taxonomy.specs.declared.page.PageRule.TheVariants as rules

-- The authors have the affixes of nodes round them, all but the names of authors is printed after them, texts stand round it as they are
-- written, and the first date alone is left of later cites whose years are collapsed.
pub record EnclosesAsWritten (s : Style) : Type 0 where
  pub authors : (c : Context) → author_form s c ≡ author_only (author_variable c)
  pub rest : (c : Context) → rest_form s c ≡ without_author
  pub later : (c : Context) → form_of s c (Some verdicts.First) ≡ first_date_only
  pub between : (c : Context) (form : SpecialForm) (prefix suffix : List ℕ) (st : State) → append_between s c form prefix suffix st ≡ append_enclosed s c form prefix suffix st

-- so it is in each style whose texts are not joined
abbrev pub StylesEncloseAsWritten : Type 0
StylesEncloseAsWritten = (s : Style) → s.page_rule ≡ rules.AsWritten → EnclosesAsWritten s
