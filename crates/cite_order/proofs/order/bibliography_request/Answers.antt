use Rattle.std.proofs.Common.{◌≡◌, map, ap, ◌∙◌}
use Rattle.std.specs.Option.{option_map}
use Rattle.rendering_locale.specs.CodeViews.{code_view}
use Rattle.rendering_locale.specs.Views.{locale_view}
use Rattle.cite_order.proofs.order.bibliography_request.Goals as goal

pub returns : goal.returns
returns c = λ i. record {
  style = c.new.ensures.style i;
  locale = (ap (option_map code_view) c.new.ensures.locale ∙ c.in_ok-language.ensures) i;
  locale_files = ap (map locale_view) c.new.ensures.files i;
}
