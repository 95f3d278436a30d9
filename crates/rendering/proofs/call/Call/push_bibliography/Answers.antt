use Rattle.std.proofs.Common.{ap, ◌∙◌}
use Rattle.rendering_style.specs.Options.{options_over}
use Rattle.rendering_style.specs.Styles.{Style}
use Rattle.rendering_style.specs.Views.{options_view}
use Rattle.rendering.proofs.call.Call.push_bibliography.Goals as goal

pub returns : goal.returns
returns g c =
    let own = options_view c.args.bibliography.now.name_options in
    c.push_layout.ensures own (c.layout_options-options.ensures ∙ ap (λ (s : Style). options_over own s.name_options) c.parts.ensures.style)
