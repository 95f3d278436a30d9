use Rattle.std.proofs.Common.{None, ap, ◌∙◌}
use Rattle.std.specs.Prelude.{if◌then◌else◌}
use Rattle.std.specs.Option.{option_map}
use Rattle.laws.specs.Text.{characters}
use Rattle.rendering_style.specs.Views.{layout_view}
use Rattle.csl_styles.specs.SecondFields.{first_prefixed}
use Rattle.csl_styles.proofs.second_fields.align_first.Goals as goal

pub returns : goal.returns
returns c =
    let nodes = c.in_ok-prefix_first.ensures ∙ (λ i. first_prefixed (c.text_or_empty.ensures i) (c.in_ok-space_first.ensures i)) in
    let prefix = c.leave_prefix.ensures ∙ ap (λ b. if b then None else option_map characters c.args.layout.now.prefix) c.takes_prefix-is_taken.ensures in
    λ k. record (layout_view c.args.layout.now) { nodes = nodes k; prefix = prefix k }
