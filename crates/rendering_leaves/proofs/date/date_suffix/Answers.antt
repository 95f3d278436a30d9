use Rattle.std.proofs.Common.{[], ◌||◌, sym, ◌∙◌}
use Rattle.std.specs.Prelude.{if◌then◌else◌}
use Rattle.rendering_context.specs.Views.{context_view}
use Rattle.rendering_leaves.specs.Values.{own_year_suffix}
use Rattle.rendering_leaves.proofs.date.date_suffix.Goals as goal

pub returns-else-has_date : goal.returns-else-has_date
returns-else-has_date c = λ a.
    let neither = c.if-has_date.false in
    c.own_year_suffix.ensures a
    ∙ (λ i. if sym neither.0 i || sym neither.1 i then [] else own_year_suffix (context_view a c.args.context.now))
