use Rattle.std.proofs.Common.{sym, ◌∙◌}
use Rattle.std.specs.Cow.{cow_value}
use Rattle.laws.proofs.Equality.{Shows-options}
use Rattle.literature_values.proofs.Equality.{Shows-ChunkedString}
use Rattle.literature_values.specs.contracts.text.ChunkedStringPartialEq.TheImpl as chunked_string
use Rattle.rendering_entries.specs.Views.{lent_text_view}
use Rattle.rendering_alike.proofs.equal.are_one_text.Goals as goal

pub returns : goal.returns
returns c =
    let d =
    Shows-options (λ x y. chunked_string.ghosts.eq (cow_value x) (cow_value y)) lent_text_view (λ x y. Shows-ChunkedString (cow_value x) (cow_value y)) c.args.one.now c.args.other.now in
    (λ h. d.0 (sym c.eq.ensures ∙ h), λ e. c.eq.ensures ∙ d.1 e)
