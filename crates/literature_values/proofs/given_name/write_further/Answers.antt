use Rattle.std.proofs.Common.{List, ℕ, refl, true, sym, ◌∙◌, ◌++◌, subst}
use Rattle.std.specs.Fmt.{WritesInCalls}
use Rattle.std.proofs.Output.{writes_in_calls_append}
use Rattle.laws.specs.Text.{text}
use Rattle.laws.proofs.Text.{text-append}
use Rattle.literature_values.specs.GivenNames.{between_shown, shown_text}
use Rattle.literature_values.specs.PersonViews.{initials_style_view, shown_view}
use Rattle.literature_values.proofs.given_name.write_further.Goals as goal

pub returns : goal.returns
returns g c = λ ok.
    let style = initials_style_view c.args.style in
    let last = shown_view c.args.last in
    let next = shown_view c.args.next in
    let before = c.in_ok-write_text.ensures (refl {a = true}) in
    let after = c.write_shown.ensures ok in
    subst (λ (t : List ℕ). WritesInCalls g.W.Write.write_str_gives c.args.writer.now t c.write_shown.new.writer)
    ((λ i. text (c.between_shown.ensures i) ++ text (shown_text style next)) ∙ sym (text-append (between_shown style last next) (shown_text style next)))
    (writes_in_calls_append _ _ _ _ _ _ before after)
