use Rattle.std.proofs.Common.{List, ℕ, refl, true, sym, ◌∙◌, ◌++◌, subst}
use Rattle.std.specs.Fmt.{WritesInCalls}
use Rattle.literature_values.specs.Initials.{initial, between}
use Rattle.literature_values.specs.PersonViews.{run_view, initials_style_view}
use Rattle.std.proofs.Output.{writes_in_calls_append}
use Rattle.laws.specs.Text.{text}
use Rattle.laws.proofs.Text.{text-append}
use Rattle.literature_values.proofs.person.write_further.Goals as goal

pub returns : goal.returns
returns g c = λ ok.
    let style = initials_style_view c.args.style in
    let next = run_view c.args.next in
    let first = c.in_ok-write_text.ensures (refl {a = true}) in
    let last = c.write_initial.ensures ok in
    subst (λ (t : List ℕ). WritesInCalls g.W.Write.write_str_gives c.args.writer.now t c.write_initial.new.writer)
    ((λ i. text (c.between.ensures i) ++ text (initial style next.name)) ∙ sym (text-append (between style next.is_hyphenated) (initial style next.name)))
    (writes_in_calls_append _ _ _ _ _ _ first last)
