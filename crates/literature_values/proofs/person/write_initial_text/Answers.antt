use Rattle.std.proofs.Common.{List, ℕ, refl, true, sym, subst}
use Rattle.std.specs.Fmt.{WritesInCalls}
use Rattle.std.specs.Str.{chars}
use Rattle.std.proofs.Output.{writes_in_calls_append}
use Rattle.laws.proofs.Text.{text-append}
use Rattle.literature_values.specs.PersonViews.{initials_style_view}
use Rattle.literature_values.proofs.person.write_initial_text.Goals as goal

pub returns : goal.returns
returns g c = λ ok.
    let style = initials_style_view c.args.style in
    let first = c.in_ok-write_text.ensures (refl {a = true}) in
    let last = c.write_text-2.ensures ok in
    subst (λ (t : List ℕ). WritesInCalls g.W.Write.write_str_gives c.args.writer.now t c.write_text-2.new.writer)
    (sym (text-append (chars c.args.text.now) style.trimmed))
    (writes_in_calls_append _ _ _ _ _ _ first last)
