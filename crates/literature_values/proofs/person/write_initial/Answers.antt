use Rattle.std.proofs.Common.{List, ℕ, ◌++◌, subst}
use Rattle.std.specs.Fmt.{WritesInCalls}
use Rattle.laws.specs.Text.{text}
use Rattle.literature_values.specs.PersonViews.{initials_style_view}
use Rattle.literature_values.proofs.person.write_initial.Goals as goal

pub returns : goal.returns
returns g c = λ ok.
    let style = initials_style_view c.args.style in
    subst (λ (cs : List ℕ). WritesInCalls g.W.Write.write_str_gives c.args.writer.now (text (cs ++ style.trimmed)) c.write_initial_text.new.writer)
    c.first_cluster.ensures (c.write_initial_text.ensures ok)
