use Rattle.std.proofs.Common.{◌≡◌, ◌++◌, codes, sym, ◌∙◌, rules}
use Rattle.fault_lines.specs.Views.{lines_view}
use Rattle.cite_csl.specs.Views.{cited_view}
use Rattle.cite_csl_styles.specs.Views.{source_view}
use Rattle.cite_csl.proofs.Naming.{means_nothing, name_said}
use Rattle.cite_csl.proofs.named.push_unknown.Goals as goal

pub returns-clause-lines : goal.returns-clause-lines
returns-clause-lines c =
    let why : c.as_str.result.now ≡ codes "unknown name " ++ c.args.name.now = search rules in
    name_said c.push_lines_left.result (source_view c.args.file) (cited_view c.args.works) c.args.name.now c.args.left (lines_view c.args.lines.now) (lines_view c.push_lines_left.new.lines) c.as_str.result.now
    (means_nothing _ c.meant.result _ c.meant.ensures (sym c.is_some.ensures ∙ c.if-is_some.false)) why c.push_lines_left.ensures.lines
