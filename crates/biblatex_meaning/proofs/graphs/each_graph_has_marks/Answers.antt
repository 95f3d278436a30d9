use Rattle.biblatex_meaning.proofs.Flags.{marks_of, marks_long, marks_exact}
use Rattle.biblatex_meaning.proofs.graphs.each_graph_has_marks.Goals as goal

pub returns : goal.returns
returns c references = (marks_of references, marks_long references, marks_exact references)
