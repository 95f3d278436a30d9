use Rattle.std.specs.Str.{chars}
use Rattle.xml_tree.specs.Views.{element_view}
use Rattle.csl_styles.specs.Views.{csl_view, refusal_of}
use Rattle.csl_styles.proofs.Outcomes.{means_by, refused_by, not_refused}
use Rattle.csl_styles.proofs.reading.with_meaning.Goals as goal

pub returns-in-Ok-clause-exact : goal.returns-in-Ok-clause-exact
returns-in-Ok-clause-exact c = means_by (element_view c.args.root) (chars c.args.text.now) (csl_view c.in-Ok.csl) c.requires c.in-Ok.ensures

pub returns-in-Ok-clause-only : goal.returns-in-Ok-clause-only
returns-in-Ok-clause-only c = λ none taken. c.in-Ok.ensures.1

pub returns-clause-exact : goal.returns-clause-exact
returns-clause-exact c = refused_by (element_view c.args.root) (chars c.args.text.now) (refusal_of c.in-Err.error) c.requires c.in-Err.ensures

pub returns-clause-only : goal.returns-clause-only
returns-clause-only c = λ none taken. not_refused (chars c.args.text.now) (element_view c.args.root) (refusal_of c.in-Err.error) c.in-Err.ensures none taken
