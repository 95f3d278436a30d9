use Rattle.std.proofs.Common.{ap, ◌∙◌}
use Rattle.std.specs.Str.{chars}
use Rattle.xml_tree.specs.Views.{element_view}
use Rattle.xml_schema.specs.ValidViews.{refusal_of}
use Rattle.xml_schema.proofs.Validity.{found_by, only_by, text_none}
use Rattle.xml_schema.proofs.valid.parse_valid.Goals as goal

pub returns-in-Ok-clause-found : goal.returns-in-Ok-clause-found
returns-in-Ok-clause-found c = found_by c.args.schema.now (element_view c.in-Ok.root) (chars c.args.text.now) c.checked.result c.in-Ok.ensures.found c.checked.ensures

pub returns-in-Ok-clause-only : goal.returns-in-Ok-clause-only
returns-in-Ok-clause-only c = λ e spelled none. only_by c.args.schema.now (chars c.args.text.now) (element_view c.in-Ok.root) e c.checked.result (c.in-Ok.ensures.only e spelled) none c.checked.ensures

pub returns-in-Err-clause-only : goal.returns-in-Err-clause-only
returns-in-Err-clause-only c = λ e spelled none. ap refusal_of c.text_error.ensures ∙ text_none c.in-Err.error (c.in-Err.ensures.only e spelled)
