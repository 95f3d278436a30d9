use Rattle.biblatex_fields.specs.Fields.{value_named}
use Rattle.biblatex_inheritance.specs.Resolved.{first, first_offer}
use Rattle.biblatex_inheritance.specs.Views.{offers_in}
use Rattle.biblatex_inheritance.proofs.ResolvedReferences.{offers_more}
use Rattle.biblatex_inheritance.proofs.inherit.pass_on_all_of.Goals as goal

pub loop-reference-preserved : goal.loop-reference-preserved
loop-reference-preserved c =
    offers_more c.args.role c.args.entries.now c.args.references.now c.loop-reference.reference-index _ c.loop-reference.fields c.pass_on_where.new.fields
    (λ q. first (value_named q c.args.fields.now) (first_offer c.args.role (offers_in c.args.entries.now c.args.references.now) q)) c.loop-reference-test.true c.in_ok-pass_on_where.ensures c.loop-reference.invariant
