use Rattle.driver_names.specs.NamesViews.{member_view}
use Rattle.driver_names.proofs.NamesakesCounted.{form_not_raised, form_raised_so}
use Rattle.driver_names.proofs.names_raised.form_after.Goals as goal

pub returns-then-is_raised : goal.returns-then-is_raised
returns-then-is_raised c = λ ms says.
    form_raised_so ms c.args.most c.args.shared (member_view c.args.member.now) c.is_raised.result c.form_at.result c.is_raised.ensures c.if-is_raised.true (c.form_at.ensures ms says)

pub returns-else-is_raised : goal.returns-else-is_raised
returns-else-is_raised c = λ ms says.
    form_not_raised ms c.args.most c.args.shared (member_view c.args.member.now) c.is_raised.result c.is_raised.ensures c.if-is_raised.false
