use Rattle.std.proofs.Common.{◌≡◌, [], ◌∙◌}
use Rattle.std.specs.Str.{chars}
use Rattle.std.proofs.lemmas.Result.{IfOk-weaker}
use Rattle.laws.specs.Text.{characters}
use Rattle.rendering_cases.specs.Cases.{changed_between}
use Rattle.rendering_cases.specs.Words.{is_in_capitals}
use Rattle.rendering_cases.proofs.Going.{whole}
use Rattle.rendering_cases.proofs.cased.changed_text.Goals as goal

pub returns : goal.returns
returns c =
    let cs = chars c.args.text.now in
    IfOk-weaker c.changed_value.result _ (λ s. characters s ≡ changed_between c.args.case (is_in_capitals cs) [] cs [])
    (λ s e. e ∙ rw (c.new-place.ensures, c.is_in_capitals.ensures) (whole c.args.case (is_in_capitals cs) cs))
    c.changed_value.ensures.value
