use Rattle.std.proofs.Output.{writes_in_calls_single}
use Rattle.laws.proofs.Text.{text_of_chars}
use Rattle.literature_values.proofs.person.write_text.Goals as goal

pub returns : goal.returns
returns g c = λ ok.
    let spelled = text_of_chars c.args.text.now c.utf8.text in
    rw spelled (writes_in_calls_single _ _ _ _ (c.write_str.ensures.ok ok))
