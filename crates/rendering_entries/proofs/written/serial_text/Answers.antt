use Rattle.std.proofs.Common.{ap, ◌∙◌}
use Rattle.std.specs.Option.{option_map}
use Rattle.std.specs.Str.{chars}
use Rattle.rendering_entries.proofs.WrittenTexts.{chars_in}
use Rattle.rendering_entries.proofs.written.serial_text.Goals as goal

pub returns : goal.returns
returns c = chars_in c.keyed_serial_number.result ∙ ap (option_map chars) c.keyed_serial_number.ensures
