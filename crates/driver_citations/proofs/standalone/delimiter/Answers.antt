use Rattle.std.proofs.Common.{codes, refl, sym, ap, ◌∙◌}
use Rattle.std.specs.Option.{option_map, unwrap_or}
use Rattle.std.proofs.lemmas.Str.{chars-encodes}
use Rattle.laws.specs.Text.{characters}
use Rattle.rendering_names.specs.Persons.{comma_and_space}
use Rattle.driver_citations.proofs.standalone.delimiter.Goals as goal

pub returns-in-None : goal.returns-in-None
unfolding lib.Utf8.encode
returns-in-None c = chars-encodes (codes ", ") refl ∙ ap (λ t. unwrap_or (option_map characters t) comma_and_space) (sym c.in-None.is)
