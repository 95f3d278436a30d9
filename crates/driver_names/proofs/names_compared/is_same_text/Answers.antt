use Rattle.std.proofs.Common.{◌∙◌}
use Rattle.std.specs.Prelude.{string_eq}
use Rattle.std.specs.Str.{bytes_eq}
use Rattle.std.proofs.lemmas.Slice.Eq.{bytes_eq-Decides}
use Rattle.laws.specs.Text.{characters}
use Rattle.laws.proofs.Equality.{Shows-strings}
use Rattle.rendering_tree.proofs.ViewsEquality.{agreed}
use Rattle.driver_names.proofs.names_compared.is_same_text.Goals as goal

pub returns : goal.returns
returns c =
    let s = c.args.text.now in
    let t = c.args.other.now in
    c.eq.ensures ∙ agreed (string_eq s t) (bytes_eq (characters s) (characters t)) (Shows-strings s t) (bytes_eq-Decides (characters s) (characters t))
