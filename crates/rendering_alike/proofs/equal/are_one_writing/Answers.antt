use Rattle.std.proofs.Common.{string_eq, sym, ◌∙◌}
use Rattle.laws.proofs.Equality.{Shows-options, Shows-strings}
use Rattle.laws.specs.Text.{characters}
use Rattle.rendering_alike.proofs.equal.are_one_writing.Goals as goal

pub returns : goal.returns
returns c =
    let d = Shows-options string_eq characters Shows-strings c.args.one.now c.args.other.now in
    (λ h. d.0 (sym c.eq.ensures ∙ h), λ e. c.eq.ensures ∙ d.1 e)
