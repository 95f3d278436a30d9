use Rattle.std.proofs.Common.{[], ◌∷◌, ap, sym, ◌∙◌}
use Rattle.std.specs.Prelude.{if◌then◌else◌}
use Rattle.laws.specs.Characters.{space}
use Rattle.rendering.proofs.prose.space_if.Goals as goal

pub returns-else-wanted : goal.returns-else-wanted
returns-else-wanted c =
    c.no_text.ensures ∙ ap (λ b. if b then space ∷ [] else []) (sym c.if-wanted.false)
