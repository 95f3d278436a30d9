use Rattle.std.proofs.Common.{sym, ◌∙◌}
use Rattle.rendering_taxonomy.proofs.Indices.{Decides-looks_like}
use Rattle.rendering_building.proofs.builder.Builder.go_on_in.Goals as goal

pub returns-then-looks_like-clause-look : goal.returns-then-looks_like-clause-look
returns-then-looks_like-clause-look c =
    sym ((Decides-looks_like c.args.formatting c.args.self.now.formatting).0 (sym c.looks_like.ensures ∙ c.if-looks_like.true))
