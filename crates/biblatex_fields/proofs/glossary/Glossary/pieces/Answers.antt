use Rattle.std.proofs.Common.{List, ap, sym, subst, ◌∙◌}
use Rattle.biblatex_fields.specs.Openings.{Resolved, Replacement, pieces_of_opening, unresolved_at}
use Rattle.biblatex_fields.proofs.OpeningsReplacements.{replacement_read}
use Rattle.biblatex_fields.proofs.glossary.Glossary.pieces.Goals as goal

pub returns : goal.returns
returns c =
    let g = c.args.self.now in
    let vs = c.args.resolved.now in
    let os = c.args.openings.now in
    subst (λ (x : List Resolved). Replacement g c.args.is_verbatim x (unresolved_at g.definitions c.args.index)) (sym (c.pieces_of_opening.ensures ∙ ap (pieces_of_opening os vs) c.target.ensures))
    (replacement_read g c.args.is_verbatim vs os c.args.index c.requires.resolved c.requires.openings)
