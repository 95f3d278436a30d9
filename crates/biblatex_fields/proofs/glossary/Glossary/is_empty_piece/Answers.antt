use Rattle.std.proofs.Common.{◌≡◌, ℕ, List, [], ◌∷◌, Option, Some, map, sym, subst, ◌∙◌}
use Rattle.std.proofs.lemmas.Bool.{eqb-true}
use Rattle.std.proofs.lemmas.List.{nil_from_length}
use Rattle.biblatex_text.specs.Views.{piece_view}
use Rattle.biblatex_fields.specs.declared.openings.ResolvedPiece.{ResolvedPiece}
use Rattle.biblatex_fields.specs.Openings.{Replacement, resolved_piece_view, unresolved_at}
use Rattle.biblatex_fields.proofs.OpeningsReplacements.{replacement_on, replacement_opened}
use Rattle.biblatex_fields.proofs.glossary.Glossary.is_empty_piece.Goals as goal

pub returns-in-Some-default : goal.returns-in-Some-default
returns-in-Some-default c = λ e.
    let g = c.args.self.now in
    let v = c.args.is_verbatim in
    let p = piece_view c.args.piece.now.raw in
    let index = c.in-Some-default.index in
    let none : c.pieces.result.now ≡ [] = nil_from_length _ (eqb-true _ 0 (sym c.is_empty.ensures ∙ e)) in
    let nothing = subst (λ (x : List ResolvedPiece). Replacement g v (map resolved_piece_view x) (unresolved_at g.definitions index)) none c.pieces.ensures in
    subst (λ (o : Option ℕ). Replacement g v [] (record { raw = p; index = o } ∷ [])) (sym c.in-Some-default.is-0)
    (replacement_on g v [] (unresolved_at g.definitions index) (record { raw = p; index = Some index } ∷ []) nothing (replacement_opened g v c.requires.resolved.flags p index))
