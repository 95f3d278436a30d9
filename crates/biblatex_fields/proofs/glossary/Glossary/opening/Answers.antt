use Rattle.std.proofs.Common.{ℕ, List, map, sym, subst}
use Rattle.biblatex_fields.specs.declared.openings.Opening.TheVariants.{SameAs}
use Rattle.biblatex_fields.specs.declared.openings.ResolvedPiece.{ResolvedPiece}
use Rattle.biblatex_fields.specs.Openings.{Resolved, Replacement, Opens, OpensAlone, resolved_piece_view}
use Rattle.biblatex_fields.proofs.OpeningsReplacements.{opens_part, opens_same, opens_whole}
use Rattle.biblatex_fields.proofs.glossary.Glossary.opening.Goals as goal

pub returns-in-Some : goal.returns-in-Some
returns-in-Some c =
    let g = c.args.self.now in
    let v = c.args.is_verbatim in
    let vs = c.args.resolved.now in
    let kept = map resolved_piece_view c.in_ok-kept.kept.items in
    let stands = subst (λ (x : List Resolved). Replacement g v kept x) c.resolved_at-pieces.ensures c.in_ok-kept.ensures in
    let alone = subst (λ (x : List ResolvedPiece). OpensAlone (map resolved_piece_view x) c.in-Some.other) c.as_slice.ensures.value c.in-Some.ensures in
    subst (λ (n : ℕ). Opens g v vs (SameAs n) c.args.index) (sym c.target.ensures) (opens_same g v vs c.args.openings.now kept c.args.index c.in-Some.other c.requires.resolved c.requires.openings stands alone)

pub returns-then-len-pieces : goal.returns-then-len-pieces
returns-then-len-pieces c = opens_whole c.args.self.now c.args.is_verbatim c.args.resolved.now c.args.index c.requires.resolved

pub returns : goal.returns
returns c =
    let g = c.args.self.now in
    let v = c.args.is_verbatim in
    let stands = subst (λ (x : List Resolved). Replacement g v (map resolved_piece_view c.in_ok-kept.kept.items) x) c.resolved_at-pieces.ensures c.in_ok-kept.ensures in
    opens_part g v c.args.resolved.now c.in_ok-kept.kept c.args.index c.requires.resolved stands
