use Rattle.std.proofs.Common.{◌≡◌, ◌<◌, ◌+◌, ℕ, Bool, List, [], ◌∷◌, ◌++◌, map, take, get_or, length, refl, sym, ap, subst, ◌∙◌}
use Rattle.std.proofs.lemmas.List.{map_push}
use Rattle.biblatex_text.specs.Views.{piece_view}
use Rattle.biblatex_text.specs.declared.spanned.Spanned.{Spanned}
use Rattle.biblatex_text.specs.declared.raw.RawChunk.{RawChunk}
use Rattle.biblatex_fields.specs.declared.openings.ResolvedPiece.{ResolvedPiece}
use Rattle.biblatex_fields.specs.Abbreviations.{Glossary}
use Rattle.biblatex_fields.specs.Openings.{Resolved, Replacement, resolved_piece_view}
use Rattle.biblatex_fields.proofs.OpeningsReplacements.{replacement_same, replacement_after, replacement_without}
use Rattle.biblatex_fields.proofs.AbbreviationsTaken.{one_more}
use Rattle.biblatex_fields.proofs.glossary.Glossary.without_empty.Goals as goal

left_out : (g : Glossary) (v : Bool) (rs : List Resolved) (ps : List ResolvedPiece) (i : ℕ) (d : ResolvedPiece) → i < length ps → Replacement g v rs (map resolved_piece_view (take i ps))
    → Replacement g v [] (resolved_piece_view (get_or ps i d) ∷ []) → Replacement g v rs (map resolved_piece_view (take (i + 1) ps))
left_out g v rs ps i d within before nothing =
    subst (λ (x : List Resolved). Replacement g v rs x) (sym (one_more resolved_piece_view ps i d within)) (replacement_without g v rs (map resolved_piece_view (take i ps)) (resolved_piece_view (get_or ps i d)) before nothing)

kept_on : (g : Glossary) (v : Bool) (rs : List Resolved) (ps : List ResolvedPiece) (i : ℕ) (d : ResolvedPiece) (raw : Spanned RawChunk) → i < length ps → Replacement g v rs (map resolved_piece_view (take i ps))
    → raw.v ≡ (get_or ps i d).raw.v → raw.span ≡ record { start = (get_or ps i d).raw.span.start; end = (get_or ps i d).raw.span.end }
    → Replacement g v (rs ++ record { raw = piece_view raw; index = (get_or ps i d).index } ∷ []) (map resolved_piece_view (take (i + 1) ps))
kept_on g v rs ps i d raw within before value span =
    let last = resolved_piece_view (get_or ps i d) in
    let same : record { raw = piece_view raw; index = (get_or ps i d).index } ≡ last = rw (value, span) refl in
    subst (λ (x : List Resolved). Replacement g v (rs ++ record { raw = piece_view raw; index = (get_or ps i d).index } ∷ []) x) (sym (one_more resolved_piece_view ps i d within))
    (subst (λ (r : Resolved). Replacement g v (rs ++ r ∷ []) (map resolved_piece_view (take i ps) ++ last ∷ [])) (sym same) (replacement_after g v rs (map resolved_piece_view (take i ps)) (last ∷ []) (last ∷ []) before (replacement_same g v (last ∷ []))))

pub loop-piece-preserved-then-branch : goal.loop-piece-preserved-then-branch
loop-piece-preserved-then-branch c =
    left_out c.args.self.now c.args.is_verbatim (map resolved_piece_view c.loop-piece.kept.items) c.args.pieces.now c.loop-piece.piece-index _ c.loop-piece-test.true c.loop-piece.invariant (c.in_ok-is_empty_piece.ensures c.if-branch.true)

pub loop-piece-preserved : goal.loop-piece-preserved
loop-piece-preserved c =
    let kept = map resolved_piece_view c.loop-piece.kept.items in
    let more : map resolved_piece_view c.push.new.self.items ≡ kept ++ record { raw = piece_view c.new-raw.result; index = _ } ∷ [] = ap (map resolved_piece_view) c.in_ok-push.ensures.items ∙ map_push resolved_piece_view c.loop-piece.kept.items _ in
    subst (λ (x : List Resolved). Replacement c.args.self.now c.args.is_verbatim x (map resolved_piece_view (take (c.loop-piece.piece-index + 1) c.args.pieces.now))) (sym more)
    (kept_on c.args.self.now c.args.is_verbatim kept c.args.pieces.now c.loop-piece.piece-index _ c.new-raw.result c.loop-piece-test.true c.loop-piece.invariant c.new-raw.ensures.value c.new-raw.ensures.span)
