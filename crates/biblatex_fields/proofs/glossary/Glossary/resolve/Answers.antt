use Rattle.std.proofs.Common.{◌≡◌, ◌<◌, ◌+◌, ℕ, Bool, List, [], ◌∷◌, ◌++◌, Option, map, take, get_or, length, refl, sym, ap, subst, ◌∙◌, arith}
use Rattle.std.proofs.lemmas.List.{map_push, take_all}
use Rattle.biblatex_text.specs.Raw.{At, Piece}
use Rattle.biblatex_text.specs.Views.{piece_view}
use Rattle.biblatex_text.specs.declared.spanned.Spanned.{Spanned}
use Rattle.biblatex_text.specs.declared.raw.RawChunk.{RawChunk}
use Rattle.biblatex_fields.specs.Abbreviations.{Glossary, sense}
use Rattle.biblatex_fields.specs.Openings.{Resolved, Replacement, resolved_piece_view, sense_by, unresolved}
use Rattle.biblatex_fields.proofs.OpeningsReplacements.{replacement_after, replacement_resolved}
use Rattle.biblatex_fields.proofs.AbbreviationsTaken.{one_more}
use Rattle.biblatex_fields.proofs.glossary.Glossary.resolve.Goals as goal

one_resolved : (g : Glossary) (v : Bool) (rs : List Resolved) (raws : List (Spanned RawChunk)) (i : ℕ) (d raw : Spanned RawChunk) (index : Option ℕ) → i < length raws
    → Replacement g v rs (map unresolved (map piece_view (take i raws))) → raw.v ≡ (get_or raws i d).v → raw.span ≡ record { start = (get_or raws i d).span.start; end = (get_or raws i d).span.end }
    → sense_by g (piece_view (get_or raws i d)) index ≡ sense g (piece_view (get_or raws i d)) → Replacement g v (rs ++ record { raw = piece_view raw; index = index } ∷ []) (map unresolved (map piece_view (take (i + 1) raws)))
one_resolved g v rs raws i d raw index within before value span known =
    let same : piece_view raw ≡ piece_view (get_or raws i d) = rw (value, span) refl in
    let longer : map unresolved (map piece_view (take (i + 1) raws)) ≡ map unresolved (map piece_view (take i raws)) ++ unresolved (piece_view (get_or raws i d)) ∷ [] =
    ap (map unresolved) (one_more piece_view raws i d within) ∙ map_push unresolved (map piece_view (take i raws)) (piece_view (get_or raws i d)) in
    subst (λ (x : List Resolved). Replacement g v (rs ++ record { raw = piece_view raw; index = index } ∷ []) x) (sym longer)
    (replacement_after g v rs (map unresolved (map piece_view (take i raws))) (record { raw = piece_view raw; index = index } ∷ []) (unresolved (piece_view (get_or raws i d)) ∷ []) before
    (subst (λ (p : At Piece). Replacement g v (record { raw = p; index = index } ∷ []) (unresolved (piece_view (get_or raws i d)) ∷ [])) (sym same) (replacement_resolved g v (piece_view (get_or raws i d)) index known)))

pub loop-raw-preserved : goal.loop-raw-preserved
loop-raw-preserved c = λ v.
    let before = map resolved_piece_view c.loop-raw.pieces.items in
    let more : map resolved_piece_view c.push.new.self.items ≡ before ++ record { raw = piece_view c.new-raw.result; index = c.in_ok-index.index } ∷ [] = ap (map resolved_piece_view) c.in_ok-push.ensures.items ∙ map_push resolved_piece_view c.loop-raw.pieces.items _ in
    subst (λ (x : List Resolved). Replacement c.args.self.now v x (map unresolved (map piece_view (take (c.loop-raw.raw-index + 1) c.args.raws.now)))) (sym more)
    (one_resolved c.args.self.now v before c.args.raws.now c.loop-raw.raw-index _ c.new-raw.result c.in_ok-index.index c.loop-raw-test.true (c.loop-raw.invariant v) c.new-raw.ensures.value c.new-raw.ensures.span c.in_ok-index.ensures)

pub returns : goal.returns
returns c = λ v. subst (λ (x : List (Spanned RawChunk)). Replacement c.args.self.now v (map resolved_piece_view c.loop-raw.pieces.items) (map unresolved (map piece_view x))) (take_all c.loop-raw.raw-index c.args.raws.now (omega arith)) (c.loop-raw.invariant v)
