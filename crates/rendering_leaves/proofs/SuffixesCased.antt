-- Year suffixes, which are texts of one piece, in a case.
use Rattle.std.proofs.Common.{◌≡◌, ℕ, Bool, true, false, cond, List, [], ◌∷◌, Option, Some, None, refl, ap}
use Rattle.std.proofs.lemmas.List.{append-nil}
use Rattle.rendering_cases.specs.Cases.{cased_chunks, cased_text, changed_between, changed_chunks, is_for, plain}
use Rattle.rendering_cases.specs.Words.{is_in_capitals}
use Rattle.rendering_entries.specs.Library.{one_chunk}
use Rattle.rendering_page.specs.Pages.{Manner, uncased}
use Rattle.rendering_page.specs.Pieces.{normal, chunk_pieces, each_piece}
use Rattle.rendering_taxonomy.specs.declared.text_case.TextCase.{TextCase}

-- a text of one piece in a case is its characters in that case
pub suffix_pieces : (m : Manner) (cs : List ℕ) → chunk_pieces m (one_chunk cs) ≡ normal (uncased m) (cased_text m.text_case m.is_english cs) ∷ []
suffix_pieces m cs = by_case m.text_case
  where
    by_language : (case : TextCase) (b : Bool)
        → each_piece (uncased m) (cond b (changed_chunks case (is_in_capitals (plain (one_chunk cs))) [] (one_chunk cs)) (one_chunk cs))
        ≡ normal (uncased m) (cond b (changed_between case (is_in_capitals cs) [] cs []) cs) ∷ []
    by_language case true = ap (λ (xs : List ℕ). normal (uncased m) (changed_between case (is_in_capitals xs) [] cs []) ∷ []) (append-nil cs)
    by_language case false = refl

    by_case : (o : Option TextCase) → each_piece (uncased m) (cased_chunks o m.is_english (one_chunk cs)) ≡ normal (uncased m) (cased_text o m.is_english cs) ∷ []
    by_case None = refl
    by_case (Some case) = by_language case (is_for case m.is_english)
