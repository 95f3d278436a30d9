-- What a loop over the rows of a table keeps.
use Rattle.std.proofs.Common.{◌≡◌, ℕ, ◌+◌, ◌<◌, List, [], ◌∷◌, ◌++◌, length, take, get_or, Bor, sym, ap, ◌∙◌}
use Rattle.std.proofs.lemmas.List.{map-append, take_more, flat_map_more}
use Rattle.std.specs.List.{flat_map}
use Rattle.csl_words.specs.Looking.{row_view, table_view}

-- one row more
pub rows_keep_on : {X V : Type 0} (h : List ℕ × X → List V) (rows : List (Bor (List ℕ) × X)) (i : ℕ) (d : Bor (List ℕ) × X) (old new : List V) → i < length rows
    → old ≡ flat_map h (table_view (take i rows)) → new ≡ old ++ h (row_view (get_or rows i d)) → new ≡ flat_map h (table_view (take (i + 1) rows))
rows_keep_on {X} {V} h rows i d old new less so_far pushed =
    let r : Bor (List ℕ) × X = get_or rows i d in
    pushed
    ∙ (ap (λ (vs : List V). vs ++ h (row_view r)) so_far
    ∙ (flat_map_more h [] (table_view (take i rows)) (row_view r)
    ∙ sym (ap (flat_map h) (ap table_view (take_more rows i d less) ∙ map-append (λ (q : Bor (List ℕ) × X). row_view q) (take i rows) (r ∷ [])))))
