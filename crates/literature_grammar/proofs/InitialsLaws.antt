-- The initials that are written are those of the relation.
use Rattle.std.proofs.Common.{◌≡◌, ℕ, Bool, true, false, List, [], ◌∷◌, ◌++◌, Result, Ok, Err, refl, sym, ap, ◌∙◌, subst, inl, inr, append-nil, append_assoc}
use Rattle.std.specs.List.{flat_map}
use Rattle.std.specs.Str.{chars}
use Rattle.laws.specs.Steps.{each}
use Rattle.laws.specs.Text.{text}
use Rattle.unicode_segmentation.specs.Grapheme.{graphemes}
use Rattle.literature_values.specs.Initials.{Run, Style, style, first_piece, cluster, initial, between, further, joined, joined_runs, next_run_at, initials_of}
use Rattle.literature_grammar.specs.Initials.{IsCluster, IsBetween, AreInitialsOf, AreInitials}
use Rattle.literature_grammar.proofs.NameRuns.{runs_are, runs_unique}
use Rattle.literature_grammar.proofs.Delimiters.{delimiter_is, delimiter_unique}

abbrev styled : Bool → List ℕ → List ℕ → Style
styled h kept gap = record { trimmed = kept; dropped = gap; with_hyphen = h }

cluster_unique : (cs k : List ℕ) → IsCluster cs k → cluster cs ≡ k
unfolding chars
cluster_unique cs k (inl (e, f)) = ap (λ (ps : List (List ℕ)). chars (first_piece ps)) e ∙ sym f
cluster_unique cs k (inr (bs, more, e, f)) = ap (λ (ps : List (List ℕ)). chars (first_piece ps)) e ∙ sym f

cluster_is : (cs : List ℕ) → IsCluster cs (cluster cs)
unfolding chars
cluster_is cs = by_pieces (graphemes true (text cs)) refl
  where
    by_pieces : (ps : List (List ℕ)) → graphemes true (text cs) ≡ ps → IsCluster cs (cluster cs)
    by_pieces [] e = inl (e, ap (λ (ps : List (List ℕ)). chars (first_piece ps)) e)
    by_pieces (p ∷ ps) e = inr (p, ps, e, ap (λ (ps : List (List ℕ)). chars (first_piece ps)) e)

between_unique : (h is : Bool) (kept gap m : List ℕ) → IsBetween h is gap m → between (styled h kept gap) is ≡ m
between_unique true true kept gap m e = sym e
between_unique true false kept gap m e = sym e
between_unique false true kept gap m e = sym e
between_unique false false kept gap m e = sym e

between_is : (h is : Bool) (kept gap : List ℕ) → IsBetween h is gap (between (styled h kept gap) is)
between_is true true kept gap = refl
between_is true false kept gap = refl
between_is false true kept gap = refl
between_is false false kept gap = refl

-- initials one after the other
one_more : (s : Style) (r q : Run) (rs : List Run) → joined s (r ∷ q ∷ rs) ≡ initial s r.name ++ (between s q.is_hyphenated ++ joined s (q ∷ rs))
one_more s r q rs = ap (λ (t : List ℕ). initial s r.name ++ t) (append_assoc (between s q.is_hyphenated) (initial s q.name) (flat_map (further s) rs))

joined_unique : (h : Bool) (kept gap : List ℕ) (rs : List Run) (cs : List ℕ) → AreInitialsOf h kept gap rs cs → joined (styled h kept gap) rs ≡ cs
joined_unique h kept gap [] cs e = sym e
joined_unique h kept gap (r ∷ []) cs (k, is, e) = append-nil (cluster r.name ++ kept) ∙ (ap (λ (t : List ℕ). t ++ kept) (cluster_unique r.name k is) ∙ sym e)
joined_unique h kept gap (r ∷ q ∷ rs) cs (k, m, more, is, of, are, e) =
    let first : cluster r.name ≡ k = cluster_unique r.name k is in
    let middle : between (styled h kept gap) q.is_hyphenated ≡ m = between_unique h q.is_hyphenated kept gap m of in
    let others : joined (styled h kept gap) (q ∷ rs) ≡ more = joined_unique h kept gap (q ∷ rs) more are in
    one_more (styled h kept gap) r q rs ∙ ((λ i. (first i ++ kept) ++ (middle i ++ others i)) ∙ sym e)

joined_are : (h : Bool) (kept gap : List ℕ) (rs : List Run) → AreInitialsOf h kept gap rs (joined (styled h kept gap) rs)
joined_are h kept gap [] = refl
joined_are h kept gap (r ∷ []) = (cluster r.name, cluster_is r.name, append-nil (cluster r.name ++ kept))
joined_are h kept gap (r ∷ q ∷ rs) =
    let s = styled h kept gap in
    (cluster r.name, between s q.is_hyphenated, joined s (q ∷ rs), cluster_is r.name, between_is h q.is_hyphenated kept gap, joined_are h kept gap (q ∷ rs), one_more s r q rs)

-- the initials of the runs that are read
are_initials : (h : Bool) (delimiter name : List ℕ) → AreInitials h delimiter name (initials_of (style delimiter h) name)
unfolding initials_of
are_initials h delimiter name = by_runs (each next_run_at name) refl
  where
    by_runs : (r : Result (List Run × List ℕ) ⊥) → each next_run_at name ≡ r → AreInitials h delimiter name (joined_runs (style delimiter h) r)
    by_runs (Ok p) e =
        let d = style delimiter h in
        (d.trimmed, d.dropped, p.0, delimiter_is delimiter, runs_are name p e, joined_are h d.trimmed d.dropped p.0)
    by_runs (Err e) f = absurd e

pub is_related : (h : Bool) (delimiter name cs : List ℕ) → initials_of (style delimiter h) name ≡ cs → AreInitials h delimiter name cs
is_related h delimiter name cs e = subst (AreInitials h delimiter name) e (are_initials h delimiter name)

unique : (h : Bool) (delimiter name cs ds : List ℕ) → AreInitials h delimiter name cs → AreInitials h delimiter name ds → cs ≡ ds
unique h delimiter name cs ds (kept, gap, rs, d, runs, are) (kept2, gap2, rs2, d2, runs2, are2) =
    let a = delimiter_unique delimiter kept gap d in
    let b = delimiter_unique delimiter kept2 gap2 d2 in
    let same : rs ≡ rs2 = runs_unique rs rs2 name runs runs2 in
    sym (joined_unique h kept gap rs cs are) ∙ ((λ i. joined (styled h ((sym a.0 ∙ b.0) i) ((sym a.1 ∙ b.1) i)) (same i)) ∙ joined_unique h kept2 gap2 rs2 ds are2)

pub is_written : (h : Bool) (delimiter name cs : List ℕ) → AreInitials h delimiter name cs → initials_of (style delimiter h) name ≡ cs
is_written h delimiter name cs are = unique h delimiter name (initials_of (style delimiter h) name) cs (are_initials h delimiter name) are
