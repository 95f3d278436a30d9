-- Files that are read as one: the file that has a byte of them.
use Rattle.std.proofs.Common.{◌≡◌, ◌<◌, ◌≤◌, ◌+◌, ◌-◌, ◌⊎◌, inl, inr, ℕ, zero, suc, true, false, List, [], ◌∷◌, drop, get_or, length, Some, ltb, refl, sym, ap, ◌∙◌, arith}
use Rattle.std.specs.Prelude.{slice_get}
use Rattle.std.proofs.lemmas.Bool.{le-ltb}
use Rattle.std.proofs.lemmas.List.{at_drop_more, drop_all}
use Rattle.fault_lines.specs.Messages.{fault_lines}
use Rattle.cite_csl_styles.specs.JoinedFaults.{IsWithin}
use Rattle.cite_csl_styles.specs.Sources as specs
use Rattle.cite_csl_styles.specs.Sources.{lines_at}
use Rattle.cite_csl_styles.specs.Views.{source_view, sources_view}
use Rattle.cite_csl_styles.specs.declared.sources.SourceFile.{SourceFile}

-- the lines are those of the first file, where it is the last one or has the byte
ends_here : (f : specs.SourceFile) (fs : List specs.SourceFile) (left : ℕ) (why : List ℕ) → (fs ≡ []) ⊎ (left ≤ length f.bytes) → lines_at (f ∷ fs) left why ≡ fault_lines f.path f.bytes left why
ends_here f [] left why h = refl
ends_here f (g ∷ gs) left why (inl none) = absurd cc
ends_here f (g ∷ gs) left why (inr has) = rw (le-ltb (length f.bytes) left has) refl

-- those of the others, where it ends before the byte
goes_past : (f g : specs.SourceFile) (gs : List specs.SourceFile) (left : ℕ) (why : List ℕ) → ltb (length f.bytes) left ≡ true → lines_at (f ∷ g ∷ gs) left why ≡ lines_at (g ∷ gs) (left - length f.bytes - 1) why
goes_past f g gs left why past =
    let less : left - (length f.bytes + 1) ≡ left - length f.bytes - 1 = omega arith in
    rw past (ap (λ (n : ℕ). lines_at (g ∷ gs) n why) less)

-- the file after so many others
there : (files : List SourceFile) (n : ℕ) (d : SourceFile) → n < length files → slice_get (sources_view files) n ≡ Some (source_view (get_or files n d))
there [] n d within = absurd (omega (arith, within))
there (f ∷ fs) zero d within = refl
there (f ∷ fs) (suc n) d within = there fs n d (omega (arith, within))

module _ (files : List SourceFile) (at n left : ℕ) (d : SourceFile) (here : n < length files) (so_far : (why : List ℕ) → lines_at (sources_view (drop n files)) left why ≡ lines_at (sources_view files) at why) where
  -- it has the byte
  pub file_found : (n + 1 ≡ length files) ⊎ (left ≤ length (get_or files n d).bytes.now) → IsWithin (sources_view files) at n (source_view (get_or files n d)) left
  file_found has =
      let f = source_view (get_or files n d) in
      let more = drop (n + 1) files in
      record {
        here = there files n d here;
        said = λ why. sym (so_far why) ∙ (at_drop_more (λ (ys : List SourceFile). lines_at (sources_view ys) left why) files n d here ∙ ends_here f (sources_view more) left why (elim has [
          | inl last ↦ inl (ap sources_view (drop_all (n + 1) files (omega (arith, last))))
          | inr within ↦ inr within
        ]));
      }

  -- it ends before the byte
  pub file_passed : n + 1 < length files → ltb (length (get_or files n d).bytes.now) left ≡ true → (why : List ℕ) → lines_at (sources_view (drop (n + 1) files)) (left - length (get_or files n d).bytes.now - 1) why ≡ lines_at (sources_view files) at why
  file_passed others past why =
      let f = get_or files n d in
      let g = get_or files (n + 1) d in
      let more = drop (n + 1 + 1) files in
      let then : ℕ = left - length f.bytes.now - 1 in
      at_drop_more (λ (ys : List SourceFile). lines_at (sources_view ys) then why) files (n + 1) d others
      ∙ (sym (goes_past (source_view f) (source_view g) (sources_view more) left why past)
      ∙ (sym (at_drop_more (λ (ys : List SourceFile). lines_at (sources_view (f ∷ ys)) left why) files (n + 1) d others)
      ∙ (sym (at_drop_more (λ (ys : List SourceFile). lines_at (sources_view ys) left why) files n d here) ∙ so_far why)))
