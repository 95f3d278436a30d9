-- What is written of entries without references, and the fault where they do not read back, from what is known of the entries alone.
use Rattle.std.proofs.Common.{◌≡◌, ◌&&◌, ◌+◌, ℕ, Bool, false, true, cond, List, [], ◌∷◌, None, Some, Result, Ok, Err, refl, ap, ◌∙◌, ◌⊎◌, inl, inr}
use Rattle.std.specs.Prelude.{IfErr, IfOk, OnOk}
use Rattle.std.specs.List.{list_all}
use Rattle.std.specs.Str.{chars, IsUtf8}
use Rattle.std.proofs.lemmas.Str.{is_utf8-from_IsUtf8}
use Rattle.biblatex.specs.Listed.{Listed}
use Rattle.biblatex.specs.Entries.{Source}
use Rattle.biblatex.specs.Resolved.{TextMeans}
use Rattle.biblatex_writing.specs.Flat.{flat}
use Rattle.biblatex_writing.specs.Settled.{is_settled_entry}
use Rattle.biblatex_writing.specs.Written.{written_file}
use Rattle.bib_show.specs.Program.{IsFaultOf, IsFlatOf}
use Rattle.bib_show.specs.declared.program.Form.TheVariants as forms
use Rattle.bib_show.specs.Unsettled.{IsFirstUnsettled, first_unsettled, unsettled_lines}
use Rattle.bib_show.proofs.FlatApart.{flat_distinct}

each_settled : (n : ℕ) (es : List Source) → first_unsettled n es ≡ None → list_all is_settled_entry es ≡ true
each_settled n [] h = refl
each_settled n (e ∷ es) h = by (each_settled (n + 1) es) (is_settled_entry e) h
  where
    by : (first_unsettled (n + 1) es ≡ None → list_all is_settled_entry es ≡ true) → (b : Bool) → cond b (first_unsettled (n + 1) es) (Some (n, e)) ≡ None → (b && list_all is_settled_entry es) ≡ true
    by rest true h = rest h
    by rest false h = absurd cc

pub flat_of : {F X : Type 0} (bytes : X → List ℕ) (text : List ℕ) (resolved : Listed) (r : Result X F) → IsUtf8 text → TextMeans (chars text) (Ok resolved)
    → OnOk r (first_unsettled 0 (flat resolved.entries) ≡ None) → IfOk r (λ x. bytes x ≡ written_file (flat resolved.entries)) → IfOk r (λ x. IsFlatOf text (bytes x))
flat_of bytes text resolved (Err f) utf8 means none written = written
flat_of bytes text resolved (Ok x) utf8 means none written = record {
  resolved = resolved;
  is_text = is_utf8-from_IsUtf8 text utf8;
  means = means;
  settled = ap (λ (b : Bool). b && list_all is_settled_entry (flat resolved.entries)) (flat_distinct (chars text) resolved means) ∙ each_settled 0 (flat resolved.entries) none;
  output_is = written;
}

pub unsettled_of : {F X : Type 0} (message : F → List ℕ) (other : List ℕ) (path text : List ℕ) (resolved : Listed) (r : Result X F) → IsUtf8 text → TextMeans (chars text) (Ok resolved)
    → IfErr r (λ f. IsFirstUnsettled path text (flat resolved.entries) (message f) ⊎ (message f ≡ other)) → IfErr r (λ f. IsFaultOf forms.Flat path text (message f) ⊎ (message f ≡ other))
unsettled_of message other path text resolved (Ok x) utf8 means h = h
unsettled_of message other path text resolved (Err f) utf8 means (inl is) =
    inl (inr (record { resolved = resolved; is_text = is_utf8-from_IsUtf8 text utf8; means = means; unsettled = is }))
unsettled_of message other path text resolved (Err f) utf8 means (inr is) = inr is

pub first_is : (other path text message : List ℕ) (es : List Source) (index : ℕ) (e : Source) → first_unsettled 0 es ≡ Some (index, e)
    → (message ≡ unsettled_lines path text index e) ⊎ (message ≡ other) → IsFirstUnsettled path text es message ⊎ (message ≡ other)
first_is other path text message es index e found (inl is) = inl (record { index = index; entry = e; first = found; lines = is })
first_is other path text message es index e found (inr is) = inr is
