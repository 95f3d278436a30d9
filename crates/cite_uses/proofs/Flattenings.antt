-- What is given of a bib text, from what it is read as, and from whether that is settled without `crossref`.
use Rattle.std.proofs.Common.{◌≡◌, ℕ, Bool, true, false, true≢false, ◌&&◌, List, Option, Some, None, Result, Ok, Err, refl, sym, subst, ◌∙◌}
use Rattle.std.specs.Prelude.{IfSome}
use Rattle.std.specs.List.{list_all}
use Rattle.std.specs.Str.{chars, IsUtf8}
use Rattle.std.proofs.lemmas.Bool.{and_from, and_parts}
use Rattle.std.proofs.lemmas.Str.{is_utf8-from_IsUtf8}
use Rattle.biblatex.specs.Bibliographies.{Indexed, flattened, listed_view}
use Rattle.biblatex.specs.Listed.{Listed}
use Rattle.biblatex.specs.Reading as reading
use Rattle.biblatex.specs.Resolved.{TextMeans}
use Rattle.biblatex_writing.specs.Flat.{flat}
use Rattle.biblatex_writing.specs.Settled.{is_settled}
use Rattle.cite.specs.Roads.{IsSettledFile}
use Rattle.cite_requests.specs.Stages.{IsRead, IsReadIf, bib_refused, refused_as}
use Rattle.cite_uses.specs.Flattened.{IsFlattening, is_written_apart}
use Rattle.cite_uses.proofs.WrittenApart.{all_apart, apart_all}

-- a text is read as what it means
read_as : (bib : List ℕ) → IsUtf8 bib → (m : Result Listed reading.Refusal) → TextMeans (chars bib) m → IsRead bib (refused_as bib_refused m)
read_as bib utf8 m means = subst (λ (b : Bool). IsReadIf b bib (refused_as bib_refused m)) (sym (is_utf8-from_IsUtf8 bib utf8)) (m, means, refl)

pub refused : (bib : List ℕ) → IsUtf8 bib → (o : Option reading.Refusal) → IfSome o (λ r. TextMeans (chars bib) (Err r)) → IfSome o (λ r. IsFlattening bib (Err r))
refused bib utf8 None h = tt
refused bib utf8 (Some r) means = read_as bib utf8 (Err r) means

-- entries that are settled, and of which none has two fields that are written under one name
abbrev read_back : Indexed → Bool
read_back n = is_settled n.entries && list_all is_written_apart n.entries

-- the entries of a text, and these without `crossref`
module _ (bib : List ℕ) (utf8 : IsUtf8 bib) (b new : Indexed) (means : TextMeans (chars bib) (Ok (listed_view b))) (is : new ≡ flattened b) where
  pub settled_file : read_back new ≡ true → IsSettledFile bib (listed_view b)
  settled_file h =
      let p = and_parts (is_settled (flat b.entries)) (list_all is_written_apart (flat b.entries)) (subst (λ (n : Indexed). read_back n ≡ true) is h) in
      record { read = read_as bib utf8 (Ok (listed_view b)) means; settled = p.0; apart = all_apart (flat b.entries) p.1 }

  pub unsettled_file : read_back new ≡ false → IsFlattening bib (Ok None)
  unsettled_file h = (listed_view b, read_as bib utf8 (Ok (listed_view b)) means, λ s. true≢false (sym (passed s) ∙ h))
    where
      passed : IsSettledFile bib (listed_view b) → read_back new ≡ true
      passed s =
          subst (λ (n : Indexed). read_back n ≡ true) (sym is)
          (and_from (is_settled (flat b.entries)) (list_all is_written_apart (flat b.entries)) s.settled (apart_all (flat b.entries) s.apart))
