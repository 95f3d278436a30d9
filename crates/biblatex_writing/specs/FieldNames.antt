-- Names under which fields are written.
use Rattle.std.specs.Prelude.{ℕ, Bool, ◌==◌, ◌||◌, List, [], ◌∷◌, map, find, option_map, unwrap_or, codes}
use Rattle.std.specs.List.{list_any, IsDistinct}
use Rattle.std.specs.Str.{bytes_eq}
use Rattle.biblatex_fields.specs.Fields.{Named}

-- the fields that are written under another name than they are read under: that name, and the one that they are read under; in the order of bytes of
-- the former
abbrev pub other_names : List (List ℕ × List ℕ)
other_names =
    (codes "annotation", codes "annote") ∷
    (codes "eprintclass", codes "primaryclass") ∷
    (codes "eprinttype", codes "archiveprefix") ∷
    (codes "file", codes "pdf") ∷
    (codes "institution", codes "school") ∷
    (codes "journaltitle", codes "journal") ∷
    (codes "location", codes "address") ∷
    (codes "sortkey", codes "key") ∷ []

-- the name under which a field is written: `journaltitle` for `journal`, and so on; most fields are written under their own
abbrev pub written_name : List ℕ → List ℕ
written_name name = unwrap_or (option_map (λ names. names.0) (find (λ names. bytes_eq name names.1) other_names)) name

-- whether no field is written under a name
abbrev pub is_never_written : List ℕ → Bool
is_never_written name = list_any (λ names. bytes_eq name names.1) other_names

-- whether the byte is the third one of a name that those fields are written under: c, l, n, r, s or u
abbrev pub is_third_of_written : ℕ → Bool
is_third_of_written b = b == 99 || b == 108 || b == 110 || b == 114 || b == 115 || b == 117

-- whether it is the third one of a name that they are read under: c, d, f, h, i, n, u or y
abbrev pub is_third_of_read : ℕ → Bool
is_third_of_read b = b == 99 || b == 100 || b == 102 || b == 104 || b == 105 || b == 110 || b == 117 || b == 121

-- No two fields are written under one name, filled or not.
abbrev pub HaveDistinctWrittenNames : List Named → Type 0
HaveDistinctWrittenNames fs = IsDistinct bytes_eq (map (λ f. written_name f.0) fs)
