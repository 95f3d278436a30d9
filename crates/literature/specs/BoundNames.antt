-- Names that are bound, and their indices. Names are bytes.
use Rattle.std.specs.Global.{Global}
use Rattle.std.specs.Prelude.{◌≡◌, ℕ, suc, List, [], ◌∷◌, if◌then◌else◌, Option, Some, None, String, string_bytes}
use Rattle.std.specs.Borrow.{Bor}
use Rattle.std.specs.Option.{option_map}
use Rattle.std.specs.Str.{bytes_eq}
use Rattle.literature_entries.specs.declared.entry.Entry.{Entry}

-- a name by its bytes, and the entry that is borrowed
abbrev pub binding_view : String Global × Bor Entry → List ℕ × Entry
binding_view p = (string_bytes p.0, p.1.now)

-- the index of the first of a name
abbrev pub index_of : List ℕ → List (String Global × Bor Entry) → Option ℕ
index_of q [] = None
index_of q (p ∷ ps) = if bytes_eq q (string_bytes p.0) then Some 0 else option_map suc (index_of q ps)

-- each name has the number that its index is
abbrev pub AreIndexed : (List ℕ → Option ℕ) → List (String Global × Bor Entry) → Type 0
AreIndexed number_of ps = (q : List ℕ) → number_of q ≡ index_of q ps
