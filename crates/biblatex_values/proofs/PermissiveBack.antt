-- Values that may be chunks as they are, and that were written, are read back.
use Rattle.std.proofs.Common.{◌≡◌, List, Result, Ok, refl}
use Rattle.biblatex_content.specs.Styled.{Member}
use Rattle.biblatex_dates.specs.declared.error.TypeErrorKind.{TypeErrorKind}
use Rattle.biblatex_values.specs.Permissive.{Permitted, Value, Text, reads_permissive, writes_permissive, IsPermitted}

pub permissive_back : {V : Type 0} (reads : List Member → Result V TypeErrorKind) (writes : V → List Member) (InClass : V → Type 0)
    → ((v : V) → InClass v → reads (writes v) ≡ Ok v) → (p : Permitted V) → IsPermitted reads InClass p → reads_permissive reads (writes_permissive writes p) ≡ Ok p
permissive_back reads writes InClass back (Value v) is = rw (back v is) refl
permissive_back reads writes InClass back (Text ms) is = rw is.1 refl
