-- Entries that were read.
use Rattle.std.proofs.Common.{◌≡◌, List, Result, Ok, Err, refl, arith}
use Rattle.std.specs.Prelude.{IfOk}
use Rattle.biblatex_text.specs.Raw.{At, Entry}
use Rattle.biblatex_fields.specs.Abbreviations.{Glossary}
use Rattle.biblatex_meaning.specs.Reading.{Refusal, Loaded, nothing_loaded, loaded}
use Rattle.biblatex_meaning.proofs.ReadingLoaded.{as_read, loaded_more}
use Rattle.biblatex_meaning.specs.Meanings.{IsWellRead}

pub read_well : (g : Glossary) (l : Loaded) (es : List (At Entry)) → loaded g es ≡ Ok l → IsWellRead l
read_well g l es is =
    let more = loaded_more g nothing_loaded l es is in
    record { names = as_read g l es is; keys = omega (arith, more.entries, more.keys) }

pub all_read_well : (g : Glossary) (es : List (At Entry)) → IfOk (loaded g es) IsWellRead
all_read_well g es = by (loaded g es) refl
  where
    by : (r : Result Loaded Refusal) → loaded g es ≡ r → IfOk r IsWellRead
    by (Ok l) is = read_well g l es is
    by (Err r) is = tt
