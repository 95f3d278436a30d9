-- What a text is read as where a grammar relates values to it.
use Rattle.std.specs.Prelude.{◌≡◌, Result, Ok, Err}
use Rattle.biblatex_dates.specs.declared.error.TypeErrorKind.{TypeErrorKind}
use Rattle.biblatex_dates.specs.declared.error.TypeErrorKind.TheVariants.{Unreadable}

-- A value that is related to the text; a text to which none is related is unreadable.
abbrev pub IsAnswer : {X : Type 0} → (X → Type 0) → Result X TypeErrorKind → Type 0
IsAnswer {X} Is (Ok x) = Is x
IsAnswer {X} Is (Err fault) = (fault ≡ Unreadable) × ((x : X) → Is x → ⊥)
