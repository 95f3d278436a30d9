-- What a text is read as where a grammar relates values to it.
use Rattle.std.specs.Prelude.{Result, Ok, Err}
use Rattle.texts.specs.declared.reader.Unreadable.{Unreadable}

-- A value that is related to the text, or a refusal where none is.
abbrev pub IsAnswer : {X : Type 0} → (X → Type 0) → Result X Unreadable → Type 0
IsAnswer {X} Is (Ok x) = Is x
IsAnswer {X} Is (Err f) = (x : X) → Is x → ⊥
