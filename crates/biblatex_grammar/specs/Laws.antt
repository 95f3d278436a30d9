-- The laws that tie the grammar to what is read.
use Rattle.std.specs.Prelude.{◌≡◌, ◌↔◌, ℕ, List, Ok, Err}
use Rattle.biblatex_text.specs.Raw.{At, Item, Raw}
use Rattle.biblatex_text.specs.Items.{raw_of}
use Rattle.biblatex_text.specs.declared.token.Fault.{Fault}
use Rattle.biblatex_grammar.specs.Items.{IsBibliography, Holds}
use Rattle.biblatex_grammar.specs.Refusals.{IsRefused}

-- A text is read, and this is read of it, exactly where the text holds this.
abbrev pub ReadIsWhatIsHeld : Type 0
ReadIsWhatIsHeld = (cs : List ℕ) (raw : Raw) → (raw_of cs ≡ Ok raw) ↔ Holds cs raw

-- No two lists of items are those of one text.
abbrev pub ItemsAreUnique : Type 0
ItemsAreUnique = (cs : List ℕ) (is js : List (At Item)) → IsBibliography cs is → IsBibliography cs js → is ≡ js

-- A text is refused with this fault at this byte exactly where the grammar says so.
abbrev pub RefusedIsRefusal : Type 0
RefusedIsRefusal = (cs : List ℕ) (fault : Fault) (at : ℕ) → (raw_of cs ≡ Err (fault, at)) ↔ IsRefused cs fault at
