-- The law that ties the relation of initials to what is written.
use Rattle.std.specs.Prelude.{◌≡◌, ◌↔◌, ℕ, Bool, List}
use Rattle.literature_values.specs.Initials.{style, initials_of}
use Rattle.literature_grammar.specs.Initials.{AreInitials}

-- These are the initials of a given name exactly where the relation says so.
abbrev pub InitialsAreWhatIsRelated : Type 0
InitialsAreWhatIsRelated = (with_hyphen : Bool) (delimiter name cs : List ℕ) → (initials_of (style delimiter with_hyphen) name ≡ cs) ↔ AreInitials with_hyphen delimiter name cs
