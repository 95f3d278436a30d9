-- Texts that go on one line.
use Rattle.std.specs.Prelude.{◌≡◌, ℕ, false, List}
use Rattle.std.specs.Char.{is_newline}
use Rattle.std.specs.List.{list_any}

-- none of the bytes of a text, or of its characters, is a line feed
abbrev pub HasNoLineFeed : List ℕ → Type 0
HasNoLineFeed text = list_any is_newline text ≡ false
