-- Texts in bytes, as characters.
use Rattle.std.proofs.Common.{◌≡◌, ℕ, List, Option, Some, None, Bor, refl}
use Rattle.std.specs.Option.{option_map}
use Rattle.std.specs.Str.{chars}
use Rattle.literature_entries.specs.Views.{view_in}

-- the characters of a borrowed text, where there is one
pub chars_in : (t : Option (Bor (List ℕ))) → view_in chars t ≡ option_map chars (view_in (λ s. s) t)
chars_in None = refl
chars_in (Some s) = refl
