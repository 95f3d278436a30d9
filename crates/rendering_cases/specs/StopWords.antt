-- Words that stay small within an English title.
use Rattle.std.specs.Prelude.{ℕ, Bool, ◌&&◌, not, List, [], ◌∷◌, codes}
use Rattle.std.specs.List.{list_any}
use Rattle.std.specs.Str.{bytes_eq}
use Rattle.laws.specs.Runs.{prefix_of, after}
use Rattle.laws.specs.Text.{text}
use Rattle.rendering_cases.specs.Words.{is_letter}

-- in the order of the alphabet
abbrev pub stop_words : List (List ℕ)
stop_words =
    codes "a" ∷ codes "about" ∷ codes "an" ∷ codes "and" ∷ codes "as" ∷ codes "at"
    ∷ codes "but" ∷ codes "by" ∷ codes "de" ∷ codes "down" ∷ codes "for" ∷ codes "from"
    ∷ codes "in" ∷ codes "into" ∷ codes "nor" ∷ codes "of" ∷ codes "on" ∷ codes "onto"
    ∷ codes "or" ∷ codes "over" ∷ codes "so" ∷ codes "the" ∷ codes "till" ∷ codes "to"
    ∷ codes "up" ∷ codes "van" ∷ codes "via" ∷ codes "von" ∷ codes "with" ∷ codes "yet"
    ∷ []

-- the letters that a word begins with are one of these, and no others are in it
abbrev pub is_stop_word : List ℕ → Bool
is_stop_word w =
    list_any (bytes_eq (text (prefix_of is_letter w))) stop_words
    && not (list_any is_letter (after is_letter w))
