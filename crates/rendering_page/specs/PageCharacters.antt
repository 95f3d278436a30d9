-- What a page shows.
use Rattle.std.specs.Prelude.{ℕ, false, List, [], ◌∷◌, ◌++◌, None}
use Rattle.rendering_taxonomy.specs.Formats.{plain}
use Rattle.rendering_tree.specs.Tokens.{Token, letter, formula, link}
use Rattle.rendering_page.specs.Pages.{Manner}

-- the characters of a page, in reading order
abbrev pub page_text : List Token → List ℕ
page_text [] = []
page_text (letter f c ∷ ts) = page_text ts ++ c ∷ []
page_text (formula cs ∷ ts) = page_text ts ++ cs
page_text (link f cs url ∷ ts) = page_text ts ++ cs
page_text (t ∷ ts) = page_text ts

-- the manner of texts in the default formatting and in the case that they have
abbrev pub plain_manner : Manner
plain_manner = record { formatting = plain; strips_periods = false; text_case = None; is_english = false }
