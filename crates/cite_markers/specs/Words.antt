-- The words of a marker: what each purpose and each label is called. A word is bytes, which for letters are the characters.
use Rattle.std.specs.Prelude.{ℕ, List, [], ◌∷◌, Option, codes}
use Rattle.std.specs.List.{find}
use Rattle.std.specs.Str.{bytes_eq}
use Rattle.rendering_taxonomy.specs.declared.cite.CitePurpose.{CitePurpose}
use Rattle.rendering_taxonomy.specs.declared.cite.CitePurpose.TheVariants as purposes
use Rattle.rendering_taxonomy.specs.declared.locator.Locator.{Locator}
use Rattle.rendering_taxonomy.specs.declared.locator.Locator.TheVariants as locators

-- the word of a purpose
abbrev pub purpose_word : CitePurpose → List ℕ
purpose_word purposes.Author = codes "author"
purpose_word purposes.Year = codes "year"
purpose_word purposes.Full = codes "full"
purpose_word purposes.Prose = codes "prose"

-- the purposes
abbrev pub all_purposes : List CitePurpose
all_purposes = purposes.Author ∷ purposes.Year ∷ purposes.Full ∷ purposes.Prose ∷ []

-- the purpose of that word, or none
unfoldable pub purpose_of : List ℕ → Option CitePurpose
purpose_of word = find (λ p. bytes_eq word (purpose_word p)) all_purposes

-- the word of a label
abbrev pub label_word : Locator → List ℕ
label_word locators.Act = codes "act"
label_word locators.Appendix = codes "appendix"
label_word locators.ArticleLocator = codes "article-locator"
label_word locators.Book = codes "book"
label_word locators.Canon = codes "canon"
label_word locators.Chapter = codes "chapter"
label_word locators.Column = codes "column"
label_word locators.Elocation = codes "elocation"
label_word locators.Equation = codes "equation"
label_word locators.Figure = codes "figure"
label_word locators.Folio = codes "folio"
label_word locators.Issue = codes "issue"
label_word locators.Line = codes "line"
label_word locators.Note = codes "note"
label_word locators.Opus = codes "opus"
label_word locators.Page = codes "page"
label_word locators.Paragraph = codes "paragraph"
label_word locators.Part = codes "part"
label_word locators.Rule = codes "rule"
label_word locators.Scene = codes "scene"
label_word locators.Section = codes "section"
label_word locators.SubVerbo = codes "sub-verbo"
label_word locators.Supplement = codes "supplement"
label_word locators.Table = codes "table"
label_word locators.Timestamp = codes "timestamp"
label_word locators.TitleLocator = codes "title-locator"
label_word locators.Verse = codes "verse"
label_word locators.Version = codes "version"
label_word locators.Volume = codes "volume"
label_word locators.Custom = codes "custom"

-- the labels that a marker names
abbrev pub all_labels : List Locator
all_labels =
    locators.Book ∷ locators.Chapter ∷ locators.Column ∷ locators.Figure ∷ locators.Folio ∷ locators.Issue ∷
    locators.Line ∷ locators.Note ∷ locators.Opus ∷ locators.Page ∷ locators.Paragraph ∷ locators.Part ∷
    locators.Section ∷ locators.SubVerbo ∷ locators.Verse ∷ locators.Volume ∷ locators.Supplement ∷ locators.Custom ∷ []

-- the label of that word that a marker names, or none
unfoldable pub label_of : List ℕ → Option Locator
label_of word = find (λ l. bytes_eq word (label_word l)) all_labels
