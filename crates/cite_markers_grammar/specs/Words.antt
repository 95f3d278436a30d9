-- What is written for a purpose and for the label of a locator, and which labels a marker names.
use Rattle.std.specs.Prelude.{ℕ, Bool, true, false, List, codes}
use Rattle.rendering_taxonomy.specs.declared.cite.CitePurpose.{CitePurpose}
use Rattle.rendering_taxonomy.specs.declared.cite.CitePurpose.TheVariants.{Author, Year, Full, Prose}
use Rattle.rendering_taxonomy.specs.declared.locator.Locator.{Locator}
use Rattle.rendering_taxonomy.specs.declared.locator.Locator.TheVariants as labels

abbrev pub written_purpose : CitePurpose → List ℕ
written_purpose Author = codes "author"
written_purpose Year = codes "year"
written_purpose Full = codes "full"
written_purpose Prose = codes "prose"

abbrev pub written_label : Locator → List ℕ
written_label labels.Act = codes "act"
written_label labels.Appendix = codes "appendix"
written_label labels.ArticleLocator = codes "article-locator"
written_label labels.Book = codes "book"
written_label labels.Canon = codes "canon"
written_label labels.Chapter = codes "chapter"
written_label labels.Column = codes "column"
written_label labels.Elocation = codes "elocation"
written_label labels.Equation = codes "equation"
written_label labels.Figure = codes "figure"
written_label labels.Folio = codes "folio"
written_label labels.Issue = codes "issue"
written_label labels.Line = codes "line"
written_label labels.Note = codes "note"
written_label labels.Opus = codes "opus"
written_label labels.Page = codes "page"
written_label labels.Paragraph = codes "paragraph"
written_label labels.Part = codes "part"
written_label labels.Rule = codes "rule"
written_label labels.Scene = codes "scene"
written_label labels.Section = codes "section"
written_label labels.SubVerbo = codes "sub-verbo"
written_label labels.Supplement = codes "supplement"
written_label labels.Table = codes "table"
written_label labels.Timestamp = codes "timestamp"
written_label labels.TitleLocator = codes "title-locator"
written_label labels.Verse = codes "verse"
written_label labels.Version = codes "version"
written_label labels.Volume = codes "volume"
written_label labels.Custom = codes "custom"

abbrev pub is_named : Locator → Bool
is_named labels.Act = false
is_named labels.Appendix = false
is_named labels.ArticleLocator = false
is_named labels.Canon = false
is_named labels.Elocation = false
is_named labels.Equation = false
is_named labels.Rule = false
is_named labels.Scene = false
is_named labels.Table = false
is_named labels.Timestamp = false
is_named labels.TitleLocator = false
is_named labels.Version = false
is_named l = true
