-- What the callers ask of `cite` for a document.
use Rattle.std.specs.Prelude.{ℕ, List, []}
use Rattle.cite_styles.specs.English.{english}
use Rattle.rendering_output.specs.declared.writing.BufWriteFormat.TheVariants.{Plain}
use Rattle.cite_styles.specs.Styles.{numeric}
use Rattle.cite_requests.specs.Requests.{context_of}
use Rattle.cite.specs.Verdict.{Task}

-- citations as numbers, in English and plain text, without sections
abbrev pub by_numbers : List ℕ → Task
by_numbers document = record { document = document; context = context_of numeric english; sections = []; format = Plain }
