-- What a call is given, without where it lies in memory.
use Rattle.std.specs.Prelude.{ℕ, List, map}
use Rattle.std.specs.Borrow.{Bor}
use Rattle.laws.specs.Text.{spelled}
use Rattle.rendering_locale.specs.Views.{locale_view}
use Rattle.rendering_locale.specs.declared.locale.Locale.{Locale}
use Rattle.rendering_output.specs.declared.writing.BufWriteFormat.{BufWriteFormat}
use Rattle.rendering_style.specs.StyleViews.{style_view}
use Rattle.rendering_style.specs.declared.style.Style.{Style}
use Rattle.cite_requests.specs.Requests.{context_of}
use Rattle.cite.specs.Verdict.{Task}

-- what a call is given beside the bib text
abbrev pub task_of : List ℕ → Style → Locale → List (Bor (List ℕ)) → BufWriteFormat → Task
task_of document style locale sections format = record {
  document = document;
  context = context_of (style_view style) (locale_view locale);
  sections = map spelled sections;
  format = format;
}
