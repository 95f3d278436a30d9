-- What published styles ask for changes nothing of the prose of others, nor of their years that are collapsed.
use Rattle.std.proofs.Common.{ap}
use Rattle.std.specs.Prelude.{if◌then◌else◌}
use Rattle.rendering_leaves.specs.NodeSettings.{author_only, without_author, first_date_only, authors_alone, without_names}
use Rattle.rendering_page.specs.Pages.{is_joined}
use Rattle.rendering.specs.LeftOpen.{StylesEncloseAsWritten}
use Rattle.rendering.specs.Purposes.{append_enclosed, append_framed, author_variable}
use Rattle.rendering_taxonomy.specs.declared.page.PageRule.{PageRule}

pub enclose_as_written : StylesEncloseAsWritten
enclose_as_written s e = record {
  authors = λ c. ap (λ (r : PageRule). if is_joined r then authors_alone (author_variable c) else author_only (author_variable c)) e;
  rest = λ c. ap (λ (r : PageRule). if is_joined r then without_names (author_variable c) else without_author) e;
  later = λ c. ap (λ (r : PageRule). if is_joined r then without_names (author_variable c) else first_date_only) e;
  between = λ c form prefix suffix st. ap (λ (r : PageRule). if is_joined r then append_framed s c form prefix suffix st else append_enclosed s c form prefix suffix st) e;
}
