use Rattle.std.proofs.Common.{◌≡◌, ℕ, List, Option, Some, None, refl, sym, ap, ◌∙◌}
use Rattle.std.specs.Prelude.{string_bytes}
use Rattle.std.specs.Option.{option_map, option_copied}
use Rattle.std.specs.Borrow.{Bor}
use Rattle.literature_entries.specs.Views.{key_view}
use Rattle.literature_entries.specs.EntriesData.{entry_view}
use Rattle.literature_entries.specs.declared.entry.Entry.{Entry}
use Rattle.literature.specs.Keys.{with_key}
use Rattle.literature.specs.Entries.{entries}
use Rattle.interop.specs.Views.{library_view}
use Rattle.interop.specs.Library.{key_of}
use Rattle.cite_requests.proofs.WorksKeys.{found_is}
use Rattle.cite_requests.proofs.bib_file.work_of.Goals as goal

view_in : (o : Option (Bor Entry)) → option_map (λ (e : Bor Entry). entry_view e.now) o ≡ option_map entry_view (option_copied o)
view_in None = refl
view_in (Some e) = refl

pub returns : goal.returns
returns c =
    let name = string_bytes c.args.entry.now.key in
    let found : option_copied c.get.result ≡ with_key key_view name (entries c.args.library.now) =
    c.get.ensures ∙ ap (λ (n : List ℕ). with_key key_view n (entries c.args.library.now)) c.as_str.ensures.value in
    let work : option_map (λ (e : Bor Entry). entry_view e.now) c.get.result ≡ with_key key_of name (library_view c.args.library.now) =
    view_in c.get.result ∙ (ap (option_map entry_view) found ∙ found_is name (entries c.args.library.now)) in
    rw (sym c.if-is_xdata.ensures) work
