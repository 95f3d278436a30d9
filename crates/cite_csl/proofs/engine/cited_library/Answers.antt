use Rattle.std.proofs.Common.{◌≡◌, ℕ, Bool, List, Result, filter, refl, ap, subst, ◌∙◌}
use Rattle.std.proofs.Math.Path.{fun_ext}
use Rattle.biblatex.specs.Bibliographies.{listed_view}
use Rattle.biblatex.specs.Entries.{Source}
use Rattle.literature_entries.specs.EntriesData.{EntryData}
use Rattle.interop.specs.Library.{library_of}
use Rattle.interop.specs.Views.{lent_sources_view, library_view}
use Rattle.interop.proofs.LibraryKeys.{no_fault_among}
use Rattle.cite_markers.specs.Views.{document_view}
use Rattle.cite_requests.specs.Answers.{Gives}
use Rattle.cite_requests.specs.Cited.{entries_with, is_among, keys_cited, library_from}
use Rattle.cite_requests.specs.Stages.{Refusal, fields_refused, refused_as}
use Rattle.cite_requests.proofs.CitedWorks.{needed_is}
use Rattle.cite_csl.specs.Views.{has_key}
use Rattle.cite_csl.proofs.engine.cited_library.Goals as goal

-- tests that answer the same keep the same entries
kept_alike : (f g : List ℕ → Bool) (es : List Source) → ((t : List ℕ) → f t ≡ g t) → filter (λ (e : Source). f e.key) es ≡ filter (λ (e : Source). g e.key) es
kept_alike f g es same = ap (λ (test : List ℕ → Bool). filter (λ (e : Source). test e.key) es) (fun_ext same)

pub returns : goal.returns
returns c =
    let file = listed_view c.args.entries.now.file in
    let keys = keys_cited file (document_view c.args.document.now) in
    let es = entries_with keys file.entries in
    let same : lent_sources_view c.deref.result.now ≡ es =
    ap lent_sources_view c.deref.ensures.value ∙ c.in_ok-cited.ensures ∙ ap (λ (xs : List Source). filter (λ (e : Source). has_key c.in_ok-keys.keys e.key) xs) c.entries.ensures
    ∙ kept_alike (has_key c.in_ok-keys.keys) (is_among keys) file.entries (λ (t : List ℕ). c.in_ok-keys.ensures (record { ref_ptr = (0, 0); now = t })) in
    subst (λ (r : Result (List EntryData) Refusal). Gives library_view c.library_of.result r)
    (ap (λ (xs : List Source). refused_as fields_refused (library_of xs)) same
    ∙ needed_is es (library_from es) (no_fault_among (λ e. is_among keys e.key) file.entries c.args.entries.now.readable) refl) c.library_of.ensures
