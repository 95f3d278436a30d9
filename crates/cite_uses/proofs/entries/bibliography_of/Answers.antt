use Rattle.std.specs.Global.{Global}
use Rattle.std.proofs.Common.{◌≡◌, List, [], ◌∷◌, ◌++◌, map, Vec, subst, ap, ◌∙◌}
use Rattle.std.specs.Option.{option_map}
use Rattle.literature_entries.specs.contracts.entry.EntryPartialEq.TheImpl as entry
use Rattle.literature_entries.specs.declared.entry.Entry.{Entry}
use Rattle.laws.specs.Results.{Gives}
use Rattle.laws.specs.Borrowed.{borrowed}
use Rattle.rendering_locale.specs.CodeViews.{code_view}
use Rattle.rendering_locale.specs.Views.{locale_view}
use Rattle.rendering_style.specs.StyleViews.{style_view}
use Rattle.driver_rounds.specs.Documents.{Document}
use Rattle.driver.specs.Finish.{finish}
use Rattle.driver.specs.RenderedViews.{rendered_view}
use Rattle.driver_rounds.specs.Views.{bibliography_context_of}
use Rattle.driver_requests.specs.Errors.{overflow_of}
use Rattle.driver_requests.specs.Views.{context_of, parts_of}
use Rattle.driver_requests.specs.declared.item.CitationItem.{CitationItem}
use Rattle.driver_requests.specs.declared.request.CitationRequest.{CitationRequest}
use Rattle.cite_requests.specs.Requests.{OwnLocator, is_same_own}
use Rattle.cite_uses.specs.Hidden.{context_in}
use Rattle.cite_uses.proofs.HiddenEntries.{asks}
use Rattle.cite_uses.proofs.entries.bibliography_of.Goals as goal

pub returns : goal.returns
returns c =
    let style = style_view c.args.style.now in
    let locale = locale_view c.args.locale.now in
    let context : context_of c.from_items.result ≡ context_in style locale = λ i. record {
      style = c.from_items.ensures.style i;
      locale = ap (option_map code_view) c.from_items.ensures.locale i;
      locale_files = ap (map locale_view) (c.from_items.ensures.files ∙ c.from_ref-files.ensures.value) i;
    } in
    let listed : bibliography_context_of c.new.result ≡ context_in style locale = λ i. record {
      style = c.new.ensures.style i;
      locale = ap (option_map code_view) c.new.ensures.locale i;
      locale_files = ap (map locale_view) (c.new.ensures.files ∙ c.from_ref-files.ensures.value) i;
    } in
    let one : c.citation.new.self.citations.items ≡ c.from_items.result ∷ [] = c.in_ok-citation.ensures.ok ∙ ap (λ (rs : List (CitationRequest Entry OwnLocator)). rs ++ c.from_items.result ∷ []) c.new-driver.ensures.requests in
    let none : c.citation.new.self.offset ≡ 0 = c.in_ok-citation.ensures.offset ∙ c.new-driver.ensures.offset in
    let hidden = ap (λ (v : Vec (CitationItem Entry OwnLocator) Global). map parts_of v.items) c.from_items.ensures.items ∙ c.in_ok-items.ensures in
    let document = asks entry.ghosts.eq style locale c.args.entries.now c.citation.new.self.citations.items c.citation.new.self.offset c.from_items.result c.new.result one none hidden context c.from_items.ensures.note listed (ap borrowed c.new.ensures.order) in
    subst (λ (d : Document OwnLocator). Gives overflow_of rendered_view c.finish.result (finish is_same_own d)) document c.finish.ensures.rendered
