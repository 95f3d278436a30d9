use Rattle.std.proofs.Common.{◌≡◌, List, Option, Some, ap, ◌∙◌}
use Rattle.std.specs.Option.{option_map}
use Rattle.rendering_locale.specs.Locales.{Locale, LocalizedTerm}
use Rattle.rendering_locale.specs.Lookup.{term_found, text_of}
use Rattle.rendering_locale.specs.Views.{term_view, locales_view}
use Rattle.rendering_locale.proofs.asked.AskedLocales.term.Goals as goal

pub returns-in-Some : goal.returns-in-Some
returns-in-Some c =
    let found : Some (term_view c.in-Some.term.now) ≡ term_found c.args.self.now c.args.name c.args.form =
    c.in-Some.ensures ∙ ap (λ (ls : List Locale). term_found ls c.args.name c.args.form) (ap locales_view c.deref.ensures.value ∙ c.self.view_is) in
    ap Some c.text_of.ensures ∙ ap (λ (o : Option LocalizedTerm). option_map (text_of c.args.plural) o) found
