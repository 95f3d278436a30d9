use Rattle.std.proofs.Common.{◌≡◌, drop}
use Rattle.rendering_locale.specs.Lookup.{first_answer, term_in}
use Rattle.rendering_locale.specs.Views.{locales_view}
use Rattle.rendering_locale.proofs.looking.term_of_form.Given as goal

abbrev pub invariant-loop-locale : goal.invariant-loop-locale
invariant-loop-locale l = first_answer (term_in l.name l.form) (locales_view (drop l.locale-index l.locales)) ≡ first_answer (term_in l.name l.form) (locales_view l.locales)
