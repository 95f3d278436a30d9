use Rattle.std.proofs.Common.{◌≡◌, drop}
use Rattle.rendering_locale.specs.Lookup.{first_answer, term_in}
use Rattle.rendering_locale.specs.Views.{locales_view}
use Rattle.rendering_taxonomy.specs.declared.term.TermForm.{TermForm}
use Rattle.rendering_locale.proofs.looking.term_found.Given as goal

abbrev pub invariant-loop-next : goal.invariant-loop-next
invariant-loop-next l = first_answer (λ (f : TermForm). first_answer (term_in l.name f) (locales_view l.locales)) (drop l.next-index l.forms) ≡ first_answer (λ (f : TermForm). first_answer (term_in l.name f) (locales_view l.locales)) l.forms
