use Rattle.std.proofs.Common.{cond, Some, ap, ◌∙◌}
use Rattle.std.specs.BTreeMap.{is_at}
use Rattle.rendering_locale.specs.Indexed.{key_cmp, place_of, term_key}
use Rattle.rendering_locale.specs.TermViews.{term_view}
use Rattle.rendering_locale.proofs.TermPlaces.{key_named}
use Rattle.rendering_locale.proofs.terms.put_first.Goals as goal

pub returns : goal.returns
returns c = λ name form.
    c.in_ok-insert.ensures.updates.0 (term_key name form)
    ∙ ap (λ k. cond (is_at (key_cmp k) (term_key name form)) (Some c.args.place) (place_of c.args.index.now name form)) c.term_key.ensures
    ∙ ap (λ b. cond b (Some c.args.place) (place_of c.args.index.now name form)) (key_named (term_view c.args.term.now) name form)
