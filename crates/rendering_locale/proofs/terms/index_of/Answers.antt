use Rattle.std.proofs.Common.{◌≡◌, ◌+◌, ◌-◌, ◌<◌, cond, Some, drop, length, map, sym, ap, ◌∙◌, arith}
use Rattle.std.specs.List.{position_from}
use Rattle.std.proofs.lemmas.Iterator.Adapters.{position_from-zero}
use Rattle.rendering_locale.specs.Indexed.{is_named}
use Rattle.rendering_locale.specs.TermViews.{term_view}
use Rattle.rendering_locale.proofs.TermPlaces.{place_more}
use Rattle.rendering_locale.proofs.terms.index_of.Goals as goal

pub loop-left-preserved : goal.loop-left-preserved
loop-left-preserved c =
    let xs = c.args.terms.now in
    let i = c.loop-left.left - 1 in
    let x = c.index-terms-left.result in
    let next : c.loop-left.left ≡ i + 1 = omega (arith, c.loop-left-test.true) in
    let low : i < length xs = omega (arith, c.loop-left-test.true, c.loop-left.invariant.within) in
    record {
      placed = λ name form.
          c.in_ok-put_first.ensures name form
          ∙ ap (λ o. cond (is_named name form (term_view x)) (Some i) o) (c.loop-left.invariant.placed name form ∙ ap (λ n. position_from (is_named name form) n (map term_view (drop n xs))) next)
          ∙ place_more term_view (is_named name form) xs i x low c.index-terms-left.is;
      within = omega (arith, low);
    }

pub returns : goal.returns
returns c = λ name form.
    let xs = c.args.terms.now in
    let first : c.loop-left.left ≡ 0 = omega (arith, c.loop-left-test.false) in
    c.loop-left.invariant.placed name form
    ∙ ap (λ n. position_from (is_named name form) n (map term_view (drop n xs))) first
    ∙ sym (position_from-zero (is_named name form) (map term_view xs))
