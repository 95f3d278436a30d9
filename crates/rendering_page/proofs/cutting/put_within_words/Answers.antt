use Rattle.std.proofs.Common.{◌≡◌, ◌∷◌, [], ◌++◌, ap, ◌∙◌, sym, arith}
use Rattle.std.specs.Str.{chars}
use Rattle.laws.specs.Text.{characters}
use Rattle.rendering_tree.specs.Tokens.{with_letters}
use Rattle.rendering_page.specs.Cuts.{IsCut}
use Rattle.rendering_page.specs.Views.{words_view}
use Rattle.rendering_page.proofs.CutsEnds.{before_letters, before_text, same_cut}
use Rattle.rendering_page.proofs.cutting.put_within_words.Goals as goal

pub returns-then-missing-gt0 : goal.returns-then-missing-gt0
returns-then-missing-gt0 c ts =
    let back = c.back_of-missing in
    let cs = words_view c.args.words.now in
    let cut : IsCut cs c.args.count back.ensures.0 (chars back.result.0.now) back.result.1 = rw (← c.as_str.ensures) back.ensures.1 in
    before_text c.args.formatting cs back.ensures.0 (chars back.result.0.now) c.args.c c.args.count back.result.1 ts c.if-missing-gt0.true cut

pub returns : goal.returns
returns c ts =
    let back = c.back_of-missing in
    let cs = words_view c.args.words.now in
    let leading = back.ensures.0 in
    let last = chars back.result.0.now in
    let none : back.result.1 ≡ 0 = omega (arith, c.if-missing-gt0.false) in
    let cut : IsCut cs c.args.count leading last 0 = rw (← c.as_str.ensures, ← none) back.ensures.1 in
    let made : characters c.push_text.new.text ≡ c.args.c ∷ last =
    c.in_ok-push_text.ensures ∙ ap (λ xs. xs ++ last) (c.in_ok-push_character.ensures ∙ ap (λ xs. xs ++ c.args.c ∷ []) c.empty_text-text.ensures.characters) in
    let same : words_view c.cut.new.self ≡ leading = same_cut cs leading last (words_view c.cut.new.self) c.cut.ensures.0 c.args.count c.cut.result cut c.cut.ensures.1 in
    before_letters c.args.formatting cs leading last c.args.c c.args.count ts c.requires cut
    ∙ (λ i. with_letters c.args.formatting (sym made i) (with_letters c.args.formatting (sym same i) ts))
