use Rattle.std.proofs.Common.{◌≡◌, true, false, [], ◌∷◌, codes, refl, sym, ap, ◌∙◌}
use Rattle.std.specs.Str.{chars}
use Rattle.std.proofs.lemmas.Result.{on_ok_weaker}
use Rattle.std.proofs.lemmas.Str.{chars-encodes}
use Rattle.laws.specs.Characters.{space}
use Rattle.rendering_tree.specs.Tokens.{last_backwards}
use Rattle.rendering_page.specs.Pages.{Page, ends_spaced, is_begun, append_verbatim}
use Rattle.rendering_page.specs.Views.{pieces_view}
use Rattle.rendering_page.proofs.PagesAppending.{space_there}
use Rattle.rendering_page.proofs.page.Page.ensure_space.Goals as goal

space_characters : chars (codes " ") ≡ space ∷ []
unfolding lib.Utf8.encode
space_characters = chars-encodes (codes " ") refl

pub returns : goal.returns
returns c =
    let page = c.args.self.now in
    let tokens : pieces_view c.self.inside.pieces.items ≡ page.tokens = ap (λ (p : Page). p.tokens) c.self.view_is in
    let begun : is_begun page.tokens ≡ true =
    ap is_begun (sym tokens) ∙ ap (λ ps. is_begun (pieces_view ps)) (sym c.deref.ensures.value) ∙ sym c.is_begun.ensures ∙ c.if-not-is_begun.false in
    let none : ends_spaced (last_backwards page.tokens) ≡ false =
    ap (λ ts. ends_spaced (last_backwards ts)) (sym tokens)
    ∙ ap (λ ps. ends_spaced (last_backwards (pieces_view ps))) (sym c.deref-else-not-is_begun.ensures.value)
    ∙ sym c.ends_spaced.ensures
    ∙ c.if-ends_spaced.false in
    on_ok_weaker c.push_verbatim.result (λ e. e ∙ ap (λ f. append_verbatim f (chars (codes " ")) page) c.plain.ensures ∙ space_there page (chars (codes " ")) space_characters begun none) c.push_verbatim.ensures
