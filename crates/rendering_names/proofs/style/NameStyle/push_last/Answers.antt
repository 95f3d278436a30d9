use Rattle.std.proofs.Common.{◌≡◌, [], ◌∷◌, ap, ◌∙◌}
use Rattle.std.proofs.lemmas.Result.{on_ok_weaker}
use Rattle.laws.specs.Characters.{space}
use Rattle.rendering_page.specs.Pages.{append_normal}
use Rattle.rendering_page.specs.Pieces.{append_pieces}
use Rattle.rendering_page.specs.Views.{quotes_view}
use Rattle.rendering_names.specs.Names.{after_ellipsis}
use Rattle.rendering_names.specs.Views.{name_style_view}
use Rattle.rendering_names.proofs.IndexedSteps.{last-append}
use Rattle.rendering_names.proofs.style.NameStyle.push_last.Goals as goal

pub returns : goal.returns
returns c =
    let s = name_style_view c.args.self.now in
    let quotes = quotes_view c.args.self.now.setting.quotes.now in
    let before : c.push_space.new.page ≡ append_pieces quotes (after_ellipsis s []) c.args.page.now =
    c.in_ok-push_space.ensures
    ∙ ap (append_normal quotes s.manner (space ∷ [])) (c.in_ok-push_text.ensures ∙ (λ i. append_normal quotes s.manner (c.ellipsis.ensures i) (c.in_ok-push_delimiter.ensures i))) in
    on_ok_weaker c.push_name.result
    (λ e. last-append quotes s c.args.variable c.args.forms.now c.args.people.now c.args.last _ c.index-people-last.result
    c.args.page.now c.push_space.new.page c.push_name.new.page c.requires.forms c.requires.people c.index-people-last.is c.requires.all before e)
    c.push_name.ensures
