use Rattle.std.proofs.Common.{◌≡◌, length, take, sym, ap, ◌∙◌}
use Rattle.std.proofs.lemmas.Result.{on_ok_weaker}
use Rattle.rendering_page.specs.Pieces.{append_pieces}
use Rattle.rendering_page.specs.Views.{quotes_view}
use Rattle.rendering_names.specs.Names.{rest_pieces, shown_pieces}
use Rattle.rendering_names.specs.Views.{indexed, name_style_view}
use Rattle.rendering_names.proofs.PiecesAppended.{append-both}
use Rattle.rendering_names.proofs.IndexedSteps.{length-indexed, list-cut}
use Rattle.rendering_names.proofs.style.NameStyle.push_list.Goals as goal

pub push_rest-requires-clause-all : goal.push_rest-requires-clause-all
push_rest-requires-clause-all c = let e = length-indexed c.args.forms.now c.args.people.now in cc

pub returns : goal.returns
returns c =
    let s = name_style_view c.args.self.now in
    let v = c.args.variable in
    let all = indexed c.args.forms.now c.args.people.now in
    let quotes = quotes_view c.args.self.now.setting.quotes.now in
    let count : c.min-count.result ≡ length all = c.min-count.ensures ∙ sym (length-indexed c.args.forms.now c.args.people.now) in
    on_ok_weaker c.push_rest.result
    (λ e. append-both quotes (shown_pieces s v c.min-count.result (take c.min.result all)) (rest_pieces s v c.min-count.result c.args.shown all)
    c.args.page.now c.push_shown.new.page c.push_rest.new.page c.in_ok-push_shown.ensures e
    ∙ ap (λ ps. append_pieces quotes ps c.args.page.now) (list-cut s v c.args.shown c.min-count.result c.min.result all count c.min.ensures))
    c.push_rest.ensures
