use Rattle.std.proofs.Common.{◌≡◌, map, sym, ◌∙◌}
use Rattle.std.proofs.lemmas.Result.{on_ok_weaker}
use Rattle.literature_values.specs.TextViews.{chunk_view}
use Rattle.rendering_cases.specs.Cases.{cased_chunks}
use Rattle.rendering_page.specs.Pieces.{append_pieces, each_piece}
use Rattle.rendering_page.specs.Views.{manner_view, quotes_view}
use Rattle.rendering_page.proofs.page.Page.push_chunks.Goals as goal

pub returns : goal.returns
returns c =
    let m = manner_view c.args.manner in
    let ks = map chunk_view c.args.chunks.now in
    let stays : ks ≡ cased_chunks m.text_case m.is_english ks = sym (c.applies.ensures.chunks c.if-applies.false ks) in
    on_ok_weaker c.push_each_chunk.result
    (λ e. e ∙ (λ i. append_pieces (quotes_view c.args.quotes.now) (each_piece (c.uncased.ensures.uncased i) (stays i)) c.args.self.now))
    c.push_each_chunk.ensures
