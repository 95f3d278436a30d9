use Rattle.std.proofs.Common.{ℕ, List, ◌++◌, ap, ◌∙◌}
use Rattle.std.specs.List.{flat_map}
use Rattle.std.proofs.lemmas.List.{take_all}
use Rattle.laws.specs.Text.{characters}
use Rattle.rendering_page.specs.Cursors.{shown_of}
use Rattle.rendering_page.proofs.PageCharactersPages.{text_shown}
use Rattle.rendering_page.proofs.page_characters.push_shown.Goals as goal

pub returns : goal.returns
returns c =
    let old = characters c.args.output.now in
    let pieces = c.args.pieces.now in
    c.loop-piece.invariant
    ∙ ap (λ ps. old ++ flat_map shown_of ps) (take_all c.loop-piece.piece-index pieces c.loop-piece-test.false)
    ∙ ap (λ (cs : List ℕ). old ++ cs) (text_shown pieces)
