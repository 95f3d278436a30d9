use Rattle.std.proofs.Common.{◌+◌, List, ap, drop, sym, arith}
use Rattle.std.specs.Str.{chars}
use Rattle.std.proofs.lemmas.List.{at_drop_all}
use Rattle.biblatex_text.specs.declared.spanned.Spanned.{Spanned}
use Rattle.biblatex_content.specs.declared.chunk.Chunk.{Chunk}
use Rattle.laws.specs.Text.{text}
use Rattle.biblatex_content.specs.Views.{styled}
use Rattle.biblatex_content.specs.Writing.{written_verbatim}
use Rattle.biblatex_writing.proofs.Calls.{nothing, same_characters}
use Rattle.biblatex_writing.proofs.ContentMembers.{at_item, verbatim_written}
use Rattle.biblatex_writing.proofs.content.push_verbatim.Goals as goal

pub loop-chunk-preserved : goal.loop-chunk-preserved
loop-chunk-preserved g c = λ u written.
    let took = g.T.Target.takes in
    let i = c.loop-chunk.chunk-index in
    let xs = c.args.chunks.now in
    let cut = at_item (λ (ys : List (Spanned Chunk)). written_verbatim (styled ys)) xs i c.chunk-item.result c.loop-chunk-test.true c.chunk-item.is in
    c.loop-chunk.invariant u
    (same_characters took c.loop-chunk.target _ _ u (sym cut)
    (verbatim_written took c.loop-chunk.target c.chunk-item.result.v (chars c.get.result.now) (styled (drop (i + 1) xs)) c.push_characters.new.target u c.get.ensures c.push_characters.ensures written))

pub returns : goal.returns
returns g c =
    let took = g.T.Target.takes in
    let i = c.loop-chunk.chunk-index in
    let xs = c.args.chunks.now in
    let none = at_drop_all (λ (ys : List (Spanned Chunk)). written_verbatim (styled ys)) xs i (omega (arith, c.loop-chunk-test.false)) in
    c.loop-chunk.invariant c.loop-chunk.target (nothing took c.loop-chunk.target _ (ap text none))
