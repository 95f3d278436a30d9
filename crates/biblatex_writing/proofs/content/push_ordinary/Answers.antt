use Rattle.std.proofs.Common.{◌+◌, List, drop, sym, arith}
use Rattle.std.proofs.lemmas.List.{at_drop_all}
use Rattle.biblatex_text.specs.declared.spanned.Spanned.{Spanned}
use Rattle.biblatex_content.specs.declared.chunk.Chunk.{Chunk}
use Rattle.biblatex_content.specs.Views.{styled}
use Rattle.biblatex_content.specs.Writing.{closing, written_from}
use Rattle.biblatex_writing.proofs.Calls.{one_ascii, same_characters}
use Rattle.biblatex_writing.proofs.ContentMembers.{at_item, closing_ascii}
use Rattle.biblatex_writing.proofs.content.push_ordinary.Goals as goal

pub loop-chunk-preserved : goal.loop-chunk-preserved
loop-chunk-preserved g c = λ u written.
    let took = g.T.Target.takes in
    let i = c.loop-chunk.chunk-index in
    let xs = c.args.chunks.now in
    let cut = at_item (λ (ys : List (Spanned Chunk)). written_from c.loop-chunk.is_open (styled ys)) xs i c.chunk-item.result c.loop-chunk-test.true c.chunk-item.is in
    c.loop-chunk.invariant u
    (same_characters took c.loop-chunk.target _ _ u (sym cut) (c.push_chunk-is_open.ensures (styled (drop (i + 1) xs)) u written))

pub returns : goal.returns
returns g c =
    let took = g.T.Target.takes in
    let i = c.loop-chunk.chunk-index in
    let xs = c.args.chunks.now in
    let none = at_drop_all (λ (ys : List (Spanned Chunk)). written_from c.loop-chunk.is_open (styled ys)) xs i (omega (arith, c.loop-chunk-test.false)) in
    c.loop-chunk.invariant c.push_str.new.self
    (same_characters took c.loop-chunk.target _ _ c.push_str.new.self (sym none)
    (one_ascii took c.loop-chunk.target c.closing.result.now (closing c.loop-chunk.is_open) c.push_str.new.self c.closing.ensures (closing_ascii c.loop-chunk.is_open) c.push_str.ensures))
