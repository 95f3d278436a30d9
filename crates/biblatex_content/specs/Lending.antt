-- What a chunk is after its text was changed.
use Rattle.std.specs.Global.{Global}
use Rattle.std.specs.Prelude.{String}
use Rattle.std.specs.Borrow.{Lends, MutBor, Fml}
use Rattle.std.specs.contracts.string.String as strings
use Rattle.std.specs.contracts.alloc.Global as globals
use Rattle.std.specs.contracts.impls.GlobalAllocator.TheImpl as allocators
use Rattle.biblatex_content.specs.declared.chunk.Chunk.{Chunk}
use Rattle.biblatex_content.specs.declared.chunk.Chunk.TheVariants as chunks
use Rattle.biblatex_content.specs.contracts.chunk.Chunk.{the_row}

-- a chunk of the same kind with this text
abbrev pub with_text : Chunk → String Global → Chunk
with_text (chunks.Normal old) text = chunks.Normal text
with_text (chunks.Verbatim old) text = chunks.Verbatim text
with_text (chunks.Math old) text = chunks.Math text

abbrev pub LendsText : MutBor Chunk → MutBor (String Global) → Fml
LendsText c r = Lends the_row (strings.the_row globals.the_row allocators.ghosts) c r (with_text c.now)
