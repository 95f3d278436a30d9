-- Words without where they lie in memory.
use Rattle.std.specs.Prelude.{ℕ, List, map, string_bytes}
use Rattle.csl_nodes.specs.declared.words.Words.{Words}

-- the words of terms that no list has
abbrev pub words_view : Words → List (List ℕ)
words_view w = map string_bytes w.words.items
