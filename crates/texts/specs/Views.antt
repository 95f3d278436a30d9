-- What the reader holds, without where it lies in memory.
use Rattle.std.specs.Prelude.{ℕ, List}
use Rattle.std.specs.Str.{chars}
use Rattle.texts.specs.declared.reader.Reader.{Reader}

-- the characters that are left to read
abbrev pub left : Reader → List ℕ
left r = chars r.rest.now
