-- Codes of languages without where they lie in memory.
use Rattle.std.specs.Prelude.{ℕ, List, string_bytes}
use Rattle.std.specs.Borrow.{Bor}
use Rattle.rendering_locale.specs.declared.code.LocaleCode.{LocaleCode}

-- a code
abbrev pub code_view : LocaleCode → List ℕ
code_view c = string_bytes c.0

-- a borrowed code
abbrev pub borrowed_code_view : Bor LocaleCode → List ℕ
borrowed_code_view c = code_view c.now
