-- Terms without where they lie in memory. Their texts are viewed as characters.
use Rattle.std.specs.Option.{option_map}
use Rattle.laws.specs.Text.{characters}
use Rattle.rendering_locale.specs.Locales as locales
use Rattle.rendering_locale.specs.declared.locale.LocalizedTerm.{LocalizedTerm}

-- a term
abbrev pub term_view : LocalizedTerm → locales.LocalizedTerm
term_view t = record { name = t.name; form = t.form; single = option_map characters t.single; multiple = option_map characters t.multiple; gender = t.gender }
