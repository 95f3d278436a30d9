-- Languages that are asked for, behind a borrow.
use Rattle.std.proofs.Common.{◌≡◌, Option, Some, None, refl}
use Rattle.std.specs.Borrow.{Bor}
use Rattle.std.specs.Option.{option_copied, option_map}
use Rattle.rendering_locale.specs.CodeViews.{borrowed_code_view, code_view}
use Rattle.rendering_locale.specs.declared.code.LocaleCode.{LocaleCode}

-- a borrowed code is viewed as the code is
pub code_seen : (o : Option (Bor LocaleCode)) → option_map borrowed_code_view o ≡ option_map code_view (option_copied o)
code_seen None = refl
code_seen (Some b) = refl
