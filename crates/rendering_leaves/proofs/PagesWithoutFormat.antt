-- Pages without a format.
use Rattle.std.proofs.Common.{◌≡◌, false, List, None, refl}
use Rattle.literature_numbers.specs.Pages.{Part}
use Rattle.literature_values.specs.TypedViews.{ValueOrText, Value, Text}
use Rattle.rendering_context.specs.Answering.{ranges_text}
use Rattle.rendering_leaves.specs.Values.{ranges_in}

-- in a style that names no format and is no published one pages are printed as they are
pub ranges_without_format : (ps : ValueOrText (List Part)) → ranges_in None false ps ≡ ranges_text ps
ranges_without_format (Value ps) = refl
ranges_without_format (Text cs) = refl
