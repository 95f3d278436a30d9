-- What is answered to a style is one thing.
use Rattle.std.proofs.Common.{◌≡◌, Some, None}
use Rattle.rendering_style.specs.Opening as styles
use Rattle.rendering_style.specs.Opening.{IsAnswer, macro_ring, too_deep}
use Rattle.rendering_style.specs.Styles.{Style}
use Rattle.csl_styles.specs.Files.{Csl, Dependent, Independent, Localized}
use Rattle.csl_styles.specs.Reading.{IsAnswered}

-- a style that is refused is not taken
not_both : (s : Style) (r : styles.Refusal) → IsAnswer s None → IsAnswer s (Some r) → ⊥
not_both s (macro_ring name) taken refused = taken.0 refused.0 refused.1.ring
not_both s too_deep taken refused =
    let fits = taken.1 in
    let deep = refused.1 in
    cc

pub answered_once : (c : Csl) (r : styles.Refusal) → IsAnswered c None → IsAnswered c (Some r) → ⊥
answered_once (Dependent parent default) r taken refused = cc
answered_once (Independent words s) r taken refused = not_both s r taken refused
answered_once (Localized words l) r taken refused = cc
