-- Whether a styled text has a member.
use Rattle.std.proofs.Common.{◌≡◌, true, false, List, [], ◌∷◌, ◌++◌, refl}
use Rattle.biblatex_content.specs.Styled.{Member}
use Rattle.laws.specs.Text.{is_filled}

-- a text with a member before others has a member
pub some_before : (ms ns : List Member) → is_filled ms ≡ true → is_filled (ms ++ ns) ≡ true
some_before [] ns e = absurd cc
some_before (m ∷ ms) ns e = refl

-- a text without members before others has a member where they do
pub none_before : (ms ns : List Member) → is_filled ms ≡ false → is_filled (ms ++ ns) ≡ is_filled ns
none_before [] ns e = refl
none_before (m ∷ ms) ns e = absurd cc
