-- What was written, as characters.
use Rattle.std.proofs.Common.{◌≡◌, ℕ, ◌<◌, ◌^◌, ◌+◌, List, [], ◌∷◌, ◌++◌, length, get_or, take, map, refl, ℤ, w32, FitsSigned, sym, ap, ◌∙◌, arith, append-nil}
use Rattle.std.specs.Fmt.{signed_decimal}
use Rattle.std.specs.List.{flat_map}
use Rattle.std.specs.Str.{IsAscii}
use Rattle.std.proofs.Math.Utf8.{encodes}
use Rattle.std.proofs.lemmas.Fmt.{IsAscii-signed}
use Rattle.std.proofs.lemmas.Grind.{flat_map-append}
use Rattle.std.proofs.lemmas.Int.{ints}
use Rattle.std.proofs.lemmas.List.{take_more}
use Rattle.std.proofs.lemmas.Str.{encodes-chars, chars-IsAscii, IsUtf8-from_ascii}
use Rattle.laws.specs.Text.{text}
use Rattle.laws.proofs.Text.{text-append}
use lib.Signed.{mag}

-- ASCII spells itself
pub text-ascii : (bs : List ℕ) → IsAscii bs → text bs ≡ bs
text-ascii bs ascii = sym (ap encodes (chars-IsAscii bs ascii)) ∙ encodes-chars bs (IsUtf8-from_ascii bs ascii)

-- a number is written in ASCII
pub text-number : (z : ℤ) → FitsSigned w32 z → text (signed_decimal z) ≡ signed_decimal z
text-number z fits =
    let small : mag z < 2 ^ 63 = omega (arith, ints) in
    text-ascii (signed_decimal z) (IsAscii-signed z small)

-- what is written of one more element stands after what is written of those before it
pub text-more : {X : Type 0} (f : X → List ℕ) (xs : List X) (i : ℕ) (d : X) → i < length xs → text (flat_map f (take i xs)) ++ text (f (get_or xs i d)) ≡ text (flat_map f (take (i + 1) xs))
text-more {X} f xs i d below =
    sym (ap (λ (ys : List X). text (flat_map f ys)) (take_more xs i d below)
    ∙ ap text (flat_map-append f (take i xs) (get_or xs i d ∷ []))
    ∙ ap (λ (t : List ℕ). text (flat_map f (take i xs) ++ t)) (append-nil (f (get_or xs i d)))
    ∙ text-append (flat_map f (take i xs)) (f (get_or xs i d)))

-- the texts of the views of elements are those of the elements under the view
flat_map-view : {X Y : Type 0} (f : Y → List ℕ) (v : X → Y) (xs : List X) → flat_map (λ x. f (v x)) xs ≡ flat_map f (map v xs)
flat_map-view f v [] = refl
flat_map-view f v (x ∷ xs) = ap (λ (t : List ℕ). f (v x) ++ t) (flat_map-view f v xs)

-- one more element is written, as it is viewed
pub text-more_view : {X Y : Type 0} (f : Y → List ℕ) (v : X → Y) (xs : List X) (i : ℕ) (d : X) → i < length xs
    → text (flat_map f (map v (take i xs))) ++ text (f (v (get_or xs i d))) ≡ text (flat_map f (map v (take (i + 1) xs)))
text-more_view f v xs i d below =
    ap (λ (t : List ℕ). text t ++ text (f (v (get_or xs i d)))) (sym (flat_map-view f v (take i xs))) ∙ text-more (λ x. f (v x)) xs i d below
    ∙ ap text (flat_map-view f v (take (i + 1) xs))
