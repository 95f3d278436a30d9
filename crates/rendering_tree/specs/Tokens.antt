-- What stands on a page, in one flat list. The list has the last token first, so what holds of the end of a page holds of
-- the start of the list. Texts are lists of characters, characters are numbers.
use Rattle.std.specs.Prelude.{ℕ, zero, suc, List, [], ◌∷◌, reverse, fold, if◌then◌else◌, Option}
use Rattle.rendering_taxonomy.specs.Formats.{looks_like}
use Rattle.rendering_tree.specs.Metas.{Meta}
use Rattle.rendering_taxonomy.specs.declared.formatting.Display.{Display}
use Rattle.rendering_taxonomy.specs.declared.formatting.Formatting.{Formatting}

-- A character that looks so; a formula; a link from a text that looks so to an address; a locator of the caller's own, by
-- the index of its cite; where an element with a display or a meaning begins and ends. A mark and its end stand where
-- something begins and ends that is to be removed if it prints nothing; they are no part of what is printed.
pub data Token : Type 0 where
  letter : Formatting → ℕ → Token
  formula : List ℕ → Token
  link : Formatting → List ℕ → List ℕ → Token
  transparent : Formatting → ℕ → Token
  opening : Option Display → Option Meta → Token
  closing : Token
  mark : Token
  unmark : Token

-- a text after what is there
abbrev pub with_letters : Formatting → List ℕ → List Token → List Token
with_letters f cs ts = fold (λ done c. letter f c ∷ done) ts cs

-- the characters that look so from the end on; marks do not part them, all else does
abbrev pub alike_from : Formatting → List Token → List ℕ
alike_from f (letter g c ∷ ts) = if looks_like f g then c ∷ alike_from f ts else []
alike_from f (mark ∷ ts) = alike_from f ts
alike_from f (unmark ∷ ts) = alike_from f ts
alike_from f ts = []

-- the last text, its last character first: the last character and those before it that look like it, whatever begins or ends
-- after them; where a formula, a link or a locator of the caller's own is last there is none
abbrev pub last_backwards : List Token → List ℕ
last_backwards (letter f c ∷ ts) = c ∷ alike_from f ts
last_backwards (opening d m ∷ ts) = last_backwards ts
last_backwards (closing ∷ ts) = last_backwards ts
last_backwards (mark ∷ ts) = last_backwards ts
last_backwards (unmark ∷ ts) = last_backwards ts
last_backwards ts = []

-- the last text
abbrev pub last_text : List Token → List ℕ
last_text ts = reverse (last_backwards ts)

-- without the last n characters; all else is as it was
abbrev pub without_letters : ℕ → List Token → List Token
without_letters zero ts = ts
without_letters (suc n) [] = []
without_letters (suc n) (letter f c ∷ ts) = without_letters n ts
without_letters (suc n) (t ∷ ts) = t ∷ without_letters (suc n) ts

-- a character before the last n characters, looking like the one after it
abbrev pub with_letter_before : ℕ → ℕ → List Token → List Token
with_letter_before n c [] = []
with_letter_before zero c ts = ts
with_letter_before (suc zero) c (letter f d ∷ ts) = letter f d ∷ letter f c ∷ ts
with_letter_before (suc (suc n)) c (letter f d ∷ ts) = letter f d ∷ with_letter_before (suc n) c ts
with_letter_before (suc n) c (t ∷ ts) = t ∷ with_letter_before (suc n) c ts

-- a character at the end of the last text, looking like it, where there is one
abbrev pub with_letter_after : ℕ → List Token → List Token
with_letter_after c (letter f d ∷ ts) = letter f c ∷ letter f d ∷ ts
with_letter_after c (opening d m ∷ ts) = opening d m ∷ with_letter_after c ts
with_letter_after c (closing ∷ ts) = closing ∷ with_letter_after c ts
with_letter_after c (mark ∷ ts) = mark ∷ with_letter_after c ts
with_letter_after c (unmark ∷ ts) = unmark ∷ with_letter_after c ts
with_letter_after c ts = ts
