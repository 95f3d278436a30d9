-- What calls of a writer wrote, one after the other.
use Rattle.std.proofs.Common.{◌≡◌, ℕ, true, List, [], ◌∷◌, ◌++◌, refl, sym, subst}
use Rattle.std.specs.Char.{is_ascii}
use Rattle.std.specs.Fmt.{WritesInCalls}
use Rattle.std.specs.List.{list_all}
use Rattle.std.specs.Str.{chars, IsUtf8, IsAscii}
use Rattle.std.proofs.Output.{writes_in_calls_nil, writes_in_calls_single, writes_in_calls_append}
use Rattle.std.proofs.lemmas.Bool.{and_parts, ltb-true}
use Rattle.std.proofs.lemmas.List.{append-nil}
use Rattle.std.proofs.lemmas.Str.{encodes-IsAscii, chars-IsAscii}
use Rattle.std.proofs.lemmas.Str.Ascii.{IsAscii-nil, IsAscii-cons}
use Rattle.laws.specs.Text.{text}
use Rattle.laws.proofs.Text.{text-append, text_of_chars}
use Rattle.rendering_output.specs.Writing.{WritesCharacters}

ascii : (cs : List ℕ) → list_all is_ascii cs ≡ true → IsAscii cs
ascii [] e = IsAscii-nil
ascii (c ∷ cs) e =
    let both = and_parts (is_ascii c) (list_all is_ascii cs) e in
    IsAscii-cons c cs (ltb-true c 128 both.0) (ascii cs both.1)

-- characters below 128 are their own bytes
pub text_ascii : (cs : List ℕ) → list_all is_ascii cs ≡ true → text cs ≡ cs
text_ascii cs e = encodes-IsAscii cs (ascii cs e)

-- and these bytes are the characters
pub chars_ascii : (cs : List ℕ) → list_all is_ascii cs ≡ true → chars cs ≡ cs
chars_ascii cs e = chars-IsAscii cs (ascii cs e)

module _ {W : Type 0} (took : W → List ℕ → W → Type 0) where
  -- nothing was written
  pub writes_nothing : (w : W) → WritesCharacters took w [] w
  writes_nothing w = writes_in_calls_nil took w

  -- a call wrote characters below 128
  pub writes_ascii : (w : W) (cs : List ℕ) (v : W) → list_all is_ascii cs ≡ true → took w cs v → WritesCharacters took w cs v
  writes_ascii w cs v e t = subst (λ (bs : List ℕ). WritesInCalls took w bs v) (sym (text_ascii cs e)) (writes_in_calls_single took w cs v t)

  -- a call wrote a text
  pub writes_text : (w : W) (bs : List ℕ) (v : W) → IsUtf8 bs → took w bs v → WritesCharacters took w (chars bs) v
  writes_text w bs v u t = subst (λ (x : List ℕ). WritesInCalls took w x v) (sym (text_of_chars bs u)) (writes_in_calls_single took w bs v t)

  -- a call wrote a text, as the tags of plain text say it
  pub writes_words : (w : W) (bs : List ℕ) (v : W) → IsUtf8 bs → took w bs v → WritesCharacters took w (chars bs ++ []) v
  writes_words w bs v u t = subst (λ (cs : List ℕ). WritesCharacters took w cs v) (sym (append-nil (chars bs))) (writes_text w bs v u t)

  -- more was written after it
  pub writes_more : (w : W) (cs : List ℕ) (v : W) (ds : List ℕ) (u : W) → WritesCharacters took w cs v → WritesCharacters took v ds u → WritesCharacters took w (cs ++ ds) u
  writes_more w cs v ds u p q = subst (λ (x : List ℕ). WritesInCalls took w x u) (sym (text-append cs ds)) (writes_in_calls_append took w (text cs) v (text ds) u p q)
