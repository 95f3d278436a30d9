-- Reading a verbatim field: a backslash makes some characters themselves, braces give nothing, all else is itself.
use Rattle.std.specs.Prelude.{ℕ, Bool, true, false, not, ◌==◌, ◌||◌, ◌&&◌, List, [], ◌∷◌, ◌++◌, if◌then◌else◌, codes}
use Rattle.std.specs.Str.{bytes_eq}
use Rattle.std.specs.List.{list_any}
use Rattle.laws.specs.Characters.{number_sign, dollar_sign, percent_sign, ampersand, backslash, circumflex, underscore, open_brace, close_brace, tilde}

-- { }
abbrev pub is_brace : ℕ → Bool
is_brace c = c == open_brace || c == close_brace

-- # & % $ _
abbrev pub is_reserved : ℕ → Bool
is_reserved c = c == number_sign || c == ampersand || c == percent_sign || c == dollar_sign || c == underscore

-- Whether the character is one of those that a backslash escapes: in an ordinary field before { } # & % $ _, in a
-- verbatim field before these and \ ~ ^ where it is read, and before { } \ where it is written.
abbrev pub is_escapable : ℕ → Bool → Bool → Bool
is_escapable c false is_read = is_brace c || is_reserved c
is_escapable c true true = is_brace c || is_reserved c || c == backslash || c == tilde || c == circumflex
is_escapable c true false = is_brace c || c == backslash

-- a backslash that is after no waiting one waits for the next character
abbrev pub is_verbatim_escape : Bool → ℕ → Bool
is_verbatim_escape is_escaped c = not is_escaped && c == backslash

-- what a character gives, after a backslash that waits for it or not
abbrev pub verbatim_piece : Bool → ℕ → List ℕ
verbatim_piece true c = if is_escapable c true true then c ∷ [] else backslash ∷ c ∷ []
verbatim_piece false c = if c == backslash || is_brace c then [] else c ∷ []

-- what a verbatim text gives, where a backslash may wait before it
abbrev pub verbatim_from : Bool → List ℕ → List ℕ
verbatim_from is_escaped [] = if is_escaped then backslash ∷ [] else []
verbatim_from is_escaped (c ∷ cs) = verbatim_piece is_escaped c ++ verbatim_from (is_verbatim_escape is_escaped c) cs

-- what a verbatim text gives
abbrev pub verbatim_text : List ℕ → List ℕ
verbatim_text cs = verbatim_from false cs

-- whether the field of that name, in lower case, is read verbatim
abbrev pub is_verbatim_name : List ℕ → Bool
is_verbatim_name name = list_any (bytes_eq name) (codes "file" ∷ codes "doi" ∷ codes "uri" ∷ codes "eprint" ∷ codes "verba" ∷ codes "verbb" ∷ codes "verbc" ∷ codes "pdf" ∷ codes "url" ∷ codes "urlraw" ∷ [])

-- whether the byte is the third one of such a name: f, i, l or r
abbrev pub is_third_of_verbatim : ℕ → Bool
is_third_of_verbatim b = b == 102 || b == 105 || b == 108 || b == 114
