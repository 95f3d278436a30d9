-- Where the first line of a text is more than white space, character by character, and where that of an element is, token by token.
use Rattle.std.proofs.Common.{◌≡◌, ℕ, Bool, true, false, cond, List, [], ◌∷◌, Option, Some, None, sym, ap, ◌∙◌}
use Rattle.std.specs.Prelude.{◌==◌}
use Rattle.std.specs.Option.{option_or}
use Rattle.xml_text.specs.Character.{is_space}
use Rattle.xml_text.specs.Tokens.{At, Token}
use Rattle.xml_schema.specs.Placing.{line_after, words_line, words_right_in, open_after, first_words}

-- one more token
pub words_on : (n : ℕ) (rest others : List (At Token)) (x : At Token) (all : Option ℕ) → first_words n rest ≡ all → rest ≡ x ∷ others → (n == 0) ≡ false → None ≡ words_right_in n x
    → first_words (open_after n x.v) others ≡ all
words_on n rest others x all so_far e is_open none =
    let more : Option ℕ = first_words (open_after n x.v) others in
    let here : first_words n (x ∷ others) ≡ more = ap (λ (b : Bool). cond b None (option_or (words_right_in n x) more)) is_open ∙ sym (ap (λ (o : Option ℕ). option_or o more) none) in
    sym here ∙ (sym (ap (first_words n) e) ∙ so_far)

-- one that has such text
pub words_here : (n : ℕ) (rest others : List (At Token)) (x : At Token) (left : ℕ) (all : Option ℕ) → first_words n rest ≡ all → rest ≡ x ∷ others → (n == 0) ≡ false → Some left ≡ words_right_in n x
    → Some left ≡ all
words_here n rest others x left all so_far e is_open some =
    let more : Option ℕ = first_words (open_after n x.v) others in
    let here : first_words n (x ∷ others) ≡ Some left = ap (λ (b : Bool). cond b None (option_or (words_right_in n x) more)) is_open ∙ sym (ap (λ (o : Option ℕ). option_or o more) some) in
    sym here ∙ (sym (ap (first_words n) e) ∙ so_far)

-- one after the end of the element
pub words_over : (n : ℕ) (rest others : List (At Token)) (x : At Token) (all : Option ℕ) → first_words n rest ≡ all → rest ≡ x ∷ others → (n == 0) ≡ true → None ≡ all
words_over n rest others x all so_far e over =
    let more : Option ℕ = first_words (open_after n x.v) others in
    let here : first_words n (x ∷ others) ≡ None = ap (λ (b : Bool). cond b None (option_or (words_right_in n x) more)) over in
    sym here ∙ (sym (ap (first_words n) e) ∙ so_far)

-- no more tokens
pub words_end : (n : ℕ) (rest : List (At Token)) (all : Option ℕ) → first_words n rest ≡ all → rest ≡ [] → None ≡ all
words_end n rest all so_far e = sym (ap (first_words n) e) ∙ so_far

-- one more character of white space
pub line_on : (line now rest more all : List ℕ) (c : ℕ) → words_line line rest ≡ all → rest ≡ c ∷ more → is_space c ≡ true → now ≡ line_after c line more → words_line now more ≡ all
line_on line now rest more all c so_far e space is =
    ap (λ (t : List ℕ). words_line t more) is
    ∙ (sym (ap (λ (b : Bool). cond b (words_line (line_after c line more) more) line) space) ∙ (sym (ap (words_line line) e) ∙ so_far))

-- another character
pub line_here : (line rest more all : List ℕ) (c : ℕ) → words_line line rest ≡ all → rest ≡ c ∷ more → is_space c ≡ false → line ≡ all
line_here line rest more all c so_far e space =
    sym (ap (λ (b : Bool). cond b (words_line (line_after c line more) more) line) space) ∙ (sym (ap (words_line line) e) ∙ so_far)

-- no more characters
pub line_end : (line rest all : List ℕ) → words_line line rest ≡ all → rest ≡ [] → line ≡ all
line_end line rest all so_far e = sym (ap (words_line line) e) ∙ so_far
