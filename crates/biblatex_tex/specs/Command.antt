-- What the commands of an ordinary field stand for. Names are bytes, which for letters are the characters.
use Rattle.std.specs.Prelude.{ℕ, Bool, ◌==◌, ◌||◌, List, [], ◌∷◌, if◌then◌else◌, Option, Some, None, codes}
use Rattle.std.specs.Option.{option_or}
use Rattle.std.specs.Str.{bytes_eq}
use Rattle.laws.specs.Characters.{space, double_quote, apostrophe, comma, hyphen, full_stop, slash, equals_sign, backslash, circumflex, grave_accent, tilde, pound_sign, section_sign, copyright_sign, pilcrow_sign, upper_a_ring, upper_ae, upper_eth, upper_o_stroke, upper_thorn, sharp_s, lower_a_ring, lower_ae, lower_eth, lower_o_stroke, lower_thorn, dotless_i, upper_l_stroke, lower_l_stroke, upper_oe, lower_oe, dotless_j, combining_grave, combining_acute, combining_circumflex, combining_tilde, combining_macron, combining_breve, combining_dot_above, combining_diaeresis, combining_ring, combining_double_acute, combining_caron, combining_dot_below, combining_cedilla, combining_ogonek, combining_macron_below, thin_space, en_dash, em_dash, left_single_quotation_mark, right_single_quotation_mark, left_double_quotation_mark, right_double_quotation_mark, horizontal_ellipsis}
use Rattle.biblatex_tex.specs.Character.{is_blank}

-- the first that a key has in a table
abbrev pub listed : {K V : Type 0} → (K → Bool) → List (K × V) → Option V
listed {K} {V} is [] = None
listed {K} {V} is (e ∷ es) = if is e.0 then Some e.1 else listed is es

-- the mark of an accent that is written as a backslash and a sign: ` ' ^ ~ = . "
unfoldable pub sign_mark : ℕ → Option ℕ
sign_mark c = listed (λ k. c == k) (
    (grave_accent, combining_grave) ∷ (apostrophe, combining_acute) ∷ (circumflex, combining_circumflex) ∷ (tilde, combining_tilde)
    ∷ (equals_sign, combining_macron) ∷ (full_stop, combining_dot_above) ∷ (double_quote, combining_diaeresis) ∷ [])

-- the mark of an accent that is written as a letter
unfoldable pub letter_mark : List ℕ → Option ℕ
letter_mark name = listed (λ k. bytes_eq name k) (
    (codes "u", combining_breve) ∷ (codes "r", combining_ring) ∷ (codes "H", combining_double_acute) ∷ (codes "v", combining_caron)
    ∷ (codes "d", combining_dot_below) ∷ (codes "c", combining_cedilla) ∷ (codes "k", combining_ogonek) ∷ (codes "b", combining_macron_below) ∷ [])

-- ligatures, and letters with a ring
unfoldable pub ligature : List ℕ → Option ℕ
ligature name = listed (λ k. bytes_eq name k) (
    (codes "ss", sharp_s) ∷ (codes "ae", lower_ae) ∷ (codes "AE", upper_ae) ∷ (codes "oe", lower_oe) ∷ (codes "OE", upper_oe)
    ∷ (codes "aa", lower_a_ring) ∷ (codes "AA", upper_a_ring) ∷ [])

-- letters with a stroke or without a dot, and Icelandic letters
unfoldable pub letter : List ℕ → Option ℕ
letter name = listed (λ k. bytes_eq name k) (
    (codes "o", lower_o_stroke) ∷ (codes "O", upper_o_stroke) ∷ (codes "l", lower_l_stroke) ∷ (codes "L", upper_l_stroke)
    ∷ (codes "i", dotless_i) ∷ (codes "j", dotless_j)
    ∷ (codes "dh", lower_eth) ∷ (codes "DH", upper_eth) ∷ (codes "th", lower_thorn) ∷ (codes "TH", upper_thorn) ∷ [])

-- signs with names of their own
unfoldable pub symbol : List ℕ → Option ℕ
symbol name = listed (λ k. bytes_eq name k) (
    (codes "S", section_sign) ∷ (codes "P", pilcrow_sign) ∷ (codes "copyright", copyright_sign) ∷ (codes "pounds", pound_sign)
    ∷ (codes "ldots", horizontal_ellipsis) ∷ (codes "dots", horizontal_ellipsis) ∷ (codes "textellipsis", horizontal_ellipsis) ∷ [])

-- signs whose names begin with `text`
unfoldable pub text_symbol : List ℕ → Option ℕ
text_symbol name = listed (λ k. bytes_eq name k) (
    (codes "textendash", en_dash) ∷ (codes "textemdash", em_dash)
    ∷ (codes "textquoteleft", left_single_quotation_mark) ∷ (codes "textquoteright", right_single_quotation_mark)
    ∷ (codes "textquotedblleft", left_double_quotation_mark) ∷ (codes "textquotedblright", right_double_quotation_mark)
    ∷ (codes "textbackslash", backslash) ∷ (codes "textasciitilde", tilde) ∷ (codes "textasciicircum", circumflex) ∷ [])

-- the character that a command of letters stands for
unfoldable pub letter_character : List ℕ → Option ℕ
letter_character name = option_or (option_or (option_or (ligature name) (letter name)) (symbol name)) (text_symbol name)

-- what a backslash and a sign that is no accent give: a space, a thin space, nothing, or the sign
unfoldable pub sign_text : ℕ → List ℕ
sign_text c = if c == backslash || is_blank c then space ∷ [] else (if c == comma then thin_space ∷ [] else (if c == hyphen || c == slash then [] else c ∷ []))
