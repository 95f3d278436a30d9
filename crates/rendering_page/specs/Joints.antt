-- How the texts of a page are joined where they meet. A page has its last token first.
use Rattle.std.specs.Prelude.{ℕ, Bool, true, false, not, ◌==◌, ◌&&◌, ◌||◌, List, [], ◌∷◌, ◌++◌, if◌then◌else◌, Option, Some, None}
use Rattle.std.specs.Option.{option_map_or}
use Rattle.laws.specs.Characters.{space, exclamation_mark, comma, full_stop, colon, semicolon, question_mark}
use Rattle.rendering_taxonomy.specs.declared.formatting.Formatting.{Formatting}
use Rattle.rendering_tree.specs.Tokens.{Token, letter, formula, link, transparent, with_letters, last_backwards, without_letters}
use Rattle.rendering_page.specs.Pages.{Page, is_joined}
use Rattle.rendering_page.specs.Tail.{is_punctuation}

-- whether a character is left out that meets another one
abbrev pub is_left_out : ℕ → ℕ → Bool
is_left_out before c =
    (before == space && c == space)
    || ((before == full_stop && c == full_stop)
    || ((before == comma && c == comma)
    || ((before == colon && (c == colon || c == full_stop))
    || ((before == semicolon && (c == semicolon || (c == colon || c == full_stop)))
    || ((before == exclamation_mark && (c == exclamation_mark || (c == colon || c == full_stop)))
    || (before == question_mark && (c == question_mark || (c == colon || c == full_stop))))))))

-- whether it takes the place of the one that it meets
abbrev pub is_replaced : ℕ → ℕ → Bool
is_replaced before c =
    (before == space && (c == comma || c == full_stop))
    || ((before == colon && (c == exclamation_mark || c == question_mark))
    || (before == semicolon && (c == exclamation_mark || c == question_mark)))

-- the punctuation that goes inside quotes
abbrev pub goes_inside : ℕ → Bool
goes_inside c = c == comma || c == full_stop

-- the punctuation after which none goes inside
abbrev pub is_stop : ℕ → Bool
is_stop c = is_punctuation c || c == colon

-- the first of characters
abbrev pub first : List ℕ → Option ℕ
first [] = None
first (c ∷ cs) = Some c

-- whether a text that is written from its last character on ends in a character of that kind
abbrev pub ends_by : (ℕ → Bool) → List ℕ → Bool
ends_by holds cs = option_map_or holds (first cs) false

-- What is joined so far: `done`, and after that `held`, a close quote and what begins and ends after it, with one space after the quote;
-- whether there is a close quote, and such a space; and whether the last token is part of a text.
pub record Joining : Type 0 where
  pub done : List Token
  pub held : List Token
  pub is_quoted : Bool
  pub is_spaced : Bool
  pub is_text : Bool

-- nothing
abbrev pub nothing_joined : Joining
nothing_joined =
    record { done = []; held = []; is_quoted = false; is_spaced = false; is_text = false }

-- all of it
abbrev pub all_joined : Joining → List Token
all_joined j = j.held ++ j.done

-- a token after all of it
abbrev pub with_token : Token → Bool → Joining → Joining
with_token t is_text j = record {
  done = t ∷ all_joined j;
  held = [];
  is_quoted = false;
  is_spaced = false;
  is_text = is_text;
}

-- the start or the end of something, after a close quote if there is one
abbrev pub with_bound : Token → Joining → Joining
with_bound t j =
    if j.is_quoted
    then record j { held = t ∷ j.held; is_text = false }
    else record j { done = t ∷ j.done; is_text = false }

-- a close quote
abbrev pub with_quote : Formatting → List ℕ → Joining → Joining
with_quote f cs j = record {
  done = all_joined j;
  held = with_letters f cs [];
  is_quoted = true;
  is_spaced = false;
  is_text = false;
}

-- whether a character is the first space after a close quote
abbrev pub is_gap : ℕ → Joining → Bool
is_gap c j = not j.is_spaced && (j.is_quoted && c == space)

-- such a space, after which the quote is still met
abbrev pub with_gap : Formatting → ℕ → Joining → Joining
with_gap f c j = record j { held = letter f c ∷ j.held; is_spaced = true; is_text = true }

-- a character after all of it
abbrev pub with_letter : Formatting → ℕ → Joining → Joining
with_letter f c j = if is_gap c j then with_gap f c j else with_token (letter f c) true j

-- without the space after a close quote
abbrev pub without_gap : Joining → Joining
without_gap j = record j { held = without_letters 1 j.held; is_spaced = false }

-- whether a character goes inside the close quote
abbrev pub is_taken_inside : Bool → ℕ → Joining → Bool
is_taken_inside inside c j = inside && (j.is_quoted && goes_inside c)

-- a character goes inside the close quote, unless punctuation stands there
abbrev pub with_inside : Formatting → ℕ → Joining → Joining
with_inside f c j =
    if ends_by is_stop (last_backwards j.done)
    then record j { is_text = true }
    else record j { done = letter f c ∷ j.done; is_text = true }

-- whether it is a full stop that takes the place of the one that it meets, unless a close quote stands between them
abbrev pub takes_place : Bool → ℕ → ℕ → Bool
takes_place is_quoted before c = not is_quoted && (before == full_stop && c == full_stop)

-- whether a character is such a full stop after the last one of the text before it
abbrev pub is_in_place : ℕ → Joining → Bool
is_in_place c j = ends_by (λ before. takes_place j.is_quoted before c) (last_backwards j.done)

-- without the last character
abbrev pub without_last : Joining → Joining
without_last j = record j { done = without_letters 1 j.done }

-- without the character whose place another one takes
abbrev pub with_room : ℕ → Joining → Joining
with_room c j =
    if ends_by (λ before. is_replaced before c) (last_backwards j.done)
    then without_last j
    else j

-- a character after the last one of the text before it: a close quote does not stand between them
abbrev pub meeting : Bool → Formatting → ℕ → Joining → Joining
meeting inside f c j =
    if ends_by (λ before. is_left_out before c) (last_backwards j.done)
    then record j { is_text = true }
    else if is_taken_inside inside c j
    then with_inside f c j
    else with_letter f c j

-- The first character of a text that meets what stands before it, over a close quote or not; of two full stops that meet the second one
-- stays, whatever stands before the first.
abbrev pub with_met : Bool → Formatting → ℕ → Joining → Joining
with_met inside f c j =
    if is_in_place c j
    then with_letter f c (without_last j)
    else meeting inside f c (with_room c j)

-- the first character of a text after the space that stands after a close quote: one that takes the place of the space meets what stands
-- before that, over the quote
abbrev pub with_after_gap : Bool → Formatting → ℕ → Joining → Joining
with_after_gap inside f c j =
    if is_left_out space c
    then record j { is_text = true }
    else if is_replaced space c
    then with_met inside f c (without_gap j)
    else with_letter f c j

-- the first character of a text
abbrev pub with_first : Bool → Formatting → ℕ → Joining → Joining
with_first inside f c j =
    if j.is_spaced then with_after_gap inside f c j else with_met inside f c j

-- a character of a text
abbrev pub with_character : Bool → Formatting → ℕ → Joining → Joining
with_character inside f c j = if j.is_text then with_letter f c j else with_first inside f c j

-- a token more; a link without an address is a close quote
abbrev pub joining_token : Bool → Token → Joining → Joining
joining_token inside (letter f c) j = with_character inside f c j
joining_token inside (link f cs []) j = with_quote f cs j
joining_token inside (link f cs (u ∷ url)) j = with_token (link f cs (u ∷ url)) false j
joining_token inside (formula cs) j = with_token (formula cs) false j
joining_token inside (transparent f n) j = with_token (transparent f n) false j
joining_token inside t j = with_bound t j

-- tokens more
abbrev pub joining : Bool → List Token → Joining → Joining
joining inside [] j = j
joining inside (t ∷ ts) j = joining_token inside t (joining inside ts j)

-- a page of which all texts are joined, where it joins them; whether punctuation goes inside quotes
abbrev pub joined : Bool → Page → Page
joined inside p =
    if is_joined p.rule
    then record p { tokens = all_joined (joining inside p.tokens nothing_joined) }
    else p
