-- Pages: what was appended so far, and what appending the next thing makes of it.
use Rattle.std.specs.Prelude.{ℕ, zero, suc, Bool, true, false, not, ◌==◌, ◌&&◌, ◌||◌, List, [], ◌∷◌, length, find, if◌then◌else◌, Option, Some, None}
use Rattle.std.specs.Char.{is_whitespace}
use Rattle.laws.specs.Characters.{space, no_break_space}
use Rattle.laws.specs.Text.{is_filled}
use Rattle.rendering_taxonomy.specs.Formats.{plain}
use Rattle.rendering_tree.specs.Metas.{Meta}
use Rattle.rendering_tree.specs.Tokens.{Token, letter, formula, link, transparent, opening, closing, mark, unmark, with_letters, last_text, last_backwards, with_letter_before}
use Rattle.rendering_page.specs.Tail.{is_punctuation, ends_in, remaining, stripped}
use Rattle.rendering_taxonomy.specs.declared.formatting.Display.{Display}
use Rattle.rendering_taxonomy.specs.declared.formatting.Formatting.{Formatting}
use Rattle.rendering_taxonomy.specs.declared.page.PageRule.{PageRule}
use Rattle.rendering_taxonomy.specs.declared.page.PageRule.TheVariants as rules
use Rattle.rendering_taxonomy.specs.declared.text_case.TextCase.{TextCase}
use Rattle.rendering_taxonomy.specs.declared.text_case.TextCase.TheVariants as text_cases
use Rattle.rendering_cases.specs.Cases.{cased_text}

-- whether texts are joined by what punctuation they have
abbrev pub is_joined : PageRule → Bool
is_joined rules.AsWritten = false
is_joined rules.Joined = true

-- What was appended, the last token first; whether the close quote of a quoted node was the last text to be appended; and how a text
-- meets the one before it.
pub record Page : Type 0 where
  pub tokens : List Token
  pub after_quote : Bool
  pub rule : PageRule

-- a page to which nothing was appended, by a rule
abbrev pub empty_page_by : PageRule → Page
empty_page_by rule = record { tokens = []; after_quote = false; rule = rule }

-- a page to which nothing was appended
abbrev pub empty_page : Page
empty_page = empty_page_by rules.AsWritten

-- How the texts of a node are appended: how they look, whether their full stops are left out, in which case, and whether they are in
-- English, in which alone titles are capitalised.
pub record Manner : Type 0 where
  pub formatting : Formatting
  pub strips_periods : Bool
  pub text_case : Option TextCase
  pub is_english : Bool

-- the same in the case that texts have
abbrev pub uncased : Manner → Manner
uncased m = record m { text_case = None }

-- whether a case is one of words, which changes no word with a capital
abbrev pub is_of_words : TextCase → Bool
is_of_words text_cases.CapitalizeFirst = true
is_of_words text_cases.CapitalizeAll = true
is_of_words text_cases.Title = true
is_of_words case = false

-- whether texts in a case stay so inside another one: those in capitals in a case of words
abbrev pub stays_inside : TextCase → TextCase → Bool
stays_inside outer text_cases.Uppercase = is_of_words outer
stays_inside outer inner = false

-- a case inside another one: what is around texts counts, unless it would change nothing
abbrev pub case_inside : Option TextCase → Option TextCase → Option TextCase
case_inside None inner = inner
case_inside (Some outer) None = Some outer
case_inside (Some outer) (Some inner) = if stays_inside outer inner then Some inner else Some outer

-- the same in a case, inside the one that there is already
abbrev pub with_case : Option TextCase → Manner → Manner
with_case case m = record m { text_case = case_inside m.text_case case }

-- The close quotes inside which punctuation goes, in the order in which they are tried; none where it stays outside.
abbrev pub Quotes : Type 0
Quotes = List (List ℕ)

-- the quote that ends the last text
abbrev pub quote_at_end : Quotes → List Token → Option (List ℕ)
quote_at_end quotes ts = find (λ q. is_filled q && ends_in q (last_text ts)) quotes

-- a text in the case of a manner
abbrev pub in_case : Manner → List ℕ → List ℕ
in_case m cs = cased_text m.text_case m.is_english cs

-- a text whose full stops are left out, or not
abbrev pub stripped_if : Bool → List ℕ → List ℕ
stripped_if strips cs = if strips then stripped cs else cs

-- a text as it is appended in a manner
abbrev pub in_manner : Manner → List ℕ → List ℕ
in_manner m cs = stripped_if m.strips_periods (in_case m cs)

-- a text after what remains of the page
abbrev pub appended : Manner → List ℕ → Page → Page
appended m cs p =
    record p { tokens = with_letters m.formatting (in_manner m cs) (remaining cs p.tokens); after_quote = false }

-- a first character goes inside a quote that ends the last text, and what follows it is appended; without one all is
abbrev pub punctuated : Manner → ℕ → List ℕ → Option (List ℕ) → Page → Page
punctuated m c cs None p = appended m (c ∷ cs) p
punctuated m c cs (Some q) p = appended m cs (record p { tokens = with_letter_before (length q) c p.tokens })

-- a text as it is written: its first character goes inside a quote after which it stands, if it is punctuation; an empty text is none
abbrev pub append_as_written : Quotes → Manner → List ℕ → Page → Page
append_as_written quotes m [] p = p
append_as_written quotes m (c ∷ cs) p = if p.after_quote && is_punctuation c then punctuated m c cs (quote_at_end quotes p.tokens) p else appended m (c ∷ cs) p

-- a text to be joined with what stands before it: a mark and its end part them; an empty text is none
abbrev pub append_to_join : Manner → List ℕ → Page → Page
append_to_join m [] p = p
append_to_join m (c ∷ cs) p =
    record p { tokens = with_letters m.formatting (in_manner m (c ∷ cs)) (unmark ∷ mark ∷ p.tokens) }

-- an ordinary text
abbrev pub append_normal : Quotes → Manner → List ℕ → Page → Page
append_normal quotes m cs p =
    if is_joined p.rule then append_to_join m cs p else append_as_written quotes m cs p

-- what goes on with the text before it is not joined with that
abbrev pub append_further : Quotes → Manner → List ℕ → Page → Page
append_further quotes m cs p =
    if is_joined p.rule
    then record p { tokens = with_letters m.formatting (in_manner m cs) p.tokens }
    else append_as_written quotes m cs p

-- a text that is appended as it is; an empty text is none
abbrev pub append_verbatim : Formatting → List ℕ → Page → Page
append_verbatim f [] p = p
append_verbatim f (c ∷ cs) p = record p { tokens = with_letters f (c ∷ cs) p.tokens; after_quote = false }

-- what is no text is appended as it is
abbrev pub append_token : Token → Page → Page
append_token t p = record p { tokens = t ∷ p.tokens; after_quote = false }

-- a close quote, after which punctuation may go inside; where texts are joined it is a link without an address until then
abbrev pub append_quote : Quotes → Manner → List ℕ → Page → Page
append_quote quotes m [] p = p
append_quote quotes m (c ∷ cs) p =
    if is_joined p.rule
    then append_token (link m.formatting (c ∷ cs) []) p
    else record (append_as_written quotes m (c ∷ cs) p) { after_quote = true }

-- whether a suffix is left out as the last text ends with it; where texts are joined, what it repeats is left out then
abbrev pub is_repeated : List ℕ → Page → Bool
is_repeated suffix p = not (is_joined p.rule) && ends_in suffix (last_text p.tokens)

-- a suffix in the case that it has, unless it is repeated
abbrev pub append_suffix : Quotes → Manner → List ℕ → Page → Page
append_suffix quotes m suffix p =
    if is_repeated suffix p then p else append_normal quotes (uncased m) suffix p

-- An element: its display and what it stands for, how its affixes are appended, and these.
pub record Frame : Type 0 where
  pub display : Option Display
  pub meta : Option Meta
  pub manner : Manner
  pub prefix : List ℕ
  pub suffix : List ℕ

-- where an element begins; one without display and meaning is only marked
abbrev pub first_token : Option Display → Option Meta → Token
first_token None None = mark
first_token d m = opening d m

-- where it ends
abbrev pub last_token : Option Display → Option Meta → Token
last_token None None = unmark
last_token d m = closing

-- whether more was appended after the last mark that is open than white space and the starts and ends of elements; so
-- many marks that are closed have still to be passed
abbrev pub prints : ℕ → List Token → Bool
prints n [] = false
prints n (letter f c ∷ ts) = not (is_whitespace c) || prints n ts
prints n (formula cs ∷ ts) = true
prints n (link f cs url ∷ ts) = true
prints n (transparent f k ∷ ts) = true
prints n (opening d m ∷ ts) = prints n ts
prints n (closing ∷ ts) = prints n ts
prints n (unmark ∷ ts) = prints (suc n) ts
prints zero (mark ∷ ts) = false
prints (suc n) (mark ∷ ts) = prints n ts

-- what stands before the last mark that is open
abbrev pub before_mark : ℕ → List Token → List Token
before_mark n [] = []
before_mark n (unmark ∷ ts) = before_mark (suc n) ts
before_mark zero (mark ∷ ts) = ts
before_mark (suc n) (mark ∷ ts) = before_mark n ts
before_mark n (t ∷ ts) = before_mark n ts

-- what stands before an element of which there is only the prefix
abbrev pub before_prefix : List Token → List Token
before_prefix [] = []
before_prefix (opening d m ∷ ts) = ts
before_prefix (mark ∷ ts) = ts
before_prefix (t ∷ ts) = before_prefix ts

-- an element begins: its prefix is appended as it is, and what it contains begins with a mark
abbrev pub begun : Frame → Page → Page
begun f p = record p { tokens = mark ∷ with_letters f.manner.formatting f.prefix (first_token f.display f.meta ∷ p.tokens) }

-- the end of an element
abbrev pub closed_off : Frame → Page → Page
closed_off f p = record p { tokens = last_token f.display f.meta ∷ p.tokens }

-- where an element ends that is part of the tree, or is only marked
abbrev pub end_token : Bool → Token
end_token true = closing
end_token false = unmark

-- what an element contains ends with its suffix, and then the element
abbrev pub ended_as : Quotes → Manner → List ℕ → Bool → Page → Page
ended_as quotes m suffix is_element p =
    let q = append_suffix quotes m suffix (record p { tokens = unmark ∷ p.tokens }) in
    record q { tokens = end_token is_element ∷ q.tokens }

-- an element ends with its suffix, or, where it prints nothing, is removed with its affixes
abbrev pub ended : Quotes → Frame → Page → Page
ended quotes f p =
    if prints 0 p.tokens
    then closed_off f (append_suffix quotes f.manner f.suffix (record p { tokens = unmark ∷ p.tokens }))
    else record p { tokens = before_prefix (before_mark 0 p.tokens) }

-- whether anything was appended
abbrev pub is_begun : List Token → Bool
is_begun [] = false
is_begun (mark ∷ ts) = is_begun ts
is_begun (unmark ∷ ts) = is_begun ts
is_begun (t ∷ ts) = true

-- whether a text that is written from its last character on ends in a space, be it one that does not break
abbrev pub ends_spaced : List ℕ → Bool
ends_spaced [] = false
ends_spaced (c ∷ cs) = c == space || c == no_break_space

-- a space after all elements, unless nothing was appended or the last text ends in one
abbrev pub append_space : Page → Page
append_space p = if not (is_begun p.tokens) || ends_spaced (last_backwards p.tokens) then p else append_verbatim plain (space ∷ []) p
