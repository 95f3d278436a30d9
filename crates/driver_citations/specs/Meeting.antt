-- How a text meets the one in which a tree ends, and the one with which the next tree begins.
use Rattle.std.specs.Prelude.{ℕ, ◌-◌, Bool, true, false, not, ◌==◌, ◌&&◌, ◌||◌, List, [], ◌∷◌, ◌++◌, length, take, reverse, find, if◌then◌else◌, Option, Some, None}
use Rattle.std.specs.Option.{option_map_or, unwrap_or}
use Rattle.laws.specs.Text.{is_filled}
use Rattle.rendering_page.specs.Joints.{first, goes_inside, is_left_out, is_replaced, is_stop}
use Rattle.rendering_page.specs.Pages.{Quotes}
use Rattle.rendering_page.specs.Tail.{ends_in}
use Rattle.rendering_tree.specs.Trees.{Child, Children}
use Rattle.driver_citations.specs.Ends.{end_of, end_of_child, ended, ended_child, start_of}

-- a text without its last characters, so many of them
abbrev pub without_last : ℕ → List ℕ → List ℕ
without_last n cs = take (length cs - n) cs

-- the last character of a text
abbrev pub last_of : List ℕ → Option ℕ
last_of cs = first (reverse cs)

-- whether a text ends in a character after which another one is left out
abbrev pub leaves_out : List ℕ → ℕ → Bool
leaves_out cs c = option_map_or (λ last. is_left_out last c) (last_of cs) false

-- whether it ends in a character whose place another one takes
abbrev pub makes_room : List ℕ → ℕ → Bool
makes_room cs c = option_map_or (λ last. is_replaced last c) (last_of cs) false

-- whether it ends in punctuation
abbrev pub is_stopped : List ℕ → Bool
is_stopped cs = option_map_or is_stop (last_of cs) false

-- What becomes of a text that a character meets, and whether the character goes into it.
pub record Met : Type 0 where
  pub text : List ℕ
  pub is_taken : Bool

-- punctuation goes inside a close quote, where none stands yet
abbrev pub with_inside : List ℕ → ℕ → List ℕ
with_inside cs c = if is_stopped cs then cs else cs ++ c ∷ []

-- a character makes room for the one after it, unless a close quote stands between them
abbrev pub with_room : Bool → List ℕ → ℕ → List ℕ
with_room is_quoted cs c = if not is_quoted && makes_room cs c then without_last 1 cs else cs

-- a character meets a text, after which a close quote stands or not
abbrev pub met_by : Bool → List ℕ → ℕ → Met
met_by is_quoted cs c =
    if leaves_out cs c
    then record { text = cs; is_taken = true }
    else if is_quoted && goes_inside c
    then record { text = with_inside cs c; is_taken = true }
    else record { text = with_room is_quoted cs c; is_taken = false }

-- the close quote in which a text ends; nothing where it ends in none
abbrev pub close_quote : Quotes → List ℕ → List ℕ
close_quote quotes cs = unwrap_or (find (λ q. is_filled q && ends_in q cs) quotes) []

-- what a character makes of a text before the close quote in which that ends
abbrev pub met_before : List ℕ → List ℕ → ℕ → Met
met_before quote cs c = met_by (is_filled quote) (without_last (length quote) cs) c

-- what another text makes of a text in which a tree ends: its first character meets that
abbrev pub met : Quotes → List ℕ → List ℕ → List ℕ
met quotes [] ds = []
met quotes (c ∷ cs) [] = c ∷ cs
met quotes (c ∷ cs) (d ∷ ds) =
    let quote = close_quote quotes (c ∷ cs) in
    (met_before quote (c ∷ cs) d).text ++ quote

-- what is left of the other text
abbrev pub left_after : Quotes → List ℕ → List ℕ → List ℕ
left_after quotes [] ds = ds
left_after quotes (c ∷ cs) [] = []
left_after quotes (c ∷ cs) (d ∷ ds) =
    if (met_before (close_quote quotes (c ∷ cs)) (c ∷ cs) d).is_taken then ds else d ∷ ds

-- a child in which a text meets the end
abbrev pub met_child : Quotes → List ℕ → Child → Child
met_child quotes ds x = ended_child (met quotes (end_of_child x) ds) x

-- a list in which a text meets the end
abbrev pub met_list : Quotes → List ℕ → Children → Children
met_list quotes ds xs = ended (met quotes (end_of xs) ds) xs

-- whether a character goes before another one: the same one, of which one is left, or one that takes its place
abbrev pub gives_way : ℕ → ℕ → Bool
gives_way last c = is_replaced last c || (last == c && is_left_out last c)

-- a text before a character: its last one may go
abbrev pub before_character : ℕ → List ℕ → List ℕ
before_character c cs =
    if option_map_or (λ last. gives_way last c) (last_of cs) false then without_last 1 cs else cs

-- A text before another one: its last character may go, and then the one before it, so of `, ` before `, ` nothing is left.
abbrev pub before_text : List ℕ → List ℕ → List ℕ
before_text [] cs = cs
before_text (d ∷ ds) cs = before_character d (before_character d cs)

-- a delimiter before a tree: where texts are joined it meets the text with which that begins
abbrev pub delimiter_before : Option Quotes → Children → List ℕ → List ℕ
delimiter_before None tree cs = cs
delimiter_before (Some quotes) tree cs = before_text (start_of tree) cs
