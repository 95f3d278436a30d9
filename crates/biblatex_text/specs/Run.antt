-- Runs of characters: what stands between the marks of the grammar. Characters are numbers.
use Rattle.std.specs.Prelude.{ℕ, zero, suc, ◌+◌, Bool, not, ◌==◌, ◌&&◌, List, [], ◌∷◌, Option, Some, None, if◌then◌else◌}
use Rattle.std.specs.Option.{option_map, option_map_or}
use Rattle.std.specs.Char.{is_whitespace, is_ascii_digit}
use Rattle.laws.specs.Characters.{line_feed, double_quote, percent_sign, close_parenthesis, full_stop, at_sign, backslash, open_brace, close_brace}
use Rattle.biblatex_text.specs.Character.{is_id_continue, is_key}
use Rattle.biblatex_text.specs.declared.run.Run.{Run}
use Rattle.biblatex_text.specs.declared.run.Run.TheVariants.{Outside, Hidden, Blank, Comment, Identifier, Key, RoundKey, Number, Fraction, Remark, Braced, BracedEscape, Quoted, QuotedEscape}

-- the run, if the test is passed
abbrev pub only_if : Bool → Run → Option Run
only_if test run = if test then Some run else None

-- the depth after a closing brace, or none where it closes no brace of the text
abbrev pub closed : ℕ → Option ℕ
closed zero = None
closed (suc depth) = Some depth

-- the depth after a character
abbrev pub depth_after : ℕ → ℕ → Option ℕ
depth_after depth c = if c == open_brace then Some (depth + 1) else (if c == close_brace then closed depth else Some depth)

-- The run after one more character, or none where it ends before the character.
abbrev pub next : Run → ℕ → Option Run
-- between items a percent sign hides what follows it on its line, and an at sign that is not hidden ends the run
next Outside c = if c == percent_sign then Some Hidden else only_if (not (c == at_sign)) Outside
next Hidden c = Some (if c == line_feed then Outside else Hidden)
-- inside an item the same makes a comment, and beside comments there is white space alone
next Blank c = if c == percent_sign then Some Comment else only_if (is_whitespace c) Blank
next Comment c = Some (if c == line_feed then Blank else Comment)
next Identifier c = only_if (is_id_continue c) Identifier
next Key c = only_if (is_key c) Key
next RoundKey c = only_if (is_key c && not (c == close_parenthesis)) RoundKey
next Number c = if c == full_stop then Some Fraction else only_if (is_ascii_digit c) Number
next Fraction c = only_if (is_ascii_digit c) Fraction
-- braces balance in the text of a comment item
next (Remark depth) c = option_map (λ d. Remark d) (depth_after depth c)
-- in a piece a backslash takes the next character with it
next (Braced depth) c = if c == backslash then Some (BracedEscape depth) else option_map (λ d. Braced d) (depth_after depth c)
next (BracedEscape depth) c = Some (Braced depth)
-- a quotation mark in braces is text
next (Quoted depth) c = if c == backslash then Some (QuotedEscape depth) else (if c == double_quote && depth == 0 then None else option_map (λ d. Quoted d) (depth_after depth c))
next (QuotedEscape depth) c = Some (Quoted depth)

-- how many braces are open
abbrev pub depth_of : Run → ℕ
depth_of (Remark depth) = depth
depth_of (Braced depth) = depth
depth_of (BracedEscape depth) = depth
depth_of (Quoted depth) = depth
depth_of (QuotedEscape depth) = depth
depth_of run = 0

-- the longest prefix of a text that goes on with the run
abbrev pub prefix_of : Run → List ℕ → List ℕ
prefix_of run [] = []
prefix_of run (c ∷ cs) = option_map_or (λ more. c ∷ prefix_of more cs) (next run c) []

-- what follows it
abbrev pub after : Run → List ℕ → List ℕ
after run [] = []
after run (c ∷ cs) = option_map_or (λ more. after more cs) (next run c) (c ∷ cs)
