-- Tokens of the code, with their characters.
use Rattle.std.specs.Prelude.{ℕ, List, map}
use Rattle.std.specs.Str.{chars}
use Rattle.biblatex_tex.specs.declared.token.Lexer.{Lexer}
use Rattle.biblatex_tex.specs.declared.token.Token as code
use Rattle.biblatex_tex.specs.declared.token.Token.TheVariants as codes
use Rattle.biblatex_tex.specs.Token.{Token, Text, Hyphens, Tie, Open, Close, Dollar, Sign, Command}

-- the characters that are left to read
abbrev pub left : Lexer → List ℕ
left l = chars l.rest.now

abbrev pub token_view : code.Token → Token
token_view (codes.Text s) = Text (chars s.now)
token_view (codes.Hyphens s) = Hyphens (chars s.now)
token_view codes.Tie = Tie
token_view (codes.Open is_command) = Open is_command
token_view codes.Close = Close
token_view (codes.Dollar has_partner) = Dollar has_partner
token_view (codes.Sign c) = Sign c
token_view (codes.Command name blanks) = Command (chars name.now) (chars blanks.now)

abbrev pub tokens_view : List code.Token → List Token
tokens_view ts = map token_view ts
