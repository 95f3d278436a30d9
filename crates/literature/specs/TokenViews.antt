-- What a token holds, without where it lies in memory.
use Rattle.std.specs.Str.{chars}
use Rattle.literature.specs.Tokens.{Token, Name, Sign}
use Rattle.literature.specs.declared.token.Token.{Token as CodeToken}
use Rattle.literature.specs.declared.token.Token.TheVariants as code

abbrev pub token_view : CodeToken → Token
token_view (code.Name name) = Name (chars name.now)
token_view (code.Sign c) = Sign c
