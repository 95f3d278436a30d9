-- How the marks of the grammar are called.
use Rattle.std.specs.Prelude.{ℕ, List, codes}
use Rattle.biblatex_text.specs.declared.token.Token.{Token}
use Rattle.biblatex_text.specs.declared.token.Token.TheVariants.{Identifier, OpeningBrace, ClosingBrace, Comma, QuotationMark, Equals, DecimalPoint}

abbrev pub token_name : Token → List ℕ
token_name Identifier = codes "identifier"
token_name OpeningBrace = codes "opening brace"
token_name ClosingBrace = codes "closing brace"
token_name Comma = codes "comma"
token_name QuotationMark = codes "double quote"
token_name Equals = codes "equals"
token_name DecimalPoint = codes "decimal point"
