-- The runs that states of their own stand for.
use Rattle.biblatex_text.specs.declared.run.Run.{Run}
use Rattle.biblatex_text.specs.declared.run.Run.TheVariants.{Blank, Comment, Identifier, Key, Braced, BracedEscape, Quoted, QuotedEscape}
use Rattle.biblatex_text.specs.declared.blank.BlankRun.{BlankRun}
use Rattle.biblatex_text.specs.declared.blank.BlankRun.TheVariants.{Spaces, CommentLine}
use Rattle.biblatex_text.specs.declared.piece.BracedPiece.{BracedPiece}
use Rattle.biblatex_text.specs.declared.piece.BracedPiece.TheVariants.{Braces, BracesEscape}
use Rattle.biblatex_text.specs.declared.piece.QuotedPiece.{QuotedPiece}
use Rattle.biblatex_text.specs.declared.piece.QuotedPiece.TheVariants.{Quotes, QuotesEscape}
use Rattle.biblatex_text.specs.declared.word.IdentifierRun.{IdentifierRun}
use Rattle.biblatex_text.specs.declared.word.KeyRun.{KeyRun}

abbrev pub blank : BlankRun → Run
blank Spaces = Blank
blank CommentLine = Comment

abbrev pub braced : BracedPiece → Run
braced (Braces depth) = Braced depth
braced (BracesEscape depth) = BracedEscape depth

abbrev pub quoted : QuotedPiece → Run
quoted (Quotes depth) = Quoted depth
quoted (QuotesEscape depth) = QuotedEscape depth

abbrev pub identifier : IdentifierRun → Run
identifier run = Identifier

abbrev pub key : KeyRun → Run
key run = Key
