use Rattle.std.proofs.Common.{Option, sym, ap, subst}
use Rattle.texts.specs.Views.{left}
use Rattle.laws.specs.Results.{EndsWith}
use Rattle.xml_text.specs.Markup.{token_at}
use Rattle.xml_text.specs.Reading.{Reading}
use Rattle.xml_text.specs.Tokens.{At, Token}
use Rattle.xml_tree.specs.Building.{with_place}
use Rattle.xml_tree.specs.Views.{refusal_of}
use Rattle.xml_tree.specs.declared.error.TreeError.{TreeError}
use Rattle.xml_tree.proofs.Read.{placed_end}
use Rattle.xml_tree.proofs.reading.read_token.Goals as goal

pub returns-in-Ok : goal.returns-in-Ok
returns-in-Ok c = ap (λ (r : Reading (Option (At Token))). with_place r) c.in-Ok.ensures.reading

pub returns-in-Err : goal.returns-in-Err
returns-in-Err c =
    let read = token_at (left c.args.reader.now) in
    subst (λ (e : TreeError). EndsWith (refusal_of e) (with_place read)) (sym c.stopped.ensures) (placed_end c.in-Err.error (left c.next_token.new.reader) read c.in-Err.ensures.reading)
