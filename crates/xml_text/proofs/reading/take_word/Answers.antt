use Rattle.std.proofs.Common.{◌≡◌, ◌<◌, ◌∷◌, drop, length, Err, sym, ap, ◌∙◌, drop-cons, rules}
use Rattle.texts.specs.Views.{left}
use Rattle.xml_text.specs.Reading.{word_at}
use Rattle.xml_text.proofs.Words.{word_fails}
use Rattle.xml_text.proofs.reading.take_word.Goals as goal

pub returns-in_err-take_character : goal.returns-in_err-take_character
returns-in_err-take_character c =
    let word = c.args.word.now in
    let here : c.loop-c.c-index < length word = c.loop-c-test.true in
    let e = drop-cons word c.loop-c.c-index c.c-item.result here ∙ ap (λ x. x ∷ drop (Prim.Native.Nat.suc c.loop-c.c-index) word) (sym c.c-item.is) in
    let f : word_at word (left c.args.reader.now) ≡ Err (c.in_err-take_character.field-0.0, left c.take_character.new.reader) =
    sym c.loop-c.invariant ∙ (ap (λ x. word_at x (left c.loop-c.reader)) e ∙ word_fails c.c-item.result (drop (Prim.Native.Nat.suc c.loop-c.c-index) word) (left c.loop-c.reader) _ c.in_err-take_character.ensures) in
    search rules
