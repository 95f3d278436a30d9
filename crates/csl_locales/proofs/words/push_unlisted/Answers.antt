use Rattle.std.proofs.Common.{ℕ, List, [], ◌∷◌, chars, sym, ap, ◌∙◌}
use Rattle.std.proofs.lemmas.List.{map-append}
use Rattle.std.specs.Borrow.{Bor}
use Rattle.laws.specs.Borrowed.{borrowed}
use Rattle.laws.specs.Text.{text}
use Rattle.laws.proofs.Text.{text_of_chars}
use Rattle.csl_locales.proofs.Unlisted.{word_kept, word_left}
use Rattle.csl_locales.proofs.words.push_unlisted.Goals as goal

pub returns-in_ok-push : goal.returns-in_ok-push
returns-in_ok-push c =
    let w = c.args.word.now in
    word_kept (borrowed c.args.words.now.items) (borrowed c.push.new.self.items) w (text (chars w)) (text_of_chars w c.utf8.word) (sym c.is_unlisted.ensures ∙ c.if-is_unlisted.true)
    (ap borrowed c.in_ok-push.ensures.items ∙ map-append (λ (b : Bor (List ℕ)). b.now) c.args.words.now.items (c.args.word ∷ []))

pub returns-else-is_unlisted : goal.returns-else-is_unlisted
returns-else-is_unlisted c =
    let w = c.args.word.now in
    word_left (borrowed c.args.words.now.items) w (text (chars w)) (text_of_chars w c.utf8.word) (sym c.is_unlisted.ensures ∙ c.if-is_unlisted.false)
