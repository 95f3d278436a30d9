use Rattle.std.proofs.Common.{◌++◌, ◌∷◌, [], sym, ap, ◌∙◌, ltb-true}
use Rattle.collation.proofs.Ascii.{folded_ascii}
use Rattle.collation.proofs.key.push_folded.Goals as goal

pub returns-then-is_ascii : goal.returns-then-is_ascii
returns-then-is_ascii c =
    let old = c.args.letters.now.items in
    let small = ltb-true c.args.c 128 (sym c.is_ascii.ensures ∙ c.if-is_ascii.true) in
    c.in_ok-push.ensures.items
    ∙ ap (λ l. old ++ l ∷ []) c.to_ascii_lowercase.ensures.value
    ∙ ap (λ ls. old ++ ls) (sym (folded_ascii c.args.c small))
