use Rattle.std.proofs.Common.{◌-◌, bytes_eq, drop, ap, ◌∙◌}
use Rattle.std.specs.Str.{chars}
use Rattle.driver_citations.proofs.ending_text.ends_in.Goals as goal

pub returns : goal.returns
returns c =
    c.is_text.ensures
    ∙ ap (bytes_eq (chars c.args.end.now)) (c.without_first.ensures ∙ ap (λ n. drop n (chars c.args.text.now)) (c.saturating_sub-more.ensures ∙ (λ k. c.char_count.ensures k - c.char_count-2.ensures k)))
