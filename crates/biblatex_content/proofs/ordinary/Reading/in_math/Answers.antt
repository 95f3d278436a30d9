use Rattle.std.proofs.Common.{◌≡◌, true, refl, sym, ◌∙◌, length, reverse}
use Rattle.std.specs.Prelude.{◌==◌}
use Rattle.std.proofs.lemmas.Bool.{eq-eqb}
use Rattle.std.proofs.lemmas.List.{length-reverse}
use Rattle.biblatex_content.proofs.ordinary.Reading.in_math.Goals as goal

pub returns-in-Dollar : goal.returns-in-Dollar
returns-in-Dollar c =
    let e : length (reverse c.args.self.now.frames.items) == c.args.depth ≡ true = eq-eqb _ _ (length-reverse c.args.self.now.frames.items ∙ (sym c.args.self.now.frames.ok.0 ∙ (sym c.len.ensures ∙ c.if-len-depth.true))) in
    rw (c.in-Dollar.is, e, c.in_ok-push_math-in-Dollar.ensures.styled, c.take_text-math.ensures.taken, c.take_text-math.ensures.left) refl
