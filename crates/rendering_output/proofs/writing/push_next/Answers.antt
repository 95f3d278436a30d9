use Rattle.std.proofs.Common.{ℕ, List, [], ◌∷◌, if◌then◌else◌, subst}
use Rattle.std.specs.Str.{chars}
use Rattle.laws.specs.Characters.{space}
use Rattle.rendering_output.specs.Writing.{WritesCharacters}
use Rattle.rendering_output.proofs.WritingCalls.{writes_text, writes_more}
use Rattle.rendering_output.proofs.WritingDeclared.{spaced_after-one}
use Rattle.rendering_output.proofs.writing.push_next.Goals as goal

pub returns : goal.returns
returns g c =
    let took = g.T.TextTarget.takes in
    let between : List ℕ = if c.args.is_after then space ∷ [] else [] in
    let declaration = chars c.args.text.now in
    let last = writes_text took c.push_space.new.target c.args.text.now c.push_str.new.self c.utf8.text c.push_str.ensures in
    let both = writes_more took c.args.target.now between c.push_space.new.target declaration c.push_str.new.self c.push_space.ensures last in
    subst (λ (cs : List ℕ). WritesCharacters took c.args.target.now cs c.push_str.new.self) (spaced_after-one c.args.is_after declaration) both
