use Rattle.std.proofs.Common.{◌≡◌, [], refl, ◌∙◌}
use Rattle.std.proofs.lemmas.List.{append-nil}
use Rattle.biblatex_content.specs.Views.{joined, styled}
use Rattle.laws.specs.Text.{characters}
use Rattle.biblatex_content.proofs.joining.Joining.close_run.Goals as goal

pub returns-clause-styled : goal.returns-clause-styled
returns-clause-styled c =
    let empty : characters c.push_chunk.new.self.run ≡ [] = rw c.push_chunk.ensures.run c.take_text-run.ensures.left in
    let nothing : joined c.push_chunk.new.self ≡ styled c.push_chunk.new.self.chunks.items = rw empty (append-nil (styled c.push_chunk.new.self.chunks.items)) in
    nothing ∙ c.in_ok-push_chunk.ensures.chunks ∙ rw (c.chunk_of.ensures.members, c.take_text-run.ensures.taken) refl
