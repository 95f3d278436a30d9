use Rattle.std.proofs.Common.{◌≡◌, ℕ, false, List, [], ◌++◌, ap, ◌∙◌}
use Rattle.std.proofs.lemmas.List.{append-nil}
use Rattle.biblatex_content.specs.Views.{members}
use Rattle.biblatex_content.specs.Writing.{written_from, written_after}
use Rattle.biblatex_content.proofs.WritingPieces.{verbatim_alone}
use Rattle.biblatex_content.proofs.chunk.Chunk.to_biblatex_string.Goals as goal

pub returns-then-is_verbatim : goal.returns-then-is_verbatim
returns-then-is_verbatim c =
    rw (c.if-is_verbatim.true, c.in_ok-push_as_is.ensures, c.empty_text-text.ensures.characters, c.get.ensures) (verbatim_alone c.args.self.now)

pub returns : goal.returns
returns c =
    let empty : written_after c.empty_text-text.result false (members c.args.self.now ++ []) ≡ written_from false (members c.args.self.now ++ []) =
    ap (λ (x : List ℕ). x ++ written_from false (members c.args.self.now ++ [])) c.empty_text-text.ensures.characters in
    let alone : written_from false (members c.args.self.now ++ []) ≡ written_from false (members c.args.self.now) = ap (written_from false) (append-nil (members c.args.self.now)) in
    rw c.if-is_verbatim.false (c.in_ok-close_group.ensures ∙ (c.in_ok-is_open.ensures [] ∙ (empty ∙ alone)))
