use Rattle.std.proofs.Common.{◌≡◌, ℕ, List, ◌++◌, ap, ◌∙◌}
use Rattle.std.specs.Prelude.{String, string_bytes}
use Rattle.std.specs.Global.{Global}
use Rattle.std.proofs.lemmas.Fmt.{contents_after_writes}
use Rattle.cite_output.specs.Pieces.{output_of}
use Rattle.cite_output.proofs.output.Output.to_text.Goals as goal

pub returns-in-Ok : goal.returns-in-Ok
returns-in-Ok c =
    contents_after_writes (λ (s : String Global) (bs : List ℕ) (t : String Global). string_bytes t ≡ string_bytes s ++ bs) string_bytes (λ s bs t e. e) _ _ _ c.in-Ok.ensures
    ∙ ap (λ (bs : List ℕ). bs ++ output_of c.args.self.now) c.new-text.ensures.bytes
