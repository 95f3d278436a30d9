-- Texts that were written are read back.
use Rattle.std.proofs.Common.{◌≡◌, ℕ, List, Ok, ap}
use Rattle.biblatex_content.specs.declared.chunk.Kind.TheVariants.{Normal}
use Rattle.biblatex_values.specs.Texts.{reads_text, writes_text, IsText}
use Rattle.biblatex_values.proofs.TextsPlain.{plain-letters}

pub text_back : (cs : List ℕ) → IsText cs → reads_text (writes_text cs) ≡ Ok cs
text_back cs any = ap (λ (ds : List ℕ). Ok ds) (plain-letters Normal cs)
