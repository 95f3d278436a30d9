-- Editor types that were written are read back.
use Rattle.std.proofs.Common.{◌≡◌, ℕ, Bool, List, Ok, ap, ◌∙◌}
use Rattle.std.specs.Str.{chars}
use Rattle.laws.specs.Text.{lowered}
use Rattle.biblatex_content.specs.declared.chunk.Kind.TheVariants.{Normal}
use Rattle.biblatex_values.specs.EditorType.{EditorName, editor_of, IsEditorName, reads_editor, writes_editor}
use Rattle.biblatex_values.proofs.TextsPlain.{plain-letters}

pub editor_again : (e : EditorName) → IsEditorName e → reads_editor (writes_editor e) ≡ Ok e
editor_again e is =
    ap (λ (cs : List ℕ). Ok (editor_of (lowered cs))) (plain-letters Normal (chars e.name))
    ∙ ap (λ (name : List ℕ). Ok (editor_of name)) is.lower
    ∙ ap (λ (known : Bool). Ok (record { name = e.name; is_known = known })) is.known
