use Rattle.std.proofs.Common.{ℕ, [], ◌∷◌, ◌++◌, List, ap, sym, ◌∙◌, append_assoc, Option}
use Rattle.std.specs.Option.{option_map}
use Rattle.std.specs.Borrow.{Bor}
use Rattle.biblatex_content.specs.declared.chunk.Chunk.{Chunk}
use Rattle.biblatex_text.specs.declared.spanned.Spanned.{Spanned}
use Rattle.interop_values.specs.Readings.{with_subtitle}
use Rattle.std.proofs.lemmas.Result.{on_ok_weaker}
use Rattle.laws.specs.Characters as character
use Rattle.biblatex_content.specs.declared.chunk.Kind.TheVariants.{Normal}
use Rattle.biblatex_content.specs.Styled.{Member, letters}
use Rattle.biblatex_content.specs.Views.{styled}
use Rattle.interop_values.specs.Views.{with_pieces}
use Rattle.interop_values.proofs.PiecesGrowing.{colon}
use Rattle.interop_values.proofs.readings.push_subtitle.Goals as goal

pub returns : goal.returns
returns c =
    let sub = styled c.in-Some.subtitle.now in
    on_ok_weaker c.push_chunks.result
    (λ e rest.
    e rest ∙ (c.in_ok-push_text.ensures (sub ++ rest)
    ∙ (ap (λ (cs : List ℕ). with_pieces c.args.pieces.now (letters Normal cs ++ (sub ++ rest))) colon
    ∙ ap (λ (ms : List Member). with_pieces c.args.pieces.now ms) (sym (append_assoc (letters Normal (character.colon ∷ character.space ∷ [])) sub rest)
    ∙ ap (λ (x : Option (Bor (List (Spanned Chunk)))). with_subtitle [] (option_map (λ v. styled v.now) x) ++ rest) (sym c.in-Some.is)))))
    c.push_chunks.ensures
