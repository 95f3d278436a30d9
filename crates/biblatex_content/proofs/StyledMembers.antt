-- Members after others.
use Rattle.std.proofs.Common.{◌≡◌, ℕ, List, [], ◌++◌, refl, sym, ap, ◌∙◌, append_assoc}
use Rattle.std.proofs.lemmas.List.{map-append}
use Rattle.biblatex_content.specs.declared.chunk.Kind.{Kind}
use Rattle.biblatex_content.specs.declared.tidy.Gap.{Gap}
use Rattle.biblatex_content.specs.declared.tidy.Gap.TheVariants.{Start, Nothing, Space}
use Rattle.biblatex_content.specs.Styled.{Member, Letter, letters}
use Rattle.biblatex_content.specs.Tidy.{tidied_after}

-- characters after characters of the same kind
pub letters_more : (done : List Member) (kind : Kind) (cs ds : List ℕ) → (done ++ letters kind cs) ++ letters kind ds ≡ done ++ letters kind (cs ++ ds)
letters_more done kind cs ds = append_assoc done (letters kind cs) (letters kind ds) ∙ ap (λ (ms : List Member). done ++ ms) (sym (map-append (Letter kind) cs ds))

-- at the end nothing is to come
pub tidied_after-nil : (gap : Gap) → tidied_after gap [] ≡ []
tidied_after-nil Start = refl
tidied_after-nil Nothing = refl
tidied_after-nil (Space kind) = refl
