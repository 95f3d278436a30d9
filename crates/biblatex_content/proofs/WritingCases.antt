-- Cases of writing, computed.
use Rattle.std.proofs.Common.{◌≡◌, ◌∷◌, ◌++◌, codes, refl}
use Rattle.biblatex_content.specs.declared.chunk.Kind.TheVariants.{Normal, Verbatim}
use Rattle.biblatex_content.specs.Styled.{Math, letters}
use Rattle.biblatex_content.specs.Writing.{written_ordinary, written_verbatim}

-- a verbatim group that would begin with a command has an empty group first
guarded : written_ordinary (letters Verbatim (codes "&x")) ≡ codes "{{}\\&x}"
guarded = refl

kinds : written_ordinary (letters Normal (codes "R&D ") ++ letters Verbatim (codes "NASA") ++ Math (codes "x^2") ∷ letters Normal (codes "~")) ≡ codes "R\\&D {NASA}$x^2$\\textasciitilde{}"
kinds = refl

verbatim : written_verbatim (letters Verbatim (codes "a{b}\\c~")) ≡ codes "a\\{b\\}\\\\c~"
verbatim = refl
