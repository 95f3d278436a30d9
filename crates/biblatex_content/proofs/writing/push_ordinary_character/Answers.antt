use Rattle.std.proofs.Common.{◌≡◌, codes, refl}
use Rattle.std.specs.Str.{chars}
use Rattle.std.proofs.lemmas.Str.{chars-encodes}
use Rattle.biblatex_content.proofs.writing.push_ordinary_character.Goals as goal

backslash : chars (codes "\\textbackslash{}") ≡ codes "\\textbackslash{}"
unfolding lib.Utf8.encode
backslash = chars-encodes (codes "\\textbackslash{}") refl

tilde : chars (codes "\\textasciitilde{}") ≡ codes "\\textasciitilde{}"
unfolding lib.Utf8.encode
tilde = chars-encodes (codes "\\textasciitilde{}") refl

circumflex : chars (codes "\\textasciicircum{}") ≡ codes "\\textasciicircum{}"
unfolding lib.Utf8.encode
circumflex = chars-encodes (codes "\\textasciicircum{}") refl

pub returns-in-92 : goal.returns-in-92
returns-in-92 c = rw c.in-92.is (rw backslash at c.push_text.ensures)

pub returns-in-126 : goal.returns-in-126
returns-in-126 c = rw c.in-126.is (rw tilde at c.push_text-in-126.ensures)

pub returns-in-94 : goal.returns-in-94
returns-in-94 c = rw c.in-94.is (rw circumflex at c.push_text-in-94.ensures)
