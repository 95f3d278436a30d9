-- Nothing is listed in no text.
use Rattle.std.proofs.Common.{◌≡◌, [], refl}
use Rattle.std.specs.Str.{chars, trim_start, trim_end}
use Rattle.biblatex_entries.specs.Names.{trimmed, listed}

pub nothing_trimmed : trimmed [] ≡ []
unfolding trim_end chars trim_start
nothing_trimmed = refl

pub nothing_listed : listed [] ≡ []
unfolding trim_end chars trim_start
nothing_listed = refl
