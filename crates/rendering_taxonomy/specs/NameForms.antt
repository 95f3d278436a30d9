-- How much of a name is printed.
use Rattle.std.specs.Prelude.{ℕ, Bool, true, nat_lt, Option, Some, None, if◌then◌else◌}
use Rattle.rendering_taxonomy.specs.declared.name.DisambiguatedNameForm.{DisambiguatedNameForm}
use Rattle.rendering_taxonomy.specs.declared.name.DisambiguatedNameForm.TheVariants as forms

-- the order of the forms, from the least on
abbrev pub rank : DisambiguatedNameForm → ℕ
rank forms.Count = 0
rank forms.ShortInitialized = 1
rank forms.ShortFull = 2
rank forms.LongInitialized = 3
rank forms.LongFull = 4

-- whether given names are printed
abbrev pub is_long : DisambiguatedNameForm → Bool
is_long f = nat_lt 2 (rank f)

-- the greater of two forms; of equal ones either
abbrev pub greater_form : DisambiguatedNameForm → DisambiguatedNameForm → DisambiguatedNameForm
greater_form f g = if nat_lt (rank f) (rank g) then g else f

-- the next form in which more of the given names is printed: initials first, whole names where they may be
abbrev pub raised : DisambiguatedNameForm → Bool → Option DisambiguatedNameForm
raised forms.ShortInitialized full = Some forms.LongInitialized
raised forms.ShortFull true = Some forms.LongFull
raised forms.LongInitialized true = Some forms.LongFull
raised f full = None
