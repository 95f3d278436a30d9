-- Year suffixes of the code as plain data.
use Rattle.driver_requests.specs.Suffixes as suffixes
use Rattle.driver_requests.specs.declared.suffix.Origin.{Origin}
use Rattle.driver_requests.specs.declared.suffix.Suffix.{Suffix}

-- what gave a year suffix
abbrev pub origin_view : Origin → suffixes.Origin
origin_view o = record { round = o.round; class = o.class }

-- year suffixes
abbrev pub suffix_view : Suffix → suffixes.Suffix
suffix_view s = record { index = s.index; origin = origin_view s.origin }
