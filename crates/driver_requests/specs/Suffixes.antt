-- Year suffixes: `a`, `b` and so on after the year, of entries that are not disambiguated otherwise.
use Rattle.std.specs.Prelude.{ℕ, Bool, ◌==◌, ◌&&◌}

-- the round that gave a state, and the class in it, both from zero
pub record Origin : Type 0 where
  pub round : ℕ
  pub class : ℕ

-- whether two origins are the same
abbrev pub is_origin : Origin → Origin → Bool
is_origin a b = a.round == b.round && a.class == b.class

-- the index of the year suffix that an entry has, from zero, and what gave it
pub record Suffix : Type 0 where
  pub index : ℕ
  pub origin : Origin
