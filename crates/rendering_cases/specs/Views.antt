-- Places of the code as plain data.
use Rattle.std.specs.Str.{chars}
use Rattle.rendering_cases.specs.Words as words
use Rattle.rendering_cases.specs.declared.place.Place.{Place}

-- a place in a text
abbrev pub place_view : Place → words.Place
place_view p = record {
  begins_word = p.begins_word;
  begins_text = p.begins_text;
  follows_mark = p.follows_mark;
  ahead = chars p.ahead.now;
}
