use Rattle.std.proofs.Common.{◌≡◌, drop, false, map}
use Rattle.rendering_names.specs.NameParts.{words_pieces}
use Rattle.rendering_names.specs.Names.{name_manner}
use Rattle.rendering_names.specs.Views.{append_here, name_style_view, word_view}
use Rattle.rendering_names.proofs.style.NameStyle.push_words.Given as goal

abbrev pub invariant-loop-word : goal.invariant-loop-word
invariant-loop-word l =
    append_here l.self (words_pieces (name_manner (name_style_view l.self)) l.is_after (map word_view (drop l.word-index l.words))) l.page
    ≡ append_here l.self (words_pieces (name_manner (name_style_view l.self)) false (map word_view l.words)) l.initial.page
