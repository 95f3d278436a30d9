use Rattle.std.proofs.Common.{◌≡◌, ℕ, drop, map, List, Bor}
use Rattle.std.specs.Option.{option_map}
use Rattle.rendering_locale.specs.Lookup.{in_language}
use Rattle.rendering_locale.specs.Views.{locale_view}
use Rattle.rendering_locale.proofs.looking.in_language.Given as goal

abbrev pub invariant-loop-locale : goal.invariant-loop-locale
invariant-loop-locale l = in_language (option_map (λ (s : Bor (List ℕ)). s.now) l.wanted) (map locale_view (drop l.locale-index l.locales)) ≡ in_language (option_map (λ (s : Bor (List ℕ)). s.now) l.wanted) (map locale_view l.locales)
