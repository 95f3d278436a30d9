-- Which branch of a choose is taken.
use Rattle.std.specs.Prelude.{Bool, true, false, not, ◌||◌, List}
use Rattle.std.specs.List.{list_any, list_all}
use Rattle.std.specs.Option.{option_map_or}
use Rattle.rendering_taxonomy.specs.Kinds.{is_locator}
use Rattle.rendering_style.specs.Nodes as nodes
use Rattle.rendering_style.specs.Nodes.{Test, Condition}
use Rattle.rendering_context.specs.Cites.{CiteProperties, DisambiguateState, undisambiguated, by_names, by_choose, by_suffix}
use Rattle.rendering_context.specs.Contexts.{Context}
use Rattle.rendering_context.specs.Answering.{has_answer, is_numeric_variable}
use Rattle.rendering_taxonomy.specs.declared.choose.ChooseMatch.{ChooseMatch}
use Rattle.rendering_taxonomy.specs.declared.choose.ChooseMatch.TheVariants as matches
use Rattle.rendering_taxonomy.specs.declared.choose.TestPosition.{TestPosition}
use Rattle.rendering_taxonomy.specs.declared.choose.TestPosition.TheVariants as positions
use Rattle.rendering_taxonomy.specs.declared.cite.IbidState.{IbidState}
use Rattle.rendering_taxonomy.specs.declared.cite.IbidState.TheVariants as ibids

-- whether the cite before is of the same entry
abbrev pub is_ibid : IbidState → Bool
is_ibid ibids.Different = false
is_ibid ibids.IbidWithLocator = true
is_ibid ibids.Ibid = true

-- whether the cite before is of the same entry and has another locator
abbrev pub is_ibid_with_locator : IbidState → Bool
is_ibid_with_locator ibids.Different = false
is_ibid_with_locator ibids.IbidWithLocator = true
is_ibid_with_locator ibids.Ibid = false

-- Whether a cite is at a position. One that repeats the cite before it, is near the first note or is not the first of its entry is a
-- subsequent one.
abbrev pub is_at : CiteProperties → TestPosition → Bool
is_at p positions.First = p.is_first
is_at p positions.Subsequent = is_ibid p.ibid || p.is_near_note || not p.is_first
is_at p positions.Ibid = is_ibid p.ibid
is_at p positions.IbidWithLocator = is_ibid_with_locator p.ibid
is_at p positions.NearNote = p.is_near_note

-- whether the cite is to be disambiguated by branches
abbrev pub is_chosen : DisambiguateState → Bool
is_chosen undisambiguated = false
is_chosen (by_names ps) = false
is_chosen by_choose = true
is_chosen (by_suffix n) = false

-- whether a test holds; tests see variables also where they are not printed again
abbrev pub holds : Context → Test → Bool
holds c (nodes.is_of_kind k) = c.answers.kind k
holds c (nodes.has_answer v) = has_answer c v
holds c (nodes.is_numeric v) = is_numeric_variable c v
holds c (nodes.is_uncertain v) = option_map_or (λ d. d.approximate) (c.answers.date v) false
holds c (nodes.has_locator l) = option_map_or (λ m. is_locator l m.label) c.properties.locator false
holds c (nodes.stands_at position) = is_at c.properties position
holds c nodes.is_alike = is_chosen c.properties.disambiguation

-- all tests, some test, or no test
abbrev pub match_holds : ChooseMatch → (Test → Bool) → List Test → Bool
match_holds matches.All test ts = list_all test ts
match_holds matches.Any test ts = list_any test ts
match_holds matches.None test ts = not (list_any test ts)

-- whether a condition holds
abbrev pub is_met : Context → Condition → Bool
is_met c condition = match_holds condition.required (holds c) condition.tests

-- whether a test is `disambiguate`
abbrev pub is_disambiguate : Test → Bool
is_disambiguate nodes.is_alike = true
is_disambiguate t = false

-- whether one of the tests of a condition is `disambiguate`
abbrev pub asks_disambiguate : Condition → Bool
asks_disambiguate condition = list_any is_disambiguate condition.tests
