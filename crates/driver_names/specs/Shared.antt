-- How many of the first people of a cite are those of another cite of its class.
use Rattle.std.specs.Prelude.{◌≡◌, ℕ, zero, suc, ◌+◌, ◌<◌, Bool, ◌==◌, ◌&&◌, List, [], ◌∷◌, map, count_by, length, slice_get, if◌then◌else◌, Option, Some, None}
use Rattle.std.specs.List.{flat_map, list_any, position_or_len, range_with_len, zip}
use Rattle.std.specs.Option.{option_copied, option_eq, option_map}
use Rattle.std.specs.Cmp.Lexicographic.{pointwise}
use Rattle.laws.specs.Text.{characters}
use Rattle.literature_values.specs.PersonViews.{Named}
use Rattle.rendering_tree.specs.Metas.{is_person}
use Rattle.driver_names.specs.Names.{Member, compared, compared_first, is_by_entry, others, rule_for}
use Rattle.driver_names.specs.declared.names_compared.ComparedName.{ComparedName}
use Rattle.rendering_taxonomy.specs.declared.style.DisambiguationRule.{DisambiguationRule}
use Rattle.rendering_taxonomy.specs.declared.style.DisambiguationRule.TheVariants as rules

-- the index of a rule in their order, from zero for none
abbrev pub rule_index : Option DisambiguationRule → ℕ
rule_index None = 0
rule_index (Some rules.ByCite) = 1
rule_index (Some rules.AllNames) = 2
rule_index (Some rules.AllNamesWithInitials) = 3
rule_index (Some rules.PrimaryName) = 4
rule_index (Some rules.PrimaryNameWithInitials) = 5

-- whether two rules are one
abbrev pub is_rule : Option DisambiguationRule → Option DisambiguationRule → Bool
is_rule r s = rule_index r == rule_index s

-- whether the first n people of two cites are the same, by a rule
abbrev pub agrees_by : Option DisambiguationRule → ℕ → Member → Member → Bool
agrees_by rule n m o = pointwise is_person (compared_first rule n m.people) (compared_first rule n o.people)

-- whether the first n + 1 people of a cite are those of another one, by a rule
abbrev pub shares : Option DisambiguationRule → List Member → Member → ℕ → Bool
shares rule ms m n = list_any (agrees_by rule (n + 1) m) (others ms m)

-- the greatest number, at most so many, whose predecessor passes a test; else the first of these two
abbrev pub last_passing : ℕ → (ℕ → Bool) → ℕ → ℕ
last_passing least test zero = least
last_passing least test (suc n) = if test n then suc n else last_passing least test n

-- the greatest number of first people, at most so many, that a cite shares with another one, by the rule of its style
abbrev pub shared_people : ℕ → List Member → Member → ℕ
shared_people most ms m = last_passing 0 (shares (rule_for m) ms m) most

-- the number of people that a cite shares whose style has the rule; of others a number that is known
abbrev pub shared_where : Option DisambiguationRule → ℕ → List Member → Member → ℕ → ℕ
shared_where rule most ms m known = if is_rule (rule_for m) rule then last_passing known (shares rule ms m) most else known

-- these numbers of all cites
abbrev pub all_shared_where : Option DisambiguationRule → ℕ → List Member → List ℕ → List ℕ
all_shared_where rule most ms known = map (λ p. shared_where rule most ms p.0 p.1) (zip ms known)

-- numbers are those of people that cites share with others, by more people than an index has before it
abbrev pub AreShared : ℕ → List Member → List ℕ → Type 0
AreShared index ms shared = (most : ℕ) × (index < most) × (shared ≡ map (shared_people most ms) ms)

-- the cites of a class are at the indices that they know
abbrev pub AreInOrder : List Member → Type 0
AreInOrder ms = map (λ m. m.index) ms ≡ range_with_len 0 (length ms)

-- the index of the first cite of which the first n people are those of a cite, by a rule
abbrev pub first_agreeing : Option DisambiguationRule → List Member → ℕ → Member → ℕ
first_agreeing rule ms n m = position_or_len (agrees_by rule n m) ms

-- for each cite the index of the first cite with the same first n people, by a rule
abbrev pub groups_by : Option DisambiguationRule → List Member → ℕ → List ℕ
groups_by rule ms n = map (first_agreeing rule ms n) ms

-- the person at an index as a rule compares people, if the cite has so many
abbrev pub compared_at : Option DisambiguationRule → ℕ → Member → Option Named
compared_at rule index m = option_map (compared rule index) (slice_get m.people index)

-- a group beside the person at an index
abbrev pub key_at : Option DisambiguationRule → ℕ → ℕ → Member → ℕ × Option Named
key_at rule index group m = (group, compared_at rule index m)

-- a name as it is compared
abbrev pub compared_name_view : ComparedName → Named
compared_name_view c = record {
  name = characters c.name.now;
  given_name = option_map characters (option_copied c.given_name);
  prefix = option_map characters (option_copied c.prefix);
  suffix = option_map characters (option_copied c.suffix);
}

-- a group beside a name
abbrev pub key_view : ℕ × Option ComparedName → ℕ × Option Named
key_view k = (k.0, option_map compared_name_view k.1)

-- whether two groups are one and two names beside them the same
abbrev pub is_key : ℕ × Option Named → ℕ × Option Named → Bool
is_key k l = k.0 == l.0 && option_eq is_person k.1 l.1

-- a group beside the entry of a cite of it, where the cite's style does not compare cites of one entry
abbrev pub own_key : ℕ → Member → List (ℕ × ℕ)
own_key group m = if is_by_entry m then (group, m.cite.entry) ∷ [] else []

-- the groups of such cites beside their entries
abbrev pub own_keys : List ℕ → List Member → List (ℕ × ℕ)
own_keys groups ms = flat_map (λ p. own_key p.0 p.1) (zip groups ms)

-- whether two groups are one, and the entries beside them
abbrev pub is_own_key : ℕ × ℕ → ℕ × ℕ → Bool
is_own_key k l = k.0 == l.0 && k.1 == l.1

-- how many cites of its group a cite is not compared with: itself alone, or those of its entry
abbrev pub own_size : List (ℕ × ℕ) → ℕ → Member → ℕ
own_size keys group m = if is_by_entry m then count_by (is_own_key (group, m.cite.entry)) keys else 1
