-- Types are equal exactly where their names are.
use Rattle.std.proofs.Common.{◌≡◌, ℕ, List, Option, Some, refl, sym, ap, ◌∙◌, bytes_eq, rules}
use Rattle.std.specs.Bool.{one_answer}
use Rattle.std.specs.Cmp.Lexicographic.{bytes_decides}
use Rattle.std.specs.List.{find}
use Rattle.std.specs.Prelude.{unwrap_or}
use denote.Enum.Bare.{same_true, true_same}
use Rattle.laws.specs.Equality.{Shows}
use Rattle.laws.proofs.Equality.{Decides-moved}
use Rattle.literature_values.specs.EntryTypes.{type_name, entry_types}
use Rattle.literature_values.specs.contracts.entry_type.EntryType.{the_type}
use Rattle.literature_values.specs.contracts.entry_type.EntryTypePartialEq.TheImpl as entry_type
use Rattle.literature_values.specs.declared.entry_type.EntryType.{EntryType}
use Rattle.literature_values.specs.declared.entry_type.EntryType.TheVariants as types

-- the type of a name
abbrev with_name : List ℕ → Option EntryType
with_name name = find (λ t. bytes_eq name (type_name t)) entry_types

-- each type is the first of its name
first_named : (t : EntryType) → with_name (type_name t) ≡ Some t
first_named types.Article = refl
first_named types.Chapter = refl
first_named types.Entry = refl
first_named types.Anthos = refl
first_named types.Report = refl
first_named types.Thesis = refl
first_named types.Web = refl
first_named types.Scene = refl
first_named types.Artwork = refl
first_named types.Patent = refl
first_named types.Case = refl
first_named types.Newspaper = refl
first_named types.Legislation = refl
first_named types.Manuscript = refl
first_named types.Original = refl
first_named types.Post = refl
first_named types.Misc = refl
first_named types.Performance = refl
first_named types.Periodical = refl
first_named types.Proceedings = refl
first_named types.Book = refl
first_named types.Blog = refl
first_named types.Reference = refl
first_named types.Conference = refl
first_named types.Anthology = refl
first_named types.Repository = refl
first_named types.Thread = refl
first_named types.Video = refl
first_named types.Audio = refl
first_named types.Exhibition = refl

-- so no two have one name
one_name : (t u : EntryType) → type_name t ≡ type_name u → t ≡ u
one_name t u e = ap (λ o. unwrap_or o t) (sym (first_named t) ∙ ap with_name e ∙ first_named u)

pub Shows-EntryType : Shows entry_type.ghosts.eq type_name
Shows-EntryType t u = Decides-moved (entry_type.ghosts.eq t u) (same_true the_type (search rules) t u, true_same the_type t u) (ap type_name) (one_name t u)

-- `==` answers what their names do
pub decided_by_names : (t u : EntryType) → entry_type.ghosts.eq t u ≡ bytes_eq (type_name t) (type_name u)
decided_by_names t u = one_answer (entry_type.ghosts.eq t u) (bytes_eq (type_name t) (type_name u)) (Shows-EntryType t u) (bytes_decides (type_name t) (type_name u))
