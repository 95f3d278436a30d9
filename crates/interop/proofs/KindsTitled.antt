-- Works that an entry is part of.
use Rattle.std.proofs.Common.{◌≡◌, ◌||◌, true, false, List, [], ◌∷◌, refl, ap, Option, Some, None, option_to_list}
use Rattle.std.specs.Option.{option_map, is_some}
use Rattle.std.specs.Borrow.{Bor}
use Rattle.biblatex_content.specs.Styled.{Member}
use Rattle.biblatex_content.specs.Views.{styled}
use Rattle.biblatex_content.specs.declared.chunk.Chunk.{Chunk}
use Rattle.biblatex_text.specs.declared.spanned.Spanned.{Spanned}
use Rattle.literature_values.specs.declared.date.Date.{Date}
use Rattle.literature_values.specs.declared.entry_type.EntryType.{EntryType}
use Rattle.literature_values.specs.declared.entry_type.EntryType.TheVariants as works
use Rattle.literature_entries.specs.Fields.{nothing_but}
use Rattle.interop_values.specs.Readings.{format_of}
use Rattle.interop.specs.Bridge.{parent, titled, conference_of}

-- a work of a title that was borrowed
pub view_title : (t : EntryType) (r : Option (Bor (List (Spanned Chunk)))) (x : Option (List Member)) → option_map (λ v. styled v.now) r ≡ x → option_to_list (option_map (λ v. titled t (styled v.now)) r) ≡ option_to_list (option_map (titled t) x)
view_title t None x e = ap (λ (y : Option (List Member)). option_to_list (option_map (titled t) y)) e
view_title t (Some v) x e = ap (λ (y : Option (List Member)). option_to_list (option_map (titled t) y)) e

-- with neither a title nor a date there is no conference
pub no_conference : (r : Option (Bor (List (Spanned Chunk)))) (date : Option Date) → (is_some r || is_some date) ≡ false → conference_of (option_map (λ v. styled v.now) r) date ≡ []
no_conference None None e = refl
no_conference None (Some d) e = absurd cc
no_conference (Some v) None e = absurd cc
no_conference (Some v) (Some d) e = absurd cc

-- with a title or a date there is a conference
pub some_conference : (r : Option (Bor (List (Spanned Chunk)))) (date : Option Date) → (is_some r || is_some date) ≡ true → parent (record (nothing_but works.Conference) { title = option_map (λ v. format_of (styled v.now)) r; date = date }) [] ∷ [] ≡ conference_of (option_map (λ v. styled v.now) r) date
some_conference None None e = absurd cc
some_conference None (Some d) e = refl
some_conference (Some v) None e = refl
some_conference (Some v) (Some d) e = refl
