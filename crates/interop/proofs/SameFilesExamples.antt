-- Files that say the same, and files that do not.
use Rattle.std.proofs.Common.{◌≡◌, ◌≢◌, ◌↔◌, ℕ, List, [], ◌∷◌, Contains, true, codes, refl, sym, subst, true≢false, ⊎_elim, arith}
use Rattle.std.specs.List.{IsDistinct}
use Rattle.std.proofs.lemmas.List.Elements.{All-cons, All-nil, All-contains, Contains-append_cases, Contains-append_left, Contains-append_right}
use Rattle.std.proofs.lemmas.Option.{same_Some}
use Rattle.biblatex_content.specs.Styled.{Member}
use Rattle.biblatex_entries.specs.Entries.{Source}
use Rattle.biblatex_entries.specs.TypeNames.{known}
use Rattle.biblatex_fields.specs.Fields.{Named}
use Rattle.biblatex_fields.specs.Value.{Value}
use Rattle.interop_values.specs.Values.{values}
use Rattle.interop_values.specs.Written.{Written, written_fields, AreWrittenApart}
use Rattle.interop.specs.SameFiles.{SaysTheSameAs, SayTheSame}

-- an entry of a known type
abbrev entry : List ℕ → List ℕ → List Named → Source
entry key type_name fields = record { key = key; entry_type = known type_name; fields = fields }

-- a value of a text, wherever its chunks stand
abbrev spelling : List Member → Value
spelling text = record { text = text; spans = []; is_joined = true }

-- an entry says the same as itself, unless two of its fields are written under one name
pub itself : (e : Source) → AreWrittenApart e.fields → SaysTheSameAs e e
itself e apart = record {
  key = refl;
  entry_type = refl;
  fields = record { first_apart = apart; second_apart = apart; fields = λ name value. (λ has. has, λ has. has) };
}

swapped : {X : Type 0} (a b x : X) → Contains (a ∷ b ∷ []) x → Contains (b ∷ a ∷ []) x
swapped a b x has = ⊎_elim (Contains-append_right (b ∷ []) (a ∷ []) x) (Contains-append_left (b ∷ []) (a ∷ []) x) (Contains-append_cases (a ∷ []) (b ∷ []) x has)

-- a master's thesis with a title, a school and an empty note, and a thesis with an institution and a title
pub other_names_and_order : (key : List ℕ) (t s : Member) (title school : List Member)
    → SayTheSame
    (entry key (codes "mastersthesis") ((codes "title", spelling (t ∷ title)) ∷ (codes "school", spelling (s ∷ school)) ∷ (codes "note", spelling []) ∷ []) ∷ [])
    (entry key (codes "thesis") ((codes "institution", spelling (s ∷ school)) ∷ (codes "title", spelling (t ∷ title)) ∷ []) ∷ [])
unfolding IsDistinct
other_names_and_order key t s title school = (
  record {
    key = refl;
    entry_type = refl;
    fields = record {
      first_apart = ((refl, tt), (tt, tt));
      second_apart = ((refl, tt), (tt, tt));
      fields = λ name value. (swapped (codes "title", t ∷ title) (codes "institution", s ∷ school) (name, value), swapped (codes "institution", s ∷ school) (codes "title", t ∷ title) (name, value));
    };
  },
  tt,
)

-- two entries with other notes do not say the same
pub other_note : (key : List ℕ) (m n : Member) (first second : List Member) → m ∷ first ≢ n ∷ second
    → SayTheSame (entry key (codes "book") ((codes "note", spelling (m ∷ first)) ∷ []) ∷ []) (entry key (codes "book") ((codes "note", spelling (n ∷ second)) ∷ []) ∷ []) → ⊥
other_note key m n first second differ h =
    differ (All-contains (λ (f : Written). f.1 ≡ n ∷ second) ((codes "note", n ∷ second) ∷ []) (codes "note", m ∷ first)
    (All-cons (λ (f : Written). f.1 ≡ n ∷ second) (codes "note", n ∷ second) [] refl (All-nil (λ (f : Written). f.1 ≡ n ∷ second)))
    ((h.0.fields.fields (codes "note") (m ∷ first)).0 (0, omega arith, refl)))

-- two fields that are written under one name
abbrev journals : List Member → List Member → List Named
journals journal journaltitle = (codes "journal", spelling journal) ∷ (codes "journaltitle", spelling journaltitle) ∷ []

-- no entry says the same as one with both
pub two_of_one_name : (e f : Source) (m n : Member) (first second : List Member) → e.fields ≡ journals (m ∷ first) (n ∷ second) → SaysTheSameAs e f → ⊥
unfolding IsDistinct
two_of_one_name e f m n first second is h = true≢false (subst AreWrittenApart is h.fields.first_apart).0.0

-- With two fields that are written under one name, entries may have the same written fields and yet not the same content under that name: of
-- the two fields the one counts that was read under it.
pub why_apart : (m n : Member) (first second : List Member) → m ∷ first ≢ n ∷ second
    → ((name : List ℕ) (value : List Member) → Contains (written_fields (journals (m ∷ first) (n ∷ second))) (name, value) ↔ Contains (written_fields (journals (n ∷ second) (m ∷ first))) (name, value))
    × (values (journals (m ∷ first) (n ∷ second)) (codes "journaltitle") ≢ values (journals (n ∷ second) (m ∷ first)) (codes "journaltitle"))
why_apart m n first second differ = (
  λ name value. (swapped (codes "journaltitle", m ∷ first) (codes "journaltitle", n ∷ second) (name, value), swapped (codes "journaltitle", n ∷ second) (codes "journaltitle", m ∷ first) (name, value)),
  λ e. differ (sym (same_Some (n ∷ second) (m ∷ first) e)),
)
