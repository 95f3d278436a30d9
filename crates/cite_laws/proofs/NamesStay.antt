-- In a file with its references resolved a name still means the last entry that has it as its key or an alias: aliases are never inherited.
use Rattle.std.proofs.Common.{◌≡◌, ℕ, suc, arith, false, List, [], ◌∷◌, drop, get_or, length, map, slice_get, Option, Some, None, codes, refl, sym, ap, ◌∙◌}
use Rattle.std.specs.Prelude.{IfSome, if◌then◌else◌}
use Rattle.std.specs.List.{list_any}
use Rattle.std.specs.Option.{option_map}
use Rattle.std.specs.Str.{bytes_eq}
use Rattle.biblatex_dates.specs.declared.date.Date.{Date}
use Rattle.biblatex_fields.specs.Fields.{text_named, value_named}
use Rattle.biblatex_fields.specs.Value.{Value}
use Rattle.biblatex_entries.specs.Entries.{Source, names_of, text_in}
use Rattle.biblatex_entries.specs.Names.{listed}
use Rattle.biblatex_entries.specs.Roles.{role_of}
use Rattle.biblatex_entries.specs.declared.role.Role.{Role}
use Rattle.biblatex_entries.specs.declared.role.Role.TheVariants.{Article, PartOfBook, PartOfOther, XData}
use Rattle.biblatex_inheritance.specs.Resolved.{Table, Offer, date_for, dated, first, first_offer, offers, own, resolved, undated}
use Rattle.biblatex_inherited_fields.specs.Table.{inherits, source_name}
use Rattle.biblatex.specs.Listed.{Listed, IsAsRead, after_first, last_named, references}
use Rattle.biblatex.specs.Resolved.{IsResolved, head, tables}
use Rattle.biblatex_meaning.proofs.ReadingLoaded.{as_read}
use Rattle.biblatex_laws.specs.Files.{IsFileOf}
use Rattle.reference_graph.specs.References.{references_of}

-- no entry inherits aliases
not_inherited : (to : Role) → inherits to (codes "ids") ≡ false
not_inherited XData = refl
not_inherited Article = refl
not_inherited PartOfBook = refl
not_inherited PartOfOther = refl
not_inherited _ = refl

none_offered : (to : Role) (os : List Offer) → first_offer to os (codes "ids") ≡ None
none_offered to [] = refl
none_offered to (o ∷ os) = λ i. first (if not_inherited to i then o.fields (source_name to o.role (codes "ids")) else None) (none_offered to os i)

-- a date changes no aliases
dated_ids : (o : Option Date) (t : Table) → dated o t (codes "ids") ≡ t (codes "ids")
dated_ids None t = refl
dated_ids (Some d) t = refl

-- the first of something and nothing
pub first_alone : (o : Option Value) → first o None ≡ o
first_alone None = refl
first_alone (Some v) = refl

-- an entry keeps its aliases
ids_kept : (e : Source) (os : List Offer) → resolved e os (codes "ids") ≡ value_named (codes "ids") e.fields
ids_kept e os =
    dated_ids (date_for (role_of e.entry_type) os) (undated e os)
    ∙ ap (first (own e (codes "ids"))) (none_offered (role_of e.entry_type) os)
    ∙ first_alone (value_named (codes "ids") e.fields)

-- each entry has the aliases of the one at its index
abbrev HaveTheIdsOf : List Source → List Source → Type 0
HaveTheIdsOf read entries = (i : ℕ) → IfSome (slice_get read i) (λ e. tables entries i (codes "ids") ≡ value_named (codes "ids") e.fields)

resolved_ids : (read file : Listed) → IsResolved read file → HaveTheIdsOf read.entries file.entries
resolved_ids read file h i = by (slice_get read.entries i) (h.equation i)
  where
    by : (o : Option Source)
        → IfSome o (λ e. (name : List ℕ) → tables file.entries i name ≡ resolved e (offers read.entries (tables file.entries) (references_of (references read) i)) name)
        → IfSome o (λ e. tables file.entries i (codes "ids") ≡ value_named (codes "ids") e.fields)
    by None solved = tt
    by (Some e) solved = solved (codes "ids") ∙ ids_kept e (offers read.entries (tables file.entries) (references_of (references read) i))

-- entries of the same keys and aliases have the same names
last_stays : (name : List ℕ) (read entries : List Source) → map head entries ≡ map head read → HaveTheIdsOf read entries → last_named name read ≡ last_named name entries
last_stays name [] [] heads ids = refl
last_stays name [] (d ∷ ds) heads ids = absurd (let e : suc (length (map head ds)) ≡ 0 = ap length heads in omega (arith, e))
last_stays name (e ∷ es) [] heads ids = absurd (let f : 0 ≡ suc (length (map head es)) = ap length heads in omega (arith, f))
last_stays name (e ∷ es) (d ∷ ds) heads ids =
    let key : e.key ≡ d.key = λ i. (get_or (sym heads i) 0 (head d)).0 in
    let names : names_of e ≡ names_of d =
    ap (λ (v : Option Value). e.key ∷ listed (text_in (option_map (λ x. x.text) v))) (sym (ids 0))
    ∙ ap (λ (k : List ℕ). k ∷ listed (text_in (text_named (codes "ids") d.fields))) key in
    λ i. after_first (last_stays name es ds (ap (drop 1) heads) (λ n. ids (suc n)) i) (list_any (bytes_eq name) (names i))

-- each name means the last entry of a file that was read that has it as its key or an alias
pub names_stay : (cs : List ℕ) (read file : Listed) → IsFileOf cs read file → IsAsRead file
names_stay cs read file h name =
    ap (λ (index : List ℕ → Option ℕ). index name) h.resolves.index
    ∙ as_read h.glossary (record { listed = read; keys = h.keys }) h.raw.entries h.entries name
    ∙ last_stays name read.entries file.entries h.resolves.heads (resolved_ids read file h.resolves)
