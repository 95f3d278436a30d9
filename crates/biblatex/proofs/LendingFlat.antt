-- Each entry without `crossref` stands at its index.
use Rattle.std.proofs.Common.{◌≡◌, List, ◌++◌, length, take, ap, ◌∙◌, arith}
use Rattle.std.specs.List.{refill}
use Rattle.std.proofs.lemmas.List.{append-nil, take_all, drop_all, length-map}
use Rattle.biblatex_entries.specs.Entries.{Source}
use Rattle.biblatex_writing.specs.Flat.{flat_entry, flat}
use Rattle.biblatex.specs.Bibliographies.{Indexed, flattened}
use Rattle.biblatex.specs.Lending.{with_entries}

-- as many entries as there were stand instead of all
refill_all : (xs ys : List Source) → length ys ≡ length xs → refill (length xs) xs ys ≡ ys
refill_all xs ys long =
    ap (λ (zs : List Source). take (length xs) (ys ++ zs)) (drop_all (length ys) xs (omega (arith, long)))
    ∙ (ap (λ (zs : List Source). take (length xs) zs) (append-nil ys) ∙ take_all (length xs) ys (omega (arith, long)))

pub written_flat : (b : Indexed) (ws : List Source) → ws ≡ flat b.entries → with_entries ws b ≡ flattened b
written_flat b ws is =
    let all = ap (λ (ys : List Source). refill (length b.entries) b.entries ys) is ∙ refill_all b.entries (flat b.entries) (length-map b.entries flat_entry) in
    λ i. record { entries = all i; names = b.names }
