-- Entries that are wanted and not cited change nothing.
use Rattle.std.proofs.Common.{◌≡◌, ℕ, Bool, true, false, cond, ◌||◌, nat_eq, List, [], ◌∷◌, ◌++◌, map, refl, sym, ap, ◌∙◌, Option, Some, None, length}
use Rattle.std.specs.Prelude.{filter, filter_map, if◌then◌else◌, zip, Result, Ok, Err}
use Rattle.std.specs.Option.{option_map}
use Rattle.std.proofs.Math.Path.{fun_ext}
use Rattle.rendering_style.specs.Styles.{Bibliography}
use Rattle.driver_requests.specs.CitedEntries.{once}
use Rattle.driver_requests.specs.Cites.{Cite, Numbered, cites_of, entry_of}
use Rattle.driver_requests.specs.Errors.{Overflow, overflow}
use Rattle.driver_requests.specs.Order.{cited, is_index_in, number_in, numbers_overflow, ordered}
use Rattle.driver_requests.specs.Positions.{counts_at_first, ibid_of, place_of, with_previous}
use Rattle.driver_disambiguation.specs.States.{suffixes_overflow}
use Rattle.driver_bibliography.specs.Items.{items_of}
use Rattle.driver_rounds.specs.Documents.{Document, order_in}
use Rattle.driver.specs.Finish.{Rendered, citation_in, finish, item_of_entry}
use Rattle.driver_laws.specs.Laws.{UncitedEntriesChangeNothing}
use Rattle.driver_rounds.specs.FirstPrints.{FirstPrint, disambiguated_in, first_print, first_naming, first_states, flattened, numbered_after, with_first_names}
use Rattle.driver.specs.Stages.{finals_in}

module _ {P : Type 0} (same : P → P → Bool) (d : Document P) where
  -- a cite with its number in an order
  abbrev numbered_in_order : List ℕ → Option (Cite P) × Cite P → Numbered P
  numbered_in_order order (last, c) = record {
    cite = c;
    number = number_in d.offset order (entry_of c);
    ibid = ibid_of same counts_at_first (option_map place_of last) c;
    first_names = [];
  }

  -- the first prints of cites that are numbered so
  abbrev prints_by : (Option (Cite P) × Cite P → Numbered P) → List (List (FirstPrint P))
  prints_by number =
      let pairs = with_previous None (cites_of d.requests) in
      map (map (λ p. first_print (with_first_names (first_states (first_naming d.requests) (length (cited d.requests)) (flattened (map (map number) pairs))) (number p)))) pairs

  -- those of cites that are numbered in an order
  abbrev prints_in_order : List ℕ → List (List (FirstPrint P))
  prints_in_order order = prints_by (numbered_in_order order)

  -- what is given by first prints, where the entries have an order
  abbrev given_in_order : List ℕ → List (List (FirstPrint P)) → Result Rendered Overflow
  given_in_order order bs =
      if numbers_overflow d.offset (cited d.requests) || suffixes_overflow (disambiguated_in d bs).given then Err overflow
      else Ok (record {
        bibliography =
            option_map
            (λ (b : Bibliography). record {
              hanging_indent = b.hanging_indent;
              second_field_align = b.second_field_align;
              line_spacing = b.line_spacing;
              entry_spacing = b.entry_spacing;
              items = items_of b (filter_map (item_of_entry d (flattened (finals_in same d bs (disambiguated_in d bs)))) order);
            })
            d.bibliography_context.style.bibliography;
        citations = map citation_in (zip d.requests (finals_in same d bs (disambiguated_in d bs)));
      })

  numbered_at : (p : Option (Cite P) × Cite P) → numbered_after same d p ≡ numbered_in_order (order_in d) p
  numbered_at (last, c) = refl

  -- a document gives what is given in its order
  pub finish_in_order : finish same d ≡ given_in_order (order_in d) (prints_in_order (order_in d))
  finish_in_order = ap (λ (f : Option (Cite P) × Cite P → Numbered P). given_in_order (order_in d) (prints_by f)) (fun_ext numbered_at)

filter_twice : (p : ℕ → Bool) (xs : List ℕ) → filter p (filter p xs) ≡ filter p xs
filter_twice p [] = refl
filter_twice p (x ∷ xs) = by_value (p x) refl (filter_twice p xs)
  where
    by_value : (b : Bool) → p x ≡ b → filter p (filter p xs) ≡ filter p xs → filter p (cond b (x ∷ filter p xs) (filter p xs)) ≡ cond b (x ∷ filter p xs) (filter p xs)
    by_value true e others = ap (λ b. cond b (x ∷ filter p (filter p xs)) (filter p (filter p xs))) e ∙ ap (λ ys. x ∷ ys) others
    by_value false e others = others

wanted_once : (b : Option Bibliography) (wanted indices : List ℕ) → ordered b (filter (is_index_in indices) wanted) indices ≡ ordered b wanted indices
wanted_once None wanted indices = refl
wanted_once (Some b) wanted indices = ap (λ ws. once nat_eq (ws ++ indices)) (filter_twice (is_index_in indices) wanted)

-- entries that are wanted and not cited change nothing
pub uncited_entries : (P : Type 0) → UncitedEntriesChangeNothing P
uncited_entries P = λ same d.
    let other : Document P = record d { wanted = filter (is_index_in (cited d.requests)) d.wanted } in
    let order : order_in other ≡ order_in d = wanted_once d.bibliography_context.style.bibliography d.wanted (cited d.requests) in
    finish_in_order same other ∙ ap (λ ps. given_in_order same d ps (prints_in_order same d ps)) order ∙ sym (finish_in_order same d)
