-- Documents whose entries answer alike to all that styles name give the same.
use Rattle.std.proofs.Common.{◌≡◌, ℕ, ◌+◌, List, [], ◌∷◌, ◌++◌, map, refl, sym, ap, ◌∙◌}
use Rattle.std.specs.List.{AllByRecursion, enumerate_from}
use Rattle.rendering_context.specs.Contexts.{StyleContext}
use Rattle.rendering_entries.specs.Answers.{Answers}
use Rattle.rendering_nodes.specs.Named.{AreAlike, Named}
use Rattle.rendering_nodes.proofs.AnswersAlike.{first_named, others_named}
use Rattle.rendering.specs.Alike.{style_named}
use Rattle.driver_requests.specs.Cites.{Cite, cite_at, cites_after, entry_of}
use Rattle.driver_requests.specs.Requests.{Item, Request}
use Rattle.driver_rounds.specs.Documents.{Document}
use Rattle.driver.specs.Alike.{document_with, item_with, request_with, requests_named}
use Rattle.driver.specs.Finish.{finish}
use Rattle.driver.proofs.DocumentsAlike.{given_alike}
use Rattle.driver_laws.specs.Laws.{AlikeEntriesGiveOne}

module _ {P : Type 0} (a b : ℕ → Answers) where
  items_twice : (is : List (Item P)) → map (item_with b) (map (item_with a) is) ≡ map (item_with b) is
  items_twice [] = refl
  items_twice (i ∷ is) = ap (λ js. item_with b i ∷ js) (items_twice is)

  requests_twice : (rs : List (Request P)) → map (request_with b) (map (request_with a) rs) ≡ map (request_with b) rs
  requests_twice [] = refl
  requests_twice (r ∷ rs) = λ k. record r { items = items_twice r.items k } ∷ requests_twice rs k

  twice : (d : Document P) → document_with b (document_with a d) ≡ document_with b d
  twice d = λ k. record d { requests = requests_twice d.requests k }

  -- what holds of all entries holds of the entries of cites
  abbrev OfCite : StyleContext → Cite P → Type 0
  OfCite x c = AreAlike (style_named x.style) c.item.entry.answers (b (entry_of c))

  cites_in : (Q : Cite P → Type 0) (earlier : List (Request P)) (r : Request P) → ((p : ℕ × Item P) → Q (cite_at earlier (request_with a r) (p.0, item_with a p.1))) → AllByRecursion Q (map (cite_at earlier (request_with a r)) (enumerate_from 0 (map (item_with a) r.items)))
  cites_in Q earlier r k = in_run 0 r.items
    where
      in_run : (n : ℕ) (is : List (Item P)) → AllByRecursion Q (map (cite_at earlier (request_with a r)) (enumerate_from n (map (item_with a) is)))
      in_run n [] = tt
      in_run n (i ∷ is) = (k (n, i), in_run (n + 1) is)

  own_alike : (n : Named) (earlier rs : List (Request P)) → ((entry : ℕ) → AreAlike (requests_named n rs) (a entry) (b entry)) → AllByRecursion (AllByRecursion (λ (c : Cite P). OfCite c.context c)) (cites_after earlier (map (request_with a) rs))
  own_alike n earlier [] h = tt
  own_alike n earlier (r ∷ rs) h = (
    cites_in (λ (c : Cite P). OfCite c.context c) earlier r (λ p. first_named (style_named r.context.style) (requests_named n rs) (a p.1.entry.index) (b p.1.entry.index) (h p.1.entry.index)),
    own_alike n (earlier ++ request_with a r ∷ []) rs (λ entry. others_named (style_named r.context.style) (requests_named n rs) (a entry) (b entry) (h entry)),
  )

  last_named : (x : StyleContext) (rs : List (Request P)) (entry : ℕ) → AreAlike (requests_named (style_named x.style) rs) (a entry) (b entry) → AreAlike (style_named x.style) (a entry) (b entry)
  last_named x [] entry h = h
  last_named x (r ∷ rs) entry h = last_named x rs entry (others_named (style_named r.context.style) (requests_named (style_named x.style) rs) (a entry) (b entry) h)

  listed_alike : (x : StyleContext) (earlier rs : List (Request P)) → ((entry : ℕ) → AreAlike (style_named x.style) (a entry) (b entry)) → AllByRecursion (AllByRecursion (OfCite x)) (cites_after earlier (map (request_with a) rs))
  listed_alike x earlier [] h = tt
  listed_alike x earlier (r ∷ rs) h = (cites_in (OfCite x) earlier r (λ p. h p.1.entry.index), listed_alike x (earlier ++ request_with a r ∷ []) rs h)

-- what cited entries answer to what no style names changes nothing
pub alike_entries : (P : Type 0) → AlikeEntriesGiveOne P
alike_entries P = λ same d a b h.
    let x = d.bibliography_context in
    let own = own_alike a b (style_named x.style) [] d.requests h in
    let listed = listed_alike a b x [] d.requests (λ entry. last_named a b x d.requests entry (h entry)) in
    sym (given_alike b (document_with a d) same own listed) ∙ ap (finish same) (twice a b d)
