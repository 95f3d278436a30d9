-- How entries stand after some requests, each request viewed as the note that it stands in and the indices of the entries that it cites.
use Rattle.std.specs.Prelude.{ℕ, ◌+◌, ◌-◌, Bool, false, ◌&&◌, ◌||◌, ◌==◌, nat_le, not, List, [], ◌∷◌, map, take, is_some, if◌then◌else◌, Option, Some, None}
use Rattle.std.specs.List.{list_any, enumerate_from}
use Rattle.std.specs.Option.{option_map, option_map_or, unwrap_or}
use Rattle.driver_requests.specs.declared.history.History.{History}

-- The number of the note that a request stands in, how many requests before it are near, and the indices of the entries that it cites.
pub record Note : Type 0 where
  pub number : Option ℕ
  pub distance : ℕ
  pub entries : List ℕ

-- What is known of a cite from its index alone: the note that cited its entry first, whether an earlier note near it cites its entry, and
-- whether no earlier cite does.
pub record Facts : Type 0 where
  pub first_note_number : Option ℕ
  pub is_near_note : Bool
  pub is_first : Bool

-- the history of an entry that nothing cites
abbrev pub uncited : History
uncited = record { is_cited = false; first_note = None; last_note = None }

-- whether an index is among some
abbrev pub is_among : List ℕ → ℕ → Bool
is_among entries entry = list_any (λ p. p == entry) entries

-- the history of an entry after items one after the other
abbrev pub cited_in : List ℕ → ℕ → History → History
cited_in entries entry s = record s { is_cited = s.is_cited || is_among entries entry }

-- the history of an entry once a request cites it in a note of that number
abbrev pub cited_by_note : ℕ → ℕ → History → History
cited_by_note index n s = record s { first_note = Some (unwrap_or s.first_note n); last_note = Some index }

-- the history of an entry after items one after the other of a note
abbrev pub noted_in : ℕ → ℕ → List ℕ → ℕ → History → History
noted_in index n entries entry s = if is_among entries entry then cited_by_note index n s else s

-- the history of an entry after items one after the other of a request, which stands in a note of that number or in none
abbrev pub noted_if : ℕ → Option ℕ → List ℕ → ℕ → History → History
noted_if index None entries entry s = s
noted_if index (Some n) entries entry s = noted_in index n entries entry s

-- the history of an entry after a request at an index among them all
abbrev pub after_request : ℕ → Note → ℕ → History → History
after_request index n entry s = noted_if index n.number n.entries entry (cited_in n.entries entry s)

-- whether the last note that cites an entry is among the requests just before an index, so many as are near
abbrev pub is_within : ℕ → ℕ → Option ℕ → Bool
is_within index distance last = option_map_or (λ l. nat_le (index - l) distance) last false

-- what is known of a cite of an entry with this history
abbrev pub facts_from : ℕ → Option ℕ → ℕ → History → Facts
facts_from index number distance s = record {
  first_note_number = option_map (λ n. unwrap_or s.first_note n) number;
  is_near_note = is_some number && is_within index distance s.last_note;
  is_first = not s.is_cited;
}

-- what is known of the cites of a request
abbrev pub facts_in : ℕ → Note → (ℕ → History) → List Facts
facts_in index n histories = map (λ (p : ℕ × ℕ). facts_from index n.number n.distance (cited_in (take p.0 n.entries) p.1 (histories p.1))) (enumerate_from 0 n.entries)

-- What is known of the cites of requests, from how entries stand before them.
abbrev pub facts_after : ℕ → (ℕ → History) → List Note → List (List Facts)
facts_after index histories [] = []
facts_after index histories (n ∷ ns) = facts_in index n histories ∷ facts_after (index + 1) (λ entry. after_request index n entry (histories entry)) ns

-- what is known of the cites of all requests
abbrev pub facts_of_all : List Note → List (List Facts)
facts_of_all ns = facts_after 0 (λ entry. uncited) ns
