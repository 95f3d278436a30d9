-- Texts that are joined, piece by piece.
use Rattle.std.proofs.Common.{◌≡◌, ℕ, Bool, true, false, not, ◌&&◌, true≢false, List, [], ◌∷◌, ◌++◌, refl, sym, ap, ◌∙◌, Some}
use Rattle.std.specs.Prelude.{fold, if◌then◌else◌}
use Rattle.std.specs.Option.{option_map}
use Rattle.std.proofs.lemmas.List.Sums.{fold-append}
use Rattle.laws.specs.Characters.{space}
use Rattle.laws.specs.Text.{is_filled}
use Rattle.rendering_taxonomy.specs.declared.formatting.Formatting.{Formatting}
use Rattle.rendering_tree.specs.Tokens.{Token, letter, link, opening, closing, mark, unmark, with_letters, last_backwards}
use Rattle.rendering_tree.specs.Views.{meta_view}
use Rattle.rendering_page.specs.Joints.{Joining, all_joined, ends_by, is_gap, is_in_place, is_left_out, is_replaced, is_stop, is_taken_inside, joining, joining_token, meeting, nothing_joined, with_after_gap, with_bound, with_character, with_first, with_gap, with_inside, with_letter, with_met, with_quote, with_room, with_token, without_gap, without_last}
use Rattle.rendering_page.specs.JoiningPieces.{is_bound, with_all, with_bounds, with_text}
use Rattle.rendering_page.specs.Views.{words_view, with_piece, pieces_view}
use Rattle.rendering_page.specs.declared.piece.Piece.{Piece}
use Rattle.rendering_page.specs.declared.piece.Piece.TheVariants as pieces

-- what a piece appends stands before what was there
letters_onto : (f : Formatting) (cs : List ℕ) (ts us : List Token) → with_letters f cs (ts ++ us) ≡ with_letters f cs ts ++ us
letters_onto f [] ts us = refl
letters_onto f (c ∷ cs) ts us = letters_onto f cs (letter f c ∷ ts) us

piece_onto : (p : Piece) (ts us : List Token) → with_piece (ts ++ us) p ≡ with_piece ts p ++ us
piece_onto (pieces.Text f w) ts us = letters_onto f (words_view w) ts us
piece_onto (pieces.Markup w) ts us = refl
piece_onto (pieces.Link l) ts us = refl
piece_onto (pieces.Transparent f n) ts us = refl
piece_onto (pieces.Opening d m) ts us = refl
piece_onto (pieces.MadeOpening d m) ts us = refl
piece_onto (pieces.Begin d m) ts us = refl
piece_onto (pieces.MadeBegin d m) ts us = refl
piece_onto pieces.BareBegin ts us = refl
piece_onto pieces.End ts us = refl
piece_onto pieces.BareEnd ts us = refl
piece_onto pieces.Closing ts us = refl
piece_onto pieces.Mark ts us = refl
piece_onto pieces.Unmark ts us = refl

all_onto : (ps : List Piece) (ts us : List Token) → fold with_piece (ts ++ us) ps ≡ fold with_piece ts ps ++ us
all_onto [] ts us = refl
all_onto (p ∷ ps) ts us = ap (λ vs. fold with_piece vs ps) (piece_onto p ts us) ∙ all_onto ps (with_piece ts p) us

-- pieces after others
pub pieces_after : (ps qs rs : List Piece) → rs ≡ ps ++ qs → pieces_view rs ≡ pieces_view qs ++ pieces_view ps
pieces_after ps qs rs e = ap pieces_view e ∙ fold-append with_piece [] ps qs ∙ all_onto qs [] (pieces_view ps)

-- tokens more, one list after the other
joining_after : (inside : Bool) (ts us : List Token) (j : Joining) → joining inside (ts ++ us) j ≡ joining inside ts (joining inside us j)
joining_after inside [] us j = refl
joining_after inside (t ∷ ts) us j = ap (joining_token inside t) (joining_after inside ts us j)

-- a piece more
joining_piece : (inside : Bool) (p : Piece) (ts : List Token) (j : Joining) → joining inside (with_piece ts p) j ≡ joining inside (with_piece [] p) (joining inside ts j)
joining_piece inside p ts j = ap (λ us. joining inside us j) (piece_onto p [] ts) ∙ joining_after inside (with_piece [] p) ts j

-- all pieces
joining_from : (inside : Bool) (ps : List Piece) (ts : List Token) (j : Joining)
    → fold (λ k p. joining inside (with_piece [] p) k) (joining inside ts j) ps ≡ joining inside (fold with_piece ts ps) j
joining_from inside [] ts j = refl
joining_from inside (p ∷ ps) ts j =
    ap (λ k. fold (λ k p. joining inside (with_piece [] p) k) k ps) (sym (joining_piece inside p ts j)) ∙ joining_from inside ps (with_piece ts p) j

pub joining_all : (inside : Bool) (ps : List Piece) → fold (λ k p. joining inside (with_piece [] p) k) nothing_joined ps ≡ joining inside (pieces_view ps) nothing_joined
joining_all inside ps = joining_from inside ps [] nothing_joined

-- a character after all of it is part of a text, and no space after it is the first one after a close quote
either_text : (b : Bool) (j k : Joining) → j.is_text ≡ true → k.is_text ≡ true → (if b then j else k).is_text ≡ true
either_text true j k e g = e
either_text false j k e g = g

either_all : (b : Bool) (j k : Joining) (ts : List Token) → all_joined j ≡ ts → all_joined k ≡ ts → all_joined (if b then j else k) ≡ ts
either_all true j k ts e g = e
either_all false j k ts e g = g

either_gap : (b : Bool) (d : ℕ) (j k : Joining) → is_gap d j ≡ false → is_gap d k ≡ false → is_gap d (if b then j else k) ≡ false
either_gap true d j k e g = e
either_gap false d j k e g = g

letter_is_text : (f : Formatting) (c : ℕ) (j : Joining) → (with_letter f c j).is_text ≡ true
letter_is_text f c j = either_text (is_gap c j) (with_gap f c j) (with_token (letter f c) true j) refl refl

letter_after_all : (f : Formatting) (c : ℕ) (j : Joining) → all_joined (with_letter f c j) ≡ letter f c ∷ all_joined j
letter_after_all f c j = either_all (is_gap c j) (with_gap f c j) (with_token (letter f c) true j) (letter f c ∷ all_joined j) refl refl

no_gap_after : (f : Formatting) (c d : ℕ) (j : Joining) → is_gap d (with_letter f c j) ≡ false
no_gap_after f c d j = either_gap (is_gap c j) d (with_gap f c j) (with_token (letter f c) true j) refl refl

-- more of a text
two_letters : (f : Formatting) (c d : ℕ) (j : Joining) → with_letter f d (with_letter f c j) ≡ with_all f (c ∷ d ∷ []) j
two_letters f c d j =
    let k = with_letter f c j in
    ap (λ b. if b then with_gap f d k else with_token (letter f d) true k) (no_gap_after f c d j)
    ∙ ap (λ (ts : List Token). record { done = letter f d ∷ ts; held = []; is_quoted = false; is_spaced = false; is_text = true }) (letter_after_all f c j)

more_of_text : (f : Formatting) (c : ℕ) (cs : List ℕ) (j : Joining) → with_text f cs (with_letter f c j) ≡ with_text f (c ∷ cs) j
more_of_text f c [] j = refl
more_of_text f c (d ∷ []) j = two_letters f c d j
more_of_text f c (d ∷ e ∷ es) j =
    ap (λ (ts : List Token). record { done = with_letters f (d ∷ e ∷ es) ts; held = []; is_quoted = false; is_spaced = false; is_text = true }) (letter_after_all f c j)

text_goes_on : (inside : Bool) (f : Formatting) (c : ℕ) (j : Joining) → j.is_text ≡ true → with_character inside f c j ≡ with_letter f c j
text_goes_on inside f c j e = ap (λ b. if b then with_letter f c j else with_first inside f c j) e

-- a text that is put
one_is : (b : Bool) (cs ds : List ℕ) (c : ℕ) → cs ≡ c ∷ ds → (not (is_filled ds) && b) ≡ true → cs ≡ c ∷ []
one_is b cs [] c is alone = is
one_is b cs (d ∷ ds) c is alone = absurd (true≢false (sym alone))

pub text_of_gap : (f : Formatting) (cs ds : List ℕ) (c : ℕ) (j k : Joining) → cs ≡ c ∷ ds → (not (is_filled ds) && is_gap c j) ≡ true
    → k ≡ record j { held = with_letters f cs j.held; is_spaced = true; is_text = true } → k ≡ with_text f cs j
text_of_gap f cs ds c j k is alone e =
    e
    ∙ ap (λ (xs : List ℕ). record j { held = with_letters f xs j.held; is_spaced = true; is_text = true }) (one_is (is_gap c j) cs ds c is alone)
    ∙ sym (ap (λ b. if b then with_gap f c j else with_all f (c ∷ ds) j) alone)
    ∙ sym (ap (λ xs. with_text f xs j) is)

pub text_of_all : (f : Formatting) (cs ds : List ℕ) (c : ℕ) (j k : Joining) → cs ≡ c ∷ ds → (not (is_filled ds) && is_gap c j) ≡ false → k ≡ with_all f cs j → k ≡ with_text f cs j
text_of_all f cs ds c j k is other e =
    e
    ∙ ap (λ xs. with_all f xs j) is
    ∙ sym (ap (λ b. if b then with_gap f c j else with_all f (c ∷ ds) j) other)
    ∙ sym (ap (λ xs. with_text f xs j) is)

joining_letters : (inside : Bool) (f : Formatting) (cs : List ℕ) (ts : List Token) (j : Joining) → (joining inside ts j).is_text ≡ true
    → joining inside (with_letters f cs ts) j ≡ with_text f cs (joining inside ts j)
joining_letters inside f [] ts j e = refl
joining_letters inside f (c ∷ cs) ts j e =
    let one = text_goes_on inside f c (joining inside ts j) e in
    joining_letters inside f cs (letter f c ∷ ts) j (ap (λ (k : Joining). k.is_text) one ∙ letter_is_text f c (joining inside ts j))
    ∙ ap (with_text f cs) one
    ∙ more_of_text f c cs (joining inside ts j)

-- a text that goes on
pub text_more : (inside : Bool) (f : Formatting) (cs : List ℕ) (j : Joining) → j.is_text ≡ true → with_text f cs j ≡ joining inside (with_letters f cs []) j
text_more inside f cs j e = sym (joining_letters inside f cs [] j e)

-- its first character is part of a text
inside_is_text : (f : Formatting) (c : ℕ) (j : Joining) → (with_inside f c j).is_text ≡ true
inside_is_text f c j =
    either_text (ends_by is_stop (last_backwards j.done)) (record j { is_text = true }) (record j { done = letter f c ∷ j.done; is_text = true }) refl refl

meeting_is_text : (inside : Bool) (f : Formatting) (c : ℕ) (j : Joining) → (meeting inside f c j).is_text ≡ true
meeting_is_text inside f c j =
    either_text (ends_by (λ before. is_left_out before c) (last_backwards j.done)) (record j { is_text = true })
    (if is_taken_inside inside c j then with_inside f c j else with_letter f c j) refl
    (either_text (is_taken_inside inside c j) (with_inside f c j) (with_letter f c j) (inside_is_text f c j) (letter_is_text f c j))

met_is_text : (inside : Bool) (f : Formatting) (c : ℕ) (j : Joining) → (with_met inside f c j).is_text ≡ true
met_is_text inside f c j =
    either_text (is_in_place c j) (with_letter f c (without_last j)) (meeting inside f c (with_room c j)) (letter_is_text f c (without_last j))
    (meeting_is_text inside f c (with_room c j))

after_gap_is_text : (inside : Bool) (f : Formatting) (c : ℕ) (j : Joining) → (with_after_gap inside f c j).is_text ≡ true
after_gap_is_text inside f c j =
    either_text (is_left_out space c) (record j { is_text = true }) (if is_replaced space c then with_met inside f c (without_gap j) else with_letter f c j) refl
    (either_text (is_replaced space c) (with_met inside f c (without_gap j)) (with_letter f c j) (met_is_text inside f c (without_gap j)) (letter_is_text f c j))

first_is_text : (inside : Bool) (f : Formatting) (c : ℕ) (j : Joining) → (with_first inside f c j).is_text ≡ true
first_is_text inside f c j =
    either_text j.is_spaced (with_after_gap inside f c j) (with_met inside f c j) (after_gap_is_text inside f c j) (met_is_text inside f c j)

-- a text that begins
pub text_begun : (inside : Bool) (f : Formatting) (cs ds : List ℕ) (c : ℕ) (j k : Joining) → cs ≡ c ∷ ds → j.is_text ≡ false → k ≡ with_text f ds (with_first inside f c j)
    → k ≡ joining inside (with_letters f cs []) j
text_begun inside f cs ds c j k is none e =
    let one : with_character inside f c j ≡ with_first inside f c j = ap (λ b. if b then with_letter f c j else with_first inside f c j) none in
    e
    ∙ sym (joining_letters inside f ds (letter f c ∷ []) j (ap (λ (i : Joining). i.is_text) one ∙ first_is_text inside f c j) ∙ ap (with_text f ds) one)
    ∙ ap (λ xs. joining inside (with_letters f xs []) j) (sym is)

-- where it stands
pub first_spaced : (inside : Bool) (f : Formatting) (c : ℕ) (cs : List ℕ) (j l : Joining) → j.is_spaced ≡ true → l ≡ with_text f cs (with_after_gap inside f c j) → l ≡ with_text f cs (with_first inside f c j)
first_spaced inside f c cs j l so e = e ∙ sym (ap (λ b. with_text f cs (if b then with_after_gap inside f c j else with_met inside f c j)) so)

pub first_elsewhere : (inside : Bool) (f : Formatting) (c : ℕ) (cs : List ℕ) (j l : Joining) → j.is_spaced ≡ false → l ≡ with_text f cs (with_met inside f c j) → l ≡ with_text f cs (with_first inside f c j)
first_elsewhere inside f c cs j l so e = e ∙ sym (ap (λ b. with_text f cs (if b then with_after_gap inside f c j else with_met inside f c j)) so)

-- what it comes to after the space that stands after a close quote
pub gap_left_out : (inside : Bool) (f : Formatting) (c : ℕ) (cs : List ℕ) (j l : Joining) → is_left_out space c ≡ true → l ≡ with_text f cs (record j { is_text = true }) → l ≡ with_text f cs (with_after_gap inside f c j)
gap_left_out inside f c cs j l out e =
    e
    ∙ sym (ap (λ b. with_text f cs (if b then record j { is_text = true } else if is_replaced space c then with_met inside f c (without_gap j) else with_letter f c j)) out)

pub gap_replaced : (inside : Bool) (f : Formatting) (c : ℕ) (cs : List ℕ) (j k l : Joining) → is_left_out space c ≡ false → is_replaced space c ≡ true → k ≡ without_gap j
    → l ≡ with_text f cs (with_met inside f c k) → l ≡ with_text f cs (with_after_gap inside f c j)
gap_replaced inside f c cs j k l out place cut e =
    e
    ∙ ap (λ (i : Joining). with_text f cs (with_met inside f c i)) cut
    ∙ sym (ap (λ b. with_text f cs (if b then with_met inside f c (without_gap j) else with_letter f c j)) place)
    ∙ sym (ap (λ b. with_text f cs (if b then record j { is_text = true } else if is_replaced space c then with_met inside f c (without_gap j) else with_letter f c j)) out)

pub gap_stays : (inside : Bool) (f : Formatting) (c : ℕ) (cs ds : List ℕ) (j l : Joining) → is_left_out space c ≡ false → is_replaced space c ≡ false → ds ≡ c ∷ cs
    → l ≡ with_text f ds j → l ≡ with_text f cs (with_after_gap inside f c j)
gap_stays inside f c cs ds j l out none is e =
    e
    ∙ ap (λ xs. with_text f xs j) is
    ∙ sym (more_of_text f c cs j)
    ∙ sym (ap (λ b. with_text f cs (if b then with_met inside f c (without_gap j) else with_letter f c j)) none)
    ∙ sym (ap (λ b. with_text f cs (if b then record j { is_text = true } else if is_replaced space c then with_met inside f c (without_gap j) else with_letter f c j)) out)

-- what its first character comes to
first_placed : (b : Bool) (inside : Bool) (f : Formatting) (c : ℕ) (cs : List ℕ) (j : Joining) → is_in_place c j ≡ b
    → with_text f cs (if b then with_letter f c (without_last j) else meeting inside f c (with_room c j)) ≡ with_text f cs (with_met inside f c j)
first_placed b inside f c cs j e =
    sym (ap (λ (p : Bool). with_text f cs (if p then with_letter f c (without_last j) else meeting inside f c (with_room c j))) e)

pub first_in_place : (inside : Bool) (f : Formatting) (c : ℕ) (cs ds : List ℕ) (j l : Joining) → is_in_place c j ≡ true → ds ≡ c ∷ cs → l ≡ with_text f ds (without_last j)
    → l ≡ with_text f cs (with_met inside f c j)
first_in_place inside f c cs ds j l so is e =
    e
    ∙ ap (λ xs. with_text f xs (without_last j)) is
    ∙ sym (more_of_text f c cs (without_last j))
    ∙ first_placed true inside f c cs j so

pub first_left_out : (inside : Bool) (f : Formatting) (c : ℕ) (cs : List ℕ) (j k l : Joining) → is_in_place c j ≡ false → k ≡ with_room c j → ends_by (λ before. is_left_out before c) (last_backwards k.done) ≡ true
    → l ≡ with_text f cs (record k { is_text = true }) → l ≡ with_text f cs (with_met inside f c j)
first_left_out inside f c cs j k l other room out e =
    e
    ∙ sym (ap (λ b. with_text f cs (if b then record k { is_text = true } else if is_taken_inside inside c k then with_inside f c k else with_letter f c k)) out)
    ∙ ap (λ (i : Joining). with_text f cs (meeting inside f c i)) room
    ∙ first_placed false inside f c cs j other

pub first_inside : (inside : Bool) (f : Formatting) (c : ℕ) (cs : List ℕ) (j k l : Joining) → is_in_place c j ≡ false → k ≡ with_room c j → ends_by (λ before. is_left_out before c) (last_backwards k.done) ≡ false
    → is_taken_inside inside c k ≡ true → l ≡ with_text f cs (with_inside f c k) → l ≡ with_text f cs (with_met inside f c j)
first_inside inside f c cs j k l other room out taken e =
    e
    ∙ sym (ap (λ b. with_text f cs (if b then with_inside f c k else with_letter f c k)) taken)
    ∙ sym (ap (λ b. with_text f cs (if b then record k { is_text = true } else if is_taken_inside inside c k then with_inside f c k else with_letter f c k)) out)
    ∙ ap (λ (i : Joining). with_text f cs (meeting inside f c i)) room
    ∙ first_placed false inside f c cs j other

pub first_outside : (inside : Bool) (f : Formatting) (c : ℕ) (cs ds : List ℕ) (j k l : Joining) → is_in_place c j ≡ false → k ≡ with_room c j → ends_by (λ before. is_left_out before c) (last_backwards k.done) ≡ false
    → is_taken_inside inside c k ≡ false → ds ≡ c ∷ cs → l ≡ with_text f ds k → l ≡ with_text f cs (with_met inside f c j)
first_outside inside f c cs ds j k l other room out none is e =
    e
    ∙ ap (λ xs. with_text f xs k) is
    ∙ sym (more_of_text f c cs k)
    ∙ sym (ap (λ b. with_text f cs (if b then with_inside f c k else with_letter f c k)) none)
    ∙ sym (ap (λ b. with_text f cs (if b then record k { is_text = true } else if is_taken_inside inside c k then with_inside f c k else with_letter f c k)) out)
    ∙ ap (λ (i : Joining). with_text f cs (meeting inside f c i)) room
    ∙ first_placed false inside f c cs j other

-- the start or the end of something
quoted_bound : (t : Token) (j : Joining) → j.is_quoted ≡ true → with_bound t j ≡ record j { held = t ∷ j.held; is_text = false }
quoted_bound t j e = ap (λ b. if b then record j { held = t ∷ j.held; is_text = false } else record j { done = t ∷ j.done; is_text = false }) e

open_bound : (t : Token) (j : Joining) → j.is_quoted ≡ false → with_bound t j ≡ record j { done = t ∷ j.done; is_text = false }
open_bound t j e = ap (λ b. if b then record j { held = t ∷ j.held; is_text = false } else record j { done = t ∷ j.done; is_text = false }) e

quoted_bounds : (p : Piece) (j : Joining) → j.is_quoted ≡ true → with_bounds p j ≡ record j { held = with_piece j.held p; is_text = false }
quoted_bounds p j e = ap (λ b. if b then record j { held = with_piece j.held p; is_text = false } else record j { done = with_piece j.done p; is_text = false }) e

open_bounds : (p : Piece) (j : Joining) → j.is_quoted ≡ false → with_bounds p j ≡ record j { done = with_piece j.done p; is_text = false }
open_bounds p j e = ap (λ b. if b then record j { held = with_piece j.held p; is_text = false } else record j { done = with_piece j.done p; is_text = false }) e

one_bound : (b : Bool) (p : Piece) (t : Token) (j : Joining) → j.is_quoted ≡ b → ((ts : List Token) → with_piece ts p ≡ t ∷ ts) → with_bounds p j ≡ with_bound t j
one_bound true p t j e is = quoted_bounds p j e ∙ ap (λ (ts : List Token). record j { held = ts; is_text = false }) (is j.held) ∙ sym (quoted_bound t j e)
one_bound false p t j e is = open_bounds p j e ∙ ap (λ (ts : List Token). record j { done = ts; is_text = false }) (is j.done) ∙ sym (open_bound t j e)

two_bounds : (b : Bool) (p : Piece) (t u : Token) (j : Joining) → j.is_quoted ≡ b → ((ts : List Token) → with_piece ts p ≡ u ∷ t ∷ ts) → with_bounds p j ≡ with_bound u (with_bound t j)
two_bounds true p t u j e is =
    quoted_bounds p j e
    ∙ ap (λ (ts : List Token). record j { held = ts; is_text = false }) (is j.held)
    ∙ sym (quoted_bound u (record j { held = t ∷ j.held; is_text = false }) e)
    ∙ ap (with_bound u) (sym (quoted_bound t j e))
two_bounds false p t u j e is =
    open_bounds p j e
    ∙ ap (λ (ts : List Token). record j { done = ts; is_text = false }) (is j.done)
    ∙ sym (open_bound u (record j { done = t ∷ j.done; is_text = false }) e)
    ∙ ap (with_bound u) (sym (open_bound t j e))

-- a piece with which something begins or ends
pub piece_of_bounds : (inside : Bool) (p : Piece) (j : Joining) → is_bound p ≡ true → with_bounds p j ≡ joining inside (with_piece [] p) j
piece_of_bounds inside (pieces.Text f w) j e = absurd (true≢false (sym e))
piece_of_bounds inside (pieces.Markup w) j e = absurd (true≢false (sym e))
piece_of_bounds inside (pieces.Link l) j e = absurd (true≢false (sym e))
piece_of_bounds inside (pieces.Transparent f n) j e = absurd (true≢false (sym e))
piece_of_bounds inside (pieces.Opening d m) j e = one_bound j.is_quoted (pieces.Opening d m) (opening d (option_map (λ x. meta_view x.now) m)) j refl (λ ts. refl)
piece_of_bounds inside (pieces.MadeOpening d m) j e = one_bound j.is_quoted (pieces.MadeOpening d m) (opening d (Some (meta_view m))) j refl (λ ts. refl)
piece_of_bounds inside (pieces.Begin d m) j e = two_bounds j.is_quoted (pieces.Begin d m) (opening d (option_map (λ x. meta_view x.now) m)) mark j refl (λ ts. refl)
piece_of_bounds inside (pieces.MadeBegin d m) j e = two_bounds j.is_quoted (pieces.MadeBegin d m) (opening d (Some (meta_view m))) mark j refl (λ ts. refl)
piece_of_bounds inside pieces.BareBegin j e = two_bounds j.is_quoted pieces.BareBegin mark mark j refl (λ ts. refl)
piece_of_bounds inside pieces.End j e = two_bounds j.is_quoted pieces.End unmark closing j refl (λ ts. refl)
piece_of_bounds inside pieces.BareEnd j e = two_bounds j.is_quoted pieces.BareEnd unmark unmark j refl (λ ts. refl)
piece_of_bounds inside pieces.Closing j e = one_bound j.is_quoted pieces.Closing closing j refl (λ ts. refl)
piece_of_bounds inside pieces.Mark j e = one_bound j.is_quoted pieces.Mark mark j refl (λ ts. refl)
piece_of_bounds inside pieces.Unmark j e = one_bound j.is_quoted pieces.Unmark unmark j refl (λ ts. refl)

-- a link, or a close quote
pub link_alone : (inside : Bool) (f : Formatting) (cs url : List ℕ) (j k : Joining) → is_filled url ≡ true
    → k ≡ record { done = link f cs url ∷ all_joined j; held = []; is_quoted = false; is_spaced = false; is_text = false } → k ≡ joining inside (link f cs url ∷ []) j
link_alone inside f cs [] j k e is = absurd (true≢false (sym e))
link_alone inside f cs (u ∷ url) j k e is = is

pub link_quote : (inside : Bool) (f : Formatting) (cs url : List ℕ) (j k : Joining) → is_filled url ≡ false → k ≡ with_quote f cs j → k ≡ joining inside (link f cs url ∷ []) j
link_quote inside f cs [] j k e is = is
link_quote inside f cs (u ∷ url) j k e is = absurd (true≢false e)
