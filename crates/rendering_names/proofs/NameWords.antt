-- Words of a name appended one after the other.
use Rattle.std.proofs.Common.{◌≡◌, ℕ, ◌+◌, ◌<◌, Bool, List, [], length, map, drop, get_or, ◌∷◌, sym, ap, ◌∙◌}
use Rattle.std.specs.Prelude.{◌||◌, if◌then◌else◌}
use Rattle.std.proofs.lemmas.List.{at_drop_more}
use Rattle.std.proofs.lemmas.List.Sums.{fold-append}
use Rattle.laws.specs.Text.{is_filled}
use Rattle.rendering_page.specs.Pages.{Page, Manner, Quotes}
use Rattle.rendering_page.specs.Pieces.{Piece, append_piece, append_pieces}
use Rattle.rendering_names.specs.NameParts.{word_pieces, words_pieces}
use Rattle.rendering_names.specs.Views.{word_view}
use Rattle.rendering_names.specs.declared.name_parts.Word.{Word}

-- one more is appended
pub word-more : (quotes : Quotes) (m : Manner) (b b' : Bool) (ws : List Word) (i : ℕ) (w : Word) (before : List ℕ) (old new : Page)
    → i < length ws → w ≡ get_or ws i w → before ≡ (if b then (word_view w).before else []) → b' ≡ (b || is_filled (word_view w).text)
    → new ≡ append_pieces quotes (word_pieces m before (word_view w)) old
    → append_pieces quotes (words_pieces m b' (map word_view (drop (i + 1) ws))) new ≡ append_pieces quotes (words_pieces m b (map word_view (drop i ws))) old
word-more quotes m b b' ws i w before old new low is is_before is_after here =
    let rest = map word_view (drop (i + 1) ws) in
    let first : List Piece = word_pieces m (if b then (word_view w).before else []) (word_view w) in
    (λ k. append_pieces quotes (words_pieces m (is_after k) rest) ((here ∙ ap (λ cs. append_pieces quotes (word_pieces m cs (word_view w)) old) is_before) k))
    ∙ sym (fold-append (append_piece quotes) old first (words_pieces m (b || is_filled (word_view w).text) rest))
    ∙ ap (λ (x : Word). append_pieces quotes (words_pieces m b (word_view x ∷ rest)) old) is
    ∙ sym (at_drop_more (λ (vs : List Word). append_pieces quotes (words_pieces m b (map word_view vs)) old) ws i w low)
