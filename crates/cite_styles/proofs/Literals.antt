-- The literals as the characters of a text.
use Rattle.std.proofs.Common.{◌≡◌, codes, refl}
use Rattle.std.specs.Str.{chars}
use Rattle.std.proofs.lemmas.Str.{chars-encodes}

pub space : chars (codes " ") ≡ codes " "
unfolding lib.Utf8.encode
space = chars-encodes (codes " ") refl

pub comma : chars (codes ", ") ≡ codes ", "
unfolding lib.Utf8.encode
comma = chars-encodes (codes ", ") refl

pub semicolon : chars (codes "; ") ≡ codes "; "
unfolding lib.Utf8.encode
semicolon = chars-encodes (codes "; ") refl

pub full_stop : chars (codes ".") ≡ codes "."
unfolding lib.Utf8.encode
full_stop = chars-encodes (codes ".") refl

pub full_stop_space : chars (codes ". ") ≡ codes ". "
unfolding lib.Utf8.encode
full_stop_space = chars-encodes (codes ". ") refl

pub open_square : chars (codes "[") ≡ codes "["
unfolding lib.Utf8.encode
open_square = chars-encodes (codes "[") refl

pub close_square : chars (codes "]") ≡ codes "]"
unfolding lib.Utf8.encode
close_square = chars-encodes (codes "]") refl

pub close_square_space : chars (codes "] ") ≡ codes "] "
unfolding lib.Utf8.encode
close_square_space = chars-encodes (codes "] ") refl

pub open_round : chars (codes "(") ≡ codes "("
unfolding lib.Utf8.encode
open_round = chars-encodes (codes "(") refl

pub close_round : chars (codes ")") ≡ codes ")"
unfolding lib.Utf8.encode
close_round = chars-encodes (codes ")") refl
