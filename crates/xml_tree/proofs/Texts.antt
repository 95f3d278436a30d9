-- Texts that are borrowed or written out.
use Rattle.std.proofs.Common.{◌≡◌, codes, refl}
use Rattle.std.specs.Str.{chars}
use Rattle.std.proofs.lemmas.Str.{chars-encodes}

pub xml_address : chars (codes "http://www.w3.org/XML/1998/namespace") ≡ codes "http://www.w3.org/XML/1998/namespace"
unfolding lib.Utf8.encode
xml_address = chars-encodes (codes "http://www.w3.org/XML/1998/namespace") refl
