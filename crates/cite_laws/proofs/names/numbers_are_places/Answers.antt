use Rattle.cite_laws.proofs.Places.{numbers_are_places, printed_numbers_are_places}
use Rattle.cite_laws.proofs.names.numbers_are_places.Goals as goal

pub returns : goal.returns
returns c = record { places = numbers_are_places; printed = printed_numbers_are_places }
