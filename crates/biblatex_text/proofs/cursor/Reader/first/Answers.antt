use Rattle.std.specs.Prelude.{encode_utf8}
use Rattle.biblatex_text.proofs.ReadingOffsets.{Stands, stands_after}
use Rattle.biblatex_text.proofs.cursor.Reader.first.Goals as goal

pub invariant_of-result : goal.invariant_of-result
invariant_of-result c =
    let before : Stands c.args.self.now.source.now c.args.self.now.rest.now = record { within = c.args.self.now.within; tail = c.args.self.now.tail; boundary = c.args.self.now.boundary } in
    let s = stands_after c.args.self.now.source.now c.args.self.now.rest.now (encode_utf8 c.in_ok-c.c) c.in_ok-c.rest.now before c.in_ok-c.ensures.parts c.in_ok-c.ensures.utf8 in
    record { within = s.within; tail = s.tail; boundary = s.boundary }
