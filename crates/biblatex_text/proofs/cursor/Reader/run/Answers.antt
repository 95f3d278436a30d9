use Rattle.biblatex_text.proofs.ReadingOffsets.{Stands, stands_after, slice_taken}
use Rattle.biblatex_text.proofs.cursor.Reader.run.Goals as goal

pub invariant_of-self : goal.invariant_of-self
invariant_of-self c =
    let before : Stands c.args.self.now.source.now c.args.self.now.rest.now = record { within = c.args.self.now.within; tail = c.args.self.now.tail; boundary = c.args.self.now.boundary } in
    let s = stands_after c.args.self.now.source.now c.args.self.now.rest.now c.split_run.result.0.now c.split_run.result.1.now before c.split_run.ensures.parts c.split_run.ensures.utf8 in
    record { within = s.within; tail = s.tail; boundary = s.boundary }

pub returns-clause-slice : goal.returns-clause-slice
returns-clause-slice c =
    let before : Stands c.args.self.now.source.now c.args.self.now.rest.now = record { within = c.args.self.now.within; tail = c.args.self.now.tail; boundary = c.args.self.now.boundary } in
    let s = stands_after c.args.self.now.source.now c.args.self.now.rest.now c.split_run.result.0.now c.split_run.result.1.now before c.split_run.ensures.parts c.split_run.ensures.utf8 in
    rw (c.offset-start.ensures.bytes, c.offset.ensures.bytes) (slice_taken c.args.self.now.source.now c.args.self.now.rest.now c.split_run.result.0.now c.split_run.result.1.now before c.split_run.ensures.parts s)
