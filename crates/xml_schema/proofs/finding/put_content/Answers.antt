use Rattle.std.proofs.Common.{refl}
use Rattle.xml_schema.proofs.Waits.{content_put}
use Rattle.xml_schema.proofs.finding.put_content.Goals as goal

pub returns : goal.returns
returns c = content_put c.args.waiting.now.items c.push.new.self.items c.args.rule c.args.element.now (record { rule = c.args.rule; rest = c.as_slice.result }) refl c.as_slice.ensures.value c.in_ok-push.ensures.items
