use Rattle.std.proofs.Common.{◌≡◌, Some}
use Rattle.craq_frames.specs.declared.protocol_codec.Asking.TheVariants.{Many}
use Rattle.craq_frames.proofs.Talks.{was_taken}
use Rattle.craq_frames.proofs.protocol_codec.ProtocolCodec.put_back.Goals as goal

pub returns-in-Some-Many-clause-back : goal.returns-in-Some-Many-clause-back
returns-in-Some-Many-clause-back c =
    let is : c.args.self.now.asking ≡ Some (Many c.in-Some-Many.several) = cc in
    was_taken c.in-Some-Many.several c.put_back.new.self c.args.message c.args.self.now.asking is c.put_back.ensures.waiting c.put_back.ensures.replies c.put_back.ensures.fewer
