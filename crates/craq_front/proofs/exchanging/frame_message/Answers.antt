use Rattle.craq_front.proofs.Asks.{ask_few, memory_alone}
use Rattle.craq_front.proofs.exchanging.frame_message.Goals as goal

pub returns-clause-err : goal.returns-clause-err
returns-clause-err c = memory_alone c.write_frame.result c.in-Ok.payload (ask_few c.args.message.now c.in-Ok.payload c.in-Ok.ensures) c.write_frame.ensures.long c.write_frame.ensures.err
