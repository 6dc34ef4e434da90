use Rattle.std.proofs.Common.{false, arith}
use Rattle.std.proofs.lemmas.Fmt.{hex_byte}
use Rattle.craq_script.proofs.printing.print_byte.Goals as goal

pub returns : goal.returns
returns c =
    let two = hex_byte false c.args.byte (omega arith) in
    let bytes = simp (c.laid_out.ensures, c.in_radix.ensures, two) at c.write.ensures.bytes in
    bytes
