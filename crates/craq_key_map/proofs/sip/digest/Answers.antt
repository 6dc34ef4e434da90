use Rattle.std.proofs.Common.{◌∙◌, ◌/◌, length, ap, arith}
use Rattle.craq_key_map.specs.declared.sip.Sip.{Sip}
use Rattle.craq_key_map.specs.Hashed.{absorbed, finished, with_word}
use Rattle.craq_key_map.proofs.Absorbing.{one_more, the_end}
use Rattle.craq_key_map.proofs.sip.digest.Goals as goal

pub loop-left-preserved : goal.loop-left-preserved
loop-left-preserved c =
    let rest = c.split_word-word.result.1.now in
    let count = length c.args.bytes.now in
    ap (λ (s : Sip). absorbed (length rest / 8) s count rest) c.add.ensures
    ∙ one_more c.loop-left.state count c.loop-left.left.now rest c.split_word-word.result.0 (omega (arith, c.loop-left-test.true)) c.split_word-word.ensures.rest (omega (arith, c.split_word-word.ensures.count)) c.split_word-word.ensures.word
    ∙ c.loop-left.invariant

pub returns : goal.returns
returns c =
    c.finish.ensures
    ∙ ap finished
    (c.add-2.ensures
    ∙ ap (with_word c.loop-left.state) c.last_word_of.ensures
    ∙ the_end c.loop-left.state (length c.args.bytes.now) c.loop-left.left.now (omega (arith, c.loop-left-test.false))
    ∙ c.loop-left.invariant)
