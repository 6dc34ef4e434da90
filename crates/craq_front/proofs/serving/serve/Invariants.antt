use Rattle.std.proofs.Common.{List, ℕ, None, [], ◌≡◌, ◌≤◌, ◌+◌, length}
use Rattle.std.specs.Io.KnownBytes.{Appends, Consumes}
use Rattle.craq_frames.specs.Serving.{Served}
use Rattle.craq_front.proofs.serving.serve.Given as goal

abbrev pub invariant-loop-turn : goal.invariant-loop-turn
invariant-loop-turn g l =
    (read : List ℕ) × (written : List ℕ)
    × Consumes (g.R.Source.remaining l.fn.reader) (g.R.Source.remaining l.reader) read
    × Appends (g.W.Sink.contents l.fn.writer) (g.W.Sink.contents l.writer) written
    × (g.R.Counted.count l.reader ≡ g.R.Counted.count l.fn.reader)
    × (g.W.Counted.count l.writer ≡ g.W.Counted.count l.fn.writer)
    × (l.codec.buffers.output.items ≡ [])
    × Served g.D.Door.turn l.fn.door read l.codec.buffers.input.items written l.frames l.door
    × (l._turn ≤ l.frames + length read)
    × (l.codec.asking ≡ None)
