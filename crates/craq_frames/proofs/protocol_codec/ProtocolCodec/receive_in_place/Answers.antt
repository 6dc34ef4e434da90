use Rattle.std.proofs.Common.{rules, arith, ◌≡◌, ◌+◌, ◌-◌, [], Some, Ok, drop, length, length-drop, ◌∙◌}
use Rattle.std.proofs.lemmas.List.{nil_from_length, take_all}
use Rattle.craq_frames.specs.declared.protocol_codec.CodecEvent.TheVariants.{Ask}
use Rattle.craq_frames.proofs.Lengths.{whole_frame}
use Rattle.craq_frames.proofs.Nexts.{first_asked, taken_off}
use Rattle.craq_frames.proofs.protocol_codec.ProtocolCodec.receive_in_place.Goals as goal

pub slice_bounds-extend_from_slice-count : goal.slice_bounds-extend_from_slice-count
slice_bounds-extend_from_slice-count c =
    let h = rw c.in-Ok-Some.field-0-is at c.in-Ok-Some.ensures.whole in
    whole_frame c.args.bytes.now c.in-Ok-Some.payload.now h.0 h.2

pub slice_bounds-extend_from_slice-start : goal.slice_bounds-extend_from_slice-start
slice_bounds-extend_from_slice-start c =
    let h = rw c.in-Ok-Some.field-0-is at c.in-Ok-Some.ensures.whole in
    search (rules, whole_frame c.args.bytes.now c.in-Ok-Some.payload.now h.0 h.2)

pub returns-clause-asks : goal.returns-clause-asks
returns-clause-asks c =
    let h = rw c.in-Ok-Some.field-0-is at c.in-Ok-Some.ensures.whole in
    let bytes = c.args.bytes.now in
    let payload = c.in-Ok-Some.payload.now in
    let first = c.first_of-message.result in
    let empty : c.args.self.now.buffers.input.items ≡ [] = search (rules, nil_from_length) in
    let left : c.extend_from_slice.new.self.items ≡ drop (length payload + 4) bytes =
    rw empty at c.in_ok-extend_from_slice.ensures.ok
    ∙ take_all (length bytes - (length payload + 4)) (drop (length payload + 4) bytes) (omega (arith, length-drop (length payload + 4) bytes)) in
    rw empty (taken_off bytes c.extend_from_slice.new.self.items [] payload h.0 (Some first.1) (Ok (Ask first.0)) h.2 left
    (first_asked (Some first.1) first.0 payload h.1 (c.first_of-message.ensures payload c.in-Ok.ensures.found)))
