-- A message with an encoding has one under another stamp and index.
use Rattle.std.proofs.Common.{◌≤◌, ℕ}
use Rattle.craq_model.specs.declared.message.LinkMessage.{LinkMessage}
use Rattle.craq_model.specs.Encodable.{IsEncodable}

pub stamped_is_encodable : (m : LinkMessage) (stamp index : ℕ) → IsEncodable m → 1 ≤ stamp → IsEncodable (record m { stamp = stamp; index = index })
stamped_is_encodable m stamp index h from = record { sender = h.sender; receiver = h.receiver; stamp = from; epoch = h.epoch; body = h.body }
