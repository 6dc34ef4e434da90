-- Replies and entries that keep their rules have few enough items for their counts.
use Rattle.std.proofs.Common.{◌≤◌, ◌<◌, ◌^◌, ℕ, [], ◌∷◌, length, arith}
use Rattle.std.specs.List.{AllByRecursion}
use Rattle.craq_commands.specs.Kept.{Kept, Window}
use Rattle.craq_wire.specs.PartEncoding.{IsPair}
use Rattle.craq_commands.specs.declared.reply.Reply.{Reply}
use Rattle.craq_commands.specs.declared.reply.Reply.TheVariants.{Written, Mismatch, TooLong, NotANumber, Overflow, Underflow, Done, CompareFailed, Stale}
use Rattle.craq_commands.specs.declared.entry.Entry.{Entry}
use Rattle.craq_model.specs.Encodable.{IsReply, IsNotStale, IsEncodableEntry, IsEncodableWindow}
use Rattle.craq_wire.specs.EntryEncoding.{ReplyFits, EntryFits, WindowFits}
use Rattle.craq_wire.specs.TypedEntries.{IsTypedReply, IsTypedEntry, IsTypedWindow}

pub within_byte : (n : ℕ) → n ≤ 16 → n < 256
within_byte n h = omega (arith, h)

pub reply_fits : (r : Reply) → IsTypedReply r → IsReply r → ReplyFits r
reply_fits (Written version) t i = t
reply_fits (Mismatch version) t i = t
reply_fits TooLong t i = t
reply_fits NotANumber t i = t
reply_fits Overflow t i = t
reply_fits Underflow t i = t
reply_fits (Done objects) t i = record { few = within_byte (length objects) i.0; each = t }
reply_fits (CompareFailed place) t i = t
reply_fits (Stale last) t i = t

pub entry_fits : (e : Entry) → IsTypedEntry e → IsEncodableEntry e → EntryFits e
entry_fits e t i = record {
  position = t.position;
  origin_node = t.origin_node;
  origin_ticket = t.origin_ticket;
  client = t.client;
  number = t.number;
  reply = reply_fits e.reply t.reply i.reply;
  writes = record { few = within_byte (length e.writes) i.few; each = t.writes };
}

replies_fit : (w : Window) → IsTypedWindow w → AllByRecursion (λ (k : Kept). IsReply k.1 × IsNotStale k.1) w → AllByRecursion (IsPair (λ number. (1 ≤ number) × (number < 2 ^ 64)) ReplyFits) w
replies_fit [] t i = tt
replies_fit (k ∷ ks) t i = ((t.0.0, reply_fits k.1 t.0.1 i.0.0), replies_fit ks t.1 i.1)

pub window_fits : (w : Window) → IsTypedWindow w → IsEncodableWindow w → WindowFits w
window_fits w t i = record { few = omega (arith, i.few); each = replies_fit w t i.replies }
