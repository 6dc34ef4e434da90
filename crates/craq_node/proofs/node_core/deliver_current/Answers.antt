use Rattle.std.proofs.Common.{refl}
use Rattle.craq_history.specs.Nodes.{plain_of}
use Rattle.craq_node.proofs.Kept.{delivery_leads, in_epoch_leads}
use Rattle.craq_node.proofs.node_core.deliver_current.Goals as goal

pub take_membership-requires : goal.take_membership-requires
take_membership-requires g c = record { sound = delivery_leads (plain_of g.H.History.past c.args.node.now) c.args.message _ c.requires.sound c.requires.spelled c.requires.here (rw c.in-Config.is refl) }

pub take_entry-requires-clause-sound : goal.take_entry-requires-clause-sound
take_entry-requires-clause-sound g c =
    in_epoch_leads (plain_of g.H.History.past c.args.node.now) c.args.message _ c.requires.sound c.requires.spelled c.requires.here c.requires.heeded (rw c.in-Entry.is refl) (rw c.in-Entry.is refl)

pub take_entries-requires-clause-sound : goal.take_entries-requires-clause-sound
take_entries-requires-clause-sound g c =
    in_epoch_leads (plain_of g.H.History.past c.args.node.now) c.args.message _ c.requires.sound c.requires.spelled c.requires.here c.requires.heeded (rw c.in-Batch.is refl) (rw c.in-Batch.is refl)

pub take_ack-requires : goal.take_ack-requires
take_ack-requires g c =
    record { sound = in_epoch_leads (plain_of g.H.History.past c.args.node.now) c.args.message _ c.requires.sound c.requires.spelled c.requires.here c.requires.heeded (rw c.in-Ack.is refl) (rw c.in-Ack.is refl) }

pub take_query-requires : goal.take_query-requires
take_query-requires g c =
    record { sound = in_epoch_leads (plain_of g.H.History.past c.args.node.now) c.args.message _ c.requires.sound c.requires.spelled c.requires.here c.requires.heeded (rw c.in-Query.is refl) (rw c.in-Query.is refl) }

pub take_version-requires : goal.take_version-requires
take_version-requires g c =
    record { sound = in_epoch_leads (plain_of g.H.History.past c.args.node.now) c.args.message _ c.requires.sound c.requires.spelled c.requires.here c.requires.heeded (rw c.in-VersionIs.is refl) (rw c.in-VersionIs.is refl) }

pub take_blank-requires : goal.take_blank-requires
take_blank-requires g c =
    record { sound = in_epoch_leads (plain_of g.H.History.past c.args.node.now) c.args.message _ c.requires.sound c.requires.spelled c.requires.here c.requires.heeded (rw c.in-Blank.is refl) (rw c.in-Blank.is refl) }

pub take_copy-requires-clause-sound : goal.take_copy-requires-clause-sound
take_copy-requires-clause-sound g c =
    in_epoch_leads (plain_of g.H.History.past c.args.node.now) c.args.message _ c.requires.sound c.requires.spelled c.requires.here c.requires.heeded (rw c.in-Copy.is refl) (rw c.in-Copy.is refl)

pub take_part-requires-clause-sound : goal.take_part-requires-clause-sound
take_part-requires-clause-sound g c =
    in_epoch_leads (plain_of g.H.History.past c.args.node.now) c.args.message _ c.requires.sound c.requires.spelled c.requires.here c.requires.heeded (rw c.in-Part.is refl) (rw c.in-Part.is refl)

pub take_floor-requires-clause-sound : goal.take_floor-requires-clause-sound
take_floor-requires-clause-sound g c =
    in_epoch_leads (plain_of g.H.History.past c.args.node.now) c.args.message _ c.requires.sound c.requires.spelled c.requires.here c.requires.heeded (rw c.in-Floor.is refl) (rw c.in-Floor.is refl)
