use Rattle.craq_frames.proofs.Cuts.{whole_frames, long_frames, never_overflows}
use Rattle.craq_frames.proofs.frame.cuts_frames.Goals as goal

pub returns-clause-whole : goal.returns-clause-whole
returns-clause-whole c = whole_frames

pub returns-clause-long : goal.returns-clause-long
returns-clause-long c = long_frames

pub returns-clause-never : goal.returns-clause-never
returns-clause-never c = never_overflows
