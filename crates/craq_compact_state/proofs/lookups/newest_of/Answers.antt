use Rattle.craq_compact_state.proofs.Found.{newest_none, newest_stands}
use Rattle.craq_compact_state.proofs.lookups.newest_of.Goals as goal

pub value_at-requires : goal.value_at-requires
value_at-requires c = (_, newest_stands c.args.entries.now c.args.list.now.versions (c.in-Some.found.0, c.in-Some.found.1.now) c.requires.0 c.in-Some.ensures c.requires.1)

pub returns-in-None-clause-object : goal.returns-in-None-clause-object
returns-in-None-clause-object c = λ values all. rw c.new.ensures (newest_none c.args.entries.now c.args.list.now.versions values c.in-None.ensures all)

pub returns-in-Some-clause-object : goal.returns-in-Some-clause-object
returns-in-Some-clause-object c = λ values all. c.value_at.ensures.object _ (newest_stands c.args.entries.now c.args.list.now.versions (c.in-Some.found.0, c.in-Some.found.1.now) values c.in-Some.ensures all)
