use Rattle.std.proofs.Common.{inl}
use Rattle.std.specs.Sync.Mutex.{mutex_guard_value}
use Rattle.craq_running_chain.proofs.shared.Shared.serve_at.Goals as goal

-- the batch begins with no replies, from what the lock holds
pub returns : goal.returns
returns g c = inl (
  mutex_guard_value c.begin-batch.result.seated,
  mutex_guard_value c.take_own-reply.new.self.seated,
  c.take_own-reply.new.self.replies,
  rw c.begin-batch.ensures.replies at c.take_own-reply.ensures,
)
