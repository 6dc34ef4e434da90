-- Room for one more waiting request.
use Rattle.std.specs.Prelude.{◌<◌, ⊤, Vec, vec_len, vec_capacity}
use Rattle.std.specs.declared.alloc.Global.{Global}
use Rattle.craq_model.specs.declared.waiting.WaitingRead.{WaitingRead}
use Rattle.craq_history.specs.declared.change.WaitingChange.{WaitingChange}
use Rattle.craq_history.specs.declared.change.WaitingChange.TheVariants as waits
use Rattle.craq_history.specs.Waiting.{Waiting}

abbrev pub HasRoomFor : WaitingChange → Waiting → Vec WaitingRead Global → Type 0
HasRoomFor waits.Same us rs = ⊤
HasRoomFor (waits.OneUpdate u) us rs = 0 < us.room
HasRoomFor (waits.OneRead r) us rs = vec_len rs < vec_capacity rs
HasRoomFor (waits.UpdatesAnswered position) us rs = ⊤
HasRoomFor (waits.ReadAnswered ticket) us rs = ⊤
HasRoomFor waits.AllAnswered us rs = ⊤
