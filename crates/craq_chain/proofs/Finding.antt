-- The search for the node and the message of a move.
use Rattle.std.proofs.Common.{◌≡◌, ◌==◌, ℕ, false, Some, Result, Ok, Err, refl, inr}
use Rattle.craq_names.specs.declared.refusal.Refusal.{Refusal}
use Rattle.craq_model.specs.declared.ask.Ask as asks
use Rattle.craq_model.specs.declared.message.LinkMessage.{LinkMessage}
use Rattle.craq_runs.specs.declared.run.Move.{Move}
use Rattle.craq_runs.specs.declared.run.Move.TheVariants.{Ask, Deliver, Tick, Stop}
use Rattle.craq_runs.specs.Chain.{Chain, message_at}
use Rattle.craq_chain.specs.Chained.{HasFound}
use Rattle.craq_chain.specs.Parts.{HasNode}

pub found_asked : (c : Chain) (m : Move) (node : ℕ) (ask : asks.Ask) (r : Result Unit Refusal) → m ≡ Ask node ask → HasNode c node r → HasFound c m r
found_asked c m node ask (Ok done) is h = rw is h
found_asked c m node ask (Err e) is h = rw (is, h.0, h.1) refl

pub found_stopped : (c : Chain) (m : Move) (node : ℕ) (r : Result Unit Refusal) → m ≡ Stop node → HasNode c node r → HasFound c m r
found_stopped c m node (Ok done) is h = rw is h
found_stopped c m node (Err e) is h = rw (is, h.0, h.1) refl

pub found_ticking : (c : Chain) (m : Move) (node : ℕ) (r : Result Unit Refusal) → m ≡ Tick node → (node == 0) ≡ false → HasNode c node r → HasFound c m r
found_ticking c m node (Ok done) is other h = rw is (inr h)
found_ticking c m node (Err e) is other h = rw (is, other, h.0, h.1) refl

pub found_receiver : (c : Chain) (m : Move) (number : ℕ) (message : LinkMessage) (r : Result Unit Refusal) → m ≡ Deliver number → message_at c.messages number ≡ Some message → HasNode c message.receiver r → HasFound c m r
found_receiver c m number message (Ok done) is at h = rw (is, at) h
found_receiver c m number message (Err e) is at h = rw (is, at, h.0, h.1) refl
