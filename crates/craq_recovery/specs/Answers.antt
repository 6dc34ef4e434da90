-- Waiting requests, and the moves that answer them.
use Rattle.std.specs.Prelude.{◌≡◌, ◌⊎◌, ℕ, zero, suc, true, List, [], ◌∷◌, ◌++◌, map, Option, Some, None, Ok}
use Rattle.craq_model.specs.declared.message.LinkMessage.{LinkMessage}
use Rattle.craq_model.specs.declared.step.Out.{Out}
use Rattle.craq_model.specs.declared.step.Out.TheVariants as outs
use Rattle.craq_model.specs.declared.waiting.WaitingRead.{WaitingRead}
use Rattle.craq_model.specs.declared.waiting.WaitingUpdate.{WaitingUpdate}
use Rattle.craq_model.specs.Members.{is_member}
use Rattle.craq_model.specs.Plain.{Plain}
use Rattle.craq_runs.specs.declared.run.Move.{Move}
use Rattle.craq_runs.specs.declared.run.Move.TheVariants.{Ask, Deliver, Tick, Stop, Remove, Join}
use Rattle.craq_runs.specs.Chain.{Chain, Progress, chain_step, message_at, node_at}
use Rattle.craq_runs.specs.Runs.{after_move}
use Rattle.craq_recovery.specs.Rounds.{after_moves_by, round}

-- the tickets of the requests that wait at a node
abbrev pub waiting_tickets : Plain → List ℕ
waiting_tickets p = map (λ (u : WaitingUpdate). u.ticket) p.waiting_updates ++ map (λ (r : WaitingRead). r.ticket) p.waiting_reads

-- a request of this ticket waits at the node of this id
pub record AskWaits (c : Chain) (id ticket : ℕ) : Type 0 where
  pub node : Plain
  pub at : node_at c.nodes id ≡ Some node
  pub waits : is_member (waiting_tickets node) ticket ≡ true

-- the tickets that a step answers
abbrev pub answered_tickets : List Out → List ℕ
answered_tickets [] = []
answered_tickets (outs.Send to m ∷ os) = answered_tickets os
answered_tickets (outs.Answer ticket answer ∷ os) = ticket ∷ answered_tickets os

-- the node of a move
abbrev pub receiver_of : Option LinkMessage → ℕ
receiver_of None = 0
receiver_of (Some m) = m.receiver

-- the node that a move names; for a delivery the receiver, 0 if the message was not sent
abbrev pub place_of : Chain → Move → ℕ
place_of c (Ask node ask) = node
place_of c (Deliver number) = receiver_of (message_at c.messages number)
place_of c (Tick node) = node
place_of c (Stop node) = node
place_of c (Remove node) = node
place_of c (Join node) = node

-- the move answers the ticket at the node of this id
pub record AnswersAt (c : Chain) (m : Move) (id ticket : ℕ) : Type 0 where
  pub progress : Progress
  pub taken : chain_step c m ≡ Ok progress
  pub here : place_of c m ≡ id
  pub answers : is_member (answered_tickets progress.1.outs) ticket ≡ true

-- one of these moves, one after the other, answers the ticket
abbrev pub AnsweredBy : Chain → List Move → ℕ → ℕ → Type 0
AnsweredBy c [] id ticket = ⊥
AnsweredBy c (m ∷ ms) id ticket = AnswersAt c m id ticket ⊎ AnsweredBy (after_move c m) ms id ticket

-- one of the moves of this number of rounds, each of count hops, answers the ticket
abbrev pub AnsweredInRounds : ℕ → ℕ → Chain → ℕ → ℕ → Type 0
AnsweredInRounds count zero c id ticket = ⊥
AnsweredInRounds count (suc rounds) c id ticket =
    AnsweredBy c (round after_move count c) id ticket ⊎ AnsweredInRounds count rounds (after_moves_by after_move c (round after_move count c)) id ticket
