-- Moves, and the lines printed for them.
use Rattle.std.specs.Prelude.{ℕ, ◌+◌, List, [], ◌∷◌, ◌++◌, map, length, Option, Some, None, Result, Ok, Err}
use Rattle.craq_names.specs.declared.refusal.Refusal.{Refusal}
use Rattle.craq_model.specs.declared.message.Body.{Body}
use Rattle.craq_model.specs.declared.message.Body.TheVariants as bodies
use Rattle.craq_model.specs.declared.message.LinkMessage.{LinkMessage}
use Rattle.craq_model.specs.Deliveries.{first_position, final_position}
use Rattle.craq_model.specs.declared.ask.Answer.{Answer}
use Rattle.craq_model.specs.declared.step.Out.{Out}
use Rattle.craq_model.specs.declared.step.Out.TheVariants as outs
use Rattle.craq_model.specs.declared.step.Why.{Why}
use Rattle.craq_runs.specs.declared.run.Move.{Move}
use Rattle.craq_runs.specs.declared.run.Run.{Run}
use Rattle.craq_runs.specs.declared.run.Taken.{Taken}
use Rattle.craq_runs.specs.Chain.{Chain, Progress, opening_chain, chain_step}
use Rattle.craq_runs.specs.Runs.{progressed}
use Rattle.craq_runs.specs.Seen.{node_of}

-- the text printed for a message
pub data Text : Type 0 where
  Config : (epoch : ℕ) → Text
  Entry : (position : ℕ) → Text
  Ack : (position : ℕ) → Text
  Query : (ticket : ℕ) → Text
  VersionIs : (ticket : ℕ) (version : ℕ) → Text
  Blank : (count : ℕ) → Text
  Copy : (position : ℕ) → Text
  Part : (position : ℕ) (number : ℕ) (count : ℕ) → Text
  Batch : (first : ℕ) (last : ℕ) → Text
  Floor : (count : ℕ) → Text

-- a line printed for a move
pub data PrintedLine : Type 0 where
  Sent : (number : ℕ) (from : ℕ) (to : ℕ) (text : Text) → PrintedLine
  Answered : (node : ℕ) (ticket : ℕ) (answer : Answer) → PrintedLine
  Ignored : (why : Why) → PrintedLine
  Nothing : PrintedLine
  Refused : (refusal : Refusal) → PrintedLine

abbrev pub text_of : ℕ → Body → Text
text_of epoch (bodies.Config members) = Config epoch
text_of epoch (bodies.Entry e) = Entry e.position
text_of epoch (bodies.Ack position) = Ack position
text_of epoch (bodies.Query ticket key) = Query ticket
text_of epoch (bodies.VersionIs ticket version) = VersionIs ticket version
text_of epoch (bodies.Blank count) = Blank count
text_of epoch (bodies.Copy position state) = Copy position
text_of epoch (bodies.Part part) = Part part.position part.number part.count
text_of epoch (bodies.Batch es) = Batch (first_position es) (final_position es)
text_of epoch (bodies.Floor count) = Floor count

-- the lines for a node's outs, after `sent` messages
abbrev pub out_lines : ℕ → ℕ → List Out → List PrintedLine
out_lines sent node [] = []
out_lines sent node (outs.Send to m ∷ os) = Sent (sent + 1) m.sender to (text_of m.epoch m.body) ∷ out_lines (sent + 1) node os
out_lines sent node (outs.Answer ticket answer ∷ os) = Answered node ticket answer ∷ out_lines sent node os

abbrev pub why_lines : Option Why → List PrintedLine → List PrintedLine
why_lines (Some why) lines = Ignored why ∷ []
why_lines None [] = Nothing ∷ []
why_lines None (l ∷ ls) = l ∷ ls

abbrev pub lines_of : Chain → Move → Result Progress Refusal → List PrintedLine
lines_of c m (Err e) = Refused e ∷ []
lines_of c m (Ok x) =
    why_lines x.1.ignored (out_lines (length c.messages) (node_of (map (λ (n : LinkMessage). n.receiver) c.messages) m) x.1.outs)

abbrev pub printed : Chain → List Move → List PrintedLine
printed c [] = []
printed c (m ∷ ms) =
    let r = chain_step c m in
    lines_of c m r ++ printed (progressed c r) ms

abbrev pub taken_move : Move → Result Progress Refusal → List Taken
taken_move m (Ok x) = record { chosen = m; step = x.1 } ∷ []
taken_move m (Err e) = []

-- the accepted moves, with their steps
abbrev pub taken : Chain → List Move → List Taken
taken c [] = []
taken c (m ∷ ms) =
    let r = chain_step c m in
    taken_move m r ++ taken (progressed c r) ms

-- the run of these moves in chain 0
abbrev pub run_of : List ℕ → List Move → Run
run_of members ms = record { members = members; moves = taken (opening_chain 0 members) ms }

abbrev pub play : List ℕ → List Move → List PrintedLine
play members ms = printed (opening_chain 0 members) ms
