-- The nodes of a chain by their ids, as its moves change them.
use Rattle.std.proofs.Common.{◌≡◌, ◌≢◌, ◌<◌, ◌≤◌, ◌+◌, ◌++◌, ◌==◌, ◌⊎◌, ℕ, true, false, List, [], ◌∷◌, length, Some, None, Result, Ok, Err, refl, subst, arith, inl, inr}
use Rattle.std.specs.Prelude.{⊤}
use Rattle.std.proofs.lemmas.Bool.{cases_Bool, eqb-false, eqb-true}
use Rattle.craq_names.specs.Limits.{greatest}
use Rattle.craq_names.specs.declared.refusal.Refusal.{Refusal}
use Rattle.craq_model.specs.declared.ask.Event.{Event}
use Rattle.craq_model.specs.declared.ask.Event.TheVariants as events
use Rattle.craq_model.specs.declared.message.LinkMessage.{LinkMessage}
use Rattle.craq_model.specs.declared.step.Step.{Step}
use Rattle.craq_model.specs.Plain.{Plain, id_of}
use Rattle.craq_model.specs.Settle.{Transition}
use Rattle.craq_model.specs.Node.{node_step}
use Rattle.craq_runs.specs.declared.run.Move.{Move}
use Rattle.craq_runs.specs.Chain.{Chain, chain_step, move_progress, node_at, sent_in}
use Rattle.craq_chain.proofs.Taking.{numbered}

pub same_or_not : (a b : ℕ) → (a ≡ b) ⊎ (a ≢ b)
same_or_not a b = elim (cases_Bool (a == b)) [ inl e ↦ inl (eqb-true a b e) | inr e ↦ inr (eqb-false a b e) ]

-- a new node is found, and others as before
pub pushed_new : (ps : List Plain) (q : Plain) → node_at ps (id_of q) ≡ None → node_at (ps ++ q ∷ []) (id_of q) ≡ Some q
unfolding node_at
pushed_new [] q h = grind arith
pushed_new (r ∷ ps) q h = grind (arith, h, pushed_new ps q)

pub pushed_other : (ps : List Plain) (q : Plain) (id : ℕ) → id_of q ≢ id → node_at (ps ++ q ∷ []) id ≡ node_at ps id
unfolding node_at
pushed_other [] q id n = grind (arith, n)
pushed_other (r ∷ ps) q id n = grind (arith, n, pushed_other ps q id n)

-- ---- steps that are taken

-- only a running node takes a step
pub runs : (p q : Plain) (e : Event) (s : Step) → node_step p e ≡ Ok (q, s) → p.running ≡ true
unfolding node_step
runs p q e s h = grind (arith, h)

-- a message is for the node that takes it
pub is_receiver : (p q : Plain) (m : LinkMessage) (s : Step) → node_step p (events.Deliver m) ≡ Ok (q, s) → m.receiver ≡ id_of p
unfolding node_step
is_receiver p q m s h = grind (arith, h, eqb-true m.receiver (id_of p))

-- a node that stopped does not run
abbrev IsHalted : Result Transition Refusal → Type 0
IsHalted (Ok t) = t.0.running ≡ false
IsHalted (Err e) = ⊤

stop_halts : (p : Plain) → IsHalted (node_step p events.Stop)
unfolding node_step
stop_halts p = grind arith

pub halts : (p q : Plain) (s : Step) → node_step p events.Stop ≡ Ok (q, s) → q.running ≡ false
halts p q s h = subst IsHalted h (stop_halts p)

-- the chain of a move, with the move and its messages counted
abbrev pub counted : Chain → Chain → Step → Chain
counted c x step = record x { messages = c.messages ++ sent_in step.outs; moves = c.moves + 1 }

pub takes : (c x : Chain) (m : Move) (step : Step) → move_progress c m ≡ Ok (x, step) → c.moves < greatest → length c.messages + length (sent_in step.outs) ≤ greatest → chain_step c m ≡ Ok (counted c x step, step)
unfolding chain_step
takes c x m step h k l = rw (h, numbered c step k l) refl
