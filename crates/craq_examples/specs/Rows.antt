-- Scripts, the lines printed for them, and their explanations.
use Rattle.std.specs.Prelude.{ℕ, ◌+◌, ◌/◌, ◌%◌, List, [], ◌∷◌, ◌++◌, map, replicate}
use Rattle.std.specs.List.{range_with_len}
use Rattle.craq_model.specs.Past.{installed_in}
use Rattle.craq_model.specs.Plain.{Plain, opening_member, opening_joined}
use Rattle.craq_runs.specs.Chain.{Chain, opening_chain}
use Rattle.craq_runs.specs.declared.explanation.Place.{Place}
use Rattle.craq_names.specs.declared.name.ObjectId.{ObjectId}
use Rattle.craq_names.specs.declared.refusal.Refusal.TheVariants as refusals
use Rattle.craq_commands.specs.declared.command.Command.{Command}
use Rattle.craq_commands.specs.declared.command.Command.TheVariants.{Put, TestAndSet, Append, Prepend, Increment, Decrement, Mini}
use Rattle.craq_commands.specs.declared.read_mode.ReadMode.TheVariants.{Strong, Eventual, Bounded}
use Rattle.craq_commands.specs.declared.reply.Reply.TheVariants.{Written, Mismatch, TooLong, NotANumber, Overflow, Underflow, Done, CompareFailed, Stale}
use Rattle.craq_model.specs.declared.ask.Ask.TheVariants as asks
use Rattle.craq_model.specs.declared.ask.Answer.TheVariants as answers
use Rattle.craq_model.specs.declared.step.Why.TheVariants.{OtherEpoch, OutOfOrder, AlreadyHave}
use Rattle.craq_runs.specs.declared.run.Move.{Move}
use Rattle.craq_runs.specs.declared.run.Move.TheVariants.{Ask, Deliver, Tick, Stop, Remove, Join}
use Rattle.craq_runs.specs.declared.explanation.Explanation.{Explanation}
use Rattle.craq_examples.specs.Printed.{PrintedLine, Config, Entry, Ack, Query, VersionIs, Blank, Copy, Part, Batch, Floor, Sent, Answered, Ignored, Nothing, Refused}

abbrev pub object : ℕ → List ℕ → ObjectId
object chain key = record { chain = chain; key = key }

abbrev pub update : ℕ → ℕ → ℕ → Command → Move
update node client number command = Ask node (asks.Update (record { client = client; number = number; command = command }))

abbrev pub first_read_moves : List Move
first_read_moves =
    (Ask 2 (asks.Read Strong (object 0 (107 ∷ [])))) ∷ []

abbrev pub first_read_lines : List PrintedLine
first_read_lines =
    Answered 2 1 (answers.Read 0 []) ∷ []

abbrev pub first_read_explained : Explanation
first_read_explained = record { asks = []; lens = (0 ∷ []); places = ((record { node = 2; ticket = 1; position = 0 }) ∷ []) }

abbrev pub clean_and_dirty_reads_moves : List Move
clean_and_dirty_reads_moves =
    (update 1 1 1 (Put (object 0 (107 ∷ [])) (97 ∷ [])))
    ∷ (Ask 1 (asks.Read Strong (object 0 (107 ∷ []))))
    ∷ (Ask 1 (asks.Read Eventual (object 0 (107 ∷ []))))
    ∷ (Deliver 2)
    ∷ (Deliver 3) ∷ []

abbrev pub clean_and_dirty_reads_lines : List PrintedLine
clean_and_dirty_reads_lines =
    Sent 1 1 2 (Entry 1)
    ∷ Sent 2 1 3 (Query 2)
    ∷ Answered 1 3 (answers.Read 1 (97 ∷ []))
    ∷ Sent 3 3 1 (VersionIs 2 0)
    ∷ Answered 1 2 (answers.Read 0 []) ∷ []

abbrev pub clean_and_dirty_reads_explained : Explanation
clean_and_dirty_reads_explained = record { asks = []; lens = (0 ∷ 0 ∷ 0 ∷ 0 ∷ 0 ∷ []); places = ((record { node = 1; ticket = 2; position = 0 }) ∷ []) }

abbrev pub one_put_moves : List Move
one_put_moves =
    (update 1 1 1 (Put (object 0 (107 ∷ [])) (97 ∷ [])))
    ∷ (Deliver 1)
    ∷ (Deliver 2)
    ∷ (Deliver 3)
    ∷ (Deliver 4)
    ∷ (Ask 1 (asks.Read Strong (object 0 (107 ∷ []))))
    ∷ (Ask 2 (asks.Read Strong (object 0 (107 ∷ []))))
    ∷ (Ask 3 (asks.Read Strong (object 0 (107 ∷ [])))) ∷ []

abbrev pub one_put_lines : List PrintedLine
one_put_lines =
    Sent 1 1 2 (Entry 1)
    ∷ Sent 2 2 3 (Entry 1)
    ∷ Sent 3 3 2 (Ack 1)
    ∷ Sent 4 2 1 (Ack 1)
    ∷ Answered 1 1 (answers.Update (Written 1))
    ∷ Answered 1 2 (answers.Read 1 (97 ∷ []))
    ∷ Answered 2 1 (answers.Read 1 (97 ∷ []))
    ∷ Answered 3 1 (answers.Read 1 (97 ∷ [])) ∷ []

abbrev pub one_put_explained : Explanation
one_put_explained = record { asks = (1 ∷ []); lens = (0 ∷ 0 ∷ 1 ∷ 1 ∷ 1 ∷ 1 ∷ 1 ∷ 1 ∷ []); places = ((record { node = 1; ticket = 1; position = 1 }) ∷ (record { node = 1; ticket = 2; position = 1 }) ∷ (record { node = 2; ticket = 1; position = 1 }) ∷ (record { node = 3; ticket = 1; position = 1 }) ∷ []) }

abbrev pub query_overtaken_moves : List Move
query_overtaken_moves =
    (update 1 1 1 (Put (object 0 (107 ∷ [])) (97 ∷ [])))
    ∷ (Deliver 1)
    ∷ (Ask 2 (asks.Read Strong (object 0 (107 ∷ []))))
    ∷ (Deliver 2)
    ∷ (Deliver 3)
    ∷ (update 1 1 2 (Put (object 0 (107 ∷ [])) (98 ∷ [])))
    ∷ (Deliver 6)
    ∷ (Deliver 7)
    ∷ (Deliver 8)
    ∷ (Deliver 5) ∷ []

abbrev pub query_overtaken_lines : List PrintedLine
query_overtaken_lines =
    Sent 1 1 2 (Entry 1)
    ∷ Sent 2 2 3 (Entry 1)
    ∷ Sent 3 2 3 (Query 1)
    ∷ Sent 4 3 2 (Ack 1)
    ∷ Sent 5 3 2 (VersionIs 1 1)
    ∷ Sent 6 1 2 (Entry 2)
    ∷ Sent 7 2 3 (Entry 2)
    ∷ Sent 8 3 2 (Ack 2)
    ∷ Sent 9 2 1 (Ack 2)
    ∷ Answered 2 1 (answers.Read 2 (98 ∷ [])) ∷ []

abbrev pub query_overtaken_explained : Explanation
query_overtaken_explained = record { asks = (1 ∷ 6 ∷ []); lens = (0 ∷ 0 ∷ 0 ∷ 1 ∷ 1 ∷ 1 ∷ 1 ∷ 2 ∷ 2 ∷ 2 ∷ []); places = ((record { node = 2; ticket = 1; position = 2 }) ∷ []) }

abbrev pub out_of_order_moves : List Move
out_of_order_moves =
    (update 1 1 1 (Put (object 0 (107 ∷ [])) (97 ∷ [])))
    ∷ (update 1 1 2 (Put (object 0 (107 ∷ [])) (98 ∷ [])))
    ∷ (Deliver 2)
    ∷ (Deliver 1)
    ∷ (Deliver 1)
    ∷ (Deliver 2) ∷ []

abbrev pub out_of_order_lines : List PrintedLine
out_of_order_lines =
    Sent 1 1 2 (Entry 1)
    ∷ Sent 2 1 2 (Entry 2)
    ∷ Ignored OutOfOrder
    ∷ Sent 3 2 3 (Entry 1)
    ∷ Ignored AlreadyHave
    ∷ Sent 4 2 3 (Entry 2) ∷ []

abbrev pub head_lost_early_moves : List Move
head_lost_early_moves =
    (update 1 1 1 (Put (object 0 (107 ∷ [])) (97 ∷ [])))
    ∷ (Stop 1)
    ∷ (Remove 1)
    ∷ (Deliver 2)
    ∷ (Deliver 3)
    ∷ (update 2 1 1 (Put (object 0 (107 ∷ [])) (98 ∷ [])))
    ∷ (Deliver 6)
    ∷ (Deliver 7) ∷ []

abbrev pub head_lost_early_lines : List PrintedLine
head_lost_early_lines =
    Sent 1 1 2 (Entry 1)
    ∷ Nothing
    ∷ Sent 2 0 2 (Config 2)
    ∷ Sent 3 0 3 (Config 2)
    ∷ Sent 4 2 3 (Floor 0)
    ∷ Sent 5 3 2 (Ack 0)
    ∷ Sent 6 2 3 (Entry 1)
    ∷ Sent 7 3 2 (Ack 1)
    ∷ Answered 2 1 (answers.Update (Written 1)) ∷ []

abbrev pub head_lost_early_explained : Explanation
head_lost_early_explained = record { asks = (6 ∷ []); lens = (0 ∷ 0 ∷ 0 ∷ 0 ∷ 0 ∷ 0 ∷ 1 ∷ 1 ∷ []); places = ((record { node = 2; ticket = 1; position = 1 }) ∷ []) }

abbrev pub head_lost_with_retry_moves : List Move
head_lost_with_retry_moves =
    (update 1 1 1 (Put (object 0 (107 ∷ [])) (97 ∷ [])))
    ∷ (Deliver 1)
    ∷ (Stop 1)
    ∷ (Remove 1)
    ∷ (Deliver 3)
    ∷ (update 2 1 1 (Put (object 0 (107 ∷ [])) (97 ∷ [])))
    ∷ (Deliver 4)
    ∷ (Deliver 2)
    ∷ (Deliver 5)
    ∷ (Deliver 8) ∷ []

abbrev pub head_lost_with_retry_lines : List PrintedLine
head_lost_with_retry_lines =
    Sent 1 1 2 (Entry 1)
    ∷ Sent 2 2 3 (Entry 1)
    ∷ Nothing
    ∷ Sent 3 0 2 (Config 2)
    ∷ Sent 4 0 3 (Config 2)
    ∷ Sent 5 2 3 (Entry 1)
    ∷ Sent 6 2 3 (Floor 1)
    ∷ Nothing
    ∷ Sent 7 3 2 (Ack 0)
    ∷ Ignored OtherEpoch
    ∷ Sent 8 3 2 (Ack 1)
    ∷ Answered 2 1 (answers.Update (Written 1)) ∷ []

abbrev pub head_lost_with_retry_explained : Explanation
head_lost_with_retry_explained = record { asks = (1 ∷ []); lens = (0 ∷ 0 ∷ 0 ∷ 0 ∷ 0 ∷ 0 ∷ 0 ∷ 0 ∷ 1 ∷ 1 ∷ []); places = ((record { node = 2; ticket = 1; position = 1 }) ∷ []) }

abbrev pub tail_lost_moves : List Move
tail_lost_moves =
    (update 1 1 1 (Put (object 0 (107 ∷ [])) (97 ∷ [])))
    ∷ (Deliver 1)
    ∷ (Stop 3)
    ∷ (Remove 3)
    ∷ (Deliver 4)
    ∷ (Deliver 3)
    ∷ (Deliver 5) ∷ []

abbrev pub tail_lost_lines : List PrintedLine
tail_lost_lines =
    Sent 1 1 2 (Entry 1)
    ∷ Sent 2 2 3 (Entry 1)
    ∷ Nothing
    ∷ Sent 3 0 1 (Config 2)
    ∷ Sent 4 0 2 (Config 2)
    ∷ Sent 5 2 1 (Ack 1)
    ∷ Sent 6 1 2 (Entry 1)
    ∷ Sent 7 1 2 (Floor 1)
    ∷ Answered 1 1 (answers.Update (Written 1)) ∷ []

abbrev pub tail_lost_explained : Explanation
tail_lost_explained = record { asks = (1 ∷ []); lens = (0 ∷ 0 ∷ 0 ∷ 0 ∷ 1 ∷ 1 ∷ 1 ∷ []); places = ((record { node = 1; ticket = 1; position = 1 }) ∷ []) }

abbrev pub join_moves : List Move
join_moves =
    (update 1 1 1 (Put (object 0 (107 ∷ [])) (97 ∷ [])))
    ∷ (Deliver 1)
    ∷ (Deliver 2)
    ∷ (Deliver 3)
    ∷ (Deliver 4)
    ∷ (update 1 1 2 (Put (object 0 (107 ∷ [])) (98 ∷ [])))
    ∷ (Deliver 5)
    ∷ (Deliver 6)
    ∷ (Deliver 7)
    ∷ (Deliver 8)
    ∷ (update 1 1 3 (Put (object 0 (107 ∷ [])) (99 ∷ [])))
    ∷ (Deliver 9)
    ∷ (Deliver 10)
    ∷ (Deliver 11)
    ∷ (Deliver 12)
    ∷ (Join 4)
    ∷ (Deliver 16)
    ∷ (Ask 4 (asks.Read Strong (object 0 (107 ∷ []))))
    ∷ (Deliver 15)
    ∷ (Deliver 17)
    ∷ (Deliver 20)
    ∷ (Ask 4 (asks.Read Strong (object 0 (107 ∷ []))))
    ∷ (Stop 3)
    ∷ (Remove 3)
    ∷ (Deliver 24)
    ∷ (Deliver 18)
    ∷ (Ask 4 (asks.Read Strong (object 0 (107 ∷ []))))
    ∷ (Deliver 23)
    ∷ (Deliver 26)
    ∷ (Ask 4 (asks.Read Strong (object 0 (107 ∷ [])))) ∷ []

abbrev pub join_lines : List PrintedLine
join_lines =
    Sent 1 1 2 (Entry 1)
    ∷ Sent 2 2 3 (Entry 1)
    ∷ Sent 3 3 2 (Ack 1)
    ∷ Sent 4 2 1 (Ack 1)
    ∷ Answered 1 1 (answers.Update (Written 1))
    ∷ Sent 5 1 2 (Entry 2)
    ∷ Sent 6 2 3 (Entry 2)
    ∷ Sent 7 3 2 (Ack 2)
    ∷ Sent 8 2 1 (Ack 2)
    ∷ Answered 1 2 (answers.Update (Written 2))
    ∷ Sent 9 1 2 (Entry 3)
    ∷ Sent 10 2 3 (Entry 3)
    ∷ Sent 11 3 2 (Ack 3)
    ∷ Sent 12 2 1 (Ack 3)
    ∷ Answered 1 3 (answers.Update (Written 3))
    ∷ Sent 13 0 1 (Config 2)
    ∷ Sent 14 0 2 (Config 2)
    ∷ Sent 15 0 3 (Config 2)
    ∷ Sent 16 0 4 (Config 2)
    ∷ Sent 17 4 3 (Blank 0)
    ∷ Refused refusals.NotReady
    ∷ Sent 18 3 4 (Floor 3)
    ∷ Sent 19 3 2 (Ack 3)
    ∷ Sent 20 3 4 (Copy 3)
    ∷ Sent 21 3 4 (Floor 3)
    ∷ Nothing
    ∷ Refused refusals.NotReady
    ∷ Nothing
    ∷ Sent 22 0 1 (Config 3)
    ∷ Sent 23 0 2 (Config 3)
    ∷ Sent 24 0 4 (Config 3)
    ∷ Sent 25 4 2 (Blank 3)
    ∷ Ignored OtherEpoch
    ∷ Refused refusals.NotReady
    ∷ Sent 26 2 4 (Floor 3)
    ∷ Sent 27 2 1 (Ack 3)
    ∷ Sent 28 4 2 (Ack 3)
    ∷ Answered 4 1 (answers.Read 3 (99 ∷ [])) ∷ []

abbrev pub old_epoch_moves : List Move
old_epoch_moves =
    (update 1 1 1 (Put (object 0 (107 ∷ [])) (97 ∷ [])))
    ∷ (Stop 1)
    ∷ (Remove 1)
    ∷ (Deliver 2)
    ∷ (Deliver 3)
    ∷ (update 2 1 1 (Put (object 0 (107 ∷ [])) (98 ∷ [])))
    ∷ (Deliver 6)
    ∷ (Deliver 7)
    ∷ (Deliver 1)
    ∷ (Ask 2 (asks.Read Strong (object 0 (107 ∷ [])))) ∷ []

abbrev pub old_epoch_lines : List PrintedLine
old_epoch_lines =
    Sent 1 1 2 (Entry 1)
    ∷ Nothing
    ∷ Sent 2 0 2 (Config 2)
    ∷ Sent 3 0 3 (Config 2)
    ∷ Sent 4 2 3 (Floor 0)
    ∷ Sent 5 3 2 (Ack 0)
    ∷ Sent 6 2 3 (Entry 1)
    ∷ Sent 7 3 2 (Ack 1)
    ∷ Answered 2 1 (answers.Update (Written 1))
    ∷ Ignored OtherEpoch
    ∷ Answered 2 2 (answers.Read 1 (98 ∷ [])) ∷ []

abbrev pub one_node_moves : List Move
one_node_moves =
    (update 1 1 1 (Put (object 0 (107 ∷ [])) (97 ∷ [])))
    ∷ (update 1 1 2 (TestAndSet (object 0 (107 ∷ [])) 0 (98 ∷ [])))
    ∷ (update 1 1 2 (TestAndSet (object 0 (107 ∷ [])) 0 (98 ∷ [])))
    ∷ (Ask 1 (asks.Read Strong (object 0 (107 ∷ [])))) ∷ []

abbrev pub one_node_lines : List PrintedLine
one_node_lines =
    Answered 1 1 (answers.Update (Written 1))
    ∷ Answered 1 2 (answers.Update (Mismatch 1))
    ∷ Answered 1 3 (answers.Update (Mismatch 1))
    ∷ Answered 1 4 (answers.Read 1 (97 ∷ [])) ∷ []

abbrev pub one_node_explained : Explanation
one_node_explained = record { asks = (1 ∷ 2 ∷ []); lens = (1 ∷ 2 ∷ 2 ∷ 2 ∷ []); places = ((record { node = 1; ticket = 1; position = 1 }) ∷ (record { node = 1; ticket = 2; position = 2 }) ∷ (record { node = 1; ticket = 3; position = 2 }) ∷ (record { node = 1; ticket = 4; position = 2 }) ∷ []) }

abbrev pub numbers_moves : List Move
numbers_moves =
    (update 1 1 1 (Put (object 0 (110 ∷ [])) (255 ∷ 255 ∷ 255 ∷ 255 ∷ 255 ∷ 255 ∷ 255 ∷ 255 ∷ [])))
    ∷ (update 1 1 2 (Increment (object 0 (110 ∷ [])) 1))
    ∷ (Ask 1 (asks.Read Strong (object 0 (110 ∷ []))))
    ∷ (update 1 1 3 (Put (object 0 (115 ∷ [])) (0 ∷ 0 ∷ 0 ∷ 0 ∷ 0 ∷ 0 ∷ 0 ∷ [])))
    ∷ (update 1 1 4 (Increment (object 0 (115 ∷ [])) 1))
    ∷ (update 1 1 5 (Decrement (object 0 (122 ∷ [])) 1))
    ∷ (update 1 1 6 (Increment (object 0 (122 ∷ [])) 7))
    ∷ (Ask 1 (asks.Read Strong (object 0 (122 ∷ [])))) ∷ []

abbrev pub numbers_lines : List PrintedLine
numbers_lines =
    Answered 1 1 (answers.Update (Written 1))
    ∷ Answered 1 2 (answers.Update Overflow)
    ∷ Answered 1 3 (answers.Read 1 (255 ∷ 255 ∷ 255 ∷ 255 ∷ 255 ∷ 255 ∷ 255 ∷ 255 ∷ []))
    ∷ Answered 1 4 (answers.Update (Written 1))
    ∷ Answered 1 5 (answers.Update NotANumber)
    ∷ Answered 1 6 (answers.Update Underflow)
    ∷ Answered 1 7 (answers.Update (Written 1))
    ∷ Answered 1 8 (answers.Read 1 (0 ∷ 0 ∷ 0 ∷ 0 ∷ 0 ∷ 0 ∷ 0 ∷ 7 ∷ [])) ∷ []

abbrev pub transactions_moves : List Move
transactions_moves =
    (update 1 1 1 (Mini (record { compares = []; reads = []; writes = (((object 0 (97 ∷ [])), (49 ∷ [])) ∷ ((object 0 (98 ∷ [])), (49 ∷ [])) ∷ ((object 0 (99 ∷ [])), (49 ∷ [])) ∷ ((object 0 (100 ∷ [])), (49 ∷ [])) ∷ ((object 0 (101 ∷ [])), (49 ∷ [])) ∷ ((object 0 (102 ∷ [])), (49 ∷ [])) ∷ ((object 0 (103 ∷ [])), (49 ∷ [])) ∷ ((object 0 (104 ∷ [])), (49 ∷ [])) ∷ ((object 0 (105 ∷ [])), (49 ∷ [])) ∷ ((object 0 (106 ∷ [])), (49 ∷ [])) ∷ ((object 0 (107 ∷ [])), (49 ∷ [])) ∷ ((object 0 (108 ∷ [])), (49 ∷ [])) ∷ ((object 0 (109 ∷ [])), (49 ∷ [])) ∷ ((object 0 (110 ∷ [])), (49 ∷ [])) ∷ ((object 0 (111 ∷ [])), (49 ∷ [])) ∷ ((object 0 (112 ∷ [])), (49 ∷ [])) ∷ []) })))
    ∷ (update 1 1 2 (Mini (record { compares = []; reads = ((object 0 (97 ∷ [])) ∷ (object 1 (97 ∷ [])) ∷ []); writes = [] })))
    ∷ (update 1 1 2 (Mini (record { compares = (((object 0 (97 ∷ [])), 1) ∷ []); reads = ((object 0 (97 ∷ [])) ∷ (object 0 (122 ∷ 122 ∷ [])) ∷ []); writes = (((object 0 (97 ∷ [])), (50 ∷ [])) ∷ []) })))
    ∷ (Ask 1 (asks.Read Strong (object 0 (97 ∷ []))))
    ∷ (update 1 1 3 (Mini (record { compares = (((object 0 (98 ∷ [])), 1) ∷ ((object 0 (97 ∷ [])), 1) ∷ []); reads = []; writes = (((object 0 (98 ∷ [])), (57 ∷ [])) ∷ []) }))) ∷ []

abbrev pub transactions_lines : List PrintedLine
transactions_lines =
    Answered 1 1 (answers.Update (Done []))
    ∷ Refused refusals.TwoChains
    ∷ Answered 1 2 (answers.Update (Done ((1, (49 ∷ [])) ∷ (0, []) ∷ [])))
    ∷ Answered 1 3 (answers.Read 2 (50 ∷ []))
    ∷ Answered 1 4 (answers.Update (CompareFailed 1)) ∷ []

abbrev pub bounded_reads_moves : List Move
bounded_reads_moves =
    (update 1 1 1 (Put (object 0 (107 ∷ [])) (97 ∷ [])))
    ∷ (Deliver 1)
    ∷ (Deliver 2)
    ∷ (Deliver 3)
    ∷ (Deliver 4)
    ∷ (update 1 1 2 (Put (object 0 (107 ∷ [])) (98 ∷ [])))
    ∷ (update 1 1 3 (Put (object 0 (107 ∷ [])) (99 ∷ [])))
    ∷ (update 1 1 4 (Put (object 0 (107 ∷ [])) (100 ∷ [])))
    ∷ (Ask 1 (asks.Read (Bounded 0) (object 0 (107 ∷ []))))
    ∷ (Ask 1 (asks.Read (Bounded 1) (object 0 (107 ∷ []))))
    ∷ (Ask 1 (asks.Read (Bounded 9) (object 0 (107 ∷ []))))
    ∷ (update 1 1 1 (Put (object 0 (107 ∷ [])) (122 ∷ [])))
    ∷ (Deliver 5)
    ∷ (Deliver 6)
    ∷ (Deliver 7)
    ∷ (Deliver 8)
    ∷ (Deliver 9)
    ∷ (Deliver 10)
    ∷ (Deliver 13)
    ∷ (Deliver 14) ∷ []

abbrev pub bounded_reads_lines : List PrintedLine
bounded_reads_lines =
    Sent 1 1 2 (Entry 1)
    ∷ Sent 2 2 3 (Entry 1)
    ∷ Sent 3 3 2 (Ack 1)
    ∷ Sent 4 2 1 (Ack 1)
    ∷ Answered 1 1 (answers.Update (Written 1))
    ∷ Sent 5 1 2 (Entry 2)
    ∷ Sent 6 1 2 (Entry 3)
    ∷ Sent 7 1 2 (Entry 4)
    ∷ Answered 1 5 (answers.Read 1 (97 ∷ []))
    ∷ Answered 1 6 (answers.Read 2 (98 ∷ []))
    ∷ Answered 1 7 (answers.Read 4 (100 ∷ []))
    ∷ Nothing
    ∷ Sent 8 2 3 (Entry 2)
    ∷ Sent 9 2 3 (Entry 3)
    ∷ Sent 10 2 3 (Entry 4)
    ∷ Sent 11 3 2 (Ack 2)
    ∷ Sent 12 3 2 (Ack 3)
    ∷ Sent 13 3 2 (Ack 4)
    ∷ Sent 14 2 1 (Ack 4)
    ∷ Answered 1 2 (answers.Update (Written 2))
    ∷ Answered 1 3 (answers.Update (Written 3))
    ∷ Answered 1 4 (answers.Update (Written 4))
    ∷ Answered 1 8 (answers.Update (Written 1)) ∷ []

abbrev pub refusals_moves : List Move
refusals_moves =
    (update 2 1 1 (Put (object 0 (107 ∷ [])) (97 ∷ [])))
    ∷ (Tick 9)
    ∷ (Deliver 5)
    ∷ (Remove 2)
    ∷ (Remove 9)
    ∷ (Join 1) ∷ []

abbrev pub refusals_lines : List PrintedLine
refusals_lines =
    Refused (refusals.NotHead 1)
    ∷ Refused refusals.WrongNode
    ∷ Refused refusals.UnknownMessage
    ∷ Refused refusals.NotStopped
    ∷ Refused refusals.NotMember
    ∷ Refused refusals.UsedId ∷ []

abbrev pub last_node_moves : List Move
last_node_moves =
    (Stop 1)
    ∷ (Remove 1)
    ∷ (Ask 1 (asks.Read Strong (object 0 (107 ∷ [])))) ∷ []

abbrev pub last_node_lines : List PrintedLine
last_node_lines =
    Nothing
    ∷ Refused refusals.LastNode
    ∷ Refused refusals.Stopped ∷ []

abbrev pub full_chain_moves : List Move
full_chain_moves =
    (Join 9) ∷ []

abbrev pub full_chain_lines : List PrintedLine
full_chain_lines =
    Refused refusals.ChainFull ∷ []

abbrev pub long_append_moves : List Move
long_append_moves =
    (update 1 1 1 (Put (object 0 (107 ∷ [])) (replicate 4095 97)))
    ∷ (update 1 1 2 (Append (object 0 (107 ∷ [])) (98 ∷ [])))
    ∷ (update 1 1 3 (Append (object 0 (107 ∷ [])) (98 ∷ []))) ∷ []

abbrev pub long_append_lines : List PrintedLine
long_append_lines =
    Answered 1 1 (answers.Update (Written 1))
    ∷ Answered 1 2 (answers.Update (Written 2))
    ∷ Answered 1 3 (answers.Update TooLong) ∷ []

abbrev pub prepend_moves : List Move
prepend_moves =
    (update 1 1 1 (Put (object 0 (107 ∷ [])) (98 ∷ [])))
    ∷ (update 1 1 2 (Prepend (object 0 (107 ∷ [])) (97 ∷ [])))
    ∷ (Ask 1 (asks.Read Strong (object 0 (107 ∷ [])))) ∷ []

abbrev pub prepend_lines : List PrintedLine
prepend_lines =
    Answered 1 1 (answers.Update (Written 1))
    ∷ Answered 1 2 (answers.Update (Written 2))
    ∷ Answered 1 3 (answers.Read 2 (97 ∷ 98 ∷ [])) ∷ []

abbrev pub retry_moves : List Move
retry_moves =
    (update 1 1 1 (Put (object 0 (107 ∷ [])) (97 ∷ [])))
    ∷ (update 1 1 1 (Put (object 0 (107 ∷ [])) (97 ∷ [])))
    ∷ (Deliver 1)
    ∷ (Deliver 2)
    ∷ (Deliver 3)
    ∷ (Deliver 4) ∷ []

abbrev pub retry_lines : List PrintedLine
retry_lines =
    Sent 1 1 2 (Entry 1)
    ∷ Nothing
    ∷ Sent 2 2 3 (Entry 1)
    ∷ Sent 3 3 2 (Ack 1)
    ∷ Sent 4 2 1 (Ack 1)
    ∷ Answered 1 1 (answers.Update (Written 1))
    ∷ Answered 1 2 (answers.Update (Written 1)) ∷ []

abbrev pub retry_explained : Explanation
retry_explained = record { asks = (1 ∷ []); lens = (0 ∷ 0 ∷ 0 ∷ 1 ∷ 1 ∷ 1 ∷ []); places = ((record { node = 1; ticket = 1; position = 1 }) ∷ (record { node = 1; ticket = 2; position = 1 }) ∷ []) }

abbrev pub ticks_moves : List Move
ticks_moves =
    (update 1 1 1 (Put (object 0 (107 ∷ [])) (97 ∷ [])))
    ∷ (Tick 1)
    ∷ (Deliver 2)
    ∷ (Deliver 3)
    ∷ (Tick 3)
    ∷ (Deliver 5)
    ∷ (Deliver 1)
    ∷ (Tick 0)
    ∷ (Deliver 6) ∷ []

abbrev pub ticks_lines : List PrintedLine
ticks_lines =
    Sent 1 1 2 (Entry 1)
    ∷ Sent 2 1 2 (Entry 1)
    ∷ Sent 3 1 2 (Floor 1)
    ∷ Sent 4 2 3 (Entry 1)
    ∷ Ignored AlreadyHave
    ∷ Sent 5 3 2 (Ack 0)
    ∷ Ignored AlreadyHave
    ∷ Ignored AlreadyHave
    ∷ Sent 6 0 1 (Config 1)
    ∷ Sent 7 0 2 (Config 1)
    ∷ Sent 8 0 3 (Config 1)
    ∷ Ignored OtherEpoch ∷ []

abbrev pub ticks_explained : Explanation
ticks_explained = record { asks = []; lens = (0 ∷ 0 ∷ 0 ∷ 0 ∷ 0 ∷ 0 ∷ 0 ∷ 0 ∷ 0 ∷ []); places = [] }

abbrev pub whole_join_moves : List Move
whole_join_moves =
    (update 1 1 1 (Put (object 0 (107 ∷ [])) (97 ∷ [])))
    ∷ (Join 2)
    ∷ (Deliver 1)
    ∷ (Deliver 2)
    ∷ (Deliver 3)
    ∷ (Deliver 4)
    ∷ (Deliver 5)
    ∷ (Ask 2 (asks.Read Strong (object 0 (107 ∷ []))))
    ∷ (Deliver 6)
    ∷ (Deliver 7)
    ∷ (update 1 1 2 (Put (object 0 (107 ∷ [])) (98 ∷ [])))
    ∷ (Deliver 8)
    ∷ (Deliver 9) ∷ []

abbrev pub whole_join_lines : List PrintedLine
whole_join_lines =
    Answered 1 1 (answers.Update (Written 1))
    ∷ Sent 1 0 1 (Config 2)
    ∷ Sent 2 0 2 (Config 2)
    ∷ Sent 3 1 2 (Floor 1)
    ∷ Sent 4 2 1 (Blank 0)
    ∷ Nothing
    ∷ Sent 5 1 2 (Copy 1)
    ∷ Sent 6 1 2 (Floor 1)
    ∷ Sent 7 2 1 (Ack 1)
    ∷ Answered 2 1 (answers.Read 1 (97 ∷ []))
    ∷ Ignored AlreadyHave
    ∷ Ignored AlreadyHave
    ∷ Sent 8 1 2 (Entry 2)
    ∷ Sent 9 2 1 (Ack 2)
    ∷ Answered 1 2 (answers.Update (Written 2)) ∷ []

abbrev pub whole_join_explained : Explanation
whole_join_explained = record { asks = (1 ∷ 11 ∷ []); lens = (1 ∷ 1 ∷ 1 ∷ 1 ∷ 1 ∷ 1 ∷ 1 ∷ 1 ∷ 1 ∷ 1 ∷ 1 ∷ 2 ∷ 2 ∷ []); places = ((record { node = 1; ticket = 1; position = 1 }) ∷ (record { node = 2; ticket = 1; position = 1 }) ∷ (record { node = 1; ticket = 2; position = 2 }) ∷ []) }

-- puts of a on k by a client, with these numbers
abbrev pub puts : ℕ → List ℕ → List Move
puts client numbers = map (λ number. update 1 client number (Put (object 0 (107 ∷ [])) (97 ∷ []))) numbers

abbrev pub eight_kept_moves : List Move
eight_kept_moves = puts 1 (1 ∷ 2 ∷ 3 ∷ 4 ∷ 5 ∷ 6 ∷ 7 ∷ 8 ∷ 9 ∷ 2 ∷ 1 ∷ []) ++ puts 2 (5 ∷ 3 ∷ 5 ∷ [])

abbrev pub eight_kept_lines : List PrintedLine
eight_kept_lines =
    Answered 1 1 (answers.Update (Written 1))
    ∷ Answered 1 2 (answers.Update (Written 2))
    ∷ Answered 1 3 (answers.Update (Written 3))
    ∷ Answered 1 4 (answers.Update (Written 4))
    ∷ Answered 1 5 (answers.Update (Written 5))
    ∷ Answered 1 6 (answers.Update (Written 6))
    ∷ Answered 1 7 (answers.Update (Written 7))
    ∷ Answered 1 8 (answers.Update (Written 8))
    ∷ Answered 1 9 (answers.Update (Written 9))
    ∷ Answered 1 10 (answers.Update (Written 2))
    ∷ Answered 1 11 (answers.Update (Stale 9))
    ∷ Answered 1 12 (answers.Update (Written 10))
    ∷ Answered 1 13 (answers.Update (Written 11))
    ∷ Answered 1 14 (answers.Update (Written 10)) ∷ []

-- the linearization points of replies at node 1, whose tickets go up from this one
abbrev pub places_from : ℕ → List ℕ → List Place
places_from ticket [] = []
places_from ticket (p ∷ ps) = record { node = 1; ticket = ticket; position = p } ∷ places_from (ticket + 1) ps

abbrev pub eight_kept_explained : Explanation
eight_kept_explained =
    record {
      asks = 1 ∷ 2 ∷ 3 ∷ 4 ∷ 5 ∷ 6 ∷ 7 ∷ 8 ∷ 9 ∷ 12 ∷ 13 ∷ [];
      lens = 1 ∷ 2 ∷ 3 ∷ 4 ∷ 5 ∷ 6 ∷ 7 ∷ 8 ∷ 9 ∷ 9 ∷ 9 ∷ 10 ∷ 11 ∷ 11 ∷ [];
      places = places_from 1 (1 ∷ 2 ∷ 3 ∷ 4 ∷ 5 ∷ 6 ∷ 7 ∷ 8 ∷ 9 ∷ 9 ∷ 9 ∷ 10 ∷ 11 ∷ 11 ∷ []);
    }

abbrev pub batch_moves : List Move
batch_moves =
    (update 1 1 1 (Put (object 0 (107 ∷ [])) (97 ∷ [])))
    ∷ (update 1 1 2 (Put (object 0 (107 ∷ [])) (98 ∷ [])))
    ∷ (update 1 1 3 (Put (object 0 (107 ∷ [])) (99 ∷ [])))
    ∷ (Tick 1)
    ∷ (Deliver 1)
    ∷ (Deliver 4)
    ∷ (Deliver 7)
    ∷ (Deliver 6) ∷ []

abbrev pub batch_lines : List PrintedLine
batch_lines =
    Sent 1 1 2 (Entry 1)
    ∷ Sent 2 1 2 (Entry 2)
    ∷ Sent 3 1 2 (Entry 3)
    ∷ Sent 4 1 2 (Batch 1 3)
    ∷ Sent 5 1 2 (Floor 3)
    ∷ Sent 6 2 1 (Ack 1)
    ∷ Sent 7 2 1 (Ack 3)
    ∷ Answered 1 1 (answers.Update (Written 1))
    ∷ Answered 1 2 (answers.Update (Written 2))
    ∷ Answered 1 3 (answers.Update (Written 3))
    ∷ Ignored AlreadyHave ∷ []

abbrev pub batch_explained : Explanation
batch_explained =
    record {
      asks = 1 ∷ 2 ∷ 3 ∷ [];
      lens = 0 ∷ 0 ∷ 0 ∷ 0 ∷ 1 ∷ 3 ∷ 3 ∷ 3 ∷ [];
      places = places_from 1 (1 ∷ 2 ∷ 3 ∷ []);
    }

-- the key k01 of object 1, and so on
abbrev pub numbered_key : ℕ → List ℕ
numbered_key n = 107 ∷ (48 + n / 10) ∷ (48 + n % 10) ∷ []

-- node 1, which has written 65 objects for 65 puts of client 1
abbrev pub node_of_many : Plain
node_of_many =
    record (opening_member (record { chain = 0; node = 1 }) (1 ∷ [])) {
      past = installed_in 65 (record {
        objects = map (λ n. (numbered_key n, (1, 97 ∷ []))) (range_with_len 1 65);
        kept = (1, map (λ n. (n, Written 1)) (range_with_len 58 8)) ∷ [];
      });
    }

-- its chain after node 2 joined, before any node knows it
abbrev pub chain_of_many : Chain
chain_of_many =
    record (opening_chain 0 (1 ∷ [])) {
      epoch = 2;
      members = 1 ∷ 2 ∷ [];
      nodes = node_of_many ∷ opening_joined (record { chain = 0; node = 2 }) ∷ [];
    }

abbrev pub parts_moves : List Move
parts_moves =
    (Tick 0)
    ∷ (Deliver 2)
    ∷ (Deliver 1)
    ∷ (Deliver 3)
    ∷ (Deliver 6)
    ∷ (Deliver 6)
    ∷ (Deliver 7)
    ∷ (Deliver 5)
    ∷ (Ask 2 (asks.Read Strong (object 0 (numbered_key 65)))) ∷ []

abbrev pub parts_lines : List PrintedLine
parts_lines =
    Sent 1 0 1 (Config 2)
    ∷ Sent 2 0 2 (Config 2)
    ∷ Sent 3 2 1 (Blank 0)
    ∷ Sent 4 1 2 (Floor 65)
    ∷ Sent 5 1 2 (Part 65 1 2)
    ∷ Sent 6 1 2 (Part 65 2 2)
    ∷ Sent 7 1 2 (Floor 65)
    ∷ Nothing
    ∷ Ignored AlreadyHave
    ∷ Nothing
    ∷ Sent 8 2 1 (Ack 65)
    ∷ Answered 2 1 (answers.Read 1 (97 ∷ [])) ∷ []
