use Rattle.std.proofs.Common.{◌≤◌, ℕ, [], ◌∷◌, Some, refl, lit≤, arith}
use Rattle.std.specs.List.{IsDistinct}
use Rattle.craq_commands.specs.Evaluation.{tested, joined, number_in_bytes, increased, decreased, first_difference, transacted, all_of_chain, some_used_up}
use Rattle.craq_commands.specs.Kept.{is_stale, is_new, keep, said_of}
use Rattle.craq_commands.specs.Objects.{object_of, set_object}
use Rattle.craq_commands.specs.SingleCopy.{window_of, kept_with, apply, after_entry}
use Rattle.craq_model.specs.Past.{values_in, values_after, newest_within, last_position}
use Rattle.craq_model.specs.Parts.{parts_of, is_in_order, joined_state}
use Rattle.craq_model.specs.Plain.{entries_after, newest, clean}
use Rattle.craq_model.specs.Members.{is_member, last_of, successor_in, predecessor_in, without}
use Rattle.craq_model.specs.Sends.{runs_of, entry_bodies, copy_bodies, catch_up, ready_sends, unready_sends, tick_sends}
use Rattle.craq_model.specs.Settle.{insert_given, by_ticket, all_given, settling_transition, without_reached, readiness_transition}
use Rattle.craq_model.specs.Asks.{is_full, reply_transition, update_transition, waiting_read_transition, read_transition, ask_transition}
use Rattle.craq_model.specs.Deliveries.{config_transition, is_applicable, forwarding_transition, entries_above, entries_transition, pending_updates, later_updates, acknowledgement_transition, ack_transition, query_transition, read_with, reads_without, reported_version_transition, version_transition, fill_bodies, blank_transition, copy_transition, part_transition, floor_transition}
use Rattle.craq_model.specs.Node.{outs_fit, node_step}
use Rattle.craq_runs.specs.Chain.{node_at, set_node, sent_in, removal_progress, join_progress, numbers_left, chain_step}
use Rattle.craq_runs.specs.Explain.{wrote, written_at, pending_place, places_of, account_with, ask_number}
use Rattle.craq_runs.specs.Seen.{asks_from, receivers_in, answers_in, answers_from, ask_with, update_at, strong_answers}
use Rattle.craq_runs.specs.Valid.{look_of, committed_object, answered_object}
use Rattle.craq_commands.specs.declared.command.Update.{Update}
use Rattle.craq_commands.specs.declared.command.Command.TheVariants.{Put}
use Rattle.craq_model.specs.declared.ask.Ask.TheVariants as asks
use Rattle.craq_examples.specs.Rows.{object}
use Rattle.craq_examples.proofs.bounded_answers.Goals as goal

abbrev put : ℕ → ℕ → Update
put number byte = record { client = 1; number = number; command = Put (object 0 (107 ∷ [])) (byte ∷ []) }

pub returns : goal.returns
unfolding IsDistinct tested joined number_in_bytes increased decreased first_difference transacted all_of_chain some_used_up is_stale is_new keep said_of object_of set_object window_of kept_with apply after_entry values_in values_after newest_within last_position parts_of is_in_order joined_state entries_after newest clean is_member last_of successor_in predecessor_in without runs_of entry_bodies copy_bodies catch_up ready_sends unready_sends tick_sends insert_given by_ticket all_given settling_transition without_reached readiness_transition is_full reply_transition update_transition waiting_read_transition read_transition ask_transition config_transition is_applicable forwarding_transition entries_above entries_transition pending_updates later_updates acknowledgement_transition ack_transition query_transition read_with reads_without reported_version_transition version_transition fill_bodies blank_transition copy_transition part_transition floor_transition outs_fit node_step node_at set_node sent_in removal_progress join_progress numbers_left chain_step wrote written_at pending_place places_of account_with ask_number asks_from receivers_in answers_in answers_from ask_with update_at strong_answers look_of committed_object answered_object
returns c =
    record {
      looked = refl;
      right = record {
        line = put 1 97 ∷ put 2 98 ∷ put 3 99 ∷ put 4 100 ∷ [];
        is_line = record { asked = (record { ask = record { move = 1; node = 1; ticket = Some 1; ask = asks.Update (put 1 97) }; is_ask = (0, lit≤ tt, refl); in_time = lit≤ tt; is = refl }, (record { ask = record { move = 6; node = 1; ticket = Some 2; ask = asks.Update (put 2 98) }; is_ask = (1, lit≤ tt, refl); in_time = lit≤ tt; is = refl }, (record { ask = record { move = 7; node = 1; ticket = Some 3; ask = asks.Update (put 3 99) }; is_ask = (2, lit≤ tt, refl); in_time = lit≤ tt; is = refl }, (record { ask = record { move = 8; node = 1; ticket = Some 4; ask = asks.Update (put 4 100) }; is_ask = (3, lit≤ tt, refl); in_time = lit≤ tt; is = refl }, tt)))); once = ((refl, (refl, (refl, tt))), ((refl, (refl, tt)), ((refl, tt), (tt, tt)))); rest = put 2 98 ∷ put 3 99 ∷ put 4 100 ∷ []; begins = refl };
        count = 2;
        here = refl;
        near = lit≤ tt;
        not_below = record { reads = (lit≤ tt, tt); writes = (lit≤ tt, tt) };
      };
      too_new = λ h. let e : 3 ≤ 2 = h.near in omega (arith, e);
    }
