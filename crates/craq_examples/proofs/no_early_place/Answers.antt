use Rattle.std.proofs.Common.{◌≡◌, ap, ℕ, List, [], ◌∷◌, Option, unwrap_or, sym, subst, arith}
use Rattle.craq_commands.specs.Evaluation.{tested, joined, number_in_bytes, increased, decreased, first_difference, transacted, all_of_chain, some_used_up}
use Rattle.craq_commands.specs.Kept.{is_stale, is_new, keep, said_of}
use Rattle.craq_commands.specs.Objects.{object_of, set_object}
use Rattle.craq_commands.specs.SingleCopy.{window_of, kept_with, apply, after_entry}
use Rattle.craq_model.specs.Past.{values_in, values_after, newest_within, last_position}
use Rattle.craq_model.specs.Parts.{parts_of, is_in_order, joined_state}
use Rattle.craq_model.specs.Plain.{entries_after, newest, clean}
use Rattle.craq_model.specs.Members.{is_member, last_of, successor_in, predecessor_in, without}
use Rattle.craq_model.specs.Sends.{runs_of, entry_bodies, copy_bodies, catch_up, ready_sends, unready_sends, tick_sends}
use Rattle.craq_model.specs.Settle.{insert_given, by_ticket, all_given, settling_transition, without_reached, readiness_transition}
use Rattle.craq_model.specs.Asks.{is_full, reply_transition, update_transition, waiting_read_transition, read_transition, ask_transition}
use Rattle.craq_model.specs.Deliveries.{config_transition, is_applicable, forwarding_transition, entries_above, entries_transition, pending_updates, later_updates, acknowledgement_transition, ack_transition, query_transition, read_with, reads_without, reported_version_transition, version_transition, fill_bodies, blank_transition, copy_transition, part_transition, floor_transition}
use Rattle.craq_model.specs.Node.{outs_fit, node_step}
use Rattle.craq_runs.specs.Chain.{node_at, set_node, sent_in, removal_progress, join_progress, numbers_left, chain_step}
use Rattle.craq_runs.specs.Explain.{wrote, written_at, pending_place, places_of, account_with, ask_number}
use Rattle.craq_runs.specs.Seen.{asks_from, receivers_in, answers_in, answers_from, ask_with, update_at, strong_answers}
use Rattle.craq_runs.specs.Valid.{look_of, committed_object, answered_object}
use Rattle.craq_model.specs.declared.ask.Answer.TheVariants as answers
use Rattle.craq_runs.specs.Seen.{Asked, seen}
use Rattle.craq_runs.specs.Valid.{IsSaid, state_at}
use Rattle.craq_examples.specs.Printed.{run_of}
use Rattle.craq_examples.specs.Rows.{query_overtaken_moves, query_overtaken_explained}
use Rattle.craq_examples.proofs.no_early_place.Goals as goal

pub returns : goal.returns
unfolding tested joined number_in_bytes increased decreased first_difference transacted all_of_chain some_used_up is_stale is_new keep said_of object_of set_object window_of kept_with apply after_entry values_in values_after newest_within last_position parts_of is_in_order joined_state entries_after newest clean is_member last_of successor_in predecessor_in without runs_of entry_bodies copy_bodies catch_up ready_sends unready_sends tick_sends insert_given by_ticket all_given settling_transition without_reached readiness_transition is_full reply_transition update_transition waiting_read_transition read_transition ask_transition config_transition is_applicable forwarding_transition entries_above entries_transition pending_updates later_updates acknowledgement_transition ack_transition query_transition read_with reads_without reported_version_transition version_transition fill_bodies blank_transition copy_transition part_transition floor_transition outs_fit node_step node_at set_node sent_in removal_progress join_progress numbers_left chain_step wrote written_at pending_place places_of account_with ask_number asks_from receivers_in answers_in answers_from ask_with update_at strong_answers look_of committed_object answered_object
returns c h =
    let x = h.explained.0 in
    let said : Asked → Type 0 = λ a. IsSaid (state_at (seen (run_of (1 ∷ 2 ∷ 3 ∷ []) query_overtaken_moves)) query_overtaken_explained 1) a.ask (answers.Read 2 (98 ∷ [])) in
    let known : Option Asked → Asked = λ o. unwrap_or o x.ask in
    let e : ◌≡◌ {A = ℕ × List ℕ} (1, 97 ∷ []) (2, 98 ∷ []) = subst said (sym (ap known x.is_ask)) x.is_said in
    let f : ◌≡◌ {A = ℕ} 1 2 = ap (λ (q : ℕ × List ℕ). q.0) e in
    omega (arith, f)
