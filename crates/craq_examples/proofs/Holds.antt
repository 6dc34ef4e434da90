-- A run with an eventual read of an uncommitted version, and its explanation.
use Rattle.std.proofs.Common.{◌≡◌, ℕ, zero, suc, ◌+◌, List, [], ◌∷◌, ◌++◌, Option, Some, None, refl, sym, ap, subst, ◌∙◌, arith, lit≤, length, length-append}
use Rattle.std.specs.Prelude.{slice_index}
use Rattle.std.specs.List.{IsDistinct}
use Rattle.craq_commands.specs.Evaluation.{tested, joined, number_in_bytes, increased, decreased, first_difference, transacted, all_of_chain, some_used_up}
use Rattle.craq_commands.specs.Kept.{is_stale, is_new, keep, said_of}
use Rattle.craq_commands.specs.Objects.{object_of, set_object}
use Rattle.craq_commands.specs.SingleCopy.{window_of, kept_with, apply, after_entry}
use Rattle.craq_model.specs.Past.{values_in, values_after, newest_within, last_position}
use Rattle.craq_model.specs.Parts.{parts_of, is_in_order, joined_state}
use Rattle.craq_model.specs.Plain.{entries_after, newest, clean}
use Rattle.craq_model.specs.Members.{is_member, last_of, successor_in, predecessor_in, without}
use Rattle.craq_model.specs.Sends.{runs_of, entry_bodies, copy_bodies, catch_up, ready_sends, unready_sends, tick_sends}
use Rattle.craq_model.specs.Settle.{insert_given, by_ticket, all_given, settling_transition, without_reached, readiness_transition}
use Rattle.craq_model.specs.Asks.{is_full, reply_transition, update_transition, waiting_read_transition, read_transition, ask_transition}
use Rattle.craq_model.specs.Deliveries.{config_transition, is_applicable, forwarding_transition, entries_above, entries_transition, pending_updates, later_updates, acknowledgement_transition, ack_transition, query_transition, read_with, reads_without, reported_version_transition, version_transition, fill_bodies, blank_transition, copy_transition, part_transition, floor_transition}
use Rattle.craq_model.specs.Node.{outs_fit, node_step}
use Rattle.craq_runs.specs.Chain.{node_at, set_node, sent_in, removal_progress, join_progress, numbers_left, chain_step}
use Rattle.craq_runs.specs.Explain.{wrote, written_at, pending_place, places_of, account_with, ask_number}
use Rattle.craq_runs.specs.Seen.{asks_from, receivers_in, answers_in, answers_from, ask_with, update_at, strong_answers}
use Rattle.craq_runs.specs.Valid.{look_of, committed_object, answered_object}
use Rattle.craq_runs.specs.declared.run.Run.{Run}
use Rattle.craq_runs.specs.Seen.{Answered, seen}
use Rattle.craq_runs.specs.Runs.{IsRunOf}
use Rattle.craq_runs.specs.Valid.{IsValid, HasForm, OnlyGrows, StrongHold, LooksHold, LookHolds, IsEventual, ReadAnswer}
use Rattle.craq_names.specs.declared.name.ObjectId.{ObjectId}
use Rattle.craq_commands.specs.declared.command.Update.{Update}
use Rattle.craq_commands.specs.declared.command.Command.TheVariants.{Put}
use Rattle.craq_commands.specs.declared.read_mode.ReadMode.TheVariants.{Strong, Eventual}
use Rattle.craq_model.specs.declared.ask.Ask.TheVariants as asks
use Rattle.craq_model.specs.declared.ask.Answer.TheVariants as answers
use Rattle.craq_examples.specs.Printed.{run_of}
use Rattle.craq_examples.specs.Rows.{clean_and_dirty_reads_moves, clean_and_dirty_reads_explained}

abbrev run : Run
run = run_of (1 ∷ 2 ∷ 3 ∷ []) clean_and_dirty_reads_moves

pub is_run : IsRunOf 0 run
unfolding IsDistinct tested joined number_in_bytes increased decreased first_difference transacted all_of_chain some_used_up is_stale is_new keep said_of object_of set_object window_of kept_with apply after_entry values_in values_after newest_within last_position parts_of is_in_order joined_state entries_after newest clean is_member last_of successor_in predecessor_in without runs_of entry_bodies copy_bodies catch_up ready_sends unready_sends tick_sends insert_given by_ticket all_given settling_transition without_reached readiness_transition is_full reply_transition update_transition waiting_read_transition read_transition ask_transition config_transition is_applicable forwarding_transition entries_above entries_transition pending_updates later_updates acknowledgement_transition ack_transition query_transition read_with reads_without reported_version_transition version_transition fill_bodies blank_transition copy_transition part_transition floor_transition outs_fit node_step node_at set_node sent_in removal_progress join_progress numbers_left chain_step wrote written_at pending_place places_of account_with ask_number asks_from receivers_in answers_in answers_from ask_with update_at strong_answers look_of committed_object answered_object
is_run =
    record {
      members = record { some = lit≤ tt; few = lit≤ tt; ids = ((lit≤ tt, lit≤ tt), ((lit≤ tt, lit≤ tt), ((lit≤ tt, lit≤ tt), tt))); distinct = ((refl, (refl, tt)), ((refl, tt), (tt, tt))) };
      moves = (refl, (refl, (refl, (refl, (refl, tt)))));
    }

zeros : (n : ℕ) → slice_index (0 ∷ 0 ∷ 0 ∷ 0 ∷ 0 ∷ 0 ∷ []) n ≡ 0
zeros zero = refl
zeros (suc zero) = refl
zeros (suc (suc zero)) = refl
zeros (suc (suc (suc zero))) = refl
zeros (suc (suc (suc (suc zero)))) = refl
zeros (suc (suc (suc (suc (suc zero))))) = refl
zeros (suc (suc (suc (suc (suc (suc n)))))) = refl

has_form : HasForm (seen run) clean_and_dirty_reads_explained
unfolding tested joined number_in_bytes increased decreased first_difference transacted all_of_chain some_used_up is_stale is_new keep said_of object_of set_object window_of kept_with apply after_entry values_in values_after newest_within last_position parts_of is_in_order joined_state entries_after newest clean is_member last_of successor_in predecessor_in without runs_of entry_bodies copy_bodies catch_up ready_sends unready_sends tick_sends insert_given by_ticket all_given settling_transition without_reached readiness_transition is_full reply_transition update_transition waiting_read_transition read_transition ask_transition config_transition is_applicable forwarding_transition entries_above entries_transition pending_updates later_updates acknowledgement_transition ack_transition query_transition read_with reads_without reported_version_transition version_transition fill_bodies blank_transition copy_transition part_transition floor_transition outs_fit node_step node_at set_node sent_in removal_progress join_progress numbers_left chain_step wrote written_at pending_place places_of account_with ask_number asks_from receivers_in answers_in answers_from ask_with update_at strong_answers look_of committed_object answered_object
has_form = record { asks = tt; lens = refl; places = refl }

only_grows : OnlyGrows (seen run) clean_and_dirty_reads_explained
unfolding IsDistinct tested joined number_in_bytes increased decreased first_difference transacted all_of_chain some_used_up is_stale is_new keep said_of object_of set_object window_of kept_with apply after_entry values_in values_after newest_within last_position parts_of is_in_order joined_state entries_after newest clean is_member last_of successor_in predecessor_in without runs_of entry_bodies copy_bodies catch_up ready_sends unready_sends tick_sends insert_given by_ticket all_given settling_transition without_reached readiness_transition is_full reply_transition update_transition waiting_read_transition read_transition ask_transition config_transition is_applicable forwarding_transition entries_above entries_transition pending_updates later_updates acknowledgement_transition ack_transition query_transition read_with reads_without reported_version_transition version_transition fill_bodies blank_transition copy_transition part_transition floor_transition outs_fit node_step node_at set_node sent_in removal_progress join_progress numbers_left chain_step wrote written_at pending_place places_of account_with ask_number asks_from receivers_in answers_in answers_from ask_with update_at strong_answers look_of committed_object answered_object
only_grows =
    record {
      grows = λ move h. omega (arith, zeros move, zeros (move + 1));
      ends = refl;
      asked = λ move place h. omega (arith, zeros move, h);
      once = tt;
    }

strong_hold : StrongHold (seen run) clean_and_dirty_reads_explained
unfolding IsDistinct tested joined number_in_bytes increased decreased first_difference transacted all_of_chain some_used_up is_stale is_new keep said_of object_of set_object window_of kept_with apply after_entry values_in values_after newest_within last_position parts_of is_in_order joined_state entries_after newest clean is_member last_of successor_in predecessor_in without runs_of entry_bodies copy_bodies catch_up ready_sends unready_sends tick_sends insert_given by_ticket all_given settling_transition without_reached readiness_transition is_full reply_transition update_transition waiting_read_transition read_transition ask_transition config_transition is_applicable forwarding_transition entries_above entries_transition pending_updates later_updates acknowledgement_transition ack_transition query_transition read_with reads_without reported_version_transition version_transition fill_bodies blank_transition copy_transition part_transition floor_transition outs_fit node_step node_at set_node sent_in removal_progress join_progress numbers_left chain_step wrote written_at pending_place places_of account_with ask_number asks_from receivers_in answers_in answers_from ask_with update_at strong_answers look_of committed_object answered_object
strong_hold =
    record {
      explained = (record { ask = _; is_ask = refl; asked_first = lit≤ tt; not_before = lit≤ tt; not_beyond = lit≤ tt; is_said = refl }, tt);
      once = (tt, tt);
    }

first_answer : Answered
first_answer = record { move = 3; node = 1; ticket = 3; answer = answers.Read 1 (97 ∷ []) }

second_answer : Answered
second_answer = record { move = 5; node = 1; ticket = 2; answer = answers.Read 0 [] }

key : ObjectId
key = record { chain = 0; key = 107 ∷ [] }

first_look : ReadAnswer
first_look = record { mode = Eventual; object = key; version = 1; value = 97 ∷ [] }

second_look : ReadAnswer
second_look = record { mode = Strong; object = key; version = 0; value = [] }

put : Update
put = record { client = 1; number = 1; command = Put key (97 ∷ []) }

-- the read returned the version that the put would write; the put was requested before
eventual_holds : IsEventual (seen run) clean_and_dirty_reads_explained [] first_answer first_look
unfolding IsDistinct first_answer first_look key put tested joined number_in_bytes increased decreased first_difference transacted all_of_chain some_used_up is_stale is_new keep said_of object_of set_object window_of kept_with apply after_entry values_in values_after newest_within last_position parts_of is_in_order joined_state entries_after newest clean is_member last_of successor_in predecessor_in without runs_of entry_bodies copy_bodies catch_up ready_sends unready_sends tick_sends insert_given by_ticket all_given settling_transition without_reached readiness_transition is_full reply_transition update_transition waiting_read_transition read_transition ask_transition config_transition is_applicable forwarding_transition entries_above entries_transition pending_updates later_updates acknowledgement_transition ack_transition query_transition read_with reads_without reported_version_transition version_transition fill_bodies blank_transition copy_transition part_transition floor_transition outs_fit node_step node_at set_node sent_in removal_progress join_progress numbers_left chain_step wrote written_at pending_place places_of account_with ask_number asks_from receivers_in answers_in answers_from ask_with update_at strong_answers look_of committed_object answered_object
eventual_holds =
    record {
      line = put ∷ [];
      is_line = record { asked = (record { ask = record { move = 1; node = 1; ticket = Some 1; ask = asks.Update put }; is_ask = (0, lit≤ tt, refl); in_time = lit≤ tt; is = refl }, tt); once = (tt, tt); rest = put ∷ []; begins = refl };
      here = refl;
      not_below = record { reads = tt; writes = tt };
    }

head_or : Answered → List Answered → Answered
head_or d [] = d
head_or d (a ∷ rest) = a

tail_of : List Answered → List Answered
tail_of [] = []
tail_of (a ∷ rest) = rest

known : ReadAnswer → Option ReadAnswer → ReadAnswer
known d None = d
known d (Some l) = l

at_first : (a : Answered) (l : ReadAnswer) → a ≡ first_answer → look_of (seen run) a ≡ Some l → LookHolds (seen run) clean_and_dirty_reads_explained [] a l.mode l
unfolding first_answer first_look key known tested joined number_in_bytes increased decreased first_difference transacted all_of_chain some_used_up is_stale is_new keep said_of object_of set_object window_of kept_with apply after_entry values_in values_after newest_within last_position parts_of is_in_order joined_state entries_after newest clean is_member last_of successor_in predecessor_in without runs_of entry_bodies copy_bodies catch_up ready_sends unready_sends tick_sends insert_given by_ticket all_given settling_transition without_reached readiness_transition is_full reply_transition update_transition waiting_read_transition read_transition ask_transition config_transition is_applicable forwarding_transition entries_above entries_transition pending_updates later_updates acknowledgement_transition ack_transition query_transition read_with reads_without reported_version_transition version_transition fill_bodies blank_transition copy_transition part_transition floor_transition outs_fit node_step node_at set_node sent_in removal_progress join_progress numbers_left chain_step wrote written_at pending_place places_of account_with ask_number asks_from receivers_in answers_in answers_from ask_with update_at strong_answers look_of committed_object answered_object
at_first a l is h =
    let P : Answered → Type 0 = λ b. look_of (seen run) b ≡ Some l → LookHolds (seen run) clean_and_dirty_reads_explained [] b l.mode l in
    let Q : ReadAnswer → Type 0 = λ m. LookHolds (seen run) clean_and_dirty_reads_explained [] first_answer m.mode m in
    subst P (sym is) (λ g. subst Q (ap (known first_look) g) eventual_holds) h

at_second : (x a : Answered) (l : ReadAnswer) → a ≡ second_answer → look_of (seen run) a ≡ Some l → LookHolds (seen run) clean_and_dirty_reads_explained (x ∷ []) a l.mode l
unfolding second_answer second_look key known tested joined number_in_bytes increased decreased first_difference transacted all_of_chain some_used_up is_stale is_new keep said_of object_of set_object window_of kept_with apply after_entry values_in values_after newest_within last_position parts_of is_in_order joined_state entries_after newest clean is_member last_of successor_in predecessor_in without runs_of entry_bodies copy_bodies catch_up ready_sends unready_sends tick_sends insert_given by_ticket all_given settling_transition without_reached readiness_transition is_full reply_transition update_transition waiting_read_transition read_transition ask_transition config_transition is_applicable forwarding_transition entries_above entries_transition pending_updates later_updates acknowledgement_transition ack_transition query_transition read_with reads_without reported_version_transition version_transition fill_bodies blank_transition copy_transition part_transition floor_transition outs_fit node_step node_at set_node sent_in removal_progress join_progress numbers_left chain_step wrote written_at pending_place places_of account_with ask_number asks_from receivers_in answers_in answers_from ask_with update_at strong_answers look_of committed_object answered_object
at_second x a l is h =
    let P : Answered → Type 0 = λ b. look_of (seen run) b ≡ Some l → LookHolds (seen run) clean_and_dirty_reads_explained (x ∷ []) b l.mode l in
    let Q : ReadAnswer → Type 0 = λ m. LookHolds (seen run) clean_and_dirty_reads_explained (x ∷ []) second_answer m.mode m in
    subst P (sym is) (λ g. subst Q (ap (known second_look) g) tt) h

two_answers : (seen run).answers ≡ first_answer ∷ second_answer ∷ []
unfolding first_answer second_answer tested joined number_in_bytes increased decreased first_difference transacted all_of_chain some_used_up is_stale is_new keep said_of object_of set_object window_of kept_with apply after_entry values_in values_after newest_within last_position parts_of is_in_order joined_state entries_after newest clean is_member last_of successor_in predecessor_in without runs_of entry_bodies copy_bodies catch_up ready_sends unready_sends tick_sends insert_given by_ticket all_given settling_transition without_reached readiness_transition is_full reply_transition update_transition waiting_read_transition read_transition ask_transition config_transition is_applicable forwarding_transition entries_above entries_transition pending_updates later_updates acknowledgement_transition ack_transition query_transition read_with reads_without reported_version_transition version_transition fill_bodies blank_transition copy_transition part_transition floor_transition outs_fit node_step node_at set_node sent_in removal_progress join_progress numbers_left chain_step wrote written_at pending_place places_of account_with ask_number asks_from receivers_in answers_in answers_from ask_with update_at strong_answers look_of committed_object answered_object
two_answers = refl

by_place : (earlier later : List Answered) (a : Answered) (l : ReadAnswer) → earlier ++ a ∷ later ≡ first_answer ∷ second_answer ∷ [] → look_of (seen run) a ≡ Some l → LookHolds (seen run) clean_and_dirty_reads_explained earlier a l.mode l
unfolding head_or tail_of
by_place [] later a l is h = at_first a l (ap (head_or a) is) h
by_place (x ∷ []) later a l is h = at_second x a l (ap (λ these. head_or a (tail_of these)) is) h
by_place (x ∷ y ∷ rest) later a l is h =
    let none : rest ++ a ∷ later ≡ [] = ap (λ these. tail_of (tail_of these)) is in
    absurd (let e : length rest + suc (length later) ≡ 0 = sym (length-append rest (a ∷ later)) ∙ ap length none in omega (arith, e))

looks_hold : LooksHold (seen run) clean_and_dirty_reads_explained
looks_hold earlier later a l is h = by_place earlier later a l (is ∙ two_answers) h

pub is_valid : IsValid run clean_and_dirty_reads_explained
is_valid = record { checked = record { form = has_form; list = only_grows; strong = strong_hold }; looks = looks_hold }
