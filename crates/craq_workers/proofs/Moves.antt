-- Refusals of a stop, a removal and a join by a cell.
use Rattle.std.proofs.Common.{◌≡◌, ◌==◌, ◌+◌, ◌&&◌, ◌||◌, ℕ, Bool, true, false, not, nat_le, if◌then◌else◌, length, Result, Ok, Err, IsOk, IfErr, inl, inr, refl, sym, ap, subst}
use Rattle.craq_names.specs.Limits.{greatest, member_limit}
use Rattle.craq_names.specs.Order.{RefusesWhere}
use Rattle.craq_names.specs.declared.name.NodeName.{NodeName}
use Rattle.craq_names.specs.declared.refusal.Refusal.{Refusal}
use Rattle.craq_names.specs.declared.refusal.Refusal.TheVariants as refusals
use Rattle.craq_model.specs.declared.ask.Event.{Event}
use Rattle.craq_model.specs.declared.ask.Event.TheVariants as events
use Rattle.craq_model.specs.declared.step.Step.{Step}
use Rattle.craq_model.specs.Members.{is_member}
use Rattle.craq_model.specs.Node.{event_transition, node_step, outs_fit, within_counts}
use Rattle.craq_model.specs.Plain.{Plain}
use Rattle.craq_epochs.specs.Mastered.{Mastered, master_after_join, removed}
use Rattle.craq_node.specs.Represented.{uncounted_step}
use Rattle.craq_seat.specs.declared.journal.BookEvent.{BookEvent}
use Rattle.craq_seat.specs.declared.journal.BookEvent.TheVariants as books
use Rattle.craq_seat.specs.declared.journal.Receipt.{Receipt}
use Rattle.craq_seat.specs.Books.{book_step, tells}
use Rattle.craq_seat.specs.Calls.{receipt_in}
use Rattle.craq_seat.specs.Cells.{CanWant, Celled, cell_step, recorded, stamped, with_inside}
use Rattle.craq_seat.specs.Journal.{Stepping}
use Rattle.craq_seat.specs.Kept.{IsKept}
use Rattle.craq_seat.specs.Stamps.{largest, next_stamp}
use Rattle.craq_seat.specs.Taken.{TakesEvent, TakesTransition}
use Rattle.craq_workers.specs.Moves.{CanJoin, CanStop, IsKeptIn}

-- the refusal of a result, or another where there is none
refusal : {A : Type 0} → Refusal → Result A Refusal → Refusal
refusal d (Ok a) = d
refusal d (Err e) = e

abbrev pub Among : {A : Type 0} → (Refusal → Type 0) → Result A Refusal → Type 0
Among P r = (e : Refusal) → r ≡ Err e → P e

one : {A : Type 0} (P : Refusal → Type 0) (d : Refusal) → P d → Among {A = A} P (Err d)
unfolding refusal
one P d h e is = subst P (ap (refusal d) is) h

none : {A : Type 0} (P : Refusal → Type 0) (a : A) → Among P (Ok a)
none P a e is = cc

either : {A : Type 0} (P : Refusal → Type 0) (b : Bool) (x y : Result A Refusal) → Among P x → Among P y → Among P (if b then x else y)
either P true x y h k = h
either P false x y h k = k

-- there is no further stamp
unstamped : (P : Refusal → Type 0) (own pass borne : ℕ) → P refusals.Exhausted → Among P (next_stamp own pass borne)
unfolding next_stamp
unstamped P own pass borne h = either P (largest own pass borne == greatest) (Err refusals.Exhausted) (Ok (largest own pass borne + 1)) (one P refusals.Exhausted h) (none P (largest own pass borne + 1))

unrecorded : {N E : Type 0} (P : Refusal → Type 0) (c : Celled N E) (stamp : ℕ) (event : E) (pass : ℕ) (r : Result (N × Step) Refusal) → Among P r → Among P (recorded c stamp event pass r)
unrecorded P c stamp event pass (Ok t) h e is = cc
unrecorded P c stamp event pass (Err d) h e is = one P d (h d refl) e is

under : {N E : Type 0} (P : Refusal → Type 0) (step : Stepping N E) (c : Celled N E) (event : E) (pass : ℕ) (s : Result ℕ Refusal) → Among P s → Among P (step c.inside event) → Among P (stamped step c event pass s)
under P step c event pass (Ok stamp) h k e is = unrecorded P c stamp event pass (step c.inside event) k e is
under P step c event pass (Err d) h k e is = one P d (h d refl) e is

-- a cell refuses as the node inside does, or there is no further stamp
pub unstepped : {N E : Type 0} (P : Refusal → Type 0) (step : Stepping N E) (c : Celled N E) (event : E) (borne pass : ℕ) → P refusals.Exhausted → Among P (step c.inside event) → Among P (cell_step step c event borne pass)
unfolding cell_step
unstepped P step c event borne pass h k = under P step c event pass (next_stamp c.stamp pass borne) (unstamped P c.stamp pass borne h) k

-- a refusal is one of these, also when out of memory
pub wanted : {A : Type 0} (P : Refusal → Type 0) (can : Type 0) (e : Refusal) (r : Result A Refusal) → P refusals.Memory → Among P r → RefusesWhere can e r → P e
wanted P can e r m h (inl k) = subst P (sym k.0) m
wanted P can e r m h (inr k) = h e k

unreported : (P : Refusal → Type 0) (r : Result Mastered Refusal) → Among P r → Among P (tells r)
unreported P (Ok m) h e is = cc
unreported P (Err d) h e is = one P d (h d refl) e is

-- refusals of a join by a master
pub not_joined : (m : Mastered) (id : ℕ) → Among CanJoin (book_step m (books.Join id))
unfolding master_after_join
not_joined m id =
    unreported CanJoin (master_after_join m id)
    (either CanJoin ((id == 0) || is_member m.used id) _ _ (one CanJoin refusals.UsedId tt)
    (either CanJoin (nat_le member_limit (length m.members)) _ _ (one CanJoin refusals.ChainFull tt)
    (either CanJoin (m.epoch == greatest) _ _ (one CanJoin refusals.Exhausted tt) (none CanJoin _))))

-- refusals of a removal by a master
pub not_removed : (m : Mastered) (stopped : NodeName) (stop : Receipt) → Among IsKeptIn (book_step m (books.Remove stopped stop))
unfolding removed
not_removed m stopped stop =
    unreported IsKeptIn (removed m stopped)
    (either IsKeptIn (not ((stopped.chain == m.chain) && is_member m.members stopped.node)) _ _ (one IsKeptIn refusals.NotMember tt)
    (either IsKeptIn (length m.members == 1) _ _ (one IsKeptIn refusals.LastNode tt)
    (either IsKeptIn (m.epoch == greatest) _ _ (one IsKeptIn refusals.Exhausted tt) (none IsKeptIn _))))

uncounted : (p : Plain) → Among CanStop (within_counts (event_transition p events.Stop))
uncounted p = either CanStop (outs_fit _) _ _ (none CanStop _) (one CanStop refusals.Exhausted (inr refl))

-- a node does not stop
pub not_stopped : (p : Plain) → Among CanStop (node_step p events.Stop)
unfolding node_step
not_stopped p = either CanStop p.running _ _ (uncounted p) (one CanStop refusals.Stopped (inl tt))

stopped_of : {C : Type 0} (represents : C → Plain → Type 0) (now : Celled C Event) (old : Celled Plain Event) (pass : ℕ) (r : Result Receipt Refusal)
    → TakesEvent represents now old events.Stop pass r → Among CanStop r
stopped_of represents now old pass (Ok receipt) h e is = cc
stopped_of represents now old pass (Err d) h e is =
    one CanStop d (wanted CanStop (CanWant old 0 pass (IsOk (uncounted_step old.inside events.Stop))) d (cell_step node_step old events.Stop 0 pass) (inl tt) (unstepped CanStop node_step old events.Stop 0 pass (inr refl) (not_stopped old.inside)) h.1.0) e is

-- a node's cell refuses a stop as a node may
pub stop_refused : {C : Type 0} (represents : C → Plain → Type 0) (now old : Celled C Event) (pass : ℕ) (r : Result Receipt Refusal) (e : Refusal)
    → IsKept represents old → ((p : Plain) → represents old.inside p → TakesEvent represents now (with_inside old p) events.Stop pass r) → r ≡ Err e → CanStop e
stop_refused represents now old pass r e kept h is =
    stopped_of represents now (with_inside old kept.named.0) pass r (h kept.named.0 kept.named.1) e is

-- a master refuses a join as it may
join_refused : (old new : Celled Mastered BookEvent) (id pass : ℕ) (r : Result Receipt Refusal) → TakesTransition old new (books.Join id) pass r → IfErr r CanJoin
join_refused old new id pass (Ok receipt) h = tt
join_refused old new id pass (Err e) h =
    wanted CanJoin (CanWant old 0 pass (IsOk (book_step old.inside (books.Join id)))) e (cell_step book_step old (books.Join id) 0 pass) tt (unstepped CanJoin book_step old (books.Join id) 0 pass tt (not_joined old.inside id)) h.0

removal_refused : (old new : Celled Mastered BookEvent) (stopped : NodeName) (stop : Receipt) (pass : ℕ) (r : Result Receipt Refusal) → TakesTransition old new (books.Remove stopped stop) pass r → IfErr r IsKeptIn
removal_refused old new stopped stop pass (Ok receipt) h = tt
removal_refused old new stopped stop pass (Err e) h =
    let event : BookEvent = books.Remove stopped stop in
    wanted IsKeptIn (CanWant old stop.stamp pass (IsOk (book_step old.inside event))) e (cell_step book_step old event stop.stamp pass) tt (unstepped IsKeptIn book_step old event stop.stamp pass tt (not_removed old.inside stopped stop)) h.0

-- also where a join gives more than its receipt
pub join_refused_so : {X : Type 0} (old new : Celled Mastered BookEvent) (id pass : ℕ) (r : Result (Receipt × X) Refusal) → TakesTransition old new (books.Join id) pass (receipt_in r) → IfErr r CanJoin
join_refused_so old new id pass (Ok x) h = tt
join_refused_so old new id pass (Err e) h = join_refused old new id pass (Err e) h

pub removal_refused_so : {X : Type 0} (old new : Celled Mastered BookEvent) (stopped : NodeName) (stop : Receipt) (pass : ℕ) (r : Result (Receipt × X) Refusal) → TakesTransition old new (books.Remove stopped stop) pass (receipt_in r) → IfErr r IsKeptIn
removal_refused_so old new stopped stop pass (Ok x) h = tt
removal_refused_so old new stopped stop pass (Err e) h = removal_refused old new stopped stop pass (Err e) h
