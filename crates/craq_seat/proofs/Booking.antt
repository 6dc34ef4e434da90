-- One more step preserves the invariants of a master's cell.
use Rattle.std.proofs.Common.{◌≡◌, ◌<◌, ◌≤◌, ℕ, ◌-◌, ◌++◌, List, [], ◌∷◌, length, Option, Some, None, Result, Ok, Err, refl, sym, ap, subst, arith}
use Rattle.std.specs.Prelude.{slice_get, ⊤}
use Rattle.std.specs.Option.{option_map}
use Rattle.craq_names.specs.declared.name.NodeName.{NodeName}
use Rattle.craq_names.specs.declared.refusal.Refusal.{Refusal}
use Rattle.craq_model.specs.declared.step.Step.{Step}
use Rattle.craq_epochs.specs.Mastered.{IsMastered, Mastered, master_after_join, removed}
use Rattle.craq_chain.proofs.Commands.{join_made, removal_made}
use Rattle.craq_seat.specs.declared.journal.BookEvent.{BookEvent}
use Rattle.craq_seat.specs.declared.journal.BookEvent.TheVariants.{Join, Remove, Tick}
use Rattle.craq_seat.specs.declared.journal.Opening.{Opening}
use Rattle.craq_seat.specs.declared.journal.Record.{Record}
use Rattle.craq_seat.specs.Books.{IsBook, book_opening, book_step, first_master, members_of, tells}
use Rattle.craq_seat.specs.Stamps.{book_stamp, next_stamp}
use Rattle.craq_seat.specs.Numbered.{CanBeSent}
use Rattle.craq_seat.proofs.Spoken.{book_can_send}
use Rattle.craq_seat.proofs.Taking.{cell_of, from_one, last_more, stamps_more, stands_more}

-- a master keeps its chain's id
abbrev IsOf : ℕ → Result (Mastered × Step) Refusal → Type 0
IsOf chain (Ok t) = t.0.chain ≡ chain
IsOf chain (Err e) = ⊤

joined_of : (m : Mastered) (id : ℕ) (r : Result Mastered Refusal) → master_after_join m id ≡ r → IsOf m.chain (tells r)
joined_of m id (Ok n) h = ap (λ (x : Mastered). x.chain) (join_made m n id h)
joined_of m id (Err e) h = tt

removed_of : (m : Mastered) (stopped : NodeName) (r : Result Mastered Refusal) → removed m stopped ≡ r → IsOf m.chain (tells r)
removed_of m stopped (Ok n) h = ap (λ (x : Mastered). x.chain) (removal_made m n stopped h)
removed_of m stopped (Err e) h = tt

book_of : (m : Mastered) (event : BookEvent) → IsOf m.chain (book_step m event)
book_of m (Join id) = joined_of m id (master_after_join m id) refl
book_of m (Remove stopped stop) = removed_of m stopped (removed m stopped) refl
book_of m Tick = refl

own_chain : (m n : Mastered) (event : BookEvent) (step : Step) → book_step m event ≡ Ok (n, step) → n.chain ≡ m.chain
own_chain m n event step h = subst (IsOf m.chain) h (book_of m event)

opening_stays : (o : Opening) (m n : Mastered) (event : BookEvent) (step : Step) → o ≡ book_opening m.chain (members_of o.config) → book_step m event ≡ Ok (n, step) → o ≡ book_opening n.chain (members_of o.config)
opening_stays o m n event step k h = subst (λ chain. o ≡ book_opening chain (members_of o.config)) (sym (own_chain m n event step h)) k

-- it sends as node 0
can_send : (o : Opening) (m n : Mastered) (event : BookEvent) (step : Step) (stamp : ℕ) → o ≡ book_opening m.chain (members_of o.config) → book_step m event ≡ Ok (n, step) → IsMastered n → 1 ≤ stamp → CanBeSent (record { node = o.name.node; stamp = stamp }) step.outs
can_send o m n event step stamp k h mastered one =
    let zero : o.name.node ≡ 0 = ap (λ (x : Opening). x.name.node) k in
    subst (λ node. CanBeSent (record { node = node; stamp = stamp }) step.outs) (sym zero) (book_can_send m n event step stamp h mastered one)

-- with the step in the journal
pub books_noted : (o : Opening) (m n : Mastered) (own : ℕ) (rs : List (Record BookEvent)) (last : Option Step) (r : Record BookEvent) → IsBook (cell_of o m own (Some rs) last) → next_stamp own r.pass (book_stamp r.event) ≡ Ok r.stamp → book_step m r.event ≡ Ok (n, r.step) → IsMastered n → IsBook (cell_of o n r.stamp (Some (rs ++ r ∷ [])) (option_map (λ r. r.step) (slice_get (rs ++ r ∷ []) (length (rs ++ r ∷ []) - 1))))
books_noted o m n own rs last r k up h mastered =
    record {
      opening = opening_stays o m n r.event r.step k.opening h;
      first = k.first;
      stands = stands_more (λ (a b : Mastered). a ≡ b) book_step (first_master o) m n rs r k.stands (λ x e. (n, subst (λ (y : Mastered). book_step y r.event ≡ Ok (n, r.step)) e h, refl));
      stamps = stamps_more book_stamp 0 own rs r k.stamps up;
      sends = rw (last_more rs r) (can_send o m n r.event r.step r.stamp k.opening h mastered (from_one own r.pass (book_stamp r.event) r.stamp up));
    }

-- with the step alone
pub books_alone : (o : Opening) (m n : Mastered) (own stamp : ℕ) (last : Option Step) (event : BookEvent) (step : Step) → IsBook (cell_of o m own None last) → own < stamp → book_step m event ≡ Ok (n, step) → IsMastered n → IsBook (cell_of o n stamp None (Some step))
books_alone o m n own stamp last event step k up h mastered =
    record {
      opening = opening_stays o m n event step k.opening h;
      first = k.first;
      stands = (n, refl);
      stamps = omega arith;
      sends = can_send o m n event step stamp k.opening h mastered (omega arith);
    }
