-- Valid entries.
use Rattle.std.proofs.Common.{◌≡◌, ℕ, ◌+◌, true, List, [], ◌∷◌, ◌++◌, Some, refl, sym, subst}
use Rattle.craq_commands.specs.declared.command.Update.{Update}
use Rattle.craq_commands.specs.declared.entry.Entry.{Entry}
use Rattle.craq_commands.specs.Objects.{all_written}
use Rattle.craq_commands.specs.Evaluation.{eval}
use Rattle.craq_commands.specs.declared.state.State.{State}
use Rattle.craq_commands.specs.SingleCopy.{window_of, is_new_to, kept_with, apply, with_writes, after_entry, after_entries}
use Rattle.craq_model.specs.declared.ask.Ask.TheVariants as asks
use Rattle.craq_model.specs.Plain.{Plain, id_of, newest}
use Rattle.craq_runs.specs.Seen.{Asked, ask_with}
use Rattle.craq_laws.proofs.Copies.{new_unsaid}
use Rattle.craq_laws.proofs.Writes.{with_versioned}
use Rattle.craq_updates.specs.ValidEntries.{IsValidEntry, AllValid}
use Rattle.craq_runs.specs.Typed.{IsOfType}
use Rattle.craq_updates.proofs.Machine.{IsClosed}
use Rattle.craq_updates.proofs.EachMove.{entry_for, IsNewAt}
use Rattle.craq_updates.proofs.Keys.{writes_once}

pub valid_front : (asked : List Asked) (s : State) (xs rest : List Entry) → AllValid asked s (xs ++ rest) → AllValid asked s xs
valid_front asked s [] rest g = tt
valid_front asked s (e ∷ xs) rest g = (g.0, valid_front asked (after_entry s e) xs rest g.1)

pub valid_closed : (asked : List Asked) (s : State) → IsClosed (AllValid asked s)
valid_closed asked s xs ys p g = let P : List Entry → Type 0 = λ l. AllValid asked s l in valid_front asked s xs p.rest (subst P (sym p.is) g)

pub valid_push : (asked : List Asked) (s : State) (xs : List Entry) (e : Entry) → AllValid asked s xs → IsValidEntry asked (after_entries s xs) e → AllValid asked s (xs ++ e ∷ [])
valid_push asked s [] e g h = (h, tt)
valid_push asked s (x ∷ xs) e g h = (g.0, valid_push asked (after_entry s x) xs e g.1 h)

-- each request that is found by its ticket stays found
abbrev pub StaysAsked : List Asked → List Asked → Type 0
StaysAsked asked more = (node ticket : ℕ) (a : Asked) → ask_with asked node ticket ≡ Some a → ask_with more node ticket ≡ Some a

one_stays : (asked more : List Asked) → StaysAsked asked more → (s : State) (e : Entry) → IsValidEntry asked s e → IsValidEntry more s e
one_stays asked more f s e g = record {
  update = g.update;
  by = record { ask = g.by.ask; is_ask = f e.origin_node e.origin_ticket g.by.ask g.by.is_ask; is = g.by.is; client = g.by.client; number = g.by.number };
  new = g.new;
  reply = g.reply;
  writes = g.writes;
  once = g.once;
  applied = g.applied;
}

pub valid_stays : (asked more : List Asked) → StaysAsked asked more → (s : State) (es : List Entry) → AllValid asked s es → AllValid more s es
valid_stays asked more f s [] g = tt
valid_stays asked more f s (e ∷ es) g = (one_stays asked more f s e g.0, valid_stays asked more f (after_entry s e) es g.1)

-- ---- a new entry

applied_new : (s : State) (u : Update) (e : Entry) → is_new_to s u.client u.number ≡ true → e.client ≡ u.client → e.number ≡ u.number → e.reply ≡ (eval s.objects u.command).1
    → with_writes s.objects e.writes ≡ all_written s.objects (eval s.objects u.command).0 → after_entry s e ≡ apply s u
unfolding after_entry apply
applied_new s u e new c n r w =
    rw new (λ i. record { objects = w i; kept = kept_with s (c i) (n i) (r i) })

pub entry_valid : (asked : List Asked) (a : Asked) (p : Plain) (u : Update) → ask_with asked (id_of p) (p.last_ticket + 1) ≡ Some a → a.ask ≡ asks.Update u → IsNewAt p u → IsOfType u.command
    → IsValidEntry asked (newest p) (entry_for p u)
entry_valid asked a p u at is new type =
    let s : State = newest p in
    let fresh : is_new_to s u.client u.number ≡ true = (new_unsaid (window_of s u.client) u.number).1 new.new in
    record {
      update = u;
      by = record { ask = a; is_ask = at; is = is; client = refl; number = refl };
      new = fresh;
      reply = refl;
      writes = refl;
      once = writes_once p.name.chain s.objects u.command type new.here;
      applied = applied_new s u (entry_for p u) fresh refl refl refl (with_versioned s.objects (eval s.objects u.command).0 (writes_once p.name.chain s.objects u.command type new.here));
    }
