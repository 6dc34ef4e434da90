-- A connection on a thread of its own goes on from what it had reached.
use Rattle.std.proofs.Common.{◌≡◌, ◌⊎◌, ◌↔◌, ◌∙◌, ◌++◌, ℕ, Bool, true, false, not, IsTrue, List, [], Option, inl, inr, sym, ap, append_assoc, subst}
use Rattle.std.specs.Io.KnownBytes.{Appends, Consumes}
use Rattle.std.proofs.lemmas.List.{append-nil}
use Rattle.craq_seat.specs.declared.token.CallToken.{CallToken}
use Rattle.craq_frames.proofs.Known.{appends_none, appends_then, consumes_none, consumes_then}
use Rattle.craq_event_loop.specs.SubmittedCalls.{Calling, Finishing}
use Rattle.craq_event_loop.specs.Turns.{Refusing}
use Rattle.craq_event_loop.specs.declared.connection_state.ConnectionState.{ConnectionState}
use Rattle.craq_event_loop.specs.declared.connection.Connection.{Connection}
use Rattle.craq_event_loop.specs.Advancing.{HasRound, under_key}
use Rattle.craq_event_loop.specs.Belonging.{CameAs, ChangesState, GetsCompletions, IsNew, Reads, Writes}
use Rattle.craq_event_loop.specs.Busy.{is_waiting}
use Rattle.craq_event_loop.specs.Reaching.{IsReachable, Reaches, ReachesOn, begins, receives, sends}
use Rattle.craq_event_loop.proofs.Reaching.{completed_all, has_round_reaches}

-- it is done, or nothing is left to do
pub ended_done : {D B : Type 0} (done : Bool) → IsTrue done ↔ D → done ≡ true → D ⊎ (¬ B)
ended_done done says is = inl (says.0 is)

pub ended_still : {D B : Type 0} (behind : Bool) → IsTrue behind ↔ B → IsTrue (not behind) → D ⊎ (¬ B)
ended_still behind says still = inr (λ b. (let off : false ≡ true = ap not (sym (says.1 b)) ∙ still in cc))

-- no call is under way after the last bytes went
pub written_rests : {T : Type 0} (old new : ConnectionState T) (a b : Option (List ℕ)) → is_waiting old.phase ≡ false → Writes a b old new → is_waiting new.phase ≡ false
written_rests old new a b rests writes = ap is_waiting writes.2.phase ∙ rests

module _ {T R : Type 0} (tells : List ℕ → Type 0) (refuses : Refusing) (submits : CallToken → Calling T) (finishes : Finishing T R) where
  module _ {S : Type 0} (remaining contents : S → Option (List ℕ)) where
    abbrev pub On : Connection S T → Connection S T → Type 0
    On c d = ReachesOn remaining contents tells refuses submits finishes c d

    -- no byte came or went
    on_still : (c d : Connection S T) → d.stream ≡ c.stream
        → ((first : ConnectionState T) (came went : List ℕ) → Reaches tells refuses submits finishes first came went c.state → Reaches tells refuses submits finishes first came went d.state) → On c d
    on_still c d same keeps = record {
      read = [];
      written = [];
      given = subst (λ (s : S). Consumes (remaining c.stream) (remaining s) []) (sym same) (consumes_none (remaining c.stream));
      taken = subst (λ (s : S). Appends (contents c.stream) (contents s) []) (sym same) (appends_none (contents c.stream));
      reaches = λ first came went r.
          subst (λ (x : List ℕ). Reaches tells refuses submits finishes first x (went ++ []) d.state) (sym (append-nil came))
          (subst (λ (x : List ℕ). Reaches tells refuses submits finishes first came x d.state) (sym (append-nil went)) (keeps first came went r));
    }

    pub on_as_before : (c d : Connection S T) → d.stream ≡ c.stream → d.state ≡ c.state → ReachesOn remaining contents tells refuses submits finishes c d
    on_as_before c d same is =
        on_still c d same (λ first came went r. subst (λ (x : ConnectionState T). Reaches tells refuses submits finishes first came went x) (sym is) r)

    pub on_then : (c d e : Connection S T) → ReachesOn remaining contents tells refuses submits finishes c d → ReachesOn remaining contents tells refuses submits finishes d e → ReachesOn remaining contents tells refuses submits finishes c e
    on_then c d e p q = record {
      read = p.read ++ q.read;
      written = p.written ++ q.written;
      given = consumes_then (remaining c.stream) (remaining d.stream) (remaining e.stream) p.read q.read p.given q.given;
      taken = appends_then (contents c.stream) (contents d.stream) (contents e.stream) p.written q.written p.taken q.taken;
      reaches = λ first came went r.
          subst (λ (x : List ℕ). Reaches tells refuses submits finishes first x (went ++ (p.written ++ q.written)) e.state) (append_assoc came p.read q.read)
          (subst (λ (x : List ℕ). Reaches tells refuses submits finishes first ((came ++ p.read) ++ q.read) x e.state) (append_assoc went p.written q.written)
          (q.reaches first (came ++ p.read) (went ++ p.written) (p.reaches first came went r)));
    }

    on_read : (c d : Connection S T) → Reads (remaining c.stream) (remaining d.stream) c.state d.state → contents d.stream ≡ contents c.stream → On c d
    on_read c d reads same = record {
      read = reads.0;
      written = [];
      given = reads.1;
      taken = subst (λ (x : Option (List ℕ)). Appends (contents c.stream) x []) (sym same) (appends_none (contents c.stream));
      reaches = λ first came went r.
          subst (λ (x : List ℕ). Reaches tells refuses submits finishes first (came ++ reads.0) x d.state) (sym (append-nil went))
          (receives came went reads.0 c.state d.state r reads.2);
    }

    on_written : (c d : Connection S T) → Writes (contents c.stream) (contents d.stream) c.state d.state → remaining d.stream ≡ remaining c.stream → On c d
    on_written c d writes same = record {
      read = [];
      written = writes.0;
      given = subst (λ (x : Option (List ℕ)). Consumes (remaining c.stream) x []) (sym same) (consumes_none (remaining c.stream));
      taken = writes.1;
      reaches = λ first came went r.
          subst (λ (x : List ℕ). Reaches tells refuses submits finishes first x (went ++ writes.0) d.state) (sym (append-nil came))
          (sends came went writes.0 c.state d.state r writes.2);
    }

    -- it had a round
    pub on_round : (c d : Connection S T) (most key : ℕ) → HasRound most tells refuses (under_key submits key) c.over c.state c.calls d.state d.calls
        → ChangesState (record c { calls = d.calls }) d → ReachesOn remaining contents tells refuses submits finishes c d
    on_round c d most key round rest =
        on_still c d (ap (λ (x : Connection S T). x.stream) rest) (λ first came went r. has_round_reaches tells refuses submits finishes first came went most c.over c.state d.state key c.calls d.calls round r)

    -- it read, had its round, went on, got the outcomes of its calls, and wrote
    pub on_turn : (b c d e f g : Connection S T) (most key : ℕ) → Reads (remaining b.stream) (remaining c.stream) b.state c.state → contents c.stream ≡ contents b.stream
        → HasRound most tells refuses (under_key submits key) c.over c.state c.calls d.state d.calls → ChangesState (record c { calls = d.calls }) d
        → ReachesOn remaining contents tells refuses submits finishes d e
        → GetsCompletions finishes e.state f.state → ChangesState e f
        → Writes (contents f.stream) (contents g.stream) f.state g.state → remaining g.stream ≡ remaining f.stream → ReachesOn remaining contents tells refuses submits finishes b g
    on_turn b c d e f g most key reads taken round still rest completed kept writes given =
        let done : On e f = on_still e f (ap (λ (x : Connection S T). x.stream) kept) (λ first came went r. completed_all tells refuses submits finishes first came went e.state f.state completed r) in
        on_then b c g (on_read b c reads taken) (on_then c d g (on_round c d most key round still) (on_then d e g rest (on_then e f g done (on_written f g writes given))))

    -- a new connection
    pub from_new : (stream : S) (session : T) (slot receipts : ℕ) (c d : Connection S T) (state : ConnectionState T) → IsNew c → CameAs stream session slot receipts c
        → ReachesOn remaining contents tells refuses submits finishes c d → state ≡ d.state → IsReachable (λ (s : T). s ≡ session) tells refuses submits finishes state
    from_new stream session slot receipts c d state new came on is =
        let reached = on.reaches c.state [] [] (begins new.nothing_came new.idle) in
        subst (λ (x : ConnectionState T). IsReachable (λ (s : T). s ≡ session) tells refuses submits finishes x) (sym is) (c.state, came.same_session, [] ++ on.read, [] ++ on.written, reached)
