-- A connection, from its first byte on.
use Rattle.std.specs.List.{AllByRecursion}
use Rattle.std.specs.declared.alloc.Global.{Global}
use Rattle.std.specs.declared.collections.VecDeque.{VecDeque}
use Rattle.std.proofs.Common.{◌≡◌, ◌≢◌, ◌⊎◌, ◌+◌, ◌∙◌, ℕ, List, [], ◌∷◌, ◌++◌, drop, Some, Result, Ok, Err, inl, inr, refl, sym, ap, subst, length, append_assoc}
use Rattle.std.proofs.lemmas.List.{append-nil}
use mathlib.Core.List.{IsPrefix}
use Rattle.craq_names.specs.declared.name.NodeName.{NodeName}
use Rattle.craq_names.specs.declared.refusal.Refusal.{Refusal}
use Rattle.craq_model.specs.declared.ask.Ask.{Ask}
use Rattle.craq_model.specs.declared.ask.Ask.TheVariants as asks
use Rattle.craq_seat.specs.declared.token.CallToken.{CallToken}
use Rattle.craq_frames.specs.declared.ask.ClientMessage.{ClientMessage}
use Rattle.craq_frames.specs.declared.answer.ClientReply.{ClientReply}
use Rattle.craq_frames.specs.declared.protocol_codec.ProtocolCodec.{ProtocolCodec}
use Rattle.craq_frames.specs.Talk.{Exchanges, Stands}
use Rattle.craq_frames.proofs.Turning.{all_more}
use Rattle.craq_seat.specs.Calls.{Called}
use Rattle.craq_store_history.specs.declared.entry.CallId.{CallId}
use Rattle.craq_store_history.specs.declared.entry.HistoryEntry.{HistoryEntry}
use Rattle.craq_event_loop.specs.SubmittedCalls.{IsOutcome, IsSubmitted, called_by}
use Rattle.craq_event_loop.specs.ConnectionStates.{AnswersCall, Continues, Found, Holds, Took, all_asked}
use Rattle.craq_event_loop.proofs.Ahead.{ahead_holds}
use Rattle.craq_event_loop.proofs.Halves.{needs_no_call}
use Rattle.craq_event_loop.specs.Halves.{EndsTurn, GoesAlong, IsNamed, IsUpdate, asked_by}
use Rattle.craq_event_loop.specs.Turns.{Refusing, for_memory, kept, message_of, name_of}
use Rattle.craq_event_loop.specs.declared.door_calls.DoorCalls.{DoorCalls}
use Rattle.craq_event_loop.specs.declared.connection_state.CallRequest.{CallRequest}
use Rattle.craq_event_loop.specs.declared.connection_state.UnsentCall.{UnsentCall}
use Rattle.craq_event_loop.specs.declared.connection_state.ConnectionState.{ConnectionState}
use Rattle.craq_event_loop.specs.declared.connection_state.Ending.TheVariants as endings
use Rattle.craq_event_loop.specs.declared.connection_state.Phase.{Phase}
use Rattle.craq_event_loop.specs.declared.connection_state.Phase.TheVariants as phases
use Rattle.craq_event_loop.specs.declared.connection_state.Stepped.{Stepped}
use Rattle.craq_event_loop.specs.declared.connection_state.Stepped.TheVariants as steps
use Rattle.craq_event_loop.specs.Advancing.{AsksAhead, AsksBackend, AsksMore, IsNoCall, IsSamePhase, TakesSteps, asked_none, asked_one, asked_room, asks_ahead, call, none, step, under_key}
use Rattle.craq_event_loop.specs.Belonging.{SendsBytes, ReceivesBytes}
use Rattle.craq_event_loop.specs.Reaching.{IsReachable, Reaches, begins, completes, sends, receives}
use Rattle.craq_event_loop.specs.Reaching as reaching
use Rattle.craq_workers.specs.Stores.{Stored}
use Rattle.craq_server.specs.Refusing.{RefusesServed}
use Rattle.craq_server.specs.Status.{TellsStatus}
use Rattle.craq_server.specs.Sessions.{AreTogether, AreUnderWay, AreUpdatesAt, AreWitnessed, CallsOnce, Connected, EndsFirst, Finishes, FinishesCall, HasMade, IsFirstCall, IsNewSession, IsReachableAt, IsUpdateAt, IsWitnessedConnection, IsWitnessedTurn, MakesCall, MayBeTogether, SeesMore, Submits, next_call, no_turn, one_turn, together}
use Rattle.craq_server.proofs.Witnessing.{ended, ended_witnessed, nothing_witnessed, prefix_on, unmade_witnessed}

-- each request is to a node of the chain of its first object
abbrev pub AreNamed : List CallRequest → Type 0
AreNamed qs = AllByRecursion (λ (q : CallRequest). IsNamed q) qs

-- each of these requests is an update at this node
abbrev pub AreRequestsAt : NodeName → List CallRequest → Type 0
AreRequestsAt name qs = AllByRecursion (λ (q : CallRequest). IsUpdateAt name (asked_by q)) qs

-- the requests that are under way, and the turns of those that were under way with them: one alone, or updates at one node
abbrev pub GoTogether : CallRequest → List CallRequest → Exchanges → Type 0
GoTogether q later run = ((later ≡ []) × (run ≡ [])) ⊎ (AreUpdatesAt q.node run × AreRequestsAt q.node (q ∷ later))

-- the session since the last turns: calls of it are under way, or it is as it was
abbrev pub Since : ℕ → Phase → Connected → Exchanges → Connected → Type 0
Since leap (phases.Waits q later) last run now = AreTogether leap last run (q ∷ later.items) now × AreNamed (q ∷ later.items) × GoTogether q later.items run
Since leap phase last run now = (run ≡ []) × (now ≡ last) × (now.calls ≡ [])

-- the turns so far, in a phase
record Stood (leap : ℕ) (first : Connected) (read written : List ℕ) (phase : Phase) (codec : ProtocolCodec) (now : Connected) : Type 0 where
  before : Exchanges
  run : Exchanges
  holds : Holds phase codec read written (before ++ run)
  last : Connected
  witnessed : AreWitnessed leap first before last
  since : Since leap phase last run now

-- ---- calls under way

prefix_same : (a : List HistoryEntry) → IsPrefix a a
prefix_same a = ([], append-nil a)

sees_on : (a b c : Connected) → SeesMore a b → SeesMore b c → SeesMore a c
sees_on a b c one two = (two.0 ∙ one.0, two.1 ∙ one.1, prefix_on a.seen b.seen c.seen one.2 two.2)

made_on : (old now new : Connected) (q : CallRequest) → HasMade old q.node q.ask now → IsPrefix now.seen new.seen → HasMade old q.node q.ask new
made_on old now new q h later = record { mid = h.mid; made = h.made; later = prefix_on h.mid now.seen new.seen h.later later }

under_way_on : (old : Connected) (qs : List CallRequest) (calls : List CallId) (now new : Connected) → AreUnderWay old qs calls now → SeesMore now new → AreUnderWay old qs calls new
under_way_on old [] [] now new h more = sees_on old now new h more
under_way_on old [] (it ∷ calls) now new h more = absurd h
under_way_on old (q ∷ qs) [] now new h more = absurd h
under_way_on old (q ∷ qs) (it ∷ calls) now new (asked, sees, is, made, rest) more =
    (asked, sees, is, made_on asked now new q made more.2, under_way_on (record asked { made = asked.made + 1 }) qs calls now new rest more)

-- the session of the calls that are under way
own_session : (old : Connected) (qs : List CallRequest) (calls : List CallId) (now : Connected) → AreUnderWay old qs calls now → (now.client ≡ old.client) × IsPrefix old.seen now.seen
own_session old [] [] now h = (h.0, h.2)
own_session old [] (it ∷ calls) now h = absurd h
own_session old (q ∷ qs) [] now h = absurd h
own_session old (q ∷ qs) (it ∷ calls) now (asked, sees, is, made, rest) =
    let so = own_session (record asked { made = asked.made + 1 }) qs calls now rest in
    (so.0 ∙ sees.0, prefix_on old.seen asked.seen now.seen sees.2 so.1)

-- one call more
one_more_call : (old : Connected) (qs : List CallRequest) (calls : List CallId) (now new : Connected) (q : CallRequest) → AreUnderWay old qs calls now → MakesCall now q.node q.ask new
    → AreUnderWay old (qs ++ q ∷ []) (calls ++ next_call now ∷ []) new
one_more_call old [] [] now new q h m = (now, h, refl, record { mid = new.seen; made = m.1; later = prefix_same new.seen }, m.2)
one_more_call old [] (it ∷ calls) now new q h m = absurd h
one_more_call old (p ∷ qs) [] now new q h m = absurd h
one_more_call old (p ∷ qs) (it ∷ calls) now new q (asked, sees, is, made, rest) m =
    (asked, sees, is, made_on asked now new p made m.2.2, one_more_call (record asked { made = asked.made + 1 }) qs calls now new q rest m)

together_more : (leap : ℕ) (old : Connected) (run : Exchanges) (qs : List CallRequest) (now new : Connected) (q : CallRequest) → AreTogether leap old run qs now → MakesCall now q.node q.ask new
    → AreTogether leap old run (qs ++ q ∷ []) new
together_more leap old [] qs now new q h m = subst (λ (x : List CallId). AreUnderWay old (qs ++ q ∷ []) x new) (sym m.0) (one_more_call old qs now.calls now new q h m)
together_more leap old (turn ∷ run) qs now new q (asked, done, sees, once, witnessed, later, rest) m =
    (asked, done, sees, once, witnessed, prefix_on done.seen now.seen new.seen later m.2.2, together_more leap (record asked { made = asked.made + 1 }) run qs now new q rest m)

-- no call is under way after turns whose calls all have their outcomes
none_under_way : (old : Connected) (calls : List CallId) (now : Connected) → AreUnderWay old [] calls now → calls ≡ []
none_under_way old [] now h = refl
none_under_way old (it ∷ calls) now h = absurd h

none_together : (leap : ℕ) (old : Connected) (run : Exchanges) (now : Connected) → AreTogether leap old run [] now → now.calls ≡ []
none_together leap old [] now h = none_under_way old now.calls now h
none_together leap old (turn ∷ run) now (asked, done, sees, once, witnessed, later, rest) = none_together leap (record asked { made = asked.made + 1 }) run now rest

-- the first call that is under way has its outcome
module _ (leap : ℕ) (q : CallRequest) (now new : Connected) (named : IsNamed q) (came outcome : Result Called Refusal) (finished : Finishes now q.node q.pass came outcome new) (receipts after : List Called)
    (reply : ClientReply) (ends : EndsTurn q outcome receipts reply after) where
  finished_first : (old : Connected) (qs : List CallRequest) (calls : List CallId) → now.calls ≡ calls → AreUnderWay old (q ∷ qs) calls now → AreTogether leap old ((asked_by q, reply) ∷ []) qs new
  finished_first old qs [] is h = absurd h
  finished_first old qs (it ∷ calls) is (asked, sees, own, made, rest) =
      let first : IsFirstCall now (next_call asked) = (calls, is ∙ ap (λ (x : CallId). x ∷ calls) own) in
      let so = own_session (record asked { made = asked.made + 1 }) qs calls now rest in
      let ended_so : EndsFirst now new = ended q now new came outcome finished in
      let once : CallsOnce asked (record new { made = asked.made + 1 }) = (ended_so.0.0 ∙ so.0, refl, prefix_on asked.seen now.seen new.seen so.1 ended_so.0.2) in
      let left : new.calls ≡ calls = ended_so.1 ∙ ap (drop 1) is in (
        asked,
        record new { made = asked.made + 1 },
        sees,
        once,
        ended_witnessed leap q asked now new (asked.made + 1) made first once named came outcome finished receipts after reply ends,
        prefix_same new.seen,
        subst (λ (x : List CallId). AreUnderWay (record asked { made = asked.made + 1 }) qs x new) (sym left) (under_way_on (record asked { made = asked.made + 1 }) qs calls now new rest ended_so.0),
      )

  finished_together : (old : Connected) (run : Exchanges) (qs : List CallRequest) → AreTogether leap old run (q ∷ qs) now → AreTogether leap old (run ++ (asked_by q, reply) ∷ []) qs new
  finished_together old [] qs h = finished_first old qs now.calls refl h
  finished_together old (turn ∷ run) qs (asked, done, sees, once, witnessed, later, rest) =
      (asked, done, sees, once, witnessed, prefix_on done.seen now.seen new.seen later (ended q now new came outcome finished).0.2, finished_together (record asked { made = asked.made + 1 }) run qs rest)

-- ---- updates at one node

update_of : (node pass : ℕ) (ask : Ask) (name : NodeName) → IsUpdate ask → name_of node ask ≡ name → IsUpdateAt name (message_of node pass ask)
update_of node pass (asks.Update update) name is at = at
update_of node pass (asks.Read mode object) name is at = absurd is

name_at : (node pass : ℕ) (ask : Ask) (name : NodeName) → IsUpdateAt name (message_of node pass ask) → name_of node ask ≡ name
name_at node pass (asks.Update update) name at = at
name_at node pass (asks.Read mode object) name at = absurd at

update_at : (q : CallRequest) (name : NodeName) → IsUpdate q.ask → IsNamed q → q.node ≡ name → IsUpdateAt name (asked_by q)
update_at q name is named at = update_of q.node.node q.pass q.ask name is (sym named ∙ at)

same_node : (q : CallRequest) (name : NodeName) → IsNamed q → IsUpdateAt name (asked_by q) → q.node ≡ name
same_node q name named at = named ∙ name_at q.node.node q.pass q.ask name at

may_be_together : (run : Exchanges) (last : ClientMessage × ClientReply) (name : NodeName) → AreUpdatesAt name (run ++ last ∷ []) → MayBeTogether (run ++ last ∷ [])
may_be_together [] last name all = tt
may_be_together (turn ∷ []) last name all = (name, all)
may_be_together (turn ∷ more ∷ run) last name all = (name, all)

-- a run that has its last turn
ran_together : (q : CallRequest) (later : List CallRequest) (run : Exchanges) (reply : ClientReply) → GoTogether q later run → MayBeTogether (run ++ (asked_by q, reply) ∷ [])
ran_together q later run reply (inl alone) = subst (λ (x : Exchanges). MayBeTogether (x ++ (asked_by q, reply) ∷ [])) (sym alone.1) tt
ran_together q later run reply (inr all) =
    may_be_together run (asked_by q, reply) q.node (all_more (λ (turn : ClientMessage × ClientReply). IsUpdateAt q.node turn.0) run (asked_by q, reply) all.0 all.1.0)

-- the next call of a run
goes_on_together : (q n : CallRequest) (later rest : List CallRequest) (run : Exchanges) (reply : ClientReply) → later ≡ n ∷ rest → AreNamed later → GoTogether q later run → GoTogether n rest (run ++ (asked_by q, reply) ∷ [])
goes_on_together q n later rest run reply is named (inl alone) = (let no : [] ≡ n ∷ rest = sym alone.0 ∙ is in absurd cc)
goes_on_together q n later rest run reply is named (inr all) =
    let there : AreRequestsAt q.node (n ∷ rest) = subst (λ (x : List CallRequest). AreRequestsAt q.node x) is all.1.1 in
    let known : AreNamed (n ∷ rest) = subst (λ (x : List CallRequest). AreNamed x) is named in
    let same : q.node ≡ n.node = sym (same_node n q.node known.0 there.0) in
    inr (
      subst (λ (x : NodeName). AreUpdatesAt x (run ++ (asked_by q, reply) ∷ [])) same (all_more (λ (turn : ClientMessage × ClientReply). IsUpdateAt q.node turn.0) run (asked_by q, reply) all.0 all.1.0),
      subst (λ (x : NodeName). AreRequestsAt x (n ∷ rest)) same there,
    )

-- a call that goes along
goes_along_too : (q n : CallRequest) (later : List CallRequest) (run : Exchanges) → IsNamed q → IsNamed n → GoesAlong q n → GoTogether q later run → GoTogether q (later ++ n ∷ []) run
goes_along_too q n later run named known along (inl alone) =
    inr (
      subst (λ (x : Exchanges). AreUpdatesAt q.node x) (sym alone.1) tt,
      subst (λ (x : List CallRequest). AreRequestsAt q.node (q ∷ (x ++ n ∷ []))) (sym alone.0) (update_at q q.node along.0 named refl, (update_at n q.node along.1 known along.2, tt)),
    )
goes_along_too q n later run named known along (inr all) =
    inr (all.0, (all.1.0, all_more (λ (x : CallRequest). IsUpdateAt q.node (asked_by x)) later n all.1.1 (update_at n q.node along.1 known along.2)))

-- ---- phases

-- no call is under way after a turn behind which none was asked ahead, and after a look for the next frame
continues_since : (leap : ℕ) (later : List CallRequest) (p : Phase) (t u : ProtocolCodec) (now : Connected) → later ≡ [] → Continues later p t u → now.calls ≡ [] → Since leap p now [] now
continues_since leap later phases.Idle t u now empty continues calls = (refl, refl, calls)
continues_since leap later (phases.Asks m) t u now empty continues calls = (refl, refl, calls)
continues_since leap later (phases.Waits q rest) t u now empty continues calls = (let no : [] ≡ q ∷ rest.items = sym empty ∙ continues in absurd cc)
continues_since leap later (phases.Over why) t u now empty continues calls = (refl, refl, calls)

found_since : (leap : ℕ) (p : Phase) (s : Stepped) (t u : ProtocolCodec) (last : Connected) (run : Exchanges) (now : Connected) → Found p s t u → (run ≡ []) × (now ≡ last) × (now.calls ≡ []) → Since leap p last run now
found_since leap phases.Idle s t u last run now found same = same
found_since leap (phases.Asks m) s t u last run now found same = same
found_since leap (phases.Over why) s t u last run now found same = same
found_since leap (phases.Waits q later) steps.Goes t u last run now found same = absurd found
found_since leap (phases.Waits q later) (steps.Calls unsent) t u last run now found same = absurd found
found_since leap (phases.Waits q later) steps.Starved t u last run now found same = absurd found
found_since leap (phases.Waits q later) steps.Stays t u last run now found same = absurd found

-- the calls that are under way are those that were
heard_since : (leap : ℕ) (p r : Phase) (last : Connected) (run : Exchanges) (now : Connected)
    → ((q : CallRequest) (later : VecDeque CallRequest Global) → r ≡ phases.Waits q later → p ≡ phases.Waits q later)
    → ((q : CallRequest) (later : VecDeque CallRequest Global) → p ≡ phases.Waits q later → r ≡ phases.Waits q later)
    → Since leap p last run now → Since leap r last run now
heard_since leap p (phases.Waits q later) last run now was stays s = subst (λ (x : Phase). Since leap x last run now) (was q later refl) s
heard_since leap (phases.Waits q later) phases.Idle last run now was stays s = (let no : phases.Idle ≡ phases.Waits q later = stays q later refl in absurd cc)
heard_since leap (phases.Waits q later) (phases.Asks m) last run now was stays s = (let no : phases.Asks m ≡ phases.Waits q later = stays q later refl in absurd cc)
heard_since leap (phases.Waits q later) (phases.Over why) last run now was stays s = (let no : phases.Over why ≡ phases.Waits q later = stays q later refl in absurd cc)
heard_since leap phases.Idle phases.Idle last run now was stays s = s
heard_since leap phases.Idle (phases.Asks m) last run now was stays s = s
heard_since leap phases.Idle (phases.Over why) last run now was stays s = s
heard_since leap (phases.Asks n) phases.Idle last run now was stays s = s
heard_since leap (phases.Asks n) (phases.Asks m) last run now was stays s = s
heard_since leap (phases.Asks n) (phases.Over why) last run now was stays s = s
heard_since leap (phases.Over reason) phases.Idle last run now was stays s = s
heard_since leap (phases.Over reason) (phases.Asks m) last run now was stays s = s
heard_since leap (phases.Over reason) (phases.Over why) last run now was stays s = s

module _ (leap : ℕ) (first : Connected) (read written : List ℕ) where
  -- in the same phase, nothing happened
  stood_still : (p r : Phase) (t u : ProtocolCodec) (now : Connected) → r ≡ p → u ≡ t → Stood leap first read written p t now → Stood leap first read written r u now
  stood_still p r t u now same same_codec s =
      subst (λ (x : Phase). Stood leap first read written x u now) (sym same) (subst (λ (x : ProtocolCodec). Stood leap first read written p x now) (sym same_codec) s)

  -- the calls that are under way are those that were
  same_calls : (p r : Phase) (t : ProtocolCodec) (now : Connected) → IsSamePhase p r → Stood leap first read written p t now → Stood leap first read written r t now
  same_calls p r t now (inl same) s = subst (λ (x : Phase). Stood leap first read written x t now) (sym same) s
  same_calls p r t now (inr (q, before, after, was, is, same)) s =
      let holds : Holds (phases.Waits q before) t read written (s.before ++ s.run) = subst (λ (x : Phase). Holds x t read written (s.before ++ s.run)) was s.holds in
      let since : Since leap (phases.Waits q before) s.last s.run now = subst (λ (x : Phase). Since leap x s.last s.run now) was s.since in
      subst (λ (x : Phase). Stood leap first read written x t now) (sym is) (record {
        before = s.before;
        run = s.run;
        holds = subst (λ (x : List CallRequest). Stands read (written ++ t.buffers.output.items) t.buffers.input.items t.asking (Some (asked_by q)) (all_asked x) (s.before ++ s.run)) (sym same) holds;
        last = s.last;
        witnessed = s.witnessed;
        since = subst (λ (x : List CallRequest). AreTogether leap s.last s.run (q ∷ x) now × AreNamed (q ∷ x) × GoTogether q x s.run) (sym same) since;
      })

  -- no call is under way since these turns
  stood_so : (r : Phase) (u : ProtocolCodec) (turns : Exchanges) (now : Connected) → Holds r u read written turns → AreWitnessed leap first turns now → Since leap r now [] now → Stood leap first read written r u now
  stood_so r u turns now holds witnessed since = record {
    before = turns;
    run = [];
    holds = subst (λ (x : Exchanges). Holds r u read written x) (sym (append-nil turns)) holds;
    last = now;
    witnessed = witnessed;
    since = since;
  }

  -- where no call is under way, all turns are witnessed
  all_so : (before run : Exchanges) (last now : Connected) → (run ≡ []) × (now ≡ last) × (now.calls ≡ []) → AreWitnessed leap first before last → AreWitnessed leap first (before ++ run) now
  all_so before run last now since witnessed =
      subst (λ (x : Connected). AreWitnessed leap first (before ++ run) x) (sym since.1)
      (subst (λ (x : Exchanges). AreWitnessed leap first x last) (sym (ap (λ (x : Exchanges). before ++ x) since.0 ∙ append-nil before)) witnessed)

  -- a step without a call
  took : (tells : List ℕ → Type 0) (p r : Phase) (s : Stepped) (t u : ProtocolCodec) (c d : DoorCalls) (now : Connected) → IsNoCall s → Took tells p s r t u c d
      → Stood leap first read written p t now → Stood leap first read written r u now
  took tells phases.Idle r s t u c d now no_call (found, more, same) stood = record {
    before = stood.before;
    run = stood.run;
    holds = more read written (stood.before ++ stood.run) stood.holds;
    last = stood.last;
    witnessed = stood.witnessed;
    since = found_since leap r s t u stood.last stood.run now found stood.since;
  }
  took tells (phases.Asks m) r steps.Goes t u c d now no_call (reply, more, turn, room, continues, same) stood =
      let turns = stood.before ++ stood.run in
      stood_so r u (turns ++ (m, reply) ∷ []) now (more read written turns stood.holds)
      (one_turn turns now now m reply (all_so stood.before stood.run stood.last now stood.since stood.witnessed)
      (nothing_witnessed leap tells for_memory m now now (kept c.policy c.receipts.items) d.receipts.items reply same refl
      (needs_no_call tells (kept c.policy c.receipts.items) d.receipts.items m reply same turn) turn))
      (continues_since leap [] r t u now refl continues stood.since.2)
  took tells (phases.Asks m) r (steps.Calls unsent) t u c d now no_call h stood = absurd no_call
  took tells (phases.Asks m) r steps.Starved t u c d now no_call h stood = absurd h
  took tells (phases.Asks m) r steps.Stays t u c d now no_call h stood = absurd h
  took tells (phases.Waits q later) r steps.Goes t u c d now no_call h stood = absurd h
  took tells (phases.Waits q later) r (steps.Calls unsent) t u c d now no_call h stood = absurd no_call
  took tells (phases.Waits q later) r steps.Starved t u c d now no_call h stood = absurd h
  took tells (phases.Waits q later) r steps.Stays t u c d now no_call (same, same_codec, calls) stood = stood_still (phases.Waits q later) r t u now same same_codec stood
  took tells (phases.Over why) r steps.Goes t u c d now no_call h stood = absurd h
  took tells (phases.Over why) r (steps.Calls unsent) t u c d now no_call h stood = absurd no_call
  took tells (phases.Over why) r steps.Starved t u c d now no_call h stood = absurd h
  took tells (phases.Over why) r steps.Stays t u c d now no_call (same, same_codec, calls) stood = stood_still (phases.Over why) r t u now same same_codec stood

  -- a call that had its outcome at once, while no other was under way
  at_once_witnessed : (q : CallRequest) (outcome : Result Called Refusal) (old new : Connected) (receipts after : List Called) (reply : ClientReply) → old.calls ≡ [] → IsNamed q
      → IsSubmitted (Submits leap) FinishesCall q old (Some outcome) new → EndsTurn q outcome receipts reply after → IsWitnessedTurn leap old (asked_by q) reply new × (new.calls ≡ [])
  at_once_witnessed q outcome old new receipts after reply empty named (Ok came, mid, made, finished) ends =
      let only : mid.calls ≡ next_call old ∷ [] = made.0 ∙ ap (λ (x : List CallId). x ++ next_call old ∷ []) empty in
      let ended_so : EndsFirst mid new = ended q mid new came outcome finished in
      let once : CallsOnce old new = (ended_so.0.0 ∙ made.2.0, ended_so.0.1 ∙ made.2.1, prefix_on old.seen mid.seen new.seen made.2.2 ended_so.0.2) in
      let has : HasMade old q.node q.ask mid = record { mid = mid.seen; made = made.1; later = prefix_same mid.seen } in (
        ended_witnessed leap q old mid new new.made has ([], only) once named came outcome finished receipts after reply ends,
        ended_so.1 ∙ ap (drop 1) only,
      )
  at_once_witnessed q outcome old new receipts after reply empty named (Err came, mid, unmade, finished) ends =
      let same : new ≡ old = finished.1 ∙ unmade.1 in (
        unmade_witnessed leap q old new came unmade.0 same named receipts after reply (subst (λ (x : Result Called Refusal). EndsTurn q x receipts reply after) finished.0 ends),
        ap (λ (x : Connected). x.calls) same ∙ empty,
      )

  found_no_call : (r : Phase) (unsent : UnsentCall) (t u : ProtocolCodec) → Found r (steps.Calls unsent) t u → ⊥
  found_no_call phases.Idle unsent t u h = h
  found_no_call (phases.Asks m) unsent t u h = h
  found_no_call (phases.Waits q later) unsent t u h = h
  found_no_call (phases.Over why) unsent t u h = h

  -- a message whose call is to be made
  asked_holds : (m : ClientMessage) (q : CallRequest) (later : VecDeque CallRequest Global) (t : ProtocolCodec) (turns : Exchanges) → later.items ≡ [] → m ≡ asked_by q → Holds (phases.Asks m) t read written turns
      → Holds (phases.Waits q later) t read written turns
  asked_holds m q later t turns empty message holds =
      subst (λ (x : List CallRequest). Stands read (written ++ t.buffers.output.items) t.buffers.input.items t.asking (Some (asked_by q)) (all_asked x) turns) (sym empty)
      (subst (λ (x : ClientMessage). Holds (phases.Asks x) t read written turns) message holds)

  -- a call that a step makes is submitted, and had its outcome at once or not
  called : (tells : List ℕ → Type 0) (refuses : Refusing) (p r : Phase) (unsent : UnsentCall) (t : ProtocolCodec) (c : DoorCalls) (now : Connected) (made new : ConnectionState Connected)
      → made.phase ≡ r → made.session ≡ now → Took tells p (steps.Calls unsent) r t made.codec c made.calls → AsksBackend refuses (IsSubmitted (Submits leap) FinishesCall) r made new
      → Stood leap first read written p t now → Stood leap first read written new.phase new.codec new.session
  called tells refuses phases.Idle r unsent t c now made new is session h asks stood = absurd (found_no_call r unsent t made.codec h.0)
  called tells refuses (phases.Waits q later) r unsent t c now made new is session h asks stood = absurd h
  called tells refuses (phases.Over why) r unsent t c now made new is session h asks stood = absurd h
  called tells refuses (phases.Asks m) phases.Idle unsent t c now made new is session h asks stood = absurd h
  called tells refuses (phases.Asks m) (phases.Asks n) unsent t c now made new is session h asks stood = absurd h
  called tells refuses (phases.Asks m) (phases.Over why) unsent t c now made new is session h asks stood = absurd h
  called tells refuses (phases.Asks m) (phases.Waits q later) unsent t c now made new is session (empty, message, named, receipts, room, same) (inl (submitted, may, (phase, codec, calls))) stood =
      let turns = stood.before ++ stood.run in
      let makes : MakesCall now q.node q.ask new.session = subst (λ (x : Connected). MakesCall x q.node q.ask new.session) session submitted in
      let still : AreTogether leap now [] [] now = subst (λ (x : List CallId). AreUnderWay now [] x now) (sym stood.since.2) (refl, refl, prefix_same now.seen) in
      stood_still (phases.Waits q later) new.phase t new.codec new.session (phase ∙ is) (codec ∙ same) (record {
        before = turns;
        run = [];
        holds = subst (λ (x : Exchanges). Holds (phases.Waits q later) t read written x) (sym (append-nil turns)) (asked_holds m q later t turns empty message stood.holds);
        last = now;
        witnessed = all_so stood.before stood.run stood.last now stood.since stood.witnessed;
        since = (
          subst (λ (x : List CallRequest). AreTogether leap now [] (q ∷ x) new.session) (sym empty) (together_more leap now [] [] now new.session q still makes),
          subst (λ (x : List CallRequest). AreNamed (q ∷ x)) (sym empty) (named, tt),
          inl (empty, refl),
        );
      })
  called tells refuses (phases.Asks m) (phases.Waits q later) unsent t c now made new is session (empty, message, named, receipts, room, same) (inr (outcome, submitted, refusable, came)) stood =
      let turns = stood.before ++ stood.run in
      let answers : AnswersCall (phases.Waits q later) outcome new.phase made.codec new.codec made.calls new.calls =
      subst (λ (x : Phase). AnswersCall x outcome new.phase made.codec new.codec made.calls new.calls) is came in
      let holds : Holds (phases.Waits q later) made.codec read written turns =
      subst (λ (x : ProtocolCodec). Holds (phases.Waits q later) x read written turns) (sym same) (asked_holds m q later t turns empty message stood.holds) in
      let so = at_once_witnessed q outcome now new.session made.calls.receipts.items new.calls.receipts.items answers.0 stood.since.2 named
      (subst (λ (x : Connected). IsSubmitted (Submits leap) FinishesCall q x (Some outcome) new.session) session submitted) answers.2 in
      stood_so new.phase new.codec (turns ++ (asked_by q, answers.0) ∷ []) new.session (answers.1 read written turns holds)
      (one_turn turns now new.session (asked_by q) answers.0 (all_so stood.before stood.run stood.last now stood.since stood.witnessed) so.0)
      (continues_since leap later.items new.phase made.codec new.codec new.session empty answers.3 so.1)

  -- some messages are asked ahead
  asked_ahead : (refuses : Refusing) (old new : ConnectionState Connected) → AsksAhead refuses (IsSubmitted (Submits leap) FinishesCall) old new → Stood leap first read written old.phase old.codec old.session
      → Stood leap first read written new.phase new.codec new.session
  asked_ahead refuses old new h stood =
      let since : Since leap (phases.Waits h.first h.before) stood.last stood.run old.session = subst (λ (x : Phase). Since leap x stood.last stood.run old.session) h.was stood.since in
      record {
        before = stood.before;
        run = stood.run;
        holds = ahead_holds refuses (IsSubmitted (Submits leap) FinishesCall) old new h read written (stood.before ++ stood.run) stood.holds;
        last = stood.last;
        witnessed = stood.witnessed;
        since = subst (λ (x : Phase). Since leap x stood.last stood.run new.session) (sym h.now)
            (subst (λ (x : List CallRequest). AreTogether leap stood.last stood.run (h.first ∷ x) new.session × AreNamed (h.first ∷ x) × GoTogether h.first x stood.run) (sym h.behind) (
              together_more leap stood.last stood.run (h.first ∷ h.before.items) old.session new.session h.q since.0 h.submitted,
              (since.1.0, all_more (λ (x : CallRequest). IsNamed x) h.before.items h.q since.1.1 h.named),
              goes_along_too h.first h.q h.before.items stood.run since.1.0 h.named h.along since.2,
            ));
      }

  asked_more : (refuses : Refusing) (key before : ℕ) (old : ConnectionState Connected) (new : ConnectionState Connected) (after : ℕ)
      → AsksMore refuses (under_key (called_by (λ (token : CallToken). Submits leap) FinishesCall) key) old before new after
      → Stood leap first read written old.phase old.codec old.session → Stood leap first read written new.phase new.codec new.session
  asked_more refuses key before old _ _ asked_none stood = stood
  asked_more refuses key before old _ _ (asked_room mid new number more (phase, codec, session, room)) stood =
      subst (λ (x : Connected). Stood leap first read written new.phase new.codec x) (sym session)
      (subst (λ (x : ProtocolCodec). Stood leap first read written new.phase x mid.session) (sym codec)
      (same_calls mid.phase new.phase mid.codec mid.session phase (asked_more refuses key before old mid number more stood)))
  asked_more refuses key before old _ _ (asked_one mid new number more asked) stood = asked_ahead refuses mid new asked (asked_more refuses key before old mid number more stood)

  -- so it is after some steps
  taken : (tells : List ℕ → Type 0) (refuses : Refusing) (key before : ℕ) (old : ConnectionState Connected) (count : ℕ) (new : ConnectionState Connected) (after : ℕ)
      → TakesSteps tells refuses (under_key (called_by (λ (token : CallToken). Submits leap) FinishesCall) key) old before count new after
      → Stood leap first read written old.phase old.codec old.session → Stood leap first read written new.phase new.codec new.session
  taken tells refuses key before old _ _ _ none stood = stood
  taken tells refuses key before old _ _ _ (step earlier mid now number stepped until no_call h same) stood =
      subst (λ (x : Connected). Stood leap first read written now.phase now.codec x) (sym same)
      (took tells mid.phase now.phase stepped mid.codec now.codec mid.calls now.calls mid.session no_call h
      (taken tells refuses key before old earlier mid number until stood))
  taken tells refuses key before old _ _ _ (call earlier mid made now number unsent until h same asks) stood =
      called tells refuses mid.phase made.phase unsent mid.codec mid.calls mid.session made now refl same h asks
      (taken tells refuses key before old earlier mid number until stood)
  taken tells refuses key before old _ _ _ (asks_ahead earlier mid now number last until more) stood =
      asked_more refuses key number mid now last more (taken tells refuses key before old earlier mid number until stood)

  -- the turns after the outcome of the first call, in the phase after it
  module _ (q : CallRequest) (later : VecDeque CallRequest Global) (t u : ProtocolCodec) (last new : Connected) (before run : Exchanges) (reply : ClientReply) where
    then_rests : (r : Phase) → later.items ≡ [] → AreWitnessed leap first before last → AreTogether leap last (run ++ (asked_by q, reply) ∷ []) later.items new → GoTogether q later.items run
        → Continues later.items r t u → Holds r u read written ((before ++ run) ++ (asked_by q, reply) ∷ []) → Stood leap first read written r u new
    then_rests r empty witnessed all go continues holds =
        let over : AreTogether leap last (run ++ (asked_by q, reply) ∷ []) [] new = subst (λ (x : List CallRequest). AreTogether leap last (run ++ (asked_by q, reply) ∷ []) x new) empty all in
        stood_so r u (before ++ (run ++ (asked_by q, reply) ∷ [])) new (subst (λ (x : Exchanges). Holds r u read written x) (append_assoc before run ((asked_by q, reply) ∷ [])) holds)
        (together before (run ++ (asked_by q, reply) ∷ []) last new witnessed (ran_together q later.items run reply go) over)
        (continues_since leap later.items r t u new empty continues (none_together leap last (run ++ (asked_by q, reply) ∷ []) new over))

    then_stood : (r : Phase) → AreWitnessed leap first before last → AreTogether leap last (run ++ (asked_by q, reply) ∷ []) later.items new → AreNamed later.items → GoTogether q later.items run
        → Continues later.items r t u → Holds r u read written ((before ++ run) ++ (asked_by q, reply) ∷ []) → Stood leap first read written r u new
    then_stood phases.Idle witnessed all named go continues holds = then_rests phases.Idle continues witnessed all go continues holds
    then_stood (phases.Asks m) witnessed all named go continues holds = then_rests (phases.Asks m) continues witnessed all go continues holds
    then_stood (phases.Over endings.TooLong) witnessed all named go continues holds = absurd continues
    then_stood (phases.Over endings.Memory) witnessed all named go continues holds = then_rests (phases.Over endings.Memory) continues.0 witnessed all go continues holds
    then_stood (phases.Waits n rest) witnessed all named go continues holds = record {
      before = before;
      run = run ++ (asked_by q, reply) ∷ [];
      holds = subst (λ (x : Exchanges). Holds (phases.Waits n rest) u read written x) (append_assoc before run ((asked_by q, reply) ∷ [])) holds;
      last = last;
      witnessed = witnessed;
      since = (
        subst (λ (x : List CallRequest). AreTogether leap last (run ++ (asked_by q, reply) ∷ []) x new) continues all,
        subst (λ (x : List CallRequest). AreNamed x) continues named,
        goes_on_together q n later.items rest.items run reply continues named go,
      );
    }

  -- its completion came
  completed : (p : Phase) (reply outcome : Result Called Refusal) (old new : ConnectionState Connected) → IsOutcome FinishesCall p reply old.session outcome new.session
      → AnswersCall p outcome new.phase old.codec new.codec old.calls new.calls → Stood leap first read written p old.codec old.session → Stood leap first read written new.phase new.codec new.session
  completed (phases.Waits q later) reply outcome old new finished answers stood =
      then_stood q later old.codec new.codec stood.last new.session stood.before stood.run answers.0 new.phase stood.witnessed
      (finished_together leap q old.session new.session stood.since.1.0 reply outcome finished.0 old.calls.receipts.items new.calls.receipts.items answers.0 answers.2 stood.last stood.run later.items stood.since.0)
      stood.since.1.1 stood.since.2 answers.3 (answers.1 read written (stood.before ++ stood.run) stood.holds)
  completed phases.Idle reply outcome old new same (phase, codec, calls) stood =
      stood_still phases.Idle new.phase old.codec new.codec new.session phase codec (subst (λ (x : Connected). Stood leap first read written phases.Idle old.codec x) (sym same) stood)
  completed (phases.Asks m) reply outcome old new same (phase, codec, calls) stood =
      stood_still (phases.Asks m) new.phase old.codec new.codec new.session phase codec (subst (λ (x : Connected). Stood leap first read written (phases.Asks m) old.codec x) (sym same) stood)
  completed (phases.Over why) reply outcome old new same (phase, codec, calls) stood =
      stood_still (phases.Over why) new.phase old.codec new.codec new.session phase codec (subst (λ (x : Connected). Stood leap first read written (phases.Over why) old.codec x) (sym same) stood)

  -- bytes came
  heard : (came : List ℕ) (old new : ConnectionState Connected) → ReceivesBytes came old new → Stood leap first read written old.phase old.codec old.session
      → Stood leap first (read ++ came) written new.phase new.codec new.session
  heard came old new h stood = record {
    before = stood.before;
    run = stood.run;
    holds = h.heard read written (stood.before ++ stood.run) stood.holds;
    last = stood.last;
    witnessed = stood.witnessed;
    since = subst (λ (x : Connected). Since leap new.phase stood.last stood.run x) (sym h.session)
        (heard_since leap old.phase new.phase stood.last stood.run old.session (λ q later. (h.waits q later).0) (λ q later. (h.waits q later).1) stood.since);
  }

  -- bytes went
  given : (went : List ℕ) (old new : ConnectionState Connected) → SendsBytes went old new → Stood leap first read written old.phase old.codec old.session
      → Stood leap first read (written ++ went) new.phase new.codec new.session
  given went old new g stood = record {
    before = stood.before;
    run = stood.run;
    holds = g.given read written (stood.before ++ stood.run) stood.holds;
    last = stood.last;
    witnessed = stood.witnessed;
    since = subst (λ (x : Phase). Since leap x stood.last stood.run new.session) (sym g.phase) (subst (λ (x : Connected). Since leap old.phase stood.last stood.run x) (sym g.session) stood.since);
  }

module _ (leap : ℕ) (tells : List ℕ → Type 0) (refuses : Refusing) (first : ConnectionState Connected) (fresh : first.session.calls ≡ []) where
  stood_reached : (read written : List ℕ) (state : ConnectionState Connected) → Reaches tells refuses (called_by (λ (token : CallToken). Submits leap) FinishesCall) FinishesCall first read written state
      → Stood leap first.session read written state.phase state.codec state.session
  stood_reached _ _ _ (begins holds idle) =
      stood_so leap first.session [] [] first.phase first.codec [] first.session holds no_turn (subst (λ (x : Phase). Since leap x first.session [] first.session) (sym idle) (refl, refl, fresh))
  stood_reached _ _ _ (receives read_before written_before came old new before h) =
      heard leap first.session read_before written_before came old new h (stood_reached read_before written_before old before)
  stood_reached _ _ _ (sends read_before written_before went old new before g) =
      given leap first.session read_before written_before went old new g (stood_reached read_before written_before old before)
  stood_reached _ _ _ (reaching.steps read_before written_before old new key number count after before steps) =
      taken leap first.session read_before written_before tells refuses key number old count new after steps (stood_reached read_before written_before old before)
  stood_reached _ _ _ (completes read_before written_before old new reply before (outcome, is, answers)) =
      completed leap first.session read_before written_before old.phase reply outcome old new is answers (stood_reached read_before written_before old before)

  since_waits : (p : Phase) (last now : Connected) (run : Exchanges) → Since leap p last run now → (q : CallRequest) (later : VecDeque CallRequest Global) → p ≡ phases.Waits q later
      → AreTogether leap last run (q ∷ later.items) now
  since_waits p last now run s q later is = (subst (λ (x : Phase). Since leap x last run now) is s).0

  since_rests : (p : Phase) (last now : Connected) (run : Exchanges) → Since leap p last run now → ((q : CallRequest) (later : VecDeque CallRequest Global) → p ≢ phases.Waits q later) → (run ≡ []) × (now ≡ last)
  since_rests (phases.Waits q later) last now run s rests = absurd (rests q later refl)
  since_rests phases.Idle last now run same _ = (same.0, same.1)
  since_rests (phases.Asks m) last now run same _ = (same.0, same.1)
  since_rests (phases.Over why) last now run same _ = (same.0, same.1)

  pub reached_witnessed : (read written : List ℕ) (state : ConnectionState Connected) → Reaches tells refuses (called_by (λ (token : CallToken). Submits leap) FinishesCall) FinishesCall first read written state
      → IsWitnessedConnection leap first.session read written state
  reached_witnessed read written state reached =
      let stood = stood_reached read written state reached in
      record {
        before = stood.before;
        run = stood.run;
        holds = stood.holds;
        last = stood.last;
        witnessed = stood.witnessed;
        waits = since_waits state.phase stood.last state.session stood.run stood.since;
        rests = since_rests state.phase stood.last state.session stood.run stood.since;
      }

-- so it is in each reachable state
pub reachable_witnessed : (store : Stored) (leap : ℕ) (state : ConnectionState Connected) → IsReachableAt store leap state
    → (first : Connected) × IsNewSession first × (read : List ℕ) × (written : List ℕ) × IsWitnessedConnection leap first read written state
reachable_witnessed store leap state (first, fresh, read, written, reached) = (
  first.session,
  fresh,
  read,
  written,
  reached_witnessed leap (TellsStatus store) (λ node pass ask e. RefusesServed (length store.names) node ask e) first fresh.2 read written state reached,
)

-- a connection that came with a new session
pub served_reachable : (store : Stored) (leap : ℕ) (session : Connected) (state : ConnectionState Connected) → IsNewSession session
    → IsReachable (λ (s : Connected). s ≡ session) (TellsStatus store) (λ node pass ask e. RefusesServed (length store.names) node ask e) (called_by (λ (token : CallToken). Submits leap) FinishesCall) FinishesCall state
    → IsReachableAt store leap state
served_reachable store leap session state fresh (first, same, read, written, reached) = (first, subst IsNewSession (sym same) fresh, read, written, reached)
