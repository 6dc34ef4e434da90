-- The unsent replies stay an answer to the messages that came, step by step.
use Rattle.std.proofs.Common.{◌≡◌, ◌+◌, ℕ, List, [], ◌∷◌, ◌++◌, length, Option, None, Some, Ok, Err, inl, inr, refl, sym, ap, ◌∙◌, append_assoc, subst, arith}
use Rattle.std.specs.declared.alloc.Global.{Global}
use Rattle.std.specs.declared.collections.VecDeque.{VecDeque}
use Rattle.std.proofs.lemmas.List.{append-nil}
use Rattle.craq_names.specs.declared.refusal.Refusal.{Refusal}
use Rattle.craq_names.specs.declared.refusal.Refusal.TheVariants as refusals
use Rattle.craq_frames.specs.declared.ask.ClientMessage.{ClientMessage}
use Rattle.craq_frames.specs.declared.answer.ClientReply.{ClientReply}
use Rattle.craq_frames.specs.Frame.{frame}
use Rattle.craq_frames.specs.declared.protocol_codec.Asking.{Asking}
use Rattle.craq_frames.specs.declared.protocol_codec.ProtocolCodec.{ProtocolCodec}
use Rattle.craq_frames.specs.declared.protocol_codec.CodecEvent.TheVariants.{Ask, Refused, Nothing}
use Rattle.craq_frames.specs.Serving.{Served, Conversation, idle, begun, neither}
use Rattle.craq_frames.specs.Steps.{Advances, Follows, ahead}
use Rattle.craq_frames.specs.Talk.{Exchanges, next_turn, UnderWay, Stands, between, within, first_now, later_now}
use Rattle.craq_frames.proofs.Answering.{cut_off}
use Rattle.craq_frames.proofs.Talks.{stands_asked, stands_received, stands_refused, stands_replied}
use Rattle.craq_event_loop.specs.declared.door_calls.DoorCalls.{DoorCalls}
use Rattle.craq_event_loop.specs.declared.connection_state.Phase.{Phase}
use Rattle.craq_event_loop.specs.declared.connection_state.Phase.TheVariants as phases
use Rattle.craq_event_loop.specs.declared.connection_state.Stepped.{Stepped}
use Rattle.craq_event_loop.specs.declared.connection_state.Stepped.TheVariants as steps
use Rattle.craq_event_loop.specs.declared.connection_state.CallRequest.{CallRequest}
use Rattle.craq_event_loop.specs.ConnectionStates.{Continues, CountsAhead, Found, HasReply, KeepsRoom, all_asked}
use Rattle.craq_event_loop.specs.Halves.{HasRoom, HasRoomFor, TakesRoom}

-- the bytes that were written and those that are unsent, with more unsent bytes
more_unsent : (written old new unsent : List ℕ) → new ≡ old ++ unsent → (written ++ old) ++ unsent ≡ written ++ new
more_unsent written old new unsent e = append_assoc written old unsent ∙ ap (λ (x : List ℕ). written ++ x) (sym e)

-- a message of the next frame is asked
pub then_asked : (read written o n i j unsent : List ℕ) (a b : Option Asking) (m : ClientMessage) (turns : Exchanges)
    → n ≡ o ++ unsent → Advances i j unsent b (Ok (Ask m)) → Stands read (written ++ o) i a None [] turns → Stands read (written ++ n) j b (Some m) [] turns
then_asked read written o n i j unsent a b m turns e h s = subst (λ (x : List ℕ). Stands read x j b (Some m) [] turns) (more_unsent written o n unsent e) (stands_asked read (written ++ o) i j unsent a b m turns s h)

-- the next frame encodes nothing
pub then_refused : (read written o n i j unsent : List ℕ) (a b : Option Asking) (turns : Exchanges)
    → n ≡ o ++ unsent → Advances i j unsent b (Ok Refused) → Stands read (written ++ o) i a None [] turns → Stands read (written ++ n) j b None [] turns
then_refused read written o n i j unsent a b turns e h s = subst (λ (x : List ℕ). Stands read x j b None [] turns) (more_unsent written o n unsent e) (stands_refused read (written ++ o) i j unsent a b turns s h)

-- where no message is asked, it does not matter of which payload one was
no_matter : (read made i : List ℕ) (a b : Option Asking) (turns : Exchanges) → Stands read made i a None [] turns → Stands read made i b None [] turns
no_matter read made i a b turns (between n s none alone) = between n s none alone
no_matter read made i a b turns (within n payload earlier now few s u is) = absurd cc

-- less than a frame is there
pub then_nothing : (read written o n i j unsent : List ℕ) (a b : Option Asking) (turns : Exchanges)
    → n ≡ o ++ unsent → Advances i j unsent b (Ok Nothing) → Stands read (written ++ o) i a None [] turns → Stands read (written ++ n) j b None [] turns
then_nothing read written o n i j unsent a b turns e h s =
    let same : written ++ o ≡ written ++ n = sym (append-nil (written ++ o)) ∙ ap (λ (x : List ℕ). (written ++ o) ++ x) (sym h.2) ∙ more_unsent written o n unsent e in
    subst (λ (x : List ℕ). Stands read x j b None [] turns) same (subst (λ (x : List ℕ). Stands read (written ++ o) x b None [] turns) (sym h.1) (no_matter read (written ++ o) i a b turns s))

-- a length above the limit stands in front
pub then_too_long : (read written o n i j unsent : List ℕ) (a b : Option Asking) (turns : Exchanges)
    → n ≡ o ++ unsent → Advances i j unsent b (Err refusals.FrameTooLong) → Stands read (written ++ o) i a None [] turns → Conversation next_turn [] read (written ++ n) turns neither (Err refusals.FrameTooLong)
then_too_long read written o n i j unsent a b turns e h (between k s none alone) = (i, k, written ++ o, unsent, s, h, sym (more_unsent written o n unsent e))
then_too_long read written o n i j unsent a b turns e h (within k payload earlier now few s u is) = absurd cc

-- out of memory, the next frame was not looked for
pub then_ended : (read written o n i : List ℕ) (a : Option Asking) (turns : Exchanges)
    → n ≡ o → Stands read (written ++ o) i a None [] turns → Conversation next_turn [] read (written ++ n) turns neither (Err refusals.Memory)
then_ended read written o n i a turns e (between k s none alone) = (i, k, turns, subst (λ (x : List ℕ). Served next_turn [] read i (written ++ x) k turns) (sym e) s, idle refl)
then_ended read written o n i a turns e (within k payload earlier now few s u is) = absurd cc

-- no more bytes are unsent at the end, unless a length above the limit is its reason
pub no_more_unsent : (o n i j unsent : List ℕ) (b : Option Asking) (r : Refusal) → n ≡ o ++ unsent → Advances i j unsent b (Err r) → (r ≡ refusals.FrameTooLong → ⊥) → n ≡ o
no_more_unsent o n i j unsent b refusals.FrameTooLong e h other = absurd (other refl)
no_more_unsent o n i j unsent b refusals.Memory e h other = e ∙ ap (λ (x : List ℕ). o ++ x) h ∙ append-nil o
no_more_unsent o n i j unsent b r e h other = absurd h

-- a message has its reply
then_replied : (read written o n i j unsent : List ℕ) (a b : Option Asking) (m : ClientMessage) (later : List ClientMessage) (r : ClientReply) (next : Option ClientMessage) (turns : Exchanges)
    → n ≡ o ++ unsent → j ≡ i → Follows a r unsent b (Ok next) → Stands read (written ++ o) i a (Some m) later turns
    → Stands read (written ++ n) j b (first_now next later) (later_now next later) (turns ++ (m, r) ∷ [])
then_replied read written o n i j unsent a b m later r next turns e same f s =
    subst (λ (x : List ℕ). Stands read (written ++ n) x b (first_now next later) (later_now next later) (turns ++ (m, r) ∷ [])) (sym same)
    (subst (λ (x : List ℕ). Stands read x i b (first_now next later) (later_now next later) (turns ++ (m, r) ∷ [])) (more_unsent written o n unsent e) (stands_replied read (written ++ o) i unsent a b m later r next turns s f))

-- a reply, without the message and the bytes
abbrev pub RepliesTo : ProtocolCodec → ProtocolCodec → ClientReply → Option ClientMessage → Type 0
RepliesTo t u r next =
    (unsent : List ℕ) × (u.buffers.output.items ≡ t.buffers.output.items ++ unsent) × Follows t.asking r unsent u.asking (Ok next)

module _ (t u : ProtocolCodec) (r : ClientReply) (input : u.buffers.input.items ≡ t.buffers.input.items) (later : List CallRequest) where
  -- the next message is asked
  pub next_asked : (m : ClientMessage) → RepliesTo t u r (Some m) → (n : ClientMessage) → HasReply n later t (phases.Asks m) u r
  next_asked m f n read written turns s =
      then_replied read written t.buffers.output.items u.buffers.output.items t.buffers.input.items u.buffers.input.items f.0 t.asking u.asking n (all_asked later) r (Some m) turns f.1 input f.2 s

  -- the next call was asked ahead
  pub next_waits : (q : CallRequest) (rest : VecDeque CallRequest Global) → later ≡ q ∷ rest.items → RepliesTo t u r None → (n : ClientMessage) → HasReply n later t (phases.Waits q rest) u r
  next_waits q rest is f n read written turns s =
      let so : Stands read (written ++ t.buffers.output.items) t.buffers.input.items t.asking (Some n) (all_asked (q ∷ rest.items)) turns =
      subst (λ (x : List CallRequest). Stands read (written ++ t.buffers.output.items) t.buffers.input.items t.asking (Some n) (all_asked x) turns) is s in
      then_replied read written t.buffers.output.items u.buffers.output.items t.buffers.input.items u.buffers.input.items f.0 t.asking u.asking n (all_asked (q ∷ rest.items)) r None turns f.1 input f.2 so

  -- the next frame is looked for
  pub next_idle : later ≡ [] → RepliesTo t u r None → (n : ClientMessage) → HasReply n later t phases.Idle u r
  next_idle is f n read written turns s =
      let so : Stands read (written ++ t.buffers.output.items) t.buffers.input.items t.asking (Some n) [] turns =
      subst (λ (x : List CallRequest). Stands read (written ++ t.buffers.output.items) t.buffers.input.items t.asking (Some n) (all_asked x) turns) is s in
      then_replied read written t.buffers.output.items u.buffers.output.items t.buffers.input.items u.buffers.input.items f.0 t.asking u.asking n [] r None turns f.1 input f.2 so

-- the messages that were asked ahead, before and after a reply
none_counted : (later : List CallRequest) → length later ≡ 0 → later ≡ []
none_counted [] none = refl
none_counted (q ∷ later) none = absurd (omega (arith, none))

asked_alone : (a b : Option Asking) (r : ClientReply) (unsent : List ℕ) (m : ClientMessage) → Follows a r unsent b (Ok (Some m)) → (ahead a ≡ 0) × (ahead b ≡ 0)
asked_alone None b r unsent m f = absurd (let no : Some m ≡ None = f.0 in cc)
asked_alone (Some asking) b r unsent m f = (f.4, f.5)

next_counted : (a b : Option Asking) (r : ClientReply) (unsent : List ℕ) (k : ℕ) → ahead a ≡ k + 1 → Follows a r unsent b (Ok None) → ahead b ≡ k
next_counted None b r unsent k more f = absurd (omega (arith, more))
next_counted (Some asking) b r unsent k more (inl f) = absurd (omega (arith, more, f.5))
next_counted (Some asking) b r unsent k more (inr f) = omega (arith, more, f.4)

done_asking : (a b : Option Asking) (r : ClientReply) (unsent : List ℕ) → ahead a ≡ 0 → Follows a r unsent b (Ok None) → b ≡ None
done_asking None b r unsent none f = f.2
done_asking (Some asking) b r unsent none (inl f) = f.4
done_asking (Some asking) b r unsent none (inr f) = absurd (omega (arith, none, f.4))

lost_alone : (a b : Option Asking) (r : ClientReply) (unsent : List ℕ) (e : Refusal) → Follows a r unsent b (Err e) → (unsent ≡ []) × (ahead a ≡ 0) × (b ≡ None)
lost_alone None b r unsent refusals.Memory f = f
lost_alone (Some asking) b r unsent refusals.Memory f = f
lost_alone None b r unsent e f = absurd f
lost_alone (Some asking) b r unsent e f = absurd f

module _ (t u : ProtocolCodec) (r : ClientReply) (later : List CallRequest) (counted : ahead t.asking ≡ length later) where
  pub asked_none_later : (m : ClientMessage) → RepliesTo t u r (Some m) → later ≡ []
  asked_none_later m f = none_counted later (sym counted ∙ (asked_alone t.asking u.asking r f.0 m f.2).0)

  pub asked_counted : (m : ClientMessage) → RepliesTo t u r (Some m) → CountsAhead (phases.Asks m) u.asking
  asked_counted m f = (asked_alone t.asking u.asking r f.0 m f.2).1

  pub waits_counted : (q : CallRequest) (rest : VecDeque CallRequest Global) → later ≡ q ∷ rest.items → RepliesTo t u r None → CountsAhead (phases.Waits q rest) u.asking
  waits_counted q rest is f = (let more : ahead t.asking ≡ length (q ∷ rest.items) = counted ∙ ap length is in next_counted t.asking u.asking r f.0 (length rest.items) (omega (arith, more)) f.2)

  pub idle_done : later ≡ [] → RepliesTo t u r None → u.asking ≡ None
  idle_done is f = done_asking t.asking u.asking r f.0 (counted ∙ ap length is) f.2

  pub idle_counted : later ≡ [] → RepliesTo t u r None → CountsAhead phases.Idle u.asking
  idle_counted is f = ap ahead (idle_done is f)

  -- the reply is not encoded
  pub lost_none_later : (unsent : List ℕ) (e : Refusal) → Follows t.asking r unsent u.asking (Err e) → later ≡ []
  lost_none_later unsent e f = none_counted later (sym counted ∙ (lost_alone t.asking u.asking r unsent e f).1)

-- a message of the next frame is asked alone
pub found_counted : (i j unsent : List ℕ) (b : Option Asking) (m : ClientMessage) → Advances i j unsent b (Ok (Ask m)) → CountsAhead (phases.Asks m) b
found_counted i j unsent b m h = h.4.alone

pub none_asking_counted : (b : Option Asking) → b ≡ None → CountsAhead phases.Idle b
none_asking_counted b none = ap ahead none

-- no more bytes are unsent after a reply that is not encoded
pub none_unsent : (o n unsent : List ℕ) (a b : Option Asking) (r : ClientReply) (refusal : Refusal) → n ≡ o ++ unsent → Follows a r unsent b (Err refusal) → n ≡ o
none_unsent o n unsent a b r refusal e f = e ∙ ap (λ (x : List ℕ). o ++ x) (lost_alone a b r unsent refusal f).0 ∙ append-nil o

-- a message had its turn, and its reply is not encoded
pub then_lost : (read written o n i unsent : List ℕ) (a b : Option Asking) (m : ClientMessage) (later : List CallRequest) (r : ClientReply) (refusal : Refusal) (turns : Exchanges)
    → n ≡ o ++ unsent → later ≡ [] → Follows a r unsent b (Err refusal) → Stands read (written ++ o) i a (Some m) (all_asked later) turns
    → Conversation next_turn [] read (written ++ n) (turns ++ (m, r) ∷ []) neither (Err refusals.Memory)
then_lost read written o n i unsent a b m later r refusal turns e alone f (between k s none none_later) = absurd cc
then_lost read written o n i unsent a b m later r refusal turns e alone f (within k payload earlier now few s u is) =
    let same : now ≡ m = cc in
    let all : UnderWay next_turn earlier payload a now [] turns = subst (λ (x : List CallRequest). UnderWay next_turn earlier payload a now (all_asked x) turns) alone u in
    let under = subst (λ (x : ClientMessage). UnderWay next_turn earlier payload a x [] turns) same all in
    let cut = cut_off next_turn earlier turns (turns ++ (m, r) ∷ []) payload [] unsent [] unsent a b (Some m) m r refusal refl (under, refl) refl refl f in (
      frame payload ++ i,
      k,
      earlier,
      subst (λ (x : List ℕ). Served next_turn [] read (frame payload ++ i) (written ++ x) k earlier) (sym (none_unsent o n unsent a b r refusal e f)) s,
      begun payload i refl cut.1,
    )

-- more bytes came, and wait
pub then_received : (read written o n i j more : List ℕ) (a b : Option Asking) (turns : Exchanges)
    → n ≡ o → j ≡ i ++ more → Stands read (written ++ o) i a None [] turns → Stands (read ++ more) (written ++ n) j b None [] turns
then_received read written o n i j more a b turns out input s =
    subst (λ (x : List ℕ). Stands (read ++ more) (written ++ x) j b None [] turns) (sym out)
    (subst (λ (x : List ℕ). Stands (read ++ more) (written ++ o) x b None [] turns) (sym input)
    (no_matter (read ++ more) (written ++ o) (i ++ more) a b turns (stands_received read (written ++ o) i more a None [] turns s)))

-- more bytes came, and a message is asked
pub then_heard : (read written o n i j more : List ℕ) (a b : Option Asking) (m : ClientMessage) (turns : Exchanges)
    → n ≡ o → Advances (i ++ more) j [] b (Ok (Ask m)) → Stands read (written ++ o) i a None [] turns → Stands (read ++ more) (written ++ n) j b (Some m) [] turns
then_heard read written o n i j more a b m turns out h s =
    then_asked (read ++ more) written o n (i ++ more) j [] a b m turns (out ∙ sym (append-nil o)) h (stands_received read (written ++ o) i more a None [] turns s)

-- bytes came that are lost
pub then_deaf : (read written o n i more : List ℕ) (a : Option Asking) (turns : Exchanges)
    → n ≡ o → Stands read (written ++ o) i a None [] turns → Conversation next_turn [] (read ++ more) (written ++ n) turns neither (Err refusals.Memory)
then_deaf read written o n i more a turns out s = then_ended (read ++ more) written o n (i ++ more) a turns out (stands_received read (written ++ o) i more a None [] turns s)

-- after a turn there is room for the receipts of the calls that are under way
pub room_after : (later : List CallRequest) (p : Phase) (t u : ProtocolCodec) (c d : DoorCalls) → Continues later p t u → HasRoomFor (length later) c → TakesRoom c d → KeepsRoom p d
room_after later p t u c d h room takes q rest is =
    let so : later ≡ q ∷ rest.items = subst (λ (x : Phase). Continues later x t u) is h in
    let more : length later ≡ length (q ∷ rest.items) = ap length so in
    omega (arith, more, room, takes.0, takes.1)

pub room_of : (more : ℕ) (c : DoorCalls) → HasRoomFor more c → HasRoom c
room_of more c room = omega (arith, room)

-- where no call was asked ahead none is under way after a turn
pub continues_room : (later : List CallRequest) (p : Phase) (t u : ProtocolCodec) (calls : DoorCalls) → later ≡ [] → Continues later p t u → KeepsRoom p calls
continues_room later p t u calls none h = λ q rest is.
    let so : later ≡ q ∷ rest.items = subst (λ (x : Phase). Continues later x t u) is h in
    let no : [] ≡ q ∷ rest.items = sym none ∙ so in
    absurd cc

-- a call that is to be made
pub first_room : (q : CallRequest) (none : VecDeque CallRequest Global) (c : DoorCalls) → none.items ≡ [] → HasRoom c → KeepsRoom (phases.Waits q none) c
first_room q none c is room r later same =
    let one : none ≡ later = cc in
    let few : length later.items ≡ 0 = ap (λ (x : VecDeque CallRequest Global). length x.items) (sym one) ∙ ap length is in
    omega (arith, few, room)

not_found : (q : CallRequest) (later : VecDeque CallRequest Global) (s : Stepped) (t u : ProtocolCodec) → Found (phases.Waits q later) s t u → ⊥
not_found q later steps.Goes t u h = h
not_found q later (steps.Calls submit_token) t u h = h
not_found q later steps.Starved t u h = h
not_found q later steps.Stays t u h = h

-- after a look for the next frame no call is under way, so no room is needed
pub found_room : (p : Phase) (s : Stepped) (t u : ProtocolCodec) (calls : DoorCalls) → Found p s t u → KeepsRoom p calls
found_room p s t u calls h = λ q later is. absurd (not_found q later s t u (subst (λ (x : Phase). Found x s t u) is h))
