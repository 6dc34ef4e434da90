-- The master announces its membership, removes and adds members.
use Rattle.std.proofs.Common.{◌≡◌, ◌≢◌, ◌⊎◌, inl, inr, ⊎_elim, ℕ, ◌+◌, ◌<◌, ◌≤◌, ◌==◌, nat_le, Bool, true, false, not, cond, ◌||◌, List, [], ◌∷◌, ◌++◌, map, length, Option, Some, None, is_some, Result, Ok, Err, refl, ap, sym, subst, ◌∙◌, arith, append-nil}
use Rattle.std.proofs.lemmas.Bool.{cond_both, not-false, or_parts, both_ways, false_from_ne_true, eqb-true, eqb-false, cond-true, cond-false}
use Rattle.std.specs.List.{AllByRecursion}
use Rattle.craq_names.specs.Limits.{greatest, member_limit}
use Rattle.craq_names.specs.declared.refusal.Refusal.{Refusal}
use Rattle.craq_names.specs.declared.refusal.Refusal.TheVariants as refusals
use Rattle.craq_names.proofs.Lists.{all_append, all_like}
use Rattle.craq_commands.specs.declared.entry.Entry.{Entry}
use Rattle.craq_commands.specs.SingleCopy.{opening_state}
use Rattle.craq_model.specs.declared.message.Body.{Body}
use Rattle.craq_model.specs.declared.message.Body.TheVariants as bodies
use Rattle.craq_model.specs.declared.message.LinkMessage.{LinkMessage}
use Rattle.craq_model.specs.declared.step.Step.{Step}
use Rattle.craq_model.specs.Members as model
use Rattle.craq_model.specs.Plain.{Plain, id_of, opening_joined}
use Rattle.craq_protocol.specs.Members as protocol
use Rattle.craq_protocol.specs.Members.{membership_of, with_value}
use Rattle.craq_protocol.specs.Machine.{MachineState, Message, MachineMove, Remove, Join, current_membership, after_moves}
use Rattle.craq_protocol.specs.Promises.{IsReached, IsSafe}
use Rattle.craq_protocol.proofs.Lists.{is_member_cases, is_member_none, put_same, put_other, membership_old, membership_present, length_push}
use Rattle.craq_protocol.proofs.Invariant.{Invariant}
use Rattle.craq_protocol.proofs.Effects.{remove_does, join_does}
use Rattle.craq_protocol.proofs.Reached.{reached_inv, reached_safe}
use Rattle.craq_runs.specs.Chain.{Chain, Progress, node_at, sent_in, config_to, config_progress, next_epoch, is_running, removal_progress, with_node, join_progress, numbers_left, counted_progress}
use Rattle.craq_laws.proofs.Nodes.{node_id}
use Rattle.craq_refinement.specs.Follows.{IsHistory, ProtocolView, seen_of, NodeFollows, BodyFollows, MessageFollows, Follows}
use Rattle.craq_refinement.specs.Lines.{moves_of_sends, StandsFor}
use Rattle.craq_refinement.proofs.Members.{is_member-same}
use Rattle.craq_refinement.proofs.Worlds.{history_like, placed_like}

without-same : (ms : List ℕ) (id : ℕ) → model.without ms id ≡ protocol.without ms id
unfolding model.without protocol.without
without-same [] id = refl
without-same (m ∷ ms) id = ap (λ l. cond (m == id) l (m ∷ l)) (without-same ms id)

-- ---- the master's messages

nothing_sent : (c : Chain) (tos : List ℕ) → moves_of_sends (sent_in (map (config_to c) tos)) ≡ []
unfolding sent_in
nothing_sent c [] = refl
nothing_sent c (to ∷ tos) = nothing_sent c tos

configs_said : (c : Chain) (cs : List (List ℕ)) (messages : List (Message Entry)) (tos : List ℕ) → c.epoch ≤ length cs → membership_of cs c.epoch ≡ c.members
    → AllByRecursion (MessageFollows cs messages) (sent_in (map (config_to c) tos))
unfolding sent_in
configs_said c cs messages [] le is = tt
configs_said c cs messages (to ∷ tos) le is = ((le, is), configs_said c cs messages tos le is)

-- the chain once the master announced its membership
abbrev pub reported : Chain → ℕ → Chain
reported c count = record c { messages = c.messages ++ sent_in (map (config_to c) c.members); moves = count }

reported_follows : {c : Chain} {v : MachineState Entry} → Follows c v → (count : ℕ) → Follows (reported c count) v
reported_follows {c} {v} f count =
    let P : ℕ → Type 0 = λ e. membership_of v.memberships e ≡ c.members in
    record {
      epoch = f.epoch;
      members = f.members;
      joined = f.joined;
      nodes = f.nodes;
      messages = all_append (MessageFollows v.memberships v.messages) c.messages (sent_in (map (config_to c) c.members)) f.messages
          (configs_said c v.memberships v.messages c.members (omega (arith, f.epoch)) (subst P f.epoch f.members));
    }

-- after its own moves the world stands for the chain, and the master announces its membership
pub master_stands : {w v : MachineState Entry} (own : List (MachineMove Entry)) (c : Chain) (step : Step) (count : ℕ) → after_moves w own ≡ v → Follows c v → step.outs ≡ map (config_to c) c.members
    → StandsFor (λ l. l ≡ own) w (reported c count, step)
master_stands {w} {v} own c step count is f outs =
    let none : moves_of_sends (sent_in step.outs) ≡ [] = ap (λ os. moves_of_sends (sent_in os)) outs ∙ nothing_sent c c.members in
    let P : MachineState Entry → Type 0 = λ x. Follows (reported c count) x in
    record {
      own = own;
      line = refl;
      follows = subst P (sym (ap (λ l. after_moves w (own ++ l)) none ∙ (ap (after_moves w) (append-nil own) ∙ is))) (reported_follows f count);
    }

-- a move that was counted
pub record Counted (c : Chain) (r : Result Progress Refusal) (x : Progress) : Type 0 where
  pub progress : Progress
  pub does : r ≡ Ok progress
  pub is : x ≡ (record progress.0 { messages = c.messages ++ sent_in progress.1.outs; moves = c.moves + 1 }, progress.1)

pub progress_same : (s t : Progress) (r : Result Progress Refusal) → r ≡ Ok s → r ≡ Ok t → s ≡ t
progress_same s t r d e = cc

pub counted : (c : Chain) (r : Result Progress Refusal) (x : Progress) → counted_progress c r ≡ Ok x → Counted c r x
counted c (Err e) x k = absurd (cc)
counted c (Ok y) x k =
    let z : Progress = (record y.0 { messages = c.messages ++ sent_in y.1.outs; moves = c.moves + 1 }, y.1) in
    cond_both (numbers_left c y.1) (Ok z) (Err refusals.Exhausted) (λ (r : Result Progress Refusal). r ≡ Ok x → Counted c (Ok y) x)
    (λ e i. record { progress = y; does = refl; is = sym (progress_same z x (Ok z) refl i) })
    (λ e i. absurd (cc))
    k

-- a test by which a move of the master is refused
denied : {y : Progress} (b : Bool) (e : Refusal) (r : Result Progress Refusal) → cond b (Err e) r ≡ Ok y → (b ≡ false) × (r ≡ Ok y)
denied {y} b e r h = cond_both b (Err e) r (λ (x : Result Progress Refusal). x ≡ Ok y → (b ≡ false) × (r ≡ Ok y)) (λ i k. absurd (cc)) (λ i k. (i, k)) h

-- ---- one more membership

grown_body : (cs : List (List ℕ)) (c : List ℕ) (messages : List (Message Entry)) (epoch from to : ℕ) (b : Body) → BodyFollows cs messages epoch from to b → BodyFollows (cs ++ c ∷ []) messages epoch from to b
grown_body cs c messages epoch from to (bodies.Config members) a = (omega (arith, a.0, length_push cs c), membership_old cs c epoch a.0 ∙ a.1)
grown_body cs c messages epoch from to (bodies.Entry e) a = a
grown_body cs c messages epoch from to (bodies.Ack position) a = a
grown_body cs c messages epoch from to (bodies.Batch es) a = a
grown_body cs c messages epoch from to (bodies.Copy position state) a = a
grown_body cs c messages epoch from to (bodies.Part part) a = a
grown_body cs c messages epoch from to (bodies.Floor count) a = a
grown_body cs c messages epoch from to (bodies.Query ticket key) a = a
grown_body cs c messages epoch from to (bodies.VersionIs ticket version) a = a
grown_body cs c messages epoch from to (bodies.Blank count) a = a

grown_messages : (w : MachineState Entry) (c : List ℕ) (ms : List LinkMessage) → AllByRecursion (MessageFollows w.memberships w.messages) ms → AllByRecursion (MessageFollows (w.memberships ++ c ∷ []) w.messages) ms
grown_messages w c ms a =
    all_like (MessageFollows w.memberships w.messages) (MessageFollows (w.memberships ++ c ∷ []) w.messages) ms
    (λ m b. grown_body w.memberships c w.messages m.epoch m.sender m.receiver m.body b) a

grown_known : (w : MachineState Entry) (c : List ℕ) (s : ProtocolView) → NodeFollows w s → w.epoch s.id ≤ length w.memberships → membership_of (w.memberships ++ c ∷ []) (w.epoch s.id) ≡ s.members
grown_known w c s n le = membership_old w.memberships c (w.epoch s.id) le ∙ n.members

-- ---- nodes that exist

pub found : (nodes : List Plain) (id : ℕ) → protocol.is_member (map id_of nodes) id ≡ true → (p : Plain) × (node_at nodes id ≡ Some p)
unfolding node_at
found [] id h = absurd (is_member_none id h)
found (n ∷ nodes) id h =
    cond_both (id_of n == id) (Some n) (node_at nodes id) (λ (o : Option Plain). (p : Plain) × (o ≡ Some p))
    (λ e. (n, refl))
    (λ e. found nodes id (⊎_elim (λ s. absurd (eqb-false (id_of n) id e s)) (λ i. i) (is_member_cases (id_of n) (map id_of nodes) id h)))

pub removal_follows : {c : Chain} {w : MachineState Entry} → Follows c w → IsReached w → (id : ℕ) (x : Progress) → counted_progress c (removal_progress c id) ≡ Ok x → StandsFor (λ l. l ≡ Remove id ∷ []) w x
unfolding removal_progress
removal_follows {c} {w} f r id x k =
    let t : Counted c (removal_progress c id) x = counted c (removal_progress c id) x k in
    let d : Chain = next_epoch c (model.without c.members id) in
    let r4 : Result Progress Refusal = Ok (config_progress d) in
    let r3 : Result Progress Refusal = cond (c.epoch == greatest) (Err refusals.Exhausted) r4 in
    let r2 : Result Progress Refusal = cond (length c.members == 1) (Err refusals.LastNode) r3 in
    let r1 : Result Progress Refusal = cond (is_running (node_at c.nodes id)) (Err refusals.NotStopped) r2 in
    let a1 : _ = denied (not (model.is_member c.members id)) refusals.NotMember r1 t.does in
    let a2 : _ = denied (is_running (node_at c.nodes id)) refusals.NotStopped r2 a1.1 in
    let a3 : _ = denied (length c.members == 1) refusals.LastNode r3 a2.1 in
    let a4 : _ = denied (c.epoch == greatest) refusals.Exhausted r4 a3.1 in
    let same : config_progress d ≡ t.progress = progress_same (config_progress d) t.progress r4 refl a4.1 in
    let i : Invariant w = reached_inv r in
    let s : IsSafe w = reached_safe r in
    let P : List ℕ → Type 0 = λ l. protocol.is_member l id ≡ true in
    let m : protocol.is_member (current_membership w) id ≡ true = subst P (sym f.members) (sym (is_member-same c.members id) ∙ not-false (model.is_member c.members id) a1.0) in
    let there : (p : Plain) × (node_at c.nodes id ≡ Some p) = found c.nodes id (subst P f.joined (i.clauses.shape.is_listed (length w.memberships) id m)) in
    let n : NodeFollows w (seen_of there.0) = f.nodes id there.0 there.1 in
    let own : id_of there.0 ≡ id = node_id c.nodes id there.0 there.1 in
    let stopped : w.running id ≡ false = ap w.running (sym own) ∙ (n.running ∙ (sym (ap is_running there.1) ∙ a2.0)) in
    let many : 1 < length (current_membership w) = more (current_membership w) id m (λ e. eqb-false (length c.members) 1 a3.0 (sym (ap length f.members) ∙ e)) in
    let c2 : List ℕ = protocol.without (current_membership w) id in
    let v : MachineState Entry = record w { memberships = w.memberships ++ c2 ∷ [] } in
    let next : Follows d v = record {
      epoch = omega (arith, length_push w.memberships c2, f.epoch);
      members = membership_present w.memberships c2 ∙ (ap (λ l. protocol.without l id) f.members ∙ sym (without-same c.members id));
      joined = f.joined;
      nodes = λ j p h. let n : NodeFollows w (seen_of p) = f.nodes j p h in record {
        running = n.running;
        epoch = n.epoch;
        members = grown_known w c2 (seen_of p) n (s.epoch (id_of p));
        ready = n.ready;
        history = n.history;
        placed = n.placed;
        acknowledged = n.acknowledged;
        based = n.based;
        floor = n.floor;
        gathering = n.gathering;
      };
      messages = grown_messages w c2 c.messages f.messages;
    } in
    let Q : Progress → Type 0 = λ y. StandsFor (λ l. l ≡ Remove id ∷ []) w y in
    subst Q (sym (t.is ∙ sym (ap (λ (y : Progress). (record y.0 { messages = c.messages ++ sent_in y.1.outs; moves = c.moves + 1 }, y.1)) same)))
    (master_stands (Remove id ∷ []) d (config_progress d).1 (c.moves + 1) (remove_does w id m stopped many) next refl)
  where
    more : (l : List ℕ) (id : ℕ) → protocol.is_member l id ≡ true → (length l ≡ 1 → ⊥) → 1 < length l
    more [] id h ne = absurd (is_member_none id h)
    more (a ∷ []) id h ne = absurd (ne refl)
    more (a ∷ b ∷ l) id h ne = omega arith

-- ---- a new node

pub node_pushed : (nodes : List Plain) (q : Plain) (id : ℕ) (p : Plain) → node_at (nodes ++ q ∷ []) id ≡ Some p → (node_at nodes id ≡ Some p) ⊎ ((q ≡ p) × (id_of q ≡ id))
unfolding node_at
node_pushed [] q id p h =
    cond_both (id_of q == id) (Some q) (node_at [] id) (λ (o : Option Plain). o ≡ Some p → (node_at [] id ≡ Some p) ⊎ ((q ≡ p) × (id_of q ≡ id)))
    (λ e i. inr (cc, eqb-true (id_of q) id e)) (λ e i. inl i) h
node_pushed (n ∷ nodes) q id p h =
    cond_both (id_of n == id) (Some n) (node_at (nodes ++ q ∷ []) id)
    (λ (o : Option Plain). o ≡ Some p → (cond (id_of n == id) (Some n) (node_at nodes id) ≡ Some p) ⊎ ((q ≡ p) × (id_of q ≡ id)))
    (λ e i. inl (cond-true (id_of n == id) (Some n) (node_at nodes id) e ∙ i))
    (λ e i. ⊎_elim (λ a. inl (cond-false (id_of n == id) (Some n) (node_at nodes id) e ∙ a)) (λ a. inr a) (node_pushed nodes q id p i))
    h

ids_pushed : (nodes : List Plain) (q : Plain) → map id_of nodes ++ id_of q ∷ [] ≡ map id_of (nodes ++ q ∷ [])
ids_pushed [] q = refl
ids_pushed (n ∷ nodes) q = ap (λ l. id_of n ∷ l) (ids_pushed nodes q)

pub join_follows : {c : Chain} {w : MachineState Entry} → Follows c w → IsReached w → (id : ℕ) (x : Progress) → counted_progress c (join_progress c id) ≡ Ok x → StandsFor (λ l. l ≡ Join id ∷ []) w x
unfolding join_progress membership_of
join_follows {c} {w} f r id x k =
    let t : Counted c (join_progress c id) x = counted c (join_progress c id) x k in
    let q : Plain = opening_joined (record { chain = c.chain; node = id }) in
    let d : Chain = next_epoch (with_node c id) (c.members ++ id ∷ []) in
    let r3 : Result Progress Refusal = Ok (config_progress d) in
    let r2 : Result Progress Refusal = cond (c.epoch == greatest) (Err refusals.Exhausted) r3 in
    let r1 : Result Progress Refusal = cond (nat_le member_limit (length c.members)) (Err refusals.ChainFull) r2 in
    let a1 : _ = denied ((id == 0) || is_some (node_at c.nodes id)) refusals.UsedId r1 t.does in
    let a2 : _ = denied (nat_le member_limit (length c.members)) refusals.ChainFull r2 a1.1 in
    let a3 : _ = denied (c.epoch == greatest) refusals.Exhausted r3 a2.1 in
    let same : config_progress d ≡ t.progress = progress_same (config_progress d) t.progress r3 refl a3.1 in
    let s : IsSafe w = reached_safe r in
    let fresh : is_some (node_at c.nodes id) ≡ false = (or_parts (id == 0) (is_some (node_at c.nodes id)) a1.0).1 in
    let P : List ℕ → Type 0 = λ l. protocol.is_member l id ≡ true in
    let out : protocol.is_member w.joined id ≡ false = false_from_ne_true (protocol.is_member w.joined id) (λ h.
    let there : (p : Plain) × (node_at c.nodes id ≡ Some p) = found c.nodes id (subst P f.joined h) in
    both_ways (is_some (node_at c.nodes id)) fresh (ap is_some there.1))
    in
    let c2 : List ℕ = current_membership w ++ id ∷ [] in
    let v : MachineState Entry = record w {
      memberships = w.memberships ++ c2 ∷ [];
      joined = w.joined ++ id ∷ [];
      running = with_value w.running id true;
      epoch = with_value w.epoch id 0;
      ready = with_value w.ready id false;
      history = with_value w.history id [];
      acknowledged = with_value w.acknowledged id 0;
      floor = with_value w.floor id None;
    } in
    let empty : IsHistory 0 opening_state [] [] = record { front = []; whole = refl; count = refl; after = refl } in
    let new : NodeFollows v (seen_of q) = record {
      running = put_same w.running id true;
      epoch = put_same w.epoch id 0;
      members = ap (membership_of (w.memberships ++ c2 ∷ [])) (put_same w.epoch id 0);
      ready = put_same w.ready id false;
      history = history_like empty (put_same w.history id []);
      placed = placed_like {h = []} tt (put_same w.history id []);
      acknowledged = put_same w.acknowledged id 0;
      based = omega arith;
      floor = put_same w.floor id None;
      gathering = tt;
    } in
    let old : (j : ℕ) (p : Plain) → node_at c.nodes j ≡ Some p → NodeFollows v (seen_of p) = λ j p h.
    let n : NodeFollows w (seen_of p) = f.nodes j p h in
    let ne : id_of p ≢ id = λ e.
    let R : ℕ → Type 0 = λ i. node_at c.nodes i ≡ Some p in
    let there : node_at c.nodes id ≡ Some p = subst R (sym (node_id c.nodes j p h) ∙ e) h in
    both_ways (is_some (node_at c.nodes id)) fresh (ap is_some there)
    in
    record {
      running = put_other w.running id true (id_of p) ne ∙ n.running;
      epoch = put_other w.epoch id 0 (id_of p) ne ∙ n.epoch;
      members = ap (membership_of (w.memberships ++ c2 ∷ [])) (put_other w.epoch id 0 (id_of p) ne) ∙ grown_known w c2 (seen_of p) n (s.epoch (id_of p));
      ready = put_other w.ready id false (id_of p) ne ∙ n.ready;
      history = history_like n.history (put_other w.history id [] (id_of p) ne);
      placed = placed_like n.placed (put_other w.history id [] (id_of p) ne);
      acknowledged = put_other w.acknowledged id 0 (id_of p) ne ∙ n.acknowledged;
      based = n.based;
      floor = put_other w.floor id None (id_of p) ne ∙ n.floor;
      gathering = n.gathering;
    } in
    let next : Follows d v = record {
      epoch = omega (arith, length_push w.memberships c2, f.epoch);
      members = membership_present w.memberships c2 ∙ ap (λ l. l ++ id ∷ []) f.members;
      joined = ap (λ l. l ++ id ∷ []) f.joined ∙ ids_pushed c.nodes q;
      nodes = λ j p h. ⊎_elim (λ a. old j p a) (λ a. let R : Plain → Type 0 = λ p. NodeFollows v (seen_of p) in subst R a.0 new) (node_pushed c.nodes q j p h);
      messages = grown_messages w c2 c.messages f.messages;
    } in
    let Q : Progress → Type 0 = λ y. StandsFor (λ l. l ≡ Join id ∷ []) w y in
    subst Q (sym (t.is ∙ sym (ap (λ (y : Progress). (record y.0 { messages = c.messages ++ sent_in y.1.outs; moves = c.moves + 1 }, y.1)) same)))
    (master_stands (Join id ∷ []) d (config_progress d).1 (c.moves + 1) (join_does w id out) next refl)
