use Rattle.std.proofs.Common.{◌≡◌, ◌<◌, ◌≤◌, ◌++◌, ◌∙◌, List, ℕ, [], ◌∷◌, ap, arith, drop, is_ok, length, refl, sym, take, vec_capacity}
use Rattle.std.proofs.lemmas.List.{append-nil, append_assoc}
use Rattle.craq_event_loop.proofs.Busy.{first_served, listed_grown, none_waiting, room_to_serve}
use Rattle.craq_event_loop.proofs.Marks.{pushed}
use Rattle.craq_event_loop.proofs.Rounds.{none_to_drop, none_to_take, one_dropped, one_taken}
use Rattle.craq_event_loop.proofs.event_loop.LoopConnections.resume.Goals as goal

pub loop-share-init : goal.loop-share-init
loop-share-init g c = (omega arith, refl, refl, λ k. (k, sym (append-nil c.args.self.now.busy.items)))

pub loop-share-preserved : goal.loop-share-preserved
loop-share-preserved g c =
    let was = c.loop-share.self in
    let is : was.behind.items ≡ c.in-Some.key ∷ c.pop_front.new.self.items = c.in-Some.ensures.items in
    let left : drop c.loop-share._share c.args.self.now.behind.items ≡ c.in-Some.key ∷ c.pop_front.new.self.items = sym c.loop-share.invariant.1 ∙ is in
    let some : 1 ≤ length was.behind.items = omega (arith, ap length is) in (
      omega (arith, c.loop-share-test.true),
      sym (one_dropped c.args.self.now.behind.items c.pop_front.new.self.items c.loop-share._share c.in-Some.key left),
      c.loop-share.invariant.2,
      λ k.
          let before = c.loop-share.invariant.3 k in
          let room : was.busy.len < vec_capacity was.busy = omega (arith, room_to_serve was.connections was.busy was.behind before.0.listed some, was.busy.ok.0) in
          let more : c.push.new.self.items ≡ was.busy.items ++ c.in-Some.key ∷ [] =
          pushed (is_ok c.push.result) was.busy.items (was.busy.items ++ c.in-Some.key ∷ []) c.push.new.self.items c.push.ensures.items (c.push.ensures.succeeds room) in (
            record {
              listed = first_served was.connections was.busy c.push.new.self was.behind c.pop_front.new.self c.in-Some.key before.0.listed is more
                  c.push.ensures.capacity c.in-Some.ensures.capacity;
              behind = before.0.behind;
            },
            more ∙ ap (λ (keys : List ℕ). keys ++ c.in-Some.key ∷ []) before.1
                ∙ append_assoc c.args.self.now.busy.items (take c.loop-share._share c.args.self.now.behind.items) (c.in-Some.key ∷ [])
                ∙ ap (λ (keys : List ℕ). c.args.self.now.busy.items ++ keys)
                (sym (one_taken c.args.self.now.behind.items c.pop_front.new.self.items c.loop-share._share c.in-Some.key left)),
          ),
    )

pub returns-after-loop-share-clause-kept : goal.returns-after-loop-share-clause-kept
returns-after-loop-share-clause-kept g c k = (c.loop-share.invariant.3 k).0

pub returns-after-loop-share-clause-busy : goal.returns-after-loop-share-clause-busy
returns-after-loop-share-clause-busy g c k =
    let all : c.loop-share._share ≡ c.args.shares = omega (arith, c.loop-share.invariant.0, c.loop-share-test.false) in
    (c.loop-share.invariant.3 k).1 ∙ ap (λ (n : ℕ). c.args.self.now.busy.items ++ take n c.args.self.now.behind.items) all

pub returns-after-loop-share-clause-behind : goal.returns-after-loop-share-clause-behind
returns-after-loop-share-clause-behind g c =
    let all : c.loop-share._share ≡ c.args.shares = omega (arith, c.loop-share.invariant.0, c.loop-share-test.false) in
    c.loop-share.invariant.1 ∙ ap (λ (n : ℕ). drop n c.args.self.now.behind.items) all

pub returns-after-loop-share-clause-connections : goal.returns-after-loop-share-clause-connections
returns-after-loop-share-clause-connections g c = c.loop-share.invariant.2

pub returns-in_default-clause-kept : goal.returns-in_default-clause-kept
returns-in_default-clause-kept g c k =
    let before = (c.loop-share.invariant.3 k).0 in
    record {
      listed = listed_grown c.loop-share.self.connections c.loop-share.self.connections c.loop-share.self.busy c.loop-share.self.busy c.loop-share.self.behind c.pop_front.new.self
          before.listed refl refl (sym c.in_default.ensures.items) (omega arith) (omega (arith, c.in_default.ensures.capacity));
      behind = before.behind;
    }

pub returns-in_default-clause-busy : goal.returns-in_default-clause-busy
returns-in_default-clause-busy g c k =
    let none : drop c.loop-share._share c.args.self.now.behind.items ≡ [] = sym c.loop-share.invariant.1 ∙ none_waiting c.loop-share.self.behind c.in_default.ensures.cases.0 in
    (c.loop-share.invariant.3 k).1
    ∙ ap (λ (keys : List ℕ). c.args.self.now.busy.items ++ keys)
    (sym (none_to_take c.args.self.now.behind.items c.loop-share._share c.args.shares c.loop-share.invariant.0 none))

pub returns-in_default-clause-behind : goal.returns-in_default-clause-behind
returns-in_default-clause-behind g c =
    let none : drop c.loop-share._share c.args.self.now.behind.items ≡ [] = sym c.loop-share.invariant.1 ∙ none_waiting c.loop-share.self.behind c.in_default.ensures.cases.0 in
    none_waiting c.pop_front.new.self c.in_default.ensures.cases.1
    ∙ sym (none_to_drop c.args.self.now.behind.items c.loop-share._share c.args.shares c.loop-share.invariant.0 none)

pub returns-in_default-clause-connections : goal.returns-in_default-clause-connections
returns-in_default-clause-connections g c = c.loop-share.invariant.2
