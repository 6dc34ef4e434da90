use Rattle.std.proofs.Common.{◌≡◌, ◌≤◌, ◌++◌, ◌∙◌, ℕ, List, [], ◌∷◌, ap, sym, vec_capacity, arith}
use Rattle.std.specs.VecDeque.{deque_capacity}
use Rattle.slab.specs.Slab.{get, slab_len}
use Rattle.craq_event_loop.proofs.Busy.{behind_same, listed_grown}
use Rattle.craq_event_loop.proofs.Coming.{behind_taken, listed_more_room, same_len, same_slots, same_values}
use Rattle.craq_event_loop.proofs.Marks.{key_comes}
use Rattle.craq_event_loop.proofs.event_loop.LoopConnections+ClientStream+T+P.take_in.Goals as goal

pub returns-in_err-reserve-3-clause-kept : goal.returns-in_err-reserve-3-clause-kept
returns-in_err-reserve-3-clause-kept g c k = record {
  listed =
      listed_grown c.args.self.now.connections c.reserve-3.new.self c.args.self.now.busy c.reserve.new.self c.args.self.now.behind c.reserve-2.new.self k.listed
      (same_slots c.args.self.now.connections c.reserve-3.new.self c.reserve-3.ensures.rest_kept)
      c.reserve.ensures.items c.reserve-2.ensures.items c.reserve.ensures.capacity c.reserve-2.ensures.capacity;
  behind =
      behind_same c.args.self.now.connections c.reserve-3.new.self
      (same_values c.args.self.now.connections c.reserve-3.new.self (same_slots c.args.self.now.connections c.reserve-3.new.self c.reserve-3.ensures.rest_kept)) k.behind;
}

pub returns-then-is_err-clause-kept : goal.returns-then-is_err-clause-kept
returns-then-is_err-clause-kept g c k = record {
  listed =
      listed_grown c.args.self.now.connections c.reserve-3.new.self c.args.self.now.busy c.reserve.new.self c.args.self.now.behind c.reserve-2.new.self k.listed
      (same_slots c.args.self.now.connections c.reserve-3.new.self c.reserve-3.ensures.rest_kept)
      c.reserve.ensures.items c.reserve-2.ensures.items c.reserve.ensures.capacity c.reserve-2.ensures.capacity;
  behind =
      behind_same c.args.self.now.connections c.reserve-3.new.self
      (same_values c.args.self.now.connections c.reserve-3.new.self (same_slots c.args.self.now.connections c.reserve-3.new.self c.reserve-3.ensures.rest_kept)) k.behind;
}

pub returns-clause-kept : goal.returns-clause-kept
returns-clause-kept g c k =
    let same : c.reserve-3.new.self.slots ≡ c.args.self.now.connections.slots = same_slots c.args.self.now.connections c.reserve-3.new.self c.reserve-3.ensures.rest_kept in
    let count : slab_len c.insert_reserved-key.new.self ≡ c.in-Some.count =
    omega (arith, c.insert_reserved-key.ensures.len, same_len c.args.self.now.connections c.reserve-3.new.self same, c.len.ensures, c.in-Some.ensures.1) in
    let room : slab_len c.insert_reserved-key.new.self ≤ vec_capacity c.reserve.new.self = omega (arith, count, c.in_ok-reserve.ensures.ok) in
    let room_behind : slab_len c.insert_reserved-key.new.self ≤ deque_capacity c.reserve-2.new.self = omega (arith, count, c.in_ok-reserve-2.ensures.ok) in
    record {
      listed = c.wake.ensures.listed (
          listed_more_room c.args.self.now.connections c.reserve-3.new.self c.insert_reserved-key.new.self c.args.self.now.busy c.reserve.new.self
          c.args.self.now.behind c.reserve-2.new.self c.insert_reserved-key.result c.new-connection.result k.listed same
          c.reserve.ensures.items c.reserve-2.ensures.items c.reserve.ensures.capacity c.reserve-2.ensures.capacity
          c.insert_reserved-key.ensures.was_vacant c.insert_reserved-key.ensures.updates.changed c.new-connection.ensures.is_new.unmarked
          c.insert_reserved-key.ensures.updates.others room room_behind);
      behind =
          behind_taken c.args.self.now.connections c.reserve-3.new.self c.insert_reserved-key.new.self c.wake.new.self.connections c.insert_reserved-key.result
          k.behind same c.insert_reserved-key.ensures.updates.others c.wake.ensures.wakes c.wake.ensures.vacant c.wake.ensures.others;
    }

pub returns-clause-taken : goal.returns-clause-taken
returns-clause-taken g c k =
    let same : c.reserve-3.new.self.slots ≡ c.args.self.now.connections.slots = same_slots c.args.self.now.connections c.reserve-3.new.self c.reserve-3.ensures.rest_kept in
    let count : slab_len c.insert_reserved-key.new.self ≡ c.in-Some.count =
    omega (arith, c.insert_reserved-key.ensures.len, same_len c.args.self.now.connections c.reserve-3.new.self same, c.len.ensures, c.in-Some.ensures.1) in
    let room : slab_len c.insert_reserved-key.new.self ≤ vec_capacity c.reserve.new.self = omega (arith, count, c.in_ok-reserve.ensures.ok) in
    let room_behind : slab_len c.insert_reserved-key.new.self ≤ deque_capacity c.reserve-2.new.self = omega (arith, count, c.in_ok-reserve-2.ensures.ok) in
    record {
      key = c.insert_reserved-key.result;
      connection = c.new-connection.result;
      was_vacant = sym (same_values c.args.self.now.connections c.reserve-3.new.self same c.insert_reserved-key.result) ∙ c.insert_reserved-key.ensures.was_vacant;
      is_new = c.new-connection.ensures.is_new;
      came_as = c.new-connection.ensures.arrival;
      here = c.wake.ensures.wakes c.new-connection.result c.insert_reserved-key.ensures.updates.changed;
      listed =
          c.wake.ensures.busy (
          listed_more_room c.args.self.now.connections c.reserve-3.new.self c.insert_reserved-key.new.self c.args.self.now.busy c.reserve.new.self
          c.args.self.now.behind c.reserve-2.new.self c.insert_reserved-key.result c.new-connection.result k.listed same
          c.reserve.ensures.items c.reserve-2.ensures.items c.reserve.ensures.capacity c.reserve-2.ensures.capacity
          c.insert_reserved-key.ensures.was_vacant c.insert_reserved-key.ensures.updates.changed c.new-connection.ensures.is_new.unmarked
          c.insert_reserved-key.ensures.updates.others room room_behind)
          ∙ key_comes c.reserve.new.self.items c.insert_reserved-key.result (get c.insert_reserved-key.new.self c.insert_reserved-key.result) c.new-connection.result
          c.insert_reserved-key.ensures.updates.changed c.new-connection.ensures.is_new.unmarked
          ∙ ap (λ (keys : List ℕ). keys ++ c.insert_reserved-key.result ∷ []) c.reserve.ensures.items;
      behind = ap (λ v. v.items) c.wake.ensures.behind ∙ c.reserve-2.ensures.items;
      others = λ other differs.
          c.wake.ensures.others other differs ∙ (c.insert_reserved-key.ensures.updates.others other differs
          ∙ same_values c.args.self.now.connections c.reserve-3.new.self same other);
    }
