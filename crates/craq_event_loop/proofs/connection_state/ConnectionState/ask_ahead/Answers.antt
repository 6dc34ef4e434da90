use Rattle.std.proofs.Common.{rules, ◌≡◌, ◌++◌, ◌∷◌, ◌∙◌, [], List, None, inr, refl, ap}
use Rattle.craq_event_loop.specs.declared.connection_state.CallRequest.{CallRequest}
use Rattle.craq_event_loop.specs.declared.connection_state.Phase.TheVariants.{Waits}
use Rattle.craq_event_loop.proofs.connection_state.ConnectionState.ask_ahead.Goals as goal

pub returns-then-is_err-clause-else_as_before : goal.returns-then-is_err-clause-else_as_before
returns-then-is_err-clause-else_as_before g c = λ _.
    let was : c.args.self.now.phase ≡ Waits c.in-Waits.first c.in-Waits.later = cc in
    (inr (c.in-Waits.first, c.in-Waits.later, c.make_room_behind.new.later, was, c.put-then-is_err.ensures, c.make_room_behind.ensures.same), refl {a = c.args.self.now.codec}, refl {a = c.args.self.now.session}, c.make_room_behind.ensures.grows)

pub returns-in_default-ask_next-clause-else_as_before : goal.returns-in_default-ask_next-clause-else_as_before
returns-in_default-ask_next-clause-else_as_before g c = λ _.
    let was : c.args.self.now.phase ≡ Waits c.in-Waits.first c.in-Waits.later = cc in
    let none : c.ask_next.result ≡ None = search rules in (
      inr (c.in-Waits.first, c.in-Waits.later, c.make_room_behind.new.later, was, c.put-in_default-ask_next.ensures, c.make_room_behind.ensures.same),
      c.ask_next.ensures.none none,
      c.ask_next.ensures.unmade none,
      c.make_room_behind.ensures.grows,
    )

pub returns-clause-asked : goal.returns-clause-asked
returns-clause-asked g c = λ _.
    let was : c.args.self.now.phase ≡ Waits c.in-Waits.first c.in-Waits.later = cc in
    record {
      first = c.in-Waits.first;
      before = c.in-Waits.later;
      after = c.push.new.later;
      q = c.in-Some.request;
      was = was;
      now = c.put-2.ensures;
      behind = c.push.ensures ∙ ap (λ (x : List CallRequest). x ++ c.in-Some.request ∷ []) c.make_room_behind.ensures.same;
      along = c.in-Some.ensures.along;
      named = c.in-Some.ensures.named;
      taken = c.in-Some.ensures.taken;
      buffers = c.in-Some.ensures.buffers;
      submitted = rw c.make-submit_token.ensures at c.in-Some.ensures.submitted;
      may = c.in-Some.ensures.may;
      room = c.make_room_behind.ensures.grows;
    }
