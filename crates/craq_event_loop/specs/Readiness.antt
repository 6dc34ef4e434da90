-- The readiness of a connection as far as it is known.
use Rattle.std.specs.Prelude.{◌||◌}
use Rattle.mio.specs.declared.event.event.Event.{Event}
use Rattle.mio.specs.Event.{is_error, is_priority, is_read_closed, is_readable, is_writable, is_write_closed}
use Rattle.craq_event_loop.specs.declared.connection.Readiness.{Readiness}

-- the readiness after an event: it stays ready if it was. A read or a write reports an end or a failure; after an end, a failure or
-- urgent data reads go on until one gives nothing
abbrev pub noticed : Readiness → Event → Readiness
noticed r e = record {
  readable = r.readable || (is_readable e || (is_read_closed e || is_error e));
  until_dry = r.until_dry || (is_read_closed e || (is_error e || is_priority e));
  writable = r.writable || (is_writable e || (is_write_closed e || is_error e));
}
