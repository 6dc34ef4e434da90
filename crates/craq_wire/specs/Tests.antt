-- The rules of messages as tests.
use Rattle.std.specs.Prelude.{ℕ, ◌+◌, ◌==◌, nat_le, nat_lt, nat_eq, Bool, true, false, not, ◌&&◌, ◌||◌, List, [], ◌∷◌, length}
use Rattle.std.specs.List.{list_any, list_all}
use Rattle.std.specs.Ordering.{is_lt, nat_cmp}
use Rattle.std.specs.declared.cmp.Ordering.{Ordering}
use Rattle.craq_names.specs.Limits.{greatest_count, item_limit, member_limit, window_limit, part_limit, batch_limit}
use Rattle.craq_names.specs.Maps.{same_bytes, key_cmp}
use Rattle.craq_commands.specs.declared.entry.Entry.{Entry}
use Rattle.craq_commands.specs.declared.entry.Write.{Write}
use Rattle.craq_commands.specs.Kept.{Kept, Window}
use Rattle.craq_commands.specs.declared.state.State.{State}
use Rattle.craq_model.specs.declared.message.Body.{Body}
use Rattle.craq_model.specs.declared.message.Body.TheVariants as bodies
use Rattle.craq_model.specs.declared.message.LinkMessage.{LinkMessage}
use Rattle.craq_model.specs.declared.message.StatePart.{StatePart}
use Rattle.craq_model.specs.Parts.{item_count}
use Rattle.craq_wire.specs.ReplyTests.{is_reply, is_not_stale}

-- one item equals a later one
abbrev pub stands_twice : {A : Type 0} → (A → A → Bool) → List A → Bool
stands_twice same [] = false
stands_twice same (x ∷ xs) = list_any (same x) xs || stands_twice same xs

-- the key is below that of the first entry, if there is one
abbrev pub is_below_first : {K X : Type 0} → (K → K → Ordering) → K → List (K × X) → Bool
is_below_first cmp k [] = true
is_below_first cmp k (e ∷ es) = is_lt (cmp k e.0)

-- the keys are strictly ascending
abbrev pub is_rising : {K X : Type 0} → (K → K → Ordering) → List (K × X) → Bool
is_rising cmp [] = true
is_rising cmp (e ∷ es) = is_below_first cmp e.0 es && is_rising cmp es

-- the writes have the same key
abbrev pub same_key : Write → Write → Bool
same_key a b = same_bytes a.key b.key

-- the write has a version, at least 1
abbrev pub has_version : Write → Bool
has_version w = nat_le 1 w.version

-- a position, a node and a ticket, a reply that is not stale, at most 16 writes with versions, no
-- key twice
unfoldable pub is_entry : Entry → Bool
is_entry e =
    nat_le 1 e.position && (nat_le 1 e.origin_node && (nat_le 1 e.origin_ticket && (is_reply e.reply && (is_not_stale e.reply
    && (nat_le (length e.writes) item_limit && (list_all has_version e.writes && not (stands_twice same_key e.writes)))))))

-- the object has a version, at least 1
abbrev pub is_stored : List ℕ × (ℕ × List ℕ) → Bool
is_stored o = nat_le 1 o.1.0

-- the reply keeps its rules, and is not stale
abbrev pub is_kept : Kept → Bool
is_kept k = is_reply k.1 && is_not_stale k.1

-- 1 to 8 kept replies, by ascending number
unfoldable pub is_window : Window → Bool
is_window w = nat_le 1 (length w) && (nat_le (length w) window_limit && (list_all is_kept w && is_rising nat_cmp w))

-- the kept replies of the client keep their rules
abbrev pub is_client : ℕ × Window → Bool
is_client c = is_window c.1

-- stored objects by ascending key and clients by ascending id, at most 2^32 - 1 of each
unfoldable pub is_state : State → Bool
is_state s =
    nat_le (length s.objects) greatest_count && (nat_le (length s.kept) greatest_count && (list_all is_stored s.objects
    && (list_all is_client s.kept && (is_rising key_cmp s.objects && is_rising nat_cmp s.kept))))

-- each part but the last has 64 items
abbrev pub is_filled : StatePart → Bool
is_filled p = not (nat_lt p.number p.count) || (item_count p.state == part_limit)

-- a part of at least two, numbered within the count, with 1 to 64 items
unfoldable pub is_part : StatePart → Bool
is_part p =
    nat_le 1 p.position && (nat_le 1 p.number && (nat_le p.number p.count && (nat_le 2 p.count
    && (nat_le 1 (item_count p.state) && (nat_le (item_count p.state) part_limit && (is_filled p && is_state p.state))))))

-- each position is the one before plus 1
abbrev pub are_consecutive : List Entry → Bool
are_consecutive [] = true
are_consecutive (e ∷ []) = true
are_consecutive (e ∷ f ∷ es) = (f.position == e.position + 1) && are_consecutive (f ∷ es)

-- 2 to 16 entries at consecutive positions
unfoldable pub is_batch : List Entry → Bool
is_batch es = nat_le 2 (length es) && (nat_le (length es) batch_limit && (list_all is_entry es && are_consecutive es))

-- the id of a node: at least 1, and of 32 bits
abbrev pub is_node : ℕ → Bool
is_node id = nat_le 1 id && nat_le id greatest_count

-- 1 to 8 nodes, none twice
unfoldable pub is_membership : List ℕ → Bool
is_membership members =
    nat_le 1 (length members) && (nat_le (length members) member_limit && (list_all is_node members && not (stands_twice nat_eq members)))

-- a body keeps its rules
unfoldable pub is_body : Body → Bool
is_body (bodies.Config members) = is_membership members
is_body (bodies.Entry e) = is_entry e
is_body (bodies.Ack position) = true
is_body (bodies.Query ticket k) = nat_le 1 ticket
is_body (bodies.VersionIs ticket version) = nat_le 1 ticket
is_body (bodies.Blank count) = true
is_body (bodies.Copy position s) = nat_le 1 position && is_state s
is_body (bodies.Floor count) = true
is_body (bodies.Part p) = is_part p
is_body (bodies.Batch es) = is_batch es

-- the sender is 0 exactly for a membership
abbrev pub is_from_its_sender : ℕ → Body → Bool
is_from_its_sender sender (bodies.Config members) = sender == 0
is_from_its_sender sender (bodies.Entry e) = nat_le 1 sender
is_from_its_sender sender (bodies.Ack position) = nat_le 1 sender
is_from_its_sender sender (bodies.Query ticket k) = nat_le 1 sender
is_from_its_sender sender (bodies.VersionIs ticket version) = nat_le 1 sender
is_from_its_sender sender (bodies.Blank count) = nat_le 1 sender
is_from_its_sender sender (bodies.Copy position s) = nat_le 1 sender
is_from_its_sender sender (bodies.Floor count) = nat_le 1 sender
is_from_its_sender sender (bodies.Part p) = nat_le 1 sender
is_from_its_sender sender (bodies.Batch es) = nat_le 1 sender

-- a message keeps its rules
unfoldable pub is_encodable : LinkMessage → Bool
is_encodable m = is_from_its_sender m.sender m.body && (nat_le 1 m.receiver && (nat_le 1 m.stamp && (nat_le 1 m.epoch && is_body m.body)))
