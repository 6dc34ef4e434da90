-- The tests of messages decide their rules.
use Rattle.std.proofs.Common.{◌≡◌, ℕ, ◌+◌, ◌<◌, ◌≤◌, ◌∙◌, ltb, Bool, true, false, not, ◌||◌, List, [], ◌∷◌, map, length, refl, sym, ap, subst, T}
use Rattle.std.specs.Prelude.{nat_eq}
use Rattle.std.specs.Bool.{Decides}
use Rattle.std.specs.List.{AllByRecursion, IsDistinct, list_any}
use Rattle.std.specs.Ordering.{is_lt, nat_cmp}
use Rattle.std.specs.declared.cmp.Ordering.{Ordering}
use Rattle.std.specs.declared.cmp.Ordering.TheVariants.{Less, Equal, Greater}
use Rattle.std.specs.Cmp.{IsTotalOrder, nat_cmp_total}
use Rattle.std.specs.Cmp.Lexicographic.{nat_list_cmp_total}
use Rattle.std.specs.FinMap.Entries.{below_all, is_sorted}
use Rattle.std.proofs.lemmas.Bool.{or_from, or_parts, not-true, not_from_false, and_parts, and_from}
use Rattle.std.proofs.lemmas.Bool.Decides.{Decides-and, Decides-like, Decides-eqb, Decides-ltb}
use Rattle.craq_names.specs.Limits.{greatest_count, item_limit, member_limit, window_limit, part_limit, batch_limit}
use Rattle.craq_names.specs.Maps.{same_bytes, key_cmp}
use Rattle.craq_commands.specs.declared.entry.Entry.{Entry}
use Rattle.craq_commands.specs.declared.entry.Write.{Write}
use Rattle.craq_commands.specs.Kept.{Kept, Window}
use Rattle.craq_commands.specs.declared.state.State.{State}
use Rattle.craq_model.specs.declared.message.StatePart.{StatePart}
use Rattle.craq_model.specs.Parts.{item_count}
use Rattle.craq_model.specs.Members.{IsMembership}
use Rattle.craq_model.specs.declared.message.Body.{Body}
use Rattle.craq_model.specs.declared.message.Body.TheVariants as bodies
use Rattle.craq_model.specs.declared.message.LinkMessage.{LinkMessage}
use Rattle.craq_model.specs.Encodable.{IsReply, IsNotStale, IsEncodableEntry, IsEncodableWindow, IsEncodableState, IsEncodablePart, IsConsecutive, IsEncodableBatch, IsEncodableBody, IsFromItsSender, IsEncodable}
use Rattle.craq_wire.proofs.ReplyTests.{decides_le, decides_sure, decides_all, decides_reply, decides_not_stale}
use Rattle.craq_wire.specs.Tests.{stands_twice, is_below_first, is_rising, same_key, has_version, is_entry, is_stored, is_kept, is_window, is_client, is_state, is_part, are_consecutive, is_batch, is_node, is_membership, is_body, is_from_its_sender, is_encodable}

-- ---- no two equal items

decides_none : {A : Type 0} (p : A → Bool) (xs : List A) → Decides (not (list_any p xs)) (AllByRecursion (λ y. p y ≡ false) xs)
decides_none p [] = decides_sure
decides_none p (x ∷ xs) = (
  λ t. let o = or_parts (p x) (list_any p xs) (not-true (p x || list_any p xs) t) in (o.0, (decides_none p xs).0 (not_from_false (list_any p xs) o.1)),
  λ h. not_from_false (p x || list_any p xs) (or_from (p x) (list_any p xs) h.0 (not-true (list_any p xs) ((decides_none p xs).1 h.1))),
)

decides_distinct : {A : Type 0} (same : A → A → Bool) (xs : List A) → Decides (not (stands_twice same xs)) (IsDistinct same xs)
unfolding IsDistinct
decides_distinct same [] = decides_sure
decides_distinct same (x ∷ xs) = (
  λ t. let o = or_parts (list_any (same x) xs) (stands_twice same xs) (not-true (list_any (same x) xs || stands_twice same xs) t) in
      ((decides_none (same x) xs).0 (not_from_false (list_any (same x) xs) o.0), (decides_distinct same xs).0 (not_from_false (stands_twice same xs) o.1)),
  λ h. not_from_false (list_any (same x) xs || stands_twice same xs) (or_from (list_any (same x) xs) (stands_twice same xs)
      (not-true (list_any (same x) xs) ((decides_none (same x) xs).1 h.0)) (not-true (stands_twice same xs) ((decides_distinct same xs).1 h.1))),
)

any_mapped : {A B : Type 0} (f : A → B) (p : B → Bool) (xs : List A) → list_any (λ x. p (f x)) xs ≡ list_any p (map f xs)
any_mapped f p [] = refl
any_mapped f p (x ∷ xs) = ap (λ (b : Bool). p (f x) || b) (any_mapped f p xs)

twice_mapped : (ws : List Write) → stands_twice same_key ws ≡ stands_twice same_bytes (map (λ (w : Write). w.key) ws)
twice_mapped [] = refl
twice_mapped (w ∷ ws) =
    ap (λ (b : Bool). b || stands_twice same_key ws) (any_mapped (λ (v : Write). v.key) (same_bytes w.key) ws)
    ∙ ap (λ (b : Bool). list_any (same_bytes w.key) (map (λ (v : Write). v.key) ws) || b) (twice_mapped ws)

decides_once : (ws : List Write) → Decides (not (stands_twice same_key ws)) (IsDistinct same_bytes (map (λ (w : Write). w.key) ws))
decides_once ws = subst (λ (b : Bool). Decides (not b) (IsDistinct same_bytes (map (λ (w : Write). w.key) ws))) (sym (twice_mapped ws)) (decides_distinct same_bytes (map (λ (w : Write). w.key) ws))

-- ---- ascending keys

holds : (b : Bool) → b ≡ true → T b
holds true t = tt
holds false t = absurd cc

is_so : (b : Bool) → T b → b ≡ true
is_so true t = refl
is_so false t = elim t [ ]

less : (o : Ordering) → is_lt o ≡ true → o ≡ Less
less Less p = refl
less Equal p = absurd cc
less Greater p = absurd cc

module _ {K X : Type 0} (cmp : K → K → Ordering) (total : IsTotalOrder cmp) where
  below_less : (k l : K) (es : List (K × X)) → cmp k l ≡ Less → below_all cmp l es ≡ true → below_all cmp k es ≡ true
  below_less k l [] p h = refl
  below_less k l (e ∷ es) p h =
      let a = and_parts (is_lt (cmp l e.0)) (below_all cmp l es) h in
      let first : is_lt (cmp k e.0) ≡ true = ap is_lt (total.trans k l e.0 p (less _ a.0)) in
      and_from (is_lt (cmp k e.0)) (below_all cmp k es) first (below_less k l es p a.1)

  first_below_all : (k : K) (es : List (K × X)) → is_below_first cmp k es ≡ true → is_sorted cmp es ≡ true → below_all cmp k es ≡ true
  first_below_all k [] p h = refl
  first_below_all k (e ∷ es) p h =
      let a = and_parts (below_all cmp e.0 es) (is_sorted cmp es) h in
      and_from (is_lt (cmp k e.0)) (below_all cmp k es) p (below_less k e.0 es (less _ p) a.0)

  sorted_when_rising : (es : List (K × X)) → is_rising cmp es ≡ true → is_sorted cmp es ≡ true
  sorted_when_rising [] h = refl
  sorted_when_rising (e ∷ es) h =
      let a = and_parts (is_below_first cmp e.0 es) (is_rising cmp es) h in
      let s = sorted_when_rising es a.1 in
      and_from (below_all cmp e.0 es) (is_sorted cmp es) (first_below_all e.0 es a.0 s) s

  first_of_all : (k : K) (es : List (K × X)) → below_all cmp k es ≡ true → is_below_first cmp k es ≡ true
  first_of_all k [] h = refl
  first_of_all k (e ∷ es) h = (and_parts (is_lt (cmp k e.0)) (below_all cmp k es) h).0

  rising_when_sorted : (es : List (K × X)) → is_sorted cmp es ≡ true → is_rising cmp es ≡ true
  rising_when_sorted [] h = refl
  rising_when_sorted (e ∷ es) h =
      let a = and_parts (below_all cmp e.0 es) (is_sorted cmp es) h in
      and_from (is_below_first cmp e.0 es) (is_rising cmp es) (first_of_all e.0 es a.0) (rising_when_sorted es a.1)

  decides_rising : (es : List (K × X)) → Decides (is_rising cmp es) (T (is_sorted cmp es))
  decides_rising es = (λ t. holds _ (sorted_when_rising es t), λ h. rising_when_sorted es (is_so _ h))

-- ---- the rules

decides_entry : (e : Entry) → Decides (is_entry e) (IsEncodableEntry e)
unfolding is_entry
decides_entry e =
    let once = decides_once e.writes in
    let versions = Decides-and _ _ (decides_all has_version (λ (w : Write). 1 ≤ w.version) (λ w. decides_le 1 w.version) e.writes) once in
    let few = Decides-and _ _ (decides_le (length e.writes) item_limit) versions in
    let fresh = Decides-and _ _ (decides_not_stale e.reply) few in
    let replies = Decides-and _ _ (decides_reply e.reply) fresh in
    let tickets = Decides-and _ _ (decides_le 1 e.origin_ticket) replies in
    let nodes = Decides-and _ _ (decides_le 1 e.origin_node) tickets in
    let positions = Decides-and _ _ (decides_le 1 e.position) nodes in
    Decides-like _
    (λ h. record { position = h.0; origin_node = h.1.0; origin_ticket = h.1.1.0; reply = h.1.1.1.0; not_stale = h.1.1.1.1.0; few = h.1.1.1.1.1.0; versions = h.1.1.1.1.1.1.0; once = h.1.1.1.1.1.1.1 })
    (λ s. (s.position, (s.origin_node, (s.origin_ticket, (s.reply, (s.not_stale, (s.few, (s.versions, s.once)))))))) positions

decides_window : (w : Window) → Decides (is_window w) (IsEncodableWindow w)
unfolding is_window
decides_window w =
    let replies = Decides-and _ _ (decides_all is_kept (λ (k : Kept). IsReply k.1 × IsNotStale k.1) (λ k. Decides-and _ _ (decides_reply k.1) (decides_not_stale k.1)) w) (decides_rising nat_cmp nat_cmp_total w) in
    let few = Decides-and _ _ (decides_le (length w) window_limit) replies in
    let some = Decides-and _ _ (decides_le 1 (length w)) few in
    Decides-like _ (λ h. record { some = h.0; few = h.1.0; replies = h.1.1.0; numbers_rise = h.1.1.1 }) (λ s. (s.some, (s.few, (s.replies, s.numbers_rise)))) some

decides_state : (s : State) → Decides (is_state s) (IsEncodableState s)
unfolding is_state
decides_state s =
    let rise = Decides-and _ _ (decides_rising key_cmp nat_list_cmp_total s.objects) (decides_rising nat_cmp nat_cmp_total s.kept) in
    let windows = Decides-and _ _ (decides_all is_client (λ (k : ℕ × Window). IsEncodableWindow k.1) (λ k. decides_window k.1) s.kept) rise in
    let versions = Decides-and _ _ (decides_all is_stored (λ (o : List ℕ × (ℕ × List ℕ)). 1 ≤ o.1.0) (λ o. decides_le 1 o.1.0) s.objects) windows in
    let fewer = Decides-and _ _ (decides_le (length s.kept) greatest_count) versions in
    let few = Decides-and _ _ (decides_le (length s.objects) greatest_count) fewer in
    Decides-like _
    (λ h. record { few_objects = h.0; few_kept = h.1.0; versions = h.1.1.0; windows = h.1.1.1.0; keys_rise = h.1.1.1.1.0; clients_rise = h.1.1.1.1.1 })
    (λ s. (s.few_objects, (s.few_kept, (s.versions, (s.windows, (s.keys_rise, s.clients_rise)))))) few

-- a test that must hold if another does
decides_where : (a b : Bool) (P Q : Type 0) → Decides a P → Decides b Q → Decides (not a || b) (P → Q)
decides_where true b P Q da db = (λ t p. db.0 t, λ h. db.1 (h (da.0 refl)))
decides_where false b P Q da db = (λ t p. let clash : false ≡ true = da.1 p in absurd cc, λ h. refl)

decides_part : (p : StatePart) → Decides (is_part p) (IsEncodablePart p)
unfolding is_part
decides_part p =
    let filled = decides_where (ltb p.number p.count) _ (p.number < p.count) _ (Decides-ltb p.number p.count) (Decides-eqb (item_count p.state) part_limit) in
    let states = Decides-and _ _ filled (decides_state p.state) in
    let few = Decides-and _ _ (decides_le (item_count p.state) part_limit) states in
    let some = Decides-and _ _ (decides_le 1 (item_count p.state)) few in
    let several = Decides-and _ _ (decides_le 2 p.count) some in
    let to = Decides-and _ _ (decides_le p.number p.count) several in
    let from = Decides-and _ _ (decides_le 1 p.number) to in
    let positions = Decides-and _ _ (decides_le 1 p.position) from in
    Decides-like _
    (λ h. record { position = h.0; from = h.1.0; to = h.1.1.0; several = h.1.1.1.0; some = h.1.1.1.1.0; few = h.1.1.1.1.1.0; whole = h.1.1.1.1.1.1.0; state = h.1.1.1.1.1.1.1 })
    (λ s. (s.position, (s.from, (s.to, (s.several, (s.some, (s.few, (s.whole, s.state)))))))) positions

decides_consecutive : (es : List Entry) → Decides (are_consecutive es) (IsConsecutive es)
decides_consecutive [] = decides_sure
decides_consecutive (e ∷ []) = decides_sure
decides_consecutive (e ∷ f ∷ es) = Decides-and _ _ (Decides-eqb f.position (e.position + 1)) (decides_consecutive (f ∷ es))

decides_batch : (es : List Entry) → Decides (is_batch es) (IsEncodableBatch es)
unfolding is_batch
decides_batch es =
    let entries = Decides-and _ _ (decides_all is_entry IsEncodableEntry decides_entry es) (decides_consecutive es) in
    let few = Decides-and _ _ (decides_le (length es) batch_limit) entries in
    let several = Decides-and _ _ (decides_le 2 (length es)) few in
    Decides-like _ (λ h. record { several = h.0; few = h.1.0; entries = h.1.1.0; consecutive = h.1.1.1 }) (λ s. (s.several, (s.few, (s.entries, s.consecutive)))) several

decides_membership : (members : List ℕ) → Decides (is_membership members) (IsMembership members)
unfolding is_membership
decides_membership members =
    let ids = Decides-and _ _ (decides_all is_node (λ id. (1 ≤ id) × (id ≤ greatest_count)) (λ id. Decides-and _ _ (decides_le 1 id) (decides_le id greatest_count)) members) (decides_distinct nat_eq members) in
    let few = Decides-and _ _ (decides_le (length members) member_limit) ids in
    let some = Decides-and _ _ (decides_le 1 (length members)) few in
    Decides-like _ (λ h. record { some = h.0; few = h.1.0; ids = h.1.1.0; distinct = h.1.1.1 }) (λ m. (m.some, (m.few, (m.ids, m.distinct)))) some

decides_body : (b : Body) → Decides (is_body b) (IsEncodableBody b)
unfolding is_body
decides_body (bodies.Config members) = decides_membership members
decides_body (bodies.Entry e) = decides_entry e
decides_body (bodies.Ack position) = decides_sure
decides_body (bodies.Query ticket k) = decides_le 1 ticket
decides_body (bodies.VersionIs ticket version) = decides_le 1 ticket
decides_body (bodies.Blank count) = decides_sure
decides_body (bodies.Copy position s) = Decides-and _ _ (decides_le 1 position) (decides_state s)
decides_body (bodies.Floor count) = decides_sure
decides_body (bodies.Part p) = decides_part p
decides_body (bodies.Batch es) = decides_batch es

decides_sender : (sender : ℕ) (b : Body) → Decides (is_from_its_sender sender b) (IsFromItsSender sender b)
decides_sender sender (bodies.Config members) = Decides-eqb sender 0
decides_sender sender (bodies.Entry e) = decides_le 1 sender
decides_sender sender (bodies.Ack position) = decides_le 1 sender
decides_sender sender (bodies.Query ticket k) = decides_le 1 sender
decides_sender sender (bodies.VersionIs ticket version) = decides_le 1 sender
decides_sender sender (bodies.Blank count) = decides_le 1 sender
decides_sender sender (bodies.Copy position s) = decides_le 1 sender
decides_sender sender (bodies.Floor count) = decides_le 1 sender
decides_sender sender (bodies.Part p) = decides_le 1 sender
decides_sender sender (bodies.Batch es) = decides_le 1 sender

pub decides_encodable : (m : LinkMessage) → Decides (is_encodable m) (IsEncodable m)
unfolding is_encodable
decides_encodable m =
    let body_bytes = Decides-and _ _ (decides_le 1 m.epoch) (decides_body m.body) in
    let stamps = Decides-and _ _ (decides_le 1 m.stamp) body_bytes in
    let receivers = Decides-and _ _ (decides_le 1 m.receiver) stamps in
    let senders = Decides-and _ _ (decides_sender m.sender m.body) receivers in
    Decides-like _ (λ h. record { sender = h.0; receiver = h.1.0; stamp = h.1.1.0; epoch = h.1.1.1.0; body = h.1.1.1.1 })
    (λ s. (s.sender, (s.receiver, (s.stamp, (s.epoch, s.body))))) senders
