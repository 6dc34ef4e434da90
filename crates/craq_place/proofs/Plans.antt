-- A plan is read exactly if data stands for it.
use Rattle.std.proofs.Common.{◌≡◌, ℕ, ◌<◌, ◌≤◌, ◌∙◌, Bool, true, false, not, ◌&&◌, ◌||◌, cond, eqb, leb, List, [], ◌∷◌, ◌++◌, map, length, Option, Some, None, refl, sym, ap, subst, append_assoc, arith, le-leb, length-append}
use Rattle.std.specs.Prelude.{pos, negsuc, nat_eq, codes, option_and_then}
use Rattle.std.specs.Bool.{Decides}
use Rattle.std.specs.List.{AllByRecursion, IsDistinct, list_all}
use Rattle.std.specs.Str.{bytes_eq}
use Rattle.std.specs.Cmp.Lexicographic.{nat_list_eq_equiv}
use Rattle.std.proofs.lemmas.Bool.{leb-true, leb-false, lt-leb, or_parts, or_from, not-true, not_from_false, and_parts, eqb-false, ne_eqb}
use Rattle.std.proofs.lemmas.Bool.Decides.{Decides-and, Decides-like}
use Rattle.std.proofs.lemmas.List.{append-nil}
use Rattle.std.specs.Cmp.Lexicographic.{bytes_decides}
use Rattle.craq_names.specs.Limits.{greatest_count, member_limit}
use Rattle.craq_names.specs.Maps.{same_bytes}
use Rattle.craq_model.specs.Members.{IsMembership}
use Rattle.craq_epochs.specs.Doubles.{stands_twice}
use Rattle.craq_epochs.proofs.Doubles.{distinct_unless_twice, once_where_distinct}
use Rattle.toml.specs.Data.{Data, string, integer, float, boolean, datetime, array, table, Items, no_items, item, Members, no_members, member, as_str, as_array, as_table}
use Rattle.toml.specs.View.{items_of}
use Rattle.std.specs.Prelude.{Result, Ok, Err, IfOk, IfErr, ◌⊎◌}
use Rattle.std.proofs.Common.{inl, inr}
use Rattle.craq_names.specs.declared.refusal.Refusal.{Refusal}
use Rattle.craq_names.specs.declared.refusal.Refusal.TheVariants.{Memory, BadConfig}
use Rattle.toml.specs.Parse.{parse_document}
use Rattle.craq_place.specs.Plan.{Chain, is_name, IsChain, IsPlan, node_data, chain_data, plan_data, IsPlanText}
use Rattle.craq_place.specs.Reading.{number_in, numbers_from, is_node, is_membership, fields_in, field_in, name_in, nodes_in, chain_in, has_name, chains_from, plan_in, Reads}

-- ---- memberships as a test

decides_le : (a b : ℕ) → Decides (leb a b) (a ≤ b)
decides_le a b = (leb-true a b, le-leb a b)

decides_all : {A : Type 0} (p : A → Bool) (P : A → Type 0) → ((x : A) → Decides (p x) (P x)) → (xs : List A) → Decides (list_all p xs) (AllByRecursion P xs)
decides_all p P each [] = (λ _. tt, λ _. refl)
decides_all p P each (x ∷ xs) = Decides-and (p x) (list_all p xs) (each x) (decides_all p P each xs)

decides_once : (ids : List ℕ) → Decides (not (stands_twice ids)) (IsDistinct nat_eq ids)
decides_once ids = (λ t. distinct_unless_twice ids (not-true (stands_twice ids) t), λ h. not_from_false (stands_twice ids) (once_where_distinct ids h))

pub decides_membership : (ids : List ℕ) → Decides (is_membership ids) (IsMembership ids)
unfolding is_membership
decides_membership ids =
    let nodes = Decides-and _ _ (decides_all is_node (λ id. (1 ≤ id) × (id ≤ greatest_count)) (λ id. Decides-and _ _ (decides_le 1 id) (decides_le id greatest_count)) ids) (decides_once ids) in
    let few = Decides-and _ _ (decides_le (length ids) member_limit) nodes in
    let some = Decides-and _ _ (decides_le 1 (length ids)) few in
    Decides-like _ (λ h. record { some = h.0; few = h.1.0; ids = h.1.1.0; distinct = h.1.1.1 }) (λ m. (m.some, (m.few, (m.ids, m.distinct)))) some

-- ---- tools

some_is : {A : Type 0} (x y : A) → Some x ≡ Some y → x ≡ y
some_is x y e = cc

then_some : {A B : Type 0} (f : A → Option B) (o : Option A) (y : B) → option_and_then f o ≡ Some y → (x : A) × (o ≡ Some x) × (f x ≡ Some y)
then_some f (Some x) y e = (x, refl, e)
then_some f None y e = absurd cc

passed : {A : Type 0} (b : Bool) (r : Option A) (y : A) → cond b r None ≡ Some y → (b ≡ true) × (r ≡ Some y)
passed true r y e = (refl, e)
passed false r y e = absurd cc

held : {A : Type 0} (b : Bool) (r : Option A) (y : A) → cond b None r ≡ Some y → (b ≡ false) × (r ≡ Some y)
held true r y e = absurd cc
held false r y e = (refl, e)

-- ---- nodes

number_takes : (d : Data) (n : ℕ) → number_in d ≡ Some n → d ≡ node_data n
number_takes (integer (pos k)) n e =
    let p = passed (leb k greatest_count) (Some k) n e in
    ap node_data (some_is k n p.1)
number_takes (integer (negsuc k)) n e = absurd cc
number_takes (string s) n e = absurd cc
number_takes (float x) n e = absurd cc
number_takes (boolean b) n e = absurd cc
number_takes (datetime t) n e = absurd cc
number_takes (array ds) n e = absurd cc
number_takes (table ms) n e = absurd cc

numbers_take : (front : List ℕ) (ds : Items) (ns : List ℕ) → numbers_from front ds ≡ Some ns → (rest : List ℕ) × (ns ≡ front ++ rest) × (ds ≡ items_of (map node_data rest))
numbers_take front no_items ns e = ([], sym (some_is front ns e) ∙ sym (append-nil front), refl)
numbers_take front (item d ds) ns e =
    let s = then_some (λ n. numbers_from (front ++ n ∷ []) ds) (number_in d) ns e in
    let r = numbers_take (front ++ s.0 ∷ []) ds ns s.2 in
    (s.0 ∷ r.0, r.1 ∙ append_assoc front (s.0 ∷ []) r.0, ap (λ (x : Data). item x ds) (number_takes d s.0 s.1) ∙ ap (λ (xs : Items). item (node_data s.0) xs) r.2)

numbers_again : (front ns : List ℕ) → AllByRecursion (λ id. (1 ≤ id) × (id ≤ greatest_count)) ns → numbers_from front (items_of (map node_data ns)) ≡ Some (front ++ ns)
numbers_again front [] h = ap (λ (xs : List ℕ). Some xs) (sym (append-nil front))
numbers_again front (n ∷ ns) h =
    rw (le-leb n greatest_count h.0.1) (numbers_again (front ++ n ∷ []) ns h.1 ∙ ap (λ (xs : List ℕ). Some xs) (append_assoc front (n ∷ []) ns))

-- ---- chains

text_takes : (d : Data) (n : List ℕ) → as_str d ≡ Some n → d ≡ string n
text_takes (string s) n e = ap string (some_is s n e)
text_takes (integer z) n e = absurd cc
text_takes (float x) n e = absurd cc
text_takes (boolean b) n e = absurd cc
text_takes (datetime t) n e = absurd cc
text_takes (array ds) n e = absurd cc
text_takes (table ms) n e = absurd cc

array_takes : (d : Data) (ds : Items) → as_array d ≡ Some ds → d ≡ array ds
array_takes (array cs) ds e = ap array (some_is cs ds e)
array_takes (string s) ds e = absurd cc
array_takes (integer z) ds e = absurd cc
array_takes (float x) ds e = absurd cc
array_takes (boolean b) ds e = absurd cc
array_takes (datetime t) ds e = absurd cc
array_takes (table ms) ds e = absurd cc

table_takes : (d : Data) (ms : Members) → as_table d ≡ Some ms → d ≡ table ms
table_takes (table ls) ms e = ap table (some_is ls ms e)
table_takes (string s) ms e = absurd cc
table_takes (integer z) ms e = absurd cc
table_takes (float x) ms e = absurd cc
table_takes (boolean b) ms e = absurd cc
table_takes (datetime t) ms e = absurd cc
table_takes (array ds) ms e = absurd cc

fields_take : (k l : List ℕ) (ms : Members) (f : Data × Data) → fields_in k l ms ≡ Some f → ms ≡ member k f.0 (member l f.1 no_members)
fields_take k l no_members f e = absurd cc
fields_take k l (member a d no_members) f e = absurd cc
fields_take k l (member a d (member b c no_members)) f e =
    let p = passed (bytes_eq a k && bytes_eq b l) (Some (d, c)) f e in
    let q = and_parts (bytes_eq a k) (bytes_eq b l) p.0 in
    ap (λ (x : List ℕ). member x d (member b c no_members)) ((bytes_decides a k).0 q.0)
    ∙ ap (λ (x : List ℕ). member k d (member x c no_members)) ((bytes_decides b l).0 q.1)
    ∙ ap (λ (g : Data × Data). member k g.0 (member l g.1 no_members)) (some_is (d, c) f p.1)
fields_take k l (member a d (member b c (member g h ms))) f e = absurd cc

field_takes : (k : List ℕ) (ms : Members) (d : Data) → field_in k ms ≡ Some d → ms ≡ member k d no_members
field_takes k no_members d e = absurd cc
field_takes k (member a c no_members) d e =
    let p = passed (bytes_eq a k) (Some c) d e in
    ap (λ (x : List ℕ). member x c no_members) ((bytes_decides a k).0 p.0) ∙ ap (λ (x : Data). member k x no_members) (some_is c d p.1)
field_takes k (member a c (member b g ms)) d e = absurd cc

chain_takes : (d : Data) (c : Chain) → chain_in d ≡ Some c → (d ≡ chain_data c) × IsChain c
unfolding chain_in
chain_takes d c e =
    let t = then_some _ (as_table d) c e in
    let f = then_some _ (fields_in (codes "name") (codes "nodes") t.0) c t.2 in
    let n = then_some _ (name_in f.0.0) c f.2 in
    let ns = then_some _ (nodes_in f.0.1) c n.2 in
    let name = then_some (λ x. cond (is_name x) (Some x) None) (as_str f.0.0) n.0 n.1 in
    let named = passed (is_name name.0) (Some name.0) n.0 name.2 in
    let items = then_some _ (as_array f.0.1) ns.0 ns.1 in
    let numbers = then_some (λ x. cond (is_membership x) (Some x) None) (numbers_from [] items.0) ns.0 items.2 in
    let members = passed (is_membership numbers.0) (Some numbers.0) ns.0 numbers.2 in
    let read = numbers_take [] items.0 numbers.0 numbers.1 in
    let name_is : f.0.0 ≡ string n.0 = text_takes f.0.0 name.0 name.1 ∙ ap string (some_is name.0 n.0 named.1) in
    let same_nodes : read.0 ≡ ns.0 = sym read.1 ∙ some_is numbers.0 ns.0 members.1 in
    let nodes_are : f.0.1 ≡ array (items_of (map node_data ns.0)) = array_takes f.0.1 items.0 items.1 ∙ ap array read.2 ∙ ap (λ (xs : List ℕ). array (items_of (map node_data xs))) same_nodes in
    let whole : d ≡ chain_data (n.0, ns.0) = table_takes d t.0 t.1 ∙ ap table (fields_take (codes "name") (codes "nodes") t.0 f.0 f.1)
    ∙ ap (λ (x : Data). table (member (codes "name") x (member (codes "nodes") f.0.1 no_members))) name_is
    ∙ ap (λ (x : Data). table (member (codes "name") (string n.0) (member (codes "nodes") x no_members))) nodes_are in
    let is_good : IsChain (n.0, ns.0) = record {
      name = subst (λ (x : List ℕ). is_name x ≡ true) (some_is name.0 n.0 named.1) named.0;
      nodes = subst IsMembership (some_is numbers.0 ns.0 members.1) ((decides_membership numbers.0).0 members.0);
    } in
    subst (λ (x : Chain). (d ≡ chain_data x) × IsChain x) (some_is (n.0, ns.0) c ns.2) (whole, is_good)

chain_again : (c : Chain) → IsChain c → chain_in (chain_data c) ≡ Some c
unfolding chain_in
chain_again c h =
    let numbers : numbers_from [] (items_of (map node_data c.1)) ≡ Some c.1 = numbers_again [] c.1 h.nodes.ids in
    let members : is_membership c.1 ≡ true = (decides_membership c.1).1 h.nodes in
    rw (h.name, numbers, members) refl

-- ---- names that occur once

abbrev names : List Chain → List (List ℕ)
names cs = map (λ (c : Chain). c.0) cs

names_after : (cs ds : List Chain) → names (cs ++ ds) ≡ names cs ++ names ds
names_after [] ds = refl
names_after (c ∷ cs) ds = ap (λ (xs : List (List ℕ)). c.0 ∷ xs) (names_after cs ds)

all_after : (P : List ℕ → Type 0) (xs : List (List ℕ)) (n : List ℕ) → AllByRecursion P xs → P n → AllByRecursion P (xs ++ n ∷ [])
all_after P [] n h p = (p, tt)
all_after P (x ∷ xs) n h p = (h.0, all_after P xs n h.1 p)

-- one more name, which is none of those before
once_more : (cs : List Chain) (n : List ℕ) → IsDistinct same_bytes (names cs) → has_name n cs ≡ false → IsDistinct same_bytes (names cs ++ n ∷ [])
unfolding IsDistinct
once_more [] n h new = (tt, tt)
once_more (c ∷ cs) n h new =
    let o = or_parts (bytes_eq n c.0) (has_name n cs) new in
    (all_after (λ y. same_bytes c.0 y ≡ false) (names cs) n h.0 (nat_list_eq_equiv.symm c.0 n ∙ o.0), once_more cs n h.1 o.1)

at_middle : (P : List ℕ → Type 0) (cs : List Chain) (n : List ℕ) (more : List (List ℕ)) → AllByRecursion P (names cs ++ n ∷ more) → P n
at_middle P [] n more h = h.0
at_middle P (c ∷ cs) n more h = at_middle P cs n more h.1

none_before : (cs : List Chain) (n : List ℕ) (more : List (List ℕ)) → IsDistinct same_bytes (names cs ++ n ∷ more) → has_name n cs ≡ false
unfolding IsDistinct
none_before [] n more h = refl
none_before (c ∷ cs) n more h =
    or_from (bytes_eq n c.0) (has_name n cs) (nat_list_eq_equiv.symm n c.0 ∙ at_middle (λ y. same_bytes c.0 y ≡ false) cs n more h.0) (none_before cs n more h.1)

-- ---- plans

-- chains read so far: at most 64, and no name twice
record IsFront (cs : List Chain) : Type 0 where
  few : length cs ≤ 64
  once : IsDistinct same_bytes (names cs)

front_more : (front : List Chain) (c : Chain) → IsFront front → (has_name c.0 front || leb 64 (length front)) ≡ false → IsFront (front ++ c ∷ [])
front_more front c h new =
    let o = or_parts (has_name c.0 front) (leb 64 (length front)) new in
    let room : length front < 64 = leb-false 64 (length front) o.1 in
    record {
      few = omega (arith, length-append front (c ∷ []));
      once = subst (λ (xs : List (List ℕ)). IsDistinct same_bytes xs) (sym (names_after front (c ∷ []))) (once_more front c.0 h.once o.0);
    }

chains_take : (front : List Chain) (ds : Items) (cs : List Chain) → IsFront front → chains_from front ds ≡ Some cs
    → (rest : List Chain) × (cs ≡ front ++ rest) × (ds ≡ items_of (map chain_data rest)) × AllByRecursion IsChain rest × IsFront cs
unfolding chains_from
chains_take front no_items cs h e =
    let same = some_is front cs e in
    ([], sym same ∙ sym (append-nil front), refl, tt, subst IsFront same h)
chains_take front (item d ds) cs h e =
    let s = then_some (λ c. cond (has_name c.0 front || leb 64 (length front)) None (chains_from (front ++ c ∷ []) ds)) (chain_in d) cs e in
    let g = held (has_name s.0.0 front || leb 64 (length front)) (chains_from (front ++ s.0 ∷ []) ds) cs s.2 in
    let r = chains_take (front ++ s.0 ∷ []) ds cs (front_more front s.0 h g.0) g.1 in
    let c = chain_takes d s.0 s.1 in
    (s.0 ∷ r.0, r.1 ∙ append_assoc front (s.0 ∷ []) r.0, ap (λ (x : Data). item x ds) c.0 ∙ ap (λ (xs : Items). item (chain_data s.0) xs) r.2, (c.1, r.3), r.4)

chains_again : (front rest : List Chain) → AllByRecursion IsChain rest → IsFront (front ++ rest) → chains_from front (items_of (map chain_data rest)) ≡ Some (front ++ rest)
unfolding chains_from
chains_again front [] h f = ap (λ (xs : List Chain). Some xs) (sym (append-nil front))
chains_again front (c ∷ rest) h f =
    let regrouped : (front ++ c ∷ []) ++ rest ≡ front ++ c ∷ rest = append_assoc front (c ∷ []) rest in
    let spread : IsDistinct same_bytes (names front ++ c.0 ∷ names rest) = subst (λ (xs : List (List ℕ)). IsDistinct same_bytes xs) (names_after front (c ∷ rest)) f.once in
    let new : has_name c.0 front ≡ false = none_before front c.0 (names rest) spread in
    let few = f.few in
    let room : leb 64 (length front) ≡ false = lt-leb 64 (length front) (omega (arith, length-append front (c ∷ rest))) in
    let free : (has_name c.0 front || leb 64 (length front)) ≡ false = or_from (has_name c.0 front) (leb 64 (length front)) new room in
    let next = chains_again (front ++ c ∷ []) rest h.1 (subst IsFront (sym regrouped) f) in
    rw (chain_again c h.0, free) (next ∙ ap (λ (xs : List Chain). Some xs) regrouped)

nothing_before : IsFront []
unfolding IsDistinct
nothing_before = record { few = omega arith; once = tt }

pub plan_takes : (ms : Members) (cs : List Chain) → plan_in ms ≡ Some cs → (ms ≡ plan_data cs) × IsPlan cs
unfolding plan_in
plan_takes ms cs e =
    let d = then_some _ (field_in (codes "chain") ms) cs e in
    let ds = then_some _ (as_array d.0) cs d.2 in
    let r = then_some (λ x. cond (eqb (length x) 0) None (Some x)) (chains_from [] ds.0) cs ds.2 in
    let g = held (eqb (length r.0) 0) (Some r.0) cs r.2 in
    let t = chains_take [] ds.0 r.0 nothing_before r.1 in
    let some : length r.0 ≡ 0 → ⊥ = eqb-false (length r.0) 0 g.0 in
    let each : AllByRecursion IsChain r.0 = subst (λ (xs : List Chain). AllByRecursion IsChain xs) (sym t.1) t.3 in
    let whole : ms ≡ plan_data r.0 = field_takes (codes "chain") ms d.0 d.1 ∙ ap (λ (x : Data). member (codes "chain") x no_members) (array_takes d.0 ds.0 ds.1 ∙ ap array t.2)
    ∙ ap (λ (xs : List Chain). member (codes "chain") (array (items_of (map chain_data xs))) no_members) (sym t.1) in
    let front = t.4 in
    subst (λ (xs : List Chain). (ms ≡ plan_data xs) × IsPlan xs) (some_is r.0 cs g.1) (whole, record { some = omega (arith, some); few = front.few; each = each; once = front.once })

pub plan_again : (cs : List Chain) → IsPlan cs → plan_in (plan_data cs) ≡ Some cs
unfolding plan_in
plan_again cs h =
    let read : chains_from [] (items_of (map chain_data cs)) ≡ Some cs = chains_again [] cs h.each (record { few = h.few; once = h.once }) in
    let some : eqb (length cs) 0 ≡ false = ne_eqb (length cs) 0 (λ z. omega (arith, h.some, z)) in
    rw (read, some) refl

-- ---- the contract of `read`

stands_is_read : (text : List ℕ) (ms : Members) (p : List Chain) → parse_document text ≡ Some ms → IsPlanText text p → plan_in ms ≡ Some p
stands_is_read text ms p e s = ap plan_in (some_is ms (plan_data p) (sym e ∙ s.read)) ∙ plan_again p s.plan

pub found : (text : List ℕ) (ms : Members) (r : Result (List Chain) Refusal) → parse_document text ≡ Some ms → Reads (λ p. p) r (plan_in ms) → IfOk r (λ p. IsPlanText text p)
found text ms (Ok p) e given = let t = plan_takes ms p given in record { read = e ∙ ap (λ (x : Members). Some x) t.0; plan = t.1 }
found text ms (Err f) e given = tt

pub only : (text : List ℕ) (ms : Members) (r : Result (List Chain) Refusal) → parse_document text ≡ Some ms → Reads (λ p. p) r (plan_in ms) → IfOk r (λ p. (other : List Chain) → IsPlanText text other → other ≡ p)
only text ms (Ok p) e given = λ other s. some_is other p (sym (stands_is_read text ms other e s) ∙ given)
only text ms (Err f) e given = tt

pub bad : (text : List ℕ) (ms : Members) (r : Result (List Chain) Refusal) → parse_document text ≡ Some ms → Reads (λ p. p) r (plan_in ms) → r ≡ Err BadConfig → (p : List Chain) → IsPlanText text p → ⊥
bad text ms (Ok q) e given is p s = cc
bad text ms (Err f) e (inl memory) is p s = cc
bad text ms (Err f) e (inr given) is p s = let one = sym (stands_is_read text ms p e s) ∙ given.1 in cc

pub errors : (text : List ℕ) (ms : Members) (r : Result (List Chain) Refusal) → Reads (λ p. p) r (plan_in ms) → IfErr r (λ e. (e ≡ BadConfig) ⊎ (e ≡ Memory))
errors text ms (Ok p) given = tt
errors text ms (Err f) (inl memory) = inr memory
errors text ms (Err f) (inr given) = inl given.0

pub no_text : (text : List ℕ) (p : List Chain) → parse_document text ≡ None → IsPlanText text p → ⊥
no_text text p e s = let one = sym s.read ∙ e in cc
