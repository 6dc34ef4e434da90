-- A mini-transaction: its compares, reads and writes.
use Rattle.std.specs.Prelude.{ℕ, ◌<◌, ◌≤◌, ◌+◌, ◌==◌, nat_lt, max, Bool, false, ◌||◌, ◌&&◌, if◌then◌else◌, List, [], ◌∷◌, map, length, Result, Ok, Err}
use Rattle.std.specs.List.{IsDistinct, list_any}
use Rattle.craq_names.specs.Limits.{item_limit}
use Rattle.craq_names.specs.Maps.{same_bytes}
use Rattle.craq_names.specs.declared.name.ObjectId.{ObjectId}
use Rattle.craq_names.specs.declared.refusal.Refusal.{Refusal}
use Rattle.craq_names.specs.declared.refusal.Refusal.TheVariants.{TooManyItems, EmptyTransaction, DuplicateKey}

pub record Transaction : Type 0 where
  pub compares : List (ObjectId × ℕ)  -- each with its expected version
  pub reads : List ObjectId
  pub writes : List (ObjectId × List ℕ)  -- each with its new value

-- equal chains and keys
abbrev pub same_object : ObjectId → ObjectId → Bool
same_object o q = (o.chain == q.chain) && same_bytes o.key q.key

abbrev pub compared : Transaction → List ObjectId
compared t = map (λ (c : ObjectId × ℕ). c.0) t.compares

abbrev pub written : Transaction → List ObjectId
written t = map (λ (w : ObjectId × List ℕ). w.0) t.writes

-- at most 16 items in each list, no object twice in one list, and not all three empty
pub record IsWithinLimits (t : Transaction) : Type 0 where
  pub few_compares : length t.compares ≤ item_limit
  pub few_reads : length t.reads ≤ item_limit
  pub few_writes : length t.writes ≤ item_limit
  pub some : 0 < length t.compares + length t.reads + length t.writes
  pub compared_once : IsDistinct same_object (compared t)
  pub read_once : IsDistinct same_object t.reads
  pub written_once : IsDistinct same_object (written t)

-- some object occurs twice
abbrev pub stands_twice : List ObjectId → Bool
stands_twice [] = false
stands_twice (o ∷ os) = list_any (same_object o) os || stands_twice os

-- some object occurs twice in one of the lists
abbrev pub has_doubles : Transaction → Bool
has_doubles t = stands_twice (compared t) || stands_twice t.reads || stands_twice (written t)

-- the length of the longest list
abbrev pub most_items : Transaction → ℕ
most_items t = max (max (length t.compares) (length t.reads)) (length t.writes)

-- the transaction of three lists, or the first refusal that applies
abbrev pub mini_of : Transaction → Result Transaction Refusal
mini_of t =
    if nat_lt item_limit (most_items t) then Err TooManyItems
    else if most_items t == 0 then Err EmptyTransaction
    else if has_doubles t then Err DuplicateKey
    else Ok t
