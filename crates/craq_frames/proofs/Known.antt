-- Known bytes of readers and writers, over two calls in a row.
use Rattle.std.proofs.Common.{◌≡◌, ◌≤◌, ℕ, ◌+◌, List, [], ◌++◌, Option, Some, None, length, take, drop, sym, refl, ap, subst, ◌∙◌, append_assoc, arith}
use Rattle.std.specs.Io.KnownBytes.{Appends, Consumes, Keeps}
use Rattle.std.proofs.lemmas.List.{append-nil, take-append-drop, take-append-le, take-take, take_at, drop_at, drop-take}
use borrow.Rule.Slice.PartMut.{put_mid, post_of}

pub consumes_none : (a : Option (List ℕ)) → Consumes a a []
consumes_none None = tt
consumes_none (Some xs) = refl

pub consumes_then : (a b c : Option (List ℕ)) (x y : List ℕ) → Consumes a b x → Consumes b c y → Consumes a c (x ++ y)
consumes_then None b c x y h k = tt
consumes_then (Some xs) None c x y h k = absurd h
consumes_then (Some xs) (Some ys) None x y h k = absurd k
consumes_then (Some xs) (Some ys) (Some zs) x y h k = h ∙ ap (λ (t : List ℕ). x ++ t) k ∙ sym (append_assoc x y zs)

pub keeps_then : (a b c : Option (List ℕ)) (x : List ℕ) → Consumes a b x → Keeps b c → Consumes a c x
keeps_then None b c x h k = tt
keeps_then (Some xs) None c x h k = absurd h
keeps_then (Some xs) (Some ys) None x h k = absurd k
keeps_then (Some xs) (Some ys) (Some zs) x h k = h ∙ ap (λ (t : List ℕ). x ++ t) (sym k)

pub appends_none : (a : Option (List ℕ)) → Appends a a []
appends_none None = tt
appends_none (Some xs) = sym (append-nil xs)

pub appends_then : (a b c : Option (List ℕ)) (x y : List ℕ) → Appends a b x → Appends b c y → Appends a c (x ++ y)
appends_then None b c x y h k = tt
appends_then (Some xs) None c x y h k = absurd h
appends_then (Some xs) (Some ys) None x y h k = absurd k
appends_then (Some xs) (Some ys) (Some zs) x y h k = k ∙ ap (λ (t : List ℕ). t ++ y) h ∙ append_assoc xs x y

pub kept_then : (a b c : Option (List ℕ)) (x : List ℕ) → Appends a b x → Keeps b c → Appends a c x
kept_then None b c x h k = tt
kept_then (Some xs) None c x h k = absurd h
kept_then (Some xs) (Some ys) None x h k = absurd k
kept_then (Some xs) (Some ys) (Some zs) x h k = k ∙ h

pub take_more : (n m : ℕ) (xs : List ℕ) → take (n + m) xs ≡ take n xs ++ take m (drop n xs)
take_more n m xs =
    sym (take-append-drop n (take (n + m) xs))
    ∙ ap (λ (t : List ℕ). t ++ drop n (take (n + m) xs)) (take-take n (n + m) xs (omega arith))
    ∙ ap (λ (t : List ℕ). take n xs ++ t) (drop-take n m xs)

-- a read that gave nothing
pub consumes_end : (a b c : Option (List ℕ)) (x y : List ℕ) → Consumes a b x → Consumes b c y → y ≡ [] → Consumes a c x
consumes_end a b c x y h k e = subst (λ (t : List ℕ). Consumes a c t) (ap (λ (t : List ℕ). x ++ t) e ∙ append-nil x) (consumes_then a b c x y h k)

-- bytes that were read into the room behind those that were there, of which the first n are kept
pub read_behind : (was now got over : List ℕ) (at n k all : ℕ) → at ≡ length was → take at now ≡ was → at + n ≤ all → n ≤ length got
    → take (at + n) (take all (put_mid at k now got ++ over)) ≡ was ++ take n got
read_behind was now got over at n k all long front within few =
    let post = post_of at k now in
    let whole : put_mid at k now got ++ over ≡ was ++ (got ++ (post ++ over)) =
    append_assoc (take at now) (got ++ post) over ∙ ap (λ (x : List ℕ). x ++ ((got ++ post) ++ over)) front ∙ ap (λ (x : List ℕ). was ++ x) (append_assoc got post over) in
    take-take (at + n) all (put_mid at k now got ++ over) within
    ∙ ap (take (at + n)) whole
    ∙ take_more at n (was ++ (got ++ (post ++ over)))
    ∙ ap (λ (x : List ℕ). x ++ take n (drop at (was ++ (got ++ (post ++ over))))) (take_at was (got ++ (post ++ over)) at (sym long))
    ∙ ap (λ (x : List ℕ). was ++ take n x) (drop_at was (got ++ (post ++ over)) at (sym long))
    ∙ ap (λ (x : List ℕ). was ++ x) (take-append-le n got (post ++ over) few)
