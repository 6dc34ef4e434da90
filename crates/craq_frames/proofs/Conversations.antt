-- Serving, one part after the other.
use Rattle.std.proofs.Common.{◌≡◌, ℕ, ◌+◌, ◌<◌, ◌≤◌, inl, inr, Bool, true, false, List, [], ◌∷◌, ◌++◌, length, take, drop, Result, Ok, Err, IfOk, IfErr, refl, sym, ap, subst, ◌∙◌, append_assoc, arith, length-append, take-append-drop}
use Rattle.std.specs.List.{flat_map}
use Rattle.std.proofs.lemmas.List.{append-nil}
use Rattle.std.proofs.lemmas.Grind.{flat_map-append}
use Rattle.std.proofs.lemmas.List.Concat.{flat_map-cons}
use Rattle.craq_names.specs.declared.refusal.Refusal.{Refusal}
use Rattle.craq_names.specs.declared.refusal.Refusal.TheVariants as refusals
use Rattle.craq_names.proofs.Lists.{all_append}
use Rattle.craq_frames.specs.Frame.{frame, payload_limit}
use Rattle.craq_wire.specs.NumberEncoding.{number}
use Rattle.std.specs.Int.{w32}
use Rattle.craq_frames.proofs.Lengths.{len32}
use Rattle.craq_frames.specs.Serving.{Turn, Replies, RepliesEach, Served, idle, neither, reader, writer, IsUsedUp, Conversation, Next, Batch}

-- ---- whole frames and their replies

pub served_none : {D : Type 0} (turn : Turn D) (d : D) (input : List ℕ) → Served turn d input input [] 0 d
served_none turn d input = record { payloads = []; answers = []; frames = refl; within = tt; replies = refl; count = refl; each = refl }

pub served_one : {D : Type 0} (turn : Turn D) (a b : D) (input rest unsent payload reply : List ℕ) → length payload ≤ payload_limit → input ≡ frame payload ++ rest → unsent ≡ frame reply
    → Replies turn a payload reply b → Served turn a input rest unsent 1 b
served_one turn a b input rest unsent payload reply within parts reported h = record {
  payloads = payload ∷ [];
  answers = reply ∷ [];
  frames = parts ∙ ap (λ (t : List ℕ). t ++ rest) (sym (append-nil (frame payload)) ∙ sym (flat_map-cons frame payload []));
  within = (within, tt);
  replies = reported ∙ sym (append-nil (frame reply)) ∙ sym (flat_map-cons frame reply []);
  count = refl;
  each = (b, h, refl);
}

each_then : {D : Type 0} (turn : Turn D) (a b c : D) (ps rs qs ss : List (List ℕ)) → RepliesEach turn a ps rs b → RepliesEach turn b qs ss c → RepliesEach turn a (ps ++ qs) (rs ++ ss) c
each_then turn a b c [] [] qs ss h k = subst (λ x. RepliesEach turn x qs ss c) h k
each_then turn a b c [] (r ∷ rs) qs ss h k = absurd h
each_then turn a b c (p ∷ ps) [] qs ss h k = absurd h
each_then turn a b c (p ∷ ps) (r ∷ rs) qs ss h k = (h.0, h.1, each_then turn h.0 b c ps rs qs ss h.2 k)

pub served_then : {D : Type 0} (turn : Turn D) (a b c : D) (read rest left written unsent : List ℕ) (n k : ℕ)
    → Served turn a read rest written n b → Served turn b rest left unsent k c → Served turn a read left (written ++ unsent) (n + k) c
served_then turn a b c read rest left written unsent n k h t = record {
  payloads = h.payloads ++ t.payloads;
  answers = h.answers ++ t.answers;
  frames = h.frames ∙ ap (λ (x : List ℕ). flat_map frame h.payloads ++ x) t.frames ∙ sym (append_assoc (flat_map frame h.payloads) (flat_map frame t.payloads) left)
      ∙ ap (λ (x : List ℕ). x ++ left) (sym (flat_map-append frame h.payloads t.payloads));
  within = all_append _ h.payloads t.payloads h.within t.within;
  replies = ap (λ (x : List ℕ). x ++ unsent) h.replies ∙ ap (λ (x : List ℕ). flat_map frame h.answers ++ x) t.replies ∙ sym (flat_map-append frame h.answers t.answers);
  count = omega (arith, h.count, t.count, length-append h.payloads t.payloads);
  each = each_then turn a b c h.payloads h.answers t.payloads t.answers h.each t.each;
}

-- more is read
pub served_read : {D : Type 0} (turn : Turn D) (a b : D) (read rest written more : List ℕ) (n : ℕ) → Served turn a read rest written n b → Served turn a (read ++ more) (rest ++ more) written n b
served_read turn a b read rest written more n h = record {
  payloads = h.payloads;
  answers = h.answers;
  frames = ap (λ (x : List ℕ). x ++ more) h.frames ∙ append_assoc (flat_map frame h.payloads) rest more;
  within = h.within;
  replies = h.replies;
  count = h.count;
  each = h.each;
}

-- a frame takes bytes
shorter : (ps : List (List ℕ)) (input rest : List ℕ) → input ≡ flat_map frame ps ++ rest → 1 ≡ length ps → length rest < length input
shorter [] input rest e c = absurd (omega (arith, c))
shorter (p ∷ ps) input rest e c =
    omega (
      arith,
      ap length e,
      length-append (flat_map frame (p ∷ ps)) rest,
      ap length (flat_map-cons frame p ps),
      length-append (number w32 (length p) ++ p) (flat_map frame ps),
      length-append (number w32 (length p)) p,
      len32 (length p),
    )

pub served_shorter : {D : Type 0} (turn : Turn D) (a b : D) (input rest unsent : List ℕ) → Served turn a input rest unsent 1 b → length rest < length input
served_shorter turn a b input rest unsent h = shorter h.payloads input rest h.frames h.count

-- ---- ends of a session

-- the part of the unsent bytes that was written, where a write failed
pub write_failed : {D : Type 0} (turn : Turn D) (a b c : D) (read input left written unsent : List ℕ) (n k m : ℕ) (r : Result Bool Refusal)
    → Served turn a read input written n b → Batch turn b input left unsent k c r → Conversation turn a read (written ++ take m unsent) c writer (Err refusals.Io)
write_failed turn a b c read input left written unsent n k m (Ok true) h t = (
  left,
  n + k,
  c,
  written ++ unsent,
  [],
  drop m unsent,
  served_then turn a b c read input left written unsent n k h t.0,
  idle refl,
  inl refl,
  append_assoc written (take m unsent) (drop m unsent) ∙ ap (λ (x : List ℕ). written ++ x) (take-append-drop m unsent) ∙ sym (append-nil (written ++ unsent)),
)
write_failed turn a b c read input left written unsent n k m (Ok false) h t = (
  left,
  n + k,
  c,
  written ++ unsent,
  [],
  drop m unsent,
  served_then turn a b c read input left written unsent n k h t,
  idle refl,
  inl refl,
  append_assoc written (take m unsent) (drop m unsent) ∙ ap (λ (x : List ℕ). written ++ x) (take-append-drop m unsent) ∙ sym (append-nil (written ++ unsent)),
)
write_failed turn a b c read input left written unsent n k m (Err refusals.FrameTooLong) h t = (
  t.0,
  n + k,
  c,
  written ++ t.1,
  t.2,
  drop m unsent,
  served_then turn a b c read input t.0 written t.1 n k h t.3,
  idle refl,
  inr t.4,
  append_assoc written (take m unsent) (drop m unsent) ∙ ap (λ (x : List ℕ). written ++ x) (take-append-drop m unsent ∙ t.5) ∙ sym (append_assoc written t.1 t.2),
)
write_failed turn a b c read input left written unsent n k m (Err refusals.Memory) h t = (
  t.0,
  n + k,
  t.1,
  written ++ unsent,
  [],
  drop m unsent,
  served_then turn a b t.1 read input t.0 written unsent n k h t.2,
  t.3,
  inl refl,
  append_assoc written (take m unsent) (drop m unsent) ∙ ap (λ (x : List ℕ). written ++ x) (take-append-drop m unsent) ∙ sym (append-nil (written ++ unsent)),
)
write_failed turn a b c read input left written unsent n k m (Err refusals.Exhausted) h t = (
  t.0,
  n + k,
  c,
  written ++ unsent,
  [],
  drop m unsent,
  served_then turn a b c read input t.0 written unsent n k h t.1,
  idle refl,
  inl refl,
  append_assoc written (take m unsent) (drop m unsent) ∙ ap (λ (x : List ℕ). written ++ x) (take-append-drop m unsent) ∙ sym (append-nil (written ++ unsent)),
)
write_failed turn a b c read input left written unsent n k m (Err _) h t = absurd t

-- a refusal of the batch, after the unsent bytes were written
pub batch_refused : {D : Type 0} (turn : Turn D) (a b c : D) (read input left written unsent : List ℕ) (n k : ℕ) (e : Refusal)
    → (e ≡ refusals.Exhausted → IsUsedUp (n + k) read) → Served turn a read input written n b → Batch turn b input left unsent k c (Err e) → Conversation turn a read (written ++ unsent) c neither (Err e)
batch_refused turn a b c read input left written unsent n k refusals.FrameTooLong many h t =
    (t.0, n + k, written ++ t.1, t.2, served_then turn a b c read input t.0 written t.1 n k h t.3, t.4, ap (λ (x : List ℕ). written ++ x) t.5 ∙ sym (append_assoc written t.1 t.2))
batch_refused turn a b c read input left written unsent n k refusals.Memory many h t =
    (t.0, n + k, t.1, served_then turn a b t.1 read input t.0 written unsent n k h t.2, t.3)
batch_refused turn a b c read input left written unsent n k refusals.Exhausted many h t =
    (t.0, n + k, served_then turn a b c read input t.0 written unsent n k h t.1, many refl)
batch_refused turn a b c read input left written unsent n k _ many h t = absurd t

-- less than a frame is left where a read failed
pub read_failed : {D : Type 0} (turn : Turn D) (a b c : D) (read input left written unsent : List ℕ) (n k : ℕ)
    → Served turn a read input written n b → Batch turn b input left unsent k c (Ok true) → Conversation turn a read (written ++ unsent) c reader (Err refusals.Io)
read_failed turn a b c read input left written unsent n k h t = (left, n + k, served_then turn a b c read input left written unsent n k h t.0, t.1)

-- or where there was no room for a read
pub no_room : {D : Type 0} (turn : Turn D) (a b c : D) (read input left written unsent : List ℕ) (n k : ℕ)
    → Served turn a read input written n b → Batch turn b input left unsent k c (Ok true) → Conversation turn a read (written ++ unsent) c neither (Err refusals.Memory)
no_room turn a b c read input left written unsent n k h t = (left, n + k, c, served_then turn a b c read input left written unsent n k h t.0, idle refl)

-- the end of the input between two frames
pub all_answered : {D : Type 0} (turn : Turn D) (a b c : D) (read input left written unsent : List ℕ) (n k : ℕ)
    → Served turn a read input written n b → Batch turn b input left unsent k c (Ok true) → left ≡ [] → Conversation turn a read (written ++ unsent) c neither (Ok (n + k))
all_answered turn a b c read input left written unsent n k h t e =
    subst (λ (x : List ℕ). Served turn a read x (written ++ unsent) (n + k) c) e (served_then turn a b c read input left written unsent n k h t.0)

-- the end of the input inside a frame
pub cut_short : {D : Type 0} (turn : Turn D) (a b c : D) (read input left written unsent : List ℕ) (n k : ℕ)
    → Served turn a read input written n b → Batch turn b input left unsent k c (Ok true) → 0 < length left → Conversation turn a read (written ++ unsent) c neither (Err refusals.Closed)
cut_short turn a b c read input left written unsent n k h t e = (left, n + k, served_then turn a b c read input left written unsent n k h t.0, t.1, e)

-- ---- a batch

-- a refusal of the next frame is the batch's
pub next_refused : {D : Type 0} (turn : Turn D) (a b c : D) (input rest left unsent more : List ℕ) (n : ℕ) (e : Refusal)
    → Served turn a input rest unsent n b → Next turn b rest left more c (Err e) → Batch turn a input left (unsent ++ more) n c (Err e)
next_refused turn a b c input rest left unsent more n refusals.FrameTooLong h t =
    (rest, unsent, more, subst (λ x. Served turn a input rest unsent n x) (sym t.1) h, t.0, refl)
next_refused turn a b c input rest left unsent more n refusals.Memory h t =
    (rest, b, subst (λ (x : List ℕ). Served turn a input rest x n b) (sym (ap (λ (x : List ℕ). unsent ++ x) t.1 ∙ append-nil unsent)) h, t.0)
next_refused turn a b c input rest left unsent more n _ h t = absurd t

-- no count ends with the next frame
pub next_goes_on : {D : Type 0} (turn : Turn D) (a b : D) (input rest unsent : List ℕ) (e : Refusal) → e ≡ refusals.Exhausted → Next turn a input rest unsent b (Err e) → ⊥
next_goes_on turn a b input rest unsent e used t = subst (λ (x : Refusal). Next turn a input rest unsent b (Err x)) used t

-- the end of the input
pub ended_so : {D : Type 0} (turn : Turn D) (a b c : D) (read input left written unsent items : List ℕ) (n k frames : ℕ) (r : Result ℕ Refusal)
    → Served turn a read input written n b → Batch turn b input left unsent k c (Ok true) → items ≡ left → frames ≡ n + k
    → IfOk r (λ m. (m ≡ frames) × (items ≡ [])) → IfErr r (λ e. (e ≡ refusals.Closed) × (0 < length items)) → Conversation turn a read (written ++ unsent) c neither r
ended_so turn a b c read input left written unsent items n k frames (Ok m) h t same counted ok err =
    subst (λ (x : ℕ). Conversation turn a read (written ++ unsent) c neither (Ok x)) (sym (ok.0 ∙ counted)) (all_answered turn a b c read input left written unsent n k h t (sym same ∙ ok.1))
ended_so turn a b c read input left written unsent items n k frames (Err e) h t same counted ok err =
    subst (λ (x : Refusal). Conversation turn a read (written ++ unsent) c neither (Err x)) (sym err.0)
    (cut_short turn a b c read input left written unsent n k h t (subst (λ (x : List ℕ). 0 < length x) same err.1))

-- ---- from one turn of reading and writing to the next

pub batch_served : {D : Type 0} (turn : Turn D) (b c : D) (input left unsent : List ℕ) (k : ℕ) (r : Bool) → Batch turn b input left unsent k c (Ok r) → Served turn b input left unsent k c
batch_served turn b c input left unsent k true t = t.0
batch_served turn b c input left unsent k false t = t

-- more replies are written
pub served_on : {D : Type 0} (turn : Turn D) (a b c : D) (read input left written unsent items : List ℕ) (n k frames : ℕ)
    → Served turn a read input written n b → Served turn b input left unsent k c → items ≡ left → frames ≡ n + k → Served turn a read items (written ++ unsent) frames c
served_on turn a b c read input left written unsent items n k frames h t same counted =
    subst (λ (x : List ℕ). Served turn a read x (written ++ unsent) frames c) (sym same)
    (subst (λ (x : ℕ). Served turn a read left (written ++ unsent) x c) (sym counted) (served_then turn a b c read input left written unsent n k h t))

-- and more is read
pub served_further : {D : Type 0} (turn : Turn D) (a b c : D) (read input left written unsent more items : List ℕ) (n k frames : ℕ)
    → Served turn a read input written n b → Served turn b input left unsent k c → items ≡ left ++ more → frames ≡ n + k → Served turn a (read ++ more) items (written ++ unsent) frames c
served_further turn a b c read input left written unsent more items n k frames h t same counted =
    subst (λ (x : List ℕ). Served turn a (read ++ more) x (written ++ unsent) frames c) (sym same)
    (served_read turn a c read left (written ++ unsent) more frames (served_on turn a b c read input left written unsent left n k frames h t refl counted))
