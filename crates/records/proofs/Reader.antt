-- Laws of reading: callers go by these and need not look into `read_at`.
-- In order: an answer from the bytes; the bytes from an answer; what `read` finds; bytes that stand at a position;
-- reading is the inverse of writing, for one record and for records one after another.
-- Assumes nothing.
use mathlib.Core.Path.{◌≡◌, refl, sym, ap, ◌∙◌, subst}
use mathlib.Core.Logic.{◌↔◌}
use mathlib.Core.Bool.{Bool, true, false, not}
use mathlib.Core.List.{List, [], ◌∷◌, ◌++◌, append_assoc}
use Prim.Native.Nat.{ℕ, ◌+◌, ◌-◌, ◌≤◌, ◌<◌}
use native.Mathlib.Nat.{add-zero}
use native.Mathlib.Numerals.{add-one}
use native.Mathlib.Omega.{arith}
use native.Mathlib.Decide.{dec_lt}
use borrow.Author.Tests.{leb-true, leb-false, le-leb, lt-leb, not-true, not-false}
use lib.Dec.{leb}
use lib.ListN.{length, get_or, take, drop, length-append, length-drop, drop_of_length-le, take-append-drop}
use lib.Seq.{drop-cons, drop-drop, drop-append_seam, drop-append-add, get_or-drop}
use Rattle.records.specs.Fields.{AreBytes}
use Rattle.records.specs.Records.{is_kind, body_length, kind_of, bytes_of, bytes_of_all, InWidth, AllInWidth}
use Rattle.records.specs.Reader.{record_of, read_front, read_at, NoKind, CutShort, Whole, Means}
use Rattle.records.specs.Reader.{Stands, Reads, done, more}
use Rattle.records.specs.declared.Record.{Record}
use Rattle.records.specs.declared.Reading.{Reading}
use Rattle.records.specs.declared.Reading.TheVariants.{Nothing, Unknown, Short, Found}
use Rattle.records.proofs.Fields.{bytes_drop}
use Rattle.records.proofs.Records.{shape, length_bytes_of}
use Rattle.records.proofs.Records.{record_of_written, bytes_of_record_of, kind_of_record_of, in_width_record_of}

-- ---- an answer from the bytes

pub read_at_nothing : (s : List ℕ) (at : ℕ) → length s ≤ at → read_at s at ≡ Nothing
unfolding read_at read_front
read_at_nothing s at h = rw (drop_of_length-le s h)

drop_inside : (s : List ℕ) (at : ℕ) → at < length s → drop at s ≡ get_or s at 0 ∷ drop (at + 1) s
drop_inside s at h = rw (drop-cons s at 0, ← add-one at)

-- At a position inside, the kind byte stands before the rest.
read_at_inside : (s : List ℕ) (at : ℕ) → at < length s → read_at s at ≡ read_front at (get_or s at 0 ∷ drop (at + 1) s)
unfolding read_at
read_at_inside s at h = ap (read_front at) (drop_inside s at h)

pub read_at_unknown : (s : List ℕ) (at : ℕ) → NoKind s at → read_at s at ≡ Unknown
unfolding read_front
read_at_unknown s at h = read_at_inside s at h.within ∙ simp h.kind

pub read_at_short : (s : List ℕ) (at k : ℕ) → CutShort s at k → read_at s at ≡ Short k
unfolding read_front
read_at_short s at k h =
    let cut : length (drop (at + 1) s) < body_length k = rw length-drop (omega arith) in
    read_at_inside s at h.within ∙ simp (h.byte, h.kind, lt-leb (body_length k) (length (drop (at + 1) s)) cut)

pub read_at_whole : (s : List ℕ) (at : ℕ) {r : Record} {next : ℕ} → Whole s at r next → read_at s at ≡ Found r next
unfolding read_front
read_at_whole s at {r} h =
    let fits : body_length (kind_of r) ≤ length (drop (at + 1) s) = rw length-drop (omega arith) in
    read_at_inside s at (omega arith)
    ∙ simp (h.byte, (shape r).kind, le-leb (body_length (kind_of r)) (length (drop (at + 1) s)) fits)
    (λ i. Found (sym h.body i) (sym h.place i))

-- ---- the bytes from an answer

-- A whole body after a kind byte is that kind's record.
whole_found : (s : List ℕ) (at k : ℕ) → get_or s at 0 ≡ k → is_kind k ≡ true → at + 1 + body_length k ≤ length s
    → Whole s at (record_of k (drop (at + 1) s)) (at + 1 + body_length k)
whole_found s at k byte kind fits =
    let same : k ≡ kind_of (record_of k (drop (at + 1) s)) = sym (kind_of_record_of (drop (at + 1) s) k kind) in
    record {
      byte = byte ∙ same;
      place = ap (λ (k : ℕ). at + 1 + body_length k) same;
      within = fits;
      body = ap (λ (k : ℕ). record_of k (drop (at + 1) s)) same;
    }

means_inside : (s : List ℕ) (at k : ℕ) → at < length s → get_or s at 0 ≡ k → (kind : Bool) → is_kind k ≡ kind
    → (whole : Bool) → leb (at + 1 + body_length k) (length s) ≡ whole → Means s at (read_at s at)
unfolding Means
means_inside s at k h byte false e whole f =
    let w : NoKind s at = record { within = h; kind = ap is_kind byte ∙ e } in
    subst (Means s at) (sym (read_at_unknown s at w)) w
means_inside s at k h byte true e false f =
    let w : CutShort s at k = record { within = h; byte = byte; kind = e; cut = leb-false _ _ f } in
    subst (Means s at) (sym (read_at_short s at k w)) w
means_inside s at k h byte true e true f =
    let w = whole_found s at k byte e (leb-true _ _ f) in
    subst (Means s at) (sym (read_at_whole s at w)) w

-- Whatever reading gives, it means what it says.
pub read_at_means : (s : List ℕ) (at : ℕ) → Means s at (read_at s at)
unfolding Means
read_at_means s at =
    elim (dec_lt at (length s)) [
      | yes h ↦ means_inside s at (get_or s at 0) h refl (is_kind (get_or s at 0)) refl _ refl
      | no h ↦ subst (Means s at) (sym (read_at_nothing s at (omega arith))) (omega arith)
    ]

pub means_read_at : (s : List ℕ) (at : ℕ) (x : Reading) → Means s at x → read_at s at ≡ x
unfolding Means
means_read_at s at Nothing h = read_at_nothing s at h
means_read_at s at Unknown h = read_at_unknown s at h
means_read_at s at (Short k) h = read_at_short s at k h
means_read_at s at (Found r next) h = read_at_whole s at h

-- Reading gives an answer exactly if the answer means what is there.
pub read_at_iff : (s : List ℕ) (at : ℕ) (x : Reading) → (read_at s at ≡ x) ↔ Means s at x
read_at_iff s at x = (λ e. subst (Means s at) e (read_at_means s at), means_read_at s at x)

pub nothing_read_at : (s : List ℕ) (at : ℕ) → read_at s at ≡ Nothing → length s ≤ at
unfolding Means
nothing_read_at s at e = (read_at_iff s at Nothing).0 e

pub unknown_read_at : (s : List ℕ) (at : ℕ) → read_at s at ≡ Unknown → NoKind s at
unfolding Means
unknown_read_at s at e = (read_at_iff s at Unknown).0 e

pub short_read_at : (s : List ℕ) (at : ℕ) {k : ℕ} → read_at s at ≡ Short k → CutShort s at k
unfolding Means
short_read_at s at {k} e = (read_at_iff s at (Short k)).0 e

pub whole_read_at : (s : List ℕ) (at : ℕ) {r : Record} {next : ℕ} → read_at s at ≡ Found r next → Whole s at r next
unfolding Means
whole_read_at s at {r} {next} e = (read_at_iff s at (Found r next)).0 e

-- A record read takes at least its kind byte.
pub found_after : (s : List ℕ) (at : ℕ) {r : Record} {next : ℕ} → read_at s at ≡ Found r next → at < next
found_after s at e = omega (arith, (whole_read_at s at e).place)

-- ---- what `read` finds: its answer at each return, from its tests there

pub finds_nothing : (s : List ℕ) (at : ℕ) → length s ≤ at → Nothing ≡ read_at s at
finds_nothing s at h = sym (read_at_nothing s at h)

pub finds_unknown : (s : List ℕ) (at : ℕ) (b : Bool) → at < length s → b ≡ is_kind (get_or s at 0) → not b ≡ true
    → Unknown ≡ read_at s at
finds_unknown s at b h e f = sym (read_at_unknown s at (record { within = h; kind = sym e ∙ not-true b f }))

pub finds_kind : (k : ℕ) (b : Bool) → b ≡ is_kind k → not b ≡ false → is_kind k ≡ true
finds_kind k b e f = sym e ∙ not-false b f

module _ (s : List ℕ) (at n : ℕ) (b : Bool) (inside : at < length s) (size : n ≡ body_length (get_or s at 0))
    (kind : b ≡ is_kind (get_or s at 0)) (known : not b ≡ false) where
  pub finds_short : length s - (at + 1) < n → Short (get_or s at 0) ≡ read_at s at
  finds_short h =
      let cut : length s < at + 1 + body_length (get_or s at 0) = omega arith in
      let is : is_kind (get_or s at 0) ≡ true = sym kind ∙ not-false b known in
      sym (read_at_short s at _ (record { within = inside; byte = refl; kind = is; cut = cut }))

  pub finds_record : (r : Record) → n ≤ length s - (at + 1) → r ≡ record_of (get_or s at 0) (drop (at + 1) s)
      → Found r (at + 1 + n) ≡ read_at s at
  finds_record r h body =
      let fits : at + 1 + body_length (get_or s at 0) ≤ length s = omega arith in
      let found = whole_found s at (get_or s at 0) refl (sym kind ∙ not-false b known) fits in
      (λ i. Found (body i) (at + 1 + size i)) ∙ sym (read_at_whole s at found)

-- ---- bytes that stand at a position

pub stands_seam : (p bs q : List ℕ) → Stands (p ++ bs ++ q) (length p) bs (length p + length bs)
stands_seam p bs q = record {
  place = refl;
  within = simp length-append (omega arith);
  same = simp (append_assoc, drop-append-add, drop-append_seam);
}

-- Two runs of bytes that stand one after the other stand as one, and back.
pub stands_append : {s : List ℕ} {at : ℕ} {bs : List ℕ} {mid : ℕ} {cs : List ℕ} {next : ℕ}
    → Stands s at bs mid → Stands s mid cs next → Stands s at (bs ++ cs) next
stands_append {s} {at} {bs} {mid} {cs} {next} h k = record {
  place = rw length-append (omega arith);
  within = k.within;
  same = h.same ∙ ap (λ (l : List ℕ). bs ++ l) k.same ∙ sym (append_assoc bs cs (drop next s));
}

pub stands_rest : {s : List ℕ} {at : ℕ} (bs cs : List ℕ) {next : ℕ}
    → Stands s at (bs ++ cs) next → drop (at + length bs) s ≡ cs ++ drop next s
stands_rest {s} {at} bs cs {next} h =
    sym (drop-drop (length bs) at s) ∙ rw (h.same, append_assoc) (drop-append_seam bs (cs ++ drop next s))

pub stands_parts : {s : List ℕ} {at : ℕ} (bs cs : List ℕ) {next : ℕ}
    → Stands s at (bs ++ cs) next → Stands s at bs (at + length bs) × Stands s (at + length bs) cs next
stands_parts {s} {at} bs cs {next} h =
    let long : next ≡ at + (length bs + length cs) = rw length-append at h.place in (
      record {
        place = refl;
        within = omega (arith, h.within);
        same = h.same ∙ append_assoc bs cs (drop next s) ∙ rw (stands_rest bs cs h);
      },
      record { place = omega arith; within = h.within; same = stands_rest bs cs h },
    )

-- ---- reading is the inverse of writing: one record

stands_whole : {s : List ℕ} {at : ℕ} {r : Record} {next : ℕ} → InWidth r → Stands s at (bytes_of r) next
    → Whole s at r next
stands_whole {s} {at} {r} {next} width h =
    let rest : List ℕ = drop 1 (bytes_of r) ++ drop next s in
    let front : drop at s ≡ kind_of r ∷ rest = h.same ∙ ap (λ (l : List ℕ). l ++ drop next s) (shape r).split in
    let here : get_or s at 0 ≡ get_or (drop at s) 0 0 = sym (rw add-zero at (get_or-drop at s 0 0)) in
    let after : drop (at + 1) s ≡ rest = sym (drop-drop 1 at s) ∙ ap (drop 1) front in
    record {
      byte = here ∙ ap (λ (l : List ℕ). get_or l 0 0) front;
      place = omega (arith, h.place, length_bytes_of r);
      within = h.within;
      body = sym (rw after (record_of_written r (drop next s) width));
    }

-- Reading what was written.
pub stands_read_at : {s : List ℕ} {at : ℕ} {r : Record} {next : ℕ} → InWidth r → Stands s at (bytes_of r) next
    → read_at s at ≡ Found r next
stands_read_at {s} {at} width h = read_at_whole s at (stands_whole width h)

pub read_at_written : (p : List ℕ) (r : Record) (q : List ℕ) → InWidth r
    → read_at (p ++ bytes_of r ++ q) (length p) ≡ Found r (length p + length (bytes_of r))
read_at_written p r q width = stands_read_at width (stands_seam p (bytes_of r) q)

whole_stands : (s : List ℕ) (at : ℕ) {r : Record} {next : ℕ} → Whole s at r next
    → bytes_of r ≡ kind_of r ∷ take (body_length (kind_of r)) (drop (at + 1) s) → Stands s at (bytes_of r) next
whole_stands s at {r} {next} w written =
    let n : ℕ = body_length (kind_of r) in
    let b : List ℕ = drop (at + 1) s in
    let rest : drop next s ≡ drop n b = rw w.place (sym (drop-drop n (at + 1) s)) in
    let cut : kind_of r ∷ b ≡ kind_of r ∷ (take n b ++ drop n b) = rw take-append-drop in
    record {
      place = omega (arith, w.place, length_bytes_of r);
      within = w.within;
      same = drop_inside s at (omega arith) ∙ rw (w.byte, written, rest) cut;
    }

-- What was read is what was written.
pub read_at_stands : (s : List ℕ) (at : ℕ) {r : Record} {next : ℕ} → AreBytes s → read_at s at ≡ Found r next
    → InWidth r × Stands s at (bytes_of r) next
read_at_stands s at {r} {next} given e =
    let w = whole_read_at s at e in
    let b : List ℕ = drop (at + 1) s in
    let given-b : AreBytes b = bytes_drop s (at + 1) given in
    let fits : body_length (kind_of r) ≤ length b = rw length-drop (omega arith) in
    let written = ap bytes_of w.body ∙ bytes_of_record_of b (kind_of r) given-b (shape r).kind fits in (
      subst InWidth (sym w.body) (in_width_record_of b (kind_of r) given-b (shape r).kind),
      whole_stands s at w written,
    )

-- ---- reading is the inverse of writing: records one after another

pub stands_reads : {s : List ℕ} {at : ℕ} (rs : List Record) {next : ℕ} → AllInWidth rs
    → Stands s at (bytes_of_all rs) next → Reads s at rs next
unfolding bytes_of_all AllInWidth
stands_reads {s} {at} [] {next} width h = subst (Reads s at []) (sym (h.place ∙ add-zero at)) done
stands_reads {s} {at} (r ∷ rs) {next} width h =
    let parts = stands_parts (bytes_of r) (bytes_of_all rs) h in
    more (stands_read_at width.0 parts.0) (stands_reads {at = at + length (bytes_of r)} rs width.1 parts.1)

pub reads_written : (p : List ℕ) (rs : List Record) (q : List ℕ) → AllInWidth rs
    → Reads (p ++ bytes_of_all rs ++ q) (length p) rs (length p + length (bytes_of_all rs))
reads_written p rs q width = stands_reads rs width (stands_seam p (bytes_of_all rs) q)

pub reads_stand : {s : List ℕ} {at : ℕ} {rs : List Record} {next : ℕ} → AreBytes s → at ≤ length s → Reads s at rs next
    → AllInWidth rs × Stands s at (bytes_of_all rs) next
unfolding bytes_of_all AllInWidth
reads_stand {at = at} given h done = (tt, record { place = sym (add-zero at); within = h; same = refl })
reads_stand {s} {at} given h (more e t) =
    let first = read_at_stands s at given e in
    let later = reads_stand given first.1.within t in
    ((first.0, later.0), stands_append first.1 later.1)

-- Reading to the end gives one list of records only.
pub reads_unique : {s : List ℕ} {at : ℕ} {rs : List Record} {next : ℕ} {rs' : List Record} {next' : ℕ}
    → Reads s at rs next → length s ≤ next → Reads s at rs' next' → length s ≤ next' → rs ≡ rs'
reads_unique done h done k = refl
reads_unique {s} {at} done h (more e t) k =
    let z : ◌≡◌ {A = ℕ} 0 1 = cc (read_at_nothing s at h) in absurd (omega arith)
reads_unique {s} {at} (more e t) h done k =
    let z : ◌≡◌ {A = ℕ} 0 1 = cc (read_at_nothing s at k) in absurd (omega arith)
reads_unique {s} (more {mid = m} {r = r} e t) h (more {mid = m'} {r = r'} {rs = rs'} e' t') k =
    let same : r ≡ r' = cc in
    let there : m' ≡ m = cc in
    let later = reads_unique t h (rw there at t') k in
    λ i. same i ∷ later i
