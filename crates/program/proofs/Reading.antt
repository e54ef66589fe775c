-- What calls of `read` and `write` move, one behind another.
use Rattle.std.proofs.Common.{◌≡◌, ℕ, ◌+◌, ◌≤◌, List, ◌++◌, length, take, drop, Option, sym, ap, ◌∙◌, subst, le_refl, drop_at, length-take-le, take-take}
use Rattle.std.proofs.lemmas.Slice.{take-put_mid_below}
use Rattle.std.proofs.lemmas.List.{take-append-le}
use Rattle.std.proofs.Math.Seq.{take-add}
use Rattle.std.specs.Io.KnownBytes.{Appends, Consumes, Keeps}
use Rattle.std.proofs.KnownBytes.{Appends-trans, Consumes-trans, Consumes-kept}
use borrow.Rule.Slice.PartMut.{put_mid, post_of}

-- the front of a buffer, after a call that filled m bytes behind the first n
front_filled : (n m k : ℕ) (xs ys : List ℕ) → n ≤ length xs → m ≤ length ys
    → take n xs ++ take m ys ≡ take (n + m) (put_mid n k xs ys)
front_filled n m k xs ys within fits =
    let after = post_of n k xs in
    let front = take-put_mid_below n k xs ys n (le_refl n) within in
    let back = ap (take m) (drop_at (take n xs) (ys ++ after) n (length-take-le n xs within)) ∙ take-append-le m ys after fits in
    sym (take-add n m (put_mid n k xs ys) ∙ ap (λ l. l ++ take m (drop n (put_mid n k xs ys))) front ∙ ap (λ l. take n xs ++ l) back)

pub read_behind : (a b c : Option (List ℕ)) (n m k : ℕ) (xs ys : List ℕ) → n ≤ length xs → m ≤ length ys
    → Consumes a b (take n xs) → Consumes b c (take m ys) → Consumes a c (take (n + m) (put_mid n k xs ys))
read_behind a b c n m k xs ys within fits p q =
    subst (Consumes a c) (front_filled n m k xs ys within fits) (Consumes-trans a b c _ _ p q)

pub written_behind : (a b c : Option (List ℕ)) (n m k : ℕ) (xs : List ℕ) → m ≤ k
    → Appends a b (take n xs) → Appends b c (take m (take k (drop n xs))) → Appends a c (take (n + m) xs)
written_behind a b c n m k xs fits p q =
    let both : take n xs ++ take m (take k (drop n xs)) ≡ take (n + m) xs =
    ap (λ l. take n xs ++ l) (take-take m k (drop n xs) fits) ∙ sym (take-add n m xs) in
    subst (Appends a c) both (Appends-trans a b c _ _ p q)

-- a call that fails has moved nothing
pub read_nothing : (a b c : Option (List ℕ)) (n k : ℕ) (xs ys : List ℕ) → n ≤ length xs
    → Consumes a b (take n xs) → Keeps b c → Consumes a c (take n (put_mid n k xs ys))
read_nothing a b c n k xs ys within p q =
    subst (Consumes a c) (sym (take-put_mid_below n k xs ys n (le_refl n) within)) (Consumes-kept a b c _ p q)
