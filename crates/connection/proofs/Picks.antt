-- Picks: which they are, how many, and their order.
-- In order: elements in front, the picks, their number, places, lists in order, picks in order, lists with the same
-- members.
-- Assumes nothing.
use mathlib.Core.Path.{◌≡◌, refl, sym, ap, ap₂, ◌∙◌, subst}
use mathlib.Core.Logic.{◌↔◌, ⊎_elim}
use mathlib.Core.List.Memᴰ
use mathlib.Core.List.{List, [], ◌∷◌, ◌++◌, map, tail, Memᴰ}
use Prim.Native.Nat.{ℕ, zero, suc, ◌+◌, ◌*◌, ◌<◌, suc-le-suc}
use native.Mathlib.Nat.{not-suc-le-zero, le_of_suc-le-suc, zero-lt-suc, suc-mul, zero-mul}
use native.Mathlib.Omega.{arith}
use lib.ListN.{length, get_or, length-append, length-map}
use Rattle.connection.specs.Picks.{in_front, picks_of, product, Before, first, next}

-- ---- elements in front

module _ {A : Type 0} where
  -- l is one of the elements in front of one of the lists
  record InFront (xs : List A) (ls : List (List A)) (l : List A) : Type 0 where
    element : A
    there : Memᴰ element xs
    rest : List A
    rest_there : Memᴰ rest ls
    joins : l ≡ element ∷ rest

  of_in_front : (xs : List A) {ls : List (List A)} {l : List A} → Memᴰ l (in_front xs ls) → InFront xs ls l
  unfolding in_front
  of_in_front [] m = absurd (Memᴰ.not-nil m)
  of_in_front (x ∷ xs) {ls} {l} m =
      ⊎_elim front (λ i. later (of_in_front xs i)) (Memᴰ.append_cases (map (λ q. x ∷ q) ls) m)
    where
      front : Memᴰ l (map (λ q. x ∷ q) ls) → InFront (x ∷ xs) ls l
      front i =
          let p = Memᴰ.of_map (λ q. x ∷ q) ls i in
          record { element = x; there = Memᴰ.head refl; rest = p.0; rest_there = p.1; joins = sym p.2 }

      later : InFront xs ls l → InFront (x ∷ xs) ls l
      later p = record {
        element = p.element;
        there = Memᴰ.tail p.there;
        rest = p.rest;
        rest_there = p.rest_there;
        joins = p.joins;
      }

  in_front_has : {x : A} {xs : List A} {l : List A} {ls : List (List A)} → Memᴰ x xs → Memᴰ l ls
      → Memᴰ (x ∷ l) (in_front xs ls)
  unfolding in_front
  in_front_has {xs = []} i m = elim i [ ]
  in_front_has {xs = y ∷ xs} {l} {ls} (Memᴰ.head e) m =
      Memᴰ.append_left (in_front xs ls) (Memᴰ.cast (ap (λ (z : A). z ∷ l) e) (Memᴰ.map (λ q. y ∷ q) m))
  in_front_has {xs = y ∷ xs} {ls = ls} (Memᴰ.tail i) m =
      Memᴰ.append_right (map (λ q. y ∷ q) ls) (in_front_has i m)

-- ---- the picks

-- one element for each of some things
pub data Each {I A : Type 0} (P : I → A → Type 0) : List I → List A → Type 0 where
  none : Each P [] []
  one : {i : I} {is : List I} {x : A} {l : List A} → P i x → Each P is l → Each P (i ∷ is) (x ∷ l)

module _ {I A : Type 0} (F : I → List A) where
  -- one element of the list of each thing
  abbrev pub OneOfEach : List I → List A → Type 0
  OneOfEach = Each (λ i x. Memᴰ x (F i))

  pub of_picks : (is : List I) {l : List A} → Memᴰ l (picks_of (map F is)) → OneOfEach is l
  unfolding picks_of
  of_picks [] m = subst (OneOfEach []) (sym (Memᴰ.eq_of_singleton m)) none
  of_picks (i ∷ is) m =
      let p = of_in_front (F i) m in
      subst (OneOfEach (i ∷ is)) (sym p.joins) (one p.there (of_picks is p.rest_there))

  pub picks_have : {is : List I} {l : List A} → OneOfEach is l → Memᴰ l (picks_of (map F is))
  unfolding picks_of
  picks_have none = Memᴰ.head refl
  picks_have (one m e) = in_front_has m (picks_have e)

-- ---- their number

module _ {A : Type 0} where
  in_front_length : (xs : List A) (ls : List (List A)) → length (in_front xs ls) ≡ length xs * length ls
  unfolding in_front
  in_front_length [] ls = sym (zero-mul (length ls))
  in_front_length (x ∷ xs) ls =
      let e : suc (length xs) * length ls ≡ length xs * length ls + length ls = suc-mul (length xs) (length ls) in
      length-append (map (λ l. x ∷ l) ls) (in_front xs ls)
      ∙ ap₂ (λ (m n : ℕ). m + n) (length-map ls (λ l. x ∷ l)) (in_front_length xs ls)
      ∙ omega (arith, e)

module _ {I A : Type 0} (F : I → List A) (count : I → ℕ) (counted : (i : I) → length (F i) ≡ count i) where
  pub picks_counted : (is : List I) → length (picks_of (map F is)) ≡ product (map count is)
  unfolding picks_of product
  picks_counted [] = refl
  picks_counted (i ∷ is) =
      in_front_length (F i) (picks_of (map F is)) ∙ ap₂ (λ (m n : ℕ). m * n) (counted i) (picks_counted is)

-- ---- places

module _ {A : Type 0} where
  pub at_member : (l : List A) (d : A) (i : ℕ) → i < length l → Memᴰ (get_or l i d) l
  at_member [] d i h = absurd (not-suc-le-zero h)
  at_member (x ∷ l) d zero h = Memᴰ.head refl
  at_member (x ∷ l) d (suc i) h = Memᴰ.tail (at_member l d i (le_of_suc-le-suc h))

  member_place : (d : A) {x : A} {l : List A} → Memᴰ x l → (i : ℕ) × (i < length l) × (get_or l i d ≡ x)
  member_place d (Memᴰ.head e) = (0, zero-lt-suc _, sym e)
  member_place d (Memᴰ.tail m) = let p = member_place d m in (suc p.0, suc-le-suc p.1, p.2)

-- ---- lists in order

-- each element stands before each later one
pub data InOrder {A : Type 0} (R : A → A → Type 0) : List A → Type 0 where
  none : InOrder R []
  more : {x : A} {l : List A} → ((y : A) → Memᴰ y l → R x y) → InOrder R l → InOrder R (x ∷ l)

module _ {A : Type 0} {R : A → A → Type 0} where
  pub order_append : {k l : List A} → InOrder R k → InOrder R l
      → ((x y : A) → Memᴰ x k → Memᴰ y l → R x y) → InOrder R (k ++ l)
  order_append none b h = b
  order_append {k = x ∷ k} (more n a) b h =
      more (λ y m. ⊎_elim (n y) (h x y (Memᴰ.head refl)) (Memᴰ.append_cases k m))
      (order_append a b (λ x y i j. h x y (Memᴰ.tail i) j))

  -- by places
  pub order_at : (d : A) {l : List A} → InOrder R l → (i j : ℕ) → i < j → j < length l → R (get_or l i d) (get_or l j d)
  order_at d none i j h k = absurd (not-suc-le-zero k)
  order_at d (more n a) i zero h k = absurd (not-suc-le-zero h)
  order_at d (more {l = l} n a) zero (suc j) h k = n (get_or l j d) (at_member l d j (le_of_suc-le-suc k))
  order_at d (more n a) (suc i) (suc j) h k = order_at d a i j (le_of_suc-le-suc h) (le_of_suc-le-suc k)

  pub at_order : (d : A) (l : List A)
      → ((i j : ℕ) → i < j → j < length l → R (get_or l i d) (get_or l j d)) → InOrder R l
  at_order d [] h = none
  at_order d (x ∷ l) h =
      more
      (λ y m.
      let (i, k, e) = member_place d m in
      subst (R x) e (h 0 (suc i) (zero-lt-suc _) (suc-le-suc k)))
      (at_order d l (λ i j p q. h (suc i) (suc j) (suc-le-suc p) (suc-le-suc q)))

pub order_map : {A B : Type 0} {R : A → A → Type 0} {S : B → B → Type 0} (f : A → B)
    → ((x y : A) → R x y → S (f x) (f y)) → {l : List A} → InOrder R l → InOrder S (map f l)
order_map f h none = none
order_map {S = S} f h (more {x = x} {l = l} n a) =
    more
    (λ y m.
    let p = Memᴰ.of_map f l m in
    subst (S (f x)) p.2 (h x p.0 (n p.0 p.1))) (order_map f h a)

-- ---- picks in order

module _ {I A : Type 0} {R : I → A → A → Type 0} where
  front_in_order : {i : I} {is : List I} {xs : List A} {ls : List (List A)} → InOrder (R i) xs
      → InOrder (Before R is) ls → InOrder (Before R (i ∷ is)) (in_front xs ls)
  unfolding in_front
  front_in_order none b = none
  front_in_order {i} {is} {ls = ls} (more {x = x} {l = xs} n a) b =
      order_append (order_map (λ l. x ∷ l) (λ p q. next) b) (front_in_order a b) across
    where
      across : (p q : List A) → Memᴰ p (map (λ l. x ∷ l) ls) → Memᴰ q (in_front xs ls)
          → Before R (i ∷ is) p q
      across p q j k =
          let r = Memᴰ.of_map (λ l. x ∷ l) ls j in
          let s = of_in_front xs k in
          subst (λ (p' : List A). Before R (i ∷ is) p' q) r.2
          (subst (Before R (i ∷ is) (x ∷ r.0)) (sym s.joins) (first (n s.element s.there)))

  pub picks_in_order : (F : I → List A) (is : List I) → ((i : I) → Memᴰ i is → InOrder (R i) (F i))
      → InOrder (Before R is) (picks_of (map F is))
  unfolding picks_of
  picks_in_order F [] h = more (λ y m. absurd (Memᴰ.not-nil m)) none
  picks_in_order F (i ∷ is) h =
      front_in_order (h i (Memᴰ.head refl)) (picks_in_order F is (λ j m. h j (Memᴰ.tail m)))

  -- the same of picks that are equal to these
  not_both_of : ((i : I) (x y : A) → R i x y → R i y x → ⊥) → {is : List I} {p q p' q' : List A} → Before R is p q
      → Before R is q' p' → p ≡ p' → q ≡ q' → ⊥
  not_both_of h (first {i} {x = x} {y} r) (first {x = y'} {y = x'} s) e f =
      let ex : x ≡ x' = ap (λ (l : List A). get_or l 0 x) e in
      let ey : y ≡ y' = ap (λ (l : List A). get_or l 0 y) f in
      h i x y r (subst (R i y) (sym ex) (subst (λ (z : A). R i z x') (sym ey) s))
  not_both_of h (first {i} {x = x} {y} r) (next {x = z} s) e f =
      let ex : x ≡ z = ap (λ (l : List A). get_or l 0 x) e in
      let ey : y ≡ z = ap (λ (l : List A). get_or l 0 y) f in
      let t : R i z z = subst (λ (u : A). R i u z) ex (subst (R i x) ey r) in
      h i z z t t
  not_both_of h (next {i} {x = z} r) (first {x = y} {y = x} s) e f =
      let ex : z ≡ x = ap (λ (l : List A). get_or l 0 z) e in
      let ey : z ≡ y = ap (λ (l : List A). get_or l 0 z) f in
      let t : R i z z = subst (λ (u : A). R i u z) (sym ey) (subst (R i y) (sym ex) s) in
      h i z z t t
  not_both_of h (next r) (next s) e f = not_both_of h r s (ap tail e) (ap tail f)

  -- no two picks stand before each other, where no two elements do
  pub before_not_both : ((i : I) (x y : A) → R i x y → R i y x → ⊥) → {is : List I} {p q : List A} → Before R is p q
      → Before R is q p → ⊥
  before_not_both h r s = not_both_of h r s refl refl

-- ---- lists with the same members: where no two elements stand before each other, one list in order has them

module _ {A : Type 0} {R : A → A → Type 0} (not_both : (x y : A) → R x y → R y x → ⊥) where
  -- each once
  pub order_once : (d : A) {l : List A} → InOrder R l → (i j : ℕ) → i < length l → j < length l
      → get_or l i d ≡ get_or l j d → i ≡ j
  order_once d none i j h k e = absurd (not-suc-le-zero h)
  order_once d (more n a) zero zero h k e = refl
  order_once d (more {x = x} {l = l} n a) zero (suc j) h k e =
      let r : R x (get_or l j d) = n (get_or l j d) (at_member l d j (le_of_suc-le-suc k)) in
      let s : R x x = subst (R x) (sym e) r in
      absurd (not_both x x s s)
  order_once d (more {x = x} {l = l} n a) (suc i) zero h k e =
      let r : R x (get_or l i d) = n (get_or l i d) (at_member l d i (le_of_suc-le-suc h)) in
      let s : R x x = subst (R x) e r in
      absurd (not_both x x s s)
  order_once d (more n a) (suc i) (suc j) h k e =
      ap suc (order_once d a i j (le_of_suc-le-suc h) (le_of_suc-le-suc k) e)

  first_once : {x : A} {l : List A} → ((y : A) → Memᴰ y l → R x y) → Memᴰ x l → ⊥
  first_once {x} n m = not_both x x (n x m) (n x m)

  pub order_only : (l m : List A) → InOrder R l → InOrder R m → ((x : A) → Memᴰ x l ↔ Memᴰ x m) → l ≡ m
  order_only [] [] a b s = refl
  order_only [] (y ∷ m) a b s = absurd (Memᴰ.not-nil ((s y).1 (Memᴰ.head refl)))
  order_only (x ∷ l) [] a b s = absurd (Memᴰ.not-nil ((s x).0 (Memᴰ.head refl)))
  order_only (x ∷ l) (y ∷ m) (more n a) (more k b) s =
      ap₂ (λ (z : A) (t : List A). z ∷ t) e (order_only l m a b (λ z. (forth z, back z)))
    where
      by : Memᴰ x (y ∷ m) → Memᴰ y (x ∷ l) → x ≡ y
      by (Memᴰ.head z) i = z
      by (Memᴰ.tail i) (Memᴰ.head z) = sym z
      by (Memᴰ.tail i) (Memᴰ.tail j) = absurd (not_both x y (n y j) (k x i))

      e : x ≡ y
      e = by ((s x).0 (Memᴰ.head refl)) ((s y).1 (Memᴰ.head refl))

      forth : (z : A) → Memᴰ z l → Memᴰ z m
      forth z i = behind ((s z).0 (Memᴰ.tail i))
        where
          behind : Memᴰ z (y ∷ m) → Memᴰ z m
          behind (Memᴰ.head w) = absurd (first_once n (subst (λ (u : A). Memᴰ u l) (w ∙ sym e) i))
          behind (Memᴰ.tail j) = j

      back : (z : A) → Memᴰ z m → Memᴰ z l
      back z i = behind ((s z).1 (Memᴰ.tail i))
        where
          behind : Memᴰ z (x ∷ l) → Memᴰ z l
          behind (Memᴰ.head w) = absurd (first_once k (subst (λ (u : A). Memᴰ u m) (w ∙ e) i))
          behind (Memᴰ.tail j) = j
