-- Grown sets: the set that is grown from a start is the least one that holds it and to which no object can be added, so
-- it is the same in whatever order objects are held.
-- In order: the attributes held, the rule, one round, the grown set, every order, who was asked.
-- Assumes nothing.
use mathlib.Core.Path.{◌≡◌, refl, sym, ap, ◌∙◌, subst}
use mathlib.Core.Bool.{Bool, true, false, ◌&&◌, ◌||◌}
use mathlib.Core.Logic.{◌⊎◌, inl, inr, ⊎_elim}
use mathlib.Core.List.Memᴰ
use mathlib.Core.List.{List, [], ◌∷◌, map, Memᴰ}
use Rattle.std.proofs.Common.{Option, Some, None, IfSome}
use Prim.Native.Nat.{ℕ, zero, suc, ◌+◌, ◌^◌, ◌≤◌, ◌<◌}
use native.Mathlib.Nat.{not-suc-le-zero, le_of_suc-le-suc, eq-or-lt_of_le, lt_trans, le_refl}
use native.Mathlib.Omega.{arith}
use lib.ListN.{get_or}
use lib.Pow.{pow_pos}
use Rattle.sets.specs.Sets.{◌∈◌, ◌∉◌, ◌⊆◌, has, within, ◌∩◌, insert, single, members, ATTRIBUTES, OBJECTS}
use Rattle.sets.proofs.Tests.{yes_or_no, yes_no, not_yes, and_yes, yes_and, or_left, or_right, yes_or}
use Rattle.sets.proofs.Bits.{in_out, member_or_not, member_lt, lt_of_members}
use Rattle.sets.proofs.Sets.{has_yes, yes_has, ∪_left, ∪_cases, single_in, in_single, insert_in, ⊆_refl, ⊆_trans}
use Rattle.sets.proofs.Sets.{∩_in, ∩_left, ∩_right, ∩_mono, ∪_⊆}
use Rattle.sets.proofs.Sets.{⊆_∪_left, within_yes, yes_within, ⊆_lt, ∩_lt, ∪_lt, single_lt, zero_out, ext}
use Rattle.sets.proofs.Members.{members_has, members_only}
use Rattle.reduction.specs.Statements.{OfAttributes, StandsIn}
use Rattle.reduction.proofs.Left.{union-⊇, in_union}
use Rattle.scheme.specs.Dependencies.{Dependency, closure}
use Rattle.scheme.specs.Growing.{family_of, attributes_of, joins, NoneJoins, LeastGrown, Holding, ended, hold}
use Rattle.scheme.specs.Growing.{holding, round, rounds, grown}
use Rattle.scheme.specs.OfScheme.{NotJoined}
use Rattle.scheme.specs.Statements.{Bounded, Shared, JoinsByTheRule, GrownInEveryOrder}
use Rattle.scheme.proofs.Repeating.{Repeats, Grows, EndsIn, repeats_⊆, repeats_ends}
use Rattle.scheme.proofs.Closing.{closure_least, closure_mono}

-- ---- the attributes held

-- y is what f gives of a number of the list
pub record ImageOf (f : ℕ → ℕ) (l : List ℕ) (y : ℕ) : Type 0 where
  pub of : ℕ
  pub there : Memᴰ of l
  pub gives : y ≡ f of

pub of_map : (f : ℕ → ℕ) (l : List ℕ) {y : ℕ} → Memᴰ y (map f l) → ImageOf f l y
of_map f [] m = absurd (Memᴰ.not-nil m)
of_map f (x ∷ l) (Memᴰ.head e) = record { of = x; there = Memᴰ.head refl; gives = e }
of_map f (x ∷ l) (Memᴰ.tail m) =
    let i = of_map f l m in
    record { of = i.of; there = Memᴰ.tail i.there; gives = i.gives }

pub map_in : (f : ℕ → ℕ) {x : ℕ} {l : List ℕ} → Memᴰ x l → Memᴰ (f x) (map f l)
map_in f (Memᴰ.head e) = Memᴰ.head (ap f e)
map_in f (Memᴰ.tail m) = Memᴰ.tail (map_in f m)

pub attributes_mono : (sets : List ℕ) {H K : ℕ} → H ⊆ K → attributes_of sets H ⊆ attributes_of sets K
unfolding attributes_of family_of
attributes_mono sets {H} {K} h = record { each = λ {k = a} i. held (in_union (family_of sets H) i) }
  where
    held : {a : ℕ} → StandsIn a (family_of sets H) → a ∈ attributes_of sets K
    held {a} s =
        let i = of_map (λ k. get_or sets k 0) (members OBJECTS H) s.there in
        let m = members_only OBJECTS H i.there in
        (union-⊇ (map_in (λ k. get_or sets k 0) (members_has OBJECTS m.0 (h.each m.1)))).each
        (subst (λ (u : ℕ). a ∈ u) i.gives s.held)

-- an object's set is one of attributes, where each of the list is
set_lt : (sets : List ℕ) → OfAttributes sets → (k : ℕ) → get_or sets k 0 < 2 ^ ATTRIBUTES
set_lt [] o k = pow_pos ATTRIBUTES
set_lt (s ∷ sets) o zero = o.bounded s (Memᴰ.head refl)
set_lt (s ∷ sets) o (suc k) = set_lt sets (record { bounded = λ t m. o.bounded t (Memᴰ.tail m) }) k

-- an attribute held is one of an object's that is held, and the other way round
held_of : (sets : List ℕ) (H : ℕ) {a : ℕ} → a ∈ attributes_of sets H → (j : ℕ) × (j ∈ H) × (a ∈ get_or sets j 0)
unfolding attributes_of family_of
held_of sets H {a} i =
    let s = in_union (family_of sets H) i in
    let p = of_map (λ k. get_or sets k 0) (members OBJECTS H) s.there in
    (p.of, (members_only OBJECTS H p.there).1, subst (λ (u : ℕ). a ∈ u) p.gives s.held)

of_held : (sets : List ℕ) {H j a : ℕ} → H < 2 ^ OBJECTS → j ∈ H → a ∈ get_or sets j 0 → a ∈ attributes_of sets H
unfolding attributes_of family_of
of_held sets {H} l i m =
    (union-⊇ (map_in (λ k. get_or sets k 0) (members_has OBJECTS (member_lt OBJECTS l i) i))).each m

module _ (D : List Dependency) (sets : List ℕ) (objects : ℕ) where
  -- ---- one round

  -- the test of an object in a round
  abbrev stays : ℕ → ℕ → Bool
  stays H k = has H k || (has objects k && joins D sets H k)

  held_or_joins : (H k : ℕ) → stays H k ≡ true → (k ∈ H) ⊎ ((k ∈ objects) × (joins D sets H k ≡ true))
  held_or_joins H k e =
      ⊎_elim (λ y. inl (yes_has H k y)) (λ y. inr (both (yes_and (has objects k) (joins D sets H k) y)))
      (yes_or (has H k) (has objects k && joins D sets H k) e)
    where
      both : (has objects k ≡ true) × (joins D sets H k ≡ true) → (k ∈ objects) × (joins D sets H k ≡ true)
      both p = (yes_has objects k p.0, p.1)

  in_holding : (H n : ℕ) {a : ℕ} → a ∈ holding D sets objects H n → (a < n) × (stays H a ≡ true)
  unfolding holding
  in_holding H zero {a} i = absurd (in_out i (zero_out a))
  in_holding H (suc n) {a} i = by (stays H n) refl (λ m. in_holding H n m) i
    where
      older : (a < n) × (stays H a ≡ true) → (a < suc n) × (stays H a ≡ true)
      older p = (lt_trans p.0 (le_refl (suc n)), p.1)

      newest : stays H n ≡ true → a ≡ n → (a < suc n) × (stays H a ≡ true)
      newest y e = (omega arith, subst (λ (x : ℕ). stays H x ≡ true) (sym e) y)

      by : (b : Bool) → stays H n ≡ b → (a ∈ holding D sets objects H n → (a < n) × (stays H a ≡ true))
          → a ∈ elim b [ true ↦ insert (holding D sets objects H n) n | false ↦ holding D sets objects H n ]
          → (a < suc n) × (stays H a ≡ true)
      by true y ih m =
          ⊎_elim (λ o. older (ih o)) (λ s. newest y (in_single s)) (∪_cases (holding D sets objects H n) (single n) m)
      by false _ ih m = older (ih m)

  holding_in : (H n : ℕ) {a : ℕ} → a < n → stays H a ≡ true → a ∈ holding D sets objects H n
  unfolding holding
  holding_in H zero h e = absurd (not-suc-le-zero h)
  holding_in H (suc n) {a} h e =
      by (stays H n) refl (λ l. holding_in H n l e) (eq-or-lt_of_le (le_of_suc-le-suc h))
    where
      by : (b : Bool) → stays H n ≡ b → (a < n → a ∈ holding D sets objects H n) → (a ≡ n) ⊎ (a < n)
          → a ∈ elim b [ true ↦ insert (holding D sets objects H n) n | false ↦ holding D sets objects H n ]
      by true y ih (inl z) =
          subst (λ (x : ℕ). x ∈ insert (holding D sets objects H n) n) (sym z)
          (insert_in (holding D sets objects H n) n)
      by true y ih (inr l) = ∪_left (single n) (ih l)
      by false n ih (inl z) = absurd (yes_no e (ap (stays H) z ∙ n))
      by false n ih (inr l) = ih l

  pub round_grows : Grows OBJECTS (round D sets objects)
  round_grows H h =
      record {
        each = λ {k} i.
            holding_in H OBJECTS (member_lt OBJECTS h i) (or_left (has objects k && joins D sets H k) (has_yes i));
      }

  -- who did not join in a round does not, as long as it shares no more
  pub not_joined : (H : ℕ) {R before : ℕ} → R ≡ round D sets objects H → before ≡ attributes_of sets H
      → NotJoined D sets objects R before
  unfolding joins
  not_joined H {R} {before} e b = record {
    apart = λ k h i o.
        not_yes
        (λ y. in_out
        (subst (λ (x : ℕ). k ∈ x) (sym e)
        (holding_in H OBJECTS h
        (or_right (has H k) (and_yes (has_yes i)
        (ap (λ (x : ℕ). within (get_or sets k 0) (closure D (get_or sets k 0 ∩ x))) (sym b) ∙ y))))) o);
  }

  round_lt : (H : ℕ) → H < 2 ^ OBJECTS → round D sets objects H < 2 ^ OBJECTS
  round_lt H h = lt_of_members (round D sets objects H) OBJECTS (λ k i. (in_holding H OBJECTS i).0)

  pub rounds_repeat : Repeats (round D sets objects) (rounds D sets objects)
  unfolding rounds
  rounds_repeat = record { none = λ A. refl; more = λ n A. refl }

  -- whatever the dependencies and sets are, the set grown from one of OBJECTS objects is a set of them
  grown_ends : {start : ℕ} → start < OBJECTS → EndsIn rounds_repeat OBJECTS (single start) (grown D sets objects start)
  unfolding grown
  grown_ends {start} h =
      repeats_ends rounds_repeat OBJECTS round_grows round_lt (2 ^ OBJECTS) (single start) (single_lt OBJECTS h)
      (omega arith)

  -- ---- the rule

  module _ (o : Bounded D sets objects) where
    -- with more objects held, no fewer can be held
    pub joins_mono : {H K : ℕ} → H ⊆ K → (k : ℕ) → joins D sets H k ≡ true → joins D sets K k ≡ true
    unfolding joins
    joins_mono {H} {K} h k e =
        let s : ℕ = get_or sets k 0 in
        within_yes (⊆_trans (yes_within s (closure D (s ∩ attributes_of sets H)) e)
        (closure_mono D o.dependencies (∩_lt (attributes_of sets K) ATTRIBUTES (set_lt sets o.attributes k))
        (∩_mono s (attributes_mono sets h))))

    -- there is one least closed set around the attributes shared, the closure
    pub joins_by_the_rule : {H : ℕ} → H < 2 ^ OBJECTS → (k : ℕ) → JoinsByTheRule D sets H k
    unfolding joins
    joins_by_the_rule {H} h k =
        let s : ℕ = get_or sets k 0 in
        let A : ℕ = s ∩ attributes_of sets H in
        let c = closure_least D o.dependencies (∩_lt (attributes_of sets H) ATTRIBUTES
        (set_lt sets o.attributes k)) in
        record {
          shares = A;
          is_shared = λ a. (λ i. shared_of i, λ w. ∩_in w.own (of_held sets h w.held w.theirs));
          exactly = λ C l. (
            λ e. ⊆_trans (yes_within s (closure D A) e) (c.least C l.around l.closed),
            λ i. within_yes (⊆_trans i (l.least (closure D A) c.around c.closed)),
          );
          some = (closure D A, c);
        }
      where
        shared_of : {a : ℕ} → a ∈ get_or sets k 0 ∩ attributes_of sets H → Shared sets H k a
        shared_of i =
            let w = held_of sets H (∩_right (get_or sets k 0) (attributes_of sets H) i) in
            record { own = ∩_left (get_or sets k 0) (attributes_of sets H) i; holder = w.0; held = w.1; theirs = w.2 }

    -- a set that no object joins keeps what grows inside it
    joins_inside : {H S : ℕ} → NoneJoins D sets objects S → H ⊆ S → (k : ℕ) → k ∈ objects → joins D sets H k ≡ true
        → k ∈ S
    joins_inside n h k i e = n.held k i (joins_mono h k e)

    round_⊆ : {S : ℕ} → NoneJoins D sets objects S → (H : ℕ) → H ⊆ S → round D sets objects H ⊆ S
    round_⊆ {S} n H h = record {
      each = λ {k} i. ⊎_elim (λ m. h.each m) (λ p. joins_inside n h k p.0 p.1)
          (held_or_joins H k (in_holding H OBJECTS i).1);
    }

    round_fixed : {H : ℕ} → round D sets objects H ≡ H → NoneJoins D sets objects H
    round_fixed {H} e = record {
      held = λ k i j. subst (λ (x : ℕ). k ∈ x) e
          (holding_in H OBJECTS (member_lt OBJECTS o.declared i) (or_right (has H k) (and_yes (has_yes i) j)));
    }

    -- ---- the grown set

    module _ {start : ℕ} (i : start ∈ objects) where
      start_lt : start < OBJECTS
      start_lt = member_lt OBJECTS o.declared i

      pub grown_least : LeastGrown D sets objects start (grown D sets objects start)
      unfolding grown
      grown_least = record {
        holds_start = (grown_ends start_lt).around.each (single_in start);
        closed = round_fixed (grown_ends start_lt).fixed;
        least = λ H m n. repeats_⊆ rounds_repeat (round_⊆ n) (2 ^ OBJECTS) (single start) (start_in m);
      }
        where
          start_in : {H : ℕ} → start ∈ H → single start ⊆ H
          start_in {H} m = record { each = λ s. subst (λ (x : ℕ). x ∈ H) (sym (in_single s)) m }

      -- it has declared objects only
      pub grown_⊆ : grown D sets objects start ⊆ objects
      grown_⊆ = grown_least.least objects i (record { held = λ k m e. m })

    -- ---- every order

    holding-⊇ : {H G : ℕ} → Holding D sets objects H G → H ⊆ G
    holding-⊇ {H} (ended n) = ⊆_refl H
    holding-⊇ {H} (hold k i m e w) = ⊆_trans (⊆_∪_left H (single k)) (holding-⊇ w)

    holding_none : {H G : ℕ} → Holding D sets objects H G → NoneJoins D sets objects G
    holding_none (ended n) = n
    holding_none (hold k i m e w) = holding_none w

    insert_⊆ : {H S : ℕ} (k : ℕ) → H ⊆ S → k ∈ S → insert H k ⊆ S
    insert_⊆ {H} {S} k h m = ∪_⊆ h (record { each = λ s. subst (λ (x : ℕ). x ∈ S) (sym (in_single s)) m })

    holding_⊆ : {H G S : ℕ} → Holding D sets objects H G → NoneJoins D sets objects S → H ⊆ S → G ⊆ S
    holding_⊆ (ended _) n h = h
    holding_⊆ {S = S} (hold k i m e w) n h = holding_⊆ w n (insert_⊆ k h (joins_inside n h k i e))

    -- an object that can be held next
    record NextHeld (H : ℕ) : Type 0 where
      object : ℕ
      declared : object ∈ objects
      new : object ∉ H
      joining : joins D sets H object ≡ true

    abbrev NoneBelow : ℕ → ℕ → Type 0
    NoneBelow H n = (k : ℕ) → k < n → k ∈ objects → joins D sets H k ≡ true → k ∈ H

    none_more : {H n : ℕ} → NoneBelow H n → (n ∈ objects → joins D sets H n ≡ true → n ∈ H) → NoneBelow H (suc n)
    none_more {H} {n} none here k l i e = ⊎_elim newest (λ g. none k g i e) (eq-or-lt_of_le (le_of_suc-le-suc l))
      where
        newest : k ≡ n → k ∈ H
        newest q =
            subst (λ (x : ℕ). x ∈ H) (sym q)
            (here (subst (λ (x : ℕ). x ∈ objects) q i) (subst (λ (x : ℕ). joins D sets H x ≡ true) q e))

    next_or_none : (H n : ℕ) → NextHeld H ⊎ NoneBelow H n
    next_or_none H zero = inr (λ k l. absurd (not-suc-le-zero l))
    next_or_none H (suc n) =
        ⊎_elim inl (λ none. newest none (member_or_not n objects) (member_or_not n H) (yes_or_no (joins D sets H n)))
        (next_or_none H n)
      where
        newest : NoneBelow H n → (n ∈ objects) ⊎ (n ∉ objects) → (n ∈ H) ⊎ (n ∉ H)
            → (joins D sets H n ≡ true) ⊎ (joins D sets H n ≡ false) → NextHeld H ⊎ NoneBelow H (suc n)
        newest none (inr x) h t = inr (none_more none (λ i e. absurd (in_out i x)))
        newest none (inl i) (inl m) t = inr (none_more none (λ _ e. m))
        newest none (inl i) (inr m) (inl e) = inl (record { object = n; declared = i; new = m; joining = e })
        newest none (inl i) (inr m) (inr x) = inr (none_more none (λ _ e. absurd (yes_no e x)))

    -- from every set of objects some order leads to an end
    some_order : (n H : ℕ) → H < 2 ^ OBJECTS → 2 ^ OBJECTS ≤ H + n → (G : ℕ) × Holding D sets objects H G
    some_order zero H h enough = absurd (omega arith)
    some_order (suc n) H h enough =
        ⊎_elim (λ x. after x (λ l g. some_order n (insert H x.object) l (omega arith)))
        (λ none. (H, ended (record { held = λ k i e. none k (member_lt OBJECTS o.declared i) i e })))
        (next_or_none H OBJECTS)
      where
        after : (x : NextHeld H)
            → (insert H x.object < 2 ^ OBJECTS → H < insert H x.object
            → (G : ℕ) × Holding D sets objects (insert H x.object) G)
            → (G : ℕ) × Holding D sets objects H G
        after x next =
            let k : ℕ = x.object in
            let l : insert H k < 2 ^ OBJECTS = ∪_lt OBJECTS h
            (single_lt OBJECTS (member_lt OBJECTS o.declared x.declared)) in
            let differs : H ≡ insert H k → ⊥ =
            λ q. in_out (subst (λ (u : ℕ). k ∈ u) (sym q) (insert_in H k)) x.new in
            let r = next l (⊆_lt (⊆_∪_left H (single k)) differs) in
            (r.0, hold k x.declared x.new x.joining r.1)

    module _ {start : ℕ} (i : start ∈ objects) where
      every_order : {G : ℕ} → Holding D sets objects (single start) G → G ≡ grown D sets objects start
      every_order {G} w =
          let g = grown_least i in
          ext (holding_⊆ w g.closed (grown_ends (start_lt i)).around)
          (g.least G ((holding-⊇ w).each (single_in start)) (holding_none w))

      pub grown_in_every_order : GrownInEveryOrder D sets objects start
      grown_in_every_order =
          let w = some_order (2 ^ OBJECTS) (single start) (single_lt OBJECTS (start_lt i)) (omega arith) in
          record {
            every = λ G v. every_order v;
            some = subst (Holding D sets objects (single start)) (every_order w.1) w.1;
          }

-- an object that is declared and not held, where the objects may have been asked before: it did not join then
pub asked_apart : (D : List Dependency) (sets : List ℕ) {objects H k : ℕ} (asked : Option ℕ)
    → IfSome asked (NotJoined D sets objects H) → k < OBJECTS → k ∈ objects → k ∉ H
    → IfSome asked (λ before. within (get_or sets k 0) (closure D (get_or sets k 0 ∩ before)) ≡ false)
asked_apart D sets None q h i o = q
asked_apart D sets (Some before) q h i o = q.apart _ h i o
