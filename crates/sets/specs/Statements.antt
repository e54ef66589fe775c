-- What is proved of sets, for every number and so for every width together. The proofs are in `proofs/Theorems.antt`,
-- in this order.
-- In order: members of sets made of sets, equal sets, containment and its plain form, rank and count, the lowest
-- member, the list of members.
-- Assumes nothing.
use Rattle.std.specs.Prelude.{◌≡◌, true, ◌↔◌, ◌⊎◌, ℕ, ◌^◌, ◌≤◌, ◌<◌, length, get_or}
use mathlib.Core.List.{Memᴰ}
use Rattle.std.specs.Int.Count.{ones}
use Rattle.sets.specs.Sets.{◌∈◌, ◌∉◌, has, ◌⊆◌, within, within_each, ◌∩◌, ◌∪◌, ◌∖◌, single, is_empty, rank, count}
use Rattle.sets.specs.Sets.{lowest, members}

-- who is a member of the sets that are made of s and t
pub record MembersOfSets (s t k : ℕ) : Type 0 where
  pub of_either : (k ∈ s) ⊎ (k ∉ s)
  pub of_test : (has s k ≡ true) ↔ (k ∈ s)
  pub of_intersection : (k ∈ s ∩ t) ↔ ((k ∈ s) × (k ∈ t))
  pub of_union : (k ∈ s ∪ t) ↔ ((k ∈ s) ⊎ (k ∈ t))
  pub of_difference : (k ∈ s ∖ t) ↔ ((k ∈ s) × (k ∉ t))
  pub of_single : (k ∈ single s) ↔ (k ≡ s)

-- sets with the same members are one number, and the set with no member is 0
pub record EqualSets (s t : ℕ) : Type 0 where
  pub extensional : s ⊆ t → t ⊆ s → s ≡ t
  pub empty : ((k : ℕ) → k ∉ s) → s ≡ 0
  pub empty_test : (is_empty s ≡ true) ↔ (s ≡ 0)

-- that every member of the one is a member of the other is the arithmetic test; a set that is contained is a number not
-- larger
pub record Containment (s t : ℕ) : Type 0 where
  pub test : (within s t ≡ true) ↔ (s ⊆ t)
  pub not_larger : s ⊆ t → s ≤ t

-- request 4, "A plain form that asks attribute by attribute is kept beside it, and the two are shown to agree on all
-- pairs of sets": of sets of w bits, for every w
pub record PlainContainment (w s t : ℕ) : Type 0 where
  pub plain : (within_each w s t ≡ true) ↔ ((k : ℕ) → k < w → k ∈ s → k ∈ t)
  pub agree : s < 2 ^ w → within_each w s t ≡ within s t

-- the rank of a member is below the count, ranks ascend strictly over the members, and the count is that of the ones
pub record RankAndCount (w s : ℕ) : Type 0 where
  pub below : s < 2 ^ w → {k : ℕ} → k ∈ s → rank s k < count w s
  pub ascending : {j k : ℕ} → j ∈ s → j < k → rank s j < rank s k
  pub of_ones : s < 2 ^ w → count w s ≡ ones s

-- the lowest member is a member and none lies below it; where there is none below w, it is w
pub record LowestMember (w s : ℕ) : Type 0 where
  pub is_member : lowest w s < w → lowest w s ∈ s
  pub none_below : {k : ℕ} → k < lowest w s → k ∉ s
  pub at_most : lowest w s ≤ w

-- the list has the members below w, ascending and so each once, its length is the count, and a member stands at its
-- rank
pub record MembersListed (w s : ℕ) : Type 0 where
  pub listed : {k : ℕ} → Memᴰ k (members w s) ↔ ((k < w) × (k ∈ s))
  pub ascending : {i j : ℕ} → i < j → j < length (members w s) → get_or (members w s) i 0 < get_or (members w s) j 0
  pub counted : length (members w s) ≡ count w s
  pub at_rank : {k : ℕ} → k < w → k ∈ s → get_or (members w s) (rank s k) 0 ≡ k
