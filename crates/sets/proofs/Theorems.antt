-- The theorems of `Statements`, in its order.
-- Assumes nothing.
use mathlib.Core.Path.{sym, subst}
use mathlib.Core.Logic.{⊎_elim}
use Prim.Native.Nat.{ℕ}
use Rattle.sets.specs.Sets.{◌∈◌, single}
use Rattle.sets.specs.Statements.{MembersOfSets, EqualSets, Containment, RankAndCount, LowestMember}
use Rattle.sets.specs.Statements.{PlainContainment, MembersListed}
use Rattle.sets.proofs.Bits.{member_or_not}
use Rattle.sets.proofs.Sets.{has_yes, yes_has, ∩_in, ∩_left, ∩_right, ∪_left, ∪_right, ∪_cases}
use Rattle.sets.proofs.Sets.{∖_in, ∖_left, ∖_out}
use Rattle.sets.proofs.Sets.{in_single, single_in, ext, no_members, is_empty_yes, yes_is_empty, within_yes}
use Rattle.sets.proofs.Sets.{yes_within, ⊆_le}
use Rattle.sets.proofs.Plain.{each_yes, yes_each, plain_agrees}
use Rattle.sets.proofs.Ranks.{rank_lt_count, rank_lt, ones_count, lowest_in, below_lowest, lowest_le}
use Rattle.sets.proofs.Members.{members_has, members_only, members_ascending, length_members, get_d_members}

pub members_of_sets : (s t k : ℕ) → MembersOfSets s t k
members_of_sets s t k = record {
  of_either = member_or_not k s;
  of_test = (yes_has s k, has_yes);
  of_intersection = (λ i. (∩_left s t i, ∩_right s t i), λ p. ∩_in p.0 p.1);
  of_union = (∪_cases s t, λ p. ⊎_elim (∪_left t) (∪_right s) p);
  of_difference = (λ i. (∖_left s t i, ∖_out s t i), λ p. ∖_in p.0 p.1);
  of_single = (in_single, λ e. subst (λ (x : ℕ). k ∈ single x) e (single_in k));
}

pub equal_sets : (s t : ℕ) → EqualSets s t
equal_sets s t = record { extensional = ext; empty = no_members; empty_test = (yes_is_empty s, is_empty_yes) }

pub containment : (s t : ℕ) → Containment s t
containment s t = record { test = (yes_within s t, within_yes); not_larger = ⊆_le }

pub plain_containment : (w s t : ℕ) → PlainContainment w s t
plain_containment w s t = record { plain = (yes_each w s t, each_yes w s t); agree = plain_agrees w s t }

pub rank_and_count : (w s : ℕ) → RankAndCount w s
rank_and_count w s = record {
  below = λ h {k} i. rank_lt_count w h i;
  ascending = rank_lt;
  of_ones = λ h. sym (ones_count w h);
}

pub lowest_member : (w s : ℕ) → LowestMember w s
lowest_member w s = record { is_member = lowest_in w s; none_below = below_lowest w s; at_most = lowest_le w s }

pub members_listed : (w s : ℕ) → MembersListed w s
members_listed w s = record {
  listed = (λ m. members_only w s m, λ p. members_has w p.0 p.1);
  ascending = members_ascending w s 0;
  counted = length_members w s;
  at_rank = get_d_members w 0;
}
