-- The theorems of `specs/Statements.antt`, in its order.
-- In order: missing cells, the order by value, match, operators, the comparison table and its rules, sides turned.
-- Assumes nothing.
use Rattle.std.proofs.Common.{ℕ, refl, ◌∙◌}
use mathlib.Core.Bool.{or-false}
use Rattle.values.specs.Table.{built_in}
use Rattle.values.specs.Statements.{MissingCells, OrderedByValue, OrderedAcross, MatchesMean, OperatorsMean}
use Rattle.values.specs.Statements.{AllowedByItsByte, InRangeMeans}
use Rattle.values.specs.Statements.{TableAllows, RulesTested, BuiltInKeeps, AllowedMeans, Turned}
use Rattle.values.proofs.Values.{missing_lengths, missing_others, least_length, minus_one_law, missing_in_range}
use Rattle.values.proofs.Values.{matches_yes, matches_equal, matches_stated}
use Rattle.values.proofs.Values.{less_agrees, less_irreflexive, less_transitive, less_total}
use Rattle.values.proofs.Values.{less_key, key_injective, raised_order}
use Rattle.values.proofs.Operators.{numbered, holds_none, holds_means, holds_means_number, holds_mirror}
use Rattle.values.proofs.Operators.{holds_opposite}
use Rattle.values.proofs.Table.{rule, rule_none, built_in_rule, within_two, within_six, allows_no_left}
use Rattle.values.proofs.Table.{allows_by_byte}
use Rattle.values.proofs.Values.{angles_in_range, others_in_range}
use Rattle.values.proofs.Table.{allows_known, rules_tested, built_in_keeps, allows_mirror}

pub missing_cells : MissingCells
missing_cells = record {
  lengths = missing_lengths;
  others = missing_others;
  least = least_length;
  minus_one = minus_one_law;
  in_each_range = missing_in_range;
}

pub ordered_by_value : (kind : ℕ) → OrderedByValue kind
ordered_by_value kind = record {
  agrees = less_agrees kind;
  irreflexive = less_irreflexive kind;
  transitive = less_transitive kind;
  total = less_total kind;
  keyed = less_key kind;
  apart = key_injective kind;
}

pub ordered_across : OrderedAcross
unfolding OrderedAcross
ordered_across kind kind2 a b p q = raised_order kind kind2 p q

pub matches_mean : MatchesMean
unfolding MatchesMean
matches_mean kind a b =
    (λ e. (matches_stated kind a b e, matches_equal kind a b e), λ (n, e). matches_yes kind n e)

pub operators_mean : OperatorsMean
unfolding OperatorsMean
operators_mean = holds_means

pub table_allows : TableAllows
unfolding rule
table_allows = record {
  names = λ operator. within_two operator 0 (or-false _);
  angles = λ operator. within_two operator 2 (or-false _);
  lengths = λ operator. within_six operator 1 refl;
  dates = λ operator. within_six operator 3 refl;
  between = λ operator left right f. built_in_rule operator left right ∙ rule_none operator left right f;
  no_kind = λ operator kind. allows_no_left built_in operator kind kind;
}

pub allowed_by_its_byte : AllowedByItsByte
unfolding AllowedByItsByte
allowed_by_its_byte = allows_by_byte

pub in_range_means : InRangeMeans
in_range_means = record { angles = angles_in_range; others = others_in_range }

pub rules_are_tested : RulesTested
unfolding RulesTested
rules_are_tested = rules_tested

pub built_in_table_keeps : BuiltInKeeps
unfolding BuiltInKeeps
built_in_table_keeps = built_in_keeps

pub allowed_means : AllowedMeans
unfolding AllowedMeans
allowed_means table operator left right a b e =
    let (o, p) = numbered operator (allows_known table operator left right e).0 in
    (o, p, holds_means_number o operator left right a b p)

pub turned : Turned
turned = record {
  allowed = allows_mirror;
  held = holds_mirror;
  denied = holds_opposite;
  neither = holds_none;
}
