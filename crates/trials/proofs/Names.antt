-- The names that docs/STATEMENTS.md gives, contracts and theorems, imported: one that is gone is refused here. What the
-- main theorems say stands in `Index`.
-- Assumes nothing.
-- ---- contracts: each is that the function meets its `ensures` for all inputs
use Rattle.numbers.proofs.wide.Met.{met as numbers-wide}
use Rattle.numbers.proofs.place.Met.{met as numbers-place}
use Rattle.numbers.proofs.index.Met.{met as numbers-index}
use Rattle.numbers.proofs.long.Met.{met as numbers-long}
use Rattle.numbers.proofs.byte.Met.{met as numbers-byte}
use Rattle.numbers.proofs.flag.Met.{met as numbers-flag}
use Rattle.refusals.proofs.Refusal.number.Met.{met as refusals-number}
use Rattle.refusals.proofs.Refusal.from_number.Met.{met as refusals-from-number}
use Rattle.refusals.proofs.number.Met.{met as refusals-number-of-any}
use Rattle.sets.proofs.U32Mask.has.Met.{met as sets-has}
use Rattle.sets.proofs.U32Mask.within.Met.{met as sets-within}
use Rattle.sets.proofs.within_each.Met.{met as sets-within-each}
use Rattle.sets.proofs.U32Mask.intersection.Met.{met as sets-intersection}
use Rattle.sets.proofs.U32Mask.union.Met.{met as sets-union}
use Rattle.sets.proofs.U32Mask.difference.Met.{met as sets-difference}
use Rattle.sets.proofs.U32Mask.single.Met.{met as sets-single}
use Rattle.sets.proofs.Mask.insert.Met.{met as sets-insert}
use Rattle.sets.proofs.Mask.remove.Met.{met as sets-remove}
use Rattle.sets.proofs.U32Mask.is_empty.Met.{met as sets-is-empty}
use Rattle.sets.proofs.U32Mask.count.Met.{met as sets-count}
use Rattle.sets.proofs.rank.Met.{met as sets-rank}
use Rattle.sets.proofs.U32Mask.lowest.Met.{met as sets-lowest}
use Rattle.sets.proofs.U64Mask.has.Met.{met as sets-has-object}
use Rattle.sets.proofs.U64Mask.within.Met.{met as sets-objects-within}
use Rattle.sets.proofs.U64Mask.single.Met.{met as sets-single-object}
use Rattle.sets.proofs.U64Mask.is_empty.Met.{met as sets-no-objects}
use Rattle.sets.proofs.U64Mask.lowest.Met.{met as sets-lowest-object}
use Rattle.sets.proofs.U64Mask.intersection.Met.{met as sets-intersection-of-objects}
use Rattle.sets.proofs.U64Mask.union.Met.{met as sets-union-of-objects}
use Rattle.sets.proofs.U64Mask.difference.Met.{met as sets-difference-of-objects}
use Rattle.sets.proofs.U64Mask.count.Met.{met as sets-count-of-objects}
use Rattle.values.proofs.missing.Met.{met as values-missing}
use Rattle.values.proofs.in_range.Met.{met as values-in-range}
use Rattle.values.proofs.key.Met.{met as values-key}
use Rattle.values.proofs.less.Met.{met as values-less}
use Rattle.values.proofs.built_in.Met.{met as values-built-in}
use Rattle.values.proofs.allowed.Met.{met as values-allowed}
use Rattle.values.proofs.keeps_rules.Met.{met as values-keeps-rules}
use Rattle.values.proofs.holds.Met.{met as values-holds}
use Rattle.values.proofs.matching.Met.{met as values-matching}
use Rattle.records.proofs.byte_at.Met.{met as records-byte-at}
use Rattle.records.proofs.word_at.Met.{met as records-word-at}
use Rattle.records.proofs.long_at.Met.{met as records-long-at}
use Rattle.records.proofs.is_kind.Met.{met as records-is-kind}
use Rattle.records.proofs.is_of.Met.{met as records-is-of}
use Rattle.records.proofs.unread.Met.{met as records-unread}
use Rattle.records.proofs.body_length.Met.{met as records-body-length}
use Rattle.records.proofs.masks_of.Met.{met as records-masks-of}
use Rattle.records.proofs.kind_of.Met.{met as records-kind-of}
use Rattle.records.proofs.read.Met.{met as records-read}
use Rattle.reduction.proofs.union_of.Met.{met as reduction-union-of}
use Rattle.reduction.proofs.is_removable.Met.{met as reduction-is-removable}
use Rattle.reduction.proofs.shrink.Met.{met as reduction-shrink}
use Rattle.reduction.proofs.maximal_sets.Met.{met as reduction-maximal-sets}
use Rattle.reduction.proofs.kept_sets.Met.{met as reduction-kept-sets}
use Rattle.reduction.proofs.is_acyclic.Met.{met as reduction-is-acyclic}
use Rattle.relation.proofs.cell.Met.{met as relation-cell}
use Rattle.scheme.proofs.first.Met.{met as scheme-first}
use Rattle.scheme.proofs.closure.Met.{met as scheme-closure}
use Rattle.scheme.proofs.family_of.Met.{met as scheme-family-of}
use Rattle.scheme.proofs.attributes_of.Met.{met as scheme-attributes-of}
use Rattle.scheme.proofs.grow.Met.{met as scheme-grow}
use Rattle.scheme.proofs.computed.Met.{met as scheme-computed}
use Rattle.scheme.proofs.maximal_objects.Met.{met as scheme-maximal-objects}
use Rattle.book.proofs.read.Met.{met as book-read}
use Rattle.query.proofs.read.Met.{met as query-read}
use Rattle.sorted.proofs.less_row.Met.{met as sorted-less-row}
use Rattle.sorted.proofs.put.Met.{met as sorted-put}
use Rattle.sorted.proofs.seek.Met.{met as sorted-seek}
use Rattle.sorted.proofs.sort.Met.{met as Sorted-sort}
use Rattle.seen.proofs.is_there.Met.{met as seen-is-there}
use Rattle.seen.proofs.remember.Met.{met as seen-remember}
use Rattle.clauses.proofs.register.Met.{met as clauses-register}
use Rattle.clauses.proofs.constant.Met.{met as clauses-constant}
use Rattle.clauses.proofs.is_constant.Met.{met as clauses-is-constant}
use Rattle.clauses.proofs.variable_of.Met.{met as clauses-variable-of}
use Rattle.clauses.proofs.attribute_of.Met.{met as clauses-attribute-of}
use Rattle.clauses.proofs.put.Met.{met as clauses-put}
use Rattle.clauses.proofs.clause_at.Met.{met as clauses-clause-at}
use Rattle.clauses.proofs.passes.Met.{met as clauses-passes}
use Rattle.clauses.proofs.reads.Met.{met as clauses-reads}
use Rattle.clauses.proofs.equal_to.Met.{met as clauses-equal-to}
use Rattle.search.proofs.copy.Met.{met as search-copy}
use Rattle.search.proofs.take_row.Met.{met as search-take-row}
use Rattle.search.proofs.search.Met.{met as search-search}
use Rattle.terms.proofs.terms_of.Met.{met as terms-terms-of}
use Rattle.plan.proofs.columns_of.Met.{met as plan-columns-of}
use Rattle.plan.proofs.lay_level.Met.{met as plan-lay-level}
use Rattle.plan.proofs.own_of.Met.{met as plan-own-of}
use Rattle.plan.proofs.plan_object.Met.{met as plan-plan-object}
use Rattle.connection.proofs.refused.Met.{met as connection-refused}
use Rattle.choices.proofs.nothing_planned.Met.{met as choices-nothing-planned}
use Rattle.choices.proofs.choose.Met.{met as choices-choose}
use Rattle.answer.proofs.answer_asked.Met.{met as answer-answer-asked}
use Rattle.answer.proofs.answer_book.Met.{met as answer-answer-book}
use Rattle.answer.proofs.answer_bytes.Met.{met as answer-answer-bytes}
use Rattle.printout.proofs.decimal_length.Met.{met as printout-decimal-length}
use Rattle.printout.proofs.put_byte.Met.{met as printout-put-byte}
use Rattle.printout.proofs.put_decimal.Met.{met as printout-put-decimal}
use Rattle.printout.proofs.cell_length.Met.{met as printout-cell-length}
use Rattle.printout.proofs.put_cell.Met.{met as printout-put-cell}
use Rattle.printout.proofs.is_fit.Met.{met as printout-is-fit}
use Rattle.printout.proofs.print_answer.Met.{met as printout-print-answer}
use Rattle.printout.proofs.print_text.Met.{met as printout-print-text}
use Rattle.printout.proofs.print_book_refusal.Met.{met as printout-print-book-refusal}
use Rattle.printout.proofs.print_query_refusal.Met.{met as printout-print-query-refusal}
use Rattle.sheets.proofs.sheets.Met.{met as sheets-sheets}
use Rattle.sheets.proofs.sheet.Met.{met as sheets-sheet}
use Rattle.run.proofs.opening.Met.{met as run_opening}
use Rattle.run.proofs.step.Met.{met as run_step}
use Rattle.run.proofs.item_kinds.Met.{met as run-item-kinds}
use Rattle.host.proofs.vingarbu_answer.Met.{met as host-vingarbu-answer}
use Rattle.host.proofs.vingarbu_kinds.Met.{met as host-vingarbu-kinds}
use Rattle.host.proofs.vingarbu_print.Met.{met as host-vingarbu-print}
use Rattle.host.proofs.vingarbu_refusal_text.Met.{met as host-vingarbu-refusal-text}
use Rattle.host.proofs.vingarbu_sheet.Met.{met as host-vingarbu-sheet}
use Rattle.host.proofs.vingarbu_sheets.Met.{met as host-vingarbu-sheets}
-- ---- theorems
use Rattle.refusals.proofs.Numbers.{numbered_exactly}
use Rattle.sets.proofs.Theorems.{members_of_sets, equal_sets, containment, rank_and_count, lowest_member}
use Rattle.sets.proofs.Theorems.{members_listed, plain_containment}
use Rattle.values.proofs.Theorems.{missing_cells, ordered_by_value, ordered_across, matches_mean, operators_mean}
use Rattle.values.proofs.Theorems.{allowed_by_its_byte, in_range_means}
use Rattle.values.proofs.Theorems.{table_allows, rules_are_tested, built_in_table_keeps, allowed_means, turned}
use Rattle.values.proofs.Examples.{trials_hold as values-trials-hold}
use Rattle.records.proofs.Theorems.{fields_inverse, kind_then_body, reads_back, was_written, answers_mean, walk_exactly}
use Rattle.records.proofs.Examples.{examples_written, examples_read}
use Rattle.reduction.proofs.Theorems.{node_form_permits, cover_form_permits, steps_in_family, step_leaves}
use Rattle.reduction.proofs.Theorems.{kept_by_every_list, cover_order, reduces_to_nothing, kept_set_laws}
use Rattle.reduction.proofs.Examples.{examples_hold, triangle_is_cyclic, filled_triangle_is_acyclic}
use Rattle.reduction.proofs.Examples.{station_by_node_steps, station_by_cover_steps, leads_and_trips_by_steps}
use Rattle.reduction.proofs.Examples.{customers_and_banks_by_node_steps, customers_and_banks_by_cover_steps}
use Rattle.relation.proofs.Theorems.{nothing_shared, agreement_by_clauses, every_row_fact, no_other_row, join_computed}
use Rattle.relation.proofs.Theorems.{part_computed, union_of_choices, part_holds, demand3}
use Rattle.scheme.proofs.Theorems.{closure_is_least, closure_is_monotone, object_joins_by_the_rule, grown_is_least}
use Rattle.scheme.proofs.Theorems.{grown_is_the_same_in_every_order}
use Rattle.scheme.proofs.Theorems.{computed_is_the_list, removing_removes, adding_adds, both_is_a_fault}
use Rattle.scheme.proofs.Theorems.{cyclic_is_a_fault}
use Rattle.scheme.proofs.Theorems.{maximal_objects_are_the_list}
use Rattle.scheme.proofs.Examples.{trials_hold as scheme-trials-hold}
use Rattle.book.proofs.Theorems.{fault_means, read_exactly, number_means, accepted_say, row_in_bytes}
use Rattle.book.proofs.Theorems.{nine_means, scheme_well_formed, refusal_numbered}
use Rattle.book.proofs.Theorems.{maximal_objects_read, tables_of_book, maximal_objects_of_book}
use Rattle.book.proofs.Examples.{trials_hold as book-trials-hold, bounds_hold, layouts_hold}
use Rattle.relation.proofs.Examples.{trials_hold, each_may_stand, paired_agree, survey_disagrees, empty_tables_agree}
use Rattle.relation.proofs.Examples.{leads_and_no_trips_disagree, apart_disagrees, gap_agrees, gap_adds_a_row}
use Rattle.relation.proofs.Examples.{own_gap_agrees, own_gap_none_missing, own_gap_equal}
use Rattle.query.proofs.Theorems as Queries
use Rattle.query.proofs.Theorems.{records_ask, attributes_are, containing_is_the_list, accepted_fits}
use Rattle.query.proofs.Theorems.{refusal_numbered as query-refusal-numbered}
use Rattle.query.proofs.Examples.{trials_hold as query-trials-hold}
use Rattle.sorted.proofs.Theorems.{rows_ordered, determined_by_members, row_more, rows_more, rows_sorted}
use Rattle.sorted.proofs.Theorems.{ascending_by_first_columns, next_same_law}
use Rattle.sorted.proofs.Examples.{trials_hold as sorted-trials-hold}
use Rattle.clauses.proofs.Theorems.{registers_apart, reads_decide, equates_cells, clause_put}
use Rattle.search.proofs.Theorems.{combinations_fit, fill_means, live_decides}
use Rattle.search.proofs.Examples.{trials_hold as search-trials-hold, between_holds}
use Rattle.plan.proofs.Theorems.{rows_read, rows_apart}
use Rattle.connection.proofs.Theorems.{names_in_range, connection_listed, answer_listed, combinations_give, answer_fits}
use Rattle.connection.proofs.Theorems.{answer_in_range, comparison_means, condition_means}
use Rattle.connection.proofs.Theorems.{combinations_counted, combinations_listed, combinations_ordered}
use Rattle.connection.proofs.Theorems.{one_kept_set, answer_number_means, demand1, promise_e}
use Rattle.connection.proofs.Theorems.{refusal_numbered as connection-refusal-numbered}
use Rattle.connection.proofs.Examples.{outcomes_hold, rows_hold, order_holds}
use Rattle.choices.proofs.Theorems.{same_rows_either_way}
use Rattle.printout.proofs.Theorems.{in_decimal, cells_read, texts_read, fit_tested, text_printed, answer_printed_law}
use Rattle.printout.proofs.Theorems.{fit_bounds, room_enough}
use Rattle.printout.proofs.Examples.{trials_hold as printout-trials-hold}
use Rattle.sheets.proofs.Theorems.{sheet_shaped, lines_say, rows_shown, answer_shown, sheets_counted, own_rows}
use Rattle.sheets.proofs.Theorems.{fields_read, sheets_read, sheet_given}
use Rattle.sheets.proofs.Examples.{trials_hold as sheets-trials-hold}
use Rattle.run.proofs.Theorems.{answered_prints, step_inside, opening_inside, kinds_given, run_prints}
use Rattle.host.proofs.Theorems.{answer_given, bytes_given, nothing_changed, words_said}
use Rattle.host.proofs.Theorems.{sheet_reported}
use Rattle.host.proofs.Examples.{trials_hold as host-trials-hold}
use Rattle.trials.proofs.Starred.{starred_hold, runs_hold, dated_runs_hold, gap_runs_hold}
