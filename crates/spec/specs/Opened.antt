-- `unfolding opened` opens every definition, for a proof by computation: the tables.
use Rattle.spec.specs.Basics.{if, each, when, or_else, among, first_of, any_of, all_of, filter}
use Rattle.spec.specs.Bytes.{byte, word, long, two, four, parts, text}
use Rattle.spec.specs.Key.{mixed, hashed, pseudo_key, first_bits, index, bit, shared, begins}
use Rattle.spec.specs.File.{page_at, entry_at, pages_in_use, find_in, look_in, put_in, is_not, without, has_index, of_index, held_from, contents}
use Rattle.spec.specs.Job.{strikes, kind_number, kind_of, table_offset, ops_offset, turns_offset, total, entry_place, page_place, record_place, op_place, turn_place, file_length}
use Rattle.spec.specs.Encode.{header_bytes, record_bytes, page_bytes, op_bytes, header_for, encode_job, encode_file}
use Rattle.spec.specs.Decode.{header_of, entry_parts, page_parts, op_parts, turn_parts, number_of, record_of, page_of, op_of, file_of, job_of}
use Rattle.spec.specs.Split.{has_bit, with_bit, digit, half, added, joined, grow, shares_index, all_share, least_shared, split_count, new_owner, changes, next_entry}
use Rattle.spec.specs.Turn.{home_of, entry_of, plan_of, new_count, goes_to, begin, changed_at, found_moment, looked_at, reread, placed, decided_at, cleared, written, verified, old_written, held_turn, entries_from, split_turn, turn}
use Rattle.spec.specs.Run.{fill, table_after, directory_after, changes_after, code_after, charge_after, page_after, moment_after, row_of, stage_of, idle, step, start, steps, run}
use Rattle.spec.specs.Result.{told_of, is_at, lines_at, lines_from, log_of, under_way, count_under, log_offset, file_offset, offset_field, file_bytes, file_left, result_of, result, page_byte, answer_bytes, line_bytes, result_header, encode_result, page_told, answer_of, line_of, answers_in, log_in, file_part, file_in, read_result}
use Rattle.spec.specs.PlainList.{turned_down, hint, plain_step, ask_line, reply_of, replay}
use Rattle.spec.specs.Check.{outside, short, wrong_version, over_limit, wrong_offset, entry_fault, wrong_entry, wrong_pattern, over_count, not_zero, not_cleared, page_fault, wrong_page, owns, owns_too, bad_owner, owner_fault, wrong_owner, not_above, bad_record, record_fault, record_fault_in, wrong_record, bad_op, op_fault, wrong_op, turn_fault, wrong_turn, result_size, small_for, small_output, numbered, first_row, job_fault, first_fault}
use Rattle.spec.specs.Outcome.{result_bytes, outcome_by, outcome, after_call, buffer_by, buffer_after, rows_by, rows_after, work_by, work_after}
use Rattle.spec.specs.Tidy.{merged, join_pages, page_under, is_pair, join_halves, left_under, pages_left, first_entry, owners_from, file_with, tidy_file, tidy_bytes, ops_present, is_deeper, wrong_depth, small_out, tidy_fault, tidy_outcome, tidy_buffer}
use Rattle.spec.specs.Deal.{is_done, all_done, round_from, round, rounds, dealt_by, dealt, dealt_bytes, turns_present, small_for_deal, deal_fault, deal_outcome, deal_buffer, deal_rows, deal_work}
use Rattle.spec.specs.SwitchLog.{logged_of, switch_log, not_whole, broken_log}
use Rattle.spec.specs.Tariff.{band_of, bands_of, hour_class, hour_of, price_at, started_units, due, charge_in, is_coded, band_for, charge_by, charge_of, insert_for, inserts, insert_bytes, broken_tariff, bad_band, band_fault, wrong_band, logged_fault, wrong_logged, small_for_inserts, tariff_fault, price_outcome, price_buffer}
use Rattle.spec.specs.Report.{digits, decimal, kind_word, code_word, job_line, op_line, op_lines, at_line, record_word, page_line, page_lines, pages_part, report, refused_line, printed_by, printed}

unfoldable pub opened : Unit {0}
unfolding if each when or_else among first_of any_of all_of filter byte word long two four parts text mixed hashed pseudo_key first_bits index bit shared begins page_at entry_at pages_in_use find_in look_in put_in is_not without has_index of_index held_from contents strikes kind_number kind_of table_offset ops_offset turns_offset total entry_place page_place record_place op_place turn_place file_length header_bytes record_bytes page_bytes op_bytes header_for encode_job encode_file header_of entry_parts page_parts op_parts turn_parts number_of record_of page_of op_of file_of job_of has_bit with_bit digit half added joined grow shares_index all_share least_shared split_count new_owner changes next_entry home_of entry_of plan_of new_count goes_to begin changed_at found_moment looked_at reread placed decided_at cleared written verified old_written held_turn entries_from split_turn turn fill table_after directory_after changes_after code_after charge_after page_after moment_after row_of stage_of idle step start steps run told_of is_at lines_at lines_from log_of under_way count_under log_offset file_offset offset_field file_bytes file_left result_of result page_byte answer_bytes line_bytes result_header encode_result page_told answer_of line_of answers_in log_in file_part file_in read_result turned_down hint plain_step ask_line reply_of replay outside short wrong_version over_limit wrong_offset entry_fault wrong_entry wrong_pattern over_count not_zero not_cleared page_fault wrong_page owns owns_too bad_owner owner_fault wrong_owner not_above bad_record record_fault record_fault_in wrong_record bad_op op_fault wrong_op turn_fault wrong_turn result_size small_for small_output numbered first_row job_fault first_fault result_bytes outcome_by outcome after_call buffer_by buffer_after rows_by rows_after work_by work_after merged join_pages page_under is_pair join_halves left_under pages_left first_entry owners_from file_with tidy_file tidy_bytes ops_present is_deeper wrong_depth small_out tidy_fault tidy_outcome tidy_buffer is_done all_done round_from round rounds dealt_by dealt dealt_bytes turns_present small_for_deal deal_fault deal_outcome deal_buffer deal_rows deal_work logged_of switch_log not_whole broken_log band_of bands_of hour_class hour_of price_at started_units due charge_in is_coded band_for charge_by charge_of insert_for inserts insert_bytes broken_tariff bad_band band_fault wrong_band logged_fault wrong_logged small_for_inserts tariff_fault price_outcome price_buffer digits decimal kind_word code_word job_line op_line op_lines at_line record_word page_line page_lines pages_part report refused_line printed_by printed
opened = tt
