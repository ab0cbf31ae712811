-- Every definition of the note, open: a statement that computes says `unfolding computing` and nothing more.
use Prim.Native.Nat.{ℕ}
use Rattle.theory.specs.Words.{bytes, word_at, put, puts, words_at}
use Rattle.theory.specs.Tests.{first}
use Rattle.theory.specs.Layout.{child_rows, rows}
use Rattle.note.specs.Answers.{given_record, given_setting, given_number, given_find, given_yield}
use Rattle.note.specs.Channels.{channels_of, numbered, called, names_channel, names_phonon, names_charge, channel_answer, code_answer}
use Rattle.note.specs.Phonon.{phonon_of, phonon_bytes, phonon_fault, phonon_rule}
use Rattle.note.specs.Charge.{charge_of, charge_bytes, charge_fault, charge_rule}
use Rattle.note.specs.Administrative.{administrative_of, administrative_bytes, is_series, is_clock, administrative_fault, administrative_rule}
use Rattle.note.specs.Trace.{trace_of, trace_bytes, count_fault, bookkeeping_rule, timebase_rule, samples_rule, trace_rule, trace_fault, sample_in}
use Rattle.note.specs.History.{width_at, width_of, end_at, section_of, history_of, section_bytes, history_bytes}
use Rattle.note.specs.History.{is_width, section_rule, history_rule, section_fault, history_fault, section_values}
use Rattle.note.specs.Gps.{are_digits, decimal, bcd, gps_of, gps_bytes, gps_fault, gps_rule}
use Rattle.note.specs.Trigger.{trigger_of, trigger_bytes, trigger_rule}
use Rattle.note.specs.Tlb.{tlb_of, tlb_bytes, is_tower, tlb_fault, tlb_rule, zip_set}
use Rattle.note.specs.Records.{kind_of, is_kind, is_placed, is_allowed, noted, behind, read_record, read_records}
use Rattle.note.specs.Events.{event_fault, event_word_rule, read_event, read_events}
use Rattle.note.specs.Files.{read_header, read_configuration, read_parts, order_of, read_file}
use Rattle.note.specs.Rows.{child_of, nodes_of, rows_of, flat, table_answer, table_buffer, yield_at}
use Rattle.note.specs.Calls.{record_found, record_at, hundredth, phonon_setting, charge_setting, setting_at}
use Rattle.note.specs.Calls.{samples_part, samples_at, sample_at, traces_in, traces_from, traces_of, first_match, find_at}
use Rattle.note.specs.Listing.{row_lines, listing, digits_of, decimal_text, line_text, lines_text, listing_text}
use Rattle.note.specs.Writers.{writer_next, writer_given, output_after, phonon_draft, charge_draft, administrative_draft}
use Rattle.note.specs.Writers.{trace_draft, history_draft, gps_draft, trigger_draft, tlb_draft}
use Rattle.note.specs.Writers.{record_next, record_output, header_next, header_output}
use Rattle.note.specs.Writers.{configuration_closed, event_closed, configuration_output, event_output}
use Rattle.note.specs.Writers.{record_again, file_rewritten, rewrite_next, rewrite_output}

unfoldable pub computing : ℕ
unfolding
    bytes word_at put puts words_at first child_rows rows
    given_record given_setting given_number given_find given_yield
    channels_of numbered called names_channel names_phonon names_charge channel_answer code_answer
    phonon_of phonon_bytes phonon_fault phonon_rule charge_of charge_bytes charge_fault charge_rule
    administrative_of administrative_bytes is_series is_clock administrative_fault administrative_rule
    trace_of trace_bytes count_fault bookkeeping_rule timebase_rule samples_rule trace_rule trace_fault sample_in
    width_at width_of end_at section_of history_of section_bytes history_bytes is_width section_rule history_rule section_fault history_fault
    section_values
    are_digits decimal bcd gps_of gps_bytes gps_fault gps_rule trigger_of trigger_bytes trigger_rule
    tlb_of tlb_bytes is_tower tlb_fault tlb_rule zip_set
    kind_of is_kind is_placed is_allowed noted behind read_record read_records
    event_fault event_word_rule read_event read_events read_header read_configuration read_parts order_of read_file
    child_of nodes_of rows_of flat table_answer table_buffer yield_at
    record_found record_at hundredth phonon_setting charge_setting setting_at samples_part samples_at sample_at traces_in traces_from traces_of
    first_match find_at
    row_lines listing digits_of decimal_text line_text lines_text listing_text
    writer_next writer_given output_after phonon_draft charge_draft administrative_draft trace_draft history_draft gps_draft trigger_draft tlb_draft
    record_next record_output header_next header_output configuration_closed event_closed configuration_output event_output
    record_again file_rewritten rewrite_next rewrite_output
computing = 0
