-- Which whole numbers count: threads, counts, references, lines and sequence numbers. They are those of dap_json.
pub use Rattle.dap_json.specs.Numbers.{max_number, is_int, int_of, number_of, seq_of, is_number, is_none_or}
