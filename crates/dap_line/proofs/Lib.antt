mod AddsLemmas
pub mod GatheredLemmas
pub mod SaidLemmas
