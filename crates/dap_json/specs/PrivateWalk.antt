-- The code's words, as its walk over a value meets elements and members one by one.
-- Only private clauses and proofs cite this file: `Writable` says what the walk tells.
use Rattle.std.specs.Prelude.{ℕ, ◌&&◌, Bool, true}
use Rattle.serde_json.specs.Data.{Items, no_items, item, Members, no_members, member}
use Rattle.dap_json.specs.Writable.{is_writable}

abbrev pub items_writable : ℕ → Items → Bool
items_writable n no_items = true
items_writable n (item d ds) = is_writable n d && items_writable n ds

abbrev pub members_writable : ℕ → Members → Bool
members_writable n no_members = true
members_writable n (member k d ms) = is_writable n d && members_writable n ms
