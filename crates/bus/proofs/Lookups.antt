-- Memory lookup, by the first BAR that holds the access.
use Prim.Native.Nat.{ℕ, ◌/◌, ◌<◌, ◌≤◌, ◌+◌}
use mathlib.Core.Bool.{true, false, ◌&&◌}
use mathlib.Core.Path.{◌≡◌, ap}
use borrow.Author.Tests.{leb-true}
use lib.Dec.{leb}
use lib.ListN.{get_or}
use Rattle.word.specs.Width.{width_ok}
use Rattle.word.proofs.Tests.{and_left, and_right}
use Rattle.word.proofs.Searches.{First, first_is, first_none}
use Rattle.word.proofs.Tables.{get_or_table}
use native.Mathlib.Omega.{arith}
use Rattle.address.specs.Layout.{bar_count}
use Rattle.address.specs.Limits.{function_room}
use Rattle.bar.specs.Range.{end_of}
use Rattle.bar.specs.declared.range.Range.{Range}
use Rattle.placement.specs.Keys.{key_count}
use Rattle.bus.specs.Bus.{function_at, range_on, ranges_on}
use Rattle.bus.specs.Lookup.{most_lookup, decodes, decoding_on, lies_within, holds_at, hit_at, lookup_of}
use Rattle.bus.specs.declared.state.Bus.{Bus}
use Rattle.bus.proofs.Committed.{range_listed}
use Rattle.std.proofs.Common.{None, Ok, Err}
use Rattle.refusal.specs.declared.refusal.Refusal.TheVariants.{BadAccess}

module _ (b : Bus) (a w : ℕ) where
  pub lookup_width : width_ok most_lookup w ≡ false → lookup_of b a w ≡ Err BadAccess
  unfolding lookup_of
  lookup_width e = rw e

  pub lookup_hit : (key : ℕ) → width_ok most_lookup w ≡ true → First (holds_at b a w) key_count key → lookup_of b a w ≡ Ok (hit_at b a key)
  unfolding lookup_of
  lookup_hit key e f = rw e (ap Ok (first_is (hit_at b a) None (holds_at b a w) key_count key f))

  pub lookup_miss : width_ok most_lookup w ≡ true → ((k : ℕ) → k < key_count → holds_at b a w k ≡ false) → lookup_of b a w ≡ Ok None
  unfolding lookup_of
  lookup_miss e h = rw e (ap Ok (first_none (hit_at b a) None (holds_at b a w) key_count h))

  -- asked of the lists
  pub holds_listed : (key : ℕ) (d : Range) → key < key_count → (get_or (decoding_on b) (key / bar_count) false && lies_within (get_or (ranges_on b) key d) a w) ≡ holds_at b a w key
  unfolding decoding_on holds_at
  holds_listed key d h = rw (get_or_table function_room (λ k. decodes (function_at b k)) (key / bar_count) false (omega arith), range_listed b key d h)

  -- an access that is held: its function decodes, and it starts and ends in the range
  module _ (key : ℕ) (e : holds_at b a w key ≡ true) where
    pub holds_decodes : decodes (function_at b (key / bar_count)) ≡ true
    unfolding holds_at
    holds_decodes = and_left (decodes (function_at b (key / bar_count))) (lies_within (range_on b key) a w) e

    lies : lies_within (range_on b key) a w ≡ true
    unfolding holds_at
    lies = and_right (decodes (function_at b (key / bar_count))) (lies_within (range_on b key) a w) e

    pub holds_from : (range_on b key).start ≤ a
    holds_from = leb-true (range_on b key).start a (and_left (leb (range_on b key).start a) (leb (a + w) (end_of (range_on b key))) lies)

    pub holds_to : a + w ≤ end_of (range_on b key)
    holds_to = leb-true (a + w) (end_of (range_on b key)) (and_right (leb (range_on b key).start a) (leb (a + w) (end_of (range_on b key))) lies)
