-- Where an access by device goes: to the function of a declared device, or to none.
use Prim.Native.Nat.{ℕ, ◌<◌, ◌≤◌}
use mathlib.Core.Bool.{Bool, true, false}
use mathlib.Core.List.{List, []}
use lib.Dec.{eqb}
use Rattle.std.proofs.Common.{Some, None}
use Rattle.word.proofs.Searches.{found_first, none_never, least_at, least_none}
use mathlib.Core.Path.{◌≡◌, sym, ◌∙◌}
use native.Mathlib.Omega.{arith}
use borrow.Author.Tests.{lt-ltb, le-ltb}
use lib.ListN.{length, get_or}
use lib.Seq.{set-get_or}
use Rattle.word.proofs.Tables.{get_or_inside}
use Rattle.address.specs.Layout.{config_space_size}
use Rattle.address.specs.Check.{access_of}
use Rattle.address.specs.Limits.{function_room}
use Rattle.config.specs.declared.state.FunctionState.{FunctionState}
use Rattle.config.specs.Read.{read_of}
use Rattle.bus.specs.Bus.{count_on, no_function_state, function_at, index_in, index_found, index_on, declared_on, with_function}
use Rattle.bus.specs.Access.{absent_read, bus_read_of, absent_write, written_on, bus_write_of}
use Rattle.bus.specs.declared.state.Bus.{Bus}

-- what the language says stands past the end of an array; no code reads there
abbrev pub unread : FunctionState
unread = record { live = []; power_on = []; mask = []; bars = []; placed = record { capabilities = []; count = 0; effects = []; effect_count = 0 }; revision = 0 }

-- an element of the array is the function there
pub function_there : (b : Bus) (k : ℕ) → length b.functions ≡ function_room → k < function_room → get_or b.functions k unread ≡ function_at b k
function_there b k l h = get_or_inside b.functions k unread no_function_state (rw l h)

-- a function put back as it was leaves the bus as it was
pub put_back : (b : Bus) (k : ℕ) → with_function b k (function_at b k) ≡ b
put_back b k = rw (set-get_or b.functions k no_function_state)

-- a device that is found is at its index; one that is not has none
module _ (devices : List ℕ) (n d : ℕ) where
  abbrev is : ℕ → Bool
  is k = eqb (get_or devices k 0) d

  pub found_at : (k : ℕ) → index_found devices n d ≡ Some k → (k ≡ index_in devices n d) × (k < n)
  unfolding index_found index_in
  found_at k e =
      let f = found_first Some None (λ a b q. cc) (λ a q. cc) is n k e in
      (sym (least_at is n k f.below f.here f.before), f.below)

  pub found_none : index_found devices n d ≡ None → index_in devices n d ≡ n
  unfolding index_found index_in
  found_none e = least_none is n (none_never Some None (λ a b q. cc) (λ a q. cc) is n e)

module _ (b : Bus) (d o w : ℕ) where
  pub read_declared : index_on b d < count_on b → bus_read_of b d o w ≡ read_of (function_at b (index_on b d)) o w
  unfolding bus_read_of
  read_declared h = rw (lt-ltb (index_on b d) (count_on b) h)

  pub read_absent : count_on b ≤ index_on b d → bus_read_of b d o w ≡ absent_read (access_of config_space_size o w)
  unfolding bus_read_of
  read_absent h = rw (le-ltb (index_on b d) (count_on b) h)

  pub write_declared : (v : ℕ) → index_on b d < count_on b → bus_write_of b d o w v ≡ written_on b (index_on b d) o w v
  unfolding bus_write_of
  write_declared v h = rw (lt-ltb (index_on b d) (count_on b) h)

  pub write_absent : (v : ℕ) → count_on b ≤ index_on b d → bus_write_of b d o w v ≡ absent_write b (access_of config_space_size o w)
  unfolding bus_write_of
  write_absent v h = rw (le-ltb (index_on b d) (count_on b) h)

-- the same for a count that code has computed and the device that it found
module _ (b : Bus) (d n : ℕ) (counted : n ≡ count_on b) where
  module _ (k : ℕ) (found : index_found b.devices n d ≡ Some k) where
    pub found_index : k ≡ index_on b d
    found_index = (found_at b.devices n d k found).0 ∙ rw counted

    pub found_below : k < count_on b
    found_below = rw (← counted) (found_at b.devices n d k found).1

    pub found_declared : declared_on b d ≡ true
    found_declared = lt-ltb (index_on b d) (count_on b) (rw found_index at found_below)

    pub read_at_lem : (o w : ℕ) → read_of (function_at b k) o w ≡ bus_read_of b d o w
    read_at_lem o w = rw found_index (sym (read_declared b d o w (rw found_index at found_below)))

    pub write_at_lem : (o w v : ℕ) → written_on b k o w v ≡ bus_write_of b d o w v
    write_at_lem o w v = rw found_index (sym (write_declared b d o w v (rw found_index at found_below)))

  module _ (missed : index_found b.devices n d ≡ None) where
    pub missed_past : count_on b ≤ index_on b d
    missed_past = let e : index_in b.devices n d ≡ n = found_none b.devices n d missed in omega (arith, rw counted at e)

    pub missed_declared : declared_on b d ≡ false
    missed_declared = le-ltb (index_on b d) (count_on b) missed_past

    pub read_past : (o w : ℕ) → absent_read (access_of config_space_size o w) ≡ bus_read_of b d o w
    read_past o w = sym (read_absent b d o w missed_past)

    pub write_past : (o w v : ℕ) → absent_write b (access_of config_space_size o w) ≡ bus_write_of b d o w v
    write_past o w v = sym (write_absent b d o w v missed_past)
