-- A BAR's state: addresses stay below 4 GiB (the Rust's debug_assert), the plan stays, and what a write and a read of a whole register give.
use Rattle.std.specs.Prelude.{Some, None}
use Prim.Native.Nat.{ℕ, ◌%◌, ◌<◌}
use mathlib.Core.Bool.{Bool, true, false}
use mathlib.Core.Path.{◌≡◌, refl, ap, ◌∙◌}
use native.Mathlib.Omega.{arith}
use Rattle.word.specs.Number.{merge}
use Rattle.word.proofs.Merges.{merge_lt, merge_whole}
use Rattle.bar.specs.Range.{four_gib}
use Rattle.bar.specs.Register.{size_mask, candidate, committed, starts_probe, Address}
use Rattle.bar.specs.Bounded.{Bounded}
use Rattle.bar.specs.State.{fresh, reset_of, shown, asks, probed, relocated}
use Rattle.bar.specs.declared.bar_state.Plan.{Plan}
use Rattle.bar.specs.declared.bar_state.BarState.{BarState}
use Rattle.bar.specs.declared.bar_state.BarWrite.TheVariants as bar_write
use Rattle.bar.proofs.Registers.{candidate_address, address_lt, address_candidate, committed_lt, mask_lt, class_is, class_probe, class_relocate, all_ones_probe}

pub fresh_bounded : (p : Plan) → p.address < four_gib → Bounded (fresh p)
fresh_bounded p h = record { now = h; placed = h }

pub probed_bounded : (b : BarState) → Bounded b → Bounded (probed b)
probed_bounded b h = record { now = h.now; placed = h.placed }

pub kept_bounded : (b : BarState) → Bounded b → Bounded (relocated b None)
kept_bounded b h = record { now = h.now; placed = h.placed }

pub accepted_bounded : (b : BarState) (a : ℕ) → a < four_gib → Bounded b → Bounded (relocated b (Some a))
accepted_bounded b a l h = record { now = l; placed = h.placed }

pub reset_bounded : (b : BarState) → Bounded b → Bounded (reset_of b)
reset_bounded b h = record { now = h.placed; placed = h.placed }

-- what a write asks, by its merged dword
pub asks_probe : (b : BarState) (lane width value d : ℕ) → d ≡ merge (committed b.address) lane width value → starts_probe d ≡ true → asks b lane width value ≡ bar_write.Probe
unfolding asks
asks_probe b lane width value d e t = rw (← e) (class_probe d t)

pub asks_relocate : (b : BarState) (lane width value d : ℕ) → d ≡ merge (committed b.address) lane width value → starts_probe d ≡ false → asks b lane width value ≡ bar_write.Relocate (candidate d)
unfolding asks
asks_relocate b lane width value d e t = rw (← e) (class_relocate d t)

-- a candidate is an address
pub asked_address : (b : BarState) (lane width value a : ℕ) → asks b lane width value ≡ bar_write.Relocate a → Address a
unfolding asks
asked_address b lane width value a e =
    let d = merge (committed b.address) lane width value in
    rw (class_is d a e) (candidate_address d (merge_lt (committed b.address) lane width value))

-- a whole register of ones probes; a whole register with an address asks for it
pub ones_probe : (b : BarState) → asks b 0 4 0xffffffff ≡ bar_write.Probe
unfolding asks
ones_probe b = rw (merge_whole (committed b.address) 0xffffffff) (class_probe 0xffffffff all_ones_probe)

pub address_relocates : (b : BarState) (a : ℕ) → Address a → asks b 0 4 a ≡ bar_write.Relocate a
unfolding asks
address_relocates b a h =
    let e : a % four_gib ≡ a = omega (arith, address_lt a h) in
    rw (merge_whole (committed b.address) a, e) (class_relocate a h.quiet ∙ ap bar_write.Relocate (address_candidate a h))

-- what the register reads while probing, and else
pub shown_probing : (b : BarState) → b.probing ≡ true → shown b ≡ size_mask b.plan.size
unfolding shown
shown_probing b e = rw e

pub shown_committed : (b : BarState) → b.probing ≡ false → shown b ≡ committed b.address
unfolding shown
shown_committed b e = rw e

by_probing : (t : Bool) (b : BarState) → b.probing ≡ t → 0 < b.plan.size → shown b < four_gib
by_probing true b e h = rw (shown_probing b e) (mask_lt b.plan.size h)
by_probing false b e h = rw (shown_committed b e) (committed_lt b.address)

-- the register of a BAR is a dword
pub shown_lt : (b : BarState) → 0 < b.plan.size → shown b < four_gib
shown_lt b h = by_probing b.probing b refl h
