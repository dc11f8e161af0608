-- A BAR's register as a dword (document 01, "Access and reset").
use Rattle.std.specs.Prelude.{ℕ, ◌-◌, ◌*◌, ◌/◌, ◌%◌, ◌^◌, Bool, false, cond, ◌≡◌, eqb}
use Rattle.bar.specs.Range.{four_gib}
use Rattle.bar.specs.declared.bar_state.BarWrite.{BarWrite}
use Rattle.bar.specs.declared.bar_state.BarWrite.TheVariants as bar_write

-- "the size mask: 2^32 minus size"
unfoldable pub size_mask : ℕ → ℕ
size_mask size = four_gib - size

-- an address is a multiple of this: the low four bits of a register are not part of it
abbrev pub address_unit : ℕ
address_unit = 2 ^ 4

-- "the result with low four bits cleared"
unfoldable pub candidate : ℕ → ℕ
candidate dword = dword / address_unit * address_unit

-- "the committed address with low four bits zero"
unfoldable pub committed : ℕ → ℕ
committed address = candidate (address % four_gib)

-- the dword that starts a probe
unfoldable pub starts_probe : ℕ → Bool
starts_probe dword = eqb dword 0xffffffff

-- what a merged dword asks for
unfoldable pub class_of : ℕ → BarWrite
class_of dword = cond (starts_probe dword) bar_write.Probe (bar_write.Relocate (candidate dword))

-- an address that a register shows as it is, and that is taken as an address where it is written back
pub record Address (a : ℕ) : Type 0 where
  pub shows : committed a ≡ a
  pub quiet : starts_probe a ≡ false
