-- `list_from` at n has listed the first n of the whole, and what its pointer leads to is the rest.
use Prim.Native.Nat.{ℕ}
use mathlib.Core.List.{List}
use mathlib.Core.Path.{◌≡◌}
use lib.ListN.{get_or}
use Rattle.word.specs.Table.{filled}
use Rattle.address.specs.Limits.{capability_room}
use Rattle.bus.specs.declared.state.Bus.{Bus}
use Rattle.enumeration.specs.Enumerate.{list_from, no_listed}
use Rattle.enumeration.specs.declared.report.Listed.{Listed}
use Rattle.enumeration.proofs.Lists.{Followed}
use Rattle.enumeration.proofs.capability_list.list_from.Given as goal

-- the whole list, by index
abbrev pub listed_in : Bus → ℕ → ℕ → ℕ → Listed
listed_in b d start k = get_or (list_from b d capability_room start) k no_listed

abbrev pub listed_up_to : Bus → ℕ → ℕ → ℕ → List Listed
listed_up_to b d start n = filled capability_room n (listed_in b d start) no_listed

abbrev pub invariant-loop-n : goal.invariant-loop-n
invariant-loop-n l = (l.list ≡ listed_up_to l.bus l.device l.pointer l.n) × Followed l.bus l.device capability_room l.pointer l.n l.at
