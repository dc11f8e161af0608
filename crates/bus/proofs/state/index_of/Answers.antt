-- `index_of` is the library's `find`.
use Prim.Native.Nat.{ℕ}
use mathlib.Core.Bool.{Bool}
use mathlib.Core.Path.{refl, sym, ◌∙◌}
use native.Mathlib.Omega.{arith}
use lib.Dec.{eqb}
use lib.ListN.{get_or}
use Rattle.std.proofs.Common.{rules, tests}
use Rattle.std.proofs.lemmas.Iterator.{YieldsList-from_range}
use Rattle.std.proofs.lemmas.Iterator.Adapters.{option_map_id}
use Rattle.std.proofs.lemmas.Iterator.Search.{find_from_yields_List}
use Rattle.word.proofs.Listed.{find_range}
use Rattle.bus.specs.Bus.{index_found}
use Rattle.bus.proofs.state.index_of.Goals as goal

pub returns : goal.returns
unfolding index_found
returns c =
    let a = c.args in
    let test : ℕ → Bool = λ k. eqb (get_or a.devices.now k 0) a.device in
    let h = find_from_yields_List test _ _ c.find.result c.find.ensures.ran (YieldsList-from_range 0 a.count a.count refl (omega arith)) (λ x b q k. search (rules, tests)) in
    sym (option_map_id c.find.result) ∙ h ∙ find_range test a.count
