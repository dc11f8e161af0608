-- The list: the chain of next bytes goes through the declared capabilities in order, and their limit never cuts it.
use Prim.Native.Nat.{ℕ, zero, suc, ◌+◌, ◌-◌, ◌<◌, ◌≤◌}
use mathlib.Core.List.{List, [], ◌∷◌}
use mathlib.Core.Logic.{⊎_elim}
use mathlib.Core.Path.{◌≡◌, sym, ap, ◌∙◌}
use native.Mathlib.Omega.{arith}
use borrow.Author.Tests.{eq-eqb, ne_eqb}
use Rattle.word.specs.Table.{table}
use Rattle.word.proofs.Tables.{table_ext}
use Rattle.word.proofs.Tests.{below_or_not}
use Rattle.address.specs.Limits.{capability_room}
use Rattle.capability.specs.Declaration.{count_of, declared_capability, length_at}
use Rattle.capability.specs.Layout.{placed_of}
use Rattle.capability.specs.Offset.{offset_at}
use Rattle.capability.specs.Owner.{capability_count, start_of}
use Rattle.capability.specs.declared.placed.Placed.{Placed}
use Rattle.capability.specs.declared.placed.PlacedCapability.{PlacedCapability}
use Rattle.capability.proofs.Laids.{placed_many, placed_at, placed_start_lem}
use Rattle.config.specs.declared.function.Function.{Function}
use Rattle.config.proofs.Layings.{start_past, starts_from}
use Rattle.declaration.specs.declared.answer.Declaration.{Declaration}
use Rattle.bus.specs.Sound.{Sound}
use Rattle.bus.specs.Start.{declared_function}
use Rattle.bus.specs.declared.state.Bus.{Bus}
use Rattle.bus.proofs.SoundParts.{sound_admitted}
use Rattle.enumeration.specs.Enumerate.{asked, list_from, list_read}
use Rattle.enumeration.specs.Truth.{declared_listed, declared_list}
use Rattle.enumeration.specs.declared.report.Listed.{Listed}
use Rattle.enumeration.proofs.ListPlaces.{status_asked, pointer_asked, head_given, id_asked, next_asked}

module _ (d : Declaration) (b : Bus) (s : Sound d b) (k : ℕ) (h : k < d.count) where
  abbrev its : Function
  its = declared_function d k

  abbrev device : ℕ
  device = its.device

  abbrev many : ℕ
  many = its.capabilities.count

  abbrev laid : Placed
  laid = placed_of its.capabilities

  few : many ≤ capability_room
  few = (s.good.functions.each k).capabilities.sound.few

  counted : count_of its.capabilities ≡ many
  counted = omega (arith, few)

  placed_counted : capability_count laid ≡ many
  placed_counted = placed_many its.capabilities ∙ counted

  -- what the two bytes of a capability are: its declared id, and the next one's start
  module _ (i : ℕ) (l : i < many) where
    held : i < capability_count laid
    held = omega (arith, placed_counted)

    start_declared_lem : start_of laid i ≡ offset_at (length_at its.capabilities) i
    start_declared_lem = placed_start_lem its.capabilities i (omega (arith, counted))

    id_declared : asked b device (start_of laid i) 1 ≡ (declared_capability its.capabilities i).id
    id_declared =
        let e = ap (λ (c : PlacedCapability). c.id) (placed_at its.capabilities i (omega (arith, counted))) in
        id_asked d b s k h i held ∙ omega (arith, e, (s.good.functions.each k).capabilities.ids i)

    start_there : start_of laid i ≡ 0 → ⊥
    start_there e = omega (arith, starts_from laid (sound_admitted d b s k h).laid i held)

    listed : record { offset = start_of laid i; id = asked b device (start_of laid i) 1 } ≡ declared_listed its i
    listed = rw (id_declared, start_declared_lem)

  -- the declared ones from one on: that one, then those from the next on
  listed_none : (i : ℕ) → many ≤ i → table (many - i) (λ j. declared_listed its (i + j)) ≡ []
  unfolding table
  listed_none i l = let z : many - i ≡ 0 = omega arith in rw z

  listed_more : (i : ℕ) → i < many → table (many - i) (λ j. declared_listed its (i + j)) ≡ declared_listed its i ∷ table (many - (i + 1)) (λ j. declared_listed its (i + 1 + j))
  unfolding table
  listed_more i l =
      let z : many - i ≡ suc (many - (i + 1)) = omega arith in
      let y : i + 0 ≡ i = omega arith in
      rw (z, y) (ap (λ (t : List Listed). declared_listed its i ∷ t) (table_ext (many - (i + 1)) (λ j. declared_listed its (i + suc j)) (λ j. declared_listed its (i + 1 + j)) (λ j m. ap (declared_listed its) (omega arith))))

  -- from a capability on, with room for what is left; past the last the pointer is 0
  chain : (n i : ℕ) → i ≤ many → many - i ≤ n → list_from b device n (start_of laid i) ≡ table (many - i) (λ j. declared_listed its (i + j))
  unfolding list_from
  chain zero i l m = sym (listed_none i (omega arith))
  chain (suc n) i l m =
      ⊎_elim (λ (q : i < many).
      rw (ne_eqb (start_of laid i) 0 (start_there i q), head_given d b s k h i (held i q) (start_of laid i) (omega arith) (omega arith), head_given d b s k h i (held i q) (start_of laid i + 1) (omega arith) (omega arith), next_asked d b s k h i (held i q), chain n (i + 1) (omega arith) (omega arith), listed i q)
      (sym (listed_more i q)))
      (λ (q : many ≤ i). rw (start_past laid i (omega (arith, placed_counted))) (sym (listed_none i q)))
      (below_or_not i many)

  from_first : table (many - 0) (λ j. declared_listed its (0 + j)) ≡ declared_list its
  from_first =
      let z : many - 0 ≡ many = omega arith in
      rw z (table_ext many (λ j. declared_listed its (0 + j)) (declared_listed its) (λ j m. ap (declared_listed its) (omega arith)))

  pub list_truth : list_read b device ≡ declared_list its
  unfolding list_read
  list_truth =
      ⊎_elim (λ (q : 0 < many). rw (status_asked d b s k h, ne_eqb (capability_count laid) 0 (λ e. omega (arith, placed_counted)), pointer_asked d b s k h) (chain capability_room 0 (omega arith) (omega (arith, few)) ∙ from_first))
      (λ (q : many ≤ 0). rw (status_asked d b s k h, eq-eqb (capability_count laid) 0 (omega (arith, placed_counted))) (sym (listed_none 0 q) ∙ from_first))
      (below_or_not 0 many)
